-- From turn to turn: what was read so far continues to a reading of the whole text.
use Rattle.std.proofs.Common.{◌≡◌, ℕ, ◌<◌, ◌≤◌, List, [], ◌∷◌, ◌++◌, map, length, Option, sym, refl, ap, ◌∙◌, subst, arith}
use Rattle.std.specs.List.{flat_map}
use Rattle.std.proofs.lemmas.List.{append-nil, append_assoc}
use Rattle.faults.specs.declared.Fault.{Fault}
use Rattle.text.specs.Content.{saying}
use Rattle.text.specs.Reading.{left, handed, longest}
use Rattle.text.specs.declared.reader.Reader.{Reader}
use Rattle.table.specs.Tables.{standing, capacity}
use Rattle.sheet.specs.declared.sheets.Sheet.{Sheet}
use Rattle.lot_calls.specs.Lots.{items, room}
use Rattle.lot_calls.specs.declared.lots.Lot.{Lot}
use Rattle.intake.specs.Intake.{State, Holds}
use Rattle.lines.specs.Lines.{spelled}
use Rattle.lines.specs.declared.forms.Line.{Line}
use Rattle.report.specs.Reading.{ReadsOn, goes_on, Reads, too_long, from_start}
use Rattle.report.specs.Output.{line_for, listed, closing, Gives, no_more, one_more}
use Rattle.report.specs.Turns.{Rest, rest_too_long, rest_reads, Turned, Finished, Through}

-- a sheet and a lot hold what stands in them
pub holds_itself : (sheet : Sheet) (lot : Lot)
    → Holds sheet lot (record { sheet_places = capacity sheet.table; requirements = standing sheet.table; lot_places = room lot; entries = items lot })
holds_itself sheet lot =
    record { sheet_room = refl; sheet_count = refl; found = λ c h. refl; lot_room = refl; lot_count = refl; numbered = λ k. refl; rows = λ c. refl }

-- what was done from the state `start`, where the output held `old`
pub record SoFar (text : List ℕ) (start : State) (old : List ℕ) (r : Reader) (sheet : Sheet) (lot : Lot) (new : List ℕ) : Type 0 where
  pub state : State
  pub holds : Holds sheet lot state
  pub lines : List Line
  pub written : new ≡ old ++ flat_map spelled lines
  -- each way in which the rest reads makes one for the whole, and the lines of the rest come after those so far
  pub whole : (rs : List (List (List ℕ))) (end : Option Fault) → Rest r rs end → List (List (List ℕ))
  pub reads : (rs : List (List (List ℕ))) (end : Option Fault) (rest : Rest r rs end) → Reads text (whole rs end rest) end
  pub gives : (rs : List (List (List ℕ))) (end : Option Fault) (rest : Rest r rs end) (ls : List Line) (s : State) → Gives (handed r) rs state ls s → Gives 0 (whole rs end rest) start (lines ++ ls) s

pub joined_more : (xs ys : List Line) → flat_map spelled (xs ++ ys) ≡ flat_map spelled xs ++ flat_map spelled ys
joined_more [] ys = refl
joined_more (x ∷ xs) ys = ap (λ bs. spelled x ++ bs) (joined_more xs ys) ∙ sym (append_assoc (spelled x) (flat_map spelled xs) (flat_map spelled ys))

module _ (text : List ℕ) (start : State) (old : List ℕ) where
  -- at the start everything is left
  begins : {rs : List (List (List ℕ))} {end : Option Fault} (r : Reader) → left r ≡ text → handed r ≡ 0 → Rest r rs end → Reads text rs end
  begins r is none (rest_too_long h) = too_long (subst (λ (bs : List ℕ). longest < length bs) is h)
  begins {rs} {end} r is none (rest_reads h reads) =
      from_start (subst (λ (bs : List ℕ). length bs ≤ longest) is h) (subst (λ (bs : List ℕ). ReadsOn 0 bs rs end) is (subst (λ (n : ℕ). ReadsOn n (left r) rs end) none reads))

  pub at_start : (r : Reader) (sheet : Sheet) (lot : Lot) → left r ≡ text → handed r ≡ 0 → Holds sheet lot start → SoFar text start old r sheet lot old
  at_start r sheet lot is none holds =
      record {
        state = start;
        holds = holds;
        lines = [];
        written = sym (append-nil old);
        whole = λ rs end rest. rs;
        reads = λ rs end rest. begins r is none rest;
        gives = λ rs end rest ls s g. subst (λ (n : ℕ). Gives n rs start ls s) none g;
      }

  -- a record before what is left
  before : {rs : List (List (List ℕ))} {end : Option Fault} (r r' : Reader) (s : State) (sheet : Sheet) (lot : Lot) (was new : List ℕ) (t : Turned r r' s sheet lot was new) → Rest r' rs end
      → Rest r (map saying t.fields ∷ rs) end
  before r r' s sheet lot was new t (rest_too_long h) = absurd (omega (arith, h, t.short, t.shorter))
  before {rs} {end} r r' s sheet lot was new t (rest_reads h reads) =
      rest_reads t.short (goes_on t.fields t.first (subst (λ (n : ℕ). ReadsOn n (left r') rs end) t.on reads))

  pub one_turn : (r r' : Reader) (sheet sheet' : Sheet) (lot lot' : Lot) (was new : List ℕ) (d : SoFar text start old r sheet lot was) → Turned r r' d.state sheet' lot' was new → SoFar text start old r' sheet' lot' new
  one_turn r r' sheet sheet' lot lot' was new d t =
      let more = listed (line_for t.answer) in
      record {
        state = t.after;
        holds = t.holds;
        lines = d.lines ++ more;
        written = t.written ∙ ap (λ xs. xs ++ flat_map spelled more) d.written ∙ append_assoc old (flat_map spelled d.lines) (flat_map spelled more) ∙ ap (λ xs. old ++ xs) (sym (joined_more d.lines more));
        whole = λ rs end rest. d.whole (map saying t.fields ∷ rs) end (before r r' d.state sheet' lot' was new t rest);
        reads = λ rs end rest. d.reads (map saying t.fields ∷ rs) end (before r r' d.state sheet' lot' was new t rest);
        gives = λ rs end rest ls s g.
            let step = one_more t.answer t.taking (subst (λ (n : ℕ). Gives n rs t.after ls s) t.on g) in
            let whole = before r r' d.state sheet' lot' was new t rest in
            subst (λ (xs : List Line). Gives 0 (d.whole (map saying t.fields ∷ rs) end whole) start xs s) (sym (append_assoc d.lines more ls))
            (d.gives (map saying t.fields ∷ rs) end whole (more ++ ls) s step);
      }

  pub all_turns : (r : Reader) (sheet sheet' : Sheet) (lot lot' : Lot) (was new : List ℕ) (d : SoFar text start old r sheet lot was) → Finished r d.state sheet' lot' was new → Through text start sheet' lot' old new
  all_turns r sheet sheet' lot lot' was new d f =
      record {
        records = d.whole [] f.end f.rest;
        end = f.end;
        reads = d.reads [] f.end f.rest;
        lines = d.lines;
        after = d.state;
        gives = subst (λ (xs : List Line). Gives 0 (d.whole [] f.end f.rest) start xs d.state) (append-nil d.lines) (d.gives [] f.end f.rest [] d.state no_more);
        holds = f.holds;
        written = f.written ∙ ap (λ xs. xs ++ flat_map spelled (closing f.end)) d.written ∙ append_assoc old (flat_map spelled d.lines) (flat_map spelled (closing f.end)) ∙ ap (λ xs. old ++ xs) (sym (joined_more d.lines (closing f.end)));
      }
