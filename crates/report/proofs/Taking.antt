-- What one turn does, by what the reader hands out and what the record does.
use Rattle.std.proofs.Common.{◌≡◌, ℕ, ◌+◌, min, List, [], ◌∷◌, ◌++◌, map, length, take, Some, None, Result, sym, refl, ap, ◌∙◌, subst, arith}
use Rattle.std.specs.List.{flat_map}
use Rattle.std.proofs.lemmas.List.{append-nil}
use Rattle.faults.specs.declared.Fault.{Fault}
use Rattle.fields.specs.Answers.{said}
use Rattle.text.specs.Content.{saying}
use Rattle.text.specs.Fronts.{forms}
use Rattle.text.specs.Reading.{left, handed, Hands, Refuses, too_long, broken}
use Rattle.text.specs.declared.field.Placed.{Placed}
use Rattle.text.specs.declared.reader.Reader.{Reader}
use Rattle.text.specs.declared.reader.methods.Record.{Record}
use Rattle.records.specs.Cells.{cells}
use Rattle.records.specs.Entries.{Meaning, answer_of, meaning}
use Rattle.sheet.specs.declared.sheets.Sheet.{Sheet}
use Rattle.lot_calls.specs.declared.lots.Lot.{Lot}
use Rattle.intake.specs.Intake.{State, Taking, Holds, TakesIn}
use Rattle.intake.specs.declared.Taken.{Taken}
use Rattle.lines.specs.Lines.{spelled}
use Rattle.lines.specs.declared.forms.Line.TheVariants.{Refused}
use Rattle.report.specs.Reading.{ReadsOn, at_end, breaks_off}
use Rattle.report.specs.Output.{line_for, listed}
use Rattle.report.specs.Turns.{Rest, rest_too_long, rest_reads, Turned, Finished}
use Rattle.report.proofs.Columns.{meant_by_list}

-- nothing is left
pub nothing_left : (r : Reader) (s : State) (sheet : Sheet) (lot : Lot) (out : List ℕ) → left r ≡ [] → Holds sheet lot s → Finished r s sheet lot out out
nothing_left r s sheet lot out none holds =
    record {
      end = None;
      rest = rest_reads (omega (arith, ap length none)) (subst (λ (bs : List ℕ). ReadsOn (handed r) bs [] None) (sym none) at_end);
      holds = holds;
      written = sym (append-nil out);
    }

-- the text is refused
rest_refused : (r : Reader) (f : Fault) → Refuses r f → Rest r [] (Some f)
rest_refused r f (too_long h is) = subst (λ (x : Fault). Rest r [] (Some x)) (sym is) (rest_too_long h)
rest_refused r f (broken h number b) =
    let placed : record { refusal = f.refusal; «record» = handed r + 1; field = f.field } ≡ f = λ i. record { refusal = f.refusal; «record» = sym number i; field = f.field } in
    subst (λ (x : Fault). Rest r [] (Some x)) placed (rest_reads h (breaks_off f.refusal f.field b))

pub text_refused : (r : Reader) (s : State) (sheet : Sheet) (lot : Lot) (old new : List ℕ) (f : Fault) → Refuses r f → new ≡ old ++ spelled (Refused f) → Holds sheet lot s → Finished r s sheet lot old new
text_refused r s sheet lot old new f refuses is holds =
    record { end = Some f; rest = rest_refused r f refuses; holds = holds; written = is ∙ ap (λ bs. old ++ bs) (sym (append-nil (spelled (Refused f)))) }

-- what a list of fields says, by their forms
said_forms : (ps : List Placed) → map said ps ≡ map saying (forms ps)
said_forms [] = refl
said_forms (p ∷ ps) = ap (λ ws. said p ∷ ws) (said_forms ps)

-- a record was handed out and taken in
module _ (r r' : Reader) (old new : List Placed) (rec : Record) (ten : length old ≡ 10) (hands : Hands r r' old new rec) where
  meant : answer_of rec.number (cells (take (min rec.count 10) new)) ≡ meaning (handed r + 1) (map saying (forms hands.ps))
  meant =
      ap (λ n. answer_of n (cells (take (min rec.count 10) new))) hands.number_is
      ∙ ap (λ k. answer_of (handed r + 1) (cells (take (min k 10) new))) hands.count_is
      ∙ ap (λ xs. answer_of (handed r + 1) (cells (take (min (length hands.ps) 10) xs))) hands.written
      ∙ meant_by_list (handed r + 1) hands.ps old ten hands.numbered
      ∙ ap (meaning (handed r + 1)) (said_forms hands.ps)

  pub record_taken : (sheet sheet' : Sheet) (lot lot' : Lot) (answer : Result Taken Fault) (was now : List ℕ) (s : State)
      → TakesIn rec.number (answer_of rec.number (cells (take (min rec.count 10) new))) answer sheet lot sheet' lot'
      → now ≡ was ++ flat_map spelled (listed (line_for answer)) → Holds sheet lot s → Turned r r' s sheet' lot' was now
  record_taken sheet sheet' lot lot' answer was now s takes is holds =
      let step = takes s holds in
      record {
        short = hands.short;
        fields = forms hands.ps;
        first = hands.first;
        on = hands.on;
        shorter = hands.shorter;
        answer = answer;
        after = step.0;
        taking = subst (λ (n : ℕ). Taking n (meaning (handed r + 1) (map saying (forms hands.ps))) s answer step.0) hands.number_is
            (subst (λ (m : Result Meaning Fault). Taking rec.number m s answer step.0) meant step.1);
        holds = step.2;
        written = is;
      }
