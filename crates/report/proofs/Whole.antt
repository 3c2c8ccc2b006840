-- The whole output, from its parts.
use Rattle.std.proofs.Common.{◌≡◌, ℕ, cond, not, List, [], ◌∷◌, ◌++◌, map, length, Some, None, sym, refl, ap, ◌∙◌}
use Rattle.std.specs.List.{flat_map}
use Rattle.std.proofs.lemmas.List.{append_assoc}
use Rattle.table.specs.Tables.{standing, capacity}
use Rattle.sheet.specs.Sheets.{lookup}
use Rattle.sheet.specs.declared.sheets.Sheet.{Sheet}
use Rattle.lot.specs.Book.{stands}
use Rattle.lot.specs.Rows.{row_of, counts_none, some_of}
use Rattle.lot.specs.declared.items.Item.{Item as Entry}
use Rattle.lot.proofs.Counts.{counts_some}
use Rattle.lot_calls.specs.Lots.{items, room}
use Rattle.lot_calls.specs.declared.lots.Lot.{Lot}
use Rattle.intake.specs.Intake.{Holds}
use Rattle.lines.specs.Lines.{spelled}
use Rattle.lines.specs.declared.forms.Line.TheVariants.{Header, Class}
use Rattle.report.specs.Output.{at_first, listed, closing, class_line, class_lines, classes, OutputFor}
use Rattle.report.specs.Turns.{Through}
use Rattle.report.proofs.Once.{reads_once}
use Rattle.report.proofs.Turning.{joined_more}

-- an empty sheet and an empty lot hold what stands at first
pub holds_at_first : (sheet : Sheet) (lot : Lot) → standing sheet.table ≡ [] → capacity sheet.table ≡ 100 → items lot ≡ [] → room lot ≡ 1000 → Holds sheet lot at_first
holds_at_first sheet lot no-requirement sheet_places no_item lot_places =
    record {
      sheet_room = sheet_places;
      sheet_count = ap length no-requirement;
      found = λ c h. ap (λ qs. lookup qs c h) no-requirement;
      lot_room = lot_places;
      lot_count = ap length no_item;
      numbered = λ k. ap (λ es. stands (map (λ x. x.number) es) k) no_item;
      rows = λ c. ap (row_of c) no_item;
    }

-- entries with the same rows have the same class lines
same_line : (es fs : List Entry) (c : ℕ) → row_of c es ≡ row_of c fs → class_line es c ≡ class_line fs c
same_line es fs c same =
    let some : some_of c es ≡ some_of c fs = sym (counts_some c es) ∙ ap (λ r. not (counts_none r)) same ∙ counts_some c fs in
    ap (λ b. cond b (Some (Class c (row_of c es))) None) some ∙ ap (λ r. cond (some_of c fs) (Some (Class c r)) None) same

same_lines : (es fs : List Entry) (cs : List ℕ) → ((c : ℕ) → row_of c es ≡ row_of c fs) → flat_map (λ c. listed (class_line es c)) cs ≡ flat_map (λ c. listed (class_line fs c)) cs
same_lines es fs [] same = refl
same_lines es fs (c ∷ cs) same =
    ap (λ l. listed l ++ flat_map (λ x. listed (class_line es x)) cs) (same_line es fs c (same c)) ∙ ap (λ ls. listed (class_line fs c) ++ ls) (same_lines es fs cs same)

pub all_parts : (text none first read out : List ℕ) (sheet : Sheet) (lot : Lot) (t : Through text at_first sheet lot first read) → none ≡ [] → first ≡ none ++ spelled Header
    → out ≡ read ++ flat_map spelled (class_lines (items lot)) → OutputFor text out
all_parts text none first read out sheet lot t nothing header closed =
    let records-lines = t.lines ++ closing t.end in
    let last = class_lines t.after.entries in
    let head : first ≡ spelled Header = header ∙ ap (λ bs. bs ++ spelled Header) nothing in
    let same : class_lines (items lot) ≡ last = same_lines (items lot) t.after.entries classes t.holds.rows in
    record {
      records = t.records;
      end = t.end;
      reads = t.reads;
      only = λ rs e r. reads_once t.reads r;
      lines = t.lines;
      left = t.after;
      gives = t.gives;
      bytes = closed ∙ ap (λ ls. read ++ flat_map spelled ls) same ∙ ap (λ bs. bs ++ flat_map spelled last) (t.written ∙ ap (λ bs. bs ++ flat_map spelled records-lines) head)
          ∙ append_assoc (spelled Header) (flat_map spelled records-lines) (flat_map spelled last) ∙ ap (λ bs. spelled Header ++ bs) (sym (joined_more records-lines last));
    }
