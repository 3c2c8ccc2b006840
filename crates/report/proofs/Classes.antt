-- The lines of the classes.
use Rattle.std.proofs.Common.{◌≡◌, ℕ, Bool, true, false, not, List, [], ◌∷◌, ◌++◌, Some, None, sym, refl, ap, ◌∙◌}
use Rattle.std.specs.Bool.{then_some}
use Rattle.std.specs.List.{flat_map}
use Rattle.std.proofs.lemmas.Bool.{cond-true, cond-false}
use Rattle.lot.specs.Rows.{row_of, counts_none, some_of}
use Rattle.lot.specs.declared.items.Item.{Item as Entry}
use Rattle.lot.specs.declared.items.Row.{Row}
use Rattle.lot.proofs.Counts.{counts_some}
use Rattle.lines.specs.Lines.{spelled}
use Rattle.lines.specs.declared.forms.Line.TheVariants.{Class}
use Rattle.report.specs.Output.{listed, class_line}
use Rattle.report.proofs.Turning.{joined_more}

module _ (es : List Entry) (c : ℕ) (row : Row) (is : row ≡ row_of c es) where
  with_line : counts_none row ≡ false → Some (Class c row) ≡ class_line es c
  with_line some =
      ap (λ r. Some (Class c r)) is ∙ sym (cond-true (some_of c es) (Some (Class c (row_of c es))) None (sym (counts_some c es) ∙ ap (λ r. not (counts_none r)) (sym is) ∙ ap not some))

  without_line : counts_none row ≡ true → None ≡ class_line es c
  without_line none =
      sym (cond-false (some_of c es) (Some (Class c (row_of c es))) None (sym (counts_some c es) ∙ ap (λ r. not (counts_none r)) (sym is) ∙ ap not none))

  -- so the line stands where the row counts an item
  pub line_or_none : (none : Bool) → none ≡ counts_none row → then_some (not none) (Class c row) ≡ class_line es c
  line_or_none true e = without_line (sym e)
  line_or_none false e = with_line (sym e)

-- the bytes of a class
abbrev pub class_bytes : List Entry → ℕ → List ℕ
class_bytes es c = flat_map spelled (listed (class_line es c))

pub all_classes : (es : List Entry) (cs : List ℕ) → flat_map (class_bytes es) cs ≡ flat_map spelled (flat_map (λ c. listed (class_line es c)) cs)
all_classes es [] = refl
all_classes es (c ∷ cs) =
    ap (λ bs. class_bytes es c ++ bs) (all_classes es cs) ∙ sym (joined_more (listed (class_line es c)) (flat_map (λ x. listed (class_line es x)) cs))
