-- The row of a class: what the items of a lot add up to.
use Rattle.std.specs.Prelude.{◌≡◌, ℕ, ◌+◌, ◌-◌, ◌<◌, Bool, false, cond, ◌&&◌, ◌||◌, T, List, [], ◌∷◌, sum_by, ◌==◌, nat_le, slice_index_or}
use Rattle.std.specs.List.{list_all}
use Rattle.knowledge.specs.Millionths.{million}
use Rattle.judging.specs.declared.answers.Verdict.{Verdict}
use Rattle.judging.specs.declared.answers.Verdict.TheVariants.{Pass, ConditionalPass, ConditionalFail, Fail}
use Rattle.judging.specs.declared.answers.Judgement.{Judgement}
use Rattle.lot.specs.declared.items.Item.{Item}
use Rattle.lot.specs.declared.items.Row.{Row}

-- a number where the verdict is such, and else nothing
abbrev pub on_pass : Verdict → ℕ → ℕ
on_pass Pass n = n
on_pass ConditionalPass n = 0
on_pass ConditionalFail n = 0
on_pass Fail n = 0

abbrev pub on_conditional_pass : Verdict → ℕ → ℕ
on_conditional_pass Pass n = 0
on_conditional_pass ConditionalPass n = n
on_conditional_pass ConditionalFail n = 0
on_conditional_pass Fail n = 0

abbrev pub on_conditional_fail : Verdict → ℕ → ℕ
on_conditional_fail Pass n = 0
on_conditional_fail ConditionalPass n = 0
on_conditional_fail ConditionalFail n = n
on_conditional_fail Fail n = 0

abbrev pub on_fail : Verdict → ℕ → ℕ
on_fail Pass n = 0
on_fail ConditionalPass n = 0
on_fail ConditionalFail n = 0
on_fail Fail n = n

-- what a judgement adds to each part of a row
abbrev pub share_of : Judgement → Row
share_of j =
    record {
      passes = on_pass j.verdict 1;
      conditional_passes = on_conditional_pass j.verdict 1;
      conditional_fails = on_conditional_fail j.verdict 1;
      fails = on_fail j.verdict 1;
      lesser = on_pass j.verdict (million - j.bracket.ceiling);
      greater = on_pass j.verdict (million - j.bracket.floor);
    }

-- rows are added and subtracted part by part
abbrev pub plus : Row → Row → Row
plus a b =
    record {
      passes = a.passes + b.passes;
      conditional_passes = a.conditional_passes + b.conditional_passes;
      conditional_fails = a.conditional_fails + b.conditional_fails;
      fails = a.fails + b.fails;
      lesser = a.lesser + b.lesser;
      greater = a.greater + b.greater;
    }

abbrev pub minus : Row → Row → Row
minus a b =
    record {
      passes = a.passes - b.passes;
      conditional_passes = a.conditional_passes - b.conditional_passes;
      conditional_fails = a.conditional_fails - b.conditional_fails;
      fails = a.fails - b.fails;
      lesser = a.lesser - b.lesser;
      greater = a.greater - b.greater;
    }

-- a part of a row, summed over the items of class c
abbrev pub summed : (Row → ℕ) → ℕ → List Item → ℕ
summed part c items = sum_by (λ e. cond (e.class == c) (part (share_of e.judgement)) 0) items

-- the row of class c: every part is the sum over the items of that class
abbrev pub row_of : ℕ → List Item → Row
row_of c items =
    record {
      passes = summed (λ r. r.passes) c items;
      conditional_passes = summed (λ r. r.conditional_passes) c items;
      conditional_fails = summed (λ r. r.conditional_fails) c items;
      fails = summed (λ r. r.fails) c items;
      lesser = summed (λ r. r.lesser) c items;
      greater = summed (λ r. r.greater) c items;
    }

-- nine rows are those of the classes 1 to 9
abbrev pub Tallied : List Item → List Row → Type 0
Tallied items rows = (c : ℕ) (d : Row) → c < 9 → slice_index_or rows c d ≡ row_of (c + 1) items

-- an item is of a class from 1 to 9, and so are all of a list
abbrev pub of_a_class : Item → Bool
of_a_class e = nat_le 1 e.class && nat_le e.class 9

abbrev pub Classed : List Item → Type 0
Classed items = T (list_all of_a_class items)

-- a row counts no item
abbrev pub counts_none : Row → Bool
counts_none r = r.passes == 0 && (r.conditional_passes == 0 && (r.conditional_fails == 0 && r.fails == 0))

-- some item is of class c
abbrev pub some_of : ℕ → List Item → Bool
some_of c [] = false
some_of c (e ∷ es) = e.class == c || some_of c es
