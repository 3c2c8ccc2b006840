-- The rows of a lot, row by row and as a whole.
use Rattle.std.proofs.Common.{◌≡◌, ◌+◌, ◌<◌, List, sym, refl, ◌∙◌, subst, arith}
use Rattle.std.proofs.lemmas.List.{same_lists}
use Rattle.std.proofs.lemmas.List.FromFn.{get_or-map-range_with_len}
use Rattle.lot.specs.Rows.{row_of}
use Rattle.lot.specs.declared.items.Item.{Item}
use Rattle.lot.proofs.Shares.{NineTallied}
use Rattle.lot_calls.specs.Sizes.{rows_of}
use Rattle.lot_calls.specs.declared.rows.Rows.{Rows}

nine_rows : (items : List Item) → NineTallied items (rows_of items).by_class
nine_rows items = (refl, λ c d within. get_or-map-range_with_len (λ k. row_of k items) 1 9 c (c + 1) d within (omega arith))

pub tallied_by : (items : List Item) (rows : Rows) → rows ≡ rows_of items → NineTallied items rows.by_class
tallied_by items rows is = subst (λ (rs : Rows). NineTallied items rs.by_class) (sym is) (nine_rows items)

pub rows_by : (items : List Item) (rows : Rows) → NineTallied items rows.by_class → rows ≡ rows_of items
rows_by items rows tallied =
    let nine = nine_rows items in
    let same : rows.by_class ≡ (rows_of items).by_class =
    same_lists rows.by_class (rows_of items).by_class (tallied.0 ∙ sym nine.0)
    (λ k d within. let few : k < 9 = omega (arith, tallied.0) in tallied.1 k d few ∙ sym (nine.1 k d few)) in
    λ i. record { by_class = same i }
