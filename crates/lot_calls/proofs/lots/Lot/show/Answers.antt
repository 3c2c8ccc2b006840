use Rattle.std.proofs.Common.{◌≡◌, ℕ, List, length, Some, Option, arith}
use Rattle.std.specs.List.{slice_get}
use Rattle.std.specs.Option.{ok_or}
use Rattle.std.proofs.lemmas.Grind.{common_steps}
use Rattle.std.proofs.lemmas.Option.{slice_get_cases}
use Rattle.faults.specs.Faults.{direct, AnswersBy}
use Rattle.faults.specs.declared.Refusal.TheVariants.{NoPlace}
use Rattle.lot.specs.Book.{show_refusal}
use Rattle.lot.specs.declared.items.Item.{Item}
use Rattle.lot_calls.specs.Lots.{items}
use Rattle.lot_calls.proofs.Carrying.{shown_carries}
use Rattle.lot_calls.proofs.lots.Lot.show.Goals as goal

shown : (xs : List Item) (place : ℕ) (o : Option Item) → o ≡ slice_get xs place → AnswersBy (show_refusal (length xs) place) (ok_or o (direct NoPlace)) (λ e. slice_get xs place ≡ Some e)
shown xs place o at = grind (arith, common_steps, slice_get_cases)

pub returns-clause-run : goal.returns-clause-run
returns-clause-run c = rw (c.ok_or.ensures.value, c.direct.ensures) (shown_carries c.args.self.now c.args.place _ (shown (items c.args.self.now) c.args.place c.at.result c.at.ensures))
