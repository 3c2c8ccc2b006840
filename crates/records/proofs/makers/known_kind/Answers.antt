use Rattle.std.proofs.Common.{pos, Some, refl, ap, ◌∙◌, w64, SFits, rules}
use Rattle.std.proofs.lemmas.Int.{to_z-of_z}
use Rattle.faults.specs.declared.Refusal.TheVariants.{OutOfRange}
use Rattle.faults.specs.Faults.{AnswersBy}
use Rattle.faults.specs.Ranges.{from_to}
use Rattle.fields.specs.Answers.{said}
use Rattle.fields.specs.Values.{number_of}
use Rattle.kinds.specs.Kinds.{known_kind, greatest_spread, kind_refusal, HasGiven}
use Rattle.records.specs.Columns.{a_number}
use Rattle.records.specs.Cells.{cell}
use Rattle.kinds.specs.Kinds.{spread_of}
use Rattle.records.specs.Entries.{answer_meant}
use Rattle.records.proofs.Steps.{tested}
use Rattle.records.proofs.Spreads.{spread_answered}
use Rattle.records.proofs.makers.known_kind.Goals as goal

pub returns-clause-spread : goal.returns-clause-spread
returns-clause-spread c =
    let v = c.in_ok-value.value in
    let l = c.args.letter in
    let f : SFits w64 v = search rules in
    let a : AnswersBy (kind_refusal l v) c.new.result (HasGiven l v) = simp to_z-of_z at c.new.ensures in
    let fits = from_to (pos 1) (pos (greatest_spread l)) in
    let ws = said c.args.spread in
    tested (cell c.args.spread) (a_number ws) fits OutOfRange (number_of ws) v (fits v) _ _ c.in_ok-value.ensures refl (ap Some c.fault.ensures)
    (ap (answer_meant spread_of) c.or.ensures ∙ spread_answered l v (known_kind l) (fits v) c.new.result _ c.requires a)
