use Rattle.std.proofs.Common.{arith, rules}
use Rattle.std.proofs.lemmas.Grind.{common_steps}
use Rattle.fields.proofs.Places.{numeral_small}
use Rattle.fields.proofs.Signs.{with_minus, no_minus}
use Rattle.fields.proofs.numbers.parsed.Goals as goal

pub map-requires : goal.map-requires
map-requires c = search (rules, numeral_small)

pub map-requires-in_default : goal.map-requires-in_default
map-requires-in_default c = search (rules, numeral_small)

pub returns-in-45 : goal.returns-in-45
returns-in-45 c = grind (arith, common_steps, with_minus, numeral_small)

pub returns-in_default : goal.returns-in_default
returns-in_default c = grind (arith, common_steps, no_minus, numeral_small)
