use Rattle.std.proofs.Common.{◌≡◌, rules, arith}
use Rattle.std.specs.Slice.Iter.{iter_rest}
use Rattle.numerals.proofs.Places.{places, skips_to}
use Rattle.numerals.proofs.leading_zeros.Goals as goal

pub returns-in-Some : goal.returns-in-Some
returns-in-Some c =
    let xs = iter_rest c.iter.result in
    let same : xs ≡ places = search rules in
    skips_to c.args.number c.in-Some.place _ xs same (search rules) (search rules) (search rules) (omega arith)
