use Rattle.std.proofs.Common.{◌≡◌, ◌-◌, ◌≤◌, length, take, drop, is_ok, vec_items, decimal, refl, ap, arith}
use Rattle.std.proofs.lemmas.Fmt.{length-decimal-le}
use Rattle.numerals.proofs.Places.{part_from, appended, longer_by}
use Rattle.numerals.proofs.push_short.Goals as goal

pub returns : goal.returns
returns c =
    let n = c.args.number in
    let z = c.leading_zeros.result in
    let ds = c.write_digits.new.digits in
    let was = vec_items c.args.out.now in
    let ok = is_ok c.extend_from_slice.result in
    let written : take (11 - z) (drop z ds) ≡ decimal n = part_from n z 11 ds c.write_digits.ensures refl c.leading_zeros.ensures (omega arith) in
    let few : length (take (11 - z) (drop z ds)) ≤ 11 = omega (arith, ap length written, length-decimal-le 11 n (omega arith) (omega arith) (omega arith)) in
    record {
      items = appended ok was _ _ _ c.extend_from_slice.ensures.items written;
      len = longer_by ok _ _ _ c.extend_from_slice.ensures.len few;
      capacity = c.extend_from_slice.ensures.capacity;
      succeeds = λ room. c.extend_from_slice.ensures.succeeds (omega arith);
    }
