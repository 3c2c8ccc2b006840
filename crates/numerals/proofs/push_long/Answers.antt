use Rattle.std.proofs.Common.{◌≡◌, ◌+◌, ◌/◌, ◌%◌, ◌≤◌, length, is_ok, vec_items, vec_len, vec_capacity, decimal, arith}
use Rattle.numerals.proofs.Places.{length_lowest, two_parts, joined}
use Rattle.numerals.proofs.push_long.Goals as goal

pub returns : goal.returns
returns c =
    let n = c.args.number in
    let ds = c.write_digits.new.digits in
    let ok = is_ok c.extend_from_slice.result in
    let reserved = c.in_ok-reserve.ensures in
    let high = c.in_ok-push_short.ensures in
    let eleven : length ds ≡ 11 = rw c.write_digits.ensures (length_lowest 11 (n % 100000000000)) in
    let room : vec_len c.push_short.new.out + length ds ≤ vec_capacity c.push_short.new.out = omega (arith, reserved.ok, high.len, high.capacity) in
    joined ok (vec_items c.args.out.now) (vec_items c.reserve.new.self) (vec_items c.push_short.new.out) _ (decimal (n / 100000000000)) ds (decimal n)
    (c.extend_from_slice.ensures.succeeds room)
    reserved.items
    high.items
    c.extend_from_slice.ensures.items
    (two_parts n ds c.write_digits.ensures c.requires (omega arith))
