use Rattle.std.proofs.Common.{◌<◌, length, take, arith, rules}
use Rattle.std.proofs.lemmas.List.{length-take}
use Rattle.table.specs.Tables.{capacity}
use Rattle.table.proofs.Edits.{opened, opened_ordered}
use Rattle.table.proofs.Table.insert.Goals as goal

pub invariant_of-self-in-Err-2 : goal.invariant_of-self-in-Err-2
invariant_of-self-in-Err-2 g c =
    let t = c.args.self.now in
    let i = c.in-Err.field-0 in
    let e = c.args.entry in
    let place = c.in-Err.ensures.place in
    let free : length (take t.count t.places.now) < capacity t = search rules in
    let standing = length-take t.count t.places.now in
    let room : t.count < length t.places.now = omega (arith, free, standing) in
    let after = opened t.places.now t.count i c.rotate_right.new.self e place.0 room c.rotate_right.ensures.after in
    record {
      counted = omega (arith, after.size, room);
      ordered = opened_ordered g.E.Entry.key g.E.Key.Ord.cmp t.limit t.places.now t.count i e _ t.ordered after room (omega (arith, free, standing)) (rw (← c.key.ensures) place);
    }

pub returns-in-Err-2-clause-change : goal.returns-in-Err-2-clause-change
returns-in-Err-2-clause-change g c =
    let t = c.args.self.now in
    let place = c.in-Err.ensures.place in
    let free : length (take t.count t.places.now) < capacity t = search rules in
    let after = opened t.places.now t.count c.in-Err.field-0 c.rotate_right.new.self c.args.entry place.0 (omega (arith, free, length-take t.count t.places.now)) c.rotate_right.ensures.after in
    (place.0, after.front, after.rest)
