use Rattle.std.proofs.Common.{min, Some, refl, sym, ap, arith}
use Rattle.table.specs.Tables.{standing}
use Rattle.table.proofs.Edits.{closed, closed_ordered}
use Rattle.table.proofs.Finding.{found_place}
use Rattle.table.proofs.Standing.{picked_at}
use Rattle.table.proofs.Table.remove.Goals as goal

pub invariant_of-self : goal.invariant_of-self
invariant_of-self g c =
    let t = c.args.self.now in
    let i = c.in_ok-place.place in
    let e = c.index-self-place.result in
    let key = g.E.Entry.key in
    let place = found_place key g.E.Key.Ord.cmp (standing t) c.args.key i c.find.result c.find.ensures.place c.in_ok-place.ensures.value in
    let after = closed t.places.now t.count i c.rotate_left.new.self e place.0 t.counted c.index-self-place.is c.rotate_left.ensures.after in
    record { counted = omega (arith, after.size, t.counted); ordered = closed_ordered key g.E.Key.Ord.cmp t.limit t.places.now t.count i e _ t.ordered after place.0 }

pub returns : goal.returns
returns g c =
    let t = c.args.self.now in
    let i = c.in_ok-place.place in
    let e = c.index-self-place.result in
    let key = g.E.Entry.key in
    let place = found_place key g.E.Key.Ord.cmp (standing t) c.args.key i c.find.result c.find.ensures.place c.in_ok-place.ensures.value in
    let after = closed t.places.now t.count i c.rotate_left.new.self e place.0 t.counted c.index-self-place.is c.rotate_left.ensures.after in
    rw (← c.index-self-place.is) record {
      same = refl;
      room = ap (min t.limit) after.size;
      change = (i, (after.stood, after.front, after.rest));
      outcome = picked_at key c.args.key (standing t) i (Some e) place.0 place.1 (sym after.stood);
    }
