use Rattle.std.proofs.Common.{Bool, vec_items, subst}
use Rattle.report.specs.Turns.{Turn}
use Rattle.report.proofs.Turning.{at_start, one_turn, all_turns, holds_itself}
use Rattle.report.proofs.reading.read_records.Goals as goal

pub loop-init : goal.loop-init
loop-init c =
    let made = c.new-reader.ensures in
    λ s holds. at_start c.args.text.now s (vec_items c.args.out.now) c.new-reader.result c.args.sheet.now c.args.lot.now made.0 made.1 holds

pub loop-smaller : goal.loop-smaller
loop-smaller c =
    let turned = subst (λ (more : Bool). Turn c.loop.reader c.turn.new.reader c.loop.sheet c.loop.lot c.turn.new.sheet c.turn.new.lot (vec_items c.loop.out) (vec_items c.turn.new.out) more)
    c.if-branch.true c.in_ok-turn.ensures in
    (turned _ (holds_itself c.loop.sheet c.loop.lot)).shorter

pub loop-preserved : goal.loop-preserved
loop-preserved c =
    let turned = subst (λ (more : Bool). Turn c.loop.reader c.turn.new.reader c.loop.sheet c.loop.lot c.turn.new.sheet c.turn.new.lot (vec_items c.loop.out) (vec_items c.turn.new.out) more)
    c.if-branch.true c.in_ok-turn.ensures in
    λ s holds.
    let d = c.loop.invariant s holds in
    one_turn c.args.text.now s (vec_items c.args.out.now) c.loop.reader c.turn.new.reader c.loop.sheet c.turn.new.sheet c.loop.lot c.turn.new.lot (vec_items c.loop.out)
    (vec_items c.turn.new.out) d (turned d.state d.holds)

pub returns : goal.returns
returns c =
    let finished = subst (λ (more : Bool). Turn c.loop.reader c.turn.new.reader c.loop.sheet c.loop.lot c.turn.new.sheet c.turn.new.lot (vec_items c.loop.out) (vec_items c.turn.new.out) more)
    c.if-branch.false c.in_ok-turn.ensures in
    λ s holds.
    let d = c.loop.invariant s holds in
    all_turns c.args.text.now s (vec_items c.args.out.now) c.loop.reader c.loop.sheet c.turn.new.sheet c.loop.lot c.turn.new.lot (vec_items c.loop.out) (vec_items c.turn.new.out) d
    (finished d.state d.holds)
