use Rattle.std.proofs.Common.{◌≡◌, ◌+◌, ◌-◌, ◌<◌, ◌≤◌, ◌++◌, get_or, take, vec_items, sym, ap, ◌∙◌, arith}
use Rattle.std.specs.List.{flat_map}
use Rattle.std.proofs.lemmas.List.{take_more, take_all, flat_map_more}
use Rattle.std.proofs.lemmas.List.FromFn.{get_or-range_with_len}
use Rattle.lot_calls.specs.Lots.{items}
use Rattle.lines.specs.Lines.{spelled}
use Rattle.report.specs.Output.{classes, listed}
use Rattle.report.proofs.Classes.{class_bytes, all_classes}
use Rattle.report.proofs.answers.push_classes.Goals as goal

pub loop-class-preserved : goal.loop-class-preserved
loop-class-preserved c =
    let es = items c.args.lot.now in
    let n = c.loop-class.class in
    let i = n - 1 in
    let within : i < 9 = omega (arith, c.loop-class-test.true, c.loop-class.auto.class) in
    let next : i + 1 ≡ n + 1 - 1 = omega (arith, c.loop-class.auto.class) in
    let class : n ≡ get_or classes i 0 = omega (arith, get_or-range_with_len 1 9 i 0 within, c.loop-class.auto.class) in
    let start = vec_items c.args.out.now in
    c.in_ok-push_if.ensures ∙ ap (λ bs. bs ++ flat_map spelled (listed c.class_line.result)) c.loop-class.invariant
    ∙ ap (λ o. (start ++ flat_map (class_bytes es) (take i classes)) ++ flat_map spelled (listed o)) c.class_line.ensures
    ∙ ap (λ k. (start ++ flat_map (class_bytes es) (take i classes)) ++ class_bytes es k) class
    ∙ flat_map_more (class_bytes es) start (take i classes) (get_or classes i 0)
    ∙ ap (λ cs. start ++ flat_map (class_bytes es) cs) (sym (take_more classes i 0 within) ∙ ap (λ k. take k classes) next)

pub returns : goal.returns
returns c =
    let es = items c.args.lot.now in
    let all : 9 ≤ c.loop-class.class - 1 = omega (arith, c.loop-class-test.false) in
    c.loop-class.invariant ∙ ap (λ cs. vec_items c.args.out.now ++ flat_map (class_bytes es) cs) (take_all (c.loop-class.class - 1) classes all)
    ∙ ap (λ bs. vec_items c.args.out.now ++ bs) (all_classes es classes)
