use Rattle.std.proofs.Common.{◌≡◌, false, Ok, Err, sym, ◌∙◌, true≢false, arith, rules}
use Rattle.std.proofs.lemmas.Result.{err_from_is_err_and}
use Rattle.records.specs.Cells.{cells, contents}
use Rattle.records.specs.Entries.{word_REQ, word_ITEM, is_requirement, is_item, item_meant}
use Rattle.records.proofs.Heads.{word_decides, whole_from_first, not_so_many}
use Rattle.records.proofs.Choosing.{by_requirement, by_item, by_neither}
use Rattle.records.proofs.makers.entry.Goals as goal
use Rattle.records.proofs.makers.entry.Goals.{else-has_count-via-else-has_count, else-has_count-via-then-has_count+in-None-1, else-has_count-via-then-has_count+in-Some+else-says, else-has_count-2-via-else-has_count-2, else-has_count-2-via-then-has_count-2+in-None-1, else-has_count-2-via-then-has_count-2+in-Some-first_chunk+else-says-2}

pub returns-in_err-requirement : goal.returns-in_err-requirement
returns-in_err-requirement c =
    let p = err_from_is_err_and c.from_residual.result c.from_residual.ensures.1 in
    let whole = whole_from_first _ _ 9 (c.has_count.ensures.0 c.if-has_count.true) c.in-Some.ensures.cases in
    let h = word_decides _ _ word_REQ 9 _ (omega arith) whole c.if-says.ensures in
    rw (p.1, p.2) (by_requirement c.args.number _ _ h whole.same (Err c.in_err-requirement.field-0.0) c.in_err-requirement.ensures)

pub returns : goal.returns
returns c =
    let whole = whole_from_first _ _ 9 (c.has_count.ensures.0 c.if-has_count.true) c.in-Some.ensures.cases in
    let h = word_decides _ _ word_REQ 9 _ (omega arith) whole c.if-says.ensures in
    by_requirement c.args.number _ _ h whole.same (Ok c.in_ok-requirement.field-0) c.in_ok-requirement.ensures

pub returns-in_err-item : goal.returns-in_err-item
returns-in_err-item c =
    let p = err_from_is_err_and c.from_residual-in_err-item.result c.from_residual-in_err-item.ensures.1 in
    let none : false ≡ is_requirement (contents (cells c.args.fields.now)) =
    elim c.else-has_count.branch [
      | else-has_count-via-else-has_count w ↦ not_so_many c.args.fields.now word_REQ 9 (λ e. true≢false (sym (c.has_count.ensures.1 e) ∙ w.if-has_count.false))
      | else-has_count-via-then-has_count+in-None-1 w ↦ not_so_many c.args.fields.now word_REQ 9 (search rules)
      | else-has_count-via-then-has_count+in-Some+else-says w ↦
          sym w.if-says.false ∙ word_decides _ _ word_REQ 9 _ (omega arith) (whole_from_first _ _ 9 (c.has_count.ensures.0 w.if-has_count.true) w.in-Some.ensures.cases) w.says.ensures
    ]
    in
    let whole = whole_from_first _ _ 8 (c.has_count-2.ensures.0 c.if-has_count-2.true) c.in-Some-first_chunk.ensures.cases in
    let h = word_decides _ _ word_ITEM 8 _ (omega arith) whole c.if-says-2.ensures in
    rw (p.1, p.2) (by_item c.args.number _ _ none h whole.same (Err c.in_err-item.field-0.0) c.in_err-item.ensures)

pub returns-2 : goal.returns-2
returns-2 c =
    let none : false ≡ is_requirement (contents (cells c.args.fields.now)) =
    elim c.else-has_count.branch [
      | else-has_count-via-else-has_count w ↦ not_so_many c.args.fields.now word_REQ 9 (λ e. true≢false (sym (c.has_count.ensures.1 e) ∙ w.if-has_count.false))
      | else-has_count-via-then-has_count+in-None-1 w ↦ not_so_many c.args.fields.now word_REQ 9 (search rules)
      | else-has_count-via-then-has_count+in-Some+else-says w ↦
          sym w.if-says.false ∙ word_decides _ _ word_REQ 9 _ (omega arith) (whole_from_first _ _ 9 (c.has_count.ensures.0 w.if-has_count.true) w.in-Some.ensures.cases) w.says.ensures
    ]
    in
    let whole = whole_from_first _ _ 8 (c.has_count-2.ensures.0 c.if-has_count-2.true) c.in-Some-first_chunk.ensures.cases in
    let h = word_decides _ _ word_ITEM 8 _ (omega arith) whole c.if-says-2.ensures in
    by_item c.args.number _ _ none h whole.same (Ok (item_meant c.in_ok-item.field-0)) c.in_ok-item.ensures

pub returns-3 : goal.returns-3
returns-3 c =
    let none : false ≡ is_requirement (contents (cells c.args.fields.now)) =
    elim c.else-has_count.branch [
      | else-has_count-via-else-has_count w ↦ not_so_many c.args.fields.now word_REQ 9 (λ e. true≢false (sym (c.has_count.ensures.1 e) ∙ w.if-has_count.false))
      | else-has_count-via-then-has_count+in-None-1 w ↦ not_so_many c.args.fields.now word_REQ 9 (search rules)
      | else-has_count-via-then-has_count+in-Some+else-says w ↦
          sym w.if-says.false ∙ word_decides _ _ word_REQ 9 _ (omega arith) (whole_from_first _ _ 9 (c.has_count.ensures.0 w.if-has_count.true) w.in-Some.ensures.cases) w.says.ensures
    ]
    in
    let neither : false ≡ is_item (contents (cells c.args.fields.now)) =
    elim c.else-has_count-2.branch [
      | else-has_count-2-via-else-has_count-2 w ↦ not_so_many c.args.fields.now word_ITEM 8 (λ e. true≢false (sym (c.has_count-2.ensures.1 e) ∙ w.if-has_count-2.false))
      | else-has_count-2-via-then-has_count-2+in-None-1 w ↦ not_so_many c.args.fields.now word_ITEM 8 (search rules)
      | else-has_count-2-via-then-has_count-2+in-Some-first_chunk+else-says-2 w ↦
          sym w.if-says-2.false ∙ word_decides _ _ word_ITEM 8 _ (omega arith) (whole_from_first _ _ 8 (c.has_count-2.ensures.0 w.if-has_count-2.true) w.in-Some-first_chunk.ensures.cases) w.says-2.ensures
    ]
    in
    by_neither c.args.number c.args.fields.now none neither
