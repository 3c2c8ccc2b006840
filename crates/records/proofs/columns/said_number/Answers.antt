use Rattle.faults.specs.declared.Refusal.TheVariants.{NotANumber}
use Rattle.fields.specs.Answers.{said}
use Rattle.fields.specs.Values.{IsNumber, number_of}
use Rattle.records.specs.Tests.{is_number}
use Rattle.records.proofs.Numerals.{told_by, number_tells}
use Rattle.records.proofs.columns.said_number.Goals as goal

pub returns : goal.returns
returns c =
    let ws = said c.args.field in
    told_by c.args.field (IsNumber ws) (is_number ws) NotANumber (number_of ws) _ (number_tells ws) c.number.ensures
