use Rattle.fields.specs.Answers.{said}
use Rattle.records.proofs.Numerals.{told_limit}
use Rattle.records.proofs.columns.said_limit.Goals as goal

pub returns : goal.returns
returns c = told_limit c.args.field (said c.args.field) _ c.limit.ensures
