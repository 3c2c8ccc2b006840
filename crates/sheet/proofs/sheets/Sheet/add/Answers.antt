use Rattle.std.proofs.Common.{◌≡◌, Ok, Err, MatchResult, rules}
use Rattle.faults.specs.Faults.{direct}
use Rattle.sheet.specs.Sheets.{refusal_of}
use Rattle.sheet.proofs.Adding.{added}
use Rattle.sheet.proofs.sheets.Sheet.add.Goals as goal

pub returns-clause-outcome : goal.returns-clause-outcome
returns-clause-outcome c =
    let e = c.insert.ensures in
    let is : MatchResult c.insert.result (λ _. c.map_err.result ≡ Ok tt) (λ why. c.map_err.result ≡ Err (direct (refusal_of why))) = search rules in
    added c.args.self.now.table c.insert.new.self c.args.requirement e.room c.insert.result c.map_err.result e.change e.outcome is
