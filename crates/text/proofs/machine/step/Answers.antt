use Rattle.std.proofs.Common.{arith, rules}
use Rattle.text.proofs.Steps.{opened, kept, reopened, stray_quote, stray_lf, stray_cr, runs_on}
use Rattle.text.proofs.machine.step.Goals as goal

pub returns-in-Start-eq34 : goal.returns-in-Start-eq34
returns-in-Start-eq34 c = search (rules, opened)

pub returns-in-Quoted-default : goal.returns-in-Quoted-default
returns-in-Quoted-default c = search (rules, kept)

pub returns-in-AfterQuote-eq34 : goal.returns-in-AfterQuote-eq34
returns-in-AfterQuote-eq34 c = search (rules, reopened)

pub returns-in-AfterQuote-default : goal.returns-in-AfterQuote-default
returns-in-AfterQuote-default c = runs_on _ _ _ c.in-AfterQuote-default.is-0 (omega arith) (omega arith) (λ e. absurd (omega arith))

pub returns-in-AfterQuote-default-2 : goal.returns-in-AfterQuote-default-2
returns-in-AfterQuote-default-2 c = runs_on _ _ _ c.in-AfterQuote-default.is-0 (omega arith) (omega arith) (λ _. c.if-before_lf.false)

pub returns-in_default-eq34 : goal.returns-in_default-eq34
returns-in_default-eq34 c = grind (arith, stray_lf)

pub returns-in_default-eq34-2 : goal.returns-in_default-eq34-2
returns-in_default-eq34-2 c = grind (arith, stray_quote, stray_lf)

pub returns-in_default-eq34-3 : goal.returns-in_default-eq34-3
returns-in_default-eq34-3 c = grind (arith, stray_lf, stray_cr)

pub returns-in_default-eq34-4 : goal.returns-in_default-eq34-4
returns-in_default-eq34-4 c = grind (arith, stray_quote, stray_lf, stray_cr)
