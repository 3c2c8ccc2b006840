use Rattle.std.proofs.Common.{arith}
use Rattle.numerals.proofs.Forms.{decimal_shortest}
use Rattle.numerals.proofs.push_decimal.Goals as goal

pub returns-then-number-lt-BEYOND : goal.returns-then-number-lt-BEYOND
returns-then-number-lt-BEYOND c = record { items = c.push_short.ensures.items; shortest = decimal_shortest c.args.number (omega arith) }

pub returns-else-number-lt-BEYOND : goal.returns-else-number-lt-BEYOND
returns-else-number-lt-BEYOND c = record { items = c.push_long.ensures; shortest = decimal_shortest c.args.number (omega arith) }
