use Rattle.std.proofs.Common.{◌≡◌, ◌++◌, take}
use Rattle.text.specs.Content.{singled}
use Rattle.fields.proofs.words.quoted_says.Given as goal

abbrev pub invariant-loop-letter : goal.invariant-loop-letter
invariant-loop-letter l = singled l.bytes ≡ take l.letter-index l.word ++ singled l.rest
