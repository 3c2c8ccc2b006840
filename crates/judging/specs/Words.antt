-- How verdicts are written.
use Rattle.std.specs.Prelude.{ℕ, List, codes}
use Rattle.judging.specs.declared.answers.Verdict.{Verdict}
use Rattle.judging.specs.declared.answers.Verdict.TheVariants.{Pass, ConditionalPass, ConditionalFail, Fail}

-- the word for a verdict, as bytes
abbrev pub word_for : Verdict → List ℕ
word_for Pass = codes "pass"
word_for ConditionalPass = codes "cpass"
word_for ConditionalFail = codes "cfail"
word_for Fail = codes "fail"
