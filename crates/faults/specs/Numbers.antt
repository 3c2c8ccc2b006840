-- The published numbers of the refusals, and the layers that they belong to.
use Rattle.std.specs.Prelude.{ℕ, ◌+◌, ◌/◌}
use Rattle.faults.specs.declared.Refusal.{Refusal}
use Rattle.faults.specs.declared.Refusal.TheVariants.{TextTooLong, BrokenQuotes, StrayByte, MalformedRecord, NotANumber, OutOfRange, UnknownLetter, NoLimit, LimitsNotAscending, AgainstRule, DuplicateRequirement, SheetFull, NoRequirement, NoOffset, NothingAcceptable, DuplicateItem, LotFull, NoItem, NoPlace}

-- the published number of a refusal
abbrev pub number : Refusal → ℕ
number TextTooLong = 1
number BrokenQuotes = 2
number StrayByte = 3
number MalformedRecord = 10
number NotANumber = 11
number OutOfRange = 12
number UnknownLetter = 13
number NoLimit = 20
number LimitsNotAscending = 21
number AgainstRule = 22
number DuplicateRequirement = 23
number SheetFull = 24
number NoRequirement = 30
number NoOffset = 31
number NothingAcceptable = 32
number DuplicateItem = 40
number LotFull = 41
number NoItem = 42
number NoPlace = 43

-- the layer is the number's tens plus one: text 1, field 2, sheet 3, judging 4, lot 5
abbrev pub layer : Refusal → ℕ
layer r = number r / 10 + 1
