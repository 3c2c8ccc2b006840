-- Refusals of the engine, placed in the record text.
use Rattle.std.specs.Prelude.{ℕ}
use Rattle.faults.specs.declared.Fault.{Fault}
use Rattle.faults.specs.declared.Refusal.{Refusal}
use Rattle.faults.specs.declared.Refusal.TheVariants.{TextTooLong, BrokenQuotes, StrayByte, MalformedRecord, NotANumber, OutOfRange, UnknownLetter, NoLimit, LimitsNotAscending, AgainstRule, DuplicateRequirement, SheetFull, NoRequirement, NoOffset, NothingAcceptable, DuplicateItem, LotFull, NoItem, NoPlace}

-- the field that a refusal of the engine concerns: the class of a requirement that stands, the class of an item without a requirement,
-- the number of an item that stands; 0 for the record as a whole
abbrev pub field_of : Refusal → ℕ
field_of TextTooLong = 0
field_of BrokenQuotes = 0
field_of StrayByte = 0
field_of MalformedRecord = 0
field_of NotANumber = 0
field_of OutOfRange = 0
field_of UnknownLetter = 0
field_of NoLimit = 0
field_of LimitsNotAscending = 0
field_of AgainstRule = 0
field_of DuplicateRequirement = 2
field_of SheetFull = 0
field_of NoRequirement = 3
field_of NoOffset = 0
field_of NothingAcceptable = 0
field_of DuplicateItem = 2
field_of LotFull = 0
field_of NoItem = 0
field_of NoPlace = 0

-- the fault of record n
abbrev pub placed : ℕ → Refusal → Fault
placed n e = record { refusal = e; «record» = n; field = field_of e }
