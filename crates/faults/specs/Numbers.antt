-- The number of a fault in the table of refusals, and of what a check answers: 0 where it refuses nothing.
use Rattle.std.specs.Prelude.{ℕ, Result, Ok, Err}
use Rattle.faults.specs.declared.Fault.{Fault}
use Rattle.faults.specs.declared.Fault.TheVariants.{ShortTape, WrongHead, WrongCounts, WrongLength, WrongOpcode, WrongSlot, UnusedNotZero, LeastConstant, UnwrittenSlot, WrongSize, WrongAxis, PictureLength, ShortWork, OutputLength, ProgramInput, SolidTooWide, WrongFormula, DeepBracket, LongFormula, WrongCoordinate, MergedTooLong, WrongPlace, PixelOutside, WrongTable, WrongPath}

abbrev pub number_of : Fault → ℕ
number_of ShortTape = 1
number_of WrongHead = 2
number_of WrongCounts = 3
number_of WrongLength = 4
number_of WrongOpcode = 5
number_of WrongSlot = 6
number_of UnusedNotZero = 7
number_of LeastConstant = 8
number_of UnwrittenSlot = 9
number_of WrongSize = 10
number_of WrongAxis = 11
number_of PictureLength = 12
number_of ShortWork = 13
number_of OutputLength = 14
number_of ProgramInput = 15
number_of SolidTooWide = 16
number_of WrongFormula = 17
number_of DeepBracket = 18
number_of LongFormula = 19
number_of WrongCoordinate = 20
number_of MergedTooLong = 21
number_of WrongPlace = 22
number_of PixelOutside = 23
number_of WrongTable = 24
number_of WrongPath = 25

abbrev pub fault_of : {A : Type 0} → Result A Fault → ℕ
fault_of (Ok a) = 0
fault_of (Err f) = number_of f
