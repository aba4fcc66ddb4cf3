-- No fault has the number 0, so a check whose number is 0 refuses nothing.
use mathlib.Core.Path.{◌≡◌, refl}
use Rattle.faults.specs.declared.Fault.{Fault}
use Rattle.faults.specs.declared.Fault.TheVariants.{ShortTape, WrongHead, WrongCounts, WrongLength, WrongOpcode, WrongSlot, UnusedNotZero, LeastConstant, UnwrittenSlot, WrongSize, WrongAxis, PictureLength, ShortWork, OutputLength, ProgramInput, SolidTooWide, WrongFormula, DeepBracket, LongFormula, WrongCoordinate, MergedTooLong, WrongPlace, PixelOutside, WrongTable, WrongPath}
use Rattle.faults.specs.Numbers.{number_of}
use lib.Dec.{eqb}
use mathlib.Core.Bool.{false}
use borrow.Author.Tests.{eqb-false}

unlike : (f : Fault) → eqb (number_of f) 0 ≡ false
unlike ShortTape = refl
unlike WrongHead = refl
unlike WrongCounts = refl
unlike WrongLength = refl
unlike WrongOpcode = refl
unlike WrongSlot = refl
unlike UnusedNotZero = refl
unlike LeastConstant = refl
unlike UnwrittenSlot = refl
unlike WrongSize = refl
unlike WrongAxis = refl
unlike PictureLength = refl
unlike ShortWork = refl
unlike OutputLength = refl
unlike ProgramInput = refl
unlike SolidTooWide = refl
unlike WrongFormula = refl
unlike DeepBracket = refl
unlike LongFormula = refl
unlike WrongCoordinate = refl
unlike MergedTooLong = refl
unlike WrongPlace = refl
unlike PixelOutside = refl
unlike WrongTable = refl
unlike WrongPath = refl

pub some_number : (f : Fault) → number_of f ≡ 0 → ⊥
some_number f = eqb-false (number_of f) 0 (unlike f)
