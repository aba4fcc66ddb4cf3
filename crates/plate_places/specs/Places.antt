-- What the checks of the places answer, and where a place's tape ends.
use Rattle.std.specs.Prelude.{◌≡◌, List, ℕ, ◌≤◌, length, take}
use Rattle.rules.specs.Tapes.{Fault}
use Rattle.answers.specs.declared.Answer.{Answer}
use Rattle.plate_rules.specs.Plate.{tape_in}

abbrev pub fault_answer : Fault → Answer
fault_answer f = record { number = f.number; place = f.place; count = 0 }

pub record TapeEnd (b : List ℕ) (n : ℕ) : Type 0 where
  pub within : n ≤ length b
  pub bytes : take n b ≡ tape_in b
