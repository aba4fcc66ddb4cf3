-- What the checks of the plate's calls answer.
use Rattle.std.specs.Prelude.{◌≡◌, false, not, List, [], ◌∷◌, ℕ, eqb, ltb, length}
use Rattle.rules.specs.Values.{first_fault, when}
use Rattle.rules.specs.Drawings as D
use Rattle.rules.specs.Pictures.{picture_size}
use Rattle.answers.specs.declared.Answer.{Answer}
use Rattle.plate_rules.specs.Plate.{plate_size, places_of, places_fault}
use Rattle.plate_places.specs.Places.{fault_answer}

pub record MemoryChecked (m : List ℕ) (r : Answer) : Type 0 where
  pub wrong : (length m ≡ plate_size → ⊥) → r ≡ record { number = 14; place = 0; count = 0 }
  pub right : length m ≡ plate_size → r ≡ fault_answer (places_fault (places_of m))

-- Lines 10 to 13 in their order: n is the picture's length, k the work buffer's.
abbrev pub lent_fault : D.Grid → ℕ → ℕ → ℕ
lent_fault g n k =
    first_fault
    (D.grid_fault false g
    ∷ (when (not (eqb n (picture_size false g))) 12 ∷ (when (ltb k D.work_limit) 13 ∷ [])))
