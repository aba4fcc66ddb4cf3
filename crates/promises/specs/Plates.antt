-- What the calls of a plate promise: number, place, count and every lent byte, for all inputs.
use Rattle.std.specs.Prelude.{◌≡◌, false, List, ℕ, length, replicate}
use Rattle.plate_rules.specs.Plate.{Plate}
use Rattle.plate_rules.specs.Runs.{Call, add, remove, fault_of, fault_clause, done_by}
use Rattle.picture.specs.Shapes.{grid_in}
use Rattle.picture.specs.declared.grid.Grid.{Grid}
use Rattle.answers.specs.Says.{Answered, written}
use Rattle.answers.specs.declared.Answer.{Answer}

abbrev pub plate : List ℕ → List ℕ → Plate
plate m o = record { memory = m; picture = o }

-- A call that adds or removes a part, with the memory m, the picture o and the work buffer w: "the count is 0", and the
-- work buffer is cleared when done.
pub record PlateSays (c : Call) (m m' o o' w w' : List ℕ) (r : Answer) : Type 0 where
  pub answer : let q = plate m o in Answered (fault_of c q) (fault_clause c q) 0 r
  pub memory : let q = plate m o in m' ≡ written (fault_of c q) (done_by c q).memory m
  pub pixels : let q = plate m o in o' ≡ written (fault_of c q) (done_by c q).picture o
  pub work : w' ≡ written (fault_of c (plate m o)) (replicate (length w) 0) w

abbrev pub AddSays : ℕ → List ℕ → Grid → List ℕ → List ℕ → List ℕ → List ℕ → List ℕ → List ℕ → Answer → Type 0
AddSays p s d m m' o o' w w' r = PlateSays (add p s (grid_in d false) (length w)) m m' o o' w w' r

abbrev pub RemoveSays : ℕ → Grid → List ℕ → List ℕ → List ℕ → List ℕ → List ℕ → List ℕ → Answer → Type 0
RemoveSays p d m m' o o' w w' r = PlateSays (remove p (grid_in d false) (length w)) m m' o o' w w' r
