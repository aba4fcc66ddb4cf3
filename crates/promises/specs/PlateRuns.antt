-- Runs of calls on one plate, by the calls' own promises: each call is lent any part of the plate's memory and any part
-- of its picture, turned-down calls among them, and leaves both as its promise says.
use Rattle.std.specs.Prelude.{◌≡◌, false, List, [], ◌∷◌, ◌++◌, ℕ, ◌+◌, ◌-◌, ◌*◌, ◌/◌, ◌%◌, ◌<◌, ◌≤◌, length, get_or, take, drop}
use Rattle.rules.specs.Values.{when}
use Rattle.rules.specs.Drawings as D
use Rattle.rules.specs.Pictures.{stride}
use Rattle.picture.specs.Bits.{bit}
use Rattle.picture.specs.Shapes.{grid_in}
use Rattle.picture.specs.declared.grid.Grid.{Grid}
use Rattle.answers.specs.declared.Answer.{Answer}
use Rattle.plate_rules.specs.Plate.{Plate, plate_size, places_of, places_fault, parts_in, any_has, afresh}
use Rattle.plate_rules.specs.Runs.{SameFlat, cleared}
use Rattle.promises.specs.Plates.{plate, AddSays, RemoveSays}

-- A call with its arguments: the place, the tape, the grid, the work buffer.
pub data Asked : Type 0 where
  adds : ℕ → List ℕ → Grid → List ℕ → Asked
  removes : ℕ → Grid → List ℕ → Asked

abbrev pub grid_asked : Asked → Grid
grid_asked (adds p s d w) = d
grid_asked (removes p d w) = d

abbrev pub Says : Asked → List ℕ → List ℕ → List ℕ → List ℕ → List ℕ → Answer → Type 0
Says (adds p s d w) m m' o o' w' r = AddSays p s d m m' o o' w w' r
Says (removes p d w) m m' o o' w' r = RemoveSays p d m m' o o' w w' r

-- A part of what the plate has, lent, and put back as the call left it.
pub record Part : Type 0 where
  pub from : ℕ
  pub count : ℕ

abbrev pub lent : Part → List ℕ → List ℕ
lent p b = take p.count (drop p.from b)

abbrev pub put_back : Part → List ℕ → List ℕ → List ℕ
put_back p b' b = take p.from b ++ (b' ++ drop p.count (drop p.from b))

-- One call: what it was asked and lent, and what it left and answered.
pub record Turn : Type 0 where
  pub asked : Asked
  pub memory_part : Part
  pub picture_part : Part
  pub memory : List ℕ
  pub picture : List ℕ
  pub work : List ℕ
  pub answer : Answer

abbrev pub after_turn : Plate → Turn → Plate
after_turn q t =
    plate (put_back t.memory_part t.memory q.memory) (put_back t.picture_part t.picture q.picture)

-- It meets its promise, and if it is done it is on the plate's grid.
pub record Makes (d : Grid) (q : Plate) (t : Turn) : Type 0 where
  pub says : Says t.asked (lent t.memory_part q.memory) t.memory
      (lent t.picture_part q.picture) t.picture t.work t.answer
  pub grid : t.answer.number ≡ 0 → SameFlat (grid_in d false) (grid_in (grid_asked t.asked) false)

unfoldable pub Turns : Grid → Plate → List Turn → Type 0
Turns d q [] = Unit {0}
Turns d q (t ∷ ts) = Makes d q t × Turns d (after_turn q t) ts

unfoldable pub last_of : Plate → List Turn → Plate
last_of q [] = q
last_of q (t ∷ ts) = last_of (after_turn q t) ts

-- What is demanded of a plate: no place is at fault, the picture is "the one drawn afresh from the parts present", and on
-- a grid that is accepted each bit is "material where any has it", spare bits 0.
pub record PlateShown (d : Grid) (m o : List ℕ) : Type 0 where
  pub size : length m ≡ plate_size
  pub places : (places_fault (places_of m)).number ≡ 0
  pub picture : o ≡ afresh m (grid_in d false)
  pub bits : D.grid_fault false (grid_in d false) ≡ 0 → (x y : ℕ) → x < d.width → y < d.height
      → bit (7 - x % 8) (get_or o (y * stride d.width + x / 8) 0)
      ≡ when (any_has (parts_in (places_of m)) (D.sample_at (grid_in d false) x y 0)) 1
  pub spare : (y c k : ℕ) → y < d.height → c < stride d.width → k < 8 → d.width ≤ 8 * c + k
      → bit (7 - k) (get_or o (y * stride d.width + c) 0) ≡ 0

-- "This holds along any run of such calls on that grid from an empty plate and a cleared picture, turned-down calls among
-- them."
abbrev pub HoldsAlongRuns : Type 0
HoldsAlongRuns =
    (d : Grid) (ts : List Turn) → let q = cleared (grid_in d false) in
    Turns d q ts → PlateShown d (last_of q ts).memory (last_of q ts).picture
