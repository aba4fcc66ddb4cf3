-- What the full drawings promise of words, on any number of slots on which they are an accepted tape.
use Rattle.std.specs.Prelude.{◌≡◌, Bool, List, ◌++◌, ℤ, ℕ, ◌+◌, ◌-◌, take}
use Rattle.rules.specs.Values.{Sample}
use Rattle.rules.specs.Tapes as T
use Rattle.rules.specs.Accepted.{Accepted}
use Rattle.rules.specs.Drawings.{Grid, at, layers, grid_fault, column_from, row_from, drawn, full_count}
use Rattle.rules.specs.Pictures.{stride, byte_of, row_bytes, picture}
use Rattle.code.specs.Words.{tape_in, Runnable}
use Rattle.picture.specs.declared.grid.Grid as declared-grid

-- The sample of pixel i of row j with a given third number.
abbrev pub sample_in : declared-grid.Grid → ℕ → ℕ → ℤ → Sample
sample_in g i j z = record { x = at g.xorigin g.xstep i; y = at g.yorigin g.ystep j; z = z }

-- Words that can be run, and a grid that no line refuses.
pub record Drawable (isSolid : Bool) (ws : List ℕ) (g : Grid) : Type 0 where
  pub runnable : Runnable ws
  pub accepted : grid_fault isSolid g ≡ 0

pub record Says (ws : List ℕ) (s : Sample) (r : Bool) : Type 0 where
  pub material : (n : ℕ) → Accepted (tape_in n ws) → r ≡ T.material (tape_in n ws) s

pub record Height (ws : List ℕ) (g : Grid) (i j r : ℕ) : Type 0 where
  pub height : (n : ℕ) → Accepted (tape_in n ws) → r ≡ column_from (layers g) (tape_in n ws) g i j

-- The byte of at most 8 pixels of row j, from pixel i on.
pub record Byte (ws : List ℕ) (g : Grid) (i j r : ℕ) : Type 0 where
  pub byte : (n : ℕ) → Accepted (tape_in n ws) → r ≡ byte_of (take 8 (row_from (g.width - i) i j (tape_in n ws) g))

-- Row j as heights, and as bytes.
abbrev pub height_row : List ℕ → Grid → ℕ → ℕ → List ℕ
height_row ws g j n = row_from g.width 0 j (tape_in n ws) g

abbrev pub byte_row : List ℕ → Grid → ℕ → ℕ → List ℕ
byte_row ws g j n = row_bytes (stride g.width) (height_row ws g j n)

-- With n slots, `part n` stands in the picture from `from` on, s numbers long; what stands before it is as it was.
pub record Put (ws : List ℕ) (part : ℕ → List ℕ) (s from : ℕ) (p p' : List ℕ) : Type 0 where
  pub put : (n : ℕ) → Accepted (tape_in n ws) → take (from + s) p' ≡ take from p ++ part n

-- The whole picture, whatever it held, and the count.
pub record FullDrawn (isSolid : Bool) (ws : List ℕ) (g : Grid) (p : List ℕ) (count : ℕ) : Type 0 where
  pub pixels : (n : ℕ) → Accepted (tape_in n ws) → p ≡ picture isSolid g (drawn (tape_in n ws) g)
  pub clauses : (n : ℕ) → Accepted (tape_in n ws) → count ≡ full_count (tape_in n ws) g
