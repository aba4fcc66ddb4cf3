-- Clearance along a recorded path: positions, the sample at a position, the first position that covers it, the picture
-- and its lines.
use Rattle.std.specs.Prelude.{Bool, true, false, ◌&&◌, not, List, [], ◌∷◌, ◌++◌, ℤ, ◌-ℤ◌, ℕ, zero, suc, ◌*◌, ◌%◌, eqb, ltb, leb, length}
use Rattle.rules.specs.Values.{pick, first_fault, when, reaches, Sample}
use Rattle.rules.specs.Tapes.{Tape, material, read_tape}
use Rattle.rules.specs.Drawings.{work_limit, Grid, sample_at, grid_fault}

-- "its path is logged as pairs of x and y offsets, 1 to 4,096 of them": a position, and the list's numbers in pairs. A
-- last number without its second makes no position.
pub record Offset : Type 0 where
  pub x : ℤ
  pub y : ℤ

abbrev pub offset : ℤ → ℤ → Offset
offset a b = record { x = a; y = b }

abbrev pub path_limit : ℕ
path_limit = 4096

unfoldable pub offsets_of : List ℤ → List Offset
offsets_of [] = []
offsets_of (a ∷ []) = []
offsets_of (a ∷ (b ∷ zs)) = offset a b ∷ offsets_of zs

-- "the tape, taken at x and y less the offsets": z is not moved.
abbrev pub moved_sample : Offset → Sample → Sample
moved_sample o s = record { x = s.x -ℤ o.x; y = s.y -ℤ o.y; z = s.z }

-- "1 + the number of the first position that covers it, counted from 0, or 0": of the positions from number k on.
unfoldable pub swept_from : ℕ → Tape → List Offset → Sample → ℕ
swept_from k t [] s = 0
swept_from k t (o ∷ os) s = pick (material t (moved_sample o s)) (suc k) (swept_from (suc k) t os s)

abbrev pub swept_at : Tape → List Offset → Sample → ℕ
swept_at t os s = swept_from 0 t os s

-- "The picture holds, in 16 bits", one such number a pixel, in row order: "each pixel must equal the full evaluation at
-- all positions".
unfoldable pub swept_row : ℕ → ℕ → ℕ → Tape → List Offset → Grid → List ℕ
swept_row zero i j t os g = []
swept_row (suc n) i j t os g = swept_at t os (sample_at g i j 0) ∷ swept_row n (suc i) j t os g

unfoldable pub swept_rows : ℕ → ℕ → Tape → List Offset → Grid → List ℕ
swept_rows zero j t os g = []
swept_rows (suc n) j t os g = swept_row g.width 0 j t os g ++ swept_rows n (suc j) t os g

unfoldable pub swept : Tape → List Offset → Grid → List ℕ
swept t os g = swept_rows g.height 0 t os g

-- "25 when the path is empty, too long, not in whole pairs, or moves a sample outside −M to M". The last is tested here
-- at every sample of the grid and every position, in whole numbers without end.
unfoldable pub whole_path : List ℤ → Bool
whole_path zs = leb 1 (length zs) && (leb (length zs) (2 * path_limit) && eqb (length zs % 2) 0)

abbrev pub stays_at : Offset → Sample → Bool
stays_at o s = reaches (moved_sample o s).x && reaches (moved_sample o s).y

unfoldable pub row_stays : ℕ → ℕ → Grid → Offset → Bool
row_stays zero j g o = true
row_stays (suc i) j g o = stays_at o (sample_at g i j 0) && row_stays i j g o

unfoldable pub rows_stay : ℕ → Grid → Offset → Bool
rows_stay zero g o = true
rows_stay (suc j) g o = row_stays g.width j g o && rows_stay j g o

unfoldable pub path_stays : Grid → List Offset → Bool
path_stays g [] = true
path_stays g (o ∷ os) = rows_stay g.height g o && path_stays g os

unfoldable pub path_fault : Grid → List ℤ → ℕ
path_fault g zs = when (not (whole_path zs && path_stays g (offsets_of zs))) 25

-- The checks in their order: lines 1 to 11, 25 "tested between 11 and 12", 12 and 13. n is the picture's length, one
-- number a pixel, and m that of the work buffer.
abbrev pub swept_lines : List ℕ → Grid → List ℤ → ℕ → ℕ → List ℕ
swept_lines s g zs n m =
    (read_tape s).number
    ∷ (grid_fault false g
    ∷ (path_fault g zs
    ∷ (when (not (eqb n (g.width * g.height))) 12 ∷ (when (ltb m work_limit) 13 ∷ []))))

abbrev pub swept_fault : List ℕ → Grid → List ℤ → ℕ → ℕ → ℕ
swept_fault s g zs n m = first_fault (swept_lines s g zs n m)
