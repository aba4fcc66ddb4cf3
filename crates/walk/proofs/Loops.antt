-- The loops over a region's parts of side n, at most l a side: one row of them from i to before px, the rows of one
-- layer from j to before py, and the layers from k to before pz, of which the greatest comes first.
use mathlib.Core.Path.{◌≡◌}
use mathlib.Core.Bool.{Bool}
use mathlib.Core.List.{List}
use Prim.Native.Nat.{ℕ, ◌+◌, ◌-◌, ◌*◌, ◌%◌, ◌≤◌, ◌<◌}
use lib.ListN.{length}
use Rattle.rules.specs.Drawings.{region, along_x, along_y, along_z}
use Rattle.picture.specs.declared.grid.Grid.{Grid}
use Rattle.walk.specs.Walks.{Visits, Folds}
use Rattle.walk.proofs.Along.{row_left, row_start, row_step, row_end, rows_left}
use Rattle.walk.proofs.Along.{rows_start, rows_step, rows_end, layers_start, layers_step, layers_end}
use Rattle.walk.proofs.Places.{Upward, up_starts, up_one, up_list, up_done}
use Rattle.walk.proofs.Places.{Downward, down_starts, down_within, down_list, down_done}

-- Before the part at x of the row y, the row at y of the layer z, and below z.
pub record AtColumn (isSolid : Bool) (n l most : ℕ) (ws : List ℕ) (grid : Grid) (ns : List ℕ) (i px y z : ℕ)
    (b₀ b : List ℕ) (count x : ℕ) : Type 0 where
  pub place : Upward isSolid n l most ws grid ns (along_x l i y z n px) (row_left x y z n px) i px b₀ b count x

pub record AtRow (isSolid : Bool) (n l most : ℕ) (ws : List ℕ) (grid : Grid) (ns : List ℕ) (i px j py z : ℕ)
    (b₀ b : List ℕ) (count y : ℕ) : Type 0 where
  pub place : Upward isSolid n l most ws grid ns (along_y l l i j z n px py) (rows_left y l i z n px py) j py b₀ b count y

pub record AtLayer (isSolid : Bool) (n l most : ℕ) (ws : List ℕ) (grid : Grid) (ns : List ℕ) (i px j py k pz : ℕ)
    (b₀ b : List ℕ) (count z : ℕ) : Type 0 where
  pub place : Downward isSolid n l most ws grid ns (along_z l l i j k n px py pz)
      (along_z l l i j k n px py z) k pz b₀ b count z

module _ {isSolid : Bool} {n l most : ℕ} {ws : List ℕ} {grid : Grid} {ns : List ℕ} {i px y z : ℕ} where
  pub row_begins : (b : List ℕ) → 1 ≤ n → px ≤ i + l * n → AtColumn isSolid n l most ws grid ns i px y z b b 0 i
  row_begins b o f = record { place = up_starts b (row_start y z n px o l i f) o f }

  module _ {b₀ b : List ℕ} {count x : ℕ} (u : AtColumn isSolid n l most ws grid ns i px y z b₀ b count x) where
    pub row_again : {d : ℕ} {b' : List ℕ} → x < px → Visits isSolid most ws grid ns (region x y z n) b b' d
        → length b' ≡ length b → AtColumn isSolid n l most ws grid ns i px y z b₀ b' (count + d) (x + n)
    row_again t v e = record { place = up_one u.place t (row_step y z n px u.place.some x t) v e }

    pub row_done : {total : ℕ} → px ≤ x → l * most ≤ total → Folds isSolid total ws grid ns
        (along_x l i y z n px) b₀ b count
    row_done t m = up_done u.place (row_end y z n px u.place.some x t) m

module _ {isSolid : Bool} {n l most : ℕ} {ws : List ℕ} {grid : Grid} {ns : List ℕ} {i px j py z : ℕ} where
  pub rows_begin : (b : List ℕ) → 1 ≤ n → py ≤ j + l * n → AtRow isSolid n l most ws grid ns i px j py z b b 0 j
  rows_begin b o f = record { place = up_starts b (rows_start l i z n px py o l j f) o f }

  module _ {b₀ b : List ℕ} {count y : ℕ} (u : AtRow isSolid n l most ws grid ns i px j py z b₀ b count y) where
    pub rows_again : {d : ℕ} {b' : List ℕ} → y < py → Folds isSolid most ws grid ns (along_x l i y z n px) b b' d
        → length b' ≡ length b → AtRow isSolid n l most ws grid ns i px j py z b₀ b' (count + d) (y + n)
    rows_again t v e = record { place = up_list u.place t (rows_step l i z n px py u.place.some y t) v e }

    pub rows_done : {total : ℕ} → py ≤ y → l * most ≤ total → Folds isSolid total ws grid ns
        (along_y l l i j z n px py) b₀ b count
    rows_done t m = up_done u.place (rows_end l i z n px py u.place.some y t) m

module _ {isSolid : Bool} {n l most : ℕ} {ws : List ℕ} {grid : Grid} {ns : List ℕ} {i px j py k pz : ℕ} where
  -- From the least k + a·n that is not before pz.
  pub layers_begin : (b : List ℕ) (z : ℕ) → 1 ≤ n → k ≤ z → (z - k) % n ≡ 0 → pz ≤ z → z < pz + n → z ≤ k + l * n
      → AtLayer isSolid n l most ws grid ns i px j py k pz b b 0 z
  layers_begin b z o f e p t w =
      record { place = down_starts b z (layers_start l l i j k n px py o pz z f e p t) o f e t w }

  module _ {b₀ b : List ℕ} {count z : ℕ} (u : AtLayer isSolid n l most ws grid ns i px j py k pz b₀ b count z) where
    pub layers_again : {d : ℕ} {b' : List ℕ} → k < z → Folds isSolid most ws grid ns
        (along_y l l i j (z - n) n px py) b b' d
        → length b' ≡ length b → AtLayer isSolid n l most ws grid ns i px j py k pz b₀ b' (count + d) (z - n)
    layers_again t v e =
        let p = u.place in
        record { place = down_list p t (layers_step l l i j k n px py p.some z t (down_within p) p.even) v e }

    pub layers_done : {total : ℕ} → z ≤ k → l * most ≤ total
        → Folds isSolid total ws grid ns (along_z l l i j k n px py pz) b₀ b count
    layers_done t m = down_done u.place (layers_end l l i j k n px py u.place.some z t) m
