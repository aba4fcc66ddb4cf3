-- A visit to a region of side 16: its look, what it counts by itself, and what is inside.
use mathlib.Core.Path.{◌≡◌, refl, sym, subst}
use mathlib.Core.Bool.{true}
use mathlib.Core.List.{List}
use Prim.Native.Nat.{ℕ, ◌+◌, ◌*◌}
use native.Mathlib.Omega.{arith}
use lib.ListN.{length}
use Rattle.rules.specs.Drawings.{Region, grid_fault}
use Rattle.picture.specs.Shapes.{grid_in}
use Rattle.picture.specs.declared.grid.Grid.{Grid}
use Rattle.walk.specs.Cells.{CellOk, region_in}
use Rattle.walk.specs.Children.{children_in}
use Rattle.walk.specs.Walks.{Sound, Level, Visits, Folds, Looked}
use Rattle.walk.specs.declared.cell.Cell.{Cell}
use Rattle.walk.specs.declared.look.Seen.{Seen}
use Rattle.walk.specs.declared.look.Seen.TheVariants.{Done, Open}
use Rattle.walk.proofs.LookLaws.{done_visits, open_of, open_level}
use Rattle.walk.proofs.OpenLaws.{open_children}
use Rattle.solid_blocks.specs.Inside.{OwnRun, short_from, Short, Inside}
use Rattle.solid_blocks.specs.Sides.{below4, below16}

-- The cases of either function.
pub own_done : {v : Seen} {c n : ℕ} → v ≡ Done c → OwnRun v n c
own_done {c = c} {n = n} e = subst (λ u. OwnRun u n c) (sym e) (record { same = refl })

pub own_open : {v : Seen} {start n : ℕ} → v ≡ Open start → OwnRun v n n
own_open {n = n} e = subst (λ u. OwnRun u n n) (sym e) (record { same = refl })

pub inside_done : {v : Seen} {grid : Grid} {cell : Cell} {next b : List ℕ} {c : ℕ} → v ≡ Done c
    → Inside v grid cell next b b 0
inside_done {grid = grid} {cell = cell} {next = next} {b = b} e =
    subst (λ u. Inside u grid cell next b b 0) (sym e) (record { rest = (refl, refl) })

pub inside_open : {v : Seen} {grid : Grid} {cell : Cell} {next b b' : List ℕ} {start r : ℕ} → v ≡ Open start
    → Folds true (64 * 65) (short_from start next) grid below4 (children_in cell 4) b b' r
    → Inside v grid cell next b b' r
inside_open {grid = grid} {cell = cell} {next = next} {b = b} {b' = b'} {r = r} e f =
    subst (λ u. Inside u grid cell next b b' r) (sym e) (record { rest = f })

-- The words of the children of a region that is cut.
pub short_of : (whole ws : List ℕ) (grid : Grid) (r : Region) (b b₁ : List ℕ) (base : ℕ) (work next : List ℕ)
    {v : Seen} → Level whole ws → Looked true whole ws grid r b b₁ base work next v → (start : ℕ) → v ≡ Open start
    → Short whole next start
short_of whole ws grid r b b₁ base work next l j start e =
    let o = open_of true whole ws grid r b b₁ base work next j e in
    record { within = o.cut.start; level = open_level l o }

module _ (whole ws : List ℕ) (grid : Grid) (cell : Cell) (b b₁ : List ℕ) (base : ℕ) (work next : List ℕ) where
  -- At most 4,161 runs: the region, 64 of side 4 and 4,096 samples.
  pub inside_visits : (v : Seen) {own r : ℕ} {b' : List ℕ} → Sound ws → cell.side ≡ 16
      → grid_fault true (grid_in grid true) ≡ 0 → CellOk grid.depth grid cell
      → Looked true whole ws grid (region_in cell) b b₁ base work next v → OwnRun v (length ws) own
      → Inside v grid cell next b₁ b' r → Visits true 4161 ws grid below16 (region_in cell) b b' (own + r)
  inside_visits (Done c) {own} {r} s k e o j w i =
      let p = i.rest in
      let u : own + r ≡ c = omega (arith, w.same, p.1) in
      rw (u, p.0) (done_visits 4161 4 below4 refl (omega arith) j)
  inside_visits (Open start) s k e o j w i =
      rw w.same (open_children 4 4 s (omega arith) (omega arith) k e o j below4 (64 * 65) i.rest)
