-- What an accepted grid gives: its sizes, and that every sample within them is a value.
use mathlib.Core.Path.{◌≡◌, refl, sym, ◌∙◌}
use mathlib.Core.Bool.{Bool, true, false, ◌&&◌, ◌||◌, not, false≢true}
use Prim.Native.Nat.{ℕ, ◌≤◌, ◌<◌}
use native.Mathlib.Omega.{arith}
use lib.Dec.{leb}
use borrow.Author.Tests.{leb-true, le-leb}
use Rattle.rules.specs.Values.{pick, first_of, when, IsValue}
use Rattle.rules.specs.Drawings.{at, size_limit, size_ok, sizes_ok, axes_ok, grid_fault, solid}
use Rattle.rules.proofs.Order.{and_left, and_right}
use Rattle.rules.proofs.Grids.{Sound, axis_value, accepted_sound}
use Rattle.picture.specs.Shapes.{grid_in}
use Rattle.picture.specs.declared.grid.Grid.{Grid}

pub record Size (n : ℕ) : Type 0 where
  pub least : 1 ≤ n
  pub most : n ≤ size_limit

pub record Sizes (isSolid : Bool) (grid : Grid) : Type 0 where
  pub width : Size grid.width
  pub height : Size grid.height
  pub depth : isSolid ≡ true → Size grid.depth

size : (n : ℕ) → size_ok n ≡ true → Size n
size n e =
    record {
      least = leb-true 1 n (and_left (leb 1 n) (leb n size_limit) e);
      most = leb-true n size_limit (and_right (leb 1 n) (leb n size_limit) e);
    }

size_solid : (t : Bool) (n : ℕ) → (not t || size_ok (pick t n 0)) ≡ true → t ≡ true → Size n
size_solid true n e h = size n e
size_solid false n e h = absurd (false≢true h)

pub sizes : (grid : Grid) (t : Bool) → sizes_ok t (grid_in grid t) ≡ true → Sizes t grid
sizes grid t e =
    let w = size_ok grid.width in
    let h = size_ok grid.height in
    let d = not t || size_ok (pick t grid.depth 0) in
    record {
      width = size grid.width (and_left w (h && d) e);
      height = size grid.height (and_left h d (and_right w (h && d) e));
      depth = size_solid t grid.depth (and_right h d (and_right w (h && d) e));
    }

-- What a grid that no line refuses gives.
pub record Accepted (grid : Grid) (isSolid : Bool) : Type 0 where
  pub sizes : Sizes isSolid grid
  pub kind : isSolid ≡ solid (grid_in grid isSolid)
  pub x_value : (i : ℕ) → i < grid.width → IsValue (at grid.xorigin grid.xstep i)
  pub y_value : (j : ℕ) → j < grid.height → IsValue (at grid.yorigin grid.ystep j)
  pub z_value : isSolid ≡ true → (k : ℕ) → k < grid.depth → IsValue (at grid.zorigin grid.zstep k)
  pub flat_z : IsValue grid.zorigin

sizes_first : (s a : Bool) → first_of (when (not s) 10) (when (not a) 11) ≡ 0 → s ≡ true
sizes_first true a e = refl
sizes_first false a e = absurd (omega arith)

-- A grid without a fault is solid or flat as it was asked for.
kind_of : (t : Bool) (n : ℕ) → (t ≡ true → Size n) → t ≡ leb 1 (pick t n 0)
kind_of true n f = sym (le-leb 1 n (f refl).least)
kind_of false n f = refl

axes : (t : Bool) (grid : Grid) (k : t ≡ solid (grid_in grid t)) → Sizes t grid → Sound (grid_in grid t) → Accepted grid t
axes t grid k z s =
    record {
      sizes = z;
      kind = k;
      x_value = axis_value s.xs;
      y_value = axis_value s.ys;
      z_value = λ e i l. axis_value (s.zs (sym k ∙ e)) i (rw e l);
      flat_z = s.z_value;
    }

pub accepted : (grid : Grid) (t : Bool) → grid_fault t (grid_in grid t) ≡ 0 → Accepted grid t
unfolding grid_fault
accepted grid t e =
    let z = sizes grid t (sizes_first (sizes_ok t (grid_in grid t)) (axes_ok t (grid_in grid t)) e) in
    let k = kind_of t grid.depth z.depth in
    axes t grid k z (accepted_sound (grid_in grid t) t k e)
