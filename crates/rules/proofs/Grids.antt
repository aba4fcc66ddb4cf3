-- What an accepted grid gives: every sample of a region lies in the region's box, whose ends are values.
use mathlib.Core.Path.{◌≡◌, refl}
use mathlib.Core.Bool.{Bool, true, false, ◌&&◌, not, false≢true}
use lib.IntN.{ℤ, pos}
use Prim.Native.Nat.{ℕ, ◌+◌, ◌-◌, ◌≤◌, ◌<◌}
use native.Mathlib.Omega.{arith}
use borrow.Author.Tests.{not-false}
use Rattle.rules.specs.Values.{pick, when, IsValue, below, reaches, range}
use Rattle.rules.specs.Drawings.{Grid, at, solid, sample_at, axis_ok, sizes_ok, axes_ok, grid_fault, Region, lesser}
use Rattle.rules.specs.Drawings.{box_of}
use Rattle.rules.proofs.Order.{Holds, HoldsBox, at_most_refl, value_between, reaches_value, at_rises}
use Rattle.rules.proofs.Order.{above_origin}
use Rattle.rules.proofs.Tests.{and_left, and_right, tests_after, last_off}
use Rattle.rules.proofs.Regions.{Inside, InGrid, lesser_most, lesser_both, Fits, grid_fits}

-- An axis of n samples, which are values and do not fall.
pub record Axis (o s : ℤ) (n : ℕ) : Type 0 where
  pub origin : IsValue o
  pub rises : below (pos 0) s ≡ true
  pub last : IsValue (at o s (n - 1))

pub axis_value : {o s : ℤ} {n : ℕ} → Axis o s n → (i : ℕ) → i < n → IsValue (at o s i)
axis_value {o} {s} {n} a i l =
    value_between (at o s i) a.origin a.last (above_origin o s a.rises i)
    (at_rises o s a.rises i (n - 1) (omega arith))

-- The sample x lies between the first and the last of l samples from i on, cut at the grid's edge.
axis_holds : {o s : ℤ} {n : ℕ} → Axis o s n → (i l x : ℕ) → i ≤ x → x < i + l → x < n
    → Holds (range (at o s i) (at o s (lesser n (i + l) - 1))) (at o s x)
axis_holds {o} {s} {n} a i l x h k m =
    let p = lesser_both x n (i + l) m k in
    let q = lesser_most n (i + l) in
    record {
      low_value = axis_value a i (omega arith);
      high_value = axis_value a (lesser n (i + l) - 1) (omega arith);
      above = at_rises o s a.rises i x h;
      under = at_rises o s a.rises x (lesser n (i + l) - 1) (omega arith);
    }

z_holds : (t : Bool) (o s : ℤ) (d k l z : ℕ) → (t ≡ true → Axis o s d) → IsValue o → k ≤ z → z < k + l → z < pick t d 1
    → Holds (pick t (range (at o s k) (at o s (pick t (lesser d (k + l)) 1 - 1))) (range o o)) (pick t (at o s z) o)
z_holds true o s d k l z a v h m n = axis_holds (a refl) k l z h m n
z_holds false o s d k l z a v h m n =
    record { low_value = v; high_value = v; above = at_most_refl o; under = at_most_refl o }

-- A grid that is not refused.
pub record Sound (g : Grid) : Type 0 where
  pub xs : Axis g.origin_x g.step_x g.width
  pub ys : Axis g.origin_y g.step_y g.height
  pub zs : solid g ≡ true → Axis g.origin_z g.step_z g.depth
  pub z_value : IsValue g.origin_z
  pub fits : Fits g

pub box_holds : {g : Grid} → Sound g → (r : Region) (x y z : ℕ) → Inside r x y z → InGrid g x y z
    → HoldsBox (box_of g r) (sample_at g x y z)
unfolding box_of sample_at
box_holds {g} a r x y z i k =
    record {
      xs = axis_holds a.xs r.i r.long x i.x_from i.x_to k.x_in;
      ys = axis_holds a.ys r.j r.long y i.y_from i.y_to k.y_in;
      zs = z_holds (solid g) g.origin_z g.step_z g.depth r.k r.long z a.zs a.z_value i.z_from
          i.z_to
          k.z_in;
    }

-- The tests of a grid's axes, as facts.
axis_ok_lem : (o s : ℤ) (n : ℕ) → axis_ok o s n ≡ true → Axis o s n
axis_ok_lem o s n e =
    let f = and_right (reaches o) _ e in
    record {
      origin = reaches_value o (and_left (reaches o) _ e);
      rises = and_left (below (pos 0) s) _ f;
      last = reaches_value (at o s (n - 1)) (and_right (reaches s) _ (and_right (below (pos 0) s) _ f));
    }

z_ok : (t : Bool) (o s : ℤ) (n : ℕ) → pick t (axis_ok o s n) (reaches o) ≡ true → (t ≡ true → Axis o s n) × IsValue o
z_ok true o s n e = (λ h. axis_ok_lem o s n e, (axis_ok_lem o s n e).origin)
z_ok false o s n e = (λ h. absurd (false≢true h), reaches_value o e)

sound : (g : Grid) → grid_fault (solid g) g ≡ 0 → Sound g
unfolding grid_fault
sound g f =
    let x = axis_ok g.origin_x g.step_x g.width in
    let y = axis_ok g.origin_y g.step_y g.height in
    let z = pick (solid g) (axis_ok g.origin_z g.step_z g.depth) (reaches g.origin_z) in
    let a = not (axes_ok (solid g) g) in
    let e = not-false (x && (y && z)) (last_off a 10 (tests_after (not (sizes_ok (solid g) g)) 9 (when a 11) f)) in
    let h = and_right x (y && z) e in
    let k = z_ok (solid g) g.origin_z g.step_z g.depth (and_right y z h) in
    record {
      xs = axis_ok_lem g.origin_x g.step_x g.width (and_left x (y && z) e);
      ys = axis_ok_lem g.origin_y g.step_y g.height (and_left y z h);
      zs = k.0;
      z_value = k.1;
      fits = grid_fits g f;
    }

pub accepted_sound : (g : Grid) (isSolid : Bool) → isSolid ≡ solid g → grid_fault isSolid g ≡ 0 → Sound g
accepted_sound g isSolid e f = sound g (rw e at f)
