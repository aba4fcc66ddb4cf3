-- What document 02 asks to be shown of a probe, of what the call returns, with enums and without: it ran the tape at a
-- point that is, on each axis, never above the coordinate and less than one unit below it, the answer is the side of the
-- value there, and the number in it is exactly that value divided by 65,536.
use mathlib.Core.Path.{◌≡◌, refl, sym, ap, ◌∙◌}
use mathlib.Core.Bool.{true, false, ◌&&◌, not}
use mathlib.Core.List.{List}
use lib.IntN.{ℤ, pos, negsuc}
use Prim.Native.Nat.{ℕ, zero, suc, ◌≤◌}
use native.Mathlib.Omega.{arith}
use lib.Ieee.{Float, fin}
use borrow.Author.Tests.{not-false, eq-eqb, lt-ltb}
use Rattle.rules.specs.Values.{IsValue, is_neg, below, range, Box}
use Rattle.rules.specs.Tapes.{read_tape}
use Rattle.rules.specs.Probes as R
use Rattle.rules.specs.Probes.{RoundsDown, Exactly, coordinate_ok, rounded_point, probe_lines, probe_fault, probed_value}
use Rattle.rules.proofs.Tests.{and_left, and_right, last_off}
use Rattle.rules.proofs.Lines.{each_line}
use Rattle.rules.proofs.Order.{Holds, at_most_refl, holds_value}
use Rattle.rules.proofs.Runs.{in_range, accepted_good}
use Rattle.rules.proofs.Probes.{rounded_down_lem, rounded_value, stored_exactly}
use Rattle.promises.specs.declared.Probed.{Probed}
use Rattle.promises.specs.declared.Sided.{Sided}
use Rattle.promises.specs.declared.Point.{Point}
use Rattle.promises.specs.declared.Probe.TheVariants.{Inside, Outside, Surface, Refused}
use Rattle.promises.specs.Sides.{point_in, side_of, side_number, side_value}
use Rattle.promises.specs.Says.{ProbeSays, SidedSays}

-- What a probe that no line refuses is lent: an accepted tape, and coordinates that are taken.
pub record Coordinates (p : R.Point) : Type 0 where
  pub x : coordinate_ok p.x ≡ true
  pub y : coordinate_ok p.y ≡ true
  pub z : coordinate_ok p.z ≡ true

pub coordinates : (p : R.Point) → R.point_fault p ≡ 0 → Coordinates p
unfolding R.point_fault
coordinates p e =
    let x = coordinate_ok p.x in
    let y = coordinate_ok p.y in
    let z = coordinate_ok p.z in
    let t = not-false (x && (y && z)) (last_off (not (x && (y && z))) 19 e) in
    record {
      x = and_left x (y && z) t;
      y = and_left y z (and_right x (y && z) t);
      z = and_right y z (and_right x (y && z) t);
    }

pub record Clear (s : List ℕ) (p : R.Point) : Type 0 where
  pub read : (read_tape s).number ≡ 0
  pub point : R.point_fault p ≡ 0

pub clear : (s : List ℕ) (p : R.Point) → probe_fault s p ≡ 0 → Clear s p
clear s p e = let z = each_line (probe_lines s p) e in record { read = z 0; point = z 1 }

-- The value at a point is a value: the point is a box of one sample.
at_one : (z : ℤ) → IsValue z → Holds (range z z) z
at_one z h =
    record { low_value = h; high_value = h; above = at_most_refl z; under = at_most_refl z }

probed_value_lem : (s : List ℕ) (p : Point) → probe_fault s (point_in p) ≡ 0 → IsValue (probed_value s (point_in p))
probed_value_lem s p e =
    let k = clear s (point_in p) e in
    let c = coordinates (point_in p) k.point in
    let q = rounded_point (point_in p) in
    let b : Box = record { xs = range q.x q.x; ys = range q.y q.y; zs = range q.z q.z } in
    holds_value
    (in_range (read_tape s).tape (accepted_good s k.read) b q
    (record {
      xs = at_one q.x (rounded_value p.x c.x);
      ys = at_one q.y (rounded_value p.y c.y);
      zs = at_one q.z (rounded_value p.z c.z);
    }))

-- What a side's number n and its value a say of the value v at the point: 1 inside, 2 outside, 3 surface. 0, which is
-- the side of a refusal, is none of them.
pub record SideShown (v : ℤ) (n : ℕ) (a : Float) : Type 0 where
  pub inside : n ≡ 1 → (is_neg v ≡ true) × Exactly v a
  pub outside : n ≡ 2 → (below (pos 0) v ≡ true) × Exactly v a
  pub surface : n ≡ 3 → (v ≡ pos 0) × (a ≡ fin false 0 (pos 0))
  pub not_refused : 1 ≤ n
  pub no_other : n ≤ 3

side_shown : (v : ℤ) → IsValue v → SideShown v (side_number (side_of v)) (side_value (side_of v))
side_shown (pos zero) k =
    record {
      inside = λ e. absurd (omega arith);
      outside = λ e. absurd (omega arith);
      surface = λ e. (refl, refl);
      not_refused = omega arith;
      no_other = omega arith;
    }
side_shown (pos (suc n)) k =
    record {
      inside = λ e. absurd (omega arith);
      outside = λ e. (lt-ltb 0 (suc n) (omega arith), stored_exactly (pos (suc n)) k);
      surface = λ e. absurd (omega arith);
      not_refused = omega arith;
      no_other = omega arith;
    }
side_shown (negsuc n) k =
    record {
      inside = λ e. (refl, stored_exactly (negsuc n) k);
      outside = λ e. absurd (omega arith);
      surface = λ e. absurd (omega arith);
      not_refused = omega arith;
      no_other = omega arith;
    }

-- The point that the tape was run at.
pub record PointShown (p : Point) : Type 0 where
  pub x : RoundsDown p.x (rounded_point (point_in p)).x
  pub y : RoundsDown p.y (rounded_point (point_in p)).y
  pub z : RoundsDown p.z (rounded_point (point_in p)).z

point_shown : (p : Point) → PointShown p
point_shown p = record { x = rounded_down_lem p.x; y = rounded_down_lem p.y; z = rounded_down_lem p.z }

-- What holds of a probe that is done, for callers without enums.
pub record SidedShown (s : List ℕ) (p : Point) (r : Sided) : Type 0 where
  pub point : PointShown p
  pub side : SideShown (probed_value s (point_in p)) r.side r.value

pub sided_shown : (s : List ℕ) (p : Point) (r : Sided) → SidedSays s p r → r.answer.number ≡ 0 → SidedShown s p r
sided_shown s p r f e =
    let v = probed_value s (point_in p) in
    let z : probe_fault s (point_in p) ≡ 0 = sym f.answer.number ∙ e in
    let t = eq-eqb (probe_fault s (point_in p)) 0 z in
    let n : r.side ≡ side_number (side_of v) = f.side ∙ rw t in
    let a : r.value ≡ side_value (side_of v) = f.value ∙ rw t in
    record { point = point_shown p; side = rw (n, a) (side_shown v (probed_value_lem s p z)) }

-- And with enums.
pub record ProbeShown (s : List ℕ) (p : Point) (r : Probed) : Type 0 where
  pub point : PointShown p
  pub inside : let v = probed_value s (point_in p) in
      (a : Float) → r.probe ≡ Inside a → (is_neg v ≡ true) × Exactly v a
  pub outside : let v = probed_value s (point_in p) in
      (a : Float) → r.probe ≡ Outside a → (below (pos 0) v ≡ true) × Exactly v a
  pub surface : r.probe ≡ Surface → probed_value s (point_in p) ≡ pos 0
  pub not_refused : r.probe ≡ Refused → ⊥

pub probe_shown : (s : List ℕ) (p : Point) (r : Probed) → ProbeSays s p r → r.answer.number ≡ 0 → ProbeShown s p r
probe_shown s p r f e =
    let v = probed_value s (point_in p) in
    let z : probe_fault s (point_in p) ≡ 0 = sym f.answer.number ∙ e in
    let t = eq-eqb (probe_fault s (point_in p)) 0 z in
    let side : r.probe ≡ side_of v = f.side ∙ rw t in
    let w : SideShown v (side_number r.probe) (side_value r.probe) = rw side (side_shown v (probed_value_lem s p z)) in
    record {
      point = point_shown p;
      inside = λ a h. (rw h at w).inside refl;
      outside = λ a h. (rw h at w).outside refl;
      surface = λ h. ((rw h at w).surface refl).0;
      not_refused = λ h. omega (arith, w.not_refused, ap side_number h);
    }
