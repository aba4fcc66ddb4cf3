-- The step down from an estimate comes to the root.
use mathlib.Core.Path.{◌≡◌, refl, sym, ap, ◌∙◌}
use mathlib.Core.Bool.{Bool, true, false, cond}
use native.Mathlib.Nat.{lt_of_mul-lt-mul_right, le_of_mul-le-mul_right}
use native.Mathlib.Omega.{arith}
use Prim.Native.Nat.{ℕ, zero, suc, ◌+◌, ◌-◌, ◌*◌, ◌^◌, ◌<◌, ◌≤◌}
use lib.Dec.{ltb, lit<}
use borrow.Author.Tests.{ltb-true}
use lib.IntN.{pos, negsuc, ◌-ℤ◌}
use lib.Pow.{pow_pos}
use mir.Syntax.{w32}
use mir.Val.{SFits}
use lib.Ieee.{Float, fin, binary64, sub, mul, lt}
use lib.Ieee.Exact.{HasValue}
use Rattle.rules.specs.Values.{root_of}
use Rattle.rules.proofs.Root.{root_is}
use Rattle.roots.specs.Estimates.{number_of, digits_of, Estimate}
use Rattle.roots.proofs.FirstEstimate.{number_size, number_value}
use Rattle.roots.proofs.Floats.{lt_true, lt_false, sub_exact, square_exact}

-- x < s·s is 65,536·m < e·e
above : (m e p : ℕ) → (131072 * m + 1) * p * 65536 < e * e * (131072 * p) → 65536 * m < e * e
above m e p h =
    let l : (131072 * m + 1) * 65536 * p < e * e * 131072 * p = omega arith in
    let k : (131072 * m + 1) * 65536 < e * e * 131072 = lt_of_mul-lt-mul_right p l in
    omega arith

not_above : (m e p : ℕ) → 0 < p → e * e * (131072 * p) ≤ (131072 * m + 1) * p * 65536 → e * e ≤ 65536 * m
not_above m e p P h =
    let l : e * e * 131072 * p ≤ (131072 * m + 1) * 65536 * p = omega arith in
    let k : e * e * 131072 ≤ (131072 * m + 1) * 65536 = le_of_mul-le-mul_right l P in
    omega arith

less_one : (k : ℕ) → pos (suc k) -ℤ pos 1 ≡ pos k
less_one k = by (ltb (suc k) 1) refl
  where
    by : (t : Bool) → ltb (suc k) 1 ≡ t → cond t (negsuc (1 - suc (suc k))) (pos (suc k - 1)) ≡ pos k
    by true e = absurd (omega (arith, ltb-true (suc k) 1 e))
    by false e = ap pos (omega arith)

-- e is the number that the digits stand for
down_root : (m e : ℕ) → m < 2147483648 → ((k : ℕ) → k + 1 ≡ e → k * k ≤ 65536 * m) → 65536 * m < e * e → pos e -ℤ pos 1 ≡ root_of (pos m)
down_root m zero h l g = absurd (omega arith)
down_root m (suc k) h l g = less_one k ∙ sym (root_is m k (omega arith) (l k (omega arith)) g)

kept_root : (m e : ℕ) → m < 2147483648 → e * e ≤ 65536 * m → 65536 * m < (e + 1) * (e + 1) → pos e ≡ root_of (pos m)
kept_root m e h l g = sym (root_is m e (omega arith) l (omega arith))

module _ (x t s : Float) (m : ℕ) (h : m < 2147483648) (is : x ≡ number_of m) (near : Estimate m t) (q : s ≡ sub binary64 t (fin false 1 (pos 44))) where
  small : digits_of t < 16777216
  small = omega arith

  number : HasValue x false (number_size m) (2 ^ 1074)
  number = rw is (number_value m h)

  squared : HasValue (mul binary64 s s) false (digits_of t * digits_of t) 65536
  squared = rw q (square_exact (sub binary64 t (fin false 1 (pos 44))) (digits_of t) small (sub_exact t (digits_of t) small near.value))

  pub stepped_down : lt x (mul binary64 s s) ≡ true → pos (digits_of t) -ℤ pos 1 ≡ root_of (pos m)
  stepped_down e =
      down_root m (digits_of t) h near.low
      (above m (digits_of t) (2 ^ 1057)
      (lt_true x (mul binary64 s s) (number_size m) (2 ^ 1074) (digits_of t * digits_of t) 65536 (pow_pos 1074) (lit< tt) number squared e))

  pub stepped_not : lt x (mul binary64 s s) ≡ false → pos (digits_of t) ≡ root_of (pos m)
  stepped_not e =
      kept_root m (digits_of t) h
      (not_above m (digits_of t) (2 ^ 1057) (pow_pos 1057)
      (lt_false x (mul binary64 s s) (number_size m) (2 ^ 1074) (digits_of t * digits_of t) 65536 (pow_pos 1074) (lit< tt) number squared e))
      near.high

-- one less fits, and none less
pub fits_less : (n : ℕ) → n < 16777216 → SFits w32 (pos n -ℤ pos 1)
fits_less zero h = record { sfits = omega arith }
fits_less (suc n) h = rw (less_one n) (record { sfits = omega arith })

pub fits_same : (n : ℕ) → n < 16777216 → SFits w32 (pos n -ℤ pos 0)
fits_same n h = record { sfits = omega arith }
