-- Squares by sizes.
use mathlib.Core.Path.{◌≡◌, refl, sym}
use mathlib.Core.Bool.{true, false, true≢false}
use lib.Dec.{T}
use lib.IntN.{ℤ, pos, negsuc, neg_ℤ, nat_abs}
use lib.Signed.{lt_z, non_neg}
use Prim.Native.Nat.{ℕ, ◌*◌, ◌≤◌, ◌<◌}
use borrow.Author.Tests.{ltb-true, ltb-false}
use mir.Val.{Fits, SFits}
use mir.Syntax.{w32}
use native.Mathlib.Nat.{mul-le-mul}
use native.Mathlib.Omega.{arith}
use Rattle.rules.specs.Values.{product, square}
use Rattle.lanes.specs.Squares.{low_square, clipped_square}

-- The last size whose square is a value is 11,863,283.
pub past_last : (n : ℕ) → 11863283 < n → 2147483647 ≡ clipped_square n
past_last n h =
    let q : 11863284 * 11863284 ≤ n * n = mul-le-mul h h in omega arith

pub up_to_last : (n : ℕ) → n ≤ 11863283 → low_square n ≡ clipped_square n
up_to_last n h =
    let q : n * n ≤ 11863283 * 11863283 = mul-le-mul h h in omega arith

pub by_size : (z : ℤ) → pos (clipped_square (nat_abs z)) ≡ square z
unfolding square product
by_size (pos a) = refl
by_size (negsuc a) = refl

-- Tests of a number with a sign, as tests of its size.
pub size_past : (m : ℕ) (z : ℤ) → lt_z (pos m) z ≡ true → m < nat_abs z
size_past m (pos a) h = ltb-true m a h
size_past m (negsuc a) h = absurd (true≢false (sym h))

pub size_up_to : (m : ℕ) (z : ℤ) → lt_z z (pos 0) ≡ false → lt_z (pos m) z ≡ false → nat_abs z ≤ m
size_up_to m (pos a) g h = ltb-false m a h
size_up_to m (negsuc a) g h = absurd (true≢false g)

-- A number without a sign.
pub record Unsigned (z : ℤ) : Type 0 where
  pub up : T (non_neg z)
  pub fits : Fits w32 (nat_abs z)

pub negative : (z : ℤ) → SFits w32 z → lt_z z (pos 0) ≡ true → Unsigned (neg_ℤ z)
negative (pos a) f h = absurd (omega (arith, ltb-true a 0 h))
negative (negsuc a) f h = record { up = tt; fits = omega (arith, f.sfits) }

pub positive : (z : ℤ) → SFits w32 z → lt_z z (pos 0) ≡ false → Unsigned z
positive (pos a) f h = record { up = tt; fits = omega (arith, f.sfits) }
positive (negsuc a) f h = let e : ◌≡◌ {A = ℕ} 0 1 = cc in absurd (omega arith)
