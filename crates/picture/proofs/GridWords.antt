-- A grid's numbers in machine words, and a sample computed in 64 bits.
use mathlib.Core.Path.{◌≡◌, ap, ◌∙◌}
use mathlib.Core.Bool.{false, true≢false}
use lib.IntN.{ℤ, pos, negsuc, neg_ℤ, ◌+ℤ◌, ◌*ℤ◌}
use lib.Signed.{mag, lt_z, shr_z}
use Prim.Native.Nat.{ℕ, zero, suc, ◌+◌, ◌*◌, ◌/◌, ◌^◌, ◌≤◌, ◌<◌}
use native.Mathlib.Nat.{mul-le-mul}
use native.Mathlib.Omega.{arith}
use mir.Syntax.{w32, w64}
use mir.Val.{Fits, SFits, to_z}
use mir.Facts.{to_z-of_z, to_z_pos}
use Rattle.rules.specs.Values.{IsValue}
use Rattle.rules.specs.Drawings.{at, axis_ok}
use Rattle.rules.proofs.Order.{up, down, sum_parts}
use Rattle.rules.proofs.Words.{read, wide, read_wide, both}
use Rattle.picture.specs.declared.grid.Grid.{Grid}

-- What a grid's type says of its fields with a sign, and where they stand in what is told of a grid.
pub record InWords (grid : Grid) : Type 0 where
  pub xorigin : SFits w32 grid.xorigin
  pub yorigin : SFits w32 grid.yorigin
  pub zorigin : SFits w32 grid.zorigin
  pub xstep : SFits w32 grid.xstep
  pub ystep : SFits w32 grid.ystep
  pub zstep : SFits w32 grid.zstep

abbrev Told : Type 0 → ℤ → Type 0
Told A z = A × (mag z < 2 ^ 31)

pub in_words : {P Q R A B C D E F : Type 0} {grid : Grid}
    → P × (Q × (R × (Told A grid.xorigin × (Told B grid.yorigin × (Told C grid.zorigin
    × (Told D grid.xstep × (Told E grid.ystep × (Told F grid.zstep × Unit {0}))))))))
    → InWords grid
in_words g =
    let s = g.1.1.1 in
    record {
      xorigin = record { sfits = s.0.1 };
      yorigin = record { sfits = s.1.0.1 };
      zorigin = record { sfits = s.1.1.0.1 };
      xstep = record { sfits = s.1.1.1.0.1 };
      ystep = record { sfits = s.1.1.1.1.0.1 };
      zstep = record { sfits = s.1.1.1.1.1.0.1 };
    }

-- A sample in 64 bits: step and origin have 32 bits, the index has 32 without a sign. The
-- beginning of a cell never leaves 64 bits.
record Bounded (a b : ℕ) (z : ℤ) : Type 0 where
  above : up z ≤ a
  under : down z ≤ b

word_bounded : (z : ℤ) → SFits w32 z → Bounded 2147483647 2147483648 z
word_bounded (pos n) f = record { above = omega arith; under = omega arith }
word_bounded (negsuc n) f = record { above = omega arith; under = omega arith }

fits_64 : (z : ℤ) → Bounded 9223372036854775807 9223372036854775808 z → SFits w64 z
fits_64 (pos n) b = omega arith
fits_64 (negsuc n) b = omega arith

-- neg_ℤ (pos n) is split here, since it is 0 or below.
negative_bounded : (a n : ℕ) → n ≤ a → Bounded 0 a (neg_ℤ (pos n))
negative_bounded a zero h = record { above = omega arith; under = omega arith }
negative_bounded a (suc n) h = record { above = omega arith; under = omega arith }

steps_bounded : (i : ℕ) (s : ℤ) → i ≤ 4294967295 → SFits w32 s
    → Bounded (4294967295 * 2147483647) (4294967295 * 2147483648) (pos i *ℤ s)
steps_bounded i (pos c) h f =
    let l : c ≤ 2147483647 = omega arith in
    let k : i * c ≤ 4294967295 * 2147483647 = mul-le-mul h l in
    record { above = k; under = omega arith }
steps_bounded i (negsuc c) h f =
    let l : suc c ≤ 2147483648 = omega arith in
    let k : i * suc c ≤ 4294967295 * 2147483648 = mul-le-mul h l in
    let b = negative_bounded (4294967295 * 2147483648) (i * suc c) k in
    record { above = omega arith; under = b.under }

bounded_sum : {a b c d : ℕ} (o p : ℤ) → Bounded a b o → Bounded c d p → Bounded (a + c) (b + d) (o +ℤ p)
bounded_sum {a} {b} {c} {d} o p h k = by (o +ℤ p) (sum_parts o p)
  where
    by : (z : ℤ) → up z + (down o + down p) ≡ down z + (up o + up p) → Bounded (a + c) (b + d) z
    by (pos n) e = record { above = omega arith; under = omega arith }
    by (negsuc n) e = record { above = omega arith; under = omega arith }

half_fits : (s : ℤ) → SFits w32 s → SFits w64 (shr_z s 2)
half_fits (pos c) f = omega arith
half_fits (negsuc c) f = omega arith

module _ (o s : ℤ) (i : ℕ) (fo : SFits w32 o) (fs : SFits w32 s) (fi : Fits w32 i) where
  steps_fit : SFits w64 (pos i *ℤ s)
  steps_fit = fits_64 (pos i *ℤ s) (omega (arith, steps_bounded i s (omega arith) fs))

  cell_bounded : Bounded (2147483647 + 4294967295 * 2147483647) (2147483648 + 4294967295 * 2147483648)
      (o +ℤ pos i *ℤ s)
  cell_bounded = bounded_sum o (pos i *ℤ s) (word_bounded o fo) (steps_bounded i s (omega arith) fs)

  cell_fits : SFits w64 (o +ℤ pos i *ℤ s)
  cell_fits = fits_64 (o +ℤ pos i *ℤ s) (omega (arith, cell_bounded))

  steps_same : to_z w64 i *ℤ wide s ≡ pos i *ℤ s
  steps_same = both ◌*ℤ◌ (to_z_pos w64 (omega arith)) (read_wide fs)

  cell_same : wide o +ℤ read w64 (to_z w64 i *ℤ wide s) ≡ o +ℤ pos i *ℤ s
  cell_same = both ◌+ℤ◌ (read_wide fo) (ap (read w64) steps_same ∙ to_z-of_z steps_fit)

  pub product_fits : SFits w64 (to_z w64 i *ℤ wide s)
  product_fits = rw steps_same steps_fit

  pub cell_sum_fits : SFits w64 (wide o +ℤ read w64 (to_z w64 i *ℤ wide s))
  cell_sum_fits = rw cell_same cell_fits

  sample_same : read w64 (wide o +ℤ read w64 (to_z w64 i *ℤ wide s)) +ℤ read w64 (shr_z (wide s) 2) ≡ at o s i
  sample_same = both ◌+ℤ◌ (ap (read w64) cell_same ∙ to_z-of_z cell_fits)
      (ap (λ z. read w64 (shr_z z 2)) (read_wide fs) ∙ to_z-of_z (half_fits s fs))

  pub sample_fits : SFits w64 (at o s i)
      → SFits w64 (read w64 (wide o +ℤ read w64 (to_z w64 i *ℤ wide s)) +ℤ read w64 (shr_z (wide s) 2))
  sample_fits f = rw sample_same f

  pub sample_is : SFits w64 (at o s i)
      → read w64 (read w64 (wide o +ℤ read w64 (to_z w64 i *ℤ wide s)) +ℤ read w64 (shr_z (wide s) 2)) ≡ at o s i
  sample_is f = ap (read w64) sample_same ∙ to_z-of_z f

-- A sample has 64 bits if its axis rises.
pub rising_fits : (o s : ℤ) (i : ℕ) → SFits w32 o → SFits w32 s → Fits w32 i → lt_z s (pos 1) ≡ false
    → SFits w64 (at o s i)
rising_fits o (pos c) i fo fs fi e =
    let half : Bounded 1073741823 0 (pos (c / 2)) = record { above = omega arith; under = omega arith } in
    fits_64 (at o (pos c) i)
    (omega (arith, bounded_sum (o +ℤ pos i *ℤ pos c) (pos (c / 2)) (cell_bounded o (pos c) i fo fs fi) half))
rising_fits o (negsuc c) i fo fs fi e = absurd (true≢false e)

-- A sample and an axis by the numbers that were read from words.
pub at_read : (o s : ℤ) (i : ℕ) → SFits w32 o → SFits w32 s → at (read w32 o) (read w32 s) i ≡ at o s i
at_read o s i fo fs = both (λ x y. at x y i) (to_z-of_z fo) (to_z-of_z fs)

pub axis_read : (o s : ℤ) (n : ℕ) → SFits w32 o → SFits w32 s → axis_ok (read w32 o) (read w32 s) n ≡ axis_ok o s n
axis_read o s n fo fs = both (λ x y. axis_ok x y n) (to_z-of_z fo) (to_z-of_z fs)

-- A value has 32 bits.
pub value_fits : (z : ℤ) → IsValue z → SFits w32 z
value_fits (pos n) v = omega arith
value_fits (negsuc n) v = omega arith
