-- A number in decimal: its last digit, and how many digits it has.
use mathlib.Core.Path.{◌≡◌, refl, sym, ap, ◌∙◌}
use mathlib.Core.List.{[], ◌∷◌, ◌++◌}
use Prim.Native.Nat.{ℕ, zero, suc, ◌+◌, ◌*◌, ◌/◌, ◌%◌, ◌^◌, ◌<◌, ◌≤◌}
use native.Mathlib.Decide.{dec_lt}
use native.Mathlib.Nat.{pow-succ'}
use native.Mathlib.Omega.{arith}
use lib.ListN.{length, length-append}
use borrow.Author.Tests.{lt-ltb, le-ltb}
use Rattle.rules.specs.Pictures.{digits_from, decimal}
use Rattle.rules.specs.Pictures.{numeral}

last : (l v : ℕ) → v < 10 → digits_from (suc l) v ≡ (48 + v) ∷ []
unfolding digits_from
last l v h = rw (lt-ltb v 10 h, digits_from) refl

more : (l v : ℕ) → 10 ≤ v → digits_from (suc l) v ≡ digits_from l (v / 10) ++ ((48 + v % 10) ∷ [])
unfolding digits_from
more l v h = rw (le-ltb v 10 h, digits_from) refl

-- Room for more digits changes nothing once the number fits.
enough : (l m v : ℕ) → l ≤ m → v < 10 ^ suc l → digits_from (suc m) v ≡ digits_from (suc l) v
enough zero m v f h = last m v (omega arith) ∙ sym (last 0 v (omega arith))
enough (suc l) zero v f h = absurd (omega arith)
enough (suc l) (suc m) v f h =
    let power : 10 ^ suc (suc l) ≡ 10 * 10 ^ suc l = pow-succ' 10 (suc l) in
    by_size (enough l m (v / 10) (omega arith) (omega arith))
  where
    by_size : digits_from (suc m) (v / 10) ≡ digits_from (suc l) (v / 10) → digits_from (suc (suc m)) v
        ≡ digits_from (suc (suc l)) v
    by_size e =
        elim (dec_lt v 10) [
          | yes k ↦ last (suc m) v k ∙ sym (last (suc l) v k)
          | no k ↦ more (suc m) v (omega arith) ∙ ap (λ s. s ++ ((48 + v % 10) ∷ [])) e
              ∙ sym (more (suc l) v (omega arith))
        ]

-- A number of 64 bits: what its last digit leaves.
pub digit : (v : ℕ) → v < 10 → numeral v ≡ (48 + v) ∷ []
digit v h = last 19 v h

pub digits : (v : ℕ) → 10 ≤ v → v < 10 ^ 20 → numeral v ≡ numeral (v / 10) ++ ((48 + v % 10) ∷ [])
digits v h k =
    more 19 v h ∙ ap (λ s. s ++ ((48 + v % 10) ∷ [])) (sym (enough 18 19 (v / 10) (omega arith) (omega arith)))

pub length_digits : (v : ℕ) → 10 ≤ v → v < 10 ^ 20 → length (numeral v) ≡ length (numeral (v / 10)) + 1
length_digits v h k = ap length (digits v h k) ∙ length-append (numeral (v / 10)) ((48 + v % 10) ∷ [])

pub least_length : (v : ℕ) → v < 10 ^ 20 → 1 ≤ length (numeral v)
least_length v h =
    elim (dec_lt v 10) [
      | yes k ↦ omega (arith, ap length (digit v k))
      | no k ↦ omega (arith, length_digits v (omega arith) h)
    ]

most : (l v : ℕ) → length (digits_from l v) ≤ l
unfolding digits_from
most zero v = omega arith
most (suc l) v = by_size (most l (v / 10))
  where
    by_size : length (digits_from l (v / 10)) ≤ l → length (digits_from (suc l) v) ≤ suc l
    by_size e =
        elim (dec_lt v 10) [
          | yes k ↦ omega (arith, ap length (last l v k))
          | no k ↦ omega
              (arith, ap length (more l v (omega arith)), length-append (digits_from l (v / 10)) ((48 + v % 10) ∷ []))
        ]

pub most_length : (v : ℕ) → length (numeral v) ≤ 20
most_length v = most 20 v

-- A file's sizes have room for 5 digits.
pub as_size : (v : ℕ) → v < 1000 → numeral v ≡ decimal v
as_size v h = enough 4 19 v (omega arith) (omega arith)

pub few_digits : (v : ℕ) → v < 1000 → length (decimal v) ≤ 3
few_digits v h = omega (arith, ap length (enough 2 4 v (omega arith) (omega arith)), most 3 v)
