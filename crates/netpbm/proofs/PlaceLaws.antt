-- The places of a number in decimal: from the ones up to the first digit, and down again, one digit a place.
use mathlib.Core.Path.{◌≡◌, refl, sym, ap, ◌∙◌}
use mathlib.Core.List.{[], ◌∷◌, ◌++◌}
use Prim.Native.Nat.{ℕ, zero, suc, ◌+◌, ◌*◌, ◌/◌, ◌%◌, ◌^◌, ◌<◌, ◌≤◌, max}
use native.Mathlib.Decide.{dec_lt}
use native.Mathlib.Nat.{pow-succ', one-le-pow, le_trans, div-le_self, div-one, div-div-eq-div-mul, le-div_iff_mul-le}
use native.Mathlib.Omega.{arith}
use lib.ListN.{length, length-append}
use Rattle.rules.specs.Pictures.{numeral}
use Rattle.netpbm.specs.Places.{Place}
use Rattle.netpbm.proofs.Digits.{digit, digits, length_digits}

pub positive : {v p : ℕ} → Place v p → 1 ≤ p
positive {v} {p} l = rw l.power (one-le-pow l.exponent 10 (omega arith))

pub ones : (v : ℕ) → Place v 1
ones v = record { exponent = 0; power = refl; held = omega arith }

pub place_fits : {v p : ℕ} → Place v p → 10 ≤ v / p → 10 * p ≤ v
place_fits l h = (le-div_iff_mul-le (positive l)).0 h

pub place_up : {v p : ℕ} → Place v p → 10 ≤ v / p → Place v (p * 10)
place_up {v} {p} l h =
    let power : 10 ^ suc l.exponent ≡ 10 * 10 ^ l.exponent = pow-succ' 10 l.exponent in
    let fits : 10 * p ≤ v = place_fits l h in
    record { exponent = suc l.exponent; power = omega arith; held = omega arith }

-- The digits down to a place are no more than all.
shorter : (e v : ℕ) → v < 10 ^ 20 → length (numeral (v / 10 ^ e)) ≤ length (numeral v)
shorter zero v h = omega (arith, ap (λ n. length (numeral n)) (div-one v))
shorter (suc e) v h =
    let same : v / 10 / 10 ^ e ≡ v / 10 ^ suc e = div-div-eq-div-mul v 10 (10 ^ e) ∙ ap (λ n. v / n)
    (sym (pow-succ' 10 e)) in
    rw same at (le_trans (shorter e (v / 10) (omega arith)) tenth)
  where
    tenth : length (numeral (v / 10)) ≤ length (numeral v)
    tenth =
        elim (dec_lt v 10) [
          | yes k ↦ omega (arith, ap length (digit v k), ap length (digit (v / 10) (omega arith)))
          | no k ↦ omega (arith, length_digits v (omega arith) h)
        ]

-- The place below.
lower : (v e p : ℕ) → p ≡ 10 ^ e → p ≤ max 1 v → 10 ≤ p → Place v (p / 10) × (p ≡ p / 10 * 10)
lower v zero p q h k = absurd (omega arith)
lower v (suc e) p q h k =
    let power : 10 ^ suc e ≡ 10 * 10 ^ e = pow-succ' 10 e in
    (record { exponent = e; power = omega arith; held = omega arith }, omega arith)

-- One digit more, and room for it.
module _ {v p : ℕ} (l : Place v p) (h : 10 ≤ p) where
  pub place_down : Place v (p / 10)
  place_down = (lower v l.exponent p l.power l.held h).0

  less_one : v / (p / 10) / 10 ≡ v / p
  less_one = div-div-eq-div-mul v (p / 10) 10 ∙ ap (λ n. v / n)
      (sym (lower v l.exponent p l.power l.held h).1)

  some : 1 ≤ v / p
  some = (le-div_iff_mul-le (positive l)).1 (omega arith)

  pub digit_more : v < 10 ^ 20 → numeral (v / (p / 10)) ≡ numeral (v / p) ++ ((48 + v / (p / 10) % 10) ∷ [])
  digit_more k =
      digits (v / (p / 10)) (omega (arith, less_one, some)) (omega (arith, div-le_self v (p / 10)))
      ∙ ap (λ n. numeral n ++ ((48 + v / (p / 10) % 10) ∷ [])) less_one

  pub room_more : v < 10 ^ 20 → length (numeral (v / p)) < length (numeral v)
  room_more k =
      let q = place_down in
      let front : length (numeral (v / (p / 10))) ≤ length (numeral v) = rw q.power (shorter q.exponent v k) in
      omega (arith, simp length-append at (ap length (digit_more k)))

-- The place below 10 is that of the ones: the digits down to it are all.
smallest : (e : ℕ) {p : ℕ} → p ≡ 10 ^ e → p < 10 → p ≡ 1
smallest zero q h = q
smallest (suc e) {p} q h =
    let power : 10 ^ suc e ≡ 10 * 10 ^ e = pow-succ' 10 e in
    let some : 1 ≤ 10 ^ e = one-le-pow e 10 (omega arith) in
    absurd (omega arith)

pub all_digits : {v p : ℕ} → Place v p → p < 10 → numeral (v / p) ≡ numeral v
all_digits {v} l h = ap (λ n. numeral (v / n)) (smallest l.exponent l.power h) ∙ ap numeral (div-one v)
