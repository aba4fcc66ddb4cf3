-- Bounds of products and squares, and whole roots from the form that the code compares.
use mathlib.Core.Path.{◌≡◌, refl, sym}
use mathlib.Core.Bool.{Bool, true, false}
use lib.Dec.{ltb}
use lib.IntN.{pos}
use Prim.Native.Nat.{ℕ, ◌+◌, ◌*◌, ◌^◌, ◌≤◌, ◌<◌}
use native.Mathlib.Nat.{mul-le-mul}
use native.Mathlib.Numerals.{add-one}
use native.Mathlib.Omega.{arith}
use borrow.Author.Tests.{ltb-true, ltb-false}
use Rattle.rules.specs.Values.{root_of}
use Rattle.rules.proofs.Root.{root_is}

pub product_at_most : (a b p q : ℕ) → a ≤ p → b ≤ q → a * b ≤ p * q
product_at_most a b p q h k = mul-le-mul h k

-- A number with a square below 2^48 is below 2^24.
pub root_below : (r : ℕ) → r * r < 2 ^ 48 → r < 2 ^ 24
root_below r h = by (ltb r 16777216) refl
  where
    by : (t : Bool) → ltb r 16777216 ≡ t → r < 2 ^ 24
    by true e = ltb-true r 16777216 e
    by false e = omega (arith, product_at_most 16777216 16777216 r r (ltb-false r 16777216 e) (ltb-false r 16777216 e))

-- What settling leaves is the root.
pub settled_is_root : (m r : ℕ) → m ≤ 2147483647 → r * r ≤ m * 65536 → m * 65536 < (r + 1) * (r + 1)
    → pos r ≡ root_of (pos m)
settled_is_root m r h k l = sym (root_is m r h (omega arith) (rw add-one at swapped))
  where
    swapped : 65536 * m < (r + 1) * (r + 1)
    swapped = omega arith
