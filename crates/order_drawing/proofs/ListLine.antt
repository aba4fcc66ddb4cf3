-- Line 12 of a list, as it comes out.
use mathlib.Core.Path.{◌≡◌}
use mathlib.Core.Bool.{true, false, not}
use mathlib.Core.List.{List}
use Prim.Native.Nat.{ℕ}
use Rattle.rules.specs.Values.{when}
use Rattle.order_rules.specs.Orders.{is_order}

pub no_list : (n : ℕ) (ks : List ℕ) → is_order n ks ≡ false → 12 ≡ when (not (is_order n ks)) 12
no_list n ks e = rw e

pub a_list : (n : ℕ) (ks : List ℕ) → is_order n ks ≡ true → 0 ≡ when (not (is_order n ks)) 12
a_list n ks e = rw e
