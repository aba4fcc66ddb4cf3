-- The numbers of an allowed text are values.
use mathlib.Core.Path.{◌≡◌, subst}
use mathlib.Core.Bool.{true}
use mathlib.Core.List.{List}
use lib.IntN.{ℤ, pos}
use Prim.Native.Nat.{ℕ, ◌-◌, ◌*◌, ◌/◌, ◌^◌, ◌≤◌, ◌<◌}
use native.Mathlib.Nat.{div-lt_iff_lt-mul, pow-suc}
use native.Mathlib.Omega.{arith}
use lib.Dec.{leb}
use borrow.Author.Tests.{leb-true}
use Rattle.rules.specs.Values.{IsValue}
use Rattle.formula_rules.specs.Trees.{Unary, Binary, Axis, Tree, number, axis, unary, binary, negate}
use Rattle.formula_rules.specs.Formulas.{is_digit, Digits, one, more, count, value, Number, whole, decimal, units, Sum}
use Rattle.formula_rules.specs.Formulas.{product, joined, Product, signed, multiplied, Signed, plain, minus, Item}
use Rattle.formula_rules.specs.Formulas.{constant, variable, bracket, call, pair, Text, sum_tree, product_tree, one_tree}
use Rattle.formula_rules.specs.Formulas.{two_tree, tree_sum, tree_product, tree_signed, tree_item, tree_of, ReadsAs}
use Rattle.rules.proofs.Tests.{and_right}

-- Digits below their power of 10, so decimals below a whole.
pub digit_below : (c : ℕ) → is_digit c ≡ true → c - 48 ≤ 9
digit_below c e = omega (arith, leb-true c 57 (and_right (leb 48 c) (leb c 57) e))

digits_below : (ds : Digits) → value ds < 10 ^ count ds
unfolding value count
digits_below (one c e) = omega (arith, digit_below c e)
digits_below (more ds c e) = rw (pow-suc 10 (count ds)) (omega (arith, digits_below ds, digit_below c e))

part_below : (f p : ℕ) → f < p → 65536 * f / p < 65536
part_below f p h = (div-lt_iff_lt-mul {k = p} {x = 65536 * f} {y = 65536} (omega arith)).1 (omega arith)

pub number_value : (n : Number) → IsValue (pos (units n))
number_value (whole w) = record { bound = omega (arith, w.small) }
number_value (decimal w d) =
    let f = value d.digits in
    let p = 10 ^ count d.digits in
    record { bound = omega (arith, w.small, part_below f p (digits_below d.digits)) }

-- What holds of trees made of values, axes and operations holds of the tree of a text.
module _ (N : Tree → Type 0) (numbers : (z : ℤ) → IsValue z → N (number z)) (axes : (a : Axis) → N (axis a))
    (ones : (u : Unary) (t : Tree) → N t → N (unary u t))
    (twos : (b : Binary) (l r : Tree) → N l → N r → N (binary b l r)) where
  mutual
    unfolding tree_sum

    of_sum : (s : Sum) → N (tree_sum s)
    of_sum (product p) = of_product_lem p
    of_sum (joined s k o p) = twos (sum_tree o) (tree_sum s) (tree_product p) (of_sum s) (of_product_lem p)

    of_product_lem : (p : Product) → N (tree_product p)
    of_product_lem (signed g) = of_signed g
    of_product_lem (multiplied p k o g) =
        twos (product_tree o) (tree_product p) (tree_signed g) (of_product_lem p) (of_signed g)

    of_signed : (g : Signed) → N (tree_signed g)
    of_signed (plain i) = of_item i
    of_signed (minus k i) = ones negate (tree_item i) (of_item i)

    of_item : (i : Item) → N (tree_item i)
    of_item (constant k n) = numbers (pos (units n)) (number_value n)
    of_item (variable k a) = axes a
    of_item (bracket k s j) = of_sum s
    of_item (call k f h s j) = ones (one_tree f) (tree_sum s) (of_sum s)
    of_item (pair k f h s i t j) = twos (two_tree f) (tree_sum s) (tree_sum t) (of_sum s) (of_sum t)

  pub of_text : (x : Text) → N (tree_of x)
  unfolding tree_of
  of_text x = of_sum x.sum

  pub of_read : (s : List ℕ) (t : Tree) → ReadsAs s t → N t
  of_read s t r = subst N r.tree (of_text r.text)
