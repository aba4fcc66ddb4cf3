-- The checks of a call: the first of its lines that holds, and the length of a picture.
use mathlib.Core.Path.{◌≡◌, refl, sym, ap, ◌∙◌}
use mathlib.Core.Bool.{Bool, true, false, not}
use mathlib.Core.List.{List, [], ◌∷◌, ◌++◌}
use Prim.Native.Nat.{ℕ, zero, suc, ◌*◌, ◌/◌, ◌%◌, ◌≤◌, ◌<◌}
use native.Mathlib.Nat.{mul-le-mul}
use native.Mathlib.Omega.{arith}
use lib.Dec.{eqb}
use borrow.Author.Tests.{eqb-true, eqb-false, eq-eqb, ne_eqb, lt-ltb, le-ltb}
use Rattle.rules.specs.Values.{first_of, first_fault, when}
use Rattle.rules.specs.Drawings as D
use Rattle.rules.specs.Pictures.{picture_size}
use Rattle.answers.specs.Lines.{length_fault, slope_fault, work_fault}

-- Lines that are tested in stages: the first of a stage stands for all of it.
first_assoc : (a b c : ℕ) → first_of (first_of a b) c ≡ first_of a (first_of b c)
first_assoc zero b c = refl
first_assoc (suc a) b c = refl

pub in_stages : (before after : List ℕ) → first_fault (before ++ after) ≡ first_fault (first_fault before ∷ after)
in_stages [] after = refl
in_stages (n ∷ ns) after =
    ap (first_of n) (in_stages ns after) ∙ sym (first_assoc n (first_fault ns) (first_fault after))

-- Lines 12 and 13.
pub length_wrong : (t : Bool) (g : D.Grid) (n m : ℕ) → (n ≡ m → ⊥) → m ≡ picture_size t g → 12 ≡ length_fault t g n
length_wrong t g n m h e = rw (ne_eqb n (picture_size t g) (λ z. h (z ∙ sym e)))

pub length_right : (t : Bool) (g : D.Grid) (n m : ℕ) → n ≡ m → m ≡ picture_size t g → 0 ≡ length_fault t g n
length_right t g n m h e = rw (eq-eqb n (picture_size t g) (h ∙ e))

-- A third of the slopes is as long as the picture.
third : (m a : ℕ) → m % 3 ≡ 0 → (t : Bool) → eqb (m / 3) a ≡ t
    → when (not (eqb (m / 3) a)) 12 ≡ when (not (eqb m (3 * a))) 12
third m a h true e =
    let k = eqb-true (m / 3) a e in
    rw (e, eq-eqb m (3 * a) (omega arith))
third m a h false e =
    let k = eqb-false (m / 3) a e in
    rw (e, ne_eqb m (3 * a) (λ u. k (omega arith)))

module _ (g : D.Grid) (m : ℕ) where
  pub slopes_odd : (m % 3 ≡ 0 → ⊥) → 12 ≡ slope_fault g m
  slopes_odd h = rw (ne_eqb m (3 * (g.width * g.height)) (λ e. h (omega arith)))

  pub slopes_even : m % 3 ≡ 0 → length_fault true g (m / 3) ≡ slope_fault g m
  unfolding picture_size
  slopes_even h = third m (g.width * g.height) h (eqb (m / 3) (g.width * g.height)) refl

pub work_short : (m : ℕ) → m < D.work_limit → 13 ≡ work_fault m
work_short m h = rw (lt-ltb m D.work_limit h)

pub work_enough : (m : ℕ) → D.work_limit ≤ m → 0 ≡ work_fault m
work_enough m h = rw (le-ltb m D.work_limit h)

-- The length of a picture: no sizes of 32 bits go past 64 bits.
pub area : (a b : ℕ) → a ≤ 4294967295 → b ≤ 4294967295 → a * b ≤ 18446744065119617025
area a b h k = mul-le-mul h k
