-- What an order is, as facts: each number below n exactly once and nothing else. A list of n numbers below n, none of
-- them twice, is one.
use mathlib.Core.Path.{◌≡◌, refl, sym, ap, ◌∙◌}
use mathlib.Core.Bool.{Bool, true, false, ◌&&◌}
use mathlib.Core.List.{List, [], ◌∷◌}
use Prim.Native.Nat.{ℕ, zero, suc, ◌+◌, ◌<◌, ◌≤◌}
use native.Mathlib.Omega.{arith}
use lib.Dec.{eqb, ltb}
use lib.ListN.{length}
use borrow.Author.Tests.{ne_eqb, ltb-false, eqb-true, eqb-false, eq-eqb, ltb-true}
use Rattle.rules.specs.Values.{when}
use Rattle.rules.proofs.Tests.{and_left, and_right}
use Rattle.order_rules.specs.Orders.{times_in, all_below, once_each, is_order, EachOnce}

-- Lists and the number of tiles: 1 for an order.
abbrev ordered : ℕ → List ℕ → ℕ
ordered n ks = when (is_order n ks) 1

pub figures : ordered 0 []
    ∷ (ordered 3 (2 ∷ (0 ∷ (1 ∷ [])))
    ∷ (ordered 2 (0 ∷ (0 ∷ []))
    ∷ (ordered 2 (0 ∷ (1 ∷ (0 ∷ [])))
    ∷ (ordered 2 (0 ∷ []) ∷ (ordered 2 (0 ∷ (2 ∷ [])) ∷ (ordered 2 (0 ∷ (1 ∷ (2 ∷ []))) ∷ []))))))
    ≡ 1 ∷ (1 ∷ (0 ∷ (0 ∷ (0 ∷ (0 ∷ (0 ∷ []))))))
unfolding times_in all_below once_each is_order
figures = refl

pub both_true : (a b : Bool) → a ≡ true → b ≡ true → (a && b) ≡ true
both_true a b e f = rw (e, f)

-- The two tests that an order passes.
pub record Order (n : ℕ) (ks : List ℕ) : Type 0 where
  pub below : all_below n ks ≡ true
  pub once : once_each n ks ≡ true

pub order : (n : ℕ) (ks : List ℕ) → is_order n ks ≡ true → Order n ks
unfolding is_order
order n ks e =
    record { below = and_left (all_below n ks) (once_each n ks) e; once = and_right (all_below n ks) (once_each n ks) e }

pub once_at : (n : ℕ) (ks : List ℕ) → once_each n ks ≡ true → (m : ℕ) → m < n → times_in m ks ≡ 1
unfolding once_each
once_at zero ks e m h = absurd (omega arith)
once_at (suc n) ks e m h =
    go (eqb m n) refl (λ l. once_at n ks (and_right (eqb (times_in n ks) 1) (once_each n ks) e) m l)
  where
    go : (b : Bool) → eqb m n ≡ b → (m < n → times_in m ks ≡ 1) → times_in m ks ≡ 1
    go true q rest = rw (eqb-true m n q) (eqb-true (times_in n ks) 1 (and_left (eqb (times_in n ks) 1) (once_each n ks) e))
    go false q rest = rest (omega (arith, eqb-false m n q))

pub once_from : (n : ℕ) (ks : List ℕ) → ((m : ℕ) → m < n → times_in m ks ≡ 1) → once_each n ks ≡ true
unfolding once_each
once_from zero ks f = refl
once_from (suc n) ks f =
    both_true (eqb (times_in n ks) 1) (once_each n ks) (eq-eqb (times_in n ks) 1 (f n (omega arith)))
    (once_from n ks (λ m h. f m (omega arith)))

-- Each number below n exactly once, and nothing else: the definition, as it is read.
never_past : (n : ℕ) (ks : List ℕ) → all_below n ks ≡ true → (m : ℕ) → n ≤ m → times_in m ks ≡ 0
unfolding all_below times_in
never_past n [] e m h = refl
never_past n (k ∷ ks) e m h =
    let l = ltb-true k n (and_left (ltb k n) (all_below n ks) e) in
    rw (ne_eqb m k (λ q. omega (arith, q, l)))
    (omega (arith, never_past n ks (and_right (ltb k n) (all_below n ks) e) m h))

all_below_lem : (n : ℕ) (ks : List ℕ) → ((m : ℕ) → n ≤ m → times_in m ks ≡ 0) → all_below n ks ≡ true
unfolding all_below times_in
all_below_lem n [] f = refl
all_below_lem n (k ∷ ks) f =
    both_true (ltb k n) (all_below n ks) (first (ltb k n) refl)
    (all_below_lem n ks (λ m h. rest m (f m h)))
  where
    rest : (m : ℕ) → when (eqb m k) 1 + times_in m ks ≡ 0 → times_in m ks ≡ 0
    rest m e = omega arith

    first : (b : Bool) → ltb k n ≡ b → ltb k n ≡ true
    first true e = e
    first false e = absurd (omega (arith, f k (ltb-false k n e), ap (λ t. when t 1) (eq-eqb k k refl)))

pub order_once : (n : ℕ) (ks : List ℕ) → is_order n ks ≡ true → EachOnce n ks
order_once n ks e =
    let o = order n ks e in
    record { each = once_at n ks o.once; no_other = never_past n ks o.below }

pub once_order : (n : ℕ) (ks : List ℕ) → EachOnce n ks → is_order n ks ≡ true
unfolding is_order
once_order n ks o =
    both_true (all_below n ks) (once_each n ks) (all_below_lem n ks o.no_other) (once_from n ks o.each)

-- The numbers of a list counted by value: the sum, over all m below n, of how often m stands in it.
unfoldable times_below : ℕ → List ℕ → ℕ
times_below zero ks = 0
times_below (suc n) ks = times_in n ks + times_below n ks

none_below : (n : ℕ) → times_below n [] ≡ 0
unfolding times_below times_in
none_below zero = refl
none_below (suc n) = omega (arith, none_below n)

-- One more number counts one more if it is below n, and nothing if it is not.
more_past : (n k : ℕ) (ks : List ℕ) → n ≤ k → times_below n (k ∷ ks) ≡ times_below n ks
unfolding times_below times_in
more_past zero k ks h = refl
more_past (suc n) k ks h = go (eqb n k) refl (more_past n k ks (omega arith))
  where
    go : (b : Bool) → eqb n k ≡ b → times_below n (k ∷ ks) ≡ times_below n ks
        → when b 1 + times_in n ks + times_below n (k ∷ ks) ≡ times_in n ks + times_below n ks
    go true e f = absurd (omega (arith, eqb-true n k e))
    go false e f = omega arith

more_below : (n k : ℕ) (ks : List ℕ) → k < n → times_below n (k ∷ ks) ≡ suc (times_below n ks)
unfolding times_below times_in
more_below zero k ks h = absurd (omega arith)
more_below (suc n) k ks h = go (eqb n k) refl (λ l. more_below n k ks l)
  where
    go : (b : Bool) → eqb n k ≡ b → (k < n → times_below n (k ∷ ks) ≡ suc (times_below n ks))
        → when b 1 + times_in n ks + times_below n (k ∷ ks) ≡ suc (times_in n ks + times_below n ks)
    go true e f = omega (arith, more_past n k ks (omega (arith, eqb-true n k e)))
    go false e f = omega (arith, f (omega (arith, eqb-false n k e)))

-- So numbers below n are counted once each.
all_counted : (n : ℕ) (ks : List ℕ) → all_below n ks ≡ true → times_below n ks ≡ length ks
unfolding all_below
all_counted n [] e = none_below n
all_counted n (k ∷ ks) e =
    let l = ltb-true k n (and_left (ltb k n) (all_below n ks) e) in
    omega (arith, more_below n k ks l, all_counted n ks (and_right (ltb k n) (all_below n ks) e))

once_length : (n : ℕ) (ks : List ℕ) → once_each n ks ≡ true → times_below n ks ≡ n
unfolding times_below once_each
once_length zero ks e = refl
once_length (suc n) ks e =
    let a = eqb (times_in n ks) 1 in
    omega (
      arith,
      eqb-true (times_in n ks) 1 (and_left a (once_each n ks) e),
      once_length n ks (and_right a (once_each n ks) e),
    )

-- None stands in the list twice: then n numbers below n are an order.
pub record Fresh (ks : List ℕ) : Type 0 where
  pub most : (m : ℕ) → times_in m ks ≤ 1

below_most : (ks : List ℕ) → Fresh ks → (n : ℕ) → times_below n ks ≤ n
unfolding times_below
below_most ks f zero = omega arith
below_most ks f (suc n) = omega (arith, f.most n, below_most ks f n)

once_all : (ks : List ℕ) → Fresh ks → (n : ℕ) → times_below n ks ≡ n → once_each n ks ≡ true
unfolding times_below once_each
once_all ks f zero e = refl
once_all ks f (suc n) e =
    let a = f.most n in
    let b = below_most ks f n in
    both_true (eqb (times_in n ks) 1) (once_each n ks) (eq-eqb (times_in n ks) 1 (omega arith))
    (once_all ks f n (omega arith))

pub fresh_order : (n : ℕ) (ks : List ℕ) → length ks ≡ n → all_below n ks ≡ true → Fresh ks → is_order n ks ≡ true
unfolding is_order
fresh_order n ks e b f =
    both_true (all_below n ks) (once_each n ks) b (once_all ks f n (all_counted n ks b ∙ e))

-- An order has n numbers.
pub order_length : (n : ℕ) (ks : List ℕ) → is_order n ks ≡ true → length ks ≡ n
order_length n ks e =
    let o = order n ks e in
    sym (all_counted n ks o.below) ∙ once_length n ks o.once
