-- For loops over an order list: it is tested number by number, and the walk in it goes on tile by tile.
use mathlib.Core.Path.{◌≡◌, refl, sym, ap, ap₂, ◌∙◌}
use mathlib.Core.Bool.{Bool, true, false}
use mathlib.Core.List.{List, [], ◌∷◌}
use Prim.Native.Nat.{ℕ, zero, suc, ◌+◌, ◌<◌, ◌≤◌}
use native.Mathlib.Omega.{arith}
use lib.Dec.{eqb, ltb}
use lib.ListN.{length, get_or, set, take, replicate, get_or-replicate}
use lib.Seq.{take-length, get_or-set_same, get_or-set_other}
use borrow.Author.Tests.{eqb-true, eqb-false, eq-eqb, lt-ltb}
use Rattle.rules.specs.Values.{when}
use Rattle.rules.specs.Tapes.{Tape}
use Rattle.rules.specs.Drawings.{Grid, Region, State, fold, visit, sides, whole}
use Rattle.rules.proofs.Tests.{and_left, and_right}
use Rattle.order_rules.specs.Orders.{times_in, all_below, is_order, tiles, in_order, cleared, walked_in}
use Rattle.order_rules.proofs.OrderTests.{both_true, order, Fresh, fresh_order, order_length, once_at}
use Rattle.order_rules.proofs.AnyOrder.{order_size, order_take, order_get, below_at}

-- The first i numbers of the list have passed: each is below n, and none stands among them twice.
pub record PassedUpTo (n : ℕ) (ks : List ℕ) (i : ℕ) : Type 0 where
  pub below : all_below n (take i ks) ≡ true
  pub fresh : Fresh (take i ks)

pub none_passed : (n : ℕ) (ks : List ℕ) → PassedUpTo n ks 0
unfolding all_below times_in
none_passed n ks = record { below = refl; fresh = record { most = λ m. omega arith } }

-- One number more: how often m stands in them, and that they are below n.
pub times_next : (m : ℕ) (ks : List ℕ) (i : ℕ) → i < length ks
    → times_in m (take (suc i) ks) ≡ when (eqb m (get_or ks i 0)) 1 + times_in m (take i ks)
unfolding times_in
times_next m [] i h = absurd (omega arith)
times_next m (k ∷ ks) zero h = refl
times_next m (k ∷ ks) (suc i) h = omega (arith, times_next m ks i (omega arith))

below_next : (n : ℕ) (ks : List ℕ) (i : ℕ) → i < length ks → get_or ks i 0 < n → all_below n (take i ks) ≡ true
    → all_below n (take (suc i) ks) ≡ true
unfolding all_below
below_next n [] i h l e = absurd (omega arith)
below_next n (k ∷ ks) zero h l e = both_true (ltb k n) true (lt-ltb k n l) refl
below_next n (k ∷ ks) (suc i) h l e =
    let a = ltb k n in
    let b = all_below n (take i ks) in
    both_true a (all_below n (take (suc i) ks)) (and_left a b e) (below_next n ks i (omega arith) l (and_right a b e))

pub one_passed : (n : ℕ) (ks : List ℕ) (i : ℕ) → i < length ks → PassedUpTo n ks i → get_or ks i 0 < n
    → times_in (get_or ks i 0) (take i ks) ≡ 0 → PassedUpTo n ks (suc i)
one_passed n ks i h p l e =
    let k = get_or ks i 0 in
    record {
      below = below_next n ks i h l p.below;
      fresh = record { most = λ m. go m (eqb m k) refl (times_next m ks i h) (p.fresh.most m) };
    }
  where
    go : (m : ℕ) (b : Bool) → eqb m (get_or ks i 0) ≡ b
        → times_in m (take (suc i) ks) ≡ when (eqb m (get_or ks i 0)) 1 + times_in m (take i ks)
        → times_in m (take i ks) ≤ 1 → times_in m (take (suc i) ks) ≤ 1
    go m true q t u =
        let v = ap (λ b. when b 1) q in
        let w = ap (λ k. times_in k (take i ks)) (eqb-true m (get_or ks i 0) q) in
        omega (arith, e)
    go m false q t u = let v = ap (λ b. when b 1) q in omega arith

-- All of them, and as many as there are tiles: an order.
pub all_passed : (n : ℕ) (ks : List ℕ) → length ks ≡ n → PassedUpTo n ks (length ks) → is_order n ks ≡ true
all_passed n ks e p = fresh_order n ks e (rw take-length at p.below) (rw take-length at p.fresh)

-- One that does not pass, or another length: no order.
pub not_order : (n : ℕ) (ks : List ℕ) → (is_order n ks ≡ true → ⊥) → is_order n ks ≡ false
not_order n ks h = go (is_order n ks) refl
  where
    go : (b : Bool) → is_order n ks ≡ b → is_order n ks ≡ false
    go true e = absurd (h e)
    go false e = e

pub not_below : (n : ℕ) (ks : List ℕ) (i : ℕ) → i < length ks → n ≤ get_or ks i 0 → is_order n ks ≡ false
not_below n ks i h l = not_order n ks (λ e. past (below_at n ks (order n ks e).below i h))
  where
    past : get_or ks i 0 < n → ⊥
    past k = omega arith

times_take : (m : ℕ) (ks : List ℕ) (i : ℕ) → times_in m (take i ks) ≤ times_in m ks
unfolding times_in
times_take m [] zero = omega arith
times_take m [] (suc i) = omega arith
times_take m (k ∷ ks) zero = omega arith
times_take m (k ∷ ks) (suc i) = omega (arith, times_take m ks i)

pub not_again : (n : ℕ) (ks : List ℕ) (i : ℕ) → i < length ks → (times_in (get_or ks i 0) (take i ks) ≡ 0 → ⊥)
    → is_order n ks ≡ false
not_again n ks i h f =
    not_order n ks (λ e.
    let o = order n ks e in
    let k = get_or ks i 0 in
    twice (once_at n ks o.once k (below_at n ks o.below i h)) (times_take k ks (suc i))
    (times_next k ks i h ∙ ap (λ b. when b 1 + times_in k (take i ks)) (eq-eqb k k refl)))
  where
    twice : {a b : ℕ} → a ≡ 1 → b ≤ a → b ≡ 1 + times_in (get_or ks i 0) (take i ks) → ⊥
    twice e l t = f (omega arith)

pub not_length : (n : ℕ) (ks : List ℕ) → (length ks ≡ n → ⊥) → is_order n ks ≡ false
not_length n ks h = not_order n ks (λ e. h (order_length n ks e))

-- Flags of the numbers seen: each is how often its number stands among the first i.
pub record Flags (n : ℕ) (ks : List ℕ) (flags : List ℕ) (i : ℕ) : Type 0 where
  pub passed : PassedUpTo n ks i
  pub flag : (m : ℕ) → m < n → get_or flags m 0 ≡ times_in m (take i ks)

pub no_flags : (n : ℕ) (ks : List ℕ) (l : ℕ) → n ≤ l → Flags n ks (replicate l 0) 0
unfolding times_in
no_flags n ks l r =
    record { passed = none_passed n ks; flag = λ m h. get_or-replicate l m 0 0 (omega (arith, h, r)) }

pub one_flag : (n : ℕ) (ks flags : List ℕ) (i : ℕ) → i < length ks → n ≤ length flags → Flags n ks flags i
    → get_or ks i 0 < n → get_or flags (get_or ks i 0) 0 ≡ 0 → Flags n ks (set flags (get_or ks i 0) 1) (suc i)
one_flag n ks flags i h r f l e =
    let k = get_or ks i 0 in
    let z : times_in k (take i ks) ≡ 0 = sym (f.flag k l) ∙ e in
    let w : k < length flags = omega arith in
    record {
      passed = one_passed n ks i h f.passed l z;
      flag = λ m t. go k m (eqb m k) refl w z (f.flag m t) ∙ sym (times_next m ks i h);
    }
  where
    go : (k m : ℕ) (b : Bool) → eqb m k ≡ b → k < length flags → times_in k (take i ks) ≡ 0
        → get_or flags m 0 ≡ times_in m (take i ks)
        → get_or (set flags k 1) m 0 ≡ when (eqb m k) 1 + times_in m (take i ks)
    go k m true q w z u = rw (q, eqb-true m k q, z) (get_or-set_same flags k 1 0 w)
    go k m false q w z u = rw q (omega (arith, get_or-set_other flags k m 1 0 (λ v. eqb-false m k q v), u))

-- The walk in the first i numbers of the list: cleared at first, one visit more for the next number, all at the end.
fold_more : (f : Region → State → State) (qs : List Region) (i : ℕ) (s : State) → i < length qs
    → fold f (take (suc i) qs) s ≡ f (get_or qs i whole) (fold f (take i qs) s)
unfolding fold
fold_more f [] i s h = absurd (omega arith)
fold_more f (q ∷ qs) zero s h = refl
fold_more f (q ∷ qs) (suc i) s h = fold_more f qs i (f q s) (omega arith)

pub walk_starts : (ks : List ℕ) (t : Tape) (g : Grid) → walked_in (take 0 ks) t g ≡ cleared g
unfolding walked_in in_order fold
walk_starts ks t g = refl

pub walk_goes_on : (ks : List ℕ) (t : Tape) (g : Grid) (i : ℕ) → i < length ks
    → walked_in (take (suc i) ks) t g
    ≡ visit (sides g) t g (get_or (tiles g) (get_or ks i 0) whole) (walked_in (take i ks) t g)
unfolding walked_in
walk_goes_on ks t g i h =
    let f : Region → State → State = λ r s. visit (sides g) t g r s in
    let qs = tiles g in
    ap (λ v. fold f v (cleared g)) (sym (order_take qs ks (suc i)))
    ∙ fold_more f (in_order qs ks) i (cleared g) (omega (arith, order_size qs ks))
    ∙ ap₂ (λ q v. visit (sides g) t g q (fold f v (cleared g))) (order_get qs ks i h) (order_take qs ks i)

pub walk_ends : (ks : List ℕ) (t : Tape) (g : Grid) → walked_in (take (length ks) ks) t g ≡ walked_in ks t g
walk_ends ks t g = ap (λ v. walked_in v t g) (take-length ks)
