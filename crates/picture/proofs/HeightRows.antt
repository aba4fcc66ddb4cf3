-- The loops over heights: a turn of each, as the definitions of raising and of the test unfold.
use Rattle.std.proofs.Common.{◌≡◌, ap, sym, ◌∙◌, refl, Bool, true, false, ◌&&◌, List, ℕ, zero, suc, ◌+◌, ◌-◌, ◌*◌, ◌≤◌, ◌<◌, max, add-one, arith, length, get_or, set, take, subst, drop, length-take, length-drop, zero-add, rules}
use Rattle.std.proofs.lemmas.List.{places}
use Rattle.std.proofs.lemmas.List.FromFn.{length-range_with_len, get_or-range_with_len}
use Rattle.std.specs.List.{range_with_len, AllWithin, HoldsAt}
use Rattle.std.specs.Bool.{MatchBool}
use lib.Dec.{ltb, leb}
use native.Mathlib.Nat.{mul_comm, add-mul, mul-le-mul_right, sub-zero, add-zero}
use borrow.Author.Tests.{le-leb, lt-leb, ltb-true, ltb-false}
use borrow.Rule.Slice.PartMut.{put_mid, mid_of, put_same}
use Rattle.rules.specs.Values.{pick}
use Rattle.rules.specs.Drawings.{size_limit, raise_row, raise_rows, row_high, rows_high}
use Rattle.picture.specs.Heights.{RowsFit}
use Rattle.picture.proofs.LentParts.{set_part, get_part}

greater : (a z : ℕ) → max a z ≡ pick (ltb a z) z a
greater a z = by (ltb a z) refl
  where
    by : (t : Bool) → ltb a z ≡ t → max a z ≡ pick (ltb a z) z a
    by true e = rw e (omega (arith, ltb-true a z e))
    by false e = rw e (omega (arith, ltb-false a z e))

-- Raising a row, lent as a part of the heights: of n heights from place a on, i are raised.
abbrev pub Raises : (n a z i k : ℕ) (h s : List ℕ) → Type 0
Raises n a z i k h s = raise_row (n - i) (a + i) z (put_mid a k h s) ≡ raise_row n a z h

pub raise_starts : (n a z k : ℕ) (h : List ℕ) → Raises n a z 0 k h (mid_of a k h)
raise_starts n a z k h = rw (put_same a k h, add-zero, sub-zero)

pub raise_next : (n a z i k : ℕ) (h s : List ℕ) (v : ℕ) → i < n → a ≤ length h → i < length s → v ≡ max (get_or s i 0) z
    → Raises n a z i k h s → Raises n a z (i + 1) k h (set s i v)
unfolding raise_row
raise_next n a z i k h s v l room m f e =
    let p : n - i ≡ suc (n - (i + 1)) = omega arith in
    let q : a + (i + 1) ≡ suc (a + i) = omega arith in
    rw (f, greater (get_or s i 0) z, ← get_part a k h s i room m, set_part a k h s i room m, q)
    (sym (ap (λ x. raise_row x (a + i) z (put_mid a k h s)) p) ∙ e)

pub raise_ends : (n a z i k : ℕ) (h s : List ℕ) → n ≤ i → Raises n a z i k h s → put_mid a k h s ≡ raise_row n a z h
unfolding raise_row
raise_ends n a z i k h s l e =
    let p : 0 ≡ n - i = omega arith in
    ap (λ x. raise_row x (a + i) z (put_mid a k h s)) p ∙ e

-- The rows of a region of a picture w wide and h high: columns i to x, rows j to y.
pub region_fits : (w h i j x y : ℕ) → w ≤ size_limit → i ≤ x → x ≤ w → j ≤ y → y ≤ h
    → RowsFit (y - j) w (j * w + i) (x - i) (w * h)
region_fits w h i j x y n ix xw jy yh =
    let e : y - j + j ≡ y = omega arith in
    let rows : (y - j) * w + j * w ≡ y * w = sym (add-mul (y - j) j w) ∙ ap (λ n. n * w) e in
    record { narrow = n; last = omega (arith, mul-le-mul_right w yh, mul_comm w h) }

-- Raising rows, of which j are raised.
abbrev pub RaisesRows : (n w a m z j : ℕ) (h s : List ℕ) → Type 0
RaisesRows n w a m z j h s = raise_rows (n - j) w (a + j * w) m z s ≡ raise_rows n w a m z h

pub raise_rows_next : (n w a m z j : ℕ) (h s : List ℕ) → j < n → RaisesRows n w a m z j h s
    → RaisesRows n w a m z (j + 1) h (raise_row m (a + j * w) z s)
unfolding raise_rows
raise_rows_next n w a m z j h s l e =
    let p : n - j ≡ suc (n - (j + 1)) = omega arith in
    let q : a + (j + 1) * w ≡ a + j * w + w = omega arith in
    rw q (sym (ap (λ x. raise_rows x w (a + j * w) m z s) p) ∙ e)

pub raise_rows_end : (n w a m z j : ℕ) (h s : List ℕ) → n ≤ j → RaisesRows n w a m z j h s → s ≡ raise_rows n w a m z h
unfolding raise_rows
raise_rows_end n w a m z j h s l e =
    let p : 0 ≡ n - j = omega arith in
    ap (λ x. raise_rows x w (a + j * w) m z s) p ∙ e

and-false : (b : Bool) → (b && false) ≡ false
and-false true = refl
and-false false = refl

-- A test of n places, each w behind the one before, holds where that of each place does.
module _ (test : ℕ → ℕ → Bool) (here : ℕ → Bool) (w : ℕ) (none : (p : ℕ) → test 0 p ≡ true)
    (more : (n p : ℕ) → test (suc n) p ≡ (here p && test n (p + w))) where
  each_holds : (n p : ℕ) → ((k : ℕ) → k < n → here (p + k * w) ≡ true) → test n p ≡ true
  each_holds zero p h = none p
  each_holds (suc n) p h =
      let first : here p ≡ true = subst (λ q. here q ≡ true) (omega arith) (h 0 (omega arith)) in
      more n p ∙ rw first
      (each_holds n (p + w) (λ k l. subst (λ q. here q ≡ true) (omega arith) (h (suc k) (omega arith))))

  some_fails : (n p k : ℕ) → k < n → here (p + k * w) ≡ false → test n p ≡ false
  some_fails zero p k l e = absurd (omega arith)
  some_fails (suc n) p zero l e =
      let first : here p ≡ false = subst (λ q. here q ≡ false) (omega arith) e in
      more n p ∙ rw first
  some_fails (suc n) p (suc k) l e =
      more n p ∙ ap (λ t. here p && t)
      (some_fails n (p + w) k (omega arith) (subst (λ q. here q ≡ false) (omega arith) e)) ∙ and-false (here p)

  tested : (n p : ℕ) (r : Bool)
      → MatchBool r ((k : ℕ) → k < n → here (p + k * w) ≡ true) ((k : ℕ) × (k < n) × (here (p + k * w) ≡ false))
      → r ≡ test n p
  tested n p true h = sym (each_holds n p h)
  tested n p false h = sym (some_fails n p h.0 h.1 h.2)

-- What `all` answers of the heights of a row, lent as a part, and of the rows by number.
pub row_tested : (n m p z : ℕ) (h : List ℕ) (r : Bool) → p + n ≤ length h → m ≡ n
    → (let s = take m (drop p h) in
    MatchBool r (AllWithin (λ v. z ≤ v) s 0 (length s)) ((k : ℕ) × (k < length s) × HoldsAt (λ v. v < z) s k))
    → r ≡ row_high n p z h
unfolding row_high
row_tested n m p z h r room same e =
    tested (λ m q. row_high m q z h) (λ q. leb z (get_or h q 0)) 1 (λ q. refl) (λ m q. rw add-one) n p r (by r e)
  where
    long : length (take m (drop p h)) ≡ n
    long = omega (arith, length-take {A = ℕ}, length-drop {A = ℕ})

    place : (k : ℕ) → k < n → get_or (take m (drop p h)) k 0 ≡ get_or h (p + k * 1) 0
    place k l = search (rules, places)

    by : (t : Bool) → (let s = take m (drop p h) in
        MatchBool t (AllWithin (λ v. z ≤ v) s 0 (length s)) ((k : ℕ) × (k < length s) × HoldsAt (λ v. v < z) s k))
        → MatchBool t ((k : ℕ) → k < n → leb z (get_or h (p + k * 1) 0) ≡ true)
        ((k : ℕ) × (k < n) × (leb z (get_or h (p + k * 1) 0) ≡ false))
    by true f = λ k l. le-leb z _ (omega (arith, place k l, f k 0 (omega arith) (omega (arith, long))))
    by false f = (f.0, omega (arith, long, f.1), lt-leb z _ (omega (arith, long, f.1, place f.0 (omega (arith, long, f.1)), f.2 0)))

pub rows_tested : (n w p m z : ℕ) (h : List ℕ) (r : Bool)
    → (let s = range_with_len 0 n in
    MatchBool r (AllWithin (λ k. row_high m (p + k * w) z h ≡ true) s 0 (length s))
    ((k : ℕ) × (k < length s) × HoldsAt (λ k. row_high m (p + k * w) z h ≡ false) s k))
    → r ≡ rows_high n w p m z h
unfolding rows_high
rows_tested n w p m z h r e =
    tested (λ k q. rows_high k w q m z h) (λ q. row_high m q z h) w (λ q. refl) (λ k q. refl) n p r (by r e)
  where
    long : length (range_with_len 0 n) ≡ n
    long = length-range_with_len 0 n

    place : (k : ℕ) → k < n → get_or (range_with_len 0 n) k 0 ≡ k
    place k l = get_or-range_with_len 0 n k 0 l ∙ zero-add k

    by : (t : Bool) → (let s = range_with_len 0 n in
        MatchBool t (AllWithin (λ k. row_high m (p + k * w) z h ≡ true) s 0 (length s))
        ((k : ℕ) × (k < length s) × HoldsAt (λ k. row_high m (p + k * w) z h ≡ false) s k))
        → MatchBool t ((k : ℕ) → k < n → row_high m (p + k * w) z h ≡ true)
        ((k : ℕ) × (k < n) × (row_high m (p + k * w) z h ≡ false))
    by true f = λ k l. rw (place k l) at (f k 0 (omega arith) (omega (arith, long)))
    by false f =
        let l : f.0 < n = omega (arith, long, f.1) in
        (f.0, l, rw (place f.0 l) at (f.2 0))
