-- An allowed text nests at most 32 deep exactly if none of its brackets opens inside 32 others.
use mathlib.Core.Path.{◌≡◌, refl, sym, ap, subst}
use mathlib.Core.Bool.{true, false}
use mathlib.Core.List.{List, [], ◌∷◌, ◌++◌}
use Prim.Native.Nat.{ℕ, zero, suc, ◌+◌, ◌-◌, ◌≤◌, ◌<◌, max}
use native.Mathlib.Omega.{arith}
use lib.Dec.{eqb, leb}
use lib.ListN.{length, length-append}
use borrow.Author.Tests.{leb-true, eqb-false, ne_eqb}
use Rattle.formula_rules.specs.Trees.{Axis, axisX, axisY, axisZ}
use Rattle.formula_rules.specs.Formulas.{nest_limit, is_digit, Digits, one, more, Number, whole, decimal, SumJoin, plus}
use Rattle.formula_rules.specs.Formulas.{less, ProductJoin, times, over, One, absName, sqrName, rootName, Two, minName}
use Rattle.formula_rules.specs.Formulas.{maxName, Sum, product, joined, Product, signed, multiplied, Signed, plain, minus}
use Rattle.formula_rules.specs.Formulas.{Item, constant, variable, bracket, call, pair, Text, spaces, write_digits}
use Rattle.formula_rules.specs.Formulas.{write_number, axis_byte, sum_byte, product_byte, write_one, write_two, write_sum}
use Rattle.formula_rules.specs.Formulas.{write_product, write_signed, write_item, bytes_of, open_after, inside_from, Shallow}
use Rattle.formula_rules.specs.Formulas.{nest_sum, nest_product, nest_signed, nest_item, nest_of}
use Rattle.rules.proofs.Tests.{and_left}

-- No bracket of these bytes opens inside 32 others, n being open before them.
unfoldable ShallowFrom : ℕ → List ℕ → Type 0
ShallowFrom n [] = Unit {0}
ShallowFrom n (b ∷ r) = (b ≡ 40 → n < nest_limit) × ShallowFrom (open_after n b) r

from_each : (n : ℕ) (p : List ℕ) → ((q r : List ℕ) → p ≡ q ++ 40 ∷ r → inside_from n q < nest_limit) → ShallowFrom n p
unfolding ShallowFrom inside_from
from_each n [] f = tt
from_each n (b ∷ p) f = (
  λ e. f [] p (ap (λ (c : ℕ). c ∷ p) e),
  from_each (open_after n b) p (λ q r e. f (b ∷ q) r (ap (λ (l : List ℕ). b ∷ l) e)),
)

to_each : (n : ℕ) (p q r : List ℕ) → ShallowFrom n p → p ≡ q ++ 40 ∷ r → inside_from n q < nest_limit
unfolding ShallowFrom inside_from
to_each n [] q r h e = absurd (omega (arith, ap length e, length-append q (40 ∷ r)))
to_each n (b ∷ p) [] r h e = h.0 (cc)
to_each n (b ∷ p) (c ∷ q) r h e =
    let same : b ≡ c = cc in
    subst (λ (x : ℕ). inside_from (open_after n x) q < nest_limit) same (to_each (open_after n b) p q r h.1 (cc))

-- The bytes w nest m deep and close what they open.
record Nests (n m : ℕ) (w : List ℕ → List ℕ) : Type 0 where
  into : (r : List ℕ) → m + n ≤ nest_limit → ShallowFrom n r → ShallowFrom n (w r)
  out : (r : List ℕ) → n ≤ nest_limit → ShallowFrom n (w r) → (m + n ≤ nest_limit) × ShallowFrom n r

seq : (n a b c : ℕ) (v w : List ℕ → List ℕ) → c ≡ max a b → Nests n a v → Nests n b w → Nests n c (λ r. v (w r))
seq n a b c v w e f g =
    record {
      into = λ r h s. f.into (w r) (omega arith) (g.into r (omega arith) s);
      out = λ r h s.
          let (p, t) = f.out (w r) h s in
          let (q, u) = g.out r h t in
          (omega arith, u);
    }

byte : (n b : ℕ) → eqb b 40 ≡ false → eqb b 41 ≡ false → Nests n 0 (λ r. b ∷ r)
unfolding ShallowFrom
byte n b e f =
    record {
      into = λ r h s. (λ q. absurd (eqb-false b 40 e q), subst (λ (m : ℕ). ShallowFrom m r) (sym same) s);
      out = λ r h s. (omega arith, subst (λ (m : ℕ). ShallowFrom m r) same s.1);
    }
  where
    same : open_after n b ≡ n
    same = rw (e, f)

nothing : (n : ℕ) → Nests n 0 (λ r. r)
nothing n = record { into = λ r h s. s; out = λ r h s. (omega arith, s) }

blanks : (n k : ℕ) → Nests n 0 (spaces k)
unfolding spaces
blanks n zero = nothing n
blanks n (suc k) = seq n 0 0 0 (spaces k) (λ r. 32 ∷ r) refl (blanks n k) (byte n 32 refl refl)

bracketed : (n m : ℕ) (w : List ℕ → List ℕ) → Nests (suc n) m w → Nests n (suc m) (λ r. 40 ∷ w (41 ∷ r))
unfolding ShallowFrom
bracketed n m w f =
    record {
      into = λ r h s. (
        λ q. omega arith,
        f.into (41 ∷ r) (omega arith)
            (λ q. absurd (omega arith), subst (λ (k : ℕ). ShallowFrom k r) same s),
      );
      out = λ r h s.
          let less : n < nest_limit = s.0 refl in
          let (p, t) = f.out (41 ∷ r) (omega arith) s.1 in
          (omega arith, subst (λ (k : ℕ). ShallowFrom k r) (sym same) t.1);
    }
  where
    same : n ≡ suc n - 1
    same = omega arith

-- After bytes that open nothing; before them.
after_flat : (n b : ℕ) (v w : List ℕ → List ℕ) → Nests n 0 v → Nests n b w → Nests n b (λ r. v (w r))
after_flat n b v w = seq n 0 b b v w (omega arith)

before_flat : (n a : ℕ) (v w : List ℕ → List ℕ) → Nests n a v → Nests n 0 w → Nests n a (λ r. v (w r))
before_flat n a v w = seq n a 0 a v w (omega arith)

-- Digits, numbers and names open nothing.
digit_byte : (n c : ℕ) → is_digit c ≡ true → Nests n 0 (λ r. c ∷ r)
digit_byte n c e =
    let h = leb-true 48 c (and_left (leb 48 c) (leb c 57) e) in
    byte n c (ne_eqb c 40 (λ q. omega arith)) (ne_eqb c 41 (λ q. omega arith))

digit_bytes : (n : ℕ) (ds : Digits) → Nests n 0 (write_digits ds)
unfolding write_digits
digit_bytes n (one c e) = digit_byte n c e
digit_bytes n (more ds c e) = seq n 0 0 0 (write_digits ds) (λ r. c ∷ r) refl (digit_bytes n ds) (digit_byte n c e)

number_bytes : (n : ℕ) (c : Number) → Nests n 0 (write_number c)
number_bytes n (whole w) = digit_bytes n w.digits
number_bytes n (decimal w d) =
    after_flat n 0 (write_digits w.digits) (λ r. 46 ∷ write_digits d.digits r) (digit_bytes n w.digits)
    (after_flat n 0 (λ r. 46 ∷ r) (write_digits d.digits) (byte n 46 refl refl) (digit_bytes n d.digits))

axis_byte_lem : (n : ℕ) (a : Axis) → Nests n 0 (λ r. axis_byte a ∷ r)
axis_byte_lem n axisX = byte n 120 refl refl
axis_byte_lem n axisY = byte n 121 refl refl
axis_byte_lem n axisZ = byte n 122 refl refl

sum_byte_lem : (n : ℕ) (o : SumJoin) → Nests n 0 (λ r. sum_byte o ∷ r)
sum_byte_lem n plus = byte n 43 refl refl
sum_byte_lem n less = byte n 45 refl refl

product_byte_lem : (n : ℕ) (o : ProductJoin) → Nests n 0 (λ r. product_byte o ∷ r)
product_byte_lem n times = byte n 42 refl refl
product_byte_lem n over = byte n 47 refl refl

three_bytes_lem : (n a b c : ℕ) → Nests n 0 (λ r. a ∷ r) → Nests n 0 (λ r. b ∷ r) → Nests n 0 (λ r. c ∷ r)
    → Nests n 0 (λ r. a ∷ (b ∷ (c ∷ r)))
three_bytes_lem n a b c f g h =
    after_flat n 0 (λ r. a ∷ r) (λ r. b ∷ (c ∷ r)) f (after_flat n 0 (λ r. b ∷ r) (λ r. c ∷ r) g h)

one_bytes : (n : ℕ) (f : One) → Nests n 0 (write_one f)
one_bytes n absName = three_bytes_lem n 97 98 115 (byte n 97 refl refl) (byte n 98 refl refl) (byte n 115 refl refl)
one_bytes n sqrName = three_bytes_lem n 115 113 114 (byte n 115 refl refl) (byte n 113 refl refl) (byte n 114 refl refl)
one_bytes n rootName =
    after_flat n 0 (λ r. 114 ∷ r) (λ r. 111 ∷ (111 ∷ (116 ∷ r))) (byte n 114 refl refl)
    (three_bytes_lem n 111 111 116 (byte n 111 refl refl) (byte n 111 refl refl) (byte n 116 refl refl))

two_bytes_lem : (n : ℕ) (f : Two) → Nests n 0 (write_two f)
two_bytes_lem n minName = three_bytes_lem n 109 105 110 (byte n 109 refl refl) (byte n 105 refl refl) (byte n 110 refl refl)
two_bytes_lem n maxName = three_bytes_lem n 109 97 120 (byte n 109 refl refl) (byte n 97 refl refl) (byte n 120 refl refl)

-- A join: spaces and its byte before what follows.
join_bytes_lem : (n k m b : ℕ) (w : List ℕ → List ℕ) → Nests n 0 (λ r. b ∷ r) → Nests n m w
    → Nests n m (λ r. spaces k (b ∷ w r))
join_bytes_lem n k m b w f g =
    after_flat n m (spaces k) (λ r. b ∷ w r) (blanks n k) (after_flat n m (λ r. b ∷ r) w f g)

-- A bracket around bytes, spaces before the end of it; and a name before it.
around : (n m j : ℕ) (w : List ℕ → List ℕ) → Nests (suc n) m w → Nests n (suc m) (λ r. 40 ∷ w (spaces j (41 ∷ r)))
around n m j w f = bracketed n m (λ r. w (spaces j r)) (before_flat (suc n) m w (spaces j) f (blanks (suc n) j))

named_around : (n m k h : ℕ) (v w : List ℕ → List ℕ) → Nests n 0 v → Nests n m w
    → Nests n m (λ r. spaces k (v (spaces h (w r))))
named_around n m k h v w f g =
    after_flat n m (spaces k) (λ r. v (spaces h (w r))) (blanks n k)
    (after_flat n m v (λ r. spaces h (w r)) f (after_flat n m (spaces h) w (blanks n h) g))

mutual
  unfolding write_sum nest_sum

  nests_sum : (s : Sum) (n : ℕ) → Nests n (nest_sum s) (write_sum s)
  nests_sum (product p) n = nests_product p n
  nests_sum (joined s k o p) n =
      seq n (nest_sum s) (nest_product p) (max (nest_sum s) (nest_product p)) (write_sum s)
      (λ r. spaces k (sum_byte o ∷ write_product p r)) refl (nests_sum s n)
      (join_bytes_lem n k (nest_product p) (sum_byte o) (write_product p) (sum_byte_lem n o) (nests_product p n))

  nests_product : (p : Product) (n : ℕ) → Nests n (nest_product p) (write_product p)
  nests_product (signed g) n = nests_signed g n
  nests_product (multiplied p k o g) n =
      seq n (nest_product p) (nest_signed g) (max (nest_product p) (nest_signed g)) (write_product p)
      (λ r. spaces k (product_byte o ∷ write_signed g r)) refl (nests_product p n)
      (join_bytes_lem n k (nest_signed g) (product_byte o) (write_signed g) (product_byte_lem n o) (nests_signed g n))

  nests_signed : (g : Signed) (n : ℕ) → Nests n (nest_signed g) (write_signed g)
  nests_signed (plain i) n = nests_item i n
  nests_signed (minus k i) n = join_bytes_lem n k (nest_item i) 45 (write_item i) (byte n 45 refl refl) (nests_item i n)

  nests_item : (i : Item) (n : ℕ) → Nests n (nest_item i) (write_item i)
  nests_item (constant k c) n = after_flat n 0 (spaces k) (write_number c) (blanks n k) (number_bytes n c)
  nests_item (variable k a) n = after_flat n 0 (spaces k) (λ r. axis_byte a ∷ r) (blanks n k) (axis_byte_lem n a)
  nests_item (bracket k s j) n =
      after_flat n (suc (nest_sum s)) (spaces k) (λ r. 40 ∷ write_sum s (spaces j (41 ∷ r))) (blanks n k)
      (around n (nest_sum s) j (write_sum s) (nests_sum s (suc n)))
  nests_item (call k f h s j) n =
      named_around n (suc (nest_sum s)) k h (write_one f) (λ r. 40 ∷ write_sum s (spaces j (41 ∷ r))) (one_bytes n f)
      (around n (nest_sum s) j (write_sum s) (nests_sum s (suc n)))
  nests_item (pair k f h s i t j) n =
      named_around n (suc (max (nest_sum s) (nest_sum t))) k h (write_two f)
      (λ r. 40 ∷ write_sum s (spaces i (44 ∷ write_sum t (spaces j (41 ∷ r))))) (two_bytes_lem n f)
      (around n (max (nest_sum s) (nest_sum t)) j (λ r. write_sum s (spaces i (44 ∷ write_sum t r)))
      (seq (suc n) (nest_sum s) (nest_sum t) (max (nest_sum s) (nest_sum t)) (write_sum s)
      (λ r. spaces i (44 ∷ write_sum t r)) refl (nests_sum s (suc n))
      (join_bytes_lem (suc n) i (nest_sum t) 44 (write_sum t) (byte (suc n) 44 refl refl) (nests_sum t (suc n)))))

-- A whole text.
nests_text : (t : Text) → Nests 0 (nest_of t) (λ r. write_sum t.sum (spaces t.after r))
unfolding nest_of
nests_text t =
    before_flat 0 (nest_sum t.sum) (write_sum t.sum) (spaces t.after) (nests_sum t.sum 0)
    (blanks 0 t.after)

pub nested_shallow : (t : Text) → nest_of t ≤ nest_limit → Shallow (bytes_of t)
unfolding bytes_of ShallowFrom
nested_shallow t h =
    let s = (nests_text t).into [] (omega arith) tt in
    record { each = λ q r e. to_each 0 _ q r s e }

pub shallow_nested : (t : Text) → Shallow (bytes_of t) → nest_of t ≤ nest_limit
unfolding bytes_of
shallow_nested t h = omega (arith, ((nests_text t).out [] (omega arith) (from_each 0 _ h.each)).0)
