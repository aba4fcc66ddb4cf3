-- A clause's slot fields, raised: what is cast, what fits, and that the clause is the raised one.
use mathlib.Core.Path.{◌≡◌, refl, sym, ap, ◌∙◌}
use mathlib.Core.Bool.{Bool, true, false, true≢false}
use Prim.Native.Nat.{ℕ, ◌+◌, ◌≤◌, ◌<◌}
use native.Mathlib.Omega.{arith}
use lib.IntN.{ℤ, pos, negsuc, nat_abs}
use mir.Syntax.{w32}
use mir.Val.{SFits, to_z}
use borrow.Author.Tests.{ltb-true, lt-ltb}
use Rattle.rules.specs.Values.{pick}
use Rattle.rules.specs.Tapes.{slot_limit, is_slot, nat, uses_left, uses_right, clause_of}
use Rattle.tape.specs.declared.Fields.{Fields}
use Rattle.tape.specs.Clauses.{raw_of, InBytes}
use Rattle.tape.proofs.FieldValues.{kept, kept_is, Kept, raw, slot_below, slot_nat}
use Rattle.merge_rules.specs.Merging.{minimum_of}
use Rattle.merge.specs.Copies.{InSlots, RaisedTo}

-- A field of either tape.
module _ (z : ℤ) (fits : SFits w32 z) (h : is_slot slot_limit z ≡ true) (n : ℕ) (few : n ≤ slot_limit) where
  pub sum_small : nat_abs (kept z) + n < 256
  sum_small = omega (arith, slot_below slot_limit z fits h)

  pub used_raised : (used : Bool) → used ≡ true → to_z w32 (nat_abs (kept z) + n) ≡ pos (pick used (nat z + n) (nat z))
  used_raised true e =
      kept_is (pos (nat_abs (kept z) + n)) (omega (arith, sum_small))
      ∙ ap (λ k. pos (k + n)) (slot_nat slot_limit z fits h)
  used_raised false e = absurd (true≢false (sym e))

-- A slot is a natural number.
slot_natural : (n : ℕ) (z : ℤ) → is_slot n z ≡ true → z ≡ pos (nat z)
slot_natural n (pos a) h = refl
slot_natural n (negsuc a) h = absurd (true≢false (sym h))

pub unused_kept : (z : ℤ) (fits : SFits w32 z) (h : is_slot slot_limit z ≡ true) (n : ℕ) (used : Bool) → used ≡ false
    → kept z ≡ pos (pick used (nat z + n) (nat z))
unused_kept z fits h n true e = absurd (true≢false e)
unused_kept z fits h n false e = kept_is z fits.sfits ∙ slot_natural slot_limit z h

-- A field as it is stored: the number that it was raised to, which goes into a byte.
record Field (z : ℤ) (n : ℕ) (used : Bool) (x : ℤ) : Type 0 where
  is : nat x ≡ pick used (nat z + n) (nat z)
  byte : is_slot 256 x ≡ true

field : (z : ℤ) (n : ℕ) (used : Bool) (x : ℤ) → is_slot slot_limit z ≡ true → n ≤ slot_limit
    → x ≡ pos (pick used (nat z + n) (nat z)) → Field z n used (kept x)
field (negsuc a) n used x h few e = absurd (true≢false (sym h))
field (pos a) n true x h few e =
    let small : a + n < 256 = omega (arith, ltb-true a slot_limit h) in
    let k : kept x ≡ pos (a + n) = ap kept e ∙ kept_is (pos (a + n)) (omega arith) in
    record { is = ap nat k; byte = ap (is_slot 256) k ∙ lt-ltb (a + n) 256 small }
field (pos a) n false x h few e =
    let small : a < 256 = omega (arith, ltb-true a slot_limit h) in
    let k : kept x ≡ pos a = ap kept e ∙ kept_is (pos a) (omega arith) in
    record { is = ap nat k; byte = ap (is_slot 256) k ∙ lt-ltb a 256 small }

-- The whole clause, from its fields as the code reads them.
module _ (f : Fields) (k : Kept f) (n : ℕ) (s : InSlots (raw_of f)) (few : n ≤ slot_limit) where
  pub raised_to : (x y z : ℤ) (u v : Bool) → x ≡ pos (nat (kept f.out) + n)
      → u ≡ uses_left (nat (kept f.opcode)) → y ≡ pos (pick u (nat (kept f.left) + n) (nat (kept f.left)))
      → v ≡ uses_right (nat (kept f.opcode)) → z ≡ pos (pick v (nat (kept f.right) + n) (nat (kept f.right)))
      → RaisedTo n (raw_of f) (raw (kept f.opcode) (kept x) (kept y) (kept z) (kept f.constant))
  raised_to x y z u v ex eu ey ev ez =
      let a = field f.out n true x s.out few (ex ∙ ap (λ (t : ℤ). pos (nat t + n)) k.out) in
      let b = field f.left n u y s.left few (ey ∙ ap (λ (t : ℤ). pos (pick u (nat t + n) (nat t))) k.left) in
      let c = field f.right n v z s.right few
      (ez ∙ ap (λ (t : ℤ). pos (pick v (nat t + n) (nat t))) k.right) in
      let p = k.opcode in
      let left = b.is ∙ ap (λ (t : Bool). pick t (nat f.left + n) (nat f.left))
      (eu ∙ ap (λ (t : ℤ). uses_left (nat t)) p) in
      let right = c.is ∙ ap (λ (t : Bool). pick t (nat f.right + n) (nat f.right))
      (ev ∙ ap (λ (t : ℤ). uses_right (nat t)) p) in
      record {
        clause = λ i. record {
          opcode = nat (p i);
          out = a.is i;
          left = left i;
          right = right i;
          constant = k.constant i;
        };
        bytes = record {
          opcode = ap (is_slot 256) p ∙ s.opcode;
          out = a.byte;
          left = b.byte;
          right = c.byte;
        };
      }

-- The minimum of two slots, from its fields as the code casts them.
module _ (a b : ℕ) (small-a : a < 256) (small_b : b < 256) where
  cast : (n : ℕ) → n < 256 → to_z w32 n ≡ pos n
  cast n h = kept_is (pos n) (omega arith)

  cast_byte : (n : ℕ) → n < 256 → is_slot 256 (to_z w32 n) ≡ true
  cast_byte n h = ap (is_slot 256) (cast n h) ∙ lt-ltb n 256 h

  pub minimum_bytes : InBytes (raw (pos 12) (to_z w32 a) (to_z w32 a) (to_z w32 b) (pos 0))
  minimum_bytes =
      record { opcode = refl; out = cast_byte a small-a; left = cast_byte a small-a; right = cast_byte b small_b }

  pub minimum_is : clause_of (raw (pos 12) (to_z w32 a) (to_z w32 a) (to_z w32 b) (pos 0)) ≡ minimum_of a b
  minimum_is =
      let p = cast a small-a in
      let q = cast b small_b in
      λ i. record { opcode = 12; out = nat (p i); left = nat (p i); right = nat (q i); constant = pos 0 }
