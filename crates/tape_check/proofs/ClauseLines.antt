-- Lines 5 to 9 of the refusals at one clause, from the tests of its fields.
use mathlib.Core.Path.{◌≡◌, ap, ◌∙◌}
use mathlib.Core.Bool.{Bool, true, false, ◌&&◌, ◌||◌, not, and_assoc, and-eq-true_iff}
use mathlib.Core.List.{List}
use Prim.Native.Nat.{ℕ, ◌≤◌}
use lib.IntN.{ℤ, nat_abs}
use lib.Dec.{eqb}
use mir.Syntax.{w32}
use mir.Val.{SFits}
use borrow.Author.Tests.{not-false}
use Rattle.rules.specs.Tapes.{Raw, slot_limit, is_slot, is_zero, is_opcode, least_word, nat, uses_left, uses_right, is_in}
use Rattle.rules.specs.Tapes.{bad_slot, bad_unused, bad_constant, bad_read, clause_fault}
use Rattle.tape.specs.declared.Fields.{Fields}
use Rattle.tape.specs.Clauses.{raw_of}
use Rattle.tape.proofs.FieldValues.{Kept, kept, slot_nat, wider}

-- Tests in one row, as the code makes them, and nested, as the rules state them.
pub row : (a b c d : Bool) → (((a && b) && c) && d) ≡ (a && (b && (c && d)))
row a b c d = and_assoc (a && b) c d ∙ and_assoc a b (c && d)

-- Where line 6 does not hold, out is a slot, and so is each side that is used.
slots_used : (n : ℕ) (c : Raw) → bad_slot n c ≡ false
    → (is_slot n c.out ≡ true)
    × ((not (uses_left (nat c.opcode)) || is_slot n c.left) ≡ true)
    × ((not (uses_right (nat c.opcode)) || is_slot n c.right) ≡ true)
unfolding bad_slot
slots_used n c e =
    let sides = (and-eq-true_iff (is_slot n c.out) _).0 (not-false _ e) in
    let both = (and-eq-true_iff (not (uses_left (nat c.opcode)) || is_slot n c.left) _).0 sides.1 in
    (sides.0, both.0, both.1)

used : (u l : Bool) → (not u || l) ≡ true → u ≡ true → l ≡ true
used true l e t = e
used false l e t = cc

-- One slot that may be read, where it is and where it is not.
pub is_read : (u h : Bool) (ns : List ℕ) (z : ℤ) → SFits w32 z → is_slot slot_limit z ≡ true → u ≡ true
    → h ≡ is_in (nat_abs (kept z)) ns → not h ≡ (u && not (is_in (nat z) ns))
is_read u h ns z f s e i = rw (e, i, slot_nat slot_limit z f s)

pub not_read : (u b : Bool) → u ≡ false → false ≡ (u && b)
not_read u b e = rw e

module _ (f : Fields) (k : Kept f) where
  pub slot_line : (n : ℕ) (o u l v r : Bool) → o ≡ is_slot n (kept f.out) → u ≡ uses_left (nat (kept f.opcode))
      → l ≡ is_slot n (kept f.left) → v ≡ uses_right (nat (kept f.opcode)) → r ≡ is_slot n (kept f.right)
      → not ((o && (not u || l)) && (not v || r)) ≡ bad_slot n (raw_of f)
  unfolding bad_slot
  slot_line n o u l v r p q s t w =
      ap not (and_assoc o (not u || l) (not v || r)) ∙ cc (k.opcode, k.out, k.left, k.right)

  pub unused_line : (u l v r o c : Bool) → u ≡ uses_left (nat (kept f.opcode)) → l ≡ is_zero f.left
      → v ≡ uses_right (nat (kept f.opcode)) → r ≡ is_zero f.right → o ≡ eqb (nat (kept f.opcode)) 0
      → c ≡ is_zero f.constant → not (((u || l) && (v || r)) && (o || c)) ≡ bad_unused (raw_of f)
  unfolding bad_unused
  unused_line u l v r o c p q s t w x = ap not (and_assoc (u || l) (v || r) (o || c)) ∙ cc k.opcode

  pub constant_line : (o c : Bool) → o ≡ eqb (nat (kept f.opcode)) 0 → c ≡ least_word f.constant
      → (o && c) ≡ bad_constant (raw_of f)
  unfolding bad_constant
  constant_line o c p q = cc k.opcode

  pub read_line : (ns : List ℕ) (u l v r : Bool) → u ≡ uses_left (nat (kept f.opcode))
      → l ≡ (u && not (is_in (nat (kept f.left)) ns)) → v ≡ uses_right (nat (kept f.opcode))
      → r ≡ (v && not (is_in (nat (kept f.right)) ns)) → (l || r) ≡ bad_read ns (raw_of f)
  unfolding bad_read
  read_line ns u l v r p q s t = cc (k.opcode, k.left, k.right)

  pub left_slot : (n : ℕ) (u : Bool) → n ≤ slot_limit → bad_slot n (raw_of f) ≡ false
      → u ≡ uses_left (nat (kept f.opcode)) → u ≡ true → is_slot slot_limit (kept f.left) ≡ true
  left_slot n u h b e t =
      ap (is_slot slot_limit) k.left
      ∙ wider n slot_limit f.left h
      (used (uses_left (nat f.opcode)) (is_slot n f.left) (slots_used n (raw_of f) b).1 (cc k.opcode))

  pub right_slot : (n : ℕ) (u : Bool) → n ≤ slot_limit → bad_slot n (raw_of f) ≡ false
      → u ≡ uses_right (nat (kept f.opcode)) → u ≡ true → is_slot slot_limit (kept f.right) ≡ true
  right_slot n u h b e t =
      ap (is_slot slot_limit) k.right
      ∙ wider n slot_limit f.right h
      (used (uses_right (nat f.opcode)) (is_slot n f.right) (slots_used n (raw_of f) b).2 (cc k.opcode))

-- The lines in their order.
module _ (n : ℕ) (ns : List ℕ) (c : Raw) where
  pub fault_5 : is_opcode c.opcode ≡ false → 5 ≡ clause_fault n ns c
  unfolding clause_fault
  fault_5 a = rw a

  pub fault_6 : is_opcode c.opcode ≡ true → bad_slot n c ≡ true → 6 ≡ clause_fault n ns c
  unfolding clause_fault
  fault_6 a b = rw (a, b)

  pub fault_7 : is_opcode c.opcode ≡ true → bad_slot n c ≡ false → bad_unused c ≡ true → 7 ≡ clause_fault n ns c
  unfolding clause_fault
  fault_7 a b d = rw (a, b, d)

  pub fault_8 : is_opcode c.opcode ≡ true → bad_slot n c ≡ false → bad_unused c ≡ false → bad_constant c ≡ true
      → 8 ≡ clause_fault n ns c
  unfolding clause_fault
  fault_8 a b d e = rw (a, b, d, e)

  pub fault_9 : is_opcode c.opcode ≡ true → bad_slot n c ≡ false → bad_unused c ≡ false → bad_constant c ≡ false
      → bad_read ns c ≡ true → 9 ≡ clause_fault n ns c
  unfolding clause_fault
  fault_9 a b d e r = rw (a, b, d, e, r)

  pub fault_none : is_opcode c.opcode ≡ true → bad_slot n c ≡ false → bad_unused c ≡ false → bad_constant c ≡ false
      → bad_read ns c ≡ false → 0 ≡ clause_fault n ns c
  unfolding clause_fault
  fault_none a b d e r = rw (a, b, d, e, r)
