-- The walks that write: a list's clauses as a tape's bytes, a tape's clauses as a list's numbers.
use mathlib.Core.Path.{◌≡◌, refl, sym, ap, ◌∙◌}
use mathlib.Core.Bool.{Bool, true, false, ◌||◌, not}
use mathlib.Core.List.{List, [], ◌∷◌, ◌++◌, map}
use Prim.Native.Nat.{ℕ, zero, suc, ◌+◌, ◌*◌, ◌≤◌, ◌<◌}
use native.Mathlib.Omega.{arith}
use native.Mathlib.Numerals.{add-one}
use lib.IntN.{ℤ, pos, negsuc}
use lib.ListN.{length, get_or, drop, length-map}
use lib.Seq.{sets}
use borrow.Author.Tests.{lt-ltb, leb-true, eqb-true}
use Rattle.rules.specs.Values.{Clause}
use Rattle.rules.specs.Tapes.{Tape, Raw, Got, slot_limit, clause_limit, last_opcode, is_slot, is_zero, is_opcode, nat}
use Rattle.rules.specs.Tapes.{uses_left, uses_right, clause_of, word, raw_in, raws_from, raws_of, read_list, read_tape}
use Rattle.rules.specs.Tapes.{head_bytes, clause_bytes, tape_bytes, list_of}
use Rattle.rules.proofs.Reading.{raw_of as given, Passed, passed_tests, same_given, length_list, counts_hold}
use Rattle.rules.proofs.Reading.{list_accepted, list_faultless, list_tape, tape_accepted, tape_faultless, tape_tape}
use Rattle.rules.proofs.Bytes.{length_read, length_bytes}
use Rattle.tape.specs.Clauses.{InBytes, five}
use Rattle.tape.proofs.FieldValues.{wider}
use Rattle.tape.proofs.ByteClauses.{left_from, raws_first, raws_here, raws_over}
use Rattle.tape.proofs.ListClauses.{raws_length, raws_next, raws_end}
use Rattle.packing.specs.Packing.{bytes_of, numbers_of, Fills}
use Rattle.packing.proofs.Writing.{Written, start_written, written_to, clause_passed, next_written, all_written}

-- A clause without a fault has fields that go into bytes.
opcode_byte : (z : ℤ) → is_opcode z ≡ true → is_slot 256 z ≡ true
opcode_byte (pos a) e = lt-ltb a 256 (omega (arith, leb-true a last_opcode e))
opcode_byte (negsuc a) e = e

zero_byte : (z : ℤ) → is_zero z ≡ true → is_slot 256 z ≡ true
zero_byte (pos zero) e = refl
zero_byte (pos (suc a)) e = absurd (omega (arith, eqb-true (suc a) 0 e))
zero_byte (negsuc a) e = e

side_byte : (n : ℕ) (u : Bool) (z : ℤ) → n ≤ 256 → (not u || is_slot n z) ≡ true → (u || is_zero z) ≡ true
    → is_slot 256 z ≡ true
side_byte n true z h e f = wider n 256 z h e
side_byte n false z h e f = zero_byte z f

in_bytes : (n : ℕ) (written : List ℕ) (r : Raw) → n ≤ 256 → Passed n written r → InBytes r
in_bytes n written r h p =
    let t = passed_tests n written r p in
    let o = nat r.opcode in
    record {
      opcode = opcode_byte r.opcode t.opcode;
      out = wider n 256 r.out h t.out;
      left = side_byte n (uses_left o) r.left h t.left.slot t.left.unused;
      right = side_byte n (uses_right o) r.right h t.right.slot t.right.unused;
    }

pub length_tape : (t : Tape) → length (tape_bytes t) ≡ 8 + 10 * length t.clauses
unfolding tape_bytes
length_tape t = omega (arith, length_bytes t.clauses)

-- A list, to a tape's bytes.
pub record ListSizes (n k : ℕ) (zs : List ℤ) (o : List ℕ) : Type 0 where
  pub slots : n ≤ slot_limit
  pub clauses : k ≤ clause_limit
  pub numbers : length zs ≡ 5 * k
  pub bytes : length o ≡ 8 + 10 * k

module _ (n k : ℕ) (zs : List ℤ) (o : List ℕ) (h : Fills (read_list n zs) k (bytes_of n zs) o) where
  counted : k ≡ length (raws_of zs)
  counted =
      h.clauses ∙ ap (λ (g : Got). length g.tape.clauses) (list_tape n zs h.accepted)
      ∙ length-map (raws_of zs) clause_of

  pub list_sizes : ListSizes n k zs o
  list_sizes =
      let a = list_accepted n zs h.accepted in
      let w = counts_hold n (length (raws_of zs)) a.counts in
      record {
        slots = w.slots;
        clauses = omega (arith, w.clauses, counted);
        numbers = omega (arith, a.fives, counted, raws_length zs);
        bytes = omega (arith, h.size, h.clauses, length_tape (read_list n zs).tape);
      }

  written_whole : bytes_of n zs ≡ head_bytes n k ++ clause_bytes (map clause_of (raws_of zs))
  unfolding tape_bytes
  written_whole =
      let cs = map clause_of (raws_of zs) in
      ap (λ (g : Got). tape_bytes g.tape) (list_tape n zs h.accepted)
      ∙ ap (λ x. head_bytes n x ++ clause_bytes cs) (length-map (raws_of zs) clause_of ∙ sym counted)

  pub bytes_start : (p : List ℕ) → p ≡ sets o 0 (head_bytes n k)
      → Written clause_bytes (bytes_of n zs) n 0 (8 + 10 * 0) (raws_of (drop (5 * 0) zs)) p
  bytes_start p e =
      start_written clause_bytes (bytes_of n zs) n (raws_of zs) o p (head_bytes n k) written_whole h.size e
      (list_faultless n zs h.accepted)

bytes_cons : (c : Clause) (cs : List Clause) → clause_bytes (c ∷ cs) ≡ clause_bytes (c ∷ []) ++ clause_bytes cs
unfolding clause_bytes
bytes_cons c cs = refl

module _ (b : List ℕ) (n i : ℕ) (zs : List ℤ) (o : List ℕ)
    (w : Written clause_bytes b n i (8 + 10 * i) (raws_of (drop (5 * i) zs)) o) where
  module _ (r : Raw) (e : raws_of (drop (5 * i) zs) ≡ r ∷ raws_of (drop (5 * i + 5) zs)) where
    pub clause_bytes_lem : n ≤ slot_limit → InBytes r
    clause_bytes_lem h =
        in_bytes n _ r (omega arith)
        (clause_passed clause_bytes b n (written_to clause_bytes b n {i = i} {a = 8 + 10 * i} refl refl e w))

    pub bytes_next : (p : List ℕ) → p ≡ sets o (8 + 10 * i) (clause_bytes (clause_of r ∷ [])) → 8 + 10 * i + 10 ≤ length o
        → Written clause_bytes b n (i + 1) (8 + 10 * (i + 1)) (raws_of (drop (5 * (i + 1)) zs)) p
    unfolding clause_bytes
    bytes_next p q room =
        let a : 8 + 10 * i + 10 ≡ 8 + 10 * (i + 1) = omega arith in
        written_to clause_bytes b n (sym (add-one i)) a (raws_next zs i)
        (next_written clause_bytes b n bytes_cons (written_to clause_bytes b n {i = i} {a = 8 + 10 * i} refl refl e w)
        refl q room)

  pub bytes_done : (k : ℕ) → length zs ≡ 5 * k → k ≤ i → o ≡ b
  unfolding clause_bytes
  bytes_done k h l =
      all_written clause_bytes b n refl
      (written_to clause_bytes b n {i = i} {a = 8 + 10 * i} refl refl (raws_end zs k h i l) w)

-- A tape, to a list's numbers.
pub record TapeSizes (k : ℕ) (s : List ℕ) (o : List ℤ) : Type 0 where
  pub clauses : k ≤ clause_limit
  pub bytes : length s ≡ 8 + 10 * k
  pub numbers : length o ≡ 5 * k

module _ (k : ℕ) (s : List ℕ) (o : List ℤ) (h : Fills (read_tape s) k (numbers_of s) o) where
  word_count : k ≡ word 4 s
  word_count =
      h.clauses
      ∙ ap (λ (g : Got). length g.tape.clauses) (tape_tape s h.accepted)
      ∙ length_read (word 4 s) (drop 8 s)

  pub tape_sizes : TapeSizes k s o
  tape_sizes =
      let a = tape_accepted s h.accepted in
      let w = counts_hold (get_or s 3 0) (word 4 s) a.counts in
      record {
        clauses = omega (arith, w.clauses, word_count);
        bytes = omega (arith, a.exact, word_count);
        numbers = omega (arith, h.size, h.clauses, length_list (read_tape s).tape.clauses);
      }

  pub numbers_start : Written list_of (numbers_of s) (get_or s 3 0) 0 (5 * 0) (left_from s k 0) o
  numbers_start =
      let e = h.accepted in
      written_to list_of (numbers_of s) (get_or s 3 0) refl refl
      (ap (λ x. raws_from x (drop 8 s)) (sym word_count) ∙ raws_first s k)
      (start_written list_of (numbers_of s) (get_or s 3 0) (raws_from (word 4 s) (drop 8 s)) o o []
      (ap (λ (g : Got). list_of g.tape.clauses) (tape_tape s e)) h.size refl (tape_faultless s e))

list_cons : (c : Clause) (cs : List Clause) → list_of (c ∷ cs) ≡ list_of (c ∷ []) ++ list_of cs
unfolding list_of
list_cons c cs = refl

-- The numbers of a clause without a fault are those of the clause that it reads as.
five_given : (r : Raw) (c : Clause) → given c ≡ r → five r ≡ list_of (c ∷ [])
unfolding list_of
five_given r c e = ap five (sym e)

module _ (b : List ℤ) (n i k : ℕ) (s : List ℕ) (o : List ℤ) (w : Written list_of b n i (5 * i) (left_from s k i) o) where
  pub numbers_next : (r : Raw) → r ≡ raw_in (drop (8 + 10 * i) s) → i < k → (p : List ℤ) → p ≡ sets o (5 * i) (five r)
      → 5 * i + 5 ≤ length o → Written list_of b n (i + 1) (5 * (i + 1)) (left_from s k (i + 1)) p
  numbers_next r e h p q room =
      let here : left_from s k i ≡ r ∷ left_from s k (i + 1) = raws_here s k i h
      ∙ ap (λ x. x ∷ left_from s k (i + 1)) (sym e) in
      let v = written_to list_of b n {i = i} {a = 5 * i} refl refl here w in
      let a : 5 * i + 5 ≡ 5 * (i + 1) = omega arith in
      written_to list_of b n (sym (add-one i)) a refl
      (next_written list_of b n list_cons v
      (five_given r (clause_of r) (same_given n v.written r (clause_passed list_of b n v))) q room)

  pub numbers_done : k ≤ i → o ≡ b
  unfolding list_of
  numbers_done l =
      all_written list_of b n refl (written_to list_of b n {i = i} {a = 5 * i} refl refl (raws_over s k i l) w)
