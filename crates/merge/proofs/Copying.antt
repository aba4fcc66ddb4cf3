-- The loop that copies a tape's clauses, and the parts of the merged tape one behind the other.
use mathlib.Core.Path.{◌≡◌, refl, sym, ap, ◌∙◌}
use mathlib.Core.Bool.{Bool, true, false}
use mathlib.Core.List.{List, [], ◌∷◌, ◌++◌, map, append-nil}
use Prim.Native.Nat.{ℕ, ◌+◌, ◌*◌, ◌≤◌, ◌<◌}
use native.Mathlib.Omega.{arith}
use lib.IntN.{pos}
use lib.ListN.{length, get_or, drop, length-map, drop_of_length-le}
use lib.Seq.{sets, sets-eq, length-sets}
use borrow.Author.Tests.{lt-ltb}
use Rattle.rules.specs.Values.{pick, Clause}
use Rattle.rules.specs.Tapes.{Raw, Got, slot_limit, clause_limit, last_opcode, is_slot, nat, last_out, word, mark_ok, raw_in}
use Rattle.rules.specs.Tapes.{clause_of, raws_from, clause_bytes, head_bytes, read_tape}
use Rattle.rules.specs.Accepted.{AllFit, Fits}
use Rattle.rules.proofs.Reading.{tape_accepted, tape_tape}
use Rattle.rules.proofs.Accepted.{accepted_tape, operand_below}
use Rattle.rules.proofs.Bytes.{length_read, length_bytes}
use Rattle.tape.proofs.ByteClauses.{left_from, raws_first, raws_here, raws_over}
use Rattle.tape.proofs.WrittenBytes.{runs, and_then}
use Rattle.tape_check.specs.declared.Counts.{Counts}
use Rattle.merge_rules.specs.Merging.{raised, minimum_of, merged_bytes}
use Rattle.merge_rules.proofs.MergedValues.{last_in_lem}
use Rattle.merge_rules.proofs.MergedTapes.{limits, merged_length}
use Rattle.merge_rules.proofs.MergedBytes.{merged_by_parts, result_slot_lem}
use Rattle.merge.specs.Copies.{InSlots, RaisedTo, Counted, Writable}

-- An accepted tape of k clauses: its length, its limits, and its clauses as the loop reads them.
pub record Sizes (s : List ℕ) (k : ℕ) : Type 0 where
  pub some : 1 ≤ k
  pub clauses : k ≤ clause_limit
  pub slots : (read_tape s).tape.slots ≤ slot_limit
  pub bytes : length s ≡ 8 + 10 * k

module _ (s : List ℕ) (k : ℕ) (h : Counted s k) where
  word_count : k ≡ word 4 s
  word_count =
      h.clauses
      ∙ ap (λ (g : Got). length g.tape.clauses) (tape_tape s h.accepted)
      ∙ length_read (word 4 s) (drop 8 s)

  pub sizes : Sizes s k
  sizes =
      let a = accepted_tape s h.accepted in
      record {
        some = omega (arith, a.some_clause, h.clauses);
        clauses = omega (arith, a.clauses, h.clauses);
        slots = a.slots;
        bytes = omega (arith, (tape_accepted s h.accepted).exact, word_count);
      }

  clauses_left : (read_tape s).tape.clauses ≡ map clause_of (left_from s k 0)
  clauses_left =
      ap (λ (g : Got). g.tape.clauses) (tape_tape s h.accepted)
      ∙ ap (λ m. map clause_of (raws_from m (drop 8 s))) (sym word_count)
      ∙ ap (map clause_of) (raws_first s k)

-- The result slot is the byte of the last clause's out, and a slot of the tape.
pub result_is : (s : List ℕ) (k : ℕ) → Counted s k → (r : ℕ) → r ≡ get_or s (10 * k + 1) 0
    → (r ≡ last_out (read_tape s).tape.clauses) × (r < slot_limit)
result_is s k h r e =
    let a = accepted_tape s h.accepted in
    let t = (read_tape s).tape in
    let q : r ≡ last_out t.clauses =
    e ∙ ap (λ m. get_or s (10 * m + 1) 0) h.clauses ∙ sym (result_slot_lem s h.accepted) in
    (q, omega (arith, last_in_lem t.slots [] t.clauses a.some_clause a.fit, a.slots))

-- The bytes of clauses as they are given, raised by n.
abbrev raised_bytes : ℕ → List Raw → List ℕ
raised_bytes n rs = clause_bytes (map (raised n) (map clause_of rs))

-- Before the i-th clause: what is left, stored from here on, makes all that is to be stored; and it fits.
pub record Copying (s : List ℕ) (k n p : ℕ) (o₀ : List ℕ) (i : ℕ) (o : List ℕ) : Type 0 where
  pub few : i ≤ k
  pub size : length o ≡ length o₀
  pub rest : sets o (p + 10 * i) (raised_bytes n (left_from s k i)) ≡ sets o₀ p (raised_bytes n (left_from s k 0))
  pub written : List ℕ
  pub fit : AllFit (read_tape s).tape.slots written (map clause_of (left_from s k i))

pub start_copying : (s : List ℕ) (k n p : ℕ) (o : List ℕ) → Counted s k → Copying s k n p o 0 o
start_copying s k n p o h =
    let z : p + 10 * 0 ≡ p = omega arith in
    record {
      few = omega arith;
      size = refl;
      rest = ap (λ a. sets o a (raised_bytes n (left_from s k 0))) z;
      written = [];
      fit = rw (clauses_left s k h) at (accepted_tape s h.accepted).fit;
    }

-- A clause that fits has fields that are slots of a tape.
opcode_byte : (b : Bool) (x : ℕ) → nat (pick b (pos x) (pos 255)) ≤ last_opcode
    → is_slot 256 (pick b (pos x) (pos 255)) ≡ true
opcode_byte true x h = lt-ltb x 256 (omega arith)
opcode_byte false x h = absurd (omega arith)

in_slots_lem : (m : ℕ) (w : List ℕ) (s : List ℕ) → m ≤ slot_limit → Fits m w (clause_of (raw_in s)) → InSlots (raw_in s)
unfolding raw_in
in_slots_lem m w s h f =
    let some : 1 ≤ m = omega (arith, f.out) in
    record {
      opcode = opcode_byte (mark_ok s) (get_or s 2 0) f.opcode;
      out = lt-ltb (get_or s 3 0) slot_limit (omega (arith, f.out));
      left = lt-ltb (get_or s 4 0) slot_limit (omega (arith, operand_below f.left some));
      right = lt-ltb (get_or s 5 0) slot_limit (omega (arith, operand_below f.right some));
    }

module _ (s : List ℕ) (k n p : ℕ) (o₀ : List ℕ) (i : ℕ) (o : List ℕ) (c : Copying s k n p o₀ i o) where
  module _ (h : i < k) where
    here : left_from s k i ≡ raw_in (drop (8 + 10 * i) s) ∷ left_from s k (i + 1)
    here = raws_here s k i h

    fits_here : AllFit (read_tape s).tape.slots c.written
        (clause_of (raw_in (drop (8 + 10 * i) s)) ∷ map clause_of (left_from s k (i + 1)))
    fits_here = rw here at c.fit

    pub clause_slots : Counted s k → (r : Raw) → r ≡ raw_in (drop (8 + 10 * i) s) → InSlots r
    unfolding AllFit
    clause_slots t r e =
        rw e (in_slots_lem (read_tape s).tape.slots c.written (drop (8 + 10 * i) s) (sizes s k t).slots fits_here.0)

    pub next_copying : (r r' : Raw) (o' : List ℕ) → r ≡ raw_in (drop (8 + 10 * i) s) → RaisedTo n r r'
        → o' ≡ sets o (p + 10 * i) (clause_bytes (clause_of r' ∷ [])) → Copying s k n p o₀ (i + 1) o'
    unfolding AllFit clause_bytes
    next_copying r r' o' e t q =
        let a = p + 10 * i in
        let left = raised_bytes n (left_from s k (i + 1)) in
        let d : clause_of r' ≡ raised n (clause_of (raw_in (drop (8 + 10 * i) s))) = t.clause
        ∙ ap (λ (x : Raw). raised n (clause_of x)) e in
        record {
          few = omega arith;
          size = ap length q ∙ length-sets o a (clause_bytes (clause_of r' ∷ [])) ∙ c.size;
          rest = ap (λ (x : List ℕ). sets x (p + 10 * (i + 1)) left) q
              ∙ runs (clause_bytes (clause_of r' ∷ [])) left o a (p + 10 * (i + 1)) (omega arith)
              ∙ ap (λ (x : Clause). sets o a (clause_bytes (x ∷ []) ++ left)) d
              ∙ ap (λ (rs : List Raw). sets o a (raised_bytes n rs)) (sym here)
              ∙ c.rest;
          written = _;
          fit = fits_here.1;
        }

  pub all_copied : Counted s k → k ≤ i → o ≡ sets o₀ p (clause_bytes (map (raised n) (read_tape s).tape.clauses))
  unfolding clause_bytes
  all_copied t h =
      ap (λ (rs : List Raw). sets o (p + 10 * i) (raised_bytes n rs)) (sym (raws_over s k i h))
      ∙ c.rest
      ∙ ap (λ (cs : List Clause). sets o₀ p (clause_bytes (map (raised n) cs))) (sym (clauses_left s k t))

-- The parts of the merged tape, stored one behind the other into an output of its length.
stored_whole : (b o : List ℕ) → length o ≡ length b → sets o 0 b ≡ b
stored_whole b o e =
    sets-eq b o 0 (omega arith)
    ∙ ap (λ (x : List ℕ). b ++ x) (drop_of_length-le o {i = 0 + length b} (omega arith))
    ∙ append-nil b

module _ (s v : List ℕ) (c d : Counts) (o : List ℕ) (w : Writable s c v d o) where
  pub first_counted : Counted s c.clauses
  first_counted = record { accepted = w.first; clauses = w.one.clauses }

  pub second_counted : Counted v d.clauses
  second_counted = record { accepted = w.second; clauses = w.two.clauses }

  -- The counts of the result are within the limits, and the output has room for all of it.
  pub record Room : Type 0 where
    pub clauses : c.clauses + d.clauses + 1 ≤ clause_limit
    pub slots : c.slots + d.slots ≤ slot_limit
    pub first : 1 ≤ c.slots
    pub bytes : length o ≡ 8 + 10 * (c.clauses + d.clauses + 1)

  pub room : Room
  room =
      let t = (read_tape s).tape in
      let u = (read_tape v).tape in
      let l = limits (length t.clauses) (length u.clauses) t.slots u.slots w.limit in
      record {
        clauses = omega (arith, l.clauses, w.one.clauses, w.two.clauses);
        slots = omega (arith, l.slots, w.one.slots, w.two.slots);
        first = omega (arith, (accepted_tape s w.first).some_slot, w.one.slots);
        bytes = omega (arith, w.size, merged_length t u, w.one.clauses, w.two.clauses);
      }

  pub written : (o₁ o₂ o₃ o₄ : List ℕ) (a b n m : ℕ)
      → o₁ ≡ sets o 0 (head_bytes (c.slots + d.slots) (c.clauses + d.clauses + 1))
      → o₂ ≡ sets o₁ 8 (clause_bytes (map (raised 0) (read_tape s).tape.clauses))
      → o₃ ≡ sets o₂ n (clause_bytes (map (raised c.slots) (read_tape v).tape.clauses))
      → o₄ ≡ sets o₃ m (clause_bytes (minimum_of a (b + c.slots) ∷ []))
      → n ≡ 8 + 10 * c.clauses → m ≡ 8 + 10 * (c.clauses + d.clauses)
      → a ≡ last_out (read_tape s).tape.clauses → b ≡ last_out (read_tape v).tape.clauses → o₄ ≡ merged_bytes s v
  written o₁ o₂ o₃ o₄ a b n m e₁ e₂ e₃ e₄ en em ea eb =
      let t = (read_tape s).tape in
      let u = (read_tape v).tape in
      let k = c.clauses + d.clauses + 1 in
      let head = head_bytes (c.slots + d.slots) k in
      let one = clause_bytes (map (raised 0) t.clauses) in
      let two = clause_bytes (map (raised c.slots) u.clauses) in
      let last = clause_bytes (minimum_of a (b + c.slots) ∷ []) in
      let l₁ : length one ≡ 10 * c.clauses =
      length_bytes (map (raised 0) t.clauses)
      ∙ omega (arith, length-map t.clauses (raised 0), w.one.clauses) in
      let l₂ : length two ≡ 10 * d.clauses =
      length_bytes (map (raised c.slots) u.clauses)
      ∙ omega (arith, length-map u.clauses (raised c.slots), w.two.clauses) in
      let two-on : o₄ ≡ sets o₂ n (two ++ last) = and_then o₂ o₃ o₄ two last n m e₃ e₄ (omega arith) in
      let one_on : o₄ ≡ sets o₁ 8 (one ++ (two ++ last)) =
      and_then o₁ o₂ o₄ one (two ++ last) 8 n e₂ two-on (omega arith) in
      let all : o₄ ≡ sets o 0 (head ++ (one ++ (two ++ last))) =
      and_then o o₁ o₄ head (one ++ (two ++ last)) 0 8 e₁ one_on refl in
      let same : head ++ (one ++ (two ++ last)) ≡ merged_bytes s v =
      rw (w.one.slots, w.two.slots, w.one.clauses, w.two.clauses, ea, eb) (sym (merged_by_parts t u)) in
      all ∙ ap (λ (x : List ℕ). sets o 0 x) same ∙ stored_whole (merged_bytes s v) o w.size
