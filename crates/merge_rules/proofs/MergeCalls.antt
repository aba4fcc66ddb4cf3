-- The lines of the call in their order, and what the bytes are that it writes when it is done.
use mathlib.Core.Path.{◌≡◌, sym, ap, ◌∙◌}
use mathlib.Core.Bool.{true, false, not, ◌||◌}
use mathlib.Core.List.{List}
use Prim.Native.Nat.{ℕ, ◌+◌, ◌*◌}
use lib.Dec.{eqb}
use lib.ListN.{length, get_or}
use borrow.Author.Tests.{eqb-true, eq-eqb, ne_eqb, not-false}
use Rattle.rules.specs.Values.{smaller, Sample}
use Rattle.rules.specs.Tapes.{Got, edition, value_at, material, good, read_tape}
use Rattle.rules.specs.Drawings.{Grid, drawn}
use Rattle.rules.specs.Accepted.{Accepted}
use Rattle.rules.proofs.Tests.{last_off}
use Rattle.rules.proofs.Lines.{first_here, each_line}
use Rattle.rules.proofs.Accepted.{accepted_tape}
use Rattle.merge_rules.specs.Merging.{merged, can_merge, merged_bytes, merge_lines, merge_fault, fault_clause}
use Rattle.merge_rules.proofs.MergedValues.{merged_value}
use Rattle.merge_rules.proofs.MergedTapes.{merged_read, merged_edition, merged_length}
use Rattle.merge_rules.proofs.MergedDrawings.{higher, merged_material, merged_drawn}

-- The length that the output must have.
abbrev pub merged_size : List ℕ → List ℕ → ℕ
merged_size s v = 8 + 10 * (length (read_tape s).tape.clauses + length (read_tape v).tape.clauses + 1)

-- "after lines 1 to 9 for the first tape, then the second, and before 14".
pub record MergeOrder (s v : List ℕ) (n : ℕ) : Type 0 where
  pub first : ((read_tape s).number ≡ 0 → ⊥) → merge_fault s v n ≡ (read_tape s).number
  pub second : (read_tape s).number ≡ 0 → ((read_tape v).number ≡ 0 → ⊥) → merge_fault s v n ≡ (read_tape v).number
  pub limit : (read_tape s).number ≡ 0 → (read_tape v).number ≡ 0
      → can_merge (read_tape s).tape (read_tape v).tape ≡ false → merge_fault s v n ≡ 21
  pub room : (read_tape s).number ≡ 0 → (read_tape v).number ≡ 0 → can_merge (read_tape s).tape (read_tape v).tape ≡ true
      → (n ≡ merged_size s v → ⊥) → merge_fault s v n ≡ 14
  pub done : (read_tape s).number ≡ 0 → (read_tape v).number ≡ 0 → can_merge (read_tape s).tape (read_tape v).tape ≡ true
      → n ≡ merged_size s v → merge_fault s v n ≡ 0

pub merge_order : (s v : List ℕ) (n : ℕ) → MergeOrder s v n
merge_order s v n =
    let l = length (merged_bytes s v) in
    let k : l ≡ merged_size s v = merged_length (read_tape s).tape (read_tape v).tape in
    record {
      first = λ e. first_here (read_tape s).number _ e;
      second = λ e f. rw e (first_here (read_tape v).number _ f);
      limit = λ e f c. rw (e, f, c);
      room = λ e f c h. rw (e, f, c, ne_eqb n l (λ q. h (q ∙ k)));
      done = λ e f c h. rw (e, f, c, eq-eqb n l (h ∙ sym k));
    }

-- "Place is the clause index .. in the tape .. at fault".
pub first_clause : (s v : List ℕ) → ((read_tape s).number ≡ 0 → ⊥) → fault_clause s v ≡ (read_tape s).place
unfolding fault_clause
first_clause s v e = rw (ne_eqb (read_tape s).number 0 e)

pub second_clause : (s v : List ℕ) → (read_tape s).number ≡ 0 → fault_clause s v ≡ (read_tape v).place
unfolding fault_clause
second_clause s v e = rw (eq-eqb (read_tape s).number 0 e)

-- A call that is not turned down: no line holds.
pub record Clear (s v : List ℕ) (n : ℕ) : Type 0 where
  pub first : (read_tape s).number ≡ 0
  pub second : (read_tape v).number ≡ 0
  pub limit : can_merge (read_tape s).tape (read_tape v).tape ≡ true
  pub room : n ≡ length (merged_bytes s v)

pub merge_clear : (s v : List ℕ) (n : ℕ) → merge_fault s v n ≡ 0 → Clear s v n
merge_clear s v n e =
    let c = can_merge (read_tape s).tape (read_tape v).tape in
    let l = length (merged_bytes s v) in
    let at = each_line (merge_lines s v n) e in
    record {
      first = at 0;
      second = at 1;
      limit = not-false c (last_off (not c) 20 (at 2));
      room = eqb-true n l (not-false (eqb n l) (last_off (not (eqb n l)) 13 (at 3)));
    }

-- What o' holds when the call is done: bytes that are read as the merged tape, with "the smaller of the two values" at
-- every sample, material where either has it, and the larger of both heights at every pixel of every drawing.
pub record MergedInto (s v o' : List ℕ) : Type 0 where
  pub read : read_tape o' ≡ good (merged (read_tape s).tape (read_tape v).tape)
  pub head : let t = (read_tape s).tape in
      let u = (read_tape v).tape in
      get_or o' 2 0 ≡ edition (t.slots + u.slots) (length t.clauses + length u.clauses + 1)
  pub value : (p : Sample)
      → value_at (read_tape o').tape p ≡ smaller (value_at (read_tape s).tape p) (value_at (read_tape v).tape p)
  pub either : (p : Sample)
      → material (read_tape o').tape p ≡ (material (read_tape s).tape p || material (read_tape v).tape p)
  pub drawing : (g : Grid)
      → drawn (read_tape o').tape g ≡ higher (drawn (read_tape s).tape g) (drawn (read_tape v).tape g)

pub bytes_merged : (s v : List ℕ) (n : ℕ) → merge_fault s v n ≡ 0 → MergedInto s v (merged_bytes s v)
bytes_merged s v n e =
    let c = merge_clear s v n e in
    let t = (read_tape s).tape in
    let u = (read_tape v).tape in
    let p : Accepted t = accepted_tape s c.first in
    let q : Accepted u = accepted_tape v c.second in
    let r : read_tape (merged_bytes s v) ≡ good (merged t u) = merged_read t u p q c.limit in
    let k : (read_tape (merged_bytes s v)).tape ≡ merged t u = ap (λ (g : Got). g.tape) r in
    record {
      read = r;
      head = merged_edition t u;
      value = λ x. ap (λ w. value_at w x) k ∙ merged_value t u p q x;
      either = λ x. ap (λ w. material w x) k ∙ (merged_material t u p q).has x;
      drawing = λ g. ap (λ w. drawn w g) k ∙ merged_drawn t u p q g;
    }
