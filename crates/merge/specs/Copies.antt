-- What the functions that write a merged tape ask of what they are given, and how they raise a clause.
use Rattle.std.specs.Prelude.{◌≡◌, true, List, ℕ, ◌+◌, ◌*◌, ◌≤◌, length}
use Rattle.rules.specs.Tapes.{Raw, slot_limit, clause_limit, is_slot, clause_of, read_tape}
use Rattle.tape.specs.Clauses.{InBytes}
use Rattle.tape_check.specs.Checks.{Accepts}
use Rattle.tape_check.specs.declared.Counts.{Counts}
use Rattle.merge_rules.specs.Merging.{raised, can_merge, merged_bytes}

-- A clause as an accepted tape has it: each slot field, used or not, is a slot that a tape may have.
pub record InSlots (r : Raw) : Type 0 where
  pub opcode : is_slot 256 r.opcode ≡ true
  pub out : is_slot slot_limit r.out ≡ true
  pub left : is_slot slot_limit r.left ≡ true
  pub right : is_slot slot_limit r.right ≡ true

-- r' is r with each used slot n higher, and goes into bytes.
pub record RaisedTo (n : ℕ) (r r' : Raw) : Type 0 where
  pub clause : clause_of r' ≡ raised n (clause_of r)
  pub bytes : InBytes r'

-- The bytes s are an accepted tape of k clauses.
pub record Counted (s : List ℕ) (k : ℕ) : Type 0 where
  pub accepted : (read_tape s).number ≡ 0
  pub clauses : k ≡ length (read_tape s).tape.clauses

-- Such a tape's clauses, raised by n, have room in o from p on, a place within a tape.
pub record Copyable (s : List ℕ) (k n p : ℕ) (o : List ℕ) : Type 0 where
  pub tape : Counted s k
  pub few : n ≤ slot_limit
  pub place : p ≤ 8 + 10 * clause_limit
  pub room : p + 10 * k ≤ length o

-- Two accepted tapes within the limits of one, with their counts, and an output of the length of both.
pub record Writable (s : List ℕ) (c : Counts) (v : List ℕ) (d : Counts) (o : List ℕ) : Type 0 where
  pub first : (read_tape s).number ≡ 0
  pub second : (read_tape v).number ≡ 0
  pub one : Accepts c (read_tape s)
  pub two : Accepts d (read_tape v)
  pub limit : can_merge (read_tape s).tape (read_tape v).tape ≡ true
  pub size : length o ≡ length (merged_bytes s v)
