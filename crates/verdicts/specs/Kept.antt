-- A clause of a kept tape, as the bytes of the tape and its mark give it.
use Rattle.std.specs.Prelude.{◌≡◌, Bool, ◌&&◌, ◌||◌, List, ℤ, pos, ℕ, eqb, leb, length, get_or}
use Rattle.rules.specs.Values.{pick}
use Rattle.rules.specs.Tapes.{Raw, nat, word, clause_fault, read_tape}
use Rattle.table_rules.specs.Tables.{entry_length, is_choice}

-- As `copy_of` and `as_marked` say it of a clause that has been read.
abbrev pub copy_raw : ℤ → ℤ → Raw
copy_raw out side = record { opcode = pos 4; out = out; left = side; right = pos 0; constant = pos 0 }

abbrev pub marked_raw : Raw → ℕ → Raw
marked_raw r m = pick (eqb m 1) r (copy_raw r.out (pick (eqb m 2) r.left r.right))

-- It copies a side of a minimum or a maximum or none, and has no fault, given the slots that those before it wrote.
abbrev pub stands : ℕ → List ℕ → Raw → ℕ → Bool
stands n ns r m = (leb m 1 || is_choice (nat r.opcode)) && eqb (clause_fault n ns (marked_raw r m)) 0

-- An accepted tape with its counts, and an entry's bytes.
pub record ForEntry (s entry : List ℕ) (slots count : ℕ) : Type 0 where
  pub read : (read_tape s).number ≡ 0
  pub slots_are : slots ≡ get_or s 3 0
  pub count_is : count ≡ word 4 s
  pub long : length entry ≡ entry_length
