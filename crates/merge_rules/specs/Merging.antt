-- Two tapes into one: the tape, and the lines by which it is refused.
use Rattle.std.specs.Prelude.{Bool, ◌&&◌, not, List, [], ◌∷◌, ◌++◌, map, pos, ℕ, ◌+◌, eqb, leb, length}
use Rattle.rules.specs.Values.{pick, first_fault, when, Clause}
use Rattle.rules.specs.Tapes.{Tape, slot_limit, clause_limit, uses_left, uses_right, last_out, read_tape, tape_bytes}

-- "the second's with each used slot raised by the first's slot count": every opcode uses out; a field that the opcode
-- doesn't use stays 0.
abbrev pub raised : ℕ → Clause → Clause
raised n c =
    record {
      opcode = c.opcode;
      out = c.out + n;
      left = pick (uses_left c.opcode) (c.left + n) c.left;
      right = pick (uses_right c.opcode) (c.right + n) c.right;
      constant = c.constant;
    }

-- "then a minimum of both results, the first's at left, into the first's result slot": a and b are the result slots.
abbrev pub minimum_of : ℕ → ℕ → Clause
minimum_of a b = record { opcode = 12; out = a; left = a; right = b; constant = pos 0 }

-- "The result is the first tape's clauses, the second's with each used slot raised by the first's slot count, then a
-- minimum of both results"; "both counts added".
unfoldable pub merged : Tape → Tape → Tape
merged t u =
    let n = t.slots in
    record {
      slots = n + u.slots;
      clauses = t.clauses
          ++ (map (raised n) u.clauses ++ (minimum_of (last_out t.clauses) (last_out u.clauses + n) ∷ []));
    }

-- "21 when the result has over 6,144 clauses, the minimum counted, or over 128 slots, both counts added": tapes of k
-- and l clauses, in n and m slots.
unfoldable pub fits_merged : ℕ → ℕ → ℕ → ℕ → Bool
fits_merged k l n m = leb (k + l + 1) clause_limit && leb (n + m) slot_limit

abbrev pub can_merge : Tape → Tape → Bool
can_merge t u = fits_merged (length t.clauses) (length u.clauses) t.slots u.slots

-- What merging the bytes s and v writes.
abbrev pub merged_bytes : List ℕ → List ℕ → List ℕ
merged_bytes s v = tape_bytes (merged (read_tape s).tape (read_tape v).tape)

-- "after lines 1 to 9 for the first tape, then the second, and before 14": n is the length of the output.
abbrev pub merge_lines : List ℕ → List ℕ → ℕ → List ℕ
merge_lines s v n =
    (read_tape s).number
    ∷ ((read_tape v).number
    ∷ (when (not (can_merge (read_tape s).tape (read_tape v).tape)) 21
    ∷ (when (not (eqb n (length (merged_bytes s v)))) 14 ∷ [])))

abbrev pub merge_fault : List ℕ → List ℕ → ℕ → ℕ
merge_fault s v n = first_fault (merge_lines s v n)

-- "Place is the clause index, from 0, in the tape or list at fault for 5 to 9": in whichever of the two failed.
unfoldable pub fault_clause : List ℕ → List ℕ → ℕ
fault_clause s v = pick (eqb (read_tape s).number 0) (read_tape v).place (read_tape s).place
