-- A clause as it is given: the rules' record of its five numbers, and what each of the two forms asks of them.
use Rattle.std.specs.Prelude.{◌≡◌, Bool, true, ◌&&◌, List, [], ◌∷◌, ℕ, ◌+◌, eqb, ℤ, get_or}
use Rattle.rules.specs.Tapes.{Raw, is_slot}
use Rattle.tape.specs.declared.Fields.{Fields}

abbrev pub raw_of : Fields → Raw
raw_of f = record { opcode = f.opcode; out = f.out; left = f.left; right = f.right; constant = f.constant }

-- The two bytes at a place are those of a mark.
abbrev pub marked : ℕ → List ℕ → List ℕ → Bool
marked i s m = eqb (get_or s i 0) (get_or m 0 0) && eqb (get_or s (i + 1) 0) (get_or m 1 0)

abbrev pub mark_of : List ℕ → List ℕ
mark_of m = get_or m 0 0 ∷ (get_or m 1 0 ∷ [])

-- Opcode and slots each go into one byte.
pub record InBytes (r : Raw) : Type 0 where
  pub opcode : is_slot 256 r.opcode ≡ true
  pub out : is_slot 256 r.out ≡ true
  pub left : is_slot 256 r.left ≡ true
  pub right : is_slot 256 r.right ≡ true

-- The five numbers as a list has them.
abbrev pub five : Raw → List ℤ
five r = r.opcode ∷ (r.out ∷ (r.left ∷ (r.right ∷ (r.constant ∷ []))))
