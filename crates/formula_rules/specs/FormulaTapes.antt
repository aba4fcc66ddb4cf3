-- The tape of a formula, by the rule of document 02; the limits of a tape that comes from a text.
use Rattle.std.specs.Prelude.{Bool, ◌&&◌, List, [], ◌∷◌, ◌++◌, map, ℤ, pos, ℕ, zero, suc, max, leb, length}
use Rattle.rules.specs.Values.{pick, IsValue, Clause}
use Rattle.rules.specs.Tapes.{Tape, is_in}
use Rattle.formula_rules.specs.Trees.{Unary, negate, abs, sqr, root, Binary, add, subtract, multiply, divide, minimum}
use Rattle.formula_rules.specs.Trees.{maximum, Axis, axisX, axisY, axisZ, Tree, number, axis, unary, binary}

-- The opcodes, by the table of opcodes.
abbrev pub axis_opcode : Axis → ℕ
axis_opcode axisX = 1
axis_opcode axisY = 2
axis_opcode axisZ = 3

abbrev pub unary_opcode : Unary → ℕ
unary_opcode negate = 5
unary_opcode abs = 6
unary_opcode sqr = 7
unary_opcode root = 8

abbrev pub binary_opcode : Binary → ℕ
binary_opcode add = 9
binary_opcode subtract = 10
binary_opcode multiply = 11
binary_opcode minimum = 12
binary_opcode maximum = 13
binary_opcode divide = 14

abbrev pub step : ℕ → ℕ → ℕ → ℕ → ℤ → Clause
step o d l r z = record { opcode = o; out = d; left = l; right = r; constant = z }

-- "one clause per number, axis or operation, operands, the left first, before operator".
pub data Part : Type 0 where
  a_number : ℤ → Part
  an_axis : Axis → Part
  of_unary : Unary → Part
  of_binary : Binary → Part

unfoldable pub parts : Tree → List Part
parts (number z) = a_number z ∷ []
parts (axis a) = an_axis a ∷ []
parts (unary u t) = parts t ++ (of_unary u ∷ [])
parts (binary b l r) = parts l ++ (parts r ++ (of_binary b ∷ []))

-- One more than the greatest of some slots.
unfoldable pub beyond : List ℕ → ℕ
beyond [] = 0
beyond (j ∷ js) = max (suc j) (beyond js)

-- The lowest slot that is none of ws: slots are tried from 0 on, up to the first beyond all of ws.
unfoldable pub lowest_from : ℕ → ℕ → List ℕ → ℕ
lowest_from zero j ws = j
lowest_from (suc n) j ws = pick (is_in j ws) (lowest_from n (suc j) ws) j

unfoldable pub lowest : List ℕ → ℕ
lowest ws = lowest_from (beyond ws) 0 ws

-- "each result in the lowest slot not holding an operand that waits for a later operation": the clauses of some parts,
-- with ws the slots of the operands that wait, the latest first. An operation takes its operands from there, the right
-- one first; they wait no longer. No tree has an operation that finds too few.
unfoldable pub placed : List Part → List ℕ → List Clause
placed [] ws = []
placed (a_number z ∷ ps) ws = step 0 (lowest ws) 0 0 z ∷ placed ps (lowest ws ∷ ws)
placed (an_axis a ∷ ps) ws = step (axis_opcode a) (lowest ws) 0 0 (pos 0) ∷ placed ps (lowest ws ∷ ws)
placed (of_unary u ∷ ps) [] = []
placed (of_unary u ∷ ps) (i ∷ ws) = step (unary_opcode u) (lowest ws) i 0 (pos 0) ∷ placed ps (lowest ws ∷ ws)
placed (of_binary b ∷ ps) [] = []
placed (of_binary b ∷ ps) (j ∷ []) = []
placed (of_binary b ∷ ps) (j ∷ (i ∷ ws)) = step (binary_opcode b) (lowest ws) i j (pos 0) ∷ placed ps (lowest ws ∷ ws)

-- "the head counts the slots used".
abbrev pub outs : List Clause → List ℕ
outs cs = map (λ c. c.out) cs

unfoldable pub tape_of : Tree → Tape
tape_of t = let cs = placed (parts t) [] in record { slots = beyond (outs cs); clauses = cs }

-- "19 when more than 1,024 clauses or 64 slots are needed". These stay where other tapes may be longer.
abbrev pub text_clauses : ℕ
text_clauses = 1024

abbrev pub text_slots : ℕ
text_slots = 64

unfoldable pub fits_text : Tape → Bool
fits_text t = leb (length t.clauses) text_clauses && leb t.slots text_slots

-- The numbers of a tree are values, as those of a text are.
unfoldable pub Numbers : Tree → Type 0
Numbers (number z) = IsValue z
Numbers (axis a) = Unit {0}
Numbers (unary u t) = Numbers t
Numbers (binary b l r) = Numbers l × Numbers r
