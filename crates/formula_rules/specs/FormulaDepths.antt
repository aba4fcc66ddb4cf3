-- The tape of a formula as a reader writes it: by the number of operands that wait, a clause at a time, while there is
-- room. FormulaSlots and FormulaSheets prove that it is the one of the slot rule, so that nothing here has to be
-- believed.
use Rattle.std.specs.Prelude.{List, [], ◌∷◌, ◌++◌, ℤ, pos, ℕ, suc, ◌+◌, ◌*◌, max, ltb, length}
use Rattle.std.proofs.lemmas.List.Edits.{sets}
use Rattle.rules.specs.Values.{pick, Clause}
use Rattle.formula_rules.specs.Trees.{Tree, number, axis, unary, binary}
use Rattle.formula_rules.specs.FormulaTapes.{axis_opcode, unary_opcode, binary_opcode, step, text_clauses}

-- The clauses of a tree while operands wait in the slots below d: its result is in slot d.
unfoldable pub clauses_at : ℕ → Tree → List Clause
clauses_at d (number z) = step 0 d 0 0 z ∷ []
clauses_at d (axis a) = step (axis_opcode a) d 0 0 (pos 0) ∷ []
clauses_at d (unary u t) = clauses_at d t ++ (step (unary_opcode u) d d 0 (pos 0) ∷ [])
clauses_at d (binary b l r) =
    clauses_at d l ++ (clauses_at (suc d) r ++ (step (binary_opcode b) d d (suc d) (pos 0) ∷ []))

-- How many clauses a tree has, and how many slots from d on it needs.
unfoldable pub count_of : Tree → ℕ
count_of (number z) = 1
count_of (axis a) = 1
count_of (unary u t) = count_of t + 1
count_of (binary b l r) = count_of l + (count_of r + 1)

unfoldable pub slots_of : Tree → ℕ
slots_of (number z) = 1
slots_of (axis a) = 1
slots_of (unary u t) = slots_of t
slots_of (binary b l r) = max (slots_of l) (suc (slots_of r))

-- A sheet: an array that takes clauses in list form from its front, how many were written, and the slots that they use.
pub record Sheet : Type 0 where
  pub list : List ℤ
  pub count : ℕ
  pub slots : ℕ

abbrev pub blank : List ℤ → Sheet
blank zs = record { list = zs; count = 0; slots = 0 }

abbrev pub five : Clause → List ℤ
five c = pos c.opcode ∷ (pos c.out ∷ (pos c.left ∷ (pos c.right ∷ (c.constant ∷ []))))

-- One clause more: stored while there is room, counted in any case.
unfoldable pub emit : Clause → Sheet → Sheet
emit c w =
    record {
      list = pick (ltb w.count text_clauses) (sets w.list (5 * w.count) (five c)) w.list;
      count = w.count + 1;
      slots = max w.slots (c.out + 1);
    }

unfoldable pub emit_all : List Clause → Sheet → Sheet
emit_all [] w = w
emit_all (c ∷ cs) w = emit_all cs (emit c w)

-- The sheet once the trees ts were read, the latest first, and wait: each was written while those before it waited.
unfoldable pub sheet_of : List Tree → Sheet → Sheet
sheet_of [] w = w
sheet_of (t ∷ ts) w = emit_all (clauses_at (length ts) t) (sheet_of ts w)
