-- The tape of a formula within the limits of a text is accepted, and its bytes and its list are read as that tape.
use mathlib.Core.Path.{◌≡◌, refl, sym, ap, ap₂, ◌∙◌}
use mathlib.Core.Bool.{true, ◌&&◌}
use mathlib.Core.List.{List, [], ◌∷◌, ◌++◌, append_assoc, append-nil}
use lib.IntN.{ℤ, pos}
use Prim.Native.Nat.{ℕ, suc, ◌+◌, ◌*◌, ◌<◌, ◌≤◌}
use native.Mathlib.Omega.{arith}
use lib.Dec.{leb}
use lib.ListN.{take}
use borrow.Author.Tests.{le-leb, leb-true, lt-leb}
use Rattle.rules.specs.Values.{IsValue, Clause, Sample}
use Rattle.rules.specs.Tapes.{Tape, last_opcode, is_in, value_at, Got, good, read_tape, read_list, tape_bytes, list_of}
use Rattle.rules.specs.Accepted.{Fits, AllFit, Accepted}
use Rattle.formula_rules.specs.Trees.{Unary, negate, abs, sqr, root, Binary, add, subtract, multiply, divide, minimum}
use Rattle.formula_rules.specs.Trees.{maximum, Axis, axisX, axisY, axisZ, Tree, number, axis, unary, binary, meaning}
use Rattle.formula_rules.specs.FormulaTapes.{axis_opcode, unary_opcode, binary_opcode, step, tape_of, text_clauses, text_slots}
use Rattle.formula_rules.specs.FormulaTapes.{fits_text, Numbers}
use Rattle.formula_rules.specs.FormulaDepths.{clauses_at, count_of, slots_of, Sheet}
use Rattle.rules.proofs.Tests.{and_left, and_right}
use Rattle.rules.proofs.Needed.{in_first, in_next, Among}
use Rattle.rules.proofs.Accepted.{operand_used, operand_unused, read_again, listed_words}
use Rattle.rules.proofs.Bytes.{both_ways}
use Rattle.formula_rules.proofs.FormulaSlots.{slots_some, count_some, length_clauses, by_depth, slot_rule}
use Rattle.formula_rules.proofs.FormulaSheets.{TapeOn}
use Rattle.formula_rules.proofs.FormulaValues.{tape_meaning}

-- Opcodes by the fields that they use.
opcode_axis : (a : Axis) → (1 ≤ axis_opcode a) × (axis_opcode a ≤ 3)
opcode_axis axisX = omega arith
opcode_axis axisY = omega arith
opcode_axis axisZ = omega arith

opcode_unary : (u : Unary) → (4 ≤ unary_opcode u) × (unary_opcode u ≤ 8)
opcode_unary negate = omega arith
opcode_unary abs = omega arith
opcode_unary sqr = omega arith
opcode_unary root = omega arith

opcode_binary : (b : Binary) → (9 ≤ binary_opcode b) × (binary_opcode b ≤ last_opcode)
opcode_binary add = omega arith
opcode_binary subtract = omega arith
opcode_binary multiply = omega arith
opcode_binary divide = omega arith
opcode_binary minimum = omega arith
opcode_binary maximum = omega arith

-- Each clause fits, where its operands are written.
module _ (n : ℕ) (w : List ℕ) (o d : ℕ) (room : d < n) where
  leaf_fits : (z : ℤ) → o ≤ 3 → IsValue z → (1 ≤ o → z ≡ pos 0) → Fits n w (step o d 0 0 z)
  leaf_fits z h v e =
      record {
        opcode = omega arith;
        out = room;
        left = rw (lt-leb 4 o (omega arith)) (operand_unused n w 0 refl);
        right = rw (lt-leb 9 o (omega arith)) (operand_unused n w 0 refl);
        constant = v;
        plain = e;
      }

  unary_fits : (i : ℕ) → 4 ≤ o → o ≤ 8 → i < n → is_in i w ≡ true → Fits n w (step o d i 0 (pos 0))
  unary_fits i h k l e =
      record {
        opcode = omega arith;
        out = room;
        left = rw (le-leb 4 o h) (operand_used n w i l e);
        right = rw (lt-leb 9 o (omega arith)) (operand_unused n w 0 refl);
        constant = omega arith;
        plain = λ _. refl;
      }

  binary_fits : (i j : ℕ) → 9 ≤ o → o ≤ last_opcode → i < n → is_in i w ≡ true → j < n → is_in j w ≡ true
      → Fits n w (step o d i j (pos 0))
  binary_fits i j h k l e m f =
      record {
        opcode = k;
        out = room;
        left = rw (le-leb 4 o (omega arith)) (operand_used n w i l e);
        right = rw (le-leb 9 o h) (operand_used n w j m f);
        constant = omega arith;
        plain = λ _. refl;
      }

-- Slots once written stay written.
among_same : (w : List ℕ) → Among w w
among_same w = record { is = λ j e. e }

among_more : (i : ℕ) (u w : List ℕ) → Among u w → Among u (i ∷ w)
among_more i u w a = record { is = λ j e. in_next j i w (a.is j e) }

among_rest : (i : ℕ) (u w : List ℕ) → Among (i ∷ u) w → Among u w
among_rest i u w a = record { is = λ j e. a.is j (in_next j i u e) }

-- A tree's clauses fit, and so do those after them that fit once slot d is written.
fits_tree : (t : Tree) (d n : ℕ) (w : List ℕ) (cs : List Clause) → Numbers t → d + slots_of t ≤ n
    → ((u : List ℕ) → Among (d ∷ w) u → AllFit n u cs) → AllFit n w (clauses_at d t ++ cs)
unfolding Numbers clauses_at slots_of AllFit
fits_tree (number z) d n w cs v h k =
    (leaf_fits n w 0 d (omega arith) z (omega arith) v (λ l. absurd (omega arith)), k (d ∷ w) (among_same (d ∷ w)))
fits_tree (axis a) d n w cs v h k =
    let o = opcode_axis a in (
      leaf_fits n w (axis_opcode a) d (omega arith) (pos 0) o.1 (omega arith) (λ _. refl),
      k (d ∷ w) (among_same (d ∷ w)),
    )
fits_tree (unary u t) d n w cs v h k =
    let o = opcode_unary u in
    let c = step (unary_opcode u) d d 0 (pos 0) in
    let l : d < n = omega (arith, slots_some t) in
    rw (append_assoc (clauses_at d t) (c ∷ []) cs)
    (fits_tree t d n w (c ∷ cs) v h
    (λ x a. (
      unary_fits n x (unary_opcode u) d l d o.0 o.1 l (a.is d (in_first d w)),
      k (d ∷ x) (among_more d (d ∷ w) x a),
    )))
fits_tree (binary b l r) d n w cs v h k =
    let o = opcode_binary b in
    let c = step (binary_opcode b) d d (suc d) (pos 0) in
    let m : suc d < n = omega (arith, slots_some r) in
    let m' : d < n = omega arith in
    rw (
      append_assoc (clauses_at d l) (clauses_at (suc d) r ++ (c ∷ [])) cs,
      append_assoc (clauses_at (suc d) r) (c ∷ []) cs,
    )
    (fits_tree l d n w (clauses_at (suc d) r ++ (c ∷ cs)) v.0 (omega arith)
    (λ x a. fits_tree r (suc d) n x (c ∷ cs) v.1 (omega arith)
    (λ y e. let i = among_rest (suc d) x y e in (
      binary_fits n y (binary_opcode b) d m' d (suc d) o.0 o.1 m' (i.is d (a.is d (in_first d w))) m
          (e.is (suc d) (in_first (suc d) x)),
      k (d ∷ y) (record { is = λ j f. in_next j d y (i.is j (a.is j f)) }),
    ))))

-- Within the limits of a text, "tested last".
pub fits_counts : (t : Tree) → fits_text (tape_of t) ≡ (leb (count_of t) text_clauses && leb (slots_of t) text_slots)
unfolding fits_text
fits_counts t =
    ap fits_text (slot_rule t) ∙ ap (λ n. leb n text_clauses && leb (slots_of t) text_slots) (length_clauses 0 t)

pub record Within (t : Tree) : Type 0 where
  pub clauses : count_of t ≤ text_clauses
  pub slots : slots_of t ≤ text_slots

pub fits_within : (t : Tree) → fits_text (tape_of t) ≡ true → Within t
fits_within t e =
    let a = leb (count_of t) text_clauses in
    let b = leb (slots_of t) text_slots in
    let f : (a && b) ≡ true = sym (fits_counts t) ∙ e in
    record { clauses = leb-true _ _ (and_left a b f); slots = leb-true _ _ (and_right a b f) }

pub within_fits : (t : Tree) → Within t → fits_text (tape_of t) ≡ true
within_fits t w =
    fits_counts t ∙ rw (le-leb (count_of t) text_clauses w.clauses, le-leb (slots_of t) text_slots w.slots)

-- There it is accepted, and its bytes are read as that tape.
depth_accepted : (t : Tree) → Numbers t → Within t → Accepted (by_depth t)
unfolding AllFit
depth_accepted t v w =
    record {
      some_slot = slots_some t;
      slots = omega arith;
      some_clause = omega (arith, length_clauses 0 t, count_some t);
      clauses = omega (arith, length_clauses 0 t);
      fit = rw (← append-nil (clauses_at 0 t)) (fits_tree t 0 (slots_of t) [] [] v (omega arith) (λ u a. tt));
    }

pub tree_accepted : (t : Tree) → Numbers t → fits_text (tape_of t) ≡ true → Accepted (tape_of t)
tree_accepted t v e = rw (slot_rule t) (depth_accepted t v (fits_within t e))

accepted_read : (t : Tape) → Accepted t → read_tape (tape_bytes t) ≡ good t
accepted_read t a =
    let zs = list_of t.clauses in
    let e : read_list t.slots zs ≡ good t = read_again t a in
    let n : (read_list t.slots zs).number ≡ 0 = ap (λ g. g.number) e in
    ap (λ (g : Got). read_tape (tape_bytes g.tape)) (sym e)
    ∙ (both_ways.by_list t.slots zs (listed_words t a) n).0
    ∙ e

pub tree_read : (t : Tree) → Numbers t → fits_text (tape_of t) ≡ true → read_tape (tape_bytes (tape_of t)) ≡ good (tape_of t)
tree_read t v e = accepted_read (tape_of t) (tree_accepted t v e)

-- So what is read of its bytes has the tree's meaning at every sample.
pub read_meaning : (t : Tree) → Numbers t → fits_text (tape_of t) ≡ true → (s : Sample)
    → value_at (read_tape (tape_bytes (tape_of t))).tape s ≡ meaning t s
read_meaning t v e s = ap (λ (g : Got). value_at g.tape s) (tree_read t v e) ∙ tape_meaning t s

-- Its list is read likewise, and a sheet that has it.
pub tree_list_read : (t : Tree) → Numbers t → fits_text (tape_of t) ≡ true
    → read_list (tape_of t).slots (list_of (tape_of t).clauses) ≡ good (tape_of t)
tree_list_read t v e = read_again (tape_of t) (tree_accepted t v e)

pub sheet_read : (t : Tree) (w : Sheet) → Numbers t → TapeOn w (tape_of t) → w.count ≤ text_clauses
    → w.slots ≤ text_slots → read_list w.slots (take (5 * w.count) w.list) ≡ good (tape_of t)
sheet_read t w v s h k =
    let e : fits_text (tape_of t) ≡ true =
    sym s.fits ∙ rw (le-leb w.count text_clauses h, le-leb w.slots text_slots k) in
    ap₂ read_list s.slots (s.list h) ∙ tree_list_read t v e
