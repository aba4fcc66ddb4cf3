-- What a reader that writes a clause at a time has written: the tape of the tree, while there is room.
use mathlib.Core.Path.{◌≡◌, refl, sym, ap, ap₂, ◌∙◌}
use mathlib.Core.Bool.{Bool, true, false, ◌&&◌}
use mathlib.Core.List.{List, [], ◌∷◌, ◌++◌, append_assoc, append-nil}
use lib.IntN.{ℤ, pos}
use Prim.Native.Nat.{ℕ, suc, ◌+◌, ◌*◌, ◌<◌, ◌≤◌, max}
use native.Mathlib.Omega.{arith}
use lib.Dec.{leb, ltb}
use lib.ListN.{length, take, drop, length-append}
use lib.Seq.{sets, sets-eq, length-sets, length-take-le, take_at}
use borrow.Author.Tests.{lt-ltb}
use Rattle.rules.specs.Values.{pick, Clause}
use Rattle.rules.specs.Tapes.{Tape, list_of}
use Rattle.formula_rules.specs.Trees.{Unary, Binary, Axis, Tree, number, axis, unary, binary}
use Rattle.formula_rules.specs.FormulaTapes.{axis_opcode, unary_opcode, binary_opcode, step, beyond, outs, tape_of}
use Rattle.formula_rules.specs.FormulaTapes.{text_clauses, text_slots, fits_text}
use Rattle.formula_rules.specs.FormulaDepths.{clauses_at, count_of, slots_of, Sheet, blank, five, emit, emit_all}
use Rattle.formula_rules.specs.FormulaDepths.{sheet_of}
use Rattle.formula_rules.proofs.FormulaSlots.{beyond_clauses, length_clauses, slot_rule}

-- A tree's clauses one after another, by its parts.
pub emit_append : (cs ds : List Clause) (w : Sheet) → emit_all (cs ++ ds) w ≡ emit_all ds (emit_all cs w)
unfolding emit_all
emit_append [] ds w = refl
emit_append (c ∷ cs) ds w = emit_append cs ds (emit c w)

module _ (d : ℕ) (w : Sheet) where
  pub emit_number : (z : ℤ) → emit_all (clauses_at d (number z)) w ≡ emit (step 0 d 0 0 z) w
  unfolding clauses_at emit_all
  emit_number z = refl

  pub emit_axis : (a : Axis) → emit_all (clauses_at d (axis a)) w ≡ emit (step (axis_opcode a) d 0 0 (pos 0)) w
  unfolding clauses_at emit_all
  emit_axis a = refl

  pub emit_unary : (u : Unary) (t : Tree)
      → emit_all (clauses_at d (unary u t)) w
      ≡ emit (step (unary_opcode u) d d 0 (pos 0)) (emit_all (clauses_at d t) w)
  unfolding clauses_at emit_all
  emit_unary u t = emit_append (clauses_at d t) (step (unary_opcode u) d d 0 (pos 0) ∷ []) w

  pub emit_binary : (b : Binary) (l r : Tree)
      → emit_all (clauses_at d (binary b l r)) w
      ≡ emit (step (binary_opcode b) d d (suc d) (pos 0)) (emit_all (clauses_at (suc d) r) (emit_all (clauses_at d l) w))
  unfolding clauses_at emit_all
  emit_binary b l r =
      let c = step (binary_opcode b) d d (suc d) (pos 0) in
      emit_append (clauses_at d l) (clauses_at (suc d) r ++ (c ∷ [])) w
      ∙ emit_append (clauses_at (suc d) r) (c ∷ []) (emit_all (clauses_at d l) w)

-- The same of trees that wait, ts among them: a number or an axis is one clause more, an operation takes the latest.
module _ (ts : List Tree) (w : Sheet) where
  pub sheet_number : (z : ℤ) → sheet_of (number z ∷ ts) w ≡ emit (step 0 (length ts) 0 0 z) (sheet_of ts w)
  unfolding sheet_of
  sheet_number z = emit_number (length ts) (sheet_of ts w) z

  pub sheet_axis : (a : Axis)
      → sheet_of (axis a ∷ ts) w ≡ emit (step (axis_opcode a) (length ts) 0 0 (pos 0)) (sheet_of ts w)
  unfolding sheet_of
  sheet_axis a = emit_axis (length ts) (sheet_of ts w) a

  pub sheet_unary : (u : Unary) (t : Tree)
      → sheet_of (unary u t ∷ ts) w
      ≡ emit (step (unary_opcode u) (length ts) (length ts) 0 (pos 0)) (sheet_of (t ∷ ts) w)
  unfolding sheet_of
  sheet_unary u t = emit_unary (length ts) (sheet_of ts w) u t

  pub sheet_binary : (b : Binary) (l r : Tree)
      → sheet_of (binary b l r ∷ ts) w
      ≡ emit (step (binary_opcode b) (length ts) (length ts) (suc (length ts)) (pos 0)) (sheet_of (r ∷ (l ∷ ts)) w)
  unfolding sheet_of
  sheet_binary b l r = emit_binary (length ts) (sheet_of ts w) b l r

-- The counts, and the array's length.
pub emitted_count : (cs : List Clause) (w : Sheet) → (emit_all cs w).count ≡ w.count + length cs
unfolding emit_all emit
emitted_count [] w = omega arith
emitted_count (c ∷ cs) w = omega (arith, emitted_count cs (emit c w))

pub emitted_slots : (cs : List Clause) (w : Sheet) → (emit_all cs w).slots ≡ max w.slots (beyond (outs cs))
unfolding emit_all emit beyond
emitted_slots [] w = omega arith
emitted_slots (c ∷ cs) w = omega (arith, emitted_slots cs (emit c w))

pub tree_count : (d : ℕ) (t : Tree) (w : Sheet) → (emit_all (clauses_at d t) w).count ≡ w.count + count_of t
tree_count d t w = emitted_count (clauses_at d t) w ∙ ap (λ n. w.count + n) (length_clauses d t)

pub tree_slots : (d : ℕ) (t : Tree) (w : Sheet) → (emit_all (clauses_at d t) w).slots ≡ max w.slots (d + slots_of t)
tree_slots d t w = emitted_slots (clauses_at d t) w ∙ ap (max w.slots) (beyond_clauses d t)

emit_length : (c : Clause) (w : Sheet) → length (emit c w).list ≡ length w.list
unfolding emit
emit_length c w = go (ltb w.count text_clauses)
  where
    go : (t : Bool) → length (pick t (sets w.list (5 * w.count) (five c)) w.list) ≡ length w.list
    go true = length-sets w.list (5 * w.count) (five c)
    go false = refl

pub emitted_length : (cs : List Clause) (w : Sheet) → length (emit_all cs w).list ≡ length w.list
unfolding emit_all
emitted_length [] w = refl
emitted_length (c ∷ cs) w = emitted_length cs (emit c w) ∙ emit_length c w

-- While there is room the array has the list of what was written after what it had.
store_front : (zs vs : List ℤ) (i : ℕ) → i + length vs ≤ length zs
    → take (i + length vs) (sets zs i vs) ≡ take i zs ++ vs
store_front zs vs i h =
    let n : length (take i zs ++ vs) ≡ i + length vs =
    length-append (take i zs) vs ∙ ap (λ k. k + length vs) (length-take-le i zs (omega arith)) in
    ap (take (i + length vs)) (sets-eq vs zs i h)
    ∙ take_at (take i zs ++ vs) (drop (i + length vs) zs) (i + length vs) n

emit_front : (c : Clause) (w : Sheet) → 5 * text_clauses ≤ length w.list → w.count < text_clauses
    → take (5 * (w.count + 1)) (emit c w).list ≡ take (5 * w.count) w.list ++ five c
unfolding emit
emit_front c w h k =
    let e : 5 * (w.count + 1) ≡ 5 * w.count + 5 = omega arith in
    rw (lt-ltb w.count text_clauses k, e) (store_front w.list (five c) (5 * w.count) (omega arith))

pub emitted_front : (cs : List Clause) (w : Sheet) → 5 * text_clauses ≤ length w.list → (n : ℕ)
    → n ≡ w.count + length cs → n ≤ text_clauses
    → take (5 * n) (emit_all cs w).list ≡ take (5 * w.count) w.list ++ list_of cs
unfolding emit_all emit list_of
emitted_front [] w h n e k =
    let q : n ≡ w.count = omega arith in
    ap (λ m. take (5 * m) w.list) q ∙ sym (append-nil (take (5 * w.count) w.list))
emitted_front (c ∷ cs) w h n e k =
    emitted_front cs (emit c w) (rw (emit_length c w) h) n (after (length cs) e) k
    ∙ ap (λ l. l ++ list_of cs) (emit_front c w h (omega arith))
    ∙ append_assoc (take (5 * w.count) w.list) (five c) (list_of cs)
  where
    after : (m : ℕ) → n ≡ w.count + suc m → n ≡ w.count + 1 + m
    after m q = omega arith

-- A sheet tells of a tape: its counts, whether it fits, and, where its clauses fit, its list.
pub record TapeOn (w : Sheet) (u : Tape) : Type 0 where
  pub count : w.count ≡ length u.clauses
  pub slots : w.slots ≡ u.slots
  pub fits : (leb w.count text_clauses && leb w.slots text_slots) ≡ fits_text u
  pub list : w.count ≤ text_clauses → take (5 * w.count) w.list ≡ list_of u.clauses

-- So does a blank one, once the clauses of a tree are written on it, of the tree's tape.
pub sheet_tape : (t : Tree) (zs : List ℤ) → 5 * text_clauses ≤ length zs
    → TapeOn (sheet_of (t ∷ []) (blank zs)) (tape_of t)
unfolding sheet_of fits_text
sheet_tape t zs h =
    let cs = clauses_at 0 t in
    let w = emit_all cs (blank zs) in
    let e : w.count ≡ length cs = emitted_count cs (blank zs) ∙ omega arith in
    let f : w.slots ≡ slots_of t = tree_slots 0 t (blank zs) ∙ omega arith in
    rw (slot_rule t)
    (record {
      count = e;
      slots = f;
      fits = ap₂ (λ k n. leb k text_clauses && leb n text_slots) e f;
      list = emitted_front cs (blank zs) h w.count (emitted_count cs (blank zs));
    })
