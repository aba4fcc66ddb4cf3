-- The value of a formula's tape at every sample is the tree's meaning.
use mathlib.Core.Path.{◌≡◌, refl, sym, ap, ap₂, ◌∙◌}
use mathlib.Core.List.{List, [], ◌∷◌, ◌++◌, append_assoc, append-nil}
use lib.IntN.{ℤ, pos}
use Prim.Native.Nat.{ℕ, suc, ◌+◌, ◌<◌, ◌≤◌}
use native.Mathlib.Omega.{arith}
use lib.ListN.{length, get_or, set, replicate, length-set, length-replicate}
use lib.Seq.{get_or-set_same, get_or-set_other}
use Rattle.rules.specs.Values.{Clause, Sample, unary_value, binary_value, value_of}
use Rattle.rules.specs.Tapes.{run_from, value_at}
use Rattle.formula_rules.specs.Trees.{Unary, negate, abs, sqr, root, Binary, add, subtract, multiply, divide, minimum}
use Rattle.formula_rules.specs.Trees.{maximum, Axis, axisX, axisY, axisZ, Tree, number, axis, unary, binary, coordinate}
use Rattle.formula_rules.specs.Trees.{unary_meaning, binary_meaning, meaning}
use Rattle.formula_rules.specs.FormulaTapes.{axis_opcode, unary_opcode, binary_opcode, step, tape_of}
use Rattle.formula_rules.specs.FormulaDepths.{clauses_at, slots_of}
use Rattle.formula_rules.proofs.FormulaSlots.{slots_some, slot_rule}

-- Running some clauses leaves v in slot d and as the result, and the slots below d as they were.
record Ran (cs : List Clause) (s : Sample) (d : ℕ) (v : ℤ) (vs : List ℤ) : Type 0 where
  after : List ℤ
  size : length after ≡ length vs
  here : get_or after d (pos 0) ≡ v
  below : (j : ℕ) → j < d → get_or after j (pos 0) ≡ get_or vs j (pos 0)
  run : (ds : List Clause) (last : ℤ) → run_from (cs ++ ds) s vs last ≡ run_from ds s after v

ran_one : (c : Clause) (s : Sample) (v : ℤ) (vs : List ℤ) → c.out < length vs
    → value_of c s (get_or vs c.left (pos 0)) (get_or vs c.right (pos 0)) ≡ v → Ran (c ∷ []) s c.out v vs
unfolding run_from
ran_one c s v vs h e =
    record {
      after = set vs c.out v;
      size = length-set vs c.out v;
      here = get_or-set_same vs c.out v (pos 0) h;
      below = λ j k. get_or-set_other vs c.out j v (pos 0) (omega arith);
      run = λ ds last. ap (λ x. run_from ds s (set vs c.out x) x) e;
    }

ran_both : (cs ds : List Clause) (s : Sample) (e d : ℕ) (u v : ℤ) (vs : List ℤ) → d ≤ e → (p : Ran cs s e u vs)
    → Ran ds s d v p.after → Ran (cs ++ ds) s d v vs
ran_both cs ds s e d u v vs h p q =
    record {
      after = q.after;
      size = q.size ∙ p.size;
      here = q.here;
      below = λ j k. q.below j k ∙ p.below j (omega arith);
      run = λ es last. ap (λ cs. run_from cs s vs last) (append_assoc cs ds es) ∙ p.run (ds ++ es) last ∙ q.run es u;
    }

-- A clause's value is what its part of the tree means.
value_axis : (a : Axis) (d : ℕ) (s : Sample) (x y : ℤ)
    → value_of (step (axis_opcode a) d 0 0 (pos 0)) s x y ≡ coordinate a s
unfolding value_of
value_axis axisX d s x y = refl
value_axis axisY d s x y = refl
value_axis axisZ d s x y = refl

value_unary : (u : Unary) (d i : ℕ) (s : Sample) (x y : ℤ)
    → value_of (step (unary_opcode u) d i 0 (pos 0)) s x y ≡ unary_meaning u x
unfolding value_of unary_value unary_meaning
value_unary negate d i s x y = refl
value_unary abs d i s x y = refl
value_unary sqr d i s x y = refl
value_unary root d i s x y = refl

value_binary : (b : Binary) (d i j : ℕ) (s : Sample) (x y : ℤ)
    → value_of (step (binary_opcode b) d i j (pos 0)) s x y ≡ binary_meaning b x y
unfolding value_of binary_value binary_meaning
value_binary add d i j s x y = refl
value_binary subtract d i j s x y = refl
value_binary multiply d i j s x y = refl
value_binary divide d i j s x y = refl
value_binary minimum d i j s x y = refl
value_binary maximum d i j s x y = refl

module _ (d : ℕ) (s : Sample) (vs : List ℤ) where
  ran_unary : (u : Unary) (cs : List Clause) (v : ℤ) → d < length vs → Ran cs s d v vs
      → Ran (cs ++ (step (unary_opcode u) d d 0 (pos 0) ∷ [])) s d (unary_meaning u v) vs
  ran_unary u cs v h p =
      let c = step (unary_opcode u) d d 0 (pos 0) in
      let k : d < length p.after = omega arith in
      let e = value_unary u d d s (get_or p.after d (pos 0)) (get_or p.after 0 (pos 0)) in
      ran_both cs (c ∷ []) s d d v (unary_meaning u v) vs (omega arith) p
      (ran_one c s (unary_meaning u v) p.after k (e ∙ ap (unary_meaning u) p.here))

  ran_binary : (b : Binary) (cs ds : List Clause) (v w : ℤ) → d < length vs → (p : Ran cs s d v vs)
      → Ran ds s (suc d) w p.after
      → Ran (cs ++ (ds ++ (step (binary_opcode b) d d (suc d) (pos 0) ∷ []))) s d (binary_meaning b v w) vs
  ran_binary b cs ds v w h p q =
      let c = step (binary_opcode b) d d (suc d) (pos 0) in
      let x = get_or q.after d (pos 0) in
      let left : x ≡ v = q.below d (omega arith) ∙ p.here in
      let k : d < length q.after = omega arith in
      let e = value_binary b d d (suc d) s x (get_or q.after (suc d) (pos 0)) in
      ran_both cs (ds ++ (c ∷ [])) s d d v (binary_meaning b v w) vs (omega arith) p
      (ran_both ds (c ∷ []) s (suc d) d w (binary_meaning b v w) p.after (omega arith) q
      (ran_one c s (binary_meaning b v w) q.after k (e ∙ ap₂ (binary_meaning b) left q.here)))

ran_tree : (t : Tree) (d : ℕ) (s : Sample) (vs : List ℤ) → d + slots_of t ≤ length vs
    → Ran (clauses_at d t) s d (meaning t s) vs
unfolding clauses_at slots_of meaning value_of
ran_tree (number z) d s vs h = ran_one (step 0 d 0 0 z) s z vs (omega arith) refl
ran_tree (axis a) d s vs h =
    let x = get_or vs 0 (pos 0) in
    ran_one (step (axis_opcode a) d 0 0 (pos 0)) s (coordinate a s) vs (omega arith) (value_axis a d s x x)
ran_tree (unary u t) d s vs h =
    ran_unary d s vs u (clauses_at d t) (meaning t s) (omega (arith, slots_some t)) (ran_tree t d s vs h)
ran_tree (binary b l r) d s vs h =
    let p = ran_tree l d s vs (omega arith) in
    ran_binary d s vs b (clauses_at d l) (clauses_at (suc d) r) (meaning l s) (meaning r s) (omega arith) p
    (ran_tree r (suc d) s p.after (room p.after p.size (omega arith)))
  where
    room : (us : List ℤ) → length us ≡ length vs → suc d + slots_of r ≤ length vs → suc d + slots_of r ≤ length us
    room us e k = omega arith

-- "Its result must equal the formula's meaning, defined on the text's tree and not by the reader."
pub tape_meaning : (t : Tree) (s : Sample) → value_at (tape_of t) s ≡ meaning t s
unfolding value_at run_from
tape_meaning t s =
    let vs = replicate (slots_of t) (pos 0) in
    let p = ran_tree t 0 s vs (omega (arith, length-replicate (slots_of t) (pos 0))) in
    ap (λ u. value_at u s) (slot_rule t)
    ∙ ap (λ cs. run_from cs s vs (pos 0)) (sym (append-nil (clauses_at 0 t)))
    ∙ p.run [] (pos 0)
