-- The slot rule: the lowest free slot is what it says; the tape of the rule is the one by depth; each of its slots is
-- written.
use mathlib.Core.Path.{◌≡◌, refl, sym, ap, ◌∙◌}
use mathlib.Core.Bool.{Bool, true, false, true≢false}
use mathlib.Core.List.{List, [], ◌∷◌, ◌++◌, append_assoc, append-nil}
use lib.IntN.{ℤ, pos}
use Prim.Native.Nat.{ℕ, zero, suc, ◌+◌, ◌<◌, ◌≤◌, max}
use native.Mathlib.Omega.{arith}
use lib.Dec.{eqb, ltb}
use lib.ListN.{length, length-append}
use borrow.Author.Tests.{eqb-true, eqb-false, ltb-true, ltb-false}
use Rattle.rules.specs.Values.{pick, Clause}
use Rattle.rules.specs.Tapes.{Tape, is_in}
use Rattle.formula_rules.specs.Trees.{Unary, Binary, Axis, Tree, number, axis, unary, binary}
use Rattle.formula_rules.specs.FormulaTapes.{axis_opcode, unary_opcode, binary_opcode, step, Part, a_number, an_axis, of_unary}
use Rattle.formula_rules.specs.FormulaTapes.{of_binary, parts, beyond, lowest_from, lowest, placed, outs, tape_of}
use Rattle.formula_rules.specs.FormulaDepths.{clauses_at, count_of, slots_of}
use Rattle.rules.proofs.Needed.{in_first, in_next, in_cases, in_none, in_left, in_right}

-- Every one of some slots is below the first beyond them.
pub in_beyond : (j : ℕ) (ws : List ℕ) → is_in j ws ≡ true → j < beyond ws
unfolding beyond
in_beyond j [] e = in_none _ j e
in_beyond j (w ∷ ws) e = in_cases _ j w ws e (λ q. omega arith) (λ k. omega (arith, in_beyond j ws k))

-- "the lowest slot not holding an operand that waits": it is none of them, and every lower one is.
pub record Lowest (ws : List ℕ) (j : ℕ) : Type 0 where
  pub free : is_in j ws ≡ false
  pub least : (i : ℕ) → i < j → is_in i ws ≡ true

beyond_free : (j : ℕ) (ws : List ℕ) → beyond ws ≤ j → (t : Bool) → is_in j ws ≡ t → t ≡ false
beyond_free j ws h false e = refl
beyond_free j ws h true e = let z : ⊥ = omega (arith, in_beyond j ws e) in absurd z

one_more : (P : ℕ → Type 0) (j : ℕ) → ((i : ℕ) → i < j → P i) → P j → (i : ℕ) → i < suc j → P i
one_more P j below here i h = go (eqb i j) refl
  where
    go : (t : Bool) → eqb i j ≡ t → P i
    go true e = rw (eqb-true i j e) here
    go false e = below i (omega (arith, eqb-false i j e))

lowest_from_lem : (n j : ℕ) (ws : List ℕ) → beyond ws ≤ j + n → ((i : ℕ) → i < j → is_in i ws ≡ true)
    → Lowest ws (lowest_from n j ws)
unfolding lowest_from
lowest_from_lem zero j ws h k = record { free = beyond_free j ws (omega arith) (is_in j ws) refl; least = k }
lowest_from_lem (suc n) j ws h k =
    go (is_in j ws) refl (λ e. lowest_from_lem n (suc j) ws (omega arith) (one_more (λ i. is_in i ws ≡ true) j k e))
  where
    go : (t : Bool) → is_in j ws ≡ t → (is_in j ws ≡ true → Lowest ws (lowest_from n (suc j) ws))
        → Lowest ws (pick t (lowest_from n (suc j) ws) j)
    go true e after = after e
    go false e after = record { free = e; least = k }

pub lowest_law : (ws : List ℕ) → Lowest ws (lowest ws)
unfolding lowest
lowest_law ws = lowest_from_lem (beyond ws) 0 ws (omega arith) (λ i h. absurd (omega arith))

-- There is one such slot.
pub lowest_one : {ws : List ℕ} {i j : ℕ} → Lowest ws i → Lowest ws j → i ≡ j
lowest_one {ws} {i} {j} p q = go (eqb i j) refl
  where
    never : (k l : ℕ) → Lowest ws k → Lowest ws l → k < l → ⊥
    never k l u v h = true≢false (sym (v.least k h) ∙ u.free)

    not_less : (i < j → ⊥) → (j < i → ⊥) → (i ≡ j → ⊥) → ⊥
    not_less f g d = omega arith

    go : (t : Bool) → eqb i j ≡ t → i ≡ j
    go true e = eqb-true i j e
    go false e = absurd (not_less (never i j p q) (never j i q p) (eqb-false i j e))

-- While d operands wait, they are in the slots below d, the latest in the highest.
unfoldable pub slots_below : ℕ → List ℕ
slots_below zero = []
slots_below (suc d) = d ∷ slots_below d

in_below : (d i : ℕ) → i < d → is_in i (slots_below d) ≡ true
unfolding slots_below
in_below zero i h = absurd (omega arith)
in_below (suc d) i h =
    one_more (λ j. is_in j (d ∷ slots_below d) ≡ true) d (λ j l. in_next j d (slots_below d) (in_below d j l))
    (in_first d (slots_below d)) i h

beyond_below : (d : ℕ) → beyond (slots_below d) ≡ d
unfolding slots_below beyond
beyond_below zero = refl
beyond_below (suc d) = omega (arith, beyond_below d)

pub lowest_below : (d : ℕ) → lowest (slots_below d) ≡ d
lowest_below d =
    lowest_one (lowest_law (slots_below d))
    (record {
      free = beyond_free d (slots_below d) (omega (arith, beyond_below d)) (is_in d (slots_below d)) refl;
      least = in_below d;
    })

-- There a part's clause is the one by depth.
module _ (d : ℕ) (ps : List Part) where
  placed_number : (z : ℤ) → placed (a_number z ∷ ps) (slots_below d) ≡ step 0 d 0 0 z ∷ placed ps (slots_below (suc d))
  unfolding placed slots_below
  placed_number z = ap (λ j. step 0 j 0 0 z ∷ placed ps (j ∷ slots_below d)) (lowest_below d)

  placed_axis : (a : Axis)
      → placed (an_axis a ∷ ps) (slots_below d) ≡ step (axis_opcode a) d 0 0 (pos 0) ∷ placed ps (slots_below (suc d))
  unfolding placed slots_below
  placed_axis a = ap (λ j. step (axis_opcode a) j 0 0 (pos 0) ∷ placed ps (j ∷ slots_below d)) (lowest_below d)

  placed_unary : (u : Unary)
      → placed (of_unary u ∷ ps) (slots_below (suc d))
      ≡ step (unary_opcode u) d d 0 (pos 0) ∷ placed ps (slots_below (suc d))
  unfolding placed slots_below
  placed_unary u = ap (λ j. step (unary_opcode u) j d 0 (pos 0) ∷ placed ps (j ∷ slots_below d)) (lowest_below d)

  placed_binary : (b : Binary)
      → placed (of_binary b ∷ ps) (slots_below (suc (suc d)))
      ≡ step (binary_opcode b) d d (suc d) (pos 0) ∷ placed ps (slots_below (suc d))
  unfolding placed slots_below
  placed_binary b = ap (λ j. step (binary_opcode b) j d (suc d) (pos 0) ∷ placed ps (j ∷ slots_below d)) (lowest_below d)

-- So a tree's are.
pub placed_tree : (t : Tree) (d : ℕ) (ps : List Part)
    → placed (parts t ++ ps) (slots_below d) ≡ clauses_at d t ++ placed ps (slots_below (suc d))
unfolding parts clauses_at
placed_tree (number z) d ps = placed_number d ps z
placed_tree (axis a) d ps = placed_axis d ps a
placed_tree (unary u t) d ps =
    let c = step (unary_opcode u) d d 0 (pos 0) in
    ap (λ qs. placed qs (slots_below d)) (append_assoc (parts t) (of_unary u ∷ []) ps)
    ∙ placed_tree t d (of_unary u ∷ ps)
    ∙ ap (λ cs. clauses_at d t ++ cs) (placed_unary d ps u)
    ∙ sym (append_assoc (clauses_at d t) (c ∷ []) (placed ps (slots_below (suc d))))
placed_tree (binary b l r) d ps =
    let c = step (binary_opcode b) d d (suc d) (pos 0) in
    let rest = placed ps (slots_below (suc d)) in
    ap (λ qs. placed qs (slots_below d)) (append_assoc (parts l) (parts r ++ (of_binary b ∷ [])) ps)
    ∙ placed_tree l d ((parts r ++ (of_binary b ∷ [])) ++ ps)
    ∙ ap (λ cs. clauses_at d l ++ cs)
    (ap (λ qs. placed qs (slots_below (suc d))) (append_assoc (parts r) (of_binary b ∷ []) ps)
    ∙ placed_tree r (suc d) (of_binary b ∷ ps)
    ∙ ap (λ cs. clauses_at (suc d) r ++ cs) (placed_binary d ps b)
    ∙ sym (append_assoc (clauses_at (suc d) r) (c ∷ []) rest))
    ∙ sym (append_assoc (clauses_at d l) (clauses_at (suc d) r ++ (c ∷ [])) rest)

placed_all : (t : Tree) → placed (parts t) [] ≡ clauses_at 0 t
unfolding placed slots_below
placed_all t =
    ap (λ ps. placed ps []) (sym (append-nil (parts t))) ∙ placed_tree t 0 [] ∙ append-nil (clauses_at 0 t)

-- The slots that they write.
pub outs_append : (cs ds : List Clause) → outs (cs ++ ds) ≡ outs cs ++ outs ds
outs_append [] ds = refl
outs_append (c ∷ cs) ds = ap (λ js. c.out ∷ js) (outs_append cs ds)

beyond_append : (is js : List ℕ) → beyond (is ++ js) ≡ max (beyond is) (beyond js)
unfolding beyond
beyond_append [] js = omega arith
beyond_append (i ∷ is) js = omega (arith, beyond_append is js)

pub beyond_outs : (cs ds : List Clause) → beyond (outs (cs ++ ds)) ≡ max (beyond (outs cs)) (beyond (outs ds))
beyond_outs cs ds = ap beyond (outs_append cs ds) ∙ beyond_append (outs cs) (outs ds)

pub beyond_one : (j : ℕ) → beyond (j ∷ []) ≡ suc j
unfolding beyond
beyond_one j = omega arith

pub slots_some : (t : Tree) → 1 ≤ slots_of t
unfolding slots_of
slots_some (number z) = omega arith
slots_some (axis a) = omega arith
slots_some (unary u t) = slots_some t
slots_some (binary b l r) = omega arith

pub count_some : (t : Tree) → 1 ≤ count_of t
unfolding count_of
count_some (number z) = omega arith
count_some (axis a) = omega arith
count_some (unary u t) = omega arith
count_some (binary b l r) = omega arith

pub slots_count : (t : Tree) → slots_of t ≤ count_of t
unfolding slots_of count_of
slots_count (number z) = omega arith
slots_count (axis a) = omega arith
slots_count (unary u t) = omega (arith, slots_count t)
slots_count (binary b l r) = omega (arith, slots_count l, slots_count r)

pub beyond_clauses : (d : ℕ) (t : Tree) → beyond (outs (clauses_at d t)) ≡ d + slots_of t
unfolding clauses_at slots_of
beyond_clauses d (number z) = omega (arith, beyond_one d)
beyond_clauses d (axis a) = omega (arith, beyond_one d)
beyond_clauses d (unary u t) =
    let c = step (unary_opcode u) d d 0 (pos 0) in
    omega (arith, beyond_outs (clauses_at d t) (c ∷ []), beyond_one d, beyond_clauses d t, slots_some t)
beyond_clauses d (binary b l r) =
    let c = step (binary_opcode b) d d (suc d) (pos 0) in
    let right = clauses_at (suc d) r ++ (c ∷ []) in
    let e : beyond (outs right) ≡ suc (d + slots_of r) =
    omega (arith, beyond_outs (clauses_at (suc d) r) (c ∷ []), beyond_one d, beyond_clauses (suc d) r) in
    omega (arith, beyond_outs (clauses_at d l) right, beyond_clauses d l)

pub length_clauses : (d : ℕ) (t : Tree) → length (clauses_at d t) ≡ count_of t
unfolding clauses_at count_of
length_clauses d (number z) = refl
length_clauses d (axis a) = refl
length_clauses d (unary u t) = simp (length-append, length_clauses d t)
length_clauses d (binary b l r) = simp (length-append, length_clauses d l, length_clauses (suc d) r)

-- The tape by depth is the one of the slot rule.
abbrev pub by_depth : Tree → Tape
by_depth t = record { slots = slots_of t; clauses = clauses_at 0 t }

pub slot_rule : (t : Tree) → tape_of t ≡ by_depth t
unfolding tape_of
slot_rule t =
    let e : beyond (outs (clauses_at 0 t)) ≡ slots_of t = omega (arith, beyond_clauses 0 t) in
    ap (λ (cs : List Clause). record { slots = beyond (outs cs); clauses = cs }) (placed_all t)
    ∙ ap (λ (n : ℕ). record { slots = n; clauses = clauses_at 0 t }) e

-- "the head counts the slots used": each slot below that count is written.
in_outs_left : (j : ℕ) (cs ds : List Clause) → is_in j (outs cs) ≡ true → is_in j (outs (cs ++ ds)) ≡ true
in_outs_left j cs ds e = rw (outs_append cs ds) (in_left j (outs cs) (outs ds) e)

in_outs_right : (j : ℕ) (cs ds : List Clause) → is_in j (outs ds) ≡ true → is_in j (outs (cs ++ ds)) ≡ true
in_outs_right j cs ds e = rw (outs_append cs ds) (in_right j (outs cs) (outs ds) e)

-- The slots from d on, n of them, are written by some clauses.
record Uses (d n : ℕ) (cs : List Clause) : Type 0 where
  at : (j : ℕ) → d ≤ j → j < d + n → is_in j (outs cs) ≡ true

uses_one : (d : ℕ) (c : Clause) → c.out ≡ d → Uses d 1 (c ∷ [])
uses_one d c e =
    record {
      at = λ j h k.
          let q : j ≡ c.out = omega arith in
          rw q (in_first c.out []);
    }

uses_left_lem : (d n : ℕ) (cs ds : List Clause) → Uses d n cs → Uses d n (cs ++ ds)
uses_left_lem d n cs ds u = record { at = λ j h k. in_outs_left j cs ds (u.at j h k) }

uses_both : (d m n : ℕ) (cs ds : List Clause) → 1 ≤ m → Uses d m cs → Uses (suc d) n ds
    → Uses d (max m (suc n)) (cs ++ ds)
uses_both d m n cs ds s u v = record { at = λ j h k. go j h k (ltb j (d + m)) refl }
  where
    go : (j : ℕ) → d ≤ j → j < d + max m (suc n) → (t : Bool) → ltb j (d + m) ≡ t → is_in j (outs (cs ++ ds)) ≡ true
    go j h k true e = in_outs_left j cs ds (u.at j h (ltb-true j (d + m) e))
    go j h k false e =
        let l : d + m ≤ j = ltb-false j (d + m) e in
        in_outs_right j cs ds (v.at j (omega arith) (omega arith))

tree_uses : (d : ℕ) (t : Tree) → Uses d (slots_of t) (clauses_at d t)
unfolding slots_of clauses_at
tree_uses d (number z) = uses_one d (step 0 d 0 0 z) refl
tree_uses d (axis a) = uses_one d (step (axis_opcode a) d 0 0 (pos 0)) refl
tree_uses d (unary u t) = uses_left_lem d (slots_of t) (clauses_at d t) _ (tree_uses d t)
tree_uses d (binary b l r) =
    uses_both d (slots_of l) (slots_of r) (clauses_at d l) _ (slots_some l) (tree_uses d l)
    (uses_left_lem (suc d) (slots_of r) (clauses_at (suc d) r) _ (tree_uses (suc d) r))

pub all_used : (t : Tree) (j : ℕ) → j < (tape_of t).slots → is_in j (outs (tape_of t).clauses) ≡ true
all_used t = rw (slot_rule t) (λ j h. (tree_uses 0 t).at j (omega arith) (omega arith))
