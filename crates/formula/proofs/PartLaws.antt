-- How the calls that read parts compose: each from what the calls that it makes promise.
use mathlib.Core.Path.{◌≡◌, sym, subst, ap, ◌∙◌}
use mathlib.Core.List.{List}
use lib.IntN.{pos}
use Prim.Native.Nat.{ℕ, suc, ◌+◌, ◌-◌, ◌*◌, ◌≤◌, ◌<◌}
use native.Mathlib.Numerals.{add-one}
use native.Mathlib.Omega.{arith}
use lib.ListN.{length}
use Rattle.std.proofs.Common.{Result, Ok, Err}
use Rattle.formula_rules.specs.Trees.{Tree}
use Rattle.formula_rules.specs.Trees as tree
use Rattle.formula_rules.specs.FormulaTapes.{unary_opcode, binary_opcode, step}
use Rattle.formula_rules.specs.FormulaDepths.{clauses_at, emit, emit_all}
use Rattle.formula_rules.specs.FormulaDepths as depths
use Rattle.formula_rules.proofs.FormulaSheets.{emit_unary, emit_binary}
use Rattle.formula_rules.specs.FormulaReader.{Answer}
use Rattle.formula.specs.declared.text.Stop.{Stop}
use Rattle.formula.specs.declared.sheet.Sheet.{Sheet}
use Rattle.formula.specs.declared.steps.Unary.{Unary}
use Rattle.formula.specs.declared.steps.Binary.{Binary}
use Rattle.formula.specs.declared.steps.Step.{Step}
use Rattle.formula.specs.declared.steps.Step.TheVariants as kind
use Rattle.formula.specs.Steps.{unary_of, binary_of, IsSmall}
use Rattle.formula.specs.Sheets.{sheet_on, CanPush, Pushed}
use Rattle.formula.specs.Heads.{answer_of, LeafAt}
use Rattle.formula.specs.Parts.{Room, Got, Reads}

pub from_suc : (P : ℕ → Type 0) (n : ℕ) → P (suc n) → P (n + 1)
from_suc P n = subst P (sym (add-one n))

pub to_suc : (P : ℕ → Type 0) (n : ℕ) → P (n + 1) → P (suc n)
to_suc P n = subst P (add-one n)

-- What was read is a part of another kind; it was read from further back.
pub got_as : {R Q : ℕ → Tree → Type 0} {text : List ℕ} {n slot m : ℕ} {s s' : Sheet} (k : ℕ) → n ≤ k
    → ((m : ℕ) (t : Tree) → R m t → Q m t) → Got R text k slot s s' m → Got Q text n slot s s' m
got_as {m = m} k h f g =
    record {
      tree = g.tree;
      read = f m g.tree g.read;
      within = g.within;
      sheet = g.sheet;
      more = g.more;
      paid = omega (arith, g.paid);
    }

-- Spaces may follow it.
pub got_on_to : {R Q : ℕ → Tree → Type 0} {text : List ℕ} {n slot m : ℕ} {s s' : Sheet} (k : ℕ) → m ≤ k
    → k ≤ length text → ((t : Tree) → R m t → Q k t) → Got R text n slot s s' m → Got Q text n slot s s' k
got_on_to k h w f g =
    record {
      tree = g.tree;
      read = f g.tree g.read;
      within = w;
      sheet = g.sheet;
      more = g.more;
      paid = omega (arith, g.paid);
    }

pub reads_as : {R Q : ℕ → Tree → Type 0} {S T : Answer → Type 0} (text : List ℕ) (n slot : ℕ) (s s' : Sheet)
    (r : Result ℕ Stop) (k : ℕ) → n ≤ k → ((m : ℕ) (t : Tree) → R m t → Q m t) → ((a : Answer) → S a → T a)
    → Reads R S text k slot s s' r → Reads Q T text n slot s s' r
reads_as text n slot s s' (Ok m) k h f e g = got_as k h f g
reads_as text n slot s s' (Err a) k h f e g = e (answer_of a) g

-- An item of one clause, an operation after its operand, and one after its two.
pub got_leaf : {Q : ℕ → Tree → Type 0} {text : List ℕ} {n slot : ℕ} {s s' : Sheet} (m : ℕ) (x : Step)
    (l : LeafAt text n m x) → Q m l.tree → Pushed s x slot s' → Got Q text n slot s s' m
unfolding emit_all
got_leaf {slot = slot} {s = s} m x l q e =
    record {
      tree = l.tree;
      read = q;
      within = l.within;
      sheet = e.sheet ∙ sym (ap (λ cs. emit_all cs (sheet_on s)) (l.clause slot));
      more = omega (arith, e.count);
      paid = omega (arith, e.count, l.on);
    }

pub got_unary : {R Q : ℕ → Tree → Type 0} {text : List ℕ} {n slot m : ℕ} {s s' s'' : Sheet} (k : ℕ) (u : Unary)
    (v : tree.Unary) → unary_of u ≡ v → n < k → (g : Got R text k slot s s' m) → Q m (tree.unary v g.tree)
    → Pushed s' (kind.Unary u) slot s'' → Got Q text n slot s s'' m
got_unary {slot = slot} {s = s} {s' = s'} k u v w h g q e =
    record {
      tree = tree.unary v g.tree;
      read = q;
      within = g.within;
      sheet = e.sheet ∙ ap (λ x. emit (step (unary_opcode x) slot slot 0 (pos 0)) (sheet_on s')) w ∙ ap (emit _) g.sheet
          ∙ sym (emit_unary slot (sheet_on s) v g.tree);
      more = omega (arith, g.more, e.count);
      paid = omega (arith, g.paid, e.count);
    }

pub got_binary : {L R Q : ℕ → Tree → Type 0} {text : List ℕ} {n slot m₁ m₂ : ℕ} {s s₁ s₂ s₃ : Sheet} (k : ℕ)
    (b : Binary) (v : tree.Binary) → binary_of b ≡ v → (g : Got L text n slot s s₁ m₁) → m₁ < k
    → (h : Got R text k (slot + 1) s₁ s₂ m₂) → Q m₂ (tree.binary v g.tree h.tree)
    → Pushed s₂ (kind.Binary b) slot s₃ → Got Q text n slot s s₃ m₂
got_binary {slot = slot} {s = s} {s₁ = s₁} {s₂ = s₂} k b v w g l h q e =
    record {
      tree = tree.binary v g.tree h.tree;
      read = q;
      within = h.within;
      sheet = e.sheet ∙ ap (λ x. emit (step (binary_opcode x) slot slot (suc slot) (pos 0)) (sheet_on s₂)) w ∙ both h.sheet
          ∙ sym (emit_binary slot (sheet_on s) v g.tree h.tree);
      more = omega (arith, g.more, h.more, e.count);
      paid = omega (arith, g.paid, h.paid, e.count);
    }
  where
    both : {x : depths.Sheet} → x ≡ emit_all (clauses_at (slot + 1) h.tree) (sheet_on s₁)
        → emit (step (binary_opcode v) slot slot (suc slot) (pos 0)) x
        ≡ emit (step (binary_opcode v) slot slot (suc slot) (pos 0))
        (emit_all (clauses_at (suc slot) h.tree) (emit_all (clauses_at slot g.tree) (sheet_on s)))
    both y =
        ap (emit _) y
        ∙ ap (λ k. emit (step (binary_opcode v) slot slot (suc slot) (pos 0)) (emit_all (clauses_at k h.tree) (sheet_on s₁)))
        (add-one slot)
        ∙ ap
        (λ x. emit (step (binary_opcode v) slot slot (suc slot) (pos 0)) (emit_all (clauses_at (suc slot) h.tree) x))
        g.sheet

-- Room for the right operand of a join.
pub room_right : {R : ℕ → Tree → Type 0} {text : List ℕ} {s s' : Sheet} {n m slot depth : ℕ} (i k : ℕ)
    → Room text s n slot depth → n ≤ i → Got R text i slot s s' m → m ≤ k → k ≤ length text
    → Room text s' k (slot + 1) depth
room_right i k r b g h w =
    record {
      within = w;
      paid = omega (arith, r.paid, g.paid);
      waits = omega (arith, r.waits, g.more);
      nest = r.nest;
    }

-- Room for a clause after a part, and after the right operand of a join.
pub can_push : {R : ℕ → Tree → Type 0} {text : List ℕ} {s s' : Sheet} {n m slot depth : ℕ} (k : ℕ) (x : Step)
    → Room text s n slot depth → n ≤ k → Got R text k slot s s' m → IsSmall x → length text < 9223372036854775808
    → CanPush s' x slot
can_push k x r b g h l =
    record {
      waits = omega (arith, r.waits, g.more);
      small = h;
      few = omega (arith, r.paid, g.paid, g.within);
    }

pub can_join : {R : ℕ → Tree → Type 0} {text : List ℕ} {s s' : Sheet} {n m slot depth : ℕ} (k : ℕ) (x : Step)
    → Room text s n (slot + 1) depth → n ≤ k → Got R text k (slot + 1) s s' m → IsSmall x
    → length text < 9223372036854775808 → CanPush s' x slot
can_join k x r b g h l =
    let p = can_push k x r b g h l in
    record { waits = omega (arith, p.waits); small = h; few = p.few }

-- The measures of the calls: six to a byte that is left. A call at a later place falls, whichever it is; one at the
-- same place by its rank.
pub falls_later : (l n m t j k : ℕ) → 6 * (l - n) + k ≡ t → n < m → m ≤ l → j ≤ 5 → 6 * (l - m) + j < t
falls_later l n m t j k e h w q = omega arith

pub falls_here : (l n m t j k : ℕ) → 6 * (l - n) + k ≡ t → n ≤ m → j < k → 6 * (l - m) + j < t
falls_here l n m t j k e h q = omega arith

-- A part has a byte at least.
pub got_on : {R : ℕ → Tree → Type 0} {text : List ℕ} {n slot m : ℕ} {s s' : Sheet} → Got R text n slot s s' m → n < m
got_on g = omega (arith, g.more, g.paid)

-- The turns of a loop of joins: whatever was read up to where the loop began, is read up to here, as a part of the same
-- kind.
pub record Onward (R : ℕ → ℕ → Tree → Type 0) (text : List ℕ) (slot : ℕ) (s₀ : Sheet) (l₀ : ℕ) (s : Sheet) (l : ℕ)
    : Type 0 where
  pub got : (n : ℕ) (z : Sheet) → Got (R n) text n slot z s₀ l₀ → Got (R n) text n slot z s l
