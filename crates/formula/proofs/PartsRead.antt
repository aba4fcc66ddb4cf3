-- Sums, products and brackets, from what was read of them.
use mathlib.Core.Path.{◌≡◌, refl, sym, subst, ◌∙◌}
use mathlib.Core.Bool.{Bool, true, false}
use mathlib.Core.List.{List}
use Prim.Native.Nat.{ℕ, suc, ◌+◌, ◌≤◌, ◌<◌}
use native.Mathlib.Numerals.{add-one}
use native.Mathlib.Omega.{arith}
use lib.Dec.{ltb}
use lib.ListN.{length}
use borrow.Author.Tests.{ltb-true, ltb-false}
use Rattle.std.proofs.Common.{Option, None, Some, Result, Ok, Err}
use Rattle.formula_rules.specs.Trees.{negate, unary, binary}
use Rattle.formula_rules.specs.Formulas.{sum_tree, product_tree, Two, one_tree, two_tree}
use Rattle.formula_rules.specs.FormulaReader.{Opener, first_of, second_of, Answer, breaks}
use Rattle.formula_rules.specs.FormulaCalls.{NoPlus, Blank, SumUpTo, SumRead, ProductUpTo, ProductRead}
use Rattle.formula_rules.specs.FormulaCalls.{SignedRead}
use Rattle.formula_rules.specs.FormulaCalls.{ItemRead, OpenRead, SumStops, ProductStops, SignedStops, ItemStops}
use Rattle.formula_rules.proofs.FormulaCalls.{plain_read, minus_read, plain_stops, minus_stops, blank_signed}
use Rattle.formula_rules.proofs.FormulaCalls.{blank_signed_stops, product_start, product_blank}
use Rattle.formula_rules.proofs.FormulaCalls.{product_step, product_step_stops, sum_start, sum_step}
use Rattle.formula_rules.proofs.FormulaCalls.{sum_step_stops}
use Rattle.formula_rules.proofs.FormulaItems.{bracket_read, call_read, comma_read, pair_read, inner_stops, close_byte}
use Rattle.formula_rules.proofs.FormulaItems.{not_closed, closed_by_none}
use Rattle.formula.specs.declared.text.Stop.{Stop}
use Rattle.formula.specs.declared.sheet.Sheet.{Sheet}
use Rattle.formula.specs.declared.steps.Unary.{Unary}
use Rattle.formula.specs.declared.steps.Unary.TheVariants as operation
use Rattle.formula.specs.declared.steps.Binary.{Binary}
use Rattle.formula.specs.declared.steps.Step.TheVariants as kind
use Rattle.formula.specs.Bytes.{Here, NotHere, Expected}
use Rattle.formula.specs.Sheets.{Pushed}
use Rattle.formula.specs.Heads.{answer_of, Follows, nothing, one, OneAt, TwoAt}
use Rattle.formula.specs.Joins.{SumJoinAt, NoTimesOrOver, ProductJoinAt}
use Rattle.formula.specs.Parts.{Got, Reads, EndedBy, NotEnded, inside, after, OneSays, TwoSays, ProductSoFar}
use Rattle.formula.proofs.PartLaws.{from_suc, to_suc, got_as, got_on_to, got_unary, got_binary, reads_as}

-- Sums: a product, a join and one more, the end.
module _ (text : List ℕ) (d slot n : ℕ) (s s₁ : Sheet) (l : ℕ) where
  pub sum_first : Got (ProductRead text n d) text n slot s s₁ l → Got (SumUpTo text n d) text n slot s s₁ l
  sum_first g = got_as n (omega arith) (λ m t. sum_start text n d m t) g

  module _ (g : Got (SumUpTo text n d) text n slot s s₁ l) where
    pub sum_over : NoPlus text l → Got (SumRead text n d) text n slot s s₁ l
    sum_over p =
        record {
          tree = g.tree;
          read = record { up_to = g.read; no_plus = p };
          within = g.within;
          sheet = g.sheet;
          more = g.more;
          paid = g.paid;
        }

    pub sum_joined : (b : Binary) (s₂ s₃ : Sheet) (r : ℕ) → SumJoinAt text l b
        → Got (ProductRead text (l + 1) d) text (l + 1) (slot + 1) s₁ s₂ r → Pushed s₂ (kind.Binary b) slot s₃
        → Got (SumUpTo text n d) text n slot s s₃ r
    sum_joined b s₂ s₃ r j h e =
        got_binary (l + 1) b (sum_tree j.join) j.same g (omega arith) h
        (sum_step text n d l r j.join g.tree h.tree g.read j.here.within j.here.byte
        (to_suc (λ k. ProductRead text k d r h.tree) l h.read))
        e

    pub sum_broken : (b : Binary) (a : Answer) → SumJoinAt text l b → ProductStops text (l + 1) d a
        → SumStops text n d a
    sum_broken b a j h =
        sum_step_stops text n d l j.join g.tree a g.read j.here.within j.here.byte
        (to_suc (λ k. ProductStops text k d a) l h)

-- Products: spaces follow what was read.
module _ (text : List ℕ) (d slot n : ℕ) (s s₁ : Sheet) where
  so_far : (m j : ℕ) → Blank text m j → Got (ProductUpTo text n d) text n slot s s₁ m
      → Got (ProductSoFar text n d) text n slot s s₁ j
  so_far m j b g =
      got_on_to j b.from b.within
      (λ t h. record { up_to = product_blank text n d m j t h b; ends = record { other = b.ends } })
      g

  pub product_first : (m j : ℕ) → Got (SignedRead text n d) text n slot s s₁ m → Blank text m j
      → Got (ProductSoFar text n d) text n slot s s₁ j
  product_first m j g b = so_far m j b (got_as n (omega arith) (λ k t. product_start text n d k t) g)

  module _ (l : ℕ) (g : Got (ProductSoFar text n d) text n slot s s₁ l) where
    pub product_over : NoTimesOrOver text l → Got (ProductRead text n d) text n slot s s₁ l
    product_over p =
        record {
          tree = g.tree;
          read = record {
            up_to = g.read.up_to;
            no_times = record { space = g.read.ends.other; times = p.times.other; over = p.over.other };
          };
          within = g.within;
          sheet = g.sheet;
          more = g.more;
          paid = g.paid;
        }

    pub product_joined : (b : Binary) (s₂ s₃ : Sheet) (r : ℕ) → ProductJoinAt text l b
        → Got (SignedRead text (l + 1) d) text (l + 1) (slot + 1) s₁ s₂ r → Pushed s₂ (kind.Binary b) slot s₃
        → Got (ProductUpTo text n d) text n slot s s₃ r
    product_joined b s₂ s₃ r j h e =
        got_binary (l + 1) b (product_tree j.join) j.same g (omega arith) h
        (product_step text n d l r j.join g.tree h.tree g.read.up_to j.here.within j.here.byte
        (to_suc (λ k. SignedRead text k d r h.tree) l h.read))
        e

    pub product_broken : (b : Binary) (a : Answer) → ProductJoinAt text l b → SignedStops text (l + 1) d a
        → ProductStops text n d a
    product_broken b a j h =
        product_step_stops text n d l j.join g.tree a g.read.up_to j.here.within j.here.byte
        (to_suc (λ k. SignedStops text k d a) l h)

pub product_next : (text : List ℕ) (d slot n : ℕ) (s s₁ s₂ s₃ : Sheet) (l r j : ℕ) (b : Binary)
    → Got (ProductSoFar text n d) text n slot s s₁ l → ProductJoinAt text l b
    → Got (SignedRead text (l + 1) d) text (l + 1) (slot + 1) s₁ s₂ r → Pushed s₂ (kind.Binary b) slot s₃
    → Blank text r j → Got (ProductSoFar text n d) text n slot s s₃ j
product_next text d slot n s s₁ s₂ s₃ l r j b g i h e q =
    so_far text d slot n s s₃ r j q (product_joined text d slot n s s₁ l g b s₂ s₃ r i h e)

-- Signed items: no minus at the place k after spaces; one, and the item at j.
module _ (text : List ℕ) (d slot n : ℕ) (s s₁ : Sheet) (k : ℕ) (b : Blank text n k) where
  pub signed_plain : (r : Result ℕ Stop) → NotHere text k 45
      → Reads (ItemRead text k d) (ItemStops text k d) text k slot s s₁ r
      → Reads (SignedRead text n d) (SignedStops text n d) text n slot s s₁ r
  signed_plain r q =
      reads_as text n slot s s₁ r k b.from
      (λ m t h. blank_signed text n k d m t b (plain_read text k d m t q.other h))
      (λ a h. blank_signed_stops text n k d a b (plain_stops text k d a q.other h))

  module _ (i : Here text k 45) (j : ℕ) (f : Blank text (k + 1) j) where
    pub signed_minus : (s₂ : Sheet) (r : ℕ) → Got (ItemRead text j d) text j slot s s₁ r
        → Pushed s₁ (kind.Unary operation.Negate) slot s₂ → Got (SignedRead text n d) text n slot s s₂ r
    signed_minus s₂ r g =
        got_unary j operation.Negate negate refl (omega (arith, b.from, f.from)) g
        (blank_signed text n k d r (unary negate g.tree) b
        (minus_read text k j d r g.tree i.within i.byte (to_suc (λ k. Blank text k j) k f) g.read))

    pub signed_broken : (a : Answer) → ItemStops text j d a → SignedStops text n d a
    signed_broken a h =
        blank_signed_stops text n k d a b
        (minus_stops text k j d a i.within i.byte (to_suc (λ k. Blank text k j) k f) h)

-- A sum with the byte that ends it.
pub sum_ended : (text : List ℕ) (d slot n : ℕ) (s s₁ : Sheet) (x i : ℕ) (r : Result ℕ Stop)
    → Got (SumRead text n d) text n slot s s₁ i → Expected text i x r
    → Reads (EndedBy text n d x) (NotEnded text n d x) text (n + 1) slot s s₁ r
sum_ended text d slot n s s₁ x i (Ok m) g h =
    record {
      tree = g.tree;
      read = record { end = i; sum = g.read; here = h.here; next = h.next ∙ add-one i };
      within = omega (arith, h.here.within, h.next);
      sheet = g.sheet;
      more = g.more;
      paid = omega (arith, g.paid, h.next);
    }
sum_ended text d slot n s s₁ x i (Err e) g h =
    subst (λ z. NotEnded text n d x (answer_of z)) (sym h.stop) (after i g.tree g.read h.other)

-- Where a bracket's sum is not ended.
not_ended : (text : List ℕ) (n d j x : ℕ) (o : Opener) (a : Answer) → close_byte o ≡ x → OpenRead text n d j o
    → NotEnded text j (suc d) x a → ItemStops text n d a
not_ended text n d j x o a q r (inside a' s) = inner_stops text n d j o a r s
not_ended text n d j x o a q r (after m t s f) = by (ltb m (length text)) refl
  where
    by : (y : Bool) → ltb m (length text) ≡ y → ItemStops text n d (breaks m)
    by true e =
        let w = ltb-true m (length text) e in
        not_closed text n d j m o t r s w (λ z. f.other w (z ∙ q))
    by false e =
        let w = ltb-false m (length text) e in
        closed_by_none text n d j m o t r s (omega (arith, s.up_to.within))

-- A bracket of one sum.
module _ (text : List ℕ) (depth slot n : ℕ) (s s₁ : Sheet) where
  pub one_own : (m : ℕ) → Got (EndedBy text n depth 41) text (n + 1) slot s s₁ m
      → OneSays text n slot depth None s s₁ (Ok m)
  one_own m g = record { says = λ i d p q f r. by i d p q f r }
    where
      by : (i d : ℕ) (p : Opener) → suc d ≡ depth → Follows p None → OpenRead text i d n p
          → Got (ItemRead text i d) text n slot s s₁ m
      by i d p q nothing r =
          got_as (n + 1) (omega arith)
          (λ m t b. subst (λ y. ItemRead text i d y t) (sym b.next)
          (bracket_read text i d n b.end t r (subst (λ y. SumRead text n y b.end t) (sym q) b.sum)
          b.here.within b.here.byte))
          g

  pub one_called : (m : ℕ) (u : Unary) (s₂ : Sheet) → Got (EndedBy text n depth 41) text (n + 1) slot s s₁ m
      → Pushed s₁ (kind.Unary u) slot s₂ → OneSays text n slot depth (Some u) s s₂ (Ok m)
  one_called m u s₂ g x = record { says = λ i d p q f r. by i d p q f r }
    where
      by : (i d : ℕ) (p : Opener) → suc d ≡ depth → Follows p (Some u) → OpenRead text i d n p
          → Got (ItemRead text i d) text n slot s s₂ m
      by i d p q (one f u e) r =
          let b = g.read in
          got_unary (n + 1) u (one_tree f) e (omega arith) g
          (subst (λ m. ItemRead text i d m (unary (one_tree f) g.tree)) (sym b.next)
          (call_read text i d n b.end f g.tree r
          (subst (λ m. SumRead text n m b.end g.tree) (sym q) b.sum) b.here.within b.here.byte))
          x

  pub one_stopped : (o : Option Unary) (e : Stop) → NotEnded text n depth 41 (answer_of e)
      → OneSays text n slot depth o s s₁ (Err e)
  one_stopped o e h = record { says = λ i d p q f r. by i d p q o f r }
    where
      by : (i d : ℕ) (p : Opener) → suc d ≡ depth → (o : Option Unary) → Follows p o → OpenRead text i d n p
          → ItemStops text i d (answer_of e)
      by i d p q o nothing r =
          not_ended text i d n 41 p (answer_of e) refl r
          (subst (λ m. NotEnded text n m 41 (answer_of e)) (sym q) h)
      by i d p q o (one f u w) r =
          not_ended text i d n 41 p (answer_of e) refl r
          (subst (λ m. NotEnded text n m 41 (answer_of e)) (sym q) h)

-- A bracket of two sums: the second begins where the comma after the first ends.
module _ (text : List ℕ) (depth slot n : ℕ) (s s₁ : Sheet) (o : Binary) where
  pub two_stopped : (e : Stop) → NotEnded text n depth 44 (answer_of e) → TwoSays text n slot depth o s s₁ (Err e)
  two_stopped e h =
      record {
        says = λ i d f q w r. not_ended text i d n 44 (first_of f) (answer_of e) refl r
            (subst (λ m. NotEnded text n m 44 (answer_of e)) (sym q) h);
      }

  module _ (p : ℕ) (g : Got (EndedBy text n depth 44) text (n + 1) slot s s₁ p) where
    second : (i d : ℕ) (f : Two) → suc d ≡ depth → OpenRead text i d n (first_of f)
        → OpenRead text i d p (second_of f g.tree)
    second i d f q r =
        let b = g.read in
        subst (λ m. OpenRead text i d m (second_of f g.tree)) (sym b.next)
        (comma_read text i d n b.end f g.tree r
        (subst (λ m. SumRead text n m b.end g.tree) (sym q) b.sum) b.here.within b.here.byte)

    pub second_stopped : (s₂ : Sheet) (e : Stop) → NotEnded text p depth 41 (answer_of e)
        → TwoSays text n slot depth o s s₂ (Err e)
    second_stopped s₂ e h =
        record {
          says = λ i d f q w r. not_ended text i d p 41 (second_of f g.tree) (answer_of e) refl
              (second i d f q r) (subst (λ m. NotEnded text p m 41 (answer_of e)) (sym q) h);
        }

    -- Counted from the bracket on, not from the byte after it.
    abbrev first : Got (EndedBy text n depth 44) text n slot s s₁ p
    first =
        record {
          tree = g.tree;
          read = g.read;
          within = g.within;
          sheet = g.sheet;
          more = g.more;
          paid = omega (arith, g.paid);
        }

    pub two_joined : (s₂ s₃ : Sheet) (m : ℕ) → Got (EndedBy text p depth 41) text (p + 1) (slot + 1) s₁ s₂ m
        → Pushed s₂ (kind.Binary o) slot s₃ → TwoSays text n slot depth o s s₃ (Ok m)
    two_joined s₂ s₃ m h x =
        record {
          says = λ i d f q w r. let b = h.read in
              got_binary (p + 1) o (two_tree f) w first (omega arith) h
              (subst (λ m. ItemRead text i d m (binary (two_tree f) g.tree h.tree)) (sym b.next)
              (pair_read text i d p b.end f g.tree h.tree (second i d f q r)
              (subst (λ m. SumRead text p m b.end h.tree) (sym q) b.sum) b.here.within b.here.byte))
              x;
        }

-- An item with a bracket, from what the bracket holds: it is counted from where the item begins.
module _ (text : List ℕ) (d d' slot n : ℕ) (s s₁ : Sheet) (r : Result ℕ Stop) (j : ℕ) (shallow : d < 32)
    (deeper : d' ≡ d + 1) where
  from_bracket : Reads (ItemRead text n d) (ItemStops text n d) text (j + 1) slot s s₁ r → n ≤ j
      → Reads (ItemRead text n d) (ItemStops text n d) text n slot s s₁ r
  from_bracket g h = reads_as {S = ItemStops text n d} text n slot s s₁ r (j + 1) (omega arith) (λ m t q. q) (λ a q. q) g

  pub one_item : (u : Option Unary) → OneAt text n j u → OneSays text (j + 1) slot d' u s s₁ r
      → Reads (ItemRead text n d) (ItemStops text n d) text n slot s s₁ r
  one_item u o w =
      from_bracket
      (w.says n d o.opener (sym (deeper ∙ add-one d)) o.follows
      (from_suc (λ k. OpenRead text n d k o.opener) j (o.opens.opens d shallow)))
      o.opens.on

  pub two_item : (b : Binary) → TwoAt text n j b → TwoSays text (j + 1) slot d' b s s₁ r
      → Reads (ItemRead text n d) (ItemStops text n d) text n slot s s₁ r
  two_item b o w =
      from_bracket
      (w.says n d o.name (sym (deeper ∙ add-one d)) o.same
      (from_suc (λ k. OpenRead text n d k (first_of o.name)) j (o.opens.opens d shallow)))
      o.opens.on
