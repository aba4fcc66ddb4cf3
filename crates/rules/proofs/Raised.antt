-- Heights raised by a set of layers: the least heights that are at least those before and above every layer of the set.
use mathlib.Core.Path.{◌≡◌, refl}
use mathlib.Core.Logic.{◌⊎◌, inl, inr}
use mathlib.Core.List.{List}
use Prim.Native.Nat.{ℕ, ◌≤◌, ◌<◌}
use native.Mathlib.Omega.{arith}
use lib.ListN.{length, get_or}
use lib.Seq.{ext_get_or}

-- P p z: the layer z counts at the pixel at place p. Nothing here speaks of the order in which layers are met.
pub record Raised (P : ℕ → ℕ → Type 0) (h h' : List ℕ) : Type 0 where
  pub size : length h' ≡ length h
  pub from : (p : ℕ) → p < length h → get_or h p 0 ≤ get_or h' p 0
  pub above : (p z : ℕ) → p < length h → P p z → z < get_or h' p 0
  pub least : (p b : ℕ) → p < length h → get_or h p 0 ≤ b → ((z : ℕ) → P p z → z < b) → get_or h' p 0 ≤ b

-- Layers that are all below the heights change nothing.
pub unchanged : {P : ℕ → ℕ → Type 0} (h : List ℕ) → ((p z : ℕ) → P p z → z < get_or h p 0) → Raised P h h
unchanged h f =
    record {
      size = refl;
      from = λ p l. omega arith;
      above = λ p z l e. f p z e;
      least = λ p b l e k. e;
    }

-- One set and then another raise by both.
pub joined : {P Q R : ℕ → ℕ → Type 0} {h m h' : List ℕ} → Raised P h m → Raised Q m h'
    → ((p z : ℕ) → R p z → P p z ⊎ Q p z) → ((p z : ℕ) → P p z → R p z) → ((p z : ℕ) → Q p z → R p z) → Raised R h h'
joined {P} {Q} {R} {h} {m} {h'} a b split left right =
    record {
      size = omega arith;
      from = λ p l. omega (arith, a.from p l, b.from p (still p l));
      above = λ p z l e. either p z l (split p z e);
      least = λ p c l e k.
          b.least p c (still p l) (a.least p c l e (λ z i. k z (left p z i))) (λ z i. k z (right p z i));
    }
  where
    still : (p : ℕ) → p < length h → p < length m
    still p l = omega arith

    either : (p z : ℕ) → p < length h → P p z ⊎ Q p z → z < get_or h' p 0
    either p z l (inl i) = omega (arith, a.above p z l i, b.from p (still p l))
    either p z l (inr i) = b.above p z (still p l) i

-- A layer of a set at a place, no lower than z.
pub record Topped (P : ℕ → ℕ → Type 0) (p z : ℕ) : Type 0 where
  pub layer : ℕ
  pub is_in_lem : P p layer
  pub high : z ≤ layer

-- Two sets with the same greatest layers raise alike.
pub same_tops : {P Q : ℕ → ℕ → Type 0} {h h' : List ℕ} → Raised P h h'
    → ((p z : ℕ) → P p z → Topped Q p z) → ((p z : ℕ) → Q p z → Topped P p z) → Raised Q h h'
same_tops {P} {Q} {h} {h'} a f g =
    record {
      size = a.size;
      from = a.from;
      above = λ p z l i. higher p z l (g p z i);
      least = λ p b l e k. a.least p b l e (λ z i. lower p z b k (f p z i));
    }
  where
    higher : (p z : ℕ) → p < length h → Topped P p z → z < get_or h' p 0
    higher p z l t = omega (arith, a.above p t.layer l t.is_in_lem)

    lower : (p z b : ℕ) → ((y : ℕ) → Q p y → y < b) → Topped Q p z → z < b
    lower p z b k t = omega (arith, k t.layer t.is_in_lem)

pub same_set : {P Q : ℕ → ℕ → Type 0} {h h' : List ℕ} → Raised P h h'
    → ((p z : ℕ) → P p z → Q p z) → ((p z : ℕ) → Q p z → P p z) → Raised Q h h'
same_set {P} {Q} a f g = same_tops a (λ p z i. itself (f p z i)) (λ p z i. itself (g p z i))
  where
    itself : {S : ℕ → ℕ → Type 0} {p z : ℕ} → S p z → Topped S p z
    itself {S} {p} {z} i = record { layer = z; is_in_lem = i; high = omega arith }

-- There is one result.
pub unique : {P : ℕ → ℕ → Type 0} {h a b : List ℕ} → Raised P h a → Raised P h b → a ≡ b
unique {P} {h} {a} {b} u v = ext_get_or 0 a b (omega arith) (λ p l. same p (omega arith))
  where
    no_more : {c d : List ℕ} → Raised P h c → Raised P h d → (p : ℕ) → p < length h → get_or c p 0 ≤ get_or d p 0
    no_more {c} {d} i j p l = i.least p (get_or d p 0) l (j.from p l) (λ z k. j.above p z l k)

    same : (p : ℕ) → p < length h → get_or a p 0 ≡ get_or b p 0
    same p l = omega (arith, no_more u v p l, no_more v u p l)
