-- Parts of a picture: what is kept outside a row's bytes, parts one after the other, and what stays blank.
use mathlib.Core.Path.{◌≡◌, refl, ap, ◌∙◌}
use mathlib.Core.Bool.{Bool, true, false}
use mathlib.Core.List.{List}
use Prim.Native.Nat.{ℕ, ◌+◌, ◌*◌, ◌/◌, ◌%◌, ◌<◌, ◌≤◌}
use native.Mathlib.Nat.{mul-le-mul_right}
use native.Mathlib.Omega.{arith}
use lib.Dec.{ltb}
use lib.ListN.{get_or, set, replicate}
use lib.Seq.{get_or-set_other}
use borrow.Author.Tests.{ltb-true, ltb-false}
use Rattle.rules.specs.Pictures.{stride}
use Rattle.picture.specs.Bits.{StoredRow}
use Rattle.picture.specs.Parts.{KeptOutside, ByteIn, Blank, Apart}
use Rattle.picture.proofs.BitShows.{zeros_at}

-- Bytes in turn.
pub kept_none : (i : ℕ) (b : List ℕ) → KeptOutside i i b b
kept_none i b = record { bytes = λ j o. refl }

pub kept_more : (a i z v : ℕ) (b c : List ℕ) → a ≤ i → i < z → KeptOutside a i b c → KeptOutside a z b (set c i v)
kept_more a i z v b c l m k =
    record {
      bytes = λ j o.
          get_or-set_other c i j v 0 (λ e. o (omega (arith, e)) (omega (arith, e)))
          ∙ k.bytes j (λ p q. o p (omega arith));
    }

-- The bytes from one of row y on, within that row, are in no other.
in_row : (s y j c a z : ℕ) → c < s → y * s ≤ a → z ≤ y * s + s → a ≤ j * s + c → j * s + c < z → j ≡ y
in_row s y j c a z l m n p q = by (ltb j y) (ltb y j) refl refl
  where
    by : (t u : Bool) → ltb j y ≡ t → ltb y j ≡ u → j ≡ y
    by true u e f = absurd (omega (arith, mul-le-mul_right s (ltb-true j y e)))
    by false true e f = absurd (omega (arith, mul-le-mul_right s (ltb-true y j f)))
    by false false e f = omega (arith, ltb-false j y e, ltb-false y j f)

row_byte_in : (w x xend y j c a z : ℕ) → x % 8 ≡ 0 → xend ≤ w → c < stride w → a ≡ y * stride w + x / 8
    → z ≤ y * stride w + (xend + 7) / 8 → a ≤ j * stride w + c → j * stride w + c < z → ByteIn x xend y (y + 1) j c
row_byte_in w x xend y j c a z d f l e g p q =
    let r : j ≡ y = in_row (stride w) y j c a z l (omega arith) (omega arith) p q in
    let h : j * stride w ≡ y * stride w = ap (λ i. i * stride w) r in
    omega (arith, r, h)

pub row_apart : (w x xend y a z : ℕ) {b b' : List ℕ} → x % 8 ≡ 0 → xend ≤ w → a ≡ y * stride w + x / 8
    → z ≤ y * stride w + (xend + 7) / 8 → KeptOutside a z b b' → Apart w x xend y (y + 1) b b'
row_apart w x xend y a z d f e g k =
    record {
      bytes = λ j c l o. k.bytes (j * stride w + c) (λ p q. o (row_byte_in w x xend y j c a z d f l e g p q));
    }

-- Nothing is done; a part, and then one that lies with it in a third.
pub apart_none : (w x xend y yend : ℕ) (b : List ℕ) → Apart w x xend y yend b b
apart_none w x xend y yend b = record { bytes = λ j c l o. refl }

-- One part lies within another.
pub record PartOf (x xend y yend x₀ xend₀ y₀ yend₀ : ℕ) : Type 0 where
  pub left : x₀ ≤ x
  pub right : xend ≤ xend₀
  pub top : y₀ ≤ y
  pub bottom : yend ≤ yend₀

byte_part : {x xend y yend x₀ xend₀ y₀ yend₀ j c : ℕ} → PartOf x xend y yend x₀ xend₀ y₀ yend₀
    → ByteIn x xend y yend j c → ByteIn x₀ xend₀ y₀ yend₀ j c
byte_part p i = omega (arith, p, i)

module _ {w x xend y yend x₀ xend₀ y₀ yend₀ : ℕ} (p : PartOf x xend y yend x₀ xend₀ y₀ yend₀) {b : List ℕ} where
  pub apart_part : {b' : List ℕ} → Apart w x xend y yend b b' → Apart w x₀ xend₀ y₀ yend₀ b b'
  apart_part a = record { bytes = λ j c l o. a.bytes j c l (λ i. o (byte_part p i)) }

  pub blank_part : Blank w x₀ xend₀ y₀ yend₀ b → Blank w x xend y yend b
  blank_part k = record { bytes = λ j c l i. k.bytes j c l (byte_part p i) }

pub apart_then : {w x xend y yend : ℕ} {b b' b'' : List ℕ} → Apart w x xend y yend b b' → Apart w x xend y yend b' b''
    → Apart w x xend y yend b b''
apart_then a d = record { bytes = λ j c l o. d.bytes j c l o ∙ a.bytes j c l o }

-- A part, and then the one that follows it along x or y.
pub columns_apart : {w x x₁ xend y yend : ℕ} {b b' b'' : List ℕ} → x ≤ x₁ → x₁ ≤ xend → Apart w x x₁ y yend b b'
    → Apart w x₁ xend y yend b' b'' → Apart w x xend y yend b b''
columns_apart l m a d =
    apart_then (apart_part (omega arith) a) (apart_part (omega arith) d)

pub rows_apart : {w x xend y j yend : ℕ} {b b' b'' : List ℕ} → y ≤ j → j ≤ yend → Apart w x xend y j b b'
    → Apart w x xend j yend b' b'' → Apart w x xend y yend b b''
rows_apart l m a d =
    apart_then (apart_part (omega arith) a) (apart_part (omega arith) d)

-- The byte of a row of samples.
pub stored_apart : {w x y v : ℕ} {b b' : List ℕ} → x % 8 ≡ 0 → x < w → StoredRow w x y v b b'
    → Apart w x (x + 8) y (y + 1) b b'
stored_apart {w} {x} {y} d l k =
    let at = y * stride w + x / 8 in
    apart_part (omega arith)
    (row_apart w x (x + 1) y at (at + 1) d (omega arith) refl (omega arith)
    (record { bytes = λ i o. k.other i (λ e. o (omega (arith, e)) (omega (arith, e))) }))

-- What lies behind a part, or below it, stays blank.
pub blank_behind : {w x x₁ xend xend₀ y yend : ℕ} {b b' : List ℕ} → x ≤ x₁ → xend ≤ xend₀ → Apart w x x₁ y yend b b'
    → Blank w x xend₀ y yend b → Blank w x₁ xend y yend b'
blank_behind l m a k =
    record {
      bytes = λ j c u i. a.bytes j c u (λ o. omega (arith, i, o)) ∙ k.bytes j c u (byte_part (omega arith) i);
    }

pub blank_below : {w x xend y y₁ yend yend₀ : ℕ} {b b' : List ℕ} → y ≤ y₁ → yend ≤ yend₀ → Apart w x xend y y₁ b b'
    → Blank w x xend y yend₀ b → Blank w x xend y₁ yend b'
blank_below l m a k =
    record {
      bytes = λ j c u i. a.bytes j c u (λ o. omega (arith, i, o)) ∙ k.bytes j c u (byte_part (omega arith) i);
    }

-- A blank picture.
pub all_blank : (w x xend y yend m : ℕ) {b : List ℕ} → b ≡ replicate m 0 → Blank w x xend y yend b
all_blank w x xend y yend m e =
    record { bytes = λ j c l i. ap (λ v. get_or v (j * stride w + c) 0) e ∙ zeros_at m (j * stride w + c) }
