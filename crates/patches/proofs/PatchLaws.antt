-- Bytes set one by one, and a part row by row.
use mathlib.Core.Path.{◌≡◌, refl, sym, ap, ◌∙◌}
use mathlib.Core.Bool.{Bool, true, false}
use mathlib.Core.List.{List}
use Prim.Native.Nat.{ℕ, ◌+◌, ◌-◌, ◌*◌, ◌/◌, ◌%◌, ◌<◌, ◌≤◌}
use native.Mathlib.Nat.{mul-le-mul_right}
use native.Mathlib.Omega.{arith}
use lib.Dec.{ltb}
use lib.ListN.{length, get_or, set}
use lib.Seq.{get_or-set_same, get_or-set_other}
use borrow.Author.Tests.{ltb-true, ltb-false}
use Rattle.rules.specs.Pictures.{stride}
use Rattle.picture.specs.Bits.{Within}
use Rattle.picture.specs.Parts.{ByteIn}
use Rattle.picture.proofs.PartLaws.{kept_none, kept_more, row_apart, apart_none, rows_apart}
use Rattle.patches.specs.Patches.{BytesSet, PartSet}

-- Bytes in turn.
pub set_none : (i : ℕ) (f : ℕ → ℕ) (b : List ℕ) → BytesSet i i f b b
set_none i f b = record { inside = λ j l m. absurd (omega arith); outside = kept_none i b }

pub set_more : (a i v : ℕ) (f : ℕ → ℕ) (b c : List ℕ) → a ≤ i → i < length c → v ≡ f i → BytesSet a i f b c
    → BytesSet a (i + 1) f b (set c i v)
set_more a i v f b c l m e k =
    record {
      inside = λ j p q. at j p q (ltb j i) refl;
      outside = kept_more a i (i + 1) v b c l (omega arith) k.outside;
    }
  where
    at : (j : ℕ) → a ≤ j → j < i + 1 → (t : Bool) → ltb j i ≡ t → get_or (set c i v) j 0 ≡ f j
    at j p q true h =
        let n = ltb-true j i h in
        get_or-set_other c i j v 0 (λ z. omega (arith, z)) ∙ k.inside j p n
    at j p q false h =
        let n = ltb-false j i h in
        let z : j ≡ i = omega arith in
        rw z (get_or-set_same c i v 0 m ∙ e)

-- The next byte is still as it came.
pub set_next : {a i : ℕ} {f : ℕ → ℕ} {b c : List ℕ} → BytesSet a i f b c → get_or c i 0 ≡ get_or b i 0
set_next {i = i} k = k.outside.bytes i (λ p q. omega arith)

-- What becomes of a byte by its value, when it comes, and its place.
abbrev pub by_value : (ℕ → ℕ → ℕ) → List ℕ → ℕ → ℕ
by_value f b i = f (get_or b i 0) i

pub set_by_value : (a i v : ℕ) (f : ℕ → ℕ → ℕ) (b c : List ℕ) → a ≤ i → i < length c → v ≡ by_value f c i
    → BytesSet a i (by_value f b) b c → BytesSet a (i + 1) (by_value f b) b (set c i v)
set_by_value a i v f b c l m e k = set_more a i v (by_value f b) b c l m (e ∙ ap (λ x. f x i) (set_next k)) k

-- A part of no rows, and one row more.
pub part_none : (w x xend y : ℕ) (f : ℕ → ℕ) (b : List ℕ) → PartSet w x xend y y f b b
part_none w x xend y f b =
    record {
      inside = λ j c l i. absurd (omega (arith, i.from_row, i.to_row));
      outside = apart_none w x xend y y b;
    }

module _ (w x xend y j : ℕ) (f : ℕ → ℕ) {b c : List ℕ} (k : PartSet w x xend y j f b c) where
  -- The bytes of the next row are still as they came.
  pub row_next : xend ≤ w → (i : ℕ) → j * stride w ≤ i → i < j * stride w + (xend + 7) / 8 → get_or c i 0 ≡ get_or b i 0
  row_next l i m n =
      let e : i ≡ j * stride w + (i - j * stride w) = omega arith in
      ap (λ p. get_or c p 0) e
      ∙ k.outside.bytes j (i - j * stride w) (omega arith) (λ o. omega (arith, o.to_row))
      ∙ sym (ap (λ p. get_or b p 0) e)

  module _ (start : x % 8 ≡ 0) (columns : xend ≤ w) (from : y ≤ j) (f' : ℕ → ℕ)
      (same : (i : ℕ) → j * stride w ≤ i → i < j * stride w + (xend + 7) / 8 → f' i ≡ f i) {d : List ℕ}
      (s : BytesSet (j * stride w + x / 8) (j * stride w + (xend + 7) / 8) f' c d) where
    before : (i p : ℕ) → i < j → p < stride w → i * stride w + p < j * stride w
    before i p l m = omega (arith, mul-le-mul_right (stride w) l)

    this_row : (i p : ℕ) → i ≡ j → ByteIn x xend y (j + 1) i p → get_or d (i * stride w + p) 0 ≡ f (i * stride w + p)
    this_row i p e o =
        let q : j * stride w + x / 8 ≤ j * stride w + p = omega (arith, o.from_pixel) in
        let r : j * stride w + p < j * stride w + (xend + 7) / 8 = omega (arith, o.to_pixel) in
        rw e (s.inside (j * stride w + p) q r ∙ same (j * stride w + p) (omega arith) r)

    pub part_row : PartSet w x xend y (j + 1) f b d
    part_row =
        record {
          inside = λ i p l o. at i p l o (ltb i j) refl;
          outside = rows_apart from (omega arith) k.outside
              (row_apart w x xend j (j * stride w + x / 8) (j * stride w + (xend + 7) / 8) start columns refl
              (omega arith) s.outside);
        }
      where
        at : (i p : ℕ) → p < stride w → ByteIn x xend y (j + 1) i p → (t : Bool) → ltb i j ≡ t
            → get_or d (i * stride w + p) 0 ≡ f (i * stride w + p)
        at i p l o true h =
            let n = ltb-true i j h in
            let m = before i p n l in
            s.outside.bytes (i * stride w + p) (λ q r. omega arith)
            ∙ k.inside i p l
            (record { from_row = o.from_row; to_row = n; from_pixel = o.from_pixel; to_pixel = o.to_pixel })
        at i p l o false h =
            let n = ltb-false i j h in
            this_row i p (omega (arith, o.to_row)) o

pub part_by_value : (w x xend y j : ℕ) (f : ℕ → ℕ → ℕ) (b c : List ℕ) {d : List ℕ} → x % 8 ≡ 0 → xend ≤ w → y ≤ j
    → PartSet w x xend y j (by_value f b) b c
    → BytesSet (j * stride w + x / 8) (j * stride w + (xend + 7) / 8) (by_value f c) c d
    → PartSet w x xend y (j + 1) (by_value f b) b d
part_by_value w x xend y j f b c start columns from k s =
    part_row w x xend y j (by_value f b) k start columns from (by_value f c)
    (λ i l m. ap (λ v. f v i) (row_next w x xend y j (by_value f b) k columns i l m)) s

-- A row's bytes are in the picture.
pub row_ends : (w x xend yend j : ℕ) (b : List ℕ) → Within w x xend yend b → j < yend
    → (x / 8 ≤ (xend + 7) / 8) × (j * stride w + (xend + 7) / 8 ≤ length b)
row_ends w x xend yend j b i l =
    (omega (arith, i.some), omega (arith, i.columns, i.rows, mul-le-mul_right (stride w) l))
