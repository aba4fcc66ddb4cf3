-- The full drawing's heights are the least that are above every sample with material.
use mathlib.Core.Path.{◌≡◌, refl, ap, sym, ◌∙◌}
use mathlib.Core.Bool.{Bool, true, false, false≢true}
use mathlib.Core.List.{List, [], ◌∷◌, ◌++◌}
use Prim.Native.Nat.{ℕ, zero, suc, ◌+◌, ◌*◌, ◌/◌, ◌%◌, ◌≤◌, ◌<◌}
use native.Mathlib.Omega.{arith}
use native.Mathlib.Nat.{mul_comm, div-add-mod', mod-lt, div-lt_iff_lt-mul}
use lib.ListN.{length, get_or, replicate, length-append, length-replicate, get_or-replicate, get_or-append}
use lib.Seq.{get_or-append-add}
use Rattle.rules.specs.Values.{pick}
use Rattle.rules.specs.Tapes.{Tape, material}
use Rattle.rules.specs.Drawings.{Grid, sample_at, layers, column_from, row_from, rows_from, drawn, whole}
use Rattle.rules.proofs.Regions.{Fits}
use Rattle.rules.proofs.Raised.{Raised}
use Rattle.rules.proofs.Samples.{Hit}

-- 1 + the greatest of n layers from k on that has material at the pixel (x, y), or 0 if none has.
unfoldable pub top_from : ℕ → ℕ → Tape → Grid → ℕ → ℕ → ℕ
top_from k zero t g x y = 0
top_from k (suc n) t g x y = pick (material t (sample_at g x y (k + n))) (suc (k + n)) (top_from k n t g x y)

-- It is above each of these layers with material, and no greater than whatever is.
pub top_above : (k n : ℕ) (t : Tape) (g : Grid) (x y z : ℕ) → k ≤ z → z < k + n → material t (sample_at g x y z) ≡ true
    → z < top_from k n t g x y
unfolding top_from
top_above k zero t g x y z h l m = absurd (omega arith)
top_above k (suc n) t g x y z h l m =
    go (material t (sample_at g x y (k + n))) refl (λ i. top_above k n t g x y z h i m)
  where
    other : material t (sample_at g x y (k + n)) ≡ false → z ≡ k + n → ⊥
    other e d = false≢true (sym e ∙ (rw d at m))

    go : (b : Bool) → material t (sample_at g x y (k + n)) ≡ b → (z < k + n → z < top_from k n t g x y)
        → z < pick b (suc (k + n)) (top_from k n t g x y)
    go true e f = omega arith
    go false e f = let o : z ≡ k + n → ⊥ = other e in f (omega arith)

pub top_least : (k n : ℕ) (t : Tape) (g : Grid) (x y b : ℕ)
    → ((z : ℕ) → k ≤ z → z < k + n → material t (sample_at g x y z) ≡ true → z < b) → top_from k n t g x y ≤ b
unfolding top_from
top_least k zero t g x y b f = omega arith
top_least k (suc n) t g x y b f =
    go (material t (sample_at g x y (k + n))) refl (top_least k n t g x y b (λ z h l m. f z h (omega arith) m))
  where
    go : (c : Bool) → material t (sample_at g x y (k + n)) ≡ c → top_from k n t g x y ≤ b
        → pick c (suc (k + n)) (top_from k n t g x y) ≤ b
    go true e h = f (k + n) (omega arith) (omega arith) e
    go false e h = h

-- The full drawing's column is that of all layers from 0 on.
pub column_top : (n : ℕ) (t : Tape) (g : Grid) (x y : ℕ) → column_from n t g x y ≡ top_from 0 n t g x y
unfolding column_from top_from
column_top zero t g x y = refl
column_top (suc n) t g x y = go (material t (sample_at g x y n)) refl (column_top n t g x y)
  where
    first : 0 + n ≡ n
    first = omega arith

    go : (b : Bool) → material t (sample_at g x y n) ≡ b → column_from n t g x y ≡ top_from 0 n t g x y
        → column_from (suc n) t g x y ≡ top_from 0 (suc n) t g x y
    go true e ih = rw (first, e, column_from)
    go false e ih = rw (first, e, column_from) ih

-- Rows of columns.
module _ (t : Tape) (g : Grid) where
  row_length : (n i j : ℕ) → length (row_from n i j t g) ≡ n
  unfolding row_from
  row_length zero i j = refl
  row_length (suc n) i j = ap suc (row_length n (suc i) j)

  row_at : (n i j x k : ℕ) → x < n → k ≡ i + x → get_or (row_from n i j t g) x 0 ≡ column_from (layers g) t g k j
  unfolding row_from
  row_at zero i j x k l e = absurd (omega arith)
  row_at (suc n) i j zero k l e = let d : k ≡ i = omega arith in rw d
  row_at (suc n) i j (suc x) k l e = row_at n (suc i) j x k (omega arith) (omega arith)

  rows_length : (n j : ℕ) → length (rows_from n j t g) ≡ n * g.width
  unfolding rows_from
  rows_length zero j = omega arith
  rows_length (suc n) j =
      omega (
        arith,
        length-append (row_from g.width 0 j t g) (rows_from n (suc j) t g),
        row_length g.width 0 j,
        rows_length n (suc j),
      )

  rows_at : (n j p x y k : ℕ) → x < g.width → y < n → p ≡ y * g.width + x → k ≡ j + y
      → get_or (rows_from n j t g) p 0 ≡ column_from (layers g) t g x k
  unfolding rows_from
  rows_at zero j p x y k l m e d = absurd (omega arith)
  rows_at (suc n) j p x zero k l m e d =
      let a : p ≡ x = omega arith in
      let b : k ≡ j = omega arith in
      rw (a, b)
      (get_or-append (row_from g.width 0 j t g) (rows_from n (suc j) t g) 0 x
      (omega (arith, row_length g.width 0 j))
      ∙ row_at g.width 0 j x x l (omega arith))
  rows_at (suc n) j p x (suc y) k l m e d =
      let a : p ≡ length (row_from g.width 0 j t g) + (y * g.width + x) = omega (arith, row_length g.width 0 j) in
      rw a
      (get_or-append-add (row_from g.width 0 j t g) (rows_from n (suc j) t g) (y * g.width + x) 0
      ∙ rows_at n (suc j) (y * g.width + x) x y k l (omega arith) refl (omega arith))

-- Every place of a picture is a pixel's.
record Spot (w n p : ℕ) : Type 0 where
  x : ℕ
  y : ℕ
  place : p ≡ y * w + x
  x_in : x < w
  y_in : y < n

positive : (w n p : ℕ) → p < w * n → 0 < w
positive zero n p l = absurd (omega arith)
positive (suc w) n p l = omega arith

spot : (w n p : ℕ) → p < w * n → Spot w n p
spot w n p l =
    record {
      x = p % w;
      y = p / w;
      place = sym (div-add-mod' p w);
      x_in = mod-lt p (positive w n p l);
      y_in = (div-lt_iff_lt-mul (positive w n p l)).1 (rw (mul_comm w n) at l);
    }

pub drawn_raised : (t : Tape) (g : Grid) → Fits g → Raised (Hit t g whole) (replicate (g.width * g.height) 0)
    (drawn t g)
unfolding drawn
drawn_raised t g f =
    record {
      size = omega (arith, rows_length t g g.height 0, zeros, mul_comm g.width g.height);
      from = λ p l. omega (arith, get_or-replicate {A = ℕ} (g.width * g.height) p 0 0 (omega (arith, zeros)));
      above = λ p z l i.
          rw (pixel p i.x i.y i.in_grid.x_in i.in_grid.y_in i.place)
          (top_above 0 (layers g) t g i.x i.y z (omega arith) (omega (arith, i.in_grid.z_in)) i.has);
      least = λ p b l e k. by_spot p b k (spot g.width g.height p (omega (arith, zeros)));
    }
  where
    zeros : length {A = ℕ} (replicate (g.width * g.height) 0) ≡ g.width * g.height
    zeros = length-replicate (g.width * g.height) 0

    pixel : (p x y : ℕ) → x < g.width → y < g.height → p ≡ y * g.width + x
        → get_or (drawn t g) p 0 ≡ top_from 0 (layers g) t g x y
    pixel p x y l m e = rows_at t g g.height 0 p x y y l m e (omega arith) ∙ column_top (layers g) t g x y

    by_spot : (p b : ℕ) → ((z : ℕ) → Hit t g whole p z → z < b) → Spot g.width g.height p
        → get_or (drawn t g) p 0 ≤ b
    by_spot p b k s =
        rw (pixel p s.x s.y s.x_in s.y_in s.place)
        (top_least 0 (layers g) t g s.x s.y b (λ z _ l m.
        k z (record { x = s.x; y = s.y; place = s.place; inside = omega arith; in_grid = omega arith; has = m })))

-- No height is above the number of layers.
column_most : (k : ℕ) (t : Tape) (g : Grid) (x y : ℕ) → column_from k t g x y ≤ k
unfolding column_from
column_most zero t g x y = omega arith
column_most (suc k) t g x y = by (material t (sample_at g x y k)) (column_most k t g x y)
  where
    by : (m : Bool) {n : ℕ} → n ≤ k → elim m [ true ↦ suc k | false ↦ n ] ≤ suc k
    by true h = omega arith
    by false h = omega arith

rest_most : (xs ys : List ℕ) (m : ℕ) → ((p : ℕ) → get_or xs p 0 ≤ m) → ((p : ℕ) → get_or ys p 0 ≤ m) → (p : ℕ)
    → get_or (xs ++ ys) p 0 ≤ m
rest_most [] ys m h k p = k p
rest_most (x ∷ xs) ys m h k zero = h 0
rest_most (x ∷ xs) ys m h k (suc p) = rest_most xs ys m (λ q. h (suc q)) k p

row_most : (n i j : ℕ) (t : Tape) (g : Grid) (p : ℕ) → get_or (row_from n i j t g) p 0 ≤ layers g
unfolding row_from
row_most zero i j t g p = omega arith
row_most (suc n) i j t g zero = column_most (layers g) t g i j
row_most (suc n) i j t g (suc p) = row_most n (suc i) j t g p

rows_most : (n j : ℕ) (t : Tape) (g : Grid) (p : ℕ) → get_or (rows_from n j t g) p 0 ≤ layers g
unfolding rows_from
rows_most zero j t g p = omega arith
rows_most (suc n) j t g p =
    rest_most (row_from g.width 0 j t g) (rows_from n (suc j) t g) (layers g) (row_most g.width 0 j t g)
    (rows_most n (suc j) t g) p

pub drawn_most : (t : Tape) (g : Grid) (p : ℕ) → get_or (drawn t g) p 0 ≤ layers g
unfolding drawn
drawn_most t g p = rows_most g.height 0 t g p
