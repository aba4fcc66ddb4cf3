-- The swept picture pixel by pixel.
use mathlib.Core.Path.{◌≡◌, refl, sym, ap, ◌∙◌}
use mathlib.Core.List.{List}
use Prim.Native.Nat.{ℕ, zero, suc, ◌+◌, ◌*◌, ◌/◌, ◌%◌, ◌<◌}
use native.Mathlib.Nat.{mul_comm, div-add-mod', mod-lt, div-lt_iff_lt-mul}
use native.Mathlib.Omega.{arith}
use lib.ListN.{length, get_or, length-append, get_or-append}
use lib.Seq.{get_or-append-add, ext_get_or}
use Rattle.rules.specs.Tapes.{Tape}
use Rattle.rules.specs.Drawings.{Grid, sample_at}
use Rattle.swept_rules.specs.Swept.{Offset, swept_at, swept_row, swept_rows, swept}

-- Rows of first covers.
module _ (t : Tape) (os : List Offset) (g : Grid) where
  row_length : (n i j : ℕ) → length (swept_row n i j t os g) ≡ n
  unfolding swept_row
  row_length zero i j = refl
  row_length (suc n) i j = ap suc (row_length n (suc i) j)

  row_at : (n i j x k : ℕ) → x < n → k ≡ i + x → get_or (swept_row n i j t os g) x 0 ≡ swept_at t os (sample_at g k j 0)
  unfolding swept_row
  row_at zero i j x k l e = absurd (omega arith)
  row_at (suc n) i j zero k l e = let d : k ≡ i = omega arith in rw d
  row_at (suc n) i j (suc x) k l e = row_at n (suc i) j x k (omega arith) (omega arith)

  rows_length : (n j : ℕ) → length (swept_rows n j t os g) ≡ n * g.width
  unfolding swept_rows
  rows_length zero j = omega arith
  rows_length (suc n) j =
      omega (
        arith,
        length-append (swept_row g.width 0 j t os g) (swept_rows n (suc j) t os g),
        row_length g.width 0 j,
        rows_length n (suc j),
      )

  rows_at : (n j p x y k : ℕ) → x < g.width → y < n → p ≡ y * g.width + x → k ≡ j + y
      → get_or (swept_rows n j t os g) p 0 ≡ swept_at t os (sample_at g x k 0)
  unfolding swept_rows
  rows_at zero j p x y k l m e d = absurd (omega arith)
  rows_at (suc n) j p x zero k l m e d =
      let a : p ≡ x = omega arith in
      let b : k ≡ j = omega arith in
      rw (a, b)
      (get_or-append (swept_row g.width 0 j t os g) (swept_rows n (suc j) t os g) 0 x
      (omega (arith, row_length g.width 0 j))
      ∙ row_at g.width 0 j x x l (omega arith))
  rows_at (suc n) j p x (suc y) k l m e d =
      let a : p ≡ length (swept_row g.width 0 j t os g) + (y * g.width + x) = omega
      (arith, row_length g.width 0 j) in
      rw a
      (get_or-append-add (swept_row g.width 0 j t os g) (swept_rows n (suc j) t os g) (y * g.width + x) 0
      ∙ rows_at n (suc j) (y * g.width + x) x y k l (omega arith) refl (omega arith))

  pub swept_length : length (swept t os g) ≡ g.width * g.height
  unfolding swept
  swept_length = rows_length g.height 0 ∙ mul_comm g.height g.width

  pub swept_at_lem : (i j : ℕ) → i < g.width → j < g.height
      → get_or (swept t os g) (j * g.width + i) 0 ≡ swept_at t os (sample_at g i j 0)
  unfolding swept
  swept_at_lem i j l m = rows_at g.height 0 (j * g.width + i) i j j l m refl (omega arith)

-- A picture with the first cover at every pixel is the one that is defined.
positive : (w n p : ℕ) → p < w * n → 0 < w
positive zero n p l = absurd (omega arith)
positive (suc w) n p l = omega arith

pub pixels_swept : (t : Tape) (os : List Offset) (g : Grid) (h : List ℕ) → length h ≡ g.width * g.height
    → ((i j : ℕ) → i < g.width → j < g.height
    → get_or h (j * g.width + i) 0 ≡ swept_at t os (sample_at g i j 0))
    → h ≡ swept t os g
pixels_swept t os g h e a =
    ext_get_or 0 h (swept t os g) (e ∙ sym (swept_length t os g)) (λ p l. go p (omega (arith, e, l)))
  where
    go : (p : ℕ) → p < g.width * g.height → get_or h p 0 ≡ get_or (swept t os g) p 0
    go p l =
        let w = g.width in
        let z = positive w g.height p l in
        let x : p % w < w = mod-lt p z in
        let y : p / w < g.height = (div-lt_iff_lt-mul z).1 (rw (mul_comm w g.height) at l) in
        ap (λ i. get_or h i 0) (sym (div-add-mod' p w))
        ∙ a (p % w) (p / w) x y
        ∙ sym (swept_at_lem t os g (p % w) (p / w) x y)
        ∙ ap (λ i. get_or (swept t os g) i 0) (div-add-mod' p w)
