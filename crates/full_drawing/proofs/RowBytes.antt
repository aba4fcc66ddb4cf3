-- The byte of at most 8 pixels of a flat row, made pixel by pixel.
use mathlib.Core.Path.{◌≡◌, refl, sym, ap, ◌∙◌}
use mathlib.Core.Bool.{Bool, true, false}
use mathlib.Core.List.{List, [], ◌∷◌, ◌++◌, map}
use Prim.Native.Nat.{ℕ, zero, suc, ◌+◌, ◌-◌, ◌*◌, ◌^◌, ◌≤◌, ◌<◌, min}
use native.Mathlib.Numerals.{add-one}
use native.Mathlib.Nat.{add-zero}
use native.Mathlib.Omega.{arith}
use lib.ListN.{length, get_or, take}
use Rattle.rules.specs.Values.{when}
use Rattle.rules.specs.Tapes.{Tape, material}
use Rattle.rules.specs.Drawings as D
use Rattle.rules.specs.Drawings.{layers, sample_at, column_from, row_from}
use Rattle.rules.specs.Pictures.{byte_of}
use Rattle.rules.specs.Accepted.{Accepted}
use Rattle.code.specs.Words.{tape_in}
use Rattle.code.specs.Runs.{SampleOk}
use Rattle.picture.specs.Bits.{row_byte_from, row_byte}
use Rattle.picture.specs.Shapes.{grid_in}
use Rattle.picture.specs.declared.grid.Grid.{Grid}
use Rattle.picture.proofs.Grids.{Accepted as AcceptedGrid}
use Rattle.full_drawing.specs.Full.{sample_in, Says, Byte}
use Rattle.full_drawing.proofs.Columns.{column_found, column_passed, column_none}

-- Which of m pixels of row j have material, from pixel i on.
unfoldable pub materials : ℕ → ℕ → ℕ → Tape → D.Grid → List Bool
materials zero i j t g = []
materials (suc m) i j t g = material t (sample_at g i j 0) ∷ materials m (suc i) j t g

length_materials : (m i j : ℕ) (t : Tape) (g : D.Grid) → length (materials m i j t g) ≡ m
unfolding materials
length_materials zero i j t g = refl
length_materials (suc m) i j t g = ap suc (length_materials m (suc i) j t g)

materials_more : (m i j : ℕ) (t : Tape) (g : D.Grid)
    → materials m i j t g ++ (material t (sample_at g (i + m) j 0) ∷ []) ≡ materials (suc m) i j t g
unfolding materials
materials_more zero i j t g = rw (add-zero i)
materials_more (suc m) i j t g =
    let e : i + suc m ≡ suc i + m = omega arith in
    rw e (ap (λ bs. material t (sample_at g i j 0) ∷ bs) (materials_more m (suc i) j t g))

-- The heights of one layer are 0 and 1.
column_flat : (t : Tape) (g : D.Grid) (i j : ℕ) (b : Bool) → b ≡ material t (sample_at g i j 0) → column_from 1 t g i j
    ≡ when b 1
column_flat t g i j true e = column_found 0 t g i j e
column_flat t g i j false e = column_passed 0 t g i j e ∙ column_none t g i j

abbrev marks : List Bool → List ℕ
marks bs = map (λ b. when b 1) bs

row_flat : (m i j : ℕ) (t : Tape) (g : D.Grid) → layers g ≡ 1 → row_from m i j t g ≡ marks (materials m i j t g)
unfolding row_from materials
row_flat zero i j t g e = refl
row_flat (suc m) i j t g e =
    ap (λ k. column_from k t g i j ∷ row_from m (suc i) j t g) e
    ∙ ap (λ x. x ∷ row_from m (suc i) j t g) (column_flat t g i j (material t (sample_at g i j 0)) refl)
    ∙ ap (λ x. when (material t (sample_at g i j 0)) 1 ∷ x) (row_flat m (suc i) j t g e)

-- The byte by its pixels' weights.
abbrev weigh : ℕ → (ℕ → ℕ) → ℕ
weigh zero f = 0
weigh (suc k) f = 2 ^ k * f 0 + weigh k (λ m. f (suc m))

weigh_none : (k : ℕ) → weigh k (λ m. 0) ≡ 0
weigh_none zero = refl
weigh_none (suc k) = omega (arith, weigh_none k)

weight : (b : Bool) (v : ℕ) → when b v ≡ v * when b 1
weight true v = omega arith
weight false v = omega arith

weigh_marks : (k : ℕ) (bs : List Bool) → row_byte_from k bs ≡ weigh k (λ m. get_or (marks bs) m 0)
unfolding row_byte_from
weigh_marks zero bs = refl
weigh_marks (suc k) [] = omega (arith, weigh_none k)
weigh_marks (suc k) (b ∷ bs) = omega (arith, weight b (2 ^ k), weigh_marks k bs)

byte_marks : (bs : List Bool) → row_byte bs ≡ byte_of (marks bs)
unfolding byte_of
byte_marks bs = weigh_marks 8 bs ∙ omega arith

-- The first pixels of a row.
pub take_row : (m n i j : ℕ) (t : Tape) (g : D.Grid) → take m (row_from n i j t g) ≡ row_from (min m n) i j t g
unfolding row_from
take_row zero n i j t g =
    let e : min 0 n ≡ 0 = omega arith in
    rw e
take_row (suc m) zero i j t g =
    let e : min (suc m) 0 ≡ 0 = omega arith in
    rw e
take_row (suc m) (suc n) i j t g =
    let e : min (suc m) (suc n) ≡ suc (min m n) = omega arith in
    rw e (ap (λ r. column_from (layers g) t g i j ∷ r) (take_row m n (suc i) j t g))

-- The byte of the first k pixels from pixel i on.
pub record Pixels (ws : List ℕ) (g : D.Grid) (i j count byte k : ℕ) : Type 0 where
  pub within : k ≤ count
  pub same : (n : ℕ) → Accepted (tape_in n ws) → byte ≡ row_byte (materials k i j (tape_in n ws) g)

module _ (ws : List ℕ) (g : D.Grid) (i j count : ℕ) where
  pub start_pixels : Pixels ws g i j count 0 0
  unfolding materials row_byte_from
  start_pixels = record { within = omega arith; same = λ n f. refl }

  pub next_pixels : (byte k byte' : ℕ) (on : Bool) → k < count → Pixels ws g i j count byte k
      → Says ws (sample_at g (i + k) j 0) on
      → ((bs : List Bool) → length bs ≡ k → byte ≡ row_byte bs → byte' ≡ row_byte (bs ++ (on ∷ [])))
      → Pixels ws g i j count byte' (k + 1)
  next_pixels byte k byte' on l a s r =
      record {
        within = omega arith;
        same = λ n f.
            let t = tape_in n ws in
            rw (add-one k) (r (materials k i j t g) (length_materials k i j t g) (a.same n f)
            ∙ ap (λ b. row_byte (materials k i j t g ++ (b ∷ []))) (s.material n f)
            ∙ ap row_byte (materials_more k i j t g));
      }

  pub done_pixels : (byte k : ℕ) → layers g ≡ 1 → count ≡ min 8 (g.width - i) → count ≤ k
      → Pixels ws g i j count byte k
      → Byte ws g i j byte
  done_pixels byte k o e l a =
      let c : k ≡ min 8 (g.width - i) = omega (arith, a.within) in
      record {
        byte = λ n f.
            let t = tape_in n ws in
            a.same n f ∙ byte_marks (materials k i j t g)
            ∙ ap byte_of
            (sym (row_flat k i j t g o) ∙ ap (λ m. row_from m i j t g) c ∙ sym (take_row 8 (g.width - i) i j t g));
      }

-- A flat grid's samples, as the code has them, are values.
pub flat_sample : (grid : Grid) (i j : ℕ) → sample_in grid i j grid.zorigin ≡ sample_at (grid_in grid false) i j 0
unfolding sample_at
flat_sample grid i j = refl

pub flat_ok : (grid : Grid) (a : AcceptedGrid grid false) (i j : ℕ) → i < grid.width → j < grid.height
    → SampleOk (sample_in grid i j grid.zorigin)
flat_ok grid a i j l m = record { x = a.x_value i l; y = a.y_value j m; z = a.flat_z }
