-- Rows of samples in lanes: each lane's sign is the sample's material, and the signs make a row's byte.
use mathlib.Core.Path.{◌≡◌, refl, sym, ap, subst, ◌∙◌}
use mathlib.Core.Bool.{Bool, true, false}
use mathlib.Core.List.{List, [], ◌∷◌, ◌++◌}
use lib.IntN.{ℤ}
use lib.Dec.{ltb}
use lib.ListN.{length, get_or, take, replicate, length-append, get_or-eq_default}
use lib.Seq.{take-suc, length-take-le}
use borrow.Author.Tests.{ltb-true, ltb-false}
use Prim.Native.Nat.{ℕ, zero, suc, ◌+◌, ◌-◌, ◌^◌, ◌≤◌, ◌<◌}
use native.Mathlib.Nat.{add-zero}
use native.Mathlib.Numerals.{add-one}
use native.Mathlib.Omega.{arith}
use Rattle.rules.specs.Values.{pick, when, is_neg}
use Rattle.rules.specs.Tapes.{Tape, material, value_at}
use Rattle.rules.specs.Drawings as D
use Rattle.rules.specs.Accepted.{Accepted}
use Rattle.lanes.specs.Lanes.{lane_count, lane, All}
use Rattle.code.specs.Words.{tape_in}
use Rattle.sweep.specs.Chunks.{chunk_row}
use Rattle.sweep.specs.Sweeps.{Swept}
use Rattle.picture.specs.Bits.{row_byte_from, row_byte}
use Rattle.picture.specs.Shapes.{grid_in}
use Rattle.picture.specs.declared.grid.Grid.{Grid}
use Rattle.walk.specs.Cells.{CellOk}
use Rattle.walk.specs.declared.cell.Cell.{Cell}
use Rattle.axis_lanes.specs.Axes.{LaneSamples}
use Rattle.flat_samples.specs.Rows.{materials, Splats, SignsAre, SignByte, RowsRun}
use Rattle.flat_samples.proofs.SampleRows.{materials_length}
use Rattle.flat_samples.proofs.SampleLaws.{sample_is, sample_ok_lem}

-- Samples past the last one, all without material, leave a row's byte as it is.
none_on : (n m : ℕ) → row_byte_from n (replicate m false) ≡ 0
unfolding row_byte_from
none_on zero m = refl
none_on (suc n) zero = refl
none_on (suc n) (suc m) = omega (arith, none_on n m)

row_wide : (n m : ℕ) (bs : List Bool) → row_byte_from n (bs ++ replicate m false) ≡ row_byte_from n bs
unfolding row_byte_from
row_wide n m [] = none_on n m ∙ sym (none_on n 0)
row_wide zero m (b ∷ bs) = refl
row_wide (suc n) m (b ∷ bs) = ap (λ x. when b (2 ^ n) + x) (row_wide n m bs)

row_first : (n : ℕ) (bs : List Bool) → row_byte_from n (take n bs) ≡ row_byte_from n bs
unfolding row_byte_from
row_first zero bs = refl
row_first (suc n) [] = refl
row_first (suc n) (b ∷ bs) = ap (λ x. when b (2 ^ n) + x) (row_first n bs)

abbrev wide : List Bool → List Bool
wide bs = bs ++ replicate 8 false

wide_at : (bs : List Bool) (m k : ℕ) → get_or (bs ++ replicate m false) k false ≡ get_or bs k false
wide_at [] zero k = refl
wide_at [] (suc m) zero = refl
wide_at [] (suc m) (suc k) = wide_at [] m k
wide_at (b ∷ bs) m zero = refl
wide_at (b ∷ bs) m (suc k) = wide_at bs m k

-- The byte of the first k of eight lanes, of which n have a sample.
pub record SignsSoFar (n : ℕ) (vs : List ℤ) (b k : ℕ) : Type 0 where
  pub within : k ≤ 8
  pub byte : (bs : List Bool) → SignsAre n vs bs → b ≡ row_byte (take k (wide bs))

pub no_signs : (n : ℕ) (vs : List ℤ) → SignsSoFar n vs 0 0
unfolding row_byte_from
no_signs n vs = record { within = omega arith; byte = λ bs s. refl }

lane_bit : {n : ℕ} {vs : List ℤ} (k : ℕ) {bs : List Bool} → SignsAre n vs bs
    → pick (ltb k n) (is_neg (lane vs k)) false ≡ get_or bs k false
lane_bit {n} {vs} k {bs} s = by (ltb k n) refl
  where
    by : (t : Bool) → ltb k n ≡ t → pick t (is_neg (lane vs k)) false ≡ get_or bs k false
    by true e = s.here k (ltb-true k n e)
    by false e = sym (get_or-eq_default bs false (omega (arith, s.count, ltb-false k n e)))

module _ {n : ℕ} {vs : List ℤ} {b k : ℕ} (i : SignsSoFar n vs b k) where
  pub one_sign : k < 8 → (on : Bool) (b' : ℕ) → on ≡ pick (ltb k n) (is_neg (lane vs k)) false
      → ((bs : List Bool) → length bs ≡ k → b ≡ row_byte bs → b' ≡ row_byte (bs ++ (on ∷ [])))
      → SignsSoFar n vs b' (k + 1)
  one_sign h on b' e f = record { within = omega arith; byte = made }
    where
      made : (bs : List Bool) → SignsAre n vs bs → b' ≡ row_byte (take (k + 1) (wide bs))
      made bs s =
          let l : k < length (wide bs) = omega (arith, length-append bs (replicate 8 false)) in
          f (take k (wide bs)) (length-take-le k (wide bs) (omega arith)) (i.byte bs s)
          ∙ ap (λ x. row_byte (take k (wide bs) ++ (x ∷ []))) (e ∙ lane_bit k s ∙ sym (wide_at bs 8 k))
          ∙ ap row_byte (sym (take-suc (wide bs) k false l))
          ∙ ap (λ m. row_byte (take m (wide bs))) (sym (add-one k))

  pub all_signs : 8 ≤ k → SignByte n vs b
  all_signs h =
      let e : k ≡ 8 = omega (arith, i.within) in
      record {
        byte = λ bs s.
            i.byte bs s ∙ ap (λ m. row_byte (take m (wide bs))) e ∙ row_first 8 (wide bs) ∙ row_wide 8 8 bs;
      }

materials_at : (t : Tape) (g : D.Grid) (y m x k : ℕ) → k < m
    → get_or (materials m t g x y) k false ≡ material t (D.sample_at g (x + k) y 0)
unfolding materials
materials_at t g y zero x k h = absurd (omega arith)
materials_at t g y (suc m) x zero h = rw add-zero
materials_at t g y (suc m) x (suc k) h =
    let e : suc x + k ≡ x + suc k = omega arith in
    materials_at t g y m (suc x) k (omega arith) ∙ ap (λ i. material t (D.sample_at g i y 0)) e

-- What a sweep over a region's rows gives, a row a chunk.
module _ {grid : Grid} {p : Cell} (ok : CellOk 1 grid p) (eight : p.side ≡ 8)
    (fault : D.grid_fault false (grid_in grid false) ≡ 0) where
  module _ {ws : List ℕ} {xs vs us : List ℤ} {ys zs ss : List (List ℤ)} {r : ℕ}
      (ex : LaneSamples grid.xorigin grid.xstep p.x p.xend xs)
      (ey : LaneSamples grid.yorigin grid.ystep p.y p.yend vs) (sy : Splats vs ys)
      (ez : All grid.zorigin us) (sz : Splats us zs)
      (swept : Swept ws xs ys zs (p.yend - p.y) ss r) where
    module _ (n c : ℕ) (a : Accepted (tape_in n ws)) (l : p.y + c < p.yend) where
      lane_sign : (k : ℕ) → k < p.xend - p.x → is_neg (lane (chunk_row ss r c) k)
          ≡ get_or (materials (p.xend - p.x) (tape_in n ws) (grid_in grid false) p.x (p.y + c)) k false
      unfolding material
      lane_sign k h =
          let w : k < lane_count = omega (arith, ok.xs, eight) in
          let v : c < lane_count = omega (arith, ok.ys, eight) in
          let x = ex.here k w (omega (arith, ok.xs)) in
          let y = sy.at c k v w ∙ ey.here c v l in
          let z = sz.at c k v w ∙ ez.at c v in
          let s = sample_is grid (p.x + k) (p.y + c) x y z in
          let o = sample_ok_lem grid (p.x + k) (p.y + c) x y z fault
          (record { x_in = omega (arith, ok.xs); y_in = omega (arith, ok.ys, l); z_in = omega arith }) in
          ap is_neg (swept.values n c k a (omega (arith, l)) w o ∙ ap (value_at (tape_in n ws)) s)
          ∙ sym (materials_at (tape_in n ws) (grid_in grid false) (p.y + c) (p.xend - p.x) p.x k h)

      row_signs : SignsAre (p.xend - p.x) (chunk_row ss r c)
          (materials (p.xend - p.x) (tape_in n ws) (grid_in grid false) p.x (p.y + c))
      row_signs =
          record {
            count = materials_length (tape_in n ws) (grid_in grid false) (p.y + c) (p.xend - p.x) p.x;
            here = lane_sign;
          }

    pub rows_run : RowsRun ws grid p ss r
    rows_run = record { size = swept.size; within = swept.within; signs = row_signs }

-- The row of index y.
pub signs_at : {ws : List ℕ} {grid : Grid} {p : Cell} {ss : List (List ℤ)} {r : ℕ} → RowsRun ws grid p ss r → (y : ℕ)
    → p.y ≤ y → y < p.yend → (n : ℕ) → Accepted (tape_in n ws)
    → SignsAre (p.xend - p.x) (chunk_row ss r (y - p.y))
    (materials (p.xend - p.x) (tape_in n ws) (grid_in grid false) p.x y)
signs_at {ws} {grid} {p} {ss} {r} run y h l n a =
    let e : p.y + (y - p.y) ≡ y = omega arith in
    subst
    (λ v. SignsAre (p.xend - p.x) (chunk_row ss r (y - p.y))
    (materials (p.xend - p.x) (tape_in n ws) (grid_in grid false) p.x v)) e
    (run.signs n (y - p.y) a (omega arith))
