-- A row of regions of side 1: which samples have material, and what visiting them marks and counts.
use mathlib.Core.Path.{◌≡◌, refl, sym, ap, subst, ◌∙◌}
use mathlib.Core.Bool.{Bool, true, false}
use mathlib.Core.List.{List, [], ◌∷◌, ◌++◌}
use Prim.Native.Nat.{ℕ, zero, suc, ◌+◌, ◌-◌, ◌*◌, ◌/◌, ◌%◌, ◌≤◌, ◌<◌}
use native.Mathlib.Nat.{add-zero, sub_self, add-sub_cancel_left, mul-le-mul_right}
use native.Mathlib.Omega.{arith}
use lib.ListN.{length}
use Rattle.rules.specs.Values.{pick}
use Rattle.rules.specs.Tapes.{Tape, material}
use Rattle.rules.specs.Drawings as D
use Rattle.rules.specs.Pictures.{stride}
use Rattle.rules.proofs.Visit.{visit_sample}
use Rattle.rules.specs.Accepted.{Accepted}
use Rattle.code.specs.Words.{tape_in}
use Rattle.code.proofs.WordTapes.{length_clauses}
use Rattle.picture.specs.Bits.{row_byte_from, row_byte, mark_row, SpareZero, StoredRow, Shows}
use Rattle.picture.specs.Parts.{Blank}
use Rattle.picture.specs.Shapes.{grid_in}
use Rattle.picture.specs.declared.grid.Grid.{Grid}
use Rattle.picture.proofs.BitShows.{row_spare, stored_shows}
use Rattle.walk.specs.Cells.{CellOk}
use Rattle.walk.specs.Walks.{Folds}
use Rattle.walk.specs.declared.cell.Cell.{Cell}
use Rattle.walk.proofs.Along.{part_one, row_left, row_start, row_step, row_end}
use Rattle.walk.proofs.Draws.{draws_same}
use Rattle.flat_samples.specs.Rows.{materials}

abbrev flat_in : Grid → D.Grid
flat_in grid = grid_in grid false

-- Samples visited in turn.
abbrev visits : Grid → List D.Region → Tape → D.State → D.State
visits grid qs t = D.fold (λ q s. D.visit [] t (flat_in grid) q s) qs

module _ (t : Tape) (g : D.Grid) (y : ℕ) where
  pub materials_length : (m x : ℕ) → length (materials m t g x y) ≡ m
  unfolding materials
  materials_length zero x = refl
  materials_length (suc m) x = ap suc (materials_length m (suc x))

  pub materials_more : (m x : ℕ)
      → materials (suc m) t g x y ≡ materials m t g x y ++ (material t (D.sample_at g (x + m) y 0) ∷ [])
  unfolding materials
  materials_more zero x = rw add-zero
  materials_more (suc m) x =
      ap (λ l. material t (D.sample_at g x y 0) ∷ l)
      (materials_more m (suc x)
      ∙ ap (λ v. materials m t g (suc x) y ++ (material t (D.sample_at g v y 0) ∷ [])) (omega arith))

  -- The samples before i with sample i.
  pub materials_next : (x i : ℕ) (on : Bool) → x ≤ i → material t (D.sample_at g i y 0) ≡ on
      → materials (i - x) t g x y ++ (on ∷ []) ≡ materials (i + 1 - x) t g x y
  materials_next x i on h e =
      let k : x + (i - x) ≡ i = omega arith in
      let l : suc (i - x) ≡ i + 1 - x = omega arith in
      ap (λ b. materials (i - x) t g x y ++ (b ∷ [])) (sym e)
      ∙ ap (λ v. materials (i - x) t g x y ++ (material t (D.sample_at g v y 0) ∷ [])) (sym k)
      ∙ sym (materials_more (i - x) x)
      ∙ ap (λ v. materials v t g x y) l

  pub no_samples : (x : ℕ) → 0 ≡ row_byte (materials (x - x) t g x y)
  unfolding materials row_byte_from
  no_samples x = rw sub_self refl

-- The state after one sample, and after a row of them.
abbrev sampled : ℕ → Tape → ℕ → List Bool → D.State → D.State
sampled m t p bs s = D.state (mark_row p bs s.heights) (s.clauses + m * length t.clauses)

module _ (t : Tape) (grid : Grid) (y : ℕ) (l : y < grid.height) where
  filled_sample : (x : ℕ) → x < grid.width → (h : List ℕ)
      → D.filled (flat_in grid) (D.region x y 0 1) h ≡ D.raise_row 1 (y * grid.width + x) 1 h
  unfolding D.filled D.raise_rows
  filled_sample x k h =
      rw (part_one grid.width x k, part_one grid.height y l, add-sub_cancel_left x 1, add-sub_cancel_left y 1)

  one_sample : (x : ℕ) → x < grid.width → (s : D.State) → D.visit [] t (flat_in grid) (D.region x y 0 1) s
      ≡ D.state
      (pick (material t (D.sample_at (flat_in grid) x y 0))
      (D.raise_row 1 (y * grid.width + x) 1 s.heights) s.heights)
      (s.clauses + length t.clauses)
  unfolding D.hidden D.on_sample
  one_sample x k s =
      visit_sample t (flat_in grid) (D.region x y 0 1) s refl
      ∙ by_case (material t (D.sample_at (flat_in grid) x y 0))
    where
      by_case : (b : Bool) → pick b
          (D.fill_in (flat_in grid) (D.region x y 0 1) (D.counted t s)) (D.counted t s)
          ≡ D.state (pick b (D.raise_row 1 (y * grid.width + x) 1 s.heights) s.heights)
          (s.clauses + length t.clauses)
      by_case true = ap (λ h. D.state h (s.clauses + length t.clauses)) (filled_sample x k s.heights)
      by_case false = refl

  pub row_sampled : (m x px : ℕ) → px ≡ x + m → px ≤ grid.width → (s : D.State)
      → visits grid (row_left x y 0 1 px) t s
      ≡ sampled m t (y * grid.width + x) (materials m t (flat_in grid) x y) s
  unfolding D.fold materials mark_row
  row_sampled zero x px e k s =
      rw (row_end y 0 1 px (omega arith) x (omega arith)) (ap (λ v. D.state s.heights v) (omega arith))
  row_sampled (suc m) x px e k s =
      let b = material t (D.sample_at (flat_in grid) x y 0) in
      let p = y * grid.width + x in
      let h = pick b (D.raise_row 1 p 1 s.heights) s.heights in
      let n = length t.clauses in
      let u : x + 1 ≡ suc x = omega arith in
      let v : y * grid.width + suc x ≡ suc p = omega arith in
      let w : s.clauses + n + m * n ≡ s.clauses + suc m * n = omega arith in
      ap (λ qs. visits grid qs t s) (row_step y 0 1 px (omega arith) x (omega arith))
      ∙ ap (λ z. visits grid (row_left (x + 1) y 0 1 px) t z) (one_sample x (omega arith) s)
      ∙ ap (λ i. visits grid (row_left i y 0 1 px) t (D.state h (s.clauses + n))) u
      ∙ row_sampled m (suc x) px (omega arith) k (D.state h (s.clauses + n))
      ∙ ap (λ q. D.state (mark_row q (materials m t (flat_in grid) (suc x) y) h) (s.clauses + n + m * n)) v
      ∙ ap (λ c. D.state (mark_row (suc p) (materials m t (flat_in grid) (suc x) y) h) c) w

-- The byte of a cell's samples in a row has its spare bits 0: the last of them is the row's last, or before it.
pub samples_spare : {grid : Grid} {c : Cell} → CellOk 1 grid c → (t : Tape) (y byte : ℕ)
    → byte ≡ row_byte (materials (c.xend - c.x) t (flat_in grid) c.x y) → SpareZero grid.width c.x byte
samples_spare {grid} {c} k t y byte e =
    let m = c.xend - c.x in
    row_spare grid.width c.x byte (materials m t (flat_in grid) c.x y)
    (omega (arith, materials_length t (flat_in grid) y m c.x, k.xs)) e

-- What is said of the stored byte is said of whatever it equals.
pub stored_as : {w x y u v : ℕ} {b b' : List ℕ} → u ≡ v → StoredRow w x y u b b' → StoredRow w x y v b b'
stored_as {w} {x} {y} {b = b} {b' = b'} e r = subst (λ k. StoredRow w x y k b b') e r

-- A row of a region of side 8, by its byte and what storing the byte does.
module _ {grid : Grid} {c : Cell} (k : CellOk 1 grid c) (eight : c.side ≡ 8) where
  row_wide : c.xend - c.x ≤ 8
  row_wide = omega (arith, k.xs, eight)

  pub row_bound : (n : ℕ) → (c.xend - c.x) * n ≤ 8 * n
  row_bound n = mul-le-mul_right n row_wide

  -- Where there was nothing, the byte's samples are marked.
  pub row_stored : (y byte : ℕ) {b b' : List ℕ} → c.x % 8 ≡ 0
      → Blank grid.width c.x (c.x + 8) y (y + 1) b → StoredRow grid.width c.x y byte b b'
      → (n : ℕ) (h : List ℕ) (bs : List Bool) → length bs ≤ 8 → c.x + length bs ≤ grid.width → byte ≡ row_byte bs
      → Shows grid.width n b h → Shows grid.width n b' (mark_row (y * grid.width + c.x) bs h)
  row_stored y byte {b} {b'} d none r n h bs l m e s =
      let u : c.x / 8 < stride grid.width = omega (arith, k.xs) in
      stored_shows grid.width n c.x y byte bs b b' h d l m e
      (none.bytes y (c.x / 8) u (omega (arith, d))) r s

  pub row_folds : (ws : List ℕ) (y byte : ℕ) {b b' : List ℕ} → y < c.yend
      → ((n : ℕ) → Accepted (tape_in n ws)
      → byte ≡ row_byte (materials (c.xend - c.x) (tape_in n ws) (flat_in grid) c.x y))
      → ((n : ℕ) (h : List ℕ) (bs : List Bool) → length bs ≤ 8 → c.x + length bs ≤ grid.width → byte ≡ row_byte bs
      → Shows grid.width n b h → Shows grid.width n b' (mark_row (y * grid.width + c.x) bs h))
      → Folds false 8 ws grid [] (D.along_x 8 c.x y 0 1 c.xend) b b' ((c.xend - c.x) * length ws)
  row_folds ws y byte l e f =
      record {
        draws = λ n a.
            let t = tape_in n ws in
            let m = c.xend - c.x in
            let bs = materials m t (flat_in grid) c.x y in
            let w = materials_length t (flat_in grid) y m c.x in
            draws_same {f = sampled m t (y * grid.width + c.x) bs}
            (λ s h.
            ap (λ qs. visits grid qs t s)
            (row_start y 0 1 c.xend (omega arith) 8 c.x (omega (arith, k.xs, eight)))
            ∙ row_sampled t grid y (omega (arith, l, k.ys)) m c.x c.xend (omega (arith, k.xs))
            k.xs.in_grid s)
            (record {
              shown = λ s h.
                  f grid.height s.heights bs (omega (arith, w, row_wide)) (omega (arith, w, k.xs)) (e n a) h;
              count = λ s h. ap (λ v. s.clauses + m * v) (length_clauses ws);
            });
        bound = row_bound (length ws);
      }
