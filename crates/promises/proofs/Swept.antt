-- The swept picture of the call: at every pixel of a done one stands the full evaluation at all positions.
use mathlib.Core.Path.{◌≡◌, sym, ap, ◌∙◌}
use mathlib.Core.Bool.{false}
use mathlib.Core.List.{List}
use lib.IntN.{ℤ}
use Prim.Native.Nat.{ℕ, suc, ◌+◌, ◌*◌, ◌<◌}
use lib.Dec.{eqb}
use lib.ListN.{length, get_or}
use Rattle.rules.specs.Values.{pick}
use Rattle.rules.specs.Tapes.{material, read_tape}
use Rattle.rules.specs.Drawings.{sample_at}
use Rattle.swept_rules.specs.Swept.{offsets_of, moved_sample, swept_at, swept}
use Rattle.swept_rules.specs.Keeping.{position_at}
use Rattle.swept_rules.proofs.Pictures.{swept_at_lem}
use Rattle.swept_rules.proofs.Calls.{First, Uncovered, first_cover_lem, no_cover, covered_by, uncovered_by}
use Rattle.picture.specs.Shapes.{grid_in}
use Rattle.picture.specs.declared.grid.Grid.{Grid}
use Rattle.answers.specs.declared.Answer.{Answer}
use Rattle.promises.specs.Says.{SweptSays}

module _ (s : List ℕ) (d : Grid) (zs : List ℤ) (o o' w w' : List ℕ) (r : Answer) (u : SweptSays s d zs o o' w w' r)
    (e : r.number ≡ 0) (i j : ℕ) (l : i < d.width) (m : j < d.height) where
  -- "each pixel must equal the full evaluation at all positions".
  pub pixel_swept : get_or o' (j * d.width + i) 0
      ≡ swept_at (read_tape s).tape (offsets_of zs) (sample_at (grid_in d false) i j 0)
  pixel_swept =
      let g = grid_in d false in
      let p = swept (read_tape s).tape (offsets_of zs) g in
      ap (λ v. get_or v (j * g.width + i) 0)
      (u.pixels ∙ ap (λ n. pick (eqb n 0) p o) (sym u.answer.number ∙ e))
      ∙ swept_at_lem (read_tape s).tape (offsets_of zs) g i j l m

  -- "1 + the number of the first position that covers it, counted from 0, or 0".
  pub pixel_first : (k : ℕ) → First (read_tape s).tape (offsets_of zs) (sample_at (grid_in d false) i j 0) k
      → get_or o' (j * d.width + i) 0 ≡ suc k
  pixel_first k f =
      pixel_swept ∙ first_cover_lem (read_tape s).tape (offsets_of zs) (sample_at (grid_in d false) i j 0) k f

  pub pixel_none : ((k : ℕ) → k < length (offsets_of zs)
      → material (read_tape s).tape (moved_sample (position_at (offsets_of zs) k) (sample_at (grid_in d false) i j 0)) ≡ false)
      → get_or o' (j * d.width + i) 0 ≡ 0
  pixel_none f = pixel_swept ∙ no_cover (read_tape s).tape (offsets_of zs) (sample_at (grid_in d false) i j 0) f

  -- And from the number back: one above 0 is that of the first position that covers the pixel; 0 says that none does.
  pub pixel_covered : (k : ℕ) → get_or o' (j * d.width + i) 0 ≡ suc k
      → First (read_tape s).tape (offsets_of zs) (sample_at (grid_in d false) i j 0) k
  pixel_covered k h =
      covered_by (read_tape s).tape (offsets_of zs) (sample_at (grid_in d false) i j 0) k (sym pixel_swept ∙ h)

  pub pixel_uncovered : get_or o' (j * d.width + i) 0 ≡ 0
      → Uncovered (read_tape s).tape (offsets_of zs) (sample_at (grid_in d false) i j 0)
  pixel_uncovered h =
      uncovered_by (read_tape s).tape (offsets_of zs) (sample_at (grid_in d false) i j 0) (sym pixel_swept ∙ h)
