-- Slopes of the call: what a drawing with slopes that is not turned down leaves are the full drawing's heights with the
-- count of the walk, and the full tape's slopes at these heights. Each height was set by one region of the walk, and the
-- slopes are those of the tape that was run for it.
use mathlib.Core.Path.{◌≡◌, sym, ap, subst, ◌∙◌}
use mathlib.Core.Bool.{true}
use mathlib.Core.List.{List, map}
use Prim.Native.Nat.{ℕ, suc, ◌+◌, ◌*◌, ◌<◌}
use lib.IntN.{ℤ}
use lib.ListN.{length, get_or}
use borrow.Author.Tests.{eq-eqb}
use Rattle.rules.specs.Tapes.{Tape, read_tape}
use Rattle.rules.specs.Drawings as D
use Rattle.rules.specs.Pictures.{picture}
use Rattle.rules.specs.Slopes.{listed, three_at, slopes_at, slopes_of, VisibleSlopes}
use Rattle.rules.proofs.Runs.{accepted_good}
use Rattle.rules.proofs.Columns.{drawn_most}
use Rattle.rules.proofs.Walk.{same_picture}
use Rattle.rules.proofs.Slopes.{same_slopes_in_walk}
use Rattle.rules.proofs.SlopePixels.{visible_slopes}
use Rattle.reason_rules.specs.Turns.{SlopesSet}
use Rattle.reason_rules.proofs.HeightSet.{slopes_set}
use Rattle.picture.specs.Shapes.{grid_in}
use Rattle.picture.specs.declared.grid.Grid.{Grid}
use Rattle.picture.proofs.Grids.{accepted}
use Rattle.answers.specs.declared.Answer.{Answer}
use Rattle.answers.specs.Lines.{slopes_fault}
use Rattle.promises.specs.Says.{SlopesSay}
use Rattle.answers.proofs.Clear.{slopes_clear}
use Rattle.promises.proofs.DemandThree.{DrawnByTiles, of_walk}

-- The region that set the height k + 1 of the pixel (i, j), and the pixel's three numbers in p', which are the slopes of
-- the tape run for that region.
pub record PixelSet (t : Tape) (g : D.Grid) (p' : List ℤ) (i j k : ℕ) : Type 0 where
  pub region : SlopesSet t g i j k
  pub three : three_at p' (j * g.width + i)
      ≡ listed (slopes_at (D.short_after t (map (D.box_of g) region.set.around)) (D.sample_at g i j k))

-- A done drawing with slopes. `tiles`: demand 3, of the same call. `set`: "slopes from the tape run for the region that
-- set the height equal those from the full tape", of the heights and slopes that the call leaves, with the region that
-- the walk filled when its turn came; `pixels`: the same of every region of the walk that raises the pixel to its
-- height; `regions`: of every sample of a region, visible or not.
pub record DrawnWithSlopes (s : List ℕ) (d : Grid) (o' : List ℕ) (p' : List ℤ) (count : ℕ) : Type 0 where
  pub tiles : DrawnByTiles true s d o' count
  pub full : let g = grid_in d true in p' ≡ slopes_of (read_tape s).tape g (D.drawn (read_tape s).tape g)
  pub set : (i j k : ℕ) → i < d.width → get_or o' (j * d.width + i) 0 ≡ suc k
      → PixelSet (read_tape s).tape (grid_in d true) p' i j k
  pub pixels : let g = grid_in d true in VisibleSlopes (read_tape s).tape g (D.drawn (read_tape s).tape g) p'
  pub regions : let t = (read_tape s).tape in
      let g = grid_in d true in
      (rs : List D.Region) → D.InWalk g rs → (i j k : ℕ) → D.InGrid g i j k → D.Inside (D.last_in D.whole rs) i j k
      → slopes_at (D.short_after t (map (D.box_of g) rs)) (D.sample_at g i j k) ≡ slopes_at t (D.sample_at g i j k)

pub with_slopes : (s : List ℕ) (d : Grid) (o o' : List ℕ) (p p' : List ℤ) (w w' : List ℕ) (r : Answer)
    → SlopesSay s d o o' p p' w w' r → r.number ≡ 0 → DrawnWithSlopes s d o' p' r.count
unfolding picture
with_slopes s d o o' p p' w w' r f e =
    let g = grid_in d true in
    let t = (read_tape s).tape in
    let x = slopes_fault s g (length o) (length p) (length w) in
    let z : x ≡ 0 = sym f.answer.number ∙ e in
    let y = eq-eqb x 0 z in
    let c = (slopes_clear s g (length o) (length p) (length w) z).tiles.drawing in
    let kind = (accepted d true c.grid).kind in
    let good = accepted_good s c.read in
    let h = D.drawn t g in
    let same = same_picture t good g true kind c.grid in
    let here : p' ≡ slopes_of t g h = (f.slopes ∙ rw y) ∙ ap (λ (l : List ℕ). slopes_of t g l) same in
    let left : o' ≡ (D.walked t g).heights = f.pixels ∙ rw y in
    let visible = subst (λ (b : List ℤ). VisibleSlopes t g h b) (sym here)
    (visible_slopes t good g true kind c.grid h (drawn_most t g)) in
    record {
      tiles = of_walk true s d (length o) c o' left r.count (f.answer.count ∙ rw y);
      full = here;
      set = λ i j k l m.
          let n = ap (λ (b : List ℕ). get_or b (j * d.width + i) 0) (sym left) ∙ m in
          let q = slopes_set t good g true kind c.grid i j k l n in
          let u = q.set in
          record {
            region = q;
            three = visible.set_by i j k (ap (λ (b : List ℕ). get_or b (j * d.width + i) 0) (sym same) ∙ n) u.around
                u.setter u.in_walk u.sets.raises;
          };
      pixels = visible;
      regions = λ rs n i j k l m. same_slopes_in_walk t good g true kind c.grid rs n i j k l m;
    }
