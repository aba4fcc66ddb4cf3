-- The byte of at most 8 pixels, one pixel a turn.
use borrow.Author.Rules.{rules}
use native.Mathlib.Omega.{arith}
use mathlib.Core.Path.{◌≡◌, refl, sym, ap, ◌∙◌, subst}
use mathlib.Core.Bool.{false}
use Prim.Native.Nat.{◌+◌}
use mir.Syntax.{w32}
use mir.Facts.{to_z-of_z}
use Rattle.rules.specs.Drawings.{sample_at}
use Rattle.rules.proofs.Words.{read}
use Rattle.code.specs.Runs.{SampleOk}
use Rattle.picture.specs.Shapes.{grid_in}
use Rattle.picture.proofs.Grids.{Accepted, accepted}
use Rattle.picture.proofs.GridWords.{InWords}
use Rattle.full_drawing.specs.Full.{sample_in, Says}
use Rattle.full_drawing.proofs.RowBytes.{start_pixels, next_pixels, done_pixels, flat_sample, flat_ok}
use Rattle.full_drawing.proofs.flat.row_byte.Goals as goal
use Rattle.full_drawing.proofs.flat.row_byte.Goals.{After-has_material-on, Start}

pub loop-k-init : goal.loop-k-init
loop-k-init c = start_pixels _ _ _ _ _

grid-ok : (c : Start) → Accepted c.args.grid false
grid-ok c = accepted c.args.grid false c.requires.drawable.accepted

z_is : (c : Start)
    → let g = c.args.grid in read w32 g.zorigin ≡ g.zorigin
z_is c =
    let t : InWords c.args.grid = search rules in
    to_z-of_z t.zorigin

pub has_material-on-requires : goal.has_material-on-requires
has_material-on-requires c =
    let a = c.args in
    let i = a.i + c.loop-k.k in record {
      runnable = c.requires.drawable.runnable;
      sample_ok = subst (λ z. SampleOk (sample_in a.grid i a.j z)) (sym (z_is (goal.at.has_material-on-requires c).Start))
          (flat_ok a.grid (grid-ok (goal.at.has_material-on-requires c).Start) i a.j (omega (arith, c.min-count.ensures)) c.requires.i_lt_width.1);
    }

-- What the call says of the pixel's sample.
said : (c : After-has_material-on)
    → let a = c.args in
    Says a.code.now (sample_at (grid_in a.grid false) (a.i + c.loop-k.k) a.j 0) c.has_material-on.result
said c =
    let a = c.args in
    let i = a.i + c.loop-k.k in
    subst (λ s. Says a.code.now s c.has_material-on.result)
    (ap (sample_in a.grid i a.j) (z_is (goal.at.After-has_material-on c).Start) ∙ flat_sample a.grid i a.j) c.has_material-on.ensures

pub loop-k-preserved : goal.loop-k-preserved
loop-k-preserved c =
    let a = c.args in
    next_pixels a.code.now (grid_in a.grid false) a.i a.j _ c.loop-k.byte c.loop-k.k
    c.with_pixel-byte.result
    c.has_material-on.result c.loop-k-test.true c.loop-k.invariant (said (goal.at.loop-k-preserved c).After-has_material-on) c.with_pixel-byte.ensures

pub returns : goal.returns
returns c =
    let a = c.args in
    done_pixels a.code.now (grid_in a.grid false) a.i a.j _ c.loop-k.byte c.loop-k.k refl
    (omega (arith, c.min-count.ensures)) c.loop-k-test.false c.loop-k.invariant
