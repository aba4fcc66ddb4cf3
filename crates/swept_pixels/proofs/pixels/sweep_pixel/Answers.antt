-- The pixel's sample, its first cover, and the store.
use mathlib.Core.Path.{◌≡◌, sym, subst, ◌∙◌}
use mathlib.Core.Bool.{false}
use native.Mathlib.Omega.{arith}
use lib.ListN.{get_or}
use mir.Syntax.{w32}
use mir.Facts.{to_z-of_z}
use Rattle.rules.specs.Values.{Sample}
use Rattle.rules.specs.Drawings.{sample_at}
use Rattle.rules.proofs.Words.{read, back}
use Rattle.picture.specs.Shapes.{grid_in}
use Rattle.picture.proofs.Grids.{accepted}
use Rattle.picture.proofs.GridWords.{InWords, at_read}
use Rattle.walk.proofs.LookLaws.{sound_runs}
use Rattle.swept_rules.specs.Swept.{offsets_of}
use Rattle.swept_rules.specs.Keeping.{position_at}
use Rattle.swept_path.specs.Asked.{ForSample}
use Rattle.swept_pixels.specs.Searches.{Found}
use Rattle.swept_pixels.proofs.PutLaws.{draws_of}
use Rattle.swept_pixels.proofs.SearchLaws.{sample_same, sample_moves, found_constant}
use borrow.Author.Rules.{rules}
use Rattle.swept_pixels.proofs.pixels.sweep_pixel.Goals as goal
use Rattle.swept_pixels.proofs.pixels.sweep_pixel.Goals.{After-sample-2, Start}

told : (c : Start) → InWords c.args.grid
told c = search rules

-- The sample that is made.
abbrev given : After-sample-2 → Sample
given c =
    record {
      x = read w32 c.sample.result;
      y = read w32 c.sample-2.result;
      z = read w32 c.args.grid.zorigin;
    }

made : (c : After-sample-2)
    → (let a = c.args in given c ≡ sample_at (grid_in a.grid false) a.pixel.x a.pixel.y 0)
made c =
    let a = c.args in
    let f = (let inner : InWords c.args.grid = search rules in inner) in
    let u = c.sample in
    let v = c.sample-2 in
    sample_same a.grid a.pixel.x a.pixel.y (given c)
    (back w32 u.result u.type_inv (u.ensures ∙ at_read _ _ _ f.xorigin f.xstep))
    (back w32 v.result v.type_inv (v.ensures ∙ at_read _ _ _ f.yorigin f.ystep))
    (to_z-of_z f.zorigin)

pub sample-requires : goal.sample-requires
sample-requires c =
    let f = told (goal.at.sample-requires c).Start in
    let a = c.args in
    let p = c.requires in
    rw (at_read a.grid.xorigin a.grid.xstep a.pixel.x f.xorigin f.xstep)
    ((accepted a.grid false p.on.fault).x_value a.pixel.x (omega (arith, p.cell.xs)))

pub sample-requires-2 : goal.sample-requires-2
sample-requires-2 c =
    let f = told (goal.at.sample-requires-2 c).Start in
    let a = c.args in
    let p = c.requires in
    rw (at_read a.grid.yorigin a.grid.ystep a.pixel.y f.yorigin f.ystep)
    ((accepted a.grid false p.on.fault).y_value a.pixel.y (omega (arith, p.cell.ys)))

pub first_cover-v-requires : goal.first_cover-v-requires
first_cover-v-requires c =
    let a = c.args in
    let p = c.requires in
    record {
      runs = sound_runs p.sound;
      few = p.path.few;
      in_path = p.path.in_path;
      moves = λ i l.
          subst
          (λ (s : Sample). ForSample s (position_at (offsets_of a.path.now) (get_or a.list.now i 0)))
          (sym (made (goal.at.first_cover-v-requires c).After-sample-2))
          (sample_moves a.grid a.pixel.x a.pixel.y p.on.fault p.path (omega (arith, p.cell.xs))
          (omega (arith, p.cell.ys)) i l);
      lent = p.lent;
    }

pub put-requires : goal.put-requires
put-requires c =
    let p = c.requires in
    record { on = p.on; cell = p.cell; one = p.one }

pub returns : goal.returns
returns c = let a = c.args in
    let p = c.requires in record {
      draws = draws_of
          (found_constant p.cell p.one
          (subst (λ (s : Sample). Found a.code.now s (offsets_of a.path.now) a.list.now c.first_cover-v.result)
          (made (goal.at.returns c).After-sample-2) c.first_cover-v.ensures.found))
          c.put.ensures;
      lent = c.first_cover-v.ensures.lent;
    }
