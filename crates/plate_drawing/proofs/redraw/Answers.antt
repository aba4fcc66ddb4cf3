-- The tiles that the part touches, and in them the other places.
use Rattle.std.proofs.Common.{refl, ◌∙◌, false}
use Rattle.picture.specs.Shapes.{grid_in}
use Rattle.picture.proofs.PictureSizes.{flat_size_lem}
use Rattle.plate_drawing.proofs.Redrawn.{redrawn_all}
use Rattle.plate_drawing.proofs.redraw.Goals as goal

pub begin-requires-clause-draws : goal.begin-requires-clause-draws
begin-requires-clause-draws c =
    let k = c.requires.change in
    record {
      read = k.read;
      grid = k.ready.fault;
      size = k.ready.size ∙ flat_size_lem false (grid_in c.args.grid false) refl;
    }

pub returns : goal.returns
returns c =
    let a = c.args in
    let f = c.requires.change in
    redrawn_all a.place a.tape.now a.change a.grid a.memory.now f.others.place f.others.size
    f.read f.ready (c.join_others.auto.picture ∙ c.begin.auto.picture)
    c.begin.ensures.began c.join_others.ensures.joins
