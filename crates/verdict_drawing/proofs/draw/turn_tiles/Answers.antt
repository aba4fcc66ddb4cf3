-- From a cleared picture.
use mathlib.Core.Path.{refl, ap, ◌∙◌}
use lib.ListN.{replicate}
use Rattle.flat_tiles.proofs.WalkLaws.{lent_again}
use Rattle.verdict_drawing.proofs.Laying.{turn_drawn}
use Rattle.verdict_drawing.proofs.draw.turn_tiles.Goals as goal

pub rectangle_tiles-requires : goal.rectangle_tiles-requires
rectangle_tiles-requires c =
    record {
      lent = lent_again c.requires.lent c.clear.auto.picture refl refl refl;
      rectangle = c.requires.rectangle;
      passes = c.requires.passes;
      clean = c.clear.ensures ∙ ap (λ n. replicate n 0) c.requires.lent.ready.size;
    }

pub returns : goal.returns
returns c =
    turn_drawn c.rectangle_tiles.ensures (c.clear.ensures ∙ ap (λ n. replicate n 0) c.requires.lent.ready.size)
    (λ j. (c.slice_known-8-1.given j).fits)
