-- Drawn apart, and laid.
use mathlib.Core.Path.{refl, ◌∙◌}
use Rattle.flat_tiles.proofs.WalkLaws.{lent_again}
use Rattle.verdict_drawing.proofs.Laying.{laid_over}
use Rattle.verdict_drawing.proofs.draw.draw_over.Goals as goal

pub turn_tiles-count-requires : goal.turn_tiles-count-requires
turn_tiles-count-requires c =
    record {
      lent = lent_again c.requires.for_turn.lent c.requires.apart_len refl refl refl;
      rectangle = c.requires.for_turn.rectangle;
      passes = c.requires.for_turn.passes;
    }

pub lay-requires : goal.lay-requires
lay-requires c =
    let r = c.requires.for_turn.lent.ready in
    record {
      in_grid = record { fault = r.fault; ok = c.requires.for_turn.rectangle };
      picture_len = r.size;
      drawn_len = c.turn_tiles-count.auto.picture ∙ c.requires.apart_len;
    }

pub returns : goal.returns
returns c =
    laid_over c.turn_tiles-count.ensures c.lay.ensures
