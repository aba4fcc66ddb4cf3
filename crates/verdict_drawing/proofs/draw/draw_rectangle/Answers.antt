-- With the grid as the table has it.
use mathlib.Core.Path.{refl}
use Rattle.verdict_drawing.proofs.TapeTurn.{same_asked, same_drawn}
use Rattle.verdict_drawing.proofs.draw.draw_rectangle.Goals as goal

pub draw_words-requires : goal.draw_words-requires
draw_words-requires c = record {
  for_rectangle = same_asked c.flat_grid-flat.ensures c.requires;
  words_len = refl;
  first_len = refl;
  second_len = refl;
}

pub returns : goal.returns
returns c =
    same_drawn c.flat_grid-flat.ensures c.draw_words.ensures
