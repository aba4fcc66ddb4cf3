-- In arrays as long as any tape needs.
use borrow.Author.Rules.{rules}
use Rattle.order_drawing.proofs.tile.Goals as goal

pub tile_words-requires : goal.tile_words-requires
tile_words-requires c = record {
  draws_in_order = c.requires;
  words_len = search rules;
  first_len = search rules;
  second_len = search rules;
  third_len = search rules;
}
