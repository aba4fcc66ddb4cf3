-- The tape's words, and what they draw.
use mathlib.Core.Path.{◌≡◌, refl, sym, ◌∙◌}
use lib.ListN.{length}
use lib.Seq.{length-take-le}
use Rattle.rules.specs.Tapes.{clause_limit}
use Rattle.drawings.proofs.TapeWords.{unpackable, words_room}
use Rattle.verdict_drawing.proofs.TapeTurn.{as_drawing, words_turn, tape_drawn}
use Rattle.verdict_drawing.proofs.draw.draw_words.Goals.{After-unpack_words-n}
use Rattle.verdict_drawing.proofs.draw.draw_words.Goals as goal

long : (c : After-unpack_words-n) → length c.unpack_words-n.new.code ≡ clause_limit
long c = c.unpack_words-n.auto.code ∙ c.requires.words_len

pub unpack_words-n-requires : goal.unpack_words-n-requires
unpack_words-n-requires c = unpackable (as_drawing c.requires.for_rectangle) _ c.requires.words_len

pub slice_bounds-draw_apart-end : goal.slice_bounds-draw_apart-end
slice_bounds-draw_apart-end c =
    let long : length c.unpack_words-n.new.code ≡ clause_limit = c.unpack_words-n.auto.code ∙ c.requires.words_len in
    words_room (as_drawing c.requires.for_rectangle) c.unpack_words-n.ensures long

pub slice_bounds-draw_apart-end-2 : goal.slice_bounds-draw_apart-end-2
slice_bounds-draw_apart-end-2 c =
    let long : length c.unpack_words-n.new.code ≡ clause_limit = c.unpack_words-n.auto.code ∙ c.requires.words_len in
    sym (length-take-le _ _ (words_room (as_drawing c.requires.for_rectangle) c.unpack_words-n.ensures long))

pub draw_apart-requires : goal.draw_apart-requires
draw_apart-requires c =
    let long : length c.unpack_words-n.new.code ≡ clause_limit = c.unpack_words-n.auto.code ∙ c.requires.words_len in
    words_turn c.args.grid c.requires.for_rectangle c.unpack_words-n.ensures long refl refl c.requires.first_len c.requires.second_len

pub returns : goal.returns
returns c =
    let long : length c.unpack_words-n.new.code ≡ clause_limit = c.unpack_words-n.auto.code ∙ c.requires.words_len in
    tape_drawn c.args.grid c.requires.for_rectangle c.unpack_words-n.ensures long c.draw_apart.ensures
