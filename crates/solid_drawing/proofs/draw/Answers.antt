-- The full drawing of the unpacked words is the tape's.
use borrow.Author.Rules.{rules}
use mathlib.Core.Path.{◌≡◌, refl, sym, ◌∙◌}
use mathlib.Core.Bool.{true}
use native.Mathlib.Omega.{arith}
use lib.ListN.{length}
use lib.Seq.{length-take-le}
use Rattle.rules.specs.Tapes.{clause_limit}
use Rattle.picture.proofs.PictureSizes.{solid_size_lem}
use Rattle.drawings.proofs.TapeWords.{unpackable, words_room, words_few, drawable, full_of}
use Rattle.solid_drawing.proofs.draw.Goals as goal
use Rattle.solid_drawing.proofs.draw.Goals.{After-unpack_words-n}

long : (c : After-unpack_words-n) → length c.unpack_words-n.new.code ≡ clause_limit
long c = search rules

pub unpack_words-n-requires : goal.unpack_words-n-requires
unpack_words-n-requires c = unpackable c.requires _ (search rules)

pub slice_bounds-words-end : goal.slice_bounds-words-end
slice_bounds-words-end c =
    omega (arith, words_room c.requires c.unpack_words-n.ensures (long (goal.at.slice_bounds-words-end c).After-unpack_words-n), long (goal.at.slice_bounds-words-end c).After-unpack_words-n)

pub slice_bounds-draw_solid-end : goal.slice_bounds-draw_solid-end
slice_bounds-draw_solid-end c =
    sym (length-take-le _ _ (words_room c.requires c.unpack_words-n.ensures (long (goal.at.slice_bounds-draw_solid-end c).After-unpack_words-n)))

pub draw_solid-requires : goal.draw_solid-requires
draw_solid-requires c =
    let d = c.requires in
    let o = c.unpack_words-n.ensures in record {
      drawable = drawable d o (long (goal.at.draw_solid-requires c).After-unpack_words-n);
      code_len_bound = words_few d o (long (goal.at.draw_solid-requires c).After-unpack_words-n);
      picture_len = d.size ∙ sym (solid_size_lem true _ refl);
    }

pub returns : goal.returns
returns c =
    full_of c.requires c.unpack_words-n.ensures (long (goal.at.returns c).After-unpack_words-n) c.draw_solid.ensures
