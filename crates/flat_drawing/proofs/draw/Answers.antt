-- The full drawing of the unpacked words is the tape's.
use borrow.Author.Rules.{rules}
use mathlib.Core.Path.{refl, sym, ◌∙◌}
use mathlib.Core.Bool.{false}
use native.Mathlib.Omega.{arith}
use lib.Seq.{length-take-le}
use Rattle.picture.proofs.PictureSizes.{flat_size_lem}
use Rattle.drawings.proofs.TapeWords.{unpackable, words_room, words_few, drawable, full_of}
use Rattle.flat_drawing.proofs.draw.Goals as goal

pub unpack_words-n-requires : goal.unpack_words-n-requires
unpack_words-n-requires c = unpackable c.requires _ (search rules)

pub slice_bounds-words-end : goal.slice_bounds-words-end
slice_bounds-words-end c =
    omega (arith, words_room c.requires c.unpack_words-n.ensures (search rules))

pub slice_bounds-draw_flat-end : goal.slice_bounds-draw_flat-end
slice_bounds-draw_flat-end c =
    sym (length-take-le _ _ (words_room c.requires c.unpack_words-n.ensures (search rules)))

pub draw_flat-requires : goal.draw_flat-requires
draw_flat-requires c =
    let d = c.requires in
    let o = c.unpack_words-n.ensures in record {
      drawable = drawable d o (search rules);
      code_len_bound = words_few d o (search rules);
      picture_len = d.size ∙ sym (flat_size_lem false _ refl);
    }

pub returns : goal.returns
returns c =
    full_of c.requires c.unpack_words-n.ensures (search rules) c.draw_flat.ensures
