-- The tiles of the unpacked words are the tape's.
use mathlib.Core.Path.{◌≡◌, sym, ◌∙◌}
use native.Mathlib.Omega.{arith}
use lib.ListN.{length}
use lib.Seq.{length-take-le}
use Rattle.rules.specs.Tapes.{clause_limit}
use Rattle.drawings.proofs.TapeWords.{unpackable, words_room, words_few, whole_level}
use Rattle.swept_drawing.proofs.Calls.{ready, reads, swept_of}
use Rattle.swept_drawing.proofs.sweep_words.Goals as goal
use Rattle.swept_drawing.proofs.sweep_words.Goals.{After-unpack_words-n}

long : (c : After-unpack_words-n) → length c.unpack_words-n.new.code ≡ clause_limit
long c = c.unpack_words-n.auto.code ∙ c.requires.words_len

pub unpack_words-n-requires : goal.unpack_words-n-requires
unpack_words-n-requires c = unpackable (reads c.requires.sweeps) _ c.requires.words_len

pub slice_bounds-sweep-end : goal.slice_bounds-sweep-end
slice_bounds-sweep-end c =
    words_room (reads c.requires.sweeps) c.unpack_words-n.ensures (long (goal.at.slice_bounds-sweep-end c).After-unpack_words-n)

pub slice_bounds-sweep-end-2 : goal.slice_bounds-sweep-end-2
slice_bounds-sweep-end-2 c =
    sym (length-take-le _ _
    (words_room (reads c.requires.sweeps) c.unpack_words-n.ensures (long (goal.at.slice_bounds-sweep-end-2 c).After-unpack_words-n)))

pub sweep-requires : goal.sweep-requires
sweep-requires c =
    let q = c.requires in
    let d = reads q.sweeps in
    let r = ready q.sweeps in
    let o = c.unpack_words-n.ensures in
    let h = long (goal.at.sweep-requires c).After-unpack_words-n in
    let few = words_few d o h in
    record {
      level = whole_level d o h;
      on = record { fault = d.grid; size = r.size };
      pairs = r.path.pairs;
      few = r.path.most;
      stays = r.path.stays;
      outer_long = q.outer_len;
      inner_long = q.inner_len;
      marks = omega (arith, few, r.work);
      words_first = omega (arith, few, q.first_len);
      words_second = omega (arith, few, q.second_len);
    }

pub returns : goal.returns
returns c =
    swept_of c.requires.sweeps c.unpack_words-n.ensures (long (goal.at.returns c).After-unpack_words-n) c.sweep.ensures
