-- The part's words mark the tiles that it touches; these are cleared, and the part joined to them if it comes.
use Rattle.std.proofs.Common.{◌≡◌, sym, ◌∙◌, arith, length}
use lib.Seq.{length-take-le}
use Rattle.rules.specs.Tapes.{clause_limit, read_tape}
use Rattle.walk.proofs.Places.{ready_again}
use Rattle.drawings.proofs.TapeWords.{unpackable, words_room, words_few, words_accepted, words_tape, sound, whole_level}
use Rattle.plate_drawing.proofs.JoinedParts.{begun as began}
use Rattle.plate_drawing.proofs.begin.Goals.{After-unpack_words-n}
use Rattle.plate_drawing.proofs.begin.Goals as goal

-- The words are lent as long as they were.
long : (c : After-unpack_words-n) → length c.unpack_words-n.new.code ≡ clause_limit
long c = c.unpack_words-n.auto.code ∙ c.requires.buffers.words_in

pub unpack_words-n-requires : goal.unpack_words-n-requires
unpack_words-n-requires c = unpackable c.requires.draws _ c.requires.buffers.words_in

pub slice_bounds-mark_tiles-end : goal.slice_bounds-mark_tiles-end
slice_bounds-mark_tiles-end c =
    words_room c.requires.draws c.unpack_words-n.ensures (long (goal.at.slice_bounds-mark_tiles-end c).After-unpack_words-n)

pub slice_bounds-mark_tiles-end-2 : goal.slice_bounds-mark_tiles-end-2
slice_bounds-mark_tiles-end-2 c =
    let h = long (goal.at.slice_bounds-mark_tiles-end-2 c).After-unpack_words-n in
    sym (length-take-le _ _ (words_room c.requires.draws c.unpack_words-n.ensures h))

pub mark_tiles-requires : goal.mark_tiles-requires
mark_tiles-requires c =
    let h = long (goal.at.mark_tiles-requires c).After-unpack_words-n in
    let few = words_few c.requires.draws c.unpack_words-n.ensures h in
    record {
      sound = sound c.requires.draws c.unpack_words-n.ensures h;
      sized = record { fault = c.requires.buffers.ready.fault };
      room = omega (arith, few, c.requires.buffers.room);
      size = c.requires.buffers.size;
    }

pub slice_bounds-join_added-end : goal.slice_bounds-join_added-end
slice_bounds-join_added-end c =
    words_room c.requires.draws c.unpack_words-n.ensures (long (goal.at.slice_bounds-join_added-end c).After-unpack_words-n)

pub slice_bounds-join_added-end-2 : goal.slice_bounds-join_added-end-2
slice_bounds-join_added-end-2 c =
    let h = long (goal.at.slice_bounds-join_added-end-2 c).After-unpack_words-n in
    sym (length-take-le _ _ (words_room c.requires.draws c.unpack_words-n.ensures h))

pub join_added-requires : goal.join_added-requires
join_added-requires c =
    let b = c.requires.buffers in
    let h = long (goal.at.join_added-requires c).After-unpack_words-n in
    let few = words_few c.requires.draws c.unpack_words-n.ensures h in
    record {
      part = record {
        lent = record {
          level = whole_level c.requires.draws c.unpack_words-n.ensures h;
          ready = ready_again b.ready c.clear_tiles.auto.picture;
          marks = omega (arith, few, b.room, c.mark_tiles.auto.work);
          words_first = omega (arith, few, b.first_in);
          words_second = omega (arith, few, b.second_in);
        };
        clean = b.clean;
      };
      size = c.mark_tiles.auto.marks ∙ b.size;
    }

pub returns-clause-began : goal.returns-clause-began
returns-clause-began c =
    let h = long (goal.at.returns-clause-began c).After-unpack_words-n in
    let t = (read_tape c.args.tape.now).tape in
    began (record { fault = c.requires.buffers.ready.fault }) t.slots
    (words_accepted c.requires.draws c.unpack_words-n.ensures h) t (words_tape c.requires.draws c.unpack_words-n.ensures h) _
    c.mark_tiles.ensures c.clear_tiles.ensures c.join_added.ensures.by_index
