-- The places before the changed one, and those behind it.
use Rattle.std.proofs.Common.{sym, arith}
use lib.Seq.{length-take-le}
use Rattle.plate_drawing.proofs.Others.{lent_room, before_places, behind_places, others_joined}
use Rattle.plate_drawing.proofs.join_others.Goals as goal

pub slice_bounds-join_places-end : goal.slice_bounds-join_places-end
slice_bounds-join_places-end c =
    let l = lent_room c.args.memory.now c.args.place c.requires.for_others in
    sym (length-take-le _ _ (omega (arith, l)))

pub join_places-requires-clause-for_places : goal.join_places-requires-clause-for_places
join_places-requires-clause-for_places c = before_places c.args.memory.now c.args.place c.requires.for_others

pub slice_bounds-join_places-count : goal.slice_bounds-join_places-count
slice_bounds-join_places-count c =
    lent_room c.args.memory.now c.args.place c.requires.for_others

pub slice_bounds-join_places-start : goal.slice_bounds-join_places-start
slice_bounds-join_places-start c =
    lent_room c.args.memory.now c.args.place c.requires.for_others

pub join_places-requires-2-clause-for_places : goal.join_places-requires-2-clause-for_places
join_places-requires-2-clause-for_places c = behind_places c.args.memory.now c.args.place c.requires.for_others

pub returns-clause-joins : goal.returns-clause-joins
returns-clause-joins c =
    others_joined c.args.memory.now c.args.place c.requires.for_others c.join_places.ensures.joins
    c.join_places-2.ensures.joins
