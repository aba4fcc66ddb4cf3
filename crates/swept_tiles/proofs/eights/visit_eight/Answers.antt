-- Filled with one number, or each pixel searched.
use mathlib.Core.Path.{◌≡◌, sym, subst}
use native.Mathlib.Omega.{arith}
use lib.Seq.{length-take-le}
use Rattle.walk.specs.Cells.{region_in}
use Rattle.swept_pixels.proofs.PutLaws.{draws_of}
use Rattle.swept_tiles.specs.Looks.{LookedAs, OpenedBy}
use Rattle.swept_tiles.specs.declared.look.Glance.{Glance}
use Rattle.swept_tiles.proofs.LookLaws.{open_level, open_agrees}
use Rattle.swept_tiles.proofs.eights.visit_eight.Goals as goal
use Rattle.swept_tiles.proofs.eights.visit_eight.Goals.{After-look-seen, In-Open}

-- What the look says, once it is known of which kind it is.
seen_as : (c : After-look-seen) {v : Glance} → c.look-seen.result ≡ v
    → (let a = c.args in
    LookedAs a.whole.now a.code.now a.grid (region_in a.cell) a.path.now a.from.now c.look-seen.new.kept
    c.look-seen.new.next v)
seen_as c e =
    let a = c.args in
    subst
    (λ (v : Glance).
    LookedAs a.whole.now a.code.now a.grid (region_in a.cell) a.path.now a.from.now c.look-seen.new.kept
    c.look-seen.new.next v) e c.look-seen.ensures

opened : (c : In-Open)
    → (let a = c.args in
    OpenedBy a.whole.now a.code.now a.grid (region_in a.cell) a.path.now a.from.now c.look-seen.new.kept
    c.look-seen.new.next c.in-Open.count c.in-Open.start)
opened c =
    let a = c.args in
    subst
    (λ (v : Glance).
    LookedAs a.whole.now a.code.now a.grid (region_in a.cell) a.path.now a.from.now c.look-seen.new.kept
    c.look-seen.new.next v) c.in-Open.is c.look-seen.ensures

pub mark_room-requires : goal.mark_room-requires
mark_room-requires c = c.requires.level.kept.kept.within

pub overflow_add-base : goal.overflow_add-base
overflow_add-base c =
    let w = c.requires.level.kept.kept.within in
    omega (arith, c.mark_room.ensures)

pub look-seen-requires : goal.look-seen-requires
look-seen-requires c =
    let p = c.requires in
    let m = c.mark_room.ensures in
    record {
      level = p.level;
      fault = p.on.fault;
      cell = p.cell;
      path = p.path;
      list = p.list;
      marks = record { behind = omega arith; within = omega (arith, m, p.marks) };
      words = p.words;
    }

pub fill-requires : goal.fill-requires
fill-requires c =
    let p = c.requires in
    record { on = p.on; cell = p.cell; side = omega (arith, p.side) }

pub slice_bounds-list-end : goal.slice_bounds-list-end
slice_bounds-list-end c = (opened (goal.at.slice_bounds-list-end c).In-Open).within

pub slice_bounds-list-end-in-Open : goal.slice_bounds-list-end-in-Open
slice_bounds-list-end-in-Open c = sym (length-take-le _ _ (opened (goal.at.slice_bounds-list-end-in-Open c).In-Open).within)

pub offset_bounds-second-start : goal.offset_bounds-second-start
offset_bounds-second-start c =
    let o = (opened (goal.at.offset_bounds-second-start c).In-Open).start_in in
    omega (arith, c.look-seen.auto.next)

pub slice_bounds-short-count : goal.slice_bounds-short-count
slice_bounds-short-count c = (opened (goal.at.slice_bounds-short-count c).In-Open).start_in

pub sweep_pixels-requires : goal.sweep_pixels-requires
sweep_pixels-requires c =
    let p = c.requires in
    let short = (open_level (opened (goal.at.sweep_pixels-requires c).In-Open)).sound in
    record {
      sound = search short;
      on = p.on;
      cell = p.cell;
      side = omega (arith, p.side);
      path = record { few = p.path.few; stays = p.path.stays; in_path = (opened (goal.at.sweep_pixels-requires c).In-Open).in_path };
    }

pub returns-in-Same : goal.returns-in-Same
returns-in-Same c =
    draws_of (seen_as (goal.at.returns-in-Same c).After-look-seen c.in-Same.is).constant c.fill.ensures

pub returns-in-Open : goal.returns-in-Open
returns-in-Open c =
    draws_of (open_agrees (opened (goal.at.returns-in-Open c).In-Open)) c.sweep_pixels.ensures
