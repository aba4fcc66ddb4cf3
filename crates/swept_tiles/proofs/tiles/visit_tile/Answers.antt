-- All positions looked at, and filled with one number, or the regions of side 8 visited.
use mathlib.Core.Path.{◌≡◌, sym, subst}
use Prim.Native.Nat.{◌/◌}
use native.Mathlib.Omega.{arith}
use lib.ListN.{length, take}
use lib.Seq.{length-take-le}
use Rattle.walk.specs.Cells.{region_in}
use Rattle.swept_pixels.proofs.PutLaws.{draws_of}
use Rattle.swept_tiles.specs.Looks.{LookedAs, OpenedBy}
use Rattle.swept_tiles.specs.declared.look.Glance.{Glance}
use Rattle.swept_tiles.proofs.LookLaws.{open_level, open_agrees}
use Rattle.swept_tiles.proofs.TileLaws.{halved, all_path, all_long, all_agree}
use borrow.Author.Rules.{rules}
use Rattle.swept_tiles.proofs.tiles.visit_tile.Goals as goal
use Rattle.swept_tiles.proofs.tiles.visit_tile.Goals.{After-look-seen, In-Open}

-- What the look says, once it is known of which kind it is.
seen_as : (c : After-look-seen) {v : Glance} → c.look-seen.result ≡ v
    → (let a = c.args in
    LookedAs a.whole.now a.whole.now a.grid (region_in a.cell) a.path.now
    (take (length a.path.now / 2) c.number.new.list) c.look-seen.new.kept c.look-seen.new.next v)
seen_as c e =
    let a = c.args in
    subst
    (λ (v : Glance).
    LookedAs a.whole.now a.whole.now a.grid (region_in a.cell) a.path.now
    (take (length a.path.now / 2) c.number.new.list) c.look-seen.new.kept c.look-seen.new.next v)
    e c.look-seen.ensures

opened : (c : In-Open)
    → (let a = c.args in
    OpenedBy a.whole.now a.whole.now a.grid (region_in a.cell) a.path.now
    (take (length a.path.now / 2) c.number.new.list) c.look-seen.new.kept c.look-seen.new.next
    c.in-Open.count c.in-Open.start)
opened c =
    let a = c.args in
    subst
    (λ (v : Glance).
    LookedAs a.whole.now a.whole.now a.grid (region_in a.cell) a.path.now
    (take (length a.path.now / 2) c.number.new.list) c.look-seen.new.kept c.look-seen.new.next v)
    c.in-Open.is c.look-seen.ensures

pub number-requires : goal.number-requires
number-requires c =
    let p = c.requires.sweep in
    let h = halved p in
    record { few = omega (arith, h, p.few); room = omega (arith, h, p.few, p.inner_long) }

pub slice_bounds-all-end : goal.slice_bounds-all-end
slice_bounds-all-end c =
    let p = c.requires.sweep in
    omega (arith, halved p, p.few, p.inner_long, c.number.auto.list)

pub slice_bounds-all-end-2 : goal.slice_bounds-all-end-2
slice_bounds-all-end-2 c = sym (length-take-le _ _ ((search rules)))

pub look-seen-requires : goal.look-seen-requires
look-seen-requires c =
    let q = c.requires in
    let p = q.sweep in
    record {
      level = p.level;
      fault = p.on.fault;
      cell = q.cell;
      path = all_path p c.number.ensures;
      list = omega (arith, all_long p c.number.ensures, p.outer_long);
      marks = record { behind = omega arith; within = omega (arith, p.marks) };
      words = p.words_first;
    }

pub fill-requires : goal.fill-requires
fill-requires c =
    let q = c.requires in
    record { on = q.sweep.on; cell = q.cell; side = omega (arith, q.side) }

pub slice_bounds-list-end : goal.slice_bounds-list-end
slice_bounds-list-end c = (opened (goal.at.slice_bounds-list-end c).In-Open).within

pub slice_bounds-list-end-in-Open : goal.slice_bounds-list-end-in-Open
slice_bounds-list-end-in-Open c = sym (length-take-le _ _ (opened (goal.at.slice_bounds-list-end-in-Open c).In-Open).within)

pub offset_bounds-first-start : goal.offset_bounds-first-start
offset_bounds-first-start c =
    let o = (opened (goal.at.offset_bounds-first-start c).In-Open).start_in in
    omega (arith, c.look-seen.auto.next)

pub slice_bounds-short-count : goal.slice_bounds-short-count
slice_bounds-short-count c = (opened (goal.at.slice_bounds-short-count c).In-Open).start_in

pub eights-requires : goal.eights-requires
eights-requires c =
    let q = c.requires in
    let p = q.sweep in
    let short = open_level (opened (goal.at.eights-requires c).In-Open) in
    let l = length-take-le c.in-Open.count c.look-seen.new.kept (opened (goal.at.eights-requires c).In-Open).within in
    record {
      level = search short;
      on = p.on;
      cell = q.cell;
      side = q.side;
      path = record { few = p.few; stays = p.stays; in_path = (opened (goal.at.eights-requires c).In-Open).in_path };
      list = omega (
        arith,
        l,
        (opened (goal.at.eights-requires c).In-Open).within,
        c.look-seen.auto.kept,
        p.outer_long,
        p.inner_long,
        c.number.auto.list,
      );
      marks = omega (arith, p.marks, c.look-seen.auto.work);
      words = p.words_second;
    }

pub returns-in-Same : goal.returns-in-Same
returns-in-Same c =
    draws_of
    (λ f a.
    (seen_as (goal.at.returns-in-Same c).After-look-seen c.in-Same.is).constant f
    (all_agree c.requires.sweep c.number.ensures f a))
    c.fill.ensures

pub returns-in-Open : goal.returns-in-Open
returns-in-Open c =
    draws_of
    (λ f a. open_agrees (opened (goal.at.returns-in-Open c).In-Open) f (all_agree c.requires.sweep c.number.ensures f a))
    c.eights.ensures
