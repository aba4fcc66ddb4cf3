-- One number for the region, or the positions kept and the tape cut over their hull.
use mathlib.Core.Path.{◌≡◌, sym, subst}
use native.Mathlib.Omega.{arith}
use lib.Seq.{length-take-le}
use Rattle.fixed.specs.Shapes.{box_in}
use Rattle.swept_rules.specs.Swept.{offsets_of}
use Rattle.swept_path.specs.Keeps.{CoverOf, CoversAll, KeptFirst}
use Rattle.swept_path.specs.declared.keep.Cover.{Cover}
use Rattle.swept_tiles.proofs.LookLaws.{look_keep, look_none, look_below, look_all, look_path, look_some}
use Rattle.swept_tiles.proofs.LookLaws.{look_hull, look_open}
use Rattle.swept_tiles.proofs.look.look.Goals as goal
use Rattle.swept_tiles.proofs.look.look.Goals.{After-keep, In-Everywhere, In-Partly}

-- What is kept, once it is known of which kind it is.
cover : (c : After-keep) {v : Cover} → c.keep.result ≡ v
    → (let a = c.args in
    CoverOf a.code.now (box_in c.flat_bounds-bounds.result) (offsets_of a.path.now) a.from.now
    c.keep.new.kept v)
cover c e =
    let a = c.args in
    subst
    (λ (v : Cover).
    CoverOf a.code.now (box_in c.flat_bounds-bounds.result) (offsets_of a.path.now) a.from.now
    c.keep.new.kept v) e c.keep.ensures

all : (c : In-Everywhere)
    → (let a = c.args in
    CoversAll a.code.now (box_in c.flat_bounds-bounds.result) (offsets_of a.path.now) a.from.now
    c.in-Everywhere.k)
all c =
    let a = c.args in
    subst
    (λ (v : Cover).
    CoverOf a.code.now (box_in c.flat_bounds-bounds.result) (offsets_of a.path.now) a.from.now
    c.keep.new.kept v) c.in-Everywhere.is c.keep.ensures

some : (c : In-Partly)
    → (let a = c.args in
    KeptFirst a.code.now (box_in c.flat_bounds-bounds.result) (offsets_of a.path.now) a.from.now
    c.keep.new.kept c.in-Partly.count)
some c =
    let a = c.args in
    subst
    (λ (v : Cover).
    CoverOf a.code.now (box_in c.flat_bounds-bounds.result) (offsets_of a.path.now) a.from.now
    c.keep.new.kept v) c.in-Partly.is c.keep.ensures

pub keep-requires : goal.keep-requires
keep-requires c = look_keep c.requires c.flat_bounds-bounds.ensures

pub overflow_add-result : goal.overflow_add-result
overflow_add-result c =
    let p = c.requires in
    omega (arith, look_below p c.flat_bounds-bounds.ensures _ (all (goal.at.overflow_add-result c).In-Everywhere), p.path.few)

pub slice_bounds-list-end : goal.slice_bounds-list-end
slice_bounds-list-end c = (some (goal.at.slice_bounds-list-end c).In-Partly).within

pub slice_bounds-list-end-in-Partly : goal.slice_bounds-list-end-in-Partly
slice_bounds-list-end-in-Partly c = sym (length-take-le _ _ (some (goal.at.slice_bounds-list-end-in-Partly c).In-Partly).within)

pub hull_over-requires : goal.hull_over-requires
hull_over-requires c =
    let p = c.requires in
    let e = c.flat_bounds-bounds.ensures in
    record { some = look_some p e (some (goal.at.hull_over-requires c).In-Partly); in_path = look_path p e (some (goal.at.hull_over-requires c).In-Partly) }

pub moved_bounds-over-requires : goal.moved_bounds-over-requires
moved_bounds-over-requires c =
    look_hull c.requires c.flat_bounds-bounds.ensures (some (goal.at.moved_bounds-over-requires c).In-Partly) c.hull_over.ensures

pub cut_over-start-requires : goal.cut_over-start-requires
cut_over-start-requires c =
    let p = c.requires in
    let h = c.keep.auto.work in
    record {
      level = p.level;
      box = c.moved_bounds-over.ensures.ok;
      marks = record { behind = p.marks.behind; within = omega (arith, p.marks.within, h) };
      words = p.words;
    }

pub returns-in-Nowhere : goal.returns-in-Nowhere
returns-in-Nowhere c =
    look_none c.requires c.flat_bounds-bounds.ensures (cover (goal.at.returns-in-Nowhere c).After-keep c.in-Nowhere.is)

pub returns-in-Everywhere : goal.returns-in-Everywhere
returns-in-Everywhere c =
    look_all c.requires c.flat_bounds-bounds.ensures _ (all (goal.at.returns-in-Everywhere c).In-Everywhere)

pub shape_of-kept-in-Partly : goal.shape_of-kept-in-Partly
shape_of-kept-in-Partly c = c.keep.auto.kept

pub returns-in-Partly : goal.returns-in-Partly
returns-in-Partly c =
    look_open c.requires c.flat_bounds-bounds.ensures (some (goal.at.returns-in-Partly c).In-Partly) c.hull_over.ensures
    c.moved_bounds-over.ensures.same c.cut_over-start.ensures
