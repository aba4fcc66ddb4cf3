-- The run over the moved box.
use mathlib.Core.Path.{◌≡◌, sym, ap, subst, ◌∙◌}
use Rattle.rules.specs.Values.{Box}
use Rattle.rules.specs.Tapes.{range_over}
use Rattle.fixed.specs.Shapes.{box_in}
use Rattle.code.specs.Words.{tape_in}
use Rattle.swept_rules.specs.Swept.{offsets_of}
use Rattle.swept_rules.specs.Keeping.{Hull, hull_of, hull_box, position_at}
use Rattle.swept_path.specs.Shapes.{hull_in}
use Rattle.swept_path.specs.Asked.{ForBox}
use Rattle.swept_path.proofs.keep.range_at.Goals as goal
use Rattle.swept_path.proofs.keep.range_at.Goals.{After-hull_of}

-- The hull is that of the position.
one : (c : After-hull_of)
    → (let a = c.args in
    hull_in c.hull_of.result ≡ hull_of (position_at (offsets_of a.path.now) a.k))
one c = c.hull_of.ensures ∙ ap hull_of c.position.ensures

pub position-requires : goal.position-requires
position-requires c = c.requires.in_path

pub moved_bounds-moved-requires : goal.moved_bounds-moved-requires
moved_bounds-moved-requires c =
    subst (λ (h : Hull). ForBox (box_in c.args.bounds) h) (sym (one (goal.at.moved_bounds-moved-requires c).After-hull_of)) c.requires.box

pub run_ranges-requires : goal.run_ranges-requires
run_ranges-requires c = let p = c.requires in
    record {
      runnable = p.runs;
      box_ok = c.moved_bounds-moved.ensures.ok;
      code_in_bounds = p.room;
    }

pub returns : goal.returns
returns c =
    record {
      range = λ n f.
          c.run_ranges.ensures.range n f
          ∙ ap (λ (b : Box). range_over (tape_in n c.args.code.now) b)
          (c.moved_bounds-moved.ensures.same ∙ ap (hull_box (box_in c.args.bounds)) (one (goal.at.returns c).After-hull_of));
    }
