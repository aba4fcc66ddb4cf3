-- The search goes on where a position does not cover the sample, and leaves with the one that does.
use mathlib.Core.Path.{◌≡◌, refl, sym, ap, subst, ◌∙◌}
use mathlib.Core.Bool.{Bool, true, false}
use Prim.Native.Nat.{◌<◌}
use native.Mathlib.Omega.{arith}
use lib.IntN.{pos}
use lib.ListN.{length, get_or}
use lib.Signed.{lt_z}
use mir.Syntax.{w32}
use Rattle.rules.specs.Values.{is_neg, Sample}
use Rattle.rules.proofs.Words.{read}
use Rattle.fixed.specs.Shapes.{sample_in}
use Rattle.code.specs.Runs.{Evaluated}
use Rattle.walk.proofs.Signs.{sign}
use Rattle.swept_rules.specs.Swept.{Offset, offsets_of, moved_sample}
use Rattle.swept_rules.specs.Keeping.{position_at}
use Rattle.swept_path.specs.Asked.{ForSample}
use Rattle.swept_pixels.proofs.SearchLaws.{search_begins, search_goes_on, search_stops, search_ends}
use Rattle.swept_pixels.proofs.search.first_cover.Goals as goal
use Rattle.swept_pixels.proofs.search.first_cover.Goals.{After-run_values-value, Else-list-m}

more : (c : Else-list-m)
    → c.loop-m.m < length c.args.list.now
more c = omega (arith, c.if-list-m.false)

pub loop-m-init : goal.loop-m-init
loop-m-init c = (search_begins, c.requires.lent)

pub returns-then-list-m : goal.returns-then-list-m
returns-then-list-m c = record {
  found = search_ends c.loop-m.m c.loop-m.invariant.0 c.if-list-m.true;
  lent = c.loop-m.invariant.1;
}

pub position-requires : goal.position-requires
position-requires c = c.requires.in_path.each c.loop-m.m (more (goal.at.position-requires c).Else-list-m)

pub moved_sample-moved-requires : goal.moved_sample-moved-requires
moved_sample-moved-requires c =
    subst (λ (o : Offset). ForSample (sample_in c.args.s) o) (sym c.position.ensures)
    (c.requires.moves c.loop-m.m (more (goal.at.moved_sample-moved-requires c).Else-list-m))

pub run_values-value-requires : goal.run_values-value-requires
run_values-value-requires c = record {
  runnable = c.requires.runs;
  sample_ok = c.moved_sample-moved.ensures.ok;
  lent = c.loop-m.invariant.1;
}

-- What the run says of the position, and what the test says of the value.
value : (c : After-run_values-value)
    → (let a = c.args in
    Evaluated a.code.now
    (moved_sample (position_at (offsets_of a.path.now) (get_or a.list.now c.loop-m.m 0)) (sample_in a.s))
    c.run_values-value.result)
value c =
    let a = c.args in
    subst (λ (s : Sample). Evaluated a.code.now s c.run_values-value.result)
    (c.moved_sample-moved.ensures.same ∙ ap (λ (o : Offset). moved_sample o (sample_in a.s)) c.position.ensures)
    c.run_values-value.ensures.evaluated

tested : (c : After-run_values-value) (t : Bool)
    → lt_z (read w32 c.run_values-value.result) (pos 0) ≡ t → is_neg c.run_values-value.result ≡ t
tested c t e = sign c.run_values-value.result _ t (record { sfits = c.run_values-value.type_inv }) e refl

pub overflow_add-m : goal.overflow_add-m
overflow_add-m c = omega (arith, more (goal.at.overflow_add-m c).Else-list-m)

pub loop-m-smaller : goal.loop-m-smaller
loop-m-smaller c = omega (arith, more (goal.at.loop-m-smaller c).Else-list-m)

pub loop-m-preserved : goal.loop-m-preserved
loop-m-preserved c = (
  search_goes_on c.loop-m.m c.loop-m.invariant.0 (more (goal.at.loop-m-preserved c).Else-list-m) (value (goal.at.loop-m-preserved c).After-run_values-value) (tested (goal.at.loop-m-preserved c).After-run_values-value false c.if-value-lt0.false),
  c.run_values-value.ensures.stays_lent,
)

pub overflow_add-result : goal.overflow_add-result
overflow_add-result c =
    let p = c.requires in
    omega (arith, p.few, p.in_path.each c.loop-m.m (more (goal.at.overflow_add-result c).Else-list-m))

pub returns : goal.returns
returns c = record {
  found = search_stops c.loop-m.m c.loop-m.invariant.0 (more (goal.at.returns c).Else-list-m) (value (goal.at.returns c).After-run_values-value) (tested (goal.at.returns c).After-run_values-value true c.if-value-lt0.true);
  lent = c.run_values-value.ensures.stays_lent;
}
