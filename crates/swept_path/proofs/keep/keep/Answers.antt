-- Position by position: dropped, kept, or the last that is looked at.
use mathlib.Core.Path.{◌≡◌, refl, sym, subst, ◌∙◌}
use mathlib.Core.Bool.{Bool, true, false}
use Prim.Native.Nat.{ℕ, ◌+◌, ◌≤◌, ◌<◌}
use native.Mathlib.Omega.{arith}
use lib.IntN.{pos}
use lib.ListN.{length, get_or, set, length-set}
use lib.Signed.{lt_z}
use mir.Syntax.{w32}
use Rattle.rules.specs.Values.{is_neg}
use Rattle.rules.proofs.Words.{read}
use Rattle.fixed.specs.Shapes.{box_in}
use Rattle.fixed.proofs.Spans as Spans
use Rattle.walk.proofs.Signs.{sign}
use Rattle.swept_rules.specs.Swept.{offsets_of}
use Rattle.swept_path.proofs.KeepLaws.{KeepingAt, keep_begins, keep_drops, keep_takes, keep_stops, keep_first}
use Rattle.swept_path.proofs.KeepLaws.{keep_none, keep_some}
use borrow.Author.Rules.{rules}
use Rattle.swept_path.proofs.keep.keep.Goals as goal
use Rattle.swept_path.proofs.keep.keep.Goals.{then-range-lt0-2, else-range-lt0-2, In-loop-k, After-range_at-range}

room : (c : In-loop-k)
    → c.loop-k.count < length c.loop-k.kept
room c =
    let i = c.loop-k.invariant in
    omega (arith, i.0.few, c.loop-k-test.true, c.requires.list, i.1)

lists : (c : In-loop-k)
    → (length c.args.from.now ≤ length c.loop-k.kept)
lists c = omega (arith, c.requires.list, c.loop-k.invariant.1)

pub loop-k-init : goal.loop-k-init
loop-k-init c = (keep_begins _, refl, refl)

pub offset_bounds-kept-count : goal.offset_bounds-kept-count
offset_bounds-kept-count c = search (rules, room (goal.at.offset_bounds-kept-count c).In-loop-k)

pub bounds-kept-count : goal.bounds-kept-count
bounds-kept-count c = room (goal.at.bounds-kept-count c).In-loop-k

pub range_at-range-requires : goal.range_at-range-requires
range_at-range-requires c =
    let p = c.requires in
    record {
      runs = p.runs;
      room = omega (arith, p.room, c.loop-k.invariant.2);
      in_path = p.in_path c.loop-k.k-index c.loop-k-test.true;
      box = p.box c.loop-k.k-index c.loop-k-test.true;
    }

-- What the two tests say of the range.
high : (c : After-range_at-range) (t : Bool)
    → lt_z (read w32 c.range_at-range.result.high) (pos 0) ≡ t → is_neg c.range_at-range.result.high ≡ t
high c t e =
    sign c.range_at-range.result.high _ t
    (let f : Spans.Fit c.range_at-range.result = search rules in f).high e refl

low : (c : After-range_at-range) (t : Bool)
    → lt_z (read w32 c.range_at-range.result.low) (pos 0) ≡ t
    → is_neg c.range_at-range.result.low ≡ t
low c t e =
    let r = c.range_at-range.result in
    sign r.low _ t (let f : Spans.Fit r = search rules in f).low e refl

pub shape_of-kept-then-count-eq0 : goal.shape_of-kept-then-count-eq0
shape_of-kept-then-count-eq0 c =
    length-set c.loop-k.kept c.loop-k.count _ ∙ c.loop-k.invariant.1

pub shape_of-work-then-count-eq0 : goal.shape_of-work-then-count-eq0
shape_of-work-then-count-eq0 c =
    c.range_at-range.auto.work ∙ c.loop-k.invariant.2

pub returns-then-count-eq0 : goal.returns-then-count-eq0
returns-then-count-eq0 c =
    keep_first c.loop-k.count c.loop-k.k-index c.loop-k.invariant.0 c.loop-k-test.true (lists (goal.at.returns-then-count-eq0 c).In-loop-k)
    c.range_at-range.ensures (high (goal.at.returns-then-count-eq0 c).After-range_at-range true c.if-range-lt0.true) c.if-count-eq0.true

pub overflow_add-result : goal.overflow_add-result
overflow_add-result c = omega (arith, room (goal.at.overflow_add-result c).In-loop-k)

pub shape_of-kept-then-range-lt0 : goal.shape_of-kept-then-range-lt0
shape_of-kept-then-range-lt0 c =
    length-set c.loop-k.kept c.loop-k.count _ ∙ c.loop-k.invariant.1

pub shape_of-work-then-range-lt0 : goal.shape_of-work-then-range-lt0
shape_of-work-then-range-lt0 c =
    c.range_at-range.auto.work ∙ c.loop-k.invariant.2

pub returns-then-range-lt0 : goal.returns-then-range-lt0
returns-then-range-lt0 c =
    keep_stops c.loop-k.count c.loop-k.k-index c.loop-k.invariant.0 c.loop-k-test.true (lists (goal.at.returns-then-range-lt0 c).In-loop-k)
    c.range_at-range.ensures (high (goal.at.returns-then-range-lt0 c).After-range_at-range true c.if-range-lt0.true)

pub overflow_add-count : goal.overflow_add-count
overflow_add-count c = omega (arith, room (goal.at.overflow_add-count c).In-loop-k)

pub loop-k-preserved : goal.loop-k-preserved
loop-k-preserved c =
    let a = c.args in
    let next = set c.loop-k.kept c.loop-k.count (get_or a.from.now c.loop-k.k-index 0) in
    let at : ℕ → Type 0 = λ n.
    KeepingAt a.code.now (box_in a.bounds) (offsets_of a.path.now) a.from.now next n (c.loop-k.k-index + 1) in (
      elim c.if-range-lt0-2.branch [
        | then-range-lt0-2 w ↦
            subst at (sym w.count-is)
            (keep_takes c.loop-k.count c.loop-k.k-index c.loop-k.invariant.0 c.loop-k-test.true (lists (goal.at.loop-k-preserved c).In-loop-k)
            c.range_at-range.ensures)
        | else-range-lt0-2 w ↦
            subst at (sym w.count-is)
            (keep_drops c.loop-k.count c.loop-k.k-index c.loop-k.invariant.0 c.loop-k-test.true (lists (goal.at.loop-k-preserved c).In-loop-k)
            c.range_at-range.ensures (low (goal.at.loop-k-preserved c).After-range_at-range false w.if-range-lt0-2.false))
      ],
      length-set c.loop-k.kept c.loop-k.count _ ∙ c.loop-k.invariant.1,
      c.range_at-range.auto.work ∙ c.loop-k.invariant.2,
    )

pub shape_of-kept-then-count-eq0-2 : goal.shape_of-kept-then-count-eq0-2
shape_of-kept-then-count-eq0-2 c = c.loop-k.invariant.1

pub shape_of-work-then-count-eq0-2 : goal.shape_of-work-then-count-eq0-2
shape_of-work-then-count-eq0-2 c = c.loop-k.invariant.2

pub returns-then-count-eq0-2 : goal.returns-then-count-eq0-2
returns-then-count-eq0-2 c =
    keep_none c.loop-k.count c.loop-k.k-index c.loop-k.invariant.0 c.loop-k-test.false c.if-count-eq0-2.true

pub shape_of-kept : goal.shape_of-kept
shape_of-kept c = c.loop-k.invariant.1

pub shape_of-work : goal.shape_of-work
shape_of-work c = c.loop-k.invariant.2

pub returns : goal.returns
returns c =
    keep_some c.loop-k.count c.loop-k.k-index c.loop-k.invariant.0 c.loop-k-test.false c.if-count-eq0-2.false
    (omega (arith, c.requires.list, c.loop-k.invariant.1))
