-- The hull of the first position, widened by the others.
use mathlib.Core.Path.{◌≡◌, sym, ap, ◌∙◌}
use mathlib.Core.List.{List}
use Prim.Native.Nat.{ℕ, ◌+◌, ◌-◌}
use native.Mathlib.Omega.{arith}
use lib.ListN.{length, get_or, take, drop, length-drop}
use lib.Seq.{take_all}
use Rattle.std.proofs.lemmas.List.{get_or-drop}
use Rattle.swept_rules.specs.Swept.{Offset, offsets_of}
use Rattle.swept_rules.specs.Keeping.{position_at, Hull, hull_of, widened, hull_from}
use Rattle.swept_path.specs.Shapes.{hull_in}
use Rattle.swept_path.proofs.PathLaws.{hull_next, hull_all}
use Rattle.swept_path.proofs.moved.hull_over.Goals as goal

pub bounds-list-0 : goal.bounds-list-0
bounds-list-0 c = c.requires.some

pub position-requires : goal.position-requires
position-requires c = let p = c.requires in p.in_path.each 0 p.some

-- The positions behind the first.
others : (ks : List ℕ) → take (length ks - 1) (drop 1 ks) ≡ drop 1 ks
others ks = take_all (length ks - 1) (drop 1 ks) (omega (arith, length-drop 1 ks))

other_lem : (ks : List ℕ) (i : ℕ) → get_or (take (length ks - 1) (drop 1 ks)) i 0 ≡ get_or ks (1 + i) 0
other_lem ks i = rw (others ks) (get_or-drop 1 ks i 0)

pub loop-k-init : goal.loop-k-init
loop-k-init c =
    let os = offsets_of c.args.path.now in
    let ks = c.args.list.now in
    ap (hull_from os (hull_of (position_at os (get_or ks 0 0)))) (sym (others ks))
    ∙ ap (λ (h : Hull). hull_from os h (take (length ks - 1) (drop 1 ks)))
    (sym (c.hull_of-hull.ensures ∙ ap hull_of c.position.ensures))

pub position-requires-in-loop-k : goal.position-requires-in-loop-k
position-requires-in-loop-k c =
    let ks = c.args.list.now in
    let i = c.loop-k.k-index in
    rw (other_lem ks i) (c.requires.in_path.each (1 + i) (omega (arith, c.loop-k-test.true, ap length (others ks), length-drop 1 ks)))

pub loop-k-preserved : goal.loop-k-preserved
loop-k-preserved c =
    let os = offsets_of c.args.path.now in
    let ks = c.args.list.now in
    let items = take (length ks - 1) (drop 1 ks) in
    let i = c.loop-k.k-index in
    c.loop-k.invariant ∙ hull_next os (hull_in c.loop-k.hull) items i c.loop-k-test.true
    ∙ ap (λ (h : Hull). hull_from os h (drop (i + 1) items))
    (sym (c.widen-hull.ensures
    ∙ ap (λ (o : Offset). widened (hull_in c.loop-k.hull) o) c.position-in-loop-k.ensures))

pub returns : goal.returns
returns c =
    let ks = c.args.list.now in
    sym (c.loop-k.invariant
    ∙ hull_all (offsets_of c.args.path.now) (hull_in c.loop-k.hull) (take (length ks - 1) (drop 1 ks)) c.loop-k.k-index c.loop-k-test.false)
