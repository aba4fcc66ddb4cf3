-- Each number at its own place.
use mathlib.Core.Path.{◌≡◌, subst}
use Prim.Native.Nat.{ℕ}
use native.Mathlib.Omega.{arith}
use lib.ListN.{take}
use Rattle.swept_rules.specs.Keeping.{numbers_from}
use Rattle.swept_tiles.proofs.NumberLaws.{numbers_begin, numbers_next}
use Rattle.swept_tiles.proofs.tiles.number.Goals as goal

pub loop-k-init : goal.loop-k-init
loop-k-init c = numbers_begin _ _

pub overflow_cast-list : goal.overflow_cast-list
overflow_cast-list c = omega (arith, c.loop-k-test.true, c.requires.few)

pub offset_bounds-list-k : goal.offset_bounds-list-k
offset_bounds-list-k c = omega (arith, c.loop-k-test.true, c.requires.few)

pub bounds-list-k : goal.bounds-list-k
bounds-list-k c = omega (arith, c.loop-k-test.true, c.requires.room, c.loop-k.invariant.size)

pub loop-k-preserved : goal.loop-k-preserved
loop-k-preserved c =
    numbers_next c.loop-k.k c.loop-k.invariant c.loop-k-test.true c.requires.room

pub shape_of-list : goal.shape_of-list
shape_of-list c = c.loop-k.invariant.size

pub returns : goal.returns
returns c =
    let e : c.loop-k.k ≡ c.args.n = omega (arith, c.loop-k-test.false, c.loop-k.invariant.few) in
    record { numbers = subst (λ (i : ℕ). take i c.loop-k.list ≡ numbers_from 0 i) e c.loop-k.invariant.numbers }
