-- `decimal::put_number` meets its contract. The invariant of its loop: to what stood before it, the digits from the
-- first place to this one are written. The measure is the place. Assumes nothing.
use mathlib.Core.Path.{sym}
use Prim.Native.Nat.{◌/◌}
use native.Mathlib.Omega.{arith}
use Rattle.rules.specs.Pictures.{numeral}
use Rattle.netpbm.specs.Appending.{Appends}
use Rattle.netpbm.proofs.Written.{then, renamed}
use Rattle.netpbm.proofs.Digits.{digit, least_length}
use Rattle.netpbm.proofs.PlaceLaws.{positive, place_down, digit_more, room_more, all_digits}
use Rattle.netpbm.proofs.decimal.put_number.Goals.{At-loop-place}
use Rattle.netpbm.proofs.decimal.put_number.Goals as goal

pub nonzero_div-v : goal.nonzero_div-v
nonzero_div-v c = omega (arith, positive c.first_place-place.ensures.0)

pub put_digit-next-requires : goal.put_digit-next-requires
put_digit-next-requires c =
    omega (arith, least_length c.args.v (omega arith))

-- Written up to the loop's place.
begun : (c : At-loop-place)
    → Appends c.args.out.now
    c.args.at
    (numeral (c.args.v
    / c.loop-place.place)) c.loop-place.out c.loop-place.next
begun c =
    c.loop-place.invariant.1 _ _ (renamed (sym (digit _ c.first_place-place.ensures.1)) c.put_digit-next.ensures)

pub loop-place-init : goal.loop-place-init
loop-place-init c = (c.first_place-place.ensures.0, λ o a p. p)

pub put_digit-next-requires-in-loop-place : goal.put_digit-next-requires-in-loop-place
put_digit-next-requires-in-loop-place c =
    omega (arith, begun c.before.before, room_more c.loop-place.invariant.0 (omega arith) (omega arith))

pub loop-place-preserved : goal.loop-place-preserved
loop-place-preserved c =
    let place = c.loop-place.invariant.0 in (
      place_down place (omega arith),
      λ o a p. renamed (sym (digit_more place (omega arith) (omega arith)))
          (then (c.loop-place.invariant.1 o a p) c.put_digit-next-in-loop-place.ensures),
    )

pub shape_of-out : goal.shape_of-out
shape_of-out c = (begun c.before).size

pub returns : goal.returns
returns c = renamed (all_digits c.loop-place.invariant.0 (omega arith)) (begun c.before)
