-- From the lowest place on.
use mathlib.Core.Path.{◌≡◌, refl, ap, ◌∙◌}
use native.Mathlib.Omega.{arith}
use Rattle.std.proofs.lemmas.Result.{err_from_is_err_and}
use Rattle.faults.proofs.NumberLaws.{some_number}
use Rattle.plate_rules.specs.Plate.{place_fault}
use Rattle.plate_rules.proofs.Places.{place_size_lem}
use Rattle.plate_places.specs.Places.{fault_answer}
use Rattle.plate_places.proofs.PlaceLaws.{first_place_lem, part_size, place_bytes, place_at_fault, place_faultless, no_place_at_fault}
use Rattle.plate_places.proofs.check_places.Goals as goal

pub loop-i-init : goal.loop-i-init
loop-i-init c = first_place_lem _

pub slice_bounds-check_place-end : goal.slice_bounds-check_place-end
slice_bounds-check_place-end c = omega (arith, place_size_lem, c.requires)

pub check_place-requires : goal.check_place-requires
check_place-requires c =
    part_size c.loop-i.i c.args.memory.now c.requires c.loop-i-test.true

pub returns-in_err-check_place : goal.returns-in_err-check_place
returns-in_err-check_place c =
    let p = err_from_is_err_and c.from_residual.result c.from_residual.ensures.1 in
    rw (p.1, p.2)
    (place_at_fault c.args.memory.now c.loop-i.i c.loop-i-test.true c.loop-i.invariant
    (c.in_err-check_place.ensures
    ∙ ap (λ b. fault_answer (place_fault b)) (place_bytes c.args.memory.now c.loop-i.i c.loop-i-test.true))
    (some_number _))

pub loop-i-preserved : goal.loop-i-preserved
loop-i-preserved c =
    place_faultless c.args.memory.now c.loop-i.i c.loop-i-test.true c.loop-i.invariant
    (c.in_ok-check_place.ensures
    ∙ ap (λ b. fault_answer (place_fault b)) (place_bytes c.args.memory.now c.loop-i.i c.loop-i-test.true))
    refl

pub returns : goal.returns
returns c =
    let e : c.loop-i.i ≡ 8 = omega (arith, c.loop-i-test.false) in
    no_place_at_fault c.args.memory.now (rw e at c.loop-i.invariant)
