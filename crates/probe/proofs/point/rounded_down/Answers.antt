-- The product is exact, its whole part is an i64, and the test says whether that is the unit or one above.
use Rattle.std.proofs.Common.{◌≡◌, ◌≤◌, true, T, ℤ, nat_abs, sym, ◌∙◌, subst, to_z-of_z, w64}
use lib.Ieee.{Float, binary64, of_bits, mul, to_signed, fits}
use Rattle.rules.specs.Probes.{coordinate_ok}
use Rattle.rules.proofs.Words.{read, back}
use Rattle.probe.proofs.Units.{Taken, taken}
use Rattle.probe.proofs.Rounding.{in_range, whole_small, unit_below, unit_here}
use Rattle.probe.proofs.Rounding.{less_64, less_32, whole_32, unit_read, as_float}
use Rattle.probe.proofs.point.rounded_down.Goals as goal
use Rattle.probe.proofs.point.rounded_down.Goals.{After-truncating_f64_to_i64-whole}

-- The coordinate, which an f64 holds, and the product, with 65,536 as its bits.
product : (c : Float) → fits binary64 c ≡ true → coordinate_ok c ≡ true
    → Taken c (mul binary64 c (of_bits binary64 4679240012837945344))
unfolding of_bits
product c f e = taken c (subst T (sym f) tt) e

-- The whole part, as it is read from its word.
abbrev whole : After-truncating_f64_to_i64-whole → ℤ
whole c = read w64 c.truncating_f64_to_i64-whole.result

whole_is : (c : After-truncating_f64_to_i64-whole)
    → whole c ≡ to_signed 63 (mul binary64 c.args.c (of_bits binary64 4679240012837945344))
whole_is c = let t = c.truncating_f64_to_i64-whole in back w64 t.result t.type_inv t.ensures

small : (c : After-truncating_f64_to_i64-whole) → nat_abs (whole c) ≤ 2147418112
small c = whole_small (product c.args.c c.well_formed.0.1 c.requires) (whole c) (whole_is c)

pub truncating_f64_to_i64-whole-requires-clause-lower_bound :
    goal.truncating_f64_to_i64-whole-requires-clause-lower_bound
truncating_f64_to_i64-whole-requires-clause-lower_bound c =
    (in_range (product c.args.c c.well_formed.0.1 c.requires)).0

pub truncating_f64_to_i64-whole-requires-clause-upper_bound :
    goal.truncating_f64_to_i64-whole-requires-clause-upper_bound
truncating_f64_to_i64-whole-requires-clause-upper_bound c =
    (in_range (product c.args.c c.well_formed.0.1 c.requires)).1

pub int_to_float-whole : goal.int_to_float-whole
int_to_float-whole c = let t = (goal.at.int_to_float-whole c).After-truncating_f64_to_i64-whole in as_float (whole t) (small t)

-- What is taken away fits in any case; that it is one is the result's.
pub overflow_sub-result : goal.overflow_sub-result
overflow_sub-result c =
    let t = (goal.at.overflow_sub-result c).After-truncating_f64_to_i64-whole in
    let w = whole t in
    let h = small t in search (less_64 w 0 h tt, less_64 w 1 h tt)

pub overflow_cast-result : goal.overflow_cast-result
overflow_cast-result c =
    let t = (goal.at.overflow_cast-result c).After-truncating_f64_to_i64-whole in
    let w = whole t in
    let h = small t in search (less_32 w 0 h tt, less_32 w 1 h tt)

pub returns-then-units-whole : goal.returns-then-units-whole
returns-then-units-whole c =
    let t = (goal.at.returns-then-units-whole c).After-truncating_f64_to_i64-whole in
    let w = whole t in
    let p = product c.args.c c.well_formed.0.1 c.requires in
    unit_read (less_32 w 1 (small t) tt)
    (to_z-of_z (less_64 w 1 (small t) tt) ∙ unit_below p w (whole_is t) c.if-units-whole.true)

pub overflow_cast-result-2 : goal.overflow_cast-result-2
overflow_cast-result-2 c =
    let t = (goal.at.overflow_cast-result-2 c).After-truncating_f64_to_i64-whole in whole_32 (whole t) (small t)

pub returns : goal.returns
returns c =
    let t = (goal.at.returns c).After-truncating_f64_to_i64-whole in
    let w = whole t in
    let p = product c.args.c c.well_formed.0.1 c.requires in
    unit_read (whole_32 w (small t)) (unit_here p w (whole_is t) c.if-units-whole.false)
