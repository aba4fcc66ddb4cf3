-- One store at the pixel's place.
use native.Mathlib.Omega.{arith}
use lib.ListN.{length-set}
use Rattle.swept_pixels.proofs.PutLaws.{place_in, place_most, put_draws}
use Rattle.swept_pixels.proofs.put.put.Goals as goal

pub overflow_mul-at : goal.overflow_mul-at
overflow_mul-at c =
    let a = c.args in
    let p = c.requires in
    omega (arith, place_most a.grid a.pixel.x a.pixel.y (omega (arith, p.cell.xs)) (omega (arith, p.cell.ys)) p.on)

pub overflow_add-at : goal.overflow_add-at
overflow_add-at c =
    let a = c.args in
    let p = c.requires in
    omega (arith, place_most a.grid a.pixel.x a.pixel.y (omega (arith, p.cell.xs)) (omega (arith, p.cell.ys)) p.on)

pub overflow_cast-at : goal.overflow_cast-at
overflow_cast-at c =
    let a = c.args in
    let p = c.requires in
    omega (arith, place_most a.grid a.pixel.x a.pixel.y (omega (arith, p.cell.xs)) (omega (arith, p.cell.ys)) p.on)

pub offset_bounds-picture-at : goal.offset_bounds-picture-at
offset_bounds-picture-at c =
    let a = c.args in
    let p = c.requires in
    omega (arith, place_most a.grid a.pixel.x a.pixel.y (omega (arith, p.cell.xs)) (omega (arith, p.cell.ys)) p.on)

pub bounds-picture-at : goal.bounds-picture-at
bounds-picture-at c =
    let p = c.requires in place_in _ _ _ (omega (arith, p.cell.xs)) (omega (arith, p.cell.ys)) p.on

pub shape_of-picture : goal.shape_of-picture
shape_of-picture c = simp length-set

pub returns : goal.returns
returns c = let p = c.requires in put_draws {c = c.args.pixel} _ p.on p.cell p.one
