-- The product of the numbers of parts on the three axes.
use mathlib.Core.Path.{sym}
use Prim.Native.Nat.{◌≤◌, ◌*◌}
use native.Mathlib.Omega.{arith}
use Rattle.walk.proofs.ChildLaws.{child_length, parts_most, small_product}
use Rattle.walk.proofs.children.child_count.Goals as goal

flat : (c : goal.After-parts-layers) → c.parts-rows.result * c.parts-across.result ≤ 512 * 512
flat c =
    let p = c.requires in
    let x = parts_most _ _ _ p.some p.xs.some p.xs.small in
    let y = parts_most _ _ _ p.some p.ys.some p.ys.small in
    small_product _ _ 512 512 (omega (arith, y, c.parts-rows.ensures))
    (omega (arith, x, c.parts-across.ensures))

pub overflow_mul-result-2 : goal.overflow_mul-result-2
overflow_mul-result-2 c =
    let p = c.requires in
    let z = parts_most _ _ _ p.some p.zs.some p.zs.small in
    omega (arith, small_product c.parts-layers.result _ 512 (512 * 512) (omega (arith, z, c.parts-layers.ensures)) (flat c))

pub returns : goal.returns
returns c =
    let p = c.requires in
    rw (c.parts-across.ensures, c.parts-rows.ensures, c.parts-layers.ensures) (sym (child_length p))
