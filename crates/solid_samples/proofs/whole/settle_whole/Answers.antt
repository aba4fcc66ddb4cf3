-- Both rows at once.
use mathlib.Core.Path.{refl, ap, ◌∙◌}
use mathlib.Core.Bool.{true}
use native.Mathlib.Omega.{arith}
use lib.ListN.{length}
use Rattle.walk.proofs.CellLaws.{small}
use Rattle.walk.proofs.LookLaws.{sound_length}
use Rattle.solid_samples.proofs.WholeLaws.{lower_four, upper_four, four_again, put_length}
use Rattle.solid_samples.proofs.WholeLaws.{eight_runs, whole_done}
use Rattle.solid_samples.proofs.whole.settle_whole.Goals as goal

pub overflow_mul-lower : goal.overflow_mul-lower
overflow_mul-lower c = omega (arith, (lower_four c.requires).small)

pub overflow_add-lower : goal.overflow_add-lower
overflow_add-lower c = omega (arith, (lower_four c.requires).small)

pub overflow_cast-lower : goal.overflow_cast-lower
overflow_cast-lower c = omega (arith, (lower_four c.requires).small)

pub overflow_add-upper : goal.overflow_add-upper
overflow_add-upper c = omega (arith, (upper_four c.requires).small)

pub overflow_cast-height : goal.overflow_cast-height
overflow_cast-height c =
    let p = c.requires.chunk in
    let d = small true _ p.all.ready.fault in
    omega (arith, d.depth, p.all.cell.zs, p.z_in)

pub heights-before-requires : goal.heights-before-requires
heights-before-requires c = let p = c.requires in record {
  four_from = lower_four p;
  four_from_upper = upper_four p;
}

pub put_four-requires : goal.put_four-requires
put_four-requires c = record {
  four_from = lower_four c.requires;
  first_bound = omega arith;
}

pub put_four-requires-2 : goal.put_four-requires-2
put_four-requires-2 c = record {
  four_from = four_again (upper_four c.requires) (ap length c.put_four.ensures ∙ put_length _ _ _ _ 4);
  first_bound = omega arith;
}

pub overflow_mul-result : goal.overflow_mul-result
overflow_mul-result c =
    let p = c.requires in
    omega (arith, eight_runs _ _ c.below.ensures.1 (sound_length p.chunk.all.sound))

pub returns : goal.returns
returns c =
    whole_done c.requires refl refl c.heights-before.ensures c.raise-after.ensures
    c.put_four.ensures c.put_four-2.ensures c.below.ensures.0
