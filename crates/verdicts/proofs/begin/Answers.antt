-- The head, and zeros behind it.
use mathlib.Core.Path.{refl, sym}
use mathlib.Core.Bool.{false}
use native.Mathlib.Omega.{arith}
use lib.Seq.{length-take-le}
use Rattle.picture.specs.Shapes.{grid_in}
use Rattle.table_rules.specs.Tables.{head_length, flat_grid}
use Rattle.table_rules.proofs.Heads.{tape_fits}
use Rattle.verdicts.proofs.HeadLaws.{begun_written}
use Rattle.verdicts.proofs.begin.Goals as goal

pub slice_bounds-write_head-end-2 : goal.slice_bounds-write_head-end-2
slice_bounds-write_head-end-2 c =
    sym (length-take-le head_length c.args.table.now (omega (arith, c.requires.table_len)))

pub write_head-requires : goal.write_head-requires
write_head-requires c = record {
  out_len = length-take-le head_length c.args.table.now (omega (arith, c.requires.table_len));
  tape_len_bound = tape_fits _ c.requires.tape_value;
}

pub returns : goal.returns
returns c =
    let a = c.args in
    begun_written a.tape.now c.write_head.new.out a.table.now c.clear.new.picture (flat_grid (grid_in a.grid false)) _ _
    (tape_fits _ c.requires.tape_value) c.requires.table_len c.write_head.ensures c.clear.ensures refl refl
