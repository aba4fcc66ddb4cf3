-- All clear, then the tape, then the record.
use mathlib.Core.Path.{refl, sym, ap, ◌∙◌}
use mathlib.Core.List.{◌++◌}
use native.Mathlib.Omega.{arith}
use lib.Seq.{take_all}
use mathlib.Core.Bool.{false}
use lib.ListN.{length, drop}
use Rattle.picture.specs.Shapes.{grid_in}
use Rattle.table_rules.specs.Tables.{flat_grid}
use Rattle.verdicts.proofs.HeadLaws.{head_written}
use Rattle.verdicts.proofs.head.write_head.Goals as goal

pub returns : goal.returns
returns c =
    let a = c.args in
    let t = a.tape.now in
    head_written t c.clear.new.picture (c.copy_from_slice.new.self ++ drop (length t) c.clear.new.picture)
    c.put_grid.new.out (flat_grid (grid_in a.grid false)) (length a.out.now) _ c.requires.out_len
    c.requires.tape_len_bound c.clear.ensures
    (ap (λ x. x ++ drop (length t) c.clear.new.picture)
    (c.copy_from_slice.ensures.after ∙ sym (take_all (length t) t (omega arith))))
    refl c.put_grid.ensures
