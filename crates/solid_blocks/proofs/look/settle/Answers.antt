-- Full, empty and cut.
use mathlib.Core.Path.{◌∙◌}
use mathlib.Core.Bool.{true}
use Rattle.walk.proofs.LookLaws.{done_full, done_empty, opened}
use Rattle.solid_blocks.proofs.look.settle.Goals as goal

pub returns-in-Full : goal.returns-in-Full
returns-in-Full c =
    record {
      over = λ whole work next base box j b h v e.
          done_full true b h v (e ∙ c.in-Full.is) c.fill.ensures;
    }

pub returns-in-Empty : goal.returns-in-Empty
returns-in-Empty c =
    record { over = λ whole work next base box j b h v e. done_empty true b h v (e ∙ c.in-Empty.is) }

pub returns-in-Cut : goal.returns-in-Cut
returns-in-Cut c =
    record { over = λ whole work next base box j b h v e. opened true b h v (e ∙ c.in-Cut.is) }
