-- Full, empty and cut. Nothing is hidden in a flat drawing.
use mathlib.Core.Path.{refl, ◌∙◌}
use mathlib.Core.Bool.{false}
use native.Mathlib.Omega.{arith}
use Rattle.picture.proofs.PartLaws.{apart_none, apart_part}
use Rattle.walk.proofs.Draws.{seen_flat}
use Rattle.walk.proofs.LookLaws.{done_full, done_empty, opened}
use Rattle.flat_eights.proofs.look.settle.Goals as goal

pub returns-in-Full : goal.returns-in-Full
returns-in-Full c =
    let k = c.requires.cell in record {
      settled = record {
        over = λ whole work next base box j b v e.
            done_full false b (seen_flat _ _ _ _ refl) v (e ∙ c.in-Full.is) c.fill.ensures.fills;
      };
      apart = apart_part (omega (arith, k.xs, k.ys)) c.fill.ensures.apart;
    }

pub returns-in-Empty : goal.returns-in-Empty
returns-in-Empty c = record {
  settled = record {
    over = λ whole work next base box j b v e.
        done_empty false b (seen_flat _ _ _ _ refl) v (e ∙ c.in-Empty.is);
  };
  apart = apart_none _ _ _ _ _ _;
}

pub returns-in-Cut : goal.returns-in-Cut
returns-in-Cut c = record {
  settled = record {
    over = λ whole work next base box j b v e.
        opened false b (seen_flat _ _ _ _ refl) v (e ∙ c.in-Cut.is);
  };
  apart = apart_none _ _ _ _ _ _;
}
