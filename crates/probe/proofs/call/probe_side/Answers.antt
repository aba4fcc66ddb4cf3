-- The case of the probe as a number, and its value.
use Rattle.std.proofs.Common.{ap, ◌∙◌}
use Rattle.promises.specs.Sides.{side_number, side_value}
use Rattle.probe.proofs.call.probe_side.Goals as goal

pub returns : goal.returns
returns c =
    let p = c.probe-probed.ensures in
    record {
      answer = p.answer;
      side = c.side_number.ensures ∙ ap side_number p.side;
      value = c.side_value.ensures ∙ ap side_value p.side;
    }
