-- A number, a bracket, an axis or a name.
use Rattle.formula.proofs.Bytes.{here_is}
use Rattle.formula.specs.declared.steps.Axis.TheVariants as axis
use Rattle.formula.proofs.Names.{own_bracket, axis_at}
use Rattle.formula.proofs.head.head.Goals as goal

pub returns-in-Some-eq40 : goal.returns-in-Some-eq40
returns-in-Some-eq40 c = own_bracket _ _ (here_is c.in-Some-eq40.ensures c.in-Some-eq40.field-0-test)

pub returns-in-Some-eq120 : goal.returns-in-Some-eq120
returns-in-Some-eq120 c = axis_at _ _ axis.X (here_is c.in-Some-eq120.ensures c.in-Some-eq120.field-0-test)

pub returns-in-Some-eq121 : goal.returns-in-Some-eq121
returns-in-Some-eq121 c = axis_at _ _ axis.Y (here_is c.in-Some-eq121.ensures c.in-Some-eq121.field-0-test)

pub returns-in-Some-eq122 : goal.returns-in-Some-eq122
returns-in-Some-eq122 c = axis_at _ _ axis.Z (here_is c.in-Some-eq122.ensures c.in-Some-eq122.field-0-test)
