-- The figures of a reason for a pixel, as the call gives them.
use Rattle.std.specs.Prelude.{pos, ℕ, eqb}
use Rattle.rules.specs.Values.{pick}
use Rattle.rules.specs.Tapes.{Tape}
use Rattle.rules.specs.Drawings as D
use Rattle.reason_rules.specs.Reasons as R
use Rattle.promises.specs.declared.Reason.{Reason}

-- The four figures of the declared reason as the rules' one.
abbrev pub reason_in : Reason → R.Reason
reason_in r = record { side = r.side; low = r.low; high = r.high; clauses = r.clauses }

-- A number other than 0 is a refusal, and leaves no figure.
abbrev pub no_reason : R.Reason
no_reason = record { side = 0; low = pos 0; high = pos 0; clauses = 0 }

abbrev pub reason_by : ℕ → Tape → D.Grid → ℕ → ℕ → R.Reason
reason_by n t g i j = pick (eqb n 0) (R.reason_of t g i j) no_reason
