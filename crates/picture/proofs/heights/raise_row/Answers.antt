-- Raising a row: raising what is left of it, from here, raises it all.
use Rattle.std.proofs.Common.{ℕ, arith, rules, length-take, length-drop}
use Rattle.picture.proofs.HeightRows.{raise_starts, raise_next, raise_ends}
use Rattle.picture.proofs.heights.raise_row.Goals as goal

pub loop-h-init : goal.loop-h-init
loop-h-init c = raise_starts _ _ _ _ _

pub loop-h-preserved : goal.loop-h-preserved
loop-h-preserved c =
    raise_next _ _ _ _ _ _ c.loop-h.h-items _ (omega (arith, length-take {A = ℕ}, length-drop {A = ℕ})) (omega arith)
    (omega arith) (search rules) c.loop-h.invariant

pub returns : goal.returns
returns c = raise_ends _ _ _ _ _ _ _ (omega (arith, length-take {A = ℕ}, length-drop {A = ℕ})) c.loop-h.invariant
