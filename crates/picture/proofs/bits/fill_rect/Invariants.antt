-- `bits::fill_rect` meets its contract. The loop's invariant: whatever heights the bytes showed, they now show those
-- with the rows passed raised, and every byte outside these is as it was.
use mathlib.Core.List.{List}
use Prim.Native.Nat.{ℕ, ◌+◌, ◌-◌, ◌*◌}
use Rattle.rules.specs.Drawings.{raise_rows}
use Rattle.picture.specs.Bits.{Shows}
use Rattle.picture.specs.Parts.{Apart}
use Rattle.picture.proofs.bits.fill_rect.Given as goal

abbrev pub invariant-loop-j : goal.invariant-loop-j
invariant-loop-j l =
    record {
      by_index : (n : ℕ) (h : List ℕ) → Shows l.width n l.initial.picture h
          → Shows l.width n l.picture (raise_rows (l.j - l.y) l.width (l.y * l.width + l.x) (l.xend - l.x) 1 h);
      apart : Apart l.width l.x l.xend l.y l.j l.initial.picture l.picture;
    }
