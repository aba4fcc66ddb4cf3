-- Known, or written.
use mathlib.Core.Path.{sym, ◌∙◌}
use native.Mathlib.Omega.{arith}
use Rattle.plate_tiles.proofs.TileNumbers.{few_tiles}
use Rattle.verdict_entries.proofs.Judging.{met_known, met_unknown, verdict_at}
use Rattle.verdict_entries.proofs.judged.meet.Goals as goal

pub entry_at-requires : goal.entry_at-requires
entry_at-requires c =
    let t = c.requires.tile in
    omega (arith, t.more, few_tiles t.sized)

pub bounds-table-entry_at : goal.bounds-table-entry_at
bounds-table-entry_at c =
    omega (arith, c.entry_at.ensures, c.requires.size, c.requires.tile.more, few_tiles c.requires.tile.sized)

pub returns-then-table-entry_at : goal.returns-then-table-entry_at
returns-then-table-entry_at c =
    met_known (λ e. c.if-table-entry_at.true (sym (verdict_at _ _ _ c.entry_at.ensures) ∙ e ∙ sym c.from.ensures))

pub returns : goal.returns
returns c =
    met_unknown (verdict_at _ _ _ c.entry_at.ensures ∙ c.if-table-entry_at.false ∙ c.from.ensures) c.write_entry.ensures
