-- Full, empty, or the kept words on the regions of side 8.
use mathlib.Core.Path.{◌≡◌, sym, ◌∙◌}
use Prim.Native.Nat.{◌<◌}
use native.Mathlib.Omega.{arith}
use lib.ListN.{get_or}
use Rattle.picture.proofs.PartLaws.{apart_none}
use Rattle.plate_tiles.proofs.TileNumbers.{few_tiles, tile_even, tile_side}
use Rattle.table_rules.specs.Tables.{tile_limit, entry_in, verdict_in}
use Rattle.verdict_entries.proofs.Judging.{verdict_at}
use Rattle.verdict_tiles.proofs.KnownLaws.{kept_three, kept_in_lem, kept_level, kept_passed, verdict_most, tile_blank, tile_apart_lem}
use Rattle.verdict_tiles.proofs.KnownLaws.{cell_apart, draws_full, draws_nothing, draws_kept}
use Rattle.verdict_tiles.proofs.tile.known_tile.Goals.{After-entry_at-at, In_default}
use Rattle.verdict_tiles.proofs.tile.known_tile.Goals as goal

-- What is known there.
few : (c : After-entry_at-at) → c.args.number < tile_limit
few c = let t = c.requires.asked.tile in omega (arith, t.more, few_tiles t.sized)

verdict : (c : After-entry_at-at)
    → let a = c.args in
    verdict_in (entry_in a.number a.table.now) ≡ get_or a.table.now c.entry_at-at.result 0
verdict c = verdict_at _ _ _ c.entry_at-at.ensures

-- Of a tile that is neither full nor empty, a tape is kept.
three : (c : In_default)
    → let a = c.args in
    verdict_in (entry_in a.number a.table.now) ≡ 3
three c =
    let v = verdict_at c.args.number _ c.args.table.now c.entry_at-at.ensures in
    v ∙ sym c.verdict_at.ensures
    ∙ kept_three c.verdict_at.result c.in_default.not-Full c.in_default.not-Empty
    (λ e. c.requires.known (v ∙ sym c.verdict_at.ensures ∙ e))

pub verdict_at-requires : goal.verdict_at-requires
verdict_at-requires c =
    let k = (goal.at.verdict_at-requires c).After-entry_at-at in
    record {
      at_in_table = omega (arith, c.entry_at-at.ensures, c.requires.asked.passes.passed.size, few k);
      says_one = omega (arith, verdict k, verdict_most c.requires.asked.passes.passed (few k));
    }

pub entry_at-at-requires : goal.entry_at-at-requires
entry_at-at-requires c =
    let t = c.requires.asked.tile in
    omega (arith, t.more, few_tiles t.sized)

pub fill-requires : goal.fill-requires
fill-requires c =
    record { ready = c.requires.asked.lent.ready; cell = c.tile-cell.ensures.cell.ok; even = tile_even c.tile-cell.ensures }

pub returns-in-Full : goal.returns-in-Full
returns-in-Full c =
    record {
      known_drawn = draws_full c.tile-cell.ensures (verdict (goal.at.returns-in-Full c).After-entry_at-at ∙ sym c.in-Full.ensures) c.fill.ensures.fills;
      slots_len = c.requires.asked.size;
      tile_apart = cell_apart c.tile-cell.ensures c.fill.ensures.apart;
    }

pub returns-in-Empty : goal.returns-in-Empty
returns-in-Empty c =
    record {
      known_drawn = draws_nothing c.tile-cell.ensures (verdict (goal.at.returns-in-Empty c).After-entry_at-at ∙ sym c.in-Empty.ensures);
      slots_len = c.requires.asked.size;
      tile_apart = apart_none _ _ _ _ _ _;
    }

pub kept_words-start-requires : goal.kept_words-start-requires
kept_words-start-requires c =
    let p = c.requires.asked in
    record {
      level = p.lent.level;
      entry = omega (arith, c.entry_at-at.ensures, p.passes.passed.size, few (goal.at.kept_words-start-requires c).After-entry_at-at);
      room = omega (arith, p.lent.marks);
      words = p.lent.words_first;
    }

pub offset_bounds-first-start : goal.offset_bounds-first-start
offset_bounds-first-start c =
    let g = c.well_formed in
    omega (arith, c.kept_words-start.ensures.within, c.kept_words-start.auto.next)

pub eights-requires : goal.eights-requires
eights-requires c =
    let p = c.requires.asked in
    let l = p.lent in
    let level = kept_level (kept_in_lem c.args.number c.entry_at-at.result c.args.table.now c.entry_at-at.ensures c.kept_words-start.ensures) p.passes.slots (kept_passed p.passes.passed (few (goal.at.eights-requires c).After-entry_at-at) (three (goal.at.eights-requires c).In_default)) in
    record {
      level = level;
      ready = l.ready;
      cell = c.tile-cell.ensures.cell.ok;
      side = tile_side c.tile-cell.ensures;
      even = tile_even c.tile-cell.ensures;
      room = omega (arith, l.marks, c.kept_words-start.auto.work);
      second = l.words_second;
      slots = p.size;
      rows = p.rows;
      blank = tile_blank c.tile-cell.ensures p.blank;
    }

pub returns-in_default : goal.returns-in_default
returns-in_default c =
    let k = goal.at.returns-in_default c in
    record {
      known_drawn = draws_kept c.tile-cell.ensures (few k.After-entry_at-at) c.requires.asked.lent.ready.fault (three k.In_default)
          (kept_in_lem c.args.number c.entry_at-at.result c.args.table.now c.entry_at-at.ensures c.kept_words-start.ensures) c.eights.ensures.folds;
      slots_len = c.eights.ensures.slots_len;
      tile_apart = tile_apart_lem c.tile-cell.ensures c.eights.ensures.apart;
    }
