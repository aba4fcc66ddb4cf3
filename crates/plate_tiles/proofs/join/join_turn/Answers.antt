-- Nothing; or the tile drawn on the blank picture, joined, and cleared there.
use Rattle.std.proofs.Common.{◌≡◌, sym, ◌∙◌, length, rules}
use Rattle.plate_tiles.proofs.JoinLaws.{joined_turn, blank_again, blank_size}
use Rattle.plate_tiles.proofs.join.join_turn.Goals as goal

pub returns : goal.returns
returns c =
    let p = c.requires.part in
    let s = c.requires.tile.sized in
    -- The blank picture is as long as the picture.
    let long : length c.visit_tile.new.picture ≡ length c.args.picture.now =
    c.visit_tile.auto.picture ∙ blank_size c.args.grid p.clean ∙ sym p.lent.ready.size in
    record {
      by_index = λ n a. joined_turn s c.tile-cell.ensures p.clean c.visit_tile.ensures.visits (λ i. search rules) n a _
          c.if-mark-eq0.false _ c.join_cell.ensures;
      blank_after = blank_again s c.tile-cell.ensures p.clean (c.clear_cell.auto.picture ∙ long ∙ p.lent.ready.size)
          c.visit_tile.ensures.apart c.clear_cell.ensures;
    }
