-- The sign of the range's low end.
use Rattle.std.proofs.Common.{◌≡◌, refl, ap, ◌∙◌, Bool, true, false, w32, rules}
use mir.Val.{SFits, bool_byte}
use Rattle.rules.specs.Values.{Range, when}
use Rattle.rules.specs.Tapes.{range_over}
use Rattle.code.specs.Words.{tape_in}
use Rattle.walk.proofs.LookLaws.{fit_of, sound_runs}
use Rattle.walk.proofs.Signs.{sign}
use Rattle.plate_tiles.proofs.TileSets.{touch}
use Rattle.plate_tiles.proofs.tiles.touches.Goals as goal

as_bit : (b : Bool) → bool_byte b ≡ when b 1
as_bit true = refl
as_bit false = refl

pub flat_bounds-requires : goal.flat_bounds-requires
flat_bounds-requires c =
    record { fault = c.requires.sized.fault; ok = c.requires.ok }

pub run_ranges-requires : goal.run_ranges-requires
run_ranges-requires c = record {
  runnable = sound_runs c.requires.sound;
  box_ok = c.flat_bounds.ensures.ok;
  code_in_bounds = c.requires.room;
}

pub returns : goal.returns
returns c n a =
    let x = c.run_ranges.ensures.range n (fit_of a) ∙ ap (range_over (tape_in n _)) c.flat_bounds.ensures.same in
    let low : SFits w32 c.run_ranges.result.low = search rules in
    as_bit _ ∙ touch _ _ _ _ (sign _ _ _ low refl (ap (λ (v : Range). v.low) x))
