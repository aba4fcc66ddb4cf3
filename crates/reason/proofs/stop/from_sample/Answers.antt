-- The value at the pixel's sample, twice.
use mathlib.Core.Path.{refl}
use mir.Syntax.{w32}
use Rattle.rules.proofs.Words.{back}
use Rattle.code.proofs.RunLaws.{fresh_slots}
use Rattle.walk.proofs.LookLaws.{sound_runs, sound_length}
use Rattle.reason.proofs.Pixels.{sample_taken}
use Rattle.reason.proofs.Levels.{stop_value}
use Rattle.reason.proofs.stop.from_sample.Goals as goal

pub run_values-v-requires : goal.run_values-v-requires
run_values-v-requires c = let p = c.requires in
    record {
      runnable = sound_runs p.sound;
      sample_ok = sample_taken p.pixel c.pixel_sample.ensures;
      lent = fresh_slots;
    }

pub stop_at-requires : goal.stop_at-requires
stop_at-requires c = sound_length c.requires.sound

pub returns : goal.returns
returns c =
    stop_value c.pixel_sample.ensures c.run_values-v.ensures.evaluated
    (back w32 c.run_values-v.result c.run_values-v.type_inv refl) c.stop_at.ensures
