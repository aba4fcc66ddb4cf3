-- Unpacked, then run.
use Rattle.std.proofs.Common.{w32}
use Rattle.rules.proofs.Words.{back}
use Rattle.code.proofs.RunLaws.{fresh_slots}
use Rattle.probe.proofs.Probing.{runnable, evaluated}
use Rattle.probe.proofs.run_in.Goals as goal

pub run_values-requires : goal.run_values-requires
run_values-requires c = record {
  runnable = runnable c.unpack_words-n.ensures c.requires.unpackable.accepted;
  sample_ok = c.requires.sample_ok;
  lent = fresh_slots;
}

pub returns : goal.returns
returns c =
    let r = c.run_values in
    back w32 r.result r.type_inv
    (evaluated c.unpack_words-n.ensures c.requires.unpackable.accepted r.ensures.evaluated)
