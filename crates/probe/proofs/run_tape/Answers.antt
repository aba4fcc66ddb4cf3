-- With as many words as a tape may have clauses.
use Rattle.rules.proofs.Accepted.{accepted_tape}
use Rattle.probe.proofs.run_tape.Goals as goal

pub run_in-requires : goal.run_in-requires
run_in-requires c = let p = c.requires in
    record {
      unpackable = record { accepted = p.tape_value; room = (accepted_tape _ p.tape_value).clauses };
      sample_ok = p.sample_ok;
    }
