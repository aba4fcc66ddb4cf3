-- Run before the first of eight children, or before.
use Rattle.child_lanes.proofs.BoxRows.{lane_within}
use Rattle.child_lanes.proofs.RunLaws.{just_run}
use Rattle.child_lanes.proofs.run_children.Goals as goal

pub run_numbered-requires : goal.run_numbered-requires
run_numbered-requires c =
    let p = c.requires in
    record {
      slots = p.slots;
      accepted = p.accepted;
      boxes = record {
        children = p.children;
        there = λ k h. lane_within _ _ _ (c.following-numbers.ensures.at k h) p.some p.all;
      };
      lent = p.lent;
      room = p.room;
    }

pub returns-then-m-eq0 : goal.returns-then-m-eq0
returns-then-m-eq0 c =
    let p = c.requires in
    just_run c.if-m-eq0.true p.all p.some c.following-numbers.ensures c.run_numbered.ensures
