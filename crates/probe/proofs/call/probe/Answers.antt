-- A probe, with the count of a call that draws nothing.
use mathlib.Core.Path.{◌∙◌}
use borrow.Author.Rules.{rules}
use Rattle.answers.proofs.Chains.{nothing_counted}
use Rattle.probe.proofs.Probing.{probe_answer, side_given}
use Rattle.probe.proofs.call.probe.Goals as goal

pub returns : goal.returns
returns c =
    let f = c.probe_at-found in
    record {
      answer = probe_answer f.ensures (c.of.ensures ∙ nothing_counted f.result c.map.result (search rules));
      side = c.unwrap_or.ensures ∙ side_given f.result ∙ f.ensures.side;
    }
