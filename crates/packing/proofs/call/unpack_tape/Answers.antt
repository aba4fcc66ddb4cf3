-- Unpacking, with the count of a call that draws nothing.
use mathlib.Core.Path.{◌∙◌}
use borrow.Author.Rules.{rules}
use Rattle.answers.proofs.Chains.{nothing_counted}
use Rattle.packing.proofs.Calls.{bytes_lent, copy_answer, slots_given}
use Rattle.packing.proofs.call.unpack_tape.Goals as goal

pub returns : goal.returns
returns c =
    let u = c.unpack-unpacked in
    record {
      lent = bytes_lent _ (λ j. (c.type_inv.tape j).fits);
      answer = copy_answer u.ensures (c.of.ensures ∙ nothing_counted u.result c.map.result (search rules));
      slots = c.unwrap_or.ensures ∙ slots_given u.result ∙ u.ensures.slots;
      out = u.ensures.out;
    }
