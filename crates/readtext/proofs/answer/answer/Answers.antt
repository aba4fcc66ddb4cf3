-- What goes to descriptor 1, and its length as the last word.
use Rattle.readtext.proofs.Answering.{second_none, second_length}
use Rattle.readtext.proofs.answer.answer.Goals as goal

pub returns-then-first-eq0 : goal.returns-then-first-eq0
returns-then-first-eq0 c = record { first = c.put_first-first.ensures; second = second_none c.put_first-first.ensures c.if-first-eq0.true }

pub returns : goal.returns
returns c =
    record { first = c.put_first-first.ensures; second = second_length c.put_first-first.ensures c.if-first-eq0.false c.put_count.ensures.0 }
