-- Nine fields, read in their order.
use Rattle.program.proofs.Records.{fields_read}
use Rattle.program.proofs.record.read_grid.Goals as goal

pub returns : goal.returns
returns c =
    fields_read _ c.word_at.ensures.0 c.word_at-2.ensures.0 c.word_at-3.ensures.0
    (record { fits = c.constant_at.type_inv; value = c.constant_at.ensures })
    (record { fits = c.constant_at-2.type_inv; value = c.constant_at-2.ensures })
    (record { fits = c.constant_at-3.type_inv; value = c.constant_at-3.ensures })
    (record { fits = c.constant_at-4.type_inv; value = c.constant_at-4.ensures })
    (record { fits = c.constant_at-5.type_inv; value = c.constant_at-5.ensures })
    (record { fits = c.constant_at-6.type_inv; value = c.constant_at-6.ensures })
