-- `lines::put_refused` meets its contract: four parts, one after the other. Assumes nothing.
use Rattle.std.proofs.Common.{◌≡◌, subst, arith}
use Rattle.program_rules.specs.Program.{refused_line}
use Rattle.netpbm.specs.Appending.{Appends}
use Rattle.netpbm.proofs.Written.{then}
use Rattle.netpbm.proofs.Digits.{most_length}
use Rattle.program.proofs.lines.put_refused.Goals as goal

pub put_number-after_number-requires : goal.put_number-after_number-requires
put_number-after_number-requires c = omega (arith, most_length c.from.result)

pub put-after_at-requires : goal.put-after_at-requires
put-after_at-requires c =
    omega (arith, most_length c.from.result)

pub put_line-requires : goal.put_line-requires
put_line-requires c =
    omega (arith, most_length c.from.result)

pub returns : goal.returns
returns c =
    let n : c.from.result ≡ c.args.number = c.from.ensures in
    let p : c.from-2.result ≡ c.args.place = c.from-2.ensures in
    let v = then c.put-after_word.ensures
    (then c.put_number-after_number.ensures (then c.put-after_at.ensures c.put_line.ensures.0)) in (
      subst (λ x. Appends c.args.out.now 0 (refused_line x c.args.place) c.put_line.new.out c.put_line.result) n
          (subst (λ x. Appends c.args.out.now 0 (refused_line c.from.result x) c.put_line.new.out c.put_line.result) p v),
      omega (arith, most_length c.from.result),
    )
