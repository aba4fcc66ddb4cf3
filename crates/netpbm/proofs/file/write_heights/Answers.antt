-- The tests, then the head, the greatest height and the heights.
use Rattle.std.proofs.Common.{◌≡◌, sym, ap, ◌∙◌, ◌+◌, ◌*◌, arith, length, List, ℕ}
use Rattle.std.proofs.lemmas.Result.{err_from_is_err_and}
use Rattle.rules.specs.Pictures.{head, height_file, digits_from}
use Rattle.netpbm.specs.Files.{sizes_fault}
use Rattle.promises.specs.Faults.{file_fault}
use Rattle.netpbm.proofs.Written.{then, whole}
use Rattle.netpbm.proofs.FileLaws.{Room, roomy, length_heights, length_sizes, length_head, file_refused, file_made}
use Rattle.netpbm.proofs.file.write_heights.Goals as goal

-- The tests ask for the file's length.
tested : (w h : ℕ) (p o : List ℕ)
    → sizes_fault w h (length p) (w * h) (length o) (length (head 53 w h) + (6 + 2 * length p))
    ≡ file_fault w h (w * h) p (height_file w h p) o
tested w h p o = ap (sizes_fault w h (length p) (w * h) (length o)) (sym (length_heights w h p))

room : (w h : ℕ) (p o : List ℕ)
    → 0 ≡ sizes_fault w h (length p) (w * h) (length o) (length (head 53 w h) + (6 + 2 * length p))
    → Room w h (length p) (w * h) (length o) (6 + 2 * length p)
room w h p o e = roomy 53 w h (length p) (w * h) (length o) (6 + 2 * length p) e

pub returns-in_err-check : goal.returns-in_err-check
returns-in_err-check c =
    let a = c.args in
    let p = err_from_is_err_and c.from_residual.result c.from_residual.ensures.1 in
    rw (p.1, p.2) (file_refused _ (c.in_err-check.ensures 53 ∙ tested a.width a.height a.picture.now a.out.now))

pub put_head-top-requires : goal.put_head-top-requires
put_head-top-requires c =
    let m = room c.args.width c.args.height c.args.picture.now c.args.out.now (c.in_ok-check.ensures 53) in
    record { width_bound = omega (arith, m); height_bound = omega (arith, m); height_in_bounds = omega (arith, m) }

pub put-rows-requires : goal.put-rows-requires
put-rows-requires c =
    omega (arith, room c.args.width c.args.height c.args.picture.now c.args.out.now (c.in_ok-check.ensures 53), c.put_head-top.ensures, length_sizes c.args.width c.args.height)

pub put_heights-requires : goal.put_heights-requires
put_heights-requires c =
    omega (arith, room c.args.width c.args.height c.args.picture.now c.args.out.now (c.in_ok-check.ensures 53), c.put_head-top.ensures, c.put-rows.ensures, length_sizes c.args.width c.args.height)

pub returns : goal.returns
unfolding height_file head digits_from
returns c =
    let a = c.args in
    let e = c.in_ok-check.ensures 53 ∙ tested a.width a.height a.picture.now a.out.now in
    let m = room c.args.width c.args.height c.args.picture.now c.args.out.now (c.in_ok-check.ensures 53) in
    file_made e
    (whole (then c.put_head-top.ensures (then c.put-rows.ensures c.put_heights.ensures)) (omega (arith, m, length_heights a.width a.height a.picture.now, length_head 53 a.width a.height)))
