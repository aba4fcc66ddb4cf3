-- The tests, then the head and the rows.
use Rattle.std.proofs.Common.{◌≡◌, sym, ◌∙◌, ◌+◌, ◌*◌, arith, length, List, ℕ}
use Rattle.std.proofs.lemmas.Result.{err_from_is_err_and}
use Rattle.rules.specs.Pictures.{stride, head, bitmap_file}
use Rattle.netpbm.specs.Files.{sizes_fault}
use Rattle.promises.specs.Faults.{file_fault}
use Rattle.netpbm.proofs.Written.{then, whole}
use Rattle.netpbm.proofs.FileLaws.{Room, roomy, as_long, length_bitmap, length_sizes, length_head, file_refused, file_made}
use Rattle.netpbm.proofs.file.write_bitmap.Goals as goal

-- The tests ask for the file's length, where the picture has its own.
tested : (w h : ℕ) (p o : List ℕ)
    → sizes_fault w h (length p) (h * stride w) (length o) (length (head 52 w h) + length p)
    ≡ file_fault w h (h * stride w) p (bitmap_file w h p) o
tested w h p o =
    as_long w h (length p) (h * stride w) (length o) (length (head 52 w h) + length p) (length (bitmap_file w h p))
    (λ e. sym (length_bitmap w h p e))

room : (w h : ℕ) (p o : List ℕ)
    → 0 ≡ sizes_fault w h (length p) (h * stride w) (length o) (length (head 52 w h) + (length p))
    → Room w h (length p) (h * stride w) (length o) (length p)
room w h p o e = roomy 52 w h (length p) (h * stride w) (length o) (length p) e

pub returns-in_err-check : goal.returns-in_err-check
returns-in_err-check c =
    let a = c.args in
    let p = err_from_is_err_and c.from_residual.result c.from_residual.ensures.1 in
    rw (p.1, p.2) (file_refused _ (c.in_err-check.ensures 52 ∙ tested a.width a.height a.picture.now a.out.now))

pub put_head-rows-requires : goal.put_head-rows-requires
put_head-rows-requires c =
    let m = room c.args.width c.args.height c.args.picture.now c.args.out.now (c.in_ok-check.ensures 52) in
    record { width_bound = omega (arith, m); height_bound = omega (arith, m); height_in_bounds = omega (arith, m) }

pub put_rows-requires : goal.put_rows-requires
put_rows-requires c =
    let a = c.args in
    let m = room c.args.width c.args.height c.args.picture.now c.args.out.now (c.in_ok-check.ensures 52) in
    record {
      le_width = m.sides.width_least;
      width_bound = omega (arith, m);
      picture_len = m.picture;
      picture_in_bounds = omega (arith, m, c.put_head-rows.ensures, length_sizes a.width a.height);
    }

pub returns : goal.returns
unfolding bitmap_file head
returns c =
    let a = c.args in
    let e = c.in_ok-check.ensures 52 ∙ tested a.width a.height a.picture.now a.out.now in
    let m = room c.args.width c.args.height c.args.picture.now c.args.out.now (c.in_ok-check.ensures 52) in
    file_made e
    (whole (then c.put_head-rows.ensures c.put_rows.ensures) (omega (arith, m, length_bitmap a.width a.height a.picture.now m.picture, length_head 52 a.width a.height)))
