-- Refused with the output as it was, or the bitmap file of the walk's picture.
use Rattle.std.proofs.Common.{refl, sym, ◌∙◌, ◌≤◌, false, Ok, length, arith}
use lib.Seq.{length-take-le}
use Rattle.std.proofs.lemmas.Result.{err_from_is_err_and}
use Rattle.faults.proofs.NumberLaws.{some_number}
use Rattle.picture.specs.Shapes.{grid_in}
use Rattle.picture.proofs.PictureSizes.{flat_size_lem}
use Rattle.answers.specs.Says.{answer_of}
use Rattle.program.proofs.Layers.{Tiled, short_start, tiled, sided, pixels, bitmap_length, layer_refused, layer_done}
use Rattle.program.proofs.flat.flat_file.Goals.{In_ok-count}
use Rattle.program.proofs.flat.flat_file.Goals as goal

-- The picture has room for the part that is lent.
pub slice_bounds-picture-end : goal.slice_bounds-picture-end
slice_bounds-picture-end c = omega (arith, c.picture_length-size.ensures.most, c.zero_bytes-picture.ensures)

pub slice_bounds-by_tiles-end : goal.slice_bounds-by_tiles-end
slice_bounds-by_tiles-end c =
    let room : c.picture_length-size.result ≤ length c.zero_bytes-picture.result = omega (arith, c.picture_length-size.ensures.most, c.zero_bytes-picture.ensures) in
    sym (length-take-le _ _ room)

pub returns-in_err-count : goal.returns-in_err-count
returns-in_err-count c =
    let d = tiled c.zero_bytes-picture.result c.zero_bytes-work.result c.picture_length-size.ensures c.zero_bytes-picture.ensures c.zero_bytes-work.ensures
    c.by_tiles.auto.picture c.in_err-count.ensures in
    let p = err_from_is_err_and c.from_residual.result c.from_residual.ensures.1 in
    rw (p.1, p.2) (layer_refused d _ _ (some_number _) refl refl)

-- What the drawing leaves.
drawn : (c : In_ok-count) → Tiled false c.args.tape.now c.args.grid c.picture_length-size.result c.zero_bytes-picture.result c.by_tiles.new.picture c.zero_bytes-work.result c.by_tiles.new.work (answer_of (Ok c.in_ok-count.count))
drawn c =
    tiled c.zero_bytes-picture.result c.zero_bytes-work.result c.picture_length-size.ensures c.zero_bytes-picture.ensures c.zero_bytes-work.ensures
    c.by_tiles.auto.picture c.in_ok-count.ensures

pub file_length-length-requires : goal.file_length-length-requires
file_length-length-requires c =
    let s = sided (drawn (goal.at.file_length-length-requires c).In_ok-count) refl in
    let most = c.picture_length-size.ensures.most in
    record {
      width_bound = omega (arith, s.width_most);
      height_bound = omega (arith, s.height_most);
      rest_bound = omega (arith, most);
    }

pub slice_bounds-picture-end-2 : goal.slice_bounds-picture-end-2
slice_bounds-picture-end-2 c = (drawn (goal.at.slice_bounds-picture-end-2 c).In_ok-count).back.room

pub slice_bounds-write_bitmap-end : goal.slice_bounds-write_bitmap-end
slice_bounds-write_bitmap-end c = sym (drawn (goal.at.slice_bounds-write_bitmap-end c).In_ok-count).back.size

-- The file fits the output.
pub slice_bounds-write_bitmap-end-2 : goal.slice_bounds-write_bitmap-end-2
slice_bounds-write_bitmap-end-2 c =
    let s = sided (drawn (goal.at.slice_bounds-write_bitmap-end-2 c).In_ok-count) refl in
    let fits : c.file_length-length.result ≤ length c.args.out.now =
    omega (arith, c.file_length-length.ensures 52, c.picture_length-size.ensures.most, c.requires, short_start 52 s) in
    fits

pub slice_bounds-write_bitmap-end-3 : goal.slice_bounds-write_bitmap-end-3
slice_bounds-write_bitmap-end-3 c =
    let s = sided (drawn (goal.at.slice_bounds-write_bitmap-end-3 c).In_ok-count) refl in
    let fits : c.file_length-length.result ≤ length c.args.out.now =
    omega (arith, c.file_length-length.ensures 52, c.picture_length-size.ensures.most, c.requires, short_start 52 s) in
    sym (length-take-le _ _ fits)

pub returns : goal.returns
returns c =
    let d = drawn (goal.at.returns c).In_ok-count in
    let s = sided (drawn (goal.at.returns c).In_ok-count) refl in
    let fits : c.file_length-length.result ≤ length c.args.out.now =
    omega (arith, c.file_length-length.ensures 52, c.picture_length-size.ensures.most, c.requires, short_start 52 s) in
    let k = flat_size_lem false (grid_in c.args.grid false) refl in
    layer_done d _ _ _ _ _ refl c.write_bitmap.ensures k fits
    (bitmap_length c.args.grid _ _ _ d.back.size (pixels d refl ∙ sym k) (c.file_length-length.ensures 52)) refl
