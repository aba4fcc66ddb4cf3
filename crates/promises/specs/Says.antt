-- What the public calls promise: number, place, count and every lent byte, for all inputs.
use Rattle.std.specs.Prelude.{◌≡◌, Bool, true, false, List, ℤ, ℕ, ◌*◌, eqb, length, replicate}
use Rattle.rules.specs.Values.{pick}
use Rattle.rules.specs.Tapes.{read_tape, read_list, tape_bytes, list_of, all_bytes, all_in32}
use Rattle.rules.specs.Drawings as D
use Rattle.rules.specs.Pictures.{stride, picture, bitmap_file, height_file}
use Rattle.rules.specs.Slopes.{slopes_of}
use Rattle.rules.specs.Probes.{probe_fault, probed_value}
use Rattle.formula_rules.specs.FormulaReader.{reader}
use Rattle.merge_rules.specs.Merging.{merged_bytes, merge_fault, fault_clause}
use Rattle.order_rules.specs.Orders.{walked_in, order_fault}
use Rattle.swept_rules.specs.Swept.{offsets_of, swept, swept_fault}
use Rattle.picture.specs.Shapes.{grid_in}
use Rattle.picture.specs.declared.grid.Grid.{Grid}
use Rattle.answers.specs.declared.Answer.{Answer}
use Rattle.answers.specs.Lines.{draw_fault, tile_fault, slopes_fault}
use Rattle.answers.specs.Says.{Answered, written}
use Rattle.promises.specs.declared.Listed.{Listed}
use Rattle.promises.specs.declared.Point.{Point}
use Rattle.promises.specs.declared.Probed.{Probed}
use Rattle.promises.specs.declared.Sided.{Sided}
use Rattle.promises.specs.declared.Reason.{Reason}
use Rattle.promises.specs.Faults.{copy_fault, file_fault, text_fault, answer_bytes, in_front, reason_fault}
use Rattle.promises.specs.Sides.{point_in, probe_of, side_number, side_value}
use Rattle.promises.specs.Figures.{reason_in, reason_by}

-- What is lent to packing are numbers of 32 bits, as its type says; a done packing has read each of them: so unpacking
-- what it wrote gives them again.
pub record PackSays (n : ℕ) (zs : List ℤ) (o o' : List ℕ) (r : Answer) : Type 0 where
  pub answer : let g = read_list n zs in Answered (copy_fault g (tape_bytes g.tape) o) g.place 0 r
  pub out : let b = tape_bytes (read_list n zs).tape in o' ≡ written (copy_fault (read_list n zs) b o) b o
  pub lent : r.number ≡ 0 → all_in32 zs ≡ true

-- What is lent to unpacking are bytes, as its type says: so packing what it gave gives them again.
pub record UnpackSays (s : List ℕ) (o o' : List ℤ) (r : Listed) : Type 0 where
  pub lent : all_bytes s ≡ true
  pub answer : let g = read_tape s in Answered (copy_fault g (list_of g.tape.clauses) o) g.place 0 r.answer
  pub slots : let g = read_tape s in
      r.slots ≡ pick (eqb (copy_fault g (list_of g.tape.clauses) o) 0) g.tape.slots 0
  pub out : let b = list_of (read_tape s).tape.clauses in o' ≡ written (copy_fault (read_tape s) b o) b o

-- Two tapes into one, s and v: lines 1 to 9 of the first, then of the second, 21, 14, the place in whichever failed, and
-- "A call that draws no picture has count 0"; done, the output is the merged tape's bytes.
pub record MergeSays (s v o o' : List ℕ) (r : Answer) : Type 0 where
  pub answer : Answered (merge_fault s v (length o)) (fault_clause s v) 0 r
  pub out : o' ≡ written (merge_fault s v (length o)) (merged_bytes s v) o

-- A formula's text: "The lent buffer has 10,248 bytes, else 14 comes first; bytes after the tape stay", then 17, 18, 19,
-- "with place 0". Nothing is counted.
pub record TextAnswered (text o o' : List ℕ) (r : Answer) : Type 0 where
  pub answer : Answered (text_fault text o) 0 0 r
  pub out : o' ≡ written (text_fault text o) (in_front (answer_bytes (reader text)) o) o

-- "file making 10, 12, 14": n is the picture's length as it must be, b the file.
pub record FileSays (w h n : ℕ) (p b o o' : List ℕ) (r : Answer) : Type 0 where
  pub answer : Answered (file_fault w h n p b o) 0 0 r
  pub out : o' ≡ written (file_fault w h n p b o) b o

abbrev pub BitmapSays : ℕ → ℕ → List ℕ → List ℕ → List ℕ → Answer → Type 0
BitmapSays w h p o o' r = FileSays w h (h * stride w) p (bitmap_file w h p) o o' r

abbrev pub HeightsSay : ℕ → ℕ → List ℕ → List ℕ → List ℕ → Answer → Type 0
HeightsSay w h p o o' r = FileSays w h (w * h) p (height_file w h p) o o' r

-- The full drawing: the definition's picture and count.
pub record FullSays (isSolid : Bool) (s : List ℕ) (d : Grid) (o o' : List ℕ) (r : Answer) : Type 0 where
  pub answer : let g = grid_in d isSolid in
      Answered (draw_fault isSolid s g (length o)) (read_tape s).place (D.full_count (read_tape s).tape g) r
  pub pixels : let g = grid_in d isSolid in
      o' ≡ written (draw_fault isSolid s g (length o)) (picture isSolid g (D.drawn (read_tape s).tape g)) o

-- The drawing by tiles: the walk's picture and count, and the work buffer cleared.
pub record TilesSay (isSolid : Bool) (s : List ℕ) (d : Grid) (o o' w w' : List ℕ) (r : Answer) : Type 0 where
  pub answer : let g = grid_in d isSolid in
      let n = tile_fault isSolid s g (length o) (length w) in
      Answered n (read_tape s).place (D.walked (read_tape s).tape g).clauses r
  pub pixels : let g = grid_in d isSolid in
      let n = tile_fault isSolid s g (length o) (length w) in
      o' ≡ written n (picture isSolid g (D.walked (read_tape s).tape g).heights) o
  pub work : w' ≡ written (tile_fault isSolid s (grid_in d isSolid) (length o) (length w)) (replicate (length w) 0) w

-- The solid drawing by tiles in the order ks: lines 1 to 11, 12 for the picture and for the list, 13; the walk's picture
-- and count with its 64-tiles in that order, and the work buffer cleared.
pub record OrderSays (s : List ℕ) (d : Grid) (ks o o' w w' : List ℕ) (r : Answer) : Type 0 where
  pub answer : let g = grid_in d true in
      let n = order_fault s g ks (length o) (length w) in
      Answered n (read_tape s).place (walked_in ks (read_tape s).tape g).clauses r
  pub pixels : let g = grid_in d true in
      let n = order_fault s g ks (length o) (length w) in
      o' ≡ written n (picture true g (walked_in ks (read_tape s).tape g).heights) o
  pub work : w' ≡ written (order_fault s (grid_in d true) ks (length o) (length w)) (replicate (length w) 0) w

-- The probe: lines 1 to 9, then 20, and the side of the full tape's value at the rounded point. It draws no picture, so
-- its count is 0, and nothing is lent to be written.
pub record ProbeSays (s : List ℕ) (p : Point) (r : Probed) : Type 0 where
  pub answer : Answered (probe_fault s (point_in p)) (read_tape s).place 0 r.answer
  pub side : r.probe ≡ probe_of (probe_fault s (point_in p)) (probed_value s (point_in p))

-- The same without enums: the number of the case, and its value.
pub record SidedSays (s : List ℕ) (p : Point) (r : Sided) : Type 0 where
  pub answer : Answered (probe_fault s (point_in p)) (read_tape s).place 0 r.answer
  pub side : r.side ≡ side_number (probe_of (probe_fault s (point_in p)) (probed_value s (point_in p)))
  pub value : r.value ≡ side_value (probe_of (probe_fault s (point_in p)) (probed_value s (point_in p)))

-- The solid drawing by tiles with slopes: picture, count and work buffer as without them; "three slopes per pixel at
-- the visible sample", those of the full tape. "Slopes add nothing to the count."
pub record SlopesSay (s : List ℕ) (d : Grid) (o o' : List ℕ) (p p' : List ℤ) (w w' : List ℕ) (r : Answer)
    : Type 0 where
  pub answer : let g = grid_in d true in
      let n = slopes_fault s g (length o) (length p) (length w) in
      Answered n (read_tape s).place (D.walked (read_tape s).tape g).clauses r
  pub pixels : let g = grid_in d true in
      let n = slopes_fault s g (length o) (length p) (length w) in
      o' ≡ written n (picture true g (D.walked (read_tape s).tape g).heights) o
  pub slopes : let g = grid_in d true in
      let t = (read_tape s).tape in
      let n = slopes_fault s g (length o) (length p) (length w) in
      p' ≡ written n (slopes_of t g (D.walked t g).heights) p
  pub work : let g = grid_in d true in
      let n = slopes_fault s g (length o) (length p) (length w) in
      w' ≡ written n (replicate (length w) 0) w

-- The reason for the pixel in column i and row j of a flat picture: lines 1 to 11, then 23, then 13. "the side of the
-- region where the walk stopped (64, 8 or 1), both ends of the range there or the value twice, and how many clauses its
-- tape had". It draws no picture, so its count is 0; the work buffer is cleared.
pub record ReasonSays (s : List ℕ) (d : Grid) (i j : ℕ) (w w' : List ℕ) (r : Reason) : Type 0 where
  pub answer : Answered (reason_fault s (grid_in d false) i j (length w)) (read_tape s).place 0 r.answer
  pub figures : let g = grid_in d false in
      reason_in r ≡ reason_by (reason_fault s g i j (length w)) (read_tape s).tape g i j
  pub work : w' ≡ written (reason_fault s (grid_in d false) i j (length w)) (replicate (length w) 0) w

-- The swept picture, zs the path: lines 1 to 11, 25, 12 and 13; "each pixel must equal the full evaluation at all
-- positions. The returned count is 0." The work buffer is cleared when done.
pub record SweptSays (s : List ℕ) (d : Grid) (zs : List ℤ) (o o' w w' : List ℕ) (r : Answer) : Type 0 where
  pub answer : Answered (swept_fault s (grid_in d false) zs (length o) (length w)) (read_tape s).place 0 r
  pub pixels : let g = grid_in d false in
      o' ≡ written (swept_fault s g zs (length o) (length w)) (swept (read_tape s).tape (offsets_of zs) g) o
  pub work : w' ≡ written (swept_fault s (grid_in d false) zs (length o) (length w)) (replicate (length w) 0) w
