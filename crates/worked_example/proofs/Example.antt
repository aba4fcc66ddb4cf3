-- That no hypothesis of the theory is impossible: tapes and grids, flat and solid, that are accepted, with a cut, a
-- filled and a skipped region, and what their walks give, by computation alone.
use mathlib.Core.Path.{◌≡◌, refl}
use mathlib.Core.Bool.{Bool, true, false}
use mathlib.Core.Logic.{inl, inr}
use mathlib.Core.List.{List, [], ◌∷◌, ◌++◌, map}
use lib.IntN.{pos}
use Prim.Native.Nat.{ℕ, ◌*◌}
use native.Mathlib.Omega.{arith}
use lib.ListN.{length, get_or, take, replicate}
use Rattle.rules.specs.Values.{is_neg, smaller, larger, sum, difference, product, square, root_from, root_of}
use Rattle.rules.specs.Values.{unary_value, binary_value, value_of, sum_range, difference_range, product_range, negated_range, holds_zero}
use Rattle.rules.specs.Values.{absolute_range, square_range, root_range, smaller_range, larger_range, unary_range, multiplied_range, binary_range}
use Rattle.rules.specs.Values.{range_of}
use Rattle.rules.specs.Values.{side_below, side_above, choice_of}
use Rattle.rules.specs.Tapes.{Tape, run_from, value_at, material, range_from, range_over, choices_from, reads, is_in}
use Rattle.rules.specs.Tapes.{without, on_clause, short_from, last_out, shortened, bad_slot, bad_unused, bad_constant}
use Rattle.rules.specs.Tapes.{bad_read, clause_fault, fault_from, read_clauses, counts_ok, signed4, raw_in, raws_from}
use Rattle.rules.specs.Tapes.{head_ok, read_tape, raws_of, read_list, tape_bytes, list_of, all_bytes, all_in32}
use Rattle.rules.specs.Tapes.{head_counts, edition}
use Rattle.rules.specs.Drawings.{Grid, solid, sample_at, grid_fault, column_from, row_from, rows_from, drawn, Region}
use Rattle.rules.specs.Drawings.{region, lesser, box_of, state, raise_row, raise_rows, filled, row_high, rows_high}
use Rattle.rules.specs.Drawings.{hidden, along_x, along_y, along_z, children, fold, short_tape, on_sample, visit}
use Rattle.rules.specs.Drawings.{sides, whole, walked, flat_bound, part_of, short_after, OneOf, Nested, InWalk}
use Rattle.rules.specs.Drawings.{last_in, Tiles, RaisesTo}
use Rattle.rules.specs.Slopes.{listed, three_at, slopes_at, slopes_of, sloped_at, sloped_from, slope_of, unary_slope}
use Rattle.rules.specs.Slopes.{sloped_of, binary_slope}
use Rattle.rules.specs.Pictures.{byte_of, row_bytes, bits_of, picture, digits_from, head, clean_row, clean_rows}
use Rattle.rules.specs.Pictures.{bitmap_file}
use Rattle.rules.proofs.Bytes.{both_ways}
use Rattle.rules.proofs.Runs.{accepted_good}
use Rattle.rules.proofs.Columns.{drawn_most}
use Rattle.rules.proofs.SlopePixels.{visible_slopes}
use Rattle.rules.proofs.Tiles.{demand_3}

-- The records of a tape of whole constants: k stands for k · 65,536.
abbrev pub head_record : ℕ → ℕ → List ℕ → List ℕ
head_record slots clauses rest = 84 ∷ (80 ∷ (1 ∷ (slots ∷ (clauses ∷ (0 ∷ (0 ∷ (0 ∷ rest)))))))

abbrev pub clause_record : ℕ → ℕ → ℕ → ℕ → ℕ → List ℕ → List ℕ
clause_record o d l r k rest = 67 ∷ (76 ∷ (o ∷ (d ∷ (l ∷ (r ∷ (0 ∷ (0 ∷ (k ∷ (0 ∷ rest)))))))))

-- A grid from 0 on whose step is s along x, and 1 along y and z.
abbrev pub grid_of : ℕ → ℕ → ℕ → ℕ → Grid
grid_of w h d s =
    record {
      width = w;
      height = h;
      depth = d;
      origin_x = pos 0;
      origin_y = pos 0;
      origin_z = pos 0;
      step_x = pos s;
      step_y = pos 65536;
      step_z = pos 65536;
    }

-- A tape of ten clauses with a minimum and a maximum: the larger of z − 8 and of the smaller of x − 10 and 66 − x. Its
-- material is where x is below 10 or above 66, and z is below 8.
abbrev pub ten_bytes : List ℕ
ten_bytes =
    head_record 3 10
    (clause_record 1 0 0 0 0
    (clause_record 0 1 0 0 66
    (clause_record 10 1 1 0 0
    (clause_record 0 2 0 0 10
    (clause_record 10 0 0 2 0
    (clause_record 12 0 0 1 0
    (clause_record 3 1 0 0 0 (clause_record 0 2 0 0 8 (clause_record 10 1 1 2 0 (clause_record 13 0 0 1 0 []))))))))))

abbrev pub ten : Tape
ten = (read_tape ten_bytes).tape

-- Wider than 64 and higher than 8, so that there are two 64-tiles, and 8-regions cut off at the edge.
abbrev pub ten_flat : Grid
ten_flat = grid_of 72 9 0 65536

abbrev pub ten_solid : Grid
ten_solid = grid_of 6 2 9 131072

-- The paper's tape of three clauses, x − 2 or z − 2 by its first opcode, on the paper's grids.
abbrev pub three_bytes : ℕ → List ℕ
three_bytes o = head_record 2 3 (clause_record o 0 0 0 0 (clause_record 0 1 0 0 2 (clause_record 10 0 0 1 0 [])))

abbrev pub three : ℕ → Tape
three o = (read_tape (three_bytes o)).tape

abbrev pub three_flat : Grid
three_flat = grid_of 3 2 0 65536

abbrev pub three_solid : Grid
three_solid = grid_of 1 1 4 65536

-- x − x, which is 0 everywhere and whose ranges do not show it: every region of a full 64-tile is cut.
abbrev pub two_bytes : List ℕ
two_bytes = head_record 2 2 (clause_record 1 0 0 0 0 (clause_record 10 1 0 0 0 []))

abbrev pub two : Tape
two = (read_tape two_bytes).tape

-- Whether the low and the high end of a region's range are below 0: both where it is filled, neither where it is
-- skipped, the low one where it is cut.
abbrev pub signs : Tape → Grid → Region → List Bool
signs t g r = let x = range_over t (box_of g r) in is_neg x.low ∷ (is_neg x.high ∷ [])

abbrev pub fills : List Bool
fills = true ∷ (true ∷ [])

abbrev pub cuts : List Bool
cuts = true ∷ (false ∷ [])

abbrev pub skips : List Bool
skips = false ∷ (false ∷ [])

abbrev pub tile : Region
tile = region 0 0 0 64

abbrev pub tile_tape : Grid → Tape
tile_tape g = short_tape ten g tile

abbrev pub sixteen : Region
sixteen = region 0 0 0 16

abbrev pub sixteen_tape : Tape
sixteen_tape = short_tape (tile_tape ten_solid) ten_solid sixteen

-- The regions around those of side 4 in the solid.
abbrev pub solid_to : List Region
solid_to = tile ∷ (sixteen ∷ [])

-- The second 8-region of the first tile, which the flat walk cuts, and the tape that its samples are run with.
abbrev pub down_to : List Region
down_to = tile ∷ (region 8 0 0 8 ∷ [])

abbrev pub down_tape : Tape
down_tape = short_after ten (map (box_of ten_flat) down_to)

-- A tape and a grid are accepted, and the walk gives the full drawing's heights, with this count.
pub record Checked (s : List ℕ) (isSolid : Bool) (g : Grid) (count : ℕ) : Type 0 where
  pub tape : (read_tape s).number ≡ 0
  pub kind : isSolid ≡ solid g
  pub grid : grid_fault isSolid g ≡ 0
  pub same : (walked (read_tape s).tape g).heights ≡ drawn (read_tape s).tape g
  pub counted : (walked (read_tape s).tape g).clauses ≡ count

pub checked : {s : List ℕ} {isSolid : Bool} {g : Grid} {count : ℕ} → (read_tape s).number ≡ 0 → isSolid ≡ solid g
    → grid_fault isSolid g ≡ 0 → (walked (read_tape s).tape g).heights ≡ drawn (read_tape s).tape g
    → (walked (read_tape s).tape g).clauses ≡ count → Checked s isSolid g count
checked t k f e c = record { tape = t; kind = k; grid = f; same = e; counted = c }

pub record Computed : Type 0 where
  pub ten_flat_lem : Checked ten_bytes false ten_flat 692
  pub ten_solid_lem : Checked ten_bytes true ten_solid 146
  pub ten_bytes_lem : all_bytes ten_bytes ≡ true
  pub ten_list : (read_list 3 (list_of ten.clauses)).number ≡ 0
  pub ten_words : all_in32 (list_of ten.clauses) ≡ true
  -- The flat walk cuts both 64-tiles. Of the 8-regions in the first the first is filled, the second cut to samples, the
  -- third skipped.
  pub flat_tiles_lem : map (signs ten ten_flat) (children ten_flat whole 64) ≡ cuts ∷ (cuts ∷ [])
  pub flat_eights_lem : map (signs (tile_tape ten_flat) ten_flat) (take 3 (children ten_flat tile 8))
      ≡ fills ∷ (cuts ∷ (skips ∷ []))
  -- From ten clauses the tape comes down to three: the subtraction from x and the two that it reads.
  pub flat_down : InWalk ten_flat down_to
  pub flat_short : length down_tape.clauses ≡ 3
  pub flat_value : value_at down_tape (sample_at ten_flat 9 7 0) ≡ value_at ten (sample_at ten_flat 9 7 0)
  pub flat_ones : length (children ten_flat (region 8 0 0 8) 1) ≡ 64
  -- The solid walk cuts its 64-tile and the region of side 16 in it. Of those of side 4 the first two are skipped, the
  -- third is filled, the fourth cut to samples, and the fifth is hidden by the third.
  pub solid_tiles_lem : map (signs ten ten_solid) (children ten_solid whole 64) ≡ cuts ∷ []
  pub solid_sixteens : map (signs (tile_tape ten_solid) ten_solid) (children ten_solid tile 16) ≡ cuts ∷ []
  pub solid_fours : children ten_solid sixteen 4
      ≡ region 0 0 8 4
      ∷ (region 4 0 8 4 ∷ (region 0 0 4 4 ∷ (region 4 0 4 4 ∷ (region 0 0 0 4 ∷ (region 4 0 0 4 ∷ [])))))
  pub solid_signs : map (signs sixteen_tape ten_solid) (take 4 (children ten_solid sixteen 4))
      ≡ skips ∷ (skips ∷ (fills ∷ (cuts ∷ [])))
  -- The third one sets the height of the pixel (1, 1), with the tape of the region of side 16.
  pub solid_down : InWalk ten_solid (solid_to ++ (region 0 0 4 4 ∷ []))
  pub solid_raises : RaisesTo ten_solid (region 0 0 4 4) 1 1 7
  pub solid_height : get_or (drawn ten ten_solid) 7 0 ≡ 8
  pub solid_slopes : listed (slopes_at (short_after ten (map (box_of ten_solid) solid_to)) (sample_at ten_solid 1 1 7))
      ≡ pos 0 ∷ (pos 0 ∷ (pos 65536 ∷ []))
  pub solid_ones : length (children ten_solid (region 4 0 4 4) 1) ≡ 16
  pub solid_seen : hidden ten_solid (region 0 0 4 4) (replicate 12 0) ≡ false
  pub solid_hidden : hidden ten_solid (region 0 0 0 4) (filled ten_solid (region 0 0 4 4) (replicate 12 0)) ≡ true
  -- The bound of a flat 64-tile's part is reached, so no lower one holds.
  pub two_accepted : (read_tape two_bytes).number ≡ 0
  pub bound_reached : part_of two (grid_of 64 64 0 65536) tile (state [] 0) ≡ flat_bound * length two.clauses
  -- The paper's figures: the file `50 34 0A 33 20 32 0A C0 C0` with count 24 (3 + 3 + 18), and height 2 with count 18.
  pub three_flat_lem : Checked (three_bytes 1) false three_flat 24
  pub three_file : bitmap_file 3 2 (picture false three_flat (walked (three 1) three_flat).heights)
      ≡ 80 ∷ (52 ∷ (10 ∷ (51 ∷ (32 ∷ (50 ∷ (10 ∷ (192 ∷ (192 ∷ []))))))))
  pub three_solid_lem : Checked (three_bytes 3) true three_solid 18
  pub three_heights : (walked (three 3) three_solid).heights ≡ 2 ∷ []

pub computed : Computed
unfolding Nested OneOf short_after all_bytes all_in32 list_of raws_of read_list read_tape head_ok counts_ok head_counts edition raws_from
    raw_in
    signed4 read_clauses fault_from clause_fault bad_slot bad_unused bad_constant bad_read grid_fault drawn rows_from row_from
    column_from part_of walked sides visit on_sample fold children along_z along_y along_x hidden rows_high row_high filled
    raise_rows raise_row box_of lesser sample_at shortened last_out short_from on_clause is_in without reads choices_from
    range_over range_from material value_at run_from choice_of side_above side_below range_of binary_range multiplied_range unary_range
    larger_range smaller_range root_range square_range absolute_range holds_zero negated_range product_range difference_range sum_range value_of binary_value unary_value
    root_of root_from square product difference sum larger smaller bitmap_file clean_rows clean_row head digits_from picture
    bits_of row_bytes byte_of slopes_at sloped_at sloped_from sloped_of slope_of unary_slope binary_slope
computed =
    record {
      ten_flat_lem = checked refl refl refl refl refl;
      ten_solid_lem = checked refl refl refl refl refl;
      ten_bytes_lem = refl;
      ten_list = refl;
      ten_words = refl;
      flat_tiles_lem = refl;
      flat_eights_lem = refl;
      flat_down = (inl refl, (inr (inl refl), tt));
      flat_short = refl;
      flat_value = refl;
      flat_ones = refl;
      solid_tiles_lem = refl;
      solid_sixteens = refl;
      solid_fours = refl;
      solid_signs = refl;
      solid_down = (inl refl, (inl refl, (inr (inr (inl refl)), tt)));
      solid_raises = record {
        x_from = omega arith;
        x_to = omega arith;
        y_from = omega arith;
        y_to = omega arith;
        height = refl;
      };
      solid_height = refl;
      solid_slopes = refl;
      solid_ones = refl;
      solid_seen = refl;
      solid_hidden = refl;
      two_accepted = refl;
      bound_reached = refl;
      three_flat_lem = checked refl refl refl refl refl;
      three_file = refl;
      three_solid_lem = checked refl refl refl refl refl;
      three_heights = refl;
    }

-- So the demands hold of something: the tape of ten clauses meets what each of them asks for.
pub ten_tiles : Tiles ten
ten_tiles = demand_3 ten_bytes computed.ten_flat_lem.tape

pub flat_by_theorem : (walked ten ten_flat).heights ≡ drawn ten ten_flat
flat_by_theorem = ten_tiles.same_picture ten_flat false computed.ten_flat_lem.kind computed.ten_flat_lem.grid

pub solid_by_theorem : (walked ten ten_solid).heights ≡ drawn ten ten_solid
solid_by_theorem = ten_tiles.same_picture ten_solid true computed.ten_solid_lem.kind computed.ten_solid_lem.grid

pub value_by_theorem : value_at down_tape (sample_at ten_flat 9 7 0) ≡ value_at ten (sample_at ten_flat 9 7 0)
unfolding last_in
value_by_theorem =
    ten_tiles.same_value_in_walk ten_flat false computed.ten_flat_lem.kind computed.ten_flat_lem.grid down_to
    computed.flat_down 9 7 0 (omega arith) (omega arith)

pub slopes_by_theorem : three_at (slopes_of ten ten_solid (drawn ten ten_solid)) 7
    ≡ listed (slopes_at (short_after ten (map (box_of ten_solid) solid_to)) (sample_at ten_solid 1 1 7))
slopes_by_theorem =
    (visible_slopes ten (accepted_good ten_bytes computed.ten_flat_lem.tape) ten_solid true computed.ten_solid_lem.kind
    computed.ten_solid_lem.grid (drawn ten ten_solid) (drawn_most ten ten_solid)
    ).set_by 1 1 7 computed.solid_height solid_to (region 0 0 4 4) computed.solid_down computed.solid_raises

pub ten_by_tape : (tape_bytes ten ≡ ten_bytes) × (read_list ten.slots (list_of ten.clauses) ≡ read_tape ten_bytes)
ten_by_tape = both_ways.by_tape ten_bytes computed.ten_bytes_lem computed.ten_flat_lem.tape

pub ten_by_list : let t = (read_list 3 (list_of ten.clauses)).tape in
    (read_tape (tape_bytes t) ≡ read_list 3 (list_of ten.clauses)) × (list_of t.clauses ≡ list_of ten.clauses)
ten_by_list = both_ways.by_list 3 (list_of ten.clauses) computed.ten_words computed.ten_list
