-- The program: a grid record and a tape in, a Netpbm file and the count out, or one line that says what is refused.
use Rattle.std.specs.Prelude.{Bool, false, ◌&&◌, ◌||◌, not, List, [], ◌∷◌, ◌++◌, ℕ, suc, ◌+◌, ◌*◌, eqb, ltb, leb, length, get_or, drop}
use Rattle.rules.specs.Values.{pick, first_fault, when}
use Rattle.rules.specs.Tapes.{clause_limit, place_of, read_tape, word, two, four, signed4}
use Rattle.rules.specs.Drawings.{Grid, solid, grid_fault, walked}
use Rattle.rules.specs.Pictures.{numeral, picture, bitmap_file, height_file}

-- "It reads a grid record, then the tape: `47 52`, width, height, depth (2 bytes each), three origins, three steps (4
-- bytes signed each). Depth 0 here means flat; the third origin is then z and the third step is unread."
abbrev pub record_length : ℕ
record_length = 32

unfoldable pub grid_record : List ℕ → Grid
grid_record s =
    record {
      width = word 2 s;
      height = word 4 s;
      depth = word 6 s;
      origin_x = signed4 8 s;
      origin_y = signed4 12 s;
      origin_z = signed4 16 s;
      step_x = signed4 20 s;
      step_y = signed4 24 s;
      step_z = signed4 28 s;
    }

-- A grid as a record.
unfoldable pub grid_bytes : Grid → List ℕ
grid_bytes g =
    71
    ∷ (82
    ∷ (two g.width
    ++ (two g.height
    ++ (two g.depth
    ++ (four g.origin_x
    ++ (four g.origin_y ++ (four g.origin_z ++ (four g.step_x ++ (four g.step_y ++ four g.step_z)))))))))

abbrev pub tape_after : List ℕ → List ℕ
tape_after s = drop record_length s

-- No tape is longer than one of 6,144 clauses. One byte more than the longest input is enough to read of any: what is
-- longer is refused whatever follows.
abbrev pub longest_input : ℕ
longest_input = record_length + (8 + 10 * clause_limit)

abbrev pub input_limit : ℕ
input_limit = suc longest_input

-- Lines 15 and 16: "input below 32 bytes or grid mark wrong"; "depth above 0 and width or height above 128".
unfoldable pub record_ok : List ℕ → Bool
record_ok s = leb record_length (length s) && (eqb (get_or s 0 0) 71 && eqb (get_or s 1 0) 82)

abbrev pub solid_limit : ℕ
solid_limit = 128

unfoldable pub too_large : Grid → Bool
too_large g = solid g && (ltb solid_limit g.width || ltb solid_limit g.height)

-- "The program checks 15, 16, then as drawing." Its own buffers are as long as 12 and 13 ask for, so these never come.
abbrev pub program_lines : List ℕ → List ℕ
program_lines s =
    let g = grid_record s in
    when (not (record_ok s)) 15
    ∷ (when (too_large g) 16 ∷ ((read_tape (tape_after s)).number ∷ (grid_fault (solid g) g ∷ [])))

unfoldable pub program_fault : List ℕ → ℕ
program_fault s = first_fault (program_lines s)

unfoldable pub program_place : List ℕ → ℕ
program_place s = place_of (program_fault s) (read_tape (tape_after s)).place

-- "The picture goes to standard output": the file of a grid's heights.
unfoldable pub file_of : Grid → List ℕ → List ℕ
file_of g h =
    pick (solid g) (height_file g.width g.height h) (bitmap_file g.width g.height (picture false g h))

-- "the count as a decimal line to descriptor 2".
abbrev pub count_line : ℕ → List ℕ
count_line c = numeral c ++ (10 ∷ [])

-- "`refused N at P` and a newline".
abbrev pub refused_line : ℕ → ℕ → List ℕ
refused_line n p =
    (114 ∷ (101 ∷ (102 ∷ (117 ∷ (115 ∷ (101 ∷ (100 ∷ (32 ∷ []))))))))
    ++ (numeral n ++ ((32 ∷ (97 ∷ (116 ∷ (32 ∷ [])))) ++ (numeral p ++ (10 ∷ []))))

-- What comes back, and what goes to descriptors 1 and 2.
pub record Output : Type 0 where
  pub number : ℕ
  pub place : ℕ
  pub count : ℕ
  pub first : List ℕ
  pub second : List ℕ

-- "The program draws by tiles."
unfoldable pub program_of : List ℕ → Output
program_of s =
    let n = program_fault s in
    let p = program_place s in
    let g = grid_record s in
    let d = walked (read_tape (tape_after s)).tape g in
    pick (eqb n 0)
    (record {
      number = 0;
      place = 0;
      count = d.clauses;
      first = file_of g d.heights;
      second = count_line
          d.clauses;
    })
    (record { number = n; place = p; count = 0; first = refused_line n p; second = [] })
