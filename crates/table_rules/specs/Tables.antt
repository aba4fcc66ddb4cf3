-- T-13: "Layer writer and preview draw rectangles of whole 64-tiles of one flat picture, by turns, each into its own
-- buffer." The table that they share, what a call refuses, and what it draws, for every table.
use Rattle.std.specs.Prelude.{◌≡◌, Bool, true, false, ◌&&◌, ◌||◌, not, List, [], ◌∷◌, ◌++◌, pos, ℕ, zero, suc, ◌+◌, ◌-◌, ◌*◌, ◌/◌, ◌%◌, ◌^◌, eqb, ltb, leb, length, get_or, take, drop, replicate}
use Rattle.rules.specs.Values.{pick, first_fault, when, is_neg, Clause}
use Rattle.rules.specs.Tapes.{Tape, place_of, read_tape, read_list, list_of, range_over}
use Rattle.rules.specs.Marks.{kept_tape, marks_over, whole_marks, mark_bytes}
use Rattle.rules.specs.Drawings.{Grid, work_limit, grid_fault, Region, region, box_of, State, children, fold}
use Rattle.rules.specs.Drawings.{fill_in, visit}
use Rattle.rules.specs.Pictures.{stride, picture, picture_size}
use Rattle.program_rules.specs.Program.{grid_bytes}
use Rattle.order_rules.specs.Orders.{across, numbers_from, cleared}

-- "They share a lent table of 163,936 bytes: the tape, zeros up to byte 65,536, the program's grid record with depth
-- and third step 0, then for 64 tiles in the walk's order a byte [...] and 1,536 bytes".
abbrev pub tape_room : ℕ
tape_room = 65536

abbrev pub head_length : ℕ
head_length = 65568

abbrev pub entry_length : ℕ
entry_length = 1537

abbrev pub mark_room : ℕ
mark_room = 1536

abbrev pub tile_limit : ℕ
tile_limit = 64

abbrev pub table_length : ℕ
table_length = 163936

unfoldable pub zeros : ℕ → List ℕ
zeros n = replicate n 0

-- The grid of a flat picture, "with depth and third step 0": it reads neither.
abbrev pub flat_grid : Grid → Grid
flat_grid g =
    record {
      width = g.width;
      height = g.height;
      depth = 0;
      origin_x = g.origin_x;
      origin_y = g.origin_y;
      origin_z = g.origin_z;
      step_x = g.step_x;
      step_y = g.step_y;
      step_z = pos 0;
    }

unfoldable pub table_head : List ℕ → Grid → List ℕ
table_head s g = s ++ (zeros (tape_room - length s) ++ grid_bytes (flat_grid g))

-- "Beginning it [...] sets all to unknown."
unfoldable pub begun : List ℕ → Grid → List ℕ
begun s g = table_head s g ++ zeros (tile_limit * entry_length)

-- "64 tiles in the walk's order": rows upward in number, then columns. How many there are in a row and in a column, and
-- the one with the number i.
abbrev pub tiles_across : Grid → ℕ
tiles_across g = across g.width

abbrev pub tiles_down : Grid → ℕ
tiles_down g = across g.height

unfoldable pub tile_of : Grid → ℕ → Region
tile_of g i = region (64 * (i % tiles_across g)) (64 * (i / tiles_across g)) 0 64

-- An entry: "a byte, 0 unknown, 1 full, 2 empty, 3 its shortened tape, and 1,536 bytes, for 3 two bits a clause, 0 to 3
-- as T-08 lists them, lowest first, else 0." Its place, its bytes, its verdict, and its marks for n clauses.
abbrev pub entry_at : ℕ → ℕ
entry_at i = head_length + entry_length * i

unfoldable pub entry_in : ℕ → List ℕ → List ℕ
entry_in i table = take entry_length (drop (entry_at i) table)

abbrev pub verdict_in : List ℕ → ℕ
verdict_in entry = get_or entry 0 0

abbrev pub mark_in : List ℕ → ℕ → ℕ
mark_in entry p = get_or entry (1 + p / 4) 0 / 2 ^ (2 * (p % 4)) % 4

unfoldable pub marks_from : List ℕ → ℕ → ℕ → List ℕ
marks_from entry p zero = []
marks_from entry p (suc n) = mark_in entry p ∷ marks_from entry (suc p) n

abbrev pub marks_in : Tape → List ℕ → List ℕ
marks_in t entry = marks_from entry 0 (length t.clauses)

-- The true verdict on a region of side 64, its marks, and the whole entry that says so.
unfoldable pub verdict_of : Tape → Grid → Region → ℕ
verdict_of t g r = let x = range_over t (box_of g r) in pick (is_neg x.high) 1 (pick (is_neg x.low) 3 2)

unfoldable pub tile_marks : Tape → Grid → Region → List ℕ
tile_marks t g r = marks_over t (whole_marks t.clauses) (box_of g r)

abbrev pub padded : List ℕ → List ℕ
padded bytes = bytes ++ zeros (mark_room - length bytes)

unfoldable pub entry_of : Tape → Grid → Region → List ℕ
entry_of t g r =
    let v = verdict_of t g r in v ∷ padded (pick (eqb v 3) (mark_bytes (tile_marks t g r)) [])

unfoldable pub put_entry : ℕ → List ℕ → List ℕ → List ℕ
put_entry i entry table = take (entry_at i) table ++ (entry ++ drop (entry_at i + entry_length) table)

-- "24 when the table's length is wrong, its first 65,568 bytes are not those of the caller's tape and grid, a verdict
-- is none of the four, or a kept tape copies a side of neither minimum nor maximum or, as a list, would be turned
-- down". The verdicts and kept tapes are those of all 64 entries; bytes that this does not name are not looked at.
abbrev pub is_choice : ℕ → Bool
is_choice opcode = eqb opcode 12 || eqb opcode 13

unfoldable pub copies_ok : List Clause → List ℕ → Bool
copies_ok [] ms = true
copies_ok (c ∷ cs) [] = true
copies_ok (c ∷ cs) (m ∷ ms) = (leb m 1 || is_choice c.opcode) && copies_ok cs ms

unfoldable pub kept_ok : Tape → List ℕ → Bool
kept_ok t ms =
    copies_ok t.clauses ms && eqb (read_list t.slots (list_of (kept_tape t ms).clauses)).number 0

unfoldable pub entry_ok : Tape → List ℕ → Bool
entry_ok t entry =
    leb (verdict_in entry) 3 && (not (eqb (verdict_in entry) 3) || kept_ok t (marks_in t entry))

-- The first n entries.
unfoldable pub entries_ok : ℕ → Tape → List ℕ → Bool
entries_ok zero t table = true
entries_ok (suc n) t table = entries_ok n t table && entry_ok t (entry_in n table)

unfoldable pub same_bytes : List ℕ → List ℕ → Bool
same_bytes [] [] = true
same_bytes [] (b ∷ v) = false
same_bytes (a ∷ u) [] = false
same_bytes (a ∷ u) (b ∷ v) = eqb a b && same_bytes u v

unfoldable pub table_ok : List ℕ → Grid → List ℕ → Bool
table_ok s g table =
    eqb (length table) table_length
    && (same_bytes (take head_length table) (table_head s g) && entries_ok tile_limit (read_tape s).tape table)

-- A rectangle in tiles. "A rectangle that is empty or leaves the grid counts under 10."
pub record Rectangle : Type 0 where
  pub column : ℕ
  pub row : ℕ
  pub columns : ℕ
  pub rows : ℕ

unfoldable pub rectangle_ok : Grid → Rectangle → Bool
rectangle_ok g q =
    leb 1 q.columns
    && (leb 1 q.rows
    && (leb (q.column + q.columns) (tiles_across g) && leb (q.row + q.rows) (tiles_down g)))

-- The numbers of its tiles in the walk's order: m rows of n tiles, the first with the number i, a row a tiles after the
-- one before.
unfoldable pub rows_tiles : ℕ → ℕ → ℕ → ℕ → List ℕ
rows_tiles zero a n i = []
rows_tiles (suc m) a n i = numbers_from i n ++ rows_tiles m a n (i + a)

unfoldable pub tiles_in : Grid → Rectangle → List ℕ
tiles_in g q = rows_tiles q.rows (tiles_across g) q.columns (q.row * tiles_across g + q.column)

-- What a known verdict draws, with no run of the region of side 64: full, empty, or its kept tape on the regions of
-- side 8.
unfoldable pub known : ℕ → List ℕ → Tape → Grid → Region → State → State
known v ms t g r s =
    pick (eqb v 1) (fill_in g r s)
    (pick (eqb v 2) s (fold (λ q y. visit (1 ∷ []) (kept_tape t ms) g q y) (children g r 8) s))

-- The heights and the count so far, and the table so far.
pub record Shared : Type 0 where
  pub drawing : State
  pub table : List ℕ

abbrev pub shared : State → List ℕ → Shared
shared s table = record { drawing = s; table = table }

-- "Whoever meets an unknown tile writes the verdict." An unknown tile is visited as the walk visits it, and its whole
-- entry is written; a known one is drawn as its verdict says, "without the region of side 64 where the verdict was
-- known".
unfoldable pub on_tile : Tape → Grid → ℕ → Shared → Shared
on_tile t g i u =
    let e = entry_in i u.table in
    let r = tile_of g i in
    pick (eqb (verdict_in e) 0)
    (shared (visit (8 ∷ (1 ∷ [])) t g r u.drawing) (put_entry i (entry_of t g r) u.table))
    (shared (known (verdict_in e) (marks_in t e) t g r u.drawing) u.table)

unfoldable pub on_tiles : Tape → Grid → List ℕ → Shared → Shared
on_tiles t g [] u = u
on_tiles t g (i ∷ is) u = on_tiles t g is (on_tile t g i u)

unfoldable pub turn : Tape → Grid → Rectangle → List ℕ → Shared
turn t g q table = on_tiles t g (tiles_in g q) (shared (cleared g) table)

-- "Picture bytes outside the rectangle stay." A byte has 8 pixels of one row, so that the byte c of row y is of the
-- tile in column c / 8 and row y / 64.
abbrev pub from : ℕ → ℕ → ℕ → Bool
from a n i = leb a i && ltb i (a + n)

unfoldable pub byte_in : Grid → Rectangle → ℕ → Bool
byte_in g q p =
    let w = stride g.width in
    from q.column q.columns (p % w / 8) && from q.row q.rows (p / w / 64)

unfoldable pub laid_from : ℕ → Grid → Rectangle → List ℕ → List ℕ → List ℕ
laid_from p g q new [] = []
laid_from p g q [] (b ∷ old) = b ∷ old
laid_from p g q (a ∷ new) (b ∷ old) = pick (byte_in g q p) a b ∷ laid_from (suc p) g q new old

abbrev pub laid : Grid → Rectangle → List ℕ → List ℕ → List ℕ
laid g q new old = laid_from 0 g q new old

-- "Beginning it checks 1 to 11, then 24 for its length"; n is the table's length.
abbrev pub begin_lines : List ℕ → Grid → ℕ → List ℕ
begin_lines s g n = (read_tape s).number ∷ (grid_fault false g ∷ (when (not (eqb n table_length)) 24 ∷ []))

abbrev pub begin_fault : List ℕ → Grid → ℕ → ℕ
begin_fault s g n = first_fault (begin_lines s g n)

-- Drawing: 1 to 9; 10 of the rectangle or of a size, and 11; 24, "tested before 12"; 12 and 13. n is the picture's
-- length, m the work buffer's. A rectangle's 10 stands before the grid's two lines, so that it comes before 11.
abbrev pub own_lines : List ℕ → Grid → Rectangle → List ℕ
own_lines s g q = (read_tape s).number ∷ (when (not (rectangle_ok g q)) 10 ∷ (grid_fault false g ∷ []))

abbrev pub lent_lines : Grid → ℕ → ℕ → List ℕ
lent_lines g n m = when (not (eqb n (picture_size false g))) 12 ∷ (when (ltb m work_limit) 13 ∷ [])

abbrev pub table_fault : List ℕ → Grid → List ℕ → ℕ
table_fault s g table = when (not (table_ok s g table)) 24

abbrev pub draw_lines : List ℕ → Grid → Rectangle → List ℕ → ℕ → ℕ → List ℕ
draw_lines s g q table n m = own_lines s g q ++ (table_fault s g table ∷ lent_lines g n m)

abbrev pub draw_fault : List ℕ → Grid → Rectangle → List ℕ → ℕ → ℕ → ℕ
draw_fault s g q table n m = first_fault (draw_lines s g q table n m)

-- "A call returns number, place, count."
pub record Answer : Type 0 where
  pub number : ℕ
  pub place : ℕ
  pub count : ℕ

pub record Answered (n p c : ℕ) (r : Answer) : Type 0 where
  pub number : r.number ≡ n
  pub place : r.place ≡ place_of n p
  pub count : r.count ≡ pick (eqb n 0) c 0

abbrev pub written : {A : Type 0} → ℕ → List A → List A → List A
written f b o = pick (eqb f 0) b o

-- The promises of the two calls: the answer and every lent byte, for all inputs. A call that draws no picture has count
-- 0.
pub record BeginSays (s : List ℕ) (d : Grid) (b b' : List ℕ) (r : Answer) : Type 0 where
  pub answer : Answered (begin_fault s (flat_grid d) (length b)) (read_tape s).place 0 r
  pub table : b' ≡ written (begin_fault s (flat_grid d) (length b)) (begun s (flat_grid d)) b

pub record DrawSays (s : List ℕ) (d : Grid) (q : Rectangle) (b b' o o' w w' : List ℕ) (r : Answer) : Type 0 where
  pub answer : let g = flat_grid d in
      Answered (draw_fault s g q b (length o) (length w)) (read_tape s).place
      (turn (read_tape s).tape g q b).drawing.clauses r
  pub table : let g = flat_grid d in
      b' ≡ written (draw_fault s g q b (length o) (length w)) (turn (read_tape s).tape g q b).table b
  pub pixels : let g = flat_grid d in
      o' ≡ written (draw_fault s g q b (length o) (length w))
      (laid g q (picture false g (turn (read_tape s).tape g q b).drawing.heights) o) o
  pub work : w' ≡ written (draw_fault s (flat_grid d) q b (length o) (length w)) (replicate (length w) 0) w
