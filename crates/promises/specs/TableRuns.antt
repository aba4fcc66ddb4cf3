-- Runs of calls on one shared table, by the calls' own promises: any number of users, each with a picture of its own,
-- turned-down calls among them.
use Rattle.std.specs.Prelude.{◌≡◌, Bool, true, false, List, [], ◌∷◌, map, ℕ, ◌+◌, ◌*◌, ◌<◌, ◌≤◌, eqb, length, get_or}
use Rattle.rules.specs.Values.{pick}
use Rattle.rules.specs.Tapes.{read_tape}
use Rattle.rules.specs.Drawings as D
use Rattle.rules.specs.Pictures.{picture, picture_size}
use Rattle.order_rules.specs.Orders.{total}
use Rattle.table_rules.specs.Tables.{rectangle_ok, tiles_in, byte_in}
use Rattle.table_rules.specs.Tables as T
use Rattle.table_rules.specs.Turns.{World, turn_of, part_drawn, known_after, count_in, tile_part, OnePicture, calls_of}
use Rattle.table_rules.specs.Turns.{without_others, SameFor, picture_alone, returns_alone, own_returns}
use Rattle.table_rules.specs.Turns as R
use Rattle.picture.specs.Shapes.{grid_in}
use Rattle.picture.specs.declared.grid.Grid.{Grid}
use Rattle.rectangle.specs.Rectangles.{rectangle_in}
use Rattle.rectangle.specs.declared.Rectangle.{Rectangle}
use Rattle.answers.specs.declared.Answer.{Answer}
use Rattle.promises.specs.Tables.{table_grid, BeginSays, DrawSays}

-- A call with its arguments: whose it is, the tape, the grid; of a drawing the rectangle and the work buffer.
pub data Asked : Type 0 where
  begins : ℕ → List ℕ → Grid → Asked
  draws : ℕ → List ℕ → Grid → Rectangle → List ℕ → Asked

-- It is lent the table, which all share, and its user's picture, and meets its promise: b, o and k are left.
abbrev pub Says : Asked → World → List ℕ → List ℕ → List ℕ → Answer → Type 0
Says (begins u s d) w b o k r = BeginSays s d w.table b r
Says (draws u s d q l) w b o k r = DrawSays s d q w.table b (w.pictures u) o l k r

abbrev pub world_after : Asked → World → List ℕ → List ℕ → World
world_after (begins u s d) w b o = record { table = b; pictures = w.pictures }
world_after (draws u s d q l) w b o = record { table = b; pictures = λ v. pick (eqb v u) o (w.pictures v) }

-- One call: what it was asked, and what it left and answered. Beginning a table is lent no picture and no work buffer.
pub record Turn : Type 0 where
  pub asked : Asked
  pub table : List ℕ
  pub picture : List ℕ
  pub work : List ℕ
  pub answer : Answer

abbrev pub Makes : World → Turn → Type 0
Makes w t = Says t.asked w t.table t.picture t.work t.answer

abbrev pub after_turn : World → Turn → World
after_turn w t = world_after t.asked w t.table t.picture

unfoldable pub Turns : World → List Turn → Type 0
Turns w [] = Unit {0}
Turns w (t ∷ ts) = Makes w t × Turns (after_turn w t) ts

unfoldable pub last_of : World → List Turn → World
last_of w [] = w
last_of w (t ∷ ts) = last_of (after_turn w t) ts

-- The same as the rules have it.
abbrev pub answer_in : Answer → T.Answer
answer_in r = record { number = r.number; place = r.place; count = r.count }

abbrev pub call_in : Asked → R.Call
call_in (begins u s d) = R.begins u s (grid_in d false)
call_in (draws u s d q l) = R.draws u s (grid_in d false) (rectangle_in q) l

abbrev pub turn_in : Turn → R.Turn
turn_in t = turn_of (call_in t.asked) (answer_in t.answer)

abbrev pub turns_in : List Turn → List R.Turn
turns_in ts = map turn_in ts

-- "a newly begun table": a call that began it was done.
pub record NewlyBegun (s : List ℕ) (d : Grid) (w : World) : Type 0 where
  pub before : List ℕ
  pub answer : Answer
  pub says : BeginSays s d before w.table answer
  pub done : answer.number ≡ 0

-- What a drawing that is done leaves in its user's picture, and its count. "the pixels of each rectangle drawn are the
-- full drawing's", byte by byte those of the call that draws in full; "Picture bytes outside the rectangle stay". "Only
-- the count may show the other's work: it is the walk's sum over the rectangle's tiles, without the region of side 64
-- where the verdict was known": a known tile's region has all clauses of the tape.
pub record DrawnInTurn (s : List ℕ) (d : Grid) (q : Rectangle) (known : ℕ → Bool) (o o' : List ℕ) (r : Answer)
    : Type 0 where
  pub part : o' ≡ part_drawn s (grid_in d false) (rectangle_in q) o
  pub bytes : let g = grid_in d false in
      (i : ℕ) → i < length o
      → get_or o' i 0
      ≡ pick (byte_in g (rectangle_in q) i) (get_or (picture false g (D.drawn (read_tape s).tape g)) i 0) (get_or o i 0)
  pub count : let t = (read_tape s).tape in
      let is = tiles_in (table_grid d) (rectangle_in q) in
      r.count + count_in known is * length t.clauses ≡ total (map (tile_part t (table_grid d)) is)

-- "From a newly begun table, in any order of turns": after any run of calls, by whomever, with any tapes, grids and
-- rectangles. Known are the tiles of the rectangles drawn since the table was last begun.
abbrev pub DrawnInTurns : Type 0
DrawnInTurns =
    (s₀ : List ℕ) (d₀ : Grid) (w : World) (ts : List Turn) → NewlyBegun s₀ d₀ w → Turns w ts
    → (u : ℕ) (s : List ℕ) (d : Grid) (q : Rectangle) (l b o k : List ℕ) (r : Answer)
    → Says (draws u s d q l) (last_of w ts) b o k r → r.number ≡ 0
    → DrawnInTurn s d q (known_after (turns_in ts) (λ i. false)) ((last_of w ts).pictures u) o r

-- "each user's picture is what it would be without the other": a run on "one flat picture", and any run of one user's
-- own calls of it, both from newly begun tables and with the same picture of this user to begin with, leave it the same
-- picture and give it the same numbers and places.
abbrev pub WithoutTheOther : Type 0
WithoutTheOther =
    (s : List ℕ) (d : Grid) (w v : World) (ts ls : List Turn)
    → NewlyBegun s d w → Turns w ts → OnePicture s (grid_in d false) (calls_of (turns_in ts))
    → NewlyBegun s d v → Turns v ls
    → (u : ℕ) → v.pictures u ≡ w.pictures u → calls_of (turns_in ls) ≡ without_others u (calls_of (turns_in ts))
    → SameFor u (turns_in ts) (turns_in ls) (last_of w ts) (last_of v ls)

-- And there is such a run, of the very calls, from the same table.
pub record Alone (u : ℕ) (w : World) (ts : List Turn) : Type 0 where
  pub turns : List Turn
  pub made : Turns w turns
  pub own : calls_of (turns_in turns) ≡ without_others u (calls_of (turns_in ts))
  pub same : SameFor u (turns_in ts) (turns_in turns) (last_of w ts) (last_of w turns)

abbrev pub AloneTheSame : Type 0
AloneTheSame =
    (s : List ℕ) (d : Grid) (w : World) (ts : List Turn)
    → NewlyBegun s d w → Turns w ts → OnePicture s (grid_in d false) (calls_of (turns_in ts))
    → (u : ℕ) → Alone u w ts

-- In such a run a drawing with the table's own tape and grid is never refused for the table: it is done where the
-- rectangle has tiles and only those of the grid, the picture has its length, and the work buffer is long enough.
abbrev pub OwnDrawingDone : Type 0
OwnDrawingDone =
    (s : List ℕ) (d : Grid) (w : World) (ts : List Turn)
    → NewlyBegun s d w → Turns w ts → OnePicture s (grid_in d false) (calls_of (turns_in ts))
    → (u : ℕ) (q : Rectangle) (l b o k : List ℕ) (r : Answer) → Says (draws u s d q l) (last_of w ts) b o k r
    → rectangle_ok (table_grid d) (rectangle_in q) ≡ true
    → length ((last_of w ts).pictures u) ≡ picture_size false (grid_in d false) → D.work_limit ≤ length l → r.number ≡ 0

-- By these calls alone: the picture, and number and place of each; no table and no answer is in it. A drawing with
-- another tape or grid than the table's returns 24, or an earlier line's number.
pub record ByOwnCalls (s : List ℕ) (d : Grid) (u : ℕ) (w : World) (ts : List Turn) : Type 0 where
  pub picture : (last_of w ts).pictures u
      ≡ picture_alone s (grid_in d false) u (without_others u (calls_of (turns_in ts))) (w.pictures u)
  pub returns : own_returns u (turns_in ts)
      ≡ returns_alone s (grid_in d false) u (without_others u (calls_of (turns_in ts))) (w.pictures u)

abbrev pub AllByOwnCalls : Type 0
AllByOwnCalls =
    (s : List ℕ) (d : Grid) (w : World) (ts : List Turn)
    → NewlyBegun s d w → Turns w ts → OnePicture s (grid_in d false) (calls_of (turns_in ts))
    → (u : ℕ) → ByOwnCalls s d u w ts
