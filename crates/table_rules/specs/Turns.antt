-- T-13: what a table that was begun and drawn by these calls holds, along any run of calls.
use Rattle.std.specs.Prelude.{◌≡◌, Bool, false, ◌||◌, not, ◌⊎◌, List, [], ◌∷◌, ◌++◌, map, ℕ, suc, ◌+◌, ◌*◌, ◌<◌, eqb, length, take}
use Rattle.rules.specs.Values.{pick, first_fault, when}
use Rattle.rules.specs.Tapes.{Tape, place_of, read_tape, is_in}
use Rattle.rules.specs.Drawings.{Grid, grid_fault, State, state, fold, visit, sides, drawn}
use Rattle.rules.specs.Pictures.{picture}
use Rattle.order_rules.specs.Orders.{cleared}
use Rattle.table_rules.specs.Tables.{head_length, entry_length, tile_limit, table_length, zeros, flat_grid}
use Rattle.table_rules.specs.Tables.{table_head, same_bytes, begin_fault, tiles_across, tiles_down, tile_of, entry_in, verdict_in, entry_of}
use Rattle.table_rules.specs.Tables.{Rectangle, tiles_in, laid, own_lines, lent_lines, Answer, BeginSays}
use Rattle.table_rules.specs.Tables.{DrawSays}

-- A truthful table of a tape and a grid: the head is theirs, and every entry is unknown or the true one, of a tile that
-- the grid has. So the entries of tiles that it does not have are all zero.
abbrev pub TrueEntry : Tape → Grid → ℕ → List ℕ → Type 0
TrueEntry t g i e =
    (e ≡ zeros entry_length) ⊎ ((i < tiles_across g * tiles_down g) × (e ≡ entry_of t g (tile_of g i)))

pub record Truthful (s : List ℕ) (g : Grid) (b : List ℕ) : Type 0 where
  pub size : length b ≡ table_length
  pub head : take head_length b ≡ table_head s g
  pub entries : (i : ℕ) → i < tile_limit → TrueEntry (read_tape s).tape g i (entry_in i b)

-- "it is the walk's sum over the rectangle's tiles, without the region of side 64 where the verdict was known": the
-- walk over the tiles with these numbers, and how many of them the table knows.
unfoldable pub walk_over : Tape → Grid → List ℕ → State → State
walk_over t g is s = fold (λ r y. visit (sides g) t g r y) (map (tile_of g) is) s

unfoldable pub known_in : List ℕ → List ℕ → ℕ
known_in b [] = 0
known_in b (i ∷ is) = pick (eqb (verdict_in (entry_in i b)) 0) (known_in b is) (suc (known_in b is))

-- A table that these calls have made: truthful, of some tape and grid that are not refused.
pub record TrueTable (b : List ℕ) : Type 0 where
  pub bytes : List ℕ
  pub grid : Grid
  pub read : (read_tape bytes).number ≡ 0
  pub accepted : grid_fault false (flat_grid grid) ≡ 0
  pub truthful : Truthful bytes (flat_grid grid) b

-- "From a newly begun table, in any order of turns, the pixels of each rectangle drawn are the full drawing's", every
-- other byte of the picture stays; "Only the count may show the other's work".
unfoldable pub part_drawn : List ℕ → Grid → Rectangle → List ℕ → List ℕ
part_drawn s d q o = let g = flat_grid d in laid g q (picture false g (drawn (read_tape s).tape g)) o

pub record TrulyDrawn (s : List ℕ) (d : Grid) (q : Rectangle) (b b' o o' : List ℕ) (r : Answer) : Type 0 where
  pub pixels : o' ≡ part_drawn s d q o
  pub count : let g = flat_grid d in
      let t = (read_tape s).tape in
      r.count + known_in b (tiles_in g q) * length t.clauses ≡ (walk_over t g (tiles_in g q) (cleared g)).clauses
  pub table : Truthful s (flat_grid d) b'

-- Calls of any number of users: each has a number and a picture of its own, and lends the table, which all share, and
-- a work buffer. A call is refused or done; what it leaves is what its own promise says.
pub data Call : Type 0 where
  begins : ℕ → List ℕ → Grid → Call
  draws : ℕ → List ℕ → Grid → Rectangle → List ℕ → Call

pub record World : Type 0 where
  pub table : List ℕ
  pub pictures : ℕ → List ℕ

pub record Begins (s : List ℕ) (d : Grid) (w w' : World) (r : Answer) : Type 0 where
  pub says : BeginSays s d w.table w'.table r
  pub others : (v : ℕ) → w'.pictures v ≡ w.pictures v

pub record Draws (u : ℕ) (s : List ℕ) (d : Grid) (q : Rectangle) (k : List ℕ) (w w' : World) (r : Answer) : Type 0 where
  pub work : List ℕ
  pub says : DrawSays s d q w.table w'.table (w.pictures u) (w'.pictures u) k work r
  pub others : (v : ℕ) → (v ≡ u → ⊥) → w'.pictures v ≡ w.pictures v

abbrev pub Follows : Call → World → World → Answer → Type 0
Follows (begins u s d) w w' r = Begins s d w w' r
Follows (draws u s d q k) w w' r = Draws u s d q k w w' r

-- A run: calls with their answers, one after another.
pub record Turn : Type 0 where
  pub call : Call
  pub answer : Answer

abbrev pub turn_of : Call → Answer → Turn
turn_of c r = record { call = c; answer = r }

pub data Run : World → List Turn → World → Type 0 where
  none : {w : World} → Run w [] w
  next : {w m w' : World} {c : Call} {r : Answer} {ks : List Turn} → Follows c w m r → Run m ks w'
      → Run w (turn_of c r ∷ ks) w'

-- What a call that is done has done.
abbrev pub DoneTruly : Call → World → World → Answer → Type 0
DoneTruly (begins u s d) w w' r = Truthful s (flat_grid d) w'.table
DoneTruly (draws u s d q k) w w' r = TrulyDrawn s d q w.table w'.table (w.pictures u) (w'.pictures u) r

-- Whose call it is, and its tape.
abbrev pub user_of : Call → ℕ
user_of (begins u s d) = u
user_of (draws u s d q k) = u

abbrev pub tape_in : Call → List ℕ
tape_in (begins u s d) = s
tape_in (draws u s d q k) = s

abbrev pub is_own : ℕ → Call → Bool
is_own u c = eqb (user_of c) u

-- The count by numbers alone: the tile's part of the walk's sum, which in a flat picture does not depend on other
-- tiles; and how many tiles of a list are known.
unfoldable pub tile_part : Tape → Grid → ℕ → ℕ
tile_part t g i = (visit (8 ∷ (1 ∷ [])) t g (tile_of g i) (state [] 0)).clauses

unfoldable pub count_in : (ℕ → Bool) → List ℕ → ℕ
count_in K [] = 0
count_in K (i ∷ is) = pick (K i) (suc (count_in K is)) (count_in K is)

-- A table knows the tiles that K says; those known after a call that returned the number n, and after a run: none when
-- the table is newly begun, and those of every rectangle drawn since, by whomever.
pub record Knows (b : List ℕ) (K : ℕ → Bool) : Type 0 where
  pub says : (i : ℕ) → i < tile_limit → eqb (verdict_in (entry_in i b)) 0 ≡ not (K i)

unfoldable pub known_then : Call → ℕ → (ℕ → Bool) → ℕ → Bool
known_then (begins u s d) n K = pick (eqb n 0) (λ i. false) K
known_then (draws u s d q k) n K = pick (eqb n 0) (λ i. is_in i (tiles_in (flat_grid d) q) || K i) K

unfoldable pub known_after : List Turn → (ℕ → Bool) → ℕ → Bool
known_after [] K = K
known_after (k ∷ ks) K = known_after ks (known_then k.call k.answer.number K)

-- A user's picture after a call that returned the number n; after a run, by the answers to its own calls.
unfoldable pub picture_after : ℕ → Call → ℕ → List ℕ → List ℕ
picture_after u (begins v s d) n o = o
picture_after u (draws v s d q k) n o = pick (eqb v u) (pick (eqb n 0) (part_drawn s d q o) o) o

unfoldable pub picture_by : ℕ → List Turn → List ℕ → List ℕ
picture_by u [] o = o
picture_by u (k ∷ ks) o = picture_by u ks (picture_after u k.call k.answer.number o)

-- "one flat picture": no call of a run begins the table for another tape or grid than s and d. Drawings with another
-- tape or grid may be among the calls, and beginnings that are turned down.
abbrev pub Stays : List ℕ → Grid → Call → Type 0
Stays s d (begins u s' d') = begin_fault s' (flat_grid d') table_length ≡ 0 → (s' ≡ s) × (flat_grid d' ≡ flat_grid d)
Stays s d (draws u s' d' q k) = Unit {0}

unfoldable pub OnePicture : List ℕ → Grid → List Call → Type 0
OnePicture s d [] = Unit {0}
OnePicture s d (c ∷ cs) = Stays s d c × OnePicture s d cs

-- "each user's picture is what it would be without the other. Only the count may show the other's work": what a user's
-- calls return, the count apart, and the picture that they leave, by these calls alone. No table and no answer is in
-- it: of the table, a call's number depends on the tape and the grid that it was begun for.
abbrev pub head_fault : List ℕ → Grid → List ℕ → Grid → ℕ
head_fault s d s' d' = when (not (same_bytes (table_head s (flat_grid d)) (table_head s' (flat_grid d')))) 24

abbrev pub own_fault : List ℕ → Grid → List ℕ → Grid → Rectangle → ℕ → ℕ → ℕ
own_fault s d s' d' q n m =
    first_fault (own_lines s' (flat_grid d') q ++ (head_fault s d s' d' ∷ lent_lines (flat_grid d') n m))

unfoldable pub own_number : List ℕ → Grid → Call → List ℕ → ℕ
own_number s d (begins u s' d') o = begin_fault s' (flat_grid d') table_length
own_number s d (draws u s' d' q k) o = own_fault s d s' d' q (length o) (length k)

unfoldable pub picture_alone : List ℕ → Grid → ℕ → List Call → List ℕ → List ℕ
picture_alone s d u [] o = o
picture_alone s d u (c ∷ cs) o = picture_alone s d u cs (picture_after u c (own_number s d c o) o)

-- Number and place.
pub record Returned : Type 0 where
  pub number : ℕ
  pub place : ℕ

abbrev pub returning : ℕ → ℕ → Returned
returning n p = record { number = n; place = p }

abbrev pub return_of : List ℕ → Grid → Call → List ℕ → Returned
return_of s d c o =
    returning (own_number s d c o) (place_of (own_number s d c o) (read_tape (tape_in c)).place)

unfoldable pub returns_alone : List ℕ → Grid → ℕ → List Call → List ℕ → List Returned
returns_alone s d u [] o = []
returns_alone s d u (c ∷ cs) o =
    return_of s d c o ∷ returns_alone s d u cs (picture_after u c (own_number s d c o) o)

-- What a user's own calls in a run returned.
unfoldable pub own_returns : ℕ → List Turn → List Returned
own_returns u [] = []
own_returns u (k ∷ ks) =
    pick (is_own u k.call) (returning k.answer.number k.answer.place ∷ own_returns u ks) (own_returns u ks)

-- The calls of a run, and those without the ones of others.
abbrev pub calls_of : List Turn → List Call
calls_of ks = map (λ k. k.call) ks

unfoldable pub without_others : ℕ → List Call → List Call
without_others u [] = []
without_others u (c ∷ cs) = pick (is_own u c) (c ∷ without_others u cs) (without_others u cs)

-- A run ks that ends in w, and a run ls that ends in v, are the same for a user: the picture, and number and place of
-- each of its own calls.
pub record SameFor (u : ℕ) (ks ls : List Turn) (w v : World) : Type 0 where
  pub picture : v.pictures u ≡ w.pictures u
  pub returns : own_returns u ls ≡ own_returns u ks
