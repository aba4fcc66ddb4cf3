-- The table's tiles are "in the walk's order": the tile with the number i is the i-th that the walk meets, and the
-- rectangle of all tiles is drawn as the walk draws the picture.
use mathlib.Core.Path.{◌≡◌, refl, sym, ap, ap₂, ◌∙◌}
use mathlib.Core.Bool.{true, false}
use mathlib.Core.List.{List, [], ◌∷◌, ◌++◌, map}
use Prim.Native.Nat.{ℕ, zero, suc, ◌+◌, ◌*◌, ◌/◌, ◌%◌, ◌<◌, ◌≤◌}
use native.Mathlib.Omega.{arith}
use native.Mathlib.Nat.{mul_comm, div-add-mod', mod-lt, div-lt_iff_lt-mul}
use lib.ListN.{length, get_or, length-append, get_or-append}
use lib.Seq.{get_or-append-add}
use borrow.Author.Tests.{lt-ltb, le-ltb, le-leb}
use Rattle.rules.specs.Tapes.{Tape}
use Rattle.rules.specs.Drawings.{Grid, solid, Region, region, lesser, along_z, children, whole, fold, visit, sides}
use Rattle.rules.specs.Drawings.{walked}
use Rattle.rules.proofs.Regions.{along, along_y_lem, Fits}
use Rattle.order_rules.specs.Orders.{cleared, numbers_from}
use Rattle.table_rules.specs.Tables.{tiles_across, tiles_down, tile_of, Rectangle, rows_tiles, tiles_in}
use Rattle.table_rules.specs.Turns.{walk_over}

-- r parts of length n from x on reach past, and r - 1 do not.
record Parts (x n past r : ℕ) : Type 0 where
  enough : past ≤ x + r * n
  least : x + r * n < past + n

module _ (n past c : ℕ) (f : ℕ → List Region) (some : 1 ≤ n) (size : (a : ℕ) → length (f a) ≡ c) where
  none : (m x : ℕ) → past ≤ x → along true m x n past f ≡ []
  unfolding along
  none zero x h = refl
  none (suc m) x h = rw (le-ltb x past h) (none m (x + n) (omega arith))

  -- How many there are.
  along_size : (m r x : ℕ) → r ≤ m → Parts x n past r → length (along true m x n past f) ≡ r * c
  unfolding along
  along_size m zero x h p = rw (none m x (omega (arith, p.enough))) (omega arith)
  along_size zero (suc r) x h p = absurd (omega arith)
  along_size (suc m) (suc r) x h p =
      let l : x < past = omega (arith, p.least) in
      let k = along_size m r (x + n) (omega arith)
      (record { enough = omega (arith, p.enough); least = omega (arith, p.least) }) in
      rw (lt-ltb x past l, length-append) (omega (arith, size x, k))

  -- The q-th part comes q-th.
  along_at : (m r x : ℕ) → r ≤ m → Parts x n past r → (q e : ℕ) → q < r → e < c
      → get_or (along true m x n past f) (q * c + e) whole ≡ get_or (f (x + q * n)) e whole
  unfolding along
  along_at zero r x h p q e i j = absurd (omega arith)
  along_at (suc m) zero x h p q e i j = absurd (omega arith)
  along_at (suc m) (suc r) x h p zero e i j =
      rw (lt-ltb x past (omega (arith, p.least))) (first (along true m (x + n) n past f))
    where
      first : (v : List Region) → get_or (f x ++ v) (0 * c + e) whole ≡ get_or (f (x + 0 * n)) e whole
      first v =
          ap (λ k. get_or (f x ++ v) k whole) (omega arith)
          ∙ get_or-append (f x) v whole e (omega (arith, size x)) ∙ ap (λ k. get_or (f k) e whole) (omega arith)
  along_at (suc m) (suc r) x h p (suc q) e i j =
      rw (lt-ltb x past (omega (arith, p.least)))
      (later (along true m (x + n) n past f)
      (along_at m r (x + n) (omega arith)
      (record { enough = omega (arith, p.enough); least = omega (arith, p.least) }) q e (omega arith) j))
    where
      later : (v : List Region) → get_or v (q * c + e) whole ≡ get_or (f (x + n + q * n)) e whole
          → get_or (f x ++ v) (suc q * c + e) whole ≡ get_or (f (x + suc q * n)) e whole
      later v k =
          ap (λ m. get_or (f x ++ v) m whole) (omega (arith, size x))
          ∙ get_or-append-add (f x) v (q * c + e) whole ∙ k ∙ ap (λ m. get_or (f m) e whole) (omega arith)

module _ (g : Grid) (flat : solid g ≡ false) (fits : Fits g) where
  abbrev across : ℕ
  across = tiles_across g

  abbrev down : ℕ
  down = tiles_down g

  abbrev row_of : ℕ → List Region
  row_of b = along true 8 0 64 g.width (λ a. region a b 0 64 ∷ [])

  cut : (n : ℕ) → n ≤ 512 → lesser n 512 ≡ n
  unfolding lesser
  cut n h = rw (le-leb n 512 h)

  tiles_along_lem : children g whole 64 ≡ along true 8 0 64 g.height row_of
  unfolding children along_z
  tiles_along_lem =
      rw (flat, cut g.width fits.width, cut g.height fits.height)
      (along_y_lem 8 8 0 0 0 64 g.width g.height)

  columns : Parts 0 64 g.width across
  columns = record { enough = omega arith; least = omega arith }

  rows : Parts 0 64 g.height down
  rows = record { enough = omega arith; least = omega arith }

  row_size : (b : ℕ) → length (row_of b) ≡ across
  row_size b =
      along_size 64 g.width 1 (λ a. region a b 0 64 ∷ []) (omega arith) (λ a. refl) 8 across 0
      (omega (arith, fits.width)) columns
      ∙ times_one across
    where
      times_one : (a : ℕ) → a * 1 ≡ a
      times_one a = omega arith

  pub tile_count_lem : length (children g whole 64) ≡ down * across
  tile_count_lem =
      ap length tiles_along_lem
      ∙ along_size 64 g.height across row_of (omega arith) row_size 8 down 0 (omega (arith, fits.height)) rows

  -- The tile with a number is the one that the walk meets in that place.
  pub walk_order : (i : ℕ) → i < across * down → get_or (children g whole 64) i whole ≡ tile_of g i
  unfolding tile_of
  walk_order i h =
      let p = some across h in
      let e : i % across < across = mod-lt i p in
      let q : i / across < down = (div-lt_iff_lt-mul p).1 (rw (mul_comm across down) at h) in
      ap (λ v. get_or v i whole) tiles_along_lem
      ∙ ap (λ v. get_or (along true 8 0 64 g.height row_of) v whole) (sym (div-add-mod' i across))
      ∙ along_at 64 g.height across row_of (omega arith) row_size 8 down 0 (omega (arith, fits.height)) rows
      (i / across) (i % across) q e
      ∙ ap (λ v. get_or (row_of v) (i % across) whole) (times (i / across))
      ∙ ap (λ v. get_or (row_of (64 * (i / across))) v whole) (one (i % across))
      ∙ along_at 64 g.width 1 (λ a. region a (64 * (i / across)) 0 64 ∷ []) (omega arith) (λ a. refl) 8 across 0
      (omega (arith, fits.width)) columns (i % across) 0 e (omega arith)
      ∙ ap (λ v. region v (64 * (i / across)) 0 64) (times (i % across))
    where
      some : (a : ℕ) → i < a * down → 0 < a
      some zero l = absurd (omega arith)
      some (suc a) l = omega arith

      times : (a : ℕ) → 0 + a * 64 ≡ 64 * a
      times a = omega arith

      one : (a : ℕ) → a ≡ a * 1 + 0
      one a = omega arith

-- All tiles of a grid, as a rectangle.
abbrev pub all_tiles : Grid → Rectangle
all_tiles g = record { column = 0; row = 0; columns = tiles_across g; rows = tiles_down g }

join_rows_lem : (n m i : ℕ) → numbers_from i n ++ numbers_from (i + n) m ≡ numbers_from i (n + m)
unfolding numbers_from
join_rows_lem zero m i = ap₂ numbers_from (plus_zero i) (zero_plus m)
  where
    zero_plus : (a : ℕ) → a ≡ 0 + a
    zero_plus a = omega arith

    plus_zero : (a : ℕ) → a + 0 ≡ a
    plus_zero a = omega arith
join_rows_lem (suc n) m i =
    ap (λ xs. i ∷ xs) (ap (λ x. numbers_from (suc i) n ++ numbers_from x m) (next i n) ∙ join_rows_lem n m (suc i))
    ∙ ap (λ x. numbers_from i x) (sums n m)
  where
    next : (i n : ℕ) → i + suc n ≡ suc i + n
    next i n = omega arith

    sums : (n m : ℕ) → suc (n + m) ≡ suc n + m
    sums n m = omega arith

rows_joined : (m a i : ℕ) → rows_tiles m a a i ≡ numbers_from i (m * a)
unfolding rows_tiles numbers_from
rows_joined zero a i = ap (λ x. numbers_from i x) (none a)
  where
    none : (a : ℕ) → 0 ≡ 0 * a
    none a = omega arith
rows_joined (suc m) a i =
    ap (λ xs. numbers_from i a ++ xs) (rows_joined m a (i + a)) ∙ join_rows_lem a (m * a) i
    ∙ ap (λ x. numbers_from i x) (next m a)
  where
    next : (m a : ℕ) → a + m * a ≡ suc m * a
    next m a = omega arith

numbered : (f : ℕ → Region) (n i : ℕ) (l : List Region) → length l ≡ n
    → ((k : ℕ) → k < n → get_or l k whole ≡ f (i + k)) → map f (numbers_from i n) ≡ l
unfolding numbers_from
numbered f zero i [] s h = refl
numbered f zero i (r ∷ l) s h = absurd (omega arith)
numbered f (suc n) i [] s h = absurd (omega arith)
numbered f (suc n) i (r ∷ l) s h =
    ap₂ (λ x xs. x ∷ xs) (ap f (plus_zero i) ∙ sym (h 0 (omega arith)))
    (numbered f n (suc i) l (omega arith) (λ k m. h (suc k) (omega arith) ∙ ap f (next i k)))
  where
    plus_zero : (a : ℕ) → a ≡ a + 0
    plus_zero a = omega arith

    next : (i k : ℕ) → i + suc k ≡ suc i + k
    next i k = omega arith

-- The rectangle of all tiles has the walk's regions of side 64, in the walk's order.
pub all_tiles_lem : (g : Grid) → solid g ≡ false → Fits g → map (tile_of g) (tiles_in g (all_tiles g)) ≡ children g whole 64
unfolding tiles_in
all_tiles_lem g flat fits =
    let a = tiles_across g in
    let d = tiles_down g in
    let start : 0 * a + 0 ≡ 0 = omega arith in
    ap (λ x. map (tile_of g) (rows_tiles d a a x)) start ∙ ap (map (tile_of g)) (rows_joined d a 0)
    ∙ numbered (tile_of g) (d * a) 0 (children g whole 64) (tile_count_lem g flat fits)
    (λ k h. walk_order g flat fits k (omega (arith, mul_comm a d)) ∙ ap (tile_of g) (zero_plus k))
  where
    zero_plus : (a : ℕ) → a ≡ 0 + a
    zero_plus a = omega arith

-- So its sum is the walk's.
pub all_walked : (t : Tape) (g : Grid) → solid g ≡ false → Fits g
    → walk_over t g (tiles_in g (all_tiles g)) (cleared g) ≡ walked t g
unfolding walk_over walked
all_walked t g flat fits = ap (λ rs. fold (λ r y. visit (sides g) t g r y) rs (cleared g)) (all_tiles_lem g flat fits)
