-- The numbers of a rectangle's tiles: they rise, the grid has all of them, and each tile of the rectangle is among
-- them.
use mathlib.Core.Path.{◌≡◌, refl, ap, ◌∙◌}
use mathlib.Core.Bool.{Bool, true, false, ◌||◌, false≢true}
use mathlib.Core.List.{List, [], ◌∷◌, ◌++◌, map}
use Prim.Native.Nat.{ℕ, zero, suc, ◌+◌, ◌-◌, ◌*◌, ◌/◌, ◌%◌, ◌<◌, ◌≤◌}
use native.Mathlib.Omega.{arith}
use native.Mathlib.Nat.{mul_comm, mul-le-mul, mul-le-mul_right, add-mul, mod-lt, div-lt_iff_lt-mul}
use lib.Dec.{eqb, leb}
use lib.Arith.{digits_div, digits_mod}
use borrow.Author.Tests.{leb-true, eqb-true, eq-eqb}
use Rattle.rules.specs.Tapes.{is_in}
use Rattle.rules.specs.Drawings.{Grid, solid, Region, region}
use Rattle.rules.proofs.Tests.{and_left, and_right}
use Rattle.rules.proofs.Regions.{Begins, Some, here, there, Fits}
use Rattle.order_rules.specs.Orders.{numbers_from}
use Rattle.table_rules.specs.Tables.{tile_limit, tiles_across, tiles_down, tile_of, Rectangle, rectangle_ok}
use Rattle.table_rules.specs.Tables.{rows_tiles, tiles_in}

-- Numbers that rise, from n on and below m.
unfoldable pub Rising : ℕ → ℕ → List ℕ → Type 0
Rising n m [] = Unit {0}
Rising n m (i ∷ is) = (n ≤ i) × (i < m) × Rising (suc i) m is

rising_from : (n k m : ℕ) (is : List ℕ) → n ≤ k → Rising k m is → Rising n m is
unfolding Rising
rising_from n k m [] h r = tt
rising_from n k m (i ∷ is) h r = (omega (arith, r.0), r.1, r.2)

rising_rows : (n i k m : ℕ) (rest : List ℕ) → i + n ≤ m → i + n ≤ k → Rising k m rest
    → Rising i m (numbers_from i n ++ rest)
unfolding Rising numbers_from
rising_rows zero i k m rest h l r = rising_from i k m rest (omega arith) r
rising_rows (suc n) i k m rest h l r =
    (omega arith, omega arith, rising_rows n (suc i) k m rest (omega arith) (omega arith) r)

rows_rising : (r a n i m : ℕ) → n ≤ a → i + r * a ≤ m + (a - n) → Rising i m (rows_tiles r a n i)
unfolding Rising rows_tiles
rows_rising zero a n i m h k = tt
rows_rising (suc r) a n i m h k =
    rising_rows n i (i + a) m (rows_tiles r a n (i + a)) (omega arith) (omega arith)
    (rows_rising r a n (i + a) m h (omega arith))

-- A rectangle that is not refused.
pub record InTiles (g : Grid) (q : Rectangle) : Type 0 where
  pub some_column : 1 ≤ q.columns
  pub some_row : 1 ≤ q.rows
  pub columns : q.column + q.columns ≤ tiles_across g
  pub rows : q.row + q.rows ≤ tiles_down g

pub in_tiles : (g : Grid) (q : Rectangle) → rectangle_ok g q ≡ true → InTiles g q
unfolding rectangle_ok
in_tiles g q e =
    let f = and_right (leb 1 q.columns) _ e in
    let h = and_right (leb 1 q.rows) _ f in
    record {
      some_column = leb-true 1 q.columns (and_left _ _ e);
      some_row = leb-true 1 q.rows (and_left _ _ f);
      columns = leb-true (q.column + q.columns) (tiles_across g) (and_left _ _ h);
      rows = leb-true (q.row + q.rows) (tiles_down g) (and_right (leb (q.column + q.columns) (tiles_across g)) _ h);
    }

pub tiles_rising : (g : Grid) (q : Rectangle) → InTiles g q → Rising 0 (tiles_across g * tiles_down g) (tiles_in g q)
unfolding tiles_in
tiles_rising g q k =
    let a = tiles_across g in
    let e : (q.row + q.rows) * a ≡ q.row * a + q.rows * a = add-mul q.row q.rows a in
    let l : (q.row + q.rows) * a ≤ tiles_down g * a = mul-le-mul_right a k.rows in
    let c : tiles_across g * tiles_down g ≡ tiles_down g * a = mul_comm a (tiles_down g) in
    rising_from 0 (q.row * a + q.column) (a * tiles_down g) _ (omega arith)
    (rows_rising q.rows a q.columns (q.row * a + q.column) (a * tiles_down g) (omega (arith, k.columns))
    (omega (arith, k.columns)))

-- The table has an entry for each tile of the grid.
pub entries_enough : (g : Grid) → Fits g → tiles_across g * tiles_down g ≤ tile_limit
entries_enough g f =
    let x : tiles_across g ≤ 8 = omega (arith, f.width) in
    let y : tiles_down g ≤ 8 = omega (arith, f.height) in
    mul-le-mul x y

-- A tile that the grid has begins inside it.
across_some : (g : Grid) (i : ℕ) → i < tiles_across g * tiles_down g → 0 < tiles_across g
across_some g i h = go (tiles_across g) h
  where
    go : (a : ℕ) → i < a * tiles_down g → 0 < a
    go zero l = absurd (omega arith)
    go (suc a) l = omega arith

pub tile_begins : (g : Grid) → solid g ≡ false → (i : ℕ) → i < tiles_across g * tiles_down g → Begins g (tile_of g i)
unfolding tile_of
tile_begins g flat i h =
    let a = tiles_across g in
    let p = across_some g i h in
    let x : i % a < a = mod-lt i p in
    let y : i / a < tiles_down g = (div-lt_iff_lt-mul p).1 (rw (mul_comm a (tiles_down g)) at h) in
    record { x_in = omega (arith, x); y_in = omega (arith, y); z_in = rw flat (omega arith) }

-- The tile in a column and a row.
pub tile_at_lem : (g : Grid) (column row : ℕ) → column < tiles_across g
    → tile_of g (row * tiles_across g + column) ≡ region (64 * column) (64 * row) 0 64
unfolding tile_of
tile_at_lem g column row h = rw (digits_mod row h, digits_div row h)

-- Each tile of a rectangle is among its numbers.
in_left : (k : ℕ) (u v : List ℕ) → is_in k u ≡ true → is_in k (u ++ v) ≡ true
unfolding is_in
in_left k [] v e = absurd (false≢true e)
in_left k (i ∷ u) v e = go (eqb k i) e (in_left k u v)
  where
    go : (b : Bool) → (b || is_in k u) ≡ true → (is_in k u ≡ true → is_in k (u ++ v) ≡ true)
        → (b || is_in k (u ++ v)) ≡ true
    go true e f = refl
    go false e f = f e

in_right : (k : ℕ) (u v : List ℕ) → is_in k v ≡ true → is_in k (u ++ v) ≡ true
unfolding is_in
in_right k [] v e = e
in_right k (i ∷ u) v e = go (eqb k i) (in_right k u v e)
  where
    go : (b : Bool) → is_in k (u ++ v) ≡ true → (b || is_in k (u ++ v)) ≡ true
    go true f = refl
    go false f = f

row_in : (n i c : ℕ) → c < n → is_in (i + c) (numbers_from i n) ≡ true
unfolding is_in numbers_from
row_in zero i c h = absurd (omega arith)
row_in (suc n) i zero h = rw (eq-eqb (i + 0) i (omega arith))
row_in (suc n) i (suc c) h =
    in_right (i + suc c) (i ∷ []) (numbers_from (suc i) n)
    (ap (λ k. is_in k (numbers_from (suc i) n)) (next i c) ∙ row_in n (suc i) c (omega arith))
  where
    next : (i c : ℕ) → i + suc c ≡ suc i + c
    next i c = omega arith

rows_in : (m a n i r c : ℕ) → r < m → c < n → is_in (i + r * a + c) (rows_tiles m a n i) ≡ true
unfolding rows_tiles
rows_in zero a n i r c h k = absurd (omega arith)
rows_in (suc m) a n i zero c h k =
    in_left (i + 0 * a + c) (numbers_from i n) (rows_tiles m a n (i + a))
    (ap (λ x. is_in x (numbers_from i n)) (first i a c) ∙ row_in n i c k)
  where
    first : (i a c : ℕ) → i + 0 * a + c ≡ i + c
    first i a c = omega arith
rows_in (suc m) a n i (suc r) c h k =
    in_right (i + suc r * a + c) (numbers_from i n) (rows_tiles m a n (i + a))
    (ap (λ x. is_in x (rows_tiles m a n (i + a))) (next i r a c) ∙ rows_in m a n (i + a) r c (omega arith) k)
  where
    next : (i r a c : ℕ) → i + suc r * a + c ≡ i + a + r * a + c
    next i r a c = omega arith

pub tile_in : (g : Grid) (q : Rectangle) (column row : ℕ) → q.column ≤ column → column < q.column + q.columns
    → q.row ≤ row → row < q.row + q.rows → is_in (row * tiles_across g + column) (tiles_in g q) ≡ true
unfolding tiles_in
tile_in g q column row a b c d =
    let w = tiles_across g in
    let y = row - q.row in
    let x = column - q.column in
    let e : (q.row + y) * w ≡ q.row * w + y * w = add-mul q.row y w in
    let f : row ≡ q.row + y = omega arith in
    let h : row * w ≡ (q.row + y) * w = ap (λ v. v * w) f in
    let k : row * w + column ≡ q.row * w + q.column + y * w + x = omega arith in
    ap (λ v. is_in v (tiles_in g q)) k
    ∙ rows_in q.rows w q.columns (q.row * w + q.column) y x (omega arith) (omega arith)

-- What holds of the region of one number holds of some region of the list.
pub in_some : (P : Region → Type 0) (f : ℕ → Region) (k : ℕ) (is : List ℕ) → is_in k is ≡ true → P (f k)
    → Some P (map f is)
unfolding is_in
in_some P f k [] e h = absurd (false≢true e)
in_some P f k (i ∷ is) e h = go (eqb k i) refl e (λ d. in_some P f k is d h)
  where
    go : (b : Bool) → eqb k i ≡ b → (b || is_in k is) ≡ true → (is_in k is ≡ true → Some P (map f is))
        → Some P (f i ∷ map f is)
    go true d e rest = here (rw (eqb-true k i d) at h)
    go false d e rest = there (rest e)
