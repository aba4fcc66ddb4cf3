-- The numbers of a rectangle's tiles by their place in the list, and the bytes of the tiles that are still to come.
use mathlib.Core.Path.{◌≡◌, refl, sym, ap, ap₂, ◌∙◌}
use mathlib.Core.Bool.{Bool, true, false}
use mathlib.Core.List.{List, ◌++◌}
use Prim.Native.Nat.{ℕ, zero, suc, ◌+◌, ◌*◌, ◌/◌, ◌%◌, ◌<◌, ◌≤◌}
use native.Mathlib.Nat.{div-add-mod', mod-lt, div-lt_iff_lt-mul, add-mul, mul-le-mul, mul-le-mul_right}
use native.Mathlib.Omega.{arith}
use lib.Dec.{ltb}
use lib.ListN.{length, get_or, replicate, length-append, get_or-append, get_or-eq_default}
use lib.Seq.{get_or-append-add}
use borrow.Author.Tests.{ltb-true, ltb-false}
use Rattle.rules.specs.Pictures.{stride}
use Rattle.order_rules.specs.Orders.{numbers_from}
use Rattle.picture.specs.Parts.{ByteIn}
use Rattle.picture.specs.Shapes.{grid_in}
use Rattle.picture.specs.declared.grid.Grid.{Grid}
use Rattle.picture.proofs.Grids.{accepted}
use Rattle.rectangle.specs.Rectangles.{rectangle_in}
use Rattle.rectangle.specs.declared.Rectangle.{Rectangle}
use Rattle.plate_tiles.specs.Tiles.{across, number_of}
use Rattle.table_rules.specs.Tables as T
use Rattle.table_rules.specs.Tables.{tiles_across, rows_tiles, tiles_in}
use Rattle.table_rules.proofs.Numbers.{InTiles, in_tiles}
use Rattle.verdict_tiles.specs.Shares.{TileBlank, TileApart}
use Rattle.verdict_drawing.specs.Rects.{InGrid, ForNumber}

numbers_length : (i n : ℕ) → length (numbers_from i n) ≡ n
unfolding numbers_from
numbers_length i zero = refl
numbers_length i (suc n) = ap suc (numbers_length (suc i) n)

numbers_at : (i n c : ℕ) → c < n → get_or (numbers_from i n) c 0 ≡ i + c
unfolding numbers_from
numbers_at i zero c h = absurd (omega arith)
numbers_at i (suc n) zero h = omega arith
numbers_at i (suc n) (suc c) h = numbers_at (suc i) n c (omega arith) ∙ omega arith

rows_length : (m a n i : ℕ) → length (rows_tiles m a n i) ≡ m * n
unfolding rows_tiles
rows_length zero a n i = omega arith
rows_length (suc m) a n i =
    omega (
      arith,
      length-append (numbers_from i n) (rows_tiles m a n (i + a)),
      numbers_length i n,
      rows_length m a n (i + a),
    )

rows_at : (m a n i r c : ℕ) → r < m → c < n → get_or (rows_tiles m a n i) (r * n + c) 0 ≡ i + r * a + c
unfolding rows_tiles
rows_at zero a n i r c h k = absurd (omega arith)
rows_at (suc m) a n i zero c h k =
    let rest = rows_tiles m a n (i + a) in
    let e : 0 * n + c ≡ c = omega arith in
    ap (λ x. get_or (numbers_from i n ++ rest) x 0) e
    ∙ get_or-append (numbers_from i n) rest 0 c (omega (arith, numbers_length i n)) ∙ numbers_at i n c k ∙ omega arith
rows_at (suc m) a n i (suc r) c h k =
    let rest = rows_tiles m a n (i + a) in
    let e : suc r * n + c ≡ length (numbers_from i n) + (r * n + c) = omega (arith, numbers_length i n) in
    ap (λ x. get_or (numbers_from i n ++ rest) x 0) e ∙ get_or-append-add (numbers_from i n) rest (r * n + c) 0
    ∙ rows_at m a n (i + a) r c (omega arith) k ∙ omega arith

-- How many tiles a rectangle has, and the one with the place k in the list.
pub tiles_length : (g : _) (q : T.Rectangle) → length (tiles_in g q) ≡ q.rows * q.columns
unfolding tiles_in
tiles_length g q = rows_length q.rows (tiles_across g) q.columns (q.row * tiles_across g + q.column)

module _ (g : _) (q : T.Rectangle) (t : InTiles g q) (k : ℕ) (h : k < q.rows * q.columns) where
  some : 0 < q.columns
  some = omega (arith, t.some_column)

  pub row_below : k / q.columns < q.rows
  row_below = (div-lt_iff_lt-mul some).1 h

  pub column_below : k % q.columns < q.columns
  column_below = mod-lt k some

  pub number_at : (q.row + k / q.columns) * tiles_across g + (q.column + k % q.columns) ≡ get_or (tiles_in g q) k 0
  unfolding tiles_in
  number_at =
      let a = tiles_across g in
      let r = k / q.columns in
      let c = k % q.columns in
      let i = q.row * a + q.column in
      let e : (q.row + r) * a ≡ q.row * a + r * a = add-mul q.row r a in
      let f : (q.row + r) * a + (q.column + c) ≡ i + r * a + c = omega arith in
      f ∙ sym (rows_at q.rows a q.columns i r c row_below column_below)
      ∙ ap (λ x. get_or (rows_tiles q.rows a q.columns i) x 0) (div-add-mod' k q.columns)

-- A rectangle of a grid that no line refuses has few tiles, and the numbers of the place k are small.
pub few_rows : {grid : Grid} {q : Rectangle} → InGrid grid q → (q.row + q.rows ≤ 8) × (q.column + q.columns ≤ 8)
few_rows {grid} {q} p =
    let z = (accepted grid false p.fault).sizes in
    let t = in_tiles (grid_in grid false) (rectangle_in q) p.ok in
    (omega (arith, t.rows, z.height.most), omega (arith, t.columns, z.width.most))

pub few_tiles : {grid : Grid} {q : Rectangle} → InGrid grid q → q.rows * q.columns ≤ 64
few_tiles {grid} {q} p =
    let f = few_rows p in
    let a : q.rows ≤ 8 = omega (arith, f) in
    let b : q.columns ≤ 8 = omega (arith, f) in
    mul-le-mul a b

pub record Here (grid : Grid) (q : Rectangle) (k : ℕ) : Type 0 where
  pub some : 0 < q.columns
  pub row : q.row + k / q.columns < 8
  pub column : q.column + k % q.columns < 8
  pub few : tiles_across (grid_in grid false) ≤ 8
  pub product : (q.row + k / q.columns) * tiles_across (grid_in grid false) ≤ 64

pub here : {grid : Grid} {q : Rectangle} {k : ℕ} → ForNumber grid q k → Here grid q k
here {grid} {q} {k} p =
    let g = grid_in grid false in
    let t = in_tiles g (rectangle_in q) p.rectangle.ok in
    let f = few_rows p.rectangle in
    let w : tiles_across g ≤ 8 = omega (arith, (accepted grid false p.rectangle.fault).sizes.width.most) in
    let r : q.row + k / q.columns < 8 = omega (arith, f, row_below g (rectangle_in q) t k p.more) in
    let r' : q.row + k / q.columns ≤ 8 = omega (arith, r) in
    record {
      some = omega (arith, t.some_column);
      row = r;
      column = omega (arith, f, column_below g (rectangle_in q) t k p.more);
      few = w;
      product = mul-le-mul r' w;
    }

pub number_here : {grid : Grid} {q : Rectangle} {k : ℕ} → ForNumber grid q k → (w : ℕ) → w ≡ tiles_across (grid_in grid false)
    → (q.row + k / q.columns) * w + (q.column + k % q.columns) ≡ get_or (tiles_in (grid_in grid false) (rectangle_in q)) k 0
number_here {grid} {q} {k} p w e =
    let g = grid_in grid false in
    ap (λ x. (q.row + k / q.columns) * x + (q.column + k % q.columns)) e
    ∙ number_at g (rectangle_in q) (in_tiles g (rectangle_in q) p.rectangle.ok) k p.more

-- Bytes of tiles from a number on that are all 0.
pub record CleanFrom (grid : Grid) (low : ℕ) (b : List ℕ) : Type 0 where
  pub bytes : (y c : ℕ) → y < grid.height → c < stride grid.width → low ≤ number_of grid y c
      → get_or b (y * stride grid.width + c) 0 ≡ 0

-- The number of the tile that a byte is of.
byte_number : (grid : Grid) (i y c : ℕ)
    → ByteIn (64 * (i % across grid)) (64 * (i % across grid) + 64) (64 * (i / across grid)) (64 * (i / across grid) + 64) y c
    → number_of grid y c ≡ i
byte_number grid i y c o =
    let a : c / 8 ≡ i % across grid = omega (arith, o.from_pixel, o.to_pixel) in
    let b : y / 64 ≡ i / across grid = omega (arith, o.from_row, o.to_row) in
    ap₂ (λ u v. u * across grid + v) b a ∙ div-add-mod' i (across grid)

module _ {grid : Grid} {b : List ℕ} where
  pub clean_all : (n : ℕ) → b ≡ replicate n 0 → CleanFrom grid 0 b
  clean_all n e = record { bytes = λ y c h l m. ap (λ x. get_or x (y * stride grid.width + c) 0) e ∙ zero_at_lem n _ }
    where
      zero_at_lem : (n p : ℕ) → ◌≡◌ {A = ℕ} (get_or (replicate n 0) p 0) 0
      zero_at_lem zero p = refl
      zero_at_lem (suc n) zero = refl
      zero_at_lem (suc n) (suc p) = zero_at_lem n p

  module _ {low i : ℕ} (k : CleanFrom grid low b) (l : low ≤ i) where
    pub clean_tile : length b ≡ grid.height * stride grid.width → TileBlank grid i b
    clean_tile size = record { bytes = λ y c h o. at y c h o (ltb y grid.height) refl }
      where
        at : (y c : ℕ) → c < stride grid.width
            → ByteIn (64 * (i % across grid)) (64 * (i % across grid) + 64) (64 * (i / across grid))
            (64 * (i / across grid) + 64) y c
            → (t : Bool) → ltb y grid.height ≡ t → get_or b (y * stride grid.width + c) 0 ≡ 0
        at y c h o true e =
            k.bytes y c (ltb-true y grid.height e) h (omega (arith, byte_number grid i y c o))
        at y c h o false e =
            let m = ltb-false y grid.height e in
            get_or-eq_default b 0 (omega (arith, size, mul-le-mul_right (stride grid.width) m))

    pub clean_next : {b' : List ℕ} → TileApart grid i b b' → CleanFrom grid (suc i) b'
    clean_next a =
        record {
          bytes = λ y c h m n.
              a.bytes y c m (λ o. omega (arith, byte_number grid i y c o)) ∙ k.bytes y c h m (omega arith);
        }
