-- A turn on a blank picture, and its bytes laid over another.
use mathlib.Core.Path.{◌≡◌, refl, sym, ap, subst, ◌∙◌}
use mathlib.Core.Bool.{Bool, true, false, ◌&&◌, false≢true}
use mathlib.Core.List.{List}
use Prim.Native.Nat.{ℕ, zero, suc, min, ◌+◌, ◌*◌, ◌/◌, ◌%◌, ◌<◌, ◌≤◌}
use native.Mathlib.Nat.{div-add-mod', mod-lt, div-lt_iff_lt-mul, zero-add, mul-le-mul}
use native.Mathlib.Decide.{dec_lt}
use native.Mathlib.Omega.{arith}
use lib.Dec.{leb}
use lib.ListN.{length, get_or, replicate}
use lib.Seq.{ext_get_or}
use borrow.Author.Tests.{leb-true, leb-false, ltb-true, le-leb, lt-ltb}
use Rattle.rules.specs.Values.{pick}
use Rattle.rules.specs.Tapes.{Tape}
use Rattle.rules.specs.Drawings.{lesser, grid_fault}
use Rattle.rules.specs.Pictures.{stride, picture}
use Rattle.rules.proofs.Tests.{and_left, and_right}
use Rattle.rules.proofs.Regions.{lesser_both}
use Rattle.order_rules.specs.Orders.{cleared}
use Rattle.picture.specs.Bits.{Within}
use Rattle.picture.specs.Parts.{ByteIn}
use Rattle.picture.specs.Shapes.{grid_in}
use Rattle.picture.specs.declared.grid.Grid.{Grid}
use Rattle.picture.proofs.Grids.{accepted}
use Rattle.picture.proofs.BitShows.{blank_shows, shows_packed, rows_in}
use Rattle.patches.specs.Patches.{bytes_in, PartSet}
use Rattle.walk.specs.Cells.{Ends, size_in}
use Rattle.walk.specs.Walks.{Shown}
use Rattle.walk.proofs.CellLaws.{ends}
use Rattle.rectangle.specs.Rectangles.{rectangle_in}
use Rattle.rectangle.specs.declared.Rectangle.{Rectangle}
use Rattle.table_rules.specs.Tables.{entry_in, entry_ok, entries_ok, from, byte_in, laid, turn}
use Rattle.table_rules.proofs.Numbers.{in_tiles}
use Rattle.table_rules.proofs.Part.{laid_at, laid_size}
use Rattle.verdict_drawing.specs.Rects.{InGrid, TilesShared, TurnDrawn, LaidOver}

-- The least of two numbers, as the library has it.
pub least : (a b : ℕ) {e : ℕ} → e ≡ min a b → e ≡ lesser a b
unfolding lesser
least a b {e} h = go (leb a b) refl
  where
    go : (t : Bool) → leb a b ≡ t → e ≡ pick t a b
    go true k = omega (arith, leb-true a b k)
    go false k = omega (arith, leb-false a b k)

-- From heights of 0.
module _ {whole : List ℕ} {grid : Grid} {q : Rectangle} {t t' b b' : List ℕ} {c : ℕ}
    (v : TilesShared whole grid q t t' b b' c) (e : b ≡ replicate (grid.height * stride grid.width) 0) where
  blank : Shown false grid b (cleared (grid_in grid false)).heights
  blank = rw e (blank_shows grid.width grid.height)

  pub turn_drawn : ((j : ℕ) → get_or b' j 0 < 256) → TurnDrawn whole grid q t t' b' c
  unfolding turn picture
  turn_drawn bytes =
      record {
        table_then = λ n p. sym ((v.shares n p).table (cleared (grid_in grid false)) blank);
        pixels = λ n p.
            shows_packed grid.width grid.height b' _ bytes
            ((v.shares n p).shown (cleared (grid_in grid false)) blank);
        count = λ n p. sym ((v.shares n p).count (cleared (grid_in grid false)) blank ∙ zero-add _);
      }

pub laid_over : {whole : List ℕ} {grid : Grid} {q : Rectangle} {t t' b o o' : List ℕ} {c : ℕ}
    → TurnDrawn whole grid q t t' b c → o' ≡ laid (grid_in grid false) (rectangle_in q) b o
    → LaidOver whole grid q t t' o o' c
laid_over {grid = grid} {q} {o = o} v e =
    record {
      table_then = v.table_then;
      pixels = λ n p. e ∙ ap (λ x. laid (grid_in grid false) (rectangle_in q) x o) (v.pixels n p);
      count = v.count;
    }

-- The rectangle's ends in the picture.
module _ {grid : Grid} {q : Rectangle} (p : InGrid grid q) where
  pub x_ends : {e : ℕ} → e ≡ lesser grid.width (64 * q.column + 64 * q.columns)
      → Ends grid.width (64 * q.column) (64 * q.columns) e
  x_ends h =
      let t = in_tiles (grid_in grid false) (rectangle_in q) p.ok in
      ends grid.width (64 * q.column) (64 * q.columns) _ h (omega (arith, t.columns, t.some_column))
      (omega (arith, t.some_column))

  pub y_ends : {e : ℕ} → e ≡ lesser grid.height (64 * q.row + 64 * q.rows)
      → Ends grid.height (64 * q.row) (64 * q.rows) e
  y_ends h =
      let t = in_tiles (grid_in grid false) (rectangle_in q) p.ok in
      ends grid.height (64 * q.row) (64 * q.rows) _ h (omega (arith, t.rows, t.some_row))
      (omega (arith, t.some_row))

  module _ {xend yend : ℕ} (x : Ends grid.width (64 * q.column) (64 * q.columns) xend)
      (y : Ends grid.height (64 * q.row) (64 * q.rows) yend) where
    -- A byte of the rectangle, by its row and its place there.
    abbrev inside : ℕ → ℕ → Bool
    inside j c =
        from q.column q.columns (c / 8) && from q.row q.rows (j / 64)

    byte_in_lem : (j c : ℕ) → j < grid.height → c < stride grid.width → inside j c ≡ true
        → ByteIn (64 * q.column) xend (64 * q.row) yend j c
    byte_in_lem j c l m e =
        let a = and_left (from q.column q.columns (c / 8)) _ e in
        let b = and_right (from q.column q.columns (c / 8)) _ e in
        let a₁ = leb-true q.column (c / 8) (and_left (leb q.column (c / 8)) _ a) in
        let a₂ = ltb-true (c / 8) (q.column + q.columns) (and_right (leb q.column (c / 8)) _ a) in
        let b₁ = leb-true q.row (j / 64) (and_left (leb q.row (j / 64)) _ b) in
        let b₂ = ltb-true (j / 64) (q.row + q.rows) (and_right (leb q.row (j / 64)) _ b) in
        let u = lesser_both (8 * c) grid.width (64 * q.column + 64 * q.columns) (omega arith) (omega (arith, a₂)) in
        let v = lesser_both j grid.height (64 * q.row + 64 * q.rows) l (omega (arith, b₂)) in
        record {
          from_row = omega (arith, b₁);
          to_row = omega (arith, v, y.least);
          from_pixel = omega (arith, a₁);
          to_pixel = omega (arith, u, x.least);
        }

    of_rectangle : (j c : ℕ) → ByteIn (64 * q.column) xend (64 * q.row) yend j c → inside j c ≡ true
    of_rectangle j c o =
        let a₁ = le-leb q.column (c / 8) (omega (arith, o.from_pixel)) in
        let a₂ = lt-ltb (c / 8) (q.column + q.columns) (omega (arith, o.to_pixel, x.in_side)) in
        let b₁ = le-leb q.row (j / 64) (omega (arith, o.from_row)) in
        let b₂ = lt-ltb (j / 64) (q.row + q.rows) (omega (arith, o.to_row, y.in_side)) in
        rw (a₁, a₂, b₁, b₂)

    pub to_lay : (o : List ℕ) → length o ≡ size_in false grid → Within grid.width (64 * q.column) xend yend o × (64 * q.row ≤ yend)
    to_lay o size = (
      record {
        narrow = (accepted grid false p.fault).sizes.width.most;
        start = omega arith;
        some = x.some;
        columns = x.in_grid;
        rows = rows_in grid.width grid.height yend o size y.in_grid;
      },
      omega (arith, y.some),
    )

    pub laid_part : (new o : List ℕ) {o' : List ℕ} → length o ≡ size_in false grid → length new ≡ length o → length o' ≡ length o
        → PartSet grid.width (64 * q.column) xend (64 * q.row) yend (bytes_in new) o o'
        → o' ≡ laid (grid_in grid false) (rectangle_in q) new o
    unfolding byte_in
    laid_part new o {o'} size same long s =
        ext_get_or 0 o' (laid (grid_in grid false) (rectangle_in q) new o)
        (long ∙ sym (laid_size 0 (grid_in grid false) (rectangle_in q) new o)) (λ k h.
        at k (omega (arith, long))
        ∙ ap (λ i. pick (byte_in (grid_in grid false) (rectangle_in q) i) (get_or new k 0) (get_or o k 0)) (sym (zero-add k))
        ∙ sym (laid_at 0 (grid_in grid false) (rectangle_in q) new o same k (omega (arith, long))))
      where
        at : (k : ℕ) → k < length o
            → get_or o' k 0 ≡ pick (byte_in (grid_in grid false) (rectangle_in q) k) (get_or new k 0) (get_or o k 0)
        at k h =
            let w = stride grid.width in
            let some : 0 < w = omega (arith, x.some, x.in_grid) in
            let j = k / w in
            let c = k % w in
            let l : j < grid.height = (div-lt_iff_lt-mul some).1 (omega (arith, size)) in
            let m : c < w = mod-lt k some in
            let e = div-add-mod' k w in
            go (inside j c) j c refl l m e
          where
            go : (t : Bool) (j c : ℕ) → inside j c ≡ t → j < grid.height → c < stride grid.width
                → j * stride grid.width + c ≡ k
                → get_or o' k 0 ≡ pick t (get_or new k 0) (get_or o k 0)
            go true j c e l m d = subst (λ i. get_or o' i 0 ≡ get_or new i 0) d (s.inside j c m (byte_in_lem j c l m e))
            go false j c e l m d =
                subst (λ i. get_or o' i 0 ≡ get_or o i 0) d
                (s.outside.bytes j c m (λ b. false≢true (sym e ∙ of_rectangle j c b)))

-- Each entry of a table whose entries pass.
pub each_entry : (n : ℕ) (t : Tape) (b : List ℕ) → entries_ok n t b ≡ true → (i : ℕ) → i < n
    → entry_ok t (entry_in i b) ≡ true
unfolding entries_ok
each_entry zero t b e i h = absurd (omega arith)
each_entry (suc n) t b e i h = elim (dec_lt i n) [
  | yes l ↦ each_entry n t b (and_left (entries_ok n t b) _ e) i l
  | no l ↦ (let k : n ≡ i = omega arith in
      subst (λ j. entry_ok t (entry_in j b) ≡ true) k (and_right (entries_ok n t b) _ e))
]

-- The bytes of any flat picture.
pub picture_most : (grid : Grid) → grid_fault false (grid_in grid false) ≡ 0 → size_in false grid ≤ 32768
picture_most grid e =
    let z = (accepted grid false e).sizes in
    let a : stride grid.width ≤ 64 = omega (arith, z.width.most) in
    mul-le-mul z.height.most a
