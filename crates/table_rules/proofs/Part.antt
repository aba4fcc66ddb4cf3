-- The pixels of a rectangle's tiles are the full drawing's, and so the picture's bytes there are.
use mathlib.Core.Path.{◌≡◌, refl, sym, ap, ap₂, ◌∙◌}
use mathlib.Core.Bool.{Bool, true, false}
use mathlib.Core.List.{List, [], ◌∷◌, ◌++◌, map}
use Prim.Native.Nat.{ℕ, zero, suc, ◌+◌, ◌*◌, ◌/◌, ◌%◌, ◌<◌, ◌≤◌}
use native.Mathlib.Omega.{arith}
use native.Mathlib.Nat.{mul_comm, zero-mul, div-add-mod', mod-lt, div-lt_iff_lt-mul}
use lib.Dec.{ltb, leb}
use lib.Arith.{digits_lt}
use lib.ListN.{length, get_or, take, drop, length-append, length-replicate, length-take, get_or-append}
use lib.ListN.{get_or-eq_default}
use lib.Seq.{get_or-append-add, get_or-take, get_or-drop, drop-drop}
use borrow.Author.Tests.{ltb-true, ltb-false, leb-true}
use Rattle.rules.specs.Values.{pick}
use Rattle.rules.specs.Tapes.{Tape, read_tape}
use Rattle.rules.specs.Drawings.{Grid, solid, Region, region, State, fold, visit, drawn, whole}
use Rattle.rules.specs.Pictures.{stride, byte_of, row_bytes, bits_of, picture}
use Rattle.rules.proofs.Tests.{and_left, and_right}
use Rattle.rules.proofs.Runs.{accepted_good}
use Rattle.rules.proofs.Regions.{Inside, Each, Some, here, there, steps_flat}
use Rattle.rules.proofs.Raised.{Raised}
use Rattle.rules.proofs.Grids.{Sound}
use Rattle.rules.proofs.Samples.{Hit}
use Rattle.rules.proofs.Columns.{drawn_raised}
use Rattle.rules.proofs.Heights.{same_pixel}
use Rattle.rules.proofs.Walk.{visit_raised, fold_raised}
use Rattle.order_rules.specs.Orders.{cleared}
use Rattle.table_rules.specs.Tables.{tiles_across, tiles_down, tile_of, Rectangle, tiles_in, from, byte_in}
use Rattle.table_rules.specs.Tables.{laid_from, laid}
use Rattle.table_rules.proofs.Numbers.{Rising, InTiles, tile_begins, tile_at_lem, tile_in, tiles_rising, in_some}

-- A byte of a picture by its eight pixels.
row_length : (n : ℕ) (r : List ℕ) → length (row_bytes n r) ≡ n
unfolding row_bytes
row_length zero r = refl
row_length (suc n) r = ap suc (row_length n (drop 8 r))

row_at : (n c : ℕ) (r : List ℕ) → c < n → get_or (row_bytes n r) c 0 ≡ byte_of (take 8 (drop (8 * c) r))
unfolding row_bytes
row_at zero c r l = absurd (omega arith)
row_at (suc n) zero r l = refl
row_at (suc n) (suc c) r l =
    let e : 8 + 8 * c ≡ 8 * suc c = omega arith in
    row_at n c (drop 8 r) (omega arith)
    ∙ ap (λ q. byte_of (take 8 q)) (drop-drop (8 * c) 8 r ∙ ap (λ q. drop q r) e)

rows_down : (w y : ℕ) (h : List ℕ) → drop (y * w) (drop w h) ≡ drop (suc y * w) h
rows_down w y h =
    let e : w + y * w ≡ suc y * w = omega arith in
    drop-drop (y * w) w h ∙ ap (λ i. drop i h) e

bits_at : (w n : ℕ) (h : List ℕ) (y c : ℕ) → y < n → c < stride w
    → get_or (bits_of w n h) (y * stride w + c) 0 ≡ byte_of (take 8 (drop (8 * c) (take w (drop (y * w) h))))
unfolding bits_of
bits_at w zero h y c l o = absurd (omega arith)
bits_at w (suc n) h zero c l o =
    let r = row_bytes (stride w) (take w h) in
    ap (λ i. get_or (r ++ bits_of w n (drop w h)) i 0) (none (stride w) c)
    ∙ get_or-append r (bits_of w n (drop w h)) 0 c (omega (arith, row_length (stride w) (take w h)))
    ∙ row_at (stride w) c (take w h) o
    ∙ ap (λ i. byte_of (take 8 (drop (8 * c) (take w (drop i h))))) (sym (zero-mul w))
  where
    none : (s c : ℕ) → 0 * s + c ≡ c
    none s c = omega arith
bits_at w (suc n) h (suc y) c l o =
    let r = row_bytes (stride w) (take w h) in
    ap (λ i. get_or (r ++ bits_of w n (drop w h)) i 0) (omega (arith, row_length (stride w) (take w h)))
    ∙ get_or-append-add r (bits_of w n (drop w h)) (y * stride w + c) 0
    ∙ bits_at w n (drop w h) y c (omega arith) o
    ∙ ap (λ v. byte_of (take 8 (drop (8 * c) (take w v)))) (rows_down w y h)

pub bits_length : (w n : ℕ) (h : List ℕ) → length (bits_of w n h) ≡ n * stride w
unfolding bits_of
bits_length w zero h = omega arith
bits_length w (suc n) h =
    omega (
      arith,
      length-append (row_bytes (stride w) (take w h)) (bits_of w n (drop w h)),
      row_length (stride w) (take w h),
      bits_length w n (drop w h),
    )

-- Heights that agree at a byte's pixels give the same byte.
same_byte : (u v : List ℕ) → ((k : ℕ) → k < 8 → get_or u k 0 ≡ get_or v k 0) → byte_of u ≡ byte_of v
unfolding byte_of
same_byte u v f =
    let e₀ = f 0 (omega arith) in
    let e₁ = f 1 (omega arith) in
    let e₂ = f 2 (omega arith) in
    let e₃ = f 3 (omega arith) in
    let e₄ = f 4 (omega arith) in
    let e₅ = f 5 (omega arith) in
    let e₆ = f 6 (omega arith) in
    let e₇ = f 7 (omega arith) in
    omega (arith, e₀, e₁, e₂, e₃, e₄, e₅, e₆, e₇)

same_pixels : (w y c k : ℕ) (h m : List ℕ) → k < 8
    → (8 * c + k < w → get_or h (y * w + (8 * c + k)) 0 ≡ get_or m (y * w + (8 * c + k)) 0)
    → get_or (take 8 (drop (8 * c) (take w (drop (y * w) h)))) k 0
    ≡ get_or (take 8 (drop (8 * c) (take w (drop (y * w) m)))) k 0
same_pixels w y c k h m l f = at h ∙ go (ltb (8 * c + k) w) refl ∙ sym (at m)
  where
    at : (h : List ℕ) → get_or (take 8 (drop (8 * c) (take w (drop (y * w) h)))) k 0
        ≡ get_or (take w (drop (y * w) h)) (8 * c + k) 0
    at h =
        get_or-take 8 (drop (8 * c) (take w (drop (y * w) h))) k 0 l ∙ get_or-drop (8 * c) (take w (drop (y * w) h)) k 0

    inside : (h : List ℕ) → 8 * c + k < w
        → get_or (take w (drop (y * w) h)) (8 * c + k) 0 ≡ get_or h (y * w + (8 * c + k)) 0
    inside h i = get_or-take w (drop (y * w) h) (8 * c + k) 0 i ∙ get_or-drop (y * w) h (8 * c + k) 0

    past : (h : List ℕ) → w ≤ 8 * c + k → get_or (take w (drop (y * w) h)) (8 * c + k) 0 ≡ 0
    past h i =
        get_or-eq_default (take w (drop (y * w) h)) 0 (omega (arith, length-take w (drop (y * w) h)))

    go : (b : Bool) → ltb (8 * c + k) w ≡ b → get_or (take w (drop (y * w) h)) (8 * c + k) 0
        ≡ get_or (take w (drop (y * w) m)) (8 * c + k) 0
    go true e = let i = ltb-true (8 * c + k) w e in inside h i ∙ f i ∙ sym (inside m i)
    go false e = let i = ltb-false (8 * c + k) w e in past h i ∙ sym (past m i)

-- What is laid into a picture: inside the rectangle the new bytes, outside those that were there.
pub laid_size : (p : ℕ) (g : Grid) (q : Rectangle) (u old : List ℕ) → length (laid_from p g q u old) ≡ length old
unfolding laid_from
laid_size p g q u [] = refl
laid_size p g q [] (b ∷ old) = refl
laid_size p g q (a ∷ u) (b ∷ old) = ap suc (laid_size (suc p) g q u old)

pub laid_at : (p : ℕ) (g : Grid) (q : Rectangle) (u old : List ℕ) → length u ≡ length old → (k : ℕ) → k < length old
    → get_or (laid_from p g q u old) k 0 ≡ pick (byte_in g q (p + k)) (get_or u k 0) (get_or old k 0)
unfolding laid_from
laid_at p g q u [] l k h = absurd (omega arith)
laid_at p g q [] (b ∷ old) l k h = absurd (omega arith)
laid_at p g q (a ∷ u) (b ∷ old) l zero h = ap (λ x. pick (byte_in g q x) a b) (none p)
  where
    none : (p : ℕ) → p ≡ p + 0
    none p = omega arith
laid_at p g q (a ∷ u) (b ∷ old) l (suc k) h =
    laid_at (suc p) g q u old (omega arith) k (omega arith)
    ∙ ap (λ x. pick (byte_in g q x) (get_or u k 0) (get_or old k 0)) (next p k)
  where
    next : (p k : ℕ) → suc p + k ≡ p + suc k
    next p k = omega arith

-- What is laid into a picture is decided by the bytes of the rectangle.
pub same_laid : (p : ℕ) (g : Grid) (q : Rectangle) (u v old : List ℕ) → length u ≡ length v
    → ((k : ℕ) → k < length u → byte_in g q (p + k) ≡ true → get_or u k 0 ≡ get_or v k 0)
    → laid_from p g q u old ≡ laid_from p g q v old
unfolding laid_from
same_laid p g q u v [] l f = refl
same_laid p g q [] [] (b ∷ old) l f = refl
same_laid p g q [] (c ∷ v) (b ∷ old) l f = absurd (omega arith)
same_laid p g q (a ∷ u) [] (b ∷ old) l f = absurd (omega arith)
same_laid p g q (a ∷ u) (c ∷ v) (b ∷ old) l f =
    ap₂ (λ x xs. x ∷ xs) (go (byte_in g q p) refl)
    (same_laid (suc p) g q u v old (omega arith)
    (λ k h e. f (suc k) (omega arith) (ap (byte_in g q) (next p k) ∙ e)))
  where
    none : (p : ℕ) → p + 0 ≡ p
    none p = omega arith

    next : (p k : ℕ) → p + suc k ≡ suc p + k
    next p k = omega arith

    go : (t : Bool) → byte_in g q p ≡ t → pick t a b ≡ pick t c b
    go true e = f 0 (omega arith) (ap (byte_in g q) (none p) ∙ e)
    go false e = refl

module _ (s : List ℕ) (good : (read_tape s).number ≡ 0) (g : Grid) (flat : solid g ≡ false) (sound : Sound g) where
  abbrev tape : Tape
  tape = (read_tape s).tape

  abbrev walk : List ℕ → State → State
  walk is y = fold (λ r z. visit (8 ∷ (1 ∷ [])) tape g r z) (map (tile_of g) is) y

  tile_raised : (i : ℕ) → i < tiles_across g * tiles_down g → (y : State)
      → Raised (Hit tape g (tile_of g i)) y.heights (visit (8 ∷ (1 ∷ [])) tape g (tile_of g i) y).heights
  unfolding tile_of
  tile_raised i h y =
      visit_raised (8 ∷ (1 ∷ [])) 64 steps_flat refl g sound tape (accepted_good s good) (tile_of g i)
      (tile_begins g flat i h) refl y

  each_raised : (k : ℕ) (is : List ℕ) → Rising k (tiles_across g * tiles_down g) is
      → Each (λ r. (y : State) → Raised (Hit tape g r) y.heights (visit (8 ∷ (1 ∷ [])) tape g r y).heights)
      (map (tile_of g) is)
  unfolding Rising Each
  each_raised k [] r = tt
  each_raised k (i ∷ is) r = (tile_raised i r.1, each_raised (suc i) is r.2)

  tiles_raised : (k : ℕ) (is : List ℕ) → Rising k (tiles_across g * tiles_down g) is
      → Raised (λ p z. Some (λ r. Hit tape g r p z) (map (tile_of g) is)) (cleared g).heights (walk is (cleared g)).heights
  tiles_raised k is r =
      fold_raised (λ q z. visit (8 ∷ (1 ∷ [])) tape g q z) (Hit tape g) (map (tile_of g) is) (each_raised k is r)
      (cleared g)

  -- A sample of a tile is one of the whole grid.
  whole_hit : (p z : ℕ) (qs : List Region) → Some (λ r. Hit tape g r p z) qs → Hit tape g whole p z
  whole_hit p z [] h = elim h [ ]
  whole_hit p z (q ∷ qs) (here h) =
      record {
        x = h.x;
        y = h.y;
        place = h.place;
        inside = omega (arith, h.in_grid, sound.fits);
        in_grid = h.in_grid;
        has = h.has;
      }
  whole_hit p z (q ∷ qs) (there h) = whole_hit p z qs h

  module _ (q : Rectangle) (k : InTiles g q) where
    abbrev pub heights : List ℕ
    heights = (walk (tiles_in g q) (cleared g)).heights

    -- A sample at a pixel of the rectangle is one of a tile of it.
    tile_hit : (x y z : ℕ) → x < g.width → from q.column q.columns (x / 64) ≡ true
        → from q.row q.rows (y / 64) ≡ true → Hit tape g whole (y * g.width + x) z
        → Some (λ r. Hit tape g r (y * g.width + x) z) (map (tile_of g) (tiles_in g q))
    tile_hit x y z l a b h =
        let c = x / 64 in
        let d = y / 64 in
        let u : q.column ≤ c = leb-true q.column c (and_left (leb q.column c) _ a) in
        let v : c < q.column + q.columns = ltb-true c (q.column + q.columns) (and_right (leb q.column c) _ a) in
        let m : q.row ≤ d = leb-true q.row d (and_left (leb q.row d) _ b) in
        let n : d < q.row + q.rows = ltb-true d (q.row + q.rows) (and_right (leb q.row d) _ b) in
        let e = same_pixel g.width x y h.x h.y l h.in_grid.x_in h.place in
        let f : z < 1 = rw flat at h.in_grid.z_in in
        in_some (λ r. Hit tape g r (y * g.width + x) z) (tile_of g) (d * tiles_across g + c) (tiles_in g q)
        (tile_in g q c d u v m n)
        (rw (tile_at_lem g c d (omega (arith, k.columns)))
        (record {
          x = h.x;
          y = h.y;
          place = h.place;
          inside = inside_tile x y h.x h.y z e.0 e.1 f;
          in_grid = h.in_grid;
          has = h.has;
        }))
      where
        inside_tile : (x y a b z : ℕ) → x ≡ a → y ≡ b → z < 1
            → Inside (region (64 * (x / 64)) (64 * (y / 64)) 0 64) a b z
        inside_tile x y a b z e f h = omega arith

    -- So the heights there are the full drawing's.
    zeros_long : length (cleared g).heights ≡ g.width * g.height
    zeros_long = length-replicate {A = ℕ} (g.width * g.height) 0

    pub pixel_drawn : (x y : ℕ) → x < g.width → y < g.height → from q.column q.columns (x / 64) ≡ true
        → from q.row q.rows (y / 64) ≡ true
        → get_or heights (y * g.width + x) 0 ≡ get_or (drawn tape g) (y * g.width + x) 0
    pixel_drawn x y l m a b =
        let p = y * g.width + x in
        let u = tiles_raised 0 (tiles_in g q) (tiles_rising g q k) in
        let v = drawn_raised tape g sound.fits in
        let n : p < length (cleared g).heights =
        omega (arith, zeros_long, digits_lt m l, mul_comm g.width g.height) in
        let up = u.least p (get_or (drawn tape g) p 0) n (v.from p n)
        (λ z i. v.above p z n (whole_hit p z (map (tile_of g) (tiles_in g q)) i)) in
        let down = v.least p (get_or heights p 0) n (u.from p n) (λ z i. u.above p z n (tile_hit x y z l a b i)) in
        omega (arith, up, down)

    -- And the picture's bytes there.
    stride_some : (p : ℕ) → p < g.height * stride g.width → 0 < stride g.width
    stride_some p h = go (stride g.width) h
      where
        go : (n : ℕ) → p < g.height * n → 0 < n
        go zero l = absurd (omega arith)
        go (suc n) l = omega arith

    byte_drawn : (p : ℕ) → p < g.height * stride g.width → byte_in g q p ≡ true
        → get_or (bits_of g.width g.height heights) p 0 ≡ get_or (bits_of g.width g.height (drawn tape g)) p 0
    unfolding byte_in
    byte_drawn p l e =
        let w = stride g.width in
        let n = stride_some p l in
        let y = p / w in
        let c = p % w in
        let i : c < w = mod-lt p n in
        let j : y < g.height = (div-lt_iff_lt-mul n).1 l in
        let a : from q.column q.columns (c / 8) ≡ true = and_left (from q.column q.columns (c / 8)) _ e in
        let b : from q.row q.rows (y / 64) ≡ true = and_right (from q.column q.columns (c / 8)) _ e in
        ap (λ x. get_or (bits_of g.width g.height heights) x 0) (sym (div-add-mod' p w))
        ∙ bits_at g.width g.height heights y c j i
        ∙ same_byte (take 8 (drop (8 * c) (take g.width (drop (y * g.width) heights))))
        (take 8 (drop (8 * c) (take g.width (drop (y * g.width) (drawn tape g)))))
        (λ m h. same_pixels g.width y c m heights (drawn tape g) h (λ o.
        pixel_drawn (8 * c + m) y o j (ap (from q.column q.columns) (tile_column c m h) ∙ a) b))
        ∙ sym (bits_at g.width g.height (drawn tape g) y c j i)
        ∙ ap (λ x. get_or (bits_of g.width g.height (drawn tape g)) x 0) (div-add-mod' p w)
      where
        tile_column : (c m : ℕ) → m < 8 → (8 * c + m) / 64 ≡ c / 8
        tile_column c m h = omega arith

    -- "the pixels of each rectangle drawn are the full drawing's"; all other bytes stay.
    pub part_drawn_lem : (old : List ℕ)
        → laid g q (picture false g heights) old ≡ laid g q (picture false g (drawn tape g)) old
    unfolding picture
    part_drawn_lem old =
        let w = g.width in
        let h = g.height in
        same_laid 0 g q (bits_of w h heights) (bits_of w h (drawn tape g)) old
        (bits_length w h heights ∙ sym (bits_length w h (drawn tape g)))
        (λ k l e. byte_drawn k (omega (arith, bits_length w h heights)) (ap (byte_in g q) (sym (zero_plus k)) ∙ e))
      where
        zero_plus : (k : ℕ) → 0 + k ≡ k
        zero_plus k = omega arith
