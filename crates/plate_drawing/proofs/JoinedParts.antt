-- Parts joined one after another.
use mathlib.Core.Path.{◌≡◌, refl, sym, ap, ap₂, subst, ◌∙◌}
use mathlib.Core.Bool.{true, false}
use mathlib.Core.List.{List, [], ◌∷◌, ◌++◌}
use Prim.Native.Nat.{ℕ, ◌+◌, ◌-◌, ◌*◌, ◌<◌, ◌≤◌, max}
use native.Mathlib.Nat.{mul-le-mul_right}
use native.Mathlib.Omega.{arith}
use native.Mathlib.Numerals.{add-one}
use lib.Bits.{bit_or}
use lib.ListN.{length, get_or, take, drop, replicate, length-drop}
use lib.Seq.{take-suc, take_all, length-take-le}
use Rattle.rules.specs.Values.{when}
use Rattle.rules.specs.Tapes.{Tape, clause_limit, read_tape}
use Rattle.rules.specs.Drawings as D
use Rattle.rules.specs.Pictures.{stride, bits_of}
use Rattle.rules.specs.Accepted.{Accepted}
use Rattle.code.specs.Words.{tape_in as wordTape}
use Rattle.code.specs.Unpacking.{Unpacked}
use Rattle.picture.specs.Shapes.{grid_in}
use Rattle.picture.specs.declared.grid.Grid.{Grid}
use Rattle.picture.proofs.BitShows.{zeros_at}
use Rattle.picture.proofs.PictureSizes.{flat_size_lem}
use Rattle.answers.specs.Lines.{Draws}
use Rattle.drawings.proofs.TapeWords.{words_accepted, words_tape}
use Rattle.walk.specs.Cells.{size_in}
use Rattle.walk.proofs.Places.{ready_again}
use Rattle.plate_rules.specs.Plate.{place_size, places_from, all_zero, part_in, parts_in, greater, union_of}
use Rattle.plate_rules.specs.Plate.{touched}
use Rattle.plate_rules.proofs.JoinedBytes.{or_bytes, drawn_flat, union_flat}
use Rattle.plate_rules.proofs.Parts.{greater_at, height_in, heights, union_first, union_append, taken_accepted}
use Rattle.plate_rules.proofs.Parts.{no_height, place_faultless}
use Rattle.plate_rules.proofs.Places.{place_size_lem, places_length, place_part}
use Rattle.plate_rules.proofs.PlateBytes.{no_bits, bytes_agree}
use Rattle.plate_places.specs.Places.{TapeEnd}
use Rattle.patches.specs.Patches.{nothing}
use Rattle.plate_tiles.specs.Tiles.{Sized, tile_count, tile_numbered, MarkedBy, Marked, TilesSet}
use Rattle.plate_tiles.specs.Joins.{with_part}
use Rattle.plate_tiles.proofs.TileNumbers.{number_below}
use Rattle.plate_drawing.specs.declared.Change.{Change}
use Rattle.plate_drawing.specs.declared.Change.TheVariants.{Added, Removed}
use Rattle.plate_drawing.specs.Afresh.{Show, Kept, Joins, added_heights, Began, Buffers, ForPlace, ForPlaces}

-- What was lent, lent again.
pub buffers_again : {grid : Grid} {marks blank picture work words first second : List ℕ}
    {marks' blank' picture' work' words' first' second' : List ℕ}
    → Buffers grid marks blank picture work words first second → length marks' ≡ length marks
    → blank' ≡ replicate (size_in false grid) 0 → length picture' ≡ length picture → length work' ≡ length work
    → length words' ≡ length words → length first' ≡ length first → length second' ≡ length second
    → Buffers grid marks' blank' picture' work' words' first' second'
buffers_again u m clean e f g h k =
    record {
      ready = ready_again u.ready e;
      size = m ∙ u.size;
      clean = clean;
      room = omega (arith, u.room, f);
      words_in = g ∙ u.words_in;
      first_in = h ∙ u.first_in;
      second_in = k ∙ u.second_in;
    }

-- The same heights, pixel by pixel.
pub show_same : {grid : Grid} {marks b : List ℕ} (h k : List ℕ) → ((p : ℕ) → get_or k p 0 ≡ get_or h p 0)
    → Show grid marks h b → Show grid marks k b
show_same {grid} h k e s =
    record {
      bytes = λ y c l o m.
          s.bytes y c l o m
          ∙ sym (bytes_agree grid.width grid.height k h y c l o (λ i u v. e (y * grid.width + (8 * c + i))));
    }

greater_most : (h k : List ℕ) → ((p : ℕ) → get_or h p 0 ≤ 1) → ((p : ℕ) → get_or k p 0 ≤ 1)
    → (p : ℕ) → get_or (greater h k) p 0 ≤ 1
greater_most h k f g p = omega (arith, greater_at h k p, f p, g p)

pub kept_same : (grid : Grid) (marks b : List ℕ) → Kept grid marks b b
kept_same grid marks b = record { bytes = λ y c l o z. refl }

pub kept_then : {grid : Grid} {marks b c d : List ℕ} → Kept grid marks b c → Kept grid marks c d → Kept grid marks b d
kept_then k m = record { bytes = λ y x l o z. m.bytes y x l o z ∙ k.bytes y x l o z }

-- Nothing joined; a part; two, one behind the other.
pub joins_none : (grid : Grid) (marks k b : List ℕ) → ((p : ℕ) → get_or k p 0 ≡ 0) → Joins grid marks k b b
joins_none grid marks k b e =
    record {
      shown = λ h f s. show_same h (greater h k) (λ p. omega (arith, greater_at h k p, e p)) s;
      kept = kept_same grid marks b;
    }

pub joins_part : {grid : Grid} → Sized grid → (marks : List ℕ) (t : Tape) (b : List ℕ) {b' : List ℕ}
    → TilesSet grid (Marked marks (tile_count grid)) (with_part b t grid) b b'
    → Joins grid marks (D.drawn t (grid_in grid false)) b b'
joins_part {grid} s marks t b k =
    let g = grid_in grid false in
    let d = D.drawn t g in
    record {
      shown = λ h f v.
          record {
            bytes = λ y c l o m.
                k.inside y c l o (record { below = number_below s y c l o; on = m })
                ∙ ap (λ i. bit_or i (get_or (bits_of grid.width grid.height d) (y * stride grid.width + c) 0))
                (v.bytes y c l o m)
                ∙ sym (or_bytes grid.width grid.height h d (record { most = f }) (drawn_flat t g refl) y c l o);
          };
      kept = record { bytes = λ y c l o z. k.outside y c l o (λ m. m.on z) };
    }

pub joins_same : {grid : Grid} {marks b b' : List ℕ} (k m : List ℕ) → ((p : ℕ) → get_or m p 0 ≡ get_or k p 0)
    → Joins grid marks k b b' → Joins grid marks m b b'
joins_same k m e j =
    record {
      shown = λ h f s.
          show_same (greater h k) (greater h m) (λ p. omega (arith, greater_at h k p, greater_at h m p, e p))
          (j.shown h f s);
      kept = j.kept;
    }

pub joins_then : {grid : Grid} {marks b c d : List ℕ} (k l m : List ℕ) → ((p : ℕ) → get_or k p 0 ≤ 1)
    → ((p : ℕ) → get_or m p 0 ≡ max (get_or k p 0) (get_or l p 0)) → Joins grid marks k b c → Joins grid marks l c d
    → Joins grid marks m b d
joins_then k l m f e i j =
    record {
      shown = λ h g s.
          show_same (greater (greater h k) l) (greater h m)
          (λ p. omega (arith, greater_at (greater h k) l p, greater_at h k p, greater_at h m p, e p))
          (j.shown (greater h k) (greater_most h k g f) (i.shown h g s));
      kept = kept_then i.kept j.kept;
    }

-- One place.
height_empty : (b : List ℕ) (g : D.Grid) (p : ℕ) → all_zero b ≡ true → height_in b g p ≡ 0
unfolding height_in
height_empty b g p e = rw e

height_taken : (b : List ℕ) (g : D.Grid) (p : ℕ) → all_zero b ≡ false
    → height_in b g p ≡ get_or (D.drawn (part_in b) g) p 0
unfolding height_in
height_taken b g p e = rw e

pub empty_joined : (grid : Grid) (marks b o : List ℕ) → true ≡ all_zero b
    → Joins grid marks (union_of (parts_in (b ∷ [])) (grid_in grid false)) o o
empty_joined grid marks b o e =
    let g = grid_in grid false in
    joins_none grid marks (union_of (parts_in (b ∷ [])) g) o
    (λ p. omega (arith, union_first b [] g p, no_height g p, height_empty b g p (sym e)))

-- The tape of a place, unpacked.
module _ {grid : Grid} {marks blank picture work words first second b : List ℕ}
    (u : Buffers grid marks blank picture work words first second) (f : ForPlace b) (taken : false ≡ all_zero b)
    {n : ℕ} (t : TapeEnd b n) where
  pub draws_place : Draws false (take n b) (grid_in grid false) (length picture)
  draws_place =
      record {
        read = ap (λ s. (read_tape s).number) t.bytes ∙ taken_accepted b f.faultless (sym taken);
        grid = u.ready.fault;
        size = u.ready.size ∙ flat_size_lem false (grid_in grid false) refl;
      }

  pub taken_joined : {ws : List ℕ} {k : ℕ} (o : Unpacked (take n b) words ws k) (l : length ws ≡ clause_limit) {o' : List ℕ}
      → ((m : ℕ) → Accepted (wordTape m (take k ws))
      → TilesSet grid (Marked marks (tile_count grid)) (with_part picture (wordTape m (take k ws)) grid) picture o')
      → Joins grid marks (union_of (parts_in (b ∷ [])) (grid_in grid false)) picture o'
  taken_joined {ws} {k} o l {o'} v =
      let g = grid_in grid false in
      let s = take n b in
      let slots = (read_tape s).tape.slots in
      let same : wordTape slots (take k ws) ≡ part_in b =
      words_tape draws_place o l ∙ ap (λ r. (read_tape r).tape) t.bytes in
      joins_same (D.drawn (part_in b) g) (union_of (parts_in (b ∷ [])) g)
      (λ p. omega (arith, union_first b [] g p, no_height g p, height_taken b g p (sym taken)))
      (joins_part (record { fault = u.ready.fault }) marks (part_in b) picture
      (subst (λ a. TilesSet grid (Marked marks (tile_count grid)) (with_part picture a grid) picture o') same
      (v slots (words_accepted draws_place o l))))

-- Place after place.
module _ {grid : Grid} {marks : List ℕ} (bs : List (List ℕ)) where
  pub no_places : (o : List ℕ) → Joins grid marks (union_of (parts_in (take 0 bs)) (grid_in grid false)) o o
  no_places o =
      joins_none grid marks (union_of (parts_in (take 0 bs)) (grid_in grid false)) o (λ p. no_height (grid_in grid false) p)

  pub next_place : (i : ℕ) → i < length bs → {o a d : List ℕ}
      → Joins grid marks (union_of (parts_in (take i bs)) (grid_in grid false)) o a
      → Joins grid marks (union_of (parts_in (get_or bs i [] ∷ [])) (grid_in grid false)) a d
      → Joins grid marks (union_of (parts_in (take (i + 1) bs)) (grid_in grid false)) o d
  next_place i l j k =
      let g = grid_in grid false in
      let e : take (i + 1) bs ≡ take i bs ++ (get_or bs i [] ∷ []) = ap (λ n. take n bs) (add-one i) ∙ take-suc bs i [] l in
      joins_then (union_of (parts_in (take i bs)) g) (union_of (parts_in (get_or bs i [] ∷ [])) g)
      (union_of (parts_in (take (i + 1) bs)) g) (union_flat (parts_in (take i bs)) g refl).most
      (λ p. ap (λ ps. heights ps g p) e ∙ union_append (take i bs) (get_or bs i [] ∷ []) g p) j k

-- A place as a part of bytes.
pub place_there : (n : ℕ) (m : List ℕ) (i : ℕ) → i < n
    → take (i * 65536 + 65536 - i * 65536) (drop (i * 65536) m) ≡ get_or (places_from n m) i []
place_there n m i l =
    let e : i * 65536 + 65536 - i * 65536 ≡ place_size = omega (arith, place_size_lem) in
    ap₂ (λ u v. take u (drop v m)) e (ap (λ v. i * v) (sym place_size_lem)) ∙ sym (place_part n m i l)

pub place_in : (n : ℕ) (m : List ℕ) → ForPlaces m n → (i : ℕ) → i < n → ForPlace (get_or (places_from n m) i [])
place_in n m f i l =
    record {
      size = ap length (place_part n m i l)
          ∙ length-take-le place_size (drop (i * place_size) m)
          (rw length-drop (omega (arith, f.size, mul-le-mul_right place_size l)));
      faultless = place_faultless (places_from n m) f.faultless i (omega (arith, places_length n m));
    }

pub all_placed : (n : ℕ) (m : List ℕ) → take n (places_from n m) ≡ places_from n m
all_placed n m = take_all n (places_from n m) (omega (arith, places_length n m))

-- The part that comes, or none.
pub added_none : (change : Change) (t : Tape) (grid : Grid) (marks b : List ℕ) → change ≡ Removed
    → Joins grid marks (added_heights change t grid) b b
added_none change t grid marks b e =
    joins_none grid marks (added_heights change t grid) b
    (λ p. ap (λ a. get_or (added_heights a t grid) p 0) e ∙ zeros_at (grid.width * grid.height) p)

pub added_some : (change : Change) (t : Tape) (grid : Grid) (marks : List ℕ) {b b' : List ℕ} → change ≡ Added
    → Joins grid marks (D.drawn t (grid_in grid false)) b b' → Joins grid marks (added_heights change t grid) b b'
added_some change t grid marks e j =
    joins_same (D.drawn t (grid_in grid false)) (added_heights change t grid)
    (λ p. ap (λ a. get_or (added_heights a t grid) p 0) e) j

-- The touched tiles cleared, and the part joined to them.
cleared_shown : {grid : Grid} → Sized grid → {marks b c : List ℕ}
    → TilesSet grid (Marked marks (tile_count grid)) nothing b c
    → Show grid marks (replicate (grid.width * grid.height) 0) c
cleared_shown {grid} s k =
    record {
      bytes = λ y x l o m.
          let p = y * stride grid.width + x in
          k.inside y x l o (record { below = number_below s y x l o; on = m })
          ∙ sym (ap (λ b. get_or b p 0) (no_bits grid.width grid.height)
          ∙ zeros_at (grid.height * stride grid.width) p);
    }

pub begun : {grid : Grid} → Sized grid → {code marks : List ℕ} (n : ℕ) → Accepted (wordTape n code) → (t : Tape)
    → wordTape n code ≡ t → (change : Change) → MarkedBy code grid (tile_count grid) marks → {b c d : List ℕ}
    → TilesSet grid (Marked marks (tile_count grid)) nothing b c
    → ((i : ℕ) → Accepted (wordTape i code) → Joins grid marks (added_heights change (wordTape i code) grid) c d)
    → Began t change grid marks b d
begun {grid} s {code} {marks} n a t e change m {b} {c} {d} k j =
    let g = grid_in grid false in
    let z : List ℕ = replicate (grid.width * grid.height) 0 in
    let i : Joins grid marks (added_heights change t grid) c d =
    subst (λ u. Joins grid marks (added_heights change u grid) c d) e (j n a) in
    record {
      each = λ q l. m.each n a q l ∙ ap (λ u. when (touched u g (tile_numbered grid q)) 1) e;
      shown =
          show_same (greater z (added_heights change t grid)) (added_heights change t grid)
          (λ p. omega (arith, greater_at z (added_heights change t grid) p, zeros_at (grid.width * grid.height) p))
          (i.shown z (λ p. omega (arith, zeros_at (grid.width * grid.height) p)) (cleared_shown s k));
      kept = kept_then (record { bytes = λ y x l o z. k.outside y x l o (λ q. q.on z) }) i.kept;
    }
