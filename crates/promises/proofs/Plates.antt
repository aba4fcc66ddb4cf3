-- What document 02 asks of the plate, of what its calls return.
use mathlib.Core.Path.{◌≡◌, refl, sym, ap, ap₂, subst, ◌∙◌}
use mathlib.Core.Bool.{Bool, true, false}
use mathlib.Core.List.{List, [], ◌∷◌, ◌++◌, append-nil}
use Prim.Native.Nat.{ℕ, zero, suc, ◌+◌, ◌-◌, ◌*◌, ◌/◌, ◌%◌, ◌<◌, ◌≤◌}
use native.Mathlib.Omega.{arith}
use lib.Dec.{eqb, ltb}
use lib.ListN.{length, get_or, take, drop, length-take, length-drop, take-append-drop}
use lib.Seq.{take_all}
use borrow.Author.Tests.{eqb-true, eqb-false, ne_eqb, lt-ltb, le-ltb}
use Rattle.rules.specs.Values.{pick}
use Rattle.rules.specs.Drawings as D
use Rattle.rules.specs.Pictures.{stride, byte_of, bits_of, picture_size}
use Rattle.rules.proofs.Lines.{each_line}
use Rattle.rules.proofs.Grids.{accepted_sound}
use Rattle.picture.specs.Bits.{bit}
use Rattle.picture.specs.Shapes.{grid_in}
use Rattle.picture.specs.declared.grid.Grid.{Grid}
use Rattle.answers.specs.declared.Answer.{Answer}
use Rattle.plate_rules.specs.Plate.{Plate, plate_size, places_of, parts_in, union_of, afresh, add_fault, remove_fault}
use Rattle.plate_rules.specs.Plate.{add_lines, remove_lines}
use Rattle.plate_rules.specs.Runs.{flat_grid, SameFlat, Call, add, remove, grid_of, fault_of, Step, Right, cleared}
use Rattle.plate_rules.proofs.FlatGrids.{same_flatly}
use Rattle.plate_rules.proofs.JoinedBytes.{Flat, pixel_most, union_flat}
use Rattle.plate_rules.proofs.Material.{union_has}
use Rattle.plate_rules.proofs.PlateBytes.{pixels, bits_at, pixel_at_lem}
use Rattle.plate_rules.proofs.PlateChanges.{line_off, afresh_length}
use Rattle.plate_rules.proofs.Refusals.{AddOrder, add_order, RemoveOrder, remove_order}
use Rattle.plate_rules.proofs.Runs.{cleared_right, follows_right, left_fields}
use Rattle.promises.specs.Plates.{plate, PlateSays, AddSays, RemoveSays}
use Rattle.promises.specs.PlateRuns.{Asked, adds, removes, grid_asked, Says, Part, lent, put_back, Turn, after_turn}
use Rattle.promises.specs.PlateRuns.{Makes, Turns, last_of, PlateShown, HoldsAlongRuns}

-- What was lent put back as it was changes nothing.
unchanged : (p : Part) (b : List ℕ) → put_back p (lent p b) b ≡ b
unchanged p b =
    ap (λ r. take p.from b ++ r) (take-append-drop p.count (drop p.from b))
    ∙ take-append-drop p.from b

-- A part as long as the whole is the whole.
drop_past : (n : ℕ) (b : List ℕ) → length b ≤ n → drop n b ≡ []
drop_past zero [] l = refl
drop_past zero (x ∷ b) l = absurd (omega arith)
drop_past (suc n) [] l = refl
drop_past (suc n) (x ∷ b) l = drop_past n b (omega arith)

whole_part : (a n : ℕ) (b : List ℕ) → length (take n (drop a b)) ≡ length b
    → (take n (drop a b) ≡ b) × ((b' : List ℕ) → take a b ++ (b' ++ drop n (drop a b)) ≡ b')
whole_part zero n b e =
    let l : length b ≤ n = omega (arith, e, length-take n b) in
    (take_all n b l, λ b'. ap (λ r. b' ++ r) (drop_past n b l) ∙ append-nil b')
whole_part (suc a) n [] e = (take_all n [] (omega arith), λ b'. ap (λ r. b' ++ r) (drop_past n [] (omega arith)) ∙ append-nil b')
whole_part (suc a) n (x ∷ b) e =
    absurd (omega (arith, e, length-take n (drop a b), length-drop a b))

-- The call of the rules that was asked.
abbrev call_of : Asked → Call
call_of (adds p s d w) = add p s (grid_in d false) (length w)
call_of (removes p d w) = remove p (grid_in d false) (length w)

abbrev work_of : Asked → List ℕ
work_of (adds p s d w) = w
work_of (removes p d w) = w

as_says : (a : Asked) {m m' o o' w' : List ℕ} {r : Answer} → Says a m m' o o' w' r
    → PlateSays (call_of a) m m' o o' (work_of a) w' r
as_says (adds p s d w) h = h
as_says (removes p d w) h = h

grid_of_lem : (a : Asked) → grid_of (call_of a) ≡ grid_in (grid_asked a) false
grid_of_lem (adds p s d w) = refl
grid_of_lem (removes p d w) = refl

-- A call that is done was lent buffers of the lengths that its grid asks.
pub record Lengths (a : Asked) (q : Plate) : Type 0 where
  pub memory : length q.memory ≡ plate_size
  pub picture : length q.picture ≡ picture_size false (flat_grid (grid_in (grid_asked a) false))

lengths : (a : Asked) (q : Plate) → fault_of (call_of a) q ≡ 0 → Lengths a q
unfolding fault_of add_fault remove_fault
lengths (adds p s d w) q e =
    let line = each_line (add_lines p s (grid_in d false) q (length w)) e in
    let n = picture_size false (grid_in d false) in
    record {
      memory = eqb-true (length q.memory) plate_size (line_off (eqb (length q.memory) plate_size) 13 (line 0));
      picture = eqb-true (length q.picture) n (line_off (eqb (length q.picture) n) 11 (line 5));
    }
lengths (removes p d w) q e =
    let line = each_line (remove_lines p (grid_in d false) q (length w)) e in
    let n = picture_size false (grid_in d false) in
    record {
      memory = eqb-true (length q.memory) plate_size (line_off (eqb (length q.memory) plate_size) 13 (line 0));
      picture = eqb-true (length q.picture) n (line_off (eqb (length q.picture) n) 11 (line 4));
    }

right_size : (g : D.Grid) (q : Plate) → Right g q → length q.picture ≡ picture_size false (flat_grid g)
unfolding picture_size
right_size g q r = ap length r.picture ∙ afresh_length q.memory (flat_grid g)

-- One call.
module _ (d : Grid) (q : Plate) (t : Turn) (k : Makes d q t) (r : Right (grid_in d false) q) where
  abbrev g : D.Grid
  g = grid_in d false

  abbrev c : Call
  c = call_of t.asked

  abbrev there : Plate
  there = plate (lent t.memory_part q.memory) (lent t.picture_part q.picture)

  says : PlateSays c there.memory t.memory there.picture t.picture (work_of t.asked) t.work t.answer
  says = as_says t.asked k.says

  refused : (t.answer.number ≡ 0 → ⊥) → Right g (after_turn q t)
  refused n =
      let e = ne_eqb (fault_of c there) 0 (λ z. n (says.answer.number ∙ z)) in
      let m : t.memory ≡ there.memory = says.memory ∙ rw e in
      let o : t.picture ≡ there.picture = says.pixels ∙ rw e in
      subst (Right g)
      (sym (ap₂ plate
      (ap (λ b. put_back t.memory_part b q.memory) m ∙ unchanged t.memory_part q.memory)
      (ap (λ b. put_back t.picture_part b q.picture) o ∙ unchanged t.picture_part q.picture))) r

  module _ (z : t.answer.number ≡ 0) where
    size : Lengths t.asked there
    size = lengths t.asked there (sym says.answer.number ∙ z)

    whole_memory : (there.memory ≡ q.memory)
        × ((b : List ℕ) → put_back t.memory_part b q.memory ≡ b)
    whole_memory =
        whole_part t.memory_part.from t.memory_part.count q.memory (size.memory ∙ sym r.size)

    whole_picture : (there.picture ≡ q.picture)
        × ((b : List ℕ) → put_back t.picture_part b q.picture ≡ b)
    whole_picture =
        whole_part t.picture_part.from t.picture_part.count q.picture
        (size.picture ∙ (same_flatly (k.grid z)).size ∙ sym (right_size g q r))

    says_whole : PlateSays c q.memory t.memory q.picture t.picture (work_of t.asked) t.work t.answer
    says_whole =
        subst (λ (p : Plate). PlateSays c p.memory t.memory p.picture t.picture (work_of t.asked) t.work t.answer)
        (ap₂ plate whole_memory.0 whole_picture.0) says

    step : Step
    step = record { call = c; after = plate t.memory t.picture }

    done : Right g (after_turn q t)
    done =
        subst (Right g) (sym (ap₂ plate (whole_memory.1 t.memory) (whole_picture.1 t.picture)))
        (follows_right g q (record { call = c; after = plate t.memory t.picture })
        (record {
          grid = λ _. subst (SameFlat g) (sym (grid_of_lem t.asked)) (k.grid z);
          left = left_fields c q t.memory t.picture says_whole.memory says_whole.pixels;
        }) r)

  pub turn_right : Right g (after_turn q t)
  turn_right = go (eqb t.answer.number 0) refl
    where
      go : (b : Bool) → eqb t.answer.number 0 ≡ b → Right g (after_turn q t)
      go true e = done (eqb-true t.answer.number 0 e)
      go false e = refused (eqb-false t.answer.number 0 e)

turns_right : (d : Grid) (q : Plate) (ts : List Turn) → Turns d q ts → Right (grid_in d false) q
    → Right (grid_in d false) (last_of q ts)
unfolding Turns last_of
turns_right d q [] k r = r
turns_right d q (t ∷ ts) k r = turns_right d (after_turn q t) ts k.1 (turn_right d q t k.0 r)

-- The bits of a byte of heights 0 and 1.
byte_bit : (r : List ℕ) → ((i : ℕ) → i < 8 → get_or r i 0 ≤ 1) → (k : ℕ) → k < 8 → bit (7 - k) (byte_of r) ≡ get_or r k 0
unfolding byte_of
byte_bit r m k l =
    by k l (m 0 (omega arith)) (m 1 (omega arith)) (m 2 (omega arith)) (m 3 (omega arith)) (m 4 (omega arith))
    (m 5 (omega arith)) (m 6 (omega arith)) (m 7 (omega arith))
  where
    by : (k : ℕ) → k < 8 → get_or r 0 0 ≤ 1 → get_or r 1 0 ≤ 1 → get_or r 2 0 ≤ 1 → get_or r 3 0 ≤ 1 → get_or r 4 0 ≤ 1
        → get_or r 5 0 ≤ 1 → get_or r 6 0 ≤ 1 → get_or r 7 0 ≤ 1 → bit (7 - k) (byte_of r) ≡ get_or r k 0
    by zero l a b c d e f g h = omega arith
    by (suc zero) l a b c d e f g h = omega arith
    by (suc (suc zero)) l a b c d e f g h = omega arith
    by (suc (suc (suc zero))) l a b c d e f g h = omega arith
    by (suc (suc (suc (suc zero)))) l a b c d e f g h = omega arith
    by (suc (suc (suc (suc (suc zero))))) l a b c d e f g h = omega arith
    by (suc (suc (suc (suc (suc (suc zero)))))) l a b c d e f g h = omega arith
    by (suc (suc (suc (suc (suc (suc (suc zero))))))) l a b c d e f g h = omega arith
    by (suc (suc (suc (suc (suc (suc (suc (suc k)))))))) l a b c d e f g h = absurd (omega arith)

picture_bit : (w n : ℕ) (h : List ℕ) → Flat h → (y c k : ℕ) → y < n → c < stride w → k < 8
    → bit (7 - k) (get_or (bits_of w n h) (y * stride w + c) 0) ≡ pick (ltb (8 * c + k) w) (get_or h (y * w + (8 * c + k)) 0) 0
picture_bit w n h f y c k l o u =
    ap (bit (7 - k)) (bits_at w n h y c l o)
    ∙ byte_bit (pixels w h y c) (λ i v. pixel_most w h y c i f v) k u
    ∙ pixel_at_lem w h y c k u

shown : (d : Grid) (q : Plate) → Right (grid_in d false) q → PlateShown d q.memory q.picture
unfolding afresh
shown d q r =
    let g = grid_in d false in
    let ts = parts_in (places_of q.memory) in
    let u = union_of ts g in
    let w = d.width in
    let flat = union_flat ts g refl in
    record {
      size = r.size;
      places = r.places;
      picture = r.picture;
      bits =
          λ e x y l m.
          let same : 8 * (x / 8) + x % 8 ≡ x = omega arith in
          ap (λ b. bit (7 - x % 8) (get_or b (y * stride w + x / 8) 0)) r.picture
          ∙ picture_bit w d.height u flat y (x / 8) (x % 8) m (omega arith) (omega arith)
          ∙ ap (λ i. pick (ltb i w) (get_or u (y * w + i) 0) 0) same
          ∙ ap (λ b. pick b (get_or u (y * w + x) 0) 0) (lt-ltb x w l)
          ∙ union_has ts g (accepted_sound g false refl e).fits refl x y l m;
      spare =
          λ y c k l o v s.
          ap (λ b. bit (7 - k) (get_or b (y * stride w + c) 0)) r.picture
          ∙ picture_bit w d.height u flat y c k l o v
          ∙ ap (λ b. pick b (get_or u (y * w + (8 * c + k)) 0) 0) (le-ltb (8 * c + k) w s);
    }

pub holds_along_runs : HoldsAlongRuns
holds_along_runs d ts k =
    let q = cleared (grid_in d false) in
    shown d (last_of q ts) (turns_right d q ts k (cleared_right (grid_in d false)))

-- The number that a call returns is the first of its lines that holds, and these have the paper's order.
pub record AddNumbered (p : ℕ) (s : List ℕ) (g : D.Grid) (q : Plate) (k n : ℕ) : Type 0 where
  pub number : n ≡ add_fault p s g q k
  pub order : AddOrder p s g q k

pub add_numbered : (p : ℕ) (s : List ℕ) (d : Grid) {m m' o o' w w' : List ℕ} {r : Answer}
    → AddSays p s d m m' o o' w w' r → AddNumbered p s (grid_in d false) (plate m o) (length w) r.number
unfolding add_fault fault_of
add_numbered p s d {m} {m'} {o} {o'} {w} f =
    record { number = f.answer.number; order = add_order p s (grid_in d false) (plate m o) (length w) }

pub record RemoveNumbered (p : ℕ) (g : D.Grid) (q : Plate) (k n : ℕ) : Type 0 where
  pub number : n ≡ remove_fault p g q k
  pub order : RemoveOrder p g q k

pub remove_numbered : (p : ℕ) (d : Grid) {m m' o o' w w' : List ℕ} {r : Answer}
    → RemoveSays p d m m' o o' w w' r → RemoveNumbered p (grid_in d false) (plate m o) (length w) r.number
unfolding remove_fault fault_of
remove_numbered p d {m} {m'} {o} {o'} {w} f =
    record { number = f.answer.number; order = remove_order p (grid_in d false) (plate m o) (length w) }
