-- The table's head: the grid record reads back what is written, and the head tells tape and grid; a table newly begun.
use mathlib.Core.Path.{◌≡◌, refl, sym, ap, ap₂, ◌∙◌}
use mathlib.Core.Bool.{true, false, not, false≢true}
use mathlib.Core.List.{List, [], ◌∷◌, ◌++◌, append_assoc}
use lib.IntN.{ℤ, pos, negsuc}
use Prim.Native.Nat.{ℕ, zero, suc, ◌+◌, ◌-◌, ◌*◌, ◌/◌, ◌%◌, ◌<◌, ◌≤◌}
use native.Mathlib.Omega.{arith}
use lib.Dec.{eqb, leb}
use lib.ListN.{length, get_or, take, drop, length-append, length-replicate, get_or-append, length-drop}
use lib.Seq.{length-take-le, get_or-take, get_or-drop, ext_get_or, take_at, drop_at, drop-append-add}
use borrow.Author.Tests.{leb-true, le-leb, eqb-true, eq-eqb, not-false}
use Rattle.rules.specs.Values.{when, below, reaches}
use Rattle.rules.specs.Tapes.{read_tape, word, signed4, raw4, in32}
use Rattle.rules.specs.Drawings.{Grid, size_ok, axis_ok, sizes_ok, axes_ok, grid_fault, size_limit}
use Rattle.rules.proofs.Tests.{and_left, and_right, test_off, tests_after, last_off}
use Rattle.rules.proofs.Bytes.{signed_of, raw_small, signed_raw, two_read}
use Rattle.rules.proofs.Reading.{counts_hold, tape_accepted}
use Rattle.program_rules.specs.Program.{grid_record, grid_bytes}
use Rattle.table_rules.specs.Tables.{tape_room, head_length, entry_length, tile_limit, table_length, zeros}
use Rattle.table_rules.specs.Tables.{flat_grid, table_head, begun, entry_in, same_bytes}

-- A grid whose numbers have room in a record.
pub record Writable (g : Grid) : Type 0 where
  pub width : g.width < 65536
  pub height : g.height < 65536
  pub depth : g.depth < 65536
  pub origin_x : in32 g.origin_x ≡ true
  pub origin_y : in32 g.origin_y ≡ true
  pub origin_z : in32 g.origin_z ≡ true
  pub step_x : in32 g.step_x ≡ true
  pub step_y : in32 g.step_y ≡ true
  pub step_z : in32 g.step_z ≡ true

abbrev byte_sum : ℕ → ℕ
byte_sum v = v % 256 + 256 * (v / 256 % 256) + 65536 * (v / 65536 % 256 + 256 * (v / 65536 / 256 % 256))

digits : (v : ℕ) → v < 4294967296 → byte_sum v ≡ v
digits v h = omega arith

four_read : (z : ℤ) → in32 z ≡ true → signed_of (byte_sum (raw4 z)) ≡ z
four_read z e = ap signed_of (digits (raw4 z) (raw_small z e)) ∙ signed_raw z e

abbrev grid : ℕ → ℕ → ℕ → ℤ → ℤ → ℤ → ℤ → ℤ → ℤ → Grid
grid w h d x y z a b c =
    record {
      width = w;
      height = h;
      depth = d;
      origin_x = x;
      origin_y = y;
      origin_z = z;
      step_x = a;
      step_y = b;
      step_z = c;
    }

same_grid : {w h d w' h' d' : ℕ} {x y z a b c x' y' z' a' b' c' : ℤ} → w ≡ w' → h ≡ h' → d ≡ d' → x ≡ x' → y ≡ y'
    → z ≡ z' → a ≡ a' → b ≡ b' → c ≡ c' → grid w h d x y z a b c ≡ grid w' h' d' x' y' z' a' b' c'
same_grid e₁ e₂ e₃ e₄ e₅ e₆ e₇ e₈ e₉ = cc

-- The grid record reads back what is written.
pub record_read : (g : Grid) → Writable g → grid_record (grid_bytes g) ≡ g
unfolding grid_record grid_bytes signed4
record_read g w =
    same_grid (two_read g.width w.width) (two_read g.height w.height) (two_read g.depth w.depth)
    (four_read g.origin_x w.origin_x) (four_read g.origin_y w.origin_y) (four_read g.origin_z w.origin_z)
    (four_read g.step_x w.step_x) (four_read g.step_y w.step_y) (four_read g.step_z w.step_z)

-- A grid that is not refused has room in a record.
value_in : (z : ℤ) → reaches z ≡ true → in32 z ≡ true
value_in (pos a) e = e
value_in (negsuc a) e = le-leb a 2147483647 (omega (arith, leb-true (suc a) 2147483647 e))

size_in_lem : (n : ℕ) → size_ok n ≡ true → n < 65536
size_in_lem n e = omega (arith, leb-true n size_limit (and_right (leb 1 n) (leb n size_limit) e))

axis_in : (o s : ℤ) (n : ℕ) → axis_ok o s n ≡ true → (in32 o ≡ true) × (in32 s ≡ true)
axis_in o s n e =
    let f = and_right (reaches o) _ e in (
      value_in o (and_left (reaches o) _ e),
      value_in s (and_left (reaches s) _ (and_right (below (pos 0) s) _ f)),
    )

pub writable : (g : Grid) → grid_fault false g ≡ 0 → Writable (flat_grid g)
unfolding grid_fault
writable g f =
    let s = not-false (sizes_ok false g) (test_off (not (sizes_ok false g)) 9 _ f) in
    let a = not (axes_ok false g) in
    let e = not-false (axes_ok false g) (last_off a 10 (tests_after (not (sizes_ok false g)) 9 (when a 11) f)) in
    let x = axis_in g.origin_x g.step_x g.width (and_left _ _ e) in
    let k = and_right (axis_ok g.origin_x g.step_x g.width) _ e in
    let y = axis_in g.origin_y g.step_y g.height (and_left _ _ k) in
    let z = value_in g.origin_z (and_right (axis_ok g.origin_y g.step_y g.height) _ k) in
    record {
      width = size_in_lem g.width (and_left _ _ s);
      height = size_in_lem g.height (and_left _ _ (and_right (size_ok g.width) _ s));
      depth = omega arith;
      origin_x = x.0;
      origin_y = y.0;
      origin_z = z;
      step_x = x.1;
      step_y = y.1;
      step_z = refl;
    }

-- Zeros.
pub zeros_size : (n : ℕ) → length (zeros n) ≡ n
unfolding zeros
zeros_size n = length-replicate n 0

pub zeros_at : (n p : ℕ) → get_or (zeros n) p 0 ≡ 0
unfolding zeros
zeros_at zero p = refl
zeros_at (suc n) zero = refl
zeros_at (suc n) (suc p) = zeros_at n p

zeros_part : (a n m : ℕ) → a + n ≤ m → take n (drop a (zeros m)) ≡ zeros n
zeros_part a n m h =
    let u : length (take n (drop a (zeros m))) ≡ n = length-take-le n (drop a (zeros m))
    (omega (arith, length-drop a (zeros m), zeros_size m)) in
    ext_get_or 0 (take n (drop a (zeros m))) (zeros n) (u ∙ sym (zeros_size n)) (λ p i.
    get_or-take n (drop a (zeros m)) p 0 (omega arith) ∙ get_or-drop a (zeros m) p 0 ∙ zeros_at m (a + p)
    ∙ sym (zeros_at n p))

-- Tapes that are accepted have room in the table, and the head is 65,568 bytes.
pub tape_fits : (s : List ℕ) → (read_tape s).number ≡ 0 → length s ≤ tape_room
tape_fits s e =
    let a = tape_accepted s e in
    omega (arith, a.exact, counts_hold (get_or s 3 0) (word 4 s) a.counts)

record_size : (g : Grid) → length (grid_bytes g) ≡ 32
unfolding grid_bytes
record_size g = refl

room_size : (s : List ℕ) → length s ≤ tape_room → length (s ++ zeros (tape_room - length s)) ≡ tape_room
room_size s h = omega (arith, length-append s (zeros (tape_room - length s)), zeros_size (tape_room - length s))

head_split : (s : List ℕ) (g : Grid)
    → table_head s g ≡ (s ++ zeros (tape_room - length s)) ++ grid_bytes (flat_grid g)
unfolding table_head
head_split s g = sym (append_assoc s (zeros (tape_room - length s)) (grid_bytes (flat_grid g)))

pub head_size : (s : List ℕ) (g : Grid) → length s ≤ tape_room → length (table_head s g) ≡ head_length
head_size s g h =
    ap length (head_split s g)
    ∙ omega (
      arith,
      length-append (s ++ zeros (tape_room - length s)) (grid_bytes (flat_grid g)),
      room_size s h,
      record_size (flat_grid g),
    )

-- A table newly begun: its length, its head, and every entry unknown.
module _ (s : List ℕ) (g : Grid) (h : length s ≤ tape_room) where
  pub begun_size : length (begun s g) ≡ table_length
  unfolding begun
  begun_size =
      omega (
        arith,
        length-append (table_head s g) (zeros (tile_limit * entry_length)),
        head_size s g h,
        zeros_size (tile_limit * entry_length),
      )

  pub begun_head : take head_length (begun s g) ≡ table_head s g
  unfolding begun
  begun_head = take_at (table_head s g) (zeros (tile_limit * entry_length)) head_length (head_size s g h)

  pub begun_entry : (i : ℕ) → i < tile_limit → entry_in i (begun s g) ≡ zeros entry_length
  unfolding begun entry_in
  begun_entry i k =
      ap (λ n. take entry_length (drop (n + entry_length * i) (table_head s g ++ zeros (tile_limit * entry_length))))
      (sym (head_size s g h))
      ∙ ap (take entry_length)
      (drop-append-add (table_head s g) (zeros (tile_limit * entry_length)) (entry_length * i))
      ∙ zeros_part (entry_length * i) entry_length (tile_limit * entry_length) (omega arith)

-- The test of two lists of bytes.
pub same_bytes_lem : (u v : List ℕ) → same_bytes u v ≡ true → u ≡ v
unfolding same_bytes
same_bytes_lem [] [] e = refl
same_bytes_lem [] (b ∷ v) e = absurd (false≢true e)
same_bytes_lem (a ∷ u) [] e = absurd (false≢true e)
same_bytes_lem (a ∷ u) (b ∷ v) e =
    ap₂ (λ x xs. x ∷ xs) (eqb-true a b (and_left (eqb a b) (same_bytes u v) e))
    (same_bytes_lem u v (and_right (eqb a b) (same_bytes u v) e))

pub bytes_same : (u : List ℕ) → same_bytes u u ≡ true
unfolding same_bytes
bytes_same [] = refl
bytes_same (a ∷ u) = rw (eq-eqb a a refl) (bytes_same u)

-- The head tells the tape, if both are accepted, and the grid.
head_byte : (s : List ℕ) (g : Grid) (n : ℕ) → n < length s → get_or (table_head s g) n 0 ≡ get_or s n 0
unfolding table_head
head_byte s g n h = get_or-append s (zeros (tape_room - length s) ++ grid_bytes (flat_grid g)) 0 n h

pub head_tape : (s u : List ℕ) (g f : Grid) → (read_tape s).number ≡ 0 → (read_tape u).number ≡ 0
    → table_head s g ≡ table_head u f → s ≡ u
unfolding table_head
head_tape s u g f a b e =
    let c = tape_accepted s a in
    let d = tape_accepted u b in
    let low = byte 4 (omega (arith, c.long)) (omega (arith, d.long)) in
    let high = byte 5 (omega (arith, c.long)) (omega (arith, d.long)) in
    let n : length u ≡ length s = omega (arith, c.exact, d.exact, low, high) in
    sym (take_at s (zeros (tape_room - length s) ++ grid_bytes (flat_grid g)) (length s) refl)
    ∙ ap (take (length s)) e
    ∙ take_at u (zeros (tape_room - length u) ++ grid_bytes (flat_grid f)) (length s) n
  where
    byte : (n : ℕ) → n < length s → n < length u → get_or s n 0 ≡ get_or u n 0
    byte n h k = sym (head_byte s g n h) ∙ ap (λ l. get_or l n 0) e ∙ head_byte u f n k

head_record_lem : (s : List ℕ) (g : Grid) → length s ≤ tape_room → drop tape_room (table_head s g) ≡ grid_bytes (flat_grid g)
head_record_lem s g h =
    ap (drop tape_room) (head_split s g)
    ∙ drop_at (s ++ zeros (tape_room - length s)) (grid_bytes (flat_grid g)) tape_room (room_size s h)

pub head_grid : (s u : List ℕ) (g f : Grid) → length s ≤ tape_room → length u ≤ tape_room → grid_fault false g ≡ 0
    → grid_fault false f ≡ 0 → table_head s g ≡ table_head u f → flat_grid g ≡ flat_grid f
head_grid s u g f h k a b e =
    let c = sym (head_record_lem s g h) ∙ ap (drop tape_room) e ∙ head_record_lem u f k in
    sym (record_read (flat_grid g) (writable g a)) ∙ ap grid_record c ∙ record_read (flat_grid f) (writable f b)
