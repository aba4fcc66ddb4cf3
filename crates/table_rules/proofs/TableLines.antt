-- The lines of both calls in their order, as facts and as figures.
use mathlib.Core.Path.{◌≡◌, refl}
use mathlib.Core.Bool.{Bool, true, false, not}
use mathlib.Core.List.{List, [], ◌∷◌}
use Prim.Native.Nat.{ℕ, suc, ◌<◌, ◌≤◌}
use borrow.Author.Tests.{eq-eqb, ne_eqb, lt-ltb, le-ltb, not-false}
use Rattle.rules.specs.Values.{when}
use Rattle.rules.specs.Tapes.{is_in, bad_slot, bad_unused, bad_constant, bad_read, clause_fault, fault_from, read_clauses}
use Rattle.rules.specs.Tapes.{counts_ok, head_counts, edition, signed4, raw_in, raws_from, head_ok, read_tape}
use Rattle.rules.specs.Drawings.{work_limit, Grid, grid_fault}
use Rattle.rules.specs.Pictures.{picture_size}
use Rattle.rules.proofs.Tests.{last_off}
use Rattle.rules.proofs.Lines.{first_here, each_line}
use Rattle.worked_example.proofs.Example.{three_bytes, grid_of}
use Rattle.table_rules.specs.Tables.{table_length, flat_grid, table_ok, Rectangle, rectangle_ok, begin_fault}
use Rattle.table_rules.specs.Tables.{table_fault, draw_lines, draw_fault}

-- Calls with two faults or more, of x − 2 on 3 by 2 or on another size or step, with a table of no bytes: the rectangle
-- leaves the grid and a step is 0; a step is 0 and the table's length is wrong; this and the picture's and the work
-- buffer's; a tape of no bytes and all of them.
abbrev rectangle : ℕ → Rectangle
rectangle n = record { column = 0; row = 0; columns = n; rows = 1 }

abbrev fault_of : List ℕ → ℕ → ℕ → ℕ → ℕ
fault_of s w step n = draw_fault s (flat_grid (grid_of w 2 0 step)) (rectangle n) [] 0 0

pub fault_figures : fault_of (three_bytes 1) 3 0 2
    ∷ (fault_of (three_bytes 1) 3 65536 0
    ∷ (fault_of (three_bytes 1) 513 0 1
    ∷ (fault_of (three_bytes 1) 3 0 1
    ∷ (fault_of (three_bytes 1) 3 65536 1
    ∷ (fault_of [] 3 0 2
    ∷ (begin_fault (three_bytes 1) (flat_grid (grid_of 3 2 0 0)) 0
    ∷ (begin_fault (three_bytes 1) (flat_grid (grid_of 3 2 0 65536)) 0
    ∷ (begin_fault (three_bytes 1) (flat_grid (grid_of 3 2 0 65536)) table_length ∷ []))))))))
    ≡ 10 ∷ (10 ∷ (10 ∷ (11 ∷ (24 ∷ (1 ∷ (11 ∷ (24 ∷ (0 ∷ []))))))))
unfolding table_ok rectangle_ok grid_fault picture_size read_tape head_ok counts_ok head_counts edition raws_from raw_in signed4
    read_clauses fault_from clause_fault bad_slot bad_unused bad_constant bad_read is_in
fault_figures = refl

-- Beginning: 1 to 9, 10 and 11, 24 for the table's length n.
pub record BeginOrder (s : List ℕ) (g : Grid) (n : ℕ) : Type 0 where
  pub tape : ((read_tape s).number ≡ 0 → ⊥) → begin_fault s g n ≡ (read_tape s).number
  pub grid : (read_tape s).number ≡ 0 → (grid_fault false g ≡ 0 → ⊥) → begin_fault s g n ≡ grid_fault false g
  pub table : (read_tape s).number ≡ 0 → grid_fault false g ≡ 0 → (n ≡ table_length → ⊥) → begin_fault s g n ≡ 24
  pub done : (read_tape s).number ≡ 0 → grid_fault false g ≡ 0 → n ≡ table_length → begin_fault s g n ≡ 0

pub begin_order : (s : List ℕ) (g : Grid) (n : ℕ) → BeginOrder s g n
begin_order s g n =
    record {
      tape = λ a. first_here (read_tape s).number _ a;
      grid = λ a b. rw a (first_here (grid_fault false g) _ b);
      table = λ a b c. rw (a, b, ne_eqb n table_length c);
      done = λ a b c. rw (a, b, eq-eqb n table_length c);
    }

-- Drawing: 1 to 9, 10 for the rectangle, 10 and 11 for the grid, 24, 12 for the picture's length n, 13 for the work
-- buffer's length m.
pub record DrawOrder (s : List ℕ) (g : Grid) (q : Rectangle) (b : List ℕ) (n m : ℕ) : Type 0 where
  pub tape : ((read_tape s).number ≡ 0 → ⊥) → draw_fault s g q b n m ≡ (read_tape s).number
  pub rectangle : (read_tape s).number ≡ 0 → rectangle_ok g q ≡ false → draw_fault s g q b n m ≡ 10
  pub grid : (read_tape s).number ≡ 0 → rectangle_ok g q ≡ true → (grid_fault false g ≡ 0 → ⊥)
      → draw_fault s g q b n m ≡ grid_fault false g
  pub table : (read_tape s).number ≡ 0 → rectangle_ok g q ≡ true → grid_fault false g ≡ 0 → table_ok s g b ≡ false
      → draw_fault s g q b n m ≡ 24
  pub picture : (read_tape s).number ≡ 0 → rectangle_ok g q ≡ true → grid_fault false g ≡ 0 → table_ok s g b ≡ true
      → (n ≡ picture_size false g → ⊥) → draw_fault s g q b n m ≡ 12
  pub work : (read_tape s).number ≡ 0 → rectangle_ok g q ≡ true → grid_fault false g ≡ 0 → table_ok s g b ≡ true
      → n ≡ picture_size false g → m < work_limit → draw_fault s g q b n m ≡ 13
  pub done : (read_tape s).number ≡ 0 → rectangle_ok g q ≡ true → grid_fault false g ≡ 0 → table_ok s g b ≡ true
      → n ≡ picture_size false g → work_limit ≤ m → draw_fault s g q b n m ≡ 0

pub draw_order : (s : List ℕ) (g : Grid) (q : Rectangle) (b : List ℕ) (n m : ℕ) → DrawOrder s g q b n m
draw_order s g q b n m =
    let p = picture_size false g in
    record {
      tape = λ a. first_here (read_tape s).number _ a;
      rectangle = λ a r. rw (a, r);
      grid = λ a r c. rw (a, r) (first_here (grid_fault false g) _ c);
      table = λ a r c t. rw (a, r, c, t);
      picture = λ a r c t e. rw (a, r, c, t, ne_eqb n p e);
      work = λ a r c t e f. rw (a, r, c, t, eq-eqb n p e, lt-ltb m work_limit f);
      done = λ a r c t e f. rw (a, r, c, t, eq-eqb n p e, le-ltb m work_limit f);
    }

-- What a drawing that is not refused has passed.
pub record DrawClear (s : List ℕ) (g : Grid) (q : Rectangle) (b : List ℕ) : Type 0 where
  pub read : (read_tape s).number ≡ 0
  pub rectangle : rectangle_ok g q ≡ true
  pub grid : grid_fault false g ≡ 0
  pub table : table_fault s g b ≡ 0

pub off : (t : Bool) (n : ℕ) → when (not t) (suc n) ≡ 0 → t ≡ true
off t n e = not-false t (last_off (not t) n e)

pub draw_clear : (s : List ℕ) (g : Grid) (q : Rectangle) (b : List ℕ) (n m : ℕ) → draw_fault s g q b n m ≡ 0
    → DrawClear s g q b
draw_clear s g q b n m e =
    let line = each_line (draw_lines s g q b n m) e in
    record { read = line 0; rectangle = off (rectangle_ok g q) 9 (line 1); grid = line 2; table = line 3 }
