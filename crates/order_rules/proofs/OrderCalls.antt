-- The lines of the call in their order, and what they leave of one that is not turned down.
use mathlib.Core.Path.{◌≡◌}
use mathlib.Core.Bool.{true, false, not}
use mathlib.Core.List.{List}
use Prim.Native.Nat.{ℕ, ◌<◌, ◌≤◌}
use lib.Dec.{eqb, ltb}
use borrow.Author.Tests.{eqb-true, eq-eqb, ne_eqb, lt-ltb, le-ltb, ltb-false, not-false}
use Rattle.rules.specs.Tapes.{read_tape}
use Rattle.rules.specs.Drawings.{work_limit, Grid, grid_fault}
use Rattle.rules.specs.Pictures.{picture_size}
use Rattle.rules.proofs.Tests.{last_off}
use Rattle.rules.proofs.Lines.{first_here, each_line}
use Rattle.order_rules.specs.Orders.{is_order, tile_count, order_lines, order_fault}

-- Lines 1 to 11, 12 for the picture's length, 12 for the list, 13.
pub record LineOrder (s : List ℕ) (g : Grid) (ks : List ℕ) (n k : ℕ) : Type 0 where
  pub tape : ((read_tape s).number ≡ 0 → ⊥) → order_fault s g ks n k ≡ (read_tape s).number
  pub grid : (read_tape s).number ≡ 0 → (grid_fault true g ≡ 0 → ⊥) → order_fault s g ks n k ≡ grid_fault true g
  pub picture : (read_tape s).number ≡ 0 → grid_fault true g ≡ 0 → (n ≡ picture_size true g → ⊥)
      → order_fault s g ks n k ≡ 12
  pub list : (read_tape s).number ≡ 0 → grid_fault true g ≡ 0 → n ≡ picture_size true g
      → is_order (tile_count g) ks ≡ false → order_fault s g ks n k ≡ 12
  pub work : (read_tape s).number ≡ 0 → grid_fault true g ≡ 0 → n ≡ picture_size true g
      → is_order (tile_count g) ks ≡ true → k < work_limit → order_fault s g ks n k ≡ 13
  pub done : (read_tape s).number ≡ 0 → grid_fault true g ≡ 0 → n ≡ picture_size true g
      → is_order (tile_count g) ks ≡ true → work_limit ≤ k → order_fault s g ks n k ≡ 0

pub line_order : (s : List ℕ) (g : Grid) (ks : List ℕ) (n k : ℕ) → LineOrder s g ks n k
line_order s g ks n k =
    let p = picture_size true g in
    record {
      tape = λ a. first_here (read_tape s).number _ a;
      grid = λ a b. rw a (first_here (grid_fault true g) _ b);
      picture = λ a b c. rw (a, b, ne_eqb n p c);
      list = λ a b c d. rw (a, b, eq-eqb n p c, d);
      work = λ a b c d e. rw (a, b, eq-eqb n p c, d, lt-ltb k work_limit e);
      done = λ a b c d e. rw (a, b, eq-eqb n p c, d, le-ltb k work_limit e);
    }

-- A call that is not turned down: no line holds.
pub record Clear (s : List ℕ) (g : Grid) (ks : List ℕ) (n k : ℕ) : Type 0 where
  pub read : (read_tape s).number ≡ 0
  pub grid : grid_fault true g ≡ 0
  pub picture : n ≡ picture_size true g
  pub list : is_order (tile_count g) ks ≡ true
  pub work : work_limit ≤ k

pub order_clear : (s : List ℕ) (g : Grid) (ks : List ℕ) (n k : ℕ) → order_fault s g ks n k ≡ 0 → Clear s g ks n k
order_clear s g ks n k e =
    let p = picture_size true g in
    let o = is_order (tile_count g) ks in
    let at = each_line (order_lines s g ks n k) e in
    record {
      read = at 0;
      grid = at 1;
      picture = eqb-true n p (not-false (eqb n p) (last_off (not (eqb n p)) 11 (at 2)));
      list = not-false o (last_off (not o) 11 (at 3));
      work = ltb-false k work_limit (last_off (ltb k work_limit) 12 (at 4));
    }
