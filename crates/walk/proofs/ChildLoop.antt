-- The loop over the children of a cell by their number: `for m in 0..n { let c = child(parent, side, m); .. }`.
use mathlib.Core.Path.{◌≡◌, refl, ◌∙◌}
use mathlib.Core.Bool.{Bool}
use mathlib.Core.List.{List}
use Prim.Native.Nat.{ℕ, suc, ◌+◌, ◌*◌, ◌≤◌, ◌<◌}
use native.Mathlib.Nat.{mul_assoc, mul-le-mul_right}
use native.Mathlib.Numerals.{add-one}
use native.Mathlib.Omega.{arith}
use lib.ListN.{length, drop, drop_of_length-le}
use Rattle.picture.specs.declared.grid.Grid.{Grid}
use Rattle.walk.specs.Cells.{region_in}
use Rattle.walk.specs.Walks.{Visits, Folds}
use Rattle.walk.specs.declared.cell.Cell.{Cell}
use Rattle.walk.proofs.Places.{Left, left_from, left_one, left_done}
use Rattle.walk.specs.Children.{children_in, ChildOf}

-- Before child number m; each counts at most `most` runs of the words.
pub record AtChild (isSolid : Bool) (n most : ℕ) (ws : List ℕ) (grid : Grid) (ns : List ℕ) (parent : Cell)
    (b₀ b : List ℕ) (count m : ℕ) : Type 0 where
  pub rest : Left isSolid ws grid ns (children_in parent n) (drop m (children_in parent n)) b₀ b count
  pub bound : count ≤ m * (most * length ws)
  pub few : m ≤ length (children_in parent n)
  pub size : length b ≡ length b₀

module _ {isSolid : Bool} {n most : ℕ} {ws : List ℕ} {grid : Grid} {ns : List ℕ} {parent : Cell} where
  pub child_begins : (b : List ℕ) → AtChild isSolid n most ws grid ns parent b b 0 0
  child_begins b = record { rest = left_from b refl; bound = omega arith; few = omega arith; size = refl }

  module _ {b₀ b : List ℕ} {count m : ℕ} (u : AtChild isSolid n most ws grid ns parent b₀ b count m) where
    -- With at most l children.
    pub child_sum : {d : ℕ} (l : ℕ) → m < length (children_in parent n) → length (children_in parent n) ≤ l
        → d ≤ most * length ws → count + d ≤ l * (most * length ws)
    child_sum l t f k =
        let h : suc m ≤ l = omega arith in
        omega (arith, u.bound, mul-le-mul_right (most * length ws) h)

    pub child_again : {d : ℕ} {c : Cell} {b' : List ℕ} → ChildOf parent n m c → m < length (children_in parent n)
        → Visits isSolid most ws grid ns (region_in c) b b' d → length b' ≡ length b
        → AtChild isSolid n most ws grid ns parent b₀ b' (count + d) (m + 1)
    child_again k t v e =
        record {
          rest = rw add-one (left_one k.next u.rest v);
          bound = omega (arith, u.bound, v.bound);
          few = omega arith;
          size = e ∙ u.size;
        }

    pub child_done : (l total : ℕ) → length (children_in parent n) ≤ m → length (children_in parent n) ≤ l
        → l * most ≤ total → Folds isSolid total ws grid ns (children_in parent n) b₀ b count
    child_done l total t f k =
        let h : m ≤ l = omega (arith, u.few) in
        left_done (drop_of_length-le (children_in parent n) t)
        (omega (
          arith,
          u.bound,
          mul-le-mul_right (most * length ws) h,
          mul_assoc l most (length ws),
          mul-le-mul_right (length ws) k,
        ))
        u.rest
