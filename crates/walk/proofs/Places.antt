-- Loops over the regions of one side in a region: upward along a row or over rows, and over layers from the greatest z
-- down. The laws hold for every side, so that each loop only cites them.
use mathlib.Core.Path.{◌≡◌, refl, ◌∙◌}
use mathlib.Core.Bool.{Bool}
use mathlib.Core.List.{List, [], ◌∷◌, ◌++◌}
use Prim.Native.Nat.{ℕ, suc, ◌+◌, ◌-◌, ◌*◌, ◌%◌, ◌≤◌, ◌<◌}
use native.Mathlib.Nat.{mul_assoc, mul-le-mul_right, le_of_mul-le-mul_right, lt_of_mul-lt-mul_right}
use native.Mathlib.Omega.{arith}
use lib.ListN.{length}
use Rattle.rules.specs.Drawings.{Region, fold, visit}
use Rattle.rules.specs.Accepted.{Accepted}
use Rattle.code.specs.Words.{tape_in}
use Rattle.picture.specs.Shapes.{grid_in}
use Rattle.picture.specs.declared.grid.Grid.{Grid}
use Rattle.walk.proofs.Draws.{Rest, rest_from, rest_one, rest_list, rest_done}
use Rattle.walk.proofs.Along.{layer_next}
use Rattle.walk.specs.Cells.{Ready}
use Rattle.walk.specs.Walks.{Shown, Visits, Folds}

-- What is left of a list of regions, with the words on every number of slots on which they are an accepted tape.
pub record Left (isSolid : Bool) (ws : List ℕ) (grid : Grid) (ns : List ℕ) (all left : List Region) (b₀ b : List ℕ)
    (count : ℕ) : Type 0 where
  pub rest : (m : ℕ) → Accepted (tape_in m ws)
      → Rest (Shown isSolid grid) (fold (λ q s. visit ns (tape_in m ws) (grid_in grid isSolid) q s) all)
      (fold (λ q s. visit ns (tape_in m ws) (grid_in grid isSolid) q s) left) b₀ b count

module _ {isSolid : Bool} {ws : List ℕ} {grid : Grid} {ns : List ℕ} where
  pub left_from : {us xs : List Region} (b : List ℕ) → xs ≡ us → Left isSolid ws grid ns xs us b b 0
  left_from b h = record { rest = λ m a. rest_from _ b h }

  module _ {all us : List Region} {b₀ b : List ℕ} {c : ℕ} where
    pub left_one : {ys : List Region} {q : Region} {b' : List ℕ} {most d : ℕ} → us ≡ q ∷ ys
        → Left isSolid ws grid ns all us b₀ b c
        → Visits isSolid most ws grid ns q b b' d → Left isSolid ws grid ns all ys b₀ b' (c + d)
    left_one h t v = record { rest = λ m a. rest_one _ h (t.rest m a) (v.draws m a) }

    pub left_list : {xs ys : List Region} {b' : List ℕ} {most d : ℕ} → us ≡ xs ++ ys
        → Left isSolid ws grid ns all us b₀ b c
        → Folds isSolid most ws grid ns xs b b' d → Left isSolid ws grid ns all ys b₀ b' (c + d)
    left_list {xs} {ys} h t v = record { rest = λ m a. rest_list _ xs ys h (t.rest m a) (v.draws m a) }

    pub left_done : {most : ℕ} → us ≡ [] → c ≤ most * length ws → Left isSolid ws grid ns all us b₀ b c
        → Folds isSolid most ws grid ns all b₀ b c
    left_done h k t = record { draws = λ m a. rest_done _ h (t.rest m a); bound = k }

-- A loop upward along an axis, at x: at most l parts of side n from i on and before past. Each counts at most `most`
-- runs of the words.
pub record Upward (isSolid : Bool) (n l most : ℕ) (ws : List ℕ) (grid : Grid) (ns : List ℕ) (all left : List Region)
    (i past : ℕ) (b₀ b : List ℕ) (count x : ℕ) : Type 0 where
  pub rest : Left isSolid ws grid ns all left b₀ b count
  pub done : ℕ
  pub some : 1 ≤ n
  pub place : x ≡ i + done * n
  pub fits : past ≤ i + l * n
  pub bound : count ≤ done * (most * length ws)
  pub few : done ≤ l
  pub size : length b ≡ length b₀

-- Downward along z: the parts from z on are done.
pub record Downward (isSolid : Bool) (n l most : ℕ) (ws : List ℕ) (grid : Grid) (ns : List ℕ)
    (all left : List Region) (k past : ℕ) (b₀ b : List ℕ) (count z : ℕ) : Type 0 where
  pub rest : Left isSolid ws grid ns all left b₀ b count
  pub done : ℕ
  pub some : 1 ≤ n
  pub from : k ≤ z
  pub even : (z - k) % n ≡ 0
  pub to : z < past + n
  pub within : z + done * n ≤ k + l * n
  pub bound : count ≤ done * (most * length ws)
  pub few : done ≤ l
  pub size : length b ≡ length b₀

-- One more part, of at most l, and its count.
more : (n l i a : ℕ) → i + a * n < i + l * n → suc a ≤ l
more n l i a h = lt_of_mul-lt-mul_right n (omega arith)

sum_most : (l most done count d : ℕ) → count ≤ done * most → d ≤ most → suc done ≤ l → count + d ≤ l * most
sum_most l most done count d h k e = omega (arith, mul-le-mul_right most e)

all_most : (l most total n done count : ℕ) → count ≤ done * (most * n) → done ≤ l → l * most ≤ total → count ≤ total * n
all_most l most total n done count h k e =
    omega (arith, mul-le-mul_right (most * n) k, mul_assoc l most n, mul-le-mul_right n e)

module _ {isSolid : Bool} {n l most : ℕ} {ws : List ℕ} {grid : Grid} {ns : List ℕ} {all us : List Region}
    {i past : ℕ} where
  pub up_starts : (b : List ℕ) → all ≡ us → 1 ≤ n → past ≤ i + l * n
      → Upward isSolid n l most ws grid ns all us i past b b 0 i
  up_starts b h o f =
      record {
        rest = left_from b h;
        done = 0;
        some = o;
        place = omega arith;
        fits = f;
        bound = omega arith;
        few = omega arith;
        size = refl;
      }

  module _ {b₀ b : List ℕ} {count x : ℕ} (u : Upward isSolid n l most ws grid ns all us i past b₀ b count x) where
    up_more : x < past → suc u.done ≤ l
    up_more t = more n l i u.done (omega (arith, u.place, u.fits))

    pub up_sum : {d : ℕ} → x < past → d ≤ most * length ws → count + d ≤ l * (most * length ws)
    up_sum {d} t k = sum_most l (most * length ws) u.done count d u.bound k (up_more t)

    up_again : {d : ℕ} {ys : List Region} {b' : List ℕ} → x < past → d ≤ most * length ws → length b' ≡ length b
        → Left isSolid ws grid ns all ys b₀ b' (count + d) → Upward isSolid n l most ws grid ns all ys i past b₀ b'
        (count + d) (x + n)
    up_again t k e v =
        record {
          rest = v;
          done = suc u.done;
          some = u.some;
          place = omega (arith, u.place);
          fits = u.fits;
          bound = omega (arith, u.bound);
          few = up_more t;
          size = e ∙ u.size;
        }

    pub up_one : {d : ℕ} {ys : List Region} {q : Region} {b' : List ℕ} → x < past → us ≡ q ∷ ys
        → Visits isSolid most ws grid ns q b b' d → length b' ≡ length b
        → Upward isSolid n l most ws grid ns all ys i past b₀ b' (count + d) (x + n)
    up_one t h v e = up_again t v.bound e (left_one h u.rest v)

    pub up_list : {d : ℕ} {xs ys : List Region} {b' : List ℕ} → x < past → us ≡ xs ++ ys
        → Folds isSolid most ws grid ns xs b b' d → length b' ≡ length b
        → Upward isSolid n l most ws grid ns all ys i past b₀ b' (count + d) (x + n)
    up_list t h v e = up_again t v.bound e (left_list h u.rest v)

    pub up_done : {total : ℕ} → us ≡ [] → l * most ≤ total → Folds isSolid total ws grid ns all b₀ b count
    up_done h m = left_done h (all_most l most _ (length ws) u.done count u.bound u.few m) u.rest

module _ {isSolid : Bool} {n l most : ℕ} {ws : List ℕ} {grid : Grid} {ns : List ℕ} {all us : List Region}
    {k past : ℕ} where
  pub down_starts : (b : List ℕ) (z : ℕ) → all ≡ us → 1 ≤ n → k ≤ z → (z - k) % n ≡ 0 → z < past + n → z ≤ k + l * n
      → Downward isSolid n l most ws grid ns all us k past b b 0 z
  down_starts b z h o f e t w =
      record {
        rest = left_from b h;
        done = 0;
        some = o;
        from = f;
        even = e;
        to = t;
        within = omega arith;
        bound = omega arith;
        few = omega arith;
        size = refl;
      }

  module _ {b₀ b : List ℕ} {count z : ℕ} (u : Downward isSolid n l most ws grid ns all us k past b₀ b count z) where
    pub down_within : z ≤ k + l * n
    down_within = omega (arith, u.within)

    -- A turn starts with z - n.
    pub down_in : k < z → (n ≤ z) × (z - n < past)
    down_in t = let h = layer_next k n z t u.even in (omega arith, omega (arith, u.to))

    down_more : k < z → suc u.done ≤ l
    down_more t =
        let h = layer_next k n z t u.even in
        let m : suc u.done * n ≤ l * n = omega (arith, u.within) in
        le_of_mul-le-mul_right m u.some

    pub down_sum : {d : ℕ} → k < z → d ≤ most * length ws → count + d ≤ l * (most * length ws)
    down_sum {d} t e = sum_most l (most * length ws) u.done count d u.bound e (down_more t)

    pub down_list : {d : ℕ} {xs ys : List Region} {b' : List ℕ} → k < z → us ≡ xs ++ ys
        → Folds isSolid most ws grid ns xs b b' d → length b' ≡ length b
        → Downward isSolid n l most ws grid ns all ys k past b₀ b' (count + d) (z - n)
    down_list t h v e =
        let m = layer_next k n z t u.even in
        record {
          rest = left_list h u.rest v;
          done = suc u.done;
          some = u.some;
          from = omega arith;
          even = m.1;
          to = omega (arith, u.to);
          within = omega (arith, u.within);
          bound = omega (arith, u.bound, v.bound);
          few = down_more t;
          size = e ∙ u.size;
        }

    pub down_done : {total : ℕ} → us ≡ [] → l * most ≤ total → Folds isSolid total ws grid ns all b₀ b count
    down_done h m = left_done h (all_most l most _ (length ws) u.done count u.bound u.few m) u.rest

-- What a call in a loop asks again.
pub ready_again : {isSolid : Bool} {grid : Grid} {b₀ b : List ℕ} → Ready isSolid grid b₀ → length b ≡ length b₀
    → Ready isSolid grid b
ready_again r e = record { fault = r.fault; size = e ∙ r.size }
