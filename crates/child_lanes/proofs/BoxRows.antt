-- Boxes one a lane, as two rows an axis: filled up to a lane, and one lane more.
use mathlib.Core.Path.{◌≡◌, refl, sym, subst, ap, ◌∙◌}
use mathlib.Core.Bool.{Bool, true, false}
use mathlib.Core.List.{List, [], ◌∷◌}
use lib.Dec.{eqb}
use lib.IntN.{ℤ}
use lib.ListN.{length, get_or, set, drop}
use lib.Seq.{get_or-drop}
use Prim.Native.Nat.{ℕ, ◌+◌, ◌-◌, ◌≤◌, ◌<◌}
use native.Mathlib.Nat.{add-zero}
use native.Mathlib.Omega.{arith}
use borrow.Author.Tests.{eqb-true, eqb-false}
use mir.Syntax.{w32}
use Rattle.rules.specs.Values.{Range, range, Box}
use Rattle.rules.specs.Drawings.{Region, lesser}
use Rattle.rules.proofs.Regions.{lesser_most}
use Rattle.rules.proofs.EndValues.{EndValues}
use Rattle.rules.proofs.Words.{read, both}
use Rattle.lanes.specs.Lanes.{lane_count}
use Rattle.span_lanes.proofs.SpanLaws.{Ends, no_ends, more_ends, all_ends}
use Rattle.code.specs.Runs.{EndsOk, BoxOk}
use Rattle.code.proofs.RangeLaws.{low_by, high_by}
use Rattle.range_sweep.specs.Boxes.{box_at}

-- The boxes of the lanes below the k-th are those that f says, with ends that are values.
pub record Filled (f : ℕ → Box) (xl xh yl yh zl zh : List ℤ) (k : ℕ) : Type 0 where
  pub few : k ≤ lane_count
  pub xs : Ends (λ j. (f j).xs) xl xh k
  pub ys : Ends (λ j. (f j).ys) yl yh k
  pub zs : Ends (λ j. (f j).zs) zl zh k
  pub ok : (j : ℕ) → j < k → BoxOk (f j)

read_ends : (r : Range) {s : Range} → r ≡ s → EndsOk s → range (read w32 r.low) (read w32 r.high) ≡ s
read_ends r {s} e o =
    let v : EndValues s = record { low = o.low; high = o.high } in
    both range (low_by r s e v) (high_by r s e v)

module _ (f : ℕ → Box) {xl xh yl yh zl zh : List ℤ} where
  pub none_filled : length xl ≡ lane_count → length xh ≡ lane_count → length yl ≡ lane_count → length yh ≡ lane_count
      → length zl ≡ lane_count → length zh ≡ lane_count → Filled f xl xh yl yh zl zh 0
  none_filled a b c d e g =
      record {
        few = omega arith;
        xs = no_ends _ xl xh a b;
        ys = no_ends _ yl yh c d;
        zs = no_ends _ zl zh e g;
        ok = λ j h. absurd (omega arith);
      }

  pub one_filled : {k : ℕ} (b : Box) → k < lane_count → Filled f xl xh yl yh zl zh k → b ≡ f k → BoxOk b
      → Filled f (set xl k (read w32 b.xs.low)) (set xh k (read w32 b.xs.high))
      (set yl k (read w32 b.ys.low)) (set yh k (read w32 b.ys.high))
      (set zl k (read w32 b.zs.low)) (set zh k (read w32 b.zs.high)) (k + 1)
  one_filled {k} b h u e o =
      let p = subst BoxOk e o in
      record {
        few = omega arith;
        xs = more_ends _ xl xh k _ _ h u.xs (read_ends b.xs (ap (λ x. x.xs) e) p.xs);
        ys = more_ends _ yl yh k _ _ h u.ys (read_ends b.ys (ap (λ x. x.ys) e) p.ys);
        zs = more_ends _ zl zh k _ _ h u.zs (read_ends b.zs (ap (λ x. x.zs) e) p.zs);
        ok = λ j l. by j l (eqb j k) p refl;
      }
    where
      by : (j : ℕ) → j < k + 1 → (t : Bool) → BoxOk (f k) → eqb j k ≡ t → BoxOk (f j)
      by j l true p q = rw (eqb-true j k q) p
      by j l false p q = let n = eqb-false j k q in u.ok j (omega arith)

  pub all_filled : {k : ℕ} → lane_count ≤ k → Filled f xl xh yl yh zl zh k → (j : ℕ) → j < lane_count
      → box_at (xl ∷ (xh ∷ (yl ∷ (yh ∷ (zl ∷ (zh ∷ [])))))) j ≡ f j
  all_filled {k} h u j l =
      let p = all_ends _ xl xh k h u.xs j l in
      let q = all_ends _ yl yh k h u.ys j l in
      let r = all_ends _ zl zh k h u.zs j l in
      λ t. record { xs = p t; ys = q t; zs = r t }

-- The first of what is left of a list stands at that place.
pub first_left : (qs : List Region) (n : ℕ) (d : Region) {q : Region} {rs : List Region} → drop n qs ≡ q ∷ rs
    → get_or qs n d ≡ q
first_left qs n d e =
    ap (λ i. get_or qs i d) (sym (add-zero n)) ∙ sym (get_or-drop n qs 0 d) ∙ ap (λ (l : List Region). get_or l 0 d) e

-- A lane's child is one of those that there are.
pub lane_within : {r l : ℕ} (n e m : ℕ) → r ≡ lesser n (e - 1) → m < e → e ≡ l → r < l
lane_within n e m q h a = omega (arith, lesser_most n (e - 1))
