-- One pixel after the other.
use mathlib.Core.Path.{◌≡◌, refl, subst, ◌∙◌}
use Prim.Native.Nat.{ℕ, ◌≤◌}
use native.Mathlib.Omega.{arith}
use lib.ListN.{length-set}
use Rattle.solid_samples.specs.Whole.{put_row}
use Rattle.solid_samples.proofs.WholeLaws.{put_none, put_more}
use Rattle.solid_samples.proofs.whole.put_four.Goals as goal

pub loop-k-init : goal.loop-k-init
loop-k-init c = (omega arith, put_none _ _ _ _, refl)

pub loop-k-preserved : goal.loop-k-preserved
loop-k-preserved c =
    let l = c.loop-k in (
      omega arith,
      put_more _ _ _ _ l.k l.picture l.invariant.1,
      length-set l.picture _ _ ∙ l.invariant.2,
    )

-- The loop ends at four.
four : (k : ℕ) → k ≤ 4 → 4 ≤ k → k ≡ 4
four k h l = omega arith

pub shape_of-picture : goal.shape_of-picture
shape_of-picture c = c.loop-k.invariant.2

pub returns : goal.returns
returns c =
    let l = c.loop-k in
    let a = c.args in
    subst (λ k. l.picture ≡ put_row k a.picture.now a.at a.row.now a.first)
    (four l.k l.invariant.0 c.loop-k-test.false) l.invariant.1
