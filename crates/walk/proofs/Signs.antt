-- The sign of a range's end, from the code's test of it.
use mathlib.Core.Path.{◌≡◌, sym, ap, ◌∙◌}
use mathlib.Core.Bool.{Bool}
use lib.IntN.{ℤ, pos}
use lib.Signed.{lt_z}
use mir.Syntax.{w32}
use mir.Val.{SFits, to_z, of_z}
use mir.Facts.{to_z-of_z}
use Rattle.rules.specs.Values.{is_neg}
use Rattle.walk.proofs.Draws.{neg_test}

pub sign : (z w : ℤ) (t : Bool) → SFits w32 z → lt_z (to_z w32 (of_z w32 z)) (pos 0) ≡ t → z ≡ w → is_neg w ≡ t
sign z w t f e h =
    ap is_neg (sym h) ∙ sym (neg_test z) ∙ ap (λ x. lt_z x (pos 0)) (sym (to_z-of_z {w = w32} {z = z} f)) ∙ e
