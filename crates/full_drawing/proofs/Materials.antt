-- One sample as the code has it, and its answer.
use mathlib.Core.Path.{◌≡◌, refl, ap, ◌∙◌}
use lib.IntN.{ℤ, pos, negsuc}
use lib.Signed.{lt_z}
use native.Mathlib.Omega.{arith}
use borrow.Author.Tests.{le-ltb}
use Rattle.rules.specs.Values.{is_neg, Sample}
use Rattle.rules.specs.Tapes.{Tape, value_at, material}

abbrev sample : ℤ → ℤ → ℤ → Sample
sample x y z = record { x = x; y = y; z = z }

pub same_sample : {x y z x' y' z' : ℤ} → x ≡ x' → y ≡ y' → z ≡ z' → sample x y z ≡ sample x' y' z'
same_sample {x} {y} {z} {x'} {y'} {z'} e f g = ap (λ a. sample a y z) e ∙ ap (λ a. sample x' a z) f
    ∙ ap (sample x' y') g

below_zero : (z : ℤ) → lt_z z (pos 0) ≡ is_neg z
below_zero (pos a) = le-ltb a 0 (omega arith)
below_zero (negsuc a) = refl

pub says : (t : Tape) {s s' : Sample} {r q : ℤ} → q ≡ r → r ≡ value_at t s → s ≡ s' → lt_z q (pos 0) ≡ material t s'
unfolding material
says t {s} {s'} {r} {q} e f g = below_zero q ∙ ap is_neg (e ∙ f ∙ ap (value_at t) g)
