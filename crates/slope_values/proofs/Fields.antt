-- All fields of a value with its slopes at once.
use mathlib.Core.Path.{◌≡◌, ◌∙◌}
use lib.IntN.{ℤ}
use Rattle.fixed.proofs.Words.{both}
use Rattle.slope_values.specs.Shapes.{made}

pub all_fields : {v v' x x' y y' z z' : ℤ} → v ≡ v' → x ≡ x' → y ≡ y' → z ≡ z' → made v x y z ≡ made v' x' y' z'
all_fields {v} {v'} {x} {x'} {y} {y'} {z} {z'} e f g h =
    both (λ (a b : ℤ). made a b y z) e f ∙ both (λ (a b : ℤ). made v' x' a b) g h
