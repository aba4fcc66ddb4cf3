-- The whole drawing: all tiles, from heights of 0.
use mathlib.Core.Path.{◌≡◌}
use mathlib.Core.Bool.{Bool}
use mathlib.Core.List.{List, [], ◌∷◌}
use Prim.Native.Nat.{ℕ, ◌*◌}
use lib.ListN.{replicate}
use Rattle.rules.specs.Values.{pick}
use Rattle.rules.specs.Drawings.{Region, grid_fault, fold, visit, children, sides, whole, walked}
use Rattle.rules.specs.Accepted.{Accepted}
use Rattle.code.specs.Words.{tape_in}
use Rattle.picture.specs.Shapes.{grid_in}
use Rattle.picture.specs.declared.grid.Grid.{Grid}
use Rattle.walk.specs.Draws.{Draws}
use Rattle.walk.specs.Walks.{Shown, Folds}
use Rattle.walk.proofs.CellLaws.{kind}
use Rattle.walk.proofs.Draws.{draws_walked}

-- The sides after 64.
abbrev pub sides_in : Bool → List ℕ
sides_in isSolid = pick isSolid (16 ∷ (4 ∷ (1 ∷ []))) (8 ∷ (1 ∷ []))

module _ (isSolid : Bool) {ws : List ℕ} {grid : Grid} {most c : ℕ} {qs : List Region} {b b' : List ℕ}
    (e : grid_fault isSolid (grid_in grid isSolid) ≡ 0) (tiles : children (grid_in grid isSolid) whole 64 ≡ qs)
    (f : Folds isSolid most ws grid (sides_in isSolid) qs b b' c)
    (h : Shown isSolid grid b (replicate (grid.width * grid.height) 0)) where
  all_drawn : (m : ℕ) → Accepted (tape_in m ws)
      → let g = grid_in grid isSolid in
      Draws (Shown isSolid grid) (fold (λ r s. visit (sides g) (tape_in m ws) g r s) (children g whole 64)) b b' c
  unfolding sides
  all_drawn m a = rw (tiles, kind isSolid grid e) (f.draws m a)

  pub walk_shown : (m : ℕ) → Accepted (tape_in m ws)
      → Shown isSolid grid b' (walked (tape_in m ws) (grid_in grid isSolid)).heights
      × ((walked (tape_in m ws) (grid_in grid isSolid)).clauses ≡ c)
  walk_shown m a = draws_walked (tape_in m ws) (grid_in grid isSolid) (all_drawn m a) h
