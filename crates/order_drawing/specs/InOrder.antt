-- What a drawing in an order asks: that no line refuses it, and so the list is an order of its tiles. And what it gives,
-- of words and of the tape.
use Rattle.std.specs.Prelude.{◌≡◌, true, List, ℕ, ◌≤◌}
use Rattle.rules.specs.Tapes.{read_tape}
use Rattle.rules.specs.Drawings as D
use Rattle.rules.specs.Pictures.{picture}
use Rattle.rules.specs.Accepted.{Accepted}
use Rattle.order_rules.specs.Orders.{is_order, tile_count, walked_in}
use Rattle.code.specs.Words.{tape_in}
use Rattle.picture.specs.Shapes.{grid_in}
use Rattle.picture.specs.declared.grid.Grid.{Grid}
use Rattle.answers.specs.Lines.{DrawsByTiles}
use Rattle.solid_tiles.specs.Tiles.{ForSolid}

-- The number of tiles.
pub record TileCount (grid : Grid) (r : ℕ) : Type 0 where
  pub count : r ≡ tile_count (grid_in grid true)
  pub few : r ≤ 512

-- A call that no line refuses, n the picture's length and m the work buffer's.
pub record DrawsInOrder (s : List ℕ) (g : D.Grid) (ks : List ℕ) (n m : ℕ) : Type 0 where
  pub tiles : DrawsByTiles true s g n m
  pub list : is_order (tile_count g) ks ≡ true

-- The words of a tape, and room for the marks and words of three levels.
pub record ForOrder (ks whole : List ℕ) (grid : Grid) (b work l₁ l₂ l₃ : List ℕ) : Type 0 where
  pub solid : ForSolid whole grid b work l₁ l₂ l₃
  pub list : is_order (tile_count (grid_in grid true)) ks ≡ true

-- The walk's picture and count in the order, on any number of slots on which the words are an accepted tape.
pub record WalkedInOrder (ks ws : List ℕ) (grid : Grid) (b : List ℕ) (c : ℕ) : Type 0 where
  pub pixels : (m : ℕ) → Accepted (tape_in m ws)
      → b ≡ picture true (grid_in grid true) (walked_in ks (tape_in m ws) (grid_in grid true)).heights
  pub count : (m : ℕ) → Accepted (tape_in m ws) → c ≡ (walked_in ks (tape_in m ws) (grid_in grid true)).clauses

-- The tape's own.
pub record OrderOf (ks s : List ℕ) (g : D.Grid) (o' : List ℕ) (k : ℕ) : Type 0 where
  pub pixels : o' ≡ picture true g (walked_in ks (read_tape s).tape g).heights
  pub count : k ≡ (walked_in ks (read_tape s).tape g).clauses
