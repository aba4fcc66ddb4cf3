-- A visit to a region raises the heights by the region's samples that have material, and so the walk by tiles draws the
-- full drawing's picture.
use mathlib.Core.Path.{◌≡◌, refl, sym, ◌∙◌}
use mathlib.Core.Bool.{Bool, true, false}
use mathlib.Core.Logic.{◌⊎◌, inl, inr}
use mathlib.Core.List.{List, [], ◌∷◌}
use Prim.Native.Nat.{ℕ, ◌*◌, ◌≤◌}
use native.Mathlib.Omega.{arith}
use native.Mathlib.Nat.{mul-le-mul}
use lib.ListN.{length, replicate}
use Rattle.rules.specs.Values.{pick}
use Rattle.rules.specs.Tapes.{Tape, material}
use Rattle.rules.specs.Drawings.{Grid, solid, sample_at, grid_fault, drawn, Region, State, state, over, children}
use Rattle.rules.specs.Drawings.{fold, counted, short_tape, visit, sides, whole, walked}
use Rattle.rules.proofs.Runs.{Good}
use Rattle.rules.proofs.Short.{short_good}
use Rattle.rules.proofs.Regions.{Inside, InGrid, Begins, Placed, Each, Some, here, there, each_map, Divides}
use Rattle.rules.proofs.Regions.{children_placed, children_cover, inside_child, Steps, steps_sides, tiles_placed}
use Rattle.rules.proofs.Regions.{tiles_cover}
use Rattle.rules.proofs.Visit.{visit_by_case, sample_by_case}
use Rattle.rules.proofs.Raised.{Raised, unchanged, joined, same_set, unique}
use Rattle.rules.proofs.Grids.{Sound, accepted_sound}
use Rattle.rules.proofs.Samples.{Hit, fill_full, skip_empty, skip_hidden, high_full, low_empty, short_material}
use Rattle.rules.proofs.Samples.{one_full, one_empty}
use Rattle.rules.proofs.Columns.{drawn_raised}

-- One region of a list, taken out.
some_length : {P : Region → Type 0} {qs : List Region} → Some P qs → 1 ≤ length qs
some_length (here i) = omega arith
some_length (there i) = omega arith

some_first : {P : Region → Type 0} {q : Region} {qs : List Region} → Some P (q ∷ qs) → P q ⊎ Some P qs
some_first (here i) = inl i
some_first (there i) = inr i

some_map : {P Q : Region → Type 0} {qs : List Region} → ((q : Region) → P q → Q q) → Some P qs → Some Q qs
some_map f (here {q} i) = here (f q i)
some_map f (there i) = there (some_map f i)

some_each : {P Q : Region → Type 0} {A : Type 0} {qs : List Region} → ((q : Region) → P q → Q q → A)
    → Some P qs → Each Q qs → A
unfolding Each
some_each f (here {q} i) a = f q i a.0
some_each f (there i) a = some_each f i a.1

-- Regions one after another raise by the samples of all of them.
pub fold_raised : (f : Region → State → State) (P : Region → ℕ → ℕ → Type 0) (qs : List Region)
    → Each (λ q. (s : State) → Raised (P q) s.heights (f q s).heights) qs → (s : State)
    → Raised (λ p z. Some (λ q. P q p z) qs) s.heights (fold f qs s).heights
unfolding fold Each
fold_raised f P [] a s = unchanged s.heights (λ p z i. omega (arith, some_length i))
fold_raised f P (q ∷ qs) a s =
    joined (a.0 s) (fold_raised f P qs a.1 (f q s)) (λ p z i. some_first i) (λ p z i. here i) (λ p z i. there i)

-- Regions that lie in r and cover it, in any order, raise by the samples of r, also if they are run with another tape
-- that has the same material there.
pub parts_raised : (t t' : Tape) (g : Grid) (r : Region) (n : ℕ) (qs : List Region) → Each (Placed g r n) qs
    → ((x y z : ℕ) → Inside r x y z → InGrid g x y z → Some (λ q. Inside q x y z) qs)
    → ((x y z : ℕ) → Inside r x y z → InGrid g x y z → material t' (sample_at g x y z) ≡ material t (sample_at g x y z))
    → (f : Region → State → State)
    → ((q : Region) → Placed g r n q → (s : State) → Raised (Hit t' g q) s.heights (f q s).heights)
    → (s : State) → Raised (Hit t g r) s.heights (fold f qs s).heights
parts_raised t t' g r n qs placed cover same f one s =
    same_set (fold_raised f (Hit t' g) qs (each_map (Placed g r n) _ one qs placed) s)
    (λ p z i. some_each (up p z) i placed) (λ p z i. down p z i)
  where
    up : (p z : ℕ) (q : Region) → Hit t' g q p z → Placed g r n q → Hit t g r p z
    up p z q i b =
        let k : Inside r i.x i.y z = inside_child g r n q b i.x i.y z i.inside in
        record {
          x = i.x;
          y = i.y;
          place = i.place;
          inside = k;
          in_grid = i.in_grid;
          has = sym (same i.x i.y z k i.in_grid) ∙ i.has;
        }

    down : (p z : ℕ) → Hit t g r p z → Some (λ q. Hit t' g q p z) qs
    down p z i =
        some_map
        (λ q k. record {
          x = i.x;
          y = i.y;
          place = i.place;
          inside = k;
          in_grid = i.in_grid;
          has = same i.x i.y z i.inside i.in_grid ∙ i.has;
        })
        (cover i.x i.y z i.inside i.in_grid)

-- The last side of a walk below a side.
abbrev pub last_side : ℕ → List ℕ → ℕ
last_side a [] = a
last_side a (n ∷ ns) = last_side n ns

pub divided_long : (r : Region) (n l : ℕ) → Divides r n l → 1 ≤ r.long
divided_long r n l d = omega (arith, mul-le-mul d.some_part d.positive, d.parts)

-- A visit to a region raises by the region's samples with material.
pub visit_raised : (ns : List ℕ) (a : ℕ) → Steps a ns → last_side a ns ≡ 1 → (g : Grid) → Sound g → (t : Tape) → Good t
    → (r : Region) → Begins g r → r.long ≡ a → (s : State) → Raised (Hit t g r) s.heights
    (visit ns t g r s).heights
visit_raised [] a d o g sound t good r b e s =
    sample_by_case (λ u. Raised (Hit t g r) s.heights u.heights) t g r s (skip_hidden s.heights)
    (λ h. fill_full (one_full t g r (e ∙ o) h) b (omega arith) s.heights)
    (λ h. skip_empty (one_empty t g r (e ∙ o) h) s.heights)
visit_raised (n ∷ ns) a d o g sound t good r b e s =
    let u = short_tape t g r in
    let l = over a n in
    let v = d.0 r e in
    visit_by_case (λ x. Raised (Hit t g r) s.heights x.heights) n ns t g r s (skip_hidden s.heights)
    (λ h. fill_full (high_full good sound r h) b (divided_long r n l v) s.heights)
    (λ h. skip_empty (low_empty good sound r h) s.heights)
    (parts_raised t u g r n (children g r n) (children_placed g r n l v) (children_cover g r n l v)
    (short_material good sound r) (λ q y. visit ns u g q y)
    (λ q p y. visit_raised ns n d.1 o g sound u (short_good t good _) q p.begins p.side y)
    (counted t s))

-- Tiles of side 64 that cover the grid, in any order.
pub sides_last : (g : Grid) → last_side 64 (sides g) ≡ 1
unfolding sides
sides_last g = go (solid g)
  where
    go : (b : Bool) → last_side 64 (pick b (16 ∷ (4 ∷ (1 ∷ []))) (8 ∷ (1 ∷ []))) ≡ 1
    go true = refl
    go false = refl

pub tiles_raised : (t : Tape) → Good t → (g : Grid) → Sound g → (qs : List Region) → Each (Placed g whole 64) qs
    → ((x y z : ℕ) → InGrid g x y z → Some (λ q. Inside q x y z) qs)
    → (s : State) → Raised (Hit t g whole) s.heights (fold (λ r y. visit (sides g) t g r y) qs s).heights
tiles_raised t good g sound qs placed cover s =
    parts_raised t t g whole 64 qs placed (λ x y z i k. cover x y z k) (λ x y z i k. refl)
    (λ r y. visit (sides g) t g r y)
    (λ q p y. visit_raised (sides g) 64 (steps_sides g) (sides_last g) g sound t good q p.begins p.side y) s

pub same_tiles : (t : Tape) → Good t → (g : Grid) → Sound g → (qs : List Region) → Each (Placed g whole 64) qs
    → ((x y z : ℕ) → InGrid g x y z → Some (λ q. Inside q x y z) qs)
    → (fold (λ r s. visit (sides g) t g r s) qs (state (replicate (g.width * g.height) 0) 0)).heights ≡ drawn t g
same_tiles t good g sound qs placed cover =
    unique (tiles_raised t good g sound qs placed cover (state (replicate (g.width * g.height) 0) 0))
    (drawn_raised t g sound.fits)

-- The tile drawing is the full drawing.
pub same_picture : (t : Tape) → Good t → (g : Grid) (isSolid : Bool) → isSolid ≡ solid g → grid_fault isSolid g ≡ 0
    → (walked t g).heights ≡ drawn t g
unfolding walked
same_picture t good g isSolid e f =
    let a = accepted_sound g isSolid e f in
    same_tiles t good g a (children g whole 64) (tiles_placed g) (tiles_cover g a.fits)
