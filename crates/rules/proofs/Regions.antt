-- The children of a region: where they lie, how many they are, and that they cover it, each index triple once.
use mathlib.Core.Path.{◌≡◌, refl, ap, ap₂, ◌∙◌}
use mathlib.Core.Bool.{Bool, true, false, ◌&&◌, ◌||◌, not}
use mathlib.Core.List.{List, [], ◌∷◌, ◌++◌}
use mathlib.Core.Logic.{◌⊎◌, inl, inr}
use Prim.Native.Nat.{ℕ, zero, suc, ◌+◌, ◌*◌, ◌≤◌, ◌<◌}
use native.Mathlib.Nat.{le_refl, le_trans, mul_assoc, mul-le-mul_right, div-eq_of_eq-mul_left}
use native.Mathlib.Decide.{dec_lt}
use native.Mathlib.Omega.{arith}
use lib.Dec.{ltb, leb}
use lib.ListN.{length, length-append}
use borrow.Author.Tests.{ltb-true, leb-true, leb-false, lt-ltb, not-false}
use Rattle.rules.specs.Values.{pick}
use Rattle.rules.specs.Drawings.{size_limit, Grid, solid, layers, Region, region, lesser, past_x, past_y, past_z}
use Rattle.rules.specs.Drawings.{over, along_x, along_y, along_z, children, sides, whole, size_ok, sizes_ok, grid_fault}
use Rattle.rules.proofs.Tests.{and_left, and_right, test_off, of_pick}
pub use Rattle.rules.specs.Drawings.{Inside, InGrid}

-- The region begins inside the grid.
pub record Begins (g : Grid) (r : Region) : Type 0 where
  pub x_in : r.i < g.width
  pub y_in : r.j < g.height
  pub z_in : r.k < layers g

-- A region of side n inside r, which begins inside the grid.
pub record Placed (g : Grid) (r : Region) (n : ℕ) (q : Region) : Type 0 where
  pub side : q.long ≡ n
  pub begins : Begins g q
  pub x_from : r.i ≤ q.i
  pub x_to : q.i + n ≤ r.i + r.long
  pub y_from : r.j ≤ q.j
  pub y_to : q.j + n ≤ r.j + r.long
  pub z_from : r.k ≤ q.k
  pub z_to : q.k + n ≤ r.k + r.long

-- A predicate of each region of a list, and of some.
unfoldable pub Each : (Region → Type 0) → List Region → Type 0
Each P [] = Unit {0}
Each P (q ∷ qs) = P q × Each P qs

pub data Some (P : Region → Type 0) : List Region → Type 0 where
  here : {q : Region} {qs : List Region} → P q → Some P (q ∷ qs)
  there : {q : Region} {qs : List Region} → Some P qs → Some P (q ∷ qs)

-- The side n divides the region's side into l parts.
pub record Divides (r : Region) (n l : ℕ) : Type 0 where
  pub positive : 1 ≤ n
  pub parts : r.long ≡ l * n
  pub some_part : 1 ≤ l

-- Both predicates over two lists, one behind the other.
each_append : (P : Region → Type 0) (u v : List Region) → Each P u → Each P v → Each P (u ++ v)
unfolding Each
each_append P [] v a b = b
each_append P (q ∷ u) v a b = (a.0, each_append P u v a.1 b)

some_left : {P : Region → Type 0} {u : List Region} (v : List Region) → Some P u → Some P (u ++ v)
some_left v (here a) = here a
some_left v (there a) = there (some_left v a)

some_right : {P : Region → Type 0} (u : List Region) {v : List Region} → Some P v → Some P (u ++ v)
some_right [] a = a
some_right (q ∷ u) a = there (some_right u a)

pub each_map : (P Q : Region → Type 0) → ((q : Region) → P q → Q q) → (qs : List Region) → Each P qs → Each Q qs
unfolding Each
each_map P Q f [] a = tt
each_map P Q f (q ∷ qs) a = (f q a.0, each_map P Q f qs a.1)

-- No index triple lies in both regions; in two regions of a list.
pub record Disjoint (p q : Region) : Type 0 where
  pub never : (x y z : ℕ) → Inside p x y z → Inside q x y z → ⊥

unfoldable pub Apart : List Region → Type 0
Apart [] = Unit {0}
Apart (q ∷ qs) = Each (Disjoint q) qs × Apart qs

apart_append : (P Q : Region → Type 0) → ((p q : Region) → P p → Q q → Disjoint p q)
    → (u v : List Region) → Each P u → Each Q v → Apart u → Apart v → Apart (u ++ v)
unfolding Apart Each
apart_append P Q f [] v a b c d = d
apart_append P Q f (q ∷ u) v a b c d = (
  each_append (Disjoint q) u v c.0 (each_map Q (Disjoint q) (λ r h. f q r a.0 h) v b),
  apart_append P Q f u v
      a.1 b c.1 d,
)

turned : {p q : Region} → Disjoint p q → Disjoint q p
turned d = record { never = λ x y z h k. d.never x y z k h }

-- Two lists, upward or downward in number: rows and columns go upward, layers downward.
abbrev pub joined : Bool → List Region → List Region → List Region
joined up u v = pick up (u ++ v) (v ++ u)

each_joined : (P : Region → Type 0) (up : Bool) (u v : List Region) → Each P u → Each P v → Each P (joined up u v)
each_joined P true u v a b = each_append P u v a b
each_joined P false u v a b = each_append P v u b a

some_joined : (P : Region → Type 0) (up : Bool) (u v : List Region) → Some P u ⊎ Some P v → Some P (joined up u v)
some_joined P true u v (inl a) = some_left v a
some_joined P true u v (inr a) = some_right u a
some_joined P false u v (inl a) = some_right v a
some_joined P false u v (inr a) = some_left u a

length_joined : (up : Bool) (u v : List Region) → length (joined up u v) ≡ length u + length v
length_joined true u v = length-append u v
length_joined false u v = omega (arith, length-append v u)

apart_joined : (P Q : Region → Type 0) → ((p q : Region) → P p → Q q → Disjoint p q)
    → (up : Bool) (u v : List Region) → Each P u → Each Q v → Apart u → Apart v → Apart (joined up u v)
apart_joined P Q f true u v a b c d = apart_append P Q f u v a b c d
apart_joined P Q f false u v a b c d = apart_append Q P (λ q p k h. turned (f p q h k)) v u b a d c

-- The lists f a of l parts of length n along one axis, from a ≡ i on, those that begin before past.
unfoldable pub along : Bool → ℕ → ℕ → ℕ → ℕ → (ℕ → List Region) → List Region
along up zero i n past f = []
along up (suc l) i n past f = joined up (pick (ltb i past) (f i) []) (along up l (i + n) n past f)

each_pick : (P : Region → Type 0) (b : Bool) (u : List Region) → (b ≡ true → Each P u) → Each P (pick b u [])
unfolding Each
each_pick P true u f = f refl
each_pick P false u f = tt

apart_pick : (b : Bool) (u : List Region) → Apart u → Apart (pick b u [])
unfolding Apart
apart_pick true u d = d
apart_pick false u d = tt

each_along : (P : Region → Type 0) (up : Bool) (l i n past : ℕ) (f : ℕ → List Region)
    → ((a : ℕ) → i ≤ a → a + n ≤ i + l * n → a < past → Each P (f a)) → Each P (along up l i n past f)
unfolding along Each
each_along P up zero i n past f h = tt
each_along P up (suc l) i n past f h =
    each_joined P up (pick (ltb i past) (f i) []) (along up l (i + n) n past f)
    (each_pick P (ltb i past) (f i) (λ e. h i (omega arith) (omega arith) (ltb-true i past e)))
    (each_along P up l (i + n) n past f (λ a lo hi p. h a (omega arith) (omega arith) p))

-- The part that holds the index x.
by_part : {A B : Type 0} (x m : ℕ) → (x < m → A) → (m ≤ x → B) → A ⊎ B
by_part x m f g = elim (dec_lt x m) [ yes h ↦ inl (f h) | no h ↦ inr (g (omega arith)) ]

some_along : (P : Region → Type 0) (up : Bool) (l i n past : ℕ) (f : ℕ → List Region) (x : ℕ)
    → i ≤ x → x < i + l * n → x < past → ((a : ℕ) → a ≤ x → x < a + n → Some P (f a)) → Some P (along up l i n past f)
unfolding along
some_along P up zero i n past f x lo hi p h = absurd (omega arith)
some_along P up (suc l) i n past f x lo hi p h =
    some_joined P up (pick (ltb i past) (f i) []) (along up l (i + n) n past f)
    (by_part x (i + n) (λ k. rw (lt-ltb i past (omega arith)) (h i lo k))
    (λ k. some_along P up l (i + n) n past f x k (omega arith) p h))

length_pick : (b : Bool) (u : List Region) (m : ℕ) → length u ≤ m → length (pick b u []) ≤ m
length_pick true u m h = h
length_pick false u m h = omega arith

length_along : (up : Bool) (l i n past : ℕ) (f : ℕ → List Region) (m : ℕ) → ((a : ℕ) → length (f a) ≤ m)
    → length (along up l i n past f) ≤ l * m
unfolding along
length_along up zero i n past f m h = omega arith
length_along up (suc l) i n past f m h =
    rw length_joined
    (omega (arith, length_pick (ltb i past) (f i) m (h i), length_along up l (i + n) n past f m h))

-- Parts that lie behind one another along an axis: each region begins at a place of it and reaches n further.
record Begun (start : Region → ℕ) (a n : ℕ) (q : Region) : Type 0 where
  from : start q ≡ a
  side : q.long ≡ n

record Behind (start : Region → ℕ) (a : ℕ) (q : Region) : Type 0 where
  from : a ≤ start q

record Lies (start : Region → ℕ) (q : Region) (c : ℕ) : Type 0 where
  from : start q ≤ c
  to : c < start q + q.long

module _ (start : Region → ℕ) (index : ℕ → ℕ → ℕ → ℕ)
    (lies : (q : Region) (x y z : ℕ) → Inside q x y z → Lies start q (index x y z)) where
  behind : (i n : ℕ) (p q : Region) → Begun start i n p → Behind start (i + n) q → Disjoint p q
  behind i n p q a b = record { never = λ x y z h k. omega (arith, lies p x y z h, lies q x y z k) }

  apart_along : (up : Bool) (l i n past : ℕ) (f : ℕ → List Region) → ((a : ℕ) → Each (Begun start a n) (f a))
      → ((a : ℕ) → Apart (f a)) → Apart (along up l i n past f)
  unfolding along Apart
  apart_along up zero i n past f s d = tt
  apart_along up (suc l) i n past f s d =
      apart_joined (Begun start i n) (Behind start (i + n)) (behind i n) up (pick (ltb i past) (f i) [])
      (along up l (i + n) n past f) (each_pick (Begun start i n) (ltb i past) (f i) (λ e. s i))
      (each_along (Behind start (i + n)) up l (i + n) n past f
      (λ a lo hi p. each_map (Begun start a n) (Behind start (i + n)) (λ q b. record { from = omega arith }) (f a)
      (s a)))
      (apart_pick (ltb i past) (f i) (d i)) (apart_along up l (i + n) n past f s d)

-- The three list formers, and the children, in this form.
pub along_x_lem : (l i j k n past : ℕ) → along_x l i j k n past ≡ along true l i n past (λ a. region a j k n ∷ [])
unfolding along_x along
along_x_lem zero i j k n past = refl
along_x_lem (suc l) i j k n past = ap (λ v. pick (ltb i past) (region i j k n ∷ []) [] ++ v) (along_x_lem l (i + n) j k n past)

pub along_y_lem : (m l i j k n px py : ℕ)
    → along_y m l i j k n px py ≡ along true m j n py (λ b. along true l i n px (λ a. region a b k n ∷ []))
unfolding along_y along
along_y_lem zero l i j k n px py = refl
along_y_lem (suc m) l i j k n px py =
    ap₂ (λ u v. pick (ltb j py) u [] ++ v) (along_x_lem l i j k n px) (along_y_lem m l i (j + n) k n px py)

pub along_z_lem : (m l i j k n px py pz : ℕ) → along_z m l i j k n px py pz
    ≡ along false m k n pz (λ c. along true l j n py (λ b. along true l i n px (λ a. region a b c n ∷ [])))
unfolding along_z along
along_z_lem zero l i j k n px py pz = refl
along_z_lem (suc m) l i j k n px py pz =
    ap₂ (λ u v. v ++ pick (ltb k pz) u []) (along_y_lem l l i j k n px py) (along_z_lem m l i j (k + n) n px py pz)

abbrev cells : ℕ → ℕ → Region → ℕ → ℕ → ℕ → ℕ → List Region
cells m l r n px py pz =
    along false m r.k n pz (λ c. along true l r.j n py (λ b. along true l r.i n px (λ a. region a b c n ∷ [])))

pub over_parts : (a n l : ℕ) → 1 ≤ n → a ≡ l * n → over a n ≡ l
over_parts a zero l h e = absurd (omega arith)
over_parts a (suc n) l h e = div-eq_of_eq-mul_left h e

children_cells : (g : Grid) (r : Region) (n l : ℕ) → Divides r n l
    → children g r n ≡ cells (pick (solid g) l 1) l r n (past_x g r) (past_y g r) (past_z g r)
unfolding children
children_cells g r n l d =
    ap (λ m. along_z (pick (solid g) m 1) m r.i r.j r.k n (past_x g r) (past_y g r) (past_z g r))
    (over_parts r.long n l d.positive d.parts)
    ∙ along_z_lem (pick (solid g) l 1) l r.i r.j r.k n (past_x g r) (past_y g r) (past_z g r)

-- The cut at the grid's edge.
pub lesser_most : (a b : ℕ) → (lesser a b ≤ a) × (lesser a b ≤ b)
unfolding lesser
lesser_most a b = by_test_lem (leb a b) refl
  where
    by_test_lem : (t : Bool) → leb a b ≡ t → (pick t a b ≤ a) × (pick t a b ≤ b)
    by_test_lem true e = omega (arith, leb-true a b e)
    by_test_lem false e = omega (arith, leb-false a b e)

pub lesser_both : (x a b : ℕ) → x < a → x < b → x < lesser a b
unfolding lesser
lesser_both x a b h k = of_pick (λ v. x < v) (leb a b) h k

-- The layers: a flat grid has one, and one part of them.
pub layer_in : (b : Bool) (z d e : ℕ) → z < pick b (lesser d e) 1 → z < pick b d 1
layer_in true z d e h = omega (arith, lesser_most d e)
layer_in false z d e h = h

pub layer_past : (b : Bool) (z d e : ℕ) → z < pick b d 1 → z < e → z < pick b (lesser d e) 1
layer_past true z d e h k = lesser_both z d e h k
layer_past false z d e h k = h

layer_parts : (b : Bool) (l n : ℕ) → 1 ≤ l → pick b l 1 * n ≤ l * n
layer_parts true l n h = omega arith
layer_parts false l n h = mul-le-mul_right n h

layer_held : (b : Bool) (k z d l n : ℕ) → 1 ≤ n → k ≤ z → z < pick b d 1 → z < k + l * n → z < k + pick b l 1 * n
layer_held true k z d l n p a h e = e
layer_held false k z d l n p a h e = omega arith

pub children_placed : (g : Grid) (r : Region) (n l : ℕ) → Divides r n l → Each (Placed g r n) (children g r n)
unfolding Each
children_placed g r n l d =
    rw (children_cells g r n l d)
    (each_along (Placed g r n) false (pick (solid g) l 1) r.k n (past_z g r) _ (λ c cf ct ci.
    each_along (Placed g r n) true l r.j n (past_y g r) _ (λ b bf bt bi.
    each_along (Placed g r n) true l r.i n (past_x g r) _ (λ a af at ai. (
      record {
        side = refl;
        begins = record {
          x_in = omega (arith, lesser_most g.width (r.i + r.long));
          y_in = omega (arith, lesser_most g.height (r.j + r.long));
          z_in = layer_in (solid g) c g.depth (r.k + r.long) ci;
        };
        x_from = af;
        x_to = omega (arith, d.parts);
        y_from = bf;
        y_to = omega (arith, d.parts);
        z_from = cf;
        z_to = omega (arith, d.parts, layer_parts (solid g) l n d.some_part);
      },
      tt,
    )))))

pub children_cover : (g : Grid) (r : Region) (n l : ℕ) → Divides r n l → (x y z : ℕ) → Inside r x y z → InGrid g x y z
    → Some (λ q. Inside q x y z) (children g r n)
children_cover g r n l d x y z h k =
    rw (children_cells g r n l d)
    (some_along _ false (pick (solid g) l 1) r.k n (past_z g r) _ z h.z_from
    (layer_held (solid g) r.k z g.depth l n d.positive h.z_from k.z_in (omega (arith, d.parts)))
    (layer_past (solid g) z g.depth (r.k + r.long) k.z_in h.z_to) (λ c cf ct.
    some_along _ true l r.j n (past_y g r) _ y h.y_from (omega (arith, d.parts))
    (lesser_both y g.height (r.j + r.long) k.y_in h.y_to) (λ b bf bt.
    some_along _ true l r.i n (past_x g r) _ x h.x_from (omega (arith, d.parts))
    (lesser_both x g.width (r.i + r.long) k.x_in h.x_to) (λ a af at.
    here (record { x_from = af; x_to = at; y_from = bf; y_to = bt; z_from = cf; z_to = ct })))))

-- How many they are: l along each axis, and one layer of a flat grid.
cells_length : (m l : ℕ) (r : Region) (n px py pz : ℕ) → length (cells m l r n px py pz) ≤ m * (l * l)
cells_length m l r n px py pz =
    length_along false m r.k n pz _ (l * l) (λ c.
    length_along true l r.j n py _ l (λ b.
    le_trans (length_along true l r.i n px (λ a. region a b c n ∷ []) 1 (λ a. omega arith)) (omega arith)))

pub children_flat : (g : Grid) (r : Region) (n l : ℕ) → Divides r n l → solid g ≡ false
    → length (children g r n) ≤ l * l
children_flat g r n l d e =
    rw (children_cells g r n l d)
    (le_trans (cells_length (pick (solid g) l 1) l r n (past_x g r) (past_y g r) (past_z g r)) (rw e (omega arith)))

pub children_solid : (g : Grid) (r : Region) (n l : ℕ) → Divides r n l → solid g ≡ true
    → length (children g r n) ≤ l * l * l
children_solid g r n l d e =
    rw (children_cells g r n l d)
    (le_trans (cells_length (pick (solid g) l 1) l r n (past_x g r) (past_y g r) (past_z g r))
    (rw (e, mul_assoc) (le_refl (l * (l * l)))))

pub children_apart : (g : Grid) (r : Region) (n l : ℕ) → Divides r n l → Apart (children g r n)
unfolding Each Apart
children_apart g r n l d =
    rw (children_cells g r n l d)
    (apart_along (λ q. q.k) (λ x y z. z) (λ q x y z h. omega arith) false (pick (solid g) l 1) r.k n (past_z g r) _
    (λ c. each_along _ true l r.j n (past_y g r) _ (λ b bf bt bi.
    each_along _ true l r.i n (past_x g r) _ (λ a af at ai. (record { from = refl; side = refl }, tt))))
    (λ c. apart_along (λ q. q.j) (λ x y z. y) (λ q x y z h. omega arith) true l r.j n (past_y g r) _
    (λ b. each_along _ true l r.i n (past_x g r) _ (λ a af at ai. (record { from = refl; side = refl }, tt)))
    (λ b. apart_along (λ q. q.i) (λ x y z. x) (λ q x y z h. omega arith) true l r.i n (past_x g r) _
    (λ a. (record { from = refl; side = refl }, tt))
    (λ a. (tt, tt)))))

-- A child lies inside its region.
pub inside_child : (g : Grid) (r : Region) (n : ℕ) (q : Region) → Placed g r n q → (x y z : ℕ) → Inside q x y z
    → Inside r x y z
inside_child g r n q p x y z h = omega arith

-- So each index triple lies in exactly one child.
pub data Once (P : Region → Type 0) : List Region → Type 0 where
  first : {q : Region} {qs : List Region} → P q → Each (λ p. P p → ⊥) qs → Once P (q ∷ qs)
  later : {q : Region} {qs : List Region} → (P q → ⊥) → Once P qs → Once P (q ∷ qs)

some_never : (P : Region → Type 0) (qs : List Region) → Each (λ p. P p → ⊥) qs → Some P qs → ⊥
unfolding Each
some_never P [] e x = elim x [ ]
some_never P (q ∷ qs) e (here h) = e.0 h
some_never P (q ∷ qs) e (there h) = some_never P qs e.1 h

apart_once : (x y z : ℕ) (qs : List Region) → Apart qs → Some (λ q. Inside q x y z) qs → Once (λ q. Inside q x y z) qs
unfolding Apart
apart_once x y z [] d h = elim h [ ]
apart_once x y z (q ∷ qs) d (here h) = first h (each_map (Disjoint q) _ (λ p e k. e.never x y z h k) qs d.0)
apart_once x y z (q ∷ qs) d (there h) =
    later
    (λ k. some_never (λ p. Inside p x y z) qs (each_map (Disjoint q) _ (λ p e m. e.never x y z k m) qs d.0) h)
    (apart_once x y z qs d.1 h)

pub children_once : (g : Grid) (r : Region) (n l : ℕ) → Divides r n l → (x y z : ℕ) → Inside r x y z → InGrid g x y z
    → Once (λ q. Inside q x y z) (children g r n)
children_once g r n l d x y z h k =
    apart_once x y z (children g r n) (children_apart g r n l d) (children_cover g r n l d x y z h k)

-- Each side of a list divides the one before it; the sides of the walk do.
abbrev pub Steps : ℕ → List ℕ → Type 0
Steps a [] = Unit {0}
Steps a (n ∷ ns) = ((r : Region) → r.long ≡ a → Divides r n (over a n)) × Steps n ns

pub steps_flat : Steps 64 (8 ∷ (1 ∷ []))
steps_flat = omega arith

pub steps_solid : Steps 64 (16 ∷ (4 ∷ (1 ∷ [])))
steps_solid = omega arith

pub steps_whole : Divides whole 64 8
steps_whole = omega arith

pub steps_sides : (g : Grid) → Steps 64 (sides g)
unfolding sides
steps_sides g = by_kind (solid g)
  where
    by_kind : (b : Bool) → Steps 64 (pick b (16 ∷ (4 ∷ (1 ∷ []))) (8 ∷ (1 ∷ [])))
    by_kind true = steps_solid
    by_kind false = steps_flat

-- The same of the tiles of side 64 and the grid.
pub record Fits (g : Grid) : Type 0 where
  pub width : g.width ≤ size_limit
  pub height : g.height ≤ size_limit
  pub layers : layers g ≤ size_limit

pub tiles_placed : (g : Grid) → Each (Placed g whole 64) (children g whole 64)
tiles_placed g = children_placed g whole 64 8 steps_whole

pub tiles_cover : (g : Grid) → Fits g → (x y z : ℕ) → InGrid g x y z → Some (λ q. Inside q x y z) (children g whole 64)
tiles_cover g f x y z h = children_cover g whole 64 8 steps_whole x y z (omega arith) h

pub tiles_apart_lem : (g : Grid) → Apart (children g whole 64)
tiles_apart_lem g = children_apart g whole 64 8 steps_whole

pub tiles_once : (g : Grid) → Fits g → (x y z : ℕ) → InGrid g x y z → Once (λ q. Inside q x y z) (children g whole 64)
tiles_once g f x y z h = apart_once x y z (children g whole 64) (tiles_apart_lem g) (tiles_cover g f x y z h)

-- A grid that is not refused fits.
size_fits : (n : ℕ) → size_ok n ≡ true → n ≤ size_limit
size_fits n e = leb-true n size_limit (and_right (leb 1 n) (leb n size_limit) e)

layers_fit : (b : Bool) (d : ℕ) → (not b || size_ok d) ≡ true → pick b d 1 ≤ size_limit
layers_fit true d e = size_fits d e
layers_fit false d e = omega arith

pub grid_fits : (g : Grid) → grid_fault (solid g) g ≡ 0 → Fits g
unfolding grid_fault
grid_fits g h =
    let w = size_ok g.width in
    let v = size_ok g.height in
    let d = not (solid g) || size_ok g.depth in
    let a = not-false (sizes_ok (solid g) g) (test_off (not (sizes_ok (solid g) g)) 9 _ h) in
    let b = and_right w (v && d) a in
    record {
      width = size_fits g.width (and_left w (v && d) a);
      height = size_fits g.height (and_left v d b);
      layers = layers_fit (solid g) g.depth (and_right v d b);
    }
