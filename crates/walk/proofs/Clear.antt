-- Flat children that are left: their bytes are 0, and they lie apart, so that drawing one leaves the others so.
use mathlib.Core.Path.{◌≡◌, ◌∙◌}
use mathlib.Core.Bool.{false}
use mathlib.Core.List.{List, [], ◌∷◌}
use Prim.Native.Nat.{ℕ, suc, ◌+◌, ◌*◌, ◌≤◌, ◌<◌}
use native.Mathlib.Numerals.{add-one}
use native.Mathlib.Omega.{arith}
use lib.ListN.{length, get_or, drop}
use Rattle.rules.specs.Drawings.{Region, children, grid_fault}
use Rattle.rules.proofs.Regions.{Divides, Each, each_map, Disjoint, Placed, Apart as Separate}
use Rattle.rules.proofs.Regions.{children_placed, children_apart}
use Rattle.picture.specs.Parts.{Blank, Apart}
use Rattle.picture.specs.Shapes.{grid_in}
use Rattle.picture.specs.declared.grid.Grid.{Grid}
use Rattle.picture.proofs.PartLaws.{blank_part, apart_part, apart_then}
use Rattle.walk.specs.Cells.{CellOk, region_in}
use Rattle.walk.specs.declared.cell.Cell.{Cell}
use Rattle.walk.specs.Children.{last_end, Parent, children_in, ChildOf}
use Rattle.walk.proofs.ChildLaws.{children_in_lem, child_at, child_spot, ends_grid, children_of, parent_some}
use Rattle.walk.proofs.Numbered.{nowhere}

-- One region of the layer 0, whose bytes are 0.
pub record Unmarked (w : ℕ) (b : List ℕ) (q : Region) : Type 0 where
  pub blank : Blank w q.i (q.i + q.long) q.j (q.j + q.long) b
  pub layer : q.k ≡ 0
  pub some : 1 ≤ q.long

pub record Clear (w : ℕ) (us : List Region) (b : List ℕ) : Type 0 where
  pub each : Each (Unmarked w b) us
  pub apart : Separate us

-- Drawing q leaves another one unmarked.
still : {w : ℕ} {b b' : List ℕ} {p q : Region} → Unmarked w b q → Disjoint q p
    → Apart w q.i (q.i + q.long) q.j (q.j + q.long) b b' → Unmarked w b p → Unmarked w b' p
still u d a v =
    record {
      blank = record {
        bytes = λ j c l i.
            a.bytes j c l
            (λ o. d.never (8 * c) j 0 (omega (arith, u.layer, u.some, o)) (omega (arith, v.layer, v.some, i)))
            ∙ v.blank.bytes j c l i;
      };
      layer = v.layer;
      some = v.some;
    }

all_still : {w : ℕ} {b b' : List ℕ} {q : Region} → Unmarked w b q
    → Apart w q.i (q.i + q.long) q.j (q.j + q.long) b b'
    → (ys : List Region) → Each (Disjoint q) ys → Each (Unmarked w b) ys → Each (Unmarked w b') ys
unfolding Each
all_still u a [] d e = tt
all_still u a (p ∷ ys) d e = (still u d.0 a e.0, all_still u a ys d.1 e.1)

module _ {w : ℕ} {us ys : List Region} {q : Region} {b : List ℕ} (h : us ≡ q ∷ ys) (k : Clear w us b) where
  first : Clear w (q ∷ ys) b
  first = rw h at k

  pub clear_here : Unmarked w b q
  unfolding Each
  clear_here = first.each.0

  pub clear_next : {b' : List ℕ} → Apart w q.i (q.i + q.long) q.j (q.j + q.long) b b' → Clear w ys b'
  unfolding Each Separate
  clear_next a =
      let f = first in
      record { each = all_still f.each.0 a ys f.apart.0 f.each.1; apart = f.apart.1 }

-- All children of a cell whose part is blank.
pub clear_begins : (grid : Grid) (c : Cell) (n l : ℕ) {b : List ℕ} → 1 ≤ n → 1 ≤ l → c.side ≡ l * n
    → grid_fault false (grid_in grid false) ≡ 0 → CellOk 1 grid c
    → Blank grid.width c.x (c.x + l * n) c.y (c.y + l * n) b
    → Clear grid.width (children_in c n) b
clear_begins grid c n l o s e f k v =
    let d : Divides (region_in c) n l = record { positive = o; parts = e; some_part = s } in
    let g = grid_in grid false in
    rw (← children_in_lem false grid c n l o s e f k)
    (record {
      each = each_map (Placed g (region_in c) n) _
          (λ q p.
          record {
            blank = blank_part (omega (arith, p)) v;
            layer = omega (arith, p.begins);
            some = omega (arith, p.side);
          })
          (children g (region_in c) n) (children_placed g (region_in c) n l d);
      apart = children_apart g (region_in c) n l d;
    })

-- All children of a parent of one layer, up to where the last of them end.
each_by : (P : Region → Type 0) (d : Region) (qs : List Region) → ((m : ℕ) → m < length qs → P (get_or qs m d))
    → Each P qs
unfolding Each
each_by P d [] h = tt
each_by P d (q ∷ qs) h = (h 0 (omega arith), each_by P d qs (λ m l. h (suc m) (omega arith)))

module _ {p : Cell} {n : ℕ} (k : Parent p n) {w : ℕ} {b : List ℕ} (one : p.zend ≤ 1)
    (v : Blank w p.x (last_end p.x p.xend n) p.y (last_end p.y p.yend n) b) where
  unmarked : (m : ℕ) → m < length (children_in p n) → Unmarked w b (get_or (children_in p n) m nowhere)
  unmarked m h =
      let s = child_spot k m h in
      rw (child_at k m h)
      (record {
        blank = blank_part (record { left = omega arith; right = s.x_last; top = omega arith; bottom = s.y_last }) v;
        layer = omega (arith, s.z_in);
        some = k.some;
      })

  pub parts_clear : Clear w (children_in p n) b
  parts_clear =
      record {
        each = each_by (Unmarked w b) nowhere (children_in p n) unmarked;
        apart = rw (children_of k)
            (children_apart (ends_grid p) (region_in p) n k.count
            (record { positive = k.some; parts = k.parts; some_part = parent_some k }));
      }

-- A turn of the loop over the children.
module _ {p c : Cell} {n m w : ℕ} {b : List ℕ} (k : ChildOf p n m c) where
  pub child_blank : Clear w (drop m (children_in p n)) b → Blank w c.x (c.x + n) c.y (c.y + n) b
  child_blank v = rw k.side at (clear_here k.next v).blank

  pub child_clear : {b' : List ℕ} → Clear w (drop m (children_in p n)) b
      → Apart w c.x (c.x + n) c.y (c.y + n) b b'
      → Clear w (drop (m + 1) (children_in p n)) b'
  child_clear v a = rw add-one (clear_next k.next v (rw k.side a))

  pub child_apart : {b₀ b' : List ℕ} (s : ℕ) → p.side ≡ s → Apart w p.x (p.x + s) p.y (p.y + s) b₀ b
      → Apart w c.x (c.x + n) c.y (c.y + n) b b' → Apart w p.x (p.x + s) p.y (p.y + s) b₀ b'
  child_apart s e d a =
      apart_then d
      (apart_part
      (record {
        left = omega (arith, k.at_x);
        right = omega (arith, k.x_to);
        top = k.y_from;
        bottom = omega (arith, k.y_to);
      }) a)

  pub part_apart : {b₀ b' : List ℕ}
      → Apart w p.x (last_end p.x p.xend n) p.y (last_end p.y p.yend n) b₀ b
      → Apart w c.x (c.x + n) c.y (c.y + n) b b'
      → Apart w p.x (last_end p.x p.xend n) p.y (last_end p.y p.yend n) b₀ b'
  part_apart d a =
      apart_then d
      (apart_part (record { left = omega (arith, k.at_x); right = k.x_last; top = k.y_from; bottom = k.y_last }) a)
