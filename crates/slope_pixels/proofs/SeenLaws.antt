-- The window of a block's heights, height by height: of those that lie in the window all.
use mathlib.Core.Path.{◌≡◌, subst}
use mathlib.Core.List.{List}
use mathlib.Core.Logic.{◌⊎◌, inl, inr}
use Prim.Native.Nat.{ℕ, ◌+◌, ◌*◌, ◌≤◌, ◌<◌}
use native.Mathlib.Omega.{arith}
use lib.ListN.{get_or}
use Rattle.picture.specs.declared.grid.Grid.{Grid}
use Rattle.slope_pixels.specs.declared.block.Block.{Block}
use Rattle.slope_pixels.specs.declared.block.Layers.{Layers}
use Rattle.slope_pixels.specs.Shades.{block_at, pixel_at, Within, Seen, layers_at, Wider, Joined, Spans, Tight}
use Rattle.slope_pixels.proofs.ShadeLaws.{columns_split, rows_split}

module _ {grid : Grid} {h : List ℕ} {all : Layers} where
  spans_none : (d : Block) (r : Layers) → ((i j : ℕ) → Within d i j → ⊥) → Spans grid h d all r r
  spans_none d r n = record { wider = omega arith; has = λ i j w e. absurd (n i j w) }

  pub spans_pixel : {before r : Layers} (x y : ℕ) → Joined (get_or h (y * grid.width + x) 0) all before r
      → Spans grid h (pixel_at x y) all before r
  spans_pixel {before} {r} x y u =
      record { wider = u.wider; has = λ p q w. here p q (omega (arith, w)) (omega (arith, w)) }
    where
      here : (p q : ℕ) → p ≡ x → q ≡ y → Seen grid h all p q → Seen grid h r p q
      here p q e f =
          rw (e, f) (λ (s : Seen grid h all x y). record {
            above = (u.has s.above s.most).0;
            most = (u.has s.above s.most).1;
          })

  spans_both : {d e q : Block} {before r₁ r₂ : Layers} → ((i j : ℕ) → Within q i j → Within d i j ⊎ Within e i j)
      → Spans grid h d all before r₁ → Spans grid h e all r₁ r₂ → Spans grid h q all before r₂
  spans_both {d} {e} {q} {before} {r₁} {r₂} u s₁ s₂ =
      record {
        wider = wider_both s₁.wider s₂.wider;
        has = λ i j w. by i j (u i j w);
      }
    where
      wider_both : Wider all before r₁ → Wider all r₁ r₂ → Wider all before r₂
      wider_both p q =
          record {
            low = omega (arith, p.low, q.low);
            high = omega (arith, p.high, q.high);
            from = λ l. q.from (p.from l);
            end = λ l. q.end (p.end l);
          }

      by : (i j : ℕ) → Within d i j ⊎ Within e i j → Seen grid h all i j → Seen grid h r₂ i j
      by i j (inl w) l =
          let s = s₁.has i j w l in
          let v = s₂.wider in
          record { above = omega (arith, s.above, v.low); most = omega (arith, s.most, v.high) }
      by i j (inr w) l = s₂.has i j w l

-- A loop along the columns of a block c, at x, and over its rows, at y.
pub record SeenColumns (grid : Grid) (h : List ℕ) (c : Block) (all before r : Layers) (x : ℕ) : Type 0 where
  pub from : c.x ≤ x
  pub to : x ≤ c.xend
  pub spans : Spans grid h (block_at c.x x c.y c.yend) all before r

pub record SeenRows (grid : Grid) (h : List ℕ) (c : Block) (all before r : Layers) (y : ℕ) : Type 0 where
  pub from : c.y ≤ y
  pub to : y ≤ c.yend
  pub spans : Spans grid h (block_at c.x c.xend c.y y) all before r

module _ {grid : Grid} {h : List ℕ} {c : Block} {all : Layers} where
  pub seen_columns : (r : Layers) → c.x ≤ c.xend → SeenColumns grid h c all r r c.x
  seen_columns r l =
      record {
        from = omega arith;
        to = l;
        spans = spans_none (block_at c.x c.x c.y c.yend) r (λ i j w. omega (arith, w));
      }

  pub seen_rows : (r : Layers) → c.y ≤ c.yend → SeenRows grid h c all r r c.y
  seen_rows r l =
      record {
        from = omega arith;
        to = l;
        spans = spans_none (block_at c.x c.xend c.y c.y) r (λ i j w. omega (arith, w));
      }

  pub columns_next : {before r r' : Layers} {x : ℕ} → SeenColumns grid h c all before r x → x < c.xend
      → Spans grid h (block_at x (x + 1) c.y c.yend) all r r' → SeenColumns grid h c all before r' (x + 1)
  columns_next {x = x} s l v =
      record {
        from = omega (arith, s.from);
        to = omega (arith, l);
        spans = spans_both (columns_split c.x x (x + 1) c.y c.yend) s.spans v;
      }

  pub rows_next : {before r r' : Layers} {y : ℕ} → SeenRows grid h c all before r y → y < c.yend
      → Spans grid h (block_at c.x c.xend y (y + 1)) all r r' → SeenRows grid h c all before r' (y + 1)
  rows_next {y = y} s l v =
      record {
        from = omega (arith, s.from);
        to = omega (arith, l);
        spans = spans_both (rows_split c.x c.xend c.y y (y + 1)) s.spans v;
      }

  pub columns_all : {before r : Layers} {x : ℕ} → SeenColumns grid h c all before r x → c.xend ≤ x
      → Spans grid h c all before r
  columns_all {before} {r} {x} s l =
      subst (λ (e : ℕ). Spans grid h (block_at c.x e c.y c.yend) all before r) (ends x c.xend s.to l)
      s.spans
    where
      ends : (p q : ℕ) → p ≤ q → q ≤ p → p ≡ q
      ends p q i j = omega arith

  pub rows_all : {before r : Layers} {y : ℕ} → SeenRows grid h c all before r y → c.yend ≤ y
      → Spans grid h c all before r
  rows_all {before} {r} {y} s l =
      subst (λ (e : ℕ). Spans grid h (block_at c.x c.xend c.y e) all before r) (ends y c.yend s.to l)
      s.spans
    where
      ends : (p q : ℕ) → p ≤ q → q ≤ p → p ≡ q
      ends p q i j = omega arith

  -- From a window that has no layer.
  pub tight_all : {r : Layers} → all.from ≤ all.end → Spans grid h c all (layers_at all.end all.from) r
      → Tight grid h c all r
  tight_all {r} l s =
      record {
        from = s.wider.from l;
        most = s.wider.low;
        end = s.wider.end l;
        has = s.has;
      }

  pub tight_none : all.from ≤ all.end → all.end ≤ all.from → Tight grid h c all (layers_at all.end all.from)
  tight_none l m =
      record {
        from = l;
        most = omega arith;
        end = l;
        has = λ i j w s. absurd (none i j s);
      }
    where
      none : (i j : ℕ) → Seen grid h all i j → ⊥
      none i j s = omega (arith, s.above, s.most)
