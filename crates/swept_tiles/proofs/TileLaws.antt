-- Tiles: all positions by their numbers, and the whole picture.
use mathlib.Core.Path.{◌≡◌, sym, ap, subst, ◌∙◌}
use mathlib.Core.Bool.{false}
use mathlib.Core.List.{List}
use lib.IntN.{ℤ}
use Prim.Native.Nat.{ℕ, ◌/◌, ◌≤◌, ◌<◌}
use native.Mathlib.Omega.{arith}
use lib.ListN.{length, take}
use Rattle.rules.specs.Drawings.{Region, region, Inside}
use Rattle.rules.proofs.Runs.{good_accepted}
use Rattle.code.specs.Words.{tape_in}
use Rattle.picture.specs.Shapes.{grid_in}
use Rattle.picture.specs.declared.grid.Grid.{Grid}
use Rattle.walk.proofs.CellLaws.{small}
use Rattle.swept_rules.specs.Swept.{offsets_of}
use Rattle.swept_rules.specs.Keeping.{numbers_from}
use Rattle.swept_rules.proofs.Positions.{numbers_length, numbers_at}
use Rattle.swept_rules.proofs.Pictures.{pixels_swept}
use Rattle.swept_rules.proofs.Regions.{swept_by, tile_keeps}
use Rattle.swept_path.specs.Asked.{InPath}
use Rattle.swept_pixels.specs.Puts.{Draws}
use Rattle.swept_pixels.specs.Searches.{OnPath, Agrees}
use Rattle.swept_tiles.specs.Looks.{Numbered, AllAgree, ForSweep, SweptBy}

-- The numbers that a tile begins with.
module _ {whole : List ℕ} {grid : Grid} {zs : List ℤ} {outer inner b work first second : List ℕ}
    (p : ForSweep whole grid zs outer inner b work first second) where
  pub halved : length zs / 2 ≡ length (offsets_of zs)
  halved = omega (arith, p.pairs)

  module _ {list : List ℕ} (u : Numbered (length zs / 2) list) where
    pub all_numbers : take (length zs / 2) list ≡ numbers_from 0 (length (offsets_of zs))
    all_numbers = u.numbers ∙ ap (numbers_from 0) halved

    pub all_path : OnPath grid zs (take (length zs / 2) list)
    all_path =
        record {
          few = p.few;
          stays = p.stays;
          in_path = subst (InPath zs) (sym all_numbers)
              (record {
                each = λ i l.
                    let n = length (offsets_of zs) in
                    let m : i < n = omega (arith, l, numbers_length 0 n) in
                    omega (arith, numbers_at 0 n i m, m);
              });
        }

    pub all_long : length (take (length zs / 2) list) ≤ 4096
    all_long = omega (arith, ap length all_numbers, numbers_length 0 (length (offsets_of zs)), p.few)

    pub all_agree : {r : Region} (f : ℕ → ℕ → ℕ) → AllAgree whole zs grid r f
        → Agrees whole zs grid (take (length zs / 2) list) r f
    all_agree {r} f a = subst (λ (ks : List ℕ). Agrees whole zs grid ks r f) (sym all_numbers) a

  -- What is drawn of the region that has the whole grid is the swept picture.
  pub all_swept : {r : Region} {b' : List ℕ} → r ≡ region 0 0 0 512
      → Draws (AllAgree whole zs grid r) grid r b b' → length b' ≡ length b → SweptBy whole zs grid b'
  all_swept {r} {b'} e d l =
      record {
        pixels = λ n a.
            pixels_swept (tape_in n whole) (offsets_of zs) (grid_in grid false) b' (l ∙ p.on.size)
            (λ i j hi hj.
            (d.puts (swept_by (tape_in n whole) (offsets_of zs) (grid_in grid false))
            (record {
              slots = n;
              accepted = a;
              keeps = tile_keeps (tape_in n whole) (good_accepted (tape_in n whole) a) (offsets_of zs) (grid_in grid false) r;
            })
            ).done i j (in_whole i j hi hj) hi hj);
      }
    where
      in_whole : (i j : ℕ) → i < grid.width → j < grid.height → Inside r i j 0
      in_whole i j hi hj =
          let s = small false grid p.on.fault in
          rw e
          (record {
            x_from = omega arith;
            x_to = omega (arith, hi, s.width);
            y_from = omega arith;
            y_to = omega (arith, hj, s.height);
            z_from = omega arith;
            z_to = omega arith;
          })

-- What is lent, from one tile to the next.
pub sweep_again : {whole : List ℕ} {grid : Grid} {zs : List ℤ}
    {outer inner b work first second outer' inner' b' work' first' second' : List ℕ}
    → ForSweep whole grid zs outer inner b work first second → length outer' ≡ length outer
    → length inner' ≡ length inner → length b' ≡ length b → length work' ≡ length work → length first' ≡ length first
    → length second' ≡ length second → ForSweep whole grid zs outer' inner' b' work' first' second'
sweep_again p o i b w f s =
    record {
      level = p.level;
      on = record { fault = p.on.fault; size = b ∙ p.on.size };
      pairs = p.pairs;
      few = p.few;
      stays = p.stays;
      outer_long = o ∙ p.outer_long;
      inner_long = i ∙ p.inner_long;
      marks = omega (arith, p.marks, w);
      words_first = omega (arith, p.words_first, f);
      words_second = omega (arith, p.words_second, s);
    }
