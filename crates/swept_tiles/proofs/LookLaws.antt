-- A look at a region: what is kept of its positions, and the tape cut over their hull, have the same first covers.
use mathlib.Core.Path.{◌≡◌, sym, ap, subst, ◌∙◌}
use mathlib.Core.Bool.{true, false}
use mathlib.Core.List.{List, [], ◌∷◌}
use lib.IntN.{ℤ}
use Prim.Native.Nat.{ℕ, zero, suc, ◌+◌, ◌-◌, ◌≤◌, ◌<◌}
use native.Mathlib.Omega.{arith}
use native.Mathlib.Numerals.{add-one}
use lib.ListN.{length, get_or, take, drop}
use lib.Seq.{length-take-le}
use Rattle.rules.specs.Values.{is_neg, Box}
use Rattle.rules.specs.Tapes.{Tape, range_over, shortened}
use Rattle.rules.specs.Drawings as D
use Rattle.rules.specs.Accepted.{Accepted}
use Rattle.rules.proofs.Grids as Grids
use Rattle.code.specs.Words.{tape_in}
use Rattle.code.specs.Runs.{Fit}
use Rattle.picture.specs.Shapes.{grid_in}
use Rattle.picture.specs.declared.grid.Grid.{Grid}
use Rattle.picture.proofs.Grids.{accepted}
use Rattle.walk.specs.Cells.{CellOk, region_in, CellBox}
use Rattle.walk.specs.Verdicts.{CutOver}
use Rattle.walk.specs.Judges.{ForJudge}
use Rattle.walk.specs.declared.cell.Cell.{Cell}
use Rattle.walk.proofs.JudgeLaws.{to_run}
use Rattle.walk.specs.Walks.{Level}
use Rattle.walk.proofs.LookLaws.{fit_of, sound_runs, lent_words, short_again, short_kept}
use Rattle.swept_rules.specs.Swept.{Offset, offsets_of}
use Rattle.swept_rules.specs.Keeping.{Hull, hull_of, hull_box, moved_box, hull_from, position_at}
use Rattle.swept_rules.proofs.Positions.{AllOf, AllMove, Hulls, hull_from_lem, Kept, kept_all}
use Rattle.swept_rules.proofs.Boxes.{Moves, region_moves}
use Rattle.swept_rules.proofs.Regions.{Part, Keeps, all_move, kept_keeps, short_keeps, region_full, region_empty}
use Rattle.swept_path.specs.Asked.{ForBox, InPath}
use Rattle.swept_path.specs.Keeps.{ForKeep, KeptAs, CoversAll, KeptFirst}
use Rattle.swept_pixels.specs.Searches.{Agrees}
use Rattle.swept_tiles.specs.Looks.{ForLook, SameBy, OpenedBy}

-- What holds of every number of a list, by its places.
pub all_of : (P : ℕ → Type 0) (ks : List ℕ) → ((i : ℕ) → i < length ks → P (get_or ks i 0)) → AllOf P ks
unfolding AllOf
all_of P [] h = tt
all_of P (k ∷ ks) h = (h 0 (omega arith), all_of P ks (λ i l. h (suc i) (omega arith)))

pub all_at : (P : ℕ → Type 0) (ks : List ℕ) → AllOf P ks → (i : ℕ) → i < length ks → P (get_or ks i 0)
unfolding AllOf
all_at P [] a i l = absurd (omega arith)
all_at P (k ∷ ks) a zero l = a.0
all_at P (k ∷ ks) a (suc i) l = all_at P ks a.1 i (omega arith)

-- The hull of a list that has a position.
hulls_of : {b : Box} {os : List Offset} (ks : List ℕ) → 1 ≤ length ks → AllMove b os ks
    → Hulls b os (hull_from os (hull_of (position_at os (get_or ks 0 0))) (drop 1 ks)) ks
hulls_of [] l a = absurd (omega arith)
hulls_of {os = os} (k ∷ ks) l a = hull_from_lem os k ks a

-- A cell of the grid as a region that begins in it.
pub cell_part : {grid : Grid} {c : Cell} → CellOk 1 grid c → Part (grid_in grid false) (region_in c)
cell_part k =
    record {
      begins = record { x_in = omega (arith, k.xs); y_in = omega (arith, k.ys); z_in = omega (arith, k.zs) };
      long = omega (arith, k.xs);
    }

module _ {whole ws : List ℕ} {grid : Grid} {c : Cell} {zs : List ℤ} {ks kept work : List ℕ} {base : ℕ} {next : List ℕ}
    (p : ForLook whole ws grid c zs ks kept work base next) {b : Box} (e : CellBox false grid c b) where
  abbrev g : D.Grid
  g = grid_in grid false

  abbrev os : List Offset
  os = offsets_of zs

  abbrev r : D.Region
  r = region_in c

  sound : Grids.Sound g
  sound = Grids.accepted_sound g false (accepted grid false p.fault).kind p.fault

  all_in : AllOf (λ k. k < length os) ks
  all_in = all_of (λ k. k < length os) ks p.path.in_path.each

  pub look_keep : ForKeep ws b zs ks kept work
  look_keep =
      let j : ForJudge whole ws b work base next =
      record { level = p.level; box = e.ok; marks = p.marks; words = p.words } in
      record {
        runs = sound_runs p.level.sound;
        room = (to_run j).1.1;
        in_path = p.path.in_path.each;
        box = λ i l.
            record {
              moves = subst (λ (x : Box). Moves x (hull_of (position_at os (get_or ks i 0)))) (sym e.same)
                  (region_moves (p.path.stays.each (get_or ks i 0) (p.path.in_path.each i l)) r (cell_part p.cell).begins
                  (cell_part p.cell).long);
              zs = e.ok.zs;
            };
        list = p.list;
      }

  -- What is kept, over the region's own box.
  over_region : {ls : List ℕ} → KeptAs ws b os ks ls → (n : ℕ) → Fit n ws → Kept (tape_in n ws) os (D.box_of g r) ks ls
  over_region {ls} u n f = subst (λ (x : Box). Kept (tape_in n ws) os x ks ls) e.same (u.kept n f)

  handed : {ls : List ℕ} {f : ℕ → ℕ → ℕ} → KeptAs ws b os ks ls → (a : Agrees ws zs grid ks r f)
      → Keeps f os g r (tape_in a.slots ws) ls
  handed u a =
      kept_keeps sound p.path.stays (cell_part p.cell) (over_region u a.slots (fit_of a.accepted)) a.keeps

  pub look_none : KeptAs ws b os ks [] → SameBy ws grid r zs ks 0
  look_none u =
      record {
        constant = λ f a. record {
          same = λ i j w hi hj.
              region_empty (handed u a) i j w (record { x_in = hi; y_in = hj; z_in = omega arith });
        };
      }

  pub look_below : (k : ℕ) → CoversAll ws b os ks k → k < length os
  unfolding AllOf
  look_below k u =
      let s = p.level.sound in
      (kept_all (λ k. k < length os) (over_region u.kept s.slots (fit_of s.accepted)) all_in).0

  pub look_all : (k : ℕ) → CoversAll ws b os ks k → SameBy ws grid r zs ks (k + 1)
  look_all k u =
      record {
        constant = λ f a. record {
          same = λ i j w hi hj.
              region_full sound p.path.stays (cell_part p.cell) k [] (handed u.kept a)
              (subst
              (λ (x : Box). is_neg (range_over (tape_in a.slots ws) (moved_box x (position_at os k))).high ≡ true)
              e.same (u.high a.slots (fit_of a.accepted)))
              i j w (record { x_in = hi; y_in = hj; z_in = omega arith })
              ∙ sym (add-one k);
        };
      }

  module _ {kept' : List ℕ} {count : ℕ} (u : KeptFirst ws b os ks kept' count) where
    abbrev ls : List ℕ
    ls = take count kept'

    in_all_lem : AllOf (λ k. k < length os) ls
    in_all_lem =
        let s = p.level.sound in
        kept_all (λ k. k < length os) (over_region u.kept s.slots (fit_of s.accepted)) all_in

    pub look_path : InPath zs ls
    look_path = record { each = all_at (λ k. k < length os) ls in_all_lem }

    pub look_some : 1 ≤ length ls
    look_some = omega (arith, length-take-le count kept' u.within, u.some)

    abbrev hull : Hull
    hull = hull_from os (hull_of (position_at os (get_or ls 0 0))) (drop 1 ls)

    hulls : Hulls (D.box_of g r) os hull ls
    hulls = hulls_of ls look_some (all_move sound p.path.stays (cell_part p.cell) ls in_all_lem)

    pub look_hull : {h : Hull} → h ≡ hull → ForBox b h
    look_hull h =
        rw h
        (record {
          moves = subst (λ (x : Box). Moves x hull) (sym e.same) hulls.moves;
          zs = e.ok.zs;
        })

    pub look_open : {h : Hull} {over : Box} {work' next' : List ℕ} {start : ℕ} → h ≡ hull → over ≡ hull_box b h
        → CutOver whole ws over base work' next' start → OpenedBy whole ws grid r zs ks kept' next' count start
    look_open {h} {over} {work'} {next'} {start} i o cut =
        record {
          within = u.within;
          start_in = cut.start;
          level = record {
            sound = record {
              slots = p.level.sound.slots;
              accepted = short_again cut p.level.sound.slots p.level.sound.accepted;
            };
            kept = short_kept cut p.level;
          };
          in_path = look_path;
          agrees = λ f a.
              record {
                slots = a.slots;
                accepted = short_again cut a.slots a.accepted;
                keeps = subst (λ (t : Tape). Keeps f os g r t ls) (sym (short_tape_lem a.slots a.accepted))
                    (short_keeps sound p.path.stays (cell_part p.cell) hulls (handed u.kept a));
              };
        }
      where
        short_tape_lem : (n : ℕ) → Accepted (tape_in n ws)
            → tape_in n (drop start next') ≡ shortened (tape_in n ws) (hull_box (D.box_of g r) hull)
        short_tape_lem n a =
            cut.short n (fit_of a)
            ∙ ap (λ (x : Box). shortened (tape_in n ws) x)
            (o ∙ ap (λ (x : Hull). hull_box b x) i ∙ ap (λ (x : Box). hull_box x hull) e.same)

-- The words of an opened region, as the code lends them.
module _ {whole ws : List ℕ} {grid : Grid} {r : D.Region} {zs : List ℤ} {ks kept next : List ℕ} {count start : ℕ}
    (o : OpenedBy whole ws grid r zs ks kept next count start) where
  pub open_level : Level whole (take (length next - start) (drop start next))
  open_level = rw (lent_words start next) o.level

  pub open_agrees : (f : ℕ → ℕ → ℕ) → Agrees ws zs grid ks r f
      → Agrees (take (length next - start) (drop start next)) zs grid (take count kept) r f
  open_agrees f a = rw (lent_words start next) (o.agrees f a)
