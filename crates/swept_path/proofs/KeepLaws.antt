-- The loop that keeps positions: of those before number m, count are kept, at the front of the list.
use mathlib.Core.Path.{◌≡◌, sym, ap, subst, ◌∙◌}
use mathlib.Core.Bool.{true, false}
use mathlib.Core.List.{List, [], ◌∷◌, ◌++◌}
use Prim.Native.Nat.{ℕ, suc, ◌+◌, ◌≤◌, ◌<◌}
use native.Mathlib.Omega.{arith}
use native.Mathlib.Numerals.{add-one}
use lib.ListN.{length, get_or, set, take, length-set}
use lib.Seq.{take-set-le, take-suc-set}
use Rattle.rules.specs.Values.{is_neg, Range, Box}
use Rattle.rules.specs.Tapes.{range_over}
use Rattle.code.specs.Words.{tape_in}
use Rattle.code.specs.Runs.{Fit}
use Rattle.swept_rules.specs.Swept.{Offset}
use Rattle.swept_rules.specs.Keeping.{moved_box, position_at}
use Rattle.swept_rules.proofs.Positions.{Kept}
use Rattle.swept_rules.proofs.Loops.{KeptSoFar, keeping_starts, keeping_drops, keeping_takes, keeping_stops, keeping_ends}
use Rattle.swept_path.specs.Keeps.{RangeAt, KeptAs, CoversAll, KeptFirst}

pub record KeepingAt (ws : List ℕ) (b : Box) (os : List Offset) (ks kept : List ℕ) (count m : ℕ) : Type 0 where
  pub so_far : (n : ℕ) → Fit n ws → KeptSoFar (tape_in n ws) os b ks (take count kept) m
  pub few : count ≤ m
  pub met : m ≤ length ks

module _ {ws : List ℕ} {b : Box} {os : List Offset} {ks : List ℕ} where
  pub keep_begins : (kept : List ℕ) → KeepingAt ws b os ks kept 0 0
  keep_begins kept = record { so_far = λ n f. keeping_starts; few = omega arith; met = omega arith }

  module _ {kept : List ℕ} (count m : ℕ) (a : KeepingAt ws b os ks kept count m) (l : m < length ks)
      (h : length ks ≤ length kept) where
    -- The number that is looked at is written behind those that are kept.
    abbrev next : List ℕ
    next = set kept count (get_or ks m 0)

    one_more : take (count + 1) next ≡ take count kept ++ (get_or ks m 0 ∷ [])
    one_more = rw add-one (take-suc-set kept count (get_or ks m 0) (omega (arith, a.few, l, h)))

    none_more : take count next ≡ take count kept
    none_more = take-set-le count kept count (get_or ks m 0) (omega arith)

    module _ {x : Range} (r : RangeAt ws b os (get_or ks m 0) x) where
      pub keep_drops : is_neg x.low ≡ false → KeepingAt ws b os ks next count (m + 1)
      keep_drops e =
          record {
            so_far = λ n f.
                rw add-one
                (subst (λ (d : List ℕ). KeptSoFar (tape_in n ws) os b ks d (suc m)) (sym none_more)
                (keeping_drops m l (ap (λ (y : Range). is_neg y.low) (sym (r.range n f)) ∙ e) (a.so_far n f)));
            few = omega (arith, a.few);
            met = omega (arith, l);
          }

      pub keep_takes : KeepingAt ws b os ks next (count + 1) (m + 1)
      keep_takes =
          record {
            so_far = λ n f. again n (keeping_takes m l (a.so_far n f));
            few = omega (arith, a.few);
            met = omega (arith, l);
          }
        where
          again : (n : ℕ) → KeptSoFar (tape_in n ws) os b ks (take count kept ++ (get_or ks m 0 ∷ [])) (suc m)
              → KeptSoFar (tape_in n ws) os b ks (take (count + 1) next) (m + 1)
          again n c =
              subst (λ (i : ℕ). KeptSoFar (tape_in n ws) os b ks (take (count + 1) next) i) (sym (add-one m))
              (subst (λ (d : List ℕ). KeptSoFar (tape_in n ws) os b ks d (suc m)) (sym one_more) c)

      high_of : is_neg x.high ≡ true → (n : ℕ) → Fit n ws
          → is_neg (range_over (tape_in n ws) (moved_box b (position_at os (get_or ks m 0)))).high ≡ true
      high_of e n f = ap (λ (y : Range). is_neg y.high) (sym (r.range n f)) ∙ e

      pub keep_stops : is_neg x.high ≡ true → KeptFirst ws b os ks next (count + 1)
      keep_stops e =
          record {
            kept = record {
              kept = λ n f.
                  subst (Kept (tape_in n ws) os b ks) (sym one_more) (keeping_stops m l (high_of e n f) (a.so_far n f));
            };
            some = omega arith;
            within = omega (arith, length-set kept count (get_or ks m 0), a.few, l, h);
          }

      pub keep_first : is_neg x.high ≡ true → count ≡ 0 → CoversAll ws b os ks (get_or ks m 0)
      keep_first e z =
          record {
            kept = record {
              kept = λ n f.
                  keeping_stops m l (high_of e n f)
                  (subst (λ (i : ℕ). KeptSoFar (tape_in n ws) os b ks (take i kept) m) z (a.so_far n f));
            };
            high = high_of e;
          }

  -- Behind the last.
  module _ {kept : List ℕ} (count m : ℕ) (a : KeepingAt ws b os ks kept count m) (l : length ks ≤ m) where
    all : KeptAs ws b os ks (take count kept)
    all = record { kept = λ n f. keeping_ends m l (a.so_far n f) }

    pub keep_none : count ≡ 0 → KeptAs ws b os ks []
    keep_none z = subst (λ (i : ℕ). KeptAs ws b os ks (take i kept)) z all

    pub keep_some : (count ≡ 0 → ⊥) → length ks ≤ length kept → KeptFirst ws b os ks kept count
    keep_some z h = record { kept = all; some = omega arith; within = omega (arith, a.few, a.met, h) }
