-- A picture put part by part: what is put, and what is left to put from here, make the whole.
use mathlib.Core.Path.{◌≡◌, refl, sym, ap, ◌∙◌}
use mathlib.Core.List.{List, [], ◌∷◌, ◌++◌, append-nil, append_assoc}
use Prim.Native.Nat.{ℕ, suc, ◌+◌, ◌-◌, ◌*◌, ◌≤◌, ◌<◌}
use native.Mathlib.Numerals.{add-one}
use native.Mathlib.Nat.{mul-le-mul_right}
use native.Mathlib.Omega.{arith}
use lib.ListN.{length, set, take, length-set}
use lib.Seq.{take-suc-set, take_all}
use Rattle.rules.specs.Accepted.{Accepted}
use Rattle.code.specs.Words.{tape_in}
use Rattle.full_drawing.specs.Full.{Put}

-- A loop puts `end` parts of s numbers each, from `from` on; i of them are put, and the next stands at `at`. With n
-- slots `rest n i` is what is left.
pub record Along (ws : List ℕ) (rest : ℕ → ℕ → List ℕ) (s end from : ℕ) (p₀ p : List ℕ) (i at : ℕ) : Type 0 where
  pub size : length p ≡ length p₀
  pub within : i ≤ end
  pub place : at ≡ from + i * s
  pub same : (n : ℕ) → Accepted (tape_in n ws) → take at p ++ rest n i ≡ take from p₀ ++ rest n 0

module _ (ws : List ℕ) (rest : ℕ → ℕ → List ℕ) (s end from : ℕ) (p₀ : List ℕ) where
  pub start_along : (at : ℕ) → at ≡ from → Along ws rest s end from p₀ p₀ 0 at
  start_along at e =
      record {
        size = refl;
        within = omega arith;
        place = omega arith;
        same = λ n f. ap (λ x. take x p₀ ++ rest n 0) e;
      }

  module _ (p : List ℕ) (i at : ℕ) (a : Along ws rest s end from p₀ p i at) where
    -- The next part lies within the picture.
    pub part_fits : i < end → from + end * s ≤ length p₀ → at + s ≤ length p
    part_fits l k =
        let m : suc i ≤ end = omega arith in
        omega (arith, a.place, a.size, mul-le-mul_right s m)

    pub next_along : (part : ℕ → List ℕ)
        → ((n : ℕ) → Accepted (tape_in n ws) → rest n i ≡ part n ++ rest n (suc i)) → i < end
        → (p' : List ℕ) → length p' ≡ length p → Put ws part s at p p' → (at' : ℕ) → at' ≡ at + s
        → Along ws rest s end from p₀ p' (i + 1) at'
    next_along part first l p' k u at' e =
        record {
          size = k ∙ a.size;
          within = omega arith;
          place = omega (arith, a.place);
          same = λ n f.
              rw (add-one i)
              (ap (λ x. take x p' ++ rest n (suc i)) e ∙ ap (λ x. x ++ rest n (suc i)) (u.put n f)
              ∙ append_assoc (take at p) (part n) (rest n (suc i)) ∙ ap (λ x. take at p ++ x) (sym (first n f))
              ∙ a.same n f);
        }

    pub done_along : ((n : ℕ) → rest n end ≡ []) → end ≤ i → Put ws (λ n. rest n 0) (end * s) from p₀ p
    done_along none l =
        let e : i ≡ end = omega (arith, a.within) in
        let d : from + end * s ≡ at = ap (λ x. from + x * s) (sym e) ∙ sym a.place in
        record {
          put = λ n f.
              rw d (sym (append-nil (take at p)) ∙ ap (λ x. take at p ++ x) (sym (none n) ∙ ap (rest n) (sym e))
              ∙ a.same n f);
        }

-- Parts of one number, which make a row.
module _ (ws : List ℕ) (rest : ℕ → ℕ → List ℕ) (end from : ℕ) (p₀ p : List ℕ) (i : ℕ)
    (a : Along ws rest 1 end from p₀ p i (from + i)) where
  pub next_one : (v : ℕ) → ((n : ℕ) → Accepted (tape_in n ws) → rest n i ≡ v ∷ rest n (suc i)) → i < end
      → from + i < length p
      → Along ws rest 1 end from p₀ (set p (from + i) v) (i + 1) (from + (i + 1))
  next_one v first l m =
      next_along ws rest 1 end from p₀ p i (from + i) a (λ n. v ∷ []) first l (set p (from + i) v)
      (length-set p (from + i) v)
      (record { put = λ n f. rw (add-one (from + i)) (take-suc-set p (from + i) v m) }) (from + (i + 1)) (omega arith)

  pub row_put : (row : ℕ → List ℕ) → ((n : ℕ) → rest n 0 ≡ row n) → ((n : ℕ) → rest n end ≡ []) → end ≤ i
      → Put ws row end from p₀ p
  row_put row all none l =
      let e : from + end ≡ from + end * 1 = omega arith in
      record {
        put = λ n f.
            ap (λ x. take x p) e ∙ (done_along ws rest 1 end from p₀ p i (from + i) a none l).put n f
            ∙ ap (λ x. take from p₀ ++ x) (all n);
      }

-- The parts of a whole picture, which are its rows.
pub picture_put : (ws : List ℕ) (rest : ℕ → ℕ → List ℕ) (s end : ℕ) (p₀ p : List ℕ) (i at : ℕ)
    → Along ws rest s end 0 p₀ p i at → ((n : ℕ) → rest n end ≡ []) → end ≤ i → length p₀ ≡ end * s
    → (n : ℕ) → Accepted (tape_in n ws) → p ≡ rest n 0
picture_put ws rest s end p₀ p i at a none l k n f =
    sym (take_all (0 + end * s) p (omega (arith, a.size))) ∙ (done_along ws rest s end 0 p₀ p i at a none l).put n f

-- How much is left.
pub one_less : (m i : ℕ) → i < m → m - i ≡ suc (m - suc i)
one_less m i l = omega arith

pub none_left : (m : ℕ) → m - m ≡ 0
none_left m = omega arith

pub all_left : (m : ℕ) → m - 0 ≡ m
all_left m = omega arith
