-- The places before one and behind it.
use mathlib.Core.Path.{◌≡◌, refl, sym, ap, subst, ◌∙◌}
use mathlib.Core.Bool.{false}
use mathlib.Core.List.{List, [], ◌∷◌, ◌++◌}
use Prim.Native.Nat.{ℕ, suc, ◌+◌, ◌-◌, ◌*◌, ◌<◌, ◌≤◌}
use native.Mathlib.Nat.{mul-le-mul_right}
use native.Mathlib.Omega.{arith}
use lib.ListN.{length, take, drop, length-drop, take-append-drop}
use lib.Seq.{take_all, drop-drop, length-take-le}
use Rattle.picture.specs.Shapes.{grid_in}
use Rattle.picture.specs.declared.grid.Grid.{Grid}
use Rattle.plate_rules.specs.Plate.{places, place_size, places_from, places_of, place_fault, places_fault, parts_in, union_of}
use Rattle.plate_rules.proofs.JoinedBytes.{union_flat}
use Rattle.plate_rules.proofs.Parts.{by_first, first_faultless, union_append}
use Rattle.plate_rules.proofs.Places.{place_size_lem, places_append}
use Rattle.plate_drawing.specs.Afresh.{Joins, ForPlaces, others_of, ForOthers}
use Rattle.plate_drawing.proofs.JoinedParts.{joins_then}

-- Where no place is at fault, none of the first ones is, and none of the others.
parts_faultless : (us vs : List (List ℕ)) → (places_fault (us ++ vs)).number ≡ 0
    → ((places_fault us).number ≡ 0) × ((places_fault vs).number ≡ 0)
unfolding places_fault
parts_faultless [] vs e = (refl, e)
parts_faultless (b ∷ us) vs e =
    let k = by_first (place_fault b) (places_fault (us ++ vs)) e in
    let r = parts_faultless us vs k.1 in
    (first_faultless (place_fault b) (places_fault us) k.0 r.0, r.1)

behind_faultless : (b : List ℕ) (vs : List (List ℕ)) → (places_fault (b ∷ vs)).number ≡ 0 → (places_fault vs).number ≡ 0
unfolding places_fault
behind_faultless b vs e = (by_first (place_fault b) (places_fault vs) e).1

module _ (m : List ℕ) (p : ℕ) (f : ForOthers m p) where
  -- The parts as the code lends them.
  abbrev before : List ℕ
  before = take (p * 65536) m

  abbrev behind : List ℕ
  behind = take (length m - (p * 65536 + 65536)) (drop (p * 65536 + 65536) m)

  room : suc p * place_size ≤ length m
  room = omega (arith, f.size, mul-le-mul_right place_size f.place)

  pub lent_room : p * 65536 + 65536 ≤ length m
  lent_room = omega (arith, room, place_size_lem, ap (λ v. p * v) place_size_lem)

  before_is : before ≡ take (p * place_size) m
  before_is = ap (λ v. take (p * v) m) (sym place_size_lem)

  behind_is : behind ≡ drop (suc p * place_size) m
  behind_is =
      let i = p * 65536 + 65536 in
      let e : i ≡ suc p * place_size = omega (arith, place_size_lem, ap (λ v. p * v) place_size_lem) in
      let l : length (drop i m) ≤ length m - i = omega (arith, length-drop i m) in
      take_all (length m - i) (drop i m) l ∙ ap (λ j. drop j m) e

  apart : places_of m
      ≡ places_from p (take (p * place_size) m)
      ++ (take place_size (drop (p * place_size) m) ∷ places_from (7 - p) (drop (suc p * place_size) m))
  unfolding places_from
  apart =
      let u = take (p * place_size) m in
      let v = drop (p * place_size) m in
      let e : p * place_size + place_size ≡ suc p * place_size = omega arith in
      ap (places_from places) (sym (take-append-drop (p * place_size) m))
      ∙ places_append p (suc (7 - p)) places u v (omega (arith, f.place))
      (length-take-le (p * place_size) m (omega (arith, room)))
      ∙ ap (λ j. places_from p u ++ (take place_size v ∷ places_from (7 - p) j))
      (drop-drop place_size (p * place_size) m ∙ ap (λ i. drop i m) e)

  none : ((places_fault (places_from p (take (p * place_size) m))).number ≡ 0)
      × ((places_fault (places_from (7 - p) (drop (suc p * place_size) m))).number ≡ 0)
  none =
      let u = places_from p (take (p * place_size) m) in
      let b = take place_size (drop (p * place_size) m) in
      let v = places_from (7 - p) (drop (suc p * place_size) m) in
      let r = parts_faultless u (b ∷ v) (ap (λ ps. (places_fault ps).number) (sym apart) ∙ f.faultless) in
      (r.0, behind_faultless b v r.1)

  pub before_places : ForPlaces before p
  before_places =
      rw before_is
      (record {
        few = omega (arith, f.place);
        size = length-take-le (p * place_size) m (omega (arith, room));
        faultless = none.0;
      })

  pub behind_places : ForPlaces behind (7 - p)
  behind_places =
      rw behind_is
      (record {
        few = omega arith;
        size = behind_size;
        faultless = none.1;
      })
    where
      rest : (q : ℕ) → q < places → places * place_size - suc q * place_size ≡ (7 - q) * place_size
      rest q l =
          let e : 8 * 65536 - suc q * 65536 ≡ (7 - q) * 65536 = omega arith in
          ap (λ v. 8 * v - suc q * v) place_size_lem ∙ e ∙ ap (λ v. (7 - q) * v) (sym place_size_lem)

      behind_size : length (drop (suc p * place_size) m) ≡ (7 - p) * place_size
      behind_size = length-drop (suc p * place_size) m ∙ ap (λ n. n - suc p * place_size) f.size ∙ rest p f.place

  pub others_joined : {grid : Grid} {marks b c d : List ℕ}
      → Joins grid marks (union_of (parts_in (places_from p before)) (grid_in grid false)) b c
      → Joins grid marks (union_of (parts_in (places_from (7 - p) behind)) (grid_in grid false)) c d
      → Joins grid marks (union_of (parts_in (others_of p m)) (grid_in grid false)) b d
  others_joined {grid} {marks} {b} {c} {d} j k =
      let g = grid_in grid false in
      let us = places_from p (take (p * place_size) m) in
      let vs = places_from (7 - p) (drop (suc p * place_size) m) in
      joins_then (union_of (parts_in us) g) (union_of (parts_in vs) g) (union_of (parts_in (others_of p m)) g)
      (union_flat (parts_in us) g refl).most (λ i. union_append us vs g i)
      (subst (λ n. Joins grid marks (union_of (parts_in (places_from p n)) g) b c) before_is j)
      (subst (λ n. Joins grid marks (union_of (parts_in (places_from (7 - p) n)) g) c d) behind_is k)
