-- Place by place.
use Rattle.std.proofs.Common.{◌≡◌, refl, sym, ap, subst, ◌∙◌, false, [], ◌∷◌, ◌*◌, arith, take}
use Rattle.std.proofs.Math.Nat.{mul-le-mul_right}
use Rattle.picture.specs.Shapes.{grid_in}
use Rattle.plate_rules.specs.Plate.{place_size, places_from, parts_in, union_of}
use Rattle.plate_rules.proofs.Places.{place_size_lem, places_length}
use Rattle.plate_drawing.specs.Afresh.{Joins, ForPlace}
use Rattle.plate_drawing.proofs.JoinedParts.{buffers_again, no_places, next_place, all_placed, place_there, place_in}
use Rattle.plate_drawing.proofs.join_places.Goals as goal

pub loop-i-init : goal.loop-i-init
loop-i-init c =
    let a = c.args in
    record {
      blank_again = c.requires.buffers.clean;
      joined = no_places {grid = a.grid} {marks = a.marks.now} (places_from a.count a.places.now) a.picture.now;
    }

pub slice_bounds-join_place-end : goal.slice_bounds-join_place-end
slice_bounds-join_place-end c =
    let i = c.loop-i.i in
    let p = c.requires.for_places in
    omega (arith, p.size, mul-le-mul_right place_size c.loop-i-test.true, ap (λ v. i * v) place_size_lem, place_size_lem)

pub join_place-requires : goal.join_place-requires
join_place-requires c =
    let a = c.args in
    let i = c.loop-i.i in
    let k = c.loop-i.auto in
    record {
      for_place = subst ForPlace (sym (place_there a.count a.places.now i c.loop-i-test.true))
          (place_in a.count a.places.now c.requires.for_places i c.loop-i-test.true);
      buffers = buffers_again c.requires.buffers refl c.loop-i.invariant.blank_again k.picture k.work k.words k.first k.second;
    }

pub loop-i-preserved : goal.loop-i-preserved
loop-i-preserved c =
    let l = c.loop-i in
    let a = c.args in
    record {
      blank_again = c.join_place.ensures.blank_after;
      joined = next_place {grid = a.grid} {marks = a.marks.now} (places_from a.count a.places.now) l.i
          (omega (arith, c.loop-i-test.true, places_length a.count a.places.now)) l.invariant.joined
          (subst (λ b. Joins a.grid a.marks.now (union_of (parts_in (b ∷ [])) (grid_in a.grid false)) l.picture
          c.join_place.new.picture)
          (place_there a.count a.places.now l.i c.loop-i-test.true) c.join_place.ensures.joins);
    }

pub returns : goal.returns
returns c =
    let a = c.args in
    let e : c.loop-i.i ≡ a.count = omega arith in
    let all = ap (λ j. take j (places_from a.count a.places.now)) e ∙ all_placed a.count a.places.now in
    record {
      joins = subst (λ ps. Joins a.grid a.marks.now (union_of (parts_in ps) (grid_in a.grid false)) a.picture.now
          c.loop-i.picture) all c.loop-i.invariant.joined;
      blank_after = c.loop-i.invariant.blank_again;
    }
