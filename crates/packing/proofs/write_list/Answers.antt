-- `write_list` meets its contract: the clauses from the i-th on.
use Prim.Native.Nat.{◌+◌, ◌*◌, ◌≤◌}
use native.Mathlib.Omega.{arith}
use lib.ListN.{length, get_or}
use Rattle.tape.specs.Clauses.{raw_of}
use Rattle.packing.specs.Packing.{numbers_of}
use Rattle.packing.proofs.Packing.{TapeSizes, tape_sizes, numbers_start, numbers_next, numbers_done}
use Rattle.packing.proofs.write_list.Goals.{In-loop-i}
use Rattle.packing.proofs.write_list.Goals as goal

pub loop-i-init : goal.loop-i-init
loop-i-init c = numbers_start c.args.count c.args.tape.now c.args.out.now c.requires

-- What a turn has: the clause's index is below the count, and the output has room for it.
here-sizes : (c : In-loop-i) → let a = c.args in TapeSizes a.count a.tape.now a.out.now
here-sizes c =
    tape_sizes c.args.count c.args.tape.now c.args.out.now c.requires

room : (c : In-loop-i) → 5 * c.loop-i.i + 5 ≤ length c.loop-i.out
room c =
    let z = (here-sizes c) in
    omega (arith, z.numbers, c.requires.size, c.loop-i.invariant.size, c.loop-i-test.true)

pub overflow_cast-i : goal.overflow_cast-i
overflow_cast-i c = omega (arith, (here-sizes c).clauses, c.loop-i-test.true)

pub overflow_mul-i : goal.overflow_mul-i
overflow_mul-i c = omega (arith, (here-sizes c).clauses, c.loop-i-test.true)

pub overflow_add-i : goal.overflow_add-i
overflow_add-i c = omega (arith, (here-sizes c).clauses, c.loop-i-test.true)

pub fields_in-f-requires : goal.fields_in-f-requires
fields_in-f-requires c = omega (arith, (here-sizes c).bytes, c.loop-i-test.true)

pub overflow_cast-i-in-loop-i : goal.overflow_cast-i-in-loop-i
overflow_cast-i-in-loop-i c =
    let here-sizes : let a = c.args in TapeSizes a.count a.tape.now a.out.now = tape_sizes c.args.count c.args.tape.now c.args.out.now c.requires in
    omega (arith, here-sizes.clauses, c.loop-i-test.true)

pub overflow_mul-i-in-loop-i : goal.overflow_mul-i-in-loop-i
overflow_mul-i-in-loop-i c =
    let here-sizes : let a = c.args in TapeSizes a.count a.tape.now a.out.now = tape_sizes c.args.count c.args.tape.now c.args.out.now c.requires in
    omega (arith, here-sizes.clauses, c.loop-i-test.true)

pub put_numbers-requires : goal.put_numbers-requires
put_numbers-requires c =
    let here-sizes : let a = c.args in TapeSizes a.count a.tape.now a.out.now = tape_sizes c.args.count c.args.tape.now c.args.out.now c.requires in
    let room : 5 * c.loop-i.i + 5 ≤ length c.loop-i.out = let z = here-sizes in omega (arith, z.numbers, c.requires.size, c.loop-i.invariant.size, c.loop-i-test.true) in
    room

pub loop-i-preserved : goal.loop-i-preserved
loop-i-preserved c =
    let here-sizes : let a = c.args in TapeSizes a.count a.tape.now a.out.now = tape_sizes c.args.count c.args.tape.now c.args.out.now c.requires in
    let room : 5 * c.loop-i.i + 5 ≤ length c.loop-i.out = let z = here-sizes in omega (arith, z.numbers, c.requires.size, c.loop-i.invariant.size, c.loop-i-test.true) in
    let a = c.args in
    let s = a.tape.now in
    numbers_next (numbers_of s) (get_or s 3 0) c.loop-i.i a.count s c.loop-i.out c.loop-i.invariant
    (raw_of c.fields_in-f.result) c.fields_in-f.ensures c.loop-i-test.true c.put_numbers.new.out
    c.put_numbers.ensures room

pub shape_of-out : goal.shape_of-out
shape_of-out c = omega (arith, c.loop-i.invariant.size, c.requires.size)

pub returns : goal.returns
returns c =
    let a = c.args in
    let s = a.tape.now in
    numbers_done (numbers_of s) (get_or s 3 0) c.loop-i.i a.count s c.loop-i.out c.loop-i.invariant
    c.loop-i-test.false
