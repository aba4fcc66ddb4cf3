-- A sample's number of each axis is the grid's, and the run there is the whole tape's.
use borrow.Author.Rules.{rules}
use mathlib.Core.Path.{◌≡◌, ◌∙◌, sym, subst}
use mir.Syntax.{w32}
use mir.Facts.{to_z-of_z}
use Rattle.rules.specs.Values.{Sample}
use Rattle.rules.specs.Drawings.{at}
use Rattle.rules.proofs.Words.{read, back}
use Rattle.code.specs.Words.{tape_in}
use Rattle.code.specs.Runs.{SampleOk}
use Rattle.code.proofs.RunLaws.{fresh_slots}
use Rattle.picture.proofs.GridWords.{InWords, at_read}
use Rattle.full_drawing.specs.Full.{sample_in}
use Rattle.full_drawing.proofs.Materials.{same_sample, says}
use Rattle.full_drawing.proofs.material.has_material.Goals as goal
use Rattle.full_drawing.proofs.material.has_material.Goals.{After-sample-x, After-sample-y, Start}

-- The grid's numbers lie in their words.
told : (c : Start) → InWords c.args.grid
told c = search rules

x-is : (c : After-sample-x)
    → let a = c.args in
    read w32 c.sample-x.result ≡ at a.grid.xorigin a.grid.xstep a.i
x-is c =
    let t = told (goal.at.After-sample-x c).Start in
    back w32 c.sample-x.result c.sample-x.type_inv (c.sample-x.ensures ∙ at_read _ _ _ t.xorigin t.xstep)

y-is : (c : After-sample-y)
    → let a = c.args in
    read w32 c.sample-y.result ≡ at a.grid.yorigin a.grid.ystep a.j
y-is c =
    let t = told (goal.at.After-sample-y c).Start in
    back w32 c.sample-y.result c.sample-y.type_inv (c.sample-y.ensures ∙ at_read _ _ _ t.yorigin t.ystep)

abbrev ran : (c : After-sample-y) → Sample
ran c =
    record {
      x = read w32 c.sample-x.result;
      y = read w32 c.sample-y.result;
      z = read w32 c.args.z;
    }

sample_is : (c : After-sample-y)
    → let a = c.args in
    ran c ≡ sample_in a.grid a.i a.j a.z
sample_is c =
    same_sample (x-is (goal.at.After-sample-y c).After-sample-x) (y-is c) (to_z-of_z c.ranges.z)

pub run_values-requires : goal.run_values-requires
run_values-requires c = record {
  runnable = c.requires.runnable;
  sample_ok = subst SampleOk (sym (sample_is (goal.at.run_values-requires c).After-sample-y)) c.requires.sample_ok;
  lent = fresh_slots;
}

pub returns : goal.returns
returns c =
    let a = c.args in
    record {
      material = λ n f.
          says (tape_in n a.code.now)
          (to_z-of_z {w = w32} {z = c.run_values.result} (record { sfits = c.run_values.type_inv }))
          (c.run_values.ensures.evaluated.value n f) (sample_is (goal.at.returns c).After-sample-y);
    }
