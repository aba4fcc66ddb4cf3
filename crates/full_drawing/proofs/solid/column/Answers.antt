-- The height of a column: that of the layers passed, and each turn passes one more.
use borrow.Author.Rules.{rules}
use mathlib.Core.Path.{◌≡◌, refl, sym, ap, ◌∙◌, subst}
use mathlib.Core.Bool.{true}
use native.Mathlib.Omega.{arith}
use Prim.Native.Nat.{ℕ, ◌<◌}
use mir.Syntax.{w32}
use Rattle.rules.specs.Values.{IsValue}
use Rattle.rules.specs.Drawings.{at, layers, sample_at}
use Rattle.rules.proofs.Words.{read, back}
use Rattle.code.specs.Runs.{SampleOk}
use Rattle.picture.specs.Shapes.{grid_in}
use Rattle.picture.proofs.Grids.{Accepted, accepted}
use Rattle.picture.proofs.GridWords.{InWords, at_read}
use Rattle.full_drawing.specs.Full.{sample_in, Says}
use Rattle.full_drawing.proofs.Columns.{start_climb, next_found, next_passed, climbed}
use Rattle.full_drawing.proofs.Columns.{solid_layers, solid_ok, solid_sample}
use Rattle.full_drawing.proofs.solid.column.Goals as goal
use Rattle.full_drawing.proofs.solid.column.Goals.{After-has_material, After-sample-z, In-loop-k, Start, then-has_material, else-has_material}

-- The grid is accepted.
grid-ok : (c : Start) → Accepted c.args.grid true
grid-ok c = accepted c.args.grid true c.requires.drawable.accepted

-- Every index below the depth has a sample that is a value.
told : (c : Start) → InWords c.args.grid
told c = search rules

value_there : (c : Start) (k : ℕ)
    → let g = c.args.grid in
    k < g.depth → IsValue (at (read w32 g.zorigin) (read w32 g.zstep) k)
value_there c k l =
    subst IsValue (sym (at_read _ _ _ (told c).zorigin (told c).zstep))
    ((grid-ok c).z_value refl k l)

pub loop-k-init : goal.loop-k-init
loop-k-init c = start_climb

pub sample-z-requires : goal.sample-z-requires
sample-z-requires c = value_there (goal.at.sample-z-requires c).Start _ (omega (arith, c.loop-k-test.true))

z_is : (c : After-sample-z)
    → let g = c.args.grid in
    read w32 c.sample-z.result ≡ at g.zorigin g.zstep c.loop-k.k
z_is c =
    let t = told (goal.at.After-sample-z c).Start in
    back w32 c.sample-z.result c.sample-z.type_inv (c.sample-z.ensures ∙ at_read _ _ _ t.zorigin t.zstep)

pub has_material-requires : goal.has_material-requires
has_material-requires c =
    let a = c.args in record {
      runnable = c.requires.drawable.runnable;
      sample_ok = subst (λ z. SampleOk (sample_in a.grid a.i a.j z)) (sym (z_is (goal.at.has_material-requires c).After-sample-z))
          (solid_ok a.grid (grid-ok (goal.at.has_material-requires c).Start) a.i a.j _ c.requires.i_lt_width.0 c.requires.i_lt_width.1 c.loop-k-test.true);
    }

-- What the call says of the layer's sample.
said : (c : After-has_material)
    → let a = c.args in
    Says a.code.now (sample_at (grid_in a.grid true) a.i a.j c.loop-k.k) c.has_material.result
said c =
    let a = c.args in
    subst (λ s. Says a.code.now s c.has_material.result)
    (ap (sample_in a.grid a.i a.j) (z_is (goal.at.After-has_material c).After-sample-z) ∙ solid_sample a.grid (grid-ok (goal.at.After-has_material c).Start) a.i a.j _)
    c.has_material.ensures

-- The layer is one of the grid's.
layer : (c : In-loop-k) → c.loop-k.k < layers (grid_in c.args.grid true)
layer c = omega (arith, c.loop-k-test.true, solid_layers _ (grid-ok (goal.at.In-loop-k c).Start))

pub overflow_cast-height : goal.overflow_cast-height
overflow_cast-height c =
    omega (arith, c.loop-k-test.true, ((grid-ok (goal.at.overflow_cast-height c).Start).sizes.depth refl).most)

pub loop-k-preserved : goal.loop-k-preserved
loop-k-preserved c =
    let l = layer (goal.at.loop-k-preserved c).In-loop-k in
    let s = said (goal.at.loop-k-preserved c).After-has_material in
    elim c.if-has_material.branch [
      | then-has_material w ↦ rw w.height-is (next_found c.loop-k.k l (rw w.if-has_material.true at s))
      | else-has_material w ↦
          rw w.height-is (next_passed c.loop-k.k c.loop-k.height l c.loop-k.invariant (rw w.if-has_material.false at s))
    ]

pub returns : goal.returns
returns c =
    climbed c.loop-k.k c.loop-k.height (omega (arith, c.loop-k-test.false, solid_layers _ (grid-ok (goal.at.returns c).Start)))
    c.loop-k.invariant
