-- 15, 16, then the flat or the solid drawing: the first check that holds is returned.
use mathlib.Core.Path.{◌≡◌, sym, ap, ◌∙◌}
use mathlib.Core.Bool.{true, false, not}
use Rattle.program_rules.specs.Program.{record_ok, too_large}
use Rattle.picture.specs.Shapes.{grid_in}
use Rattle.netpbm.proofs.FileLaws.{told_false, told_true}
use Rattle.program.proofs.Inputs.{long_enough, no_record, solid_too_large, solid_sizes, flat_input_lem, solid_input}
use Rattle.program.proofs.layer.layer_file.Goals as goal

pub returns-then-not-record_ok : goal.returns-then-not-record_ok
returns-then-not-record_ok c =
    rw c.into.ensures (no_record _ _ (told_false c.record_ok.ensures (ap not c.if-not-record_ok.true)))

pub read_grid-grid-requires : goal.read_grid-grid-requires
read_grid-grid-requires c =
    let ok : record_ok c.args.input.now ≡ true = told_true c.record_ok.ensures (ap not c.if-not-record_ok.false) in
    long_enough _ ok

pub returns-then-too_large : goal.returns-then-too_large
returns-then-too_large c =
    let ok : record_ok c.args.input.now ≡ true = told_true c.record_ok.ensures (ap not c.if-not-record_ok.false) in
    rw c.into-then-too_large.ensures
    (solid_too_large _ _ ok
    (sym (ap too_large c.read_grid-grid.ensures) ∙ sym c.too_large.ensures ∙ c.if-too_large.true))

pub slice_bounds-tape-count : goal.slice_bounds-tape-count
slice_bounds-tape-count c =
    let ok : record_ok c.args.input.now ≡ true = told_true c.record_ok.ensures (ap not c.if-not-record_ok.false) in
    long_enough _ ok

pub slice_bounds-tape-start : goal.slice_bounds-tape-start
slice_bounds-tape-start c =
    let ok : record_ok c.args.input.now ≡ true = told_true c.record_ok.ensures (ap not c.if-not-record_ok.false) in
    long_enough _ ok

pub returns-then-grid-lt1 : goal.returns-then-grid-lt1
returns-then-grid-lt1 c =
    let ok : record_ok c.args.input.now ≡ true = told_true c.record_ok.ensures (ap not c.if-not-record_ok.false) in
    let drawable : too_large (grid_in c.read_grid-grid.result true) ≡ false = sym c.too_large.ensures ∙ c.if-too_large.false in
    flat_input_lem _ _ _ c.read_grid-grid.result _ c.read_grid-grid.ensures ok drawable c.if-grid-lt1.true
    c.flat_file.ensures

pub solid_file-requires : goal.solid_file-requires
solid_file-requires c =
    let drawable : too_large (grid_in c.read_grid-grid.result true) ≡ false = sym c.too_large.ensures ∙ c.if-too_large.false in
    let z = solid_sizes c.read_grid-grid.result drawable c.if-grid-lt1.false in
    record { width_le_solid_limit = z.0; height_le_solid_limit = z.1; out_len = c.requires }

pub returns : goal.returns
returns c =
    let ok : record_ok c.args.input.now ≡ true = told_true c.record_ok.ensures (ap not c.if-not-record_ok.false) in
    let drawable : too_large (grid_in c.read_grid-grid.result true) ≡ false = sym c.too_large.ensures ∙ c.if-too_large.false in
    solid_input _ _ _ c.read_grid-grid.result _ c.read_grid-grid.ensures ok drawable c.if-grid-lt1.false
    c.solid_file.ensures
