-- The declared grid as the rules' grid. A flat drawing reads neither depth nor the third step.
use Rattle.std.specs.Prelude.{Bool}
use Rattle.rules.specs.Values.{pick}
use Rattle.rules.specs.Drawings as D
use Rattle.picture.specs.declared.grid.Grid.{Grid}

abbrev pub grid_in : Grid → Bool → D.Grid
grid_in g isSolid =
    record {
      width = g.width;
      height = g.height;
      depth = pick isSolid g.depth 0;
      origin_x = g.xorigin;
      origin_y = g.yorigin;
      origin_z = g.zorigin;
      step_x = g.xstep;
      step_y = g.ystep;
      step_z = g.zstep;
    }
