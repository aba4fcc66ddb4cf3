-- The declared rectangle as the rules' one.
use Rattle.table_rules.specs.Tables as T
use Rattle.rectangle.specs.declared.Rectangle.{Rectangle}

abbrev pub rectangle_in : Rectangle → T.Rectangle
rectangle_in q = record { column = q.column; row = q.row; columns = q.columns; rows = q.rows }
