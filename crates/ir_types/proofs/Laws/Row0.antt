-- Row 0 of a graph sheet: from ten numbers and back nothing is lost, either way round. Assumes nothing.
use mathlib.Core.Path.{◌≡◌, refl}
use Rattle.sheet.specs.Rows.{Ten}
use Rattle.ir_types.specs.Row0.{GraphRow0, graph_row0_from, graph_row0_ten}

pub ten-row0 : (t : Ten) → graph_row0_ten (graph_row0_from t) ≡ t
ten-row0 t = refl

pub row0-ten : (z : GraphRow0) → graph_row0_from (graph_row0_ten z) ≡ z
row0-ten z = refl
