-- Row 0 of a graph sheet. Paper 01, "Graph sheet": "Row 0: 0, rows used, names used, root elements, types, then zeros."
--     GraphRow0     its ten numbers by name, in the sentence's order; `first` and `zero5` to `zero9` are its zeros, by their places
--     graph_row0_of   row 0 of its four counts, with the zeros
--     graph_row0_from row 0 made from ten numbers
--     graph_row0_ten  row 0 as ten numbers: the way back, with nothing lost
--     graph_row0_in   row 0 of a sheet
use Rattle.std.specs.Prelude.{ℕ}
use Rattle.sheet.specs.Rows.{Ten, Sheet}
use Rattle.sheet.specs.Form.{rows_used_in, names_used_in, row0_of}

pub record GraphRow0 : Type 0 where
  pub first : ℕ
  pub rows_used : ℕ
  pub names_used : ℕ
  pub root_elements : ℕ
  pub types : ℕ
  pub zero5 : ℕ
  pub zero6 : ℕ
  pub zero7 : ℕ
  pub zero8 : ℕ
  pub zero9 : ℕ

abbrev pub graph_row0_of : ℕ → ℕ → ℕ → ℕ → GraphRow0
graph_row0_of rows_used names_used root_elements types =
    record {
      first = 0;
      rows_used = rows_used;
      names_used = names_used;
      root_elements = root_elements;
      types = types;
      zero5 = 0;
      zero6 = 0;
      zero7 = 0;
      zero8 = 0;
      zero9 = 0;
    }

abbrev pub graph_row0_from : Ten → GraphRow0
graph_row0_from t =
    record {
      first = t.tag;
      rows_used = rows_used_in t;
      names_used = names_used_in t;
      root_elements = t.at1;
      types = t.len1;
      zero5 = t.at2;
      zero6 = t.len2;
      zero7 = t.a;
      zero8 = t.b;
      zero9 = t.c;
    }

abbrev pub graph_row0_ten : GraphRow0 → Ten
graph_row0_ten z =
    record {
      tag = z.first;
      at0 = z.rows_used;
      len0 = z.names_used;
      at1 = z.root_elements;
      len1 = z.types;
      at2 = z.zero5;
      len2 = z.zero6;
      a = z.zero7;
      b = z.zero8;
      c = z.zero9;
    }

abbrev pub graph_row0_in : Sheet → GraphRow0
graph_row0_in x = graph_row0_from (row0_of x)
