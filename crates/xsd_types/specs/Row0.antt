-- Row 0 of a schema sheet. Paper 01, "Schema sheet": "Row 0 instead: 0, rows used, names used, context (0 none, 1 schema, 2 simple type,
-- 3 complex type), nesting, root seen, events done, open tags, extension flag, 0." Order 3: "Clearing gets a choice, kept as the last number of
-- row 0".
--     Row0          its ten numbers by name, in the sentence's order; `first` is its zero
--     row0_from      row 0 made from ten numbers
--     row0_ten       row 0 as ten numbers: the way back, with nothing lost
--     row0_in        row 0 of a sheet
use Rattle.std.specs.Prelude.{ℕ}
use Rattle.sheet.specs.Rows.{Ten, Sheet}
use Rattle.sheet.specs.Form.{rows_used_in, names_used_in, row0_of}

pub record Row0 : Type 0 where
  pub first : ℕ
  pub rows_used : ℕ
  pub names_used : ℕ
  pub context : ℕ
  pub nesting : ℕ
  pub root_seen : ℕ
  pub events : ℕ
  pub open_tags : ℕ
  pub extension : ℕ
  pub choice : ℕ

abbrev pub row0_from : Ten → Row0
row0_from t =
    record {
      first = t.tag;
      rows_used = rows_used_in t;
      names_used = names_used_in t;
      context = t.at1;
      nesting = t.len1;
      root_seen = t.at2;
      events = t.len2;
      open_tags = t.a;
      extension = t.b;
      choice = t.c;
    }

abbrev pub row0_ten : Row0 → Ten
row0_ten z =
    record {
      tag = z.first;
      at0 = z.rows_used;
      len0 = z.names_used;
      at1 = z.context;
      len1 = z.nesting;
      at2 = z.root_seen;
      len2 = z.events;
      a = z.open_tags;
      b = z.extension;
      c = z.choice;
    }

abbrev pub row0_in : Sheet → Row0
row0_in x = row0_from (row0_of x)
