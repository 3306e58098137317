-- A row as ten numbers.
--     as_ten         the code's row as the definitions' row
--     pair_of        one of its three pairs, from 0 on
use Rattle.std.specs.Prelude.{ℕ, zero, suc}
use Rattle.sheet.specs.Rows.{Ten}
use Rattle.rows.specs.declared.numbers.Pair.{Pair}
use Rattle.rows.specs.declared.ten.Ten.{Ten as Numbers}

abbrev pub as_ten : Numbers → Ten
as_ten t =
    record {
      tag = t.tag;
      at0 = t.at0;
      len0 = t.len0;
      at1 = t.at1;
      len1 = t.len1;
      at2 = t.at2;
      len2 = t.len2;
      a = t.a;
      b = t.b;
      c = t.c;
    }

abbrev pub pair_of : Numbers → ℕ → Pair
pair_of t zero = record { at = t.at0; len = t.len0 }
pair_of t (suc zero) = record { at = t.at1; len = t.len1 }
pair_of t (suc (suc n)) = record { at = t.at2; len = t.len2 }
