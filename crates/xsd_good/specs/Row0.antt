-- Row 0 as the code has it.
--     as_row0        the code's row 0 as the definitions' row 0
use Rattle.xsd_types.specs.Row0.{Row0}
use Rattle.xsd_good.specs.declared.row0.Row0.{Row0 as Numbers}

abbrev pub as_row0 : Numbers → Row0
as_row0 z =
    record {
      first = z.first;
      rows_used = z.rows_used;
      names_used = z.names_used;
      context = z.context;
      nesting = z.nesting;
      root_seen = z.root_seen;
      events = z.events;
      open_tags = z.open_tags;
      extension = z.extension;
      choice = z.choice;
    }
