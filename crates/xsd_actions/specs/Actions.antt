-- What an event does to the rows of the reader's state, told apart from how it is done: 000's handlers as a few actions.
--     Mode          what the handlers go by, beside the open head: row 0's context, nesting, root seen and extension flag (the code's struct)
--     mode_of        the mode of a reader; head_tag: the tag of the open type's head, 0 where no type is open
--     reader_rows        the rows behind row 1
--     Action        keep: no row changes; root: the namespace set anew; open_simple, open_complex: a type opened by the event of a number; add: a row more;
--                   content: the open type's content replaced by a tag, the texts behind the name and a; base: the open type's base set
--     raises        whether a start raises nesting; opens_type: whether the action opens a type
--     mode_after, namespace_after, rows_after    the mode, the namespace and the rows behind row 1 after an event and its action
--     Fitting       the open type's rows are such that the action can be done to them
--     Acted         the reader after an event is as the action says
use Rattle.std.specs.Prelude.{ℕ, suc, ◌-◌, ◌≤◌, ◌≡◌, List, [], ◌∷◌, ◌++◌, Bool, true, false, not, ◌&&◌, ◌||◌, eqb, leb, if◌then◌else◌}
use Rattle.text.specs.Text.{Text}
use Rattle.sheet.specs.Rows.{Row, row}
use Rattle.xsd_types.specs.Tags.{simple_type_tag, sequence_tag, choice_tag, simple_content_tag, any_tag, no_content_tag}
use Rattle.xsd_types.specs.Contexts.{none_context, schema_context, simple_type_context, complex_type_context}
use Rattle.xsd_types.specs.State.{ComplexContentBuilder, Context, Reader}
use Rattle.xsd_types.specs.Rows.{items_rows, context_rows, context_number, nesting, extension_flag}
use Rattle.xsd_parser.specs.Event.{Event}
use Rattle.xsd_actions.specs.declared.Mode.{Mode}

unfoldable pub mode_of : Reader → Mode
mode_of r =
    record {
      context = context_number r.context;
      nesting = nesting r.context;
      root_seen = r.root_seen;
      extension = eqb (extension_flag r.context) 1;
    }

unfoldable pub content_tag : ComplexContentBuilder → ℕ
content_tag ComplexContentBuilder.empty = no_content_tag
content_tag (ComplexContentBuilder.sequence es) = sequence_tag
content_tag (ComplexContentBuilder.choice vs) = choice_tag
content_tag (ComplexContentBuilder.simple_content base xs flag) = simple_content_tag
content_tag (ComplexContentBuilder.any n) = any_tag

unfoldable pub head_tag : Context → ℕ
head_tag Context.no_context = 0
head_tag (Context.in_schema n) = 0
head_tag (Context.in_simple_type t) = simple_type_tag
head_tag (Context.in_complex_type t) = content_tag t.content

unfoldable pub reader_rows : Reader → List Row
reader_rows r = items_rows r.schema.items ++ context_rows r.context

pub data Action : Type 0 where
  keep : Action
  root : Text → Action
  open_simple : ℕ → Text → Action
  open_complex : ℕ → Text → Action
  add : Row → Action
  content : ℕ → List Text → ℕ → Action
  base : Text → Action

-- "only a start enters context 1"; "start `simpleType` or `complexType` .. opens a type"
unfoldable pub context_after : Bool → Action → ℕ → ℕ
context_after start Action.keep context = context
context_after start (Action.root n) context = if start then schema_context else context
context_after start (Action.open_simple event n) context = simple_type_context
context_after start (Action.open_complex event n) context = complex_type_context
context_after start (Action.add r) context = context
context_after start (Action.content tag more a) context = context
context_after start (Action.base v) context = context

unfoldable pub root_after : Action → Bool → Bool
root_after Action.keep seen = seen
root_after (Action.root n) seen = true
root_after (Action.open_simple event n) seen = seen
root_after (Action.open_complex event n) seen = seen
root_after (Action.add r) seen = seen
root_after (Action.content tag more a) seen = seen
root_after (Action.base v) seen = seen

-- "replaces the content, flag 0"; "inside simple content sets base and flag"
unfoldable pub flag_after : Action → ℕ → Bool → Bool
flag_after Action.keep context flag = flag
flag_after (Action.root n) context flag = flag
flag_after (Action.open_simple event n) context flag = flag
flag_after (Action.open_complex event n) context flag = flag
flag_after (Action.add r) context flag = flag
flag_after (Action.content tag more a) context flag = false
flag_after (Action.base v) context flag = eqb context complex_type_context

unfoldable pub opens_type : Action → Bool
opens_type Action.keep = false
opens_type (Action.root n) = false
opens_type (Action.open_simple event n) = true
opens_type (Action.open_complex event n) = true
opens_type (Action.add r) = false
opens_type (Action.content tag more a) = false
opens_type (Action.base v) = false

-- "each start raises nesting", in the contexts 2 and 3; order 3: with choice 1 "nesting in context 1 counts the open tags below the schema", and
-- a direct child that opens a type leads to another context
unfoldable pub raises : Bool → Action → ℕ → Bool
raises by_standard a context = leb simple_type_context context || (eqb context schema_context && not (opens_type a) && by_standard)

unfoldable pub tag_mode : Bool → Bool → Action → Mode → Mode
tag_mode by_standard start a m =
    record {
      context = context_after start a m.context;
      nesting = if start && raises by_standard a m.context then suc m.nesting else m.nesting;
      root_seen = root_after a m.root_seen;
      extension = flag_after a m.context m.extension;
    }

-- "A close lowers nesting, or at 0 finishes the type, flag 0, and returns to context 1." Order 3: in context 1 "a close at 0 ends it"
unfoldable pub close_mode : Mode → Mode
close_mode m =
    if eqb m.nesting 0
    then if leb m.context schema_context
    then record { context = none_context; nesting = 0; root_seen = m.root_seen; extension = m.extension }
    else record { context = schema_context; nesting = 0; root_seen = m.root_seen; extension = false }
    else record { context = m.context; nesting = m.nesting - 1; root_seen = m.root_seen; extension = m.extension }

unfoldable pub mode_after : Bool → Event → Action → Mode → Mode
mode_after by_standard (Event.start t) a m = tag_mode by_standard true a m
mode_after by_standard (Event.empty t) a m = tag_mode by_standard false a m
mode_after by_standard Event.close a m = close_mode m

unfoldable pub namespace_after : Action → Text → Text
namespace_after Action.keep namespace = namespace
namespace_after (Action.root n) namespace = n
namespace_after (Action.open_simple event n) namespace = namespace
namespace_after (Action.open_complex event n) namespace = namespace
namespace_after (Action.add r) namespace = namespace
namespace_after (Action.content tag more a) namespace = namespace
namespace_after (Action.base v) namespace = namespace

unfoldable pub first_text : List Text → Text
first_text [] = []
first_text (t ∷ ts) = t

-- the open type's rows with another content: its head alone, the name and its event's number kept
unfoldable pub head_with : ℕ → List Text → ℕ → List Row → List Row
head_with tag more a [] = []
head_with tag more a (r ∷ kids) = row tag (first_text r.texts ∷ more) a 0 r.c ∷ []

-- the open type's rows with another base
unfoldable pub base_with : Text → List Row → List Row
base_with v [] = []
base_with v (r ∷ kids) = row r.tag (first_text r.texts ∷ v ∷ []) r.a r.b r.c ∷ kids

unfoldable pub open_simple_row : ℕ → Text → Row
open_simple_row event name = row simple_type_tag (name ∷ [] ∷ []) 0 0 event

unfoldable pub open_complex_row : ℕ → Text → Row
open_complex_row event name = row no_content_tag (name ∷ []) 0 0 event

-- the rows behind row 1, of which `last` are the open type's
unfoldable pub rows_after : Action → List Row → List Row → List Row
rows_after Action.keep done last = done ++ last
rows_after (Action.root n) done last = done ++ last
rows_after (Action.open_simple event n) done last = (done ++ last) ++ open_simple_row event n ∷ []
rows_after (Action.open_complex event n) done last = (done ++ last) ++ open_complex_row event n ∷ []
rows_after (Action.add r) done last = (done ++ last) ++ r ∷ []
rows_after (Action.content tag more a) done last = done ++ head_with tag more a last
rows_after (Action.base v) done last = done ++ base_with v last

-- the open type's rows begin with a head that has a name; with one that has a name and a base
pub record NamedHead (last : List Row) : Type 0 where
  pub tag : ℕ
  pub name : Text
  pub more : List Text
  pub a : ℕ
  pub b : ℕ
  pub c : ℕ
  pub kids : List Row
  pub is : last ≡ row tag (name ∷ more) a b c ∷ kids

pub record BasedHead (last : List Row) : Type 0 where
  pub tag : ℕ
  pub name : Text
  pub old : Text
  pub a : ℕ
  pub b : ℕ
  pub c : ℕ
  pub kids : List Row
  pub is : last ≡ row tag (name ∷ old ∷ []) a b c ∷ kids

unfoldable pub Fitting : Action → List Row → Type 0
Fitting Action.keep last = Unit
Fitting (Action.root n) last = Unit
Fitting (Action.open_simple event n) last = Unit
Fitting (Action.open_complex event n) last = Unit
Fitting (Action.add r) last = Unit
Fitting (Action.content tag more a) last = NamedHead last
Fitting (Action.base v) last = BasedHead last

pub record Acted (by_standard : Bool) (e : Event) (r : Reader) (a : Action) (r' : Reader) : Type 0 where
  pub mode : mode_of r' ≡ mode_after by_standard e a (mode_of r)
  pub namespace : r'.schema.target_namespace ≡ namespace_after a r.schema.target_namespace
  pub rows : reader_rows r' ≡ rows_after a (items_rows r.schema.items) (context_rows r.context)
  pub items : simple_type_context ≤ context_number r'.context → r'.schema.items ≡ r.schema.items
  pub fitting : Fitting a (context_rows r.context)
