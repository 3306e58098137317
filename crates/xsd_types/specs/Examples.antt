-- Small sheets through the definitions, by computation. Below: Sheets writes sheets by hand, Clearing has the clearing call, Judging the
-- sentences of a good sheet one by one, GoodSheets the good sheets at the borders, BadRows, BadOrder and BadContext each sentence broken once,
-- Counting the count of order 7 and the conversion.
use Rattle.std.specs.Prelude.{◌≡◌, refl, true, false, [], ◌∷◌, replicate}
use Rattle.std.proofs.Math.Option.{some}
use Rattle.text.specs.Text.{bytes}
use Rattle.text.specs.Unfold.{computes as texts}
use Rattle.builtin.specs.Unfold.{computes as builtins}
use Rattle.sheet.specs.Unfold.{computes as sheets}
use Rattle.xsd_types.specs.Unfold.{computes as schemas}
use Rattle.sheet.specs.Rows.{Sheet}
use Rattle.xsd_types.specs.Types.{Facet, ComplexContent, Item, MaxOccurs}
use Rattle.xsd_types.specs.State.{State, Context, ComplexContentBuilder}
use Rattle.xsd_types.specs.Count.{sheet_of, good, state_of}
pub mod Sheets
mod Clearing
mod Judging
mod GoodSheets
mod BadRows
mod BadOrder
mod BadContext
mod Counting

sample_state : State
sample_state =
    record {
      reader =
          record {
            schema =
                record {
                  target_namespace = bytes "urn:x";
                  items =
                      Item.element (record { name = bytes "D"; type_name = bytes "T"; event = 1 })
                      ∷ Item.simple_type (record { name = bytes "S"; base = bytes "xs:string"; facets = Facet.min_length 5000000000 ∷ Facet.pattern (bytes "") ∷ []; event = 11 })
                      ∷ Item.complex_type (record { name = bytes "A"; content = ComplexContent.any (some (bytes "")); event = 0 })
                      ∷ [];
                };
            root_seen = true;
            context =
                Context.in_complex_type
                (record {
                  head = record { name = bytes "C"; event = 5 };
                  content = ComplexContentBuilder.sequence (record { name = bytes "e"; type_name = bytes "S"; min_occurs = 0; max_occurs = MaxOccurs.unbounded } ∷ []);
                  nesting_depth = 1;
                });
          };
      events = 12;
      open_tags = 3;
      by_standard = true;
    }

sample-good : good (sheet_of sample_state 130 60) ≡ true
unfolding sample_state texts builtins sheets schemas
sample-good = refl

sample-back : state_of (sheet_of sample_state 130 60) ≡ sample_state
unfolding sample_state texts builtins sheets schemas
sample-back = refl

huge_sheet : Sheet
huge_sheet = record { rows = 0 ∷ 4294967295 ∷ 4294967295 ∷ 3 ∷ 4294967295 ∷ 1 ∷ 0 ∷ 0 ∷ 0 ∷ 0 ∷ replicate 30 5; names = [] }

huge : good huge_sheet ≡ false
unfolding huge_sheet texts sheets schemas
huge = refl
