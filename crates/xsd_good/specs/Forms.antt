-- What the contracts of the row tests cite beyond xsd_types' Good.
--     a_form         a's part of `row_form`
--     schema_tests    the tests of a row, for the pass over the rows of a sheet
use Rattle.std.specs.Prelude.{ℕ, Bool, ◌&&◌, ◌||◌, eqb}
use Rattle.text.specs.Text.{is_text, between}
use Rattle.sheet.specs.Form.{is_flag}
use Rattle.xsd_types.specs.Tags.{min_length_tag, max_length_tag, total_digits_tag, fraction_digits_tag, any_tag, bound_element_tag, unbounded_element_tag, attribute_tag}
use Rattle.xsd_types.specs.Good.{used_pairs, ten_form, may_follow, head_after}
use Rattle.rows.specs.Scan.{Tests}

unfoldable pub a_form : ℕ → ℕ → Bool
a_form tag a =
    eqb a 0 || between min_length_tag max_length_tag tag || between total_digits_tag fraction_digits_tag tag || between bound_element_tag unbounded_element_tag tag
    || ((eqb tag any_tag || eqb tag attribute_tag) && is_flag a)

abbrev pub schema_tests : Tests
schema_tests = record { form = ten_form; pairs = used_pairs; follows = may_follow; head_after = head_after; text = is_text }
