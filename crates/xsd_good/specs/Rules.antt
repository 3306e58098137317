-- What is asked of a row by its tag, as the table of the code has it: the tests of xsd_types' Good, told by numbers (rows' Table).
--     most_a         the greatest a
--     free_b         b may be any number
--     rule_of        what is asked; rule_numbers: the same as the table's row
--     ruled_tags     the tags that the table has
use Rattle.std.specs.Prelude.{ℕ, Bool, List, [], ◌∷◌, not, ◌||◌, eqb, leb, if◌then◌else◌}
use Rattle.text.specs.Text.{between}
use Rattle.sheet.specs.Rows.{bit}
use Rattle.rows.specs.Table.{set_below}
use Rattle.xsd_types.specs.Tags.{min_length_tag, max_length_tag, total_digits_tag, fraction_digits_tag, any_tag, bound_element_tag, unbounded_element_tag, attribute_tag}
use Rattle.xsd_types.specs.Good.{used_pairs, is_head, may_follow}
use Rattle.xsd_good.specs.declared.forms.rules.Rule.{Rule}

unfoldable pub most_a : ℕ → ℕ
most_a tag =
    if between min_length_tag max_length_tag tag || between total_digits_tag fraction_digits_tag tag || between bound_element_tag unbounded_element_tag tag then 4294967295 else
    if eqb tag any_tag || eqb tag attribute_tag then 1 else 0

unfoldable pub free_b : ℕ → Bool
free_b tag = between min_length_tag max_length_tag tag || eqb tag bound_element_tag

unfoldable pub rule_of : ℕ → Rule
rule_of tag =
    record {
      most_a = most_a tag;
      no_b = bit (not (free_b tag));
      no_c = bit (not (is_head tag));
      first = bit (leb 1 (used_pairs tag 0));
      second = bit (leb 2 (used_pairs tag 0));
      heads = set_below (λ (head : ℕ). may_follow head tag) 32;
    }

unfoldable pub rule_numbers : ℕ → List ℕ
rule_numbers tag = let r = rule_of tag in r.most_a ∷ r.no_b ∷ r.no_c ∷ r.first ∷ r.second ∷ r.heads ∷ []

unfoldable pub ruled_tags : List ℕ
ruled_tags = 0 ∷ 1 ∷ 2 ∷ 3 ∷ 4 ∷ 5 ∷ 6 ∷ 7 ∷ 8 ∷ 9 ∷ 10 ∷ 11 ∷ 12 ∷ 13 ∷ 14 ∷ 15 ∷ 16 ∷ 17 ∷ 18 ∷ 19 ∷ 20 ∷ []
