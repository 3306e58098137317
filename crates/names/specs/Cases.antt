-- The case of a character. Order 12: "Case comes from a table of 256 code points taken from the published Unicode data, with what Rust does in the longer cases: ß goes
-- up to `SS`, ŉ to U+02BC and `N`, İ goes down to `i` and U+0307, of which the snake form keeps only `i`."
--     Case          an upper letter with its lower form, a lower one with its upper form, or none; a form is its bytes in UTF-8
--     case_table    the code points from U+0080 to U+017F, four in a line; tools/cases.py writes it from the published data
--     case_of       the entry of a character of two bytes: 64 for each lead byte from C2 on; behind the table it has none
--     raised, lowered    the upper form of a lower letter, the lower form of an upper one; any other character is its own form
--     upper_of, lower_of    the upper and the lower form of a character
--     first_lower    the first code point of the lower form
--     in_table      the text is one character from U+0080 to U+017F
--     is_upper_char, is_lower_char    its class, as Rust's is_uppercase and is_lowercase; where there is no character, neither
use Rattle.std.specs.Prelude.{ℕ, ◌+◌, ◌*◌, ◌-◌, List, [], ◌∷◌, Bool, true, false, get_or}
use Rattle.text.specs.Text.{Text, is_pair, is_upper, is_lower, upper_byte, lower_byte}
use Rattle.text.specs.Characters.{characters}

pub data Case : Type 0 where
  Upper Lower : Text → Case
  Neither : Case

unfoldable pub case_table : List Case
case_table =
    Neither ∷ Neither ∷ Neither ∷ Neither ∷
    Neither ∷ Neither ∷ Neither ∷ Neither ∷
    Neither ∷ Neither ∷ Neither ∷ Neither ∷
    Neither ∷ Neither ∷ Neither ∷ Neither ∷
    Neither ∷ Neither ∷ Neither ∷ Neither ∷
    Neither ∷ Neither ∷ Neither ∷ Neither ∷
    Neither ∷ Neither ∷ Neither ∷ Neither ∷
    Neither ∷ Neither ∷ Neither ∷ Neither ∷
    Neither ∷ Neither ∷ Neither ∷ Neither ∷
    Neither ∷ Neither ∷ Neither ∷ Neither ∷
    Neither ∷ Neither ∷ Lower (194 ∷ 170 ∷ []) ∷ Neither ∷
    Neither ∷ Neither ∷ Neither ∷ Neither ∷
    Neither ∷ Neither ∷ Neither ∷ Neither ∷
    Neither ∷ Lower (206 ∷ 156 ∷ []) ∷ Neither ∷ Neither ∷
    Neither ∷ Neither ∷ Lower (194 ∷ 186 ∷ []) ∷ Neither ∷
    Neither ∷ Neither ∷ Neither ∷ Neither ∷
    Upper (195 ∷ 160 ∷ []) ∷ Upper (195 ∷ 161 ∷ []) ∷ Upper (195 ∷ 162 ∷ []) ∷ Upper (195 ∷ 163 ∷ []) ∷
    Upper (195 ∷ 164 ∷ []) ∷ Upper (195 ∷ 165 ∷ []) ∷ Upper (195 ∷ 166 ∷ []) ∷ Upper (195 ∷ 167 ∷ []) ∷
    Upper (195 ∷ 168 ∷ []) ∷ Upper (195 ∷ 169 ∷ []) ∷ Upper (195 ∷ 170 ∷ []) ∷ Upper (195 ∷ 171 ∷ []) ∷
    Upper (195 ∷ 172 ∷ []) ∷ Upper (195 ∷ 173 ∷ []) ∷ Upper (195 ∷ 174 ∷ []) ∷ Upper (195 ∷ 175 ∷ []) ∷
    Upper (195 ∷ 176 ∷ []) ∷ Upper (195 ∷ 177 ∷ []) ∷ Upper (195 ∷ 178 ∷ []) ∷ Upper (195 ∷ 179 ∷ []) ∷
    Upper (195 ∷ 180 ∷ []) ∷ Upper (195 ∷ 181 ∷ []) ∷ Upper (195 ∷ 182 ∷ []) ∷ Neither ∷
    Upper (195 ∷ 184 ∷ []) ∷ Upper (195 ∷ 185 ∷ []) ∷ Upper (195 ∷ 186 ∷ []) ∷ Upper (195 ∷ 187 ∷ []) ∷
    Upper (195 ∷ 188 ∷ []) ∷ Upper (195 ∷ 189 ∷ []) ∷ Upper (195 ∷ 190 ∷ []) ∷ Lower (83 ∷ 83 ∷ []) ∷
    Lower (195 ∷ 128 ∷ []) ∷ Lower (195 ∷ 129 ∷ []) ∷ Lower (195 ∷ 130 ∷ []) ∷ Lower (195 ∷ 131 ∷ []) ∷
    Lower (195 ∷ 132 ∷ []) ∷ Lower (195 ∷ 133 ∷ []) ∷ Lower (195 ∷ 134 ∷ []) ∷ Lower (195 ∷ 135 ∷ []) ∷
    Lower (195 ∷ 136 ∷ []) ∷ Lower (195 ∷ 137 ∷ []) ∷ Lower (195 ∷ 138 ∷ []) ∷ Lower (195 ∷ 139 ∷ []) ∷
    Lower (195 ∷ 140 ∷ []) ∷ Lower (195 ∷ 141 ∷ []) ∷ Lower (195 ∷ 142 ∷ []) ∷ Lower (195 ∷ 143 ∷ []) ∷
    Lower (195 ∷ 144 ∷ []) ∷ Lower (195 ∷ 145 ∷ []) ∷ Lower (195 ∷ 146 ∷ []) ∷ Lower (195 ∷ 147 ∷ []) ∷
    Lower (195 ∷ 148 ∷ []) ∷ Lower (195 ∷ 149 ∷ []) ∷ Lower (195 ∷ 150 ∷ []) ∷ Neither ∷
    Lower (195 ∷ 152 ∷ []) ∷ Lower (195 ∷ 153 ∷ []) ∷ Lower (195 ∷ 154 ∷ []) ∷ Lower (195 ∷ 155 ∷ []) ∷
    Lower (195 ∷ 156 ∷ []) ∷ Lower (195 ∷ 157 ∷ []) ∷ Lower (195 ∷ 158 ∷ []) ∷ Lower (197 ∷ 184 ∷ []) ∷
    Upper (196 ∷ 129 ∷ []) ∷ Lower (196 ∷ 128 ∷ []) ∷ Upper (196 ∷ 131 ∷ []) ∷ Lower (196 ∷ 130 ∷ []) ∷
    Upper (196 ∷ 133 ∷ []) ∷ Lower (196 ∷ 132 ∷ []) ∷ Upper (196 ∷ 135 ∷ []) ∷ Lower (196 ∷ 134 ∷ []) ∷
    Upper (196 ∷ 137 ∷ []) ∷ Lower (196 ∷ 136 ∷ []) ∷ Upper (196 ∷ 139 ∷ []) ∷ Lower (196 ∷ 138 ∷ []) ∷
    Upper (196 ∷ 141 ∷ []) ∷ Lower (196 ∷ 140 ∷ []) ∷ Upper (196 ∷ 143 ∷ []) ∷ Lower (196 ∷ 142 ∷ []) ∷
    Upper (196 ∷ 145 ∷ []) ∷ Lower (196 ∷ 144 ∷ []) ∷ Upper (196 ∷ 147 ∷ []) ∷ Lower (196 ∷ 146 ∷ []) ∷
    Upper (196 ∷ 149 ∷ []) ∷ Lower (196 ∷ 148 ∷ []) ∷ Upper (196 ∷ 151 ∷ []) ∷ Lower (196 ∷ 150 ∷ []) ∷
    Upper (196 ∷ 153 ∷ []) ∷ Lower (196 ∷ 152 ∷ []) ∷ Upper (196 ∷ 155 ∷ []) ∷ Lower (196 ∷ 154 ∷ []) ∷
    Upper (196 ∷ 157 ∷ []) ∷ Lower (196 ∷ 156 ∷ []) ∷ Upper (196 ∷ 159 ∷ []) ∷ Lower (196 ∷ 158 ∷ []) ∷
    Upper (196 ∷ 161 ∷ []) ∷ Lower (196 ∷ 160 ∷ []) ∷ Upper (196 ∷ 163 ∷ []) ∷ Lower (196 ∷ 162 ∷ []) ∷
    Upper (196 ∷ 165 ∷ []) ∷ Lower (196 ∷ 164 ∷ []) ∷ Upper (196 ∷ 167 ∷ []) ∷ Lower (196 ∷ 166 ∷ []) ∷
    Upper (196 ∷ 169 ∷ []) ∷ Lower (196 ∷ 168 ∷ []) ∷ Upper (196 ∷ 171 ∷ []) ∷ Lower (196 ∷ 170 ∷ []) ∷
    Upper (196 ∷ 173 ∷ []) ∷ Lower (196 ∷ 172 ∷ []) ∷ Upper (196 ∷ 175 ∷ []) ∷ Lower (196 ∷ 174 ∷ []) ∷
    Upper (105 ∷ 204 ∷ 135 ∷ []) ∷ Lower (73 ∷ []) ∷ Upper (196 ∷ 179 ∷ []) ∷ Lower (196 ∷ 178 ∷ []) ∷
    Upper (196 ∷ 181 ∷ []) ∷ Lower (196 ∷ 180 ∷ []) ∷ Upper (196 ∷ 183 ∷ []) ∷ Lower (196 ∷ 182 ∷ []) ∷
    Lower (196 ∷ 184 ∷ []) ∷ Upper (196 ∷ 186 ∷ []) ∷ Lower (196 ∷ 185 ∷ []) ∷ Upper (196 ∷ 188 ∷ []) ∷
    Lower (196 ∷ 187 ∷ []) ∷ Upper (196 ∷ 190 ∷ []) ∷ Lower (196 ∷ 189 ∷ []) ∷ Upper (197 ∷ 128 ∷ []) ∷
    Lower (196 ∷ 191 ∷ []) ∷ Upper (197 ∷ 130 ∷ []) ∷ Lower (197 ∷ 129 ∷ []) ∷ Upper (197 ∷ 132 ∷ []) ∷
    Lower (197 ∷ 131 ∷ []) ∷ Upper (197 ∷ 134 ∷ []) ∷ Lower (197 ∷ 133 ∷ []) ∷ Upper (197 ∷ 136 ∷ []) ∷
    Lower (197 ∷ 135 ∷ []) ∷ Lower (202 ∷ 188 ∷ 78 ∷ []) ∷ Upper (197 ∷ 139 ∷ []) ∷ Lower (197 ∷ 138 ∷ []) ∷
    Upper (197 ∷ 141 ∷ []) ∷ Lower (197 ∷ 140 ∷ []) ∷ Upper (197 ∷ 143 ∷ []) ∷ Lower (197 ∷ 142 ∷ []) ∷
    Upper (197 ∷ 145 ∷ []) ∷ Lower (197 ∷ 144 ∷ []) ∷ Upper (197 ∷ 147 ∷ []) ∷ Lower (197 ∷ 146 ∷ []) ∷
    Upper (197 ∷ 149 ∷ []) ∷ Lower (197 ∷ 148 ∷ []) ∷ Upper (197 ∷ 151 ∷ []) ∷ Lower (197 ∷ 150 ∷ []) ∷
    Upper (197 ∷ 153 ∷ []) ∷ Lower (197 ∷ 152 ∷ []) ∷ Upper (197 ∷ 155 ∷ []) ∷ Lower (197 ∷ 154 ∷ []) ∷
    Upper (197 ∷ 157 ∷ []) ∷ Lower (197 ∷ 156 ∷ []) ∷ Upper (197 ∷ 159 ∷ []) ∷ Lower (197 ∷ 158 ∷ []) ∷
    Upper (197 ∷ 161 ∷ []) ∷ Lower (197 ∷ 160 ∷ []) ∷ Upper (197 ∷ 163 ∷ []) ∷ Lower (197 ∷ 162 ∷ []) ∷
    Upper (197 ∷ 165 ∷ []) ∷ Lower (197 ∷ 164 ∷ []) ∷ Upper (197 ∷ 167 ∷ []) ∷ Lower (197 ∷ 166 ∷ []) ∷
    Upper (197 ∷ 169 ∷ []) ∷ Lower (197 ∷ 168 ∷ []) ∷ Upper (197 ∷ 171 ∷ []) ∷ Lower (197 ∷ 170 ∷ []) ∷
    Upper (197 ∷ 173 ∷ []) ∷ Lower (197 ∷ 172 ∷ []) ∷ Upper (197 ∷ 175 ∷ []) ∷ Lower (197 ∷ 174 ∷ []) ∷
    Upper (197 ∷ 177 ∷ []) ∷ Lower (197 ∷ 176 ∷ []) ∷ Upper (197 ∷ 179 ∷ []) ∷ Lower (197 ∷ 178 ∷ []) ∷
    Upper (197 ∷ 181 ∷ []) ∷ Lower (197 ∷ 180 ∷ []) ∷ Upper (197 ∷ 183 ∷ []) ∷ Lower (197 ∷ 182 ∷ []) ∷
    Upper (195 ∷ 191 ∷ []) ∷ Upper (197 ∷ 186 ∷ []) ∷ Lower (197 ∷ 185 ∷ []) ∷ Upper (197 ∷ 188 ∷ []) ∷
    Lower (197 ∷ 187 ∷ []) ∷ Upper (197 ∷ 190 ∷ []) ∷ Lower (197 ∷ 189 ∷ []) ∷ Lower (83 ∷ []) ∷ []

unfoldable pub case_of : ℕ → ℕ → Case
case_of lead tail = get_or case_table (64 * (lead - 194) + (tail - 128)) Neither

unfoldable pub raised : Case → Text → Text
raised (Upper form) c = c
raised (Lower form) c = form
raised Neither c = c

unfoldable pub lowered : Case → Text → Text
lowered (Upper form) c = form
lowered (Lower form) c = c
lowered Neither c = c

abbrev pub is_upper_letter : Case → Bool
is_upper_letter (Upper form) = true
is_upper_letter (Lower form) = false
is_upper_letter Neither = false

abbrev pub is_lower_letter : Case → Bool
is_lower_letter (Upper form) = false
is_lower_letter (Lower form) = true
is_lower_letter Neither = false

unfoldable pub upper_of : Text → Text
upper_of [] = []
upper_of (b ∷ []) = upper_byte b ∷ []
upper_of (b ∷ t ∷ s) = raised (case_of b t) (b ∷ t ∷ s)

unfoldable pub lower_of : Text → Text
lower_of [] = []
lower_of (b ∷ []) = lower_byte b ∷ []
lower_of (b ∷ t ∷ s) = lowered (case_of b t) (b ∷ t ∷ s)

unfoldable pub first_lower : Text → Text
first_lower c = get_or (characters (lower_of c)) 0 []

unfoldable pub is_upper_char : Text → Bool
is_upper_char [] = false
is_upper_char (b ∷ []) = is_upper b
is_upper_char (b ∷ t ∷ s) = is_upper_letter (case_of b t)

unfoldable pub is_lower_char : Text → Bool
is_lower_char [] = false
is_lower_char (b ∷ []) = is_lower b
is_lower_char (b ∷ t ∷ s) = is_lower_letter (case_of b t)

unfoldable pub in_table : Text → Bool
in_table [] = false
in_table (b ∷ []) = false
in_table (b ∷ t ∷ []) = is_pair b t
in_table (b ∷ t ∷ u ∷ s) = false
