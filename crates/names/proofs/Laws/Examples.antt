-- Values of the conversions, by computation. Assumes nothing.
use mathlib.Core.Path.{◌≡◌, refl}
use mathlib.Core.List.{[], ◌∷◌, ◌++◌}
use Rattle.text.specs.Text.{Text, bytes}
use Rattle.text.specs.Unfold.{computes}
use Rattle.names.specs.Unfold.{computes as name_words}
use Rattle.names.specs.Names.{normalize_type_name, xml_to_snake_case, code_to_pascal_case}

pub normalize-segments : normalize_type_name (bytes "party_id_x") ≡ bytes "PartyIdX"
unfolding computes name_words
normalize-segments = refl

pub normalize-whole : normalize_type_name (bytes "partyId") ≡ bytes "partyId"
unfolding computes name_words
normalize-whole = refl

pub snake-words : xml_to_snake_case (bytes "XMLHeadNm") ≡ bytes "xml_head_nm"
unfolding computes name_words
snake-words = refl

pub snake-capitals : xml_to_snake_case (bytes "BICFI") ≡ bytes "bicfi"
unfolding computes name_words
snake-capitals = refl

pub snake-digit : xml_to_snake_case (bytes "Dt2Nm") ≡ bytes "dt2nm"
unfolding computes name_words
snake-digit = refl

-- a second time the capitals inside a word go down, so code_to_pascal_case changes what it gave
pub pascal-once : code_to_pascal_case (bytes "TEST-VALUE") ≡ bytes "TestValue"
unfolding computes name_words
pascal-once = refl

pub pascal-twice : code_to_pascal_case (code_to_pascal_case (bytes "TEST-VALUE")) ≡ bytes "Testvalue"
unfolding computes name_words
pascal-twice = refl

-- ---- characters from U+0080 on, as the Rust has them

abbrev e_acute : Text
e_acute = 195 ∷ 169 ∷ []

abbrev e_acute_upper : Text
e_acute_upper = 195 ∷ 137 ∷ []

abbrev e_grave : Text
e_grave = 195 ∷ 168 ∷ []

abbrev e_grave_upper : Text
e_grave_upper = 195 ∷ 136 ∷ []

abbrev sharp_s : Text
sharp_s = 195 ∷ 159 ∷ []

abbrev n_apostrophe : Text
n_apostrophe = 197 ∷ 137 ∷ []

abbrev i_dot_upper : Text
i_dot_upper = 196 ∷ 176 ∷ []

abbrev i_dotless : Text
i_dotless = 196 ∷ 177 ∷ []

abbrev micro : Text
micro = 194 ∷ 181 ∷ []

abbrev y_diaeresis : Text
y_diaeresis = 195 ∷ 191 ∷ []

abbrev long_s : Text
long_s = 197 ∷ 191 ∷ []

abbrev a_macron_upper : Text
a_macron_upper = 196 ∷ 128 ∷ []

abbrev a_macron : Text
a_macron = 196 ∷ 129 ∷ []

abbrev feminine : Text
feminine = 194 ∷ 170 ∷ []

-- U+02BC, U+0307 and U+039C, which case brings in
abbrev apostrophe : Text
apostrophe = 202 ∷ 188 ∷ []

abbrev dot_above : Text
dot_above = 204 ∷ 135 ∷ []

abbrev mu_upper : Text
mu_upper = 206 ∷ 156 ∷ []

-- é_ß is É and SS; ŉ_a is U+02BC, N, A; µ_ÿ is U+039C, U+0178; ſ_ª is S, ª
pub normalize-sharp_s : normalize_type_name (e_acute ++ bytes "_" ++ sharp_s) ≡ e_acute_upper ++ bytes "SS"
unfolding computes name_words
normalize-sharp_s = refl

pub normalize-n_apostrophe : normalize_type_name (n_apostrophe ++ bytes "_a") ≡ apostrophe ++ bytes "NA"
unfolding computes name_words
normalize-n_apostrophe = refl

pub normalize-micro : normalize_type_name (micro ++ bytes "_" ++ y_diaeresis) ≡ mu_upper ++ (197 ∷ 184 ∷ [])
unfolding computes name_words
normalize-micro = refl

pub normalize-long_s : normalize_type_name (long_s ++ bytes "_" ++ feminine) ≡ bytes "S" ++ feminine
unfolding computes name_words
normalize-long_s = refl

-- ı_a, I_a and i_a are one name, ß_a and SS_a too
pub normalize-i_dotless : normalize_type_name (i_dotless ++ bytes "_a") ≡ normalize_type_name (bytes "I_a")
unfolding computes name_words
normalize-i_dotless = refl

pub normalize-double_s : normalize_type_name (sharp_s ++ bytes "_a") ≡ normalize_type_name (bytes "SS_a")
unfolding computes name_words
normalize-double_s = refl

pub normalize-sharp_s-whole : normalize_type_name sharp_s ≡ sharp_s
unfolding computes name_words
normalize-sharp_s-whole = refl

-- what case brings in goes up to itself
pub normalize-kept : normalize_type_name (apostrophe ++ bytes "_" ++ dot_above ++ bytes "_" ++ mu_upper) ≡ apostrophe ++ dot_above ++ mu_upper
unfolding computes name_words
normalize-kept = refl

-- the characters before and behind are asked, not the bytes
pub snake-after-accent : xml_to_snake_case (e_acute ++ bytes "A") ≡ e_acute ++ bytes "_a"
unfolding computes name_words
snake-after-accent = refl

pub snake-accents : xml_to_snake_case (e_acute_upper ++ e_grave_upper ++ e_acute) ≡ e_acute ++ bytes "_" ++ e_grave ++ e_acute
unfolding computes name_words
snake-accents = refl

pub snake-feminine : xml_to_snake_case (feminine ++ bytes "B") ≡ feminine ++ bytes "_b"
unfolding computes name_words
snake-feminine = refl

-- of İ only i is kept
pub snake-i_dot : xml_to_snake_case (bytes "a" ++ i_dot_upper) ≡ bytes "a_i"
unfolding computes name_words
snake-i_dot = refl

pub snake-a_macron : xml_to_snake_case (e_acute ++ a_macron_upper) ≡ e_acute ++ bytes "_" ++ a_macron
unfolding computes name_words
snake-a_macron = refl

-- the first character goes up whole, the others down whole
pub pascal-i_dot : code_to_pascal_case (i_dot_upper ++ i_dot_upper) ≡ i_dot_upper ++ bytes "i" ++ dot_above
unfolding computes name_words
pascal-i_dot = refl

pub pascal-n_apostrophe : code_to_pascal_case (n_apostrophe ++ n_apostrophe) ≡ apostrophe ++ bytes "N" ++ n_apostrophe
unfolding computes name_words
pascal-n_apostrophe = refl

pub pascal-sharp_s : code_to_pascal_case (sharp_s ++ bytes "A-" ++ e_acute) ≡ bytes "SSa" ++ e_acute_upper
unfolding computes name_words
pascal-sharp_s = refl
