-- The fields of a job text: which there are, in order, and what each may hold. Values are those of TOML.
use Rattle.std.specs.Prelude.{ℕ, pos, ◌==◌, Bool, true, false, not, ◌&&◌, nat_lt, nat_le, List, [], ◌∷◌, length, map, codes, unwrap_or, is_some}
use Rattle.std.specs.List.{list_any, list_all}
use Rattle.std.specs.Str.{bytes_eq}
use Rattle.toml.specs.Data.{Data, string, integer, array, Items, no_items, item, Members, get_member, as_integer, as_str, as_table}
use Rattle.version_table.specs.declared.limits.TheConstants.{SLOT_LEAST, SLOT_MOST, NODES_MOST, EVALUATIONS_MOST, PROGRAMS_MOST}
use Rattle.job_report.specs.declared.limits.TheConstants.{START_MOST, STREAM_ID_MOST, NUMBER_MOST, WEIGHT_MOST, COARSER_MOST, COARSENESS_LEAST, COARSENESS_MOST, DRIFT_MOST, DROP_MOST, PID_MOST}
use Rattle.job_report.specs.declared.job.Form.{Form}
use Rattle.job_report.specs.declared.job.Form.TheVariants.{Ts, Ps}

-- ---- values

-- the values in an array, in order
abbrev pub list_of_items : Items → List Data
list_of_items no_items = []
list_of_items (item value items) = value ∷ list_of_items items

-- the values in a value that is an array
abbrev pub values_in : Data → List Data
values_in (array items) = list_of_items items
values_in value = []

-- a whole number; TOML's are signed
abbrev pub is_integer : Data → Bool
is_integer value = is_some (as_integer value)

-- a text
abbrev pub is_text : Data → Bool
is_text value = is_some (as_str value)

-- a table
abbrev pub is_table : Data → Bool
is_table value = is_some (as_table value)

-- an array whose values all have this type
abbrev pub is_array_of : (Data → Bool) → Data → Bool
is_array_of has_type (array items) = list_all has_type (list_of_items items)
is_array_of has_type value = false

-- the number of a value, and 0 where it is none or negative
abbrev pub natural_of : Data → ℕ
natural_of (integer (pos n)) = n
natural_of value = 0

-- a number from the least to the most
abbrev pub is_between : ℕ → ℕ → Data → Bool
is_between least most (integer (pos n)) = nat_le least n && nat_le n most
is_between least most value = false

-- a text with at least one character
abbrev pub is_some_text : Data → Bool
is_some_text (string bytes) = not (length bytes == 0)
is_some_text value = false

-- how many values there are in an array
abbrev pub has_between : ℕ → ℕ → Data → Bool
has_between least most value = nat_le least (length (values_in value)) && nat_le (length (values_in value)) most

-- each number is greater than the one before
abbrev pub rises : List ℕ → Bool
rises [] = true
rises (n ∷ []) = true
rises (n ∷ m ∷ ns) = nat_lt n m && rises (m ∷ ns)

-- ---- fields

-- a field: whether it must be there, which type it has, and which values of that type are in range
pub record Field : Type 0 where
  pub name : List ℕ
  pub required : Bool
  pub has_type : Data → Bool
  pub in_range : Data → Bool

-- a field that must be there
abbrev pub required : List ℕ → (Data → Bool) → (Data → Bool) → Field
required name has_type in_range = record { name = name; required = true; has_type = has_type; in_range = in_range }

-- a field that may be left out
abbrev pub optional_field : List ℕ → (Data → Bool) → (Data → Bool) → Field
optional_field name has_type in_range = record { name = name; required = false; has_type = has_type; in_range = in_range }

-- the fields of a job, in order
abbrev pub job_fields : List Field
job_fields =
    required (codes "slot") is_integer (is_between SLOT_LEAST SLOT_MOST)
    ∷ optional_field (codes "start") is_integer (is_between 0 START_MOST)
    ∷ optional_field (codes "stream_id") is_integer (is_between 0 STREAM_ID_MOST)
    ∷ optional_field (codes "nodes") is_integer (is_between 1 NODES_MOST)
    ∷ optional_field (codes "evaluations") is_integer (is_between 0 EVALUATIONS_MOST)
    ∷ required (codes "program") (is_array_of is_table) (has_between 1 PROGRAMS_MOST)
    ∷ []

-- the number of a program in the output, and 0 where none is stated
abbrev pub number_of_program : Members → ℕ
number_of_program program = natural_of (unwrap_or (get_member (codes "number") program) (integer (pos 0)))

-- a number of a program that is none of these
abbrev pub is_new_number : (taken : List ℕ) → Data → Bool
is_new_number taken value = is_between 1 NUMBER_MOST value && not (list_any (λ n. n == natural_of value) taken)

-- so many numbers at most, each between two
abbrev pub are_numbers : (count least most : ℕ) → Data → Bool
are_numbers count least most value = nat_le (length (values_in value)) count && list_all (is_between least most) (values_in value)

-- how coarse versions are, each coarser than the one before
abbrev pub are_coarser : Data → Bool
are_coarser value =
    are_numbers COARSER_MOST COARSENESS_LEAST COARSENESS_MOST value && rises (map natural_of (values_in value))

-- the text of a form
abbrev pub form_text : Form → List ℕ
form_text Ts = codes "ts"
form_text Ps = codes "ps"

-- the text of a form there is
abbrev pub is_form : Data → Bool
is_form (string text) = list_any (λ form. bytes_eq text (form_text form)) (Ts ∷ Ps ∷ [])
is_form value = false

-- the fields of a program behind others that have these numbers, in order
abbrev pub program_fields : (taken : List ℕ) → List Field
program_fields taken =
    required (codes "file") is_text is_some_text
    ∷ required (codes "program") is_integer (is_between 1 NUMBER_MOST)
    ∷ required (codes "number") is_integer (is_new_number taken)
    ∷ optional_field (codes "weight") is_integer (is_between 1 WEIGHT_MOST)
    ∷ optional_field (codes "coarser") (is_array_of is_integer) are_coarser
    ∷ optional_field (codes "drift") is_integer (is_between 0 DRIFT_MOST)
    ∷ optional_field (codes "drop") (is_array_of is_integer) (are_numbers DROP_MOST 0 PID_MOST)
    ∷ optional_field (codes "form") is_text is_form
    ∷ []
