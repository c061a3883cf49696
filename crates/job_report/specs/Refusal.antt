-- What refuses a job: all that is wrong with a document, in order. The first of these is what a user is told.
use Rattle.std.specs.Prelude.{ℕ, Bool, if◌then◌else◌, List, [], ◌∷◌, ◌++◌, length, codes, decimal, Option, Some, None}
use Rattle.std.specs.List.{flat_map, filter_map, list_any, list_all}
use Rattle.std.specs.Str.{bytes_eq}
use Rattle.toml.specs.Data.{Data, Members, no_members, member, get_member, as_table}
use Rattle.job_report.specs.Field.{Field, job_fields, program_fields, number_of_program, values_in}

-- a refusal with its name: for a field that is missing, of another type or none that there is; for a value out of range
pub data FieldRefusal : Type 0 where
  OfField : List ℕ → FieldRefusal
  OfLimit : List ℕ → FieldRefusal

-- what is wrong with a value that stands in a field, under the name that is printed
abbrev pub refusals_of_value : Field → List ℕ → Data → List FieldRefusal
refusals_of_value field name value =
    if field.has_type value then (if field.in_range value then [] else OfLimit name ∷ []) else OfField name ∷ []

-- what is wrong with a field, where this is stated or nothing
abbrev pub refusals_of_stated : Field → List ℕ → Option Data → List FieldRefusal
refusals_of_stated field name None = if field.required then OfField name ∷ [] else []
refusals_of_stated field name (Some value) = refusals_of_value field name value

-- what is wrong with a field of a table; the place goes before its name
unfoldable pub refusals_of_field : (place : List ℕ) → Members → Field → List FieldRefusal
refusals_of_field place members field = refusals_of_stated field (place ++ field.name) (get_member field.name members)

-- the names in a table
abbrev pub names_in : Members → List (List ℕ)
names_in no_members = []
names_in (member name value others) = name ∷ names_in others

-- whether one of the fields has this name
abbrev pub is_name_of : List Field → List ℕ → Bool
is_name_of fields name = list_any (λ field. bytes_eq name field.name) fields

-- a name in a table that is none of its fields'
unfoldable pub refusals_of_names : (place : List ℕ) → Members → List Field → List FieldRefusal
refusals_of_names place members fields =
    if list_all (is_name_of fields) (names_in members) then [] else OfField (place ++ codes "unknown") ∷ []

-- what is wrong with a table: field by field, then its names
abbrev pub refusals_of_table : (place : List ℕ) → Members → List Field → List FieldRefusal
refusals_of_table place members fields = flat_map (refusals_of_field place members) fields ++ refusals_of_names place members fields

-- the place of the program of this number, from 0
unfoldable pub place_of_program : ℕ → List ℕ
place_of_program n = codes "program[" ++ decimal n ++ codes "]."

-- what is wrong with programs behind others that have these numbers, one after the other
abbrev pub refusals_of_programs : (taken : List ℕ) → List Members → List FieldRefusal
refusals_of_programs taken [] = []
refusals_of_programs taken (program ∷ programs) =
    refusals_of_table (place_of_program (length taken)) program (program_fields taken)
    ++ refusals_of_programs (taken ++ number_of_program program ∷ []) programs

-- the tables among values
abbrev pub tables_among : List Data → List Members
tables_among values = filter_map as_table values

-- the tables in the array that is stated
abbrev pub stated_tables : Option Data → List Members
stated_tables None = []
stated_tables (Some value) = tables_among (values_in value)

-- the programs of a document
abbrev pub programs_in : Members → List Members
programs_in document = stated_tables (get_member (codes "program") document)

-- what is wrong with a document, in order: its own fields and names, then its programs
abbrev pub refusals_of : Members → List FieldRefusal
refusals_of document = refusals_of_table [] document job_fields ++ refusals_of_programs [] (programs_in document)

-- the first of refusals
abbrev pub first_refusal : List FieldRefusal → Option FieldRefusal
first_refusal [] = None
first_refusal (refusal ∷ refusals) = Some refusal
