-- What is wrong with a field, by what stands there.
use Rattle.std.proofs.Common.{◌≡◌, ℕ, Bool, List, [], ◌∷◌, ◌++◌, Some, None, refl, sym}
use Rattle.toml.specs.Data.{Data, Members, get_member}
use Rattle.job_report.specs.declared.values.Wrong.{Wrong}
use Rattle.job_report.specs.declared.values.Wrong.TheVariants.{OtherType, OutOfRange}
use Rattle.job_report.specs.Field.{Field, required, optional_field}
use Rattle.job_report.specs.Refusal.{OfField, refusals_of_field}
use Rattle.job_report.specs.Job.{stated_or}
use Rattle.job_report.specs.Private.Value.{IsWrong, IsRight}
use Rattle.job_report.specs.declared.fault.JobFault.{JobFault}
use Rattle.job_report.specs.Private.Fault.{TellsFirst}
use Rattle.job_report.specs.Private.Place.{refusal_of_wrong}

-- a field that must be there and isn't
pub missing : (place : List ℕ) (entries : Members) (name : List ℕ) (has_type in_range : Data → Bool) → get_member name entries ≡ None
    → refusals_of_field place entries (required name has_type in_range) ≡ OfField (place ++ name) ∷ []
unfolding refusals_of_field
missing place entries name has_type in_range e = rw e refl

-- a field that may be missing and is
pub left_out : (place : List ℕ) (entries : Members) (name : List ℕ) (has_type in_range : Data → Bool) → get_member name entries ≡ None
    → refusals_of_field place entries (optional_field name has_type in_range) ≡ []
unfolding refusals_of_field
left_out place entries name has_type in_range e = rw e refl

-- a field whose value is right
pub right : (place : List ℕ) (entries : Members) (field : Field) (value : Data) → get_member field.name entries ≡ Some value
    → IsRight field.has_type field.in_range value → refusals_of_field place entries field ≡ []
unfolding refusals_of_field
right place entries field value e is = rw (e, is.of_type, is.within) refl

-- a field whose value is wrong
pub wrong : (place : List ℕ) (entries : Members) (field : Field) (value : Data) (is : Wrong) → get_member field.name entries ≡ Some value
    → IsWrong field.has_type field.in_range value is → refusals_of_field place entries field ≡ refusal_of_wrong (place ++ field.name) is ∷ []
unfolding refusals_of_field
wrong place entries field value OtherType e is = rw (e, is) refl
wrong place entries field value OutOfRange e is = rw (e, is.0, is.1) refl

-- ---- the same of faults, by what was found under the name

pub missing_tells : (place : List ℕ) (entries : Members) (name : List ℕ) (has_type in_range : Data → Bool) (fault : JobFault) → None ≡ get_member name entries
    → TellsFirst (OfField (place ++ name) ∷ []) fault → TellsFirst (refusals_of_field place entries (required name has_type in_range)) fault
missing_tells place entries name has_type in_range fault e tells = rw (missing place entries name has_type in_range (sym e)) tells

pub wrong_tells : (place : List ℕ) (entries : Members) (field : Field) (value : Data) (is : Wrong) (fault : JobFault) → Some value ≡ get_member field.name entries
    → IsWrong field.has_type field.in_range value is → TellsFirst (refusal_of_wrong (place ++ field.name) is ∷ []) fault
    → TellsFirst (refusals_of_field place entries field) fault
wrong_tells place entries field value is fault e h tells = rw (wrong place entries field value is (sym e) h) tells

pub right_tells : (place : List ℕ) (entries : Members) (field : Field) (value : Data) → Some value ≡ get_member field.name entries
    → IsRight field.has_type field.in_range value → refusals_of_field place entries field ≡ []
right_tells place entries field value e is = right place entries field value (sym e) is

pub left_out_right : (place : List ℕ) (entries : Members) (name : List ℕ) (has_type in_range : Data → Bool) → None ≡ get_member name entries
    → refusals_of_field place entries (optional_field name has_type in_range) ≡ []
left_out_right place entries name has_type in_range e = left_out place entries name has_type in_range (sym e)

-- a field that isn't there
pub ruleset not_there = (missing_tells, left_out_right)

-- ---- what is stated, or the default

pub stated_or-none : (default : Data) (name : List ℕ) (entries : Members) → None ≡ get_member name entries → stated_or default name entries ≡ default
stated_or-none default name entries e = rw (← e) refl

pub stated_or-some : (default value : Data) (name : List ℕ) (entries : Members) → Some value ≡ get_member name entries → stated_or default name entries ≡ value
stated_or-some default value name entries e = rw (← e) refl
