-- When two refusals of a job's text are the same.
use Rattle.std.specs.Prelude.{◌≡◌}
use Rattle.job_files.specs.declared.job_stop.TextRefusal.{TextRefusal}
use Rattle.job_files.specs.declared.job_stop.TextRefusal.TheVariants.{NoDocument, Field, Limit}

-- two refusals of a job's text are the same, names compared by their bytes
abbrev pub IsSameText : TextRefusal → TextRefusal → Type 0
IsSameText NoDocument NoDocument = Unit {0}
IsSameText (Field name) (Field other) = name.bytes ≡ other.bytes
IsSameText (Limit name) (Limit other) = name.bytes ≡ other.bytes
IsSameText first second = ⊥
