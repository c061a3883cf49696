-- Where a table stands in a document, and refusals there.
use Rattle.std.specs.Prelude.{List, ℕ, []}
use Rattle.job_report.specs.declared.place.Place.{Place}
use Rattle.job_report.specs.declared.place.Place.TheVariants.{Job, Program}
use Rattle.job_report.specs.declared.values.Wrong.{Wrong}
use Rattle.job_report.specs.declared.values.Wrong.TheVariants.{OtherType, OutOfRange}
use Rattle.job_report.specs.Refusal.{FieldRefusal, OfField, OfLimit, place_of_program}

-- what goes before the names of a table's fields
abbrev pub place_text : Place → List ℕ
place_text Job = []
place_text (Program n) = place_of_program n

-- the refusal of a field whose value is wrong
abbrev pub refusal_of_wrong : List ℕ → Wrong → FieldRefusal
refusal_of_wrong name OtherType = OfField name
refusal_of_wrong name OutOfRange = OfLimit name
