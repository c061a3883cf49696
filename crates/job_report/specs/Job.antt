-- The job that a document states: in each field what stands there, or the default where nothing does.
use Rattle.std.specs.Prelude.{◌≡◌, ℕ, pos, List, [], ◌∷◌, codes, Some, unwrap_or}
use Rattle.toml.specs.Data.{Data, string, integer, array, Items, no_items, item, Members, get_member}
use Rattle.job_report.specs.declared.limits.TheConstants.{START_DEFAULT, STREAM_ID_DEFAULT, NODES_DEFAULT, EVALUATIONS_DEFAULT, WEIGHT_DEFAULT, COARSER_DEFAULT, DRIFT_DEFAULT}
use Rattle.job_report.specs.declared.job.Form.TheVariants.{Ts}
use Rattle.job_report.specs.declared.job.ProgramJob.{ProgramJob}
use Rattle.job_report.specs.declared.job.Job.{Job}
use Rattle.job_report.specs.Field.{form_text}
use Rattle.job_report.specs.Refusal.{programs_in}

-- a number as TOML has it
abbrev pub integer_of : ℕ → Data
integer_of n = integer (pos n)

-- numbers as TOML's items
abbrev pub items_of_numbers : List ℕ → Items
items_of_numbers [] = no_items
items_of_numbers (n ∷ ns) = item (integer_of n) (items_of_numbers ns)

-- an array of numbers
abbrev pub array_of : List ℕ → Data
array_of ns = array (items_of_numbers ns)

-- what stands under a name, or the default
abbrev pub stated_or : Data → List ℕ → Members → Data
stated_or default name members = unwrap_or (get_member name members) default

-- a table states this program
pub record StatesProgram (members : Members) (job : ProgramJob) : Type 0 where
  pub file : get_member (codes "file") members ≡ Some (string job.file)
  pub program : get_member (codes "program") members ≡ Some (integer_of job.program)
  pub number : get_member (codes "number") members ≡ Some (integer_of job.number)
  pub weight : stated_or (integer_of WEIGHT_DEFAULT) (codes "weight") members ≡ integer_of job.weight
  pub coarser : stated_or (array_of COARSER_DEFAULT) (codes "coarser") members ≡ array_of job.coarser.items
  pub drift : stated_or (integer_of DRIFT_DEFAULT) (codes "drift") members ≡ integer_of job.drift
  pub drop : stated_or (array_of []) (codes "drop") members ≡ array_of job.drop.items
  pub form : stated_or (string (form_text Ts)) (codes "form") members ≡ string (form_text job.form)

-- tables state these programs, one each, in order
abbrev pub AreProgramsOf : List Members → List ProgramJob → Type 0
AreProgramsOf [] [] = Unit {0}
AreProgramsOf (members ∷ tables) (program ∷ programs) = StatesProgram members program × AreProgramsOf tables programs
AreProgramsOf tables programs = ⊥

-- a document states this job
pub record IsJobOf (document : Members) (job : Job) : Type 0 where
  pub slot : get_member (codes "slot") document ≡ Some (integer_of job.slot)
  pub start : stated_or (integer_of START_DEFAULT) (codes "start") document ≡ integer_of job.start
  pub stream_id : stated_or (integer_of STREAM_ID_DEFAULT) (codes "stream_id") document ≡ integer_of job.stream_id
  pub nodes : stated_or (integer_of NODES_DEFAULT) (codes "nodes") document ≡ integer_of job.nodes
  pub evaluations : stated_or (integer_of EVALUATIONS_DEFAULT) (codes "evaluations") document ≡ integer_of job.evaluations
  pub programs : AreProgramsOf (programs_in document) job.programs
