-- Programs are read one after the other.
use Rattle.std.proofs.Common.{◌≡◌, ℕ, ◌+◌, ◌<◌, List, [], ◌∷◌, ◌++◌, length, map, take, drop, get_or, Some, None, refl, sym, ap, ◌∙◌, arith, length-append}
use Rattle.std.proofs.lemmas.List.{take_more, drop_more, length-map, append-nil, get_or-map}
use Rattle.std.proofs.lemmas.List.Elements.{filter_map-append}
use Rattle.toml.specs.Data.{Data, Members, as_table}
use Rattle.toml.specs.View.{view}
use Rattle.toml.specs.declared.value.Value.{Value}
use Rattle.job_report.specs.declared.fault.JobFault.{JobFault}
use Rattle.job_report.specs.declared.job.ProgramJob.{ProgramJob}
use Rattle.job_report.specs.Field.{program_fields, number_of_program}
use Rattle.job_report.specs.Job.{StatesProgram, AreProgramsOf}
use Rattle.job_report.specs.Refusal.{refusals_of_table, refusals_of_programs, place_of_program, tables_among}
use Rattle.job_report.specs.Private.Fault.{TellsFirst}
use Rattle.job_report.specs.Private.Programs.{AreReadSoFar, numbers_of_programs}
use Rattle.job_report.proofs.Firsts.{tells_here}

-- one table more, and its program
pub are_programs-push : (tables : List Members) (programs : List ProgramJob) (stated : Members) (program : ProgramJob) → AreProgramsOf tables programs
    → StatesProgram stated program → AreProgramsOf (tables ++ stated ∷ []) (programs ++ program ∷ [])
are_programs-push [] [] stated program h is = (is, tt)
are_programs-push (t ∷ tables) (p ∷ programs) stated program h is = (h.0, are_programs-push tables programs stated program h.1 is)
are_programs-push [] (p ∷ programs) stated program h is = absurd h
are_programs-push (t ∷ tables) [] stated program h is = absurd h

-- the tables before a place, and from it on
tables-take : (values : List Data) (i : ℕ) (value : Data) → i < length values → get_or values i value ≡ value
    → tables_among (take (i + 1) values) ≡ tables_among (take i values) ++ tables_among (value ∷ [])
tables-take values i value within at =
    rw (take_more values i value within, at) (filter_map-append as_table (take i values) (value ∷ []))

tables-drop : (values : List Data) (i : ℕ) (value : Data) → i < length values → get_or values i value ≡ value
    → tables_among (drop i values) ≡ tables_among (value ∷ drop (i + 1) values)
tables-drop values i value within at = rw (drop_more values i value within, at) refl

-- nothing is read at first
pub so_far-none : (values : List Data) → AreReadSoFar values 0 []
so_far-none values = record { few = omega arith; stated = tt; rest = refl }

-- a value that is no table
pub so_far-other : (values : List Data) (i : ℕ) (value : Data) (programs : List ProgramJob) → AreReadSoFar values i programs → i < length values
    → get_or values i value ≡ value → as_table value ≡ None → AreReadSoFar values (i + 1) programs
so_far-other values i value programs h within at none = record {
  few = omega (arith, h.few);
  stated = rw (tables-take values i value within at, none, append-nil (tables_among (take i values))) h.stated;
  rest = h.rest ∙ ap (refusals_of_programs (numbers_of_programs programs)) (tables-drop values i value within at ∙ rw none refl);
}

-- what is wrong with the rest at a table
rest-table : (values : List Data) (i : ℕ) (value : Data) (stated : Members) (programs : List ProgramJob) → AreReadSoFar values i programs → i < length values
    → get_or values i value ≡ value → as_table value ≡ Some stated
    → refusals_of_programs [] (tables_among values)
    ≡ refusals_of_table (place_of_program (length programs)) stated (program_fields (numbers_of_programs programs))
    ++ refusals_of_programs (numbers_of_programs programs ++ number_of_program stated ∷ []) (tables_among (drop (i + 1) values))
rest-table values i value stated programs h within at some =
    let from : tables_among (drop i values) ≡ stated ∷ tables_among (drop (i + 1) values) = tables-drop values i value within at ∙ rw some refl in
    h.rest ∙ ap (refusals_of_programs (numbers_of_programs programs)) from ∙ rw (length-map programs (λ program. program.number)) refl

-- a table that states a program, with nothing wrong
pub so_far-table : (values : List Data) (i : ℕ) (value : Data) (stated : Members) (programs : List ProgramJob) (program : ProgramJob)
    → AreReadSoFar values i programs → i < length values → get_or values i value ≡ value → as_table value ≡ Some stated
    → refusals_of_table (place_of_program (length programs)) stated (program_fields (numbers_of_programs programs)) ≡ []
    → StatesProgram stated program → AreReadSoFar values (i + 1) (programs ++ program ∷ [])
so_far-table values i value stated programs program h within at some right is = record {
  few = omega (arith, h.few, length-append programs (program ∷ []));
  stated = rw (tables-take values i value within at, some) (are_programs-push (tables_among (take i values)) programs stated program h.stated is);
  rest = rest-table values i value stated programs h within at some ∙ rw (right, map-push programs program, number is) refl;
}
  where
    map-push : (programs : List ProgramJob) (program : ProgramJob) → numbers_of_programs (programs ++ program ∷ []) ≡ numbers_of_programs programs ++ program.number ∷ []
    map-push [] program = refl
    map-push (p ∷ programs) program = ap (λ ns. p.number ∷ ns) (map-push programs program)

    number : {stated : Members} {program : ProgramJob} → StatesProgram stated program → number_of_program stated ≡ program.number
    number is = rw is.number refl

-- a table with which something is wrong
pub so_far-wrong : (values : List Data) (i : ℕ) (value : Data) (stated : Members) (programs : List ProgramJob) (fault : JobFault)
    → AreReadSoFar values i programs → i < length values → get_or values i value ≡ value → as_table value ≡ Some stated
    → TellsFirst (refusals_of_table (place_of_program (length programs)) stated (program_fields (numbers_of_programs programs))) fault
    → TellsFirst (refusals_of_programs [] (tables_among values)) fault
so_far-wrong values i value stated programs fault h within at some wrong =
    rw (rest-table values i value stated programs h within at some) (tells_here _ _ fault wrong)

-- values by their data
pub within-view : (values : List Value) (i : ℕ) → i < length values → i < length (map view values)
within-view values i within = omega (arith, length-map values view)

pub at-view : (values : List Value) (i : ℕ) (value : Value) → i < length values → value ≡ get_or values i value → get_or (map view values) i (view value) ≡ view value
at-view values i value within is = get_or-map view values i value (view value) within ∙ ap view (sym is)
