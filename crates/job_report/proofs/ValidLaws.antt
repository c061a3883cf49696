-- The job that a document states is valid where nothing is wrong with the document.
use Rattle.std.proofs.Common.{
  ◌≡◌,
  ◌≢◌,
  ℕ,
  zero,
  suc,
  ◌≤◌,
  ◌==◌,
  Bool,
  true,
  false,
  not,
  ◌||◌,
  ◌++◌,
  List,
  [],
  ◌∷◌,
  length,
  codes,
  eqb,
  leb,
  Option,
  Some,
  None,
  Result,
  Ok,
  Err,
  refl,
  sym,
  subst,
  ap,
  arith,
}
use Rattle.std.specs.Prelude.{All, IfOk}
use Rattle.std.specs.List.{AllPairs, flat_map, list_any, list_all}
use Rattle.std.specs.List.Sorted.{IsStrictlyIncreasing}
use Rattle.std.proofs.lemmas.Bool.{and_parts, leb-true, true≢false}
use Rattle.std.proofs.lemmas.List.Elements.{All-nil, All-cons, All-weaker}
use Rattle.toml.specs.Data.{Data, string, integer, array, table, float, boolean, datetime, Members, get_member}
use Rattle.version_table.specs.declared.limits.TheConstants.{SLOT_LEAST, SLOT_MOST, NODES_MOST, EVALUATIONS_MOST, PROGRAMS_MOST}
use Rattle.job_report.specs.declared.limits.TheConstants.{
  START_MOST,
  START_DEFAULT,
  STREAM_ID_MOST,
  STREAM_ID_DEFAULT,
  NODES_DEFAULT,
  EVALUATIONS_DEFAULT,
  NUMBER_MOST,
  WEIGHT_MOST,
  WEIGHT_DEFAULT,
  COARSER_MOST,
  COARSER_DEFAULT,
  COARSENESS_LEAST,
  COARSENESS_MOST,
  DRIFT_MOST,
  DRIFT_DEFAULT,
  DROP_MOST,
  PID_MOST,
}
use Rattle.job_report.specs.declared.job.ProgramJob.{ProgramJob}
use Rattle.job_report.specs.declared.job.Job.{Job as JobValue}
use Rattle.job_report.specs.Field.{
  required,
  job_fields,
  program_fields,
  number_of_program,
  values_in,
  list_of_items,
  is_integer,
  is_between,
  is_text,
  is_some_text,
  is_table,
  is_array_of,
  are_numbers,
  are_coarser,
  has_between,
  is_new_number,
}
use Rattle.job_report.specs.Refusal.{
  FieldRefusal,
  refusals_of,
  refusals_of_field,
  refusals_of_stated,
  refusals_of_names,
  refusals_of_table,
  refusals_of_programs,
  place_of_program,
  programs_in,
  tables_among,
  stated_tables,
}
use Rattle.job_report.specs.Job.{integer_of, array_of, StatesProgram, AreProgramsOf, IsJobOf}
use Rattle.job_report.specs.JobText.{SpellsJob}
use Rattle.job_report.specs.declared.fault.JobFault.{JobFault}
use Rattle.job_report.specs.ValidJob.{IsCoarseness, IsValidProgramJob, HaveNumbersApart, IsValidJob}
use Rattle.job_report.specs.Private.Value.{IsRight}
use Rattle.job_report.proofs.RightFields.{none_before, none_behind, value_right, required_right, optional_right, between, numbers_right, coarser_right}

-- nothing is wrong with six fields in a row
pub record AreSixRight (a b c d e f : List FieldRefusal) : Type 0 where
  pub first : a ≡ []
  pub second : b ≡ []
  pub third : c ≡ []
  pub fourth : d ≡ []
  pub fifth : e ≡ []
  pub sixth : f ≡ []

-- nor with what stands behind them
pub record AreSixRightBefore (a b c d e f rest : List FieldRefusal) : Type 0 where
  pub six : AreSixRight a b c d e f
  pub behind : rest ≡ []

right_before : (a b c d e f rest : List FieldRefusal) → a ++ (b ++ (c ++ (d ++ (e ++ (f ++ rest))))) ≡ [] → AreSixRightBefore a b c d e f rest
right_before a b c d e f rest h =
    let hb = none_behind a _ h in
    let hc = none_behind b _ hb in
    let hd = none_behind c _ hc in
    let he = none_behind d _ hd in
    let hf = none_behind e _ he in
    record {
      six = record {
        first = none_before a _ h;
        second = none_before b _ hb;
        third = none_before c _ hc;
        fourth = none_before d _ hd;
        fifth = none_before e _ he;
        sixth = none_before f _ hf;
      };
      behind = none_behind f rest hf;
    }

six_right : (a b c d e f : List FieldRefusal) → a ++ (b ++ (c ++ (d ++ (e ++ (f ++ []))))) ≡ [] → AreSixRight a b c d e f
six_right a b c d e f h = (right_before a b c d e f [] h).six

-- ---- one program

some_text : (text : List ℕ) → is_some_text (string text) ≡ true → 1 ≤ length text
some_text [] e = absurd (true≢false (sym e))
some_text (c ∷ text) e = omega arith

default_weight : IsRight is_integer (is_between 1 WEIGHT_MOST) (integer_of WEIGHT_DEFAULT)
default_weight = record { of_type = refl; within = refl }

default_coarser : IsRight (is_array_of is_integer) are_coarser (array_of COARSER_DEFAULT)
default_coarser = record { of_type = refl; within = refl }

default_drift : IsRight is_integer (is_between 0 DRIFT_MOST) (integer_of DRIFT_DEFAULT)
default_drift = record { of_type = refl; within = refl }

default_drop : IsRight (is_array_of is_integer) (are_numbers DROP_MOST 0 PID_MOST) (array_of [])
default_drop = record { of_type = refl; within = refl }

-- a program with which nothing is wrong
pub valid_program : (place : List ℕ) (taken : List ℕ) (members : Members) (job : ProgramJob)
    → refusals_of_table place members (program_fields taken) ≡ [] → StatesProgram members job
    → IsValidProgramJob job × (list_any (λ n. n == job.number) taken ≡ false)
valid_program place taken members job none is =
    let all = right_before _ _ _ _ _ _ _ (none_before (flat_map (refusals_of_field place members) (program_fields taken)) (refusals_of_names place members (program_fields taken)) none) in
    let six = all.six in
    let file = required_right place members (codes "file") is_text is_some_text (string job.file) six.first is.file in
    let program = required_right place members (codes "program") is_integer (is_between 1 NUMBER_MOST) (integer_of job.program) six.second is.program in
    let number = required_right place members (codes "number") is_integer (is_new_number taken) (integer_of job.number) six.third is.number in
    let weight = optional_right place members (codes "weight") is_integer (is_between 1 WEIGHT_MOST) (integer_of WEIGHT_DEFAULT) (integer_of job.weight) six.fourth is.weight default_weight in
    let coarser = optional_right place members (codes "coarser") (is_array_of is_integer) are_coarser (array_of COARSER_DEFAULT) (array_of job.coarser.items) six.fifth is.coarser default_coarser in
    let drift = optional_right place members (codes "drift") is_integer (is_between 0 DRIFT_MOST) (integer_of DRIFT_DEFAULT) (integer_of job.drift) six.sixth is.drift default_drift in
    let drop = optional_right place members (codes "drop") (is_array_of is_integer) (are_numbers DROP_MOST 0 PID_MOST) (array_of []) (array_of job.drop.items) (none_before _ _ all.behind) is.drop default_drop in
    let new = and_parts (is_between 1 NUMBER_MOST (integer_of job.number)) (not (list_any (λ n. n == job.number) taken)) number.within in
    let program_between = between 1 NUMBER_MOST job.program program.within in
    let number_between = between 1 NUMBER_MOST job.number new.0 in
    let weight_between = between 1 WEIGHT_MOST job.weight weight.within in
    let drift_between = between 0 DRIFT_MOST job.drift drift.within in
    let coarser_parts = coarser_right COARSER_MOST COARSENESS_LEAST COARSENESS_MOST job.coarser.items coarser.within in
    let coarser_numbers = numbers_right COARSER_MOST COARSENESS_LEAST COARSENESS_MOST job.coarser.items coarser_parts.0 in
    let dropped = numbers_right DROP_MOST 0 PID_MOST job.drop.items drop.within in (
      record {
        some_file = some_text job.file file.within;
        some_program = program_between.0;
        program = program_between.1;
        some_number = number_between.0;
        number = number_between.1;
        some_weight = weight_between.0;
        weight = weight_between.1;
        few_coarser = coarser_numbers.0;
        coarser = coarser_numbers.1;
        coarser_rises = coarser_parts.1;
        drift = drift_between.1;
        few_dropped = dropped.0;
        dropped = All-weaker (λ pid. (0 ≤ pid) × (pid ≤ PID_MOST)) (λ pid. pid ≤ PID_MOST) (λ pid h. h.1) job.drop.items dropped.1;
      },
      not_true (list_any (λ n. n == job.number) taken) new.1,
    )
  where
    not_true : (b : Bool) → not b ≡ true → b ≡ false
    not_true false e = refl
    not_true true e = absurd (true≢false (sym e))

-- ---- all programs

-- programs behind others that have these numbers: each is valid, and none has a number of another
pub record AreValidBehind (taken : List ℕ) (programs : List ProgramJob) : Type 0 where
  pub each : All IsValidProgramJob programs
  pub apart : HaveNumbersApart programs
  pub new : All (λ program. list_any (λ n. n == program.number) taken ≡ false) programs

any_append : (test : ℕ → Bool) (ns : List ℕ) (n : ℕ) → list_any test (ns ++ n ∷ []) ≡ false → (list_any test ns ≡ false) × (test n ≡ false)
any_append test [] n e = (refl, neither (test n) false e)
  where
    neither : (a b : Bool) → (a || b) ≡ false → a ≡ false
    neither false b e = refl
    neither true b e = absurd (true≢false e)
any_append test (m ∷ ns) n e = joined (test m) (list_any test (ns ++ n ∷ [])) e (λ rest. any_append test ns n rest)
  where
    joined : (a b : Bool) → (a || b) ≡ false → ((b ≡ false) → (list_any test ns ≡ false) × (test n ≡ false))
        → ((a || list_any test ns) ≡ false) × (test n ≡ false)
    joined false b e rest = rest e
    joined true b e rest = absurd (true≢false e)

pairs_cons : (R : ProgramJob → ProgramJob → Type 0) (x : ProgramJob) (xs : List ProgramJob) → All (R x) xs → AllPairs R xs → AllPairs R (x ∷ xs)
pairs_cons R x xs all pairs zero zero d before below = absurd (omega (arith, before))
pairs_cons R x xs all pairs zero (suc j) d before below = all j d (omega (arith, below))
pairs_cons R x xs all pairs (suc i) zero d before below = absurd (omega (arith, before))
pairs_cons R x xs all pairs (suc i) (suc j) d before below = pairs i j d (omega (arith, before)) (omega (arith, below))

eqb_false : (n m : ℕ) → eqb n m ≡ false → n ≢ m
eqb_false n m e same = grind arith

pub valid_programs : (taken : List ℕ) (tables : List Members) (programs : List ProgramJob) → refusals_of_programs taken tables ≡ []
    → AreProgramsOf tables programs → AreValidBehind taken programs
valid_programs taken [] [] none is = record {
  each = All-nil IsValidProgramJob;
  apart = λ i j d before below. absurd (omega (arith, below));
  new = All-nil (λ program. list_any (λ n. n == program.number) taken ≡ false);
}
valid_programs taken [] (p ∷ programs) none is = absurd is
valid_programs taken (t ∷ tables) [] none is = absurd is
valid_programs taken (t ∷ tables) (p ∷ programs) none is =
    let here = none_before (refusals_of_table (place_of_program (length taken)) t (program_fields taken)) _ none in
    let behind = none_behind (refusals_of_table (place_of_program (length taken)) t (program_fields taken)) _ none in
    let first = valid_program (place_of_program (length taken)) taken t p here is.0 in
    let number : number_of_program t ≡ p.number = rw is.0.number refl in
    let P : ℕ → Type 0 = λ n. refusals_of_programs (taken ++ n ∷ []) tables ≡ [] in
    let rest = valid_programs (taken ++ p.number ∷ []) tables programs (subst P number behind) is.1 in
    record {
      each = All-cons IsValidProgramJob p programs first.0 rest.each;
      apart = pairs_cons (λ a b. a.number ≢ b.number) p programs
          (All-weaker (λ q. list_any (λ n. n == q.number) (taken ++ p.number ∷ []) ≡ false) (λ q. p.number ≢ q.number)
          (λ q e. eqb_false p.number q.number (any_append (λ n. n == q.number) taken p.number e).1) programs rest.new)
          rest.apart;
      new = All-cons (λ q. list_any (λ n. n == q.number) taken ≡ false) p programs first.1
          (All-weaker (λ q. list_any (λ n. n == q.number) (taken ++ p.number ∷ []) ≡ false) (λ q. list_any (λ n. n == q.number) taken ≡ false)
          (λ q e. (any_append (λ n. n == q.number) taken p.number e).0) programs rest.new);
    }

-- ---- the job

tables_of : (values : List Data) → list_all is_table values ≡ true → length (tables_among values) ≡ length values
tables_of [] e = refl
tables_of (table entries ∷ values) e = ap suc (tables_of values (and_parts true (list_all is_table values) e).1)
tables_of (string s ∷ values) e = absurd cc
tables_of (float x ∷ values) e = absurd cc
tables_of (boolean b ∷ values) e = absurd cc
tables_of (datetime dt ∷ values) e = absurd cc
tables_of (integer z ∷ values) e = absurd cc
tables_of (array x ∷ values) e = absurd cc

programs_of : (tables : List Members) (programs : List ProgramJob) → AreProgramsOf tables programs → length tables ≡ length programs
programs_of [] [] is = refl
programs_of [] (p ∷ programs) is = absurd is
programs_of (t ∷ tables) [] is = absurd is
programs_of (t ∷ tables) (p ∷ programs) is = ap suc (programs_of tables programs is.1)

value_count : (value : Data) → is_array_of is_table value ≡ true → has_between 1 PROGRAMS_MOST value ≡ true
    → (1 ≤ length (tables_among (values_in value))) × (length (tables_among (values_in value)) ≤ PROGRAMS_MOST)
value_count (array items) tables count =
    let h = and_parts (leb 1 (length (list_of_items items))) (leb (length (list_of_items items)) PROGRAMS_MOST) count in
    rw (tables_of (list_of_items items) tables) (leb-true 1 _ h.0, leb-true _ PROGRAMS_MOST h.1)
value_count (string s) tables count = absurd (true≢false (sym tables))
value_count (float x) tables count = absurd (true≢false (sym tables))
value_count (boolean b) tables count = absurd (true≢false (sym tables))
value_count (datetime dt) tables count = absurd (true≢false (sym tables))
value_count (integer z) tables count = absurd (true≢false (sym tables))
value_count (table entries) tables count = absurd (true≢false (sym tables))

-- how many programs a document states
stated_count : (document : Members) → refusals_of_field [] document (required (codes "program") (is_array_of is_table) (has_between 1 PROGRAMS_MOST)) ≡ []
    → (1 ≤ length (programs_in document)) × (length (programs_in document) ≤ PROGRAMS_MOST)
unfolding refusals_of_field
stated_count document e = found (get_member (codes "program") document) e
  where
    found : (stated : Option Data) → refusals_of_stated (required (codes "program") (is_array_of is_table) (has_between 1 PROGRAMS_MOST)) (codes "program") stated ≡ []
        → (1 ≤ length (stated_tables stated)) × (length (stated_tables stated) ≤ PROGRAMS_MOST)
    found None e = absurd cc
    found (Some value) e =
        let h = value_right (required (codes "program") (is_array_of is_table) (has_between 1 PROGRAMS_MOST)) (codes "program") value e in
        value_count value h.of_type h.within

default_start : IsRight is_integer (is_between 0 START_MOST) (integer_of START_DEFAULT)
default_start = record { of_type = refl; within = refl }

default_stream_id : IsRight is_integer (is_between 0 STREAM_ID_MOST) (integer_of STREAM_ID_DEFAULT)
default_stream_id = record { of_type = refl; within = refl }

default_nodes : IsRight is_integer (is_between 1 NODES_MOST) (integer_of NODES_DEFAULT)
default_nodes = record { of_type = refl; within = refl }

default_evaluations : IsRight is_integer (is_between 0 EVALUATIONS_MOST) (integer_of EVALUATIONS_DEFAULT)
default_evaluations = record { of_type = refl; within = refl }

-- a job of a document with which nothing is wrong
pub valid_job : (document : Members) (job : JobValue) → refusals_of document ≡ [] → IsJobOf document job → IsValidJob job
valid_job document job none is =
    let top = none_before (refusals_of_table [] document job_fields) (refusals_of_programs [] (programs_in document)) none in
    let six = six_right _ _ _ _ _ _ (none_before (flat_map (refusals_of_field [] document) job_fields) (refusals_of_names [] document job_fields) top) in
    let slot = required_right [] document (codes "slot") is_integer (is_between SLOT_LEAST SLOT_MOST) (integer_of job.slot) six.first is.slot in
    let start = optional_right [] document (codes "start") is_integer (is_between 0 START_MOST) (integer_of START_DEFAULT) (integer_of job.start) six.second is.start default_start in
    let stream_id = optional_right [] document (codes "stream_id") is_integer (is_between 0 STREAM_ID_MOST) (integer_of STREAM_ID_DEFAULT)
    (integer_of job.stream_id) six.third is.stream_id default_stream_id in
    let nodes = optional_right [] document (codes "nodes") is_integer (is_between 1 NODES_MOST) (integer_of NODES_DEFAULT) (integer_of job.nodes) six.fourth is.nodes default_nodes in
    let evaluations = optional_right [] document (codes "evaluations") is_integer (is_between 0 EVALUATIONS_MOST) (integer_of EVALUATIONS_DEFAULT)
    (integer_of job.evaluations) six.fifth is.evaluations default_evaluations in
    let count = stated_count document six.sixth in
    let same = programs_of (programs_in document) job.programs is.programs in
    let programs = valid_programs [] (programs_in document) job.programs (none_behind (refusals_of_table [] document job_fields) _ none) is.programs in
    let slot_between = between SLOT_LEAST SLOT_MOST job.slot slot.within in
    let nodes_between = between 1 NODES_MOST job.nodes nodes.within in
    record {
      slot_least = slot_between.0;
      slot_most = slot_between.1;
      start = (between 0 START_MOST job.start start.within).1;
      stream_id = (between 0 STREAM_ID_MOST job.stream_id stream_id.within).1;
      some_nodes = nodes_between.0;
      nodes = nodes_between.1;
      evaluations = (between 0 EVALUATIONS_MOST job.evaluations evaluations.within).1;
      some_program = omega (arith, count.0, same);
      few_programs = omega (arith, count.1, same);
      programs = programs.each;
      apart = programs.apart;
    }

-- what a text spells is valid
pub valid_spelled : (text : List ℕ) (result : Result JobValue JobFault) → IfOk result (λ job. SpellsJob text job) → IfOk result IsValidJob
valid_spelled text (Ok job) spelled = valid_job spelled.document job spelled.right spelled.states
valid_spelled text (Err fault) spelled = spelled

-- the default of coarser versions is within the limits
pub valid_default_coarser : (length COARSER_DEFAULT ≤ COARSER_MOST) × All IsCoarseness COARSER_DEFAULT × IsStrictlyIncreasing COARSER_DEFAULT
valid_default_coarser =
    let parts = coarser_right COARSER_MOST COARSENESS_LEAST COARSENESS_MOST COARSER_DEFAULT refl in
    let numbers = numbers_right COARSER_MOST COARSENESS_LEAST COARSENESS_MOST COARSER_DEFAULT parts.0 in
    (numbers.0, numbers.1, parts.1)
