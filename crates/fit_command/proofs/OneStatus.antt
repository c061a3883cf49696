-- What JOB, LIST and the files that the job names hold calls for one status.
use Rattle.std.proofs.Common.{◌≡◌, ◌≢◌, ℕ, ◌≤◌, List, Some, None, refl, sym, ap, subst, ◌∙◌, inl, inr, arith}
use Rattle.std.specs.FinMap.{get}
use Rattle.std.proofs.lemmas.Bool.{cases_lt}
use Rattle.job_programs.specs.declared.source_fault.SourceFault.{SourceFault}
use Rattle.job_programs.specs.Told.{AreProgramsOn, IsMissingOn, IsRefusedOn}
use Rattle.job_report.specs.declared.job.Job.{Job}
use Rattle.job_files.specs.declared.job_stop.TextRefusal.{TextRefusal}
use Rattle.job_files.specs.declared.job_stop.TextRefusal.TheVariants.{NoDocument, Field, Limit}
use Rattle.job_files.specs.declared.job_table.JobTable.{JobTable}
use Rattle.job_files.specs.JobFile.{HoldsJob, HoldsRefused}
use Rattle.job_files.proofs.OneJob.{ProgramLaws, held_or_lacked, held_or_refused, one_job, one_refusal, one_text}
use Rattle.program_reader.specs.declared.program.Program.{Program}
use Rattle.program_table.specs.Table.{IsTableOf}
use Rattle.rate_fit.specs.Fit.{FitsIn, IsGreatestFit}
use Rattle.shelf_io.specs.Files.{Files}
use Rattle.version_table.specs.declared.table.Table.{Table}
use Rattle.version_table.specs.Table.{greatest}
use Rattle.command_words.specs.declared.status.Status.{Status}
use Rattle.command_words.specs.declared.status.Status.TheVariants as statuses
use Rattle.command_words.specs.declared.status.JobRefusal.{JobRefusal}
use Rattle.command_words.specs.declared.status.JobRefusal.TheVariants.{JobSyntax, JobField, JobLimit, ListSyntax}
use Rattle.command_words.specs.Status.{IsSameStatus}
use Rattle.fit_command.specs.FitCommand.{FitCallsFor, HoldsAsked, IsAskedTable, IsNextFitFile, files_of_fit, job_in}
use Rattle.fit_command.specs.ListText.{IsListRefused, IsListText}
use Rattle.fit_command.proofs.OneList.{list_or_refused, one_list, one_refused_line}

-- ---- what comes of the files, in the order in which they are read

-- a refusal, a file that isn't there, or a table
data Came (files : Files) (name list : List ℕ) : Type 0 where
  no_name : get files name ≡ None → Came files name list
  text : (refusal : TextRefusal) → HoldsRefused (Some files) name (files_of_fit name list) refusal → Came files name list
  no_list : (job : Job) → HoldsJob (Some files) name (files_of_fit name list) job → get files list ≡ None → Came files name list
  bad_list : (job : Job) (words : List ℕ) (line : ℕ) → HoldsJob (Some files) name (files_of_fit name list) job → get files list ≡ Some words
      → IsListRefused words line → Came files name list
  no_program : (job : Job) (slots : List ℕ) (number : ℕ) → HoldsAsked (Some files) name list job slots
      → IsMissingOn files (job_in (greatest slots) job) number → Came files name list
  bad_program : (job : Job) (slots : List ℕ) (fault : SourceFault) → HoldsAsked (Some files) name list job slots
      → IsRefusedOn (Some files) (job_in (greatest slots) job) fault → Came files name list
  found : (job : Job) (slots : List ℕ) (made : JobTable) → IsAskedTable (Some files) name list job slots made → Came files name list

-- a table fits in some slot or in none
fits_or_none : (table : Table) (slots : List ℕ) (fit : ℕ) → IsGreatestFit table slots (Some fit) → IsGreatestFit table slots None → ⊥
fits_or_none table slots fit (among, fits, most) none = none among.0 fit among.1 (subst (λ (s : ℕ). FitsIn table s) (sym among.2) fits)

module _ (laws : ProgramLaws) (name list : List ℕ) (files : Files) where
  abbrev named : List (List ℕ)
  named = files_of_fit name list

  -- a file that isn't there, a refused job, list or program, or a table
  abbrev kind : Came files name list → ℕ
  kind (no_name is) = 0
  kind (text refusal is) = 1
  kind (no_list job holds is) = 0
  kind (bad_list job words line holds held is) = 2
  kind (no_program job slots number asked is) = 0
  kind (bad_program job slots fault asked is) = 3
  kind (found job slots made is) = 4

  -- ---- two of them

  named_or_lacked : (job : Job) → HoldsJob (Some files) name named job → get files name ≡ None → ⊥
  named_or_lacked job holds lacks = held_or_lacked files name holds.text holds.held lacks

  asked_or_refused_list : (job : Job) (slots words : List ℕ) (line : ℕ) → HoldsAsked (Some files) name list job slots → get files list ≡ Some words
      → IsListRefused words line → ⊥
  asked_or_refused_list job slots words line asked held refused =
      let own = asked.slots_are in
      let same : own.text ≡ words = one_text files list own.text words own.held held in
      list_or_refused words slots line (subst (λ (t : List ℕ). IsListText t slots) same own.is_list) refused

  asked_or_lacked : (job : Job) (slots : List ℕ) → HoldsAsked (Some files) name list job slots → get files list ≡ None → ⊥
  asked_or_lacked job slots asked lacks = held_or_lacked files list asked.slots_are.text asked.slots_are.held lacks

  module _ (job other : Job) (slots more : List ℕ) (a : HoldsAsked (Some files) name list job slots) (b : HoldsAsked (Some files) name list other more) where
    -- one list
    one_slots : slots ≡ more
    one_slots =
        let x = a.slots_are in
        let y = b.slots_are in
        let texts : x.text ≡ y.text = one_text files list x.text y.text x.held y.held in
        one_list y.text slots more (subst (λ (t : List ℕ). IsListText t slots) texts x.is_list) y.is_list

    -- and one job
    one_asked : job_in (greatest slots) job ≡ job_in (greatest more) other
    one_asked =
        let jobs = one_job files name named job other a.job_is b.job_is in
        ap (λ (j : Job). job_in (greatest slots) j) jobs ∙ ap (λ (s : List ℕ). job_in (greatest s) other) one_slots

    missing_or_refused : (number : ℕ) (fault : SourceFault) → IsMissingOn files (job_in (greatest slots) job) number
        → IsRefusedOn (Some files) (job_in (greatest more) other) fault → ⊥
    missing_or_refused number fault missing =
        laws.missing_without_refusal files (job_in (greatest more) other) number fault (subst (λ (j : Job). IsMissingOn files j number) one_asked missing)

  -- the programs of the table
  asked_programs : (job : Job) (slots : List ℕ) (made : JobTable) → IsAskedTable (Some files) name list job slots made
      → AreProgramsOn (Some files) (job_in (greatest slots) job) made.programs
  asked_programs job slots made is = subst (λ (j : Job). AreProgramsOn (Some files) j made.programs) is.table.job_is is.table.programs

  module _ (job other : Job) (slots more : List ℕ) (made : JobTable) (asked : HoldsAsked (Some files) name list job slots)
      (is : IsAskedTable (Some files) name list other more made) where
    missing_or_found : (number : ℕ) → IsMissingOn files (job_in (greatest slots) job) number → ⊥
    missing_or_found number missing =
        let moved = subst (λ (j : Job). IsMissingOn files j number) (one_asked job other slots more asked is.asked) missing in
        laws.missing_without_programs files (job_in (greatest more) other) number made.programs moved (asked_programs other more made is)

    refused_or_found : (fault : SourceFault) → IsRefusedOn (Some files) (job_in (greatest slots) job) fault → ⊥
    refused_or_found fault refused =
        let moved = subst (λ (j : Job). IsRefusedOn (Some files) j fault) (one_asked job other slots more asked is.asked) refused in
        laws.never_both files (job_in (greatest more) other) made.programs fault (asked_programs other more made is) moved

  -- in which order they are found
  abbrev order : Came files name list → ℕ
  order (no_name is) = 0
  order (text refusal is) = 1
  order (no_list job holds is) = 2
  order (bad_list job words line holds held is) = 3
  order (no_program job slots number asked is) = 4
  order (bad_program job slots fault asked is) = 5
  order (found job slots made is) = 6

  ordered : (a b : Came files name list) → order a ≤ order b → kind a ≡ kind b
  ordered (no_name is) (no_name also) le = refl
  ordered (no_name is) (text refusal b) le = absurd (held_or_lacked files name b.text b.held is)
  ordered (no_name is) (no_list job holds lacks) le = refl
  ordered (no_name is) (bad_list job words line holds held b) le = absurd (named_or_lacked job holds is)
  ordered (no_name is) (no_program job slots number asked b) le = refl
  ordered (no_name is) (bad_program job slots fault asked b) le = absurd (named_or_lacked job asked.job_is is)
  ordered (no_name is) (found job slots made b) le = absurd (named_or_lacked job b.asked.job_is is)
  ordered (text refusal is) (text other also) le = refl
  ordered (text refusal is) (no_list job holds lacks) le = absurd (held_or_refused files name named job refusal holds is)
  ordered (text refusal is) (bad_list job words line holds held b) le = absurd (held_or_refused files name named job refusal holds is)
  ordered (text refusal is) (no_program job slots number asked b) le = absurd (held_or_refused files name named job refusal asked.job_is is)
  ordered (text refusal is) (bad_program job slots fault asked b) le = absurd (held_or_refused files name named job refusal asked.job_is is)
  ordered (text refusal is) (found job slots made b) le = absurd (held_or_refused files name named job refusal b.asked.job_is is)
  ordered (no_list job holds is) (no_list other has also) le = refl
  ordered (no_list job holds is) (bad_list other words line has held b) le = absurd (held_or_lacked files list words held is)
  ordered (no_list job holds is) (no_program other slots number asked b) le = refl
  ordered (no_list job holds is) (bad_program other slots fault asked b) le = absurd (asked_or_lacked other slots asked is)
  ordered (no_list job holds is) (found other slots made b) le = absurd (asked_or_lacked other slots b.asked is)
  ordered (bad_list job words line holds held is) (bad_list other more at has holds_too b) le = refl
  ordered (bad_list job words line holds held is) (no_program other slots number asked b) le =
      absurd (asked_or_refused_list other slots words line asked held is)
  ordered (bad_list job words line holds held is) (bad_program other slots fault asked b) le =
      absurd (asked_or_refused_list other slots words line asked held is)
  ordered (bad_list job words line holds held is) (found other slots made b) le = absurd (asked_or_refused_list other slots words line b.asked held is)
  ordered (no_program job slots number asked is) (no_program other more at known b) le = refl
  ordered (no_program job slots number asked is) (bad_program other more fault known b) le =
      absurd (missing_or_refused job other slots more asked known number fault is b)
  ordered (no_program job slots number asked is) (found other more made b) le = absurd (missing_or_found job other slots more made asked b number is)
  ordered (bad_program job slots fault asked is) (bad_program other more next known b) le = refl
  ordered (bad_program job slots fault asked is) (found other more made b) le = absurd (refused_or_found job other slots more made asked b fault is)
  ordered (found job slots made is) (found other more made_too b) le = refl
  ordered a b le = absurd (omega (arith, le))

  -- they are of one kind
  one_kind : (a b : Came files name list) → kind a ≡ kind b
  one_kind a b = elim (cases_lt (order a) (order b)) [
    | inl less ↦ ordered a b (omega (arith, less))
    | inr more ↦ sym (ordered b a more)
  ]

  -- ---- tables

  one_asked_table : (job other : Job) (slots more : List ℕ) (made same : JobTable) → IsAskedTable (Some files) name list job slots made
      → IsAskedTable (Some files) name list other more same → made.table ≡ same.table
  one_asked_table job other slots more made same a b =
      let jobs = one_asked job other slots more a.asked b.asked in
      let target = job_in (greatest more) other in
      let first : AreProgramsOn (Some files) target made.programs =
      subst (λ (j : Job). AreProgramsOn (Some files) j made.programs) jobs (asked_programs job slots made a) in
      let programs = laws.programs files target made.programs same.programs first (asked_programs other more same b) in
      let table : IsTableOf target made.programs made.table =
      subst (λ (j : Job). IsTableOf j made.programs made.table) jobs
      (subst (λ (j : Job). IsTableOf j made.programs made.table) a.table.job_is a.table.table) in
      let last : IsTableOf target same.programs same.table =
      subst (λ (j : Job). IsTableOf j same.programs same.table) b.table.job_is b.table.table in
      laws.table target same.programs made.table same.table (subst (λ (p : List Program). IsTableOf target p made.table) programs table) last

  never_both : (job other : Job) (slots more : List ℕ) (made same : JobTable) (fit : ℕ) → IsAskedTable (Some files) name list job slots made
      → IsAskedTable (Some files) name list other more same → IsGreatestFit made.table slots (Some fit) → IsGreatestFit same.table more None → ⊥
  never_both job other slots more made same fit a b best none =
      let tables = one_asked_table job other slots more made same a b in
      let lists = one_slots job other slots more a.asked b.asked in
      let moved = subst (λ (t : Table). IsGreatestFit t slots (Some fit)) tables best in
      fits_or_none same.table more fit (subst (λ (s : List ℕ). IsGreatestFit same.table s (Some fit)) lists moved) none

  -- ---- of statuses

  came_missing : (file : List ℕ) → IsNextFitFile (Some files) name list file → get files file ≡ None → (c : Came files name list) × (kind c ≡ 0)
  came_missing file (inl own) lacks = (no_name (subst (λ (f : List ℕ). get files f ≡ None) own lacks), refl)
  came_missing file (inr (inl (job, holds, own))) lacks = (no_list job holds (subst (λ (f : List ℕ). get files f ≡ None) own lacks), refl)
  came_missing file (inr (inr (job, slots, asked, next))) lacks = (
    no_program job slots next.number asked
        (record { stopped = next.program; stops = next.stops; lacks = subst (λ (f : List ℕ). get files f ≡ None) next.file_is lacks }),
    refl,
  )

  -- of which kind that is what calls for a status
  abbrev kind_of : Status → ℕ
  kind_of statuses.Missing = 0
  kind_of (statuses.JobRefused (ListSyntax line)) = 2
  kind_of (statuses.JobRefused refusal) = 1
  kind_of (statuses.SourceRefused fault) = 3
  kind_of status = 4

  kind_of_refused : (refusal : JobRefusal) → (1 ≤ kind_of (statuses.JobRefused refusal)) × (kind_of (statuses.JobRefused refusal) ≤ 2)
  kind_of_refused (ListSyntax line) = (omega arith, omega arith)
  kind_of_refused refusal = (omega arith, omega arith)

  came : (s : Status) → FitCallsFor name list (Some files) s → (c : Came files name list) × (kind c ≡ kind_of s)
  came statuses.Ok a = (found a.0 a.1 a.2 a.4, refl)
  came statuses.NoFit a = (found a.0 a.1 a.2 a.3, refl)
  came (statuses.JobRefused JobSyntax) a = (text NoDocument a, refl)
  came (statuses.JobRefused (JobField field)) a = (text (Field field) a, refl)
  came (statuses.JobRefused (JobLimit field)) a = (text (Limit field) a, refl)
  came (statuses.JobRefused (ListSyntax line)) a = (bad_list a.0 a.1 line a.2 a.3 a.4, refl)
  came (statuses.SourceRefused fault) a = (bad_program a.0 a.1 fault a.2 a.3, refl)
  came statuses.Missing a = came_missing a.0 a.1 a.2
  came status a = absurd a

  -- two of different kinds aren't both called for
  apart : (s t : Status) → FitCallsFor name list (Some files) s → FitCallsFor name list (Some files) t → kind_of s ≢ kind_of t → ⊥
  apart s t a b differ =
      let x = came s a in
      let y = came t b in
      differ (sym x.1 ∙ one_kind x.0 y.0 ∙ y.1)

  -- nor what is of another kind than a refused job and a refused list beside one of these
  unrefused : (s : Status) (refusal : JobRefusal) → FitCallsFor name list (Some files) s → FitCallsFor name list (Some files) (statuses.JobRefused refusal)
      → (1 ≤ kind_of s → 3 ≤ kind_of s) → ⊥
  unrefused s refusal a b other =
      let among = kind_of_refused refusal in
      apart s (statuses.JobRefused refusal) a b (λ same. absurd (let past = other (omega (arith, same, among.0)) in omega (arith, same, among.1, past)))

  one_line : (a b : ℕ) → FitCallsFor name list (Some files) (statuses.JobRefused (ListSyntax a)) → FitCallsFor name list (Some files) (statuses.JobRefused (ListSyntax b)) → a ≡ b
  one_line m n a b = one_refused_line b.1 m n (subst (λ (t : List ℕ). IsListRefused t m) (one_text files list a.1 b.1 a.3 b.3) a.4) b.4

  one_fault : (fault other : SourceFault) → FitCallsFor name list (Some files) (statuses.SourceRefused fault) → FitCallsFor name list (Some files) (statuses.SourceRefused other)
      → fault ≡ other
  one_fault fault other a b =
      let moved = subst (λ (j : Job). IsRefusedOn (Some files) j fault) (one_asked a.0 b.0 a.1 b.1 a.2 b.2) a.3 in
      laws.refused files (job_in (greatest b.1) b.0) fault other moved b.3

  -- what is called for is one
  pub fit_calls_for_one : (s t : Status) → FitCallsFor name list (Some files) s → FitCallsFor name list (Some files) t → IsSameStatus s t
  fit_calls_for_one statuses.Ok statuses.Ok a b = refl
  fit_calls_for_one statuses.Ok statuses.NoFit a b = absurd (never_both a.0 b.0 a.1 b.1 a.2 b.2 a.3 a.4 b.3 a.5 b.4)
  fit_calls_for_one statuses.NoFit statuses.Ok a b = absurd (never_both b.0 a.0 b.1 a.1 b.2 a.2 b.3 b.4 a.3 b.5 a.4)
  fit_calls_for_one statuses.NoFit statuses.NoFit a b = refl
  fit_calls_for_one (statuses.JobRefused JobSyntax) (statuses.JobRefused JobSyntax) a b = one_refusal files name named NoDocument NoDocument a b
  fit_calls_for_one (statuses.JobRefused JobSyntax) (statuses.JobRefused (JobField next)) a b = one_refusal files name named NoDocument (Field next) a b
  fit_calls_for_one (statuses.JobRefused JobSyntax) (statuses.JobRefused (JobLimit next)) a b = one_refusal files name named NoDocument (Limit next) a b
  fit_calls_for_one (statuses.JobRefused (JobField one)) (statuses.JobRefused JobSyntax) a b = one_refusal files name named (Field one) NoDocument a b
  fit_calls_for_one (statuses.JobRefused (JobField one)) (statuses.JobRefused (JobField next)) a b = one_refusal files name named (Field one) (Field next) a b
  fit_calls_for_one (statuses.JobRefused (JobField one)) (statuses.JobRefused (JobLimit next)) a b = one_refusal files name named (Field one) (Limit next) a b
  fit_calls_for_one (statuses.JobRefused (JobLimit one)) (statuses.JobRefused JobSyntax) a b = one_refusal files name named (Limit one) NoDocument a b
  fit_calls_for_one (statuses.JobRefused (JobLimit one)) (statuses.JobRefused (JobField next)) a b = one_refusal files name named (Limit one) (Field next) a b
  fit_calls_for_one (statuses.JobRefused (JobLimit one)) (statuses.JobRefused (JobLimit next)) a b = one_refusal files name named (Limit one) (Limit next) a b
  fit_calls_for_one (statuses.JobRefused (ListSyntax one)) (statuses.JobRefused (ListSyntax next)) a b = one_line one next a b
  fit_calls_for_one (statuses.SourceRefused one) (statuses.SourceRefused next) a b = ap statuses.SourceRefused (one_fault one next a b)
  fit_calls_for_one statuses.Missing statuses.Missing a b = refl
  fit_calls_for_one statuses.Ok (statuses.JobRefused refusal) a b = absurd (unrefused statuses.Ok refusal a b (λ some. omega (arith, some)))
  fit_calls_for_one (statuses.JobRefused refusal) statuses.Ok a b = absurd (unrefused statuses.Ok refusal b a (λ some. omega (arith, some)))
  fit_calls_for_one statuses.NoFit (statuses.JobRefused refusal) a b = absurd (unrefused statuses.NoFit refusal a b (λ some. omega (arith, some)))
  fit_calls_for_one (statuses.JobRefused refusal) statuses.NoFit a b = absurd (unrefused statuses.NoFit refusal b a (λ some. omega (arith, some)))
  fit_calls_for_one (statuses.SourceRefused fault) (statuses.JobRefused refusal) a b = absurd (unrefused (statuses.SourceRefused fault) refusal a b (λ some. omega (arith, some)))
  fit_calls_for_one (statuses.JobRefused refusal) (statuses.SourceRefused fault) a b = absurd (unrefused (statuses.SourceRefused fault) refusal b a (λ some. omega (arith, some)))
  fit_calls_for_one statuses.Missing (statuses.JobRefused refusal) a b = absurd (unrefused statuses.Missing refusal a b (λ some. omega (arith, some)))
  fit_calls_for_one (statuses.JobRefused refusal) statuses.Missing a b = absurd (unrefused statuses.Missing refusal b a (λ some. omega (arith, some)))
  fit_calls_for_one s t a b = absurd (apart s t a b (λ same. absurd (omega (arith, same))))
