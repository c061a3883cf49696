-- What becomes of the text of LIST, and of the table.
use Rattle.std.proofs.Common.{◌≡◌, ◌+◌, ◌≤◌, ℕ, List, [], ◌∷◌, All, fold, max, length, take, Option, Some, None, IfSome, refl, sym, ap, subst, ◌∙◌, inl, inr, arith}
use Rattle.std.proofs.lemmas.List.{length-take}
use Rattle.std.proofs.lemmas.List.Elements.{All-head, All-tail}
use Rattle.job_report.specs.declared.job.Job.{Job}
use Rattle.job_report.specs.ValidJob.{IsValidJob}
use Rattle.job_report.specs.declared.report.Report.{Report}
use Rattle.job_files.specs.declared.job_table.JobTable.{JobTable}
use Rattle.job_files.specs.JobFile.{HoldsJob}
use Rattle.job_files.specs.JobTable.{IsTableOfJob}
use Rattle.rate_fit.specs.declared.verdict.Verdict.{Verdict}
use Rattle.rate_fit.specs.Fit.{AreVerdicts, IsGreatestFit, in_slots}
use Rattle.rate_fit.proofs.Slots.{above_start}
use Rattle.shelf_io.specs.Files.{Files}
use Rattle.version_table.specs.declared.limits.TheConstants.{SLOT_LEAST, SLOT_MOST}
use Rattle.version_table.specs.Table.{IsValidTable, greatest}
use Rattle.command_words.specs.declared.ended.Ended.{Ended}
use Rattle.command_words.specs.declared.status.Status.TheVariants as statuses
use Rattle.command_words.specs.declared.status.JobRefusal.TheVariants.{ListSyntax}
use Rattle.command_words.specs.Ended.{EndsAtFault, EndsBy, Performs, answer_of}
use Rattle.command_words.specs.Held.{HoldsText}
use Rattle.shelf_io.specs.Facts.{ShelfFacts}
use Rattle.command_words.specs.Outside.{CountsGrow}
use Rattle.command_words.specs.Report.{refusal_report}
use Rattle.command_words.specs.Task.{AsksOnly}
use Rattle.command_words.proofs.Performed.{performs_so, performs_uncalled, wants_uncalled}
use Rattle.command_words.proofs.Texts.{take_all_of}
use Rattle.fit_command.specs.declared.limits.TheConstants.{LIST_BYTES_MOST}
use Rattle.fit_command.specs.FitCommand.{HoldsAsked, IsAskedTable, files_of_fit, fit_task, job_in}
use Rattle.fit_command.specs.ListText.{IsLineRefused, IsListRefused, IsListText}
use Rattle.fit_command.specs.Report.{slot_reports}
use Rattle.fit_command.specs.Private.Judged.{EndsByVerdicts, HoldsListFront, report_of, status_of}
use Rattle.fit_command.proofs.RunsIn.{OneSmallest, fitting_runs}

-- ---- the text of LIST

-- what the front is, the text is
whole_list : (text front slots : List ℕ) → front ≡ take (LIST_BYTES_MOST + 1) text → IsListText front slots → IsListText text slots
whole_list text front slots is list = subst (λ (t : List ℕ). IsListText t slots) (take_all_of LIST_BYTES_MOST text front is list.short) list

whole_refused : (text front : List ℕ) (line : ℕ) → front ≡ take (LIST_BYTES_MOST + 1) text → IsListRefused front line → IsListRefused text line
whole_refused text front line is (inl (long, first)) =
    let cut : length front ≤ length text = subst (λ (t : List ℕ). length t ≤ length text) (sym is) (omega (arith, length-take (LIST_BYTES_MOST + 1) text)) in
    inl (omega (arith, long, cut), first)
whole_refused text front line is (inr (short, refused)) =
    let whole : front ≡ text = take_all_of LIST_BYTES_MOST text front is short in
    inr (subst (λ (t : List ℕ). length t ≤ LIST_BYTES_MOST) whole short, subst (λ (t : List ℕ). IsLineRefused t line) whole refused)

-- a list that was read
pub asked_of : (told : Option Files) (name list front : List ℕ) (job : Job) (slots : List ℕ) → HoldsJob told name (files_of_fit name list) job → HoldsListFront told list front
    → IsListText front slots → HoldsAsked told name list job slots
asked_of told name list front job slots holds held is =
    record { job_is = holds; slots_are = record { text = held.text; held = held.held; is_list = whole_list held.text front slots held.front_is is } }

-- one that is refused
pub refused_ends : (name list : List ℕ) (facts : ShelfFacts) (front : List ℕ) (job : Job) (line : ℕ) (report : Report) (result : Option Ended)
    → HoldsJob facts.files name (files_of_fit name list) job → HoldsListFront facts.files list front → IsListRefused front line → report ≡ refusal_report (ListSyntax line)
    → IfSome result (EndsBy (statuses.JobRefused (ListSyntax line)) report) → Performs (fit_task name list) facts facts (answer_of result)
refused_ends name list facts front job line report result holds held is report_is so =
    let refused = whole_refused held.text front line held.front_is is in
    performs_uncalled (fit_task name list) facts result (statuses.JobRefused (ListSyntax line)) report (refusal_report (ListSyntax line)) so report_is
    (λ files told. (
      (
        job,
        held.text,
        subst (λ (t : Option Files). HoldsJob t name (files_of_fit name list) job) told holds,
        subst (λ (t : Option Files). HoldsText t list held.text) told held.held,
        refused,
      ),
      refl,
    )) (λ files. refl)
    (record { may = tt; says = refl; called = (job, held.text, holds, held.held, refused) })

-- ---- the verdicts

on_told : (told : Option Files) (name list : List ℕ) (job : Job) (slots : List ℕ) (made : JobTable) (held : Files) → told ≡ Some held → IsAskedTable told name list job slots made
    → IsAskedTable (Some held) name list job slots made
on_told told name list job slots made held is table = subst (λ (t : Option Files). IsAskedTable t name list job slots made) is table

found_ends : OneSmallest → (name list : List ℕ) (old new : ShelfFacts) (job : Job) (slots : List ℕ) (made : JobTable) (verdicts : List Verdict) (found : Option ℕ) (ended : Ended)
    → IsAskedTable old.files name list job slots made → AreVerdicts made.table slots verdicts → IsGreatestFit made.table slots found
    → EndsBy (status_of found) (report_of found slots verdicts) ended → new.files ≡ old.files → EndsAtFault old new (answer_of (Some ended)) → CountsGrow old.counts new.counts
    → AsksOnly (fit_task name list) old.files old.asked new.asked → Performs (fit_task name list) old new (answer_of (Some ended))
found_ends law name list old new job slots made verdicts (Some fit) ended is are best so same fault counts asks =
    let report = report_of (Some fit) slots verdicts in
    performs_so (fit_task name list) old new (Some ended) statuses.Ok report report so refl same
    (λ held told. let on = on_told old.files name list job slots made held told is in (
      (
        job,
        slots,
        made,
        verdicts,
        fit,
        on,
        are,
        best,
        fitting_runs law (Some held) job (greatest slots) fit made on.table best.1,
        refl,
      ),
      refl,
    )) (λ held. refl)
    (job, slots, made, verdicts, fit, is, are, best, fitting_runs law old.files job (greatest slots) fit made is.table best.1, refl) fault counts asks
found_ends law name list old new job slots made verdicts None ended is are best so same fault counts asks =
    let report = report_of None slots verdicts in
    performs_so (fit_task name list) old new (Some ended) statuses.NoFit report report so refl same
    (λ held told. ((job, slots, made, on_told old.files name list job slots made held told is, best), refl)) (λ held. refl)
    (slot_reports slots verdicts, (job, slots, made, verdicts, is, are, best, refl), refl) fault counts asks

-- the verdicts on the table of the programs
pub verdicts_perform : OneSmallest → (name list : List ℕ) (facts : ShelfFacts) (job : Job) (slots : List ℕ) (made : JobTable) (result : Option Ended)
    → IsAskedTable facts.files name list job slots made → IfSome result (EndsByVerdicts made.table slots) → EndsAtFault facts facts (answer_of result)
    → CountsGrow facts.counts facts.counts → AsksOnly (fit_task name list) facts.files facts.asked facts.asked → Performs (fit_task name list) facts facts (answer_of result)
verdicts_perform law name list facts job slots made None is so fault counts asks = wants_uncalled (fit_task name list) facts (λ held. refl)
verdicts_perform law name list facts job slots made (Some ended) is (verdicts, found, are, best, ends) fault counts asks =
    found_ends law name list facts facts job slots made verdicts found ended is are best ends refl fault counts asks

-- ---- the longest slot

within_most : (start most : ℕ) (slots : List ℕ) → start ≤ most → All (λ slot. (SLOT_LEAST ≤ slot) × (slot ≤ most)) slots → fold max start slots ≤ most
within_most start most [] few all = few
within_most start most (slot ∷ slots) few all =
    let own = All-head (λ (s : ℕ). (SLOT_LEAST ≤ s) × (s ≤ most)) slot slots all in
    within_most (max start slot) most slots (omega (arith, few, own.1)) (All-tail (λ (s : ℕ). (SLOT_LEAST ≤ s) × (s ≤ most)) slot slots all)

-- the longest of some slots is within the limits of slots
pub longest_within : (slots : List ℕ) → 1 ≤ length slots → All (λ slot. (SLOT_LEAST ≤ slot) × (slot ≤ SLOT_MOST)) slots → (SLOT_LEAST ≤ greatest slots) × (greatest slots ≤ SLOT_MOST)
longest_within [] some all = absurd (omega (arith, some))
longest_within (slot ∷ slots) some all =
    let own = All-head (λ (s : ℕ). (SLOT_LEAST ≤ s) × (s ≤ SLOT_MOST)) slot slots all in
    (omega (arith, own.0, above_start (max 0 slot) slots), within_most 0 SLOT_MOST (slot ∷ slots) (omega arith) all)

-- a job in such slots is one
pub valid_in : (slot : ℕ) (job : Job) → SLOT_LEAST ≤ slot → slot ≤ SLOT_MOST → IsValidJob job → IsValidJob (job_in slot job)
valid_in slot job least most valid = record {
  slot_least = least;
  slot_most = most;
  start = valid.start;
  stream_id = valid.stream_id;
  some_nodes = valid.some_nodes;
  nodes = valid.nodes;
  evaluations = valid.evaluations;
  some_program = valid.some_program;
  few_programs = valid.few_programs;
  programs = valid.programs;
  apart = valid.apart;
}

-- the table of a job is valid in the job's slots
pub valid_table : (told : Option Files) (slot : ℕ) (job : Job) (made : JobTable) → IsTableOfJob told (job_in slot job) made → IsValidTable made.table → IsValidTable (in_slots slot made.table)
valid_table told slot job made is valid =
    let own : made.table.slot ≡ slot = is.table.slot ∙ ap (λ (j : Job). j.slot) is.job_is in
    subst (λ (s : ℕ). IsValidTable (in_slots s made.table)) own valid
