-- What a job's file holds, from the bytes that were read of it.
use Rattle.std.proofs.Common.{◌≡◌, ℕ, ◌+◌, ◌≤◌, List, length, take, Option, Result, Ok, Err, IfOk, IfErr, sym, subst, inl, inr, arith}
use Rattle.std.proofs.lemmas.List.{length-take}
use Rattle.shelf_io.specs.Files.{Files, IfTold}
use Rattle.job_report.specs.declared.limits.TheConstants.{JOB_TEXT_MOST}
use Rattle.job_report.specs.declared.fault.JobFault.{JobFault}
use Rattle.job_report.specs.declared.fault.JobFault.TheVariants as faults
use Rattle.job_report.specs.declared.job.Job.{Job}
use Rattle.job_report.specs.JobText.{SpellsJob, IsNoDocument, IsRefusedDocument, IsRefusedFor, IsJobFaultOf}
use Rattle.job_report.specs.Refusal.{FieldRefusal, OfField}
use Rattle.command_words.proofs.Texts.{found_text, take_all_of}
use Rattle.job_files.specs.declared.job_stop.JobStop.{JobStop}
use Rattle.job_files.specs.declared.job_stop.JobStop.TheVariants.{Text, Source, Unread, Missing, OutOfMemory}
use Rattle.job_files.specs.declared.job_stop.TextRefusal.{TextRefusal}
use Rattle.job_files.specs.declared.job_stop.TextRefusal.TheVariants.{NoDocument, Field, Limit}
use Rattle.job_files.specs.JobFile.{StandsApart, IsJobOfText, IsTextRefused, HoldsJob, HoldsRefused}
use Rattle.job_files.specs.Private.Texts.{IsTextStop, IsSharedStop, stop_by}

-- what the front spells, the text spells
whole_job : (text front : List ℕ) (job : Job) → front ≡ take (JOB_TEXT_MOST + 1) text → SpellsJob front job → SpellsJob text job
whole_job text front job is spells = subst (λ (t : List ℕ). SpellsJob t job) (take_all_of JOB_TEXT_MOST text front is spells.short) spells

-- and for what the front is refused, the text is refused
whole_refused : (text front : List ℕ) (refusal : FieldRefusal) → front ≡ take (JOB_TEXT_MOST + 1) text → IsRefusedFor front refusal → IsRefusedFor text refusal
whole_refused text front refusal is (inl (long, bytes)) =
    let cut : length front ≤ length text = subst (λ (t : List ℕ). length t ≤ length text) (sym is) (omega (arith, length-take (JOB_TEXT_MOST + 1) text)) in
    inl (omega arith, bytes)
whole_refused text front refusal is (inr document) =
    inr (subst (λ (t : List ℕ). IsRefusedDocument t refusal) (take_all_of JOB_TEXT_MOST text front is document.short) document)

-- text by text
pub whole_text : (text front : List ℕ) (named : List (List ℕ)) (refusal : TextRefusal) → front ≡ take (JOB_TEXT_MOST + 1) text → IsTextRefused front named refusal
    → IsTextRefused text named refusal
whole_text text front named NoDocument is refused = subst (λ (t : List ℕ). IsNoDocument t) (take_all_of JOB_TEXT_MOST text front is refused.short) refused
whole_text text front named (Field name) is (inl refused) = inl (whole_refused text front (OfField name.bytes) is refused)
whole_text text front named (Field name) is (inr shares) =
    inr (record { job = shares.job; spells = whole_job text front shares.job is shares.spells; first = shares.first })
whole_text text front named (Limit name) is refused = whole_refused text front _ is refused

-- a job that was read
pub holds_job : (told : Option Files) (name front : List ℕ) (named : List (List ℕ)) (job : Job) → length front ≤ JOB_TEXT_MOST + 1
    → IfTold told name (λ content. front ≡ take (JOB_TEXT_MOST + 1) content) → IsJobOfText front named job → HoldsJob told name named job
holds_job told name front named job short found is =
    let (text, held, front_is) = found_text told name front (JOB_TEXT_MOST + 1) short found in
    record { text = text; held = held; is_job = record { spells = whole_job text front job front_is is.spells; apart = is.apart } }

-- a text that is refused
pub holds_refused : (told : Option Files) (name front : List ℕ) (named : List (List ℕ)) (refusal : TextRefusal) → length front ≤ JOB_TEXT_MOST + 1
    → IfTold told name (λ content. front ≡ take (JOB_TEXT_MOST + 1) content) → IsTextRefused front named refusal → HoldsRefused told name named refusal
holds_refused told name front named refusal short found is =
    let (text, held, front_is) = found_text told name front (JOB_TEXT_MOST + 1) short found in
    record { text = text; held = held; refused = whole_text text front named refusal front_is is }

-- a text whose job isn't read
pub fault_stops : (text : List ℕ) (named : List (List ℕ)) (fault : JobFault) → IsJobFaultOf text fault → IsTextStop text named (stop_by fault)
fault_stops text named faults.JobSyntax is = is
fault_stops text named (faults.JobField name) is = inl is
fault_stops text named (faults.JobLimit name) is = is
fault_stops text named faults.OutOfMemory is = tt

-- a job that was read and stands apart
pub spelled_apart : (text : List ℕ) (named : List (List ℕ)) (job : Job) (result : Result Job JobStop) → SpellsJob text job → IfOk result (λ same. same ≡ job)
    → IfOk result (λ same. StandsApart named job) → IfOk result (IsJobOfText text named)
spelled_apart text named job (Ok same) spells is apart =
    subst (λ (j : Job). IsJobOfText text named j) (sym is) (record { spells = spells; apart = apart })
spelled_apart text named job (Err stop) spells is apart = tt

-- and one of which a program stands in a file of the command's own
shared_stop : (text : List ℕ) (named : List (List ℕ)) (job : Job) (stop : JobStop) → SpellsJob text job → IsSharedStop named job stop → IsTextStop text named stop
shared_stop text named job (Text (Field name)) spells first = inr (record { job = job; spells = spells; first = first })
shared_stop text named job (Text NoDocument) spells first = absurd first
shared_stop text named job (Text (Limit name)) spells first = absurd first
shared_stop text named job (Source fault) spells first = absurd first
shared_stop text named job (Unread file) spells first = absurd first
shared_stop text named job (Missing file) spells first = absurd first
shared_stop text named job OutOfMemory spells first = tt

pub shared_stops : (text : List ℕ) (named : List (List ℕ)) (job : Job) (result : Result Job JobStop) → SpellsJob text job → IfErr result (IsSharedStop named job)
    → IfErr result (IsTextStop text named)
shared_stops text named job (Ok same) spells stops = tt
shared_stops text named job (Err stop) spells stops = shared_stop text named job stop spells stops
