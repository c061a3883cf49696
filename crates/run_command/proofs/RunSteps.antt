-- What `run` writes, in two files.
use Rattle.std.proofs.Common.{◌≡◌, ◌≤◌, ℕ, List, length, take, Option, Some, None, Result, Err, ◌≢◌, ◌↔◌, refl, sym, ap, subst, ◌∙◌, inl, inr, arith}
use Rattle.std.proofs.Math.Seq.{take-length}
use Rattle.std.specs.FinMap.{insert}
use Rattle.bound_certificate.specs.declared.cert.Cert.{Cert}
use Rattle.bound_certificate.specs.Spelling.{cert_spelling}
use Rattle.job_report.specs.Report.{report_line}
use Rattle.run_report.specs.Report.{run_report}
use Rattle.shelf_io.specs.Asked.{AsksNothing}
use Rattle.shelf_io.specs.Causes.{WriteCauses}
use Rattle.shelf_io.specs.Files.{Files, with_content}
use Rattle.shelf_io.specs.WholeFile.{HoldsPrefix}
use Rattle.shelf_io.proofs.Counted.{rose_later}
use Rattle.slot_rule.specs.declared.schedules.ScheduleFault.{ScheduleFault}
use Rattle.slot_rule.specs.declared.schedules.ScheduleFault.TheVariants.{Missed, OutOfMemory}
use Rattle.slot_rule.specs.declared.sent.Miss.{Miss}
use Rattle.slot_rule.specs.declared.slot_list.SlotList.{SlotList}
use Rattle.slot_rule.specs.Schedule.{IsScheduled, IsFirstMiss}
use Rattle.slot_rule.specs.SlotList.{IsSlotList}
use Rattle.version_table.specs.declared.table.Table.{Table}
use Rattle.command_words.specs.declared.ended.Ended.{Ended}
use Rattle.command_words.specs.declared.status.Status.{Status}
use Rattle.command_words.specs.Answer.{AnswerHasCause, Decides, EndsWithStatus, HasCause}
use Rattle.command_words.specs.Ended.{Performs, answer_of}
use Rattle.shelf_io.specs.Facts.{ShelfFacts}
use Rattle.command_words.specs.Outside.{CountsGrow, OnFiles}
use Rattle.command_words.proofs.Counted.{asks_none, counts_twice, write_grows}
use Rattle.command_words.proofs.Ends.{ends_behind_write}
use Rattle.job_files.specs.declared.job_table.JobTable.{JobTable}
use Rattle.job_files.specs.JobTable.{IsJobTable}
use Rattle.plan_command.specs.Plan.{IsPlan}
use Rattle.run_command.specs.declared.steps.Prepared.{Prepared}
use Rattle.run_command.specs.Private.Prepared.{CertificateHasCause, Certifies, EndsCertificate, IsPrepared}
use Rattle.run_command.specs.RunCommand.{RunWork, IsWork, RunDone, RunLeaves, files_of_run, run_task}
use Rattle.run_command.specs.Private.StreamFile.{HoldsStream, HoldsStreamPart}
use Rattle.run_command.specs.Written.{IsStreamOn}

-- the work of a run, from its parts
abbrev work_of : JobTable → Cert → SlotList → List ℕ → RunWork
work_of made cert slots stream = record { made = made; cert = cert; slots = slots; stream = stream }

is_work : (told : Option Files) (job out certificate : List ℕ) (made : JobTable) (cert : Cert) (slots : SlotList) (stream : List ℕ)
    → IsJobTable told job (files_of_run job out certificate) made → IsPlan made.table cert → IsSlotList made.table cert.choice slots
    → IsStreamOn told made cert.choice slots stream → IsWork told job out certificate (work_of made cert slots stream)
is_work told job out certificate made cert slots stream has plan are stands = record { made = has; is_plan = plan; are_slots = are; is_stream = stands }

-- both files were written whole
run_done : (job out certificate : List ℕ) (old middle new : Option Files) (made : JobTable) (cert : Cert) (slots : SlotList) (bytes line : List ℕ)
    → IsPlan made.table cert → IsSlotList made.table cert.choice slots → HoldsStream old middle out made cert.choice slots
    → bytes ≡ cert_spelling cert → new ≡ with_content middle certificate bytes
    → line ≡ report_line (run_report made.job.programs made.programs cert slots.slots)
    → OnFiles old new (λ held after. IsJobTable (Some held) job (files_of_run job out certificate) made → RunDone job out certificate held line after)
run_done job out certificate None middle new made cert slots bytes line plan are holds spelled written says = tt
run_done job out certificate (Some held) middle new made cert slots bytes line plan are (stream, stands, first) spelled written says =
    let work = work_of made cert slots stream in
    let whole : Some (insert (insert held out stream) certificate (cert_spelling cert)) ≡ new =
    sym (written ∙ ap (λ (told : Option Files). with_content told certificate bytes) first ∙ ap (λ (b : List ℕ). Some (insert (insert held out stream) certificate b)) spelled) in
    subst (λ (n : Option Files). OnFiles (Some held) n (λ held after. IsJobTable (Some held) job (files_of_run job out certificate) made → RunDone job out certificate held line after))
    whole (λ has. (work, is_work (Some held) job out certificate made cert slots stream has plan are stands, says, refl))

-- the stream was broken off
stream_left : (job out certificate : List ℕ) (old new : Option Files) (made : JobTable) (cert : Cert) (slots : SlotList)
    → IsPlan made.table cert → IsSlotList made.table cert.choice slots → HoldsStreamPart old new out made cert.choice slots
    → OnFiles old new (λ held after. IsJobTable (Some held) job (files_of_run job out certificate) made → RunLeaves job out certificate held after)
stream_left job out certificate None new made cert slots plan are part = tt
stream_left job out certificate (Some held) new made cert slots plan are (inl same) = left_as_it_was new same
  where
    left_as_it_was : (n : Option Files) → n ≡ Some held
        → OnFiles (Some held) n (λ held after. IsJobTable (Some held) job (files_of_run job out certificate) made → RunLeaves job out certificate held after)
    left_as_it_was None e = cc
    left_as_it_was (Some after) e = λ has. inl (cc)
stream_left job out certificate (Some held) new made cert slots plan are (inr (stream, stands, inl same)) = left_as_it_was new same
  where
    left_as_it_was : (n : Option Files) → n ≡ Some held
        → OnFiles (Some held) n (λ held after. IsJobTable (Some held) job (files_of_run job out certificate) made → RunLeaves job out certificate held after)
    left_as_it_was None e = cc
    left_as_it_was (Some after) e = λ has. inl (cc)
stream_left job out certificate (Some held) new made cert slots plan are (inr (stream, stands, inr (k, few, written))) =
    let work = work_of made cert slots stream in
    subst (λ (n : Option Files). OnFiles (Some held) n (λ held after. IsJobTable (Some held) job (files_of_run job out certificate) made → RunLeaves job out certificate held after))
    (sym written) (λ has. inr (work, is_work (Some held) job out certificate made cert slots stream has plan are stands, inl (k, few, refl)))

-- the certificate was broken off
certificate_left : (job out certificate : List ℕ) (old middle new : Option Files) (made : JobTable) (cert : Cert) (slots : SlotList) (bytes : List ℕ)
    → IsPlan made.table cert → IsSlotList made.table cert.choice slots → HoldsStream old middle out made cert.choice slots
    → bytes ≡ cert_spelling cert → HoldsPrefix middle new certificate bytes
    → OnFiles old new (λ held after. IsJobTable (Some held) job (files_of_run job out certificate) made → RunLeaves job out certificate held after)
certificate_left job out certificate None middle new made cert slots bytes plan are holds spelled part = tt
certificate_left job out certificate (Some held) middle new made cert slots bytes plan are (stream, stands, first) spelled (inl same) =
    let work = work_of made cert slots stream in
    subst (λ (n : Option Files). OnFiles (Some held) n (λ held after. IsJobTable (Some held) job (files_of_run job out certificate) made → RunLeaves job out certificate held after))
    (sym (same ∙ first ∙ ap (λ (s : List ℕ). Some (insert held out s)) (sym (take-length stream))))
    (λ has. inr (work, is_work (Some held) job out certificate made cert slots stream has plan are stands, inl (length stream, omega arith, refl)))
certificate_left job out certificate (Some held) middle new made cert slots bytes plan are (stream, stands, first) spelled (inr (k, few, written)) =
    let work = work_of made cert slots stream in
    let whole : new ≡ Some (insert (insert held out stream) certificate (take k (cert_spelling cert))) =
    written ∙ ap (λ (told : Option Files). with_content told certificate (take k bytes)) first
    ∙ ap (λ (b : List ℕ). Some (insert (insert held out stream) certificate (take k b))) spelled in
    subst (λ (n : Option Files). OnFiles (Some held) n (λ held after. IsJobTable (Some held) job (files_of_run job out certificate) made → RunLeaves job out certificate held after))
    (sym whole)
    (λ has. inr (work, is_work (Some held) job out certificate made cert slots stream has plan are stands, inr (k, subst (λ (b : List ℕ). k ≤ length b) spelled few, refl)))

-- what `run` knows once a stream is to be written: JOB has this table, this is a plan of it, and these are its slots
pub record Knows (told : Option Files) (job out certificate : List ℕ) (made : JobTable) (cert : Cert) (slots : SlotList) : Type 0 where
  pub has : IsJobTable told job (files_of_run job out certificate) made
  pub is_plan : IsPlan made.table cert
  pub are : IsSlotList made.table cert.choice slots

-- so do the files that are told
on_held : (told : Option Files) (job out certificate : List ℕ) (made : JobTable) (cert : Cert) (slots : SlotList) (held : Files) → told ≡ Some held
    → Knows told job out certificate made cert slots → IsJobTable (Some held) job (files_of_run job out certificate) made
on_held told job out certificate made cert slots held is knows = subst (λ (t : Option Files). IsJobTable t job (files_of_run job out certificate) made) is knows.has

-- what holds wherever files have the job, holds
with_job : (old new : Option Files) (job out certificate : List ℕ) (made : JobTable) (cert : Cert) (slots : SlotList) (P : Files → Files → Type 0)
    → Knows old job out certificate made cert slots → OnFiles old new (λ held after. IsJobTable (Some held) job (files_of_run job out certificate) made → P held after)
    → OnFiles old new P
with_job None new job out certificate made cert slots P knows holds = tt
with_job (Some held) None job out certificate made cert slots P knows holds = absurd holds
with_job (Some held) (Some after) job out certificate made cert slots P knows holds = holds (on_held (Some held) job out certificate made cert slots held refl knows)

-- the stream was broken off
pub stream_broken : (job out certificate : List ℕ) (old new : Option Files) (made : JobTable) (cert : Cert) (slots : SlotList)
    → Knows old job out certificate made cert slots → HoldsStreamPart old new out made cert.choice slots → OnFiles old new (RunLeaves job out certificate)
stream_broken job out certificate old new made cert slots knows part =
    with_job old new job out certificate made cert slots (RunLeaves job out certificate) knows
    (stream_left job out certificate old new made cert slots knows.is_plan knows.are part)

-- what a run decides once the stream is whole
run_decides : (job out certificate : List ℕ) (old middle new : Option Files) (made : JobTable) (cert : Cert) (slots : SlotList) (prepared : Prepared) (result : Option Ended)
    → Knows old job out certificate made cert slots → HoldsStream old middle out made cert.choice slots → IsPrepared made cert slots prepared
    → EndsCertificate middle new certificate prepared result
    → OnFiles old new (λ held after. Decides (run_task job out certificate) held (answer_of result) after)
run_decides job out certificate old middle new made cert slots prepared None knows holds ready ends =
    with_job old new job out certificate made cert slots (RunLeaves job out certificate) knows
    (certificate_left job out certificate old middle new made cert slots prepared.bytes knows.is_plan knows.are holds ready.bytes ends)
run_decides job out certificate old middle new made cert slots prepared (Some ended) knows holds ready (inl (same, written)) =
    let Has : Ended → Type 0 = λ e. OnFiles old new (λ held after. EndsWithStatus (run_task job out certificate) held e.status e.line.items after) in
    let line = prepared.done.line.items in
    let done = with_job old new job out certificate made cert slots (λ held after. RunDone job out certificate held line after) knows
    (run_done job out certificate old middle new made cert slots prepared.bytes line knows.is_plan knows.are holds ready.bytes written ready.ends.1) in
    let ok : Has prepared.done =
    subst (λ (s : Status). OnFiles old new (λ held after. EndsWithStatus (run_task job out certificate) held s line after)) (sym ready.ends.0) done in
    subst Has (sym same) ok
run_decides job out certificate old middle new made cert slots prepared (Some ended) knows holds ready (inr (failed, part)) =
    let left = with_job old new job out certificate made cert slots (RunLeaves job out certificate) knows
    (certificate_left job out certificate old middle new made cert slots prepared.bytes knows.is_plan knows.are holds ready.bytes part) in
    subst (λ (s : Status). OnFiles old new (λ held after. EndsWithStatus (run_task job out certificate) held s ended.line.items after)) (sym failed.0) left

-- and its cause
run_has_cause : (job out certificate : List ℕ) (old middle new : ShelfFacts) (made : JobTable) (cert : Cert) (slots : SlotList) (prepared : Prepared) (result : Option Ended)
    → Knows old.files job out certificate made cert slots → HoldsStream old.files middle.files out made cert.choice slots → IsPrepared made cert slots prepared
    → CountsGrow old.counts middle.counts → CountsGrow middle.counts new.counts
    → CertificateHasCause middle.counts new.counts new.since_fault certificate prepared result → AnswerHasCause (run_task job out certificate) old new (answer_of result)
run_has_cause job out certificate old middle new made cert slots prepared None knows holds ready first second cause = tt
run_has_cause job out certificate old middle new made cert slots prepared (Some ended) knows (stream, stands, first_is) ready first second (inl same) =
    let Has : Ended → Type 0 = λ e. HasCause (run_task job out certificate) old new e.status e.line.items in
    let ok : Has prepared.done =
    subst (λ (s : Status). HasCause (run_task job out certificate) old new s prepared.done.line.items) (sym ready.ends.0) (
      work_of made cert slots stream,
      is_work old.files job out certificate made cert slots stream knows.has knows.is_plan knows.are stands,
      ready.ends.1,
    ) in
    subst Has (sym same) ok
run_has_cause job out certificate old middle new made cert slots prepared (Some ended) knows holds ready first second (inr (failed, rose, last)) =
    subst (λ (s : Status). HasCause (run_task job out certificate) old new s ended.line.items) (sym failed.0)
    (record { name = certificate; asked = inr refl; rises = rose_later _ _ _ first.write_faults_grow second.write_faults_grow rose; last = last; names = failed.1 })

-- how a run ends once the stream is whole
pub run_performs : {failed missing : Type 0} (job out certificate : List ℕ) (old middle new : ShelfFacts) (made : JobTable) (cert : Cert) (slots : SlotList) (prepared : Prepared)
    (result : Option Ended) → Knows old.files job out certificate made cert slots → HoldsStream old.files middle.files out made cert.choice slots
    → IsPrepared made cert slots prepared → WriteCauses failed missing old.counts middle.counts → (failed → ⊥) → AsksNothing old.asked middle.asked
    → Certifies middle new certificate prepared result → Performs (run_task job out certificate) old new (answer_of result)
run_performs job out certificate old middle new made cert slots prepared result knows holds ready causes unfailed asks ends = record {
  decided = run_decides job out certificate old.files middle.files new.files made cert slots prepared result knows holds ready ends.written;
  cause = run_has_cause job out certificate old middle new made cert slots prepared result knows holds ready (write_grows causes) ends.counts ends.cause;
  ends = ends_behind_write old middle new (answer_of result) unfailed causes ends.ends;
  counts = counts_twice (write_grows causes) ends.counts;
  asks = asks_none (run_task job out certificate) old.files old.asked new.asked (λ name. let a = asks name in let b = ends.asked name in omega arith);
}

-- the schedule of a choice that is scheduled has no miss
abbrev fails : ScheduleFault → Result SlotList ScheduleFault
fails fault = Err fault

pub missed_never : {fault : ScheduleFault} {miss : Miss} (table : Table) (choice : List ℕ) → fault ≡ Missed miss
    → (fails fault ≢ fails OutOfMemory → (m : Miss) → (fails fault ≡ fails (Missed m)) ↔ IsFirstMiss table choice m) → IsScheduled table choice
    → ((t : Table) (c : List ℕ) (m : Miss) → IsScheduled t c → IsFirstMiss t c m → ⊥) → ⊥
missed_never {fault} {miss} table choice is missed scheduled law =
    let other : fails fault ≢ fails OutOfMemory = λ same. let late = ap fails is in cc in
    law table choice miss scheduled ((missed other miss).0 (ap fails is))
