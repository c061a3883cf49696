-- A job whose next file isn't there has neither programs nor a first refusal.
use Rattle.std.proofs.Common.{◌≡◌, ◌⊎◌, ℕ, ◌<◌, List, [], ◌∷◌, ◌++◌, length, Some, None, sym, ap, subst, ◌∙◌, append_assoc, inl, inr, arith}
use Rattle.std.specs.FinMap.{get}
use Rattle.std.proofs.lemmas.Bool.{cases_order}
use Rattle.shelf_io.specs.Files.{Files}
use Rattle.job_report.specs.declared.job.Job.{Job}
use Rattle.job_report.specs.declared.job.ProgramJob.{ProgramJob}
use Rattle.program_reader.specs.declared.program.Program.{Program}
use Rattle.job_programs.specs.declared.source_fault.SourceFault.{SourceFault}
use Rattle.job_programs.specs.Programs.{bytes_of_files, units_of_programs}
use Rattle.job_programs.specs.Told.{AreProgramsIn, AreProgramsOn, HoldContents, IsMissingOn, IsRefusedIn, IsRefusedOn}
use Rattle.job_programs.specs.Private.Behind.{AreProgramsOf, HoldPrograms, job_keeps}
use Rattle.job_programs.proofs.Forms.{are-of}
use Rattle.job_programs.proofs.LawLemmas.{OneProgram, NeverBoth, not-both, count-of, next-in}
use Rattle.job_programs.proofs.FirstLemmas.{first-of, front-of, same-place, common, whole}

-- programs whose files hold contents have no file that isn't there
held-in : (files : Files) (start : ℕ) (before : List ProgramJob) (job : ProgramJob) (after : List ProgramJob) (contents : List (List ℕ)) (programs : List Program)
    → HoldPrograms start (before ++ job ∷ after) contents programs → HoldContents files (before ++ job ∷ after) contents → get files job.file ≡ None → ⊥
held-in files start [] job after [] programs hold held none = hold
held-in files start [] job after (c ∷ cs) [] hold held none = hold
held-in files start [] job after (c ∷ cs) (p ∷ ps) hold held none = let some : get files job.file ≡ Some c = held.0 in cc
held-in files start (j ∷ js) job after [] programs hold held none = hold
held-in files start (j ∷ js) job after (c ∷ cs) [] hold held none = hold
held-in files start (j ∷ js) job after (c ∷ cs) (p ∷ ps) hold held none = held-in files start js job after cs ps hold.1 held.1 none

-- contents are held up to a program, whatever stands behind it
held-front : (files : Files) (before : List ProgramJob) (rest : List ProgramJob) (read : List (List ℕ)) (more : List (List ℕ)) → length read ≡ length before
    → HoldContents files (before ++ rest) (read ++ more) → HoldContents files before read
held-front files [] rest [] more same held = tt
held-front files [] rest (c ∷ cs) more same held = absurd (omega (arith, same))
held-front files (j ∷ js) rest [] more same held = tt
held-front files (j ∷ js) rest (c ∷ cs) more same held = (held.0, held-front files js rest cs more (omega (arith, same)) held.1)

held-upto : (files : Files) (before : List ProgramJob) (job : ProgramJob) (after other : List ProgramJob) (read : List (List ℕ)) (content : List ℕ) (further : List (List ℕ))
    → length read ≡ length before → HoldContents files (before ++ job ∷ after) (read ++ content ∷ further) → HoldContents files (before ++ job ∷ other) (read ++ content ∷ [])
held-upto files [] job after other [] content further same held = (held.0, tt)
held-upto files [] job after other (c ∷ cs) content further same held = absurd (omega (arith, same))
held-upto files (j ∷ js) job after other [] content further same held = absurd (omega (arith, same))
held-upto files (j ∷ js) job after other (c ∷ cs) content further same held = (held.0, held-upto files js job after other cs content further (omega (arith, same)) held.1)

held-at : (files : Files) (before : List ProgramJob) (job : ProgramJob) (after : List ProgramJob) (read : List (List ℕ)) (content : List ℕ) (further : List (List ℕ))
    → length read ≡ length before → HoldContents files (before ++ job ∷ after) (read ++ content ∷ further) → get files job.file ≡ Some content
held-at files [] job after [] content further same held = held.0
held-at files [] job after (c ∷ cs) content further same held = absurd (omega (arith, same))
held-at files (j ∷ js) job after [] content further same held = absurd (omega (arith, same))
held-at files (j ∷ js) job after (c ∷ cs) content further same held = held-at files js job after cs content further (omega (arith, same)) held.1

-- ---- laws

pub missing-no-programs : (files : Files) (job : Job) (number : ℕ) (programs : List Program) → IsMissingOn files job number → AreProgramsOn (Some files) job programs → ⊥
missing-no-programs files job number programs m a =
    let s = m.stops in
    let in_files : AreProgramsIn files job.slot job.start job.programs programs = a.held in
    let hold =
    subst (λ (jobs : List ProgramJob). HoldPrograms job.start jobs in_files.contents programs) s.split (are-of job.slot job.start job.programs in_files.contents programs in_files.are).hold in
    let held = subst (λ (jobs : List ProgramJob). HoldContents files jobs in_files.contents) s.split in_files.held in
    held-in files job.start s.before m.stopped s.after in_files.contents programs hold held m.lacks

missing-later : (files : Files) (job : Job) (a b : ℕ) (ma : IsMissingOn files job a) (mb : IsMissingOn files job b) → length ma.stops.before < length mb.stops.before → ⊥
missing-later files job a b ma mb small =
    let sa = ma.stops in
    let sb = mb.stops in
    let f = front-of sa.before ma.stopped sa.after sb.before (mb.stopped ∷ sb.after) (sym sa.split ∙ sb.split) small in
    let in_files : AreProgramsIn files job.slot job.start sb.before sb.programs = sb.held in
    let hold =
    subst (λ (jobs : List ProgramJob). HoldPrograms job.start jobs in_files.contents sb.programs) f.1 (are-of job.slot job.start sb.before in_files.contents sb.programs in_files.are).hold in
    let held = subst (λ (jobs : List ProgramJob). HoldContents files jobs in_files.contents) f.1 in_files.held in
    held-in files job.start sa.before ma.stopped f.0 in_files.contents sb.programs hold held ma.lacks

missing-order : (files : Files) (job : Job) (a b : ℕ) (ma : IsMissingOn files job a) (mb : IsMissingOn files job b)
    → (length ma.stops.before ≡ length mb.stops.before) ⊎ ((length ma.stops.before < length mb.stops.before) ⊎ (length mb.stops.before < length ma.stops.before)) → a ≡ b
missing-order files job a b ma mb (inl same) = ma.stops.number_is ∙ same ∙ sym mb.stops.number_is
missing-order files job a b ma mb (inr (inl small)) = absurd (missing-later files job a b ma mb small)
missing-order files job a b ma mb (inr (inr small)) = absurd (missing-later files job b a mb ma small)

pub one-missing : (files : Files) (job : Job) (a b : ℕ) → IsMissingOn files job a → IsMissingOn files job b → a ≡ b
one-missing files job a b ma mb = missing-order files job a b ma mb (cases_order (length ma.stops.before) (length mb.stops.before))

by-place : OneProgram → NeverBoth → (files : Files) (job : Job) (number : ℕ) (fault : SourceFault) (m : IsMissingOn files job number) (r : IsRefusedIn files job fault)
    → (length m.stops.before ≡ length r.first.before) ⊎ ((length m.stops.before < length r.first.before) ⊎ (length r.first.before < length m.stops.before)) → ⊥
by-place one never files job number fault m r (inl same) =
    let s = m.stops in
    let f = first-of job r.contents fault r.first in
    let at = same-place s.before m.stopped s.after f.before f.refused f.after (sym s.split ∙ f.split) same in
    let jobs = subst (λ (js : List ProgramJob). HoldContents files js r.contents) f.split r.held in
    let held = subst (λ (cs : List (List ℕ)). HoldContents files (f.before ++ f.refused ∷ f.after) cs) f.contents_are jobs in
    let count = count-of job.start f.before f.read f.programs f.programs_are.hold in
    let some : get files f.refused.file ≡ Some f.content = held-at files f.before f.refused f.after f.read f.content f.further count held in
    let none : get files f.refused.file ≡ None = subst (λ (j : ProgramJob). get files j.file ≡ None) at.1 m.lacks in
    cc
by-place one never files job number fault m r (inr (inl small)) =
    let s = m.stops in
    let f = first-of job r.contents fault r.first in
    let front = front-of s.before m.stopped s.after f.before (f.refused ∷ f.after) (sym s.split ∙ f.split) small in
    let jobs = subst (λ (js : List ProgramJob). HoldContents files js r.contents) f.split r.held in
    let held = subst (λ (cs : List (List ℕ)). HoldContents files (f.before ++ f.refused ∷ f.after) cs) f.contents_are jobs in
    let count = count-of job.start f.before f.read f.programs f.programs_are.hold in
    let here = held-front files f.before (f.refused ∷ f.after) f.read (f.content ∷ f.further) count held in
    let hold' = subst (λ (js : List ProgramJob). HoldPrograms job.start js f.read f.programs) front.1 f.programs_are.hold in
    let held' = subst (λ (js : List ProgramJob). HoldContents files js f.read) front.1 here in
    held-in files job.start s.before m.stopped front.0 f.read f.programs hold' held' m.lacks
by-place one never files job number fault m r (inr (inr small)) =
    let s = m.stops in
    let f = first-of job r.contents fault r.first in
    let front = front-of f.before f.refused f.after s.before (m.stopped ∷ s.after) (sym f.split ∙ s.split) small in
    let jobs = subst (λ (js : List ProgramJob). HoldContents files js r.contents) f.split r.held in
    let held = subst (λ (cs : List (List ℕ)). HoldContents files (f.before ++ f.refused ∷ f.after) cs) f.contents_are jobs in
    let count = count-of job.start f.before f.read f.programs f.programs_are.hold in
    let here = held-upto files f.before f.refused f.after front.0 f.read f.content f.further count held in
    let in_files : AreProgramsIn files job.slot job.start s.before s.programs = s.held in
    let stopped = subst (λ (js : List ProgramJob). HoldContents files js in_files.contents) front.1 in_files.held in
    let same = common files (f.before ++ f.refused ∷ front.0) in_files.contents (f.read ++ f.content ∷ []) stopped here in
    let full : length in_files.contents ≡ length (f.before ++ f.refused ∷ front.0) = count-of job.start s.before in_files.contents s.programs (are-of job.slot job.start s.before in_files.contents s.programs in_files.are).hold ∙ ap length front.1 in
    let is : in_files.contents ≡ f.read ++ f.content ∷ same.behind' =
    sym (whole files (f.before ++ f.refused ∷ front.0) in_files.contents (f.read ++ f.content ∷ []) same full) ∙ same.second_is ∙ append_assoc f.read (f.content ∷ []) same.behind' in
    let are = subst (λ (js : List ProgramJob). AreProgramsOf job.slot job.start js in_files.contents s.programs) front.1 (are-of job.slot job.start s.before in_files.contents s.programs in_files.are) in
    let both = subst (λ (cs : List (List ℕ)). AreProgramsOf job.slot job.start (f.before ++ f.refused ∷ front.0) cs s.programs) is are in
    let next = next-in one job.slot job.start f.before f.read f.programs f.programs_are.hold f.refused front.0 f.content same.behind' s.programs both in
    not-both one never job.slot job.start (bytes_of_files f.read) (units_of_programs f.programs) f.refused.form f.refused.program f.refused.drop.items (job_keeps f.refused) f.content next.0 fault.kind fault.at next.1 f.refusal

pub missing-not-refused : OneProgram → NeverBoth → (files : Files) (job : Job) (number : ℕ) (fault : SourceFault) → IsMissingOn files job number → IsRefusedOn (Some files) job fault → ⊥
missing-not-refused one never files job number fault m r =
    by-place one never files job number fault m r.held (cases_order (length m.stops.before) (length r.held.first.before))
