-- Programs behind others by sums, and by the lists before them, as the definitions of a job have them.
use Rattle.std.proofs.Common.{ℕ, ◌≤◌, List, [], ◌∷◌, ◌++◌, length, All, sym, subst, append_assoc, arith}
use Rattle.std.proofs.lemmas.List.{append-nil}
use Rattle.std.proofs.lemmas.List.Elements.{All-nil, All-cons, All-head, All-tail}
use Rattle.std.proofs.lemmas.List.Sums.{sum_by-append, sum_by-cons, sum_by_push}
use Rattle.job_report.specs.declared.job.ProgramJob.{ProgramJob}
use Rattle.program_reader.specs.declared.limits.TheConstants.{FILE_BYTES_MOST, UNITS_MOST}
use Rattle.program_reader.specs.declared.program.Program.{Program}
use Rattle.program_reader.specs.declared.program_fault.SourceKind.{SourceKind}
use Rattle.job_programs.specs.Programs.{AreNextPrograms, IsNextProgram, IsNextRefused, IsWithinTime, bytes_of_files, units_of_programs}
use Rattle.job_programs.specs.Programs as public
use Rattle.job_programs.specs.Private.Behind as behind
use Rattle.job_programs.specs.Private.Behind.{AreProgramsOf, HoldPrograms, IsProgramBehind, IsRefusedBehind, KeepsTime, job_keeps}

-- ---- times

pub keeps : (slot : ℕ) (program : Program) → KeepsTime slot program → IsWithinTime slot program
keeps slot program is = record {
  units = is.units;
  audio_dues = λ i d within. λ j e small. (is.audios i d within j e small).0;
  audio_gones = λ i d within. λ j e small. (is.audios i d within j e small).1;
}

pub kept : (slot : ℕ) (program : Program) → IsWithinTime slot program → KeepsTime slot program
kept slot program is = record {
  units = is.units;
  audios = λ i d within. λ j e small. (is.audio_dues i d within j e small, is.audio_gones i d within j e small);
}

-- ---- one program

pub behind-of : (slot start : ℕ) (contents : List (List ℕ)) (programs : List Program) (job : ProgramJob) (content : List ℕ) (program : Program)
    → IsNextProgram slot start contents programs job content program
    → IsProgramBehind slot start (bytes_of_files contents) (units_of_programs programs) job.form job.program job.drop.items (job_keeps job) content program
behind-of slot start contents programs job content program is =
    record { few_bytes = is.few_bytes; holds = is.holds; few_units = is.few_units; within = kept slot program is.within; near = is.share }

pub refused-of : (slot start : ℕ) (contents : List (List ℕ)) (programs : List Program) (job : ProgramJob) (content : List ℕ) (kind : SourceKind) (at : ℕ)
    → IsRefusedBehind slot start (bytes_of_files contents) (units_of_programs programs) job.form job.program job.drop.items (job_keeps job) content kind at
    → IsNextRefused slot start contents programs job content kind at
refused-of slot start contents programs job content kind at (behind.many_bytes many k a) = public.many_bytes many k a
refused-of slot start contents programs job content kind at (behind.file few bad) = public.file few bad
refused-of slot start contents programs job content kind at (behind.many_units program few holds many k a) = public.many_units program few holds many k a
refused-of slot start contents programs job content kind at (behind.late program few holds past k a) =
    public.late program few holds (λ is. past (kept slot program is)) k a
refused-of slot start contents programs job content kind at (behind.far program few holds past k a) = public.large program few holds past k a

pub refused-behind : (slot start : ℕ) (contents : List (List ℕ)) (programs : List Program) (job : ProgramJob) (content : List ℕ) (kind : SourceKind) (at : ℕ)
    → IsNextRefused slot start contents programs job content kind at
    → IsRefusedBehind slot start (bytes_of_files contents) (units_of_programs programs) job.form job.program job.drop.items (job_keeps job) content kind at
refused-behind slot start contents programs job content kind at (public.many_bytes many k a) = behind.many_bytes many k a
refused-behind slot start contents programs job content kind at (public.file few bad) = behind.file few bad
refused-behind slot start contents programs job content kind at (public.many_units program few holds many k a) = behind.many_units program few holds many k a
refused-behind slot start contents programs job content kind at (public.late program few holds past k a) =
    behind.late program few holds (λ is. past (keeps slot program is)) k a
refused-behind slot start contents programs job content kind at (public.large program few holds past k a) = behind.far program few holds past k a

-- ---- all programs

to-next : (slot start : ℕ) (jobs : List ProgramJob) (contents : List (List ℕ)) (programs : List Program) → HoldPrograms start jobs contents programs
    → (read : List (List ℕ)) (before : List Program) → bytes_of_files (read ++ contents) ≤ FILE_BYTES_MOST → units_of_programs (before ++ programs) ≤ UNITS_MOST
    → All (KeepsTime slot) programs → AreNextPrograms slot start read before jobs contents programs
to-next slot start [] [] [] hold read before few_bytes few_units within = tt
to-next slot start [] [] (p ∷ ps) hold read before few_bytes few_units within = absurd hold
to-next slot start [] (c ∷ cs) ps hold read before few_bytes few_units within = absurd hold
to-next slot start (j ∷ js) [] ps hold read before few_bytes few_units within = absurd hold
to-next slot start (j ∷ js) (c ∷ cs) [] hold read before few_bytes few_units within = absurd hold
to-next slot start (j ∷ js) (c ∷ cs) (p ∷ ps) hold read before few_bytes few_units within = (
  record {
    few_bytes = omega (arith, few_bytes, sum_by-append length read (c ∷ cs), sum_by-cons length c cs);
    holds = hold.0.holds;
    few_units = omega (arith, few_units, sum_by-append (λ (program : Program). length program.units) before (p ∷ ps), sum_by-cons (λ (program : Program). length program.units) p ps);
    within = keeps slot p (All-head (KeepsTime slot) p ps within);
    share = hold.0.near;
  },
  to-next slot start js cs ps hold.1 (read ++ c ∷ []) (before ++ p ∷ [])
      (subst (λ (l : List (List ℕ)). bytes_of_files l ≤ FILE_BYTES_MOST) (sym (append_assoc read (c ∷ []) cs)) few_bytes)
      (subst (λ (l : List Program). units_of_programs l ≤ UNITS_MOST) (sym (append_assoc before (p ∷ []) ps)) few_units)
      (All-tail (KeepsTime slot) p ps within),
)

-- all programs at once are the next ones behind none
pub next-of : (slot start : ℕ) (jobs : List ProgramJob) (contents : List (List ℕ)) (programs : List Program) → AreProgramsOf slot start jobs contents programs
    → AreNextPrograms slot start [] [] jobs contents programs
next-of slot start jobs contents programs are = to-next slot start jobs contents programs are.hold [] [] are.few_bytes are.few_units are.within

record Together (slot start : ℕ) (read : List (List ℕ)) (before : List Program) (jobs : List ProgramJob) (contents : List (List ℕ)) (programs : List Program) : Type 0 where
  hold : HoldPrograms start jobs contents programs
  bytes : bytes_of_files (read ++ contents) ≤ FILE_BYTES_MOST
  units : units_of_programs (before ++ programs) ≤ UNITS_MOST
  times : All (KeepsTime slot) programs

from-next : (slot start : ℕ) (jobs : List ProgramJob) (contents : List (List ℕ)) (programs : List Program) (read : List (List ℕ)) (before : List Program)
    → bytes_of_files read ≤ FILE_BYTES_MOST → units_of_programs before ≤ UNITS_MOST → AreNextPrograms slot start read before jobs contents programs
    → Together slot start read before jobs contents programs
from-next slot start [] [] [] read before few_bytes few_units next = record {
  hold = tt;
  bytes = subst (λ (l : List (List ℕ)). bytes_of_files l ≤ FILE_BYTES_MOST) (sym (append-nil read)) few_bytes;
  units = subst (λ (l : List Program). units_of_programs l ≤ UNITS_MOST) (sym (append-nil before)) few_units;
  times = All-nil (KeepsTime slot);
}
from-next slot start [] [] (p ∷ ps) read before few_bytes few_units next = absurd next
from-next slot start [] (c ∷ cs) ps read before few_bytes few_units next = absurd next
from-next slot start (j ∷ js) [] ps read before few_bytes few_units next = absurd next
from-next slot start (j ∷ js) (c ∷ cs) [] read before few_bytes few_units next = absurd next
from-next slot start (j ∷ js) (c ∷ cs) (p ∷ ps) read before few_bytes few_units next =
    let bytes' = subst (λ (n : ℕ). n ≤ FILE_BYTES_MOST) (sym (sum_by_push length read c)) next.0.few_bytes in
    let units' = subst (λ (n : ℕ). n ≤ UNITS_MOST) (sym (sum_by_push (λ (program : Program). length program.units) before p)) next.0.few_units in
    let rest = from-next slot start js cs ps (read ++ c ∷ []) (before ++ p ∷ []) bytes' units' next.1 in
    record {
      hold = (record { holds = next.0.holds; near = next.0.share }, rest.hold);
      bytes = subst (λ (l : List (List ℕ)). bytes_of_files l ≤ FILE_BYTES_MOST) (append_assoc read (c ∷ []) cs) rest.bytes;
      units = subst (λ (l : List Program). units_of_programs l ≤ UNITS_MOST) (append_assoc before (p ∷ []) ps) rest.units;
      times = All-cons (KeepsTime slot) p ps (kept slot p next.0.within) rest.times;
    }

pub are-of : (slot start : ℕ) (jobs : List ProgramJob) (contents : List (List ℕ)) (programs : List Program) → AreNextPrograms slot start [] [] jobs contents programs
    → AreProgramsOf slot start jobs contents programs
are-of slot start jobs contents programs next =
    let all = from-next slot start jobs contents programs [] [] (omega arith) (omega arith) next in
    record { hold = all.hold; few_bytes = all.bytes; few_units = all.units; within = all.times }
