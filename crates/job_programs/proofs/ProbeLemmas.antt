-- One file that is probed, as the only program of a job.
use Rattle.std.proofs.Common.{◌≡◌, ℕ, ◌<◌, ◌≤◌, ◌↔◌, ◌⊎◌, Bool, true, false, IsTrue, inl, inr, List, [], Option, arith}
use Rattle.std.proofs.lemmas.Bool.{cases_order}
use Rattle.job_report.specs.declared.job.Form.TheVariants.{Ts}
use Rattle.program_reader.specs.declared.program.Program.{Program}
use Rattle.program_reader.specs.declared.program_fault.SourceKind.TheVariants.{ProgramLimit}
use Rattle.shelf_io.specs.Counts.{ShelfCounts}
use Rattle.shelf_io.specs.Files.{Files, IfTold}
use Rattle.shelf_io.proofs.Whole.{IfTold_then}
use Rattle.job_programs.specs.Programs.{IsNextProgram}
use Rattle.job_programs.specs.declared.limits.TheConstants.{PROBED_AUDIO_PACKETS_MOST}
use Rattle.job_programs.specs.declared.source_fault.SourceFault.{SourceFault}
use Rattle.job_programs.specs.declared.source_fault.ProgramsFault.{ProgramsFault}
use Rattle.job_programs.specs.declared.source_fault.ProgramsFault.TheVariants.{Refused, Failed, Missing, OutOfMemory}
use Rattle.job_programs.specs.Probe.{probed_job, refused, many_packets}
use Rattle.job_programs.specs.Share.{KeepsShare, audio_packets}
use Rattle.job_programs.specs.Told.{HasProbeCause, IsProbedOn, IsProbeRefusedOn}
use Rattle.job_programs.specs.Private.Next.{HasNextCause, IsNextOn}
use Rattle.job_report.specs.declared.limits.TheConstants.{COARSER_DEFAULT, DRIFT_DEFAULT, WEIGHT_DEFAULT}
use Rattle.job_programs.proofs.Forms.{keeps, refused-of}

-- ---- one file that is probed

-- what a program by itself is wanted with
abbrev ProbeKeeps : Program → Type 0
ProbeKeeps program = KeepsShare WEIGHT_DEFAULT DRIFT_DEFAULT COARSER_DEFAULT program

-- it is the next one behind none, by its file's content
next-in : (told : Option Files) (name : List ℕ) (slot start number : ℕ) (drop : List ℕ) (size : ℕ) (program : Program)
    → IsNextOn told name slot start 0 0 Ts number drop ProbeKeeps size program → IfTold told name (λ content. IsNextProgram slot start [] [] (probed_job number drop) content program)
next-in told name slot start number drop size program found =
    IfTold_then told name found.held (λ content is. record {
      few_bytes = omega (arith, found.few_bytes, is.0);
      holds = is.1;
      few_units = found.few_units;
      within = keeps slot program found.within;
      share = found.near;
    })

pub probed-on : (told : Option Files) (name : List ℕ) (slot start number : ℕ) (drop : List ℕ) (size : ℕ) (program : Program)
    → IsNextOn told name slot start 0 0 Ts number drop ProbeKeeps size program → audio_packets program.audios ≤ PROBED_AUDIO_PACKETS_MOST → IsProbedOn told name slot start number drop program
probed-on told name slot start number drop size program found few = record {
  read = record {
    read_for = record { read = found.read; within = keeps slot program found.within; share = found.near };
    few_units = omega (arith, found.few_units);
    few_packets = few;
  };
  held = IfTold_then told name (next-in told name slot start number drop size program found) (λ content is. record { is_program = is; few_packets = few });
}

pub packets-refused : (told : Option Files) (name : List ℕ) (slot start number : ℕ) (drop : List ℕ) (size : ℕ) (program : Program) (fault : SourceFault)
    → IsNextOn told name slot start 0 0 Ts number drop ProbeKeeps size program → PROBED_AUDIO_PACKETS_MOST < audio_packets program.audios
    → fault.program ≡ 0 → fault.kind ≡ ProgramLimit → fault.at ≡ 0 → IsProbeRefusedOn told name slot start number drop fault
packets-refused told name slot start number drop size program fault found many first kind at = record {
  first = first;
  held = IfTold_then told name (next-in told name slot start number drop size program found) (λ content is. many_packets program is many kind at);
}

-- the program isn't read, and for this cause
pub probe-cause : (told : Option Files) (name : List ℕ) (slot start number : ℕ) (drop : List ℕ) (old new : ShelfCounts) (since : ℕ) (fault : ProgramsFault)
    → HasNextCause told name slot start 0 0 Ts number drop ProbeKeeps 0 old new since fault → HasProbeCause told name slot start number drop old new since fault
probe-cause told name slot start number drop old new since (Refused fault) cause = record {
  first = cause.place_is;
  held = IfTold_then told name cause.held (λ content is. refused (refused-of slot start [] [] (probed_job number drop) content fault.kind fault.at is));
}
probe-cause told name slot start number drop old new since (Failed place) cause = cause
probe-cause told name slot start number drop old new since (Missing place) cause = cause
probe-cause told name slot start number drop old new since OutOfMemory cause = tt

pub not-few : (r : Bool) (n most : ℕ) → (IsTrue r ↔ (n ≤ most)) → r ≡ false → most < n
not-few r n most decides fails = by-order (cases_order n most)
  where
    is-true : r ≡ true → ⊥
    is-true yes' = cc

    by-order : (n ≡ most) ⊎ ((n < most) ⊎ (most < n)) → most < n
    by-order (inl same) = absurd (is-true (decides.1 (omega arith)))
    by-order (inr (inl less)) = absurd (is-true (decides.1 (omega arith)))
    by-order (inr (inr more)) = more
