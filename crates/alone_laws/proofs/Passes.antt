-- A program of a stream that is read by itself passes an audit.
use Rattle.std.proofs.Common.{◌≡◌, ◌≢◌, ℕ, List, ◌∷◌, map, refl}
use Rattle.ts_packets.specs.Packet.{PacketRecord}
use Rattle.version_table.specs.declared.table.ProgramRow.{ProgramRow}
use Rattle.mux_writer.specs.Layout.{map_pid}
use Rattle.program_reader.specs.declared.program.Program.{Program}
use Rattle.job_programs.specs.Alone.{IsAlone}
use Rattle.stream_audit.specs.declared.audit_stop.AuditStop.{AuditStop}
use Rattle.stream_audit.specs.declared.audit_stop.AuditStop.TheVariants.{Audio, Demux, NoPcr, NoSequence, OutOfMemory, Pes, ProgramLimit}
use Rattle.stream_audit.specs.Refusals.{IsAuditStopped, IsProgramStopped}
use Rattle.time_laws.specs.Video.{DecodedPicture}
use Rattle.audit_command.specs.AuditCommand.{kept_units}
use Rattle.audit_laws.proofs.Program.{IsProgramIn, ProgramLaws, clock, found-of, read-of}
use Rattle.alone_laws.specs.PassesAudit.{PassesAudit}
use Rattle.alone_laws.proofs.OneAlone.{IsReadAlone}
use Rattle.alone_laws.proofs.Stops.{never-stopped}

-- the law that the audit of a program that was read stops for nothing but what it reads before the program's streams
abbrev pub StopsBefore : Type 0
StopsBefore =
    (slot start number : ℕ) (content : List ℕ) (program : Program) (stop : AuditStop) → IsAlone slot start number content program → IsAuditStopped content number slot (kept_units program) stop
    → stop ≢ OutOfMemory → IsProgramStopped content number slot stop

memory-alone : (stop : AuditStop) → (stop ≢ OutOfMemory → ⊥) → stop ≡ OutOfMemory
memory-alone (Demux fault) never = absurd (never (λ same. cc))
memory-alone (Pes at fault) never = absurd (never (λ same. cc))
memory-alone NoSequence never = absurd (never (λ same. cc))
memory-alone (Audio pid fault) never = absurd (never (λ same. cc))
memory-alone NoPcr never = absurd (never (λ same. cc))
memory-alone ProgramLimit never = absurd (never (λ same. cc))
memory-alone OutOfMemory never = refl

pub passes : (laws : ProgramLaws) → StopsBefore → (file : List ℕ) (list : List PacketRecord) (slot place number : ℕ) (row : ProgramRow) (choice : List ℕ)
    (is : IsProgramIn file list slot place number row choice)
    → IsReadAlone file slot number is.times.base is.times.demuxed.video (map (λ (picture : DecodedPicture). picture.at) (is.times.first ∷ is.times.later)) is.times.first.seq.vbv
    → PassesAudit file slot number
passes laws before file list slot place number row choice is read = record {
  program = read.program;
  alone = read.alone;
  found = λ found audited. found-of laws file list slot place number row choice is (kept_units read.program) found read.kept audited;
  not_stopped = λ stop stopped.
      memory-alone stop (λ some.
      never-stopped file number slot is.times.demuxed (map_pid place) (clock laws file list slot place number row choice is) stop some (read-of laws file list slot place number row choice is)
      (before slot 13500000 number file read.program stop read.alone stopped some));
}
