-- A program whose tables and clock are read isn't refused for them.
use Rattle.std.proofs.Common.{◌≡◌, ◌≢◌, inl, inr, ℕ, List, [], ◌∷◌, Some, None, sym, ap, ◌∙◌, subst, arith}
use Rattle.ts_demux.specs.declared.demuxed.Demuxed.{Demuxed}
use Rattle.ts_demux.specs.declared.demux_fault.DemuxFault.{DemuxFault}
use Rattle.ts_demux.specs.declared.demux_fault.DemuxFault.TheVariants as demux_faults
use Rattle.ts_demux.specs.Demux.{AreStreamsSound}
use Rattle.ts_demux.specs.PidPlaces.{IsPlacesFault}
use Rattle.ts_demux.specs.Tables.{IsMapPid, pat_pid}
use Rattle.ts_demux.proofs.OneAnswer.{one_demuxed}
use Rattle.ts_demux.proofs.OneAnswer as demux_answers
use Rattle.ts_demux.proofs.OneStop.{one_pat}
use Rattle.stream_audit.specs.declared.audit_stop.AuditStop.{AuditStop}
use Rattle.stream_audit.specs.declared.audit_stop.AuditStop.TheVariants as stops
use Rattle.stream_audit.specs.declared.file_clock.FoundClock.{FoundClock}
use Rattle.stream_audit.specs.Clock.{IsClockOf}
use Rattle.stream_audit.proofs.OneAudit.{known_of, Known, sound_or_places, clock_or_stop}
use Rattle.stream_audit.specs.Refusals.{AreTablesSound, IsClockStopped, IsProgramRead, IsProgramStopped, IsSystemFault, stop_of_demux}

tables-known : (file : List ℕ) (program : ℕ) (demuxed : Demuxed) (map_pid pid : ℕ) (fault : DemuxFault) → Known fault → AreTablesSound file program demuxed map_pid
    → IsMapPid file program pid → IsSystemFault file pid fault → ⊥
tables-known file program demuxed map_pid pid fault some tables is (inl first) = sound_or_places file pat_pid fault some tables.pat_sound first
tables-known file program demuxed map_pid pid fault some tables is (inr bad) =
    let map_is = tables.map_is in
    let same : pid ≡ map_pid = (one_pat file program is.packet is.index pid map_is.packet map_is.index map_pid is.takes map_is.takes).1 in
    sound_or_places file map_pid fault some tables.map_sound (subst (λ (p : ℕ). IsPlacesFault file p fault) same bad.1)

pub never-stopped : (file : List ℕ) (program slot : ℕ) (demuxed : Demuxed) (map_pid : ℕ) (clock : FoundClock) (stop : AuditStop) → stop ≢ stops.OutOfMemory
    → IsProgramRead file program slot demuxed map_pid clock → IsProgramStopped file program slot stop → ⊥
never-stopped file program slot demuxed map_pid clock stop some read (IsProgramStopped.long_file long e) = let few = read.tables.file_fits in omega (arith, long, few)
never-stopped file program slot demuxed map_pid clock stop some read (IsProgramStopped.no_program fault few refused e) =
    let known = known_of stop fault some e in
    known (demux_answers.never_both file program [] demuxed fault read.tables.taken_out refused)
never-stopped file program slot demuxed map_pid clock stop some read (IsProgramStopped.bad_tables other pid fault few out is bad e) =
    tables-known file program demuxed map_pid pid fault (known_of stop fault some e) read.tables is bad
never-stopped file program slot demuxed map_pid clock stop some read (IsProgramStopped.no_clock other pid tables stopped) =
    let same : other ≡ demuxed = one_demuxed file program [] other demuxed tables.taken_out read.tables.taken_out in
    clock_or_stop file slot demuxed.map.pcr_pid clock stop some read.clock_is (subst (λ (d : Demuxed). IsClockStopped file slot d.map.pcr_pid stop) same stopped)
