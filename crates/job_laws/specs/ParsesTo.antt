-- What it is that a stream parses to the programs of a job (ISO/IEC 13818-1, 2.4).
use Rattle.std.specs.Prelude.{◌≡◌, ℕ, ◌+◌, List, [], ◌∷◌, length, drop, map, Some, None}
use Rattle.psi_tables.specs.declared.program_map.ProgramMap.{ProgramMap}
use Rattle.psi_tables.specs.Pmt.{without_dropped}
use Rattle.es_units.specs.Units.{cut_units}
use Rattle.job_report.specs.declared.job.ProgramJob.{ProgramJob}
use Rattle.ts_demux.specs.declared.demuxed.Demuxed.{Demuxed}
use Rattle.ts_demux.specs.Demux.{IsDemuxed}
use Rattle.program_reader.specs.declared.program.Program.{Program}
use Rattle.program_reader.specs.declared.program.UnitSource.{UnitSource}
use Rattle.elementary_streams.specs.Audio.{taken_of}
use Rattle.program_reader.specs.Programs.{IsTakenOut}
use Rattle.version_maker.specs.declared.version.UnitVersion.{UnitVersion}
use Rattle.version_source.specs.Versions.{chosen_bytes}
use Rattle.unit_laws.specs.OwnCodes.{HaveNoCodeInSlices}
use Rattle.mux_writer.specs.Layout.{with_output_pids}
use Rattle.layer_laws.specs.WholeUnits.{placed_units}
use Rattle.parsing_laws.specs.Parsed.{AreReadAs, SentUnit, bytes_of_packets, joined_payloads}

-- units of a video as they go out: each with its times, in the version that the choice names
abbrev pub sent_units : List UnitSource → List (List UnitVersion) → (choice : List ℕ) → List SentUnit
sent_units (unit ∷ units) (versions ∷ more) (index ∷ choice) = record { times = unit.times; bytes = chosen_bytes versions index } ∷ sent_units units more choice
sent_units units versions choice = []

-- A stream parses to the program of this map that stands in a file of this content: read as files are, it gives the map's streams with their kinds and
-- kept descriptors under the map's number, with no refusal and no stream left out. Its video is one PES packet for each of these units, with the unit's times and
-- bytes. Their payloads joined are cut into exactly these units, none dropped, and no start code begins inside a slice of them. Each
-- audio stream has the PES packets that are taken of the file's, byte for byte. A decoding time that is the presentation time may be unwritten.
pub record ParsesToProgram (stream content : List ℕ) (job : ProgramJob) (program_map : ProgramMap) (sent : List SentUnit) : Type 0 where
  pub demuxed : Demuxed
  pub taken_out : IsDemuxed stream program_map.number [] demuxed
  pub map_is : demuxed.map ≡ without_dropped program_map
  pub whole : demuxed.not_carried ≡ []
  pub video : AreReadAs sent (bytes_of_packets demuxed.video)
  pub units : cut_units (joined_payloads (bytes_of_packets demuxed.video))
      ≡ Some (record { dropped = 0; cuts = placed_units 0 (map (λ unit. unit.bytes) sent) })
  pub slices : HaveNoCodeInSlices None (map (λ unit. unit.bytes) sent)
  pub source : Demuxed
  pub source_is : IsTakenOut job.form content job.program job.drop.items source
  pub audio : map (λ audio. bytes_of_packets audio.units) demuxed.audios ≡ map (λ audio. bytes_of_packets (taken_of audio)) source.audios

-- A stream parses to the programs of a job, whose files have these contents; the first program has this number from 0. Each is there under the number that the
-- job gives it, each of its pictures in the version that its part of the choice names.
abbrev pub ParsesTo : (stream : List ℕ) → (first : ℕ) → List ProgramJob → (contents : List (List ℕ)) → List Program → List (List (List UnitVersion)) → (choice : List ℕ) → Type 0
ParsesTo stream first [] [] [] [] choice = Unit {0}
ParsesTo stream first (job ∷ jobs) (content ∷ contents) (program ∷ programs) (versions ∷ more) choice =
    ParsesToProgram stream content job (with_output_pids first job.number program.map) (sent_units program.units versions choice)
    × ParsesTo stream (first + 1) jobs contents programs more (drop (length program.units) choice)
ParsesTo stream first jobs contents programs versions choice = ⊥
