-- The output stream of a job (ISO/IEC 13818-1, 2.4.3): its programs in the versions that a choice names, in the slots of their schedule.
use Rattle.std.specs.Prelude.{◌≡◌, ℕ, ◌+◌, List, [], ◌∷◌, map}
use Rattle.job_report.specs.declared.job.Job.{Job}
use Rattle.job_report.specs.declared.job.ProgramJob.{ProgramJob}
use Rattle.psi_tables.specs.declared.program_map.ProgramMap.{ProgramMap}
use Rattle.slot_rule.specs.declared.slot_list.SlotList.{SlotList}
use Rattle.slot_rule.specs.SlotList.{IsSlotList}
use Rattle.version_table.specs.declared.table.Table.{Table}
use Rattle.program_reader.specs.declared.program.Program.{Program}
use Rattle.version_maker.specs.declared.version.UnitVersion.{UnitVersion}
use Rattle.version_source.specs.Pieces.{pieces_of, stream_items}
use Rattle.version_source.specs.Versions.{AreAllVersions, ratios_of}
use Rattle.mux_writer.specs.declared.layout.Layout.{Layout}
use Rattle.mux_writer.specs.Layout.{with_output_pids}
use Rattle.mux_writer.specs.Output.{output_stream}

-- the maps of programs as they go out, the first of which has this number from 0: each under the number that the job gives it
abbrev pub output_maps : (first : ℕ) → List ProgramJob → List Program → List ProgramMap
output_maps first (job ∷ jobs) (program ∷ programs) = with_output_pids first job.number program.map ∷ output_maps (first + 1) jobs programs
output_maps first jobs programs = []

-- what the programs of a job's stream are: its transport_stream_id, their maps, and the value of each one's clock at the first byte
abbrev pub layout_of : Job → List Program → Layout
layout_of job programs = record {
  stream_id = job.stream_id;
  maps = record { items = output_maps 0 job.programs programs };
  bases = record { items = map (λ program. program.base) programs };
}

-- The bytes of the stream of a job's programs in the versions that a choice names, in these slots.
pub record IsStreamIn (job : Job) (programs : List Program) (choice : List ℕ) (slots : SlotList) (stream : List ℕ) : Type 0 where
  pub versions : List (List (List UnitVersion))
  pub are_versions : AreAllVersions programs (ratios_of job.programs) versions
  pub stream_is : stream ≡ output_stream (layout_of job programs) job.slot (pieces_of (stream_items programs versions choice)) slots.rows

-- The stream of a job's programs under a choice: in the slots that the slot rule gives their table.
pub record IsStreamOf (job : Job) (programs : List Program) (table : Table) (choice : List ℕ) (stream : List ℕ) : Type 0 where
  pub slots : SlotList
  pub are_slots : IsSlotList table choice slots
  pub stream_is : IsStreamIn job programs choice slots stream
