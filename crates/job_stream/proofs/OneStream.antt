-- A job has one stream under a choice.
use Rattle.std.proofs.Common.{◌≡◌, ℕ, List, sym, ap, subst, ◌∙◌}
use Rattle.job_report.specs.declared.job.Job.{Job}
use Rattle.version_table.specs.declared.table.Table.{Table}
use Rattle.slot_rule.specs.declared.slot_list.SlotList.{SlotList}
use Rattle.slot_rule.specs.SlotList.{IsSlotList}
use Rattle.program_reader.specs.declared.program.Program.{Program}
use Rattle.version_maker.specs.declared.version.UnitVersion.{UnitVersion}
use Rattle.version_source.specs.Pieces.{pieces_of, stream_items}
use Rattle.version_source.specs.Versions.{ratios_of}
use Rattle.mux_writer.specs.Output.{output_stream}
use Rattle.job_stream.specs.Stream.{IsStreamIn, IsStreamOf, layout_of}
use Rattle.program_table.proofs.Rows.{HaveOneList}

-- a table has one list of slots under a choice
abbrev pub OneSlotList : Type 0
OneSlotList = (table : Table) (choice : List ℕ) (a b : SlotList) → IsSlotList table choice a → IsSlotList table choice b → a ≡ b

in-slots : HaveOneList → (job : Job) (programs : List Program) (choice : List ℕ) (slots : SlotList) (a b : List ℕ)
    → IsStreamIn job programs choice slots a → IsStreamIn job programs choice slots b → a ≡ b
in-slots one job programs choice slots a b first second =
    first.stream_is
    ∙ ap (λ (versions : List (List (List UnitVersion))). output_stream (layout_of job programs) job.slot (pieces_of (stream_items programs versions choice)) slots.rows)
    (one programs (ratios_of job.programs) first.versions second.versions first.are_versions second.are_versions)
    ∙ sym second.stream_is

pub one-stream : HaveOneList → OneSlotList → (job : Job) (programs : List Program) (table : Table) (choice a b : List ℕ) → IsStreamOf job programs table choice a
    → IsStreamOf job programs table choice b → a ≡ b
one-stream one lists job programs table choice a b first second =
    in-slots one job programs choice second.slots a b
    (subst (λ (slots : SlotList). IsStreamIn job programs choice slots a) (lists table choice first.slots second.slots first.are_slots second.are_slots) first.stream_is) second.stream_is
