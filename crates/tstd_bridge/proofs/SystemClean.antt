-- The decoder of a program's sections has no fault, and so no decoder of a schedule has.
use Rattle.std.proofs.Common.{◌≡◌, ℕ, List, [], ◌∷◌, slice_get, Some, refl, subst}
use Rattle.std.proofs.lemmas.Option.{none-some}
use Rattle.version_table.specs.declared.table.Table.{Table}
use Rattle.version_table.specs.Choice.{Fits}
use Rattle.version_table.specs.Table.{IsValidTable}
use Rattle.slot_rule.specs.declared.row.Row.{Row}
use Rattle.slot_rule.specs.Schedule.{FollowRule, IsSchedule}
use Rattle.tstd_model.specs.declared.decoder_input.BufferKind.TheVariants.{System as SystemBuffers}
use Rattle.tstd_model.specs.declared.decoder_input.PacketPart.{PacketPart}
use Rattle.tstd_model.specs.declared.fault.TstdFault.{TstdFault}
use Rattle.tstd_model.specs.declared.fault.TstdFault.TheVariants.{Overflow, Late, Old}
use Rattle.tstd_model.specs.PacketBytes.{parts, kept, arrives}
use Rattle.tstd_model.specs.Decoder.{transport_buffer, system_buffer, is_removed}
use Rattle.tstd_model.specs.Faults.{IsFault}
use Rattle.tstd_bridge.specs.Clean.{AreClean}
use Rattle.tstd_bridge.specs.Sections.{sections_from}
use Rattle.tstd_bridge.proofs.AudioClean.{one_of_two, audio_clean}
use Rattle.tstd_bridge.proofs.SystemHolds.{sections_tb_holds, sections_main_holds}
use Rattle.tstd_bridge.proofs.VideoClean.{video_clean}

-- no byte of sections is removed
kept-none : (ps : List PacketPart) (xs : List ℕ) → kept (is_removed SystemBuffers) ps xs ≡ []
unfolding kept
kept-none [] xs = refl
kept-none (p ∷ ps) [] = refl
kept-none (p ∷ ps) (x ∷ xs) = kept-none ps xs

pub sections_clean : (table : Table) (choice : List ℕ) (rows : List Row) (program : ℕ) (fault : TstdFault) → IsValidTable table → FollowRule table choice rows
    → IsFault table.slot SystemBuffers (sections_from 0 program rows) [] fault → ⊥
sections_clean table choice rows program (Overflow at) valid follows is =
    let arrivals = sections_from 0 program rows in
    one_of_two (transport_buffer table.slot SystemBuffers arrivals) (system_buffer table.slot arrivals) at is.place is.buffer
    (sections_tb_holds table choice program rows at valid follows) (sections_main_holds table choice program rows at valid follows) is.one_of is.over
sections_clean table choice rows program (Late number) valid follows is = none-some is.removal is.one_of
sections_clean table choice rows program (Old at) valid follows is =
    let arrivals = sections_from 0 program rows in
    none-some is.arrival (subst (λ (xs : List ℕ). slice_get xs is.byte ≡ Some is.arrival) (kept-none (parts arrivals) (arrives table.slot arrivals)) is.arrives)

pub all_clean : (table : Table) (choice : List ℕ) (rows : List Row) → IsValidTable table → Fits table choice → IsSchedule table choice rows → AreClean table choice rows
all_clean table choice rows valid fits schedule = record {
  videos = λ stream program vbv packets headers removals fault there leave allowed is.
      video_clean table choice rows stream program vbv packets headers removals fault valid fits schedule there leave allowed is;
  audios = λ stream packets headers removals fault there within allowed is.
      audio_clean table choice rows stream packets headers removals fault valid fits schedule there within allowed is;
  sections = λ program fault is. sections_clean table choice rows program fault valid schedule.follows is;
}
