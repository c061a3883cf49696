-- The decoder of an audio stream has no fault.
use Rattle.std.proofs.Common.{◌≡◌, ℕ, zero, suc, List, [], ◌∷◌, slice_get, Some, sym, subst}
use Rattle.std.proofs.lemmas.Option.{same_Some, none-some}
use Rattle.version_table.specs.declared.table.Table.{Table}
use Rattle.version_table.specs.Choice.{Fits}
use Rattle.version_table.specs.Table.{IsValidTable}
use Rattle.slot_rule.specs.declared.queue_kind.QueueKind.TheVariants.{Audio}
use Rattle.slot_rule.specs.declared.queued_packet.QueuedPacket.{QueuedPacket}
use Rattle.slot_rule.specs.declared.row.Row.{Row}
use Rattle.slot_rule.specs.Queues.{queues_of}
use Rattle.slot_rule.specs.Schedule.{IsSchedule}
use Rattle.tstd_model.specs.declared.decoder_input.BufferKind.TheVariants.{Audio as AudioBuffers}
use Rattle.tstd_model.specs.declared.decoder_input.Removal.{Removal}
use Rattle.tstd_model.specs.declared.fault.TstdFault.{TstdFault}
use Rattle.tstd_model.specs.declared.fault.TstdFault.TheVariants.{Overflow, Late, Old}
use Rattle.tstd_model.specs.Decoder.{DecoderBuffer, IsOverfull, transport_buffer, audio_buffer}
use Rattle.tstd_model.specs.Faults.{IsFault}
use Rattle.tstd_bridge.specs.Arrivals.{Headers, arrivals_from}
use Rattle.tstd_bridge.specs.Removals.{AreWithin, IsAllowed}
use Rattle.tstd_bridge.proofs.AudioB.{audio_holds}
use Rattle.tstd_bridge.proofs.AudioTimes.{audio_in_time, audio_not_old}
use Rattle.tstd_bridge.proofs.TbFollows.{finds_little}
use Rattle.tstd_bridge.proofs.TbHolds.{tb_holds}

-- a buffer of an audio decoder is TB or B
pub one_of_two : (tb b : DecoderBuffer) (at place : ℕ) (buffer : DecoderBuffer) → (IsOverfull tb at → ⊥) → (IsOverfull b at → ⊥)
    → slice_get (tb ∷ b ∷ []) place ≡ Some buffer → IsOverfull buffer at → ⊥
one_of_two tb b at zero buffer first second there over = first (subst (λ x. IsOverfull x at) (sym (same_Some tb buffer there)) over)
one_of_two tb b at (suc zero) buffer first second there over = second (subst (λ x. IsOverfull x at) (sym (same_Some b buffer there)) over)
one_of_two tb b at (suc (suc place)) buffer first second there over = none-some buffer there

pub audio_clean : (table : Table) (choice : List ℕ) (rows : List Row) (stream : ℕ) (packets : List QueuedPacket) (headers : Headers) (removals : List Removal) (fault : TstdFault)
    → IsValidTable table → Fits table choice → IsSchedule table choice rows
    → slice_get (queues_of table choice) stream ≡ Some (record { kind = Audio; packets = packets })
    → AreWithin headers packets → IsAllowed Audio headers packets removals
    → IsFault table.slot AudioBuffers (arrivals_from 0 stream Audio headers rows) removals fault → ⊥
audio_clean table choice rows stream packets headers removals (Overflow at) valid fits schedule there within allowed is =
    let arrivals = arrivals_from 0 stream Audio headers rows in
    one_of_two (transport_buffer table.slot AudioBuffers arrivals) (audio_buffer table.slot arrivals removals) at is.place is.buffer
    (tb_holds table.slot stream Audio headers rows (finds_little table choice stream Audio packets rows valid there schedule.follows) at)
    (audio_holds table choice stream packets headers rows removals at valid fits schedule.follows there within allowed)
    is.one_of is.over
audio_clean table choice rows stream packets headers removals (Late number) valid fits schedule there within allowed is =
    audio_in_time table choice stream packets headers rows removals number valid fits schedule there within allowed is
audio_clean table choice rows stream packets headers removals (Old at) valid fits schedule there within allowed is =
    audio_not_old table choice stream packets headers rows removals at valid fits schedule there within allowed is
