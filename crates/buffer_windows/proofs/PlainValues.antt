-- Windows of time, taken as windows that count no buffer: no more room, and no less charged.
use Rattle.std.proofs.Common.{◌≡◌, ℕ, suc, ◌+◌, ◌-◌, ◌*◌, ◌<◌, ◌≤◌, ap, ◌∙◌, inl, inr, mul-add, arith, pos, negsuc, ◌-ℤ◌, ◌*ℤ◌, ◌≤ℤ◌}
use lib.IntN.{pos-*ℤ-pos, pos-*ℤ-negsuc}
use Rattle.std.proofs.lemmas.Bool.{cases_lt}
use Rattle.std.proofs.lemmas.Int.{ints}
use Rattle.stream_constants.specs.declared.packets.TheConstants.{PAYLOAD_BYTES}
use Rattle.version_table.specs.declared.table.Table.{Table}
use Rattle.version_table.specs.Table.{IsValidTable}
use Rattle.dual_bounds.specs.declared.windows.Window.{Window}
use Rattle.dual_bounds.specs.Room.{audio_due, free_slots as free_slots_of_time, room as room_of_time}
use Rattle.buffer_windows.specs.Room.{audio_slots, buffer_bytes, free_window_slots as free_slots, buffer_room as room}
use Rattle.buffer_windows.specs.Windows.{without_buffers}
use Rattle.buffer_windows.proofs.PlainRooms.{audio_le, buffers_none, free_le}

spread : (l f a : ℕ) → (pos l *ℤ (pos f -ℤ pos a)) ≡ (pos (l * f) -ℤ pos (l * a))
spread l f a = elim (cases_lt f a) as (λ _. (pos l *ℤ (pos f -ℤ pos a)) ≡ (pos (l * f) -ℤ pos (l * a))) [
  | inl less ↦
      (let n = a - f - 1 in
      let is : pos f -ℤ pos a ≡ negsuc (a - f - 1) = omega (arith, ints) in
      let whole : a ≡ f + suc (a - f - 1) = omega arith in
      let parts : l * a ≡ l * f + l * suc (a - f - 1) = ap (λ k. l * k) whole ∙ mul-add l f (suc (a - f - 1)) in
      rw (is, pos-*ℤ-negsuc l (a - f - 1)) (omega (arith, ints)))
  | inr more ↦
      (let is : pos f -ℤ pos a ≡ pos (f - a) = omega (arith, ints) in
      let whole : f ≡ a + (f - a) = omega arith in
      let parts : l * f ≡ l * a + l * (f - a) = ap (λ k. l * k) whole ∙ mul-add l a (f - a) in
      rw (is, pos-*ℤ-pos l (f - a)) (omega (arith, ints)))
]

pub rooms_le : (table : Table) (window : Window) → IsValidTable table
    → room table (without_buffers table.slot window) ≤ℤ (pos PAYLOAD_BYTES *ℤ room_of_time table window.from window.due)
unfolding room room_of_time
rooms_le table window valid =
    let some : 0 < table.slot = omega (arith, valid.slot_least) in
    let free : free_slots table (without_buffers table.slot window) ≤ free_slots_of_time table window.from window.due = free_le table window some in
    let audio : audio_due table window.from window.due ≤ audio_slots table (without_buffers table.slot window) = audio_le table window valid in
    let none : buffer_bytes table (without_buffers table.slot window) ≡ 0 = buffers_none table window some in
    rw (spread PAYLOAD_BYTES (free_slots_of_time table window.from window.due) (audio_due table window.from window.due)) (omega (arith, ints))
