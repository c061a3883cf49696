use Rattle.std.proofs.Common.{◌≡◌, ◌∙◌, pos, ◌-ℤ◌, to_z, of_z, w64, sym, subst, ap, rules, arith}
use Rattle.std.proofs.lemmas.Int.{ints, to_z-of_z}
use mir.Val.{SFits}
use Rattle.dual_bounds.specs.Room.{audio_due, free_slots, room}
use Rattle.window_slots.proofs.Rooms.{audio_few, own_slots, room_is, taken}
use Rattle.window_slots.proofs.slots.audio_in.Goals as goal

-- the free slots less the room are the audio packets
left : (c : goal.After-window_capacity) → to_z w64 c.slots_free_in-free.result -ℤ to_z w64 (of_z w64 c.window_capacity.result) ≡ pos (audio_due c.args.table.now c.args.from c.args.due)
left c =
    let table = c.args.table.now in
    let from = c.args.from in
    let due = c.args.due in
    let free = c.slots_free_in-free.result in
    let fits : SFits w64 c.window_capacity.result = search rules in
    let held : to_z w64 (of_z w64 c.window_capacity.result) ≡ room table from due = to_z-of_z w64 c.window_capacity.result fits ∙ c.window_capacity.ensures in
    let free_is : free ≡ free_slots table from due = c.slots_free_in-free.ensures.value ∙ own_slots table from due in
    let room_left : room table from due ≡ (pos free -ℤ pos (audio_due table from due)) =
    room_is table from due ∙ ap (λ n. (pos n -ℤ pos (audio_due table from due))) (sym free_is) in
    taken free (audio_due table from due) (room table from due) _ c.slots_free_in-free.ensures.few (audio_few table from due c.requires) held room_left

audio_fits : (c : goal.After-window_capacity) → SFits w64 (pos (audio_due c.args.table.now c.args.from c.args.due))
audio_fits c = record { sfits = omega (arith, audio_few c.args.table.now c.args.from c.args.due c.requires) }

held_left : (c : goal.After-window_capacity)
    → to_z w64 (of_z w64 (to_z w64 c.slots_free_in-free.result -ℤ to_z w64 (of_z w64 c.window_capacity.result))) ≡ pos (audio_due c.args.table.now c.args.from c.args.due)
held_left c = ap (λ n. to_z w64 (of_z w64 n)) (left c) ∙ to_z-of_z w64 (pos (audio_due c.args.table.now c.args.from c.args.due)) (audio_fits c)

pub overflow_sub-result : goal.overflow_sub-result
overflow_sub-result c = subst (λ n. SFits w64 n) (sym (left c)) (audio_fits c)

pub overflow_cast-result-2 : goal.overflow_cast-result-2
overflow_cast-result-2 c =
    let few = audio_few c.args.table.now c.args.from c.args.due c.requires in
    (rw (held_left c) (omega (arith, ints)), rw (held_left c) (omega (arith, few)))

pub returns-clause-value : goal.returns-clause-value
returns-clause-value c = rw (held_left c)

pub returns-clause-few : goal.returns-clause-few
returns-clause-few c = rw (held_left c) (audio_few c.args.table.now c.args.from c.args.due c.requires)
