-- The room of a window in slots of another length.
use Rattle.std.proofs.Common.{◌≡◌, ℕ, ◌+◌, ◌-◌, ◌<◌, ◌≤◌, ◌^◌, ℤ, pos, ◌-ℤ◌, to_z, w64, refl, sym, subst, inl, inr, arith}
use Rattle.std.proofs.lemmas.Bool.{cases_eq}
use Rattle.std.proofs.lemmas.Int.{ints}
use Rattle.version_table.specs.declared.table.Table.{Table}
use Rattle.version_table.specs.Table.{IsValidTable}
use Rattle.dual_bounds.specs.Room.{audio_due, free_slots, room}
use Rattle.dual_bounds.proofs.AudioDue.{audio_due-le}
use Rattle.window_slots.specs.LongestSlot.{HasRoom, with_slot}

-- audio doesn't depend on the slot
pub audio_stays : (table : Table) (slot from due : ℕ) → audio_due (with_slot table slot) from due ≡ audio_due table from due
unfolding audio_due
audio_stays table slot from due = refl

-- in its own slots a table is itself
pub own_slots : (table : Table) (from due : ℕ) → free_slots (with_slot table table.slot) from due ≡ free_slots table from due
own_slots table from due = refl

-- what is due of audio in a window, and that it is few
pub audio_few : (table : Table) (from due : ℕ) → IsValidTable table → audio_due table from due < 2 ^ 32
audio_few table from due valid = omega (arith, audio_due-le table from due, valid.audio_packets)

pub room_is : (table : Table) (from due : ℕ) → room table from due ≡ (pos (free_slots table from due) -ℤ pos (audio_due table from due))
unfolding room
room_is table from due = refl

-- the window has room where its free slots are as many as the packets and audio together
pub has_room : (table : Table) (from due packets slot : ℕ) → packets + audio_due table from due ≤ free_slots (with_slot table slot) from due → HasRoom table from due packets slot
has_room table from due packets slot enough =
    omega (arith, ints, room_is (with_slot table slot) from due, audio_stays table slot from due)

pub room_enough : (table : Table) (from due packets slot : ℕ) → HasRoom table from due packets slot → packets + audio_due table from due ≤ free_slots (with_slot table slot) from due
room_enough table from due packets slot has =
    omega (arith, ints, has, room_is (with_slot table slot) from due, audio_stays table slot from due)

-- what of the free slots isn't room is audio
pub taken : (free audio : ℕ) (room held : ℤ) → free < 2 ^ 62 → audio < 2 ^ 32 → held ≡ room → room ≡ (pos free -ℤ pos audio) → to_z w64 free -ℤ held ≡ pos audio
taken free audio room held small few is left = omega (arith, ints)

-- where no slot that is shorter by less has room, none that is longer has
pub no_longer : (table : Table) (from due packets shorter : ℕ) → ((less : ℕ) → less < shorter → HasRoom table from due packets (table.slot - less) → ⊥)
    → (longer : ℕ) → table.slot < longer + shorter → longer ≤ table.slot → HasRoom table from due packets longer → ⊥
no_longer table from due packets shorter none longer above most has =
    let is : table.slot - (table.slot - longer) ≡ longer = omega arith in
    none (table.slot - longer) (omega arith) (subst (λ slot. HasRoom table from due packets slot) (sym is) has)

pub none_more : (table : Table) (from due packets shorter : ℕ) → ((less : ℕ) → less < shorter → HasRoom table from due packets (table.slot - less) → ⊥)
    → (HasRoom table from due packets (table.slot - shorter) → ⊥) → (less : ℕ) → less < shorter + 1 → HasRoom table from due packets (table.slot - less) → ⊥
none_more table from due packets shorter none own less below has = elim (cases_eq less shorter) as (λ _. ⊥) [
  | inl is ↦ own (subst (λ n. HasRoom table from due packets (table.slot - n)) is has)
  | inr other ↦ none less (omega arith) has
]
