-- From places along the needs to the first window without room.
use Rattle.std.proofs.Common.{◌≡◌, ℕ, ◌+◌, ◌*◌, ◌<◌, ◌≤◌, List, length, None, sym, subst, ◌∙◌, inl, inr, arith, ℤ, pos, ◌+ℤ◌, ◌-ℤ◌, ◌≤ℤ◌, ◌<ℤ◌}
use Rattle.std.proofs.lemmas.Bool.{cases_lt}
use Rattle.std.proofs.lemmas.Int.{ints}
use Rattle.version_table.specs.declared.limits.TheConstants.{TIME_SLOTS_MOST}
use Rattle.version_table.specs.declared.table.Table.{Table}
use Rattle.version_table.specs.Table.{IsValidTable}
use Rattle.dual_bounds.specs.Room.{room}
use Rattle.impossible_proof.specs.declared.needs.UnitNeed.{UnitNeed}
use Rattle.impossible_proof.specs.declared.window.NoRoom.{NoRoom}
use Rattle.impossible_proof.specs.NoRoom.{HasNoRoom, IsAnswer, IsFirstNoRoom, IsUnitDue, need}
use Rattle.impossible_proof.specs.Private.Needs.{AreNeeds, need_in}
use Rattle.impossible_proof.specs.Private.Scan.{AllHaveRoom, IsFirstBeginning, IsFirstEnd, NoneBegins, before, beginning, due_at, ending, ending_by, nothing, room_before}
use Rattle.impossible_proof.proofs.NeedLists.{first_place, last_place, needed_before, needed_by, rises}
use Rattle.impossible_proof.proofs.NeedOf.{due_of_unit, need-is, unit_stands}
use Rattle.impossible_proof.proofs.Rooms.{parts, room_parts}

need_parts : (needs : List UnitNeed) (from due : ℕ) → from ≤ due → need_in from due needs + need_in 0 from needs ≡ need_in 0 due needs + need_in from from needs
unfolding need_in
need_parts needs from due order = parts (λ (one : UnitNeed). one.due) (λ (one : UnitNeed). one.packets) from due order needs

-- due times along the needs
due_order : (table : Table) (needs : List UnitNeed) (i j : ℕ) → AreNeeds table needs → i ≤ j → j < length needs → due_at needs i ≤ due_at needs j
due_order table needs i j are upto within = are.rising i j nothing upto within

-- ---- numbers of a window
-- a beginning below an end is too little room
short_from : (room_in room_from room_due room_at : ℤ) (need_ind need_from need_due need_at start : ℕ) → (room_in +ℤ room_from) ≡ (room_due +ℤ room_at)
    → need_ind + need_from ≡ need_due + need_at → need_from ≤ start + need_at → (pos start -ℤ (room_from -ℤ room_at)) <ℤ (pos need_due -ℤ room_due) → room_in <ℤ pos need_ind
short_from room_in room_from room_due room_at need_ind need_from need_due need_at start rooms needs upto above = omega (arith, ints)

-- and the other way round
short_to : (room_in room_from room_due room_at : ℤ) (need_ind need_from need_due need_at start : ℕ) → (room_in +ℤ room_from) ≡ (room_due +ℤ room_at)
    → need_ind + need_from ≡ need_due + need_at → start + need_at ≡ need_from → room_in <ℤ pos need_ind → (pos start -ℤ (room_from -ℤ room_at)) <ℤ (pos need_due -ℤ room_due)
short_to room_in room_from room_due room_at need_ind need_from need_due need_at start rooms needs is short = omega (arith, ints)

-- a place whose beginning lies below the end at a time shows a window without room
above_is_short : (table : Table) (needs : List UnitNeed) → IsValidTable table → AreNeeds table needs → (j due : ℕ) → j < length needs → due_at needs j ≤ due
    → beginning table needs j <ℤ ending_by table needs due → room table (due_at needs j) due <ℤ pos (need table (due_at needs j) due)
unfolding beginning ending_by room_before
above_is_short table needs valid are j due within order above =
    let from = due_at needs j in
    let whole : need table from due ≡ need_in from due needs = need-is table needs from due are in
    let short : room table from due <ℤ pos (need_in from due needs) =
    short_from (room table from due) (room table 0 from) (room table 0 due) (room table from from) (need_in from due needs) (need_in 0 from needs) (need_in 0 due needs)
    (need_in from from needs) (before needs j) (room_parts table valid from due order) (need_parts needs from due order)
    (needed_before 0 needs (rises needs are.rising) j within) above in
    subst (λ (n : ℕ). room table from due <ℤ pos n) (sym whole) short

end-le : (n m : ℕ) (r : ℤ) → n ≤ m → (pos n -ℤ r) ≤ℤ (pos m -ℤ r)
end-le n m r le = omega (arith, ints)

-- an end at a place is no more than the end at its time
ending-le : (table : Table) (needs : List UnitNeed) (k : ℕ) → AreNeeds table needs → k < length needs → ending table needs k ≤ℤ ending_by table needs (due_at needs k)
unfolding ending ending_by
ending-le table needs k are within =
    end-le (before needs (k + 1)) (need_in 0 (due_at needs k) needs) (room table 0 (due_at needs k)) (needed_by 0 needs (rises needs are.rising) k within)

below : (a b c : ℤ) → a <ℤ b → b ≤ℤ c → a <ℤ c
below a b c first second = omega (arith, ints)

-- ---- places of a window without room
pub record ShowsNoRoom (table : Table) (needs : List UnitNeed) (from due : ℕ) : Type 0 where
  pub start : ℕ
  pub place : ℕ
  pub order : start ≤ place
  pub within : place < length needs
  pub from_is : due_at needs start ≡ from
  pub due_is : due_at needs place ≡ due
  pub above : beginning table needs start <ℤ ending table needs place
  pub above_by : beginning table needs start <ℤ ending_by table needs due

shows_at : (table : Table) (needs : List UnitNeed) → IsValidTable table → AreNeeds table needs → (from due j k : ℕ) → HasNoRoom table from due → due_at needs j ≡ from
    → due_at needs k ≡ due → before needs j + need_in from from needs ≡ need_in 0 from needs → before needs (k + 1) ≡ need_in 0 due needs
    → (beginning table needs j <ℤ ending table needs k) × (beginning table needs j <ℤ ending_by table needs due)
unfolding beginning ending ending_by room_before
shows_at table needs valid are from due j k has from_is due_is first last =
    let short : room table from due <ℤ pos (need_in from due needs) = subst (λ (n : ℕ). room table from due <ℤ pos n) (need-is table needs from due are) has.short in
    let above : (pos (before needs j) -ℤ (room table 0 from -ℤ room table from from)) <ℤ (pos (need_in 0 due needs) -ℤ room table 0 due) =
    short_to (room table from due) (room table 0 from) (room table 0 due) (room table from from) (need_in from due needs) (need_in 0 from needs) (need_in 0 due needs)
    (need_in from from needs) (before needs j) (room_parts table valid from due has.order) (need_parts needs from due has.order) first short in
    let own : (pos (before needs j) -ℤ (room table 0 (due_at needs j) -ℤ room table (due_at needs j) (due_at needs j))) <ℤ (pos (need_in 0 due needs) -ℤ room table 0 due) =
    subst (λ (t : ℕ). (pos (before needs j) -ℤ (room table 0 t -ℤ room table t t)) <ℤ (pos (need_in 0 due needs) -ℤ room table 0 due)) (sym from_is) above in (
      subst (λ (t : ℕ). (pos (before needs j) -ℤ (room table 0 (due_at needs j) -ℤ room table (due_at needs j) (due_at needs j))) <ℤ (pos (before needs (k + 1)) -ℤ room table 0 t))
          (sym due_is)
          (subst (λ (n : ℕ). (pos (before needs j) -ℤ (room table 0 (due_at needs j) -ℤ room table (due_at needs j) (due_at needs j))) <ℤ (pos n -ℤ room table 0 due)) (sym last) own),
      own,
    )

pub shows : (table : Table) (needs : List UnitNeed) → IsValidTable table → AreNeeds table needs → (from due : ℕ) → HasNoRoom table from due → ShowsNoRoom table needs from due
shows table needs valid are from due has =
    let up = rises needs are.rising in
    let from_at = unit_stands table needs from are has.from_due in
    let due_stands = unit_stands table needs due are has.due_due in
    let first = first_place 0 needs from up from_at.place from_at.within from_at.due_is in
    let last = last_place 0 needs due up due_stands.place due_stands.within due_stands.due_is in
    let above = shows_at table needs valid are from due first.place last.place has first.due_is last.due_is first.total last.total in
    record {
      start = first.place;
      place = last.place;
      order = elim (cases_lt last.place first.place) as (λ _. first.place ≤ last.place) [
        | inr upto ↦ upto
        | inl less ↦ (let earlier = first.earlier last.place less in absurd (omega (arith, last.due_is, has.order)))
      ];
      within = last.within;
      from_is = first.due_is;
      due_is = last.due_is;
      above = above.0;
      above_by = above.1;
    }

-- ---- the answers
crossed : (a b : ℤ) → a ≤ℤ b → b <ℤ a → ⊥
crossed a b upto above = omega (arith, ints)

pub none_answers : (table : Table) (needs : List UnitNeed) → IsValidTable table → AreNeeds table needs → AllHaveRoom table needs (length needs) → IsAnswer table None
none_answers table needs valid are room_for from due has =
    let shown = shows table needs valid are from due has in
    crossed (ending table needs shown.place) (beginning table needs shown.start) (room_for shown.start shown.place shown.order shown.within) shown.above

-- the window that the first end shows
pub first_is_short : (table : Table) (needs : List UnitNeed) → IsValidTable table → AreNeeds table needs → (due : ℕ) → (is : IsFirstEnd table needs due)
    → HasNoRoom table (due_at needs is.start) due
first_is_short table needs valid are due is =
    let own = is.due_is in
    let order : due_at needs is.start ≤ due_at needs is.place = due_order table needs is.start is.place are is.order is.within in
    let above : beginning table needs is.start <ℤ ending_by table needs (due_at needs is.place) =
    below (beginning table needs is.start) (ending table needs is.place) (ending_by table needs (due_at needs is.place)) is.above (ending-le table needs is.place are is.within) in
    record {
      from_due = due_of_unit table needs is.start are (omega (arith, is.order, is.within));
      due_due = subst (λ (d : ℕ). IsUnitDue table d) (sym own) (due_of_unit table needs is.place are is.within);
      order = omega (arith, own);
      short = subst (λ (d : ℕ). room table (due_at needs is.start) d <ℤ pos (need table (due_at needs is.start) d)) (sym own)
          (above_is_short table needs valid are is.start (due_at needs is.place) (omega (arith, is.order, is.within)) order above);
    }

pub no_beginning : (table : Table) (needs : List UnitNeed) → IsValidTable table → AreNeeds table needs → (due : ℕ) → IsFirstEnd table needs due
    → NoneBegins table needs due (length needs) → ⊥
no_beginning table needs valid are due is none =
    let has = first_is_short table needs valid are due is in
    let shown = shows table needs valid are (due_at needs is.start) due has in
    crossed (ending_by table needs due) (beginning table needs shown.start)
    (none shown.start (omega (arith, shown.order, shown.within)) (omega (arith, shown.from_is, has.order))) shown.above_by

pub due_in_time : (table : Table) (needs : List UnitNeed) → AreNeeds table needs → (due : ℕ) → IsFirstEnd table needs due → due ≤ TIME_SLOTS_MOST * table.slot
due_in_time table needs are due is = omega (arith, is.due_is, are.dues is.place nothing is.within)

pub found_answers : (table : Table) (needs : List UnitNeed) → IsValidTable table → AreNeeds table needs → (found : NoRoom) → IsFirstEnd table needs found.due
    → IsFirstBeginning table needs found.due found.from → found.needed ≡ need_in found.from found.due needs → found.room ≡ room table found.from found.due
    → IsFirstNoRoom table found
found_answers table needs valid are found ends begins needed_is room_is =
    let first = first_is_short table needs valid are found.due ends in
    let own = begins.from_is in
    let order : due_at needs begins.place ≤ found.due = omega (arith, own, begins.order) in
    record {
      has_no_room = record {
        from_due = subst (λ (d : ℕ). IsUnitDue table d) (sym own) (due_of_unit table needs begins.place are begins.within);
        due_due = first.due_due;
        order = begins.order;
        short = subst (λ (f : ℕ). room table f found.due <ℤ pos (need table f found.due)) (sym own)
            (above_is_short table needs valid are begins.place found.due begins.within order begins.above);
      };
      ends_first = λ from due has. ends_at table needs valid are from due has ends;
      begins_first = λ from has. begins_at table needs valid are from has begins;
      needed = needed_is ∙ sym (need-is table needs found.from found.due are);
      room = room_is;
    }
  where
    ends_at : (table : Table) (needs : List UnitNeed) → IsValidTable table → AreNeeds table needs → (from due : ℕ) → HasNoRoom table from due → {first : ℕ}
        → IsFirstEnd table needs first → first ≤ due
    ends_at table needs valid are from due has {first} is =
        let shown = shows table needs valid are from due has in
        elim (cases_lt shown.place is.place) as (λ _. first ≤ due) [
          | inr upto ↦ omega (arith, is.due_is, shown.due_is, due_order table needs is.place shown.place are upto shown.within)
          | inl less ↦ absurd
              (crossed (ending table needs shown.place) (beginning table needs shown.start) (is.first shown.start shown.place shown.order less) shown.above)
        ]

    begins_at : (table : Table) (needs : List UnitNeed) → IsValidTable table → AreNeeds table needs → (from : ℕ) → {due first : ℕ} → HasNoRoom table from due
        → IsFirstBeginning table needs due first → first ≤ from
    begins_at table needs valid are from {due} {first} has is =
        let shown = shows table needs valid are from due has in
        elim (cases_lt shown.start is.place) as (λ _. first ≤ from) [
          | inr upto ↦ omega (
            arith,
            is.from_is,
            shown.from_is,
            due_order table needs is.place shown.start are upto (omega (arith, shown.order, shown.within)),
          )
          | inl less ↦ absurd
              (crossed (ending_by table needs due) (beginning table needs shown.start) (is.first shown.start less (omega (arith, shown.from_is, has.order))) shown.above_by)
        ]
