-- What the states after a slot tell of misses.
use Rattle.std.proofs.Common.{◌≡◌, ℕ, ◌+◌, ◌-◌, ◌*◌, ◌^◌, ◌<◌, ◌≤◌, All, List, length, get_or, slice_get, Some, refl, sym, ap, ap₂, subst, ◌∙◌, inl, inr, arith}
use Rattle.std.proofs.lemmas.Nat.{mul-le}
use Rattle.version_table.specs.declared.limits.TheConstants.{SLOT_MOST, TIME_SLOTS_MOST}
use Rattle.std.proofs.lemmas.Option.{same_Some, slice_get_within, slice_get-get_or}
use Rattle.stream_constants.specs.declared.clock.TheConstants.{SUBTICKS_PER_TICK}
use Rattle.slot_rule.specs.declared.constants.TheConstants.{MARGIN_SUBTICKS}
use Rattle.slot_rule.specs.declared.queue_state.QueueState.{QueueState}
use Rattle.slot_rule.specs.Buffers.{Row, Carries}
use Rattle.slot_rule.specs.Private.Heads.{IsFirst, Passes}
use Rattle.slot_rule.specs.Schedule.{IsDueBefore}
use Rattle.slot_rule.specs.Private.Slots.{IsDueSoon, NoneLate, NoneOverdue, TellsAfter}
use Rattle.slot_rule.specs.declared.after.After.TheVariants.{Missed}
use Rattle.slot_rule.specs.declared.sent.Miss.{Miss}
use Rattle.slot_rule.specs.Private.QueueState.{mb_or_tb_of_kind, mb_or_tb_of_state}
use Rattle.slot_rule.specs.Queues.{QueueKind, Video, Audio, QueuedPacket}
use Rattle.slot_rule.proofs.Places.{All-at_place}

-- ---- the numbers are far below the limits of their types

pub small_end : (n slot : ℕ) → n < TIME_SLOTS_MOST → slot ≤ SLOT_MOST → (n + 1) * slot ≤ TIME_SLOTS_MOST * SLOT_MOST
small_end n slot few most = mul-le (n + 1) slot TIME_SLOTS_MOST SLOT_MOST (omega arith) most

small_work_of_kind : (kind : QueueKind) (tb mb : ℕ) → tb < 2 ^ 60 → mb < 2 ^ 60 → mb_or_tb_of_kind kind tb mb < 2 ^ 60
small_work_of_kind (Video program vbv) tb mb tb_small mb_small = mb_small
small_work_of_kind Audio tb mb tb_small mb_small = tb_small

pub small_work : (states : List QueueState) (stream now work : ℕ) (d : QueueState) → All IsDueSoon states → stream < length states
    → work ≡ mb_or_tb_of_state (get_or states stream d) now → work < 2 ^ 60
small_work states stream now work d soon within is =
    let state = get_or states stream d in
    let small = (soon stream d within).small in
    let low = small_work_of_kind state.kind (state.tb_empty - now) (state.mb_empty - now) (omega (arith, small.tb)) (omega (arith, small.mb)) in
    omega (arith, low)

pub small_first : (states : List QueueState) (stream : ℕ) (packet : QueuedPacket) → All IsDueSoon states → IsFirst Passes states stream packet → packet.due < 2 ^ 50
small_first states stream packet soon is = (All-at_place IsDueSoon states soon stream is.state is.there).due packet is.head

-- ---- a miss

-- the packet in the row comes late
pub Missed-late : (states : List QueueState) (end now n stream work : ℕ) (packet : QueuedPacket) (row : Row) (miss : Miss) (d : QueueState) → row ≡ Carries stream packet
    → now ≡ end → stream < length states → work ≡ mb_or_tb_of_state (get_or states stream d) now → SUBTICKS_PER_TICK * packet.due < (now + MARGIN_SUBTICKS) + work
    → miss ≡ record { stream = stream; unit = packet.item; slot = n; due = packet.due } → TellsAfter states end row n (Missed miss)
Missed-late states end now n stream work packet row miss d row_is now_is within work_is late miss_is =
    let work_is' : work ≡ mb_or_tb_of_state (get_or states stream d) end = work_is ∙ ap (mb_or_tb_of_state (get_or states stream d)) now_is in
    subst (λ (m : Miss). TellsAfter states end row n (Missed m)) (sym miss_is)
    (packet, refl, inl (record { state = get_or states stream d; there = slice_get-get_or states stream d within; went = row_is; late = omega arith }))

-- ---- no miss

-- the packet in the row comes in time
pub NoneLate-in_time : (states : List QueueState) (end now stream work : ℕ) (packet : QueuedPacket) (row : Row) (d : QueueState) → row ≡ Carries stream packet
    → now ≡ end → work ≡ mb_or_tb_of_state (get_or states stream d) now → (end + MARGIN_SUBTICKS) + work ≤ SUBTICKS_PER_TICK * packet.due → NoneLate states end row
NoneLate-in_time states end now stream work packet row d row_is now_is work_is in_time stream' packet' late =
    let same : Carries stream packet ≡ Carries stream' packet' = sym row_is ∙ late.went in
    let numbers_are : stream' ≡ stream = cc same in
    let packets_are : packet' ≡ packet = cc same in
    let there : slice_get states stream ≡ Some late.state = ap (λ k. slice_get states k) (sym numbers_are) ∙ late.there in
    let state_is : get_or states stream d ≡ late.state = same_Some _ _ (sym (slice_get-get_or states stream d (slice_get_within states stream late.state there)) ∙ there) in
    let is_late : SUBTICKS_PER_TICK * packet.due < (end + MARGIN_SUBTICKS)
    + mb_or_tb_of_state late.state end = subst (λ (p : QueuedPacket). SUBTICKS_PER_TICK * p.due
    < (end + MARGIN_SUBTICKS) + mb_or_tb_of_state late.state end) packets_are late.late in
    let work_is' : work ≡ mb_or_tb_of_state late.state end = work_is ∙ ap₂ mb_or_tb_of_state state_is now_is in
    absurd (omega arith)

pub NoneLate-other : (states : List QueueState) (end : ℕ) (row : Row) → ((stream : ℕ) (packet : QueuedPacket) → row ≡ Carries stream packet → ⊥) → NoneLate states end row
NoneLate-other states end row apart stream packet late = apart stream packet late.went

-- where the first isn't overdue, none is
pub NoneOverdue-from_first : (states : List QueueState) (end stream : ℕ) (packet : QueuedPacket) → IsFirst Passes states stream packet
    → end + MARGIN_SUBTICKS ≤ SUBTICKS_PER_TICK * packet.due
    → NoneOverdue states end
NoneOverdue-from_first states end stream packet is in_time other state' packet' there head =
    elim (is.first other state' packet' there head tt) as (λ _. end + MARGIN_SUBTICKS ≤ SUBTICKS_PER_TICK * packet'.due) [
      | inl same ↦
          (let state_is : is.state ≡ state' = same_Some _ _ (sym is.there ∙ ap (λ k. slice_get states k) (sym same) ∙ there) in
          let packet_is : packet ≡ packet' = same_Some _ _ (sym is.head ∙ ap (λ (s : QueueState). s.head) state_is ∙ head) in
          subst (λ (p : QueuedPacket). end + MARGIN_SUBTICKS ≤ SUBTICKS_PER_TICK * p.due) packet_is in_time)
      | inr before ↦ (let due : packet.due ≤ packet'.due = due_of_before stream packet other packet' before in omega arith)
    ]
  where
    due_of_before : (stream : ℕ) (packet : QueuedPacket) (other : ℕ) (packet' : QueuedPacket) → IsDueBefore stream packet other packet' → packet.due ≤ packet'.due
    due_of_before stream packet other packet' (inl earlier) = omega arith
    due_of_before stream packet other packet' (inr same) = omega (arith, same.0)
