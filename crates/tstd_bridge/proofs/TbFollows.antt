-- Rows that follow the slot rule: each packet finds little work in TB.
use Rattle.std.proofs.Common.{◌≡◌, ℕ, ◌+◌, ◌-◌, ◌*◌, ◌%◌, ◌<◌, ◌≤◌, ◌⊎◌, eqb, List, [], ◌∷◌, ◌++◌, length, slice_get, Some, sym, ap, subst, subst₂, ◌∙◌, inl, inr, arith}
use Rattle.std.proofs.lemmas.Bool.{cases_Bool, cases_lt, eqb-true, eqb-false}
use Rattle.std.proofs.lemmas.List.{length_push}
use Rattle.std.proofs.lemmas.Option.{same_Some}
use Rattle.stream_constants.specs.declared.packets.TheConstants.{PACKET_BYTES}
use Rattle.stream_constants.specs.declared.decoder.TheConstants.{VIDEO_TB_SUBTICKS, AUDIO_TB_SUBTICKS}
use Rattle.version_table.specs.declared.limits.TheConstants.{SLOT_LEAST}
use Rattle.version_table.specs.declared.table.Table.{Table}
use Rattle.version_table.specs.Table.{IsValidTable}
use Rattle.slot_rule.specs.declared.constants.TheConstants.{VIDEO_TB_GATE, AUDIO_TB_GATE}
use Rattle.slot_rule.specs.declared.sent.Sent.TheVariants.{Null, Pat, Pmt, Pcr, Video as VideoPiece, Audio as AudioPiece}
use Rattle.slot_rule.specs.Timetable.{period}
use Rattle.slot_rule.specs.Queues.{Queue, queues_of}
use Rattle.slot_rule.specs.declared.queue_kind.QueueKind.{QueueKind}
use Rattle.slot_rule.specs.declared.queued_packet.QueuedPacket.{QueuedPacket}
use Rattle.slot_rule.specs.declared.queue_kind.QueueKind.TheVariants.{Video, Audio}
use Rattle.slot_rule.specs.Buffers.{packets_in, slot_subticks, tb_work, tb_gate}
use Rattle.slot_rule.specs.declared.row.Row.{Row}
use Rattle.slot_rule.specs.declared.row.Row.TheVariants.{Reserved, Carries, Empty}
use Rattle.slot_rule.specs.Schedule.{IsRow, Goes, FollowRule}
use Rattle.slot_rule.proofs.RuleFronts.{AtEach, by_push}
use Rattle.slot_rule.proofs.RuleRows.{IsNext, FollowRule-front, FollowRule-last}
use Rattle.slot_rule.proofs.SlotListLaws.{some_period}
use Rattle.slot_rule.proofs.RuleWork.{packets_in-le, packets_in-other, packets_in-other_pcr, packets_in-empty}
use Rattle.tstd_bridge.proofs.PcrPlaces.{IsPcrPlace, pcr_place, next_offset, reserved_low, low_brings_none}
use Rattle.tstd_bridge.proofs.TbHolds.{FindsLittle}
use Rattle.tstd_bridge.proofs.TbWork.{tb_work-none, tb_work-one}

-- a packet of a queue goes by the gate of the queue's kind
pub carried_gate : (slot stream s : ℕ) (queues : List Queue) (kind : QueueKind) (packets : List QueuedPacket) (rows : List Row) (packet : QueuedPacket)
    → slice_get queues stream ≡ Some (record { kind = kind; packets = packets }) → s ≡ stream → Goes slot queues rows s packet → tb_work slot stream kind rows ≤ tb_gate kind
carried_gate slot stream s queues kind packets rows packet there same goes =
    let queue : Queue = record { kind = kind; packets = packets } in
    let head : Queue = record { kind = goes.kind; packets = goes.head.0 } in
    let is : head ≡ queue = same_Some head queue (sym goes.head.1 ∙ ap (λ k. slice_get queues k) same ∙ there) in
    let kind_is : goes.kind ≡ kind = ap (λ (q : Queue). q.kind) is in
    subst₂ (λ (k : QueueKind) (st : ℕ). tb_work slot st k rows ≤ tb_gate k) kind_is same goes.permitted.tb

-- a packet that a row brings to an audio stream goes by its gate
pub audio_brought : (slot programs stream : ℕ) (queues : List Queue) (packets : List QueuedPacket) (rows : List Row) (row : Row)
    → slice_get queues stream ≡ Some (record { kind = Audio; packets = packets }) → IsRow slot programs queues rows row → FindsLittle slot stream Audio rows row
audio_brought slot programs stream queues packets rows (Reserved sent) there next some = absurd (omega (arith, some))
audio_brought slot programs stream queues packets rows Empty there next some = absurd (omega (arith, some))
audio_brought slot programs stream queues packets rows (Carries s packet) there next some =
    elim (cases_Bool (eqb s stream)) as (λ _. tb_work slot stream Audio rows ≤ AUDIO_TB_GATE * AUDIO_TB_SUBTICKS) [
      | inl same ↦ carried_gate slot stream s queues Audio packets rows packet there (eqb-true s stream same) next.1
      | inr other ↦ absurd (omega (arith, some, packets_in-other stream s Audio packet (eqb-false s stream other)))
    ]

-- what a row brings to a video stream goes by its gate, or is its PCR packet
pub video_brought : (slot programs stream program vbv : ℕ) (queues : List Queue) (packets : List QueuedPacket) (rows : List Row) (row : Row)
    → slice_get queues stream ≡ Some (record { kind = Video program vbv; packets = packets }) → IsRow slot programs queues rows row
    → 0 < packets_in stream (Video program vbv) row
    → (tb_work slot stream (Video program vbv) rows ≤ VIDEO_TB_GATE * VIDEO_TB_SUBTICKS) ⊎ IsPcrPlace programs program (length rows % period slot)
video_brought slot programs stream program vbv queues packets rows (Reserved Null) there next some = absurd (omega (arith, some))
video_brought slot programs stream program vbv queues packets rows (Reserved Pat) there next some = absurd (omega (arith, some))
video_brought slot programs stream program vbv queues packets rows (Reserved (Pmt p)) there next some = absurd (omega (arith, some))
video_brought slot programs stream program vbv queues packets rows (Reserved (VideoPiece a b c)) there next some = absurd (omega (arith, some))
video_brought slot programs stream program vbv queues packets rows (Reserved (AudioPiece a b)) there next some = absurd (omega (arith, some))
video_brought slot programs stream program vbv queues packets rows (Reserved (Pcr p)) there next some =
    elim (cases_Bool (eqb p program)) as (λ _. (tb_work slot stream (Video program vbv) rows ≤ VIDEO_TB_GATE * VIDEO_TB_SUBTICKS) ⊎ IsPcrPlace programs program (length rows % period slot)) [
      | inl same ↦ inr (subst (λ q. IsPcrPlace programs q (length rows % period slot)) (eqb-true p program same) (pcr_place programs (length rows % period slot) p next))
      | inr other ↦ absurd (omega (arith, some, packets_in-other_pcr stream program vbv p (eqb-false p program other)))
    ]
video_brought slot programs stream program vbv queues packets rows Empty there next some = absurd (omega (arith, some))
video_brought slot programs stream program vbv queues packets rows (Carries s packet) there next some =
    elim (cases_Bool (eqb s stream)) as (λ _. (tb_work slot stream (Video program vbv) rows ≤ VIDEO_TB_GATE * VIDEO_TB_SUBTICKS) ⊎ IsPcrPlace programs program (length rows % period slot)) [
      | inl same ↦ inl (carried_gate slot stream s queues (Video program vbv) packets rows packet there (eqb-true s stream same) next.1)
      | inr other ↦ absurd (omega (arith, some, packets_in-other stream s (Video program vbv) packet (eqb-false s stream other)))
    ]

-- a row in the timetable's front before a program's PCR brings nothing to its video
pub low_row : (slot programs stream program vbv : ℕ) (queues : List Queue) (rows : List Row) (row : Row) → IsRow slot programs queues rows row
    → length rows % period slot < programs + 1 + program → length rows % period slot < 2 * programs → packets_in stream (Video program vbv) row ≡ 0
low_row slot programs stream program vbv queues rows (Reserved sent) next below within = low_brings_none stream programs (length rows % period slot) program vbv sent next below
low_row slot programs stream program vbv queues rows Empty next below within = packets_in-empty stream (Video program vbv)
low_row slot programs stream program vbv queues rows (Carries s packet) next below within = absurd (reserved_low programs (length rows % period slot) (omega arith) next.0)

-- ---- the work in a video stream's TB
-- work that a packet and the gate are
abbrev pub video_room : ℕ
video_room = (VIDEO_TB_GATE + PACKET_BYTES) * VIDEO_TB_SUBTICKS

-- what waits in TB of a program's video before the slot at an offset of the period: less where slots before it brought nothing
pub record HasRoom (drain programs program offset work : ℕ) : Type 0 where
  pub any : work ≤ video_room - drain
  pub after_one : 1 ≤ offset → offset ≤ programs + 1 + program → offset ≤ 2 * programs → work ≤ video_room - 2 * drain
  pub after_two : 2 ≤ offset → offset ≤ programs + 1 + program → offset ≤ 2 * programs → work ≤ video_room - 3 * drain

room_none : (drain programs program offset offset' work work' : ℕ) → (offset' ≡ offset + 1) ⊎ (offset' ≡ 0) → work' ≡ work - drain
    → HasRoom drain programs program offset work → HasRoom drain programs program offset' work'
room_none drain programs program offset offset' work work' (inr first) is room = record {
  any = omega (arith, room.any);
  after_one = λ one _ _. absurd (omega arith);
  after_two = λ two _ _. absurd (omega arith);
}
room_none drain programs program offset offset' work work' (inl next) is room = record {
  any = omega (arith, room.any);
  after_one = λ one below within. omega (arith, room.any);
  after_two = λ two below within. (let before : work ≤ video_room - 2 * drain = room.after_one (omega arith) (omega arith) (omega arith) in omega arith);
}

room_one : (slot programs program offset offset' work work' : ℕ) → SLOT_LEAST ≤ slot → (offset' ≡ offset + 1) ⊎ (offset' ≡ 0) → work' ≡ (work + PACKET_BYTES * VIDEO_TB_SUBTICKS) - slot_subticks slot
    → (work ≤ VIDEO_TB_GATE * VIDEO_TB_SUBTICKS) ⊎ IsPcrPlace programs program offset
    → (offset < programs + 1 + program → offset < 2 * programs → ⊥)
    → HasRoom (slot_subticks slot) programs program offset work → HasRoom (slot_subticks slot) programs program offset' work'
room_one slot programs program offset offset' work work' long next is brought high room = record {
  any = elim brought [
    | inl gate ↦ omega (arith, gate)
    | inr pcr ↦
        (let before : work ≤ video_room - 3 * slot_subticks slot = room.after_two (omega (arith, pcr.after, pcr.within)) (omega (arith, pcr.place)) pcr.within in
        omega arith)
  ];
  after_one = λ one below within. absurd (passed one below within);
  after_two = λ two below within. absurd (passed (omega arith) below within);
}
  where
    passed : 1 ≤ offset' → offset' ≤ programs + 1 + program → offset' ≤ 2 * programs → ⊥
    passed one below within = elim next [
      | inl e ↦ high (omega arith) (omega arith)
      | inr e ↦ absurd (omega arith)
    ]

abbrev RoomAfter : Table → (stream program vbv : ℕ) → List Row → Type 0
RoomAfter table stream program vbv rows =
    HasRoom (slot_subticks table.slot) (length table.programs) program (length rows % period table.slot) (tb_work table.slot stream (Video program vbv) rows)

room_push : (table : Table) (choice : List ℕ) (stream program vbv : ℕ) (packets : List QueuedPacket) (rows : List Row) (row : Row) → IsValidTable table
    → slice_get (queues_of table choice) stream ≡ Some (record { kind = Video program vbv; packets = packets })
    → IsNext table choice rows row → RoomAfter table stream program vbv rows → RoomAfter table stream program vbv (rows ++ row ∷ [])
room_push table choice stream program vbv packets rows row valid there next room =
    let slot = table.slot in
    let programs = length table.programs in
    let offset = length rows % period slot in
    let step : (length (rows ++ row ∷ []) % period slot ≡ offset + 1) ⊎ (length (rows ++ row ∷ []) % period slot ≡ 0) =
    rw (length_push rows row) (next_offset (length rows) (period slot) (some_period table valid)) in
    elim (cases_lt 0 (packets_in stream (Video program vbv) row)) as (λ _. RoomAfter table stream program vbv (rows ++ row ∷ [])) [
      | inr nothing ↦
          (let none : packets_in stream (Video program vbv) row ≡ 0 = omega arith in
          room_none (slot_subticks slot) programs program offset (length (rows ++ row ∷ []) % period slot)
          (tb_work slot stream (Video program vbv) rows) (tb_work slot stream (Video program vbv) (rows ++ row ∷ []))
          step (tb_work-none slot stream (Video program vbv) rows row none) room)
      | inl some ↦
          (let one : packets_in stream (Video program vbv) row ≡ 1 = omega (arith, packets_in-le stream (Video program vbv) row) in
          room_one slot programs program offset (length (rows ++ row ∷ []) % period slot) (tb_work slot stream (Video program vbv) rows) (tb_work slot stream (Video program vbv) (rows ++ row ∷ []))
          valid.slot_least step (tb_work-one slot stream (Video program vbv) rows row one)
          (video_brought slot programs stream program vbv (queues_of table choice) packets rows row there next some)
          (λ below within. omega (arith, some, low_row slot programs stream program vbv (queues_of table choice) rows row next below within))
          room)
    ]

pub video_room_after : (table : Table) (choice : List ℕ) (stream program vbv : ℕ) (packets : List QueuedPacket) (rows : List Row) → IsValidTable table
    → slice_get (queues_of table choice) stream ≡ Some (record { kind = Video program vbv; packets = packets })
    → FollowRule table choice rows → RoomAfter table stream program vbv rows
video_room_after table choice stream program vbv packets rows valid there =
    by_push (λ rows. FollowRule table choice rows → RoomAfter table stream program vbv rows)
    (λ follows. record { any = omega arith; after_one = λ _ _ _. omega arith; after_two = λ _ _ _. omega arith })
    (λ rows row before follows.
    room_push table choice stream program vbv packets rows row valid there (FollowRule-last table choice rows row follows) (before (FollowRule-front table choice rows (row ∷ []) follows)))
    rows

-- each packet of a stream, and each PCR packet, finds little work in TB
pub finds_little : (table : Table) (choice : List ℕ) (stream : ℕ) (kind : QueueKind) (packets : List QueuedPacket) (rows : List Row) → IsValidTable table
    → slice_get (queues_of table choice) stream ≡ Some (record { kind = kind; packets = packets })
    → FollowRule table choice rows → AtEach (FindsLittle table.slot stream kind) rows
finds_little table choice stream Audio packets rows valid there follows before row after e some =
    audio_brought table.slot (length table.programs) stream (queues_of table choice) packets before row there (follows before row after e) some
finds_little table choice stream (Video program vbv) packets rows valid there follows before row after e some =
    let front : FollowRule table choice before = FollowRule-front table choice before (row ∷ after) (subst (λ all. FollowRule table choice all) e follows) in
    let room : RoomAfter table stream program vbv before = video_room_after table choice stream program vbv packets before valid there front in
    omega (arith, room.any)
