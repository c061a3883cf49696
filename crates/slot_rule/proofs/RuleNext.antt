-- The row after some rows, and the miss after it, computed from the definitions.
use Rattle.std.proofs.Common.{
  ◌≡◌,
  ℕ,
  ◌+◌,
  ◌*◌,
  ◌<◌,
  ◌⊎◌,
  Bool,
  true,
  ◌&&◌,
  ltb,
  List,
  [],
  ◌∷◌,
  ◌++◌,
  length,
  slice_get,
  nat_le,
  nat_lt,
  if◌then◌else◌,
  Option,
  Some,
  None,
  refl,
  sym,
  ap,
  subst,
  ◌∙◌,
  inl,
  inr,
  leb-true,
  le-leb,
  ltb-true,
  lt-ltb,
}
use Rattle.std.specs.Option.{option_and_then, option_or}
use Rattle.std.proofs.lemmas.Bool.{and_parts, and_from, cond-true}
use Rattle.std.proofs.lemmas.List.{same_from_push}
use Rattle.std.proofs.lemmas.Option.{same_Some, none-some, option_and_then_some, cond_some}
use Rattle.stream_constants.specs.declared.clock.TheConstants.{SUBTICKS_PER_TICK}
use Rattle.stream_constants.specs.declared.decoder.TheConstants.{HOLD_TICKS}
use Rattle.slot_rule.specs.declared.sent.Sent.{Sent}
use Rattle.slot_rule.specs.Timetable.{reserved}
use Rattle.slot_rule.specs.Queues.{QueueKind, Video, Audio, QueuedPacket, Queue}
use Rattle.slot_rule.specs.Buffers.{Row, Reserved, Carries, Empty, tb_work, mb_work, outstanding, eb_or_b_bytes, tb_gate, mb_gate, MbPermits}
use Rattle.slot_rule.specs.Schedule.{IsHead, IsPermitted, IsDueBefore, Goes, NothingGoes, IsRow, end_with_margin, mb_or_tb_work, SentLate, Overdue, Misses}
use Rattle.slot_rule.proofs.RuleRows.{NoneMisses}
use Rattle.slot_rule.proofs.RuleFirst.{IsEarliest, earliest-is, head_where, head_where-some, some_head_where, first_head}

-- ---- the row of the next slot
abbrev pub multiplex_permits : QueueKind → (work : ℕ) → Bool
multiplex_permits (Video program vbv) work = nat_le work (mb_gate vbv)
multiplex_permits Audio work = true

abbrev pub is_permitted : (slot : ℕ) → List Row → (stream : ℕ) → QueueKind → QueuedPacket → Bool
is_permitted slot rows stream kind packet =
    (nat_le (tb_work slot stream kind rows) (tb_gate kind) && multiplex_permits kind (mb_work slot stream rows))
    && (nat_le (outstanding stream (length rows * slot) rows + packet.payload) (eb_or_b_bytes kind) && nat_le packet.gone (length rows * slot + HOLD_TICKS))

multiplex_permits-true : (kind : QueueKind) (work : ℕ) → multiplex_permits kind work ≡ true → MbPermits kind work
multiplex_permits-true (Video program vbv) work e = leb-true work (mb_gate vbv) e
multiplex_permits-true Audio work e = tt

true-multiplex_permits : (kind : QueueKind) (work : ℕ) → MbPermits kind work → multiplex_permits kind work ≡ true
true-multiplex_permits (Video program vbv) work h = le-leb work (mb_gate vbv) h
true-multiplex_permits Audio work h = refl

pub is_permitted-true : (slot : ℕ) (rows : List Row) (stream : ℕ) (kind : QueueKind) (packet : QueuedPacket)
    → is_permitted slot rows stream kind packet ≡ true → IsPermitted slot rows stream kind packet
is_permitted-true slot rows stream kind packet e =
    let a = nat_le (tb_work slot stream kind rows) (tb_gate kind) in
    let b = multiplex_permits kind (mb_work slot stream rows) in
    let c = nat_le (outstanding stream (length rows * slot) rows + packet.payload) (eb_or_b_bytes kind) in
    let d = nat_le packet.gone (length rows * slot + HOLD_TICKS) in
    let both = and_parts (a && b) (c && d) e in
    let left = and_parts a b both.0 in
    let right = and_parts c d both.1 in
    record {
      tb = leb-true (tb_work slot stream kind rows) (tb_gate kind) left.0;
      mb = multiplex_permits-true kind (mb_work slot stream rows) left.1;
      eb_or_b = leb-true (outstanding stream (length rows * slot) rows + packet.payload) (eb_or_b_bytes kind) right.0;
      hold = leb-true packet.gone (length rows * slot + HOLD_TICKS) right.1;
    }

pub true-is_permitted : (slot : ℕ) (rows : List Row) (stream : ℕ) (kind : QueueKind) (packet : QueuedPacket)
    → IsPermitted slot rows stream kind packet → is_permitted slot rows stream kind packet ≡ true
true-is_permitted slot rows stream kind packet h =
    let a = nat_le (tb_work slot stream kind rows) (tb_gate kind) in
    let b = multiplex_permits kind (mb_work slot stream rows) in
    let c = nat_le (outstanding stream (length rows * slot) rows + packet.payload) (eb_or_b_bytes kind) in
    let d = nat_le packet.gone (length rows * slot + HOLD_TICKS) in
    and_from (a && b) (c && d)
    (and_from a b (le-leb (tb_work slot stream kind rows) (tb_gate kind) h.tb) (true-multiplex_permits kind (mb_work slot stream rows) h.mb))
    (and_from c d (le-leb (outstanding stream (length rows * slot) rows + packet.payload) (eb_or_b_bytes kind) h.eb_or_b) (le-leb packet.gone (length rows * slot + HOLD_TICKS) h.hold))

-- the row of the slot after these rows
abbrev pub next_row : (slot programs : ℕ) → List Queue → List Row → Row
next_row slot programs queues rows = elim (reserved slot programs (length rows)) [
  | Some sent ↦ Reserved sent
  | None ↦ elim (first_head (is_permitted slot rows) queues rows) [
    | Some found ↦ Carries found.0 found.1
    | None ↦ Empty
  ]
]

-- what a first head that passes is, and what it means that there is none
first_head-goes : (slot : ℕ) (queues : List Queue) (rows : List Row) (found : ℕ × QueuedPacket)
    → IsEarliest (head_where (is_permitted slot rows) rows) 0 queues (Some found) → Goes slot queues rows found.0 found.1
first_head-goes slot queues rows found first =
    let head : (kind : QueueKind) × IsHead queues rows found.0 kind found.1 × (is_permitted slot rows found.0 kind found.1 ≡ true) =
    head_where-some (is_permitted slot rows) queues rows found.0 found.1 first.0 in
    record {
      kind = head.0;
      head = head.1;
      permitted = is_permitted-true slot rows found.0 head.0 found.1 head.2;
      first = λ other kind' packet' head' permitted'.
          first.1 other packet' (some_head_where (is_permitted slot rows) queues rows other kind' packet' head' (true-is_permitted slot rows other kind' packet' permitted'));
    }

first_head-nothing : (slot : ℕ) (queues : List Queue) (rows : List Row)
    → IsEarliest (head_where (is_permitted slot rows) rows) 0 queues None → NothingGoes slot queues rows
first_head-nothing slot queues rows none stream kind packet head permitted =
    none stream packet (some_head_where (is_permitted slot rows) queues rows stream kind packet head (true-is_permitted slot rows stream kind packet permitted))

row_cases : (slot programs : ℕ) (queues : List Queue) (rows : List Row) (o : Option Sent) (found : Option (ℕ × QueuedPacket)) → reserved slot programs (length rows) ≡ o
    → IsEarliest (head_where (is_permitted slot rows) rows) 0 queues found
    → IsRow slot programs queues rows (elim o [
      | Some sent ↦ Reserved sent
      | None ↦ elim found [
        | Some found ↦ Carries found.0 found.1
        | None ↦ Empty
      ]
    ])
row_cases slot programs queues rows (Some sent) found e first = e
row_cases slot programs queues rows None (Some found) e first = (e, first_head-goes slot queues rows found first)
row_cases slot programs queues rows None None e first = (e, first_head-nothing slot queues rows first)

pub next_row-is : (slot programs : ℕ) (queues : List Queue) (rows : List Row) → IsRow slot programs queues rows (next_row slot programs queues rows)
next_row-is slot programs queues rows =
    row_cases slot programs queues rows (reserved slot programs (length rows)) (first_head (is_permitted slot rows) queues rows) refl (earliest-is (head_where (is_permitted slot rows) rows) 0 queues)

-- ---- the miss after a row
-- the packet in the last row, where it went late
abbrev pub late_in : (slot : ℕ) → List Queue → List Row → Row → Option (ℕ × QueuedPacket)
late_in slot queues rows (Carries stream packet) =
    option_and_then (λ s. if nat_lt (SUBTICKS_PER_TICK * packet.due) (end_with_margin slot rows + mb_or_tb_work slot stream s.kind rows) then Some (stream, packet) else None) (slice_get queues stream)
late_in slot queues rows (Reserved sent) = None
late_in slot queues rows Empty = None

abbrev pub is_overdue : (slot : ℕ) → List Row → (stream : ℕ) → QueueKind → QueuedPacket → Bool
is_overdue slot rows stream kind packet = nat_lt (SUBTICKS_PER_TICK * packet.due) (end_with_margin slot rows)

-- the packet that misses after these rows and one more
abbrev pub miss_after_row : (slot : ℕ) → List Queue → List Row → Row → Option (ℕ × QueuedPacket)
miss_after_row slot queues before row =
    let rows = before ++ row ∷ [] in
    option_or (late_in slot queues rows row) (first_head (is_overdue slot rows) queues rows)

late_in-some : (slot programs : ℕ) (queues : List Queue) (before : List Row) (row : Row) (found : ℕ × QueuedPacket) → IsRow slot programs queues before row
    → late_in slot queues (before ++ row ∷ []) row ≡ Some found → SentLate slot queues (before ++ row ∷ []) found.0 found.1
late_in-some slot programs queues before (Reserved sent) found is e = absurd (none-some found e)
late_in-some slot programs queues before Empty found is e = absurd (none-some found e)
late_in-some slot programs queues before (Carries stream packet) found is e =
    let rows = before ++ Carries stream packet ∷ [] in
    option_and_then_some (λ (s : Queue). if nat_lt (SUBTICKS_PER_TICK * packet.due)
    (end_with_margin slot (before ++ Carries stream packet ∷ []) + mb_or_tb_work slot stream s.kind (before ++ Carries stream packet ∷ [])) then
    Some (stream, packet) else None)
    (slice_get queues stream) found e
    (λ s got passed.
    let parts = cond_some (ltb (SUBTICKS_PER_TICK * packet.due) (end_with_margin slot rows + mb_or_tb_work slot stream s.kind rows)) (stream, packet) found passed in
    let same : record { kind = is.1.kind; packets = is.1.head.0 } ≡ s = same_Some _ _ (sym is.1.head.1 ∙ got) in
    let late : SUBTICKS_PER_TICK * packet.due < end_with_margin slot rows
    + mb_or_tb_work slot stream s.kind rows = ltb-true (SUBTICKS_PER_TICK * packet.due)
    (end_with_margin slot rows + mb_or_tb_work slot stream s.kind rows) parts.0 in
    subst (λ (f : ℕ × QueuedPacket). SentLate slot queues (before ++ Carries stream packet ∷ []) f.0 f.1) parts.1
    (record {
      before = before;
      went = refl;
      kind = is.1.kind;
      head = is.1.head;
      late = subst (λ (kind : QueueKind). SUBTICKS_PER_TICK * packet.due < end_with_margin slot rows + mb_or_tb_work slot stream kind rows) (sym (ap (λ (t : Queue). t.kind) same)) late;
    }))

late_in-none : (slot : ℕ) (queues : List Queue) (before : List Row) (row : Row) (stream : ℕ) (packet : QueuedPacket)
    → late_in slot queues (before ++ row ∷ []) row ≡ None → SentLate slot queues (before ++ row ∷ []) stream packet → ⊥
late_in-none slot queues before row stream packet none late =
    let rows = before ++ row ∷ [] in
    let last : row ≡ Carries stream packet = (same_from_push before late.before row (Carries stream packet) late.went).1 in
    let found : late_in slot queues rows (Carries stream packet) ≡ Some (stream, packet) =
    ap (λ (o : Option Queue). option_and_then (λ (s : Queue). if nat_lt (SUBTICKS_PER_TICK * packet.due)
    (end_with_margin slot rows + mb_or_tb_work slot stream s.kind rows) then Some (stream, packet) else None) o) late.head.1
    ∙ cond-true (ltb (SUBTICKS_PER_TICK * packet.due) (end_with_margin slot rows + mb_or_tb_work slot stream late.kind rows))
    (Some (stream, packet)) None (lt-ltb (SUBTICKS_PER_TICK * packet.due)
    (end_with_margin slot rows + mb_or_tb_work slot stream late.kind rows) late.late) in
    none-some (stream, packet) (sym none ∙ ap (late_in slot queues rows) last ∙ found)

overdue_first : (slot : ℕ) (queues : List Queue) (rows : List Row) (found : ℕ × QueuedPacket)
    → IsEarliest (head_where (is_overdue slot rows) rows) 0 queues (Some found)
    → Overdue slot queues rows found.0 found.1
    × ((other : ℕ) (packet' : QueuedPacket) → Overdue slot queues rows other packet' → (other ≡ found.0) ⊎ IsDueBefore found.0 found.1 other packet')
overdue_first slot queues rows found first =
    let head : (kind : QueueKind) × IsHead queues rows found.0 kind found.1 × (is_overdue slot rows found.0 kind found.1 ≡ true) =
    head_where-some (is_overdue slot rows) queues rows found.0 found.1 first.0 in (
      record { kind = head.0; head = head.1; late = ltb-true (SUBTICKS_PER_TICK * found.1.due) (end_with_margin slot rows) head.2 },
      λ other packet' over. first.1 other packet'
          (some_head_where (is_overdue slot rows) queues rows other over.kind packet' over.head (lt-ltb (SUBTICKS_PER_TICK * packet'.due) (end_with_margin slot rows) over.late)),
    )

-- no packet is late, and none overdue
overdue_none : (slot : ℕ) (queues : List Queue) (rows : List Row) → IsEarliest (head_where (is_overdue slot rows) rows) 0 queues None
    → (stream : ℕ) (packet : QueuedPacket) → Overdue slot queues rows stream packet → ⊥
overdue_none slot queues rows none stream packet over =
    none stream packet (some_head_where (is_overdue slot rows) queues rows stream over.kind packet over.head (lt-ltb (SUBTICKS_PER_TICK * packet.due) (end_with_margin slot rows) over.late))

-- what the miss after a row tells
abbrev pub TellsMiss : (slot : ℕ) → List Queue → List Row → Row → Option (ℕ × QueuedPacket) → Type 0
TellsMiss slot queues before row (Some found) = Misses slot queues (before ++ row ∷ []) found.0 found.1
TellsMiss slot queues before row None = NoneMisses slot queues before row

miss_cases : (slot programs : ℕ) (queues : List Queue) (before : List Row) (row : Row) (late over : Option (ℕ × QueuedPacket)) → IsRow slot programs queues before row
    → late_in slot queues (before ++ row ∷ []) row ≡ late → IsEarliest (head_where (is_overdue slot (before ++ row ∷ [])) (before ++ row ∷ [])) 0 queues over
    → TellsMiss slot queues before row (option_or late over)
miss_cases slot programs queues before row (Some found) over is e first = inl (late_in-some slot programs queues before row found is e)
miss_cases slot programs queues before row None (Some found) is e first =
    let overdue = overdue_first slot queues (before ++ row ∷ []) found first in
    inr (λ other packet' late. late_in-none slot queues before row other packet' e late, overdue.0, overdue.1)
miss_cases slot programs queues before row None None is e first =
    λ stream packet misses. (elim misses as (λ _. ⊥) [
      | inl late ↦ late_in-none slot queues before row stream packet e late
      | inr over ↦ overdue_none slot queues (before ++ row ∷ []) first stream packet over.1
    ])

-- where a packet is overdue, the test finds a miss
found_cases : (slot : ℕ) (queues : List Queue) (rows : List Row) (late over : Option (ℕ × QueuedPacket)) (stream : ℕ) (packet : QueuedPacket)
    → Overdue slot queues rows stream packet
    → IsEarliest (head_where (is_overdue slot rows) rows) 0 queues over → (found : ℕ × QueuedPacket) × (option_or late over ≡ Some found)
found_cases slot queues rows (Some found) over stream packet overdue first = (found, refl)
found_cases slot queues rows None (Some found) stream packet overdue first = (found, refl)
found_cases slot queues rows None None stream packet overdue first = absurd (overdue_none slot queues rows first stream packet overdue)

pub overdue_tells : (slot : ℕ) (queues : List Queue) (before : List Row) (row : Row) (stream : ℕ) (packet : QueuedPacket) → Overdue slot queues (before ++ row ∷ []) stream packet
    → (found : ℕ × QueuedPacket) × (miss_after_row slot queues before row ≡ Some found)
overdue_tells slot queues before row stream packet overdue =
    found_cases slot queues (before ++ row ∷ []) (late_in slot queues (before ++ row ∷ []) row) (first_head (is_overdue slot (before ++ row ∷ [])) queues (before ++ row ∷ [])) stream packet overdue
    (earliest-is (head_where (is_overdue slot (before ++ row ∷ [])) (before ++ row ∷ [])) 0 queues)

pub miss_after_row-is : (slot programs : ℕ) (queues : List Queue) (before : List Row) (row : Row) → IsRow slot programs queues before row
    → TellsMiss slot queues before row (miss_after_row slot queues before row)
miss_after_row-is slot programs queues before row is =
    miss_cases slot programs queues before row (late_in slot queues (before ++ row ∷ []) row) (first_head (is_overdue slot (before ++ row ∷ [])) queues (before ++ row ∷ [])) is refl
    (earliest-is (head_where (is_overdue slot (before ++ row ∷ [])) (before ++ row ∷ [])) 0 queues)
