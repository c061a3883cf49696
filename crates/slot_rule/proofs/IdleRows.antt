-- The rows of a schedule after its last packet: what the timetable has, else a null packet.
use Rattle.std.proofs.Common.{◌≡◌, ℕ, zero, suc, ◌+◌, List, [], ◌∷◌, ◌++◌, length, map, Option, Some, None, refl, sym, ap, ap₂, subst, ◌∙◌, append_assoc, append-nil, length-append, arith}
use Rattle.std.specs.Prelude.{unwrap_or}
use Rattle.std.proofs.lemmas.List.{length_push, map-append}
use Rattle.version_table.specs.declared.table.Table.{Table}
use Rattle.slot_rule.specs.declared.sent.Sent.{Sent}
use Rattle.slot_rule.specs.declared.sent.Sent.TheVariants.{Null}
use Rattle.slot_rule.specs.Timetable.{reserved}
use Rattle.slot_rule.specs.Queues.{Queue, queues_of}
use Rattle.slot_rule.specs.Buffers.{Row, Reserved, Empty}
use Rattle.slot_rule.specs.Schedule.{IsRow, AllSent, IsSchedule}
use Rattle.slot_rule.specs.Private.IdleSlots.{idle_sent, idle_slots}
use Rattle.slot_rule.specs.SlotList.{sent_of}
use Rattle.slot_rule.proofs.RuleRows.{FollowRule-push, NoMiss-push}
use Rattle.slot_rule.proofs.RuleUnique.{IsHead-before, Misses-all_sent}

-- the row of slot n once all packets are sent
abbrev pub idle_row : (slot programs n : ℕ) → Row
idle_row slot programs n = elim (reserved slot programs n) [
  | Some sent ↦ Reserved sent
  | None ↦ Empty
]

-- so many rows from the first on, once all packets are sent
abbrev pub idle_rows : (slot programs first count : ℕ) → List Row
idle_rows slot programs first zero = []
idle_rows slot programs first (suc count) = idle_rows slot programs first count ++ idle_row slot programs (first + count) ∷ []

pub length-idle_rows : (slot programs first count : ℕ) → length (idle_rows slot programs first count) ≡ count
length-idle_rows slot programs first zero = refl
length-idle_rows slot programs first (suc count) =
    length_push (idle_rows slot programs first count) (idle_row slot programs (first + count))
    ∙ (let e : length (idle_rows slot programs first count) + 1 ≡ suc count = omega (arith, length-idle_rows slot programs first count) in e)

-- where all is sent, all is sent after more rows
pub AllSent-more : (queues : List Queue) (rows more : List Row) → AllSent queues rows → AllSent queues (rows ++ more)
AllSent-more queues rows more sent stream kind packet head =
    let earlier = IsHead-before queues rows more stream kind packet head in
    sent stream kind earlier.0 earlier.1

idle_row-is : (slot programs : ℕ) (queues : List Queue) (rows : List Row) (o : Option Sent) → AllSent queues rows → reserved slot programs (length rows) ≡ o
    → IsRow slot programs queues rows (elim o [
      | Some sent ↦ Reserved sent
      | None ↦ Empty
    ])
idle_row-is slot programs queues rows (Some reserved) sent e = e
idle_row-is slot programs queues rows None sent e = (e, λ stream kind packet head permitted. sent stream kind packet head)

idle_row-next : (table : Table) (choice : List ℕ) (rows : List Row) → IsSchedule table choice rows
    → IsSchedule table choice (rows ++ idle_row table.slot (length table.programs) (length rows) ∷ [])
idle_row-next table choice rows schedule =
    let queues = queues_of table choice in
    let row = idle_row table.slot (length table.programs) (length rows) in
    record {
      follows = FollowRule-push table choice rows row schedule.follows
          (idle_row-is table.slot (length table.programs) queues rows (reserved table.slot (length table.programs) (length rows)) schedule.sent refl);
      in_time = NoMiss-push table.slot queues rows row schedule.in_time
          (λ stream packet misses. Misses-all_sent table.slot queues rows [] row stream packet schedule.sent (rw append-nil misses));
      sent = AllSent-more queues rows (row ∷ []) schedule.sent;
    }

-- idle rows after a schedule are a schedule with it
pub IsSchedule-idle : (table : Table) (choice : List ℕ) (rows : List Row) → IsSchedule table choice rows → (count : ℕ)
    → IsSchedule table choice (rows ++ idle_rows table.slot (length table.programs) (length rows) count)
IsSchedule-idle table choice rows schedule zero = subst (λ (all : List Row). IsSchedule table choice all) (sym (append-nil rows)) schedule
IsSchedule-idle table choice rows schedule (suc count) =
    let programs = length table.programs in
    let before = rows ++ idle_rows table.slot programs (length rows) count in
    let place : length before ≡ length rows + count =
    length-append rows (idle_rows table.slot programs (length rows) count) ∙ ap (λ n. length rows + n) (length-idle_rows table.slot programs (length rows) count) in
    let more : IsSchedule table choice (before ++ idle_row table.slot programs (length before) ∷ []) =
    idle_row-next table choice before (IsSchedule-idle table choice rows schedule count) in
    let at : IsSchedule table choice (before ++ idle_row table.slot programs (length rows + count) ∷ []) =
    subst (λ n. IsSchedule table choice (before ++ idle_row table.slot programs n ∷ [])) place more in
    subst (λ (all : List Row). IsSchedule table choice all) (append_assoc rows (idle_rows table.slot programs (length rows) count) (idle_row table.slot programs (length rows + count) ∷ [])) at

idle_row-sent : (queues : List Queue) (o : Option Sent) → sent_of queues (elim o [
  | Some sent ↦ Reserved sent
  | None ↦ Empty
]) ≡ unwrap_or o Null
idle_row-sent queues (Some sent) = refl
idle_row-sent queues None = refl

-- what stands in the slots of idle rows
pub idle_rows-sent : (queues : List Queue) (slot programs first count : ℕ) → map (sent_of queues) (idle_rows slot programs first count) ≡ idle_slots slot programs first count
idle_rows-sent queues slot programs first zero = refl
idle_rows-sent queues slot programs first (suc count) =
    map-append (sent_of queues) (idle_rows slot programs first count) (idle_row slot programs (first + count) ∷ [])
    ∙ ap₂ (λ (front : List Sent) (last : Sent). front ++ last ∷ []) (idle_rows-sent queues slot programs first count)
    (idle_row-sent queues (reserved slot programs (first + count)))

-- one more idle slot
pub idle_slots-more : (slot programs first idle n : ℕ) (front rows new : List Sent) (sent : Sent) → n ≡ first + idle → rows ≡ front ++ idle_slots slot programs first idle
    → sent ≡ idle_sent slot programs n → new ≡ rows ++ sent ∷ [] → new ≡ front ++ idle_slots slot programs first (suc idle)
idle_slots-more slot programs first idle n front rows new sent n_is rows_are sent_is new_is =
    new_is ∙ ap₂ (λ (a : List Sent) (b : Sent). a ++ b ∷ []) rows_are (sent_is ∙ ap (λ k. idle_sent slot programs k) n_is)
    ∙ append_assoc front (idle_slots slot programs first idle) (idle_sent slot programs (first + idle) ∷ [])
