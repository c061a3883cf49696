-- What a schedule says of the times and sizes of what it sends: nothing is gone more than a second behind the last slot, and a unit is no larger than its buffer.
use Rattle.std.proofs.Common.{◌≡◌, ℕ, zero, suc, ◌+◌, ◌-◌, ◌*◌, ◌/◌, ◌<◌, ◌≤◌, ◌==◌, nat_lt, eqb, if◌then◌else◌, true, false, List, [], ◌∷◌, ◌++◌, All, length, map, replicate, count_by, slice_get, sum_by, Some, refl, sym, ap, subst, ◌∙◌, inl, inr, append-nil, eq-eqb, lt-ltb, arith}
use Rattle.std.specs.List.{enumerate_from, flat_map}
use Rattle.std.proofs.lemmas.Bool.{cases_Bool, cases_eq, eqb-true, eqb-false, ne_eqb}
use Rattle.std.proofs.lemmas.List.{length_push}
use Rattle.std.proofs.lemmas.List.Sums.{sum_by-append, sum_by-cons}
use Rattle.std.proofs.lemmas.Option.{same_Some}
use Rattle.stream_constants.specs.declared.decoder.TheConstants.{EB_UNIT_BYTES, HOLD_TICKS}
use Rattle.version_table.specs.declared.table.AudioPacket.{AudioPacket}
use Rattle.version_table.specs.declared.table.Table.{Table}
use Rattle.version_table.specs.declared.table.Unit.{Unit as CodedUnit}
use Rattle.version_table.specs.Choice.{version_at}
use Rattle.slot_rule.specs.declared.queue_kind.QueueKind.{QueueKind}
use Rattle.slot_rule.specs.declared.queue_kind.QueueKind.TheVariants.{Video}
use Rattle.slot_rule.specs.declared.queued_packet.QueuedPacket.{QueuedPacket}
use Rattle.slot_rule.specs.declared.row.Row.{Row}
use Rattle.slot_rule.specs.declared.row.Row.TheVariants.{Reserved, Carries, Empty}
use Rattle.slot_rule.specs.Buffers.{eb_or_b_bytes, is_of, outstanding}
use Rattle.slot_rule.specs.Queues.{Queue, queues_of, unit_packets}
use Rattle.slot_rule.specs.Schedule.{FollowRule, Goes, IsSchedule, NoMiss}
use Rattle.slot_rule.proofs.Places.{All-at_place}
use Rattle.slot_rule.proofs.RuleFronts.{by_push}
use Rattle.slot_rule.proofs.RuleRows.{IsNext, FollowRule-front, FollowRule-last}
use Rattle.slot_rule.proofs.RuleSent.{outstanding-sent, packet_of, packet_of-carried, packet_of-other, packets_sent, packets_sent-push, payload_after}
use Rattle.slot_rule.proofs.RuleUnits.{piece_of}
use Rattle.tstd_bridge.proofs.AudioTimes.{NoMiss-front, all_sent, sent_early}

-- ---- when packets are gone

-- each packet is gone by a time
abbrev pub AreGoneBy : ℕ → List QueuedPacket → Type 0
AreGoneBy by [] = Unit {0}
AreGoneBy by (packet ∷ packets) = (packet.gone ≤ by) × AreGoneBy by packets

gone-append : (by : ℕ) (xs ys : List QueuedPacket) → AreGoneBy by xs → AreGoneBy by ys → AreGoneBy by (xs ++ ys)
gone-append by [] ys are more = more
gone-append by (x ∷ xs) ys are more = (are.0, gone-append by xs ys are.1 more)

gone-behind : (by : ℕ) (xs ys : List QueuedPacket) → AreGoneBy by (xs ++ ys) → AreGoneBy by ys
gone-behind by [] ys are = are
gone-behind by (x ∷ xs) ys are = gone-behind by xs ys are.1

gone-later : (by later : ℕ) (xs : List QueuedPacket) → by ≤ later → AreGoneBy by xs → AreGoneBy later xs
gone-later by later [] le are = tt
gone-later by later (x ∷ xs) le are = (omega (arith, le, are.0), gone-later by later xs le are.1)

-- a second behind so many slots
abbrev pub last_gone : (slot slots : ℕ) → ℕ
last_gone slot slots = slots * slot + HOLD_TICKS

module _ (table : Table) (choice : List ℕ) (stream : ℕ) where
  sent-none : (rows : List Row) (row : Row) → packet_of stream row ≡ [] → packets_sent stream (rows ++ row ∷ []) ≡ packets_sent stream rows
  sent-none rows row none = packets_sent-push stream rows row ∙ ap (λ (more : List QueuedPacket). packets_sent stream rows ++ more) none ∙ append-nil (packets_sent stream rows)

  sent-one : (rows : List Row) (s : ℕ) (packet : QueuedPacket) → s ≡ stream → packets_sent stream (rows ++ Carries s packet ∷ []) ≡ packets_sent stream rows ++ packet ∷ []
  sent-one rows s packet same = packets_sent-push stream rows (Carries s packet) ∙ ap (λ (more : List QueuedPacket). packets_sent stream rows ++ more) (packet_of-carried stream s packet same)

  more-slots : (rows : List Row) (row : Row) → last_gone table.slot (length rows) ≤ last_gone table.slot (length (rows ++ row ∷ []))
  more-slots rows row =
      let more : length (rows ++ row ∷ []) ≡ length rows + 1 = length_push rows row in
      let wider : (length rows + 1) * table.slot ≡ length rows * table.slot + table.slot = omega arith in
      omega (arith, ap (λ (n : ℕ). n * table.slot) more, wider)

  gone-row : (rows : List Row) (row : Row) → IsNext table choice rows row → AreGoneBy (last_gone table.slot (length rows)) (packets_sent stream rows)
      → AreGoneBy (last_gone table.slot (length (rows ++ row ∷ []))) (packets_sent stream (rows ++ row ∷ []))
  gone-row rows (Reserved sent) next before =
      subst (AreGoneBy (last_gone table.slot (length (rows ++ Reserved sent ∷ [])))) (sym (sent-none rows (Reserved sent) refl))
      (gone-later _ _ (packets_sent stream rows) (more-slots rows (Reserved sent)) before)
  gone-row rows Empty next before =
      subst (AreGoneBy (last_gone table.slot (length (rows ++ Empty ∷ [])))) (sym (sent-none rows Empty refl)) (gone-later _ _ (packets_sent stream rows) (more-slots rows Empty) before)
  gone-row rows (Carries s packet) next before =
      elim (cases_Bool (eqb s stream)) as (λ _. AreGoneBy (last_gone table.slot (length (rows ++ Carries s packet ∷ []))) (packets_sent stream (rows ++ Carries s packet ∷ []))) [
        | inl same ↦
            (let hold = next.1.permitted.hold in
            let all = gone-append (last_gone table.slot (length rows)) (packets_sent stream rows) (packet ∷ []) before (hold, tt) in
            subst (AreGoneBy (last_gone table.slot (length (rows ++ Carries s packet ∷ [])))) (sym (sent-one rows s packet (eqb-true s stream same)))
            (gone-later _ _ (packets_sent stream rows ++ packet ∷ []) (more-slots rows (Carries s packet)) all))
        | inr other ↦
            subst (AreGoneBy (last_gone table.slot (length (rows ++ Carries s packet ∷ [])))) (sym (sent-none rows (Carries s packet) (packet_of-other stream s packet (eqb-false s stream other))))
            (gone-later _ _ (packets_sent stream rows) (more-slots rows (Carries s packet)) before)
      ]

  -- each packet of a queue is gone a second behind the last slot, at the latest
  pub gone-by-end : (kind : QueueKind) (packets : List QueuedPacket) (rows : List Row) → slice_get (queues_of table choice) stream ≡ Some (record { kind = kind; packets = packets })
      → IsSchedule table choice rows → AreGoneBy (last_gone table.slot (length rows)) packets
  gone-by-end kind packets rows there schedule =
      subst (AreGoneBy (last_gone table.slot (length rows))) (all_sent table choice stream kind packets rows there schedule.follows schedule.sent)
      (by_push (λ (rs : List Row). FollowRule table choice rs → AreGoneBy (last_gone table.slot (length rs)) (packets_sent stream rs)) (λ follows. tt)
      (λ rs row before follows.
      gone-row rs row (FollowRule-last table choice rs row follows) (before (FollowRule-front table choice rs (row ∷ []) follows)))
      rows schedule.follows)

-- ---- what is gone at one time

-- the payload of a packet that is gone at the time
abbrev pub payload_at : (time : ℕ) → QueuedPacket → ℕ
payload_at time packet = if packet.gone == time then packet.payload else 0

pub own-payload : (time : ℕ) (packet : QueuedPacket) → packet.gone ≡ time → payload_at time packet ≡ packet.payload
own-payload time packet same = let is : (packet.gone == time) ≡ true = eq-eqb packet.gone time same in rw is refl

other-payload : (time : ℕ) (packet : QueuedPacket) → (packet.gone ≡ time → ⊥) → payload_at time packet ≡ 0
other-payload time packet apart = let is : (packet.gone == time) ≡ false = ne_eqb packet.gone time apart in rw is refl

-- what is gone later is what is outstanding
at-most : (now time : ℕ) → now < time → (packet : QueuedPacket) → payload_at time packet ≤ payload_after now packet
at-most now time later packet = elim (cases_eq packet.gone time) [
  | inl same ↦
      let still : nat_lt now packet.gone ≡ true = lt-ltb now packet.gone (omega (arith, later, same)) in
      let all : payload_after now packet ≡ packet.payload = rw still refl in
      omega (arith, own-payload time packet same, all)
  | inr apart ↦ omega (arith, other-payload time packet apart)
]

sums-most : (now time : ℕ) → now < time → (packets : List QueuedPacket) → sum_by (payload_at time) packets ≤ sum_by (payload_after now) packets
sums-most now time later [] = omega arith
sums-most now time later (p ∷ ps) =
    omega (arith, sum_by-cons (payload_at time) p ps, sum_by-cons (payload_after now) p ps, at-most now time later p, sums-most now time later ps)

module _ (table : Table) (choice : List ℕ) (stream program vbv : ℕ) (packets : List QueuedPacket)
    (there : slice_get (queues_of table choice) stream ≡ Some (record { kind = Video program vbv; packets = packets })) (gone_is : All (λ (p : QueuedPacket). p.gone ≡ p.due) packets) where
  abbrev Fits : List Row → Type 0
  Fits rows = (time : ℕ) → sum_by (payload_at time) (packets_sent stream rows) ≤ EB_UNIT_BYTES * vbv

  fits-none : (rows : List Row) (row : Row) → packet_of stream row ≡ [] → Fits rows → Fits (rows ++ row ∷ [])
  fits-none rows row none before time = omega (arith, ap (sum_by (payload_at time)) (sent-none table choice stream rows row none), before time)

  fits-carried : (rows : List Row) (s : ℕ) (packet : QueuedPacket) → s ≡ stream → Goes table.slot (queues_of table choice) rows s packet
      → NoMiss table.slot (queues_of table choice) (rows ++ Carries s packet ∷ []) → Fits rows → Fits (rows ++ Carries s packet ∷ [])
  fits-carried rows s packet same goes none before time =
      let queue : Queue = record { kind = Video program vbv; packets = packets } in
      let head : Queue = record { kind = goes.kind; packets = goes.head.0 } in
      let is : head ≡ queue = same_Some head queue (sym goes.head.1 ∙ ap (λ k. slice_get (queues_of table choice) k) same ∙ there) in
      let kind_is : goes.kind ≡ Video program vbv = ap (λ (q : Queue). q.kind) is in
      let at : slice_get packets (count_by (is_of s) rows) ≡ Some packet = ap (λ (q : Queue). slice_get q.packets (count_by (is_of s) rows)) (sym is) ∙ goes.head.2 in
      let own : packet.gone ≡ packet.due = All-at_place (λ (p : QueuedPacket). p.gone ≡ p.due) packets gone_is (count_by (is_of s) rows) packet at in
      let early = sent_early table.slot (queues_of table choice) rows s packet goes none in
      let more : length (rows ++ Carries s packet ∷ []) ≡ length rows + 1 = length_push rows (Carries s packet) in
      let wider : length rows * table.slot ≤ length (rows ++ Carries s packet ∷ []) * table.slot = subst (λ (n : ℕ). length rows * table.slot ≤ n * table.slot) (sym more) (omega arith) in
      let room : outstanding stream (length rows * table.slot) rows + packet.payload ≤ EB_UNIT_BYTES * vbv =
      subst (λ (k : QueueKind). outstanding stream (length rows * table.slot) rows + packet.payload ≤ eb_or_b_bytes k) kind_is
      (subst (λ (n : ℕ). outstanding n (length rows * table.slot) rows + packet.payload ≤ eb_or_b_bytes goes.kind) same goes.permitted.eb_or_b) in
      let later : length rows * table.slot < packet.gone = omega (arith, early, wider, own) in
      let all : sum_by (payload_at time) (packets_sent stream (rows ++ Carries s packet ∷ [])) ≡ sum_by (payload_at time) (packets_sent stream rows) + payload_at time packet =
      ap (sum_by (payload_at time)) (sent-one table choice stream rows s packet same) ∙ sum_by-append (payload_at time) (packets_sent stream rows) (packet ∷ [])
      ∙ ap (λ (n : ℕ). sum_by (payload_at time) (packets_sent stream rows) + n) (sum_by-cons (payload_at time) packet [] ∙ omega arith) in
      elim (cases_eq packet.gone time) [
        | inr apart ↦ omega (arith, all, other-payload time packet apart, before time)
        | inl here ↦
            let least = sums-most (length rows * table.slot) time (omega (arith, later, here)) (packets_sent stream rows) in
            omega (arith, all, own-payload time packet here, least, outstanding-sent stream (length rows * table.slot) rows, room)
      ]

  fits-row : (rows : List Row) (row : Row) → IsNext table choice rows row → NoMiss table.slot (queues_of table choice) (rows ++ row ∷ []) → Fits rows → Fits (rows ++ row ∷ [])
  fits-row rows (Reserved sent) next none before = fits-none rows (Reserved sent) refl before
  fits-row rows Empty next none before = fits-none rows Empty refl before
  fits-row rows (Carries s packet) next none before =
      elim (cases_Bool (eqb s stream)) as (λ _. Fits (rows ++ Carries s packet ∷ [])) [
        | inl same ↦ fits-carried rows s packet (eqb-true s stream same) next.1 none before
        | inr other ↦ fits-none rows (Carries s packet) (packet_of-other stream s packet (eqb-false s stream other)) before
      ]

  -- what is gone at one time fits the elementary buffer
  pub fits-buffer : (rows : List Row) → IsSchedule table choice rows → (time : ℕ) → sum_by (payload_at time) packets ≤ EB_UNIT_BYTES * vbv
  fits-buffer rows schedule =
      subst (λ (ps : List QueuedPacket). (time : ℕ) → sum_by (payload_at time) ps ≤ EB_UNIT_BYTES * vbv)
      (all_sent table choice stream (Video program vbv) packets rows there schedule.follows schedule.sent)
      (by_push (λ (rs : List Row). FollowRule table choice rs → NoMiss table.slot (queues_of table choice) rs → Fits rs) (λ follows none time. omega arith)
      (λ rs row before follows none.
      fits-row rs row (FollowRule-last table choice rs row follows) none
      (before (FollowRule-front table choice rs (row ∷ []) follows) (NoMiss-front table.slot (queues_of table choice) rs (row ∷ []) none)))
      rows schedule.follows schedule.in_time)

-- ---- units

pieces-sum : (item due piece full last : ℕ)
    → sum_by (payload_at due) (map (λ (n, payload). piece_of item due n payload) (enumerate_from piece (replicate full 184 ++ last ∷ []))) ≡ 184 * full + last
pieces-sum item due piece zero last =
    sum_by-cons (payload_at due) (piece_of item due piece last) [] ∙ omega (arith, own-payload due (piece_of item due piece last) refl)
pieces-sum item due piece (suc full) last =
    sum_by-cons (payload_at due) (piece_of item due piece 184) (map (λ (n, payload). piece_of item due n payload) (enumerate_from (piece + 1) (replicate full 184 ++ last ∷ [])))
    ∙ omega (arith, own-payload due (piece_of item due piece 184) refl, pieces-sum item due (piece + 1) full last)

unit-sum : (item due bytes : ℕ) → sum_by (payload_at due) (unit_packets item due bytes) ≡ bytes
unit-sum item due bytes = pieces-sum item due 0 ((bytes - 1) / 184) (bytes - 184 * ((bytes - 1) / 184)) ∙ omega arith

abbrev units_packets : ℕ → List (CodedUnit × ℕ) → List QueuedPacket
units_packets from pairs = flat_map (λ (item, (unit, k)). unit_packets item unit.due (version_at unit k).bytes) (enumerate_from from pairs)

-- the chosen versions of units are no larger than so many bytes
abbrev pub AreSmall : ℕ → List (CodedUnit × ℕ) → Type 0
AreSmall most [] = Unit {0}
AreSmall most (pair ∷ pairs) = ((version_at pair.0 pair.1).bytes ≤ most) × AreSmall most pairs

pub small-units : (most from : ℕ) (pairs : List (CodedUnit × ℕ))
    → ((time : ℕ) → sum_by (payload_at time) (flat_map (λ (item, (unit, k)). unit_packets item unit.due (version_at unit k).bytes) (enumerate_from from pairs)) ≤ most) → AreSmall most pairs
small-units most from [] fits = tt
small-units most from (pair ∷ pairs) fits =
    let own : List QueuedPacket = unit_packets from pair.0.due (version_at pair.0 pair.1).bytes in
    let all : (time : ℕ) → sum_by (payload_at time) (own ++ units_packets (from + 1) pairs) ≡ sum_by (payload_at time) own + sum_by (payload_at time) (units_packets (from + 1) pairs) =
    λ time. sum_by-append (payload_at time) own (units_packets (from + 1) pairs) in (
      omega (arith, fits pair.0.due, all pair.0.due, unit-sum from pair.0.due (version_at pair.0 pair.1).bytes),
      small-units most (from + 1) pairs (λ time. omega (arith, fits time, all time)),
    )

-- units are due by a time
abbrev pub AreDueBy : ℕ → List (CodedUnit × ℕ) → Type 0
AreDueBy by [] = Unit {0}
AreDueBy by (pair ∷ pairs) = (pair.0.due ≤ by) × AreDueBy by pairs

first-gone : (by item due piece full last : ℕ) → AreGoneBy by (map (λ (n, payload). piece_of item due n payload) (enumerate_from piece (replicate full 184 ++ last ∷ []))) → due ≤ by
first-gone by item due piece zero last are = are.0
first-gone by item due piece (suc full) last are = are.0

gone-before : (by : ℕ) (xs ys : List QueuedPacket) → AreGoneBy by (xs ++ ys) → AreGoneBy by xs
gone-before by [] ys are = tt
gone-before by (x ∷ xs) ys are = (are.0, gone-before by xs ys are.1)

pub due-units : (by from : ℕ) (pairs : List (CodedUnit × ℕ))
    → AreGoneBy by (flat_map (λ (item, (unit, k)). unit_packets item unit.due (version_at unit k).bytes) (enumerate_from from pairs)) → AreDueBy by pairs
due-units by from [] are = tt
due-units by from (pair ∷ pairs) are =
    let bytes : ℕ = (version_at pair.0 pair.1).bytes in
    let own : List QueuedPacket = unit_packets from pair.0.due bytes in (
      first-gone by from pair.0.due 0 ((bytes - 1) / 184) (bytes - 184 * ((bytes - 1) / 184)) (gone-before by own (units_packets (from + 1) pairs) are),
      due-units by (from + 1) pairs (gone-behind by own (units_packets (from + 1) pairs) are),
    )

-- audio packets are gone by a time
abbrev pub AreAudioBy : ℕ → List AudioPacket → Type 0
AreAudioBy by [] = Unit {0}
AreAudioBy by (packet ∷ packets) = (packet.gone ≤ by) × AreAudioBy by packets

pub audio-by : (by from : ℕ) (packets : List AudioPacket)
    → AreGoneBy by (map (λ (item, packet). record { item = item; piece = 0; payload = packet.bytes; due = packet.due; gone = packet.gone }) (enumerate_from from packets)) → AreAudioBy by packets
audio-by by from [] are = tt
audio-by by from (p ∷ ps) are = (are.0, audio-by by (from + 1) ps are.1)
