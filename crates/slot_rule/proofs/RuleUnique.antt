-- At most one packet, row, list of rows, schedule and miss stands in the slot rule.
use Rattle.std.proofs.Common.{
  ◌≡◌,
  ℕ,
  zero,
  suc,
  ◌+◌,
  ◌<◌,
  ◌≤◌,
  ◌⊎◌,
  cond,
  List,
  [],
  ◌∷◌,
  ◌++◌,
  length,
  get_or,
  take,
  drop,
  count_by,
  slice_get,
  Some,
  refl,
  sym,
  ap,
  subst,
  ◌∙◌,
  inl,
  inr,
  append_assoc,
  add-one,
  le_refl,
  le_of_eq,
  arith,
}
use Rattle.std.proofs.lemmas.Bool.{cases_lt}
use Rattle.std.proofs.lemmas.Option.{same_Some, slice_get_within, slice_get-get_or}
use Rattle.std.proofs.lemmas.List.{take_all, take_more_same, take-append-drop, same_from_push, length_push}
use Rattle.std.proofs.lemmas.List.Sums.{sum_by-append}
use Rattle.version_table.specs.declared.table.Table.{Table}
use Rattle.slot_rule.specs.declared.sent.Miss.{Miss}
use Rattle.slot_rule.specs.Queues.{QueueKind, QueuedPacket, Queue, queues_of}
use Rattle.slot_rule.specs.Buffers.{Row, Reserved, Carries, Empty, is_of}
use Rattle.slot_rule.proofs.RuleRows.{IsNext, FollowRule-at, FollowRule-front}
use Rattle.slot_rule.specs.Schedule.{IsHead, IsDueBefore, Goes, IsRow, FollowRule, SentLate, Misses, NoMiss, AllSent, IsScheduled, IsFirstMiss}

pub IsHead-same : (queues : List Queue) (rows : List Row) (stream : ℕ) (kind kind' : QueueKind) (packet packet' : QueuedPacket)
    → IsHead queues rows stream kind packet → IsHead queues rows stream kind' packet' → (kind ≡ kind') × (packet ≡ packet')
IsHead-same queues rows stream kind kind' packet packet' h h' =
    let same : ◌≡◌ {A = Queue} (record { kind = kind; packets = h.0 }) (record { kind = kind'; packets = h'.0 }) = same_Some _ _ (sym h.1 ∙ h'.1) in
    let lists : h.0 ≡ h'.0 = ap (λ (s : Queue). s.packets) same in
    let got : slice_get h.0 (count_by (is_of stream) rows) ≡ Some packet' = subst (λ (packets : List QueuedPacket). slice_get packets (count_by (is_of stream) rows) ≡ Some packet') (sym lists) h'.2 in
    (ap (λ (s : Queue). s.kind) same, same_Some _ _ (sym h.2 ∙ got))

-- two that each go before the other, or stand in one stream, stand in one stream
pub IsBefore-same : (stream other : ℕ) (packet packet' : QueuedPacket) → (other ≡ stream) ⊎ IsDueBefore stream packet other packet'
    → (stream ≡ other) ⊎ IsDueBefore other packet' stream packet → stream ≡ other
IsBefore-same stream other packet packet' first first' = grind arith

pub Goes-same : (slot : ℕ) (queues : List Queue) (rows : List Row) (stream stream' : ℕ) (packet packet' : QueuedPacket)
    → Goes slot queues rows stream packet → Goes slot queues rows stream' packet' → (stream ≡ stream') × (packet ≡ packet')
Goes-same slot queues rows stream stream' packet packet' g g' =
    let same : stream ≡ stream' = IsBefore-same stream stream' packet packet' (g.first stream' g'.kind packet' g'.head g'.permitted) (g'.first stream g.kind packet g.head g.permitted) in
    (same, (IsHead-same queues rows stream' g.kind g'.kind packet packet' (subst (λ (s : ℕ). IsHead queues rows s g.kind packet) same g.head) g'.head).1)

pub IsRow-same : (slot programs : ℕ) (queues : List Queue) (rows : List Row) (row row' : Row)
    → IsRow slot programs queues rows row → IsRow slot programs queues rows row' → row ≡ row'
IsRow-same slot programs queues rows (Reserved sent) (Reserved sent') r r' = cc (r, r')
IsRow-same slot programs queues rows (Reserved sent) (Carries stream packet) r r' = cc (r, r'.0)
IsRow-same slot programs queues rows (Reserved sent) Empty r r' = cc (r, r'.0)
IsRow-same slot programs queues rows (Carries stream packet) (Reserved sent) r r' = cc (r.0, r')
IsRow-same slot programs queues rows (Carries stream packet) (Carries stream' packet') r r' =
    let same : (stream ≡ stream') × (packet ≡ packet') = Goes-same slot queues rows stream stream' packet packet' r.1 r'.1 in cc (same.0, same.1)
IsRow-same slot programs queues rows (Carries stream packet) Empty r r' = absurd (r'.1 stream r.1.kind packet r.1.head r.1.permitted)
IsRow-same slot programs queues rows Empty (Reserved sent) r r' = cc (r.0, r')
IsRow-same slot programs queues rows Empty (Carries stream packet) r r' = absurd (r.1 stream r'.1.kind packet r'.1.head r'.1.permitted)
IsRow-same slot programs queues rows Empty Empty r r' = refl

-- the rows of the slots that two lists both have
pub FollowRule-take_same : (table : Table) (choice : List ℕ) (rows rows' : List Row) → FollowRule table choice rows → FollowRule table choice rows'
    → (n : ℕ) → n ≤ length rows → n ≤ length rows' → take n rows ≡ take n rows'
FollowRule-take_same table choice rows rows' follows follows' zero fits fits' = refl
FollowRule-take_same table choice rows rows' follows follows' (suc n) fits fits' =
    let same : take n rows ≡ take n rows' = FollowRule-take_same table choice rows rows' follows follows' n (omega arith) (omega arith) in
    let row : IsNext table choice (take n rows) (get_or rows n Empty) = FollowRule-at table choice rows follows n Empty fits in
    let row' : IsNext table choice (take n rows') (get_or rows' n Empty) = FollowRule-at table choice rows' follows' n Empty fits' in
    rw (← add-one) (take_more_same rows rows' n Empty fits fits' same
    (IsRow-same table.slot (length table.programs) (queues_of table choice) (take n rows') (get_or rows n Empty) (get_or rows' n Empty)
    (subst (λ (before : List Row). IsNext table choice before (get_or rows n Empty)) same row) row'))

-- two lists that follow the rule agree as far as the shorter one goes
pub FollowRule-same : (table : Table) (choice : List ℕ) (rows rows' : List Row) → FollowRule table choice rows → FollowRule table choice rows'
    → length rows ≤ length rows' → rows ≡ take (length rows) rows'
FollowRule-same table choice rows rows' follows follows' fits =
    sym (take_all (length rows) rows (le_refl (length rows))) ∙ FollowRule-take_same table choice rows rows' follows follows' (length rows) (le_refl (length rows)) fits

-- at most one list of rows of a length follows the rule
pub FollowRule-unique : (table : Table) (choice : List ℕ) (rows rows' : List Row) → FollowRule table choice rows → FollowRule table choice rows'
    → length rows ≡ length rows' → rows ≡ rows'
FollowRule-unique table choice rows rows' follows follows' e =
    FollowRule-same table choice rows rows' follows follows' (le_of_eq e) ∙ take_all (length rows) rows' (omega arith)

-- the longer of two lists that follow the rule is the shorter one and more rows
pub FollowRule-longer : (table : Table) (choice : List ℕ) (rows rows' : List Row) → FollowRule table choice rows → FollowRule table choice rows'
    → length rows ≤ length rows' → rows' ≡ rows ++ drop (length rows) rows'
FollowRule-longer table choice rows rows' follows follows' fits =
    sym (take-append-drop (length rows) rows') ∙ ap (λ front. front ++ drop (length rows) rows') (sym (FollowRule-same table choice rows rows' follows follows' fits))

pub SentLate-same : (slot : ℕ) (queues : List Queue) (rows : List Row) (stream stream' : ℕ) (packet packet' : QueuedPacket)
    → SentLate slot queues rows stream packet → SentLate slot queues rows stream' packet' → (stream ≡ stream') × (packet ≡ packet')
SentLate-same slot queues rows stream stream' packet packet' late late' =
    let last : Carries stream packet ≡ Carries stream' packet' = (same_from_push late.before late'.before (Carries stream packet) (Carries stream' packet') (sym late.went ∙ late'.went)).1 in
    (cc last, cc last)

pub Misses-same : (slot : ℕ) (queues : List Queue) (rows : List Row) (stream stream' : ℕ) (packet packet' : QueuedPacket)
    → Misses slot queues rows stream packet → Misses slot queues rows stream' packet' → (stream ≡ stream') × (packet ≡ packet')
Misses-same slot queues rows stream stream' packet packet' (inl late) (inl late') = SentLate-same slot queues rows stream stream' packet packet' late late'
Misses-same slot queues rows stream stream' packet packet' (inl late) (inr over') = absurd (over'.0 stream packet late)
Misses-same slot queues rows stream stream' packet packet' (inr over) (inl late') = absurd (over.0 stream' packet' late')
Misses-same slot queues rows stream stream' packet packet' (inr over) (inr over') =
    let same : stream ≡ stream' = IsBefore-same stream stream' packet packet' (over.2 stream' packet' over'.1) (over'.2 stream packet over.1) in
    (same, (IsHead-same queues rows stream' over.1.kind over'.1.kind packet packet' (subst (λ (s : ℕ). IsHead queues rows s over.1.kind packet) same over.1.head) over'.1.head).1)

-- a stream that has a packet to send after more rows had one before them
pub IsHead-before : (queues : List Queue) (rows more : List Row) (stream : ℕ) (kind : QueueKind) (packet : QueuedPacket)
    → IsHead queues (rows ++ more) stream kind packet → (earlier : QueuedPacket) × IsHead queues rows stream kind earlier
IsHead-before queues rows more stream kind packet h =
    let fits : count_by (is_of stream) (rows ++ more) < length h.0 = slice_get_within h.0 (count_by (is_of stream) (rows ++ more)) packet h.2 in
    let sums : count_by (is_of stream) (rows ++ more) ≡ count_by (is_of stream) rows + count_by (is_of stream) more = sum_by-append (λ row. cond (is_of stream row) 1 0) rows more in
    (get_or h.0 (count_by (is_of stream) rows) packet, (h.0, h.1, slice_get-get_or h.0 (count_by (is_of stream) rows) packet (omega arith)))

-- where all is sent, nothing misses after more rows
pub Misses-all_sent : (slot : ℕ) (queues : List Queue) (rows more : List Row) (last : Row) (stream : ℕ) (packet : QueuedPacket)
    → AllSent queues rows → Misses slot queues ((rows ++ more) ++ last ∷ []) stream packet → ⊥
Misses-all_sent slot queues rows more last stream packet sent (inl late) =
    let before : rows ++ more ≡ late.before = (same_from_push (rows ++ more) late.before last (Carries stream packet) late.went).0 in
    let head : (earlier : QueuedPacket) × IsHead queues rows stream late.kind earlier = IsHead-before queues rows more stream late.kind packet
    (subst (λ (front : List Row). IsHead queues front stream late.kind packet) (sym before) late.head) in
    sent stream late.kind head.0 head.1
Misses-all_sent slot queues rows more last stream packet sent (inr over) =
    let head : (earlier : QueuedPacket) × IsHead queues rows stream over.1.kind earlier = IsHead-before queues rows (more ++ last ∷ []) stream over.1.kind packet
    (subst (λ (all : List Row). IsHead queues all stream over.1.kind packet) (append_assoc rows more (last ∷ [])) over.1.head) in
    sent stream over.1.kind head.0 head.1

-- rows in which nothing misses are no longer than those before a miss
pub miss_after : (table : Table) (choice : List ℕ) (rows earlier : List Row) (last : Row) (stream : ℕ) (packet : QueuedPacket)
    → FollowRule table choice rows → NoMiss table.slot (queues_of table choice) rows → FollowRule table choice (earlier ++ last ∷ [])
    → Misses table.slot (queues_of table choice) (earlier ++ last ∷ []) stream packet → length rows ≤ length earlier
miss_after table choice rows earlier last stream packet follows none follows' misses =
    elim (cases_lt (length earlier) (length rows)) as (λ _. length rows ≤ length earlier) [
      | inl short ↦
          (let longer : rows ≡ (earlier ++ last ∷ []) ++ drop (length (earlier ++ last ∷ [])) rows = FollowRule-longer table choice
          (earlier ++ last ∷ []) rows follows' follows (rw length_push (omega arith)) in
          absurd (none earlier last (drop (length (earlier ++ last ∷ [])) rows) stream packet (longer ∙ append_assoc earlier (last ∷ []) (drop (length (earlier ++ last ∷ [])) rows)) misses))
      | inr fits ↦ fits
    ]

-- a choice that is scheduled has no first miss
pub IsScheduled-no_miss : (table : Table) (choice : List ℕ) (miss : Miss) → IsScheduled table choice → IsFirstMiss table choice miss → ⊥
IsScheduled-no_miss table choice miss (rows, schedule) first =
    let fits : length rows ≤ length first.earlier =
    miss_after table choice rows first.earlier first.last miss.stream first.packet schedule.follows schedule.in_time first.follows first.misses in
    let follows : FollowRule table choice first.earlier = FollowRule-front table choice first.earlier (first.last ∷ []) first.follows in
    let longer : first.earlier ≡ rows ++ drop (length rows) first.earlier = FollowRule-longer table choice rows first.earlier schedule.follows follows fits in
    Misses-all_sent table.slot (queues_of table choice) rows (drop (length rows) first.earlier) first.last miss.stream first.packet schedule.sent
    (subst (λ (before : List Row). Misses table.slot (queues_of table choice) (before ++ first.last ∷ []) miss.stream first.packet) longer first.misses)

pub Miss-same : (miss miss' : Miss) → miss.stream ≡ miss'.stream → miss.unit ≡ miss'.unit → miss.slot ≡ miss'.slot → miss.due ≡ miss'.due → miss ≡ miss'
Miss-same miss miss' stream unit slot due = λ i. record { stream = stream i; unit = unit i; slot = slot i; due = due i }

-- a table has at most one first miss under a choice
pub IsFirstMiss-same : (table : Table) (choice : List ℕ) (miss miss' : Miss) → IsFirstMiss table choice miss → IsFirstMiss table choice miss' → miss ≡ miss'
IsFirstMiss-same table choice miss miss' first first' =
    let follows : FollowRule table choice first.earlier = FollowRule-front table choice first.earlier (first.last ∷ []) first.follows in
    let follows' : FollowRule table choice first'.earlier = FollowRule-front table choice first'.earlier (first'.last ∷ []) first'.follows in
    let fits : length first.earlier ≤ length first'.earlier =
    miss_after table choice first.earlier first'.earlier first'.last miss'.stream first'.packet follows first.in_time first'.follows first'.misses in
    let fits' : length first'.earlier ≤ length first.earlier =
    miss_after table choice first'.earlier first.earlier first.last miss.stream first.packet follows' first'.in_time first.follows first.misses in
    let equal : length first.earlier ≡ length first'.earlier = omega arith in
    let rows : first.earlier ++ first.last ∷ [] ≡ first'.earlier
    ++ first'.last ∷ [] = FollowRule-unique table choice (first.earlier ++ first.last ∷ [])
    (first'.earlier ++ first'.last ∷ []) first.follows first'.follows
    (length_push first.earlier first.last ∙ ap (λ (n : ℕ). n + 1) equal ∙ sym (length_push first'.earlier first'.last)) in
    let same : (miss.stream ≡ miss'.stream) × (first.packet ≡ first'.packet) = Misses-same table.slot (queues_of table choice)
    (first'.earlier ++ first'.last ∷ []) miss.stream miss'.stream first.packet first'.packet
    (subst (λ (all : List Row). Misses table.slot (queues_of table choice) all miss.stream first.packet) rows first.misses) first'.misses in
    Miss-same miss miss' same.0 (first.unit_is ∙ ap (λ (packet : QueuedPacket). packet.item) same.1 ∙ sym first'.unit_is) (first.slot_is ∙ equal ∙ sym first'.slot_is)
    (first.due_is ∙ ap (λ (packet : QueuedPacket). packet.due) same.1 ∙ sym first'.due_is)
