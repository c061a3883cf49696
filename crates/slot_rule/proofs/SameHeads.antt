-- Rows that follow the rule under one choice follow it under another whose queues have the same heads as far as the rows go.
use Rattle.std.proofs.Common.{◌≡◌, ℕ, List, [], ◌∷◌, ◌++◌, length, sym, ap, ◌∙◌, inl, inr, append_assoc}
use Rattle.version_table.specs.declared.table.Table.{Table}
use Rattle.slot_rule.specs.Buffers.{Row, Reserved, Carries, Empty}
use Rattle.slot_rule.specs.Queues.{QueueKind, QueuedPacket, Queue, queues_of}
use Rattle.slot_rule.specs.Schedule.{FollowRule, Goes, IsHead, IsRow, Misses, NoMiss, NothingGoes, SentLate}

-- the queues have the same heads after each front of the rows
pub record SameHeads (queues queues' : List Queue) (rows : List Row) : Type 0 where
  pub to : (before after : List Row) (stream : ℕ) (kind : QueueKind) (packet : QueuedPacket) → rows ≡ before ++ after
      → IsHead queues before stream kind packet → IsHead queues' before stream kind packet
  pub from : (before after : List Row) (stream : ℕ) (kind : QueueKind) (packet : QueuedPacket) → rows ≡ before ++ after
      → IsHead queues' before stream kind packet → IsHead queues before stream kind packet

module _ (slot programs : ℕ) (queues queues' : List Queue) (rows : List Row) (same : SameHeads queues queues' rows) where
  Goes-same : (before after : List Row) (stream : ℕ) (packet : QueuedPacket) → rows ≡ before ++ after → Goes slot queues before stream packet → Goes slot queues' before stream packet
  Goes-same before after stream packet e goes = record {
    kind = goes.kind;
    head = same.to before after stream goes.kind packet e goes.head;
    permitted = goes.permitted;
    first = λ other kind' packet' head permitted. goes.first other kind' packet' (same.from before after other kind' packet' e head) permitted;
  }

  NothingGoes-same : (before after : List Row) → rows ≡ before ++ after → NothingGoes slot queues before → NothingGoes slot queues' before
  NothingGoes-same before after e none stream kind packet head permitted = none stream kind packet (same.from before after stream kind packet e head) permitted

  IsRow-same : (before after : List Row) (row : Row) → rows ≡ before ++ after → IsRow slot programs queues before row → IsRow slot programs queues' before row
  IsRow-same before after (Reserved sent) e is = is
  IsRow-same before after (Carries stream packet) e is = (is.0, Goes-same before after stream packet e is.1)
  IsRow-same before after Empty e is = (is.0, NothingGoes-same before after e is.1)

  SentLate-same : (before after : List Row) (stream : ℕ) (packet : QueuedPacket) → rows ≡ before ++ after → SentLate slot queues' before stream packet → SentLate slot queues before stream packet
  SentLate-same before after stream packet e late =
      let e' : rows ≡ late.before ++ (Carries stream packet ∷ after) =
      e ∙ ap (λ list. list ++ after) late.went ∙ append_assoc late.before (Carries stream packet ∷ []) after in
      record {
        before = late.before;
        went = late.went;
        kind = late.kind;
        head = same.from late.before (Carries stream packet ∷ after) stream late.kind packet e' late.head;
        late = late.late;
      }

  SentLate-same' : (before after : List Row) (stream : ℕ) (packet : QueuedPacket) → rows ≡ before ++ after → SentLate slot queues before stream packet → SentLate slot queues' before stream packet
  SentLate-same' before after stream packet e late =
      let e' : rows ≡ late.before ++ (Carries stream packet ∷ after) =
      e ∙ ap (λ list. list ++ after) late.went ∙ append_assoc late.before (Carries stream packet ∷ []) after in
      record {
        before = late.before;
        went = late.went;
        kind = late.kind;
        head = same.to late.before (Carries stream packet ∷ after) stream late.kind packet e' late.head;
        late = late.late;
      }

  Misses-same : (before after : List Row) (stream : ℕ) (packet : QueuedPacket) → rows ≡ before ++ after → Misses slot queues' before stream packet → Misses slot queues before stream packet
  Misses-same before after stream packet e (inl late) = inl (SentLate-same before after stream packet e late)
  Misses-same before after stream packet e (inr (none, over, first)) = inr (
    (λ other packet' late. none other packet' (SentLate-same' before after other packet' e late)),
    record { kind = over.kind; head = same.from before after stream over.kind packet e over.head; late = over.late },
    (λ other packet' over'. first other packet' (record { kind = over'.kind; head = same.to before after other over'.kind packet' e over'.head; late = over'.late })),
  )

  pub NoMiss-same : NoMiss slot queues rows → NoMiss slot queues' rows
  NoMiss-same none before row after stream packet e misses =
      let e' : rows ≡ (before ++ row ∷ []) ++ after = e ∙ sym (append_assoc before (row ∷ []) after) in
      none before row after stream packet e (Misses-same (before ++ row ∷ []) after stream packet e' misses)

pub FollowRule-same : (table : Table) (choice choice' : List ℕ) (rows : List Row) → SameHeads (queues_of table choice) (queues_of table choice') rows
    → FollowRule table choice rows → FollowRule table choice' rows
FollowRule-same table choice choice' rows same follows before row after e =
    IsRow-same table.slot (length table.programs) (queues_of table choice) (queues_of table choice') rows same before (row ∷ after) row e (follows before row after e)
