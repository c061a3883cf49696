-- The bytes in a decoder's buffer at a time: no more than the buffer holds, whatever has gone before.
use Rattle.std.proofs.Common.{◌≡◌, ℕ, ◌+◌, ◌*◌, ◌≤◌, Bool, true, false, cond, ◌&&◌, List, [], ◌∷◌, ◌++◌, length, eqb, ltb, ne_eqb, slice_get, Some, refl, sym, ap, subst, ◌∙◌, inl, inr, lt-ltb, le-ltb, mul-le-mul_right, arith}
use Rattle.std.proofs.lemmas.Bool.{cases_lt, cases_eq}
use Rattle.std.proofs.lemmas.List.{length_push}
use Rattle.std.proofs.lemmas.List.Sums.{sum_by_push, sum_by-le-sum_by}
use Rattle.std.proofs.lemmas.Option.{same_Some}
use Rattle.version_table.specs.declared.table.Table.{Table}
use Rattle.slot_rule.specs.declared.queue_kind.QueueKind.{QueueKind}
use Rattle.slot_rule.specs.declared.queued_packet.QueuedPacket.{QueuedPacket}
use Rattle.slot_rule.specs.declared.row.Row.{Row}
use Rattle.slot_rule.specs.declared.row.Row.TheVariants.{Reserved, Carries, Empty}
use Rattle.slot_rule.specs.Buffers.{eb_or_b_bytes, outstanding, outstanding_in}
use Rattle.slot_rule.specs.Queues.{Queue, queues_of}
use Rattle.slot_rule.specs.Schedule.{FollowRule, IsHead}
use Rattle.slot_rule.proofs.RuleFronts.{by_push}
use Rattle.slot_rule.proofs.RuleRows.{IsNext, FollowRule-front, FollowRule-last}

-- ---- later, fewer bytes are still in the buffer
after_le : (same : Bool) (time later gone payload : ℕ) → time ≤ later → cond (same && ltb later gone) payload 0 ≤ cond (same && ltb time gone) payload 0
after_le false time later gone payload le = omega arith
after_le true time later gone payload le = elim (cases_lt later gone) as (λ _. cond (ltb later gone) payload 0 ≤ cond (ltb time gone) payload 0) [
  | inl after ↦ rw (lt-ltb later gone after, lt-ltb time gone (omega arith)) (omega arith)
  | inr past ↦ rw (le-ltb later gone past) (omega arith)
]

outstanding_in-le : (stream time later : ℕ) → time ≤ later → (row : Row) → outstanding_in stream later row ≤ outstanding_in stream time row
outstanding_in-le stream time later le (Reserved sent) = omega arith
outstanding_in-le stream time later le Empty = omega arith
outstanding_in-le stream time later le (Carries s packet) = after_le (eqb s stream) time later packet.gone packet.payload le

outstanding-le : (stream time later : ℕ) (rows : List Row) → time ≤ later → outstanding stream later rows ≤ outstanding stream time rows
outstanding-le stream time later rows le = sum_by-le-sum_by (outstanding_in stream later) (outstanding_in stream time) rows (outstanding_in-le stream time later le)

own_le : (same after : Bool) (payload : ℕ) → cond (same && after) payload 0 ≤ payload
own_le false after payload = omega arith
own_le true false payload = omega arith
own_le true true payload = omega arith

other_is : (same after : Bool) (payload : ℕ) → same ≡ false → cond (same && after) payload 0 ≡ 0
other_is same after payload e = rw e refl

-- ---- one more row
one_more : (table : Table) (choice : List ℕ) (stream : ℕ) (kind : QueueKind) (packets : List QueuedPacket) (time : ℕ) (rows : List Row) (row : Row)
    → slice_get (queues_of table choice) stream ≡ Some (record { kind = kind; packets = packets }) → IsNext table choice rows row → length rows * table.slot ≤ time
    → outstanding stream time rows ≤ eb_or_b_bytes kind → outstanding stream time (rows ++ row ∷ []) ≤ eb_or_b_bytes kind
one_more table choice stream kind packets time rows (Reserved sent) got next begins fits = omega (arith, sum_by_push (outstanding_in stream time) rows (Reserved sent), fits)
one_more table choice stream kind packets time rows Empty got next begins fits = omega (arith, sum_by_push (outstanding_in stream time) rows Empty, fits)
one_more table choice stream kind packets time rows (Carries s packet) got next begins fits =
    elim (cases_eq s stream) as (λ _. outstanding stream time (rows ++ Carries s packet ∷ []) ≤ eb_or_b_bytes kind) [
      | inl e ↦
          (let head : IsHead (queues_of table choice) rows stream next.1.kind packet = subst (λ (n : ℕ). IsHead (queues_of table choice) rows n next.1.kind packet) e next.1.head in
          let same : ◌≡◌ {A = Queue} (record { kind = next.1.kind; packets = head.0 }) (record { kind = kind; packets = packets }) = same_Some _ _ (sym head.1 ∙ got) in
          let gate : outstanding stream (length rows * table.slot) rows + packet.payload ≤ eb_or_b_bytes next.1.kind =
          subst (λ (n : ℕ). outstanding n (length rows * table.slot) rows + packet.payload ≤ eb_or_b_bytes next.1.kind) e next.1.permitted.eb_or_b in
          let size : eb_or_b_bytes next.1.kind ≡ eb_or_b_bytes kind = ap (λ (q : Queue). eb_or_b_bytes q.kind) same in
          omega (
            arith,
            sum_by_push (outstanding_in stream time) rows (Carries s packet),
            own_le (eqb s stream) (ltb time packet.gone) packet.payload,
            outstanding-le stream (length rows * table.slot) time rows begins,
            gate,
            size,
          ))
      | inr apart ↦ omega (
        arith,
        sum_by_push (outstanding_in stream time) rows (Carries s packet),
        other_is (eqb s stream) (ltb time packet.gone) packet.payload (ne_eqb s stream apart),
        fits,
      )
    ]

-- at a time when no later slot than these has begun, no more of a stream's bytes that came are still in its buffer than the buffer holds
pub held_fits : (table : Table) (choice : List ℕ) (stream : ℕ) (kind : QueueKind) (packets : List QueuedPacket) (time : ℕ)
    → slice_get (queues_of table choice) stream ≡ Some (record { kind = kind; packets = packets })
    → (rows : List Row) → FollowRule table choice rows → length rows * table.slot ≤ time → outstanding stream time rows ≤ eb_or_b_bytes kind
held_fits table choice stream kind packets time got =
    by_push (λ rows. FollowRule table choice rows → length rows * table.slot ≤ time → outstanding stream time rows ≤ eb_or_b_bytes kind)
    (λ follows begins. omega arith)
    (λ rows row before follows begins.
    let size : length (rows ++ row ∷ []) ≡ length rows + 1 = length_push rows row in
    let fewer : length rows * table.slot ≤ length (rows ++ row ∷ []) * table.slot = mul-le-mul_right table.slot (omega arith) in
    let earlier : length rows * table.slot ≤ time = omega arith in
    one_more table choice stream kind packets time rows row got (FollowRule-last table choice rows row follows) earlier
    (before (FollowRule-front table choice rows (row ∷ []) follows) earlier))
