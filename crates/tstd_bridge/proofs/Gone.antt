-- The bytes that were sent and are not gone: those that the gate of outstanding bytes counts.
use Rattle.std.proofs.Common.{◌≡◌, ℕ, ◌+◌, ◌*◌, ◌<◌, ◌≤◌, ltb, eqb, cond, List, [], ◌∷◌, ◌++◌, length, replicate, ap, ◌∙◌, inl, inr, append-nil, length-append, lt-ltb, arith}
use Rattle.std.proofs.lemmas.List.{length-replicate}
use Rattle.std.proofs.lemmas.Bool.{cases_Bool, cases_lt, cond-true}
use Rattle.std.proofs.lemmas.Grind.{flat_map-append}
use Rattle.std.proofs.lemmas.List.Sums.{sum_by-cons}
use Rattle.stream_constants.specs.declared.clock.TheConstants.{SUBTICKS_PER_TICK}
use Rattle.slot_rule.specs.declared.queue_kind.QueueKind.TheVariants.{Audio}
use Rattle.slot_rule.specs.declared.queued_packet.QueuedPacket.{QueuedPacket}
use Rattle.slot_rule.specs.declared.row.Row.{Row}
use Rattle.slot_rule.specs.declared.row.Row.TheVariants.{Reserved, Carries, Empty}
use Rattle.slot_rule.specs.Buffers.{outstanding_in, outstanding}
use Rattle.slot_rule.proofs.RuleSent.{packet_of, packets_sent, packets_sent-push}
use Rattle.tstd_model.specs.Instants.{came}
use Rattle.tstd_model.specs.Private.Server.{Spaced}
use Rattle.tstd_model.proofs.Counts.{came_none, came-length}
use Rattle.tstd_bridge.specs.Arrivals.{Headers}
use Rattle.tstd_bridge.specs.Removals.{gone_of_each}
use Rattle.tstd_bridge.proofs.KeptBytes.{came-append, came-replicate}

-- when each payload byte that was sent in the rows is gone
abbrev pub gones : (stream : ℕ) → Headers → List Row → List ℕ
gones stream headers rows = gone_of_each Audio headers (packets_sent stream rows)

pub gone_of_each-append : (headers : Headers) (packets more : List QueuedPacket)
    → gone_of_each Audio headers (packets ++ more) ≡ gone_of_each Audio headers packets ++ gone_of_each Audio headers more
gone_of_each-append headers packets more = flat_map-append (λ (packet : QueuedPacket). replicate packet.payload (SUBTICKS_PER_TICK * packet.gone)) packets more

pub gones-push : (stream : ℕ) (headers : Headers) (rows : List Row) (row : Row)
    → gones stream headers (rows ++ row ∷ []) ≡ gones stream headers rows ++ gone_of_each Audio headers (packet_of stream row)
gones-push stream headers rows row =
    ap (λ packets. gone_of_each Audio headers packets) (packets_sent-push stream rows row) ∙ gone_of_each-append headers (packets_sent stream rows) (packet_of stream row)

pub copies_late : (x count at out : ℕ) → (at ≤ x → 0 ≤ out) → (x < at → count ≤ out) → length (replicate count at) ≤ came x (replicate count at) + out
copies_late x count at out gone late = elim (cases_lt x at) [
  | inl after ↦ omega (arith, length-replicate count at, late after)
  | inr has ↦ omega (arith, length-replicate count at, came-replicate x at count has)
]

packet_late : (time x : ℕ) (headers : Headers) (packet : QueuedPacket) → SUBTICKS_PER_TICK * time ≤ x
    → length (gone_of_each Audio headers (packet ∷ [])) ≤ came x (gone_of_each Audio headers (packet ∷ [])) + cond (ltb time packet.gone) packet.payload 0
packet_late time x headers packet from =
    let at = SUBTICKS_PER_TICK * packet.gone in
    rw (append-nil (replicate packet.payload at))
    (copies_late x packet.payload at (cond (ltb time packet.gone) packet.payload 0) (λ _. omega arith)
    (λ after. (let late : time < packet.gone = omega arith in
    let counts : cond (ltb time packet.gone) packet.payload 0 ≡ packet.payload = cond-true (ltb time packet.gone) packet.payload 0 (lt-ltb time packet.gone late) in omega (arith, counts))))

row_late : (stream time x : ℕ) (headers : Headers) (row : Row) → SUBTICKS_PER_TICK * time ≤ x
    → length (gone_of_each Audio headers (packet_of stream row)) ≤ came x (gone_of_each Audio headers (packet_of stream row)) + outstanding_in stream time row
row_late stream time x headers (Reserved sent) from = omega arith
row_late stream time x headers Empty from = omega arith
row_late stream time x headers (Carries s packet) from =
    elim (cases_Bool (eqb s stream))
    as (λ _. length (gone_of_each Audio headers (packet_of stream (Carries s packet)))
    ≤ came x (gone_of_each Audio headers (packet_of stream (Carries s packet))) + outstanding_in stream time (Carries s packet)) [
      | inl same ↦ rw same (packet_late time x headers packet from)
      | inr other ↦ rw other (omega arith)
    ]

-- at a time or later, each byte is gone or outstanding
pub gones-late : (stream time x : ℕ) (headers : Headers) (rows : List Row) → SUBTICKS_PER_TICK * time ≤ x
    → length (gones stream headers rows) ≤ came x (gones stream headers rows) + outstanding stream time rows
gones-late stream time x headers [] from = omega arith
gones-late stream time x headers (row ∷ rows) from =
    let own = gone_of_each Audio headers (packet_of stream row) in
    let rest = gones stream headers rows in
    rw (gone_of_each-append headers (packet_of stream row) (packets_sent stream rows))
    (omega (
      arith,
      length-append own rest,
      came-append x own rest,
      sum_by-cons (outstanding_in stream time) row rows,
      row_late stream time x headers row from,
      gones-late stream time x headers rows from,
    ))

-- one more packet, by the gate of outstanding bytes
pub gate-step : (size x start out payload gone : ℕ) (ins own gone_before : List ℕ)
    → came x ins ≤ size + came x gone_before → length ins ≤ length gone_before → Spaced 0 start own → length own ≤ payload
    → (start ≤ x → length gone_before ≤ came x gone_before + out) → out + payload ≤ size
    → came x (ins ++ own) ≤ size + came x (gone_before ++ replicate payload gone)
gate-step size x start out payload gone ins own gone_before held few low small late gate =
    let all : came x (ins ++ own) ≡ came x ins + came x own = came-append x ins own in
    let gone_all : came x (gone_before ++ replicate payload gone) ≡ came x gone_before + came x (replicate payload gone) = came-append x gone_before (replicate payload gone) in
    elim (cases_lt x start) [
      | inl before ↦ omega (arith, all, gone_all, held, came_none x start own before low)
      | inr from ↦ omega (arith, all, gone_all, came-length x ins, came-length x own, few, small, late from, gate)
    ]
