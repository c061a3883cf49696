-- When the data of a video that was sent is wanted and gone, and that what isn't gone is outstanding.
use Rattle.std.proofs.Common.{◌≡◌, ℕ, ◌+◌, ◌-◌, ◌*◌, ◌<◌, ◌≤◌, ltb, eqb, cond, List, [], ◌∷◌, ◌++◌, length, replicate, ap, ◌∙◌, inl, inr, append-nil, length-append, lt-ltb, arith}
use Rattle.std.proofs.lemmas.Bool.{cases_Bool, cond-true}
use Rattle.std.proofs.lemmas.Grind.{flat_map-append}
use Rattle.std.proofs.lemmas.List.Sums.{sum_by-cons}
use Rattle.stream_constants.specs.declared.clock.TheConstants.{SUBTICKS_PER_TICK}
use Rattle.slot_rule.specs.declared.queue_kind.QueueKind.TheVariants.{Video}
use Rattle.slot_rule.specs.declared.queued_packet.QueuedPacket.{QueuedPacket}
use Rattle.slot_rule.specs.declared.row.Row.{Row}
use Rattle.slot_rule.specs.declared.row.Row.TheVariants.{Reserved, Carries, Empty}
use Rattle.slot_rule.specs.Buffers.{outstanding_in, outstanding}
use Rattle.slot_rule.proofs.RuleSent.{packet_of, packets_sent, packets_sent-push}
use Rattle.tstd_model.specs.Instants.{came}
use Rattle.tstd_bridge.specs.Arrivals.{Headers}
use Rattle.tstd_bridge.specs.Removals.{wanted_of_each, gone_of_each}
use Rattle.tstd_bridge.proofs.Gone.{copies_late}
use Rattle.tstd_bridge.proofs.KeptBytes.{came-append}

-- when each byte of data that was sent in the rows is wanted, and gone
abbrev pub data_wanted : (stream program vbv : ℕ) → Headers → List Row → List ℕ
data_wanted stream program vbv headers rows = wanted_of_each (Video program vbv) headers (packets_sent stream rows)

abbrev pub data_gone : (stream program vbv : ℕ) → Headers → List Row → List ℕ
data_gone stream program vbv headers rows = gone_of_each (Video program vbv) headers (packets_sent stream rows)

pub data_wanted-push : (stream program vbv : ℕ) (headers : Headers) (rows : List Row) (row : Row)
    → data_wanted stream program vbv headers (rows ++ row ∷ []) ≡ data_wanted stream program vbv headers rows ++ wanted_of_each (Video program vbv) headers (packet_of stream row)
data_wanted-push stream program vbv headers rows row =
    ap (λ packets. wanted_of_each (Video program vbv) headers packets) (packets_sent-push stream rows row)
    ∙ flat_map-append (λ (packet : QueuedPacket). replicate (packet.payload - headers packet) (SUBTICKS_PER_TICK * packet.due)) (packets_sent stream rows) (packet_of stream row)

data_gone-append : (program vbv : ℕ) (headers : Headers) (packets more : List QueuedPacket)
    → gone_of_each (Video program vbv) headers (packets ++ more) ≡ gone_of_each (Video program vbv) headers packets ++ gone_of_each (Video program vbv) headers more
data_gone-append program vbv headers packets more = flat_map-append (λ (packet : QueuedPacket). replicate (packet.payload - headers packet) (SUBTICKS_PER_TICK * packet.gone)) packets more

pub data_gone-push : (stream program vbv : ℕ) (headers : Headers) (rows : List Row) (row : Row)
    → data_gone stream program vbv headers (rows ++ row ∷ []) ≡ data_gone stream program vbv headers rows ++ gone_of_each (Video program vbv) headers (packet_of stream row)
data_gone-push stream program vbv headers rows row =
    ap (λ packets. gone_of_each (Video program vbv) headers packets) (packets_sent-push stream rows row) ∙ data_gone-append program vbv headers (packets_sent stream rows) (packet_of stream row)

packet_late : (time x program vbv : ℕ) (headers : Headers) (packet : QueuedPacket) → SUBTICKS_PER_TICK * time ≤ x
    → length (gone_of_each (Video program vbv) headers (packet ∷ [])) ≤ came x (gone_of_each (Video program vbv) headers (packet ∷ [])) + cond (ltb time packet.gone) packet.payload 0
packet_late time x program vbv headers packet from =
    let at = SUBTICKS_PER_TICK * packet.gone in
    let count = packet.payload - headers packet in
    rw (append-nil (replicate (packet.payload - headers packet) (SUBTICKS_PER_TICK * packet.gone)))
    (copies_late x count at (cond (ltb time packet.gone) packet.payload 0) (λ _. omega arith)
    (λ after. (let late : time < packet.gone = omega arith in
    let counts : cond (ltb time packet.gone) packet.payload 0 ≡ packet.payload = cond-true (ltb time packet.gone) packet.payload 0 (lt-ltb time packet.gone late) in omega (arith, counts))))

row_late : (stream time x program vbv : ℕ) (headers : Headers) (row : Row) → SUBTICKS_PER_TICK * time ≤ x
    → length (gone_of_each (Video program vbv) headers (packet_of stream row)) ≤ came x (gone_of_each (Video program vbv) headers (packet_of stream row)) + outstanding_in stream time row
row_late stream time x program vbv headers (Reserved sent) from = omega arith
row_late stream time x program vbv headers Empty from = omega arith
row_late stream time x program vbv headers (Carries s packet) from =
    elim (cases_Bool (eqb s stream))
    as (λ _. length (gone_of_each (Video program vbv) headers (packet_of stream (Carries s packet)))
    ≤ came x (gone_of_each (Video program vbv) headers (packet_of stream (Carries s packet))) + outstanding_in stream time (Carries s packet)) [
      | inl same ↦ rw same (packet_late time x program vbv headers packet from)
      | inr other ↦ rw other (omega arith)
    ]

-- at a time or later, each byte is gone or outstanding
pub data_gone-late : (stream time x program vbv : ℕ) (headers : Headers) (rows : List Row) → SUBTICKS_PER_TICK * time ≤ x
    → length (data_gone stream program vbv headers rows) ≤ came x (data_gone stream program vbv headers rows) + outstanding stream time rows
data_gone-late stream time x program vbv headers [] from = omega arith
data_gone-late stream time x program vbv headers (row ∷ rows) from =
    let own = gone_of_each (Video program vbv) headers (packet_of stream row) in
    let rest = data_gone stream program vbv headers rows in
    rw (data_gone-append program vbv headers (packet_of stream row) (packets_sent stream rows))
    (omega (
      arith,
      length-append own rest,
      came-append x own rest,
      sum_by-cons (outstanding_in stream time) row rows,
      row_late stream time x program vbv headers row from,
      data_gone-late stream time x program vbv headers rows from,
    ))
