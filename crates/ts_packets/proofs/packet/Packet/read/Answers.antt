use Rattle.std.proofs.Common.{sym, ◌∙◌}
use Rattle.std.proofs.lemmas.Bool.{both_ways}
use Rattle.ts_packets.proofs.Refusals.{sound-passes, packet-passes, packet-found, is_packet}
use Rattle.ts_packets.proofs.packet.Packet.read.Goals as goal

pub returns-in_err-field-clause-only : goal.returns-in_err-field-clause-only
returns-in_err-field-clause-only c = λ packet is. absurd (both_ways _ (sound-passes c.args.bytes.now is.control) c.in_err-field.ensures.err.1)

pub returns-clause-packet : goal.returns-clause-packet
returns-clause-packet c = is_packet c.args.bytes.now _ _ _ c.told-bytes c.in_ok-pid.ensures.pid c.if-bytes-ne0.false c.if-bytes-ne0-2.false c.in_ok-field.ensures.ok

pub returns-clause-fault : goal.returns-clause-fault
returns-clause-fault c =
    let is = is_packet c.args.bytes.now c.in_ok-pid.pid c.in_ok-field.field c.in_ok-field.payload.now c.told-bytes c.in_ok-pid.ensures.pid
    c.if-bytes-ne0.false c.if-bytes-ne0-2.false c.in_ok-field.ensures.ok in
    sym (packet-passes _ c.args.bytes.now is)

pub returns-clause-exact : goal.returns-clause-exact
returns-clause-exact c =
    let is = is_packet c.args.bytes.now c.in_ok-pid.pid c.in_ok-field.field c.in_ok-field.payload.now c.told-bytes c.in_ok-pid.ensures.pid
    c.if-bytes-ne0.false c.if-bytes-ne0-2.false c.in_ok-field.ensures.ok in
    sym (packet-found _ c.args.bytes.now is)

pub returns-clause-only : goal.returns-clause-only
returns-clause-only c = λ packet is.
    let found = is_packet c.args.bytes.now c.in_ok-pid.pid c.in_ok-field.field c.in_ok-field.payload.now c.told-bytes c.in_ok-pid.ensures.pid
    c.if-bytes-ne0.false c.if-bytes-ne0-2.false c.in_ok-field.ensures.ok in
    found.fields ∙ sym is.fields
