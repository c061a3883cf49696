use Rattle.std.proofs.Common.{◌≤◌, ◌<◌, ℕ, All, take, subst, ◌∙◌, sym, arith}
use Rattle.std.proofs.lemmas.List.{take_all}
use Rattle.elementary_streams.specs.declared.pes_packets.PlacedPacket.{PlacedPacket}
use Rattle.program_reader.specs.Private.TimesWalk.{EndsWith}
use Rattle.program_reader.proofs.TimesWalked.{no_packet, times_beyond, times_by_last, times_past}
use Rattle.program_reader.proofs.times_walk.TimesWalk.times_of.Goals as goal

pub returns-in_default-clause-times : goal.returns-in_default-clause-times
returns-in_default-clause-times c = λ es places join within.
    let walk = c.next_place.new.self in
    times_past es c.args.packets.now c.args.begin c.args.end (omega (arith, c.requires.order))
    (subst (All (λ place. place < c.args.begin)) (take_all walk.place c.args.places.now (omega (arith, c.in_default.ensures.next)) ∙ sym places) c.next_place.ensures.before) within

pub returns-then-at-end-clause-times : goal.returns-then-at-end-clause-times
returns-then-at-end-clause-times c = λ es places join within.
    let next = c.in-Some.ensures.next.1 in
    times_beyond es c.args.packets.now c.args.begin c.args.end c.in-Some.at (take c.next_place.new.self.place c.args.places.now) next.rest (omega (arith, c.requires.order))
    (places ∙ next.split) c.next_place.ensures.before (omega (arith, c.if-at-end.true))

pub returns-in_default-packet_of-clause-times : goal.returns-in_default-packet_of-clause-times
returns-in_default-packet_of-clause-times c = λ es places join within.
    let next = c.in-Some.ensures.next.1 in
    absurd (no_packet es c.args.packets.now c.args.begin c.args.end c.in-Some.at (take c.next_place.new.self.place c.args.places.now) next.rest (places ∙ next.split)
    c.next_place.ensures.before (omega (arith, c.in-Some.ensures.next.0)) (omega (arith, c.if-at-end.false)) join
    (subst (All (λ (packet : PlacedPacket). packet.end ≤ c.in-Some.at)) (take_all c.packet_of.new.self.packet c.args.packets.now (omega (arith, c.in_default-packet_of.ensures.next)))
    c.packet_of.ensures.before))

pub returns-clause-times : goal.returns-clause-times
returns-clause-times c = λ es places join within.
    let next = c.in-Some.ensures.next.1 in
    let found = c.in-Some-packet_of.ensures.next.1 in
    c.times_behind.ensures ∙ times_by_last es c.args.packets.now c.args.begin c.args.end c.in-Some.at (take c.next_place.new.self.place c.args.places.now) next.rest (places ∙ next.split)
    c.next_place.ensures.before (omega (arith, c.in-Some.ensures.next.0)) (omega (arith, c.if-at-end.false)) c.in-Some-packet_of.packet
    (take c.packet_of.new.self.packet c.args.packets.now) found.rest found.split join c.packet_of.ensures.before (omega (arith, c.in-Some-packet_of.ensures.next.0)) c.last_passed.result
    (subst (λ (n : ℕ). EndsWith (take n c.args.places.now) c.last_passed.result) c.packet_of.ensures.place c.last_passed.ensures)
