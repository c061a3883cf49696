use Rattle.std.proofs.Common.{◌<◌, subst₂, sym, not}
use Rattle.pes_passing.specs.declared.element_packets.ElementPackets.{ElementPackets}
use Rattle.es_window.specs.declared.held_part.HeldPart.{HeldPart}
use Rattle.es_window.specs.ElementBytes.{HasRead}
use Rattle.es_window.specs.Private.Steps.{element_steps_left}
use Rattle.es_window.proofs.ElementReading.{add_fits, further, read_on, some_read}
use Rattle.es_window.proofs.element_bytes.ElementBytes.step.Goals as goal

pub next-requires : goal.next-requires
next-requires g c =
    let (left, most, has) = c.requires.read in
    let was = some_read left (g.S.Source.left c.args.source.now) most (g.S.Source.most c.args.source.now) c.args.self.now c.requires.going has in
    record { stands = (left, most, was.ended, was.passed) }

pub returns-in-Err-clause-refused : goal.returns-in-Err-clause-refused
returns-in-Err-clause-refused g c left most has =
    let was = some_read left (g.S.Source.left c.args.source.now) most (g.S.Source.most c.args.source.now) c.args.self.now c.requires.going has in
    c.in-Err.ensures.refused left most was.ended was.passed

pub add-requires : goal.add-requires
add-requires g c =
    let (left, most, has) = c.requires.read in
    let was = some_read left (g.S.Source.left c.args.source.now) most (g.S.Source.most c.args.source.now) c.args.self.now c.requires.going has in
    add_fits left (g.S.Source.left c.args.source.now) (g.S.Source.left c.next.new.source) most (g.S.Source.most c.args.source.now) (g.S.Source.most c.next.new.source)
    c.args.self.now c.next.new.self was c.in-Ok.more (c.in-Ok.ensures.passed left most was.ended was.passed)

pub returns-clause-read : goal.returns-clause-read
returns-clause-read g c left most has =
    let was = some_read left (g.S.Source.left c.args.source.now) most (g.S.Source.most c.args.source.now) c.args.self.now c.requires.going has in
    let more = c.in-Ok.more in
    let window = c.add.new.self.window in
    let same = c.in-Ok-add.ensures.same in
    subst₂ (λ (packets : ElementPackets) (part : HeldPart). HasRead left (g.S.Source.left c.next.new.source) most (g.S.Source.most c.next.new.source)
    (record { packets = packets; part = part; window = window; has_ended = not more })) (sym same.0) (sym same.2)
    (read_on left (g.S.Source.left c.args.source.now) (g.S.Source.left c.next.new.source) most (g.S.Source.most c.args.source.now) (g.S.Source.most c.next.new.source)
    c.args.self.now c.next.new.self was more window c.in-Ok-add.ensures.window (c.in-Ok.ensures.passed left most was.ended was.passed))

pub returns-clause-further : goal.returns-clause-further
returns-clause-further g c =
    let (left, most, has) = c.requires.read in
    let was = some_read left (g.S.Source.left c.args.source.now) most (g.S.Source.most c.args.source.now) c.args.self.now c.requires.going has in
    let more = c.in-Ok.more in
    let window = c.add.new.self.window in
    let same = c.in-Ok-add.ensures.same in
    subst₂ (λ (packets : ElementPackets) (part : HeldPart). element_steps_left (record { packets = packets; part = part; window = window; has_ended = not more }) < element_steps_left c.args.self.now)
    (sym same.0) (sym same.2)
    (further left (g.S.Source.left c.args.source.now) (g.S.Source.left c.next.new.source) most (g.S.Source.most c.args.source.now) (g.S.Source.most c.next.new.source)
    c.args.self.now c.next.new.self was more window c.requires.going (c.in-Ok.ensures.passed left most was.ended was.passed))
