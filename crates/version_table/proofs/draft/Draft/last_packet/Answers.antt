use Rattle.std.proofs.Common.{sym, ap, ◌∙◌}
use Rattle.version_table.specs.Limits.{packet_due, packet_gone}
use Rattle.version_table.proofs.DraftLines.{last_packet_some, last_packet_none}
use Rattle.version_table.proofs.draft.Draft.last_packet.Goals as goal

pub returns-in-Some-clause-due : goal.returns-in-Some-clause-due
returns-in-Some-clause-due c =
    let last = rw c.as_slice.ensures at (sym c.in-Some.ensures.value) in
    sym (ap packet_due (last_packet_some c.args.self.now c.in-Some.packet.now last))

pub returns-in-Some-clause-gone : goal.returns-in-Some-clause-gone
returns-in-Some-clause-gone c =
    let last = rw c.as_slice.ensures at (sym c.in-Some.ensures.value) in
    sym (ap packet_gone (last_packet_some c.args.self.now c.in-Some.packet.now last))

pub returns-in-None-clause-due : goal.returns-in-None-clause-due
returns-in-None-clause-due c =
    let last = rw c.as_slice.ensures at (sym c.in-None.ensures.value) in
    c.default.ensures.0 ∙ sym (ap packet_due (last_packet_none c.args.self.now last))

pub returns-in-None-clause-gone : goal.returns-in-None-clause-gone
returns-in-None-clause-gone c =
    let last = rw c.as_slice.ensures at (sym c.in-None.ensures.value) in
    c.default.ensures.1.0 ∙ sym (ap packet_gone (last_packet_none c.args.self.now last))
