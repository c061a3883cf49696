use Rattle.std.proofs.Common.{length, ap, sym, ◌∙◌}
use Rattle.std.specs.Option.{option_copied}
use Rattle.version_source.proofs.StateLemmas.{not-refused}
use Rattle.file_pieces.specs.declared.again_fault.AgainFault.TheVariants.{Changed}
use Rattle.file_pieces.proofs.ReadsLemmas.{err_is}
use Rattle.file_pieces.proofs.Units.{packet_made}
use Rattle.file_pieces.proofs.unit_again.packet_again.Goals as goal

pub returns-in-Err-clause-changed : goal.returns-in-Err-clause-changed
returns-in-Err-clause-changed c changed is planned =
    c.of_picture.ensures.changed (err_is c.of_picture.result Changed changed) (not-refused (option_copied c.args.before) c.args.unit.now c.in-Err.fault is c.in-Err.ensures)

pub returns-then-len-plan-clause-changed : goal.returns-then-len-plan-clause-changed
returns-then-len-plan-clause-changed c changed is planned =
    let at = c.in-Ok.ensures in
    let made = packet_made (option_copied c.args.before) c.args.unit.now c.args.plan.now c.in-Ok.version c.in-Ok-with_header.packet at.versions at c.in-Ok-with_header.ensures at.are in
    absurd (c.if-len-plan.true (c.len.ensures ∙ ap length made ∙ planned at.versions at.are))

pub returns-clause-packet : goal.returns-clause-packet
returns-clause-packet c = record {
  packet_is = λ versions are.
      packet_made (option_copied c.args.before) c.args.unit.now c.args.plan.now c.in-Ok.version c.in-Ok-with_header.packet versions c.in-Ok.ensures c.in-Ok-with_header.ensures are;
  size_is = sym c.len.ensures ∙ c.if-len-plan.false;
}
