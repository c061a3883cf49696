use Rattle.std.proofs.Common.{Some, ap, arith, ◌∙◌}
use Rattle.pes_units.specs.PesHeader.{pes_fields_of}
use Rattle.pes_units.specs.PesPackets.{packet_refusal}
use Rattle.pes_walk.proofs.Fronts.{packet_refusal_same, fields_same}
use Rattle.pes_walk.proofs.Walking.{asked, of_open}
use Rattle.pes_walk.proofs.walk.PesWalk.whole.Goals as goal

pub returns-in-Ok-clause-fault : goal.returns-in-Ok-clause-fault
returns-in-Ok-clause-fault c = λ carried closed last has.
    (c.in-Ok.ensures.fault ∙ ap (packet_refusal c.args.self.now.video) c.as_slice.ensures.value
    ∙ asked (packet_refusal c.args.self.now.video) (λ bytes. packet_refusal_same 65542 bytes (omega arith) c.args.self.now.video) carried closed last c.args.self.now c.in-Some.field-0 has
    c.in-Some.is)

pub returns-in-Ok-clause-header : goal.returns-in-Ok-clause-header
returns-in-Ok-clause-header c = λ carried closed last has.
    (ap Some (c.in-Ok.ensures.header ∙ ap pes_fields_of c.as_slice.ensures.value)
    ∙ of_open pes_fields_of (λ bytes. fields_same 65542 bytes (omega arith)) carried closed last c.args.self.now c.in-Some.field-0 has c.in-Some.is)

pub returns-in-Err-clause-fault : goal.returns-in-Err-clause-fault
returns-in-Err-clause-fault c = λ carried closed last has.
    (c.in-Err.ensures.fault ∙ ap (packet_refusal c.args.self.now.video) c.as_slice.ensures.value
    ∙ asked (packet_refusal c.args.self.now.video) (λ bytes. packet_refusal_same 65542 bytes (omega arith) c.args.self.now.video) carried closed last c.args.self.now c.in-Some.field-0 has
    c.in-Some.is)
