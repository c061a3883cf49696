use Rattle.std.proofs.Common.{◌≡◌, Option, IfOk, ap, subst, arith, ◌∙◌}
use Rattle.pes_units.specs.declared.pes_header.PesHeader.{PesHeader}
use Rattle.pes_units.specs.PesPackets.{last_refusal}
use Rattle.pes_walk.proofs.Fronts.{last_refusal_same, kept_header, kept_same}
use Rattle.pes_walk.proofs.Walking.{asked}
use Rattle.pes_walk.proofs.walk.PesWalk.last.Goals as goal

pub returns-clause-fault : goal.returns-clause-fault
returns-clause-fault c = λ carried closed last has.
    (c.read_last.ensures.fault ∙ ap (last_refusal c.args.self.now.video) c.as_slice.ensures.value
    ∙ asked (last_refusal c.args.self.now.video) (λ bytes. last_refusal_same 65542 bytes (omega arith) c.args.self.now.video) carried closed last c.args.self.now c.in-Some.field-0 has
    c.in-Some.is)

pub returns-clause-header : goal.returns-clause-header
returns-clause-header c = λ carried closed last has.
    subst (λ (wanted : Option PesHeader). IfOk c.read_last.result (λ header. header ≡ wanted))
    (ap (kept_header c.args.self.now.video) c.as_slice.ensures.value
    ∙ asked (kept_header c.args.self.now.video) (λ bytes. kept_same 65542 bytes (omega arith) c.args.self.now.video) carried closed last c.args.self.now c.in-Some.field-0 has c.in-Some.is)
    c.read_last.ensures.header
