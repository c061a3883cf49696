use Rattle.std.proofs.Common.{ap, arith, ◌∙◌}
use Rattle.pes_units.specs.PesHeader.{header_of}
use Rattle.pes_walk.proofs.Fronts.{header_same}
use Rattle.pes_walk.proofs.Walking.{asked}
use Rattle.pes_walk.proofs.walk.PesWalk.header.Goals as goal

pub returns-in-Ok : goal.returns-in-Ok
returns-in-Ok c = λ carried closed last has.
    (c.in-Ok.ensures.exact ∙ ap (header_of c.args.self.now.video) c.as_slice.ensures.value
    ∙ asked (header_of c.args.self.now.video) (λ bytes. header_same 65542 bytes (omega arith) c.args.self.now.video) carried closed last c.args.self.now c.in-Some.field-0 has c.in-Some.is)

pub returns-in-Err : goal.returns-in-Err
returns-in-Err c = λ carried closed last has.
    (c.in-Err.ensures.exact ∙ ap (header_of c.args.self.now.video) c.as_slice.ensures.value
    ∙ asked (header_of c.args.self.now.video) (λ bytes. header_same 65542 bytes (omega arith) c.args.self.now.video) carried closed last c.args.self.now c.in-Some.field-0 has c.in-Some.is)
