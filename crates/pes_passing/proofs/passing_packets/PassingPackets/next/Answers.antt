use Rattle.std.proofs.Common.{◌<◌, ◌∙◌, ℕ, Bool, List, Option, inl, inr, true, [], length, refl, sym, ap, subst, arith, length-drop}
use Rattle.ts_demux.specs.CarriedPackets.{AreDistinct}
use Rattle.ts_demux.specs.Demux.{IsFirstStreamFault}
use Rattle.ts_demux.specs.Pass.{IsEarly}
use Rattle.ts_demux.proofs.PassSteps.{passes_size}
use Rattle.pes_passing.specs.PassingPackets.{HasPassed, open_between, pids_of, StandsIn}
use Rattle.pes_passing.specs.Private.OpenPacket.{ended_behind, Holds}
use Rattle.pes_passing.proofs.Passing.{all_passed, one_ended, packet_passed, refused_early, turned_passed, within}
use Rattle.pes_passing.proofs.passing_packets.PassingPackets.next.Goals as goal

pub loop-fault-init : goal.loop-fault-init
loop-fault-init g c = record {
  passed = λ left most ended was. turned_passed left (g.S.Source.left c.args.source.now) most (g.S.Source.most c.args.source.now) c.args.buffer.now ended c.args.self.now c.turn.new.self
      (ap (λ (begun : Option ℕ). open_between begun c.turn.new.self.first.items c.turn.new.self.held) c.in-Ok.ensures.begun ∙ c.in-Ok.ensures.last) c.in-Ok.ensures.count was;
  turned = c.in-Ok.ensures.begun;
  pids = refl;
  index = refl;
  grows = omega arith;
  faults = omega arith;
  absences = omega arith;
  keeps = g.met.S.Source.keeps_itself c.args.source.now;
}

pub loop-fault-preserved : goal.loop-fault-preserved
loop-fault-preserved g c =
    let inv = c.loop-fault.invariant in
    let new = c.take-taken.new.self in
    let said = c.in-Ok-false.ensures in
    record {
      passed = λ left most ended was. subst (λ (held : List ℕ). HasPassed left (g.S.Source.left c.fill.new.source) most (g.S.Source.most c.fill.new.source) held ended new) (sym c.pass.ensures)
          (packet_passed left (g.S.Source.left c.loop-fault.source) (g.S.Source.left c.fill.new.source) most (g.S.Source.most c.loop-fault.source) (g.S.Source.most c.fill.new.source)
          c.loop-fault.buffer c.fill.new.self ended ended c.loop-fault.self new (inv.passed left most ended was) c.in-Ok-fill.ensures.passes c.in-Some.ensures.some.0 said.same.2
          (λ file within piece stands. subst (λ (ends : Bool). StandsIn file (ended_behind ends ended new.pes.held) new) c.in-Ok-false.field-0-test
          (said.taken file ended within (c.in-Some.ensures.some.1 ∙ piece) stands)));
      turned = subst (λ (ends : Bool). Holds ends new.pes) c.in-Ok-false.field-0-test said.holds;
      pids = said.same.0 ∙ inv.pids;
      index = said.same.1 ∙ inv.index;
      grows = omega (arith, inv.grows, said.same.2);
      faults = omega (arith, inv.faults, c.in-Ok-fill.ensures.causes.faults_grow);
      absences = omega (arith, inv.absences, c.in-Ok-fill.ensures.causes.absences_grow);
      keeps = g.met.S.Source.keeps_on c.args.source.now c.loop-fault.source c.fill.new.source inv.keeps c.in-Ok-fill.ensures.keeps;
    }

pub loop-fault-smaller : goal.loop-fault-smaller
loop-fault-smaller g c =
    let size = passes_size (g.S.Source.left c.loop-fault.source) (g.S.Source.left c.fill.new.source) (g.S.Source.most c.loop-fault.source) (g.S.Source.most c.fill.new.source)
    c.loop-fault.buffer [] c.fill.new.self c.in-Ok-fill.ensures.passes in
    omega (arith, size, ap length c.pass.ensures, length-drop 188 c.fill.new.self, c.in-Some.ensures.some.0)

pub take-taken-requires-clause-distinct : goal.take-taken-requires-clause-distinct
take-taken-requires-clause-distinct g c = subst AreDistinct (sym c.loop-fault.invariant.pids) c.requires.distinct

pub take-taken-requires-clause-place : goal.take-taken-requires-clause-place
take-taken-requires-clause-place g c =
    let (left, most, ended, was) = c.requires.stands in
    let few = within left (g.S.Source.left c.loop-fault.source) most (g.S.Source.most c.loop-fault.source) c.loop-fault.buffer ended c.loop-fault.self
    (c.loop-fault.invariant.passed left most ended was) in
    omega (arith, few.0)

pub take-taken-requires-clause-few : goal.take-taken-requires-clause-few
take-taken-requires-clause-few g c =
    let (left, most, ended, was) = c.requires.stands in
    (within left (g.S.Source.left c.loop-fault.source) most (g.S.Source.most c.loop-fault.source) c.loop-fault.buffer ended c.loop-fault.self (c.loop-fault.invariant.passed left most ended was)).1

pub returns-in_default-clause-passed : goal.returns-in_default-clause-passed
returns-in_default-clause-passed g c left most ended was =
    let inv = c.loop-fault.invariant in
    let short : length c.fill.new.self < 188 = c.in_default.ensures.none in
    all_passed left (g.S.Source.left c.loop-fault.source) (g.S.Source.left c.fill.new.source) most (g.S.Source.most c.loop-fault.source) (g.S.Source.most c.fill.new.source)
    c.loop-fault.buffer c.fill.new.self ended c.loop-fault.self (inv.passed left most ended was) c.in-Ok-fill.ensures.passes short (c.in-Ok-fill.ensures.full short) inv.turned

pub returns-in_default-clause-same : goal.returns-in_default-clause-same
returns-in_default-clause-same g c = (c.loop-fault.invariant.pids, c.loop-fault.invariant.index, c.loop-fault.invariant.grows)

pub returns-in-Ok-true-clause-same : goal.returns-in-Ok-true-clause-same
returns-in-Ok-true-clause-same g c =
    let inv = c.loop-fault.invariant in
    let said = c.in-Ok-true.ensures in
    (said.same.0 ∙ inv.pids, said.same.1 ∙ inv.index, omega (arith, inv.grows, said.same.2))

pub returns-in-Ok-true-clause-passed : goal.returns-in-Ok-true-clause-passed
returns-in-Ok-true-clause-passed g c left most ended was =
    let new = c.take-taken.new.self in
    let said = c.in-Ok-true.ensures in
    let behind = ended_behind true ended new.pes.held in
    one_ended left (g.S.Source.left c.fill.new.source) most (g.S.Source.most c.fill.new.source) c.pass.new.self ended new new.pes.held refl
    (subst (λ (ends : Bool). Holds ends new.pes) c.in-Ok-true.field-0-test said.holds)
    (subst (λ (held : List ℕ). HasPassed left (g.S.Source.left c.fill.new.source) most (g.S.Source.most c.fill.new.source) held behind new) (sym c.pass.ensures)
    (packet_passed left (g.S.Source.left c.loop-fault.source) (g.S.Source.left c.fill.new.source) most (g.S.Source.most c.loop-fault.source) (g.S.Source.most c.fill.new.source)
    c.loop-fault.buffer c.fill.new.self ended behind c.loop-fault.self new (c.loop-fault.invariant.passed left most ended was) c.in-Ok-fill.ensures.passes c.in-Some.ensures.some.0 said.same.2
    (λ file within piece stands. subst (λ (ends : Bool). StandsIn file (ended_behind ends ended new.pes.held) new) c.in-Ok-true.field-0-test
    (said.taken file ended within (c.in-Some.ensures.some.1 ∙ piece) stands))))

pub returns-in-Err-taken-clause-refused : goal.returns-in-Err-taken-clause-refused
returns-in-Err-taken-clause-refused g c left most ended was =
    let inv = c.loop-fault.invariant in
    let pids = pids_of c.args.self.now in
    elim c.in-Err-taken.ensures.refused [
      | inl memory ↦ inl memory
      | inr first ↦ inr (subst (λ (held : List ℕ). IsEarly left (g.S.Source.left c.fill.new.source) most (g.S.Source.most c.fill.new.source) held
          (λ file. IsFirstStreamFault file pids c.in-Err-taken.fault)) (sym c.pass.ensures)
          (refused_early left (g.S.Source.left c.loop-fault.source) (g.S.Source.left c.fill.new.source) most (g.S.Source.most c.loop-fault.source) (g.S.Source.most c.fill.new.source)
          c.loop-fault.buffer c.fill.new.self ended c.loop-fault.self pids c.in-Err-taken.fault (inv.passed left most ended was) c.in-Ok-fill.ensures.passes c.in-Some.ensures.some.0 inv.pids
          (λ file earlier within piece stands. first file earlier within (c.in-Some.ensures.some.1 ∙ piece) stands)))
    ]
