use Rattle.std.proofs.Common.{◌∙◌, ◌++◌, ◌∷◌, [], ℕ, Bool, Option, length, refl, sym, ap, subst, arith}
use Rattle.program_stream.specs.declared.passing_elements.Passed.{Passed}
use Rattle.program_stream.specs.declared.passing_elements.PassingElements.{PassingElements}
use Rattle.program_stream.specs.PassingElements.{Goes as GoesOn, HasPassed as HavePassed, rest_of}
use Rattle.program_stream.proofs.PassingSteps.{fewer_left}
use Rattle.pes_passing.specs.ElementPackets.{AreIn}
use Rattle.pes_passing.specs.PassingPackets.{open_between}
use Rattle.pes_passing.specs.Private.OpenPacket.{ended_behind, Holds}
use Rattle.pes_passing.proofs.ElementSteps.{at_end, one_ended, turned_passed, within}
use Rattle.pes_passing.proofs.element_packets.ElementPackets.next.Goals as goal

pub loop-fault-init : goal.loop-fault-init
loop-fault-init g c = record {
  passed = λ left most ended was. turned_passed left (g.S.Source.left c.args.source.now) most (g.S.Source.most c.args.source.now) ended c.args.self.now c.turn.new.self
      (ap (λ (begun : Option ℕ). open_between begun c.turn.new.self.first.items c.turn.new.self.held) c.in-Ok.ensures.begun ∙ c.in-Ok.ensures.last) c.in-Ok.ensures.count was;
  turned = c.in-Ok.ensures.begun;
  id = refl;
  faults = omega arith;
  absences = omega arith;
  keeps = g.met.S.Source.keeps_itself c.args.source.now;
}

pub next-requires : goal.next-requires
next-requires g c =
    let (left, most, ended, was) = c.requires.stands in
    let has = c.loop-fault.invariant.passed left most ended was in
    record { stands = (left, most, has.elements, has.passed) }

pub take-requires-clause-turned : goal.take-requires-clause-turned
take-requires-clause-turned g c = c.loop-fault.invariant.turned

pub take-requires-clause-some : goal.take-requires-clause-some
take-requires-clause-some g c =
    let (left, most, ended, was) = c.requires.stands in
    let has = c.loop-fault.invariant.passed left most ended was in
    let going = subst (λ (passed : Passed). GoesOn passed left (g.S.Source.left c.next.new.source) most (g.S.Source.most c.next.new.source) has.elements c.next.new.self)
    c.in-Ok-Element.field-0-is (c.in-Ok-Element.ensures.passed left most has.elements has.passed) in
    omega (arith, ap length going.1)

pub take-requires-clause-few : goal.take-requires-clause-few
take-requires-clause-few g c =
    let (left, most, ended, was) = c.requires.stands in
    let has = c.loop-fault.invariant.passed left most ended was in
    let few = within left (g.S.Source.left c.loop-fault.source) most (g.S.Source.most c.loop-fault.source) ended c.loop-fault.self has in
    omega (arith, has.are_in.count_is, few.0, few.2)

pub loop-fault-preserved : goal.loop-fault-preserved
loop-fault-preserved g c =
    let inv = c.loop-fault.invariant in
    let said = c.in-Ok-false.ensures in
    let new = c.take.new.self in
    record {
      passed = λ left most ended was. (
          let has = inv.passed left most ended was in
          let going = subst (λ (passed : Passed). GoesOn passed left (g.S.Source.left c.next.new.source) most (g.S.Source.most c.next.new.source) has.elements c.next.new.self)
          c.in-Ok-Element.field-0-is (c.in-Ok-Element.ensures.passed left most has.elements has.passed) in
          record {
            elements = has.elements ++ going.0 ∷ [];
            passed = subst (λ (e : PassingElements). HavePassed left (g.S.Source.left c.next.new.source) most (g.S.Source.most c.next.new.source) (has.elements ++ going.0 ∷ []) e) (sym said.same.0) going.3;
            are_in = subst (λ (ends : Bool). AreIn (has.elements ++ going.0 ∷ []) (ended_behind ends ended new.pes.held) new) c.in-Ok-false.field-0-test
                (said.taken has.elements going.0 ended going.1 going.2 (record { split = has.are_in.split; count_is = has.are_in.count_is }));
          }
          );
      turned = subst (λ (ends : Bool). Holds ends new.pes) c.in-Ok-false.field-0-test said.holds;
      id = said.same.1 ∙ inv.id;
      faults = omega (arith, inv.faults, c.in-Ok-Element.ensures.causes.faults_grow);
      absences = omega (arith, inv.absences, c.in-Ok-Element.ensures.causes.absences_grow);
      keeps = g.met.S.Source.keeps_on c.args.source.now c.loop-fault.source c.next.new.source inv.keeps c.in-Ok-Element.ensures.keeps;
    }

pub loop-fault-smaller : goal.loop-fault-smaller
loop-fault-smaller g c =
    let (left, most, ended, was) = c.requires.stands in
    let has = c.loop-fault.invariant.passed left most ended was in
    let going = subst (λ (passed : Passed). GoesOn passed left (g.S.Source.left c.next.new.source) most (g.S.Source.most c.next.new.source) has.elements c.next.new.self)
    c.in-Ok-Element.field-0-is (c.in-Ok-Element.ensures.passed left most has.elements has.passed) in
    let fewer = fewer_left left (g.S.Source.left c.loop-fault.source) (g.S.Source.left c.next.new.source) most (g.S.Source.most c.loop-fault.source) (g.S.Source.most c.next.new.source)
    has.elements going.0 c.loop-fault.self.elements c.next.new.self has.passed going.3 in
    omega (arith, fewer, ap (λ (e : PassingElements). length (rest_of e)) c.in-Ok-false.ensures.same.0)

pub returns-in-Ok-End-clause-passed : goal.returns-in-Ok-End-clause-passed
returns-in-Ok-End-clause-passed g c left most ended was =
    let inv = c.loop-fault.invariant in
    let has = inv.passed left most ended was in
    at_end left (g.S.Source.left c.next.new.source) most (g.S.Source.most c.next.new.source) has.elements _ ended _ inv.turned (record { split = has.are_in.split; count_is = has.are_in.count_is })
    (subst (λ (passed : Passed). GoesOn passed left (g.S.Source.left c.next.new.source) most (g.S.Source.most c.next.new.source) has.elements c.next.new.self) c.in-Ok-End.field-0-is
    (c.in-Ok-End.ensures.passed left most has.elements has.passed))

pub returns-in-Err-next-clause-refused : goal.returns-in-Err-next-clause-refused
returns-in-Err-next-clause-refused g c left most ended was =
    let has = c.loop-fault.invariant.passed left most ended was in
    c.in-Err-next.ensures.refused left most has.elements has.passed

pub returns-in-Ok-true-clause-passed : goal.returns-in-Ok-true-clause-passed
returns-in-Ok-true-clause-passed g c left most ended was =
    let said = c.in-Ok-true.ensures in
    let new = c.take.new.self in
    let has = c.loop-fault.invariant.passed left most ended was in
    let going = subst (λ (passed : Passed). GoesOn passed left (g.S.Source.left c.next.new.source) most (g.S.Source.most c.next.new.source) has.elements c.next.new.self)
    c.in-Ok-Element.field-0-is (c.in-Ok-Element.ensures.passed left most has.elements has.passed) in
    one_ended left (g.S.Source.left c.next.new.source) most (g.S.Source.most c.next.new.source) ended new new.pes.held refl
    (subst (λ (ends : Bool). Holds ends new.pes) c.in-Ok-true.field-0-test said.holds)
    (record {
      elements = has.elements ++ going.0 ∷ [];
      passed = subst (λ (e : PassingElements). HavePassed left (g.S.Source.left c.next.new.source) most (g.S.Source.most c.next.new.source) (has.elements ++ going.0 ∷ []) e) (sym said.same.0) going.3;
      are_in = subst (λ (ends : Bool). AreIn (has.elements ++ going.0 ∷ []) (ended_behind ends ended new.pes.held) new) c.in-Ok-true.field-0-test
          (said.taken has.elements going.0 ended going.1 going.2 (record { split = has.are_in.split; count_is = has.are_in.count_is }));
    })
