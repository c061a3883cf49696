use Rattle.std.proofs.Common.{ℕ, List, Ok, ◌∙◌, drop, ap, subst, arith}
use Rattle.ts_demux.specs.Pass.{IsEarly}
use Rattle.program_stream.specs.declared.front.Front.{Front}
use Rattle.program_stream.specs.declared.split_fault.SplitFault.{SplitFault}
use Rattle.program_stream.specs.Elements.{IsRefusedAt}
use Rattle.program_stream.specs.PassingElements.{AreRefused, KeepsTwo}
use Rattle.program_stream.specs.Private.Fronts.{Reads, needs_more}
use Rattle.program_stream.specs.Private.Waiting.{waiting_of}
use Rattle.program_stream.proofs.PassingSteps.{ended, on_refused, passed, refused, stepped, turned, within}
use Rattle.program_stream.proofs.passing_elements.PassingElements.next.Goals as goal

pub turn-requires-clause-held : goal.turn-requires-clause-held
turn-requires-clause-held g c = let (left, most, elements, was) = c.requires.stands in was.held

pub turn-requires-clause-place : goal.turn-requires-clause-place
turn-requires-clause-place g c =
    let (left, most, elements, was) = c.requires.stands in
    omega (arith, was.held, within left (g.S.Source.left c.args.source.now) most (g.S.Source.most c.args.source.now) elements c.args.self.now was)

pub find-requires-clause-two : goal.find-requires-clause-two
find-requires-clause-two g c =
    let (left, most, elements, was) = c.requires.stands in
    let new = c.turn.new.self in
    let is = turned left (g.S.Source.left c.args.source.now) most (g.S.Source.most c.args.source.now) elements c.args.self.now new c.turn.ensures.buffer c.turn.ensures.place c.turn.ensures.rest was in
    subst (λ (n : ℕ). KeepsTwo new.zeros (drop n new.buffer)) c.turn.ensures.rest.0 is.two

pub find-requires-clause-few : goal.find-requires-clause-few
find-requires-clause-few g c =
    let (left, most, elements, was) = c.requires.stands in
    let new = c.turn.new.self in
    let is = turned left (g.S.Source.left c.args.source.now) most (g.S.Source.most c.args.source.now) elements c.args.self.now new c.turn.ensures.buffer c.turn.ensures.place c.turn.ensures.rest was in
    omega (arith, within left (g.S.Source.left c.args.source.now) most (g.S.Source.most c.args.source.now) elements new is)

pub hold-requires : goal.hold-requires
hold-requires g c =
    let (left, most, elements, was) = c.requires.stands in
    let is = stepped left (g.S.Source.left c.args.source.now) (g.S.Source.left c.find.new.source) most (g.S.Source.most c.args.source.now) (g.S.Source.most c.find.new.source) elements
    c.args.self.now c.turn.new.self c.find.new.self c.turn.ensures.buffer c.turn.ensures.place c.turn.ensures.rest c.in-Ok.ensures.same c.in-Ok.ensures.passes c.in-Ok.ensures.two was in
    omega (arith, within left (g.S.Source.left c.find.new.source) most (g.S.Source.most c.find.new.source) elements c.find.new.self is)

pub returns-in-Zeros-clause-passed : goal.returns-in-Zeros-clause-passed
returns-in-Zeros-clause-passed g c left most elements was =
    let new = c.find.new.self in
    ended left (g.S.Source.left c.find.new.source) most (g.S.Source.most c.find.new.source) elements new 0 (c.in-Ok.ensures.same.1 ∙ c.turn.ensures.rest.0)
    (subst (λ (front : Front). Reads new.place new.zeros (waiting_of new) (Ok front)) c.in-Zeros.is c.in-Ok.ensures.found) (c.in-Ok.ensures.end (ap needs_more c.in-Zeros.is))
    (stepped left (g.S.Source.left c.args.source.now) (g.S.Source.left c.find.new.source) most (g.S.Source.most c.args.source.now) (g.S.Source.most c.find.new.source) elements
    c.args.self.now c.turn.new.self c.find.new.self c.turn.ensures.buffer c.turn.ensures.place c.turn.ensures.rest c.in-Ok.ensures.same c.in-Ok.ensures.passes c.in-Ok.ensures.two was)

pub returns-in-Cut-clause-passed : goal.returns-in-Cut-clause-passed
returns-in-Cut-clause-passed g c left most elements was =
    let new = c.find.new.self in
    ended left (g.S.Source.left c.find.new.source) most (g.S.Source.most c.find.new.source) elements new 1 (c.in-Ok.ensures.same.1 ∙ c.turn.ensures.rest.0)
    (subst (λ (front : Front). Reads new.place new.zeros (waiting_of new) (Ok front)) c.in-Cut.is c.in-Ok.ensures.found) (c.in-Ok.ensures.end (ap needs_more c.in-Cut.is))
    (stepped left (g.S.Source.left c.args.source.now) (g.S.Source.left c.find.new.source) most (g.S.Source.most c.args.source.now) (g.S.Source.most c.find.new.source) elements
    c.args.self.now c.turn.new.self c.find.new.self c.turn.ensures.buffer c.turn.ensures.place c.turn.ensures.rest c.in-Ok.ensures.same c.in-Ok.ensures.passes c.in-Ok.ensures.two was)

pub returns-in-Whole-clause-passed : goal.returns-in-Whole-clause-passed
returns-in-Whole-clause-passed g c left most elements was =
    let new = c.find.new.self in
    passed left (g.S.Source.left c.find.new.source) most (g.S.Source.most c.find.new.source) elements new c.hold.new.self c.in-Whole.len (c.in-Ok.ensures.same.1 ∙ c.turn.ensures.rest.0)
    (subst (λ (front : Front). Reads new.place new.zeros (waiting_of new) (Ok front)) c.in-Whole.is c.in-Ok.ensures.found) c.hold.ensures.place c.hold.ensures.rest
    (stepped left (g.S.Source.left c.args.source.now) (g.S.Source.left c.find.new.source) most (g.S.Source.most c.args.source.now) (g.S.Source.most c.find.new.source) elements
    c.args.self.now c.turn.new.self c.find.new.self c.turn.ensures.buffer c.turn.ensures.place c.turn.ensures.rest c.in-Ok.ensures.same c.in-Ok.ensures.passes c.in-Ok.ensures.two was)

pub returns-in-Err-clause-refused : goal.returns-in-Err-clause-refused
returns-in-Err-clause-refused g c left most elements was =
    let new = c.find.new.self in
    on_refused c.in-Err.fault (IsRefusedAt new.place (waiting_of new))
    (λ (refusal : SplitFault). IsEarly left (g.S.Source.left c.find.new.source) most (g.S.Source.most c.find.new.source) _ (λ (file : List ℕ). AreRefused file refusal)) c.in-Err.ensures.refused
    (λ refusal is. refused left (g.S.Source.left c.find.new.source) most (g.S.Source.most c.find.new.source) elements new refusal (c.in-Err.ensures.same.1 ∙ c.turn.ensures.rest.0) is
    (stepped left (g.S.Source.left c.args.source.now) (g.S.Source.left c.find.new.source) most (g.S.Source.most c.args.source.now) (g.S.Source.most c.find.new.source) elements
    c.args.self.now c.turn.new.self c.find.new.self c.turn.ensures.buffer c.turn.ensures.place c.turn.ensures.rest c.in-Err.ensures.same c.in-Err.ensures.passes c.in-Err.ensures.two was))

pub returns-in-Err-clause-kept : goal.returns-in-Err-clause-kept
returns-in-Err-clause-kept g c left most elements was =
    stepped left (g.S.Source.left c.args.source.now) (g.S.Source.left c.find.new.source) most (g.S.Source.most c.args.source.now) (g.S.Source.most c.find.new.source) elements
    c.args.self.now c.turn.new.self c.find.new.self c.turn.ensures.buffer c.turn.ensures.place c.turn.ensures.rest c.in-Err.ensures.same c.in-Err.ensures.passes c.in-Err.ensures.two was
