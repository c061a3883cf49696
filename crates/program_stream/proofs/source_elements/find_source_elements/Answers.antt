use Rattle.std.proofs.Common.{◌≡◌, ◌⊎◌, ℕ, List, [], ◌∷◌, ◌++◌, inl, inr, length, subst, arith}
use Rattle.ts_demux.specs.Pass.{HoldsOfFile, IsEarly}
use Rattle.program_stream.specs.declared.passing_elements.Passed.{Passed}
use Rattle.program_stream.specs.declared.split_fault.SplitFault.{SplitFault}
use Rattle.program_stream.specs.Elements.{Element}
use Rattle.program_stream.specs.PassingElements.{AreRefused, Goes, IsShortFile, taken_of}
use Rattle.program_stream.specs.Split.{HasElements}
use Rattle.program_stream.proofs.PassingSteps.{early_on, fewer_left, on_refused, whole_on}
use Rattle.program_stream.proofs.source_elements.find_source_elements.Goals as goal

pub loop-cut-preserved : goal.loop-cut-preserved
loop-cut-preserved g c =
    let was = c.loop-cut.invariant in
    let said = c.in-Ok-Element.ensures in
    let going = subst (λ (passed : Passed). Goes passed (g.S.Source.left c.args.source.now) (g.S.Source.left c.next.new.source) (g.S.Source.most c.args.source.now) (g.S.Source.most c.next.new.source) was.elements c.next.new.self)
    c.in-Ok-Element.field-0-is (said.passed (g.S.Source.left c.args.source.now) (g.S.Source.most c.args.source.now) was.elements was.passed) in
    record {
      elements = was.elements ++ going.0 ∷ [];
      passed = going.3;
      faults = omega (arith, was.faults, said.causes.faults_grow);
      absences = omega (arith, was.absences, said.causes.absences_grow);
      keeps = g.met.S.Source.keeps_on c.args.source.now c.loop-cut.source c.next.new.source was.keeps said.keeps;
    }

pub loop-cut-smaller : goal.loop-cut-smaller
loop-cut-smaller g c =
    let was = c.loop-cut.invariant in
    let going = subst (λ (passed : Passed). Goes passed (g.S.Source.left c.args.source.now) (g.S.Source.left c.next.new.source) (g.S.Source.most c.args.source.now) (g.S.Source.most c.next.new.source) was.elements c.next.new.self)
    c.in-Ok-Element.field-0-is (c.in-Ok-Element.ensures.passed (g.S.Source.left c.args.source.now) (g.S.Source.most c.args.source.now) was.elements was.passed) in
    fewer_left (g.S.Source.left c.args.source.now) (g.S.Source.left c.loop-cut.source) (g.S.Source.left c.next.new.source) (g.S.Source.most c.args.source.now) (g.S.Source.most c.loop-cut.source)
    (g.S.Source.most c.next.new.source) was.elements going.0 c.loop-cut.passing c.next.new.self was.passed going.3

pub returns-in-Ok-End-clause-found : goal.returns-in-Ok-End-clause-found
returns-in-Ok-End-clause-found g c =
    let was = c.loop-cut.invariant in
    let cut = c.in-Ok-End.cut in
    whole_on (g.S.Source.left c.args.source.now) (g.S.Source.left c.next.new.source) (g.S.Source.most c.args.source.now) (g.S.Source.most c.next.new.source) [] (λ (file : List ℕ). HasElements file was.elements cut × (length file ≡ taken_of c.next.new.self))
    (λ (file : List ℕ). (elements : List Element) × HasElements file elements cut) (λ file is. (was.elements, is.0))
    (subst (λ (passed : Passed). Goes passed (g.S.Source.left c.args.source.now) (g.S.Source.left c.next.new.source) (g.S.Source.most c.args.source.now) (g.S.Source.most c.next.new.source) was.elements c.next.new.self)
    c.in-Ok-End.field-0-is (c.in-Ok-End.ensures.passed (g.S.Source.left c.args.source.now) (g.S.Source.most c.args.source.now) was.elements was.passed))

pub returns-in-Err-next-clause-refused : goal.returns-in-Err-next-clause-refused
returns-in-Err-next-clause-refused g c =
    let was = c.loop-cut.invariant in
    on_refused c.in-Err-next.fault
    (λ (refusal : SplitFault). IsEarly (g.S.Source.left c.args.source.now) (g.S.Source.left c.next.new.source) (g.S.Source.most c.args.source.now) (g.S.Source.most c.next.new.source) [] (λ (file : List ℕ). AreRefused file refusal))
    (λ (refusal : SplitFault). HoldsOfFile (g.S.Source.left c.args.source.now) (g.S.Source.left c.next.new.source) (g.S.Source.most c.args.source.now) (g.S.Source.most c.next.new.source) []
    (λ (file : List ℕ). IsShortFile file refusal ⊎ AreRefused file refusal))
    (c.in-Err-next.ensures.refused (g.S.Source.left c.args.source.now) (g.S.Source.most c.args.source.now) was.elements was.passed)
    (λ refusal is. inl (early_on (g.S.Source.left c.args.source.now) (g.S.Source.left c.next.new.source) (g.S.Source.most c.args.source.now) (g.S.Source.most c.next.new.source) []
    (λ (file : List ℕ). AreRefused file refusal) (λ (file : List ℕ). IsShortFile file refusal ⊎ AreRefused file refusal) (λ file refused. inr refused) is))
