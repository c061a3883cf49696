use Rattle.std.proofs.Common.{◌≡◌, ◌*◌, ◌^◌, ◌<◌, ◌≤◌, [], ◌∷◌, ◌++◌, replicate, sym, ◌∙◌, ap, subst, arith, All}
use Rattle.std.proofs.lemmas.List.{nil_from_length}
use Rattle.std.proofs.lemmas.List.Elements.{All-tail}
use Rattle.stream_constants.specs.declared.clock.TheConstants.{SUBTICKS_PER_TICK}
use Rattle.tstd_model.specs.Decoder.{Removal, removed}
use Rattle.tstd_model.proofs.KeptPackets.{removed-first, removed-nil, removed-none}
use Rattle.tstd_model.proofs.removal_runs.RemovalRunsRuns.next_run.Goals as goal

pub returns-in_default : goal.returns-in_default
returns-in_default c =
    let end : c.removals.self-inside.later.now ≡ [] = nil_from_length c.removals.self-inside.later.now c.in_default.ensures.cases in
    let none : removed c.removals.self-inside.later.now ≡ [] = ap removed end ∙ removed-nil in
    (sym c.self.view_is ∙ sym c.removals.invariant.same ∙ none, none)

pub invariant_of-self-then-removal-gt0 : goal.invariant_of-self-then-removal-gt0
invariant_of-self-then-removal-gt0 c =
    let removal = c.in-Some.removal.now in
    let later = c.in-Some.later.now in
    let split : c.removals.self-inside.later.now ≡ removal ∷ later = c.in-Some.ensures.cases.0 in
    All-tail (λ (r : Removal). r.due ≤ 2 ^ 53) removal later (subst (λ l. All (λ (r : Removal). r.due ≤ 2 ^ 53) l) split c.removals.invariant.fit)

pub returns-then-removal-gt0 : goal.returns-then-removal-gt0
returns-then-removal-gt0 c =
    let removal = c.in-Some.removal.now in
    let later = c.in-Some.later.now in
    let count = c.from.result in
    let due = SUBTICKS_PER_TICK * removal.due in
    let split : c.removals.self-inside.later.now ≡ removal ∷ later = c.in-Some.ensures.cases.0 in
    let all : removed (removal ∷ later) ≡ c.args.self.now = sym (ap removed split) ∙ c.removals.invariant.same ∙ c.self.view_is in
    let some : 0 < count = omega (arith, c.from.ensures, c.if-removal-gt0.true) in
    (some, sym all ∙ removed-first removal later ∙ ap (λ n. replicate n due ++ removed later) (sym c.from.ensures))

pub removals-preserved : goal.removals-preserved
removals-preserved c =
    let removal = c.in-Some.removal.now in
    let later = c.in-Some.later.now in
    let split : c.removals.self-inside.later.now ≡ removal ∷ later = c.in-Some.ensures.cases.0 in
    record {
      same = sym (ap removed split ∙ removed-none removal later c.if-removal-gt0.false) ∙ c.removals.invariant.same;
      fit = All-tail (λ (r : Removal). r.due ≤ 2 ^ 53) removal later (subst (λ l. All (λ (r : Removal). r.due ≤ 2 ^ 53) l) split c.removals.invariant.fit);
    }
