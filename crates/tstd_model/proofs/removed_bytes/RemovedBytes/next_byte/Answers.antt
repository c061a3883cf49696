use Rattle.std.proofs.Common.{◌≡◌, ◌^◌, ◌≤◌, List, [], ◌∷◌, length, sym, ◌∙◌, ap, subst, arith, All}
use Rattle.std.proofs.lemmas.List.{nil_from_length}
use Rattle.std.proofs.lemmas.List.Elements.{All-tail}
use Rattle.tstd_model.specs.Decoder.{Removal}
use Rattle.tstd_model.proofs.CursorSteps.{removed_left-none, removed_left-removal}
use Rattle.tstd_model.proofs.removed_bytes.RemovedBytes.next_byte.Goals as goal

pub returns-in_default : goal.returns-in_default
returns-in_default c =
    let inside = c.removals.self-inside in
    let end : inside.later.now ≡ [] = nil_from_length inside.later.now c.in_default.ensures.cases in
    let none = removed_left-none inside.count inside.number inside.byte inside.later.now c.if-self-gt0.false end in
    (sym c.self.view_is ∙ sym c.removals.invariant.same ∙ none, none)

pub removals-preserved : goal.removals-preserved
removals-preserved c =
    let inside = c.removals.self-inside in
    let removal = c.in-Some.removal.now in
    let later = c.in-Some.later.now in
    let split : inside.later.now ≡ removal ∷ later = c.in-Some.ensures.cases.0 in
    record {
      same = removed_left-removal inside.count inside.number inside.byte removal inside.later.now later c.if-self-gt0.false split ∙ c.removals.invariant.same;
      few = omega (arith, c.removals.invariant.few, ap (λ (l : List Removal). length l) split);
      in_time = All-tail (λ (r : Removal). r.due ≤ 2 ^ 53) removal later (subst (λ (l : List Removal). All (λ (r : Removal). r.due ≤ 2 ^ 53) l) split c.removals.invariant.in_time);
    }
