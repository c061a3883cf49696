-- A list of states of which a loop changes one after another.
use Rattle.std.proofs.Common.{◌≡◌, ℕ, ◌+◌, ◌<◌, ◌≤◌, List, length, get_or, set, slice_get, Some, sym, ap, subst₂, ◌∙◌, inl, inr, length-set, arith}
use Rattle.std.proofs.lemmas.Bool.{cases_lt}
use Rattle.std.proofs.lemmas.Option.{same_Some, slice_get-get_or, slice_get_within}
use Rattle.slot_rule.specs.declared.queue_state.QueueState.{QueueState}
use Rattle.slot_rule.specs.Private.States.{ChangesEach}
use Rattle.list_types.proofs.Lists.{slice_get-set_same, slice_get-set_other}

-- the first n states are changed, and the others are as they were
pub record ChangesFirst (R : QueueState → QueueState → Type 0) (n : ℕ) (olds news : List QueueState) : Type 0 where
  pub as_many : length news ≡ length olds
  pub each : (k : ℕ) (old new : QueueState) → k < n → slice_get olds k ≡ Some old → slice_get news k ≡ Some new → R old new
  pub others : (k : ℕ) → n ≤ k → slice_get news k ≡ slice_get olds k

-- one more state is changed
pub ChangesFirst-more : (R : QueueState → QueueState → Type 0) (n : ℕ) (olds news : List QueueState) (d new : QueueState) → ChangesFirst R n olds news → n < length news
    → R (get_or news n d) new → ChangesFirst R (n + 1) olds (set news n new)
ChangesFirst-more R n olds news d new first within related = record {
  as_many = length-set news n new ∙ first.as_many;
  each = λ k old new' below there there'. elim (cases_lt k n) as (λ _. R old new') [
    | inl before ↦ first.each k old new' before there (sym (slice_get-set_other news n k new (λ e. absurd (omega arith))) ∙ there')
    | inr here ↦
        (let same : k ≡ n = omega arith in
        let at : slice_get (set news n new) n ≡ Some new' = ap (λ i. slice_get (set news n new) i) (sym same) ∙ there' in
        let is : new ≡ new' = same_Some new new' (sym (slice_get-set_same news n new within) ∙ at) in
        let was : get_or news n d ≡ old = same_Some (get_or news n d) old (sym (slice_get-get_or news n d within) ∙ first.others n (omega arith) ∙ ap (λ i. slice_get olds i) (sym same) ∙ there) in
        subst₂ R was is related)
  ];
  others = λ k from. slice_get-set_other news n k new (λ e. absurd (omega arith)) ∙ first.others k (omega arith);
}

pub ChangesEach-from_first : (R : QueueState → QueueState → Type 0) (n : ℕ) (olds news : List QueueState) → ChangesFirst R n olds news → length news ≤ n → ChangesEach R olds news
ChangesEach-from_first R n olds news first all = record {
  as_many = first.as_many;
  each = λ k old new there there'. first.each k old new (omega (arith, slice_get_within news k new there')) there there';
}
