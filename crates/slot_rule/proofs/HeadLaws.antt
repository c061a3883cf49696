-- What the states of the first queues tell, and of one more.
use Rattle.std.proofs.Common.{◌≡◌, ℕ, ◌+◌, ◌<◌, ◌≤◌, ◌⊎◌, List, length, get_or, take, slice_get, Some, None, sym, ap, subst, ◌∙◌, inl, inr, arith}
use Rattle.std.proofs.lemmas.Bool.{cases_lt}
use Rattle.std.proofs.lemmas.Option.{same_Some, slice_get-get_or}
use Rattle.std.proofs.lemmas.List.{take_all}
use Rattle.slot_rule.specs.declared.queue_state.QueueState.{QueueState}
use Rattle.slot_rule.specs.Private.Heads.{IsFirstHead, NoneGoneBefore}
use Rattle.slot_rule.specs.Private.QueueState.{HoldsUntil}
use Rattle.slot_rule.specs.Queues.{QueuedPacket}
use Rattle.slot_rule.proofs.Places.{slice_get-take, slice_get_of_front}

-- a stream of a longer front is the last one, or one of the shorter front
pub front_cases : {X : Type 0} (n : ℕ) (xs : List X) (x : X) (k : ℕ) (y : X) → slice_get xs n ≡ Some x → slice_get (take (n + 1) xs) k ≡ Some y
    → (slice_get (take n xs) k ≡ Some y) ⊎ ((k ≡ n) × (y ≡ x))
front_cases n xs x k y last got =
    let there = slice_get_of_front (n + 1) xs k y got in
    elim (cases_lt k n) as (λ _. (slice_get (take n xs) k ≡ Some y) ⊎ ((k ≡ n) × (y ≡ x))) [
      | inl below ↦ inl (slice_get-take n xs k below ∙ there.1)
      | inr past ↦ (let same : k ≡ n = omega (arith, there.0) in inr (same, same_Some y x (sym there.1 ∙ ap (λ i. slice_get xs i) same ∙ last)))
    ]

-- none of the first queues passes, nor does the one after them
pub IsFirstHead-none_more : (P : QueueState → QueuedPacket → Type 0) (states : List QueueState) (n : ℕ) (d : QueueState) → n < length states → IsFirstHead P (take n states) None
    → ((packet : QueuedPacket) → (get_or states n d).head ≡ Some packet → P (get_or states n d) packet → ⊥) → IsFirstHead P (take (n + 1) states) None
IsFirstHead-none_more P states n d within none fails stream state packet there head passes =
    elim (front_cases n states (get_or states n d) stream state (slice_get-get_or states n d within) there) as (λ _. ⊥) [
      | inl before ↦ none stream state packet before head passes
      | inr here ↦ fails packet (ap (λ (s : QueueState). s.head) (sym here.1) ∙ head) (subst (λ (s : QueueState). P s packet) here.1 passes)
    ]

pub IsFirstHead-none_all : (P : QueueState → QueuedPacket → Type 0) (states : List QueueState) (n : ℕ) → length states ≤ n
    → IsFirstHead P (take n states) None → IsFirstHead P states None
IsFirstHead-none_all P states n all none = subst (λ (list : List QueueState). IsFirstHead P list None) (take_all n states all) none

-- ---- what is held
pub HoldsUntil-earlier : (time earlier : ℕ) (state : QueueState) → earlier ≤ time → HoldsUntil time state → HoldsUntil earlier state
HoldsUntil-earlier time earlier state before holds packet some oldest = (let later = holds packet some oldest in omega arith)

pub NoneGoneBefore-more : (states : List QueueState) (n time own both : ℕ) (d : QueueState) → n < length states → both ≤ time → both ≤ own → NoneGoneBefore (take n states) time
    → HoldsUntil own (get_or states n d) → NoneGoneBefore (take (n + 1) states) both
NoneGoneBefore-more states n time own both d within low low' first holds stream state there =
    elim (front_cases n states (get_or states n d) stream state (slice_get-get_or states n d within) there) as (λ _. HoldsUntil both state) [
      | inl before ↦ HoldsUntil-earlier time both state low (first stream state before)
      | inr here ↦ HoldsUntil-earlier own both state low' (subst (λ (s : QueueState). HoldsUntil own s) (sym here.1) holds)
    ]

pub NoneGoneBefore-all : (states : List QueueState) (n time : ℕ) → length states ≤ n → NoneGoneBefore (take n states) time → NoneGoneBefore states time
NoneGoneBefore-all states n time all first = subst (λ (list : List QueueState). NoneGoneBefore list time) (take_all n states all) first
