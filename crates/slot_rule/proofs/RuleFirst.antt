-- The first in order of the head packets that pass a test.
use Rattle.std.proofs.Common.{
  ◌≡◌,
  ℕ,
  zero,
  suc,
  ◌+◌,
  ◌<◌,
  ◌≤◌,
  ◌⊎◌,
  Bool,
  true,
  leb,
  List,
  [],
  ◌∷◌,
  count_by,
  slice_get,
  nat_le,
  if◌then◌else◌,
  Option,
  Some,
  None,
  refl,
  sym,
  ap,
  subst,
  ◌∙◌,
  inl,
  inr,
  zero-add,
  add-zero,
  leb-true,
  leb-false,
  le_of_eq,
  arith,
}
use Rattle.std.specs.Option.{option_and_then}
use Rattle.std.proofs.lemmas.Bool.{cond_both, cond-true}
use Rattle.std.proofs.lemmas.Option.{same_Some, none-some, option_and_then_some, cond_some}
use Rattle.slot_rule.specs.Queues.{QueueKind, QueuedPacket, Queue}
use Rattle.slot_rule.specs.Buffers.{Row, is_of}
use Rattle.slot_rule.specs.Schedule.{IsHead, IsDueBefore}

-- what a stream offers, or what one above it does, whichever goes first
abbrev pub earlier_of : ℕ → Option QueuedPacket → Option (ℕ × QueuedPacket) → Option (ℕ × QueuedPacket)
earlier_of n None later = later
earlier_of n (Some packet) None = Some (n, packet)
earlier_of n (Some packet) (Some later) = if nat_le packet.due later.1.due then Some (n, packet) else Some later

-- of the streams, numbered from n on, that offer a packet: the one whose packet goes first, with it
abbrev pub earliest : (ℕ → Queue → Option QueuedPacket) → ℕ → List Queue → Option (ℕ × QueuedPacket)
earliest offer n [] = None
earliest offer n (stream ∷ queues) = earlier_of n (offer n stream) (earliest offer (n + 1) queues)

-- a stream of this number offers the packet
abbrev pub Offers : (ℕ → Queue → Option QueuedPacket) → ℕ → List Queue → ℕ → QueuedPacket → Type 0
Offers offer n queues m packet = (k : ℕ) × (s : Queue) × (m ≡ n + k) × (slice_get queues k ≡ Some s) × (offer m s ≡ Some packet)

abbrev pub IsEarliest : (ℕ → Queue → Option QueuedPacket) → ℕ → List Queue → Option (ℕ × QueuedPacket) → Type 0
IsEarliest offer n queues None = (other : ℕ) (packet' : QueuedPacket) → Offers offer n queues other packet' → ⊥
IsEarliest offer n queues (Some found) =
    Offers offer n queues found.0 found.1
    × ((other : ℕ) (packet' : QueuedPacket) → Offers offer n queues other packet' → (other ≡ found.0) ⊎ IsDueBefore found.0 found.1 other packet')

-- what the first stream offers, or one above it
offer_cases : (offer : ℕ → Queue → Option QueuedPacket) (n : ℕ) (s : Queue) (queues : List Queue) (m : ℕ) (packet : QueuedPacket)
    → Offers offer n (s ∷ queues) m packet → ((m ≡ n) × (offer n s ≡ Some packet)) ⊎ ((n < m) × Offers offer (n + 1) queues m packet)
offer_cases offer n s queues m packet (zero, s', e, got, offered) =
    let same : m ≡ n = e ∙ add-zero n in
    let stream : s ≡ s' = same_Some s s' got in
    inl (same, subst (λ (t : Queue). offer n t ≡ Some packet) (sym stream) (subst (λ i. offer i s' ≡ Some packet) same offered))
offer_cases offer n s queues m packet (suc k, s', e, got, offered) = inr (omega arith, (k, s', omega arith, got, offered))

offer_first : (offer : ℕ → Queue → Option QueuedPacket) (n : ℕ) (s : Queue) (queues : List Queue) (packet : QueuedPacket) → offer n s ≡ Some packet
    → Offers offer n (s ∷ queues) n packet
offer_first offer n s queues packet offered = (0, s, sym (add-zero n), refl, offered)

offer_later : (offer : ℕ → Queue → Option QueuedPacket) (n : ℕ) (s : Queue) (queues : List Queue) (m : ℕ) (packet : QueuedPacket)
    → Offers offer (n + 1) queues m packet → Offers offer n (s ∷ queues) m packet
offer_later offer n s queues m packet (k, s', e, got, offered) = (suc k, s', omega arith, got, offered)

before_above : (n m : ℕ) (packet packet' : QueuedPacket) → n < m → packet.due ≤ packet'.due → IsDueBefore n packet m packet'
before_above n m packet packet' above due = grind arith

due_upto : (m other : ℕ) (packet packet' : QueuedPacket) → IsDueBefore m packet other packet' → packet.due ≤ packet'.due
due_upto m other packet packet' (inl less) = omega arith
due_upto m other packet packet' (inr same) = omega arith

-- two offers of one stream are one packet
offer_same : (offer : ℕ → Queue → Option QueuedPacket) (n : ℕ) (queues : List Queue) (m other : ℕ) (packet packet' : QueuedPacket) → other ≡ m
    → Offers offer n queues m packet → Offers offer n queues other packet' → packet ≡ packet'
offer_same offer n queues m other packet packet' e (k, s, at, got, offered) (k', s', at', got', offered') =
    let place : k' ≡ k = omega arith in
    let stream : s ≡ s' = same_Some s s' (sym got ∙ subst (λ i. slice_get queues i ≡ Some s') place got') in
    let mine : offer m s ≡ Some packet' = subst (λ (t : Queue). offer m t ≡ Some packet') (sym stream) (subst (λ i. offer i s' ≡ Some packet') e offered') in
    same_Some packet packet' (sym offered ∙ mine)

own_first : (offer : ℕ → Queue → Option QueuedPacket) (n : ℕ) (s : Queue) (queues : List Queue) (packet : QueuedPacket) (found : ℕ × QueuedPacket)
    → offer n s ≡ Some packet → IsEarliest offer (n + 1) queues (Some found) → packet.due ≤ found.1.due → IsEarliest offer n (s ∷ queues) (Some (n, packet))
own_first offer n s queues packet found e later due = (
  offer_first offer n s queues packet e,
  λ other packet' offered. (elim (offer_cases offer n s queues other packet' offered) as (λ _. (other ≡ n) ⊎ IsDueBefore n packet other packet') [
    | inl first ↦ inl first.0
    | inr above ↦
        (let upto : found.1.due ≤ packet'.due =
        (elim (later.1 other packet' above.1) as (λ _. found.1.due ≤ packet'.due) [
          | inl same ↦ le_of_eq (ap (λ (p : QueuedPacket). p.due) (offer_same offer (n + 1) queues found.0 other found.1 packet' same later.0 above.1))
          | inr before ↦ due_upto found.0 other found.1 packet' before
        ]) in
        inr (before_above n other packet packet' above.0 (omega arith)))
  ]),
)

found_first : (offer : ℕ → Queue → Option QueuedPacket) (n : ℕ) (s : Queue) (queues : List Queue) (packet : QueuedPacket) (found : ℕ × QueuedPacket)
    → offer n s ≡ Some packet → IsEarliest offer (n + 1) queues (Some found) → found.1.due < packet.due → IsEarliest offer n (s ∷ queues) (Some found)
found_first offer n s queues packet found e later due = (
  offer_later offer n s queues found.0 found.1 later.0,
  λ other packet' offered. (elim (offer_cases offer n s queues other packet' offered) as (λ _. (other ≡ found.0) ⊎ IsDueBefore found.0 found.1 other packet') [
    | inl first ↦
        (let same : packet ≡ packet' = same_Some packet packet' (sym e ∙ first.1) in
        inr (inl (subst (λ (p : QueuedPacket). found.1.due < p.due) same due)))
    | inr above ↦ later.1 other packet' above.1
  ]),
)

earlier_of-is : (offer : ℕ → Queue → Option QueuedPacket) (n : ℕ) (s : Queue) (queues : List Queue) (own : Option QueuedPacket) (rest : Option (ℕ × QueuedPacket))
    → offer n s ≡ own → IsEarliest offer (n + 1) queues rest → IsEarliest offer n (s ∷ queues) (earlier_of n own rest)
earlier_of-is offer n s queues None None e later =
    λ other packet' offered. (elim (offer_cases offer n s queues other packet' offered) as (λ _. ⊥) [
      | inl first ↦ none-some packet' (sym e ∙ first.1)
      | inr above ↦ later other packet' above.1
    ])
earlier_of-is offer n s queues None (Some found) e later = (
  offer_later offer n s queues found.0 found.1 later.0,
  λ other packet' offered. (elim (offer_cases offer n s queues other packet' offered) as (λ _. (other ≡ found.0) ⊎ IsDueBefore found.0 found.1 other packet') [
    | inl first ↦ absurd (none-some packet' (sym e ∙ first.1))
    | inr above ↦ later.1 other packet' above.1
  ]),
)
earlier_of-is offer n s queues (Some packet) None e later = (
  offer_first offer n s queues packet e,
  λ other packet' offered. (elim (offer_cases offer n s queues other packet' offered) as (λ _. (other ≡ n) ⊎ IsDueBefore n packet other packet') [
    | inl first ↦ inl first.0
    | inr above ↦ absurd (later other packet' above.1)
  ]),
)
earlier_of-is offer n s queues (Some packet) (Some found) e later =
    cond_both (leb packet.due found.1.due) (Some (n, packet)) (Some found) (IsEarliest offer n (s ∷ queues))
    (λ no_later. own_first offer n s queues packet found e later (leb-true packet.due found.1.due no_later))
    (λ sooner. found_first offer n s queues packet found e later (leb-false packet.due found.1.due sooner))

pub earliest-is : (offer : ℕ → Queue → Option QueuedPacket) (n : ℕ) (queues : List Queue) → IsEarliest offer n queues (earliest offer n queues)
earliest-is offer n [] = λ other packet' offered. none-some offered.1 offered.3
earliest-is offer n (s ∷ queues) = earlier_of-is offer n s queues (offer n s) (earliest offer (n + 1) queues) refl (earliest-is offer (n + 1) queues)

-- the head packet of a stream, where a test of the stream's number, kind and packet passes
abbrev pub head_where : (ℕ → QueueKind → QueuedPacket → Bool) → List Row → ℕ → Queue → Option QueuedPacket
head_where test rows n s = option_and_then (λ packet. if test n s.kind packet then Some packet else None) (slice_get s.packets (count_by (is_of n) rows))

pub head_where-some : (test : ℕ → QueueKind → QueuedPacket → Bool) (queues : List Queue) (rows : List Row) (m : ℕ) (packet : QueuedPacket)
    → Offers (head_where test rows) 0 queues m packet → (kind : QueueKind) × IsHead queues rows m kind packet × (test m kind packet ≡ true)
head_where-some test queues rows m packet (k, s, e, got, offered) =
    let place : k ≡ m = omega arith in
    option_and_then_some (λ (p : QueuedPacket). if test m s.kind p then Some p else None) (slice_get s.packets (count_by (is_of m) rows)) packet offered
    (λ p head passed.
    let parts : (test m s.kind p ≡ true) × (p ≡ packet) = cond_some (test m s.kind p) p packet passed in
    (s.kind, (s.packets, subst (λ i. slice_get queues i ≡ Some s) place got, head ∙ ap Some parts.1), subst (λ (q : QueuedPacket). test m s.kind q ≡ true) parts.1 parts.0))

pub some_head_where : (test : ℕ → QueueKind → QueuedPacket → Bool) (queues : List Queue) (rows : List Row) (m : ℕ) (kind : QueueKind) (packet : QueuedPacket)
    → IsHead queues rows m kind packet → test m kind packet ≡ true → Offers (head_where test rows) 0 queues m packet
some_head_where test queues rows m kind packet head passed = (
  m,
  record { kind = kind; packets = head.0 },
  sym (zero-add m),
  head.1,
  ap (λ (o : Option QueuedPacket). option_and_then (λ (p : QueuedPacket). if test m kind p then Some p else None) o) head.2 ∙ cond-true (test m kind packet) (Some packet) None passed,
)

-- the first of the head packets that pass a test, which decides P
abbrev pub first_head : (ℕ → QueueKind → QueuedPacket → Bool) → List Queue → List Row → Option (ℕ × QueuedPacket)
first_head test queues rows = earliest (head_where test rows) 0 queues
