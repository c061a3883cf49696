-- The order of turns: a turn is added or taken out, and what the turns of all queues tell.
use Rattle.std.proofs.Common.{◌≡◌, ℕ, ◌+◌, ◌-◌, ◌<◌, ◌≤◌, ◌⊎◌, All, List, [], ◌∷◌, ◌++◌, length, get_or, take, drop, slice_get, Some, None, refl, sym, ap, subst, subst₂, ◌∙◌, inl, inr, arith}
use Rattle.std.specs.List.{AllPairs, Contains, insert, refill, remove}
use Rattle.std.proofs.Math.Seq.{take-append_seam}
use Rattle.std.proofs.lemmas.Bool.{cases_eq, cases_lt}
use Rattle.std.proofs.lemmas.Option.{none-some, same_Some, slice_get_within, slice_get-get_or, get_or_from_slice_get}
use Rattle.std.proofs.lemmas.List.{get_or_default, take-append-drop}
use Rattle.std.proofs.lemmas.List.Edits.{length-insert, get_or-insert_below, get_or-insert_at, get_or-insert_above, length-remove, get_or-remove_below, get_or-remove_above}
use Rattle.std.proofs.lemmas.List.Elements.{All-contains, Contains-get_or, Contains-append_left, Contains-append_right, Contains-append_cases}
use Rattle.std.proofs.lemmas.List.Quantifiers.{all_pairs_remove}
use Rattle.slot_rule.specs.declared.queue_state.QueueState.{QueueState}
use Rattle.slot_rule.specs.declared.turns.Turn.{Turn}
use Rattle.slot_rule.specs.Private.Turns.{AddsTurn, AreTurns, GoesBefore, IsTurn, IsTurnOrder, PassesTurn, turn_of}
use Rattle.slot_rule.specs.Private.Heads.{IsFirst, IsFirstHead, IsOffer, NoneGoneBefore}
use Rattle.slot_rule.specs.Private.QueueState.{HoldsUntil}
use Rattle.slot_rule.specs.Private.States.{ChangesEach}
use Rattle.slot_rule.specs.Queues.{QueuedPacket}
use Rattle.slot_rule.specs.Schedule.{IsDueBefore}
use Rattle.slot_rule.proofs.BringLaws.{state_before}
use Rattle.slot_rule.proofs.HeadLaws.{front_cases}
use Rattle.slot_rule.proofs.Places.{slice_get-take, slice_get_of_front}

-- ---- pairs of a list to which an element is added
-- what stands at a place of a list after an insert
at_insert : {X : Type 0} (xs : List X) (i : ℕ) (y d : X) (k : ℕ) → i ≤ length xs
    → ((k < i) × (get_or (insert xs i y) k d ≡ get_or xs k d)) ⊎ (((k ≡ i) × (get_or (insert xs i y) k d ≡ y)) ⊎ ((i < k) × (get_or (insert xs i y) k d ≡ get_or xs (k - 1) d)))
at_insert {X} xs i y d k fits =
    elim (cases_lt k i) as (λ _. ((k < i) × (get_or (insert xs i y) k d ≡ get_or xs k d))
    ⊎ (((k ≡ i) × (get_or (insert xs i y) k d ≡ y)) ⊎ ((i < k) × (get_or (insert xs i y) k d ≡ get_or xs (k - 1) d)))) [
      | inl below ↦ inl (below, get_or-insert_below xs i y d k below fits)
      | inr from ↦ inr (elim (cases_eq k i) as (λ _. ((k ≡ i) × (get_or (insert xs i y) k d ≡ y)) ⊎ ((i < k) × (get_or (insert xs i y) k d ≡ get_or xs (k - 1) d))) [
        | inl same ↦ inl (same, ap (λ n. get_or (insert xs i y) n d) same ∙ get_or-insert_at xs i y d fits)
        | inr apart ↦
            (let next : k ≡ k - 1 + 1 = omega arith in
            inr (omega arith, ap (λ n. get_or (insert xs i y) n d) next ∙ get_or-insert_above xs i y d (k - 1) (omega arith) fits))
      ])
    ]

pub all_pairs_insert : {X : Type 0} (R : X → X → Type 0) (xs : List X) (i : ℕ) (y : X) → i ≤ length xs → AllPairs R xs
    → ((k : ℕ) (d : X) → k < i → R (get_or xs k d) y) → ((k : ℕ) (d : X) → i ≤ k → k < length xs → R y (get_or xs k d)) → AllPairs R (insert xs i y)
all_pairs_insert {X} R xs i y fits pairs below above a b d less within =
    let size : length (insert xs i y) ≡ length xs + 1 = length-insert xs i y fits in
    let goal : Type 0 = R (get_or (insert xs i y) a d) (get_or (insert xs i y) b d) in
    elim (at_insert xs i y d a fits) as (λ _. R (get_or (insert xs i y) a d) (get_or (insert xs i y) b d)) [
      | inl first ↦ elim (at_insert xs i y d b fits) as (λ _. R (get_or (insert xs i y) a d) (get_or (insert xs i y) b d)) [
        | inl second ↦ subst₂ R (sym first.1) (sym second.1) (pairs a b d less (omega arith))
        | inr second ↦ elim second as (λ _. R (get_or (insert xs i y) a d) (get_or (insert xs i y) b d)) [
          | inl at ↦ subst₂ R (sym first.1) (sym at.1) (below a d first.0)
          | inr past ↦ subst₂ R (sym first.1) (sym past.1) (pairs a (b - 1) d (omega arith) (omega arith))
        ]
      ]
      | inr rest ↦ elim rest as (λ _. R (get_or (insert xs i y) a d) (get_or (insert xs i y) b d)) [
        | inl at ↦ elim (at_insert xs i y d b fits) as (λ _. R (get_or (insert xs i y) a d) (get_or (insert xs i y) b d)) [
          | inl second ↦ absurd (omega arith)
          | inr second ↦ elim second as (λ _. R (get_or (insert xs i y) a d) (get_or (insert xs i y) b d)) [
            | inl again ↦ absurd (omega arith)
            | inr past ↦ subst₂ R (sym at.1) (sym past.1) (above (b - 1) d (omega arith) (omega arith))
          ]
        ]
        | inr first ↦ elim (at_insert xs i y d b fits) as (λ _. R (get_or (insert xs i y) a d) (get_or (insert xs i y) b d)) [
          | inl second ↦ absurd (omega arith)
          | inr second ↦ elim second as (λ _. R (get_or (insert xs i y) a d) (get_or (insert xs i y) b d)) [
            | inl again ↦ absurd (omega arith)
            | inr past ↦ subst₂ R (sym first.1) (sym past.1) (pairs (a - 1) (b - 1) d (omega arith) (omega arith))
          ]
        ]
      ]
    ]

-- ---- which of two turns comes first
pub GoesBefore-trans : (a b c : Turn) → GoesBefore a b → GoesBefore b c → GoesBefore a c
GoesBefore-trans a b c (inl less) (inl less') = inl (omega arith)
GoesBefore-trans a b c (inl less) (inr same) = inl (omega (arith, same.0))
GoesBefore-trans a b c (inr same) (inl less) = inl (omega (arith, same.0))
GoesBefore-trans a b c (inr same) (inr same') = inr (same.0 ∙ same'.0, omega (arith, same.1, same'.1))

-- of two queues' turns one comes first
GoesBefore-other : (a b : Turn) → (GoesBefore a b → ⊥) → (b.stream ≡ a.stream → ⊥) → GoesBefore b a
GoesBefore-other a b not apart =
    elim (cases_lt b.due a.due) as (λ _. GoesBefore b a) [
      | inl less ↦ inl less
      | inr from ↦ elim (cases_lt a.due b.due) as (λ _. GoesBefore b a) [
        | inl less ↦ absurd (not (inl less))
        | inr upto ↦
            (let same : b.due ≡ a.due = omega arith in
            elim (cases_lt b.stream a.stream) as (λ _. GoesBefore b a) [
              | inl lower ↦ inr (same, lower)
              | inr past ↦ elim (cases_lt a.stream b.stream) as (λ _. GoesBefore b a) [
                | inl higher ↦ absurd (not (inr (sym same, higher)))
                | inr upto' ↦ absurd (apart (omega arith))
              ]
            ])
      ]
    ]

-- ---- a turn is added
-- at its place the order stays
pub IsTurnOrder-insert : (turns : List Turn) (place : ℕ) (turn : Turn) → IsTurnOrder turns → All (λ other. other.stream ≡ turn.stream → ⊥) turns → place ≤ length turns
    → ((k : ℕ) (d : Turn) → k < place → GoesBefore turn (get_or turns k d) → ⊥)
    → ((d : Turn) → place < length turns → GoesBefore turn (get_or turns place d)) → IsTurnOrder (insert turns place turn)
IsTurnOrder-insert turns place turn order apart fits before after = record {
  sorted = all_pairs_insert GoesBefore turns place turn fits order.sorted
      (λ k d below. GoesBefore-other turn (get_or turns k d) (before k d below) (apart k d (omega arith)))
      (λ k d from within. elim (cases_eq k place) as (λ _. GoesBefore turn (get_or turns k d)) [
        | inl same ↦ subst (λ n. GoesBefore turn (get_or turns n d)) (sym same) (after d (omega arith))
        | inr other ↦ GoesBefore-trans turn (get_or turns place d) (get_or turns k d) (after d (omega arith)) (order.sorted place k d (omega arith) within)
      ]);
  apart = all_pairs_insert (λ t other. t.stream ≡ other.stream → ⊥) turns place turn fits order.apart
      (λ k d below. apart k d (omega arith)) (λ k d from within e. apart k d within (sym e));
}

only_one : {X : Type 0} (y x : X) → Contains (y ∷ []) x → x ≡ y
only_one y x (k, within, at) =
    let none : k ≡ 0 = omega arith in
    sym (subst (λ n. get_or (y ∷ []) n x ≡ x) none at)

pub AddsTurn-insert : (turns : List Turn) (place : ℕ) (turn : Turn) → place ≤ length turns → AddsTurn turn turns (insert turns place turn)
AddsTurn-insert turns place turn fits = record {
  longer = length-insert turns place turn fits;
  added = (place, omega (arith, length-insert turns place turn fits), get_or-insert_at turns place turn turn fits);
  kept = λ other has. elim (Contains-append_cases (take place turns) (drop place turns) other
      (subst (λ list. Contains list other) (sym (take-append-drop place turns)) has)) as (λ _. Contains (insert turns place turn) other) [
        | inl left ↦ Contains-append_left (take place turns) (turn ∷ drop place turns) other left
        | inr right ↦ Contains-append_right (take place turns) (turn ∷ drop place turns) other (Contains-append_right (turn ∷ []) (drop place turns) other right)
      ];
  each = λ other has. elim (Contains-append_cases (take place turns) (turn ∷ drop place turns) other has) as (λ _. (other ≡ turn) ⊎ Contains turns other) [
    | inl left ↦ inr (subst (λ list. Contains list other) (take-append-drop place turns) (Contains-append_left (take place turns) (drop place turns) other left))
    | inr rest ↦ elim (Contains-append_cases (turn ∷ []) (drop place turns) other rest) as (λ _. (other ≡ turn) ⊎ Contains turns other) [
      | inl here ↦ inl (only_one turn other here)
      | inr right ↦ inr (subst (λ list. Contains list other) (take-append-drop place turns) (Contains-append_right (take place turns) (drop place turns) other right))
    ]
  ];
}

-- ---- a turn is taken out
pub IsTurnOrder-remove : (turns : List Turn) (place : ℕ) → place < length turns → IsTurnOrder turns → IsTurnOrder (remove turns place)
IsTurnOrder-remove turns place within order = record {
  sorted = all_pairs_remove GoesBefore turns place within order.sorted;
  apart = all_pairs_remove (λ t other. t.stream ≡ other.stream → ⊥) turns place within order.apart;
}

-- what is left are the turns of other queues
pub remove-others : (turns : List Turn) (place : ℕ) (turn other : Turn) → IsTurnOrder turns → slice_get turns place ≡ Some turn → Contains (remove turns place) other
    → (other.stream ≡ turn.stream → ⊥) × Contains turns other
remove-others turns place turn other order got (k, within, at) =
    let there : place < length turns = slice_get_within turns place turn got in
    let size : length (remove turns place) + 1 ≡ length turns = length-remove turns place there in
    let here : get_or turns place other ≡ turn = get_or_from_slice_get turns place turn other got in
    elim (cases_lt k place) as (λ _. (other.stream ≡ turn.stream → ⊥) × Contains turns other) [
      | inl below ↦
          (let is : get_or turns k other ≡ other = sym (get_or-remove_below turns place other k below there) ∙ at in (
            subst₂ (λ (t u : Turn). t.stream ≡ u.stream → ⊥) is here (order.apart k place other below there),
            (k, omega arith, is),
          ))
      | inr from ↦
          (let is : get_or turns (k + 1) other ≡ other = sym (get_or-remove_above turns place other k from there) ∙ at in (
            (λ e. subst₂ (λ (t u : Turn). t.stream ≡ u.stream → ⊥) here is (order.apart place (k + 1) other (omega arith) (omega arith)) (sym e)),
            (k + 1, omega arith, is),
          ))
    ]

pub remove-keeps : (turns : List Turn) (place : ℕ) (turn other : Turn) → slice_get turns place ≡ Some turn → (other.stream ≡ turn.stream → ⊥) → Contains turns other
    → Contains (remove turns place) other
remove-keeps turns place turn other got apart (k, within, at) =
    let there : place < length turns = slice_get_within turns place turn got in
    let size : length (remove turns place) + 1 ≡ length turns = length-remove turns place there in
    elim (cases_lt k place) as (λ _. Contains (remove turns place) other) [
      | inl below ↦ (k, omega arith, get_or-remove_below turns place other k below there ∙ at)
      | inr from ↦ elim (cases_eq k place) as (λ _. Contains (remove turns place) other) [
        | inl same ↦
            (let here : get_or turns place other ≡ turn = get_or_from_slice_get turns place turn other got in
            let is : turn ≡ other = sym here ∙ ap (λ n. get_or turns n other) (sym same) ∙ at in
            absurd (apart (ap (λ (t : Turn). t.stream) (sym is))))
        | inr past ↦
            (let next : k - 1 + 1 ≡ k = omega arith in
            (k - 1, omega arith, get_or-remove_above turns place other (k - 1) (omega arith) there ∙ ap (λ n. get_or turns n other) next ∙ at))
      ]
    ]

-- ---- a packet has gone
-- its queue has no other
pub PassesTurn-last : (turns : List Turn) (place : ℕ) (turn : Turn) → IsTurnOrder turns → slice_get turns place ≡ Some turn → PassesTurn place None turns (remove turns place)
PassesTurn-last turns place turn order got = record {
  turn = turn;
  turn_is = got;
  added = λ packet e. cc;
  kept = λ other apart has. remove-keeps turns place turn other got apart has;
  each = λ other has. inr (remove-others turns place turn other order got has);
}

-- the next of its queue is due at another time
pub PassesTurn-later : (turns news : List Turn) (place : ℕ) (turn : Turn) (packet : QueuedPacket) → IsTurnOrder turns → slice_get turns place ≡ Some turn
    → AddsTurn (turn_of turn.stream packet) (remove turns place) news → PassesTurn place (Some packet) turns news
PassesTurn-later turns news place turn packet order got adds = record {
  turn = turn;
  turn_is = got;
  added = λ packet' e. subst (λ (p : QueuedPacket). Contains news (turn_of turn.stream p)) (same_Some packet packet' e) adds.added;
  kept = λ other apart has. adds.kept other (remove-keeps turns place turn other got apart has);
  each = λ other has. elim (adds.each other has) as (λ _. ((p : QueuedPacket) × (Some packet ≡ Some p) × (other ≡ turn_of turn.stream p)) ⊎ ((other.stream ≡ turn.stream → ⊥) × Contains turns other)) [
    | inl is ↦ inl (packet, refl, is)
    | inr old ↦ inr (remove-others turns place turn other order got old)
  ];
}

-- the next of its queue is due at the same time
pub PassesTurn-same : (turns : List Turn) (place : ℕ) (turn : Turn) (packet : QueuedPacket) → IsTurnOrder turns → slice_get turns place ≡ Some turn → packet.due ≡ turn.due
    → PassesTurn place (Some packet) turns turns
PassesTurn-same turns place turn packet order got due =
    let there : place < length turns = slice_get_within turns place turn got in
    let is : turn_of turn.stream packet ≡ turn = ap (λ n. record { due = n; stream = turn.stream }) due in
    record {
      turn = turn;
      turn_is = got;
      added = λ packet' e. subst (λ (p : QueuedPacket). Contains turns (turn_of turn.stream p)) (same_Some packet packet' e)
          (place, there, get_or_from_slice_get turns place turn (turn_of turn.stream packet) got ∙ sym is);
      kept = λ other apart has. has;
      each = λ other (k, within, at). elim (cases_eq k place) as
          (λ _. ((p : QueuedPacket) × (Some packet ≡ Some p) × (other ≡ turn_of turn.stream p))
          ⊎ ((other.stream ≡ turn.stream → ⊥) × Contains turns other)) [
            | inl same ↦ inl (packet, refl, sym at ∙ ap (λ n. get_or turns n other) same ∙ get_or_from_slice_get turns place turn other got ∙ sym is)
            | inr apart ↦ inr (apart_at turns place k turn other order got within at apart, (k, within, at))
          ];
    }
  where
    apart_at : (turns : List Turn) (place k : ℕ) (turn other : Turn) → IsTurnOrder turns → slice_get turns place ≡ Some turn → k < length turns
        → get_or turns k other ≡ other → (k ≡ place → ⊥)
        → other.stream ≡ turn.stream → ⊥
    apart_at turns place k turn other order got within at apart =
        let there : place < length turns = slice_get_within turns place turn got in
        let here : get_or turns place other ≡ turn = get_or_from_slice_get turns place turn other got in
        elim (cases_lt k place) as (λ _. other.stream ≡ turn.stream → ⊥) [
          | inl below ↦ subst₂ (λ (t u : Turn). t.stream ≡ u.stream → ⊥) at here (order.apart k place other below there)
          | inr from ↦ λ e. subst₂ (λ (t u : Turn). t.stream ≡ u.stream → ⊥) here at (order.apart place k other (omega arith) within) (sym e)
        ]

-- the turn that is read at a place of a list that is known under another name
pub turn_at : (read turns : List Turn) (place : ℕ) (d : Turn) → read ≡ turns → place < length turns → slice_get turns place ≡ Some (get_or read place d)
turn_at read turns place d same within =
    slice_get-get_or turns place d within ∙ ap (λ (list : List Turn). Some (get_or list place d)) (sym same)

-- ---- the turns of more queues
-- a turn of the first queues is one of a longer front
IsTurn-longer : (states : List QueueState) (n : ℕ) (turn : Turn) → IsTurn (take n states) turn → IsTurn (take (n + 1) states) turn
IsTurn-longer states n turn is = record {
  state = is.state;
  packet = is.packet;
  there = (let at = slice_get_of_front n states turn.stream is.state is.there in slice_get-take (n + 1) states turn.stream (omega (arith, at.0)) ∙ at.1);
  head = is.head;
  due = is.due;
}

-- one more queue, which has a head packet
pub AreTurns-more : (states : List QueueState) (n : ℕ) (d : QueueState) (packet : QueuedPacket) (olds news : List Turn) → n < length states → (get_or states n d).head ≡ Some packet
    → AreTurns (take n states) olds → IsTurnOrder news → AddsTurn (turn_of n packet) olds news → AreTurns (take (n + 1) states) news
AreTurns-more states n d packet olds news within head are order adds =
    let here : slice_get states n ≡ Some (get_or states n d) = slice_get-get_or states n d within in
    record {
      order = order;
      each = λ k e inside. elim (adds.each (get_or news k e) (Contains-get_or news k e inside)) as (λ _. IsTurn (take (n + 1) states) (get_or news k e)) [
        | inl own ↦ subst (λ (t : Turn). IsTurn (take (n + 1) states) t) (sym own)
            (record { state = get_or states n d; packet = packet; there = slice_get-take (n + 1) states n (omega arith) ∙ here; head = head; due = refl })
        | inr old ↦ IsTurn-longer states n (get_or news k e) (All-contains (IsTurn (take n states)) olds (get_or news k e) are.each old)
      ];
      all = λ stream state packet' there head'. elim (front_cases n states (get_or states n d) stream state here there) as (λ _. Contains news (turn_of stream packet')) [
        | inl before ↦ adds.kept (turn_of stream packet') (are.all stream state packet' before head')
        | inr last ↦
            (let same : packet ≡ packet' = same_Some packet packet' (sym head ∙ ap (λ (s : QueueState). s.head) (sym last.1) ∙ head') in
            subst₂ (λ (s : ℕ) (p : QueuedPacket). Contains news (turn_of s p)) (sym last.0) same adds.added)
      ];
    }

-- one more queue, which has none
pub AreTurns-without : (states : List QueueState) (n : ℕ) (d : QueueState) (turns : List Turn) → n < length states
    → ((packet : QueuedPacket) → (get_or states n d).head ≡ Some packet → ⊥)
    → AreTurns (take n states) turns → AreTurns (take (n + 1) states) turns
AreTurns-without states n d turns within none are =
    let here : slice_get states n ≡ Some (get_or states n d) = slice_get-get_or states n d within in
    record {
      order = are.order;
      each = λ k e inside. IsTurn-longer states n (get_or turns k e) (are.each k e inside);
      all = λ stream state packet' there head'. elim (front_cases n states (get_or states n d) stream state here there) as (λ _. Contains turns (turn_of stream packet')) [
        | inl before ↦ are.all stream state packet' before head'
        | inr last ↦ absurd (none packet' (ap (λ (s : QueueState). s.head) (sym last.1) ∙ head'))
      ];
    }

-- ---- a packet has gone
-- the turns after the packet of one queue has gone, and nothing else has changed
pub AreTurns-passed : (olds news : List QueueState) (place stream : ℕ) (old new : QueueState) (packet : QueuedPacket) (turns turns' : List Turn) → AreTurns olds turns
    → slice_get turns place ≡ Some (turn_of stream packet) → slice_get news stream ≡ Some new
    → ((other : ℕ) → (other ≡ stream → ⊥) → slice_get news other ≡ slice_get olds other)
    → IsTurnOrder turns' → PassesTurn place new.head turns turns' → AreTurns news turns'
AreTurns-passed olds news place stream old new packet turns turns' are at there others order passes =
    let turn_is : passes.turn ≡ turn_of stream packet = same_Some _ _ (sym passes.turn_is ∙ at) in
    let stream_is : passes.turn.stream ≡ stream = ap (λ (t : Turn). t.stream) turn_is in
    record {
      order = order;
      each = λ k d within. elim (passes.each (get_or turns' k d) (Contains-get_or turns' k d within)) as (λ _. IsTurn news (get_or turns' k d)) [
        | inl own ↦ subst (λ (t : Turn). IsTurn news t) (sym own.2)
            (record { state = new; packet = own.0; there = ap (λ n. slice_get news n) stream_is ∙ there; head = own.1; due = refl })
        | inr old_one ↦
            (let is = All-contains (IsTurn olds) turns (get_or turns' k d) are.each old_one.1 in
            record {
              state = is.state;
              packet = is.packet;
              there = others (get_or turns' k d).stream (λ e. old_one.0 (e ∙ sym stream_is)) ∙ is.there;
              head = is.head;
              due = is.due;
            })
      ];
      all = λ other state packet' there' head'. elim (cases_eq other stream) as (λ _. Contains turns' (turn_of other packet')) [
        | inl own ↦
            (let state_is : new ≡ state = same_Some new state (sym there ∙ ap (λ n. slice_get news n) (sym own) ∙ there') in
            let next : new.head ≡ Some packet' = ap (λ (s : QueueState). s.head) state_is ∙ head' in
            subst (λ n. Contains turns' (turn_of n packet')) (stream_is ∙ sym own) (passes.added packet' next))
        | inr apart ↦ passes.kept (turn_of other packet') (λ e. apart (e ∙ stream_is)) (are.all other state packet' (sym (others other apart) ∙ there') head')
      ];
    }

-- ---- the first turn of those that pass a test
-- the packets of the turns before this place don't pass
abbrev pub NonePass : (P : QueueState → QueuedPacket → Type 0) → List QueueState → List Turn → (place : ℕ) → Type 0
NonePass P states turns place =
    (k : ℕ) (turn : Turn) (state : QueueState) (packet : QueuedPacket) → k < place → slice_get turns k ≡ Some turn → slice_get states turn.stream ≡ Some state → state.head ≡ Some packet
    → P state packet → ⊥

pub IsFirst-at : (P : QueueState → QueuedPacket → Type 0) (states : List QueueState) (turns : List Turn) (place : ℕ) (turn : Turn) (state : QueueState) (packet : QueuedPacket)
    → AreTurns states turns → slice_get turns place ≡ Some turn → slice_get states turn.stream ≡ Some state → state.head ≡ Some packet
    → P state packet → NonePass P states turns place
    → IsFirst P states turn.stream packet
IsFirst-at P states turns place turn state packet are at there head passes none = record {
  state = state;
  there = there;
  head = head;
  passes = passes;
  first = λ other state' packet' there' head' passes'.
      let found = are.all other state' packet' there' head' in
      let got : slice_get turns found.0 ≡ Some (turn_of other packet') = slice_get-get_or turns found.0 (turn_of other packet') found.1 ∙ ap (λ (t : Turn). Some t) found.2 in
      let within : place < length turns = slice_get_within turns place turn at in
      let here : get_or turns place turn ≡ turn = get_or_from_slice_get turns place turn turn at in
      elim (cases_lt found.0 place) as (λ _. (other ≡ turn.stream) ⊎ IsDueBefore turn.stream packet other packet') [
        | inl before ↦ absurd (none found.0 (turn_of other packet') state' packet' before got there' head' passes')
        | inr from ↦ elim (cases_eq found.0 place) as (λ _. (other ≡ turn.stream) ⊎ IsDueBefore turn.stream packet other packet') [
          | inl same ↦ inl (ap (λ (t : Turn). t.stream) (same_Some (turn_of other packet') turn (sym got ∙ ap (λ n. slice_get turns n) same ∙ at)))
          | inr apart ↦
              (let is = subst (λ (t : Turn). IsTurn states t) here (are.each place turn within) in
              let state_is : is.state ≡ state = same_Some is.state state (sym is.there ∙ there) in
              let packet_is : is.packet ≡ packet = same_Some is.packet packet (sym is.head ∙ ap (λ (s : QueueState). s.head) state_is ∙ head) in
              let due : turn.due ≡ packet.due = is.due ∙ ap (λ (p : QueuedPacket). p.due) packet_is in
              let later : get_or turns found.0 turn ≡ turn_of other packet' = get_or_default turns found.0 turn (turn_of other packet') found.1 ∙ found.2 in
              let before : GoesBefore turn (turn_of other packet') = subst₂ GoesBefore here later (are.order.sorted place found.0 turn (omega arith) found.1) in
              inr (before_is turn packet other packet' due before))
        ]
      ];
}
  where
    before_is : (turn : Turn) (packet : QueuedPacket) (other : ℕ) (packet' : QueuedPacket) → turn.due ≡ packet.due
        → GoesBefore turn (turn_of other packet') → IsDueBefore turn.stream packet other packet'
    before_is turn packet other packet' due (inl less) = inl (omega arith)
    before_is turn packet other packet' due (inr same) = inr (sym due ∙ same.0, same.1)

-- no packet of any queue passes
pub IsFirstHead-none : (P : QueueState → QueuedPacket → Type 0) (states : List QueueState) (turns : List Turn) (place : ℕ) → AreTurns states turns → NonePass P states turns place
    → length turns ≤ place → IsFirstHead P states None
IsFirstHead-none P states turns place are none all stream state packet there head passes =
    let found = are.all stream state packet there head in
    let got : slice_get turns found.0 ≡ Some (turn_of stream packet) = slice_get-get_or turns found.0 (turn_of stream packet) found.1 ∙ ap (λ (t : Turn). Some t) found.2 in
    none found.0 (turn_of stream packet) state packet (omega (arith, found.1)) got there head passes

-- one more turn whose packet doesn't pass
pub NonePass-more : (P : QueueState → QueuedPacket → Type 0) (states : List QueueState) (turns : List Turn) (place : ℕ) (turn : Turn)
    → NonePass P states turns place → slice_get turns place ≡ Some turn
    → ((state : QueueState) (packet : QueuedPacket) → slice_get states turn.stream ≡ Some state → state.head ≡ Some packet → P state packet → ⊥)
    → NonePass P states turns (place + 1)
NonePass-more P states turns place turn none at fails k turn' state packet below got there head passes =
    elim (cases_eq k place) as (λ _. ⊥) [
      | inl same ↦
          (let turn_is : turn' ≡ turn = same_Some turn' turn (sym got ∙ ap (λ n. slice_get turns n) same ∙ at) in
          fails state packet (ap (λ (t : Turn). slice_get states t.stream) (sym turn_is) ∙ there) head passes)
      | inr apart ↦ none k turn' state packet (omega arith) got there head passes
    ]

-- ---- turns as a loop reads them
-- the state of the queue of a turn
pub state_of_turn : (states : List QueueState) (turns : List Turn) (place : ℕ) (d : Turn) (e : QueueState) → AreTurns states turns → place < length turns
    → ((get_or turns place d).stream < length states) × (slice_get states (get_or turns place d).stream ≡ Some (get_or states (get_or turns place d).stream e))
state_of_turn states turns place d e are within =
    let is = are.each place d within in
    let inside : (get_or turns place d).stream < length states = slice_get_within states (get_or turns place d).stream is.state is.there in
    (inside, slice_get-get_or states (get_or turns place d).stream e inside)

-- the packet of a turn passes
pub IsFirst-read : (P : QueueState → QueuedPacket → Type 0) (states : List QueueState) (turns : List Turn) (place : ℕ) (d : Turn) (e : QueueState) (packet : QueuedPacket)
    → AreTurns states turns
    → place < length turns → NonePass P states turns place → IsOffer P (get_or states (get_or turns place d).stream e) (Some packet)
    → IsFirst P states (get_or turns place d).stream packet × (slice_get turns place ≡ Some (turn_of (get_or turns place d).stream packet))
IsFirst-read P states turns place d e packet are within none offer =
    let turn = get_or turns place d in
    let at : slice_get turns place ≡ Some (get_or turns place d) = slice_get-get_or turns place d within in
    let there = (state_of_turn states turns place d e are within).1 in
    let is = are.each place d within in
    let state_is : is.state ≡ get_or states (get_or turns place d).stream e = same_Some _ _ (sym is.there ∙ there) in
    let packet_is : is.packet ≡ packet = same_Some _ _ (sym is.head ∙ ap (λ (s : QueueState). s.head) state_is ∙ offer.0) in
    let due : (get_or turns place d).due ≡ packet.due = is.due ∙ ap (λ (p : QueuedPacket). p.due) packet_is in (
      IsFirst-at P states turns place (get_or turns place d) (get_or states (get_or turns place d).stream e) packet are at there offer.0 offer.1 none,
      at ∙ ap (λ n. Some (record { due = n; stream = (get_or turns place d).stream })) due,
    )

-- the packet of a turn doesn't pass
pub NonePass-read : (P : QueueState → QueuedPacket → Type 0) (states : List QueueState) (turns : List Turn) (place : ℕ) (d : Turn) (e : QueueState)
    → AreTurns states turns → place < length turns
    → NonePass P states turns place → IsOffer P (get_or states (get_or turns place d).stream e) None → NonePass P states turns (place + 1)
NonePass-read P states turns place d e are within none offer =
    NonePass-more P states turns place (get_or turns place d) none (slice_get-get_or turns place d within)
    (λ state packet there head passes.
    let is : state ≡ get_or states (get_or turns place d).stream e = same_Some _ _ (sym there ∙ (state_of_turn states turns place d e are within).1) in
    offer packet (ap (λ (s : QueueState). s.head) (sym is) ∙ head) (subst (λ (s : QueueState). P s packet) is passes))

-- a turn's queue has a head packet
pub head_of_turn : (states : List QueueState) (turns : List Turn) (place : ℕ) (d : Turn) (e : QueueState) → AreTurns states turns → place < length turns
    → (get_or states (get_or turns place d).stream e).head ≡ None → ⊥
head_of_turn states turns place d e are within none =
    let is = are.each place d within in
    let state_is : is.state ≡ get_or states (get_or turns place d).stream e = same_Some _ _ (sym is.there ∙ (state_of_turn states turns place d e are within).1) in
    none-some is.packet (sym none ∙ ap (λ (s : QueueState). s.head) (sym state_is) ∙ is.head)

-- ---- changes that leave the head packets
pub AreTurns-kept : (R : QueueState → QueueState → Type 0) (olds news : List QueueState) (turns : List Turn) → ChangesEach R olds news
    → ((old new : QueueState) → R old new → new.head ≡ old.head) → AreTurns olds turns → AreTurns news turns
AreTurns-kept R olds news turns changes same are = record {
  order = are.order;
  each = λ k d within.
      let is = are.each k d within in
      let stream = (get_or turns k d).stream in
      let inside : stream < length news = omega (arith, slice_get_within olds stream is.state is.there, changes.as_many) in
      let there : slice_get news stream ≡ Some (get_or news stream is.state) = slice_get-get_or news stream is.state inside in
      record {
        state = get_or news stream is.state;
        packet = is.packet;
        there = there;
        head = same is.state (get_or news stream is.state) (changes.each stream is.state (get_or news stream is.state) is.there there) ∙ is.head;
        due = is.due;
      };
  all = λ stream state packet there head.
      let before = state_before R olds news stream state changes there in
      are.all stream before.0 packet before.1 (sym (same before.0 state before.2) ∙ head);
}

pub NoneGoneBefore-kept : (R : QueueState → QueueState → Type 0) (olds news : List QueueState) (time : ℕ) → ChangesEach R olds news
    → ((old new : QueueState) → R old new → HoldsUntil time old → HoldsUntil time new) → NoneGoneBefore olds time → NoneGoneBefore news time
NoneGoneBefore-kept R olds news time changes keeps none stream state there =
    let before = state_before R olds news stream state changes there in
    keeps before.0 state before.2 (none stream before.0 before.1)

-- a list that is written back whole
pub refill_all : {X : Type 0} (n : ℕ) (xs ws : List X) → length ws ≡ n → refill n xs ws ≡ ws
refill_all n xs ws size = ap (λ k. take k (ws ++ drop (length ws) xs)) (sym size) ∙ take-append_seam ws (drop (length ws) xs)
