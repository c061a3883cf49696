-- States that tell what rows left of the queues under one choice tell it under another whose packets are the same so far.
use Rattle.std.proofs.Common.{◌≡◌, ℕ, zero, suc, ◌<◌, ◌≤◌, List, [], ◌∷◌, ◌++◌, length, map, take, drop, count_by, sum_by, cond, slice_get, Some, refl, sym, ap, ap₂, ◌∙◌, inl, inr, arith}
use Rattle.std.proofs.lemmas.Bool.{cases_lt}
use Rattle.std.proofs.lemmas.Option.{none-some, same_Some, slice_get_within, slice_get_cases}
use Rattle.std.proofs.lemmas.List.Sums.{sum_by-append}
use Rattle.version_table.specs.declared.table.Table.{Table}
use Rattle.slot_rule.specs.declared.queue_items.QueueItems.{QueueItems}
use Rattle.slot_rule.specs.declared.queue_items.QueueItems.TheVariants.{Units, Packets}
use Rattle.slot_rule.specs.declared.queue_state.QueueState.{QueueState}
use Rattle.slot_rule.specs.Buffers.{Row, is_of}
use Rattle.slot_rule.specs.Queues.{QueueKind, QueuedPacket, Queue, queues_of}
use Rattle.slot_rule.specs.Private.QueueItems.{IsPlace, queue_at}
use Rattle.slot_rule.specs.Private.QueueState.{KeepsPlace, packets_at}
use Rattle.slot_rule.specs.Private.Slots.{HasRun}
use Rattle.slot_rule.specs.Private.States.{queue_of}
use Rattle.slot_rule.proofs.SameHeads.{FollowRule-same, SameHeads}
use Rattle.slot_rule.proofs.TrackLaws.{state_there, stream_there}

-- the queue of the state has the same packets under both choices, up to the first that isn't sent
abbrev pub SameSoFar : Table → (choice choice' : List ℕ) → QueueState → Type 0
SameSoFar table choice choice' state =
    (k : ℕ) → k ≤ state.sent → slice_get (packets_at table choice' state.items) k ≡ slice_get (packets_at table choice state.items) k

-- the kind of a queue doesn't depend on the choice
kind_same : (table : Table) (choice choice' : List ℕ) (items : QueueItems) → (queue_at table choice' items).kind ≡ (queue_at table choice items).kind
kind_same table choice choice' (Units program first) = refl
kind_same table choice choice' (Packets program audio) = refl

-- lists with the same elements up to a place have the same front
take_same : {X : Type 0} (n : ℕ) (xs ys : List X) → ((k : ℕ) → k < n → slice_get ys k ≡ slice_get xs k) → take n ys ≡ take n xs
take_same zero xs ys same = refl
take_same (suc n) [] [] same = refl
take_same (suc n) (x ∷ xs) [] same = absurd (none-some x (same 0 (omega arith)))
take_same (suc n) [] (y ∷ ys) same = absurd (none-some y (sym (same 0 (omega arith))))
take_same (suc n) (x ∷ xs) (y ∷ ys) same =
    ap₂ ◌∷◌ (same_Some y x (same 0 (omega arith))) (take_same n xs ys (λ k below. same (suc k) (omega arith)))

-- a list with the same elements up to a place is as long
long_enough : {X : Type 0} (n : ℕ) (xs ys : List X) → n ≤ length xs → ((k : ℕ) → k < n → slice_get ys k ≡ slice_get xs k) → n ≤ length ys
long_enough n xs ys long same =
    elim (cases_lt (length ys) n) as (λ _. n ≤ length ys) [
      | inl short ↦ elim (slice_get_cases xs (length ys)).1 as (λ _. n ≤ length ys) [
        | inl at ↦ (let within : length ys < length ys = slice_get_within ys (length ys) at.0 (same (length ys) short ∙ at.2) in absurd (omega arith))
        | inr past ↦ (let end = past.0 in absurd (omega arith))
      ]
      | inr fits ↦ fits
    ]

KeepsPlace-same : (packets packets' : List QueuedPacket) (state : QueueState) → ((k : ℕ) → k ≤ state.sent → slice_get packets' k ≡ slice_get packets k) → KeepsPlace packets state
    → KeepsPlace packets' state
KeepsPlace-same packets packets' state same keeps =
    let order = keeps.order in
    record {
      within = long_enough state.sent packets packets' keeps.within (λ k below. same k (omega arith));
      head = keeps.head ∙ sym (same state.sent (omega arith));
      order = keeps.order;
      oldest = keeps.oldest ∙ sym (same state.gone order);
      held = keeps.held ∙ ap (λ (list : List QueuedPacket). sum_by (λ packet. packet.payload) (drop state.gone list)) (sym (take_same state.sent packets packets' (λ k below. same k (omega arith))));
    }

count-front : (stream : ℕ) (before after : List Row) → count_by (is_of stream) before ≤ count_by (is_of stream) (before ++ after)
count-front stream before after = (let total = sum_by-append (λ r. cond (is_of stream r) 1 0) before after in omega arith)

module _ (table : Table) (choice choice' : List ℕ) (rows : List Row) (states : List QueueState) (run : HasRun table choice rows states)
    (queues' : map (queue_of table choice') states ≡ queues_of table choice')
    (same : (stream : ℕ) (state : QueueState) → slice_get states stream ≡ Some state → SameSoFar table choice choice' state) where
  -- the packet of a queue after a front of the rows
  at_front : (before after : List Row) (stream : ℕ) (state : QueueState) → slice_get states stream ≡ Some state → rows ≡ before ++ after
      → slice_get (packets_at table choice' state.items) (count_by (is_of stream) before) ≡ slice_get (packets_at table choice state.items) (count_by (is_of stream) before)
  at_front before after stream state there e =
      same stream state there (count_by (is_of stream) before)
      (omega (arith, count-front stream before after, ap (λ (list : List Row). count_by (is_of stream) list) e, (run.tracks stream state there).sent))

  pub heads_same : SameHeads (queues_of table choice) (queues_of table choice') rows
  heads_same = record {
    to = λ before after stream kind packet e head.
        let found = state_there table choice states run.queues stream (record { kind = kind; packets = head.0 }) head.1 in
        let kind_is : (queue_of table choice' found.0).kind ≡ kind = kind_same table choice choice' found.0.items ∙ ap (λ (q : Queue). q.kind) found.2 in (
          packets_at table choice' found.0.items,
          stream_there table choice' states queues' stream found.0 found.1 ∙ ap (λ (k : QueueKind). Some (record { kind = k; packets = packets_at table choice' found.0.items })) kind_is,
          at_front before after stream found.0 found.1 e ∙ ap (λ (q : Queue). slice_get q.packets (count_by (is_of stream) before)) found.2 ∙ head.2,
        );
    from = λ before after stream kind packet e head.
        let found = state_there table choice' states queues' stream (record { kind = kind; packets = head.0 }) head.1 in
        let kind_is : (queue_of table choice found.0).kind ≡ kind = sym (kind_same table choice choice' found.0.items) ∙ ap (λ (q : Queue). q.kind) found.2 in (
          packets_at table choice found.0.items,
          stream_there table choice states run.queues stream found.0 found.1 ∙ ap (λ (k : QueueKind). Some (record { kind = k; packets = packets_at table choice found.0.items })) kind_is,
          sym (at_front before after stream found.0 found.1 e) ∙ ap (λ (q : Queue). slice_get q.packets (count_by (is_of stream) before)) found.2 ∙ head.2,
        );
  }

  -- what the states tell under the one choice they tell under the other
  pub HasRun-same : ((stream : ℕ) (state : QueueState) → slice_get states stream ≡ Some state → IsPlace table choice' state.items) → HasRun table choice' rows states
  HasRun-same places = record {
    follows = FollowRule-same table choice choice' rows heads_same run.follows;
    queues = queues';
    places = run.places;
    tracks = λ stream state there.
        let tracks = run.tracks stream state there in
        let order = tracks.keeps.order in
        record {
          place = places stream state there;
          sized = tracks.sized;
          kind = tracks.kind ∙ sym (kind_same table choice choice' state.items);
          keeps = KeepsPlace-same (packets_at table choice state.items) (packets_at table choice' state.items) state (same stream state there) tracks.keeps;
          sent = tracks.sent;
          gone = λ k packet is got. tracks.gone k packet is (sym (same stream state there k (omega arith)) ∙ got);
          tb = tracks.tb;
          mb = tracks.mb;
        };
  }
