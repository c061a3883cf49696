-- What the state of a stream tells of the rows before: its head packet, the gates, the bytes held.
use Rattle.std.proofs.Common.{◌≡◌, ℕ, ◌+◌, ◌-◌, ◌*◌, ◌≤◌, List, length, map, get_or, slice_get, count_by, Some, None, sym, ap, subst, ◌∙◌, inl, inr, arith}
use Rattle.std.specs.Option.{option_map}
use Rattle.std.proofs.lemmas.Option.{none-some, same_Some, slice_get-map, slice_get-get_or, slice_get_cases}
use Rattle.version_table.specs.declared.table.Table.{Table}
use Rattle.version_table.specs.Table.{IsValidTable}
use Rattle.version_table.specs.Choice.{Fits}
use Rattle.slot_rule.specs.declared.queue_state.QueueState.{QueueState}
use Rattle.slot_rule.specs.Buffers.{Row, is_of, outstanding, tb_gate, eb_or_b_bytes, MbPermits}
use Rattle.slot_rule.specs.Private.Heads.{IsFirst, IsFirstHead, PassesAt}
use Rattle.slot_rule.specs.Schedule.{Goes, IsHead, IsPermitted, NothingGoes}
use Rattle.slot_rule.specs.Private.Slots.{HasRun}
use Rattle.slot_rule.specs.Private.States.{queue_of}
use Rattle.slot_rule.specs.Private.QueueState.{HoldsNoneGone, Permits}
use Rattle.slot_rule.specs.Queues.{QueueKind, QueuedPacket, Queue, queues_of}
use Rattle.slot_rule.proofs.RuleSent.{outstanding-is}
use Rattle.slot_rule.proofs.RuleQueues.{IsValidStream, IsValidStream-at}

-- ---- the streams by their states
module _ (table : Table) (choice : List ℕ) (states : List QueueState) (queues : map (queue_of table choice) states ≡ queues_of table choice) where
  pub stream_there : (stream : ℕ) (state : QueueState) → slice_get states stream ≡ Some state → slice_get (queues_of table choice) stream ≡ Some (queue_of table choice state)
  stream_there stream state there =
      ap (λ (list : List Queue). slice_get list stream) (sym queues) ∙ slice_get-map (queue_of table choice) states stream ∙ ap (option_map (queue_of table choice)) there

  pub state_there : (stream : ℕ) (s : Queue) → slice_get (queues_of table choice) stream ≡ Some s
      → (state : QueueState) × (slice_get states stream ≡ Some state) × (queue_of table choice state ≡ s)
  state_there stream s there =
      let is : slice_get (queues_of table choice) stream ≡ option_map (queue_of table choice) (slice_get states stream) =
      ap (λ (list : List Queue). slice_get list stream) (sym queues) ∙ slice_get-map (queue_of table choice) states stream in
      elim (slice_get_cases states stream).1 as (λ _. (state : QueueState) × (slice_get states stream ≡ Some state) × (queue_of table choice state ≡ s)) [
        | inl at ↦ (at.0, at.2, same_Some (queue_of table choice at.0) s (sym (is ∙ ap (option_map (queue_of table choice)) at.2) ∙ there))
        | inr past ↦ absurd (none-some s (sym (is ∙ ap (option_map (queue_of table choice)) past.1) ∙ there))
      ]

-- the stream of a state, with the state's kind
stream_as : (table : Table) (choice : List ℕ) (state : QueueState) → state.kind ≡ (queue_of table choice state).kind
    → queue_of table choice state ≡ record { kind = state.kind; packets = (queue_of table choice state).packets }
stream_as table choice state kind = ap (λ (k : QueueKind). record { kind = k; packets = (queue_of table choice state).packets }) (sym kind)

-- ---- head packets
module _ (table : Table) (choice : List ℕ) (rows : List Row) (states : List QueueState) (run : HasRun table choice rows states) where
  pub head_from_state : (stream : ℕ) (state : QueueState) (packet : QueuedPacket) → slice_get states stream ≡ Some state → state.head ≡ Some packet
      → IsHead (queues_of table choice) rows stream state.kind packet
  head_from_state stream state packet there head =
      let tracks = run.tracks stream state there in
      let packets = (queue_of table choice state).packets in (
        packets,
        stream_there table choice states run.queues stream state there ∙ ap (λ (s : Queue). Some s) (stream_as table choice state tracks.kind),
        ap (λ k. slice_get packets k) (sym tracks.sent) ∙ sym tracks.keeps.head ∙ head,
      )

  pub state_from_head : (stream : ℕ) (kind : QueueKind) (packet : QueuedPacket) → IsHead (queues_of table choice) rows stream kind packet
      → (state : QueueState) × (slice_get states stream ≡ Some state) × (state.kind ≡ kind) × (state.head ≡ Some packet)
  state_from_head stream kind packet head =
      let found = state_there table choice states run.queues stream (record { kind = kind; packets = head.0 }) head.1 in
      let tracks = run.tracks stream found.0 found.1 in (
        found.0,
        found.1,
        tracks.kind ∙ ap (λ (s : Queue). s.kind) found.2,
        tracks.keeps.head ∙ ap (λ k. slice_get (queue_of table choice found.0).packets k) tracks.sent ∙ ap (λ (s : Queue). slice_get s.packets (count_by (is_of stream) rows)) found.2 ∙ head.2,
      )

-- ---- the gates, where no packet that is gone is among the bytes held
module _ (table : Table) (choice : List ℕ) (valid : IsValidTable table) (fits : Fits table choice) (rows : List Row) (states : List QueueState) (run : HasRun table choice rows states) where
  pub outstanding_held : (stream : ℕ) (state : QueueState) → slice_get states stream ≡ Some state
      → HoldsNoneGone (queue_of table choice state).packets (length rows * table.slot) state
      → outstanding stream (length rows * table.slot) rows ≡ state.held
  outstanding_held stream state there rest =
      let tracks = run.tracks stream state there in
      let packets = (queue_of table choice state).packets in
      let got = stream_there table choice states run.queues stream state there in
      let stream_valid : IsValidStream table.slot (queue_of table choice state) = IsValidStream-at table choice stream (queue_of table choice state) valid fits got in
      let d : QueuedPacket = record { item = 0; piece = 0; payload = 0; due = 0; gone = 0 } in
      let order = tracks.keeps.order in
      let within = tracks.keeps.within in
      outstanding-is table choice stream (queue_of table choice state).kind packets got stream_valid.gones rows run.follows (length rows * table.slot) state.gone state.sent d tracks.sent order
      (λ some. tracks.gone (state.gone - 1) (get_or packets (state.gone - 1) d) (omega arith) (slice_get-get_or packets (state.gone - 1) d (omega arith)))
      (λ fewer. rest (get_or packets state.gone d) fewer (slice_get-get_or packets state.gone d (omega arith)))
      ∙ sym tracks.keeps.held

  pub IsPermitted-from_state : (stream : ℕ) (state : QueueState) (packet : QueuedPacket) → slice_get states stream ≡ Some state
      → HoldsNoneGone (queue_of table choice state).packets (length rows * table.slot) state → Permits state packet (length rows * table.slot)
      → IsPermitted table.slot rows stream state.kind packet
  IsPermitted-from_state stream state packet there rest permits =
      let tracks = run.tracks stream state there in
      let held = outstanding_held stream state there rest in
      let eb_or_b : state.held + packet.payload ≤ eb_or_b_bytes state.kind = permits.eb_or_b in
      record {
        tb = subst (λ n. n ≤ tb_gate state.kind) tracks.tb permits.tb;
        mb = subst (λ n. MbPermits state.kind n) tracks.mb permits.mb;
        eb_or_b = subst (λ n. n + packet.payload ≤ eb_or_b_bytes state.kind) (sym held) eb_or_b;
        hold = permits.hold;
      }

  pub IsPermitted-to_state : (stream : ℕ) (state : QueueState) (packet : QueuedPacket) → slice_get states stream ≡ Some state
      → HoldsNoneGone (queue_of table choice state).packets (length rows * table.slot) state → IsPermitted table.slot rows stream state.kind packet
      → Permits state packet (length rows * table.slot)
  IsPermitted-to_state stream state packet there rest permitted =
      let tracks = run.tracks stream state there in
      let held = outstanding_held stream state there rest in
      record {
        tb = subst (λ n. n ≤ tb_gate state.kind) (sym tracks.tb) permitted.tb;
        mb = subst (λ n. MbPermits state.kind n) (sym tracks.mb) permitted.mb;
        eb_or_b = subst (λ n. n + packet.payload ≤ eb_or_b_bytes state.kind) held permitted.eb_or_b;
        hold = permitted.hold;
      }

-- no packet that is gone is among the bytes held of any stream
abbrev pub AllHoldNoneGone : Table → List ℕ → (start : ℕ) → List QueueState → Type 0
AllHoldNoneGone table choice start states =
    (stream : ℕ) (state : QueueState) → slice_get states stream ≡ Some state → HoldsNoneGone (queue_of table choice state).packets start state

-- ---- what goes in a free slot
module _ (table : Table) (choice : List ℕ) (valid : IsValidTable table) (fits : Fits table choice) (rows : List Row) (states : List QueueState)
    (run : HasRun table choice rows states) (rest : AllHoldNoneGone table choice (length rows * table.slot) states) where
  -- a head packet that is permitted by the definitions is by its stream's state
  passes : (stream : ℕ) (kind : QueueKind) (packet : QueuedPacket) → IsHead (queues_of table choice) rows stream kind packet → IsPermitted table.slot rows stream kind packet
      → (state : QueueState) × (slice_get states stream ≡ Some state) × (state.head ≡ Some packet) × Permits state packet (length rows * table.slot)
  passes stream kind packet head permitted =
      let found = state_from_head table choice rows states run stream kind packet head in (
        found.0,
        found.1,
        found.3,
        IsPermitted-to_state table choice valid fits rows states run stream found.0 packet found.1 (rest stream found.0 found.1)
            (subst (λ (k : QueueKind). IsPermitted table.slot rows stream k packet) (sym found.2) permitted),
      )

  pub Goes-from_first : (stream : ℕ) (packet : QueuedPacket) → IsFirst (PassesAt (length rows * table.slot)) states stream packet
      → Goes table.slot (queues_of table choice) rows stream packet
  Goes-from_first stream packet is = record {
    kind = is.state.kind;
    head = head_from_state table choice rows states run stream is.state packet is.there is.head;
    permitted = IsPermitted-from_state table choice valid fits rows states run stream is.state packet is.there (rest stream is.state is.there) is.passes;
    first = λ other kind' packet' head' permitted'. let at = passes other kind' packet' head' permitted' in is.first other at.0 packet' at.1 at.2 at.3;
  }

  pub NothingGoes-from_none : IsFirstHead (PassesAt (length rows * table.slot)) states None → NothingGoes table.slot (queues_of table choice) rows
  NothingGoes-from_none none stream kind packet head permitted = let at = passes stream kind packet head permitted in none stream at.0 packet at.1 at.2 at.3
