-- The states after so many slots are placed, ready, and far from the limits of their types.
use Rattle.std.proofs.Common.{◌≡◌, ℕ, ◌^◌, ◌<◌, ◌≤◌, All, List, length, get_or, slice_get, Some, sym, ap, ◌∙◌, ◌*◌, le_trans, mul-le-mul_left, mul-le-mul_right, arith}
use Rattle.std.proofs.lemmas.List.{length-map}
use Rattle.std.proofs.lemmas.List.Elements.{All-weaker}
use Rattle.std.proofs.lemmas.List.Sums.{count_by-le-length}
use Rattle.std.proofs.lemmas.Option.{slice_get-get_or}
use Rattle.version_table.specs.declared.limits.TheConstants.{SLOT_MOST, TIME_SLOTS_MOST}
use Rattle.version_table.specs.declared.table.Table.{Table}
use Rattle.version_table.specs.Table.{IsValidTable}
use Rattle.version_table.specs.Choice.{Fits}
use Rattle.stream_constants.specs.declared.packets.TheConstants.{PAYLOAD_BYTES}
use Rattle.slot_rule.specs.declared.queue_state.QueueState.{QueueState}
use Rattle.slot_rule.specs.Buffers.{Row, is_of}
use Rattle.slot_rule.specs.Private.Slots.{HasRun, IsDueSoon}
use Rattle.slot_rule.specs.Private.States.{IsPlaced, queue_of}
use Rattle.slot_rule.specs.Private.QueueState.{IsNumbered, IsReady, IsSmall}
use Rattle.slot_rule.specs.Queues.{QueuedPacket, Queue, queues_of}
use Rattle.slot_rule.proofs.Places.{All-at_place}
use Rattle.slot_rule.proofs.RuleSent.{held-le}
use Rattle.slot_rule.proofs.RuleQueues.{IsLimited, IsValidStream, IsValidStream-at, FollowRule-payloads, queues_of-few}
use Rattle.slot_rule.proofs.RuleWork.{tb_work-bound, mb_work-bound}
use Rattle.slot_rule.proofs.TrackLaws.{stream_there}

module _ (table : Table) (choice : List ℕ) (valid : IsValidTable table) (fits : Fits table choice) (rows : List Row) (states : List QueueState)
    (run : HasRun table choice rows states) (few : length rows ≤ TIME_SLOTS_MOST) where
  pub states_few : length states < 2 ^ 32
  states_few =
      let many : length states ≡ length (queues_of table choice) = sym (length-map states (queue_of table choice)) ∙ ap (λ (s : List Queue). length s) run.queues in
      omega (arith, queues_of-few table choice valid)

  limited : (stream : ℕ) (state : QueueState) → slice_get states stream ≡ Some state → All (IsLimited table.slot) (queue_of table choice state).packets
  limited stream state there =
      let stream_valid : IsValidStream table.slot (queue_of table choice state) = IsValidStream-at table choice stream
      (queue_of table choice state) valid fits (stream_there table choice states run.queues stream state there) in
      stream_valid.each

  head_limited : (stream : ℕ) (state : QueueState) (packet : QueuedPacket) → slice_get states stream ≡ Some state → state.head ≡ Some packet → IsLimited table.slot packet
  head_limited stream state packet there head =
      All-at_place (IsLimited table.slot) (queue_of table choice state).packets (limited stream state there) state.sent packet (sym (run.tracks stream state there).keeps.head ∙ head)

  state_small : (stream : ℕ) (state : QueueState) → slice_get states stream ≡ Some state → IsSmall state
  state_small stream state there =
      let tracks = run.tracks stream state there in
      let packets = (queue_of table choice state).packets in
      let tb = tb_work-bound table.slot stream state.kind rows in
      let mb = mb_work-bound table.slot stream rows (FollowRule-payloads table choice stream rows valid fits run.follows) in
      let sent : state.sent ≤ length rows = omega (arith, tracks.sent, count_by-le-length (is_of stream) rows) in
      let payloads : All (λ packet. packet.payload ≤ PAYLOAD_BYTES) packets = All-weaker (IsLimited table.slot)
      (λ packet. packet.payload ≤ PAYLOAD_BYTES) (λ packet h. h.payload) packets (limited stream state there) in
      let ends : length rows * table.slot ≤ TIME_SLOTS_MOST * SLOT_MOST = le_trans (mul-le-mul_right table.slot few) (mul-le-mul_left TIME_SLOTS_MOST valid.slot_most) in
      let held = held-le state.gone state.sent PAYLOAD_BYTES packets payloads in
      record {
        tb = omega (arith, tracks.tb, ends);
        mb = omega (arith, tracks.mb, ends);
        sent = omega arith;
        held = omega (arith, tracks.keeps.held);
      }

  state_ready : (stream : ℕ) (state : QueueState) → slice_get states stream ≡ Some state → IsReady state
  state_ready stream state there = record {
    small = state_small stream state there;
    kind = (run.tracks stream state there).sized;
    payload = λ packet head. (head_limited stream state packet there head).payload;
    gone = λ packet head. let limits = head_limited stream state packet there head in omega (arith, limits.gone, mul-le-mul_left TIME_SLOTS_MOST valid.slot_most);
  }

  state_placed : (stream : ℕ) (state : QueueState) → slice_get states stream ≡ Some state → IsPlaced table choice state
  state_placed stream state there =
      let tracks = run.tracks stream state there in
      record {
        place = tracks.place;
        numbered = All-weaker (IsLimited table.slot) IsNumbered (λ packet h. record { item = h.item; piece = h.piece; payload = h.payload })
            (queue_of table choice state).packets (limited stream state there);
        keeps = tracks.keeps;
      }

  state_soon : (stream : ℕ) (state : QueueState) → slice_get states stream ≡ Some state → IsDueSoon state
  state_soon stream state there = record {
    small = state_small stream state there;
    due = λ packet head. let limits = head_limited stream state packet there head in omega (arith, limits.due, limits.gone, valid.slot_most, mul-le-mul_left TIME_SLOTS_MOST valid.slot_most);
  }

  -- what holds of each state by its number holds of each
  all_states : (P : QueueState → Type 0) → ((stream : ℕ) (state : QueueState) → slice_get states stream ≡ Some state → P state) → All P states
  all_states P each k d within = each k (get_or states k d) (slice_get-get_or states k d within)

  pub all_small : All IsSmall states
  all_small = all_states IsSmall state_small

  pub all_ready : All IsReady states
  all_ready = all_states IsReady state_ready

  pub all_placed : All (IsPlaced table choice) states
  all_placed = all_states (IsPlaced table choice) state_placed

  pub all_soon : All IsDueSoon states
  all_soon = all_states IsDueSoon state_soon
