-- The packets of slots: their counters, and what they carry.
use Rattle.std.proofs.Common.{
  ◌≡◌,
  ◌≢◌,
  ℕ,
  zero,
  suc,
  ◌+◌,
  ◌-◌,
  ◌%◌,
  ◌<◌,
  ◌≤◌,
  ◌==◌,
  nat_lt,
  Bool,
  true,
  false,
  cond,
  ◌&&◌,
  List,
  [],
  ◌∷◌,
  All,
  length,
  get_or,
  map,
  filter,
  take,
  drop,
  Some,
  None,
  refl,
  sym,
  ap,
  ap₂,
  ◌∙◌,
  subst,
  arith,
}
use Rattle.std.specs.Prelude.{slice_index_or}
use Rattle.std.specs.List.{range_with_len}
use Rattle.std.proofs.lemmas.Bool.{and_parts, eqb-true, lt-ltb}
use Rattle.std.proofs.lemmas.List.{drop_more, get_or-map, take_more}
use Rattle.std.proofs.lemmas.List.Sums.{sum_by_push}
use Rattle.std.proofs.lemmas.List.Elements.{All-from_get_or, All-get_or}
use Rattle.std.proofs.lemmas.List.FromFn.{get_or-map-range_with_len, length-map-range_with_len, take-map-range_with_len}
use Rattle.bit_lists.specs.Payload.{Payload}
use Rattle.psi_tables.specs.declared.program_map.ProgramMap.{ProgramMap}
use Rattle.psi_tables.specs.Sections.{section_payload}
use Rattle.ts_packets.specs.Packet.{PacketRecord}
use Rattle.ts_packets.specs.Carried.{has_payload_on, is_discontinuous, payload_of, payloads_on}
use Rattle.slot_rule.specs.declared.sent.Sent.{Sent}
use Rattle.slot_rule.specs.declared.sent.Sent.TheVariants.{Null, Pat, Pmt, Pcr, Video, Audio}
use Rattle.mux_writer.specs.declared.layout.Layout.{Layout}
use Rattle.mux_writer.specs.Layout.{stream_pid}
use Rattle.mux_writer.specs.Output.{IsOfLayout, carries_payload, output_packets, packet_in, output_packet, payload_count, pid_of, piece_record, sent_in, stuffing_field}
use Rattle.mux_writer.specs.Pieces.{HasPayloadSize, IsPayload, Pieces}
use Rattle.mux_writer.specs.Tables.{pmt_payloads, pmt_section}
use Rattle.layer_laws.specs.Counted.{AreCounted, RiseByOne}
use Rattle.output_laws.specs.SentOn.{is_sent_on, payload_sent, payloads_sent_on, slots_between}
use Rattle.mux_writer.proofs.Pids.{no_map}

-- ---- one packet

-- the packet is what goes in the slot, its counter a count modulo 16
record IsSentAs (layout : Layout) (pieces : Pieces) (count : ℕ) (sent : Sent) (packet : PacketRecord) : Type 0 where
  pub pid : packet.pid ≡ pid_of layout sent
  pub some : nat_lt 0 (length packet.payload) ≡ carries_payload sent
  pub payload : payload_of packet ≡ payload_sent layout pieces sent
  pub counter : carries_payload sent ≡ true → pid_of layout sent ≢ 0x1FFF → packet.counter ≡ count % 16
  pub continuous : is_discontinuous packet ≡ false

piece-continuous : (pid counter : ℕ) (payload : Payload) → is_discontinuous (piece_record pid counter payload) ≡ false
piece-continuous pid counter payload = by_size (length payload.bytes == 184)
  where
    by_size : (full : Bool) → is_discontinuous (record { pid = pid; start = payload.start; counter = counter; field = cond full None (Some stuffing_field); payload = payload.bytes }) ≡ false
    by_size true = refl
    by_size false = refl

piece-sent : (layout : Layout) (pieces : Pieces) (count pid : ℕ) (payload : Payload) (sent : Sent) → HasPayloadSize (length payload.bytes) → pid ≡ pid_of layout sent
    → carries_payload sent ≡ true → payload ≡ payload_sent layout pieces sent → IsSentAs layout pieces count sent (piece_record pid (count % 16) payload)
piece-sent layout pieces count pid payload sent size same some is = record {
  pid = same;
  some = lt-ltb 0 (length payload.bytes) (omega (arith, size.some)) ∙ sym some;
  payload = is;
  counter = λ has other. refl;
  continuous = piece-continuous pid (count % 16) payload;
}

pmt-some : (layout : Layout) (program : ℕ) → program < length layout.maps.items → nat_lt 0 (length (slice_index_or (pmt_payloads layout) program [])) ≡ true
pmt-some layout program within =
    let is : slice_index_or (pmt_payloads layout) program [] ≡ section_payload (pmt_section (get_or layout.maps.items program no_map)) =
    get_or-map (λ (program_map : ProgramMap). section_payload (pmt_section program_map)) layout.maps.items program no_map [] within in
    lt-ltb 0 _ (omega (arith, ap length is))

packet-sent : (layout : Layout) (slot : ℕ) (pieces : Pieces) (count n : ℕ) (sent : Sent) → IsOfLayout layout (IsPayload pieces) sent
    → IsSentAs layout pieces count sent (output_packet layout slot pieces count n sent)
packet-sent layout slot pieces count n Null is = record { pid = refl; some = refl; payload = refl; counter = λ has other. absurd (other refl); continuous = refl }
packet-sent layout slot pieces count n Pat is = record { pid = refl; some = lt-ltb 0 _ (omega arith); payload = refl; counter = λ has other. refl; continuous = refl }
packet-sent layout slot pieces count n (Pmt program) is = record { pid = refl; some = pmt-some layout program is; payload = refl; counter = λ has other. refl; continuous = refl }
packet-sent layout slot pieces count n (Pcr program) is = record { pid = refl; some = refl; payload = refl; counter = λ has other. absurd (cc); continuous = refl }
packet-sent layout slot pieces count n (Video stream unit piece) is =
    piece-sent layout pieces count (stream_pid layout stream) (pieces stream unit piece) (Video stream unit piece) is.1 refl refl refl
packet-sent layout slot pieces count n (Audio stream packet) is =
    piece-sent layout pieces count (stream_pid layout stream) (pieces stream packet 0) (Audio stream packet) is.1 refl refl refl

-- it is on a PID where the slot sends payload there
sent-on : (layout : Layout) (pieces : Pieces) (pid count : ℕ) (sent : Sent) (packet : PacketRecord) → IsSentAs layout pieces count sent packet → has_payload_on pid packet ≡ is_sent_on layout pid sent
sent-on layout pieces pid count sent packet is =
    ap₂ (λ (k : ℕ) (some : Bool). (k == pid) && some) is.pid is.some ∙ turned (pid_of layout sent == pid) (carries_payload sent)
  where
    turned : (a b : Bool) → (a && b) ≡ (b && a)
    turned true true = refl
    turned true false = refl
    turned false true = refl
    turned false false = refl

-- ---- counters

abbrev CountedFrom : ℕ → List PacketRecord → Type 0
CountedFrom count [] = Unit {0}
CountedFrom count (packet ∷ packets) = (packet.counter ≡ count % 16) × CountedFrom (count + 1) packets

rises : (count : ℕ) (packets : List PacketRecord) → CountedFrom count packets → RiseByOne packets
rises count [] counted = tt
rises count (packet ∷ []) counted = tt
rises count (packet ∷ next ∷ packets) counted = (omega (arith, counted.0, counted.1.0), rises (count + 1) (next ∷ packets) counted.1)

one_more : (count after : ℕ) (packet : PacketRecord) (rest : List PacketRecord) (on : Bool) → (on ≡ true → packet.counter ≡ count % 16) → after ≡ count + cond on 1 0
    → CountedFrom after rest → CountedFrom count (cond on (packet ∷ rest) rest)
one_more count after packet rest true counter next others = (counter refl, subst (λ (n : ℕ). CountedFrom n rest) next others)
one_more count after packet rest false counter next others = subst (λ (n : ℕ). CountedFrom n rest) (let e : after ≡ count = omega (arith, next) in e) others

part_of_range : {X : Type 0} (f : ℕ → X) (k n from size : ℕ) → n + k ≤ size → take k (drop n (map f (range_with_len from size))) ≡ map f (range_with_len (from + n) k)
part_of_range f k zero from size within = take-map-range_with_len f from size k (omega arith) ∙ ap (λ (at : ℕ). map f (range_with_len at k)) (omega arith)
part_of_range f k (suc n) from zero within = absurd (omega arith)
part_of_range f k (suc n) from (suc size) within =
    part_of_range f k n (from + 1) size (omega arith) ∙ ap (λ (at : ℕ). map f (range_with_len at k)) (omega arith)

module _ (layout : Layout) (slot : ℕ) (pieces : Pieces) (rows : List Sent) (all : All (IsOfLayout layout (IsPayload pieces)) rows) where
  abbrev packet_at : ℕ → PacketRecord
  packet_at n = packet_in layout slot pieces rows n

  row_at : (n : ℕ) → n < length rows → IsSentAs layout pieces (payload_count layout (pid_of layout (sent_in rows n)) (take n rows)) (sent_in rows n) (packet_at n)
  row_at n within = packet-sent layout slot pieces _ n (sent_in rows n) (All-get_or (IsOfLayout layout (IsPayload pieces)) rows n Null within all)

  count-more : (pid n : ℕ) → n < length rows → payload_count layout pid (take (n + 1) rows) ≡ payload_count layout pid (take n rows) + cond (is_sent_on layout pid (sent_in rows n)) 1 0
  count-more pid n within =
      ap (payload_count layout pid) (take_more rows n Null within) ∙ sum_by_push (λ (sent : Sent). cond {A = ℕ} (is_sent_on layout pid sent) 1 0) (take n rows) (sent_in rows n)

  counter_on : (pid n : ℕ) → pid ≢ 0x1FFF → n < length rows → has_payload_on pid (packet_at n) ≡ true → (packet_at n).counter ≡ payload_count layout pid (take n rows) % 16
  counter_on pid n other within on =
      let is = row_at n within in
      let tests = and_parts (carries_payload (sent_in rows n)) (pid_of layout (sent_in rows n) == pid) (sym (sent-on layout pieces pid _ (sent_in rows n) (packet_at n) is) ∙ on) in
      let same : pid_of layout (sent_in rows n) ≡ pid = eqb-true (pid_of layout (sent_in rows n)) pid tests.1 in
      is.counter tests.0 (λ null. other (sym same ∙ null)) ∙ ap (λ (k : ℕ). payload_count layout k (take n rows) % 16) same

  counted-from : (pid k n : ℕ) → pid ≢ 0x1FFF → n + k ≤ length rows → CountedFrom (payload_count layout pid (take n rows)) (filter (has_payload_on pid) (map packet_at (range_with_len n k)))
  counted-from pid zero n other within = tt
  counted-from pid (suc k) n other within =
      let here : n < length rows = omega arith in
      let on : has_payload_on pid (packet_at n) ≡ is_sent_on layout pid (sent_in rows n) = sent-on layout pieces pid _ (sent_in rows n) (packet_at n) (row_at n here) in
      one_more (payload_count layout pid (take n rows)) (payload_count layout pid (take (n + 1) rows)) (packet_at n) (filter (has_payload_on pid) (map packet_at (range_with_len (n + 1) k)))
      (has_payload_on pid (packet_at n)) (counter_on pid n other here)
      (count-more pid n here ∙ ap (λ (sent : Bool). payload_count layout pid (take n rows) + cond sent 1 0) (sym on))
      (counted-from pid k (n + 1) other (omega arith))

  pub counted : (pid : ℕ) → pid ≢ 0x1FFF → AreCounted pid (output_packets layout slot pieces rows)
  counted pid other = record {
    counters = rises _ _ (counted-from pid (length rows) 0 other (omega arith));
    continuous =
        All-from_get_or (λ (packet : PacketRecord). is_discontinuous packet ≡ false) (output_packets layout slot pieces rows) (packet_at 0)
        (λ n within.
        let inside : n < length rows = omega (arith, within, length-map-range_with_len packet_at 0 (length rows)) in
        ap is_discontinuous (get_or-map-range_with_len packet_at 0 (length rows) n n (packet_at 0) inside (omega arith)) ∙ (row_at n inside).continuous);
  }

  -- ---- payloads

  one_payload : (pid : ℕ) (sent : Sent) (packet : PacketRecord) (rest : List PacketRecord) (more : List Sent) (on : Bool) → payload_of packet ≡ payload_sent layout pieces sent
      → map payload_of rest ≡ map (payload_sent layout pieces) more → map payload_of (cond on (packet ∷ rest) rest) ≡ map (payload_sent layout pieces) (cond on (sent ∷ more) more)
  one_payload pid sent packet rest more true is others = ap₂ (λ (payload : Payload) (payloads : List Payload). payload ∷ payloads) is others
  one_payload pid sent packet rest more false is others = others

  payloads_from : (pid k n : ℕ) → n + k ≤ length rows → payloads_on pid (map packet_at (range_with_len n k)) ≡ payloads_sent_on layout pieces pid (take k (drop n rows))
  payloads_from pid zero n within = refl
  payloads_from pid (suc k) n within =
      let here : n < length rows = omega arith in
      let is = row_at n here in
      let on : has_payload_on pid (packet_at n) ≡ is_sent_on layout pid (sent_in rows n) = sent-on layout pieces pid _ (sent_in rows n) (packet_at n) is in
      let later : List PacketRecord = filter (has_payload_on pid) (map packet_at (range_with_len (n + 1) k)) in
      ap (λ (sent : Bool). map payload_of (cond sent (packet_at n ∷ later) later)) on
      ∙ one_payload pid (sent_in rows n) (packet_at n) later (filter (is_sent_on layout pid) (take k (drop (n + 1) rows)))
      (is_sent_on layout pid (sent_in rows n)) is.payload (payloads_from pid k (n + 1) (omega arith))
      ∙ ap (λ (left : List Sent). payloads_sent_on layout pieces pid (take (suc k) left)) (sym (drop_more rows n Null here))

  pub payloads-between : (pid from to : ℕ) → from ≤ to → to ≤ length rows
      → payloads_on pid (take (to - from) (drop from (output_packets layout slot pieces rows))) ≡ payloads_sent_on layout pieces pid (slots_between rows from to)
  payloads-between pid from to begun within =
      let place : 0 + from ≡ from = omega arith in
      ap (payloads_on pid) (part_of_range packet_at (to - from) from 0 (length rows) (omega arith) ∙ ap (λ (at : ℕ). map packet_at (range_with_len at (to - from))) place)
      ∙ payloads_from pid (to - from) from (omega arith)
