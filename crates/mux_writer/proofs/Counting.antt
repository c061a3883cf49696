-- The counts of the writer, slot by slot.
use Rattle.std.proofs.Common.{◌≡◌, ℕ, ◌+◌, ◌%◌, ◌<◌, ◌≤◌, Bool, true, cond, eqb, inl, inr, List, [], ◌∷◌, ◌++◌, All}
use Rattle.std.proofs.Common.{Option, length, get_or, take, replicate, refl, sym, ap, subst, ◌∙◌, arith, length-set}
use Rattle.std.specs.Prelude.{slice_index, IfSome}
use Rattle.std.proofs.lemmas.Bool.{cases_eq, ne_eqb}
use Rattle.std.proofs.lemmas.List.{get_or-replicate, get_or-set_same, get_or-set_other, get_or_past, length-replicate}
use Rattle.std.proofs.lemmas.List.Elements.{All-get_or}
use Rattle.std.proofs.lemmas.List.Sums.{sum_by-append}
use Rattle.std.proofs.lemmas.Option.{IfSome_then}
use Rattle.ts_packets.specs.Packet.{written}
use Rattle.slot_rule.specs.declared.sent.Sent.{Sent}
use Rattle.slot_rule.specs.declared.sent.Sent.TheVariants.{Null, Pat, Pmt, Pcr, Video, Audio}
use Rattle.mux_writer.specs.declared.counters.TheConstants.{PIDS}
use Rattle.mux_writer.specs.declared.layout.Layout.{Layout}
use Rattle.mux_writer.specs.Layout.{map_pid, stream_pid, stream_pids}
use Rattle.mux_writer.specs.Output.{IsOfLayout, packet_in, output_packet, payload_count, pid_of}
use Rattle.mux_writer.specs.Pieces.{Pieces}
use Rattle.mux_writer.specs.Writing.{Writing}
use Rattle.mux_writer.specs.Private.Writer.{CountersAre, counted, one_more}

-- ---- the counts

pub counters-begin : (layout : Layout) → CountersAre layout [] (replicate PIDS 0)
counters-begin layout = record {
  size = length-replicate {A = ℕ} PIDS 0;
  at = λ pid within. get_or-replicate {A = ℕ} PIDS pid 0 0 within;
}

pub eqb-same : (a b : ℕ) → a ≡ b → eqb a b ≡ true
eqb-same a b same = grind (arith, same)

-- a count behind one more packet with payload
taken-at : (counters : List ℕ) (taken pid count : ℕ) → pid < length counters → slice_index counters pid ≡ count % 256
    → slice_index (one_more taken counters) pid ≡ (count + cond (eqb taken pid) 1 0) % 256
taken-at counters taken pid count within is =
    elim (cases_eq taken pid) [
      | inl same ↦
          let yes : cond {A = ℕ} (eqb taken pid) 1 0 ≡ 1 = ap (λ (b : Bool). cond {A = ℕ} b 1 0) (eqb-same taken pid same) in
          let now : slice_index (one_more taken counters) pid ≡ (slice_index counters taken + 1) % 256 =
          subst (λ (p : ℕ). slice_index (one_more taken counters) p ≡ (slice_index counters taken + 1) % 256) same
          (get_or-set_same counters taken _ 0 (subst (λ (p : ℕ). p < length counters) (sym same) within)) in
          omega (arith, yes, now, is, ap (slice_index counters) same)
      | inr other ↦
          let no : cond {A = ℕ} (eqb taken pid) 1 0 ≡ 0 = ap (λ (b : Bool). cond {A = ℕ} b 1 0) (ne_eqb taken pid other) in
          let now : slice_index (one_more taken counters) pid ≡ slice_index counters pid = get_or-set_other counters taken pid _ 0 (λ e. other (sym e)) in
          omega (arith, no, now, is)
    ]

count-more : (layout : Layout) (pid : ℕ) (rows : List Sent) (sent : Sent)
    → payload_count layout pid (rows ++ sent ∷ []) ≡ payload_count layout pid rows + payload_count layout pid (sent ∷ [])
count-more layout pid rows sent = sum_by-append _ rows (sent ∷ [])

taken-counters : (layout : Layout) (rows : List Sent) (sent : Sent) (taken : ℕ) (counters : List ℕ)
    → ((pid : ℕ) → payload_count layout pid (sent ∷ []) ≡ cond (eqb taken pid) 1 0)
    → CountersAre layout rows counters → CountersAre layout (rows ++ sent ∷ []) (one_more taken counters)
taken-counters layout rows sent taken counters counts are = record {
  size = length-set counters taken _ ∙ are.size;
  at = λ pid within.
      taken-at counters taken pid (payload_count layout pid rows) (omega (arith, within, are.size)) (are.at pid within)
      ∙ ap (λ (n : ℕ). n % 256) (ap (λ (n : ℕ). payload_count layout pid rows + n) (sym (counts pid)) ∙ sym (count-more layout pid rows sent));
}

same-counters : (layout : Layout) (rows : List Sent) (sent : Sent) (counters : List ℕ)
    → ((pid : ℕ) → pid < PIDS → payload_count layout pid (sent ∷ []) ≡ 0)
    → CountersAre layout rows counters → CountersAre layout (rows ++ sent ∷ []) counters
same-counters layout rows sent counters none are = record {
  size = are.size;
  at = λ pid within. are.at pid within ∙ ap (λ (n : ℕ). n % 256) (omega (arith, none pid within, count-more layout pid rows sent));
}

-- the counts behind one more slot
pub counters-more : (layout : Layout) (rows : List Sent) (sent : Sent) (counters : List ℕ)
    → CountersAre layout rows counters → CountersAre layout (rows ++ sent ∷ []) (counted layout sent counters)
counters-more layout rows Null counters are = same-counters layout rows Null counters
    (λ pid within. omega (arith, ap (λ (b : Bool). cond {A = ℕ} b 1 0) (ne_eqb 0x1FFF pid (λ same. omega (arith, same, within))))) are
counters-more layout rows Pat counters are = taken-counters layout rows Pat 0 counters (λ pid. omega arith) are
counters-more layout rows (Pmt program) counters are = taken-counters layout rows (Pmt program) (map_pid program) counters (λ pid. omega arith) are
counters-more layout rows (Pcr program) counters are = same-counters layout rows (Pcr program) counters (λ pid within. refl) are
counters-more layout rows (Video stream unit piece) counters are =
    taken-counters layout rows (Video stream unit piece) (stream_pid layout stream) counters (λ pid. omega arith) are
counters-more layout rows (Audio stream packet) counters are =
    taken-counters layout rows (Audio stream packet) (stream_pid layout stream) counters (λ pid. omega arith) are

-- ---- the packet behind some slots

-- what a packet is behind each count that its PID's number stands for, it is behind the count of the slots before
pub packet-counted : (layout : Layout) (has : (stream item piece : ℕ) → Type 0) (slot : ℕ) (pieces : Pieces) (rows : List Sent) (n : ℕ) (sent : Sent) (counters bytes : List ℕ)
    → length layout.maps.items ≤ 8 → All (λ (pid : ℕ). pid < PIDS) (stream_pids layout) → IsOfLayout layout has sent → CountersAre layout rows counters
    → ((count : ℕ) → slice_index counters (pid_of layout sent) ≡ count % 256 → bytes ≡ written (output_packet layout slot pieces count n sent))
    → bytes ≡ written (output_packet layout slot pieces (payload_count layout (pid_of layout sent) rows) n sent)
packet-counted layout has slot pieces rows n Null counters bytes few all is are made = made 0 (get_or_past counters 0x1FFF 0 (omega (arith, are.size)))
packet-counted layout has slot pieces rows n Pat counters bytes few all is are made = made _ (are.at 0 (omega arith))
packet-counted layout has slot pieces rows n (Pmt program) counters bytes few all is are made = made _ (are.at (map_pid program) (omega (arith, few, is)))
packet-counted layout has slot pieces rows n (Pcr program) counters bytes few all is are made = made _ (are.at (map_pid program + 1) (omega (arith, few, is)))
packet-counted layout has slot pieces rows n (Video stream unit piece) counters bytes few all is are made =
    made _ (are.at (stream_pid layout stream) (All-get_or (λ (pid : ℕ). pid < PIDS) (stream_pids layout) stream 0 is.0 all))
packet-counted layout has slot pieces rows n (Audio stream packet) counters bytes few all is are made =
    made _ (are.at (stream_pid layout stream) (All-get_or (λ (pid : ℕ). pid < PIDS) (stream_pids layout) stream 0 is.0 all))

-- where pieces are told, what was made for a slot is its packet
pub told-packet : (layout : Layout) (has : (stream item piece : ℕ) → Type 0) (slot : ℕ) (told : Option Pieces) (rows : List Sent) (n : ℕ) (counters bytes : List ℕ)
    → length layout.maps.items ≤ 8 → All (λ (pid : ℕ). pid < PIDS) (stream_pids layout) → All (IsOfLayout layout has) rows → n < length rows
    → CountersAre layout (take n rows) counters
    → IfSome told (λ pieces. (count : ℕ) → slice_index counters (pid_of layout (get_or rows n Null)) ≡ count % 256
    → bytes ≡ written (output_packet layout slot pieces count n (get_or rows n Null)))
    → IfSome told (λ pieces. bytes ≡ written (packet_in layout slot pieces rows n))
told-packet layout has slot told rows n counters bytes few counted all within are made =
    IfSome_then told made
    (λ pieces is. packet-counted layout has slot pieces (take n rows) n (get_or rows n Null) counters bytes few counted
    (All-get_or (IsOfLayout layout has) rows n Null within all) are is)

-- the same for a writer that stands there
pub told-next : (writing : Writing) (layout : Layout) (slot : ℕ) (rows : List Sent) (n : ℕ) (has : (stream item piece : ℕ) → Type 0) (told : Option Pieces) (counters bytes : List ℕ)
    → writing ≡ record { layout = layout; slot = slot; rows = rows; at = n } → length layout.maps.items ≤ 8 → All (λ (pid : ℕ). pid < PIDS) (stream_pids layout)
    → All (IsOfLayout writing.layout has) writing.rows → n < length rows → CountersAre layout (take n rows) counters
    → IfSome told (λ pieces. (count : ℕ) → slice_index counters (pid_of layout (get_or rows n Null)) ≡ count % 256
    → bytes ≡ written (output_packet layout slot pieces count n (get_or rows n Null)))
    → IfSome told (λ pieces. bytes ≡ written (packet_in writing.layout writing.slot pieces writing.rows writing.at))
told-next writing layout slot rows n has told counters bytes is few counted all within are made =
    subst (λ (w : Writing). IfSome told (λ pieces. bytes ≡ written (packet_in w.layout w.slot pieces w.rows w.at))) (sym is)
    (told-packet layout has slot told rows n counters bytes few counted (subst (λ (w : Writing). All (IsOfLayout w.layout has) w.rows) is all) within are made)
