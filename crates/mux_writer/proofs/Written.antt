-- Each packet of an output stream can be written, so that it is read as it is.
use Rattle.std.proofs.Common.{◌≡◌, ℕ, ◌+◌, ◌-◌, ◌*◌, ◌<◌, ◌≤◌, ◌%◌, Bool, true, cond, inl, inr, lit<, List, [], All, Some}
use Rattle.std.proofs.Common.{None, length, get_or, map, replicate, refl, sym, ap, subst, ◌∙◌, arith, length-append, append-nil}
use Rattle.std.specs.List.{flat_map}
use Rattle.std.proofs.lemmas.Bool.{cases_eq, ne_eqb}
use Rattle.bit_lists.specs.Payload.{Payload}
use Rattle.std.specs.Int.{w32, to_be_bytes}
use Rattle.std.proofs.lemmas.List.{length-map, length-replicate}
use Rattle.std.proofs.lemmas.List.Elements.{All-from_get_or, All-get_or, All-map, recursion_from_All}
use Rattle.std.proofs.lemmas.List.FromFn.{length-map-range_with_len, get_or-map-range_with_len}
use Rattle.psi_tables.specs.declared.program_map.ProgramMap.{ProgramMap}
use Rattle.psi_tables.specs.Pat.{written_pat, written_program}
use Rattle.psi_tables.specs.Pmt.{pmt_length, written_pmt}
use Rattle.psi_tables.specs.Section.{written_section_header}
use Rattle.psi_tables.specs.Sections.{crc_over, section_payload}
use Rattle.psi_tables.proofs.WrittenPat.{length-written_programs}
use Rattle.slot_rule.specs.declared.sent.Sent.{Sent}
use Rattle.slot_rule.specs.declared.sent.Sent.TheVariants.{Null, Pat, Pmt, Pcr, Video, Audio}
use Rattle.ts_packets.specs.Packet.{PacketRecord, IsWritable, written}
use Rattle.ts_packets.specs.TransportStream.{packets}
use Rattle.ts_packets.proofs.FileLemmas.{packets-written}
use Rattle.mux_writer.specs.declared.counters.TheConstants.{PIDS}
use Rattle.mux_writer.specs.declared.layout.Layout.{Layout}
use Rattle.mux_writer.specs.Layout.{IsLayout, IsOutputMap, map_pid, stream_pid, stream_pids}
use Rattle.mux_writer.specs.Output.{IsOfLayout, full_record, output_packets, output_stream, packet_in, output_packet, piece_record, stuffing_field}
use Rattle.mux_writer.specs.Pieces.{HasPayloadSize, Pieces}
use Rattle.mux_writer.specs.Tables.{pat_payload, pat_section, pmt_payloads, pmt_section, programs_from, with_crc}
use Rattle.mux_writer.proofs.Pids.{layout-counted, map-of, no_map}
use Rattle.mux_writer.proofs.Sections.{length-programs_from}
use Rattle.mux_writer.proofs.Counting.{eqb-same}

-- ---- payloads of sections

payload-size : (section : List ℕ) → length section ≤ 183 → length (section_payload section) ≡ 184
payload-size section fits =
    let rest : length (replicate {A = ℕ} (183 - length section) 0xFF) ≡ 183 - length section = length-replicate (183 - length section) 0xFF in
    omega (arith, fits, rest, length-append section (replicate (183 - length section) 0xFF))

pub crc-size : (front : List ℕ) → length (with_crc front) ≡ length front + 4
crc-size front = length-append front (to_be_bytes w32 (crc_over front))

pat-size : (layout : Layout) → length layout.maps.items ≤ 8 → length (pat_payload layout) ≡ 184
pat-size layout few =
    let programs : List (ℕ × ℕ) = programs_from 0 layout.maps.items in
    let size : length (written_pat layout.stream_id programs) ≤ 40 = omega (
      arith,
      few,
      length-programs_from 0 layout.maps.items,
      length-append (written_section_header 0 (9 + 4 * length programs) layout.stream_id) (flat_map written_program programs),
      length-written_programs programs,
    ) in
    payload-size (pat_section layout) (omega (arith, size, crc-size (written_pat layout.stream_id programs)))

pmt-size : (program_map : ProgramMap) → pmt_length program_map ≤ 183 → length (section_payload (pmt_section program_map)) ≡ 184
pmt-size program_map fits = payload-size (pmt_section program_map) (omega (arith, fits, crc-size (written_pmt program_map)))

pmts-size : (layout : Layout) → IsLayout layout → All (λ (payload : List ℕ). length payload ≡ 184) (pmt_payloads layout)
pmts-size layout is =
    All-map (λ (payload : List ℕ). length payload ≡ 184) (λ (program_map : ProgramMap). section_payload (pmt_section program_map)) layout.maps.items
    (All-from_get_or (λ (program_map : ProgramMap). length (section_payload (pmt_section program_map)) ≡ 184) layout.maps.items no_map
    (λ program within. let goes : IsOutputMap program (get_or layout.maps.items program no_map) = map-of layout program no_map is within in
    pmt-size (get_or layout.maps.items program no_map) goes.fits))

-- ---- packets

abbrev stuffed_record : (pid counter : ℕ) → Payload → PacketRecord
stuffed_record pid counter payload = record { pid = pid; start = payload.start; counter = counter; field = Some stuffing_field; payload = payload.bytes }

full-writable : (pid : ℕ) (start : Bool) (counter : ℕ) (payload : List ℕ) → pid < 8192 → counter < 16 → length payload ≡ 184 → IsWritable (full_record pid start counter payload)
full-writable pid start counter payload low small size = record { pid = low; counter = small; pcr = tt; payload = size }

piece-writable : (pid counter : ℕ) (payload : Payload) → pid < 8192 → counter < 16 → HasPayloadSize (length payload.bytes) → IsWritable (piece_record pid counter payload)
piece-writable pid counter payload low small size =
    elim (cases_eq (length payload.bytes) 184) [
      | inl full ↦
          let none : piece_record pid counter payload ≡ full_record pid payload.start counter payload.bytes =
          ap (λ (b : Bool). record { pid = pid; start = payload.start; counter = counter; field = cond b None (Some stuffing_field); payload = payload.bytes })
          (eqb-same (length payload.bytes) 184 full) in
          subst IsWritable (sym none) (full-writable pid payload.start counter payload.bytes low small full)
      | inr less ↦
          let some : piece_record pid counter payload ≡ stuffed_record pid counter payload =
          ap (λ (b : Bool). record { pid = pid; start = payload.start; counter = counter; field = cond b None (Some stuffing_field); payload = payload.bytes })
          (ne_eqb (length payload.bytes) 184 less) in
          subst IsWritable (sym some) (record { pid = low; counter = small; pcr = tt; payload = omega (arith, size.fits, less) })
    ]

-- each packet of a slot can be written
pub packet-writable : (layout : Layout) (has : (stream item piece : ℕ) → Type 0) (slot : ℕ) (pieces : Pieces) (count n : ℕ) (sent : Sent) → IsLayout layout → length layout.maps.items ≤ 8
    → ((stream item piece : ℕ) → has stream item piece → HasPayloadSize (length (pieces stream item piece).bytes)) → IsOfLayout layout has sent
    → IsWritable (output_packet layout slot pieces count n sent)
packet-writable layout has slot pieces count n Null is few sized of = record { pid = lit< tt; counter = lit< tt; pcr = tt; payload = refl }
packet-writable layout has slot pieces count n Pat is few sized of = full-writable 0 true (count % 16) (pat_payload layout) (omega arith) (omega arith) (pat-size layout few)
packet-writable layout has slot pieces count n (Pmt program) is few sized of =
    let inside : program < length (pmt_payloads layout) = omega (arith, of, length-map layout.maps.items (λ (program_map : ProgramMap). section_payload (pmt_section program_map))) in
    full-writable (map_pid program) true (count % 16) (get_or (pmt_payloads layout) program []) (omega (arith, of, few)) (omega arith)
    (All-get_or (λ (payload : List ℕ). length payload ≡ 184) (pmt_payloads layout) program [] inside (pmts-size layout is))
packet-writable layout has slot pieces count n (Pcr program) is few sized of = record {
  pid = omega (arith, of, few);
  counter = omega arith;
  pcr = omega arith;
  payload = omega arith;
}
packet-writable layout has slot pieces count n (Video stream unit piece) is few sized of =
    piece-writable (stream_pid layout stream) (count % 16) (pieces stream unit piece)
    (omega (arith, All-get_or (λ (pid : ℕ). pid < PIDS) (stream_pids layout) stream 0 of.0 (layout-counted layout is few))) (omega arith) (sized stream unit piece of.1)
packet-writable layout has slot pieces count n (Audio stream packet) is few sized of =
    piece-writable (stream_pid layout stream) (count % 16) (pieces stream packet 0)
    (omega (arith, All-get_or (λ (pid : ℕ). pid < PIDS) (stream_pids layout) stream 0 of.0 (layout-counted layout is few))) (omega arith) (sized stream packet 0 of.1)

all-writable : (layout : Layout) (has : (stream item piece : ℕ) → Type 0) (slot : ℕ) (pieces : Pieces) (rows : List Sent) → IsLayout layout → length layout.maps.items ≤ 8
    → ((stream item piece : ℕ) → has stream item piece → HasPayloadSize (length (pieces stream item piece).bytes)) → All (IsOfLayout layout has) rows
    → All IsWritable (output_packets layout slot pieces rows)
all-writable layout has slot pieces rows is few sized all =
    All-from_get_or IsWritable (output_packets layout slot pieces rows) (packet_in layout slot pieces rows 0)
    (λ n within.
    let inside : n < length rows = omega (arith, within, length-map-range_with_len (packet_in layout slot pieces rows) 0 (length rows)) in
    let here : get_or (output_packets layout slot pieces rows) n (packet_in layout slot pieces rows 0) ≡ packet_in layout slot pieces rows n =
    get_or-map-range_with_len (packet_in layout slot pieces rows) 0 (length rows) n n (packet_in layout slot pieces rows 0) inside (omega arith) in
    subst IsWritable (sym here) (packet-writable layout has slot pieces _ n (get_or rows n Null) is few sized (All-get_or (IsOfLayout layout has) rows n Null inside all)))

-- the stream is read as its packets
pub read-as-written : (layout : Layout) (has : (stream item piece : ℕ) → Type 0) (slot : ℕ) (pieces : Pieces) (rows : List Sent) → IsLayout layout → length layout.maps.items ≤ 8
    → ((stream item piece : ℕ) → has stream item piece → HasPayloadSize (length (pieces stream item piece).bytes)) → All (IsOfLayout layout has) rows
    → packets (output_stream layout slot pieces rows) ≡ map Some (output_packets layout slot pieces rows)
read-as-written layout has slot pieces rows is few sized all =
    let list : List PacketRecord = output_packets layout slot pieces rows in
    ap packets (sym (append-nil (flat_map written list)))
    ∙ packets-written list [] (recursion_from_All IsWritable list (all-writable layout has slot pieces rows is few sized all)) (lit< tt)
