-- A program's section packets after one more row, and one more packet of any decoder.
use Rattle.std.proofs.Common.{◌≡◌, ℕ, ◌+◌, ◌*◌, List, [], ◌∷◌, ◌++◌, length, replicate, sym, ap, ◌∙◌, append_assoc, append-nil, add-zero, length-append, arith}
use Rattle.stream_constants.specs.declared.packets.TheConstants.{PACKET_BYTES, PAYLOAD_BYTES}
use Rattle.slot_rule.specs.declared.row.Row.{Row}
use Rattle.tstd_model.specs.declared.decoder_input.Arrival.{Arrival}
use Rattle.tstd_model.specs.Instants.{spaced, departures}
use Rattle.tstd_model.specs.PacketBytes.{HasHeaderWithin, byte_subticks, parts_of, parts, is_payload, kept, arrives}
use Rattle.tstd_model.specs.Private.Server.{last_departure}
use Rattle.tstd_model.proofs.RisingLaws.{length-spaced}
use Rattle.tstd_model.proofs.Server.{departures-append, length-departures}
use Rattle.tstd_bridge.specs.Sections.{section_packets, sections_from}
use Rattle.tstd_bridge.proofs.ArrivalRows.{arrives-push}
use Rattle.tstd_bridge.proofs.AudioB.{passes_of}
use Rattle.tstd_bridge.proofs.KeptBytes.{kept-append, length-packet_parts, parts-push}

-- a packet of sections
abbrev pub section_of : (n : ℕ) → Arrival
section_of n = record { slot_no = n; header = 0; payload = PAYLOAD_BYTES }

sections_from-push : (n program : ℕ) (rows : List Row) (row : Row)
    → sections_from n program (rows ++ row ∷ []) ≡ sections_from n program rows ++ replicate (section_packets program row) (section_of (n + length rows))
unfolding sections_from
sections_from-push n program [] row =
    append-nil (replicate (section_packets program row) (section_of n)) ∙ ap (λ m. replicate (section_packets program row) (section_of m)) (sym (add-zero n))
sections_from-push n program (first ∷ rows) row =
    let own = replicate (section_packets program first) (section_of n) in
    let next : (n + 1) + length rows ≡ n + length (first ∷ rows) = omega arith in
    ap (λ (more : List Arrival). own ++ more) (sections_from-push (n + 1) program rows row)
    ∙ sym (append_assoc own (sections_from (n + 1) program rows) (replicate (section_packets program row) (section_of ((n + 1) + length rows))))
    ∙ ap (λ m. (own ++ sections_from (n + 1) program rows) ++ replicate (section_packets program row) (section_of m)) next

pub sections_from-none : (program : ℕ) (rows : List Row) (row : Row) → section_packets program row ≡ 0 → sections_from 0 program (rows ++ row ∷ []) ≡ sections_from 0 program rows
sections_from-none program rows row none =
    sections_from-push 0 program rows row
    ∙ ap (λ k. sections_from 0 program rows ++ replicate k (section_of (0 + length rows))) none
    ∙ append-nil (sections_from 0 program rows)

pub sections_from-one : (program : ℕ) (rows : List Row) (row : Row) → section_packets program row ≡ 1
    → sections_from 0 program (rows ++ row ∷ []) ≡ sections_from 0 program rows ++ section_of (length rows) ∷ []
sections_from-one program rows row one =
    let zeroth : 0 + length rows ≡ length rows = omega arith in
    sections_from-push 0 program rows row
    ∙ ap (λ k. sections_from 0 program rows ++ replicate k (section_of (0 + length rows))) one
    ∙ ap (λ m. sections_from 0 program rows ++ section_of m ∷ []) zeroth

-- ---- one more packet
-- each byte has a part
abbrev pub HaveParts : (slot : ℕ) → List Arrival → Type 0
HaveParts slot arrivals = length (parts arrivals) ≡ length (arrives slot arrivals)

-- when the packet's bytes come
abbrev pub packet_comes : (slot : ℕ) → Arrival → List ℕ
packet_comes slot arrival = spaced (PACKET_BYTES * arrival.slot_no * byte_subticks slot) (byte_subticks slot) PACKET_BYTES

-- when its payload goes on from TB, which is free from an instant on
abbrev pub packet_passes : (slot subticks free : ℕ) → Arrival → List ℕ
packet_passes slot subticks free arrival = kept is_payload (parts_of arrival) (departures subticks free (packet_comes slot arrival))

pub passes_of-push : (slot t : ℕ) (arrivals : List Arrival) (arrival : Arrival) → HaveParts slot arrivals
    → passes_of slot t (arrivals ++ arrival ∷ []) ≡ passes_of slot t arrivals ++ packet_passes slot t (last_departure t 0 (arrives slot arrivals)) arrival
passes_of-push slot t arrivals arrival has =
    let come = arrives slot arrivals in
    let own = packet_comes slot arrival in
    let as_many : length (parts arrivals) ≡ length (departures t 0 come) = has ∙ sym (length-departures t 0 come) in
    rw (parts-push arrivals arrival, arrives-push slot arrivals arrival, departures-append t 0 come own)
    (kept-append is_payload (parts arrivals) (parts_of arrival) (departures t 0 come) (departures t (last_departure t 0 come) own) as_many)

pub have_parts-push : (slot : ℕ) (arrivals : List Arrival) (arrival : Arrival) → HasHeaderWithin arrival → HaveParts slot arrivals → HaveParts slot (arrivals ++ arrival ∷ [])
have_parts-push slot arrivals arrival fits has =
    let come = arrives slot arrivals in
    let first = PACKET_BYTES * arrival.slot_no * byte_subticks slot in
    let own = packet_comes slot arrival in
    rw (parts-push arrivals arrival, arrives-push slot arrivals arrival)
    (omega (
      arith,
      has,
      length-append (parts arrivals) (parts_of arrival),
      length-append come own,
      length-packet_parts arrival fits,
      length-spaced first (byte_subticks slot) PACKET_BYTES,
    ))
