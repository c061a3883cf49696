-- The PES packets that the first transport packets of a file carry stand in front of all that it has.
use Rattle.std.proofs.Common.{◌≡◌, ℕ, ◌+◌, ◌-◌, ◌≤◌, Bool, true, false, cond, nat_lt, List, [], ◌∷◌, ◌++◌, length, zero, suc, Option, Some, None}
use Rattle.std.proofs.Common.{refl, sym, ap, ◌∙◌, subst, arith, append_assoc}
use Rattle.std.specs.Option.{option_map, option_to_list}
use Rattle.std.proofs.lemmas.List.{append-nil}
use Rattle.std.proofs.lemmas.Grind.{flat_map-append}
use Rattle.bit_lists.specs.Payload.{CarriedPayload, is_start}
use Rattle.ts_packets.specs.Carried.{carried, payload_packets}
use Rattle.ts_packets.specs.Packet.{packet_of, PacketRecord}
use Rattle.ts_packets.specs.TransportStream.{is_of_pid, Piece, piece_count, pid_pieces}
use Rattle.ts_packets.proofs.CarriedLemmas.{carried_more, carried_nothing, packets_none, packets_one, placed_at}
use Rattle.ts_demux.specs.declared.demuxed.PesUnit.{PesUnit}
use Rattle.ts_demux.specs.Tables.{piece}
use Rattle.ts_demux.proofs.Gathering.{units_of}
use Rattle.ts_demux.proofs.TableLemmas.{pieces_more, pieces_same}
use Rattle.pes_passing.specs.PassingPackets.{AreSplit, begun_packet, packets_before}
use Rattle.pes_passing.specs.Private.OpenPacket.{with_payload}
use Rattle.pes_passing.proofs.Splitting.{split_on, split_start}
use Rattle.es_window.specs.declared.held_part.HeldPart.{HeldPart}
use Rattle.es_window.specs.PassingBytes.{bytes_in, part_of, stream_of}

-- ---- what is carried

record Fronts (front all : List CarriedPayload) : Type 0 where
  pub more : List CarriedPayload
  pub all_is : all ≡ front ++ more

fronts_same : (front all : List CarriedPayload) → all ≡ front → Fronts front all
fronts_same front all same = record { more = []; all_is = same ∙ sym (append-nil front) }

piece_more : (before : List Piece) (next : Piece) → Fronts (carried before) (carried (before ++ next ∷ []))
piece_more before next = by_packet (packet_of next.bytes) refl
  where
    nothing : payload_packets (next ∷ []) ≡ [] → Fronts (carried before) (carried (before ++ next ∷ []))
    nothing none = fronts_same (carried before) (carried (before ++ next ∷ [])) (carried_nothing before next none).0

    by_payload : (packet : PacketRecord) (some : Bool) → packet_of next.bytes ≡ Some packet → nat_lt 0 (length packet.payload) ≡ some
        → Fronts (carried before) (carried (before ++ next ∷ []))
    by_payload packet false found none = nothing (packets_one next packet found ∙ ap (λ (b : Bool). cond b (placed_at next.at packet ∷ []) []) none)
    by_payload packet true found some = record {
      more = _;
      all_is = (carried_more before next (placed_at next.at packet)
          (packets_one next packet found ∙ ap (λ (b : Bool). cond b (placed_at next.at packet ∷ []) []) some)).0;
    }

    by_packet : (found : Option PacketRecord) → packet_of next.bytes ≡ found → Fronts (carried before) (carried (before ++ next ∷ []))
    by_packet None none = nothing (packets_none next none)
    by_packet (Some packet) found = by_payload packet (nat_lt 0 (length packet.payload)) found refl

carried_one : (file : List ℕ) (pid n : ℕ) → Fronts (carried (pid_pieces file pid 0 n)) (carried (pid_pieces file pid 0 (n + 1)))
carried_one file pid n = by_pid (is_of_pid file pid n) refl
  where
    by_pid : (is : Bool) → is_of_pid file pid n ≡ is → Fronts (carried (pid_pieces file pid 0 n)) (carried (pid_pieces file pid 0 (n + 1)))
    by_pid true is = subst (λ (pieces : List Piece). Fronts (carried (pid_pieces file pid 0 n)) (carried pieces)) (sym (pieces_more file pid 0 n (omega arith) is))
        (piece_more (pid_pieces file pid 0 n) (piece file n))
    by_pid false not = fronts_same (carried (pid_pieces file pid 0 n)) (carried (pid_pieces file pid 0 (n + 1))) (ap carried (pieces_same file pid 0 n (omega arith) not))

carried_front : (file : List ℕ) (pid n m : ℕ) → Fronts (carried (pid_pieces file pid 0 n)) (carried (pid_pieces file pid 0 (n + m)))
carried_front file pid n zero = let same : n + 0 ≡ n = omega arith in
    fronts_same (carried (pid_pieces file pid 0 n)) (carried (pid_pieces file pid 0 (n + 0))) (ap (λ (k : ℕ). carried (pid_pieces file pid 0 k)) same)
carried_front file pid n (suc m) =
    let before = carried_front file pid n m in
    let one = carried_one file pid (n + m) in
    let same : n + suc m ≡ (n + m) + 1 = omega arith in
    record {
      more = before.more ++ one.more;
      all_is = ap (λ (k : ℕ). carried (pid_pieces file pid 0 k)) same ∙ one.all_is ∙ ap (λ (xs : List CarriedPayload). xs ++ one.more) before.all_is
          ∙ append_assoc (carried (pid_pieces file pid 0 n)) before.more one.more;
    }

-- ---- the PES packets

record Begins (ended all : List PesUnit) : Type 0 where
  pub more : List PesUnit
  pub all_is : all ≡ ended ++ more

-- one payload more
units_on : (front more : List CarriedPayload) (x : CarriedPayload) (ended : List PesUnit) (last : Option PesUnit) (starts : Bool) → is_start x.payload ≡ starts
    → AreSplit (units_of front) ended last
    → ((before : List PesUnit) (held : Option PesUnit) → AreSplit (units_of (front ++ x ∷ [])) before held → Begins before (units_of ((front ++ x ∷ []) ++ more)))
    → Begins ended (units_of (front ++ x ∷ more))
units_on front more x ended last true starts split rest =
    let behind = rest (ended ++ option_to_list last) (Some (begun_packet x.at x.payload.bytes)) (split_start front x ended last starts split) in
    record {
      more = option_to_list last ++ behind.more;
      all_is = ap units_of (sym (append_assoc front (x ∷ []) more)) ∙ behind.all_is ∙ append_assoc ended (option_to_list last) behind.more;
    }
units_on front more x ended last false none split rest =
    let behind = rest ended (option_map (with_payload x.payload.bytes) last) (split_on front x ended last none split) in
    record { more = behind.more; all_is = ap units_of (sym (append_assoc front (x ∷ []) more)) ∙ behind.all_is }

units_front : (front more : List CarriedPayload) (ended : List PesUnit) (last : Option PesUnit) → AreSplit (units_of front) ended last → Begins ended (units_of (front ++ more))
units_front front [] ended last split = record {
  more = option_to_list last;
  all_is = ap units_of (append-nil front) ∙ split.packets;
}
units_front front (x ∷ more) ended last split =
    units_on front more x ended last (is_start x.payload) refl split (λ before held here. units_front (front ++ x ∷ []) more before held here)

-- ---- their bytes

pub record HasFront (part : HeldPart) (file : List ℕ) (pid : ℕ) (front : List ℕ) : Type 0 where
  pub more : List ℕ
  pub stream_is : stream_of part file pid ≡ front ++ more

pub has_front : (part : HeldPart) (file : List ℕ) (pid n : ℕ) (ended : List PesUnit) (last : Option PesUnit) → n ≤ piece_count file → AreSplit (packets_before file pid n) ended last
    → HasFront part file pid (bytes_in part ended)
has_front part file pid n ended last within split =
    let rest = piece_count file - n in
    let all : n + rest ≡ piece_count file = omega (arith, within) in
    let fronts = carried_front file pid n rest in
    let begins = units_front (carried (pid_pieces file pid 0 n)) fronts.more ended last split in
    record {
      more = bytes_in part begins.more;
      stream_is = ap (bytes_in part) (ap (packets_before file pid) (sym all) ∙ ap units_of fronts.all_is ∙ begins.all_is) ∙ flat_map-append (part_of part) ended begins.more;
    }
