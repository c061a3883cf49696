-- The payloads of an audio source are the PES packets that were taken of its stream, cut into pieces of 184 bytes.
use Rattle.std.proofs.Common.{◌≡◌, ℕ, zero, suc, ◌+◌, ◌-◌, ◌*◌, ◌/◌, ◌<◌, ◌≤◌, ◌==◌, ◌⊎◌, inl, inr, min, Bool, List, [], ◌∷◌, ◌++◌, All, length, map, take, drop, ℤ, refl, sym, ap, ap₂, ◌∙◌, subst, arith, append_assoc, length-append}
use Rattle.std.specs.Prelude.{slice_range}
use Rattle.std.specs.List.{flat_map, range_with_len}
use Rattle.std.proofs.lemmas.Bool.{cases_lt, ne_eqb}
use Rattle.std.proofs.lemmas.List.{drop-append-le, length-drop, take-append-le, take_all}
use Rattle.std.proofs.lemmas.List.Elements.{All-head, All-tail}
use Rattle.bit_lists.specs.Payload.{Payload}
use Rattle.audio_frames.specs.declared.frame.Frame.{Frame}
use Rattle.pes_units.specs.PesHeader.{header_length}
use Rattle.pes_units.specs.PesPieces.{pes_pieces, piece_of}
use Rattle.ts_demux.specs.declared.demuxed.PesUnit.{PesUnit}
use Rattle.elementary_streams.specs.declared.pes_packets.PlacedPacket.{PlacedPacket}
use Rattle.program_reader.specs.declared.program.AudioPiece.{AudioPiece}
use Rattle.program_reader.specs.Audio.{ArePieces, IsPiece, packet_size, piece_size, placed_pieces}
use Rattle.elementary_streams.specs.Packets.{pes_payload_of, placed_from}
use Rattle.elementary_streams.proofs.StreamLemmas.{HasPayload}
use Rattle.elementary_streams.proofs.TakenLemmas.{placed_at}
use Rattle.version_source.specs.Pieces.{audio_payload}

-- ---- one piece

same_start : (k : ℕ) → (184 * k == 0) ≡ (k == 0)
same_start zero = refl
same_start (suc k) = ne_eqb (184 * suc k) 0 (λ same. omega (arith, same)) ∙ sym (ne_eqb (suc k) 0 (λ same. omega (arith, same)))

behind-front : (front rest : List ℕ) (at from : ℕ) → length front ≡ at → drop (at + from) (front ++ rest) ≡ drop from rest
behind-front [] rest zero from same = ap (λ (n : ℕ). drop n rest) (let e : zero + from ≡ from = omega arith in e)
behind-front [] rest (suc at) from same = absurd (omega (arith, same))
behind-front (x ∷ xs) rest zero from same = absurd (omega (arith, same))
behind-front (x ∷ xs) rest (suc at) from same =
    ap (λ (n : ℕ). drop n (x ∷ xs ++ rest)) (let e : suc at + from ≡ suc (at + from) = omega arith in e) ∙ behind-front xs rest at from (omega (arith, same))

-- so many bytes of a packet, or all that are left of it
part-of : (packet : List ℕ) (from : ℕ) → take (min 184 (length packet - from)) (drop from packet) ≡ take 184 (drop from packet)
part-of packet from = by_size (cases_lt (length packet - from) 184)
  where
    by_size : (length packet - from < 184) ⊎ (184 ≤ length packet - from) → take (min 184 (length packet - from)) (drop from packet) ≡ take 184 (drop from packet)
    by_size (inl short) =
        let size : length (drop from packet) ≡ length packet - from = length-drop from packet in
        take_all (min 184 (length packet - from)) (drop from packet) (omega (arith, size, short)) ∙ sym (take_all 184 (drop from packet) (omega (arith, size, short)))
    by_size (inr full) = ap (λ (n : ℕ). take n (drop from packet)) (let e : min 184 (length packet - from) ≡ 184 = omega (arith, full) in e)

module _ (start : ℕ) (earliest : ℤ) (frames : List Frame) (bytes : List ℕ) where
  piece-payload : (p : PesUnit) (placed : PlacedPacket) (front back : List ℕ) (at k : ℕ) (piece : AudioPiece) → bytes ≡ front ++ (p.bytes ++ back) → length front ≡ at
      → packet_size placed ≡ length p.bytes → 184 * k < length p.bytes
      → IsPiece start earliest frames placed at (184 * k) (piece_size (packet_size placed) (184 * k)) piece → audio_payload bytes piece ≡ piece_of p.bytes k
  piece-payload p placed front back at k piece split size whole within is =
      let from : ℕ = 184 * k in
      let n : ℕ = min 184 (length p.bytes - from) in
      let many : piece.packet.bytes ≡ n = is.bytes ∙ ap (λ (s : ℕ). min 184 (s - from)) whole in
      let count : piece.at + piece.packet.bytes - piece.at ≡ n = omega (arith, many) in
      let left : length (drop from p.bytes) ≡ length p.bytes - from = length-drop from p.bytes in
      let part : slice_range bytes piece.at (piece.at + piece.packet.bytes) ≡ take 184 (drop from p.bytes) =
      ap (λ (m : ℕ). take m (drop piece.at bytes)) count
      ∙ ap₂ (λ (a : ℕ) (bs : List ℕ). take n (drop a bs)) is.at_is split
      ∙ ap (take n) (behind-front front (p.bytes ++ back) at from size ∙ drop-append-le from p.bytes back (omega (arith, within)))
      ∙ take-append-le n (drop from p.bytes) back (omega (arith, left))
      ∙ part-of p.bytes from in
      ap₂ (λ (b : Bool) (xs : List ℕ). record { start = b; bytes = xs }) (is.begins ∙ same_start k) part

  -- ---- the pieces of a packet

  -- pieces whose payloads are these, and pieces of further places behind them
  record Splits (payloads : List Payload) (places : List (PlacedPacket × ℕ × ℕ)) (pieces : List AudioPiece) : Type 0 where
    pub rest : List AudioPiece
    pub are : ArePieces start earliest frames places rest
    pub payloads_are : map (audio_payload bytes) pieces ≡ payloads ++ map (audio_payload bytes) rest

  packet-pieces : (p : PesUnit) (placed : PlacedPacket) (front back : List ℕ) (at : ℕ) (more : List (PlacedPacket × ℕ × ℕ)) → bytes ≡ front ++ (p.bytes ++ back) → length front ≡ at
      → packet_size placed ≡ length p.bytes → (n k : ℕ) → k + n ≤ (length p.bytes + 183) / 184 → (pieces : List AudioPiece)
      → ArePieces start earliest frames (map (λ (from : ℕ). (placed, at, from)) (map (λ (i : ℕ). 184 * i) (range_with_len k n)) ++ more) pieces
      → Splits (map (piece_of p.bytes) (range_with_len k n)) more pieces
  packet-pieces p placed front back at more split size whole zero k within pieces are = record { rest = pieces; are = are; payloads_are = refl }
  packet-pieces p placed front back at more split size whole (suc n) k within [] are = absurd are
  packet-pieces p placed front back at more split size whole (suc n) k within (piece ∷ pieces) are =
      let one = piece-payload p placed front back at k piece split size whole (omega (arith, within)) are.0 in
      let later = packet-pieces p placed front back at more split size whole n (k + 1) (omega (arith, within)) pieces are.1 in
      record { rest = later.rest; are = later.are; payloads_are = ap₂ (λ (x : Payload) (xs : List Payload). x ∷ xs) one later.payloads_are }

  -- the payloads of all pieces are those of the packets, cut
  pub all-pieces : (packets : List PesUnit) (at from : ℕ) (front : List ℕ) (pieces : List AudioPiece) → All HasPayload packets
      → bytes ≡ front ++ flat_map (λ (packet : PesUnit). packet.bytes) packets → length front ≡ at
      → ArePieces start earliest frames (placed_pieces at (placed_from from packets)) pieces
      → map (audio_payload bytes) pieces ≡ flat_map (λ (packet : PesUnit). pes_pieces packet.bytes) packets
  all-pieces [] at from front [] some split size are = refl
  all-pieces [] at from front (x ∷ xs) some split size are = absurd are
  all-pieces (p ∷ ps) at from front pieces some split size are =
      let placed : PlacedPacket = placed_at from p in
      let here : HasPayload p = All-head HasPayload p ps some in
      let whole : packet_size placed ≡ length p.bytes = omega (arith, here, length-drop (header_length p.bytes) p.bytes) in
      let later : List (PlacedPacket × ℕ × ℕ) = placed_pieces (at + packet_size placed) (placed_from (from + length (pes_payload_of p)) ps) in
      let turned = subst (λ (n : ℕ). ArePieces start earliest frames (map (λ (byte : ℕ). (placed, at, byte)) (map (λ (i : ℕ). 184 * i) (range_with_len 0 ((n + 183) / 184))) ++ later) pieces)
      whole are in
      let cut = packet-pieces p placed front (flat_map (λ (packet : PesUnit). packet.bytes) ps) at later split size whole ((length p.bytes + 183) / 184) 0 (omega arith) pieces turned in
      let next = all-pieces ps (at + packet_size placed) (from + length (pes_payload_of p)) (front ++ p.bytes) cut.rest (All-tail HasPayload p ps some)
      (split ∙ sym (append_assoc front p.bytes (flat_map (λ (packet : PesUnit). packet.bytes) ps))) (omega (arith, size, whole, length-append front p.bytes)) cut.are in
      cut.payloads_are ∙ ap (λ (xs : List Payload). pes_pieces p.bytes ++ xs) next
