-- A PES packet in pieces.
use Rattle.std.proofs.Common.{◌≡◌, ℕ, ◌+◌, ◌*◌, ◌/◌, ◌<◌, List, length, ◌∙◌, arith}
use Rattle.std.specs.List.{range_with_len}
use Rattle.std.proofs.lemmas.List.{length-map}
use Rattle.std.proofs.lemmas.List.FromFn.{length-range_with_len}
use Rattle.pes_units.specs.PesPieces.{packets_for, pes_pieces, piece_of}

-- a PES packet has a piece for each packet's room that its bytes begin
pub piece-within : (packet : List ℕ) (k : ℕ) → 184 * k < length packet → k < length (pes_pieces packet)
piece-within packet k within =
    let count : length (pes_pieces packet) ≡ length (range_with_len 0 (packets_for (length packet))) = length-map (range_with_len 0 (packets_for (length packet))) (piece_of packet) in
    let ranged : length (range_with_len 0 (packets_for (length packet))) ≡ packets_for (length packet) = length-range_with_len 0 (packets_for (length packet)) in
    enough (length packet) k (length (pes_pieces packet)) within (count ∙ ranged)
  where
    enough : (bytes k n : ℕ) → 184 * k < bytes → n ≡ (bytes + 183) / 184 → k < n
    enough bytes k n h e = omega arith
