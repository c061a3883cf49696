-- A PES packet in pieces.
use Rattle.std.proofs.Common.{◌≡◌, ℕ, zero, suc, ◌+◌, ◌-◌, ◌*◌, ◌/◌, ◌<◌, ◌≤◌, List, [], ◌∷◌, ◌++◌, length, take, drop, map, replicate, ◌⊎◌, inl, inr, refl, ap, ap₂, subst, sym, ◌∙◌, arith}
use Rattle.std.proofs.lemmas.List.{length-drop, length-take-le, take_all}
use Rattle.std.proofs.lemmas.Bool.{cases_lt}
use Rattle.pes_units.specs.PesPieces.{packets_for, pes_pieces, piece_of}
use Rattle.mux_writer.specs.Pieces.{HasPayloadSize}
use Rattle.std.specs.List.{range_with_len}
use Rattle.bit_lists.specs.Payload.{Payload}
use Rattle.slot_rule.specs.Queues.{payloads}

-- a list over a range whose items are one number, but the last
cut-from : (f : ℕ → ℕ) (c last from n : ℕ) → ((k : ℕ) → from ≤ k → k < from + n → f k ≡ c) → f (from + n) ≡ last → map f (range_with_len from (suc n)) ≡ replicate n c ++ last ∷ []
cut-from f c last from zero each at = ap (λ (x : ℕ). x ∷ []) (ap f (let e : from ≡ from + 0 = omega arith in e) ∙ at)
cut-from f c last from (suc n) each at =
    let first : f from ≡ c = each from (omega arith) (omega arith) in
    let later : (k : ℕ) → from + 1 ≤ k → k < (from + 1) + n → f k ≡ c = λ k low high. each k (omega (arith, low)) (omega (arith, high)) in
    let end : f ((from + 1) + n) ≡ last = ap f (let e : (from + 1) + n ≡ from + suc n = omega arith in e) ∙ at in
    ap₂ (λ (x : ℕ) (xs : List ℕ). x ∷ xs) first (cut-from f c last (from + 1) n later end)

lengths : (packet : List ℕ) (ks : List ℕ) → map (λ (piece : Payload). length piece.bytes) (map (piece_of packet) ks) ≡ map (λ (k : ℕ). length (piece_of packet k).bytes) ks
lengths packet [] = refl
lengths packet (k ∷ ks) = ap (λ (xs : List ℕ). length (piece_of packet k).bytes ∷ xs) (lengths packet ks)

-- ---- the parts of a packet

pub part_rest : (xs : List ℕ) (from : ℕ) → length xs - from ≤ 184 → take (length xs - from) (drop from xs) ≡ take 184 (drop from xs)
part_rest xs from few =
    let len : length (drop from xs) ≡ length xs - from = length-drop from xs in
    take_all (length xs - from) (drop from xs) (omega (arith, len)) ∙ sym (take_all 184 (drop from xs) (omega (arith, len, few)))

pub part_full : (xs : List ℕ) (from : ℕ) → take (from + 184 - from) (drop from xs) ≡ take 184 (drop from xs)
part_full xs from = ap (λ (n : ℕ). take n (drop from xs)) (let e : from + 184 - from ≡ 184 = omega arith in e)

full-piece : (packet : List ℕ) (from : ℕ) → from + 184 ≤ length packet → length (take 184 (drop from packet)) ≡ 184
full-piece packet from within = length-take-le 184 (drop from packet) (let len = length-drop from packet in omega (arith, len, within))

last-piece : (packet : List ℕ) (from : ℕ) → length packet ≤ from + 184 → length (take 184 (drop from packet)) ≡ length packet - from
last-piece packet from within =
    let len : length (drop from packet) ≡ length packet - from = length-drop from packet in
    ap length (take_all 184 (drop from packet) (omega (arith, len, within))) ∙ len

pub place_stands : (n k : ℕ) → k < (n + 183) / 184 → 184 * k < n
place_stands n k within = omega (arith, within)

size-by : (packet : List ℕ) (from : ℕ) → from < length packet → (length packet < from + 184) ⊎ (from + 184 ≤ length packet) → HasPayloadSize (length (take 184 (drop from packet)))
size-by packet from within (inl rest) =
    let len : length (take 184 (drop from packet)) ≡ length packet - from = last-piece packet from (omega (arith, rest)) in
    record { some = omega (arith, len, within); fits = omega (arith, len, rest) }
size-by packet from within (inr full) =
    let len : length (take 184 (drop from packet)) ≡ 184 = full-piece packet from full in
    record { some = omega (arith, len); fits = omega (arith, len) }

pub part_size : (packet : List ℕ) (k : ℕ) (part : List ℕ) → k < (length packet + 183) / 184 → part ≡ take 184 (drop (184 * k) packet) → HasPayloadSize (length part)
part_size packet k part within is =
    subst (λ (p : List ℕ). HasPayloadSize (length p)) (sym is)
    (size-by packet (184 * k) (place_stands (length packet) k within) (cases_lt (length packet) (184 * k + 184)))

-- ---- all pieces

as-queued-of : (packet : List ℕ) (full : ℕ) → 1 ≤ length packet → full ≡ (length packet - 1) / 184
    → map (λ (piece : Payload). length piece.bytes) (pes_pieces packet) ≡ replicate full 184 ++ (length packet - 184 * full) ∷ []
as-queued-of packet full some full_is =
    let count : packets_for (length packet) ≡ suc full = omega (arith, some, full_is) in
    let each : (k : ℕ) → 0 ≤ k → k < 0 + full → length (piece_of packet k).bytes ≡ 184 = λ k low high. full-piece packet (184 * k) (omega (arith, high, some, full_is)) in
    let last : length (piece_of packet full).bytes ≡ length packet - 184 * full = last-piece packet (184 * full) (omega (arith, some, full_is)) in
    let end : length (piece_of packet (0 + full)).bytes ≡ length packet - 184 * full =
    ap (λ (k : ℕ). length (piece_of packet k).bytes) (let e : 0 + full ≡ full = omega arith in e) ∙ last in
    lengths packet (range_with_len 0 (packets_for (length packet)))
    ∙ ap (λ (m : ℕ). map (λ (k : ℕ). length (piece_of packet k).bytes) (range_with_len 0 m)) count
    ∙ cut-from (λ (k : ℕ). length (piece_of packet k).bytes) 184 (length packet - 184 * full) 0 full each end

pub as-queued : (packet : List ℕ) → 1 ≤ length packet → map (λ (piece : Payload). length piece.bytes) (pes_pieces packet) ≡ payloads (length packet)
as-queued packet some = as-queued-of packet ((length packet - 1) / 184) some refl
