-- Pieces of a PES packet, one more behind those before.
use Rattle.std.proofs.Common.{
  ◌≡◌,
  ℕ,
  zero,
  suc,
  ◌+◌,
  ◌-◌,
  ◌*◌,
  ◌/◌,
  ◌<◌,
  ◌≤◌,
  min,
  ◌^◌,
  List,
  [],
  ◌∷◌,
  ◌++◌,
  length,
  All,
  take,
  drop,
  get_or,
  map,
  refl,
  sym,
  ap,
  ◌∙◌,
  subst,
  arith,
  ℤ,
}
use Rattle.std.specs.List.{range_with_len}
use Rattle.std.proofs.lemmas.List.{append_assoc, append-nil, map-append, take_more, take_all, drop_more}
use Rattle.audio_frames.specs.declared.frame.Frame.{Frame}
use Rattle.elementary_streams.specs.declared.pes_packets.PlacedPacket.{PlacedPacket}
use Rattle.program_reader.specs.declared.program.AudioPiece.{AudioPiece}
use Rattle.program_reader.specs.Audio.{time_of_byte, payload_place, packet_size, piece_places, piece_size, placed_pieces, IsDue, IsPiece, ArePieces}
use Rattle.program_reader.specs.Dues.{Follow, HasTimes, IsTimeFrom}
use Rattle.program_reader.specs.Private.Pieces.{IsSized, TellsFrom, AddsPieces}

-- where the k-th piece of a PES packet stands
abbrev pub place_of : PlacedPacket → ℕ → ℕ → PlacedPacket × ℕ × ℕ
place_of packet at k = (packet, at, 184 * k)

-- where the first pieces stand
abbrev pub places_up_to : PlacedPacket → ℕ → ℕ → List (PlacedPacket × ℕ × ℕ)
places_up_to packet at k = map (place_of packet at) (range_with_len 0 k)

-- the first pieces of a PES packet are added to some
pub record PiecesSoFar (start : ℕ) (earliest : ℤ) (frames : List Frame) (packet : PlacedPacket) (at k : ℕ) (left : List Frame) (old new : List AudioPiece) : Type 0 where
  pub added : List AudioPiece
  pub new_is : new ≡ old ++ added
  pub pieces : ArePieces start earliest frames (places_up_to packet at k) added
  pub tells : TellsFrom (payload_place packet (min (184 * k) (packet_size packet) - 1)) frames left

range_push : (from n : ℕ) → range_with_len from (suc n) ≡ range_with_len from n ++ (from + n) ∷ []
range_push from zero = ap (λ (k : ℕ). k ∷ []) (omega arith)
range_push from (suc n) =
    let on : from + 1 + n ≡ from + suc n = omega arith in
    ap (λ (ks : List ℕ). from ∷ ks) (range_push (from + 1) n ∙ ap (λ (k : ℕ). range_with_len (from + 1) n ++ k ∷ []) on)

places_push : (packet : PlacedPacket) (at k : ℕ) → places_up_to packet at (k + 1) ≡ places_up_to packet at k ++ place_of packet at k ∷ []
places_push packet at k =
    let on : k + 1 ≡ suc k = omega arith in
    ap (λ (n : ℕ). places_up_to packet at n) on ∙ ap (map (place_of packet at)) (range_push 0 k ∙ ap (λ (n : ℕ). range_with_len 0 k ++ n ∷ []) (let same : 0 + k ≡ k = omega arith in same))
    ∙ map-append (place_of packet at) (range_with_len 0 k) (k ∷ [])

pieces_push : (start : ℕ) (earliest : ℤ) (frames : List Frame) (places : List (PlacedPacket × ℕ × ℕ)) (pieces : List AudioPiece) (place : PlacedPacket × ℕ × ℕ) (piece : AudioPiece) →
    ArePieces start earliest frames places pieces → IsPiece start earliest frames place.0 place.1 place.2 (piece_size (packet_size place.0) place.2) piece →
    ArePieces start earliest frames (places ++ place ∷ []) (pieces ++ piece ∷ [])
pieces_push start earliest frames [] [] place piece are is = (is, tt)
pieces_push start earliest frames [] (p ∷ ps) place piece are is = absurd are
pieces_push start earliest frames (x ∷ xs) [] place piece are is = absurd are
pieces_push start earliest frames (x ∷ xs) (p ∷ ps) place piece are is = (are.0, pieces_push start earliest frames xs ps place piece are.1 is)

-- a piece by frames that tell the same
piece_same : (start : ℕ) (earliest : ℤ) (frames left : List Frame) (packet : PlacedPacket) (at from size low : ℕ) (piece : AudioPiece) → TellsFrom low frames left →
    low ≤ payload_place packet from → low ≤ payload_place packet (from + size - 1) → IsPiece start earliest left packet at from size piece →
    IsPiece start earliest frames packet at from size piece
piece_same start earliest frames left packet at from size low piece tells first last is = record {
  due = subst (λ (time : ℤ). IsDue start earliest time piece.packet.due) (tells (payload_place packet from) first) is.due;
  gone = subst (λ (time : ℤ). IsDue start earliest time piece.packet.gone) (tells (payload_place packet (from + size - 1)) last) is.gone;
  bytes = is.bytes;
  begins = is.begins;
  at_is = is.at_is;
}

pub pieces_none : (start : ℕ) (earliest : ℤ) (frames : List Frame) (packet : PlacedPacket) (at : ℕ) (old : List AudioPiece) → PiecesSoFar start earliest frames packet at 0 frames old old
pieces_none start earliest frames packet at old = record { added = []; new_is = sym (append-nil old); pieces = tt; tells = λ later le. refl }

-- the k-th of so many pieces begins in the packet
pub begins_inside : (size k : ℕ) → k < (size + (184 - 1)) / 184 → 184 * k < size
begins_inside size k lt = omega arith

place_before : (from len size k more : ℕ) → 184 * k ≤ more → from + (min (184 * k) size - 1 - len) ≤ from + (more - len)
place_before from len size k more le = omega arith

piece_end : (size k : ℕ) → 184 * k < size → 184 * k ≤ 184 * k + min 184 (size - 184 * k) - 1
piece_end size k lt = omega arith

next_end : (from len size k : ℕ) → 184 * k < size → from + (184 * k + min 184 (size - 184 * k) - 1 - len) ≤ from + (min (184 * (k + 1)) size - 1 - len)
next_end from len size k lt = omega arith

pub piece_times : (earliest : ℤ) (frames left : List Frame) (packet : PlacedPacket) (k : ℕ) →
    TellsFrom (payload_place packet (min (184 * k) (packet_size packet) - 1)) frames left → HasTimes earliest frames packet →
    (byte : ℕ) → 184 * k ≤ byte → byte < packet_size packet → IsTimeFrom earliest (time_of_byte left (payload_place packet byte))
piece_times earliest frames left packet k tells times byte le lt =
    subst (λ (time : ℤ). IsTimeFrom earliest time) (sym (tells (payload_place packet byte) (place_before packet.from packet.header.len (packet_size packet) k byte le))) (times byte lt)

pub pieces_more : (start : ℕ) (earliest : ℤ) (frames left behind : List Frame) (packet : PlacedPacket) (at k : ℕ) (old now new : List AudioPiece) (piece : AudioPiece) →
    184 * k < packet_size packet → PiecesSoFar start earliest frames packet at k left old now →
    IsPiece start earliest left packet at (184 * k) (piece_size (packet_size packet) (184 * k)) piece →
    TellsFrom (payload_place packet (184 * k + piece_size (packet_size packet) (184 * k) - 1)) left behind → new ≡ now ++ piece ∷ [] →
    PiecesSoFar start earliest frames packet at (k + 1) behind old new
pieces_more start earliest frames left behind packet at k old now new piece lt so_far is tells pushed =
    let size = packet_size packet in
    let low = payload_place packet (min (184 * k) size - 1) in
    let first : low ≤ payload_place packet (184 * k) = place_before packet.from packet.header.len size k (184 * k) (omega arith) in
    let last : low ≤ payload_place packet (184 * k + piece_size size (184 * k) - 1) =
    place_before packet.from packet.header.len size k (184 * k + piece_size size (184 * k) - 1) (piece_end size k lt) in
    let whole : IsPiece start earliest frames packet at (184 * k) (piece_size size (184 * k)) piece =
    piece_same start earliest frames left packet at (184 * k) (piece_size size (184 * k)) low piece so_far.tells first last is in record {
      added = so_far.added ++ piece ∷ [];
      new_is = pushed ∙ ap (λ (ps : List AudioPiece). ps ++ piece ∷ []) so_far.new_is ∙ append_assoc old so_far.added (piece ∷ []);
      pieces = subst (λ (places : List (PlacedPacket × ℕ × ℕ)). ArePieces start earliest frames places (so_far.added ++ piece ∷ [])) (sym (places_push packet at k))
          (pieces_push start earliest frames (places_up_to packet at k) so_far.added (place_of packet at k) piece so_far.pieces whole);
      tells = λ later le. tells later (at_most (payload_place packet (184 * k + piece_size size (184 * k) - 1)) (payload_place packet (min (184 * (k + 1)) size - 1)) later
          (next_end packet.from packet.header.len size k lt) le)
          ∙ so_far.tells later (at_most low (payload_place packet (min (184 * (k + 1)) size - 1)) later (place_step packet.from packet.header.len size k) le);
    }
  where
    at_most : (a b c : ℕ) → a ≤ b → b ≤ c → a ≤ c
    at_most a b c ab bc = omega arith

    place_step : (from len size k : ℕ) → from + (min (184 * k) size - 1 - len) ≤ from + (min (184 * (k + 1)) size - 1 - len)
    place_step from len size k = omega arith

pub pieces_all : (start : ℕ) (earliest : ℤ) (frames left : List Frame) (packet : PlacedPacket) (at k : ℕ) (old new : List AudioPiece) →
    k ≡ (packet_size packet + (184 - 1)) / 184 → PiecesSoFar start earliest frames packet at k left old new → AddsPieces start earliest frames packet at old new
pieces_all start earliest frames left packet at k old new count so_far = record {
  added = so_far.added;
  new_is = so_far.new_is;
  pieces = subst (λ (places : List (PlacedPacket × ℕ × ℕ)). ArePieces start earliest frames places so_far.added) (all_places packet at k count) so_far.pieces;
}
  where
    maps : {A : Type 0} (f : ℕ → A) (g : ℕ → ℕ) (ks : List ℕ) → map (λ k. f (g k)) ks ≡ map f (map g ks)
    maps f g [] = refl
    maps f g (k ∷ ks) = ap (λ xs. f (g k) ∷ xs) (maps f g ks)

    all_places : (packet : PlacedPacket) (at k : ℕ) → k ≡ (packet_size packet + (184 - 1)) / 184 →
        places_up_to packet at k ≡ map (λ from. (packet, at, from)) (piece_places (packet_size packet))
    all_places packet at k count =
        ap (λ (n : ℕ). places_up_to packet at n) count ∙ maps (λ (from : ℕ). (packet, at, from)) (λ (k : ℕ). 184 * k) (range_with_len 0 ((packet_size packet + (184 - 1)) / 184))

pub pieces_left : (start : ℕ) (earliest : ℤ) (frames left : List Frame) (packet : PlacedPacket) (at k : ℕ) (old new : List AudioPiece) →
    k ≡ (packet_size packet + (184 - 1)) / 184 → packet.from < packet.end → PiecesSoFar start earliest frames packet at k left old new → TellsFrom packet.end frames left
pieces_left start earliest frames left packet at k old new count some so_far = λ later le.
    so_far.tells later (end_of packet.from packet.end packet.header.len k later count some le)
  where
    end_of : (from end len k later : ℕ) → k ≡ (len + (end - from) + (184 - 1)) / 184 → from < end → end ≤ later → from + (min (184 * k) (len + (end - from)) - 1 - len) ≤ later
    end_of from end len k later count some le = omega arith

pub count_small : (size k count : ℕ) → size < 2 ^ 42 → k < count → count ≡ (size + (184 - 1)) / 184 → 184 * k < 18446744073709551616
count_small size k count small lt is = omega arith

pub count_inside : (size k count : ℕ) → k < count → count ≡ (size + (184 - 1)) / 184 → 184 * k < size
count_inside size k count lt is = omega arith

pub count_end : (size k count : ℕ) → k ≤ count → count ≤ k → count ≡ (size + (184 - 1)) / 184 → k ≡ (size + (184 - 1)) / 184
count_end size k count le ge is = omega arith

-- ---- PES packets, one behind the other

-- bytes of PES packets
abbrev pub bytes_of : List PlacedPacket → ℕ
bytes_of [] = 0
bytes_of (packet ∷ packets) = packet_size packet + bytes_of packets

pub record PacketsSoFar (start : ℕ) (earliest : ℤ) (frames : List Frame) (packets : List PlacedPacket) (i at : ℕ) (left : List Frame) (pieces : List AudioPiece) : Type 0 where
  pub are : ArePieces start earliest frames (placed_pieces 0 (take i packets)) pieces
  pub at_is : at ≡ bytes_of (take i packets)
  pub small : at ≤ i * 4398046511104
  pub from : ℕ
  pub follow : Follow from (drop i packets)
  pub tells : TellsFrom from frames left

bytes_push : (packets : List PlacedPacket) (packet : PlacedPacket) → bytes_of (packets ++ packet ∷ []) ≡ bytes_of packets + packet_size packet
bytes_push [] packet = omega arith
bytes_push (p ∷ ps) packet = omega (arith, bytes_push ps packet)

abbrev packet_places : PlacedPacket → ℕ → List (PlacedPacket × ℕ × ℕ)
packet_places packet at = map (λ from. (packet, at, from)) (piece_places (packet_size packet))

placed_push : (at : ℕ) (packets : List PlacedPacket) (packet : PlacedPacket) → placed_pieces at (packets ++ packet ∷ []) ≡ placed_pieces at packets ++ packet_places packet (at + bytes_of packets)
placed_push at [] packet =
    let same : at ≡ at + 0 = omega arith in append-nil (packet_places packet at) ∙ ap (packet_places packet) same
placed_push at (p ∷ ps) packet =
    let on : at + packet_size p + bytes_of ps ≡ at + (packet_size p + bytes_of ps) = omega arith in
    ap (λ (xs : List (PlacedPacket × ℕ × ℕ)). packet_places p at ++ xs)
    (placed_push (at + packet_size p) ps packet ∙ ap (λ (n : ℕ). placed_pieces (at + packet_size p) ps ++ packet_places packet n) on)
    ∙ sym (append_assoc (packet_places p at) (placed_pieces (at + packet_size p) ps) (packet_places packet (at + (packet_size p + bytes_of ps))))

pieces_both : (start : ℕ) (earliest : ℤ) (frames : List Frame) (xs ys : List (PlacedPacket × ℕ × ℕ)) (ps qs : List AudioPiece) → ArePieces start earliest frames xs ps →
    ArePieces start earliest frames ys qs → ArePieces start earliest frames (xs ++ ys) (ps ++ qs)
pieces_both start earliest frames [] ys [] qs one two = two
pieces_both start earliest frames [] ys (p ∷ ps) qs one two = absurd one
pieces_both start earliest frames (x ∷ xs) ys [] qs one two = absurd one
pieces_both start earliest frames (x ∷ xs) ys (p ∷ ps) qs one two = (one.0, pieces_both start earliest frames xs ys ps qs one.1 two)

-- pieces by frames that tell the same of each byte of a packet
packet_same : (start : ℕ) (earliest : ℤ) (frames left : List Frame) (packet : PlacedPacket) (at low : ℕ) (froms : List ℕ) (pieces : List AudioPiece) → TellsFrom low frames left →
    low ≤ packet.from → ArePieces start earliest left (map (λ from. (packet, at, from)) froms) pieces → ArePieces start earliest frames (map (λ from. (packet, at, from)) froms) pieces
packet_same start earliest frames left packet at low [] [] tells le are = tt
packet_same start earliest frames left packet at low [] (p ∷ ps) tells le are = absurd are
packet_same start earliest frames left packet at low (x ∷ xs) [] tells le are = absurd are
packet_same start earliest frames left packet at low (x ∷ xs) (p ∷ ps) tells le are = (
  piece_same start earliest frames left packet at x (piece_size (packet_size packet) x) low p tells (omega (arith, le)) (omega (arith, le)) are.0,
  packet_same start earliest frames left packet at low xs ps tells le are.1,
)

pub packets_none : (start : ℕ) (earliest : ℤ) (frames : List Frame) (packets : List PlacedPacket) (pieces : List AudioPiece) → Follow 0 packets → pieces ≡ [] →
    PacketsSoFar start earliest frames packets 0 0 frames pieces
packets_none start earliest frames packets pieces follow none = record {
  are = subst (ArePieces start earliest frames []) (sym none) tt;
  at_is = refl;
  small = omega arith;
  from = 0;
  follow = follow;
  tells = λ later le. refl;
}

pub record NextPacket (earliest : ℤ) (left : List Frame) (packets : List PlacedPacket) (i at from : ℕ) (packet : PlacedPacket) : Type 0 where
  pub sized : IsSized at packet
  pub sized_first : IsSized 0 packet
  pub behind : from ≤ packet.from
  pub times : HasTimes earliest left packet
  pub follow : Follow packet.end (drop (i + 1) packets)

pub next_packet : (start : ℕ) (earliest : ℤ) (frames left : List Frame) (packets : List PlacedPacket) (i at : ℕ) (pieces : List AudioPiece) (d : PlacedPacket) → i < length packets →
    length packets ≤ 4000000 → All (HasTimes earliest frames) packets →
    (so_far : PacketsSoFar start earliest frames packets i at left pieces) → NextPacket earliest left packets i at so_far.from (get_or packets i d)
next_packet start earliest frames left packets i at pieces d lt few times so_far =
    let packet = get_or packets i d in
    let split : drop i packets ≡ packet ∷ drop (i + 1) packets = drop_more packets i d lt in
    let follow : Follow so_far.from (packet ∷ drop (i + 1) packets) = subst (Follow so_far.from) split so_far.follow in
    let mine : HasTimes earliest frames packet = times i d lt in record {
      sized = record { some = follow.1; small = follow.2; place = small at i so_far.small (omega (arith, lt, few)) };
      sized_first = record { some = follow.1; small = follow.2; place = omega arith };
      behind = follow.0;
      times = λ byte inside. subst (λ (time : ℤ). IsTimeFrom earliest time) (sym (so_far.tells (payload_place packet byte) (omega (arith, follow.0)))) (mine byte inside);
      follow = follow.3;
    }
  where
    small : (at i : ℕ) → at ≤ i * 4398046511104 → i < 4000000 → at + 2 ^ 42 < 2 ^ 64
    small at i le lt = omega arith

pub packets_more : (start : ℕ) (earliest : ℤ) (frames left behind : List Frame) (packets : List PlacedPacket) (i at size : ℕ) (old new : List AudioPiece) (d : PlacedPacket) →
    i < length packets → (so_far : PacketsSoFar start earliest frames packets i at left old) → NextPacket earliest left packets i at so_far.from (get_or packets i d) →
    size ≡ packet_size (get_or packets i d) → size < 2 ^ 42 → AddsPieces start earliest left (get_or packets i d) at old new → TellsFrom (get_or packets i d).end left behind →
    PacketsSoFar start earliest frames packets (i + 1) (at + size) behind new
packets_more start earliest frames left behind packets i at size old new d lt so_far next size_is small adds tells =
    let packet = get_or packets i d in
    let more : take (i + 1) packets ≡ take i packets ++ packet ∷ [] = take_more packets i d lt in
    let added : ArePieces start earliest frames (packet_places packet at) adds.added =
    packet_same start earliest frames left packet at so_far.from (piece_places (packet_size packet)) adds.added so_far.tells next.behind adds.pieces in
    let places : placed_pieces 0 (take (i + 1) packets) ≡ placed_pieces 0 (take i packets) ++ packet_places packet at =
    ap (placed_pieces 0) more ∙ placed_push 0 (take i packets) packet
    ∙ ap (λ (n : ℕ). placed_pieces 0 (take i packets) ++ packet_places packet n) (let same : 0 + bytes_of (take i packets) ≡ at = omega (arith, so_far.at_is) in same) in record {
      are = subst (λ (xs : List (PlacedPacket × ℕ × ℕ)). ArePieces start earliest frames xs new) (sym places)
          (subst (λ (ps : List AudioPiece). ArePieces start earliest frames (placed_pieces 0 (take i packets) ++ packet_places packet at) ps) (sym adds.new_is)
          (pieces_both start earliest frames (placed_pieces 0 (take i packets)) (packet_places packet at) old adds.added so_far.are added));
      at_is = sum at size (bytes_of (take i packets)) (packet_size packet) so_far.at_is size_is ∙ sym (bytes_push (take i packets) packet) ∙ sym (ap bytes_of more);
      small = bound at size i so_far.small small;
      from = packet.end;
      follow = next.follow;
      tells = λ later le. tells later le ∙ so_far.tells later (omega (arith, le, next.behind, next.sized.some));
    }
  where
    sum : (at size bytes more : ℕ) → at ≡ bytes → size ≡ more → at + size ≡ bytes + more
    sum at size bytes more a s = omega arith

    bound : (at size i : ℕ) → at ≤ i * 4398046511104 → size < 2 ^ 42 → at + size ≤ (i + 1) * 4398046511104
    bound at size i le lt = omega arith

pub packets_all : (start : ℕ) (earliest : ℤ) (frames left : List Frame) (packets : List PlacedPacket) (i at : ℕ) (pieces : List AudioPiece) → length packets ≤ i →
    PacketsSoFar start earliest frames packets i at left pieces → ArePieces start earliest frames (placed_pieces 0 packets) pieces
packets_all start earliest frames left packets i at pieces le so_far =
    subst (λ (ps : List PlacedPacket). ArePieces start earliest frames (placed_pieces 0 ps) pieces) (take_all i packets le) so_far.are
