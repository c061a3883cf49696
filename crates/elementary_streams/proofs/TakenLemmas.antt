-- PES packets before a last one, and what is held behind one more.
use Rattle.std.proofs.Common.{
  ◌≡◌,
  ◌⊎◌,
  ℕ,
  suc,
  ◌+◌,
  ◌<◌,
  Bool,
  true,
  false,
  List,
  [],
  ◌∷◌,
  ◌++◌,
  length,
  Option,
  None,
  Some,
  refl,
  sym,
  ap,
  ◌∙◌,
  subst,
  inl,
  inr,
  arith,
  All,
  take,
  drop,
  get_or,
  if◌then◌else◌,
}
use Rattle.std.proofs.Math.Seq.{split_at}
use Rattle.std.proofs.lemmas.List.{append_assoc, append-nil, length-append}
use Rattle.std.proofs.lemmas.List.Elements.{All-tail}
use Rattle.std.proofs.lemmas.Grind.{flat_map-append}
use Rattle.pes_units.specs.declared.pes_header.PesHeader.{PesHeader}
use Rattle.pes_units.specs.PesHeader.{pes_fields_of}
use Rattle.pes_units.specs.PesPackets.{packet_refusal, last_refusal}
use Rattle.ts_demux.specs.declared.demuxed.PesUnit.{PesUnit}
use Rattle.elementary_streams.specs.declared.pes_packets.PlacedPacket.{PlacedPacket}
use Rattle.elementary_streams.specs.declared.pes_packets.TakenPackets.{TakenPackets}
use Rattle.elementary_streams.specs.declared.stream_fault.StreamFault.{StreamFault}
use Rattle.elementary_streams.specs.declared.stream_fault.StreamFault.TheVariants.{OutOfMemory}
use Rattle.elementary_streams.specs.Packets.{fault_before, IsPacketFault, AreSound, taken, packets_dropped, pes_payload_of, joined, placed_from}
use Rattle.elementary_streams.specs.Taken.{Holds, AreTaken}
use Rattle.elementary_streams.specs.Private.TakenPackets.{IsFaultOf, last_taken}

-- a packet that others follow has no fault
abbrev pub IsWhole : Bool → PesUnit → Type 0
IsWhole video packet = packet_refusal video packet.bytes ≡ None

pub sound_of : (video : Bool) (others : List PesUnit) (last : PesUnit) → All (IsWhole video) others → last_refusal video last.bytes ≡ None → AreSound video (others ++ last ∷ [])
sound_of video [] last all is = (is, tt)
sound_of video (x ∷ []) last all is = (all 0 x (omega arith), sound_of video [] last (All-tail (IsWhole video) x [] all) is)
sound_of video (x ∷ y ∷ ys) last all is = (all 0 x (omega arith), sound_of video (y ∷ ys) last (All-tail (IsWhole video) x (y ∷ ys) all) is)

pub taken_of : (video : Bool) (others : List PesUnit) (last : PesUnit) → taken video (others ++ last ∷ []) ≡ others ++ last_taken video last
taken_of video [] last = refl
taken_of video (x ∷ []) last = ap (λ (packets : List PesUnit). x ∷ packets) (taken_of video [] last)
taken_of video (x ∷ y ∷ ys) last = ap (λ (packets : List PesUnit). x ∷ packets) (taken_of video (y ∷ ys) last)

pub dropped_of : (video : Bool) (others : List PesUnit) (last : PesUnit) → packets_dropped video (others ++ last ∷ []) ≡ packets_dropped video (last ∷ [])
dropped_of video [] last = refl
dropped_of video (x ∷ []) last = refl
dropped_of video (x ∷ y ∷ ys) last = dropped_of video (y ∷ ys) last

-- where a packet stands whose payload begins at a place
abbrev pub placed_at : ℕ → PesUnit → PlacedPacket
placed_at from packet = record { from = from; end = from + length (pes_payload_of packet); header = pes_fields_of packet.bytes }

pub placed_push : (from : ℕ) (packets : List PesUnit) (packet : PesUnit) →
    placed_from from (packets ++ packet ∷ []) ≡ placed_from from packets ++ placed_at (from + length (joined packets)) packet ∷ []
placed_push from [] packet = ap (λ (n : ℕ). placed_at n packet ∷ []) (omega arith)
placed_push from (x ∷ xs) packet =
    ap (λ (placed : List PlacedPacket). placed_at from x ∷ placed) (
    placed_push (from + length (pes_payload_of x)) xs packet
    ∙ ap (λ (n : ℕ). placed_from (from + length (pes_payload_of x)) xs ++ placed_at n packet ∷ [])
    (omega (arith, length-append (pes_payload_of x) (joined xs)))
    )

pub joined_push : (packets : List PesUnit) (packet : PesUnit) → joined (packets ++ packet ∷ []) ≡ joined packets ++ pes_payload_of packet
joined_push packets packet = flat_map-append pes_payload_of packets (packet ∷ []) ∙ ap (λ (bytes : List ℕ). joined packets ++ bytes) (append-nil (pes_payload_of packet))

-- one more packet, whose payload goes behind those before
pub held_more : (before : List PesUnit) (packet : PesUnit) (payload bytes : List ℕ) (placed : List PlacedPacket) (from end : ℕ) (header : PesHeader) →
    payload ≡ joined before → placed ≡ placed_from 0 before → header ≡ pes_fields_of packet.bytes → bytes ≡ drop header.len packet.bytes → from ≡ length payload →
    end ≡ length (payload ++ bytes) →
    (payload ++ bytes ≡ joined (before ++ packet ∷ []))
    × (placed ++ record { from = from; end = end; header = header } ∷ [] ≡ placed_from 0 (before ++ packet ∷ []))
held_more before packet payload bytes placed from end header ip il ih ib fe ie =
    let is_payload : bytes ≡ pes_payload_of packet = ib ∙ ap (λ (h : PesHeader). drop h.len packet.bytes) ih in
    let size : length payload ≡ length (joined before) = ap (λ (xs : List ℕ). length xs) ip in
    let more : length bytes ≡ length (pes_payload_of packet) = ap (λ (xs : List ℕ). length xs) is_payload in
    let f : from ≡ 0 + length (joined before) = omega arith in
    let e : end ≡ (0 + length (joined before)) + length (pes_payload_of packet) = omega (arith, length-append payload bytes) in (
      ap (λ (xs : List ℕ). xs ++ bytes) ip ∙ ap (λ (xs : List ℕ). joined before ++ xs) is_payload ∙ sym (joined_push before packet),
      ap (λ (xs : List PlacedPacket). xs ++ record { from = from; end = end; header = header } ∷ []) il
          ∙ ap (λ (p : PlacedPacket). placed_from 0 before ++ p ∷ []) (same from end header f e ih) ∙ sym (placed_push 0 before packet),
    )
  where
    same : (from end : ℕ) (header : PesHeader) {f e : ℕ} {h : PesHeader} → from ≡ f → end ≡ e → header ≡ h →
        record { from = from; end = end; header = header } ≡ (let p : PlacedPacket = record { from = f; end = e; header = h } in p)
    same from end header f e h = rw (f, e, h) refl

-- what a reader of a last packet answers, which may be dropped
pub read_some : (dropped : Bool) (read : Option PesHeader) (header fields : PesHeader) → read ≡ (if dropped then None else Some fields) → read ≡ Some header →
    (dropped ≡ false) × (header ≡ fields)
read_some true read header fields is some = absurd (let bad : None ≡ Some header = sym is ∙ some in cc)
read_some false read header fields is some = (refl, let same : Some header ≡ Some fields = sym some ∙ is in cc)

pub read_none : (dropped : Bool) (read : Option PesHeader) (fields : PesHeader) → read ≡ (if dropped then None else Some fields) → read ≡ None → dropped ≡ true
read_none true read fields is none = refl
read_none false read fields is none = absurd (let bad : None ≡ Some fields = sym none ∙ is in cc)

pub count_dropped : (dropped : Bool) → dropped ≡ true → ◌≡◌ {A = ℕ} 1 (if dropped then 1 else 0)
count_dropped dropped is = rw is refl

pub count_taken : (dropped : Bool) → dropped ≡ false → ◌≡◌ {A = ℕ} 0 (if dropped then 1 else 0)
count_taken dropped is = rw is refl

pub holds_taken : (dropped : Bool) (before : List PesUnit) (packet : PesUnit) (held : TakenPackets) → dropped ≡ false → Holds (before ++ packet ∷ []) held →
    Holds (before ++ (if dropped then [] else packet ∷ [])) held
holds_taken dropped before packet held is holds = rw is holds

pub holds_dropped : (dropped : Bool) (before : List PesUnit) (packet : PesUnit) (held : TakenPackets) → dropped ≡ true → Holds before held →
    Holds (before ++ (if dropped then [] else packet ∷ [])) held
holds_dropped dropped before packet held is holds = rw is (subst (λ (packets : List PesUnit). Holds packets held) (sym (append-nil before)) holds)

-- ---- the first refusal

pub whole_before : (video : Bool) (packet last : PesUnit) (more : List PesUnit) → fault_before video (more ++ last ∷ []) packet ≡ packet_refusal video packet.bytes
whole_before video packet last [] = refl
whole_before video packet last (x ∷ xs) = refl

pub refused_whole : (video : Bool) (packets others : List PesUnit) (last item : PesUnit) (i : ℕ) (fault : StreamFault) → packets ≡ others ++ last ∷ [] →
    i < length others → item ≡ get_or others i item → All (IsWhole video) (take i others) → IsFaultOf item.at (packet_refusal video item.bytes) fault →
    (fault ≡ OutOfMemory) ⊎ IsPacketFault video packets fault
refused_whole video packets others last item i fault split lt is all (inl memory) = inl memory
refused_whole video packets others last item i fault split lt is all (inr found) = inr (record {
  before = take i others;
  packet = item;
  more = drop (suc i) others ++ last ∷ [];
  split = split ∙ ap (λ (xs : List PesUnit). xs ++ last ∷ []) (split_at others i item lt ∙ ap (λ (x : PesUnit). take i others ++ x ∷ drop (suc i) others) (sym is))
      ∙ append_assoc (take i others) (item ∷ drop (suc i) others) (last ∷ []);
  sound = all;
  found = found.0;
  refused = whole_before video item last (drop (suc i) others) ∙ found.1;
  fault_is = found.2;
})

pub refused_last : (video : Bool) (packets others : List PesUnit) (last : PesUnit) (fault : StreamFault) → packets ≡ others ++ last ∷ [] →
    All (IsWhole video) others → IsFaultOf last.at (last_refusal video last.bytes) fault → (fault ≡ OutOfMemory) ⊎ IsPacketFault video packets fault
refused_last video packets others last fault split all (inl memory) = inl memory
refused_last video packets others last fault split all (inr found) = inr (record {
  before = others;
  packet = last;
  more = [];
  split = split;
  sound = all;
  found = found.0;
  refused = found.1;
  fault_is = found.2;
})

pub all_taken : (video : Bool) (packets others : List PesUnit) (last : PesUnit) (held : TakenPackets) → packets ≡ others ++ last ∷ [] → All (IsWhole video) others →
    last_refusal video last.bytes ≡ None → Holds (others ++ last_taken video last) held → held.dropped ≡ packets_dropped video (last ∷ []) → AreTaken video packets held
all_taken video packets others last held split all none holds count = record {
  sound = subst (AreSound video) (sym split) (sound_of video others last all none);
  holds = subst (λ (xs : List PesUnit). Holds xs held) (sym (ap (taken video) split ∙ taken_of video others last)) holds;
  dropped = count ∙ sym (ap (packets_dropped video) split ∙ dropped_of video others last);
}
