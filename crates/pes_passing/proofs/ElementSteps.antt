-- The PES packets of a program stream, one element further.
use Rattle.std.proofs.Common.{◌≡◌, ℕ, ◌+◌, ◌≤◌, ◌==◌, ◌&&◌, Bool, true, false, List, [], ◌∷◌, ◌++◌, length, Option, Some, None, is_some, IsSome}
use Rattle.std.proofs.Common.{refl, sym, ap, ◌∙◌, subst, arith, length-append}
use Rattle.std.specs.Option.{option_to_list}
use Rattle.std.proofs.lemmas.List.Sums.{sum_by-append}
use Rattle.shelf_io.specs.Source.{source_bytes_most}
use Rattle.ts_demux.specs.declared.demuxed.PesUnit.{PesUnit}
use Rattle.ts_demux.specs.Pass.{IsWhole}
use Rattle.program_stream.specs.Elements.{Element, all_spelled, element_bytes}
use Rattle.program_stream.specs.PassingElements.{HasPassed as HavePassed, taken_of as taken_behind}
use Rattle.program_stream.specs.Split.{HasElements}
use Rattle.program_stream.specs.Streams.{packets_of}
use Rattle.program_stream.proofs.Packets.{packets_of-other, packets_of-own}
use Rattle.program_stream.proofs.PassingSteps.{taken_left}
use Rattle.program_stream.proofs.StreamSizes.{packets_few, packets_small}
use Rattle.pes_passing.specs.declared.element_packets.ElementPackets.{ElementPackets}
use Rattle.pes_passing.specs.declared.open_packet.OpenPacket.{OpenPacket}
use Rattle.pes_passing.specs.ElementPackets.{AreIn, Goes, HasPassed, taken_of}
use Rattle.pes_passing.specs.PassingPackets.{AreSplit, begun_packet, open_between, open_of, size_of}
use Rattle.pes_passing.specs.Private.OpenPacket.{Counts, ended_behind}
use Rattle.pes_passing.proofs.Splitting.{counted, ended_is}

-- ---- what is open

-- nothing has begun behind the held one
held_is : (packet : OpenPacket) → packet.begun ≡ None → open_of packet ≡ packet.held
held_is packet turned = ap (λ (begun : Option ℕ). open_between begun packet.first.items packet.held) turned

-- one packet more, which is whole
split_packet : (all ended : List PesUnit) (last : Option PesUnit) (packet : PesUnit) → AreSplit all ended last → AreSplit (all ++ packet ∷ []) (ended ++ option_to_list last) (Some packet)
split_packet all ended last packet split = record {
  packets = ap (λ (xs : List PesUnit). xs ++ packet ∷ []) split.packets;
  none = λ no. absurd (let bad : Some packet ≡ None = no in cc);
}

-- ---- one element more

-- none of the stream's
pub in_same : (before : List Element) (element : Element) (ended : List PesUnit) (packets : ElementPackets) → (element.id == packets.id) ≡ false → AreIn before ended packets
    → AreIn (before ++ element ∷ []) ended packets
in_same before element ended packets other was = record {
  split = subst (λ (all : List PesUnit). AreSplit all ended (open_of packets.pes)) (sym (packets_of-other before element packets.id other)) was.split;
  count_is = was.count_is;
}

-- one of its
pub in_added : (before : List Element) (element : Element) (ended : List PesUnit) (old new : ElementPackets) (at : ℕ) (bytes : List ℕ) (ends : Bool) → old.pes.begun ≡ None → new.id ≡ old.id
    → element.id ≡ old.id → bytes ≡ element_bytes element → at ≡ length (all_spelled before) + element.zeros → ends ≡ (true && is_some old.pes.held)
    → open_of new.pes ≡ Some (begun_packet at bytes) → Counts ends old.pes new.pes → AreIn before ended old → AreIn (before ++ element ∷ []) (ended_behind ends ended new.pes.held) new
in_added before element ended old new at bytes ends turned same own bytes_are place is open_is counts was =
    let all = before ++ element ∷ [] in
    let unit = begun_packet at bytes in
    let longer : packets_of all new.id ≡ packets_of before old.id ++ unit ∷ [] =
    ap (packets_of all) (same ∙ sym own) ∙ packets_of-own before element at place
    ∙ ap (λ (id : ℕ). packets_of before id ++ begun_packet at (element_bytes element) ∷ []) own
    ∙ ap (λ (xs : List ℕ). packets_of before old.id ++ begun_packet at xs ∷ []) (sym bytes_are) in
    let before_it : AreSplit (packets_of before old.id) ended old.pes.held =
    subst (λ (last : Option PesUnit). AreSplit (packets_of before old.id) ended last) (held_is old.pes turned) was.split in
    let split : AreSplit (packets_of before old.id ++ unit ∷ []) (ended_behind ends ended new.pes.held) (Some unit) =
    subst (λ (xs : List PesUnit). AreSplit (packets_of before old.id ++ unit ∷ []) xs (Some unit)) (ended_is true old.pes new.pes ends ended is counts)
    (split_packet (packets_of before old.id) ended old.pes.held unit before_it) in
    record {
      split = subst (λ (xs : List PesUnit). AreSplit xs (ended_behind ends ended new.pes.held) (open_of new.pes)) (sym longer)
          (subst (λ (last : Option PesUnit). AreSplit (packets_of before old.id ++ unit ∷ []) (ended_behind ends ended new.pes.held) last) (sym open_is) split);
      count_is = (counted true old.pes new.pes ends ended is counts was.count_is).0;
    }

-- ---- out of a source

-- nothing has passed
pub none_passed : (left after : Option (List ℕ)) (most most_after : ℕ) (packets : ElementPackets) → packets.pes.held ≡ None → packets.pes.begun ≡ None → packets.pes.count ≡ 0
    → HavePassed left after most most_after [] packets.elements → HasPassed left after most most_after [] packets
none_passed left after most most_after packets held begun count passed = record {
  elements = [];
  passed = passed;
  are_in = record { split = rw (begun, held) (record { packets = refl; none = λ _. refl }); count_is = count };
}

-- the packet that is open is held
pub turned_passed : (left after : Option (List ℕ)) (most most_after : ℕ) (ended : List PesUnit) (old : ElementPackets) (pes : OpenPacket) → open_of pes ≡ open_of old.pes → pes.count ≡ old.pes.count
    → HasPassed left after most most_after ended old → HasPassed left after most most_after ended (record { elements = old.elements; id = old.id; pes = pes })
turned_passed left after most most_after ended old pes open_is count_is was = record {
  elements = was.elements;
  passed = was.passed;
  are_in = record {
    split = subst (λ (last : Option PesUnit). AreSplit (packets_of was.elements old.id) ended last) (sym open_is) was.are_in.split;
    count_is = count_is ∙ was.are_in.count_is;
  };
}

-- what has ended is no more than was taken, and that no more than a source gives
pub within : (left after : Option (List ℕ)) (most most_after : ℕ) (ended : List PesUnit) (packets : ElementPackets) → HasPassed left after most most_after ended packets
    → (length ended ≤ taken_of packets) × (size_of ended ≤ taken_of packets) × (taken_of packets ≤ source_bytes_most)
within left after most most_after ended packets was =
    let all = packets_of was.elements packets.id in
    let last = option_to_list (open_of packets.pes) in
    let split = was.are_in.split.packets in
    let spelled = was.passed.place in
    let held = was.passed.held in (
      omega (arith, ap length split, length-append ended last, packets_few 0 packets.id was.elements, spelled, held),
      omega (arith, ap size_of split, sum_by-append (λ (p : PesUnit). length p.bytes) ended last, packets_small 0 packets.id was.elements, spelled, held),
      omega (arith, was.passed.most_few, taken_left left after most most_after was.elements packets.elements was.passed),
    )

-- the PES packets of a file are no more than its bytes
pub sizes_in : (file : List ℕ) (elements : List Element) (cut id : ℕ) → HasElements file elements cut → (length (packets_of elements id) ≤ length file) × (size_of (packets_of elements id) ≤ length file)
sizes_in file elements cut id are =
    let within : length (all_spelled elements) ≤ length file = omega (arith, ap length are.are.bytes_are, length-append (all_spelled elements) are.are.rest) in (omega (arith, packets_few 0 id elements, within), omega (arith, packets_small 0 id elements, within))

-- the source has ended
pub at_end : (left after : Option (List ℕ)) (most most_after : ℕ) (elements : List Element) (cut : ℕ) (ended : List PesUnit) (packets : ElementPackets) → packets.pes.begun ≡ None
    → AreIn elements ended packets → IsWhole left after most most_after [] (λ file. HasElements file elements cut × (length file ≡ taken_behind packets.elements))
    → Goes false left after most most_after ended packets
at_end left after most most_after elements cut ended packets turned are_in whole = record {
  seen = whole.seen;
  passes = whole.passes;
  end = whole.end;
  whole = (
    record {
      elements = elements;
      cut = cut;
      elements_are = whole.whole.0;
      split = subst (λ (last : Option PesUnit). AreSplit (packets_of elements packets.id) ended last) (held_is packets.pes turned) are_in.split;
      count_is = are_in.count_is;
    },
    whole.whole.1,
  );
}

-- a packet that has ended is held
pub one_ended : (left after : Option (List ℕ)) (most most_after : ℕ) (ended : List PesUnit) (packets : ElementPackets) (last : Option PesUnit) → packets.pes.held ≡ last → IsSome last
    → HasPassed left after most most_after (ended_behind true ended last) packets → Goes true left after most most_after ended packets
one_ended left after most most_after ended packets None held some passed = absurd (let bad : false ≡ true = some in cc)
one_ended left after most most_after ended packets (Some packet) held some passed = (packet, held, passed)
