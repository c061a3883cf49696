-- A reader of PES packets that stands in a file, one transport packet further.
use Rattle.std.proofs.Common.{◌≡◌, ℕ, ◌+◌, ◌*◌, ◌<◌, ◌≤◌, ◌&&◌, Bool, true, false, cond, List, [], ◌∷◌, ◌++◌, length, slice_get, Option, Some, None, is_some}
use Rattle.std.proofs.Common.{Result, Ok, Err, IfOk, IfErr, OnOk, refl, sym, ap, ◌∙◌, subst, arith, length-append}
use Rattle.std.specs.Option.{option_map, option_to_list}
use Rattle.std.proofs.lemmas.List.{append-nil}
use Rattle.bit_lists.specs.Payload.{CarriedPayload}
use Rattle.ts_packets.specs.TransportStream.{piece_count}
use Rattle.ts_demux.specs.declared.carried_packets.CarriedPackets.{CarriedPackets}
use Rattle.ts_demux.specs.declared.carried_packets.StreamPayload.{StreamPayload}
use Rattle.ts_demux.specs.declared.demux_fault.DemuxFault.{DemuxFault}
use Rattle.ts_demux.specs.declared.demuxed.PesUnit.{PesUnit}
use Rattle.ts_demux.specs.CarriedPackets.{AddsFound, added_to, as_carried, carried_before, pids_read, StandsAt}
use Rattle.ts_demux.specs.Demux.{IsStreamFault}
use Rattle.ts_demux.proofs.CarriedSteps.{own_added}
use Rattle.ts_demux.proofs.GatherSteps.{sound_all, sound_more}
use Rattle.ts_demux.proofs.Gathering.{units_of}
use Rattle.pes_passing.specs.declared.open_packet.OpenPacket.{OpenPacket}
use Rattle.pes_passing.specs.declared.passing_packets.PassingPackets.{PassingPackets}
use Rattle.pes_passing.specs.PassingPackets.{AreSplit, begun_packet, open_between, open_of, packets_before, pids_of, size_of, StandsAtEnd, StandsIn}
use Rattle.pes_passing.specs.Private.OpenPacket.{Counts, ended_behind, Holds, with_payload}
use Rattle.pes_passing.proofs.Splitting.{counted, ended_is, sized, split_more}

-- a transport packet that brings nothing to the stream
pub stands_same : (file : List ℕ) (ended : List PesUnit) (old : PassingPackets) (packets : CarriedPackets) (found : Option StreamPayload) → pids_read packets ≡ pids_of old
    → AddsFound file (pids_of old) old.read found → added_to old.index found ≡ [] → StandsAt file (old.read + 1) packets → StandsIn file ended old
    → StandsIn file ended (record { packets = packets; index = old.index; read = old.read + 1; pes = old.pes })
stands_same file ended old packets found pids_are adds none stand was =
    let same : carried_before file was.pid (old.read + 1) ≡ carried_before file was.pid old.read =
    adds.each old.index was.pid was.pid_is ∙ ap (λ (xs : List CarriedPayload). carried_before file was.pid old.read ++ xs) none ∙ append-nil (carried_before file was.pid old.read) in
    record {
      stand = stand;
      sound = subst (λ (pids : List ℕ). (n : ℕ) (fault : DemuxFault) → n < old.read + 1 → IsStreamFault file pids n fault → ⊥) (sym pids_are)
          (sound_more file (pids_of old) old.read was.sound adds.sound);
      pid = was.pid;
      pid_is = ap (λ (pids : List ℕ). slice_get pids old.index) pids_are ∙ was.pid_is;
      split = subst (λ (all : List PesUnit). AreSplit all ended (open_of old.pes)) (sym (ap units_of same)) was.split;
      count_is = was.count_is;
      few = omega (arith, was.few);
      few_bytes = omega (arith, was.few_bytes);
    }

-- one whose payload is the stream's
pub stands_added : (file : List ℕ) (ended : List PesUnit) (old : PassingPackets) (packets : CarriedPackets) (after : OpenPacket) (found : StreamPayload) (ends : Bool)
    → old.pes.begun ≡ None → pids_read packets ≡ pids_of old → AddsFound file (pids_of old) old.read (Some found) → found.index ≡ old.index → StandsAt file (old.read + 1) packets
    → 0 < length found.payload.now → length found.payload.now ≤ 184 → ends ≡ (found.start && is_some old.pes.held)
    → open_of after ≡ cond found.start (Some (begun_packet found.at found.payload.now)) (option_map (with_payload found.payload.now) old.pes.held)
    → Counts ends old.pes after → StandsIn file ended old
    → StandsIn file (ended_behind ends ended after.held) (record { packets = packets; index = old.index; read = old.read + 1; pes = after })
stands_added file ended old packets after found ends turned pids_are adds index stand some few is open_is counts was = record {
  stand = stand;
  sound = subst (λ (pids : List ℕ). (n : ℕ) (fault : DemuxFault) → n < old.read + 1 → IsStreamFault file pids n fault → ⊥) (sym pids_are)
      (sound_more file (pids_of old) old.read was.sound adds.sound);
  pid = was.pid;
  pid_is = ap (λ (pids : List ℕ). slice_get pids old.index) pids_are ∙ was.pid_is;
  split = rw (open_is, sym ended_same, own) (split_more (carried_before file was.pid old.read) (as_carried found) ended old.pes.held some split);
  count_is = (counted found.start old.pes after ends ended is counts was.count_is).0;
  few = omega (arith, was.few, was.count_is, (counted found.start old.pes after ends ended is counts was.count_is).0, (counted found.start old.pes after ends ended is counts was.count_is).1);
  few_bytes = omega (arith, few, few_bytes, sizes);
}
  where
    held_is : open_of old.pes ≡ old.pes.held
    held_is = ap (λ (begun : Option ℕ). open_between begun old.pes.first.items old.pes.held) turned

    split : AreSplit (packets_before file was.pid old.read) ended old.pes.held
    split = subst (λ (last : Option PesUnit). AreSplit (packets_before file was.pid old.read) ended last) held_is was.split

    own : carried_before file was.pid (old.read + 1) ≡ carried_before file was.pid old.read ++ as_carried found ∷ []
    own = adds.each old.index was.pid was.pid_is
        ∙ ap (λ (xs : List CarriedPayload). carried_before file was.pid old.read ++ xs) (ap (λ (k : ℕ). added_to k (Some found)) (sym index) ∙ own_added found)

    ended_same : cond found.start (ended ++ option_to_list old.pes.held) ended ≡ ended_behind ends ended after.held
    ended_same = ended_is found.start old.pes after ends ended is counts

    few_bytes : size_of (ended ++ option_to_list old.pes.held) ≤ 188 * old.read
    few_bytes = subst (λ (last : Option PesUnit). size_of (ended ++ option_to_list last) ≤ 188 * old.read) held_is was.few_bytes

    sizes : size_of (ended_behind ends ended after.held ++ option_to_list (open_of after)) ≤ size_of (ended ++ option_to_list old.pes.held) + length found.payload.now
    sizes = rw (open_is, sym ended_same) (sized found.start found.at found.payload.now ended old.pes.held)

-- the same for a reader that holds the packet that is open
pub stands_turned : (file : List ℕ) (ended : List PesUnit) (old : PassingPackets) (after : OpenPacket) → open_of after ≡ open_of old.pes → after.count ≡ old.pes.count
    → StandsIn file ended old → StandsIn file ended (record { packets = old.packets; index = old.index; read = old.read; pes = after })
stands_turned file ended old after open_is count_is was = record {
  stand = was.stand;
  sound = was.sound;
  pid = was.pid;
  pid_is = was.pid_is;
  split = rw open_is was.split;
  count_is = count_is ∙ was.count_is;
  few = was.few;
  few_bytes = rw open_is was.few_bytes;
}

-- ---- at the end, and at a packet that is refused

pub all_at_end : (seen rest : List ℕ) (ended : List PesUnit) (packets : PassingPackets) → length seen ≡ 188 * packets.read → length rest < 188 → packets.pes.begun ≡ None
    → StandsIn (seen ++ rest) ended packets → StandsAtEnd (seen ++ rest) ended packets
all_at_end seen rest ended packets count short turned was =
    let end : packets.read ≡ piece_count (seen ++ rest) = omega (arith, count, short, length-append seen rest) in
    let held_is : open_of packets.pes ≡ packets.pes.held = ap (λ (begun : Option ℕ). open_between begun packets.pes.first.items packets.pes.held) turned in
    let few_bytes : size_of (ended ++ option_to_list packets.pes.held) ≤ 188 * packets.read =
    subst (λ (last : Option PesUnit). size_of (ended ++ option_to_list last) ≤ 188 * packets.read) held_is was.few_bytes in
    record {
      read_is = end;
      sound = sound_all (seen ++ rest) (pids_of packets) packets.read (omega (arith, end)) was.sound;
      pid = was.pid;
      pid_is = was.pid_is;
      split = subst (λ (n : ℕ). AreSplit (packets_before (seen ++ rest) was.pid n) ended packets.pes.held) end
          (subst (λ (last : Option PesUnit). AreSplit (packets_before (seen ++ rest) was.pid packets.read) ended last) held_is was.split);
      count_is = was.count_is;
      few = was.few;
      few_bytes = few_bytes;
    }

-- ---- what an answer says

-- facts of an answer that hold together
pub on_added : {T E : Type 0} (result : Result T E) (A : T → Type 0) (B : Type 0) (C D : T → Type 0) → IfOk result A → OnOk result B → IfOk result C
    → ((x : T) → A x → B → C x → D x) → IfOk result D
on_added (Ok x) A B C D a b c f = f x a b c
on_added (Err e) A B C D a b c f = tt

pub on_any : {T E : Type 0} (result : Result T E) (P : Type 0) → P → OnOk result P
on_any (Ok x) P p = p
on_any (Err e) P p = tt

pub on_fault : {T E : Type 0} (result : Result T E) (P Q : E → Type 0) → IfErr result P → ((e : E) → P e → Q e) → IfErr result Q
on_fault (Ok x) P Q p f = tt
on_fault (Err e) P Q p f = f e p

-- one that has ended is held
pub holds_added : (start : Bool) (old after : OpenPacket) (ends : Bool) → ends ≡ (start && is_some old.held) → Counts ends old after → Holds ends after
holds_added start old after ends is counts = by_case start old.held refl ends is counts
  where
    by_case : (start : Bool) (held : Option PesUnit) → old.held ≡ held → (ends : Bool) → ends ≡ (start && is_some held) → Counts ends old after → Holds ends after
    by_case true None held_is true is counts = absurd cc
    by_case true (Some packet) held_is true is counts = ap (λ (held : Option PesUnit). is_some held) (counts.0 ∙ held_is)
    by_case false held held_is true is counts = absurd cc
    by_case start held held_is false is counts = counts.0
