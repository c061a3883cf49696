-- What is taken of a video serves the judge.
use Rattle.std.proofs.Common.{◌≡◌, ◌⊎◌, inl, inr, ℕ, ◌+◌, ◌≤◌, true, List, ◌++◌, length, take, replicate, Option, Some, sym, ap, subst, ◌∙◌, arith}
use Rattle.es_units.specs.Units.{first_sequence}
use Rattle.tstd_model.specs.declared.decoder_input.Arrival.{Arrival}
use Rattle.tstd_model.specs.declared.decoder_input.BufferKind.TheVariants.{Video}
use Rattle.tstd_model.specs.declared.decoder_input.PacketPart.TheVariants.{Overhead}
use Rattle.ts_demux.specs.declared.demuxed.PesUnit.{PesUnit}
use Rattle.ts_demux.specs.declared.pid_places.Place.{Place}
use Rattle.elementary_streams.specs.declared.stream_fault.StreamFault.{StreamFault}
use Rattle.elementary_streams.specs.declared.stream_fault.StreamFault.TheVariants as stream_faults
use Rattle.stream_audit.specs.declared.audit_stop.AuditStop.{AuditStop}
use Rattle.stream_audit.specs.declared.audit_stop.AuditStop.TheVariants.{OutOfMemory}
use Rattle.stream_audit.specs.declared.audited_stream.AuditedStream.{AuditedStream}
use Rattle.stream_audit.specs.declared.kept_units.KeptUnits.{KeptUnits}
use Rattle.elementary_streams.specs.declared.pes_packets.PlacedPacket.{PlacedPacket}
use Rattle.elementary_streams.specs.declared.pes_packets.TakenPackets.{TakenPackets}
use Rattle.stream_audit.specs.PesBytes.{brought_by_all, bytes_before, parts_of_packets}
use Rattle.elementary_streams.specs.Packets.{IsPacketFault, joined, taken}
use Rattle.stream_audit.specs.Refusals.{IsVideoStopped, stop_of_stream}
use Rattle.stream_audit.specs.Removals.{bytes_of_units, unit_removals}
use Rattle.stream_audit.specs.Streams.{IsVideoOf}
use Rattle.elementary_streams.specs.Taken.{AreTaken}
use Rattle.elementary_streams.proofs.StreamLemmas.{placed_count, taken_count}
use Rattle.stream_audit.proofs.AudioLaws.{taken_front}

module _ (packets : List PesUnit) (held : TakenPackets) (are : AreTaken true packets held) (count : ℕ) (count_is : count ≡ length held.packets.items) where
  counted : count ≡ length (taken true packets)
  counted = count_is ∙ ap (λ (ps : List PlacedPacket). length ps) are.holds.placed ∙ placed_count 0 (taken true packets)

  pub video_few : count ≤ length packets
  video_few = let few = taken_count true packets in omega (arith, few, counted)

  pub video_front : (front : List PesUnit) → front ≡ take count packets → front ≡ taken true packets
  video_front front is = is ∙ ap (λ (n : ℕ). take n packets) counted ∙ sym (taken_front true packets)

pub sequence_is : (packets : List PesUnit) (held : TakenPackets) (payload : List ℕ) (found : Option ℕ) → AreTaken true packets held → payload ≡ held.payload.items → found ≡ first_sequence payload →
    first_sequence (joined (taken true packets)) ≡ found
sequence_is packets held payload found are payload_is found_is = ap first_sequence (sym (payload_is ∙ are.holds.payload)) ∙ sym found_is

-- what refuses its PES packets
pub video_stopped : (pid : ℕ) (packets : List PesUnit) (found : StreamFault) (stop : AuditStop) → (found ≡ stream_faults.OutOfMemory) ⊎ IsPacketFault true packets found
    → stop ≡ stop_of_stream pid found → (stop ≡ OutOfMemory) ⊎ IsVideoStopped packets stop
video_stopped pid packets found stop (inl memory) said = inl (said ∙ ap (stop_of_stream pid) memory)
video_stopped pid packets found stop (inr is) said =
    inr (IsVideoStopped.bad_packet is.packet.at is.found (subst (IsPacketFault true packets) is.fault_is is) (said ∙ ap (stop_of_stream pid) is.fault_is))

pub is_video : (places : List Place) (zero pid before from bytes : ℕ) (kept : KeptUnits) (packets front : List PesUnit) (stream : AuditedStream) →
    first_sequence (joined (taken true packets)) ≡ Some from → before ≡ bytes_before places → bytes ≡ bytes_of_units kept → front ≡ taken true packets →
    stream ≡ record {
      pid = pid;
      kind = Video kept.vbv;
      arrivals = brought_by_all places (replicate before Overhead ++ parts_of_packets (record { from = from; to = from + bytes }) 0 front);
      removals = unit_removals zero kept;
    } → IsVideoOf places zero kept pid packets stream
is_video places zero pid before from bytes kept packets front stream sequence before_is bytes_are front_is is = record {
  from = from;
  sequence = sequence;
  stream_is = is ∙ ap (λ (arrivals : List Arrival). (let s : AuditedStream = record { pid = pid; kind = Video kept.vbv; arrivals = arrivals; removals = unit_removals zero kept } in s)) (
      ap (λ (n : ℕ). brought_by_all places (replicate n Overhead ++ parts_of_packets (record { from = from; to = from + bytes }) 0 front)) before_is
      ∙ ap (λ (n : ℕ). brought_by_all places (replicate (bytes_before places) Overhead ++ parts_of_packets (record { from = from; to = from + n }) 0 front)) bytes_are
      ∙ ap (λ (ps : List PesUnit). brought_by_all places (replicate (bytes_before places) Overhead ++ parts_of_packets (record { from = from; to = from + bytes_of_units kept }) 0 ps)) front_is
      );
}
