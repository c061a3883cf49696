use Rattle.std.proofs.Common.{◌≡◌, ◌⊎◌, ◌∷◌, [], false, List, Some, MatchResult, ℤ, pos, length, refl, sym, subst, inl, inr, arith}
use Rattle.std.proofs.lemmas.List.{length-append, length-drop}
use Rattle.std.proofs.lemmas.List.Sums.{sum_by-cons}
use Rattle.pes_units.specs.PesHeader.{header_length}
use Rattle.ts_demux.specs.declared.demuxed.PesUnit.{PesUnit}
use Rattle.elementary_streams.specs.declared.stream_fault.StreamFault.TheVariants.{OutOfMemory}
use Rattle.elementary_streams.specs.Audio.{IsStreamRead, IsStreamRefused}
use Rattle.elementary_streams.specs.Packets.{IsPacketFault, pes_payload_of}
use Rattle.pes_passing.specs.PassingPackets.{AreSplit}
use Rattle.audio_walk.specs.AudioWalk.{IsFaultBefore}
use Rattle.audio_walk.proofs.Ends.{count_placed}
use Rattle.audio_walk_tests.proofs.walk_tests.walk_two.Goals as goal

-- a packet, and a last one
one_more : (first second : PesUnit) → AreSplit (first ∷ second ∷ []) (first ∷ []) (Some second)
one_more first second = record { packets = refl; none = λ none. absurd cc }

pub take-requires : goal.take-requires
take-requires c = omega (arith, c.new.ensures.placed.bytes, c.requires.first)

pub end-requires : goal.end-requires
end-requires c =
    let first = c.args.first.now in
    let second = c.args.second.now in
    let has = c.in-Ok.ensures.read [] c.new.ensures in
    record {
      read = (first ∷ [], first ∷ second ∷ [], has, one_more first second);
      few = omega (arith, count_placed (first ∷ []) c.in-Ok.walk has.placed);
      size = omega (
        arith,
        has.placed.bytes,
        length-append (pes_payload_of first) [],
        length-drop (header_length first.bytes) first.bytes,
        sum_by-cons (λ (packet : PesUnit). length packet.bytes) second [],
        c.requires.first,
        c.requires.second,
      );
      first = c.of.ensures.near;
    }

pub returns-in-Ok : goal.returns-in-Ok
returns-in-Ok c stream units =
    subst (λ (time : ℤ). MatchResult c.end.result (IsStreamRead time stream) (λ fault. (fault ≡ OutOfMemory) ⊎ IsStreamRefused time stream fault)) c.of.ensures.time
    (c.end.ensures (c.args.first.now ∷ []) stream (c.in-Ok.ensures.read [] c.new.ensures) (record { packets = units; none = λ none. absurd cc }))

pub returns-in-Err : goal.returns-in-Err
returns-in-Err c stream units = by_cause (c.in-Err.ensures.refused [] c.new.ensures)
  where
    by_cause : (c.in-Err.fault ≡ OutOfMemory) ⊎ IsFaultBefore [] c.args.first.now c.in-Err.fault → (c.in-Err.fault ≡ OutOfMemory) ⊎ IsStreamRefused (pos 90000) stream c.in-Err.fault
    by_cause (inl memory) = inl memory
    by_cause (inr found) =
        inr (IsStreamRefused.bad_packet (subst (λ (packets : List PesUnit). IsPacketFault false packets c.in-Err.fault) (sym units) (found c.args.second.now [])))
