-- An audio stream whose PES packets pass: how much it has, and what its walk's faults refuse.
use Rattle.std.proofs.Common.{◌≡◌, ◌⊎◌, ℕ, ◌+◌, ◌<◌, ◌≤◌, false, List, [], ◌∷◌, ◌++◌, length, sum_by, Option, ℤ, inl, inr, ap, subst, sym, arith, length-append}
use Rattle.std.specs.Option.{option_to_list}
use Rattle.std.proofs.lemmas.List.Sums.{sum_by-append, sum_by-cons}
use Rattle.ts_demux.specs.declared.demuxed.AudioStream.{AudioStream}
use Rattle.ts_demux.specs.declared.demuxed.PesUnit.{PesUnit}
use Rattle.elementary_streams.specs.declared.stream_fault.StreamFault.{StreamFault}
use Rattle.elementary_streams.specs.declared.stream_fault.StreamFault.TheVariants as stream_faults
use Rattle.elementary_streams.specs.Audio.{IsStreamRefused}
use Rattle.elementary_streams.specs.Packets.{IsPacketFault}
use Rattle.pes_passing.specs.PassingPackets.{AreSplit, size_of}
use Rattle.audio_walk.specs.declared.walk.AudioWalk.{AudioWalk}
use Rattle.audio_walk.specs.AudioWalk.{HasRead, IsFaultBefore, packet_count, payload_bytes}
use Rattle.audio_walk.proofs.Ends.{count_placed}
use Rattle.stream_pass.specs.declared.limits.TheConstants.{FILE_BYTES_MOST, PES_PACKETS_MOST}
use Rattle.stream_pass.specs.PassedElements.{HasIdPackets, IsOverIdLimit}
use Rattle.stream_pass.specs.PassedStream.{HasPackets, IsOverLimit}
use Rattle.stream_pass.specs.StreamWalk.{AreFew, IsRefusal}
use Rattle.stream_pass.proofs.Passed.{joined_few}
use Rattle.passed_programs.specs.PassedAudio.{RefusesAudio}
use Rattle.passed_programs.specs.Private.Faults.{as_walk_fault}

-- ---- how much there is

-- a walk has room for more bytes, where all are few
with_more : (packets more : List PesUnit) (walk : AudioWalk) → HasRead packets walk → size_of (packets ++ more) ≤ FILE_BYTES_MOST
    → payload_bytes walk + size_of more ≤ 1099511627776
with_more packets more walk has few = omega (arith, few, has.placed.bytes, joined_few packets, sum_by-append (λ (p : PesUnit). length p.bytes) packets more)

pub take_room : (packets : List PesUnit) (packet : PesUnit) (walk : AudioWalk) → HasRead packets walk → AreFew (packets ++ packet ∷ []) → payload_bytes walk + length packet.bytes ≤ 1099511627776
take_room packets packet walk has few =
    omega (arith, with_more packets (packet ∷ []) walk has few.bytes_few, sum_by-cons (λ (p : PesUnit). length p.bytes) packet [])

module _ (packets all : List PesUnit) (last : Option PesUnit) (walk : AudioWalk) (has : HasRead packets walk) (split : AreSplit all packets last) (few : AreFew all) where
  pub end_few : packet_count walk + length (option_to_list last) ≤ 4000000
  end_few = omega (arith, count_placed packets walk has.placed, few.packets_few, ap length split.packets, length-append packets (option_to_list last))

  pub end_room : payload_bytes walk + sum_by (λ (packet : PesUnit). length packet.bytes) (option_to_list last) ≤ 1099511627776
  end_room = with_more packets (option_to_list last) walk has (subst (λ (ps : List PesUnit). size_of ps ≤ FILE_BYTES_MOST) split.packets few.bytes_few)

-- ---- what refuses it

-- a fault that isn't want of memory
as_refusal : (refuses : StreamFault → Type 0) (fault : StreamFault) → ((fault ≡ stream_faults.OutOfMemory → ⊥) → refuses fault) → IsRefusal refuses (as_walk_fault fault)
as_refusal refuses (stream_faults.Pes at found) is = is (λ bad. cc)
as_refusal refuses (stream_faults.Frames found) is = is (λ bad. cc)
as_refusal refuses stream_faults.OutOfMemory is = tt

not_memory : {P : Type 0} (fault : StreamFault) → (fault ≡ stream_faults.OutOfMemory → ⊥) → (fault ≡ stream_faults.OutOfMemory) ⊎ P → P
not_memory fault other (inl memory) = absurd (other memory)
not_memory fault other (inr is) = is

-- whatever packets follow
pub take_refused : (first : ℤ) (packets : List PesUnit) (packet : PesUnit) (fault : StreamFault) → (fault ≡ stream_faults.OutOfMemory) ⊎ IsFaultBefore packets packet fault
    → IsRefusal (λ (found : StreamFault). (next : PesUnit) (more : List PesUnit) → RefusesAudio first (packets ++ packet ∷ next ∷ more) found) (as_walk_fault fault)
take_refused first packets packet fault is =
    as_refusal (λ (found : StreamFault). (next : PesUnit) (more : List PesUnit) → RefusesAudio first (packets ++ packet ∷ next ∷ more) found) fault
    (λ other next more stream units. IsStreamRefused.bad_packet (subst (λ (ps : List PesUnit). IsPacketFault false ps fault) (sym units) (not_memory fault other is next more)))

-- behind the last one
pub end_refused : (first : ℤ) (all : List PesUnit) (fault : StreamFault)
    → ((stream : AudioStream) → stream.units ≡ all → (fault ≡ stream_faults.OutOfMemory) ⊎ IsStreamRefused first stream fault) → IsRefusal (RefusesAudio first all) (as_walk_fault fault)
end_refused first all fault is = as_refusal (RefusesAudio first all) fault (λ other stream units. not_memory fault other (is stream units))

-- ---- a limit

pub over_of : (file pids : List ℕ) (index : ℕ) (units : List PesUnit) → ((packets : List PesUnit) → HasPackets file pids index packets → units ≡ packets) → IsOverLimit file pids index
    → (FILE_BYTES_MOST < length file) ⊎ (PES_PACKETS_MOST < length units)
over_of file pids index units same (IsOverLimit.long more) = inl more
over_of file pids index units same (IsOverLimit.many_packets packets sound has short many) =
    inr (subst (λ (ps : List PesUnit). PES_PACKETS_MOST < length ps) (sym (same packets has)) many)

pub over_id : (file : List ℕ) (id : ℕ) (units : List PesUnit) → ((packets : List PesUnit) → HasIdPackets file id packets → units ≡ packets) → IsOverIdLimit file id
    → (FILE_BYTES_MOST < length file) ⊎ (PES_PACKETS_MOST < length units)
over_id file id units same (IsOverIdLimit.long more) = inl more
over_id file id units same (IsOverIdLimit.many_packets packets has short many) = inr (subst (λ (ps : List PesUnit). PES_PACKETS_MOST < length ps) (sym (same packets has)) many)
