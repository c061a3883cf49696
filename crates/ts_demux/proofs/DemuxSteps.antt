-- What is answered, from what the parts of the reading answer.
use Rattle.std.proofs.Common.{◌≡◌, ℕ, ◌*◌, ◌/◌, ◌%◌, ◌<◌, ◌≤◌, ◌⊎◌, inl, inr, List, ◌∷◌, length, map, get_or, sym, ap, ◌∙◌, subst, arith, length-drop}
use Rattle.std.specs.List.{remove}
use Rattle.psi_tables.specs.declared.program_map.ProgramMap.{ProgramMap}
use Rattle.psi_tables.specs.declared.stream.Stream.{Stream}
use Rattle.psi_tables.specs.Pmt.{pids_of, pmt_length}
use Rattle.ts_packets.specs.TransportStream.{rest_of}
use Rattle.ts_demux.specs.declared.demux_fault.DemuxFault.{DemuxFault}
use Rattle.ts_demux.specs.declared.demuxed.AudioStream.{AudioStream}
use Rattle.ts_demux.specs.declared.pes_gatherer.PesGatherer.{PesGatherer}
use Rattle.ts_demux.specs.Tables.{HasMap}
use Rattle.ts_demux.specs.Demux.{HasCarriedMap, pes_packets_on, IsDemuxRefused, memory, no_video, short_file, streams, tables}
use Rattle.ts_demux.specs.Pass.{IsFrontRefused}
use Rattle.ts_demux.specs.Private.PesGatherer.{stream_gathered}
use Rattle.ts_demux.specs.Private.CarriedStreams.{IsCarryFault}
use Rattle.ts_demux.specs.Private.StreamWalk.{AreGathered, IsGatherFault}
use Rattle.ts_demux.specs.Faults.{IsMemory}
use Rattle.ts_demux.proofs.GatherSteps.{streams_gathered}

pub front_refused : (file : List ℕ) (program : ℕ) (drop_pids : List ℕ) (fault : DemuxFault) → IsMemory fault ⊎ IsFrontRefused program fault file → IsDemuxRefused file program drop_pids fault
front_refused file program drop_pids fault (inl is) = memory is
front_refused file program drop_pids fault (inr (inl is)) = short_file is.0 is.1
front_refused file program drop_pids fault (inr (inr is)) = tables is.0 is.1

pub carry_refused : (file : List ℕ) (program : ℕ) (drop_pids : List ℕ) (whole : ProgramMap) (fault : DemuxFault) → 188 ≤ length file → HasMap file program whole →
    IsCarryFault whole fault → IsDemuxRefused file program drop_pids fault
carry_refused file program drop_pids whole fault long has (inl is) = memory is
carry_refused file program drop_pids whole fault long has (inr is) = no_video whole long has is.1 is.0

pub gather_refused : (file : List ℕ) (program : ℕ) (drop_pids : List ℕ) (carried_map : ProgramMap) (others : List ℕ) (fault : DemuxFault) →
    HasCarriedMap file program drop_pids carried_map others → length carried_map.streams.items ≤ 9 → pmt_length carried_map ≤ 183 → IsGatherFault file (pids_of carried_map) fault →
    IsDemuxRefused file program drop_pids fault
gather_refused file program drop_pids carried_map others fault has few short (inl is) = memory is
gather_refused file program drop_pids carried_map others fault has few short (inr is) = streams carried_map others has few short is

pub all_of : (file : List ℕ) (items : List Stream) (video : Stream) (audios : List Stream) (gathered : List AudioStream) (gs : List PesGatherer) → items ≡ video ∷ audios →
    AreGathered file (map (λ (stream : Stream). stream.pid) items) gs → gathered ≡ map stream_gathered gs → gathered ≡ pes_packets_on file video ∷ map (pes_packets_on file) audios
all_of file items video audios gathered gs is are same = same ∙ streams_gathered file gs items are.all are.pids_are ∙ ap (map (pes_packets_on file)) is

pub some_of : (xs : List AudioStream) (a : AudioStream) (others : List AudioStream) → xs ≡ a ∷ others → 0 < length xs
some_of xs a others is = subst (λ (ys : List AudioStream). 0 < length ys) (sym is) (omega arith)

pub first_of : (xs : List AudioStream) (a d : AudioStream) (others : List AudioStream) → xs ≡ a ∷ others → d ≡ get_or xs 0 d → d ≡ a
first_of xs a d others is same = same ∙ ap (λ (ys : List AudioStream). get_or ys 0 d) is

pub others_of_first : (xs : List AudioStream) (a : AudioStream) (others : List AudioStream) → xs ≡ a ∷ others → remove xs 0 ≡ others
others_of_first xs a others is = ap (λ (ys : List AudioStream). remove ys 0) is

pub rest_size : (file : List ℕ) → length file % 188 ≡ length (rest_of file)
rest_size file = omega (arith, length-drop (188 * (length file / 188)) file)
