-- The PES packets that passed, and those that are taken out of a program stream at once.
use Rattle.std.proofs.Common.{◌≡◌, ℕ, zero, suc, List, [], ◌∷◌, ◌++◌, map, slice_get, Some, refl, sym, ap, ◌∙◌, subst}
use Rattle.std.specs.Option.{option_to_list}
use Rattle.std.proofs.lemmas.Option.{same_Some}
use Rattle.psi_tables.specs.declared.program_map.ProgramMap.{ProgramMap}
use Rattle.psi_tables.specs.Pmt.{pids_of as pids_of_map}
use Rattle.ts_demux.specs.declared.demuxed.AudioStream.{AudioStream}
use Rattle.ts_demux.specs.declared.demuxed.Demuxed.{Demuxed}
use Rattle.ts_demux.specs.declared.demuxed.PesUnit.{PesUnit}
use Rattle.program_stream.specs.Elements.{Element}
use Rattle.program_stream.specs.Split.{HasElements, IsSplit}
use Rattle.program_stream.specs.Streams.{carried_audio_ids, packets_of, stream_with_id}
use Rattle.program_stream.proofs.OneReading.{one_list}
use Rattle.pes_passing.specs.declared.element_packets.ElementPackets.{ElementPackets}
use Rattle.pes_passing.specs.ElementPackets.{held_of, id_of, StandsAtEnd}

-- the packets of the video's id
pub video_of : (file drop : List ℕ) (demuxed : Demuxed) (cut : ℕ) (elements : List Element) (other id : ℕ) → IsSplit file drop demuxed cut → HasElements file elements other
    → slice_get (pids_of_map demuxed.map) 0 ≡ Some id → demuxed.video ≡ packets_of elements id
video_of file drop demuxed cut elements other id is are first =
    let same = one_list file is.elements elements cut other is.elements_are.are are.are in
    let video : is.video ≡ id = same_Some is.video id (sym (ap (λ (m : ProgramMap). slice_get (pids_of_map m) 0) is.map_is) ∙ first) in
    is.video_packets ∙ ap (λ (xs : List Element). packets_of xs is.video) same.elements ∙ ap (packets_of elements) video

stream_at : (elements : List Element) (ids : List ℕ) (k : ℕ) (stream : AudioStream) → slice_get (map (stream_with_id elements) ids) k ≡ Some stream → stream.units ≡ packets_of elements stream.pid
stream_at elements [] k stream there = absurd cc
stream_at elements (id ∷ ids) zero stream there =
    subst (λ (s : AudioStream). s.units ≡ packets_of elements s.pid) (same_Some (stream_with_id elements id) stream there) refl
stream_at elements (id ∷ ids) (suc k) stream there = stream_at elements ids k stream there

-- those of an audio stream's
pub audio_of : (file drop : List ℕ) (demuxed : Demuxed) (cut : ℕ) (elements : List Element) (other k : ℕ) (stream : AudioStream) → IsSplit file drop demuxed cut → HasElements file elements other
    → slice_get demuxed.audios k ≡ Some stream → stream.units ≡ packets_of elements stream.pid
audio_of file drop demuxed cut elements other k stream is are there =
    let same = one_list file is.elements elements cut other is.elements_are.are are.are in
    stream_at is.elements (carried_audio_ids drop is.elements) k stream (sym (ap (λ (streams : List AudioStream). slice_get streams k) is.audio_packets) ∙ there)
    ∙ ap (λ (xs : List Element). packets_of xs stream.pid) same.elements

-- ---- those that passed

pub video_is : (file drop : List ℕ) (demuxed : Demuxed) (cut : ℕ) (ended : List PesUnit) (packets : ElementPackets) → IsSplit file drop demuxed cut → StandsAtEnd file ended packets
    → slice_get (pids_of_map demuxed.map) 0 ≡ Some (id_of packets) → demuxed.video ≡ ended ++ option_to_list (held_of packets)
video_is file drop demuxed cut ended packets is at_end first = video_of file drop demuxed cut at_end.elements at_end.cut (id_of packets) is at_end.elements_are first ∙ at_end.split.packets

pub audio_is : (file drop : List ℕ) (demuxed : Demuxed) (cut : ℕ) (ended : List PesUnit) (packets : ElementPackets) (k : ℕ) (stream : AudioStream) → IsSplit file drop demuxed cut
    → StandsAtEnd file ended packets → slice_get demuxed.audios k ≡ Some stream → stream.pid ≡ id_of packets → stream.units ≡ ended ++ option_to_list (held_of packets)
audio_is file drop demuxed cut ended packets k stream is at_end there same =
    audio_of file drop demuxed cut at_end.elements at_end.cut k stream is at_end.elements_are there ∙ ap (packets_of at_end.elements) same ∙ at_end.split.packets
