-- The PES packets of a stream have one first fault or none, and an audio stream has frames or one refusal, and never both.
use Rattle.std.proofs.Common.{◌≡◌, ◌≢◌, ◌⊎◌, Bool, false, List, [], ◌∷◌, ◌++◌, All, None, Some, refl, sym, ap, ◌∙◌, subst, inl, inr, arith, ℤ}
use Rattle.std.proofs.lemmas.List.Elements.{All-tail}
use Rattle.audio_frames.specs.declared.audio_fault.AudioFault.{AudioFault}
use Rattle.audio_frames.specs.declared.audio_fault.AudioFault.TheVariants as audio_faults
use Rattle.audio_frames.specs.declared.frame.Frame.{Frame}
use Rattle.audio_frames.specs.declared.pes_start.PesStart.{PesStart}
use Rattle.audio_frames.specs.Times.{AreFramesOf, IsAudioRefused}
use Rattle.pes_units.specs.declared.pes_fault.PesFault.{PesFault}
use Rattle.pes_units.specs.PesPackets.{packet_refusal}
use Rattle.ts_demux.specs.declared.demuxed.AudioStream.{AudioStream}
use Rattle.ts_demux.specs.declared.demuxed.PesUnit.{PesUnit}
use Rattle.elementary_streams.specs.declared.stream_fault.StreamFault.{StreamFault}
use Rattle.elementary_streams.specs.declared.stream_fault.StreamFault.TheVariants.{OutOfMemory, Pes}
use Rattle.elementary_streams.specs.Packets.{fault_before, AreSound, IsPacketFault, joined, placed_from}
use Rattle.elementary_streams.specs.Audio.{taken_of, HasFrames, IsStreamRefused, bad_packet, bad_frames, of_frames}
use Rattle.elementary_streams.proofs.OneAudio.{starts_one, frames_one, refused_one, refused_or_frames}

-- ---- PES packets

-- the first packet with a fault, packet by packet
abbrev BadFrom : Bool → List PesUnit → StreamFault → Type 0
BadFrom video [] fault = ⊥
BadFrom video (packet ∷ more) fault =
    ((found : PesFault) × (fault_before video more packet ≡ Some found) × (fault ≡ Pes packet.at found)) ⊎ ((fault_before video more packet ≡ None) × BadFrom video more fault)

behind_others : (video : Bool) (packet other : PesUnit) (front more : List PesUnit) → fault_before video (front ++ other ∷ more) packet ≡ packet_refusal video packet.bytes
behind_others video packet other [] more = refl
behind_others video packet other (x ∷ xs) more = refl

bad_from : (video : Bool) (front : List PesUnit) (packet : PesUnit) (more : List PesUnit) (fault : StreamFault) (found : PesFault) →
    All (λ earlier. packet_refusal video earlier.bytes ≡ None) front → fault_before video more packet ≡ Some found → fault ≡ Pes packet.at found → BadFrom video (front ++ packet ∷ more) fault
bad_from video [] packet more fault found sound is e = inl (found, is, e)
bad_from video (x ∷ xs) packet more fault found sound is e =
    let rest : All (λ earlier. packet_refusal video earlier.bytes ≡ None) xs = All-tail (λ (earlier : PesUnit). packet_refusal video earlier.bytes ≡ None) x xs sound in
    inr (behind_others video x packet xs more ∙ sound 0 x (omega arith), bad_from video xs packet more fault found rest is e)

packet_fault_from : (video : Bool) (packets : List PesUnit) (fault : StreamFault) → IsPacketFault video packets fault → BadFrom video packets fault
packet_fault_from video packets fault is =
    subst (λ (ps : List PesUnit). BadFrom video ps fault) (sym is.split) (bad_from video is.before is.packet is.more fault is.found is.sound is.refused is.fault_is)

sound_or_bad : (video : Bool) (packets : List PesUnit) (fault : StreamFault) → AreSound video packets → BadFrom video packets fault → ⊥
sound_or_bad video [] fault sound is = is
sound_or_bad video (p ∷ ps) fault sound (inl (found, is, e)) = let both : None ≡ Some found = sym sound.0 ∙ is in cc
sound_or_bad video (p ∷ ps) fault sound (inr (none, rest)) = sound_or_bad video ps fault sound.1 rest

bad_one : (video : Bool) (packets : List PesUnit) (a b : StreamFault) → BadFrom video packets a → BadFrom video packets b → a ≡ b
bad_one video [] a b is is' = absurd is
bad_one video (p ∷ ps) a b (inl (found, is, e)) (inl (found', is', e')) =
    let same : Some found ≡ Some found' = sym is ∙ is' in
    let founds : found ≡ found' = cc in
    e ∙ ap (Pes p.at) founds ∙ sym e'
bad_one video (p ∷ ps) a b (inl (found, is, e)) (inr (none, rest)) = absurd (let both : None ≡ Some found = sym none ∙ is in cc)
bad_one video (p ∷ ps) a b (inr (none, rest)) (inl (found, is, e)) = absurd (let both : None ≡ Some found = sym none ∙ is in cc)
bad_one video (p ∷ ps) a b (inr (none, rest)) (inr (none', rest')) = bad_one video ps a b rest rest'

pub sound_or_fault : (video : Bool) (packets : List PesUnit) (fault : StreamFault) → AreSound video packets → IsPacketFault video packets fault → ⊥
sound_or_fault video packets fault sound is = sound_or_bad video packets fault sound (packet_fault_from video packets fault is)

pub packet_fault_one : (video : Bool) (packets : List PesUnit) (a b : StreamFault) → IsPacketFault video packets a → IsPacketFault video packets b → a ≡ b
packet_fault_one video packets a b is is' = bad_one video packets a b (packet_fault_from video packets a is) (packet_fault_from video packets b is')

-- ---- audio streams

pub stream_frames_one : (first : ℤ) (stream : AudioStream) (fs gs : List Frame) → HasFrames first stream fs → HasFrames first stream gs → fs ≡ gs
stream_frames_one first stream fs gs has has' =
    let starts : has.starts ≡ has'.starts = starts_one first (placed_from 0 (taken_of stream)) has.starts has'.starts has.starts_are has'.starts_are in
    frames_one (joined (taken_of stream)) has'.starts fs gs (subst (λ (ss : List PesStart). AreFramesOf (joined (taken_of stream)) ss fs) starts has.frames_are) has'.frames_are

known : (fault : StreamFault) (found : AudioFault) → fault ≢ OutOfMemory → fault ≡ of_frames found → found ≢ audio_faults.OutOfMemory
known fault found some is none = some (is ∙ ap of_frames none)

pub refused_or_has : (first : ℤ) (stream : AudioStream) (fault : StreamFault) (fs : List Frame) → fault ≢ OutOfMemory → IsStreamRefused first stream fault → HasFrames first stream fs → ⊥
refused_or_has first stream fault fs some (bad_packet is) has = sound_or_fault false stream.units fault has.sound is
refused_or_has first stream fault fs some (bad_frames starts found sound are is e) has =
    let same : starts ≡ has.starts = starts_one first (placed_from 0 (taken_of stream)) starts has.starts are has.starts_are in
    let refused : IsAudioRefused (joined (taken_of stream)) has.starts found = subst (λ (ss : List PesStart). IsAudioRefused (joined (taken_of stream)) ss found) same is in
    refused_or_frames (joined (taken_of stream)) has.starts found fs (known fault found some e) refused has.frames_are

pub stream_refused_one : (first : ℤ) (stream : AudioStream) (a b : StreamFault) → a ≢ OutOfMemory → b ≢ OutOfMemory → IsStreamRefused first stream a → IsStreamRefused first stream b → a ≡ b
stream_refused_one first stream a b some some' (bad_packet is) (bad_packet is') = packet_fault_one false stream.units a b is is'
stream_refused_one first stream a b some some' (bad_packet is) (bad_frames starts found sound are is' e) = absurd (sound_or_fault false stream.units a sound is)
stream_refused_one first stream a b some some' (bad_frames starts found sound are is e) (bad_packet is') = absurd (sound_or_fault false stream.units b sound is')
stream_refused_one first stream a b some some' (bad_frames starts found sound are is e) (bad_frames starts' found' sound' are' is' e') =
    let same : starts ≡ starts' = starts_one first (placed_from 0 (taken_of stream)) starts starts' are are' in
    let founds : found ≡ found' = refused_one (joined (taken_of stream)) starts' found found' (known a found some e) (known b found' some' e')
    (subst (λ (ss : List PesStart). IsAudioRefused (joined (taken_of stream)) ss found) same is) is' in
    e ∙ ap of_frames founds ∙ sym e'
