-- The PIDs of a program's audio streams carry the PES packets that were taken of its file.
use Rattle.std.proofs.Common.{◌≡◌, ℕ, List, [], ◌∷◌, ◌++◌, All, map, ℤ, refl, ap, ◌∙◌, arith}
use Rattle.std.specs.List.{flat_map}
use Rattle.std.proofs.lemmas.List.{length-drop}
use Rattle.std.proofs.lemmas.List.Elements.{All-head, All-tail}
use Rattle.bit_lists.specs.Payload.{CarriedPayload, Payload}
use Rattle.audio_frames.specs.declared.frame.Frame.{Frame}
use Rattle.pes_units.specs.PesHeader.{header_length}
use Rattle.pes_units.specs.PesPieces.{pes_pieces}
use Rattle.psi_tables.specs.declared.stream.Stream.{Stream}
use Rattle.ts_packets.specs.TransportStream.{piece_count, pid_pieces as packets_on}
use Rattle.ts_packets.specs.Carried.{carried}
use Rattle.ts_demux.specs.declared.demuxed.AudioStream.{AudioStream}
use Rattle.ts_demux.specs.declared.demuxed.PesUnit.{PesUnit}
use Rattle.program_reader.specs.declared.program.AudioPiece.{AudioPiece}
use Rattle.program_reader.specs.declared.program.AudioSource.{AudioSource}
use Rattle.program_reader.specs.Audio.{AreAudioSources, HaveFrames, IsAudioSource}
use Rattle.elementary_streams.specs.Audio.{taken_of}
use Rattle.elementary_streams.proofs.StreamLemmas.{HasPayload, taken_payloads}
use Rattle.version_source.specs.Pieces.{audio_items, audio_payload}
use Rattle.layer_laws.specs.PesPieces.{CarryAll}
use Rattle.parsing_laws.specs.Parsed.{CarriesPackets, CarryPackets, bytes_of_packets}
use Rattle.job_laws.proofs.SentAudios.{all-pieces}
use Rattle.job_laws.proofs.SentVideos.{AllCarry, PiecesCarry}

packets-carry : PiecesCarry → (packets : List PesUnit) → All HasPayload packets → CarryAll (bytes_of_packets packets) (map pes_pieces (bytes_of_packets packets))
packets-carry law [] some = tt
packets-carry law (p ∷ ps) some =
    let here : HasPayload p = All-head HasPayload p ps some in
    (law p.bytes (omega (arith, here, length-drop (header_length p.bytes) p.bytes)), packets-carry law ps (All-tail HasPayload p ps some))

singles : (bytes : List ℕ) (pieces : List AudioPiece)
    → flat_map (λ (payloads : List Payload). payloads) (map (λ (piece : AudioPiece). audio_payload bytes piece ∷ []) pieces) ≡ map (audio_payload bytes) pieces
singles bytes [] = refl
singles bytes (p ∷ ps) = ap (λ (rest : List Payload). audio_payload bytes p ∷ rest) (singles bytes ps)

joined-cuts : (packets : List PesUnit) → flat_map (λ (packet : PesUnit). pes_pieces packet.bytes) packets ≡ flat_map (λ (payloads : List Payload). payloads) (map pes_pieces (bytes_of_packets packets))
joined-cuts [] = refl
joined-cuts (p ∷ ps) = ap (λ (rest : List Payload). pes_pieces p.bytes ++ rest) (joined-cuts ps)

pub audios-carry : PiecesCarry → (file : List ℕ) (packets : ℕ) → piece_count file ≡ packets → (start : ℕ) (earliest first : ℤ) (streams : List AudioStream) (frames : List (List Frame))
    (sources : List AudioSource) (audios : List Stream) → HaveFrames first streams frames → AreAudioSources start earliest streams frames sources
    → AllCarry file packets (map (λ (stream : Stream). stream.pid) audios) (map audio_items sources) → CarryPackets file audios (map (λ (stream : AudioStream). bytes_of_packets (taken_of stream)) streams)
audios-carry law file packets count start earliest first [] [] [] [] have are carry = tt
audios-carry law file packets count start earliest first [] [] [] (a ∷ more) have are carry = absurd carry
audios-carry law file packets count start earliest first [] [] (s ∷ ss) audios have are carry = absurd are
audios-carry law file packets count start earliest first [] (f ∷ fs) sources audios have are carry = absurd have
audios-carry law file packets count start earliest first (x ∷ xs) [] sources audios have are carry = absurd have
audios-carry law file packets count start earliest first (x ∷ xs) (f ∷ fs) [] audios have are carry = absurd are
audios-carry law file packets count start earliest first (x ∷ xs) (f ∷ fs) (s ∷ ss) [] have are carry = absurd carry
audios-carry law file packets count start earliest first (x ∷ xs) (f ∷ fs) (s ∷ ss) (a ∷ more) have are carry =
    let is : IsAudioSource start earliest x f s = are.0 in
    let taken : List PesUnit = taken_of x in
    let some : All HasPayload taken = taken_payloads x.units have.0.sound in
    let payloads : map (audio_payload s.bytes) s.pieces ≡ flat_map (λ (packet : PesUnit). pes_pieces packet.bytes) taken =
    all-pieces start earliest f s.bytes taken 0 0 [] s.pieces some is.bytes refl is.pieces in
    let one : CarriesPackets file a.pid (bytes_of_packets taken) = record {
      cuts = map pes_pieces (bytes_of_packets taken);
      each = packets-carry law taken some;
      carried_are = ap (λ (k : ℕ). map (λ (c : CarriedPayload). c.payload) (carried (packets_on file a.pid 0 k))) count ∙ carry.0 ∙ singles s.bytes s.pieces ∙ payloads ∙ joined-cuts taken;
    } in
    (one, audios-carry law file packets count start earliest first xs fs ss more have.1 are.1 carry.1)
