-- The pieces of audio streams that are read.
use Rattle.std.proofs.Common.{◌≡◌, ℕ, ◌+◌, ◌<◌, ◌≤◌, List, [], ◌∷◌, ◌++◌, length, map, take, get_or, All, refl, sym, ap, ◌∙◌, subst, arith, ℤ}
use Rattle.std.specs.List.{AllZip, flat_map, sum_by}
use Rattle.std.proofs.lemmas.List.{take_more}
use Rattle.std.proofs.lemmas.List.Elements.{All-cons, All-nil, All-tail}
use Rattle.ts_demux.specs.declared.demuxed.AudioStream.{AudioStream}
use Rattle.elementary_streams.specs.declared.audio_stream.ReadStream.{ReadStream}
use Rattle.elementary_streams.specs.declared.pes_packets.PlacedPacket.{PlacedPacket}
use Rattle.elementary_streams.specs.Audio.{IsStreamRead, taken_of}
use Rattle.program_reader.specs.declared.program.AudioPiece.{AudioPiece}
use Rattle.program_reader.specs.declared.program.AudioSource.{AudioSource}
use Rattle.program_reader.specs.Audio.{ArePieces, AreAudioSources, placed_pieces}
use Rattle.program_reader.specs.Private.AudioStreams.{AreStreamsRead}
use Rattle.program_reader.specs.Private.Sources.{IsStreamFrom, AreStreamsFrom}
use Rattle.program_reader.proofs.SourceLemmas.{ready}
use Rattle.passed_programs.specs.Private.PassedAudios.{IsCutUp, IsReady}

-- ---- what pieces want

ready_of : (earliest : ℤ) (stream : AudioStream) (read : ReadStream) → IsStreamFrom earliest stream read → length stream.units ≤ 4000000 →
    sum_by (λ packet. length packet.bytes) stream.units ≤ 1099511627776 → IsReady earliest read
ready_of earliest stream read is few small =
    let so = ready earliest stream read read.packets.items read.frames refl refl is few small in record { few = so.few; follow = so.follow; times = so.times }

pub all_ready : (earliest : ℤ) (streams : List AudioStream) (read : List ReadStream) → AreStreamsFrom earliest streams read → All (λ stream. length stream.units ≤ 4000000) streams →
    All (λ stream. sum_by (λ packet. length packet.bytes) stream.units ≤ 1099511627776) streams → All (IsReady earliest) read
all_ready earliest [] [] are few small = All-nil (IsReady earliest)
all_ready earliest [] (r ∷ rs) are few small = absurd are
all_ready earliest (s ∷ ss) [] are few small = absurd are
all_ready earliest (s ∷ ss) (r ∷ rs) are few small =
    All-cons (IsReady earliest) r rs (ready_of earliest s r are.0 (few 0 s (omega arith)) (small 0 s (omega arith)))
    (all_ready earliest ss rs are.1 (All-tail (λ (stream : AudioStream). length stream.units ≤ 4000000) s ss few)
    (All-tail (λ (stream : AudioStream). sum_by (λ packet. length packet.bytes) stream.units ≤ 1099511627776) s ss small))

-- ---- one stream more

zip_push : {A B : Type 0} (R : A → B → Type 0) (xs : List A) (ys : List B) (x : A) (y : B) → AllZip R xs ys → R x y → AllZip R (xs ++ x ∷ []) (ys ++ y ∷ [])
zip_push R [] [] x y are is = (is, tt)
zip_push R [] (b ∷ bs) x y are is = absurd are
zip_push R (a ∷ xs) [] x y are is = absurd are
zip_push R (a ∷ xs) (b ∷ bs) x y are is = (are.0, zip_push R xs bs x y are.1 is)

pub cut_more : (start : ℕ) (earliest : ℤ) (streams : List ReadStream) (i : ℕ) (stream : ReadStream) (old new : List (List AudioPiece)) (pieces : List AudioPiece) → i < length streams →
    stream ≡ get_or streams i stream → new ≡ old ++ pieces ∷ [] → AllZip (IsCutUp start earliest) (take i streams) old → IsCutUp start earliest stream pieces →
    AllZip (IsCutUp start earliest) (take (i + 1) streams) new
cut_more start earliest streams i stream old new pieces lt is pushed are cut =
    let more : take (i + 1) streams ≡ take i streams ++ stream ∷ [] = take_more streams i stream lt ∙ ap (λ (s : ReadStream). take i streams ++ s ∷ []) (sym is) in
    subst (λ (all : List (List AudioPiece)). AllZip (IsCutUp start earliest) (take (i + 1) streams) all) (sym pushed)
    (subst (λ (all : List ReadStream). AllZip (IsCutUp start earliest) all (old ++ pieces ∷ [])) (sym more)
    (zip_push (IsCutUp start earliest) (take i streams) old stream pieces are cut))

-- ---- the streams with their bytes

pub streams_read : (first : ℤ) (streams : List AudioStream) (read : List ReadStream) → AllZip (IsStreamRead first) streams read → AreStreamsRead first streams read
streams_read first [] [] are = tt
streams_read first [] (r ∷ rs) are = absurd are
streams_read first (s ∷ ss) [] are = absurd are
streams_read first (s ∷ ss) (r ∷ rs) are = (are.0, streams_read first ss rs are.1)

-- each with the bytes of its PES packets that are taken
pub sources_of : List AudioStream → List (List AudioPiece) → List AudioSource
sources_of [] pieces = []
sources_of (s ∷ ss) [] = []
sources_of (s ∷ ss) (p ∷ ps) = record { bytes = flat_map (λ packet. packet.bytes) (taken_of s); pieces = p } ∷ sources_of ss ps

pub are_sources : (start : ℕ) (first earliest : ℤ) (streams : List AudioStream) (read : List ReadStream) (pieces : List (List AudioPiece)) → AreStreamsRead first streams read →
    AllZip (IsCutUp start earliest) read pieces → AreAudioSources start earliest streams (map (λ one. one.frames) read) (sources_of streams pieces)
unfolding sources_of
are_sources start first earliest [] [] [] are cut = tt
are_sources start first earliest [] [] (p ∷ ps) are cut = absurd cut
are_sources start first earliest [] (r ∷ rs) pieces are cut = absurd are
are_sources start first earliest (s ∷ ss) [] pieces are cut = absurd are
are_sources start first earliest (s ∷ ss) (r ∷ rs) [] are cut = absurd cut
are_sources start first earliest (s ∷ ss) (r ∷ rs) (p ∷ ps) are cut = (
  record { bytes = refl; pieces = subst (λ (placed : List PlacedPacket). ArePieces start earliest r.frames (placed_pieces 0 placed) p) are.0.placed cut.0 },
  are_sources start first earliest ss rs ps are.1 cut.1,
)

pub pieces_of : (start : ℕ) (first earliest : ℤ) (streams : List AudioStream) (read : List ReadStream) (pieces : List (List AudioPiece)) → AreStreamsRead first streams read →
    AllZip (IsCutUp start earliest) read pieces → pieces ≡ map (λ audio. audio.pieces) (sources_of streams pieces)
unfolding sources_of
pieces_of start first earliest [] [] [] are cut = refl
pieces_of start first earliest [] [] (p ∷ ps) are cut = absurd cut
pieces_of start first earliest [] (r ∷ rs) pieces are cut = absurd are
pieces_of start first earliest (s ∷ ss) [] pieces are cut = absurd are
pieces_of start first earliest (s ∷ ss) (r ∷ rs) [] are cut = absurd cut
pieces_of start first earliest (s ∷ ss) (r ∷ rs) (p ∷ ps) are cut = ap (λ (more : List (List AudioPiece)). p ∷ more) (pieces_of start first earliest ss rs ps are.1 cut.1)
