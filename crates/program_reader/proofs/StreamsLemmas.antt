-- Audio streams, one more behind those before.
use Rattle.std.proofs.Common.{◌≡◌, ◌⊎◌, ℕ, suc, ◌+◌, ◌<◌, List, [], ◌∷◌, ◌++◌, length, refl, sym, ap, ap₂, ◌∙◌, subst, inl, inr, map, take, drop, get_or, ℤ}
use Rattle.std.proofs.Math.Seq.{split_at}
use Rattle.std.proofs.lemmas.List.{take_more}
use Rattle.ts_demux.specs.declared.demuxed.AudioStream.{AudioStream}
use Rattle.elementary_streams.specs.declared.audio_stream.ReadStream.{ReadStream}
use Rattle.elementary_streams.specs.declared.stream_fault.StreamFault.{StreamFault}
use Rattle.elementary_streams.specs.declared.stream_fault.StreamFault.TheVariants as stream_faults
use Rattle.program_reader.specs.declared.program_fault.ProgramFault.{ProgramFault}
use Rattle.program_reader.specs.declared.program_fault.ProgramFault.TheVariants.{OutOfMemory}
use Rattle.program_reader.specs.Audio.{HaveFrames, IsAudioFault}
use Rattle.program_reader.specs.Faults.{of_stream}
use Rattle.elementary_streams.specs.Audio.{IsStreamRefused, audio_type, IsStreamRead}
use Rattle.program_reader.specs.Private.AudioStreams.{AreStreamsRead}

pub streams_push : (first : ℤ) (streams : List AudioStream) (read : List ReadStream) (stream : AudioStream) (one : ReadStream) → AreStreamsRead first streams read →
    IsStreamRead first stream one → AreStreamsRead first (streams ++ stream ∷ []) (read ++ one ∷ [])
streams_push first [] [] stream one are is = (is, tt)
streams_push first [] (r ∷ rs) stream one are is = absurd are
streams_push first (s ∷ ss) [] stream one are is = absurd are
streams_push first (s ∷ ss) (r ∷ rs) stream one are is = (are.0, streams_push first ss rs stream one are.1 is)

-- the frames of streams that are read
pub have_frames : (first : ℤ) (streams : List AudioStream) (read : List ReadStream) → AreStreamsRead first streams read →
    HaveFrames first streams (map (λ one. one.frames) read)
have_frames first [] [] are = tt
have_frames first [] (r ∷ rs) are = absurd are
have_frames first (s ∷ ss) [] are = absurd are
have_frames first (s ∷ ss) (r ∷ rs) are = (are.0.frames_are, have_frames first ss rs are.1)

-- their types
pub types_are : (first : ℤ) (streams : List AudioStream) (read : List ReadStream) → AreStreamsRead first streams read → map (λ one. one.kind) read ≡ map audio_type streams
types_are first [] [] are = refl
types_are first [] (r ∷ rs) are = absurd are
types_are first (s ∷ ss) [] are = absurd are
types_are first (s ∷ ss) (r ∷ rs) are = ap₂ (λ (n : ℕ) (ns : List ℕ). n ∷ ns) are.0.kind_is (types_are first ss rs are.1)

pub streams_more : (first : ℤ) (streams : List AudioStream) (i : ℕ) (read news : List ReadStream) (stream : AudioStream) (one : ReadStream) → i < length streams →
    stream ≡ get_or streams i stream → news ≡ read ++ one ∷ [] → AreStreamsRead first (take i streams) read → IsStreamRead first stream one → AreStreamsRead first (take (i + 1) streams) news
streams_more first streams i read news stream one lt is pushed are found =
    let more : take (i + 1) streams ≡ take i streams ++ stream ∷ [] = take_more streams i stream lt ∙ ap (λ (s : AudioStream). take i streams ++ s ∷ []) (sym is) in
    subst (λ (all : List ReadStream). AreStreamsRead first (take (i + 1) streams) all) (sym pushed)
    (subst (λ (all : List AudioStream). AreStreamsRead first all (read ++ one ∷ [])) (sym more) (streams_push first (take i streams) read stream one are found))

pub stream_refused : (first : ℤ) (streams : List AudioStream) (i : ℕ) (read : List ReadStream) (stream : AudioStream) (found : StreamFault) (fault : ProgramFault) → i < length streams →
    stream ≡ get_or streams i stream → AreStreamsRead first (take i streams) read → (found ≡ stream_faults.OutOfMemory) ⊎ IsStreamRefused first stream found → fault ≡ of_stream found →
    (fault ≡ OutOfMemory) ⊎ IsAudioFault first streams fault
stream_refused first streams i read stream found fault lt is are (inl memory) said = inl (said ∙ ap of_stream memory)
stream_refused first streams i read stream found fault lt is are (inr refused) said = inr (record {
  before = take i streams;
  stream = stream;
  more = drop (suc i) streams;
  split = split_at streams i stream lt ∙ ap (λ (s : AudioStream). take i streams ++ s ∷ drop (suc i) streams) (sym is);
  frames = map (λ one. one.frames) read;
  have = have_frames first (take i streams) read are;
  found = found;
  refused = refused;
  fault_is = said;
})
