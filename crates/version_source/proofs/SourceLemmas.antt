-- The pieces of a stream at its place.
use Rattle.std.proofs.Common.{◌≡◌, ℕ, zero, suc, ◌-◌, ◌<◌, ◌≤◌, List, [], ◌∷◌, length, map, take, get_or, set, replicate, slice_index_or, All, Ok, Err, false, None, refl, ap, subst, sym, ◌∙◌, arith}
use Rattle.std.specs.Prelude.{IfOk, Result}
use Rattle.std.specs.Coded.{le_prop}
use Rattle.std.proofs.Math.Logic.{∥∥₁_elim}
use Rattle.std.proofs.Props.{props}
use Rattle.shelf_io.specs.declared.fault.Fault.{Fault}
use Rattle.bit_lists.specs.Payload.{Payload}
use Rattle.mux_writer.specs.declared.piece_source.Filled.{Filled}
use Rattle.mux_writer.specs.Pieces.{IsFilledWith}
use Rattle.program_reader.specs.declared.program.AudioPiece.{AudioPiece}
use Rattle.program_reader.specs.declared.program.AudioSource.{AudioSource}
use Rattle.job_report.specs.declared.job.ProgramJob.{ProgramJob}
use Rattle.program_reader.specs.declared.program.Program.{Program}
use Rattle.program_reader.specs.declared.program.UnitSource.{UnitSource}
use Rattle.version_maker.specs.declared.version.UnitVersion.{UnitVersion}
use Rattle.version_source.specs.declared.place.Place.{Place}
use Rattle.version_source.specs.declared.sent_video.SentVideo.{SentVideo}
use Rattle.version_source.specs.Pieces.{HasPiece, audio_items, audio_payload, pieces_of, stream_items, video_items}
use Rattle.version_source.specs.Sendable.{IsPieceOf, IsSendable}
use Rattle.version_source.specs.Versions.{AreAllVersions, AreVideoVersions, NamesVersions, ratios_of}
use Rattle.version_source.specs.Private.Kept.{AreKept, AreSent, IsKept, IsVideo, nothing}
use Rattle.version_source.specs.Private.Made.{HasVersions, HaveVersions}
use Rattle.version_source.specs.Private.Place.{Covers, IsNoPlace, IsPlace}
use Rattle.version_source.specs.Private.OneVersions.{one-video}
use Rattle.version_source.proofs.Items.{items-own, unit-within}
use Rattle.version_source.proofs.KeptLemmas.{kept-at, kept-set, nothing-kept, video-at}
use Rattle.version_source.proofs.MadeLemmas.{has-made, made-at, ratios-at, ratios-many, same-made, versions-many}
use Rattle.version_source.proofs.PlaceLemmas.{covers-at, no-stream, stream-at}

abbrev none : Payload
none = record { start = false; bytes = [] }

-- whichever versions programs have, there is such a piece
abbrev pub Has : List Program → (ratios : List (List ℕ)) → (choice : List ℕ) → (stream item piece : ℕ) → Type 0
Has programs ratios choice stream item piece =
    (versions : List (List (List UnitVersion))) → AreAllVersions programs ratios versions → HasPiece (stream_items programs versions choice) stream item piece

empty-piece : (items : List (List Payload)) (item piece : ℕ) → items ≡ [] → piece < length (slice_index_or items item []) → ⊥
empty-piece items item piece empty within =
    let bad : piece < 0 = subst (λ (xs : List (List Payload)). piece < length (slice_index_or xs item [])) empty within in omega (arith, bad)

-- a stream that isn't there has no piece
pub nowhere : (programs : List Program) (ratios : List (List ℕ)) (choice : List ℕ) (stream item piece : ℕ) → IsNoPlace programs choice stream → HaveVersions programs ratios
    → Has programs ratios choice stream item piece → ⊥
nowhere programs ratios choice stream item piece is made has = ∥∥₁_elim made.1 (λ a b. absurd a) there
  where
    there : AreAllVersions programs ratios made.0 → ⊥
    there are =
        empty-piece (slice_index_or (stream_items programs made.0 choice) stream []) item piece
        (no-stream programs made.0 choice stream is.left is.rest (versions-many programs ratios made.0 are) is.skips) (has made.0 are)

-- ---- a video

video-items : (programs : List Program) (ratios : List (List ℕ)) (choice : List ℕ) (stream : ℕ) (place : Place) (d : Program) (versions : List (List (List UnitVersion)))
    → IsPlace programs choice stream place → place.stream ≡ 0 → AreAllVersions programs ratios versions
    → slice_index_or (stream_items programs versions choice) stream []
    ≡ video_items (get_or programs place.program d).units (get_or versions place.program []) (take (length (get_or programs place.program d).units) place.choice.now)
video-items programs ratios choice stream place d versions is video are =
    stream-at programs versions choice stream place.program place.stream place.choice.now d (versions-many programs ratios versions are) is.skips is.within (is.one d)
    ∙ ap (λ (n : ℕ). get_or (video_items (get_or programs place.program d).units (get_or versions place.program []) place.choice.now
    ∷ map audio_items (get_or programs place.program d).audios) n []) video
    ∙ items-own (get_or programs place.program d).units (get_or versions place.program []) place.choice.now

pub video-has : (programs : List Program) (ratios : List (List ℕ)) (choice : List ℕ) (stream item piece : ℕ) (place : Place) (d : Program) → IsPlace programs choice stream place → place.stream ≡ 0
    → HaveVersions programs ratios → Has programs ratios choice stream item piece → (versions : List (List UnitVersion))
    → AreVideoVersions (get_or programs place.program d).video (get_or ratios place.program []) None (get_or programs place.program d).units versions
    → piece < length (slice_index_or (video_items (get_or programs place.program d).units versions (take (length (get_or programs place.program d).units) place.choice.now)) item [])
video-has programs ratios choice stream item piece place d is video made has versions those = ∥∥₁_elim made.1 le_prop there
  where
    there : AreAllVersions programs ratios made.0
        → piece < length (slice_index_or (video_items (get_or programs place.program d).units versions (take (length (get_or programs place.program d).units) place.choice.now)) item [])
    there are =
        let same : get_or made.0 place.program [] ≡ versions =
        one-video (get_or programs place.program d).video (get_or ratios place.program []) None (get_or programs place.program d).units (get_or made.0 place.program []) versions
        (made-at programs ratios made.0 place.program d are is.within) those in
        let items = video-items programs ratios choice stream place d made.0 is video are in
        subst (λ (vs : List (List UnitVersion)). piece
        < length (slice_index_or (video_items (get_or programs place.program d).units vs (take (length (get_or programs place.program d).units) place.choice.now)) item [])) same
        (subst (λ (xs : List (List Payload)). piece < length (slice_index_or xs item [])) items (has made.0 are))

-- its unit is there
pub video-unit : (programs : List Program) (ratios : List (List ℕ)) (choice : List ℕ) (stream item piece : ℕ) (place : Place) (d : Program) → IsPlace programs choice stream place → place.stream ≡ 0
    → HaveVersions programs ratios → Has programs ratios choice stream item piece → item < length (get_or programs place.program d).units
video-unit programs ratios choice stream item piece place d is video made has = ∥∥₁_elim made.1 le_prop there
  where
    there : AreAllVersions programs ratios made.0 → item < length (get_or programs place.program d).units
    there are =
        unit-within (get_or programs place.program d).units (get_or made.0 place.program []) (take (length (get_or programs place.program d).units) place.choice.now) item piece
        (video-has programs ratios choice stream item piece place d is video made has (get_or made.0 place.program []) (made-at programs ratios made.0 place.program d are is.within))

pub video-told : (programs : List Program) (ratios : List (List ℕ)) (choice : List ℕ) (stream item piece : ℕ) (place : Place) (d : Program) (filled : Filled) (buffer : List ℕ)
    → IsPlace programs choice stream place → place.stream ≡ 0
    → ((versions : List (List UnitVersion)) → AreVideoVersions (get_or programs place.program d).video (get_or ratios place.program []) None (get_or programs place.program d).units versions
    → IsFilledWith
    (slice_index_or (slice_index_or (video_items (get_or programs place.program d).units versions (take (length (get_or programs place.program d).units) place.choice.now)) item [])
    piece none) filled buffer)
    → (versions : List (List (List UnitVersion))) → AreAllVersions programs ratios versions → IsFilledWith (pieces_of (stream_items programs versions choice) stream item piece) filled buffer
video-told programs ratios choice stream item piece place d filled buffer is video told versions are =
    subst (λ (xs : List (List Payload)). IsFilledWith (slice_index_or (slice_index_or xs item []) piece none) filled buffer)
    (sym (video-items programs ratios choice stream place d versions is video are)) (told (get_or versions place.program []) (made-at programs ratios versions place.program d are is.within))

-- these are the bytes, ratios, units and numbers of the video at a place
pub record IsVideoAt (programs : List Program) (ratios : List (List ℕ)) (place : Place) (d : Program) (es coarser : List ℕ) (units : List UnitSource) (own : List ℕ) : Type 0 where
  pub es_is : es ≡ (get_or programs place.program d).video
  pub coarser_is : coarser ≡ get_or ratios place.program []
  pub units_is : units ≡ (get_or programs place.program d).units
  pub own_is : own ≡ take (length (get_or programs place.program d).units) place.choice.now

-- what holds of the video at a place
abbrev pub HoldsAt : (List ℕ → List ℕ → List UnitSource → List ℕ → Type 0) → List Program → List (List ℕ) → Place → Program → Type 0
HoldsAt Q programs ratios place d =
    Q (get_or programs place.program d).video (get_or ratios place.program []) (get_or programs place.program d).units (take (length (get_or programs place.program d).units) place.choice.now)

pub at-video : (Q : List ℕ → List ℕ → List UnitSource → List ℕ → Type 0) (programs : List Program) (ratios : List (List ℕ)) (place : Place) (d : Program) (es coarser : List ℕ)
    (units : List UnitSource) (own : List ℕ) → IsVideoAt programs ratios place d es coarser units own → HoldsAt Q programs ratios place d → Q es coarser units own
at-video Q programs ratios place d es coarser units own is holds =
    subst (λ (e : List ℕ). Q e coarser units own) (sym is.es_is)
    (subst (λ (c : List ℕ). Q (get_or programs place.program d).video c units own) (sym is.coarser_is)
    (subst (λ (us : List UnitSource). Q (get_or programs place.program d).video (get_or ratios place.program []) us own) (sym is.units_is)
    (subst (λ (xs : List ℕ). Q (get_or programs place.program d).video (get_or ratios place.program []) (get_or programs place.program d).units xs) (sym is.own_is) holds)))

pub from-video : (Q : List ℕ → List ℕ → List UnitSource → List ℕ → Type 0) (programs : List Program) (ratios : List (List ℕ)) (place : Place) (d : Program) (es coarser : List ℕ)
    (units : List UnitSource) (own : List ℕ) → IsVideoAt programs ratios place d es coarser units own → Q es coarser units own → HoldsAt Q programs ratios place d
from-video Q programs ratios place d es coarser units own is holds =
    subst (λ (e : List ℕ). Q e (get_or ratios place.program []) (get_or programs place.program d).units (take (length (get_or programs place.program d).units) place.choice.now)) is.es_is
    (subst (λ (c : List ℕ). Q es c (get_or programs place.program d).units (take (length (get_or programs place.program d).units) place.choice.now)) is.coarser_is
    (subst (λ (us : List UnitSource). Q es coarser us (take (length (get_or programs place.program d).units) place.choice.now)) is.units_is
    (subst (λ (xs : List ℕ). Q es coarser units xs) is.own_is holds)))

pub video-is : (programs : List Program) (jobs : List ProgramJob) (place : Place) (program : Program) (job : ProgramJob) (es coarser : List ℕ) (units : List UnitSource) (own : List ℕ) (count : ℕ)
    → place.program < length jobs → program ≡ get_or programs place.program program → es ≡ program.video → units ≡ program.units
    → coarser ≡ (get_or jobs place.program job).coarser.items → count ≡ length program.units → own ≡ take count place.choice.now
    → IsVideoAt programs (ratios_of jobs) place program es coarser units own
video-is programs jobs place program job es coarser units own count within program_is es_is units_is coarser_is count_is own_is = record {
  es_is = es_is ∙ ap (λ (p : Program). p.video) program_is;
  coarser_is = coarser_is ∙ sym (ratios-at jobs place.program job within);
  units_is = units_is ∙ ap (λ (p : Program). p.units) program_is;
  own_is = own_is ∙ ap (λ (n : ℕ). take n place.choice.now) (count_is ∙ ap (λ (p : Program). length p.units) program_is);
}

-- all that a call for a piece of it requires
pub record MayBeAsked (es coarser : List ℕ) (units : List UnitSource) (own : List ℕ) (item piece : ℕ) : Type 0 where
  pub video : IsVideo es coarser units own
  pub made : HasVersions es coarser units
  pub number : item < length units
  pub piece_there : (versions : List (List UnitVersion)) → AreVideoVersions es coarser None units versions → piece < length (slice_index_or (video_items units versions own) item [])

pub may-be-asked : (programs : List Program) (ratios : List (List ℕ)) (choice : List ℕ) (stream item piece : ℕ) (place : Place) (d : Program) (es coarser : List ℕ) (units : List UnitSource)
    (own : List ℕ) → IsVideoAt programs ratios place d es coarser units own → All IsSendable programs → NamesVersions programs ratios choice → IsPlace programs choice stream place
    → place.stream ≡ 0 → HaveVersions programs ratios → Has programs ratios choice stream item piece → MayBeAsked es coarser units own item piece
may-be-asked programs ratios choice stream item piece place d es coarser units own at sendable names is video made has =
    at-video (λ e c us xs. MayBeAsked e c us xs item piece) programs ratios place d es coarser units own at (record {
      video = video-at programs ratios choice stream place.program place.stream place.choice.now d sendable names is.skips is.within;
      made = has-made programs ratios place.program d made is.within;
      number = video-unit programs ratios choice stream item piece place d is video made has;
      piece_there = video-has programs ratios choice stream item piece place d is video made has;
    })

pub kept-there : (programs : List Program) (ratios : List (List ℕ)) (choice : List ℕ) (sent : List SentVideo) (stream : ℕ) (place : Place) (d : Program) (es coarser : List ℕ)
    (units : List UnitSource) (own : List ℕ) (e : SentVideo) → IsVideoAt programs ratios place d es coarser units own → AreKept programs ratios choice sent → IsPlace programs choice stream place
    → IsKept es coarser units own (get_or sent place.program e)
kept-there programs ratios choice sent stream place d es coarser units own e at kept is =
    at-video (λ b c us xs. IsKept b c us xs (get_or sent place.program e)) programs ratios place d es coarser units own at
    (kept-at programs ratios choice sent stream place.program place.stream place.choice.now d e kept is.skips is.within)

pub kept-again : (programs : List Program) (ratios : List (List ℕ)) (choice : List ℕ) (sent : List SentVideo) (stream : ℕ) (place : Place) (d : Program) (es coarser : List ℕ)
    (units : List UnitSource) (own : List ℕ) (new : SentVideo) → IsVideoAt programs ratios place d es coarser units own → AreKept programs ratios choice sent → IsPlace programs choice stream place
    → IsKept es coarser units own new → AreKept programs ratios choice (set sent place.program new)
kept-again programs ratios choice sent stream place d es coarser units own new at kept is anew =
    kept-set programs ratios choice sent stream place.program place.stream place.choice.now d new kept is.skips is.within
    (from-video (λ b c us xs. IsKept b c us xs new) programs ratios place d es coarser units own at anew)

pub video-answer : (programs : List Program) (ratios : List (List ℕ)) (choice : List ℕ) (stream item piece : ℕ) (place : Place) (d : Program) (es coarser : List ℕ) (units : List UnitSource)
    (own : List ℕ) (filled : Filled) (buffer : List ℕ) → IsVideoAt programs ratios place d es coarser units own → IsPlace programs choice stream place → place.stream ≡ 0
    → ((versions : List (List UnitVersion)) → AreVideoVersions es coarser None units versions
    → IsFilledWith (slice_index_or (slice_index_or (video_items units versions own) item []) piece none) filled buffer)
    → (versions : List (List (List UnitVersion))) → AreAllVersions programs ratios versions → IsFilledWith (pieces_of (stream_items programs versions choice) stream item piece) filled buffer
video-answer programs ratios choice stream item piece place d es coarser units own filled buffer at is video told =
    video-told programs ratios choice stream item piece place d filled buffer is video
    (from-video (λ b c us xs. (versions : List (List UnitVersion)) → AreVideoVersions b c None us versions
    → IsFilledWith (slice_index_or (slice_index_or (video_items us versions xs) item []) piece none) filled buffer) programs ratios place d es coarser units own at told)

pub own-fits : (programs : List Program) (choice : List ℕ) (stream : ℕ) (place : Place) (program : Program) (count : ℕ) → Covers programs choice → IsPlace programs choice stream place
    → program ≡ get_or programs place.program program → count ≡ length program.units → count ≤ length place.choice.now
own-fits programs choice stream place program count covers is program_is count_is =
    let few : length (get_or programs place.program program).units ≤ length place.choice.now =
    covers-at programs choice stream place.program place.stream place.choice.now program covers is.skips is.within in
    omega (arith, few, count_is, ap (λ (p : Program). length p.units) program_is)

-- ---- an audio stream

get-map : {A B : Type 0} (f : A → B) (xs : List A) (k : ℕ) (a : A) (b : B) → k < length xs → get_or (map f xs) k b ≡ f (get_or xs k a)
get-map f [] k a b within = absurd (let e : k < 0 = within in omega (arith, e))
get-map f (x ∷ xs) zero a b within = refl
get-map f (x ∷ xs) (suc k) a b within = get-map f xs k a b (omega (arith, within))

audio-items : (programs : List Program) (ratios : List (List ℕ)) (choice : List ℕ) (stream : ℕ) (place : Place) (d : Program) (e : AudioSource) (versions : List (List (List UnitVersion)))
    → IsPlace programs choice stream place → 0 < place.stream → AreAllVersions programs ratios versions
    → slice_index_or (stream_items programs versions choice) stream [] ≡ audio_items (get_or (get_or programs place.program d).audios (place.stream - 1) e)
audio-items programs ratios choice stream place d e versions is audio are =
    let one : place.stream ≤ length (get_or programs place.program d).audios = is.one d in
    let next : place.stream ≡ suc (place.stream - 1) = omega (arith, audio) in
    stream-at programs versions choice stream place.program place.stream place.choice.now d (versions-many programs ratios versions are) is.skips is.within one
    ∙ ap (λ (n : ℕ). get_or (video_items (get_or programs place.program d).units (get_or versions place.program []) place.choice.now
    ∷ map audio_items (get_or programs place.program d).audios) n []) next
    ∙ get-map audio_items (get_or programs place.program d).audios (place.stream - 1) e [] (omega (arith, audio, one))

-- of the items of an audio stream each has one piece
one-piece : (bytes : List ℕ) (pieces : List AudioPiece) (item piece : ℕ) (d : AudioPiece) → piece < length (slice_index_or (map (λ part. audio_payload bytes part ∷ []) pieces) item [])
    → (item < length pieces) × (slice_index_or (slice_index_or (map (λ part. audio_payload bytes part ∷ []) pieces) item []) piece none ≡ audio_payload bytes (get_or pieces item d))
one-piece bytes [] item piece d within = absurd (let e : piece < 0 = within in omega (arith, e))
one-piece bytes (p ∷ ps) zero zero d within = (omega arith, refl)
one-piece bytes (p ∷ ps) zero (suc piece) d within = absurd (let e : suc piece < 1 = within in omega (arith, e))
one-piece bytes (p ∷ ps) (suc item) piece d within = let rest = one-piece bytes ps item piece d within in (omega (arith, rest.0), rest.1)

pub audio-there : (programs : List Program) (ratios : List (List ℕ)) (choice : List ℕ) (stream item piece : ℕ) (place : Place) (d : Program) (e : AudioSource) → IsPlace programs choice stream place
    → 0 < place.stream → HaveVersions programs ratios → Has programs ratios choice stream item piece → item < length (get_or (get_or programs place.program d).audios (place.stream - 1) e).pieces
audio-there programs ratios choice stream item piece place d e is audio made has = ∥∥₁_elim made.1 le_prop there
  where
    there : AreAllVersions programs ratios made.0 → item < length (get_or (get_or programs place.program d).audios (place.stream - 1) e).pieces
    there are =
        (one-piece (get_or (get_or programs place.program d).audios (place.stream - 1) e).bytes (get_or (get_or programs place.program d).audios (place.stream - 1) e).pieces item piece
        (record { packet = record { due = 0; gone = 0; bytes = 0 }; start = false; at = 0 })
        (subst (λ (xs : List (List Payload)). piece < length (slice_index_or xs item [])) (audio-items programs ratios choice stream place d e made.0 is audio are) (has made.0 are))).0

pub audio-told : (programs : List Program) (ratios : List (List ℕ)) (choice : List ℕ) (stream item piece : ℕ) (place : Place) (d : Program) (e : AudioSource) (part : AudioPiece) (filled : Filled)
    (buffer : List ℕ) → IsPlace programs choice stream place → 0 < place.stream → Has programs ratios choice stream item piece
    → IsFilledWith (audio_payload (get_or (get_or programs place.program d).audios (place.stream - 1) e).bytes
    (get_or (get_or (get_or programs place.program d).audios (place.stream - 1) e).pieces item part)) filled buffer
    → (versions : List (List (List UnitVersion))) → AreAllVersions programs ratios versions → IsFilledWith (pieces_of (stream_items programs versions choice) stream item piece) filled buffer
audio-told programs ratios choice stream item piece place d e part filled buffer is audio has told versions are =
    let source : AudioSource = get_or (get_or programs place.program d).audios (place.stream - 1) e in
    let items : slice_index_or (stream_items programs versions choice) stream [] ≡ audio_items source = audio-items programs ratios choice stream place d e versions is audio are in
    let one = one-piece source.bytes source.pieces item piece part (subst (λ (xs : List (List Payload)). piece < length (slice_index_or xs item [])) items (has versions are)) in
    subst (λ (payload : Payload). IsFilledWith payload filled buffer)
    (sym (ap (λ (xs : List (List Payload)). slice_index_or (slice_index_or xs item []) piece none) items ∙ one.1)) told

-- it stands among the bytes of its stream
audio-stands : (programs : List Program) (k j item : ℕ) (d : Program) (e : AudioSource) (part : AudioPiece) → All IsSendable programs → k < length programs
    → j < length (get_or programs k d).audios → item < length (get_or (get_or programs k d).audios j e).pieces
    → IsPieceOf (get_or (get_or programs k d).audios j e).bytes (get_or (get_or (get_or programs k d).audios j e).pieces item part)
audio-stands programs k j item d e part sendable program stream within = (sendable k d program).audio j e stream item part within

-- this is the audio stream at a place
pub record IsAudioAt (programs : List Program) (place : Place) (program : Program) (audio : AudioSource) (bytes : List ℕ) (pieces : List AudioPiece) : Type 0 where
  pub audio_is : audio ≡ get_or (get_or programs place.program program).audios (place.stream - 1) audio
  pub bytes_is : bytes ≡ audio.bytes
  pub pieces_is : pieces ≡ audio.pieces

pub audio-is : (programs : List Program) (place : Place) (program : Program) (audios : List AudioSource) (audio : AudioSource) (bytes : List ℕ) (pieces : List AudioPiece)
    → program ≡ get_or programs place.program program → audios ≡ program.audios → audio ≡ get_or audios (place.stream - 1) audio → bytes ≡ audio.bytes → pieces ≡ audio.pieces
    → IsAudioAt programs place program audio bytes pieces
audio-is programs place program audios audio bytes pieces program_is audios_is audio_is bytes_is pieces_is = record {
  audio_is = audio_is ∙ ap (λ (xs : List AudioSource). get_or xs (place.stream - 1) audio) (audios_is ∙ ap (λ (p : Program). p.audios) program_is);
  bytes_is = bytes_is;
  pieces_is = pieces_is;
}

pub audio-bounds : (programs : List Program) (ratios : List (List ℕ)) (choice : List ℕ) (stream item piece : ℕ) (place : Place) (program : Program) (audio : AudioSource) (bytes : List ℕ)
    (pieces : List AudioPiece) → IsAudioAt programs place program audio bytes pieces → IsPlace programs choice stream place → 0 < place.stream → HaveVersions programs ratios
    → Has programs ratios choice stream item piece → item < length pieces
audio-bounds programs ratios choice stream item piece place program audio bytes pieces at is behind made has =
    subst (λ (ps : List AudioPiece). item < length ps) (sym at.pieces_is)
    (subst (λ (a : AudioSource). item < length a.pieces) (sym at.audio_is) (audio-there programs ratios choice stream item piece place program audio is behind made has))

pub audio-fits : (programs : List Program) (ratios : List (List ℕ)) (choice : List ℕ) (stream item piece : ℕ) (place : Place) (program : Program) (audio : AudioSource) (bytes : List ℕ)
    (pieces : List AudioPiece) (part : AudioPiece) → All IsSendable programs → IsAudioAt programs place program audio bytes pieces → IsPlace programs choice stream place → 0 < place.stream
    → HaveVersions programs ratios → Has programs ratios choice stream item piece → IsPieceOf bytes (get_or pieces item part)
audio-fits programs ratios choice stream item piece place program audio bytes pieces part sendable at is behind made has =
    let one : place.stream ≤ length (get_or programs place.program program).audios = is.one program in
    subst (λ (xs : List ℕ). IsPieceOf xs (get_or pieces item part)) (sym at.bytes_is)
    (subst (λ (ps : List AudioPiece). IsPieceOf audio.bytes (get_or ps item part)) (sym at.pieces_is)
    (subst (λ (a : AudioSource). IsPieceOf a.bytes (get_or a.pieces item part)) (sym at.audio_is)
    (audio-stands programs place.program (place.stream - 1) item program audio part sendable is.within (omega (arith, one, behind))
    (audio-there programs ratios choice stream item piece place program audio is behind made has))))

pub audio-answer : (programs : List Program) (ratios : List (List ℕ)) (choice : List ℕ) (stream item piece : ℕ) (place : Place) (program : Program) (audio : AudioSource) (bytes : List ℕ)
    (pieces : List AudioPiece) (part : AudioPiece) (filled : Filled) (buffer : List ℕ) → IsAudioAt programs place program audio bytes pieces → IsPlace programs choice stream place → 0 < place.stream
    → Has programs ratios choice stream item piece → IsFilledWith (audio_payload bytes (get_or pieces item part)) filled buffer
    → (versions : List (List (List UnitVersion))) → AreAllVersions programs ratios versions → IsFilledWith (pieces_of (stream_items programs versions choice) stream item piece) filled buffer
audio-answer programs ratios choice stream item piece place program audio bytes pieces part filled buffer at is behind has told =
    audio-told programs ratios choice stream item piece place program audio part filled buffer is behind has
    (subst (λ (a : AudioSource). IsFilledWith (audio_payload a.bytes (get_or a.pieces item part)) filled buffer) at.audio_is
    (subst (λ (ps : List AudioPiece). IsFilledWith (audio_payload audio.bytes (get_or ps item part)) filled buffer) at.pieces_is
    (subst (λ (xs : List ℕ). IsFilledWith (audio_payload xs (get_or pieces item part)) filled buffer) at.bytes_is told)))

-- ---- a source

filled-prop : (payload : Payload) (filled : Filled) (buffer : List ℕ) → IsProp (IsFilledWith payload filled buffer)
filled-prop payload filled buffer = hlevel props

pub asked : (programs : List Program) (ratios : List (List ℕ)) (choice : List ℕ) (made : HaveVersions programs ratios) (items : List (List (List Payload))) (stream item piece : ℕ)
    → stream_items programs made.0 choice ≡ items → HasPiece items stream item piece → Has programs ratios choice stream item piece
asked programs ratios choice made items stream item piece is has versions are =
    subst (λ (xs : List (List (List Payload))). HasPiece xs stream item piece)
    (sym is ∙ ap (λ (vs : List (List (List UnitVersion))). stream_items programs vs choice) (same-made programs ratios made versions are)) has

pub answered : (programs : List Program) (ratios : List (List ℕ)) (choice : List ℕ) (made : HaveVersions programs ratios) (items : List (List (List Payload))) (stream item piece : ℕ)
    (result : Result Filled Fault) (buffer : List ℕ) → stream_items programs made.0 choice ≡ items
    → IfOk result (λ filled. (versions : List (List (List UnitVersion))) → AreAllVersions programs ratios versions
    → IsFilledWith (pieces_of (stream_items programs versions choice) stream item piece) filled buffer)
    → IfOk result (λ filled. IsFilledWith (pieces_of items stream item piece) filled buffer)
answered programs ratios choice made items stream item piece (Ok filled) buffer is told =
    subst (λ (xs : List (List (List Payload))). IsFilledWith (pieces_of xs stream item piece) filled buffer) is
    (∥∥₁_elim made.1 (filled-prop (pieces_of (stream_items programs made.0 choice) stream item piece) filled buffer) (told made.0))
answered programs ratios choice made items stream item piece (Err fault) buffer is told = tt

-- a new one, whose lists are known by equations
pub new-sent : (programs ps : List Program) (jobs js : List ProgramJob) (choice cs : List ℕ) (sent : List SentVideo) → ps ≡ programs → js ≡ jobs → cs ≡ choice → length jobs ≡ length programs
    → All IsSendable programs → NamesVersions programs (ratios_of jobs) choice → sent ≡ replicate (length programs) nothing → AreSent ps js cs sent
new-sent programs ps jobs js choice cs sent p j c many sendable names fresh =
    let base : AreSent programs jobs choice sent = record {
      as_many = many;
      sendable = sendable;
      names = names;
      kept = subst (AreKept programs (ratios_of jobs) choice) (sym fresh) (nothing-kept programs (ratios_of jobs) choice (ratios-many jobs programs many));
    } in
    subst (λ (xs : List Program). AreSent xs js cs sent) (sym p)
    (subst (λ (xs : List ProgramJob). AreSent programs xs cs sent) (sym j) (subst (λ (xs : List ℕ). AreSent programs jobs xs sent) (sym c) base))

pub new-items : (programs ps : List Program) (jobs js : List ProgramJob) (choice cs : List ℕ) (made : HaveVersions ps (ratios_of js)) (versions : List (List (List UnitVersion)))
    → ps ≡ programs → js ≡ jobs → cs ≡ choice → AreAllVersions programs (ratios_of jobs) versions → stream_items ps made.0 cs ≡ stream_items programs versions choice
new-items programs ps jobs js choice cs made versions p j c are =
    let those : AreAllVersions ps (ratios_of js) versions =
    subst (λ (xs : List Program). AreAllVersions xs (ratios_of js) versions) (sym p) (subst (λ (xs : List ProgramJob). AreAllVersions programs (ratios_of xs) versions) (sym j) are) in
    ap (λ (vs : List (List (List UnitVersion))). stream_items ps vs cs) (same-made ps (ratios_of js) made versions those)
    ∙ ap (λ (xs : List Program). stream_items xs versions cs) p ∙ ap (λ (xs : List ℕ). stream_items programs versions xs) c
