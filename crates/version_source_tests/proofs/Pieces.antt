-- The pieces of items that are kept are pieces of their streams.
use Rattle.std.proofs.Common.{◌≡◌, ℕ, zero, suc, ◌+◌, ◌*◌, ◌<◌, List, [], ◌∷◌, ◌++◌, All, length, map, drop, get_or, slice_index_or, Option, Some, None, IfSome, sym, ap, subst, ◌∙◌, arith}
use Rattle.std.proofs.lemmas.List.{get_or-append-add, length-append, length-map}
use Rattle.std.proofs.lemmas.List.Elements.{All-tail}
use Rattle.bit_lists.specs.Payload.{Payload}
use Rattle.pes_units.specs.VideoHeader.{written_pes_header}
use Rattle.pes_units.proofs.PesPieces.{piece-within}
use Rattle.program_reader.specs.declared.program.AudioSource.{AudioSource}
use Rattle.program_reader.specs.declared.program.Program.{Program}
use Rattle.program_reader.specs.declared.program.UnitSource.{UnitSource}
use Rattle.version_maker.specs.declared.version.UnitVersion.{UnitVersion}
use Rattle.version_source.specs.Pieces.{HasPiece, audio_items, pes_packet, stream_items, video_items}
use Rattle.version_source.specs.Sendable.{IsSendable}
use Rattle.version_source.specs.Versions.{chosen_bytes}

-- ---- a picture

chosen-at : (own : List UnitVersion) (index : ℕ) (version : UnitVersion) → index < length own → version ≡ get_or own index version → chosen_bytes own index ≡ version.bytes
chosen-at [] index version within is = absurd (let e : index < 0 = within in omega (arith, e))
chosen-at (v ∷ vs) zero version within is = ap (λ (x : UnitVersion). x.bytes) (sym is)
chosen-at (v ∷ vs) (suc index) version within is = chosen-at vs index version (omega (arith, within)) is

-- a piece of the PES packet of a unit in the version that is chosen
pub picture-has : (units : List UnitSource) (versions : List (List UnitVersion)) (choice : List ℕ) (item piece header : ℕ) (own : List UnitVersion) (index : ℕ) (version : UnitVersion)
    (bytes : List ℕ) (d : UnitSource) (e : List UnitVersion) → item < length units → item < length versions → item < length choice → index < length own → own ≡ get_or versions item e
    → index ≡ get_or choice item 0 → version ≡ get_or own index version → header ≡ length (written_pes_header (get_or units item d).times) → bytes ≡ version.bytes
    → 184 * piece < header + length bytes → piece < length (slice_index_or (video_items units versions choice) item [])
picture-has [] versions choice item piece header own index version bytes d e of in_versions in_choice in_own own_is index_is version_is header_is bytes_are within =
    absurd (let bad : item < 0 = of in omega (arith, bad))
picture-has (u ∷ us) [] choice item piece header own index version bytes d e of in_versions in_choice in_own own_is index_is version_is header_is bytes_are within =
    absurd (let bad : item < 0 = in_versions in omega (arith, bad))
picture-has (u ∷ us) (v ∷ vs) [] item piece header own index version bytes d e of in_versions in_choice in_own own_is index_is version_is header_is bytes_are within =
    absurd (let bad : item < 0 = in_choice in omega (arith, bad))
picture-has (u ∷ us) (v ∷ vs) (c ∷ cs) zero piece header own index version bytes d e of in_versions in_choice in_own own_is index_is version_is header_is bytes_are within =
    let same : chosen_bytes v c ≡ bytes =
    ap (λ (n : ℕ). chosen_bytes v n) (sym index_is) ∙ ap (λ (xs : List UnitVersion). chosen_bytes xs index) (sym own_is) ∙ chosen-at own index version in_own version_is ∙ sym bytes_are in
    let size : length (pes_packet u (chosen_bytes v c)) ≡ length (written_pes_header u.times) + length (chosen_bytes v c) = length-append (written_pes_header u.times) (chosen_bytes v c) in
    let behind : length (chosen_bytes v c) ≡ length bytes = ap (λ (xs : List ℕ). length xs) same in
    piece-within (pes_packet u (chosen_bytes v c)) piece
    (bound (length (pes_packet u (chosen_bytes v c))) (length (written_pes_header u.times)) (length (chosen_bytes v c)) header (length bytes) (184 * piece) size header_is behind within)
  where
    bound : (all first second header bytes n : ℕ) → all ≡ first + second → header ≡ first → second ≡ bytes → n < header + bytes → n < all
    bound all first second header bytes n size head behind within = omega (arith, size, head, behind, within)
picture-has (u ∷ us) (v ∷ vs) (c ∷ cs) (suc item) piece header own index version bytes d e of in_versions in_choice in_own own_is index_is version_is header_is bytes_are within =
    picture-has us vs cs item piece header own index version bytes d e (omega (arith, of)) (omega (arith, in_versions)) (omega (arith, in_choice)) in_own own_is index_is version_is header_is
    bytes_are within

-- ---- the streams of programs

-- the first program's video
pub video-first : (programs : List Program) (versions : List (List (List UnitVersion))) (choice : List ℕ) (stream item piece : ℕ) (p : Program) (ps : List Program) (v : List (List UnitVersion))
    (vs : List (List (List UnitVersion))) → programs ≡ p ∷ ps → versions ≡ v ∷ vs → stream ≡ 0 → piece < length (slice_index_or (video_items p.units v choice) item [])
    → HasPiece (stream_items programs versions choice) stream item piece
video-first programs versions choice stream item piece p ps v vs programs_are versions_are stream_is within =
    subst (λ (n : ℕ). HasPiece (stream_items programs versions choice) n item piece) (sym stream_is)
    (subst (λ (xs : List Program). HasPiece (stream_items xs versions choice) 0 item piece) (sym programs_are)
    (subst (λ (xs : List (List (List UnitVersion))). HasPiece (stream_items (p ∷ ps) xs choice) 0 item piece) (sym versions_are) within))

audio-at : (audios : List AudioSource) (more : List (List (List Payload))) (k : ℕ) (audio : AudioSource) → k < length audios → audio ≡ get_or audios k audio
    → slice_index_or (map audio_items audios ++ more) k [] ≡ audio_items audio
audio-at [] more k audio within is = absurd (let e : k < 0 = within in omega (arith, e))
audio-at (a ∷ others) more zero audio within is = ap audio_items (sym is)
audio-at (a ∷ others) more (suc k) audio within is = audio-at others more k audio (omega (arith, within)) is

-- an audio stream of the first program
pub audio-first : (programs : List Program) (versions : List (List (List UnitVersion))) (choice : List ℕ) (stream k item piece : ℕ) (audio : AudioSource) (p : Program) (ps : List Program)
    (v : List (List UnitVersion)) (vs : List (List (List UnitVersion))) → programs ≡ p ∷ ps → versions ≡ v ∷ vs → stream ≡ suc k → k < length p.audios
    → audio ≡ get_or p.audios k audio → piece < length (slice_index_or (audio_items audio) item []) → HasPiece (stream_items programs versions choice) stream item piece
audio-first programs versions choice stream k item piece audio p ps v vs programs_are versions_are stream_is there is within =
    let later : List (List (List Payload)) = stream_items ps vs (drop (length p.units) choice) in
    let here : HasPiece (stream_items (p ∷ ps) (v ∷ vs) choice) (suc k) item piece =
    subst (λ (items : List (List Payload)). piece < length (slice_index_or items item [])) (sym (audio-at p.audios later k audio there is)) within in
    subst (λ (n : ℕ). HasPiece (stream_items programs versions choice) n item piece) (sym stream_is)
    (subst (λ (xs : List Program). HasPiece (stream_items xs versions choice) (suc k) item piece) (sym programs_are)
    (subst (λ (xs : List (List (List UnitVersion))). HasPiece (stream_items (p ∷ ps) xs choice) (suc k) item piece) (sym versions_are) here))

-- a stream of the programs behind the first one
pub later-has : (programs : List Program) (versions : List (List (List UnitVersion))) (choice rest : List ℕ) (stream below item piece : ℕ) (p : Program) (ps : List Program)
    (v : List (List UnitVersion)) (vs : List (List (List UnitVersion))) → programs ≡ p ∷ ps → versions ≡ v ∷ vs → stream ≡ suc (length p.audios) + below
    → rest ≡ drop (length p.units) choice → HasPiece (stream_items ps vs rest) below item piece → HasPiece (stream_items programs versions choice) stream item piece
later-has programs versions choice rest stream below item piece p ps v vs programs_are versions_are stream_is rest_is within =
    let own : List (List (List Payload)) = video_items p.units v choice ∷ map audio_items p.audios in
    let later : List (List (List Payload)) = stream_items ps vs (drop (length p.units) choice) in
    let many : suc (length p.audios) + below ≡ length own + below = ap (λ (n : ℕ). suc n + below) (sym (length-map p.audios audio_items)) in
    let behind : slice_index_or (own ++ later) stream [] ≡ slice_index_or later below [] =
    ap (λ (n : ℕ). slice_index_or (own ++ later) n []) (stream_is ∙ many) ∙ get_or-append-add own later below [] in
    let there : HasPiece later below item piece = subst (λ (xs : List ℕ). HasPiece (stream_items ps vs xs) below item piece) rest_is within in
    let here : HasPiece (stream_items (p ∷ ps) (v ∷ vs) choice) stream item piece =
    subst (λ (items : List (List Payload)). piece < length (slice_index_or items item [])) (sym behind) there in
    subst (λ (xs : List Program). HasPiece (stream_items xs versions choice) stream item piece) (sym programs_are)
    (subst (λ (xs : List (List (List UnitVersion))). HasPiece (stream_items (p ∷ ps) xs choice) stream item piece) (sym versions_are) here)

-- ---- of an item that was found

-- what holds of what was found, holds of it where each such thing has more
found-weaker : {A : Type 0} (P Q : A → Type 0) → ((x : A) → P x → Q x) → (found : Option A) → IfSome found P → IfSome found Q
found-weaker P Q each None is = tt
found-weaker P Q each (Some x) is = each x is

pub found-video : {A : Type 0} (size : A → ℕ) (found : Option A) (programs : List Program) (versions : List (List (List UnitVersion))) (choice : List ℕ) (stream item : ℕ) (p : Program)
    (ps : List Program) (v own : List (List UnitVersion)) (vs : List (List (List UnitVersion))) → programs ≡ p ∷ ps → versions ≡ v ∷ vs → own ≡ v → stream ≡ 0
    → IfSome found (λ it. (piece : ℕ) → 184 * piece < size it → piece < length (slice_index_or (video_items p.units own choice) item []))
    → IfSome found (λ it. (piece : ℕ) → 184 * piece < size it → HasPiece (stream_items programs versions choice) stream item piece)
found-video {A} size found programs versions choice stream item p ps v own vs programs_are versions_are own_is stream_is =
    found-weaker (λ (it : A). (piece : ℕ) → 184 * piece < size it → piece < length (slice_index_or (video_items p.units own choice) item []))
    (λ (it : A). (piece : ℕ) → 184 * piece < size it → HasPiece (stream_items programs versions choice) stream item piece)
    (λ it has piece within. video-first programs versions choice stream item piece p ps own vs programs_are (versions_are ∙ ap (λ (x : List (List UnitVersion)). x ∷ vs) (sym own_is)) stream_is
    (has piece within)) found

pub found-audio : {A : Type 0} (size : A → ℕ) (found : Option A) (programs : List Program) (versions : List (List (List UnitVersion))) (choice : List ℕ) (stream item : ℕ) (p : Program)
    (ps : List Program) (v : List (List UnitVersion)) (vs : List (List (List UnitVersion))) (audios : List AudioSource) (k : ℕ) (audio : AudioSource) → programs ≡ p ∷ ps → versions ≡ v ∷ vs
    → audios ≡ p.audios → stream ≡ suc k → k < length audios → audio ≡ get_or audios k audio
    → IfSome found (λ it. (piece : ℕ) → 184 * piece < size it → piece < length (slice_index_or (audio_items audio) item []))
    → IfSome found (λ it. (piece : ℕ) → 184 * piece < size it → HasPiece (stream_items programs versions choice) stream item piece)
found-audio {A} size found programs versions choice stream item p ps v vs audios k audio programs_are versions_are audios_are stream_is within_audios audio_is =
    let there : k < length p.audios = subst (λ (xs : List AudioSource). k < length xs) audios_are within_audios in
    let is : audio ≡ get_or p.audios k audio = subst (λ (xs : List AudioSource). audio ≡ get_or xs k audio) audios_are audio_is in
    found-weaker (λ (it : A). (piece : ℕ) → 184 * piece < size it → piece < length (slice_index_or (audio_items audio) item []))
    (λ (it : A). (piece : ℕ) → 184 * piece < size it → HasPiece (stream_items programs versions choice) stream item piece)
    (λ it has piece within. audio-first programs versions choice stream k item piece audio p ps v vs programs_are versions_are stream_is there is (has piece within)) found

pub found-later : {A : Type 0} (size : A → ℕ) (found : Option A) (programs : List Program) (versions : List (List (List UnitVersion))) (choice rest : List ℕ) (stream below item count units : ℕ)
    (p : Program) (ps : List Program) (v : List (List UnitVersion)) (vs : List (List (List UnitVersion))) → programs ≡ p ∷ ps → versions ≡ v ∷ vs → count ≡ length p.audios
    → stream ≡ suc count + below → units ≡ length p.units → rest ≡ drop units choice
    → IfSome found (λ it. (piece : ℕ) → 184 * piece < size it → HasPiece (stream_items ps vs rest) below item piece)
    → IfSome found (λ it. (piece : ℕ) → 184 * piece < size it → HasPiece (stream_items programs versions choice) stream item piece)
found-later {A} size found programs versions choice rest stream below item count units p ps v vs programs_are versions_are count_is stream_is units_are rest_is =
    found-weaker (λ (it : A). (piece : ℕ) → 184 * piece < size it → HasPiece (stream_items ps vs rest) below item piece)
    (λ (it : A). (piece : ℕ) → 184 * piece < size it → HasPiece (stream_items programs versions choice) stream item piece)
    (λ it has piece within. later-has programs versions choice rest stream below item piece p ps v vs programs_are versions_are (stream_is ∙ ap (λ (n : ℕ). suc n + below) count_is)
    (rest_is ∙ ap (λ (n : ℕ). drop n choice) units_are) (has piece within)) found

-- where the lists are known by equations
pub moved : (programs ps : List Program) (versions vs : List (List (List UnitVersion))) (choice cs : List ℕ) (stream item piece : ℕ) → programs ≡ ps → versions ≡ vs → choice ≡ cs
    → HasPiece (stream_items programs versions choice) stream item piece → HasPiece (stream_items ps vs cs) stream item piece
moved programs ps versions vs choice cs stream item piece programs_are versions_are choice_is has =
    subst (λ (xs : List Program). HasPiece (stream_items xs vs cs) stream item piece) programs_are
    (subst (λ (xs : List (List (List UnitVersion))). HasPiece (stream_items programs xs cs) stream item piece) versions_are
    (subst (λ (xs : List ℕ). HasPiece (stream_items programs versions xs) stream item piece) choice_is has))

-- ---- what can be sent

pub later-sendable : (programs : List Program) (p : Program) (ps : List Program) → programs ≡ p ∷ ps → All IsSendable programs → All IsSendable ps
later-sendable programs p ps are all = All-tail IsSendable p ps (subst (All IsSendable) are all)
