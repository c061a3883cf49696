-- Streams at their places.
use Rattle.std.proofs.Common.{◌≡◌, ℕ, zero, suc, ◌+◌, ◌<◌, false, List, [], ◌∷◌, ◌++◌, length, map, take, get_or, set, slice_index_or, Option, Some, None, refl, ap, subst, sym, arith}
use Rattle.shelf_io.specs.Files.{Files}
use Rattle.bit_lists.specs.Payload.{Payload}
use Rattle.mux_writer.specs.declared.piece_source.Filled.{Filled}
use Rattle.mux_writer.specs.Pieces.{IsFilledWith}
use Rattle.program_reader.specs.declared.program.AudioPiece.{AudioPiece}
use Rattle.version_maker.specs.declared.version.UnitVersion.{UnitVersion}
use Rattle.version_source.specs.Pieces.{audio_payload}
use Rattle.file_pieces.specs.declared.lane.AudioLane.{AudioLane}
use Rattle.file_pieces.specs.declared.lane.Lane.{Lane}
use Rattle.file_pieces.specs.declared.lane.Lane.TheVariants.{Audio, Video}
use Rattle.file_pieces.specs.declared.lane.VideoLane.{VideoLane}
use Rattle.file_pieces.specs.declared.lane_state.LaneState.{LaneState}
use Rattle.file_pieces.specs.FilePieces.{AreLaneVersions, AreLanesVersions, AreServed, AreHeld, IsHeld, IsSentIn, IsServed, LaneHas, LanesHave, file_in, lane_items, lane_name, lanes_items, name_at}
use Rattle.file_pieces.specs.Private.Calls.{IsSentOf}
use Rattle.file_pieces.specs.FileStream.{bytes_of}
use Rattle.file_pieces.specs.Lane.{piece_at}
use Rattle.file_pieces.specs.LaneState.{IsAudioKept, IsVideoKept}

-- ---- which there are

pub have_within : (lanes : List Lane) (stream item piece : ℕ) → LanesHave lanes stream item piece → stream < length lanes
have_within [] stream item piece has = absurd has
have_within (lane ∷ lanes) zero item piece has = omega arith
have_within (lane ∷ lanes) (suc k) item piece has = let e = have_within lanes k item piece has in omega (arith, e)

pub have_at : (lanes : List Lane) (stream item piece : ℕ) (d : Lane) → LanesHave lanes stream item piece → LaneHas (get_or lanes stream d) item piece
have_at [] stream item piece d has = absurd has
have_at (lane ∷ lanes) zero item piece d has = has
have_at (lane ∷ lanes) (suc k) item piece d has = have_at lanes k item piece d has

pub name_is : (lanes : List Lane) (stream : ℕ) (d : Lane) → stream < length lanes → name_at lanes stream ≡ lane_name (get_or lanes stream d)
name_is [] stream d within = absurd (let e : stream < 0 = within in omega (arith, e))
name_is (lane ∷ lanes) zero d within = refl
name_is (lane ∷ lanes) (suc k) d within = name_is lanes k d (omega (arith, within))

-- ---- what is kept of them

pub served_many : (told : Option Files) (lanes : List Lane) (states : List LaneState) → AreServed told lanes states → length states ≡ length lanes
served_many told [] [] are = refl
served_many told [] (s ∷ ss) are = absurd are
served_many told (l ∷ ls) [] are = absurd are
served_many told (l ∷ ls) (s ∷ ss) are = ap suc (served_many told ls ss are.1)

pub served_at : (told : Option Files) (lanes : List Lane) (states : List LaneState) (k : ℕ) (d : Lane) (e : LaneState) → AreServed told lanes states → k < length lanes
    → IsServed told (get_or lanes k d) (get_or states k e)
served_at told [] states k d e are within = absurd (let f : k < 0 = within in omega (arith, f))
served_at told (l ∷ ls) [] k d e are within = absurd are
served_at told (l ∷ ls) (s ∷ ss) zero d e are within = are.0
served_at told (l ∷ ls) (s ∷ ss) (suc k) d e are within = served_at told ls ss k d e are.1 (omega (arith, within))

pub served_set : (told : Option Files) (lanes : List Lane) (states : List LaneState) (k : ℕ) (d : Lane) (new : LaneState) → AreServed told lanes states → k < length lanes
    → IsServed told (get_or lanes k d) new → AreServed told lanes (set states k new)
served_set told [] states k d new are within is = absurd (let f : k < 0 = within in omega (arith, f))
served_set told (l ∷ ls) [] k d new are within is = absurd are
served_set told (l ∷ ls) (s ∷ ss) zero d new are within is = (is, are.1)
served_set told (l ∷ ls) (s ∷ ss) (suc k) d new are within is = (are.0, served_set told ls ss k d new are.1 (omega (arith, within)) is)

-- before the first piece of a stream
pub fresh : (told : Option Files) (lane : Lane) (state : LaneState) → ((own : VideoLane) → IsVideoKept told own state) → ((own : AudioLane) → IsAudioKept told own state) → IsHeld told lane
    → IsServed told lane state
fresh told (Video lane) state video audio held = (held.0, held.1, video lane)
fresh told (Audio lane) state video audio held = (held.0, held.1, audio lane)

held_at : (told : Option Files) (lanes : List Lane) (k : ℕ) (d : Lane) → AreHeld told lanes → k < length lanes → IsHeld told (get_or lanes k d)
held_at told [] k d held within = absurd (let f : k < 0 = within in omega (arith, f))
held_at told (l ∷ ls) zero d held within = held.0
held_at told (l ∷ ls) (suc k) d held within = held_at told ls k d held.1 (omega (arith, within))

one_served : (told : Option Files) (lanes : List Lane) (states : List LaneState) (k : ℕ) (d : Lane) (new : LaneState) → AreServed told (take k lanes) states → k < length lanes
    → IsServed told (get_or lanes k d) new → AreServed told (take (suc k) lanes) (states ++ new ∷ [])
one_served told [] states k d new are within is = absurd (let f : k < 0 = within in omega (arith, f))
one_served told (l ∷ ls) [] zero d new are within is = (is, tt)
one_served told (l ∷ ls) (s ∷ ss) zero d new are within is = absurd are
one_served told (l ∷ ls) [] (suc k) d new are within is = absurd are
one_served told (l ∷ ls) (s ∷ ss) (suc k) d new are within is = (are.0, one_served told ls ss k d new are.1 (omega (arith, within)) is)

-- one stream more is before its first piece
pub fresh_more : (told : Option Files) (lanes : List Lane) (states after : List LaneState) (k : ℕ) (d : Lane) (new : LaneState) → after ≡ states ++ new ∷ [] → k < length lanes
    → ((own : VideoLane) → IsVideoKept told own new) → ((own : AudioLane) → IsAudioKept told own new)
    → (AreHeld told lanes → AreServed told (take k lanes) states) → AreHeld told lanes → AreServed told (take (k + 1) lanes) after
fresh_more told lanes states after k d new pushed within video audio before held =
    let on : suc k ≡ k + 1 = omega arith in
    subst (λ (n : ℕ). AreServed told (take n lanes) after) on
    (subst (λ (ss : List LaneState). AreServed told (take (suc k) lanes) ss) (sym pushed)
    (one_served told lanes states k d new (before held) within (fresh told (get_or lanes k d) new video audio (held_at told lanes k d held within))))

-- ---- what they are

items_at : (files : Files) (lanes : List Lane) (versions : List (List (List UnitVersion))) (stream : ℕ) (d : Lane) → AreLanesVersions files lanes versions → stream < length lanes
    → slice_index_or (lanes_items files lanes versions) stream [] ≡ lane_items files (get_or lanes stream d) (slice_index_or versions stream [])
items_at files [] versions stream d are within = absurd (let f : stream < 0 = within in omega (arith, f))
items_at files (l ∷ ls) [] stream d are within = absurd are
items_at files (l ∷ ls) (v ∷ vs) zero d are within = refl
items_at files (l ∷ ls) (v ∷ vs) (suc k) d are within = items_at files ls vs k d are.1 (omega (arith, within))

versions_at : (files : Files) (lanes : List Lane) (versions : List (List (List UnitVersion))) (stream : ℕ) (d : Lane) → AreLanesVersions files lanes versions → stream < length lanes
    → AreLaneVersions files (get_or lanes stream d) (slice_index_or versions stream [])
versions_at files [] versions stream d are within = absurd (let f : stream < 0 = within in omega (arith, f))
versions_at files (l ∷ ls) [] stream d are within = absurd are
versions_at files (l ∷ ls) (v ∷ vs) zero d are within = are.0
versions_at files (l ∷ ls) (v ∷ vs) (suc k) d are within = versions_at files ls vs k d are.1 (omega (arith, within))

mapped_at : (f : AudioPiece → List Payload) (pieces : List AudioPiece) (k : ℕ) (d : AudioPiece) → k < length pieces → slice_index_or (map f pieces) k [] ≡ f (slice_index_or pieces k d)
mapped_at f [] k d within = absurd (let e : k < 0 = within in omega (arith, e))
mapped_at f (p ∷ ps) zero d within = refl
mapped_at f (p ∷ ps) (suc k) d within = mapped_at f ps k d (omega (arith, within))

abbrev nothing : Payload
nothing = record { start = false; bytes = [] }

sent_lane : (files : Files) (lane : Lane) (own : List (List UnitVersion)) (item piece : ℕ) (buffer : List ℕ) (filled : Filled) → AreLaneVersions files lane own → LaneHas lane item piece
    → IsSentOf (Some files) lane item piece buffer filled → IsFilledWith (slice_index_or (slice_index_or (lane_items files lane own) item []) piece nothing) filled buffer
sent_lane files (Video lane) own item piece buffer filled are has sent = sent own are
sent_lane files (Audio lane) own item piece buffer filled are has sent =
    let payload : AudioPiece → List Payload = λ p. audio_payload (bytes_of lane.stream (file_in files lane.stream)) p ∷ [] in
    let here : slice_index_or (map payload lane.pieces.now) item [] ≡ payload (piece_at lane item) = mapped_at payload lane.pieces.now item _ has.0 in
    subst (λ (xs : List Payload). IsFilledWith (slice_index_or xs piece nothing) filled buffer) (sym here)
    (subst (λ (k : ℕ). IsFilledWith (slice_index_or (payload (piece_at lane item)) k nothing) filled buffer) (sym has.1) sent)

-- a piece of a stream is one of the pieces of all
pub sent_in : (told : Option Files) (lanes : List Lane) (stream item piece : ℕ) (d : Lane) (buffer : List ℕ) (filled : Filled) → LanesHave lanes stream item piece
    → IsSentOf told (get_or lanes stream d) item piece buffer filled → IsSentIn told lanes stream item piece buffer filled
sent_in None lanes stream item piece d buffer filled has sent = tt
sent_in (Some files) lanes stream item piece d buffer filled has sent = λ versions are.
    let within = have_within lanes stream item piece has in
    subst (λ (items : List (List Payload)). IsFilledWith (slice_index_or (slice_index_or items item []) piece nothing) filled buffer)
    (sym (items_at files lanes versions stream d are within))
    (sent_lane files (get_or lanes stream d) (slice_index_or versions stream []) item piece buffer filled (versions_at files lanes versions stream d are within)
    (have_at lanes stream item piece d has) sent)
