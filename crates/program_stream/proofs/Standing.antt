-- A walk over the elements of a file, one element further.
use Rattle.std.proofs.Common.{◌≡◌, ℕ, ◌+◌, ◌-◌, ◌≤◌, inl, inr, List, [], ◌∷◌, ◌++◌, length, replicate, take, drop, length-append, append_assoc, Result, refl, sym, ap, ◌∙◌, subst, arith}
use Rattle.std.proofs.lemmas.List.{take_rest, drop_at, drop-drop, length-replicate, length-drop}
use Rattle.std.specs.List.{AllByRecursion}
use Rattle.ts_demux.specs.declared.demuxed.Demuxed.{Demuxed}
use Rattle.program_stream.specs.declared.front.Front.{Front}
use Rattle.program_stream.specs.declared.split_fault.SplitFault.{SplitFault}
use Rattle.program_stream.specs.Elements.{Element, element_bytes, element_spelling, all_spelled, IsSoundElement, IsEnd, AreElements, IsRefusedAt, IsFirstRefusal}
use Rattle.program_stream.specs.Split.{HasElements, IsSplit, IsSplitRefused, no_video, audios}
use Rattle.program_stream.specs.Private.Fronts.{BeginsWith, Reads}
use Rattle.program_stream.specs.Private.Walks.{IsOfElements, IsStreamsFault}
use Rattle.program_stream.specs.Private.Steps.{AreBefore}
use Rattle.program_stream.proofs.Packets.{all_spelled-more}

pub before_first : (file : List ℕ) → AreBefore file [] 0
before_first file = record { sound = tt; place = refl; front = refl }

pub refused_here : (file : List ℕ) (elements : List Element) (at : ℕ) (fault : SplitFault) → AreBefore file elements at → IsRefusedAt at (drop at file) fault → IsFirstRefusal file fault
refused_here file elements at fault before refused = record {
  elements = elements;
  rest = drop at file;
  bytes_are = before.front;
  sound = before.sound;
  refused = subst (λ (n : ℕ). IsRefusedAt n (drop at file) fault) before.place refused;
}

pub all_here : (file : List ℕ) (elements : List Element) (at cut : ℕ) → AreBefore file elements at → IsEnd (drop at file) cut → AreElements file elements cut
all_here file elements at cut before end = record { rest = drop at file; bytes_are = before.front; sound = before.sound; ending = end }

-- ---- the element that stands first

pub spelled_length : (element : Element) → length (element_spelling element) ≡ element.zeros + length (element_bytes element)
spelled_length element = length-append (replicate element.zeros 0) (element_bytes element) ∙ ap (λ (n : ℕ). n + length (element_bytes element)) (length-replicate element.zeros 0)

-- they stand within it
pub found_within : (file : List ℕ) (at zeros len : ℕ) (begins : BeginsWith (drop at file) zeros len) → at ≤ length file → (at + zeros + len ≤ length file) × (4 ≤ len)
found_within file at count len begins within =
    let size : length (drop at file) ≡ (begins.element.zeros + length (element_bytes begins.element)) + length begins.more =
    ap length begins.rest_is ∙ length-append (element_spelling begins.element) begins.more ∙ ap (λ (n : ℕ). n + length begins.more) (spelled_length begins.element) in
    (omega (arith, size, length-drop at file, begins.zeros_are, begins.len_is), omega (arith, begins.len_is))

pub sound_more : (elements : List Element) (element : Element) → AllByRecursion IsSoundElement elements → IsSoundElement element → AllByRecursion IsSoundElement (elements ++ element ∷ [])
sound_more [] element sound here = (here, tt)
sound_more (x ∷ elements) element sound here = (sound.0, sound_more elements element sound.1 here)

-- it is passed
pub before_next : (file : List ℕ) (elements : List Element) (at zeros len : ℕ) → AreBefore file elements at → (begins : BeginsWith (drop at file) zeros len) →
    AreBefore file (elements ++ begins.element ∷ []) (at + zeros + len)
before_next file elements at zeros len before begins =
    let longer = all_spelled-more elements begins.element in
    let size : at + zeros + len ≡ at + length (element_spelling begins.element) = omega (arith, spelled_length begins.element, begins.zeros_are, begins.len_is) in
    let behind : drop (at + zeros + len) file ≡ begins.more =
    ap (λ (n : ℕ). drop n file) size ∙ sym (drop-drop (length (element_spelling begins.element)) at file) ∙ ap (drop (length (element_spelling begins.element))) begins.rest_is
    ∙ drop_at (element_spelling begins.element) begins.more (length (element_spelling begins.element)) refl in
    record {
      sound = sound_more elements begins.element before.sound begins.sound;
      place = size ∙ ap (λ (n : ℕ). n + length (element_spelling begins.element)) before.place ∙ sym (length-append (all_spelled elements) (element_spelling begins.element)) ∙ sym (ap length longer);
      front = before.front ∙ ap (λ (xs : List ℕ). all_spelled elements ++ xs) (begins.rest_is ∙ ap (λ (xs : List ℕ). element_spelling begins.element ++ xs) (sym behind))
          ∙ sym (append_assoc (all_spelled elements) (element_spelling begins.element) (drop (at + zeros + len) file)) ∙ ap (λ (xs : List ℕ). xs ++ drop (at + zeros + len) file) (sym longer);
    }

-- what is read behind zero bytes at a place, as one of its cases
pub reads_as : (file : List ℕ) (at n m count : ℕ) (result other : Result Front SplitFault) → n ≡ length file - at → m ≡ length (take n (drop at file)) - count
    → take n (drop at file) ≡ replicate count 0 ++ drop count (take n (drop at file))
    → Reads at count (replicate count 0 ++ take m (drop count (take n (drop at file)))) result → result ≡ other → Reads at count (drop at file) other
reads_as file at n m count result other size more front reads same =
    let rest = take n (drop at file) in
    let all : rest ≡ drop at file = ap (λ (k : ℕ). take k (drop at file)) size ∙ take_rest file at in
    let behind : take m (drop count rest) ≡ drop count rest = ap (λ (k : ℕ). take k (drop count rest)) more ∙ take_rest rest count in
    subst (Reads at count (drop at file)) same
    (subst (λ (xs : List ℕ). Reads at count xs result) (ap (λ (xs : List ℕ). replicate count 0 ++ xs) behind ∙ sym front ∙ all) reads)

-- ---- its streams

-- they are taken out
pub streams_split : (file ids : List ℕ) (elements : List Element) (cut : ℕ) (demuxed : Demuxed) → HasElements file elements cut → IsOfElements ids elements demuxed → IsSplit file ids demuxed cut
streams_split file ids elements cut demuxed are is = record {
  elements = elements;
  elements_are = are;
  video = is.video;
  video_is = is.video_is;
  few = is.few;
  map_is = is.map_is;
  video_packets = is.video_packets;
  audio_packets = is.audio_packets;
  others_are = is.others_are;
  no_rest = is.no_rest;
}

-- they are refused
pub streams_refused : (file ids : List ℕ) (elements : List Element) (cut : ℕ) (fault : SplitFault) → HasElements file elements cut → IsStreamsFault ids elements fault → IsSplitRefused file ids fault
streams_refused file ids elements cut fault are (inl none) = no_video elements cut are none.0 none.1
streams_refused file ids elements cut fault are (inr many) = audios elements cut many.0 are many.1 many.2 many.3
