-- A payload has one list of audio frames, or one fault.
use Rattle.std.proofs.Common.{◌≡◌, ◌≢◌, ◌⊎◌, ℕ, zero, suc, ◌+◌, ◌-◌, ◌^◌, ◌<◌, ◌≤◌, ◌==◌, ◌&&◌, ◌||◌, nat_lt, nat_le, Bool, true, false, List, [], ◌∷◌, length, drop, map, Option, None, Some, unwrap_or, refl, sym, ap, ap₂, ◌∙◌, subst, inl, inr, arith, ℤ, pos, ◌+ℤ◌, ◌*ℤ◌, ◌≤ℤ◌, ◌<ℤ◌}
use Rattle.std.specs.Prelude.{slice_index}
use Rattle.std.proofs.lemmas.Bool.{and_parts, leb-true, le-ltb}
use Rattle.std.proofs.lemmas.Int.{ints}
use Rattle.std.proofs.lemmas.List.{length-map, length-drop}
use Rattle.audio_frames.specs.declared.audio_fault.AudioFault.{AudioFault}
use Rattle.audio_frames.specs.declared.audio_fault.AudioFault.TheVariants as faults
use Rattle.audio_frames.specs.declared.frame.Frame.{Frame}
use Rattle.audio_frames.specs.declared.pes_start.PesStart.{PesStart}
use Rattle.audio_frames.specs.FrameHeader.{syncword}
use Rattle.audio_frames.specs.Frames.{is_audio_frame, goes_on, end_of, is_near_end, is_rest, first_frame, AreFrames, FramesUpTo, AreAllFrames, BreaksAt}
use Rattle.audio_frames.specs.Times.{given_time, frame_ticks, frame_time_at, IsTimeOf, AreTimes, AreRising, rate_of, AreFramesOf, IsUntimed, IsOutOfOrder, IsAudioRefused}
use Rattle.list_types.specs.Spans.{spans}
use Rattle.audio_frames.proofs.Formats.{header_long, goes_on_header}
use Rattle.pes_units.specs.TimeAxis.{IsUnwrapped}
use Rattle.pes_units.specs.Times.{decoding_time}
use Rattle.elementary_streams.specs.declared.pes_packets.PlacedPacket.{PlacedPacket}
use Rattle.elementary_streams.specs.Audio.{IsOnAxis, AreStartsOf}
use Rattle.audio_frames.proofs.Timed.{span}

-- ---- where PES packets begin

pub unwrapped_one : (before : ℤ) (value : ℕ) (a b : ℤ) → IsUnwrapped before value a → IsUnwrapped before value b → a ≡ b
unwrapped_one before value a b first second =
    let a_is : a ≡ pos value +ℤ first.congruent.0 *ℤ pos (2 ^ 33) = first.congruent.1 in
    let b_is : b ≡ pos value +ℤ second.congruent.0 *ℤ pos (2 ^ 33) = second.congruent.1 in
    omega (arith, ints, a_is, b_is)

placed_one : (before : ℤ) (value : Option ℕ) (a b : Option ℤ) → IsOnAxis before value a → IsOnAxis before value b → a ≡ b
placed_one before None a b is is' = is ∙ sym is'
placed_one before (Some v) a b is is' = is.1 ∙ ap (λ (t : ℤ). Some t) (unwrapped_one before v is.0 is'.0 is.2 is'.2) ∙ sym is'.1

pub starts_one : (before : ℤ) (packets : List PlacedPacket) (a b : List PesStart) → AreStartsOf before packets a → AreStartsOf before packets b → a ≡ b
starts_one before [] [] [] are are' = refl
starts_one before [] [] (t ∷ ts) are are' = absurd are'
starts_one before [] (s ∷ ss) b are are' = absurd are
starts_one before (p ∷ ps) [] b are are' = absurd are
starts_one before (p ∷ ps) (s ∷ ss) [] are are' = absurd are'
starts_one before (p ∷ ps) (s ∷ ss) (t ∷ ts) are are' =
    let times : s.time ≡ t.time = placed_one before (decoding_time p.header.times) s.time t.time are.1 are'.1 in
    let same : s ≡ t = ap₂ (λ (n : ℕ) (time : Option ℤ). record { at = n; time = time }) (are.0 ∙ sym are'.0) times in
    ap₂ (λ (x : PesStart) (xs : List PesStart). x ∷ xs) same
    (starts_one (unwrap_or t.time before) ps ss ts (subst (λ (x : Option ℤ). AreStartsOf (unwrap_or x before) ps ss) times are.2) are'.2)

-- ---- where frames are

pub frame_or_near : (payload : List ℕ) (first at : ℕ) → is_audio_frame payload first at ≡ true → (is_near_end payload at ≡ false) × (goes_on payload first at ≡ true)
    × (nat_lt (length payload) (end_of payload at) ≡ false)
frame_or_near payload first at frame =
    let parts = and_parts (goes_on payload first at) (nat_le (end_of payload at) (length payload)) frame in
    let header : at + 4 ≤ length payload = header_long payload at (goes_on_header payload first at parts.0) in
    let whole : end_of payload at ≤ length payload = leb-true (end_of payload at) (length payload) parts.1 in
    (le-ltb (length payload) (at + 4) header, parts.0, le-ltb (length payload) (end_of payload at) whole)

rest_or_frame : (payload : List ℕ) (first at : ℕ) → is_rest payload first at ≡ true → is_audio_frame payload first at ≡ true → ⊥
rest_or_frame payload first at rest frame =
    let is = frame_or_near payload first at frame in
    by_parts (is_near_end payload at) (goes_on payload first at) (nat_lt (length payload) (end_of payload at)) is.0 is.2 rest
  where
    by_parts : (near on past : Bool) → near ≡ false → past ≡ false → (near || (on && past)) ≡ true → ⊥
    by_parts true on past n p is = let both : true ≡ false = n in cc
    by_parts false on true n p is = let both : true ≡ false = p in cc
    by_parts false true false n p is = cc
    by_parts false false false n p is = cc

-- frames up to a place where no further one stands
chain_one : (payload : List ℕ) (first from : ℕ) (ps qs : List ℕ) (end end' : ℕ) → AreFrames payload first from ps end → AreFrames payload first from qs end' →
    (is_audio_frame payload first end ≡ true → ⊥) → (is_audio_frame payload first end' ≡ true → ⊥) → (ps ≡ qs) × (end ≡ end')
chain_one payload first from [] [] end end' are are' stops stops' = (refl, sym are ∙ are')
chain_one payload first from [] (q ∷ qs) end end' are are' stops stops' =
    absurd (stops (subst (λ (n : ℕ). is_audio_frame payload first n ≡ true) (sym are'.0 ∙ are) are'.1))
chain_one payload first from (p ∷ ps) [] end end' are are' stops stops' =
    absurd (stops' (subst (λ (n : ℕ). is_audio_frame payload first n ≡ true) (sym are.0 ∙ are') are.1))
chain_one payload first from (p ∷ ps) (q ∷ qs) end end' are are' stops stops' =
    let same : p ≡ q = sym are.0 ∙ are'.0 in
    let rest = chain_one payload first (end_of payload q) ps qs end end' (subst (λ (n : ℕ). AreFrames payload first (end_of payload n) ps end) same are.2) are'.2 stops stops' in
    (ap₂ (λ (x : ℕ) (xs : List ℕ). x ∷ xs) same rest.0, rest.1)

up_to_one : (payload ps qs : List ℕ) (end end' : ℕ) (is : FramesUpTo payload ps end) (is' : FramesUpTo payload qs end') → (is_audio_frame payload is.first end ≡ true → ⊥) →
    (is_audio_frame payload is'.first end' ≡ true → ⊥) → (ps ≡ qs) × (end ≡ end') × (is.first ≡ is'.first)
up_to_one payload ps qs end end' is is' stops stops' =
    let found : Some is.first ≡ Some is'.first = sym is.begun ∙ is'.begun in
    let same : is.first ≡ is'.first = cc in
    let both = chain_one payload is'.first is'.first ps qs end end' (subst (λ (n : ℕ). AreFrames payload n n ps end) same is.frames) is'.frames
    (subst (λ (n : ℕ). is_audio_frame payload n end ≡ true → ⊥) same stops) stops' in
    (both.0, both.1, same)

pub places_one : (payload ps qs : List ℕ) → AreAllFrames payload ps → AreAllFrames payload qs → ps ≡ qs
places_one payload ps qs are are' =
    (up_to_one payload ps qs are.end are'.end are.all are'.all (rest_or_frame payload are.all.first are.end are.rest) (rest_or_frame payload are'.all.first are'.end are'.rest)).0

break_or_frame : (payload : List ℕ) (first at : ℕ) → goes_on payload first at ≡ false → is_audio_frame payload first at ≡ true → ⊥
break_or_frame payload first at other frame = let both : true ≡ false = sym (frame_or_near payload first at frame).1 ∙ other in cc

break_one : (payload : List ℕ) (at at' : ℕ) (sync sync' : Bool) → BreaksAt payload at sync → BreaksAt payload at' sync' → (at ≡ at') × (sync ≡ sync')
break_one payload at at' sync sync' is is' =
    let same : at ≡ at' = (up_to_one payload is.places is'.places at at' is.before is'.before (break_or_frame payload is.before.first at is.other)
    (break_or_frame payload is'.before.first at' is'.other)).1 in
    (same, sym is.sync ∙ ap (λ (n : ℕ). syncword (drop n payload) == 0xFFF) same ∙ is'.sync)

break_or_all : (payload : List ℕ) (at : ℕ) (sync : Bool) (ps : List ℕ) → BreaksAt payload at sync → AreAllFrames payload ps → ⊥
break_or_all payload at sync ps is are =
    let both = up_to_one payload is.places ps at are.end is.before are.all (break_or_frame payload is.before.first at is.other) (rest_or_frame payload are.all.first are.end are.rest) in
    let long : is_near_end payload are.end ≡ false = subst (λ (n : ℕ). is_near_end payload n ≡ false) both.1 is.long in
    let other : goes_on payload are.all.first are.end ≡ false =
    subst (λ (n : ℕ). goes_on payload n are.end ≡ false) both.2 (subst (λ (n : ℕ). goes_on payload is.before.first n ≡ false) both.1 is.other) in
    by_parts (is_near_end payload are.end) (goes_on payload are.all.first are.end) (nat_lt (length payload) (end_of payload are.end)) long other are.rest
  where
    by_parts : (near on past : Bool) → near ≡ false → on ≡ false → (near || (on && past)) ≡ true → ⊥
    by_parts true on past n p is = let both : true ≡ false = n in cc
    by_parts false true past n p is = let both : true ≡ false = p in cc
    by_parts false false past n p is = cc

-- ---- their times

compared : (m n : ℕ) → (m < n) ⊎ ((m ≡ n) ⊎ (n < m))
compared m n = by_count (suc m - n) refl (suc n - m) refl
  where
    by_count : (i : ℕ) → suc m - n ≡ i → (j : ℕ) → suc n - m ≡ j → (m < n) ⊎ ((m ≡ n) ⊎ (n < m))
    by_count zero is j j_is = inl (omega arith)
    by_count (suc i) is zero j_is = inr (inr (omega arith))
    by_count (suc i) is (suc j) j_is = inr (inl (omega arith))

time_one : (starts : List PesStart) (places : List ℕ) (rate k : ℕ) (a b : ℤ) → IsTimeOf starts places rate k a → IsTimeOf starts places rate k b → a ≡ b
time_one starts places rate k a b is is' = by_order (compared is.last is'.last)
  where
    by_order : (is.last < is'.last) ⊎ ((is.last ≡ is'.last) ⊎ (is'.last < is.last)) → a ≡ b
    by_order (inl before) = absurd (let both : None ≡ Some is'.given = sym (is.none_since is'.last before is'.up_to) ∙ is'.is_given in cc)
    by_order (inr (inr before)) = absurd (let both : None ≡ Some is.given = sym (is'.none_since is.last before is.up_to) ∙ is.is_given in cc)
    by_order (inr (inl same)) =
        let found : Some is.given ≡ Some is'.given = sym is.is_given ∙ ap (given_time starts places) same ∙ is'.is_given in
        let given : is.given ≡ is'.given = cc in
        is.is ∙ ap₂ (λ (g : ℤ) (l : ℕ). (pos 300 *ℤ g) +ℤ pos (frame_ticks rate (k - l))) given same ∙ sym is'.is

times_at_one : (starts : List PesStart) (places : List ℕ) (rate k : ℕ) (xs ys : List ℤ) → AreTimes starts places rate xs → AreTimes starts places rate ys → k < length xs → k < length ys →
    frame_time_at xs k ≡ frame_time_at ys k
times_at_one starts places rate k xs ys are are' lt lt' = time_one starts places rate k (frame_time_at xs k) (frame_time_at ys k) (are k lt) (are' k lt')

-- ---- all frames

same_frames : (fs gs : List Frame) → map span fs ≡ map span gs →
    ((k : ℕ) → k < length fs → frame_time_at (map (λ frame. frame.time) fs) k ≡ frame_time_at (map (λ frame. frame.time) gs) k) → fs ≡ gs
same_frames [] [] spans_are times_are = refl
same_frames [] (g ∷ gs) spans_are times_are = absurd cc
same_frames (f ∷ fs) [] spans_are times_are = absurd cc
same_frames (f ∷ fs) (g ∷ gs) spans_are times_are =
    let head : span f ≡ span g = cc in
    let tail : map span fs ≡ map span gs = cc in
    let ats : f.at ≡ g.at = ap (λ (s : ℕ × ℕ). s.0) head in
    let ends : f.at + f.len ≡ g.at + g.len = ap (λ (s : ℕ × ℕ). s.1) head in
    let lens : f.len ≡ g.len = omega (arith, ats, ends) in
    let times : f.time ≡ g.time = times_are 0 (omega arith) in
    let same : f ≡ g = ap₂ (λ (a : ℕ) (l : ℕ). record { at = a; len = l; time = f.time }) ats lens ∙ ap (λ (t : ℤ). record { at = g.at; len = g.len; time = t }) times in
    ap₂ (λ (x : Frame) (xs : List Frame). x ∷ xs) same (same_frames fs gs tail (λ k lt. times_are (suc k) (omega (arith, lt))))

count_of : (payload : List ℕ) (starts : List PesStart) (frames : List Frame) (are : AreFramesOf payload starts frames) → length frames ≡ suc (length (drop 1 are.places))
count_of payload starts frames are =
    let count : length (map span frames) ≡ length (spans 0 (drop 1 are.places) (length payload)) = ap (λ (xs : List (ℕ × ℕ)). length xs) are.cover in
    sym (length-map frames span) ∙ count ∙ spans_count 0 (drop 1 are.places) (length payload)
  where
    spans_count : (from : ℕ) (places : List ℕ) (end : ℕ) → length (spans from places end) ≡ suc (length places)
    spans_count from [] end = refl
    spans_count from (place ∷ places) end = ap suc (spans_count place places end)

-- the times of all frames, by the places of the frames
times_by : (payload : List ℕ) (starts : List PesStart) (frames : List Frame) (places : List ℕ) (are : AreFramesOf payload starts frames) → are.places ≡ places →
    AreTimes starts places (rate_of payload places) (map (λ frame. frame.time) frames)
times_by payload starts frames places are same = subst (λ (ps : List ℕ). AreTimes starts ps (rate_of payload ps) (map (λ (frame : Frame). frame.time) frames)) same are.times

pub frames_one : (payload : List ℕ) (starts : List PesStart) (fs gs : List Frame) → AreFramesOf payload starts fs → AreFramesOf payload starts gs → fs ≡ gs
frames_one payload starts fs gs are are' =
    let places : are.places ≡ are'.places = places_one payload are.places are'.places are.all are'.all in
    let cover : map span fs ≡ map span gs = are.cover ∙ ap (λ (ps : List ℕ). spans 0 (drop 1 ps) (length payload)) places ∙ sym are'.cover in
    let count : length fs ≡ length gs = sym (length-map fs span) ∙ ap (λ (xs : List (ℕ × ℕ)). length xs) cover ∙ length-map gs span in
    same_frames fs gs cover (λ k lt. times_at_one starts are'.places (rate_of payload are'.places) k (map (λ (frame : Frame). frame.time) fs) (map (λ (frame : Frame). frame.time) gs)
    (times_by payload starts fs are'.places are places) are'.times (omega (arith, lt, length-map fs (λ (frame : Frame). frame.time)))
    (omega (arith, lt, count, length-map gs (λ (frame : Frame). frame.time))))

-- ---- what is refused

untimed_or_frames : (payload : List ℕ) (starts : List PesStart) (at : ℕ) (frames : List Frame) → IsUntimed payload starts at → AreFramesOf payload starts frames → ⊥
untimed_or_frames payload starts at frames is are =
    let places : are.places ≡ is.places = places_one payload are.places is.places are.all is.all in
    let some : 0 < length (map (λ (frame : Frame). frame.time) frames) = omega (arith, length-map frames (λ (frame : Frame). frame.time), count_of payload starts frames are) in
    untimed_first starts is.places (rate_of payload is.places) _ is.none (times_by payload starts frames is.places are places 0 some)
  where
    untimed_first : (starts : List PesStart) (places : List ℕ) (rate : ℕ) (time : ℤ) → given_time starts places 0 ≡ None → IsTimeOf starts places rate 0 time → ⊥
    untimed_first starts places rate time none is =
        let first : is.last ≡ 0 = omega (arith, is.up_to) in
        let both : None ≡ Some is.given = sym none ∙ ap (given_time starts places) (sym first) ∙ is.is_given in
        cc

untimed_or_order : (payload : List ℕ) (starts : List PesStart) (at at' : ℕ) → IsUntimed payload starts at → IsOutOfOrder payload starts at' → ⊥
untimed_or_order payload starts at at' is is' =
    let places : is'.places ≡ is.places = places_one payload is'.places is.places is'.all is.all in
    let time : IsTimeOf starts is'.places (rate_of payload is'.places) 0 (frame_time_at is'.times 0) = is'.are 0 (omega (arith, is'.count)) in
    let first : time.last ≡ 0 = omega (arith, time.up_to) in
    let both : None ≡ Some time.given = sym is.none ∙ ap (λ (ps : List ℕ). given_time starts ps 0) (sym places) ∙ ap (given_time starts is'.places) (sym first) ∙ time.is_given in
    cc

later_or_not : (a b : ℤ) → a <ℤ b → b ≤ℤ a → ⊥
later_or_not a b lt le = omega (arith, ints)

-- times that rise up to a frame, and a frame before it that isn't later
rising_or_not : (starts : List PesStart) (places : List ℕ) (rate k count : ℕ) (xs ys : List ℤ) → AreTimes starts places rate xs → AreTimes starts places rate ys → k + 1 < length xs →
    k + 1 < length ys → frame_time_at xs (k + 1) ≤ℤ frame_time_at xs k → AreRising ys count → k + 1 < count → ⊥
rising_or_not starts places rate k count xs ys are are' lt lt' late rising inside =
    let here : frame_time_at xs k ≡ frame_time_at ys k = times_at_one starts places rate k xs ys are are' (omega (arith, lt)) (omega (arith, lt')) in
    let next : frame_time_at xs (k + 1) ≡ frame_time_at ys (k + 1) = times_at_one starts places rate (k + 1) xs ys are are' lt lt' in
    later_or_not (frame_time_at ys k) (frame_time_at ys (k + 1)) (rising k inside)
    (subst (λ (t : ℤ). t ≤ℤ frame_time_at ys k) next (subst (λ (t : ℤ). frame_time_at xs (k + 1) ≤ℤ t) here late))

order_times : (payload : List ℕ) (starts : List PesStart) (at : ℕ) (places : List ℕ) (is : IsOutOfOrder payload starts at) → is.places ≡ places →
    AreTimes starts places (rate_of payload places) is.times
order_times payload starts at places is same = subst (λ (ps : List ℕ). AreTimes starts ps (rate_of payload ps) is.times) same is.are

order_or_frames : (payload : List ℕ) (starts : List PesStart) (at : ℕ) (frames : List Frame) → IsOutOfOrder payload starts at → AreFramesOf payload starts frames → ⊥
order_or_frames payload starts at frames is are =
    let places : is.places ≡ are.places = places_one payload is.places are.places is.all are.all in
    let count : length is.places ≡ length are.places = ap (λ (ps : List ℕ). length ps) places in
    let size : length frames ≡ suc (length (drop 1 are.places)) = count_of payload starts frames are in
    let inside : is.before + 1 < length frames = omega (arith, is.inside, count, size, length-drop 1 are.places) in
    rising_or_not starts are.places (rate_of payload are.places) is.before (length frames) is.times (map (λ (frame : Frame). frame.time) frames)
    (order_times payload starts at are.places is places) are.times (omega (arith, is.count)) (omega (arith, inside, length-map frames (λ (frame : Frame). frame.time))) is.not_later are.rising inside

order_one : (payload : List ℕ) (starts : List PesStart) (at at' : ℕ) → IsOutOfOrder payload starts at → IsOutOfOrder payload starts at' → at ≡ at'
order_one payload starts at at' is is' = by_order (compared is.before is'.before)
  where
    places : is.places ≡ is'.places
    places = places_one payload is.places is'.places is.all is'.all

    by_order : (is.before < is'.before) ⊎ ((is.before ≡ is'.before) ⊎ (is'.before < is.before)) → at ≡ at'
    by_order (inl before) =
        absurd (rising_or_not starts is'.places (rate_of payload is'.places) is.before (is'.before + 1) is.times is'.times (order_times payload starts at is'.places is places) is'.are
        (omega (arith, is.count)) (omega (arith, is'.count, before)) is.not_later is'.rising (omega (arith, before)))
    by_order (inr (inr before)) =
        absurd (rising_or_not starts is'.places (rate_of payload is'.places) is'.before (is.before + 1) is'.times is.times is'.are (order_times payload starts at is'.places is places)
        (omega (arith, is'.count)) (omega (arith, is.count, before)) is'.not_later is.rising (omega (arith, before)))
    by_order (inr (inl same)) = is.place ∙ ap₂ (λ (ps : List ℕ) (n : ℕ). slice_index ps (n + 1)) places same ∙ sym is'.place

none_or_up_to : (payload ps : List ℕ) (end : ℕ) → first_frame payload ≡ None → FramesUpTo payload ps end → ⊥
none_or_up_to payload ps end none is = let both : None ≡ Some is.first = sym none ∙ is.begun in cc

pub refused_or_frames : (payload : List ℕ) (starts : List PesStart) (fault : AudioFault) (frames : List Frame) → fault ≢ faults.OutOfMemory → IsAudioRefused payload starts fault →
    AreFramesOf payload starts frames → ⊥
refused_or_frames payload starts (faults.NotLayer2 at) frames some (inl none) are = none_or_up_to payload are.places are.all.end none.0 are.all.all
refused_or_frames payload starts (faults.NotLayer2 at) frames some (inr is) are = break_or_all payload at true are.places is are.all
refused_or_frames payload starts (faults.AudioSync at) frames some is are = break_or_all payload at false are.places is are.all
refused_or_frames payload starts (faults.NoAudioTime at) frames some is are = untimed_or_frames payload starts at frames is are
refused_or_frames payload starts (faults.TimeOrder at) frames some is are = order_or_frames payload starts at frames is are
refused_or_frames payload starts faults.OutOfMemory frames some is are = some refl

-- a payload that is all frames has no fault of their places
all_or_broken : (payload ps : List ℕ) (at : ℕ) → AreAllFrames payload ps → ((first_frame payload ≡ None) × (at ≡ 0)) ⊎ BreaksAt payload at true → ⊥
all_or_broken payload ps at are (inl none) = none_or_up_to payload ps are.end none.0 are.all
all_or_broken payload ps at are (inr is) = break_or_all payload at true ps is are

pub refused_one : (payload : List ℕ) (starts : List PesStart) (a b : AudioFault) → a ≢ faults.OutOfMemory → b ≢ faults.OutOfMemory → IsAudioRefused payload starts a →
    IsAudioRefused payload starts b → a ≡ b
refused_one payload starts faults.OutOfMemory b some some' is is' = absurd (some refl)
refused_one payload starts a faults.OutOfMemory some some' is is' = absurd (some' refl)
refused_one payload starts (faults.NotLayer2 at) (faults.NotLayer2 at') some some' (inl none) (inl none') = ap faults.NotLayer2 (none.1 ∙ sym none'.1)
refused_one payload starts (faults.NotLayer2 at) (faults.NotLayer2 at') some some' (inl none) (inr is') = absurd (none_or_up_to payload is'.places at' none.0 is'.before)
refused_one payload starts (faults.NotLayer2 at) (faults.NotLayer2 at') some some' (inr is) (inl none') = absurd (none_or_up_to payload is.places at none'.0 is.before)
refused_one payload starts (faults.NotLayer2 at) (faults.NotLayer2 at') some some' (inr is) (inr is') = ap faults.NotLayer2 (break_one payload at at' true true is is').0
refused_one payload starts (faults.NotLayer2 at) (faults.AudioSync at') some some' (inl none) is' = absurd (none_or_up_to payload is'.places at' none.0 is'.before)
refused_one payload starts (faults.NotLayer2 at) (faults.AudioSync at') some some' (inr is) is' = absurd (let both : true ≡ false = (break_one payload at at' true false is is').1 in cc)
refused_one payload starts (faults.NotLayer2 at) (faults.NoAudioTime at') some some' is is' = absurd (all_or_broken payload is'.places at is'.all is)
refused_one payload starts (faults.NotLayer2 at) (faults.TimeOrder at') some some' is is' = absurd (all_or_broken payload is'.places at is'.all is)
refused_one payload starts (faults.AudioSync at) (faults.NotLayer2 at') some some' is (inl none') = absurd (none_or_up_to payload is.places at none'.0 is.before)
refused_one payload starts (faults.AudioSync at) (faults.NotLayer2 at') some some' is (inr is') = absurd (let both : false ≡ true = (break_one payload at at' false true is is').1 in cc)
refused_one payload starts (faults.AudioSync at) (faults.AudioSync at') some some' is is' = ap faults.AudioSync (break_one payload at at' false false is is').0
refused_one payload starts (faults.AudioSync at) (faults.NoAudioTime at') some some' is is' = absurd (break_or_all payload at false is'.places is is'.all)
refused_one payload starts (faults.AudioSync at) (faults.TimeOrder at') some some' is is' = absurd (break_or_all payload at false is'.places is is'.all)
refused_one payload starts (faults.NoAudioTime at) (faults.NotLayer2 at') some some' is is' = absurd (all_or_broken payload is.places at' is.all is')
refused_one payload starts (faults.NoAudioTime at) (faults.AudioSync at') some some' is is' = absurd (break_or_all payload at' false is.places is' is.all)
refused_one payload starts (faults.NoAudioTime at) (faults.NoAudioTime at') some some' is is' =
    ap faults.NoAudioTime (is.place ∙ ap (λ (ps : List ℕ). slice_index ps 0) (places_one payload is.places is'.places is.all is'.all) ∙ sym is'.place)
refused_one payload starts (faults.NoAudioTime at) (faults.TimeOrder at') some some' is is' = absurd (untimed_or_order payload starts at at' is is')
refused_one payload starts (faults.TimeOrder at) (faults.NotLayer2 at') some some' is is' = absurd (all_or_broken payload is.places at' is.all is')
refused_one payload starts (faults.TimeOrder at) (faults.AudioSync at') some some' is is' = absurd (break_or_all payload at' false is.places is' is.all)
refused_one payload starts (faults.TimeOrder at) (faults.NoAudioTime at') some some' is is' = absurd (untimed_or_order payload starts at' at is' is)
refused_one payload starts (faults.TimeOrder at) (faults.TimeOrder at') some some' is is' = ap faults.TimeOrder (order_one payload starts at at' is is')
