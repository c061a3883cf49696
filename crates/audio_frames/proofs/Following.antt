-- Frames that are followed from a place of a payload on, one frame further.
use Rattle.std.proofs.Common.{◌≡◌, ℕ, ◌+◌, ◌≤◌, ◌<◌, nat_le, nat_lt, true, false, ◌&&◌, List, [], ◌∷◌, ◌++◌, length, drop, Some, None, sym, ap, ◌∙◌, subst, arith, append_assoc, length-drop, inl, inr}
use Rattle.std.proofs.lemmas.List.{append-nil}
use Rattle.std.proofs.lemmas.Bool.{and_from, lt-ltb, le-ltb, le-leb, or_left, or_right}
use Rattle.audio_frames.specs.declared.ahead.Ahead.TheVariants.{Frame, Rest, Broken}
use Rattle.audio_frames.specs.declared.audio_fault.AudioFault.{AudioFault}
use Rattle.audio_frames.specs.declared.frame_header.FrameHeader.{FrameHeader}
use Rattle.audio_frames.specs.FrameHeader.{frame_length}
use Rattle.audio_frames.specs.Private.Format.{has_format}
use Rattle.audio_frames.specs.Frames.{is_audio_frame, is_rest, is_near_end, goes_on, end_of, AreFrames}
use Rattle.audio_frames.specs.Walk.{StopsAt, fault_at}
use Rattle.audio_frames.specs.Private.Ahead.{IsAhead, IsFormatAt, IsRestOf}
use Rattle.audio_frames.specs.Private.Followed.{FollowsUpTo, Follows}
use Rattle.audio_frames.specs.Private.Places.{AreApart}
use Rattle.audio_frames.proofs.Chains.{frames_more, apart_more}
use Rattle.audio_frames.proofs.Formats.{format_goes_on}
use Rattle.audio_frames.proofs.Rests.{rest_at}

module _ (payload bytes : List ℕ) (first at : ℕ) (format : FrameHeader) (is : IsFormatAt payload first format) (rest : IsRestOf payload at bytes) where
  size_is : length payload ≡ at + length bytes
  size_is = omega (arith, rest.0, length-drop at payload, ap length rest.1)

  end_is : end_of payload at ≡ at + frame_length bytes
  end_is = omega (arith, ap frame_length rest.1)

  goes_is : goes_on payload first at ≡ has_format format bytes
  goes_is = sym (format_goes_on payload first at format is) ∙ ap (has_format format) rest.1

  pub whole_frame : has_format format bytes ≡ true → frame_length bytes ≤ length bytes → is_audio_frame payload first at ≡ true
  whole_frame has whole = and_from (goes_on payload first at) (nat_le (end_of payload at) (length payload)) (goes_is ∙ has)
      (le-leb (end_of payload at) (length payload) (omega (arith, size_is, end_is, whole)))

  pub short_rest : length bytes < 4 → is_rest payload first at ≡ true
  short_rest short = or_left (is_near_end payload at) (goes_on payload first at && nat_lt (length payload) (end_of payload at)) (lt-ltb (length payload) (at + 4) (omega (arith, size_is, short)))

  pub cut_rest : has_format format bytes ≡ true → length bytes < frame_length bytes → is_rest payload first at ≡ true
  cut_rest has cut = or_right (is_near_end payload at) (goes_on payload first at && nat_lt (length payload) (end_of payload at))
      (and_from (goes_on payload first at) (nat_lt (length payload) (end_of payload at)) (goes_is ∙ has)
      (lt-ltb (length payload) (end_of payload at) (omega (arith, size_is, end_is, cut))))

  pub stops_there : (fault : AudioFault) → 4 ≤ length bytes → has_format format bytes ≡ false → fault ≡ fault_at bytes at → StopsAt payload first at fault
  stops_there fault long none fault_is = record {
    long = le-ltb (length payload) (at + 4) (omega (arith, size_is, long));
    other = goes_is ∙ none;
    fault_is = fault_is ∙ ap (λ (b : List ℕ). fault_at b at) (sym rest.1);
  }

-- the bytes behind some of the rest
pub rest_behind : (payload bytes : List ℕ) (at done : ℕ) → IsRestOf payload at bytes → done ≤ length bytes → IsRestOf payload (at + done) (drop done bytes)
rest_behind payload bytes at done rest within =
    (omega (arith, within, rest.0, length-drop at payload, ap length rest.1), rest_at payload bytes at done rest.1)

module _ (format : FrameHeader) (bytes : List ℕ) (at : ℕ) (old : List ℕ) where
  pub follows_none : FollowsUpTo format bytes at old old 0
  follows_none =
      let here : at ≡ at + 0 = omega arith in
      record {
        within = omega arith;
        more = [];
        added = sym (append-nil old);
        apart = λ a. subst (AreApart old) here a;
        frames = λ payload first is rest. here;
      }

  module _ (new : List ℕ) (done : ℕ) (before : FollowsUpTo format bytes at old new done) where
    pub follows_more : (len : ℕ) → IsAhead format (drop done bytes) (at + done) (Frame len) → FollowsUpTo format bytes at old (new ++ (at + done) ∷ []) (done + len)
    follows_more len ahead = record {
      within = omega (arith, before.within, ahead.3, length-drop done bytes);
      more = before.more ++ (at + done) ∷ [];
      added = ap (λ (xs : List ℕ). xs ++ (at + done) ∷ []) before.added ∙ append_assoc old before.more ((at + done) ∷ []);
      apart = λ a. apart_more new (at + done) (at + (done + len)) (before.apart a) (omega (arith, ahead.2));
      frames = λ payload first is rest.
          (let behind : IsRestOf payload (at + done) (drop done bytes) = rest_behind payload bytes at done rest before.within in
          let here : is_audio_frame payload first (at + done) ≡ true = whole_frame payload (drop done bytes) first (at + done) format is behind ahead.0 (omega (arith, ahead.1, ahead.3)) in
          let end : end_of payload (at + done) ≡ at + (done + len) = omega (arith, ahead.1, ap frame_length behind.1) in
          subst (AreFrames payload first at (before.more ++ (at + done) ∷ [])) end (frames_more payload first at before.more (at + done) (before.frames payload first is rest) here));
    }

    pub follows_rest : IsAhead format (drop done bytes) (at + done) Rest → Follows format bytes at old new (record { done = done; broken = None })
    follows_rest ahead = record {
      up_to = before;
      few = λ _. omega (arith, ahead.0, length-drop done bytes);
      stops = λ payload first is rest.
          (let behind : IsRestOf payload (at + done) (drop done bytes) = rest_behind payload bytes at done rest before.within in
          elim (ahead.1) [
            | inl short ↦ short_rest payload (drop done bytes) first (at + done) format is behind short
            | inr cut ↦ cut_rest payload (drop done bytes) first (at + done) format is behind cut.0 cut.1
          ]);
    }

    pub follows_broken : (fault : AudioFault) → IsAhead format (drop done bytes) (at + done) (Broken fault)
        → Follows format bytes at old new (record { done = done; broken = Some fault })
    follows_broken fault ahead = record {
      up_to = before;
      few = λ none. absurd (let never : true ≡ false = none in cc);
      stops = λ payload first is rest.
          (let behind : IsRestOf payload (at + done) (drop done bytes) = rest_behind payload bytes at done rest before.within in
          stops_there payload (drop done bytes) first (at + done) format is behind fault ahead.0 ahead.1 ahead.2);
    }
