-- How long behind a picture the next one is decoded, where that states no time (ISO/IEC 13818-2, annex C, at low_delay 0): a B picture is shown when it is
-- decoded, and while an I or P picture is decoded, the I or P picture before it is shown. In lists of earlier pictures the nearest one stands first.
use Rattle.std.specs.Prelude.{ℕ, ◌+◌, ◌-◌, ◌*◌, ◌/◌, ◌==◌, Bool, true, false, not, List, [], ◌∷◌, filter, slice_index, Option, Some, None, unwrap_or}
use Rattle.std.specs.Option.{option_map}
use Rattle.syntax_types.specs.declared.picture.PicCoding.{PicCoding}
use Rattle.syntax_types.specs.declared.picture.SeqState.{SeqState}
use Rattle.syntax_types.specs.declared.picture.TheConstants.{B_PICTURE}
use Rattle.program_reader.specs.declared.timed_picture.Role.{Role}
use Rattle.program_reader.specs.declared.timed_picture.Role.TheVariants.{Frame, FirstField, SecondField}

-- a coded picture: the state in force, how it is coded, and what it is of its frame
pub record CodedPicture : Type 0 where
  pub seq : SeqState
  pub coding : PicCoding
  pub role : Role

-- ---- what a coded frame is shown for, in ticks

-- ticks of a frame period, by frame_rate_code 1 to 5 (Table 6-4): 24,000/1,001, 24, 25, 30,000/1,001 and 30 frames a second
abbrev pub frame_period : ℕ → ℕ
frame_period code = slice_index (1126125 ∷ 1125000 ∷ 1080000 ∷ 900900 ∷ 900000 ∷ []) (code - 1)

-- ticks of a field period: half of a frame period, rounded down
abbrev pub field_period : ℕ → ℕ
field_period code = frame_period code / 2

-- A frame picture by repeat_first_field, progressive_sequence and top_field_first (6.3.10): its two fields, with repeat_first_field the first one again;
-- of a progressive sequence the frame once, with repeat_first_field twice, with top_field_first too three times.
abbrev pub frame_shown : (repeat_first_field progressive top_field_first : Bool) → (rate_code : ℕ) → ℕ
frame_shown false progressive top_field_first rate_code = frame_period rate_code
frame_shown true false top_field_first rate_code = frame_period rate_code + field_period rate_code
frame_shown true true false rate_code = 2 * frame_period rate_code
frame_shown true true true rate_code = 3 * frame_period rate_code

-- the frame that a picture is or belongs to: a pair of fields is shown for a frame period
abbrev pub shown_as : Role → SeqState → PicCoding → ℕ
shown_as Frame seq coding = frame_shown coding.repeat_first_field seq.progressive coding.top_field_first seq.rate_code
shown_as FirstField seq coding = frame_period seq.rate_code
shown_as SecondField seq coding = frame_period seq.rate_code

-- the frame of a coded picture
abbrev pub shown_for : CodedPicture → ℕ
shown_for picture = shown_as picture.role picture.seq picture.coding

-- ---- the last coded I or P frame

-- a B-picture (6.3.9)
abbrev pub is_b : PicCoding → Bool
is_b coding = coding.kind == B_PICTURE

-- a coded I or P frame begins: a frame picture, or a pair of fields with its first one, which is no B
abbrev pub begins_reference : Role → PicCoding → Bool
begins_reference Frame coding = not (is_b coding)
begins_reference FirstField coding = not (is_b coding)
begins_reference SecondField coding = false

-- the first of a list, if there is one
abbrev pub nearest : {A : Type 0} → List A → Option A
nearest [] = None
nearest (x ∷ _) = Some x

-- what the last coded I or P frame of some pictures is shown for, if there is one
abbrev pub reference_shown : List CodedPicture → Option ℕ
reference_shown earlier = option_map shown_for (nearest (filter (λ picture. begins_reference picture.role picture.coding) earlier))

-- the pictures before the coded frame of a picture: those before it, without the first field of its own pair
abbrev pub before_frame : {A : Type 0} → Role → List A → List A
before_frame Frame earlier = earlier
before_frame FirstField earlier = earlier
before_frame SecondField [] = []
before_frame SecondField (first ∷ earlier) = earlier

-- ---- the decoding interval

-- what is shown while a coded frame is decoded, in ticks: a B frame itself; for an I or P frame the last coded I or P frame before it, or a frame period
-- where there is none
abbrev pub shown_meanwhile : (is_b : Bool) → (own : ℕ) → (reference : Option ℕ) → (rate_code : ℕ) → ℕ
shown_meanwhile true own reference rate_code = own
shown_meanwhile false own reference rate_code = unwrap_or reference (frame_period rate_code)

-- of that: all behind a frame picture, a field period behind a first field, and the rest behind a second one
abbrev pub share_of : Role → (shown : ℕ) → (rate_code : ℕ) → ℕ
share_of Frame shown rate_code = shown
share_of FirstField shown rate_code = field_period rate_code
share_of SecondField shown rate_code = shown - field_period rate_code

-- of a picture, by what the last coded I or P frame before its own frame is shown for
abbrev pub interval_behind : CodedPicture → (reference : Option ℕ) → ℕ
interval_behind picture reference =
    share_of picture.role (shown_meanwhile (is_b picture.coding) (shown_for picture) reference picture.seq.rate_code) picture.seq.rate_code

-- of a picture behind earlier ones
abbrev pub decoding_interval : CodedPicture → (earlier : List CodedPicture) → ℕ
decoding_interval picture earlier = interval_behind picture (reference_shown (before_frame picture.role earlier))
