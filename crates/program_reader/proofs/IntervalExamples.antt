-- Decoding intervals computed at worked examples.
use Rattle.std.proofs.Common.{◌≡◌, ℕ, Bool, true, false, [], ◌∷◌, Some, None, refl, arith}
use Rattle.syntax_types.specs.declared.picture.PicCoding.{PicCoding}
use Rattle.syntax_types.specs.declared.picture.SeqState.{SeqState}
use Rattle.program_reader.specs.declared.timed_picture.Role.{Role}
use Rattle.program_reader.specs.declared.timed_picture.Role.TheVariants.{Frame, FirstField, SecondField}
use Rattle.program_reader.specs.Intervals.{CodedPicture, decoding_interval, frame_period, reference_shown, shown_for}

module _ (seq : SeqState) (coding : PicCoding) where
  -- a picture by frame_rate_code, progressive_sequence, picture_coding_type, repeat_first_field and top_field_first
  abbrev coded : Role → (rate : ℕ) → (progressive : Bool) → (kind : ℕ) → (repeats top_first : Bool) → CodedPicture
  coded role rate progressive kind repeats top_first = record {
    seq = record seq { rate_code = rate; progressive = progressive };
    coding = record coding { kind = kind; repeat_first_field = repeats; top_field_first = top_first };
    role = role;
  }

  -- ---- film in an interlaced sequence of 30,000/1,001 frames a second: three fields and two fields in turn

  abbrev three : (kind : ℕ) → CodedPicture
  three kind = coded Frame 4 false kind true true

  abbrev two : (kind : ℕ) → CodedPicture
  two kind = coded Frame 4 false kind false false

  shown_30 : (shown_for (three 1) ≡ 1351350) × (shown_for (two 1) ≡ 900900)
  shown_30 = (refl, refl)

  -- no I or P frame stands before the first one: a frame period, though it repeats a field itself, also where a B stands before it
  first_30 : (decoding_interval (three 1) [] ≡ 900900) × (decoding_interval (two 2) (three 3 ∷ []) ≡ 900900)
  first_30 = (refl, refl)

  first_not_its_own : decoding_interval (three 1) [] ≡ 1351350 → ⊥
  first_not_its_own same = let is : 900900 ≡ 1351350 = same in omega (arith, is)

  -- behind a P what the I before it is shown for, whatever it repeats itself
  behind_p : (decoding_interval (two 2) (three 1 ∷ []) ≡ 1351350) × (decoding_interval (three 2) (two 1 ∷ []) ≡ 900900)
  behind_p = (refl, refl)

  behind_p_not_its_own : decoding_interval (two 2) (three 1 ∷ []) ≡ 900900 → ⊥
  behind_p_not_its_own same = let is : 1351350 ≡ 900900 = same in omega (arith, is)

  -- behind a B what it is shown for itself, whatever the P before it repeats
  behind_b : (decoding_interval (three 3) (two 2 ∷ two 1 ∷ []) ≡ 1351350) × (decoding_interval (two 3) (three 2 ∷ three 1 ∷ []) ≡ 900900)
  behind_b = (refl, refl)

  -- B frames between them don't count, and the nearest of the I and P frames does
  over_b : (decoding_interval (two 2) (two 3 ∷ two 3 ∷ three 2 ∷ two 1 ∷ []) ≡ 1351350) × (decoding_interval (two 1) (three 3 ∷ two 3 ∷ two 2 ∷ three 1 ∷ []) ≡ 900900)
  over_b = (refl, refl)

  over_b_not_the_last : decoding_interval (two 1) (three 3 ∷ two 2 ∷ []) ≡ 1351350 → ⊥
  over_b_not_the_last same = let is : 900900 ≡ 1351350 = same in omega (arith, is)

  -- ---- progressive sequences: two frame periods with repeat_first_field, three with top_field_first too; at 24,000/1,001 and at 25 frames a second

  shown_progressive : (shown_for (coded Frame 1 true 1 true false) ≡ 2252250) × (shown_for (coded Frame 1 true 1 true true) ≡ 3378375)
      × (shown_for (coded Frame 1 true 1 false true) ≡ 1126125) × (shown_for (coded Frame 3 true 3 true false) ≡ 2160000) × (shown_for (coded Frame 3 true 3 true true) ≡ 3240000)
  shown_progressive = (refl, refl, refl, refl, refl)

  -- the same flags in an interlaced one: a field more, half a frame period rounded down
  shown_interlaced : (shown_for (coded Frame 1 false 1 true false) ≡ 1689187) × (shown_for (coded Frame 1 false 1 true true) ≡ 1689187) × (shown_for (coded Frame 3 false 3 true true) ≡ 1620000)
  shown_interlaced = (refl, refl, refl)

  behind_progressive : (decoding_interval (coded Frame 1 true 2 false false) (coded Frame 1 true 1 true true ∷ []) ≡ 3378375)
      × (decoding_interval (coded Frame 1 true 3 true false) (coded Frame 1 true 2 true true ∷ []) ≡ 2252250)
  behind_progressive = (refl, refl)

  not_one_and_a_half : decoding_interval (coded Frame 3 true 3 true false) [] ≡ 1620000 → ⊥
  not_one_and_a_half same = let is : 2160000 ≡ 1620000 = same in omega (arith, is)

  -- ---- fields

  abbrev first_field : (rate kind : ℕ) → CodedPicture
  first_field rate kind = coded FirstField rate false kind false true

  abbrev second_field : (rate kind : ℕ) → CodedPicture
  second_field rate kind = coded SecondField rate false kind false true

  -- two fields that begin a stream, at 25 and at 24,000/1,001 frames a second: half of a frame period, rounded down, and the rest
  first_pair : (decoding_interval (first_field 3 1) [] ≡ 540000) × (decoding_interval (second_field 3 2) (first_field 3 1 ∷ []) ≡ 540000)
      × (decoding_interval (first_field 1 1) [] ≡ 563062) × (decoding_interval (second_field 1 2) (first_field 1 1 ∷ []) ≡ 563063)
  first_pair = (refl, refl, refl, refl)

  -- a pair of P fields behind a P frame that is shown for three fields takes three field periods, the second field two of them
  pair_behind_three : (decoding_interval (first_field 3 2) (coded Frame 3 false 2 true true ∷ []) ≡ 540000)
      × (decoding_interval (second_field 3 2) (first_field 3 2 ∷ coded Frame 3 false 2 true true ∷ []) ≡ 1080000)
  pair_behind_three = (refl, refl)

  -- its own pair isn't before a second field
  not_its_own_pair : decoding_interval (second_field 3 2) (first_field 3 2 ∷ coded Frame 3 false 2 true true ∷ []) ≡ 540000 → ⊥
  not_its_own_pair same = let is : 1080000 ≡ 540000 = same in omega (arith, is)

  -- a pair of B fields takes a frame period
  b_pair : (decoding_interval (first_field 3 3) (coded Frame 3 false 2 true true ∷ []) ≡ 540000)
      × (decoding_interval (second_field 3 3) (first_field 3 3 ∷ coded Frame 3 false 2 true true ∷ []) ≡ 540000)
  b_pair = (refl, refl)

  -- a pair of I or P fields is one frame, and is shown for a frame period; a pair of B fields is none
  behind_pairs : (reference_shown (second_field 3 2 ∷ first_field 3 1 ∷ coded Frame 3 false 2 true true ∷ []) ≡ Some 1080000)
      × (reference_shown (second_field 3 3 ∷ first_field 3 3 ∷ coded Frame 3 false 2 true true ∷ []) ≡ Some 1620000) × (reference_shown (first_field 3 3 ∷ []) ≡ None)
  behind_pairs = (refl, refl, refl)

  -- so behind a P frame behind two pairs stands a frame period, and not two
  behind_pair : decoding_interval (coded Frame 3 false 2 true true) (second_field 3 2 ∷ first_field 3 2 ∷ second_field 3 2 ∷ first_field 3 1 ∷ []) ≡ 1080000
  behind_pair = refl

  -- ---- frame periods

  periods : (frame_period 1 ≡ 1126125) × (frame_period 2 ≡ 1125000) × (frame_period 3 ≡ 1080000) × (frame_period 4 ≡ 900900) × (frame_period 5 ≡ 900000)
  periods = (refl, refl, refl, refl, refl)
