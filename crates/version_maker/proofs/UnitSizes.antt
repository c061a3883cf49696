-- What was counted of the slices of a unit are the sizes of its versions.
use Rattle.std.proofs.Common.{◌≡◌, ℕ, ◌+◌, ◌-◌, ◌*◌, ◌/◌, ◌%◌, ◌^◌, ◌≤◌, Option, List, [], ◌∷◌, ◌++◌, Bool, true, false, refl, ap, ap₂, arith, length, map}
use Rattle.std.specs.Prelude.{if◌then◌else◌}
use Rattle.std.specs.List.{AllZip, flat_map, sum_by}
use Rattle.std.proofs.Math.Nat.{le_trans, mul-le-mul_left, mul-le-mul_right}
use Rattle.std.proofs.lemmas.List.{length-append}
use Rattle.std.proofs.lemmas.List.FromFn.{length-range_with_len}
use Rattle.std.proofs.lemmas.List.Sums.{sum_by-cons}
use Rattle.bit_lists.specs.Fields.{AreBytes, bit_list}
use Rattle.bit_lists.proofs.ByteLemmas.{length-bit_list}
use Rattle.syntax_types.specs.declared.macroblock.Macroblock.{Macroblock}
use Rattle.syntax_types.specs.declared.picture.PicCoding.{PicCoding}
use Rattle.syntax_types.specs.declared.picture.Picture.{Picture}
use Rattle.syntax_types.specs.declared.picture.SeqState.{SeqState}
use Rattle.syntax_types.specs.declared.slice.Slice.{Slice}
use Rattle.stream_constants.specs.declared.start_codes.TheConstants.{SEQUENCE_END}
use Rattle.picture_grammar.specs.Macroblock.{is_frame}
use Rattle.picture_grammar.specs.Picture.{IsLawful, IsState, MayPrecede, addresses, first_column, rows}
use Rattle.picture_grammar.specs.Slice.{columns}
use Rattle.picture_grammar.specs.StartCode.{start_code_bits}
use Rattle.picture_grammar.specs.Written.{written_macroblock, written_picture, written_slice}
use Rattle.picture_heads.specs.declared.TheConstants.{NO_DELAY}
use Rattle.picture_heads.proofs.DelayPlaces.{has-without}
use Rattle.picture_laws.proofs.SpelledStates.{state-of_unit}
use Rattle.picture_laws.proofs.WrittenBits.{written-bytes}
use Rattle.macroblock_writer.specs.Private.WholeSlices.{written_whole_slice}
use Rattle.picture_reader.specs.Picture.{IsPictureOf}
use Rattle.requantiser.specs.Distortion.{distortion_between}
use Rattle.requantiser.specs.Slices.{IsCoarserSlice}
use Rattle.requantiser.specs.Steps.{MakeSlices, Step, distortion_of}
use Rattle.requantiser.specs.Version.{IsVersion}
use Rattle.requantiser.proofs.MacroblockSteps.{span_of}
use Rattle.requantiser.proofs.Steps.{steps-make}
use Rattle.requantiser.proofs.StepSums.{steps-add-up}
use Rattle.requantiser.proofs.Versions.{lawful-delay}
use Rattle.version_maker.specs.declared.version.UnitVersion.{UnitVersion}
use Rattle.version_maker.specs.declared.version.VersionSize.{VersionSize}
use Rattle.version_maker.specs.Versions.{AreSizes, IsCoarserVersion, size_of}
use Rattle.version_maker.specs.Private.Sized.{AreSized, IsSized, first_size, with_bytes}
use Rattle.version_maker.proofs.Counts.{few-macroblocks}
use Rattle.picture_laws.proofs.WrittenPicture.{length-start_code}
use Rattle.version_maker.proofs.Lists.{head-length, source-size, source-version}
use Rattle.version_maker.proofs.Units.{head-begins, lawful-unit}

-- ---- how many macroblocks a picture has

pub held : (ms : List Macroblock) → length ms ≤ sum_by span_of ms - first_column ms
held [] = omega arith
held (m ∷ ms) = omega (arith, sum_by-cons span_of m ms, few-macroblocks ms)

slice-held : (seq : SeqState) (s : Slice) → length s.macroblocks ≤ length (addresses seq s)
slice-held seq s = omega (
  arith,
  held s.macroblocks,
  length-range_with_len (s.row * columns seq + first_column s.macroblocks) (sum_by span_of s.macroblocks - first_column s.macroblocks),
)

all-held : (seq : SeqState) (slices : List Slice) → sum_by (λ (s : Slice). length s.macroblocks) slices ≤ length (flat_map (addresses seq) slices)
all-held seq [] = omega arith
all-held seq (s ∷ ss) = omega (
  arith,
  sum_by-cons (λ (s : Slice). length s.macroblocks) s ss,
  length-append (addresses seq s) (flat_map (addresses seq) ss),
  slice-held seq s,
  all-held seq ss,
)

rows-few : (seq : SeqState) (coding : PicCoding) → IsState seq → rows seq coding ≤ 128
rows-few seq coding is = by_tests (is_frame coding) seq.progressive
  where
    by_tests : (a b : Bool) → (if a then (if b then (seq.height + 15) / 16 else 2 * ((seq.height + 31) / 32)) else (seq.height + 31) / 32) ≤ 128
    by_tests true true = omega (arith, is.height)
    by_tests true false = omega (arith, is.height)
    by_tests false b = omega (arith, is.height)

product-few : (a b : ℕ) → a ≤ 128 → b ≤ 128 → a * b ≤ 16384
product-few a b few some = le_trans (mul-le-mul_left a some) (mul-le-mul_right 128 few)

macroblocks-few : (picture : Picture) → IsLawful picture → sum_by (λ (s : Slice). length s.macroblocks) picture.slices ≤ 16384
macroblocks-few picture lawful =
    let is : IsState picture.seq = state-of_unit lawful.before picture (bit_list lawful.bytes) [] lawful.preceded lawful.spelled in
    let wide : columns picture.seq ≤ 128 = omega (arith, is.width) in
    omega (
      arith,
      all-held picture.seq picture.slices,
      ap length lawful.covered,
      length-range_with_len 0 (rows picture.seq picture.coding * columns picture.seq),
      product-few (rows picture.seq picture.coding) (columns picture.seq) (rows-few picture.seq picture.coding is) wide,
    )

-- ---- the version that was counted

slices-made : (seq : SeqState) (coding : PicCoding) (m : ℕ) (slices tos : List Slice) (steps : List (List Step)) → MakeSlices seq coding m slices tos steps
    → AllZip (IsCoarserSlice seq coding m) slices tos
slices-made seq coding m [] [] [] make = tt
slices-made seq coding m [] [] (x ∷ xs) make = absurd make
slices-made seq coding m [] (t ∷ ts) steps make = absurd make
slices-made seq coding m (s ∷ ss) [] steps make = absurd make
slices-made seq coding m (s ∷ ss) (t ∷ ts) [] make = absurd make
slices-made seq coding m (s ∷ ss) (t ∷ ts) (x ∷ xs) make = (steps-make seq coding m s t x make.0, slices-made seq coding m ss ts xs make.1)

same-written : (coding : PicCoding) (slice : Slice) → written_whole_slice (record coding { vbv_delay = NO_DELAY }) slice ≡ written_whole_slice coding slice
unfolding written_slice written_macroblock
same-written coding slice = refl

pub all-written : (coding : PicCoding) (slices : List Slice) → flat_map (written_whole_slice (record coding { vbv_delay = NO_DELAY })) slices ≡ flat_map (written_whole_slice coding) slices
all-written coding [] = refl
all-written coding (s ∷ ss) = ap₂ (λ (a b : List ℕ). a ++ b) (same-written coding s) (all-written coding ss)

abbrev end_bytes : Bool → ℕ
end_bytes sequence_end = if sequence_end then 4 else 0

end-length : (sequence_end : Bool) → length (if sequence_end then start_code_bits SEQUENCE_END else []) ≡ 8 * end_bytes sequence_end
end-length true = length-start_code SEQUENCE_END
end-length false = refl

written-length : (made : Picture) → length (written_picture made) ≡ 8 * length made.head + length (flat_map (written_whole_slice made.coding) made.slices) + 8 * end_bytes made.sequence_end
unfolding written_picture
written-length made =
    let end : List ℕ = if made.sequence_end then start_code_bits SEQUENCE_END else [] in
    omega (
      arith,
      length-append (bit_list made.head ++ flat_map (written_whole_slice made.coding) made.slices) end,
      length-append (bit_list made.head) (flat_map (written_whole_slice made.coding) made.slices),
      length-bit_list made.head,
      end-length made.sequence_end,
    )

-- the version at a ratio, and that its size was counted
pub record IsSizeOf (picture : Picture) (m around : ℕ) (size : VersionSize) : Type 0 where
  pub version : UnitVersion
  pub is : IsCoarserVersion picture m version
  pub same : with_bytes around size ≡ size_of version

sized-version : (picture : Picture) (m around : ℕ) (size : VersionSize) → IsLawful picture → around ≡ length picture.head + end_bytes picture.sequence_end → around ≤ 2 ^ 61
    → length picture.slices ≤ 2 ^ 20 → IsSized picture.seq picture.coding picture.slices m size → IsSizeOf picture m around size
sized-version picture m around size lawful around_is room few sized =
    let (front, delay, back, h) = lawful-delay picture lawful in
    let (head, without) = has-without picture.head front delay back h in
    let made : Picture = record {
      seq = picture.seq;
      coding = record picture.coding { vbv_delay = NO_DELAY };
      head = head;
      slices = sized.tos;
      sequence_end = picture.sequence_end;
    } in
    let (written, spells) = written-bytes made in
    let is : IsVersion m picture made = record {
      seq = refl;
      coding = refl;
      head = without;
      slices = slices-made picture.seq picture.coding m picture.slices sized.tos sized.steps sized.makes;
      sequence_end = refl;
    } in
    let sum : sum_by distortion_of sized.steps ≡ distortion_between picture made = steps-add-up m picture made sized.steps lawful is sized.makes in
    let bytes : length written ≡ around + sized.count = omega (
      arith,
      length-bit_list written,
      ap length spells.1,
      written-length made,
      head-length picture.head head without,
      ap length (all-written picture.coding sized.tos),
      sized.bytes,
      around_is,
    ) in
    let around_bytes : (size.bytes + around) % 2 ^ 64 ≡ length written = omega (arith, bytes, sized.counted, sized.few, few, room) in
    let distortion : size.distortion ≡ distortion_between picture made = omega (arith, sized.distortion, sum, sized.small, macroblocks-few picture lawful) in
    record {
      version = record { bytes = written; distortion = distortion_between picture made };
      is = record { made = made; coarser = is; written = spells; distortion = refl };
      same = ap₂ (λ (b d : ℕ). let s : VersionSize = record { bytes = b; distortion = d } in s) around_bytes distortion;
    }

-- the versions at all ratios
record AreSizesAt (picture : Picture) (coarser : List ℕ) (around : ℕ) (sizes : List VersionSize) : Type 0 where
  pub versions : List UnitVersion
  pub are : AllZip (IsCoarserVersion picture) coarser versions
  pub same : map (with_bytes around) sizes ≡ map size_of versions

sized-versions : (picture : Picture) (around : ℕ) (coarser : List ℕ) (sizes : List VersionSize) → IsLawful picture → around ≡ length picture.head + end_bytes picture.sequence_end
    → around ≤ 2 ^ 61 → length picture.slices ≤ 2 ^ 20 → AreSized picture.seq picture.coding picture.slices coarser sizes → AreSizesAt picture coarser around sizes
sized-versions picture around [] [] lawful around_is room few sized = record { versions = []; are = tt; same = refl }
sized-versions picture around [] (x ∷ xs) lawful around_is room few sized = absurd sized
sized-versions picture around (m ∷ ms) [] lawful around_is room few sized = absurd sized
sized-versions picture around (m ∷ ms) (x ∷ xs) lawful around_is room few sized =
    let here = sized-version picture m around x lawful around_is room few sized.0 in
    let others = sized-versions picture around ms xs lawful around_is room few sized.1 in
    record {
      versions = here.version ∷ others.versions;
      are = (here.is, others.are);
      same = ap₂ (λ (s : VersionSize) (ss : List VersionSize). s ∷ ss) here.same others.same;
    }

-- the sizes of all versions of a unit
pub unit-sizes : (before : Option SeqState) (picture : Picture) (unit coarser : List ℕ) (around : ℕ) (sizes : List VersionSize) → MayPrecede before → AreBytes unit
    → IsPictureOf before unit picture → around ≡ length picture.head + end_bytes picture.sequence_end → around ≤ 2 ^ 61 → length picture.slices ≤ 2 ^ 20
    → AreSized picture.seq picture.coding picture.slices coarser sizes → AreSizes before unit coarser (first_size (length unit) ∷ map (with_bytes around) sizes)
unit-sizes before picture unit coarser around sizes may are whole around_is room few sized =
    let lawful = lawful-unit before picture unit may are whole in
    let (behind, begins) = head-begins before picture unit are whole.spelled in
    let (first, source) = source-version picture unit behind lawful begins in
    let others = sized-versions picture around coarser sizes lawful around_is room few sized in
    record {
      versions = first ∷ others.versions;
      are = record {
        picture = picture;
        whole = whole;
        of_picture = record { first = first; others = others.versions; in_order = refl; source = source; coarser_ones = others.are };
      };
      each = ap₂ (λ (s : VersionSize) (ss : List VersionSize). s ∷ ss) (source-size picture unit first source) others.same;
    }
