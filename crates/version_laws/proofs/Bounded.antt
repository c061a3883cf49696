-- No version of a unit is longer, or farther from its source, than its bounds say.
use Rattle.std.proofs.Common.{◌≡◌, ℕ, zero, suc, ◌+◌, ◌-◌, ◌*◌, ◌/◌, ◌%◌, ◌<◌, ◌≤◌, Option, List, [], ◌∷◌, ◌++◌, Bool, true, false, sym, ◌∙◌, ap, subst, arith, length, get_or, replicate, map, All}
use Rattle.std.specs.Prelude.{if◌then◌else◌}
use Rattle.std.specs.List.{AllByRecursion, AllZip, flat_map, sum_by}
use Rattle.std.proofs.Math.Nat.{mul-le-mul, mul-le-mul_right}
use Rattle.std.proofs.lemmas.List.{length-append}
use Rattle.std.proofs.lemmas.List.FromFn.{length-range_with_len}
use Rattle.std.proofs.lemmas.List.Sums.{sum_by-cons}
use Rattle.bit_lists.specs.Fields.{AreBytes, bit_list}
use Rattle.bit_lists.proofs.ByteLemmas.{length-bit_list}
use Rattle.syntax_types.specs.declared.macroblock.Macroblock.{Macroblock}
use Rattle.syntax_types.specs.declared.picture.PicCoding.{PicCoding}
use Rattle.syntax_types.specs.declared.picture.Picture.{Picture}
use Rattle.syntax_types.specs.declared.picture.SeqState.{SeqState}
use Rattle.syntax_types.specs.declared.slice.Slice.{Slice}
use Rattle.syntax_types.specs.declared.slice.SliceInfo.{SliceInfo}
use Rattle.stream_constants.specs.declared.start_codes.TheConstants.{FIRST_SLICE, SEQUENCE_END}
use Rattle.picture_grammar.specs.Macroblock.{is_frame}
use Rattle.picture_grammar.specs.Picture.{IsCoding, IsLawful, IsState, MayPrecede, SpellsPicture, addresses, first_column, rows}
use Rattle.picture_grammar.specs.Slice.{columns}
use Rattle.picture_grammar.specs.StartCode.{start_code_bits}
use Rattle.picture_grammar.specs.Written.{written_picture, written_slice, written_slice_info}
use Rattle.picture_laws.proofs.Codings.{coding-of_unit}
use Rattle.picture_laws.proofs.SpelledStates.{state-of_unit}
use Rattle.picture_laws.proofs.WrittenPicture.{slices-of_picture, length-start_code}
use Rattle.requantiser.specs.Slices.{IsCoarserSlice}
use Rattle.requantiser.proofs.LawfulVersions.{version-lawful, version-spelled}
use Rattle.requantiser.proofs.MacroblockSteps.{span_of}
use Rattle.requantiser.proofs.SpelledPictures.{lawful-walkable}
use Rattle.requantiser.proofs.StepSums.{steps-add-up}
use Rattle.version_table.specs.Table.{IsValidVersion}
use Rattle.macroblock_writer.specs.Private.WholeSlices.{written_whole_slice}
use Rattle.version_maker.specs.declared.version.UnitVersion.{UnitVersion}
use Rattle.version_maker.specs.declared.version.VersionSize.{VersionSize}
use Rattle.version_maker.specs.Versions.{AreSizes, AreVersions, IsCoarserVersion, IsSourceVersion, size_of}
use Rattle.version_maker.proofs.Counts.{few-macroblocks, slice-length}
use Rattle.version_maker.proofs.Lists.{head-length, source-length}
use Rattle.version_maker.proofs.Units.{lawful-unit}
use Rattle.version_laws.proofs.SliceBits.{coded, info-some, info_bits, slices-short}
use Rattle.version_laws.proofs.Steps.{HaveMakings, have-makings, makings-most}
use Rattle.version_laws.proofs.UnitBits.{unit-told}
use Rattle.version_maker.proofs.UnitSizes.{held}

-- ---- how many macroblocks a picture has

slice-held : (seq : SeqState) (s : Slice) → coded s ≤ length (addresses seq s)
slice-held seq s = omega (
  arith,
  held s.macroblocks,
  length-range_with_len (s.row * columns seq + first_column s.macroblocks) (sum_by span_of s.macroblocks - first_column s.macroblocks),
)

all-held : (seq : SeqState) (slices : List Slice) → sum_by coded slices ≤ length (flat_map (addresses seq) slices)
all-held seq [] = omega arith
all-held seq (s ∷ ss) = omega (arith, sum_by-cons coded s ss, length-append (addresses seq s) (flat_map (addresses seq) ss), slice-held seq s, all-held seq ss)

rows-few : (seq : SeqState) (coding : PicCoding) → IsState seq → rows seq coding ≤ 36
rows-few seq coding is = by_tests (is_frame coding) seq.progressive
  where
    by_tests : (a b : Bool) → (if a then (if b then (seq.height + 15) / 16 else 2 * ((seq.height + 31) / 32)) else (seq.height + 31) / 32) ≤ 36
    by_tests true true = omega (arith, is.height)
    by_tests true false = omega (arith, is.height)
    by_tests false b = omega (arith, is.height)

columns-few : (seq : SeqState) → IsState seq → columns seq ≤ 45
columns-few seq is = omega (arith, is.width)

lawful-state : (picture : Picture) → IsLawful picture → IsState picture.seq
lawful-state picture lawful = state-of_unit lawful.before picture (bit_list lawful.bytes) [] lawful.preceded lawful.spelled

macroblocks-few : (picture : Picture) → IsLawful picture → sum_by coded picture.slices ≤ 1620
macroblocks-few picture lawful =
    let is : IsState picture.seq = lawful-state picture lawful in
    let grid : rows picture.seq picture.coding * columns picture.seq ≤ 36 * 45 = mul-le-mul (rows-few picture.seq picture.coding is) (columns-few picture.seq is) in
    omega (
      arith,
      all-held picture.seq picture.slices,
      ap length lawful.covered,
      length-range_with_len 0 (rows picture.seq picture.coding * columns picture.seq),
      grid,
    )

-- ---- the distortion of a coarser version

distortion-most : (picture : Picture) (m : ℕ) (version : UnitVersion) → IsLawful picture → (is : IsCoarserVersion picture m version) → version.distortion ≤ 2609192632320
distortion-most picture m version lawful is =
    let makings : HaveMakings picture.seq picture.coding m picture.slices is.made.slices =
    have-makings picture.seq picture.coding m (columns picture.seq) picture.slices is.made.slices (lawful-walkable picture lawful).slices is.coarser.slices in
    omega (
      arith,
      is.distortion,
      steps-add-up m picture is.made makings.all lawful is.coarser makings.makes,
      makings-most picture.seq picture.coding m picture.slices is.made.slices makings.all makings.makes,
      macroblocks-few picture lawful,
    )

-- ---- its bytes

end-length : (sequence_end : Bool) → length (if sequence_end then start_code_bits SEQUENCE_END else []) ≤ 32
end-length true = omega (arith, length-start_code SEQUENCE_END)
end-length false = omega arith

written-length : (made : Picture) → length (written_picture made) ≤ 8 * length made.head + length (flat_map (written_whole_slice made.coding) made.slices) + 32
unfolding written_picture
written-length made =
    let end : List ℕ = if made.sequence_end then start_code_bits SEQUENCE_END else [] in
    omega (
      arith,
      length-append (bit_list made.head ++ flat_map (written_whole_slice made.coding) made.slices) end,
      length-append (bit_list made.head) (flat_map (written_whole_slice made.coding) made.slices),
      length-bit_list made.head,
      end-length made.sequence_end,
    )

written-least : (made : Picture) → length (flat_map (written_whole_slice made.coding) made.slices) ≤ length (written_picture made)
unfolding written_picture
written-least made =
    let end : List ℕ = if made.sequence_end then start_code_bits SEQUENCE_END else [] in
    omega (
      arith,
      length-append (bit_list made.head ++ flat_map (written_whole_slice made.coding) made.slices) end,
      length-append (bit_list made.head) (flat_map (written_whole_slice made.coding) made.slices),
    )

slice-some : (coding : PicCoding) (s : Slice) → 1 ≤ length (written_whole_slice coding s)
slice-some coding s =
    let bits : List ℕ = start_code_bits (s.row + FIRST_SLICE) ++ written_slice coding s in
    let fill : ℕ = (8 - length bits % 8) % 8 in
    omega (arith, length-append bits (replicate {A = ℕ} fill 0), slice-length coding s)

some-written : (coding : PicCoding) (slices : List Slice) → 0 < length slices → 1 ≤ length (flat_map (written_whole_slice coding) slices)
some-written coding [] some = absurd (omega (arith, some))
some-written coding (s ∷ ss) some = omega (arith, length-append (written_whole_slice coding s) (flat_map (written_whole_slice coding) ss), slice-some coding s)

some-infos : (slices : List Slice) → 0 < length slices → 1 ≤ sum_by info_bits slices
some-infos [] some = absurd (omega (arith, some))
some-infos (s ∷ ss) some = omega (arith, sum_by-cons info_bits s ss, info-some s.info)

same-infos : (seq : SeqState) (coding : PicCoding) (m : ℕ) (slices tos : List Slice) → AllZip (IsCoarserSlice seq coding m) slices tos → sum_by info_bits tos ≡ sum_by info_bits slices
same-infos seq coding m [] [] are = omega arith
same-infos seq coding m [] (t ∷ ts) are = absurd are
same-infos seq coding m (s ∷ ss) [] are = absurd are
same-infos seq coding m (s ∷ ss) (t ∷ ts) are =
    let here : info_bits t ≡ info_bits s = ap (λ (i : Option SliceInfo). length (written_slice_info i)) are.0.info in
    omega (arith, sum_by-cons info_bits s ss, sum_by-cons info_bits t ts, here, same-infos seq coding m ss ts are.1)

-- a version as long as its unit, and 14,300 bits for each macroblock, is no longer than a table allows
record IsFitting (version : UnitVersion) : Type 0 where
  pub some : 1 ≤ length version.bytes
  pub few : length version.bytes ≤ 4194285

bytes-most : (before : Option SeqState) (picture : Picture) (unit : List ℕ) (m : ℕ) (version : UnitVersion) → IsLawful picture → SpellsPicture before picture unit
    → length unit ≤ 1048576 → IsCoarserVersion picture m version → IsFitting version
bytes-most before picture unit m version lawful spelled short is =
    let made : Picture = is.made in
    let has = version-spelled m picture made lawful is.coarser in
    let lawful' : IsLawful made = version-lawful m picture made lawful is.coarser in
    let coding : IsCoding made.coding = coding-of_unit lawful'.before made (bit_list lawful'.bytes) [] lawful'.spelled in
    let slices : length (flat_map (written_whole_slice made.coding) made.slices) ≤ sum_by info_bits made.slices + 14300 * sum_by coded made.slices =
    slices-short made.seq made.coding made.slices (columns-few made.seq (lawful-state made lawful')) coding has.0.each (lawful-walkable made lawful').slices in
    let infos : sum_by info_bits made.slices ≡ sum_by info_bits picture.slices = same-infos picture.seq picture.coding m picture.slices made.slices is.coarser.slices in
    let bits : 8 * length version.bytes ≡ length (written_picture made) = sym (length-bit_list version.bytes) ∙ ap length is.written.1 in
    let some : 1 ≤ length (flat_map (written_whole_slice made.coding) made.slices) = some-written made.coding made.slices has.0.some in
    record {
      some = omega (arith, bits, some, written-least made);
      few = omega (
        arith,
        bits,
        written-length made,
        slices,
        infos,
        macroblocks-few made lawful',
        head-length picture.head made.head is.coarser.head,
        unit-told before picture unit spelled,
        short,
      );
    }

-- ---- all versions

abbrev IsBounded : UnitVersion → Type 0
IsBounded version = (1 ≤ length version.bytes) × (length version.bytes ≤ 4194285) × (version.distortion ≤ 2609192632320)

source-bounded : (before : Option SeqState) (picture : Picture) (unit : List ℕ) (version : UnitVersion) → SpellsPicture before picture unit → length unit ≤ 1048576
    → IsSourceVersion picture unit version → IsBounded version
source-bounded before picture unit version spelled short is =
    let same : length version.bytes ≡ length unit = source-length picture unit version is in
    let has = slices-of_picture before picture (bit_list unit) [] (omega (arith, length-bit_list unit)) spelled in
    let some : 1 ≤ sum_by info_bits picture.slices = some-infos picture.slices has.some in
    (omega (arith, same, some, unit-told before picture unit spelled), omega (arith, same, short), omega (arith, is.distortion))

others-bounded : (before : Option SeqState) (picture : Picture) (unit : List ℕ) (coarser : List ℕ) (others : List UnitVersion) → IsLawful picture → SpellsPicture before picture unit
    → length unit ≤ 1048576 → AllZip (IsCoarserVersion picture) coarser others → AllByRecursion IsBounded others
others-bounded before picture unit [] [] lawful spelled short are = tt
others-bounded before picture unit [] (v ∷ vs) lawful spelled short are = absurd are
others-bounded before picture unit (m ∷ ms) [] lawful spelled short are = absurd are
others-bounded before picture unit (m ∷ ms) (v ∷ vs) lawful spelled short are =
    let fits : IsFitting v = bytes-most before picture unit m v lawful spelled short are.0 in
    ((fits.some, fits.few, distortion-most picture m v lawful are.0), others-bounded before picture unit ms vs lawful spelled short are.1)

-- ---- lists

module _ {A : Type 0} (P : A → Type 0) where
  all-cons : (x : A) (xs : List A) → P x → All P xs → All P (x ∷ xs)
  all-cons x xs first others = by_place
    where
      by_place : (k : ℕ) (d : A) → k < length (x ∷ xs) → P (get_or (x ∷ xs) k d)
      by_place zero d within = first
      by_place (suc k) d within = others k d (omega (arith, within))

  all-of : (xs : List A) → AllByRecursion P xs → All P xs
  all-of [] are = λ k d within. absurd (let none : k < 0 = within in omega (arith, none))
  all-of (x ∷ xs) are = all-cons x xs are.0 (all-of xs are.1)

each-bounded : (before : Option SeqState) (unit coarser : List ℕ) (versions : List UnitVersion) → MayPrecede before → AreBytes unit → length unit ≤ 1048576
    → AreVersions before unit coarser versions → AllByRecursion IsBounded versions
each-bounded before unit coarser versions may are short is =
    let lawful : IsLawful is.picture = lawful-unit before is.picture unit may are is.whole in
    let first : IsBounded is.of_picture.first = source-bounded before is.picture unit is.of_picture.first is.whole.spelled short is.of_picture.source in
    let others : AllByRecursion IsBounded is.of_picture.others =
    others-bounded before is.picture unit coarser is.of_picture.others lawful is.whole.spelled short is.of_picture.coarser_ones in
    subst (AllByRecursion IsBounded) (sym is.of_picture.in_order) (first, others)

pub versions-bounded : (before : Option SeqState) (unit coarser : List ℕ) (versions : List UnitVersion) → MayPrecede before → AreBytes unit → length unit ≤ 1048576
    → AreVersions before unit coarser versions → All IsBounded versions
versions-bounded before unit coarser versions may are short is = all-of IsBounded versions (each-bounded before unit coarser versions may are short is)

-- ---- places in a table

placed : (header weight bytes distortion : ℕ) → header ≤ 19 → 2609192632320 * weight < 281474976710656 → 1 ≤ bytes → bytes ≤ 4194285 → distortion ≤ 2609192632320
    → IsValidVersion (record { bytes = header + bytes; distortion = distortion * weight })
placed header weight bytes distortion short light some few near =
    let product : distortion * weight ≤ 2609192632320 * weight = mul-le-mul_right weight near in
    record { some_bytes = omega (arith, some); bytes = omega (arith, short, few); distortion = omega (arith, product, light) }

pub versions-placed : (before : Option SeqState) (unit coarser : List ℕ) (versions : List UnitVersion) (header weight : ℕ) → MayPrecede before → AreBytes unit → length unit ≤ 1048576
    → AreVersions before unit coarser versions → header ≤ 19 → 2609192632320 * weight < 281474976710656
    → All (λ version. IsValidVersion (record { bytes = header + length version.bytes; distortion = version.distortion * weight })) versions
versions-placed before unit coarser versions header weight may are short is fits light = at
  where
    each : All IsBounded versions
    each = versions-bounded before unit coarser versions may are short is

    at : (k : ℕ) (d : UnitVersion) → k < length versions
        → (let version : UnitVersion = get_or versions k d in IsValidVersion (record { bytes = header + length version.bytes; distortion = version.distortion * weight }))
    at k d within =
        let version : UnitVersion = get_or versions k d in
        let bounded : IsBounded version = each k d within in
        placed header weight (length version.bytes) version.distortion fits light bounded.0 bounded.1 bounded.2

-- ---- sizes

abbrev IsBoundedSize : VersionSize → Type 0
IsBoundedSize size = (1 ≤ size.bytes) × (size.bytes ≤ 4194285) × (size.distortion ≤ 2609192632320)

sizes-of : (versions : List UnitVersion) → AllByRecursion IsBounded versions → AllByRecursion IsBoundedSize (map size_of versions)
sizes-of [] are = tt
sizes-of (v ∷ vs) are = (are.0, sizes-of vs are.1)

pub sizes-bounded : (before : Option SeqState) (unit coarser : List ℕ) (sizes : List VersionSize) → MayPrecede before → AreBytes unit → length unit ≤ 1048576
    → AreSizes before unit coarser sizes → All IsBoundedSize sizes
sizes-bounded before unit coarser sizes may are short is =
    let each : AllByRecursion IsBoundedSize (map size_of is.versions) = sizes-of is.versions (each-bounded before unit coarser is.versions may are short is.are) in
    subst (All IsBoundedSize) (sym is.each) (all-of IsBoundedSize (map size_of is.versions) each)
