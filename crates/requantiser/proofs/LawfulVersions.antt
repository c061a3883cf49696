-- The version of a lawful picture is lawful.
use Rattle.std.proofs.Common.{◌≡◌, ◌+◌, ◌*◌, ◌<◌, ◌==◌, ℕ, List, [], ◌∷◌, ◌++◌, length, Option, Bool, true, refl, sym, ◌∙◌, ap, ap₂, subst, arith}
use Rattle.std.specs.Prelude.{map}
use Rattle.std.specs.List.{AllByRecursion, flat_map, range_with_len}
use Rattle.bit_lists.specs.Fields.{bit_list}
use Rattle.bit_lists.proofs.ByteLemmas.{length-bit_list}
use Rattle.syntax_types.specs.declared.macroblock.Macroblock.{Macroblock}
use Rattle.syntax_types.specs.declared.picture.PicCoding.{PicCoding}
use Rattle.syntax_types.specs.declared.picture.Picture.{Picture}
use Rattle.syntax_types.specs.declared.picture.SeqState.{SeqState}
use Rattle.syntax_types.specs.declared.slice.Slice.{Slice}
use Rattle.stream_constants.specs.declared.start_codes.TheConstants.{FIRST_SLICE}
use Rattle.picture_grammar.specs.Grammar.{with_spelling}
use Rattle.picture_grammar.specs.Head.{head}
use Rattle.picture_grammar.specs.Picture.{IsLawful, IsCovered, MayPrecede, SpellsPicture, addresses, rows}
use Rattle.picture_grammar.specs.Slice.{columns}
use Rattle.stream_constants.specs.SliceCodes.{is_slice}
use Rattle.picture_laws.specs.Spellable.{HasSpellableParts, HasSpellableMacroblocks, HasSpellableSlices}
use Rattle.picture_laws.proofs.WrittenPicture.{slices-of_picture, picture-read}
use Rattle.picture_laws.proofs.WrittenBits.{written-bytes}
use Rattle.picture_heads.specs.declared.TheConstants.{NO_DELAY}
use Rattle.picture_heads.proofs.DelayPlaces.{has-without}
use Rattle.picture_heads.proofs.ReadHeads.{without-read, without_delay}
use Rattle.requantiser.specs.Version.{IsLawfulBehind, IsVersion}
use Rattle.requantiser.specs.Private.Shapes.{IsWalkableSlice}
use Rattle.requantiser.specs.Private.Walk.{coarsened_slice}
use Rattle.requantiser.proofs.SpellableSlices.{slice-spelled}
use Rattle.requantiser.proofs.SpelledPictures.{lawful-walkable, coarsened_slices-are}
use Rattle.requantiser.proofs.Versions.{lawful-delay, one_list}

-- ---- vbv_delay plays no part in macroblocks

parts-without : (coding : PicCoding) (first : Bool) (left : ℕ) (m : Macroblock) → HasSpellableParts coding first left m → HasSpellableParts (without_delay coding) first left m
parts-without coding first left m p = record {
  increment = p.increment;
  kind = p.kind;
  motion_type = p.motion_type;
  field_dct = p.field_dct;
  code = p.code;
  forward = p.forward;
  backward = p.backward;
  pattern = p.pattern;
  blocks = p.blocks;
}

slice-without : (seq : SeqState) (coding : PicCoding) (s : Slice) → HasSpellableMacroblocks seq coding s → HasSpellableMacroblocks seq (without_delay coding) s
slice-without seq coding s has = record {
  code = has.code;
  info = has.info;
  some = has.some;
  each = λ front back m e. parts-without coding (length front == 0) _ m (has.each front back m e);
}

-- ---- slices

module _ (seq : SeqState) (coding : PicCoding) (m : ℕ) where
  row-same : (s : Slice) → (let made : Slice = coarsened_slice seq coding m s in made.row) ≡ s.row
  unfolding coarsened_slice
  row-same s = refl

  slices-spelled : (slices : List Slice) → AllByRecursion (λ s. HasSpellableMacroblocks seq coding s × (is_slice (s.row + FIRST_SLICE) ≡ true)) slices
      → AllByRecursion (IsWalkableSlice (columns seq)) slices
      → AllByRecursion (λ s. HasSpellableMacroblocks seq (without_delay coding) s × (is_slice (s.row + FIRST_SLICE) ≡ true)) (map (coarsened_slice seq coding m) slices)
  slices-spelled [] are walkable = tt
  slices-spelled (s ∷ ss) are walkable =
      let one = slice-spelled seq coding m s are.0.0 walkable.0.macroblocks in (
        (slice-without seq coding (coarsened_slice seq coding m s) one.0, ap (λ (n : ℕ). is_slice (n + FIRST_SLICE)) (row-same s) ∙ are.0.1),
        slices-spelled ss are.1 walkable.1,
      )

  addresses-same : (slices : List Slice) → AllByRecursion (λ s. HasSpellableMacroblocks seq coding s × (is_slice (s.row + FIRST_SLICE) ≡ true)) slices
      → AllByRecursion (IsWalkableSlice (columns seq)) slices → flat_map (addresses seq) (map (coarsened_slice seq coding m) slices) ≡ flat_map (addresses seq) slices
  addresses-same [] are walkable = refl
  addresses-same (s ∷ ss) are walkable =
      ap₂ (λ (xs ys : List ℕ). xs ++ ys) (slice-spelled seq coding m s are.0.0 walkable.0.macroblocks).1 (addresses-same ss are.1 walkable.1)

some-map : {A B : Type 0} (f : A → B) (xs : List A) → 0 < length xs → 0 < length (map f xs)
some-map f [] some = some
some-map f (x ∷ xs) some = omega arith

-- ---- pictures

-- behind the state that the source is lawful behind
pub version-spelled : (m : ℕ) (from to : Picture) (lawful : IsLawful from) → IsVersion m from to → HasSpellableSlices lawful.before to × IsCovered to
version-spelled m from to lawful version =
    let is = slices-of_picture lawful.before from (bit_list lawful.bytes) [] (omega (arith, length-bit_list lawful.bytes)) lawful.spelled in
    let walkable = lawful-walkable from lawful in
    let made : to.slices ≡ map (coarsened_slice from.seq from.coding m) from.slices =
    one_list from.seq from.coding m from.slices to.slices _ version.slices (coarsened_slices-are from.seq from.coding m (columns from.seq) from.slices walkable.slices) in
    let read = without-read lawful.before from.seq from.coding from.head to.head is.rest is.head is.whole version.head in
    let head' : (with_spelling (head lawful.before)).Spells ((to.seq, to.coding), to.head) (bit_list to.head ++ is.rest) is.rest =
    subst (λ (s : SeqState). (with_spelling (head lawful.before)).Spells ((s, to.coding), to.head) (bit_list to.head ++ is.rest) is.rest) (sym version.seq)
    (subst (λ (c : PicCoding). (with_spelling (head lawful.before)).Spells ((from.seq, c), to.head) (bit_list to.head ++ is.rest) is.rest) (sym version.coding) read) in
    let each' = subst (AllByRecursion (λ s. HasSpellableMacroblocks from.seq (without_delay from.coding) s × (is_slice (s.row + FIRST_SLICE) ≡ true))) (sym made)
    (slices-spelled from.seq from.coding m from.slices is.each walkable.slices) in (
      record {
        rest = is.rest;
        whole = is.whole;
        head = head';
        some = subst (λ (xs : List Slice). 0 < length xs) (sym made) (some-map (coarsened_slice from.seq from.coding m) from.slices is.some);
        each = subst (λ (s : SeqState). AllByRecursion (λ x. HasSpellableMacroblocks s to.coding x × (is_slice (x.row + FIRST_SLICE) ≡ true)) to.slices) (sym version.seq)
            (subst (λ (c : PicCoding). AllByRecursion (λ x. HasSpellableMacroblocks from.seq c x × (is_slice (x.row + FIRST_SLICE) ≡ true)) to.slices) (sym version.coding) each');
      },
      ap (λ (s : SeqState). flat_map (addresses s) to.slices) version.seq ∙ ap (flat_map (addresses from.seq)) made ∙ addresses-same from.seq from.coding m from.slices is.each walkable.slices
          ∙ lawful.covered
          ∙ ap (λ (c : PicCoding). range_with_len 0 (rows from.seq c * columns from.seq)) (sym version.coding)
          ∙ ap (λ (s : SeqState). range_with_len 0 (rows s to.coding * columns s)) (sym version.seq),
    )

pub version-lawful : (m : ℕ) (from to : Picture) → IsLawful from → IsVersion m from to → IsLawful to
version-lawful m from to lawful version =
    let (has, covered) = version-spelled m from to lawful version in
    let (written, is) = written-bytes to in
    record { before = lawful.before; preceded = lawful.preceded; bytes = written; are_bytes = is.0; spelled = picture-read lawful.before to written has is; covered = covered }

pub version-behind : (m : ℕ) (before : Option SeqState) (from to : Picture) (bytes : List ℕ) → MayPrecede before → SpellsPicture before from bytes → IsCovered from
    → IsVersion m from to → IsLawfulBehind before to
version-behind m before from to bytes may spelled covered version =
    let has-from = slices-of_picture before from (bit_list bytes) [] (omega (arith, length-bit_list bytes)) spelled in
    let (source, is-from) = written-bytes from in
    let lawful : IsLawful from =
    record { before = before; preceded = may; bytes = source; are_bytes = is-from.0; spelled = picture-read before from source has-from is-from; covered = covered } in
    let (has, all) = version-spelled m from to lawful version in
    let (written, is) = written-bytes to in
    record { bytes = written; are_bytes = is.0; spelled = picture-read before to written has is; covered = all }

pub some-version : (m : ℕ) (from : Picture) → IsLawful from → (to : Picture) × IsVersion m from to
some-version m from lawful =
    let walkable = lawful-walkable from lawful in
    let (front, delay, back, h) = lawful-delay from lawful in
    let (head', is_head) = has-without from.head front delay back h in (
      record { seq = from.seq; coding = without_delay from.coding; head = head'; slices = map (coarsened_slice from.seq from.coding m) from.slices; sequence_end = from.sequence_end },
      record { seq = refl; coding = refl; head = is_head; slices = coarsened_slices-are from.seq from.coding m (columns from.seq) from.slices walkable.slices; sequence_end = refl },
    )
