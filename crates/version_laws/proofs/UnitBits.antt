-- What a unit has at least: its head, and what the headers of its slices say besides.
use Rattle.std.proofs.Common.{◌≡◌, ℕ, ◌+◌, ◌-◌, ◌*◌, ◌≤◌, List, [], ◌∷◌, ◌++◌, Option, Some, Bool, true, false, sym, ◌∙◌, ap, subst, arith, length, inl, inr}
use Rattle.std.specs.Prelude.{◌==◌, ◌||◌}
use Rattle.std.specs.List.{sum_by}
use Rattle.std.proofs.lemmas.List.{length-append}
use Rattle.std.proofs.lemmas.List.Sums.{sum_by-cons}
use Rattle.bit_lists.specs.Fields.{bit_list}
use Rattle.bit_lists.proofs.BitLemmas.{length-bits_of}
use Rattle.bit_lists.proofs.ByteLemmas.{length-bit_list}
use Rattle.syntax_types.specs.declared.picture.PicCoding.{PicCoding}
use Rattle.syntax_types.specs.declared.picture.Picture.{Picture}
use Rattle.syntax_types.specs.declared.picture.SeqState.{SeqState}
use Rattle.syntax_types.specs.declared.slice.Slice.{Slice}
use Rattle.syntax_types.specs.declared.slice.SliceInfo.{SliceInfo}
use Rattle.stream_constants.specs.declared.start_codes.TheConstants.{FIRST_SLICE, SEQUENCE_END}
use Rattle.picture_grammar.specs.Refusal.Refusal.{BadHeader}
use Rattle.picture_grammar.specs.Element.{uimsbf}
use Rattle.picture_grammar.specs.Exact.{IsExact}
use Rattle.picture_grammar.specs.Grammar.{Grammar, SpellsList, many, more_of, optional}
use Rattle.picture_grammar.specs.Grammar.Next.{more, last}
use Rattle.picture_grammar.specs.Picture.{SpellsPicture, next_slice, picture_unit, slice_or_end, whole_slice}
use Rattle.picture_grammar.specs.Slice.{extra_information, next_macroblock, slice, slice_extension, slice_info}
use Rattle.picture_grammar.specs.StartCode.{only_zero_bytes, start_code, zero_bits}
use Rattle.stream_constants.specs.SliceCodes.{is_slice}
use Rattle.picture_grammar.specs.Written.{written_slice_info}
use Rattle.picture_grammar.proofs.GrammarLaws.{exact-many, exact-optional}
use Rattle.picture_grammar.proofs.HeaderLaws.{exact-next_slice, exact-only_zero_bytes, exact-start_code, exact-zero_bits}
use Rattle.picture_grammar.proofs.MacroblockLaws.{exact-next_macroblock}
use Rattle.version_maker.proofs.Counts.{info-length}
use Rattle.version_laws.proofs.SliceBits.{info_bits}

-- what follows a spelling is no longer than all bits
front-left : {A : Type 0} (grammar : Grammar A) → IsExact grammar → (v : A) (bits rest : List ℕ) → grammar.Spells v bits rest → length rest ≤ length bits
front-left grammar exact v bits rest s =
    let (front, split) = exact.spelled_front v bits rest s in
    omega (arith, ap length split, length-append front rest)

-- ---- the header of a slice

byte-told : (another : Bool) (byte : Option ℕ) (v : ℕ) (bits rest : List ℕ) → (optional another (uimsbf 8 [])).Spells byte bits rest → more v ≡ more_of byte → 8 + length rest ≤ length bits
byte-told true byte v bits rest (value, m, (code, (fits, coded), passing, split), (e, f)) is =
    omega (arith, ap length split, length-append code m, ap length coded, length-bits_of 8 value, ap length f)
byte-told false byte v bits rest (e, f) is = absurd (let clash : more v ≡ last tt = is ∙ ap more_of e in cc)

optional-left : (another : Bool) (byte : Option ℕ) (bits rest : List ℕ) → (optional another (uimsbf 8 [])).Spells byte bits rest → length rest ≤ length bits
optional-left true byte bits rest (value, m, (code, coded, passing, split), (e, f)) = omega (arith, ap length split, length-append code m, ap length f)
optional-left false byte bits rest (e, f) = omega (arith, ap length f)

-- a byte of the information, and the end of it
more-told : (before : List ℕ) (v : ℕ) (bits rest : List ℕ) → (extra_information before).Spells (more v) bits rest → 9 + length rest ≤ length bits
more-told before v bits rest (another, m, (code, coded, passing, split), (byte, m', s, (e, f))) =
    omega (arith, ap length split, length-append code m, ap length coded, byte-told another byte v m m' s e, ap length f)

end-told : (before bits rest : List ℕ) → (extra_information before).Spells (last tt) bits rest → 1 + length rest ≤ length bits
end-told before bits rest (another, m, (code, coded, passing, split), (byte, m', s, (e, f))) =
    omega (arith, ap length split, length-append code m, ap length coded, optional-left another byte m m' s, ap length f)

information-told : (before bytes bits rest : List ℕ) → SpellsList extra_information before bytes tt bits rest → 9 * length bytes + 1 + length rest ≤ length bits
information-told before [] bits rest s = omega (arith, end-told before bits rest s)
information-told before (b ∷ bs) bits rest (middle, s, t) = omega (arith, more-told before b bits middle s, information-told (before ++ b ∷ []) bs middle rest t)

extension-told : (info : SliceInfo) (bits rest : List ℕ) → slice_extension.Spells info bits rest → 9 * length info.bytes + 9 + length rest ≤ length bits
extension-told info bits rest (intra, a, (code, coded, passing, split), (reserved, b, (code', (fits', coded'), passing', split'), (information, d, s, (e, f)))) =
    let bytes : length info.bytes ≡ length information.0 = ap (λ (i : SliceInfo). length i.bytes) e in
    omega (
      arith,
      bytes,
      information-told [] information.0 b d s,
      ap length split,
      length-append code a,
      ap length coded,
      ap length split',
      length-append code' b,
      ap length coded',
      length-bits_of 7 reserved,
      ap length f,
    )

extended-told : (extended : Bool) (info : Option SliceInfo) (bits rest : List ℕ) → (optional extended slice_extension).Spells info bits rest
    → length (written_slice_info info) + length rest ≤ length bits + 1
extended-told true info bits rest (value, m, s, (e, f)) =
    subst (λ (o : Option SliceInfo). length (written_slice_info o) + length rest ≤ length bits + 1) (sym e) (omega (arith, info-length value, extension-told value bits m s, ap length f))
extended-told false info bits rest (e, f) =
    subst (λ (o : Option SliceInfo). length (written_slice_info o) + length rest ≤ length bits + 1) (sym e) (omega (arith, ap length f))

info-told : (info : Option SliceInfo) (bits rest : List ℕ) → slice_info.Spells info bits rest → length (written_slice_info info) + length rest ≤ length bits
info-told info bits rest (extended, m, (code, coded, passing, split), s) = omega (arith, ap length split, length-append code m, ap length coded, extended-told extended info m rest s)

-- ---- slices

-- the start codes behind the first slice
abbrev later_code : ℕ → Bool
later_code byte = is_slice byte || byte == SEQUENCE_END

module _ (seq : SeqState) (coding : PicCoding) where
  slice-told : (row : ℕ) (s : Slice) (bits rest : List ℕ) → (slice seq coding row).Spells s bits rest → info_bits s + length rest ≤ length bits
  unfolding slice
  slice-told row s bits rest (number, m, (code, coded, passing, split), (info, m', t, (ms, m'', u, (e, f)))) =
      let same : info_bits s ≡ length (written_slice_info info) = ap info_bits e in
      let left : length m'' ≤ length m' = front-left (many (next_macroblock seq coding)) (exact-many (next_macroblock seq coding) (exact-next_macroblock seq coding)) ms m' m'' u in
      omega (arith, same, info-told info m m' t, left, ap length f, ap length split, length-append code m)

  whole-told : (byte : ℕ) (s : Slice) (bits rest : List ℕ) → (whole_slice seq coding byte).Spells s bits rest → info_bits s + length rest ≤ length bits
  whole-told byte s bits rest (found, m, t, (padding, m', u, (e, f))) =
      let same : info_bits s ≡ info_bits found = ap info_bits e in
      omega (arith, same, slice-told (byte - FIRST_SLICE) found bits m t, front-left (zero_bits BadHeader) (exact-zero_bits BadHeader) padding m m' u, ap length f)

  one-told : (present : Bool) (byte : ℕ) (found : Option Slice) (s : Slice) (bits rest : List ℕ) → (optional present (whole_slice seq coding byte)).Spells found bits rest
      → more s ≡ slice_or_end found → info_bits s + length rest ≤ length bits
  one-told true byte found s bits rest (v, m, t, (e, f)) is =
      let same : more s ≡ slice_or_end (Some v) = is ∙ ap slice_or_end e in
      let which : s ≡ v = cc in
      omega (arith, ap info_bits which, whole-told byte v bits m t, ap length f)
  one-told false byte found s bits rest (e, f) is = absurd (let clash : more s ≡ last true = is ∙ ap slice_or_end e in cc)

  next-told : (before : List Slice) (s : Slice) (bits rest : List ℕ) → (next_slice seq coding before).Spells (more s) bits rest → info_bits s + length rest ≤ length bits
  next-told [] s bits rest (byte, m1, s1, (found, m2, s2, (e, f))) =
      let same : more s ≡ more found = e in
      let which : s ≡ found = cc in
      omega (arith, ap info_bits which, front-left (start_code BadHeader is_slice) (exact-start_code BadHeader is_slice) byte bits m1 s1, whole-told byte found m1 m2 s2, ap length f)
  next-told (b ∷ bs) s bits rest (inl (closes, (nothing, m1, s1, (e, f)))) = absurd (let clash : more s ≡ last false = e in cc)
  next-told (b ∷ bs) s bits rest (inr (open_unit, (byte, m1, s1, (found, m2, s2, (nothing, m3, s3, (e, f)))))) = omega (
    arith,
    front-left (start_code BadHeader later_code) (exact-start_code BadHeader later_code) byte bits m1 s1,
    one-told (is_slice byte) byte found s m1 m2 s2 e,
    front-left (optional (byte == SEQUENCE_END) only_zero_bytes) (exact-optional (byte == SEQUENCE_END) only_zero_bytes exact-only_zero_bytes) nothing m2 m3 s3,
    ap length f,
  )

  slices-told : (before slices : List Slice) (end : Bool) (bits rest : List ℕ) → SpellsList (next_slice seq coding) before slices end bits rest
      → sum_by info_bits slices + length rest ≤ length bits
  slices-told before [] end bits rest s = omega (arith, front-left (next_slice seq coding before) (exact-next_slice seq coding before) (last end) bits rest s)
  slices-told before (s ∷ ss) end bits rest (middle, t, u) =
      omega (arith, sum_by-cons info_bits s ss, next-told before s bits middle t, slices-told (before ++ s ∷ []) ss end middle rest u)

-- a unit has the bits of its head and of this information
pub unit-told : (before : Option SeqState) (picture : Picture) (unit : List ℕ) → SpellsPicture before picture unit → 8 * length picture.head + sum_by info_bits picture.slices ≤ 8 * length unit
unfolding picture_unit
unit-told before picture unit (headers, m, (s, are_head, split), (slices, m', t, (e, f))) =
    let head : length picture.head ≡ length headers.1 = ap (λ (p : Picture). length p.head) e in
    let infos : sum_by info_bits picture.slices ≡ sum_by info_bits slices.0 = ap (λ (p : Picture). sum_by info_bits p.slices) e in
    omega (
      arith,
      head,
      infos,
      ap length split,
      length-append (bit_list headers.1) m,
      length-bit_list unit,
      length-bit_list headers.1,
      slices-told headers.0.0 headers.0.1 [] slices.0 slices.1 m m' t,
    )
