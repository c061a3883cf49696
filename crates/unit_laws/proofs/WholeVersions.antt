-- A version of a unit is a whole unit by its own bytes.
use Rattle.std.proofs.Common.{◌≡◌, ◌≢◌, ◌⊎◌, ◌==◌, ◌||◌, ◌+◌, ◌*◌, ◌^◌, ◌<◌, ◌≤◌, ℕ, zero, suc, Bool, true, false, List, [], ◌∷◌, ◌++◌, get_or, length, replicate, take, drop, Option, refl, sym, ap, subst, ◌∙◌, inl, inr, arith, append_assoc, append-nil}
use Rattle.std.proofs.Math.ListN.{get_or-append}
use Rattle.std.proofs.lemmas.Bool.{cases_lt, eqb-true}
use Rattle.std.proofs.lemmas.List.{drop_at, get_or-append-add, length-append, length-replicate, length-take, replicate-append-replicate, take-append-drop}
use Rattle.bit_lists.specs.Bits.{bits_of}
use Rattle.bit_lists.specs.Fields.{AreBytes, bit_list, bits_of_byte}
use Rattle.bit_lists.proofs.BitLemmas.{length-bits_of}
use Rattle.bit_lists.proofs.ByteLemmas.{AreBytes-take, bit_list-append, bit_list-take, length-bit_list, AreBytes-drop}
use Rattle.bit_lists.proofs.JoinedLemmas.{bits_of-byte}
use Rattle.bit_lists.proofs.PrefixLemmas.{bit_list-same, bits_of_byte-same}
use Rattle.syntax_types.specs.declared.picture.PicCoding.{PicCoding}
use Rattle.syntax_types.specs.declared.picture.Picture.{Picture}
use Rattle.syntax_types.specs.declared.picture.SeqState.{SeqState}
use Rattle.syntax_types.specs.declared.slice.Slice.{Slice}
use Rattle.stream_constants.specs.declared.start_codes.TheConstants.{GROUP, PICTURE, SEQUENCE_END, SEQUENCE_HEADER}
use Rattle.es_units.specs.StartCodes.{is_sequence_header, is_unit_start, has_code}
use Rattle.stream_constants.specs.SliceCodes.{is_slice}
use Rattle.layer_laws.specs.WholeUnits.{IsWholeUnit}
use Rattle.picture_grammar.specs.Grammar.{SpellsList}
use Rattle.picture_grammar.specs.StartCode.{start_code_prefix, start_code_bits}
use Rattle.picture_grammar.specs.Picture.{next_slice, picture_unit, IsCoding, SpellsPicture}
use Rattle.picture_laws.proofs.Codings.{coding-of_unit}
use Rattle.picture_laws.proofs.StartCodes.{opened, prefix_bits}
use Rattle.picture_laws.proofs.WrittenPicture.{code_bounds}
use Rattle.picture_heads.specs.Heads.{IsHeadWithoutDelay}
use Rattle.picture_heads.proofs.Bytes.{bits-code, same_parts, byte-at}
use Rattle.unit_laws.proofs.Codes.{Code, CodeOf, code-has, has-code, is-code, not-code, prefix-there}
use Rattle.unit_laws.proofs.HeadCodes.{IsSetHead, kept-code, set-head}
use Rattle.unit_laws.proofs.SliceCodes.{IsOwnCode, OneSlice, PrefixStands, first_slice, is_slice_or_end, list_codes}
use Rattle.unit_laws.proofs.SourceUnits.{IsSourceUnit}

-- ---- a spelled picture's bytes

-- its bytes are the head's and then those of its slices
pub record HasParts (picture : Picture) (bytes : List ℕ) : Type 0 where
  pub behind : List ℕ
  pub split : bytes ≡ picture.head ++ behind
  pub coded : IsCoding picture.coding
  pub spelled : SpellsList (next_slice picture.seq picture.coding) [] picture.slices picture.sequence_end (bit_list behind) []

front-bytes : (head bytes m : List ℕ) → AreBytes head → AreBytes bytes → bit_list bytes ≡ bit_list head ++ m → (bytes ≡ head ++ drop (length head) bytes) × (m ≡ bit_list (drop (length head) bytes))
front-bytes head bytes m are_head are split =
    let k : ℕ = length head in
    let sizes : 8 * length bytes ≡ 8 * k + length m = sym (length-bit_list bytes) ∙ ap length split ∙ length-append (bit_list head) m ∙ ap (λ (n : ℕ). n + length m) (length-bit_list head) in
    let parts : bit_list (take k bytes) ++ bit_list (drop k bytes) ≡ bit_list head ++ m = sym (bit_list-take k bytes) ∙ split in
    let size : length (bit_list (take k bytes)) ≡ length (bit_list head) = length-bit_list (take k bytes) ∙ omega (arith, length-take k bytes, sizes, length-bit_list head) in
    let (front, rest) = same_parts (bit_list (take k bytes)) (bit_list head) (bit_list (drop k bytes)) m size parts in
    let same : take k bytes ≡ head = bit_list-same (take k bytes) head (AreBytes-take k bytes are) are_head front in
    (sym (take-append-drop k bytes) ∙ ap (λ (x : List ℕ). x ++ drop k bytes) same, sym rest)

pub has-parts : (before : Option SeqState) (picture : Picture) (bytes : List ℕ) → AreBytes bytes → SpellsPicture before picture bytes → HasParts picture bytes
unfolding picture_unit
has-parts before picture bytes are spelled =
    let coded = coding-of_unit before picture (bit_list bytes) [] spelled in
    let (headers, m, (hs, are_head, split), (slices, m', t, (e, f))) = spelled in
    let (front, rest) = front-bytes headers.1 bytes m are_head are split in
    let ended : SpellsList (next_slice headers.0.0 headers.0.1) [] slices.0 slices.1 m [] =
    subst (λ (x : List ℕ). SpellsList (next_slice headers.0.0 headers.0.1) [] slices.0 slices.1 m x) f t in
    record {
      behind = drop (length headers.1) bytes;
      split = front ∙ ap (λ (p : Picture). p.head ++ drop (length headers.1) bytes) (sym e);
      coded = coded;
      spelled = subst (λ (p : Picture). SpellsList (next_slice p.seq p.coding) [] p.slices p.sequence_end (bit_list (drop (length headers.1) bytes)) []) (sym e)
          (subst (λ (x : List ℕ). SpellsList (next_slice headers.0.0 headers.0.1) [] slices.0 slices.1 x []) rest ended);
    }

-- ---- what stands behind the head

-- zero bytes and the first slice's start code
pub record OpensSlices (behind : List ℕ) : Type 0 where
  pub place : ℕ
  pub value : ℕ
  pub code : Code behind place value
  pub is : is_slice value ≡ true
  pub zeros : take 2 behind ≡ 0 ∷ 0 ∷ []

pub AreBytes-behind : (front rest : List ℕ) → AreBytes (front ++ rest) → AreBytes rest
AreBytes-behind [] rest are = are
AreBytes-behind (x ∷ front) rest are = AreBytes-behind front rest are.1

two-zeros : bit_list (0 ∷ 0 ∷ []) ≡ replicate 16 0
two-zeros = refl

opens-slices : (seq : SeqState) (coding : PicCoding) (s : Slice) (behind rest : List ℕ) → AreBytes behind → OneSlice seq coding s (bit_list behind) rest → OpensSlices behind
opens-slices seq coding s behind rest_bits are found =
    let n : ℕ = found.zeros in
    let code : List ℕ = start_code_bits found.byte in
    let code_size : length code ≡ 32 = length-append start_code_prefix (bits_of 8 found.byte) ∙ omega (arith, length-bits_of 24 1, length-bits_of 8 found.byte) in
    let zeros_size : length (replicate {A = ℕ} (8 * n) 0) ≡ 8 * n = length-replicate {A = ℕ} (8 * n) 0 in
    let sizes : 8 * length behind ≡ 8 * n + (32 + length found.behind) =
    sym (length-bit_list behind) ∙ ap length found.split ∙ length-append (replicate (8 * n) 0) (code ++ found.behind) ∙ omega (arith, zeros_size, length-append code found.behind, code_size) in
    let parts : bit_list (take n behind) ++ bit_list (drop n behind) ≡ replicate (8 * n) 0 ++ (code ++ found.behind) = sym (bit_list-take n behind) ∙ found.split in
    let size : length (bit_list (take n behind)) ≡ length (replicate {A = ℕ} (8 * n) 0) = length-bit_list (take n behind) ∙ omega (arith, length-take n behind, sizes, zeros_size) in
    let (front, rest) = same_parts (bit_list (take n behind)) (replicate (8 * n) 0) (bit_list (drop n behind)) (code ++ found.behind) size parts in
    let (is, value, lt, left) = bits-code behind [] n found.byte found.behind are found.fits (omega (arith, sizes)) (omega arith) (append-nil (bit_list (drop n behind)) ∙ rest) in
    let stands = is-code behind n is in
    let run : replicate (8 * n) 0 ++ (code ++ found.behind) ≡ replicate 16 0 ++ (replicate (8 * n + 7) 0 ++ 1 ∷ (bits_of 8 found.byte ++ found.behind)) =
    opened (8 * n) found.byte found.behind
    ∙ ap (λ (k : ℕ). replicate k 0 ++ 1 ∷ (bits_of 8 found.byte ++ found.behind)) (let e : 8 * n + 23 ≡ 16 + (8 * n + 7) = omega arith in e)
    ∙ ap (λ (x : List ℕ). x ++ 1 ∷ (bits_of 8 found.byte ++ found.behind)) (sym (replicate-append-replicate 16 (8 * n + 7) 0))
    ∙ append_assoc (replicate 16 0) (replicate (8 * n + 7) 0) (1 ∷ (bits_of 8 found.byte ++ found.behind)) in
    let two : bit_list (take 2 behind) ++ bit_list (drop 2 behind) ≡ replicate 16 0 ++ (replicate (8 * n + 7) 0 ++ 1 ∷ (bits_of 8 found.byte ++ found.behind)) =
    sym (bit_list-take 2 behind) ∙ found.split ∙ run in
    let two_size : length (bit_list (take 2 behind)) ≡ length (replicate {A = ℕ} 16 0) =
    length-bit_list (take 2 behind) ∙ omega (arith, length-take 2 behind, sizes, length-replicate {A = ℕ} 16 0) in
    let (low, later) = same_parts (bit_list (take 2 behind)) (replicate 16 0) (bit_list (drop 2 behind)) _ two_size two in
    record {
      place = n;
      value = found.byte;
      code = record { within = stands.within; first = stands.first; second = stands.second; third = stands.third; last = value };
      is = found.is;
      zeros = bit_list-same (take 2 behind) (0 ∷ 0 ∷ []) (AreBytes-take 2 behind are) (omega arith, (omega arith, tt)) (low ∙ sym two-zeros);
    }

-- ---- codes of joined parts

byte-behind : (head behind : List ℕ) (k i : ℕ) → i ≡ length head + k → get_or (head ++ behind) i 0 ≡ get_or behind k 0
byte-behind head behind k i place = ap (λ (n : ℕ). get_or (head ++ behind) n 0) place ∙ get_or-append-add head behind k 0

code-later : (head behind : List ℕ) (at value : ℕ) → Code behind at value → Code (head ++ behind) (length head + at) value
code-later head behind at value code =
    let within = code.within in
    record {
      within = omega (arith, within, length-append head behind);
      first = byte-behind head behind at (length head + at) refl ∙ code.first;
      second = byte-behind head behind (at + 1) (length head + at + 1) (omega arith) ∙ code.second;
      third = byte-behind head behind (at + 2) (length head + at + 2) (omega arith) ∙ code.third;
      last = byte-behind head behind (at + 3) (length head + at + 3) (omega arith) ∙ code.last;
    }

two-bytes : (behind : List ℕ) → take 2 behind ≡ 0 ∷ 0 ∷ [] → (get_or behind 0 0 ≡ 0) × (get_or behind 1 0 ≡ 0) × (2 ≤ length behind)
two-bytes [] is = absurd (let e : [] ≡ 0 ∷ 0 ∷ [] = is in cc)
two-bytes (a ∷ []) is = absurd (let e : a ∷ [] ≡ 0 ∷ 0 ∷ [] = is in cc)
two-bytes (a ∷ b ∷ rest) is = let e : a ∷ b ∷ [] ≡ 0 ∷ 0 ∷ [] = is in (cc, cc, omega arith)

-- a code that begins in the head is one whatever stands behind it, as long as that begins with two zero bytes
code-seam : (head behind other : List ℕ) (at value : ℕ) → take 2 behind ≡ 0 ∷ 0 ∷ [] → take 2 other ≡ 0 ∷ 0 ∷ [] → at < length head → Code (head ++ behind) at value → Code (head ++ other) at value
code-seam head behind other at value zeros others before code = by_place (cases_lt (at + 1) (length head))
  where
    here : (get_or behind 0 0 ≡ 0) × (get_or behind 1 0 ≡ 0) × (2 ≤ length behind)
    here = two-bytes behind zeros

    there : (get_or other 0 0 ≡ 0) × (get_or other 1 0 ≡ 0) × (2 ≤ length other)
    there = two-bytes other others

    same : (i : ℕ) → i < length head + 2 → get_or (head ++ other) i 0 ≡ get_or (head ++ behind) i 0
    same i lt = elim (cases_lt i (length head)) [
      | inl inside ↦ get_or-append head other 0 i inside ∙ sym (get_or-append head behind 0 i inside)
      | inr past ↦ elim (cases_lt i (length head + 1)) [
        | inl one ↦ byte-behind head other 0 i (omega (arith, past, one)) ∙ there.0 ∙ sym (byte-behind head behind 0 i (omega (arith, past, one)) ∙ here.0)
        | inr two ↦ byte-behind head other 1 i (omega (arith, lt, two)) ∙ there.1 ∙ sym (byte-behind head behind 1 i (omega (arith, lt, two)) ∙ here.1)
      ]
    ]

    by_place : (at + 1 < length head) ⊎ (length head ≤ at + 1) → Code (head ++ other) at value
    by_place (inl early) = record {
      within = omega (arith, early, length-append head other, there.2);
      first = same at (omega (arith, early)) ∙ code.first;
      second = same (at + 1) (omega (arith, early)) ∙ code.second;
      third = same (at + 2) (omega (arith, early)) ∙ code.third;
      last = same (at + 3) (omega (arith, early)) ∙ code.last;
    }
    by_place (inr late) =
        let third : get_or (head ++ behind) (at + 2) 0 ≡ get_or behind 1 0 = byte-behind head behind 1 (at + 2) (omega (arith, before, late)) in
        absurd (omega (arith, third, here.1, code.third))

-- ---- the first place that passes a test

record IsFirst (test : ℕ → Bool) (place : ℕ) : Type 0 where
  is : test place ≡ true
  none : (at : ℕ) → at < place → test at ≡ false

first-below : (test : ℕ → Bool) (n : ℕ) → ((place : ℕ) × (place < n) × IsFirst test place) ⊎ ((at : ℕ) → at < n → test at ≡ false)
first-below test zero = inr (λ at lt. absurd (omega (arith, lt)))
first-below test (suc n) = by_cases (first-below test n)
  where
    by_test : ((at : ℕ) → at < n → test at ≡ false) → (here : Bool) → test n ≡ here
        → ((place : ℕ) × (place < suc n) × IsFirst test place) ⊎ ((at : ℕ) → at < suc n → test at ≡ false)
    by_test none true is = inl (n, omega arith, record { is = is; none = none })
    by_test none false is = inr (λ at lt. elim (cases_lt at n) [
      | inl before ↦ none at before
      | inr last ↦ (let place : at ≡ n = omega (arith, lt, last) in ap test place ∙ is)
    ])

    by_cases : ((place : ℕ) × (place < n) × IsFirst test place) ⊎ ((at : ℕ) → at < n → test at ≡ false)
        → ((place : ℕ) × (place < suc n) × IsFirst test place) ⊎ ((at : ℕ) → at < suc n → test at ≡ false)
    by_cases (inl (place, lt, found)) = inl (place, omega (arith, lt), found)
    by_cases (inr none) = by_test none (test n) refl

first-place : (test : ℕ → Bool) (n : ℕ) → test n ≡ true → (place : ℕ) × (place ≤ n) × IsFirst test place
first-place test n is = by_cases (first-below test (suc n))
  where
    by_cases : ((place : ℕ) × (place < suc n) × IsFirst test place) ⊎ ((at : ℕ) → at < suc n → test at ≡ false) → (place : ℕ) × (place ≤ n) × IsFirst test place
    by_cases (inl (place, lt, found)) = (place, omega (arith, lt), found)
    by_cases (inr none) = absurd (let no : test n ≡ false = none n (omega arith) in let both : true ≡ false = sym is ∙ no in cc)

-- ---- the codes behind the head

or_parts : (a b : Bool) → a || b ≡ true → (a ≡ true) ⊎ (b ≡ true)
or_parts true b is = inl refl
or_parts false b is = inr is

slice_no_start : (value : ℕ) → is_slice_or_end value ≡ true → is_unit_start value ≡ true → ⊥
slice_no_start value is start = by_kinds (or_parts (is_slice value) (value == SEQUENCE_END) is) (or_parts (is_sequence_header value) _ start)
  where
    apart : (1 ≤ value) × (value ≤ 183) × (value ≢ 179) → (value == SEQUENCE_HEADER) ≡ true ⊎ ((value == GROUP) || (value == PICTURE)) ≡ true → ⊥
    apart (low, high, other) (inl sequence) = other (eqb-true value SEQUENCE_HEADER sequence)
    apart (low, high, other) (inr more) = elim (or_parts (value == GROUP) (value == PICTURE) more) [
      | inl group ↦ omega (arith, high, eqb-true value GROUP group)
      | inr picture ↦ omega (arith, low, eqb-true value PICTURE picture)
    ]

    by_kinds : (is_slice value ≡ true) ⊎ ((value == SEQUENCE_END) ≡ true) → (value == SEQUENCE_HEADER) ≡ true ⊎ ((value == GROUP) || (value == PICTURE)) ≡ true → ⊥
    by_kinds (inl slice) starts = let bounds = code_bounds value slice in apart (bounds.0, omega (arith, bounds.1), λ e. omega (arith, e, bounds.1)) starts
    by_kinds (inr end) starts = let e = eqb-true value SEQUENCE_END end in apart (omega (arith, e), omega (arith, e), λ e'. omega (arith, e, e')) starts

own-code : (value : ℕ) (bits : List ℕ) → value < 2 ^ 8 → IsOwnCode (bits_of_byte value ++ bits) → is_slice_or_end value ≡ true
own-code value bits fits own =
    let (front, rest) = same_parts (bits_of_byte value) (bits_of 8 own.byte) bits own.rest (sym (length-bits_of 8 own.byte)) own.split in
    let same : value ≡ own.byte = bits_of_byte-same value own.byte fits own.fits (front ∙ bits_of-byte own.byte) in
    ap is_slice_or_end same ∙ own.is

-- ---- a version

module _ (picture made : Picture) (unit version : List ℕ) (source : IsSourceUnit unit) (u : HasParts picture unit) (v : HasParts made version) (are_unit : AreBytes unit) (are : AreBytes version)
    (w : IsHeadWithoutDelay picture.head made.head) where
  set : IsSetHead picture.head made.head
  set = set-head picture.head made.head w

  size : ℕ
  size = length made.head

  version-size : length version ≡ length made.head + length v.behind
  version-size = ap length v.split ∙ length-append made.head v.behind

  opens : OpensSlices v.behind
  opens =
      let (s, mid, first) = first_slice made.seq made.coding made.slices made.sequence_end (bit_list v.behind) [] v.spelled in
      opens-slices made.seq made.coding s v.behind mid (AreBytes-behind made.head v.behind (subst AreBytes v.split are)) first

  source-opens : OpensSlices u.behind
  source-opens =
      let (s, mid, first) = first_slice picture.seq picture.coding picture.slices picture.sequence_end (bit_list u.behind) [] u.spelled in
      opens-slices picture.seq picture.coding s u.behind mid (AreBytes-behind picture.head u.behind (subst AreBytes u.split are_unit)) first

  -- a code in the version's head is one of the source unit
  code-in-head : (at value : ℕ) → at < length made.head → Code version at value → Code unit at value
  code-in-head at value lt code =
      let joined : Code (made.head ++ v.behind) at value = subst (λ (es : List ℕ). Code es at value) v.split code in
      subst (λ (es : List ℕ). Code es at value) (sym u.split)
      (kept-code picture.head made.head u.behind set at value (code-seam made.head v.behind u.behind at value opens.zeros source-opens.zeros lt joined))

  -- a code behind the head is a slice's, or the sequence end code
  code-behind-head : (at value : ℕ) → length made.head ≤ at → Code version at value → is_slice_or_end value ≡ true
  code-behind-head at value le code =
      let there = prefix-there version (length made.head) at value le code in
      let rest : drop (length made.head) version ≡ v.behind = ap (drop (length made.head)) v.split ∙ drop_at made.head v.behind (length made.head) refl in
      let sizes : length version ≡ length made.head + length v.behind = version-size in
      let fits : value < 2 ^ 8 = subst (λ (n : ℕ). n < 2 ^ 8) code.last (byte-at version (at + 3) are) in
      own-code value (bit_list (drop (at + 4) version)) fits
      (list_codes made.seq made.coding v.coded [] made.slices made.sequence_end (bit_list v.behind) [] _ v.spelled (omega (arith, length-bit_list v.behind))
      (subst (λ (es : List ℕ). PrefixStands (bit_list es) (bits_of_byte value ++ bit_list (drop (at + 4) version))) rest there))

  slice_there : has_code is_slice version (length made.head + opens.place) ≡ true
  slice_there =
      let code : Code version (length made.head + opens.place) opens.value =
      subst (λ (es : List ℕ). Code es (length made.head + opens.place) opens.value) (sym v.split) (code-later made.head v.behind opens.place opens.value opens.code) in
      code-has is_slice version (length made.head + opens.place) opens.value code opens.is

  -- the same code at the first byte
  pub begins-alike : (test : ℕ → Bool) → (3 < length unit → CodeOf test unit 0) → has_code test version 0 ≡ true
  begins-alike test begins =
      let room = set.room in
      let same_size = set.same_length in
      let unit_size : length unit ≡ length picture.head + length u.behind = ap length u.split ∙ length-append picture.head u.behind in
      let found : CodeOf test unit 0 = begins (omega (arith, unit_size, room)) in
      let code = found.code in
      let same : (i : ℕ) → i < 4 → get_or version i 0 ≡ get_or unit i 0 = λ i lt.
      ap (λ (es : List ℕ). get_or es i 0) v.split ∙ get_or-append made.head v.behind 0 i (omega (arith, lt, room, same_size))
      ∙ set.same i (λ e. omega (arith, lt, e)) (λ e. omega (arith, lt, e)) (λ e. omega (arith, lt, e))
      ∙ sym (ap (λ (es : List ℕ). get_or es i 0) u.split ∙ get_or-append picture.head u.behind 0 i (omega (arith, lt, room))) in
      code-has test version 0 found.value (record {
        within = omega (arith, version-size, same_size, room);
        first = same 0 (omega arith) ∙ code.first;
        second = same 1 (omega arith) ∙ code.second;
        third = same 2 (omega arith) ∙ code.third;
        last = same 3 (omega arith) ∙ code.last;
      }) found.passes

  no-end : (front : List ℕ) → version ≢ front ++ 0x00 ∷ 0x00 ∷ 0x01 ∷ []
  no-end front e =
      let within = (let code = opens.code in code.within) in
      let k : ℕ = length made.head in
      let sizes : length version ≡ length front + 3 = ap length e ∙ length-append front (0x00 ∷ 0x00 ∷ 0x01 ∷ []) in
      let cut : List ℕ = drop k front in
      let parts : v.behind ≡ cut ++ 0x00 ∷ 0x00 ∷ 0x01 ∷ [] =
      sym (drop_at made.head v.behind k refl) ∙ ap (drop k) (sym v.split ∙ e ∙ ap (λ (x : List ℕ). x ++ 0x00 ∷ 0x00 ∷ 0x01 ∷ []) (sym (take-append-drop k front)))
      ∙ ap (drop k) (append_assoc (take k front) cut (0x00 ∷ 0x00 ∷ 0x01 ∷ []))
      ∙ drop_at (take k front) (cut ++ 0x00 ∷ 0x00 ∷ 0x01 ∷ []) k (length-take k front ∙ omega (arith, within, version-size, sizes)) in
      let own = list_codes made.seq made.coding v.coded [] made.slices made.sequence_end (bit_list v.behind) [] [] v.spelled (omega (arith, length-bit_list v.behind)) (record {
        front = bit_list cut;
        split = ap bit_list parts ∙ bit_list-append cut (0x00 ∷ 0x00 ∷ 0x01 ∷ []) ∙ ap (λ (x : List ℕ). bit_list cut ++ x) (prefix_bits ∙ sym (append-nil start_code_prefix));
        whole = omega (arith, length-bit_list cut);
      }) in
      omega (arith, ap length own.split, length-append (bits_of 8 own.byte) own.rest, length-bits_of 8 own.byte)

  pub whole-version : IsWholeUnit version
  whole-version =
      let (place, le, first) = first-place (has_code is_slice version) (length made.head + opens.place) slice_there in
      record {
        begins = begins-alike is_unit_start source.begins;
        slice = place;
        slice_is = first.is;
        first_slice = first.none;
        no_header = λ at lt. not-code is_unit_start version at (λ found. elim (cases_lt at (length made.head)) [
          | inl inside ↦
              let slice = has-code is_slice version place first.is in
              source.apart place at lt (record { value = slice.value; code = code-in-head place slice.value (omega (arith, lt, inside)) slice.code; passes = slice.passes })
              (record { value = found.value; code = code-in-head at found.value inside found.code; passes = found.passes })
          | inr behind ↦ slice_no_start found.value (code-behind-head at found.value behind found.code) found.passes
        ]);
        no_prefix = no-end;
      }
