-- The versions of a picture: that there are some, and no others.
use Rattle.std.proofs.Common.{◌≡◌, ℕ, zero, suc, ◌<◌, ◌≤◌, ◌+◌, ◌-◌, ◌*◌, List, [], ◌∷◌, ◌++◌, length, drop, drop-cons, get_or, add-one, append_assoc, append-nil, slice_index, Option, IfSome, refl, ap, ap₂, subst, sym, ◌∙◌, arith}
use Rattle.std.proofs.lemmas.List.{append_cancel_left, drop_all, length-append}
use Rattle.std.specs.List.{AllZip, slice_get}
use Rattle.bit_lists.specs.Bits.{bits_of}
use Rattle.bit_lists.specs.Fields.{AreBytes, bit_list}
use Rattle.bit_lists.proofs.BitLemmas.{length-bits_of}
use Rattle.bit_lists.proofs.ByteLemmas.{length-bit_list}
use Rattle.bit_lists.proofs.PrefixLemmas.{bit_list-same}
use Rattle.syntax_types.specs.declared.picture.Picture.{Picture}
use Rattle.syntax_types.specs.declared.picture.SeqState.{SeqState}
use Rattle.picture_grammar.specs.Picture.{IsLawful, MayPrecede}
use Rattle.picture_grammar.specs.Written.{IsWritten}
use Rattle.picture_grammar.proofs.HeaderLaws.{exact-picture_unit}
use Rattle.picture_grammar.specs.declared.limits.TheConstants.{VBV_DELAY_BITS}
use Rattle.picture_heads.specs.declared.TheConstants.{NO_DELAY}
use Rattle.picture_heads.specs.Heads.{IsHeadWithoutDelay}
use Rattle.picture_heads.proofs.DelayPlaces.{has-without, one-without}
use Rattle.picture_laws.proofs.WrittenBits.{written-bytes}
use Rattle.picture_reader.specs.Picture.{IsPictureOf}
use Rattle.requantiser.specs.Distortion.{distortion_between}
use Rattle.requantiser.proofs.LawfulVersions.{some-version}
use Rattle.requantiser.proofs.Versions.{lawful-delay, one-version}
use Rattle.version_maker.specs.declared.version.UnitVersion.{UnitVersion}
use Rattle.version_maker.specs.declared.version.VersionSize.{VersionSize}
use Rattle.version_maker.specs.Versions.{AreVersions, AreVersionsOf, IsCoarserVersion, IsSourceVersion, IsVersionAt, size_of}
use Rattle.version_maker.specs.Private.Bytes.{AreBytesAt, AreCoarserBytes, CoarserSoFar, VersionsSoFar}
use Rattle.version_maker.proofs.Units.{head-begins, lawful-unit}

-- ---- no others

same-versions : (a b : UnitVersion) → a.bytes ≡ b.bytes → a.distortion ≡ b.distortion → a ≡ b
same-versions a b bytes distortion =
    ap (λ (n : List ℕ). let x : UnitVersion = record { bytes = n; distortion = a.distortion } in x) bytes
    ∙ ap (λ (n : ℕ). let x : UnitVersion = record { bytes = b.bytes; distortion = n } in x) distortion

pub one-source : (picture : Picture) (unit : List ℕ) (a b : UnitVersion) → IsSourceVersion picture unit a → IsSourceVersion picture unit b → a ≡ b
one-source picture unit a b p q =
    let head : p.head ≡ q.head = one-without picture.head p.head q.head p.without q.without in
    let behind : p.behind ≡ q.behind = append_cancel_left picture.head p.behind q.behind (sym p.source ∙ q.source) in
    same-versions a b (p.bytes ∙ ap₂ (λ (x y : List ℕ). x ++ y) head behind ∙ sym q.bytes) (p.distortion ∙ sym q.distortion)

one-spelling : (made other : Picture) (a b : List ℕ) → made ≡ other → IsWritten made a → IsWritten other b → a ≡ b
one-spelling made other a b same p q =
    let p' : IsWritten other a = subst (λ (m : Picture). IsWritten m a) same p in
    bit_list-same a b p'.0 q.0 (p'.1 ∙ sym q.1)

pub one-coarser : (picture : Picture) (m : ℕ) (a b : UnitVersion) → IsCoarserVersion picture m a → IsCoarserVersion picture m b → a ≡ b
one-coarser picture m a b p q =
    let made : p.made ≡ q.made = one-version m picture p.made q.made p.coarser q.coarser in
    same-versions a b (one-spelling p.made q.made a.bytes b.bytes made p.written q.written) (p.distortion ∙ ap (distortion_between picture) made ∙ sym q.distortion)

one-coarser-list : (picture : Picture) (coarser : List ℕ) (a b : List UnitVersion) → AllZip (IsCoarserVersion picture) coarser a → AllZip (IsCoarserVersion picture) coarser b → a ≡ b
one-coarser-list picture [] [] [] p q = refl
one-coarser-list picture [] (a ∷ xs) b p q = absurd p
one-coarser-list picture [] [] (b ∷ bs) p q = absurd q
one-coarser-list picture (m ∷ ms) [] b p q = absurd p
one-coarser-list picture (m ∷ ms) (a ∷ xs) [] p q = absurd q
one-coarser-list picture (m ∷ ms) (a ∷ xs) (b ∷ bs) p q =
    ap₂ (λ (x : UnitVersion) (xs : List UnitVersion). x ∷ xs) (one-coarser picture m a b p.0 q.0) (one-coarser-list picture ms xs bs p.1 q.1)

one-list-of : (picture : Picture) (unit coarser : List ℕ) (a b : List UnitVersion) → AreVersionsOf picture unit coarser a → AreVersionsOf picture unit coarser b → a ≡ b
one-list-of picture unit coarser a b p q =
    p.in_order
    ∙ ap₂ (λ (x : UnitVersion) (xs : List UnitVersion). x ∷ xs) (one-source picture unit p.first q.first p.source q.source)
    (one-coarser-list picture coarser p.others q.others p.coarser_ones q.coarser_ones)
    ∙ sym q.in_order

-- ---- some

pub coarser-version : (picture : Picture) (m : ℕ) → IsLawful picture → (version : UnitVersion) × IsCoarserVersion picture m version
coarser-version picture m lawful =
    let (made, is) = some-version m picture lawful in
    let (written, spells) = written-bytes made in
    (record { bytes = written; distortion = distortion_between picture made }, record { made = made; coarser = is; written = spells; distortion = refl })

coarser-list : (picture : Picture) (coarser : List ℕ) → IsLawful picture → (versions : List UnitVersion) × AllZip (IsCoarserVersion picture) coarser versions
coarser-list picture [] lawful = ([], tt)
coarser-list picture (m ∷ ms) lawful =
    let (version, is) = coarser-version picture m lawful in
    let (versions, are) = coarser-list picture ms lawful in
    (version ∷ versions, (is, are))

pub source-version : (picture : Picture) (unit behind : List ℕ) → IsLawful picture → unit ≡ picture.head ++ behind → (version : UnitVersion) × IsSourceVersion picture unit version
source-version picture unit behind lawful begins =
    let (front, delay, back, h) = lawful-delay picture lawful in
    let (head, is) = has-without picture.head front delay back h in
    (record { bytes = head ++ behind; distortion = 0 }, record { head = head; behind = behind; without = is; source = begins; bytes = refl; distortion = refl })

pub some-list : (before : Option SeqState) (picture : Picture) (unit coarser : List ℕ) → MayPrecede before → AreBytes unit → IsPictureOf before unit picture
    → (versions : List UnitVersion) × AreVersions before unit coarser versions
some-list before picture unit coarser may are whole =
    let lawful = lawful-unit before picture unit may are whole in
    let (behind, begins) = head-begins before picture unit are whole.spelled in
    let (first, is) = source-version picture unit behind lawful begins in
    let (others, those) = coarser-list picture coarser lawful in
    (first ∷ others, record { picture = picture; whole = whole; of_picture = record { first = first; others = others; in_order = refl; source = is; coarser_ones = those } })

-- ---- one of them by its number

-- the one at a place of the list
coarser-at : (picture : Picture) (coarser : List ℕ) (versions : List UnitVersion) (k : ℕ) (bytes : List ℕ) → AllZip (IsCoarserVersion picture) coarser versions → k < length coarser
    → AreCoarserBytes picture (slice_index coarser k) bytes → IfSome (slice_get versions k) (λ version. version.bytes ≡ bytes)
coarser-at picture [] versions k bytes are within is = absurd (let e : k < 0 = within in omega (arith, e))
coarser-at picture (m ∷ ms) [] k bytes are within is = absurd are
coarser-at picture (m ∷ ms) (v ∷ vs) zero bytes are within is =
    one-spelling are.0.made is.made v.bytes bytes (one-version m picture are.0.made is.made are.0.coarser is.coarser) are.0.written is.written
coarser-at picture (m ∷ ms) (v ∷ vs) (suc k) bytes are within is = coarser-at picture ms vs k bytes are.1 (omega (arith, within)) is

version-at-of : (picture : Picture) (unit coarser : List ℕ) (first : UnitVersion) (others : List UnitVersion) (index : ℕ) (bytes : List ℕ) → IsSourceVersion picture unit first
    → AllZip (IsCoarserVersion picture) coarser others → index ≤ length coarser → AreBytesAt picture unit coarser index bytes
    → IfSome (slice_get (first ∷ others) index) (λ version. version.bytes ≡ bytes)
version-at-of picture unit coarser first others zero bytes source ones within is =
    ap (λ (v : UnitVersion). v.bytes) (one-source picture unit first (record { bytes = bytes; distortion = 0 }) source is)
version-at-of picture unit coarser first others (suc k) bytes source ones within is = coarser-at picture coarser others k bytes ones (omega (arith, within)) is

pub version-at : (before : Option SeqState) (picture : Picture) (unit coarser : List ℕ) (index : ℕ) (bytes : List ℕ) → MayPrecede before → AreBytes unit → IsPictureOf before unit picture
    → index ≤ length coarser → AreBytesAt picture unit coarser index bytes → IsVersionAt before unit coarser index bytes
version-at before picture unit coarser index bytes may are whole within is =
    let lawful = lawful-unit before picture unit may are whole in
    let (behind, begins) = head-begins before picture unit are whole.spelled in
    let (first, source) = source-version picture unit behind lawful begins in
    let (others, ones) = coarser-list picture coarser lawful in
    record {
      versions = first ∷ others;
      are = record { picture = picture; whole = whole; of_picture = record { first = first; others = others; in_order = refl; source = source; coarser_ones = ones } };
      at = version-at-of picture unit coarser first others index bytes source ones within is;
      within = within;
    }

pub one-list : (before : Option SeqState) (unit coarser : List ℕ) (a b : List UnitVersion) → AreVersions before unit coarser a → AreVersions before unit coarser b → a ≡ b
one-list before unit coarser a b p q =
    let same : p.picture ≡ q.picture = ((exact-picture_unit before).one_value p.picture q.picture (bit_list unit) [] [] p.whole.spelled q.whole.spelled).0 in
    one-list-of q.picture unit coarser a b (subst (λ (picture : Picture). AreVersionsOf picture unit coarser a) same p.of_picture) q.of_picture

-- ---- one after the other

module _ (picture : Picture) (coarser : List ℕ) where
  none-so-far : CoarserSoFar picture coarser 0 []
  none-so-far = record { then = λ rest are. are }

  one-more-coarser : (i : ℕ) (made : List UnitVersion) (version : UnitVersion) → i < length coarser → CoarserSoFar picture coarser i made
      → IsCoarserVersion picture (get_or coarser i 0) version → CoarserSoFar picture coarser (i + 1) (made ++ version ∷ [])
  one-more-coarser i made version within so_far is =
      let here : drop i coarser ≡ get_or coarser i 0 ∷ drop (i + 1) coarser = drop-cons coarser i 0 within ∙ ap (λ (k : ℕ). get_or coarser i 0 ∷ drop k coarser) (sym (add-one i)) in
      record {
        then = λ rest are.
            subst (AllZip (IsCoarserVersion picture) coarser) (sym (append_assoc made (version ∷ []) rest))
            (so_far.then (version ∷ rest) (subst (λ (ms : List ℕ). AllZip (IsCoarserVersion picture) ms (version ∷ rest)) (sym here) (is, are)));
      }

  all-coarser : (i : ℕ) (made : List UnitVersion) → length coarser ≤ i → CoarserSoFar picture coarser i made → AllZip (IsCoarserVersion picture) coarser made
  all-coarser i made past so_far =
      subst (AllZip (IsCoarserVersion picture) coarser) (append-nil made) (so_far.then [] (subst (λ (ms : List ℕ). AllZip (IsCoarserVersion picture) ms []) (sym (drop_all i coarser past)) tt))

module _ (picture : Picture) (unit coarser : List ℕ) where
  pub source-so-far : (version : UnitVersion) → IsSourceVersion picture unit version → VersionsSoFar picture unit coarser 0 (version ∷ [])
  source-so-far version is = record { first = version; others = []; in_order = refl; source = is; coarser_ones = none-so-far picture coarser }

  pub one-more-version : (i : ℕ) (made : List UnitVersion) (version : UnitVersion) → i < length coarser → VersionsSoFar picture unit coarser i made
      → IsCoarserVersion picture (get_or coarser i 0) version → VersionsSoFar picture unit coarser (i + 1) (made ++ version ∷ [])
  one-more-version i made version within so_far is = record {
    first = so_far.first;
    others = so_far.others ++ version ∷ [];
    in_order = ap (λ (xs : List UnitVersion). xs ++ version ∷ []) so_far.in_order;
    source = so_far.source;
    coarser_ones = one-more-coarser picture coarser i so_far.others version within so_far.coarser_ones is;
  }

  pub all-versions : (i : ℕ) (made : List UnitVersion) → length coarser ≤ i → VersionsSoFar picture unit coarser i made → AreVersionsOf picture unit coarser made
  all-versions i made past so_far = record {
    first = so_far.first;
    others = so_far.others;
    in_order = so_far.in_order;
    source = so_far.source;
    coarser_ones = all-coarser picture coarser i so_far.others past so_far.coarser_ones;
  }

-- a head without its vbv_delay is as long as before
pub head-length : (from to : List ℕ) → IsHeadWithoutDelay from to → length to ≡ length from
head-length from to h =
    let no = bits_of VBV_DELAY_BITS NO_DELAY in
    let old : 8 * length from ≡ length h.front + length h.delay + length h.back =
    sym (length-bit_list from) ∙ ap length h.source.parts ∙ length-append (h.front ++ h.delay) h.back ∙ ap (λ (n : ℕ). n + length h.back) (length-append h.front h.delay) in
    let new : 8 * length to ≡ length h.front + length no + length h.back =
    sym (length-bit_list to) ∙ ap length h.without ∙ length-append (h.front ++ no) h.back ∙ ap (λ (n : ℕ). n + length h.back) (length-append h.front no) in
    let delay : length h.delay ≡ length no = h.source.delay_bits ∙ sym (length-bits_of VBV_DELAY_BITS NO_DELAY) in
    omega (arith, old, new, delay)

-- version 0 is as long as its unit
pub source-length : (picture : Picture) (unit : List ℕ) (version : UnitVersion) → IsSourceVersion picture unit version → length version.bytes ≡ length unit
source-length picture unit version is =
    let heads : length is.head ≡ length picture.head = head-length picture.head is.head is.without in
    ap length is.bytes ∙ length-append is.head is.behind ∙ ap (λ (n : ℕ). n + length is.behind) heads ∙ sym (length-append picture.head is.behind) ∙ sym (ap length is.source)

-- the bytes at a later place
pub bytes-at-later : (picture : Picture) (unit coarser : List ℕ) (index : ℕ) (bytes : List ℕ) → (index ≡ 0 → ⊥) → AreCoarserBytes picture (slice_index coarser (index - 1)) bytes
    → AreBytesAt picture unit coarser index bytes
bytes-at-later picture unit coarser zero bytes some is = absurd (some refl)
bytes-at-later picture unit coarser (suc k) bytes some is =
    let same : suc k - 1 ≡ k = omega arith in
    subst (λ (n : ℕ). AreCoarserBytes picture (slice_index coarser n) bytes) same is

pub source-size : (picture : Picture) (unit : List ℕ) (version : UnitVersion) → IsSourceVersion picture unit version
    → (let size : VersionSize = record { bytes = length unit; distortion = 0 } in size) ≡ size_of version
source-size picture unit version is =
    ap₂ (λ (b d : ℕ). let size : VersionSize = record { bytes = b; distortion = d } in size) (sym (source-length picture unit version is)) (sym is.distortion)
