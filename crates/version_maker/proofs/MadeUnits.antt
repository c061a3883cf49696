-- Units of a version, written slice by slice.
use Rattle.std.proofs.Common.{◌≡◌, ℕ, ◌≤◌, Option, Ok, Err, Result, MatchResult, List, [], ◌∷◌, ◌++◌, Bool, refl, sym, ◌∙◌, ap, ap₂, subst, arith, length, take, drop, slice_index, ◌-◌, append_assoc, append-nil}
use Rattle.std.specs.List.{AllZip, flat_map}
use Rattle.std.proofs.lemmas.Grind.{flat_map-append}
use Rattle.std.proofs.lemmas.List.{length-append, length-drop}
use Rattle.shelf_io.specs.Sink.{Told, with_bytes}
use Rattle.shelf_io.specs.Sink.Told.{Bytes}
use Rattle.shelf_io.proofs.Written.{with_bytes-twice}
use Rattle.bit_lists.specs.Fields.{AreBytes, bit_list}
use Rattle.bit_lists.proofs.ByteLemmas.{AreBytes-append, AreBytes-take, bit_list-append, bit_list-take, length-bit_list}
use Rattle.bit_cursor.specs.BitWriter.{AddsBits}
use Rattle.syntax_types.specs.declared.picture.PicCoding.{PicCoding}
use Rattle.syntax_types.specs.declared.picture.Picture.{Picture}
use Rattle.syntax_types.specs.declared.picture.SeqState.{SeqState}
use Rattle.syntax_types.specs.declared.slice.Slice.{Slice}
use Rattle.picture_grammar.specs.Head.{head}
use Rattle.picture_grammar.specs.Picture.{MayPrecede, SpellsPicture, picture_unit}
use Rattle.picture_grammar.specs.Written.{written_picture}
use Rattle.picture_grammar.proofs.HeaderLaws.{exact-head}
use Rattle.picture_heads.specs.declared.TheConstants.{NO_DELAY}
use Rattle.picture_heads.specs.Heads.{HasDelay, IsHeadWithoutDelay}
use Rattle.picture_heads.proofs.ReadHeads.{head-has}
use Rattle.macroblock_writer.specs.Private.WholeSlices.{written_whole_slice}
use Rattle.picture_writer.specs.WrittenPicture.{written_end}
use Rattle.video_headers.specs.declared.head.Headers.{Headers}
use Rattle.picture_reader.specs.declared.cursor.UnitCursor.{UnitCursor}
use Rattle.picture_reader.specs.Picture.{IsPictureOf}
use Rattle.picture_reader.specs.UnitCursor.{HeadStands, StandsBehindSlices, bits_from, picture_of}
use Rattle.picture_reader.proofs.Slices.{drop-front}
use Rattle.requantiser.specs.Slices.{IsCoarserSlice}
use Rattle.requantiser.proofs.Versions.{lawful-delay}
use Rattle.version_maker.specs.declared.slice_version.SliceMade.{SliceMade}
use Rattle.version_maker.specs.Versions.{IsVersionAt}
use Rattle.version_maker.specs.Private.Bytes.{AreBytesAt, AreCoarserBytes, AreCoarserBytesOf, AreSourceBytes, AreSourceBytesOf, IsHeadOf}
use Rattle.version_maker.specs.Private.Making.{IsMadeSlice, IsMadeSoFar, IsMadeVersion}
use Rattle.version_maker.proofs.Lists.{bytes-at-later, version-at}
use Rattle.version_maker.proofs.SizedSlices.{all-zip-more}
use Rattle.version_maker.proofs.Units.{head-begins, lawful-unit}
use Rattle.version_maker.proofs.UnitSizes.{all-written}

-- ---- the head

pub head-delay : (before : Option SeqState) (unit : List ℕ) (headers : Headers) → AreBytes unit → HeadStands before unit headers
    → (front : List ℕ) × (delay : List ℕ) × (back : List ℕ) × HasDelay (take headers.slices_at unit) front delay back
head-delay before unit headers are stands =
    let start : ℕ = headers.slices_at in
    let rest : List ℕ = bits_from unit start in
    let spelled : (head before).Spells (headers.seq, headers.coding) (bit_list (take start unit) ++ rest) rest =
    subst (λ (bits : List ℕ). (head before).Spells (headers.seq, headers.coding) bits rest) (bit_list-take start unit) stands.spelled in
    head-has before headers.seq headers.coding (take start unit) rest (spelled, AreBytes-take start unit are, refl) (omega (arith, length-bit_list (drop start unit)))

take-front : (front rest : List ℕ) → take (length front) (front ++ rest) ≡ front
take-front [] rest = refl
take-front (x ∷ front) rest = ap (λ (xs : List ℕ). x ∷ xs) (take-front front rest)

pub head-taken : (picture : Picture) (unit : List ℕ) (size : ℕ) (is : IsHeadOf picture unit size) → (take size unit ≡ picture.head) × (drop size unit ≡ is.behind)
head-taken picture unit size is = (
  ap₂ (λ (n : ℕ) (xs : List ℕ). take n xs) (sym is.len) is.begins ∙ take-front picture.head is.behind,
  ap₂ (λ (n : ℕ) (xs : List ℕ). drop n xs) (sym is.len) is.begins ∙ drop-front picture.head is.behind,
)

-- the head of a picture that the unit spells
pub head-is : (before : Option SeqState) (picture : Picture) (unit : List ℕ) (size : ℕ) → MayPrecede before → AreBytes unit → IsPictureOf before unit picture → length picture.head ≡ size
    → IsHeadOf picture unit size
head-is before picture unit size may are whole len =
    let (behind, begins) = head-begins before picture unit are whole.spelled in
    record { lawful = lawful-unit before picture unit may are whole; len = len; behind = behind; begins = begins }

pub source-delay : (picture : Picture) (unit : List ℕ) (size : ℕ) → IsHeadOf picture unit size
    → (front : List ℕ) × (delay : List ℕ) × (back : List ℕ) × HasDelay (take size unit) front delay back
source-delay picture unit size is =
    let (front, delay, back, h) = lawful-delay picture is.lawful in
    (front, delay, back, subst (λ (x : List ℕ). HasDelay x front delay back) (sym (head-taken picture unit size is).0) h)

pub source-bytes : (picture : Picture) (unit head : List ℕ) (size : ℕ) → IsHeadOf picture unit size → IsHeadWithoutDelay (take size unit) head → AreSourceBytes picture unit (head ++ drop size unit)
source-bytes picture unit head size is without =
    let taken = head-taken picture unit size is in
    record {
      head = head;
      behind = is.behind;
      without = subst (λ (x : List ℕ). IsHeadWithoutDelay x head) taken.0 without;
      source = is.begins;
      bytes = ap (λ (xs : List ℕ). head ++ xs) taken.1;
      distortion = refl;
    }

pub source-of : (before : Option SeqState) (picture : Picture) (unit head bytes : List ℕ) (size : ℕ) → MayPrecede before → AreBytes unit → IsPictureOf before unit picture
    → length picture.head ≡ size → IsHeadWithoutDelay (take size unit) head → bytes ≡ head ++ drop size unit → AreSourceBytesOf before unit bytes
source-of before picture unit head bytes size may are whole len without is = record {
  picture = picture;
  whole = whole;
  are = subst (AreSourceBytes picture unit) (sym is) (source-bytes picture unit head size (head-is before picture unit size may are whole len) without);
}

-- the head that was read of a unit is the one of the picture that the unit spells
head-size : (before : Option SeqState) (picture : Picture) (unit : List ℕ) (headers : Headers) → SpellsPicture before picture unit → HeadStands before unit headers
    → length picture.head ≡ headers.slices_at
unfolding picture_unit
head-size before picture unit headers (spelled, m, (s, are_head, split), (slices, m', t, (e, f))) stands =
    let start : ℕ = headers.slices_at in
    let same : m ≡ bits_from unit start = ((exact-head before).one_value spelled.0 (headers.seq, headers.coding) (bit_list unit) m (bits_from unit start) s stands.spelled).1 in
    let own : length picture.head ≡ length spelled.1 = ap (λ (p : Picture). length p.head) e in
    omega (
      arith,
      own,
      ap length split,
      length-append (bit_list spelled.1) m,
      ap length same,
      length-bit_list unit,
      length-bit_list spelled.1,
      length-bit_list (drop start unit),
      length-drop start unit,
      stands.within,
    )

-- ---- one slice after another

adds-then : (told mid after : Told) (first then : List ℕ) → AddsBits told mid first → AddsBits mid after then → AddsBits told after (first ++ then)
adds-then told mid after first then a b = record {
  bytes = a.bytes ++ b.bytes;
  are_bytes = AreBytes-append a.bytes b.bytes a.are_bytes b.are_bytes;
  at_the_end = b.at_the_end ∙ ap (λ (t : Told). with_bytes t b.bytes) a.at_the_end ∙ with_bytes-twice told a.bytes b.bytes;
  spelled = bit_list-append a.bytes b.bytes ∙ ap₂ (λ (xs ys : List ℕ). xs ++ ys) a.spelled b.spelled;
}

pub none-made : (before : Option SeqState) (unit head : List ℕ) (m : ℕ) (cursor : UnitCursor) (told now : Told) → StandsBehindSlices before unit [] cursor
    → IsHeadWithoutDelay (take cursor.headers.slices_at unit) head → now ≡ with_bytes told head → IsMadeSoFar before unit m cursor told now
none-made before unit head m cursor told now stands without written = record {
  slices = [];
  tos = [];
  stands = stands;
  coarser = tt;
  head = head;
  without = without;
  adds = record { bytes = head; are_bytes = without.bytes; at_the_end = written; spelled = sym (append-nil (bit_list head)) };
}

pub one-more-made : (before : Option SeqState) (unit : List ℕ) (m row : ℕ) (bits : List ℕ) (cursor past : UnitCursor) (made : SliceMade) (told mid after : Told)
    (was : IsMadeSoFar before unit m cursor told mid) (is : IsMadeSlice cursor.headers.seq cursor.headers.coding m row made bits mid after)
    → StandsBehindSlices before unit (was.slices ++ is.found ∷ []) past → past.headers ≡ cursor.headers → IsMadeSoFar before unit m past told after
one-more-made before unit m row bits cursor past made told mid after was is stands headers =
    let written : Slice → List ℕ = written_whole_slice cursor.headers.coding in
    let front : List ℕ = bit_list was.head in
    let all : flat_map written (was.tos ++ is.to ∷ []) ≡ flat_map written was.tos ++ written is.to =
    flat_map-append written was.tos (is.to ∷ []) ∙ ap (λ (xs : List ℕ). flat_map written was.tos ++ xs) (append-nil (written is.to)) in
    let bits_are : (front ++ flat_map written was.tos) ++ written is.to ≡ front ++ flat_map written (was.tos ++ is.to ∷ []) =
    append_assoc front (flat_map written was.tos) (written is.to) ∙ ap (λ (xs : List ℕ). front ++ xs) (sym all) in
    record {
      slices = was.slices ++ is.found ∷ [];
      tos = was.tos ++ is.to ∷ [];
      stands = stands;
      coarser = subst (λ (h : Headers). AllZip (IsCoarserSlice h.seq h.coding m) (was.slices ++ is.found ∷ []) (was.tos ++ is.to ∷ [])) (sym headers)
          (all-zip-more (IsCoarserSlice cursor.headers.seq cursor.headers.coding m) was.slices was.tos is.found is.to was.coarser is.coarser);
      head = was.head;
      without = subst (λ (h : Headers). IsHeadWithoutDelay (take h.slices_at unit) was.head) (sym headers) was.without;
      adds = subst (λ (h : Headers). AddsBits told after (front ++ flat_map (written_whole_slice h.coding) (was.tos ++ is.to ∷ []))) (sym headers)
          (subst (AddsBits told after) bits_are (adds-then told mid after (front ++ flat_map written was.tos) (written is.to) was.adds is.adds));
    }

written-parts : (seq : SeqState) (coding : PicCoding) (head : List ℕ) (tos : List Slice) (sequence_end : Bool)
    → (bit_list head ++ flat_map (written_whole_slice coding) tos) ++ written_end sequence_end
    ≡ written_picture (record { seq = seq; coding = record coding { vbv_delay = NO_DELAY }; head = head; slices = tos; sequence_end = sequence_end })
unfolding written_picture
written-parts seq coding head tos sequence_end = ap (λ (xs : List ℕ). (bit_list head ++ xs) ++ written_end sequence_end) (sym (all-written coding tos))

-- the whole version
pub all-made : (before : Option SeqState) (unit : List ℕ) (m : ℕ) (cursor : UnitCursor) (sequence_end : Bool) (told mid after : Told) (was : IsMadeSoFar before unit m cursor told mid)
    → IsPictureOf before unit (picture_of cursor.headers (take cursor.headers.slices_at unit) was.slices sequence_end) → AddsBits mid after (written_end sequence_end)
    → IsMadeVersion before unit m told after
all-made before unit m cursor sequence_end told mid after was whole adds =
    let seq : SeqState = cursor.headers.seq in
    let coding : PicCoding = cursor.headers.coding in
    record {
      picture = picture_of cursor.headers (take cursor.headers.slices_at unit) was.slices sequence_end;
      whole = whole;
      made = record { seq = seq; coding = record coding { vbv_delay = NO_DELAY }; head = was.head; slices = was.tos; sequence_end = sequence_end };
      coarser = record { seq = refl; coding = refl; head = was.without; slices = was.coarser; sequence_end = refl };
      adds = subst (AddsBits told after) (written-parts seq coding was.head was.tos sequence_end)
          (adds-then told mid after (bit_list was.head ++ flat_map (written_whole_slice coding) was.tos) (written_end sequence_end) was.adds adds);
    }

-- the bytes of a sink that held none before
pub made-bytes : (before : Option SeqState) (unit : List ℕ) (m : ℕ) (bytes : List ℕ) → IsMadeVersion before unit m (Bytes []) (Bytes bytes) → AreCoarserBytesOf before unit m bytes
made-bytes before unit m bytes is =
    let same : bytes ≡ is.adds.bytes = (let e : Bytes bytes ≡ Bytes is.adds.bytes = is.adds.at_the_end in cc) in
    record {
      picture = is.picture;
      whole = is.whole;
      are = record {
        made = is.made;
        coarser = is.coarser;
        written = (subst AreBytes (sym same) is.adds.are_bytes, ap bit_list same ∙ is.adds.spelled);
      };
    }

-- ---- one of all versions

pub first-version : (before : Option SeqState) (unit coarser : List ℕ) (index : ℕ) (bytes : List ℕ) → MayPrecede before → AreBytes unit → index ≡ 0 → AreSourceBytesOf before unit bytes
    → IsVersionAt before unit coarser index bytes
first-version before unit coarser index bytes may are zero is =
    version-at before is.picture unit coarser index bytes may are is.whole (omega (arith, zero)) (subst (λ (n : ℕ). AreBytesAt is.picture unit coarser n bytes) (sym zero) is.are)

-- version 0 of a unit that is known to spell a picture, by its head alone
pub known-version : (before : Option SeqState) (picture : Picture) (unit head bytes : List ℕ) (headers : Headers) → MayPrecede before → AreBytes unit → IsPictureOf before unit picture
    → HeadStands before unit headers → IsHeadWithoutDelay (take headers.slices_at unit) head → bytes ≡ head ++ drop headers.slices_at unit
    → (coarser : List ℕ) → IsVersionAt before unit coarser 0 bytes
known-version before picture unit head bytes headers may are whole stands without is coarser =
    first-version before unit coarser 0 bytes may are refl
    (source-of before picture unit head bytes headers.slices_at may are whole (head-size before picture unit headers whole.spelled stands) without is)

pub later-version : (before : Option SeqState) (unit coarser : List ℕ) (index m : ℕ) (bytes : List ℕ) → MayPrecede before → AreBytes unit → (index ≡ 0 → ⊥) → index ≤ length coarser
    → m ≡ slice_index coarser (index - 1) → AreCoarserBytesOf before unit m bytes → IsVersionAt before unit coarser index bytes
later-version before unit coarser index m bytes may are some within is_m is =
    version-at before is.picture unit coarser index bytes may are is.whole within
    (bytes-at-later is.picture unit coarser index bytes some (subst (λ (n : ℕ). AreCoarserBytes is.picture n bytes) is_m is.are))

pub match-weaker : {T E : Type 0} (P Q : T → Type 0) (F : E → Type 0) (r : Result T E) → ((x : T) → P x → Q x) → MatchResult r P F → MatchResult r Q F
match-weaker P Q F (Ok x) weaker is = weaker x is
match-weaker P Q F (Err e) weaker is = is
