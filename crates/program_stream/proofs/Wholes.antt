-- An element by its bytes.
use Rattle.std.proofs.Common.{◌≡◌, ℕ, zero, suc, ◌+◌, ◌%◌, ◌*◌, ◌<◌, ◌≤◌, ◌==◌, Bool, true, false, not, cond, ◌&&◌, List, [], ◌∷◌, ◌++◌, length, replicate, take, drop, get_or, Some, None, append_assoc, refl, sym, ap, ◌∙◌, subst, arith}
use Rattle.std.proofs.lemmas.List.{get_or-take, length-take, take-append-drop}
use Rattle.pes_units.specs.PesHeader.{pes_packet_length}
use Rattle.pes_units.proofs.Elements.{pes_packet_length-is}
use Rattle.program_stream.specs.declared.split_fault.SplitFault.{SplitFault}
use Rattle.program_stream.specs.declared.split_fault.SplitFault.TheVariants.{BadStart, BadPack, BadLength}
use Rattle.program_stream.specs.Elements.{Element, element_bytes, element_spelling, pack_stuffing_length, has_pack_marks, is_video_or_audio, element_length, IsWholeElement, element_refusal, IsEnd, prefix_alone, cut_element, IsRefusedAt, no_element, bad_element}
use Rattle.program_stream.specs.Private.Fronts.{BeginsWith}
use Rattle.program_stream.proofs.Fields.{pack_stuffing_length-is}

-- the element that bytes are behind so many zero bytes, where they begin with a prefix
abbrev pub element_of : ℕ → List ℕ → Element
element_of zeros bytes = record { zeros = zeros; id = get_or bytes 3 0; body = drop 4 bytes }

pub has_bytes : (zeros : ℕ) (bytes more : List ℕ) → bytes ≡ 0 ∷ 0 ∷ 1 ∷ more → 4 ≤ length bytes → bytes ≡ element_bytes (element_of zeros bytes)
has_bytes count bytes [] is long = absurd (omega (arith, ap length is))
has_bytes count bytes (id ∷ more) is long = is ∙ ap element_bytes (sym (ap (element_of count) is))

pub is_spelled : (zeros : ℕ) (bytes more : List ℕ) → bytes ≡ 0 ∷ 0 ∷ 1 ∷ more → 4 ≤ length bytes → replicate zeros 0 ++ bytes ≡ element_spelling (element_of zeros bytes)
is_spelled zeros bytes more is long = ap (λ (xs : List ℕ). replicate zeros 0 ++ xs) (has_bytes zeros bytes more is long)

-- ---- its length

by_id : (is_end is_pack : Bool) (stuffing stated n : ℕ) → n ≡ cond is_end 4 (cond is_pack (14 + stuffing) (6 + stated)) → 4 ≤ n
by_id true is_pack stuffing stated n is = omega arith
by_id false true stuffing stated n is = omega arith
by_id false false stuffing stated n is = omega arith

pub four_bytes : (element : Element) (n : ℕ) → n ≡ element_length element → 4 ≤ n
four_bytes element n is = by_id (element.id == 0xB9) (element.id == 0xBA) (pack_stuffing_length (element_bytes element)) (pes_packet_length (element_bytes element)) n is

pub stuffing_kept : (bytes : List ℕ) (n : ℕ) → 14 ≤ n → pack_stuffing_length (take n bytes) ≡ pack_stuffing_length bytes
stuffing_kept bytes n long = pack_stuffing_length-is (take n bytes) ∙ ap (λ (b : ℕ). b % 8) (get_or-take n bytes 13 0 (omega arith)) ∙ sym (pack_stuffing_length-is bytes)

pub stated_kept : (bytes : List ℕ) (n : ℕ) → 6 ≤ n → pes_packet_length (take n bytes) ≡ pes_packet_length bytes
stated_kept bytes n long =
    pes_packet_length-is (take n bytes) ∙ ap (λ (b : ℕ). b % 256 * 256 + get_or (take n bytes) 5 0 % 256) (get_or-take n bytes 4 0 (omega arith))
    ∙ ap (λ (b : ℕ). get_or bytes 4 0 % 256 * 256 + b % 256) (get_or-take n bytes 5 0 (omega arith)) ∙ sym (pes_packet_length-is bytes)

length_kept : (is_end is_pack : Bool) (bytes : List ℕ) (n : ℕ) → n ≡ cond is_end 4 (cond is_pack (14 + pack_stuffing_length bytes) (6 + pes_packet_length bytes)) →
    cond is_end 4 (cond is_pack (14 + pack_stuffing_length (take n bytes)) (6 + pes_packet_length (take n bytes))) ≡ n
length_kept true is_pack bytes n is = sym is
length_kept false true bytes n is = ap (λ (k : ℕ). 14 + k) (stuffing_kept bytes n (omega arith)) ∙ sym is
length_kept false false bytes n is = ap (λ (k : ℕ). 6 + k) (stated_kept bytes n (omega arith)) ∙ sym is

-- ---- the front of bytes that is an element

pub front_prefix : (bytes more : List ℕ) (n : ℕ) → bytes ≡ 0 ∷ 0 ∷ 1 ∷ more → 4 ≤ n → (rest : List ℕ) × (take n bytes ≡ 0 ∷ 0 ∷ 1 ∷ rest)
front_prefix bytes more zero is long = absurd (omega arith)
front_prefix bytes more (suc zero) is long = absurd (omega arith)
front_prefix bytes more (suc (suc zero)) is long = absurd (omega arith)
front_prefix bytes more (suc (suc (suc n))) is long = (take n more, ap (take (suc (suc (suc n)))) is)

front_long : (bytes : List ℕ) (n : ℕ) → n ≤ length bytes → length (take n bytes) ≡ n
front_long bytes n within = omega (arith, length-take n bytes)

pub front_bytes : (zeros : ℕ) (bytes more : List ℕ) (n : ℕ) → bytes ≡ 0 ∷ 0 ∷ 1 ∷ more → 4 ≤ n → n ≤ length bytes → take n bytes ≡ element_bytes (element_of zeros (take n bytes))
front_bytes zeros bytes more n is long within =
    let front = front_prefix bytes more n is long in
    has_bytes zeros (take n bytes) front.0 front.1 (omega (arith, front_long bytes n within))

same_id : (bytes : List ℕ) (n : ℕ) → 4 ≤ n → get_or (take n bytes) 3 0 ≡ get_or bytes 3 0
same_id bytes n long = get_or-take n bytes 3 0 (omega arith)

pub front_whole : (zeros : ℕ) (bytes more : List ℕ) (n : ℕ) → bytes ≡ 0 ∷ 0 ∷ 1 ∷ more → 4 ≤ length bytes → n ≡ element_length (element_of zeros bytes) → n ≤ length bytes → 0xB9 ≤ get_or bytes 3 0 →
    IsWholeElement (element_of zeros (take n bytes))
front_whole zeros bytes more n is long len within some =
    let four : 4 ≤ n = four_bytes (element_of zeros bytes) n len in
    let id = get_or bytes 3 0 in
    let whole_bytes : n ≡ cond (id == 0xB9) 4 (cond (id == 0xBA) (14 + pack_stuffing_length bytes) (6 + pes_packet_length bytes)) =
    len ∙ ap (λ (xs : List ℕ). cond (id == 0xB9) 4 (cond (id == 0xBA) (14 + pack_stuffing_length xs) (6 + pes_packet_length xs))) (sym (has_bytes zeros bytes more is long)) in
    let kept : cond (id == 0xB9) 4 (cond (id == 0xBA) (14 + pack_stuffing_length (take n bytes)) (6 + pes_packet_length (take n bytes))) ≡ n = length_kept (id == 0xB9) (id == 0xBA) bytes n whole_bytes in
    let front = front_bytes zeros bytes more n is four within in
    record {
      some_id = subst (λ (k : ℕ). 0xB9 ≤ k) (sym (same_id bytes n four)) some;
      all_bytes = ap length (sym front) ∙ front_long bytes n within ∙ sym kept
          ∙ ap (λ (xs : List ℕ). cond (id == 0xB9) 4 (cond (id == 0xBA) (14 + pack_stuffing_length xs) (6 + pes_packet_length xs))) front
          ∙ ap (λ (k : ℕ). cond (k == 0xB9) 4 (cond (k == 0xBA) (14 + pack_stuffing_length (element_bytes (element_of zeros (take n bytes)))) (6 + pes_packet_length (element_bytes (element_of zeros (take n bytes))))))
          (sym (same_id bytes n four));
    }

pub front_and_rest : (zeros : ℕ) (bytes more : List ℕ) (n : ℕ) → bytes ≡ 0 ∷ 0 ∷ 1 ∷ more → 4 ≤ n → n ≤ length bytes →
    replicate zeros 0 ++ bytes ≡ element_spelling (element_of zeros (take n bytes)) ++ drop n bytes
front_and_rest zeros bytes more n is long within =
    ap (λ (xs : List ℕ). replicate zeros 0 ++ xs) (sym (take-append-drop n bytes)) ∙ sym (append_assoc (replicate zeros 0) (take n bytes) (drop n bytes))
    ∙ ap (λ (xs : List ℕ). (replicate zeros 0 ++ xs) ++ drop n bytes) (front_bytes zeros bytes more n is long within)

-- ---- what comes of it

-- no byte stands behind the prefix
pub prefix_cut : (zeros : ℕ) (bytes more : List ℕ) → bytes ≡ 0 ∷ 0 ∷ 1 ∷ more → length bytes < 4 → IsEnd (replicate zeros 0 ++ bytes) 1
prefix_cut count bytes [] is few = prefix_alone count (ap (λ (xs : List ℕ). replicate count 0 ++ xs) is) refl
prefix_cut count bytes (id ∷ more) is few = absurd (omega (arith, ap length is))

pub low_id : (zeros at before : ℕ) (bytes more : List ℕ) → bytes ≡ 0 ∷ 0 ∷ 1 ∷ more → 4 ≤ length bytes → get_or bytes 3 0 < 0xB9 → at ≡ before + zeros →
    IsRefusedAt before (replicate zeros 0 ++ bytes) (BadStart at)
low_id zeros at before bytes more is long low place = no_element (element_of zeros bytes) (is_spelled zeros bytes more is long) low (ap BadStart place)

pub cut_there : (zeros n : ℕ) (bytes more : List ℕ) → bytes ≡ 0 ∷ 0 ∷ 1 ∷ more → 4 ≤ length bytes → 0xB9 ≤ get_or bytes 3 0 → n ≡ element_length (element_of zeros bytes) → length bytes < n →
    IsEnd (replicate zeros 0 ++ bytes) 1
cut_there zeros n bytes more is long some len few = cut_element (element_of zeros bytes) (is_spelled zeros bytes more is long)
    (record { some_id = some; few_bytes = omega (arith, ap length (has_bytes zeros bytes more is long), len, few) }) refl

pub refused_there : (zeros at before n : ℕ) (bytes more : List ℕ) (fault : SplitFault) → bytes ≡ 0 ∷ 0 ∷ 1 ∷ more → 4 ≤ length bytes → 0xB9 ≤ get_or bytes 3 0 →
    n ≡ element_length (element_of zeros bytes) → n ≤ length bytes → at ≡ before + zeros → element_refusal at (element_of zeros (take n bytes)) ≡ Some fault →
    IsRefusedAt before (replicate zeros 0 ++ bytes) fault
refused_there zeros at before n bytes more fault is long some len within place refused =
    bad_element (element_of zeros (take n bytes)) (drop n bytes) (front_and_rest zeros bytes more n is (four_bytes (element_of zeros bytes) n len) within) (front_whole zeros bytes more n is long len within some)
    (ap (λ (k : ℕ). element_refusal k (element_of zeros (take n bytes))) (sym place) ∙ refused)

-- that an element is refused does not rest on its place
no_refusal_anywhere : (at : ℕ) (element : Element) → element_refusal at element ≡ None → (other : ℕ) → element_refusal other element ≡ None
no_refusal_anywhere at element none other =
    by_tests ((element.id == 0xBA) && not (has_pack_marks (element_bytes element))) (is_video_or_audio element.id && (pes_packet_length (element_bytes element) == 0)) none
  where
    by_tests : (bad_pack bad_length : Bool) → cond bad_pack (Some (BadPack at)) (cond bad_length (Some (BadLength at)) None) ≡ None →
        cond bad_pack (Some (BadPack other)) (cond bad_length (Some (BadLength other)) None) ≡ None
    by_tests true bad_length none = absurd cc
    by_tests false true none = absurd cc
    by_tests false false none = refl

pub whole_there : (zeros at n : ℕ) (bytes more : List ℕ) → bytes ≡ 0 ∷ 0 ∷ 1 ∷ more → 4 ≤ length bytes → 0xB9 ≤ get_or bytes 3 0 →
    n ≡ element_length (element_of zeros bytes) → n ≤ length bytes → element_refusal at (element_of zeros (take n bytes)) ≡ None →
    BeginsWith (replicate zeros 0 ++ bytes) zeros n
whole_there zeros at n bytes more is long some len within none =
    let four : 4 ≤ n = four_bytes (element_of zeros bytes) n len in
    record {
      element = element_of zeros (take n bytes);
      more = drop n bytes;
      rest_is = front_and_rest zeros bytes more n is four within;
      sound = record { whole = front_whole zeros bytes more n is long len within some; no_refusal = no_refusal_anywhere at (element_of zeros (take n bytes)) none };
      zeros_are = refl;
      len_is = sym (ap length (sym (front_bytes zeros bytes more n is four within)) ∙ front_long bytes n within);
    }
