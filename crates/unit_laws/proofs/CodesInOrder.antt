-- Behind the head of a spelled unit the start codes are those of its slices in order, and the sequence end code.
use Rattle.std.proofs.Common.{◌≡◌, ◌+◌, ◌-◌, ◌*◌, ◌/◌, ◌%◌, ◌^◌, ◌<◌, ◌≤◌, ℕ, nat_eq, Bool, true, false, List, [], ◌∷◌, ◌++◌, filter, get_or, length, map, replicate, take, drop, if◌then◌else◌, refl, sym, ap, ap₂, subst, ◌∙◌, inl, inr, arith, append_assoc, append-nil}
use Rattle.std.proofs.lemmas.Bool.{and_parts, cases_lt, eqb-true}
use Rattle.std.proofs.lemmas.List.{drop_at, drop-drop, drop_more, get_or_past, length-append, length-drop, length-replicate, length-take}
use Rattle.bit_lists.specs.Bits.{bits_of}
use Rattle.bit_lists.specs.Fields.{AreBytes, bit_list}
use Rattle.bit_lists.proofs.BitLemmas.{length-bits_of}
use Rattle.bit_lists.proofs.ByteLemmas.{bit_list-append, bit_list-take, length-bit_list}
use Rattle.syntax_types.specs.declared.picture.PicCoding.{PicCoding}
use Rattle.syntax_types.specs.declared.picture.Picture.{Picture}
use Rattle.syntax_types.specs.declared.picture.SeqState.{SeqState}
use Rattle.syntax_types.specs.declared.slice.Slice.{Slice}
use Rattle.stream_constants.specs.declared.start_codes.TheConstants.{FIRST_SLICE, SEQUENCE_END}
use Rattle.es_units.specs.Units.{places}
use Rattle.es_units.proofs.Places.{filter_at, filter_from, filter_none}
use Rattle.picture_grammar.specs.Grammar.{SpellsList}
use Rattle.picture_grammar.specs.StartCode.{start_code_prefix, start_code_bits}
use Rattle.picture_grammar.specs.Picture.{next_slice, IsCoding}
use Rattle.picture_heads.proofs.Bytes.{bits-code, same_parts}
use Rattle.unit_laws.specs.OwnCodes.{begins_code, codes_from, own_codes}
use Rattle.unit_laws.proofs.Codes.{is-code}
use Rattle.unit_laws.proofs.SliceCodes.{AtEnd, PrefixStands, at_end, no_prefix, one_code, one_slice, slice_ends, slice_prefix, only_zeros, end_code}
use Rattle.unit_laws.proofs.WholeVersions.{HasParts}
use Rattle.picture_laws.proofs.StartCodes.{prefix_bits}

-- ---- three bytes

inside-item : (es : List ℕ) (at : ℕ) → get_or es at 0 ≡ 1 → at < length es
inside-item es at is = elim (cases_lt at (length es)) [
  | inl lt ↦ lt
  | inr past ↦ absurd (omega (arith, is, get_or_past es at 0 past))
]

inside-code : (es : List ℕ) (at : ℕ) → begins_code es at ≡ true → at + 2 < length es
inside-code es at is =
    let tests = and_parts (nat_eq (get_or es at 0) 0) _ is in
    let more = and_parts (nat_eq (get_or es (at + 1) 0) 0) (nat_eq (get_or es (at + 2) 0) 1) tests.1 in
    inside-item es (at + 2) (eqb-true _ 1 more.1)

-- three bytes at a place, as a prefix in the bits from an earlier place on
prefix-at : (es : List ℕ) (from at : ℕ) → from ≤ at → begins_code es at ≡ true → (at + 2 < length es) × PrefixStands (bit_list (drop from es)) (bit_list (drop (at + 3) es))
prefix-at es from at le is =
    let tests = and_parts (nat_eq (get_or es at 0) 0) _ is in
    let more = and_parts (nat_eq (get_or es (at + 1) 0) 0) (nat_eq (get_or es (at + 2) 0) 1) tests.1 in
    let within : at + 2 < length es = inside-code es at is in
    let three : drop at es ≡ 0 ∷ 0 ∷ 1 ∷ drop (at + 3) es =
    drop_more es at 0 (omega (arith, within))
    ∙ ap₂ (λ (x : ℕ) (xs : List ℕ). x ∷ xs) (eqb-true _ 0 tests.0) (drop_more es (at + 1) 0 (omega (arith, within))
    ∙ ap₂ (λ (x : ℕ) (xs : List ℕ). x ∷ xs) (eqb-true _ 0 more.0)
    (ap (λ (k : ℕ). drop k es) (omega arith) ∙ drop_more es (at + 2) 0 within ∙ ap₂ (λ (x : ℕ) (xs : List ℕ). x ∷ xs) (eqb-true _ 1 more.1) (ap (λ (k : ℕ). drop k es) (omega arith)))) in
    let bits : bit_list (drop at es) ≡ start_code_prefix ++ bit_list (drop (at + 3) es) =
    ap bit_list three ∙ bit_list-append (0 ∷ 0 ∷ 1 ∷ []) (drop (at + 3) es) ∙ ap (λ (x : List ℕ). x ++ bit_list (drop (at + 3) es)) prefix_bits in
    let k : ℕ = at - from in
    let back : from + k ≡ at = omega (arith, le) in (
      within,
      record {
        front = bit_list (take k (drop from es));
        split = bit_list-take k (drop from es) ∙ ap (λ (x : List ℕ). bit_list (take k (drop from es)) ++ bit_list x) (drop-drop k from es ∙ ap (λ (n : ℕ). drop n es) back)
            ∙ ap (λ (x : List ℕ). bit_list (take k (drop from es)) ++ x) bits;
        whole = omega (arith, length-bit_list (take k (drop from es)));
      },
    )

-- ---- one start code

-- a start code behind zero bytes, among bytes from a place on
record CodeThere (es : List ℕ) (from zeros byte : ℕ) (behind : List ℕ) : Type 0 where
  begins : begins_code es (from + zeros) ≡ true
  value : get_or es (from + zeros + 3) 0 ≡ byte
  sizes : 8 * length es ≡ 8 * from + 8 * zeros + 32 + length behind

code-there : (es : List ℕ) (from zeros byte : ℕ) (behind : List ℕ) → AreBytes es → from ≤ length es → byte < 2 ^ 8
    → bit_list (drop from es) ≡ replicate (8 * zeros) 0 ++ (start_code_bits byte ++ behind) → CodeThere es from zeros byte behind
code-there es from zeros byte behind are le fits split =
    let code_size : length (start_code_bits byte) ≡ 32 = length-append start_code_prefix (bits_of 8 byte) ∙ omega (arith, length-bits_of 24 1, length-bits_of 8 byte) in
    let zeros_size : length (replicate {A = ℕ} (8 * zeros) 0) ≡ 8 * zeros = length-replicate {A = ℕ} (8 * zeros) 0 in
    let left : length (bit_list (drop from es)) ≡ 8 * (length es - from) = length-bit_list (drop from es) ∙ ap (λ (n : ℕ). 8 * n) (length-drop from es) in
    let right : length (bit_list (drop from es)) ≡ 8 * zeros + (32 + length behind) =
    ap length split ∙ length-append (replicate (8 * zeros) 0) (start_code_bits byte ++ behind) ∙ omega (arith, zeros_size, code_size, length-append (start_code_bits byte) behind) in
    let sizes : 8 * length es ≡ 8 * from + 8 * zeros + 32 + length behind = omega (arith, left, right, le) in
    let parts : bit_list (take zeros (drop from es)) ++ bit_list (drop zeros (drop from es)) ≡ replicate (8 * zeros) 0 ++ (start_code_bits byte ++ behind) =
    sym (bit_list-take zeros (drop from es)) ∙ split in
    let size : length (bit_list (take zeros (drop from es))) ≡ length (replicate {A = ℕ} (8 * zeros) 0) =
    length-bit_list (take zeros (drop from es)) ∙ omega (arith, length-take zeros (drop from es), length-drop from es, sizes, zeros_size) in
    let (front, rest) = same_parts (bit_list (take zeros (drop from es))) (replicate (8 * zeros) 0) (bit_list (drop zeros (drop from es))) (start_code_bits byte ++ behind) size parts in
    let there : bit_list (drop (from + zeros) es) ++ [] ≡ start_code_bits byte ++ behind =
    append-nil (bit_list (drop (from + zeros) es)) ∙ ap bit_list (sym (drop-drop zeros from es)) ∙ rest in
    let (is, value, lt, after) = bits-code es [] (from + zeros) byte behind are fits (omega (arith, sizes)) (omega arith) there in
    let code = is-code es (from + zeros) is in
    record {
      begins = rw (code.first, code.second, code.third) refl;
      value = value;
      sizes = sizes;
    }

-- behind it the bits of the last bytes
rest-there : (es : List ℕ) (from : ℕ) (front rest : List ℕ) → from ≤ length es → bit_list (drop from es) ≡ front ++ rest → length rest % 8 ≡ 0
    → (place : ℕ) × (from ≤ place) × (place ≤ length es) × (8 * place + length rest ≡ 8 * length es) × (rest ≡ bit_list (drop place es))
rest-there es from front rest le split whole =
    let left : length (bit_list (drop from es)) ≡ 8 * (length es - from) = length-bit_list (drop from es) ∙ ap (λ (n : ℕ). 8 * n) (length-drop from es) in
    let right : length (bit_list (drop from es)) ≡ length front + length rest = ap length split ∙ length-append front rest in
    let j : ℕ = length rest / 8 in
    let eights : length rest ≡ 8 * j = omega (arith, whole) in
    let k : ℕ = length es - from - j in
    let parts : bit_list (take k (drop from es)) ++ bit_list (drop k (drop from es)) ≡ front ++ rest = sym (bit_list-take k (drop from es)) ∙ split in
    let size : length (bit_list (take k (drop from es))) ≡ length front =
    length-bit_list (take k (drop from es)) ∙ omega (arith, length-take k (drop from es), length-drop from es, left, right, eights) in
    let (same, last) = same_parts (bit_list (take k (drop from es))) front (bit_list (drop k (drop from es))) rest size parts in
    (from + k, omega arith, omega (arith, le), omega (arith, le, left, right, eights), sym last ∙ ap bit_list (drop-drop k from es))

not_begun : (es : List ℕ) (at : ℕ) → (begins_code es at ≡ true → ⊥) → begins_code es at ≡ false
not_begun es at none = by_test (begins_code es at) refl
  where
    by_test : (is : Bool) → begins_code es at ≡ is → begins_code es at ≡ false
    by_test true is = absurd (none is)
    by_test false is = is

-- ---- all of them

abbrev end_codes : Bool → List ℕ
end_codes end = if end then SEQUENCE_END ∷ [] else []

module _ (seq : SeqState) (coding : PicCoding) (coded : IsCoding coding) (es : List ℕ) (are : AreBytes es) where
  -- a code at one place, and no other one before a later place
  one_place : (from at to : ℕ) → from ≤ at → at < to → to ≤ length es → begins_code es at ≡ true → ((k : ℕ) → from ≤ k → k < to → begins_code es k ≡ true → k ≡ at)
      → codes_from es from ≡ get_or es (at + 3) 0 ∷ codes_from es to
  one_place from at to low lt within is only =
      let before = filter_at (begins_code es) from at (length es) low (omega (arith, lt, within))
      (λ k begun upto. not_begun es k (λ begins. omega (arith, upto, only k begun (omega (arith, upto, lt)) begins))) is in
      let behind = filter_from (begins_code es) (at + 1) to (length es) (omega (arith, lt)) within
      (λ k begun upto. not_begun es k (λ begins. omega (arith, begun, only k (omega (arith, begun, low)) upto begins))) in
      ap (map (λ (k : ℕ). get_or es (k + 3) 0)) (before ∙ ap (λ (xs : List ℕ). at ∷ xs) behind)

  end_in_order : (end : Bool) (from : ℕ) → from ≤ length es → AtEnd end (bit_list (drop from es)) → codes_from es from ≡ end_codes end
  end_in_order end from le (only_zeros none zeros) =
      let found : filter (begins_code es) (places from (length es)) ≡ [] =
      filter_none (begins_code es) from (length es) le (λ at low. not_begun es at (λ is.
      no_prefix (length (bit_list (drop from es))) (bit_list (drop from es)) (bit_list (drop (at + 3) es)) zeros (prefix-at es from at low is).1)) in
      ap (map (λ (at : ℕ). get_or es (at + 3) 0)) found ∙ sym (ap end_codes none)
  end_in_order end from le (end_code n filling is split) =
      let there = code-there es from n SEQUENCE_END (replicate (8 * filling) 0) are le (omega arith) split in
      let sizes = there.sizes in
      let only : (at : ℕ) → from ≤ at → at < length es → begins_code es at ≡ true → at ≡ from + n = λ at low upto begins. (
      let (within, stands) = prefix-at es from at low begins in
      let after : List ℕ = bit_list (drop (at + 3) es) in
      elim (one_code n SEQUENCE_END (bit_list (drop from es)) (replicate (8 * filling) 0) after (omega arith) (omega arith) split stands) [
        | inl own ↦ omega (
          arith,
          within,
          sizes,
          ap length own,
          length-append (bits_of 8 SEQUENCE_END) (replicate (8 * filling) 0),
          length-bits_of 8 SEQUENCE_END,
          length-bit_list (drop (at + 3) es),
          length-drop (at + 3) es,
        )
        | inr later ↦ absurd (no_prefix (8 * filling) (replicate (8 * filling) 0) after refl later)
      ]) in
      let none : codes_from es (length es) ≡ [] =
      ap (map (λ (k : ℕ). get_or es (k + 3) 0)) (filter_none (begins_code es) (length es) (length es) (omega arith) (λ k low. not_begun es k (λ begins.
      omega (arith, low, inside-code es k begins)))) in
      one_place from (from + n) (length es) (omega arith) (omega (arith, sizes)) (omega arith) there.begins only
      ∙ ap₂ (λ (x : ℕ) (xs : List ℕ). x ∷ xs) there.value none ∙ sym (ap end_codes is)

  in_order : (before slices : List Slice) (end : Bool) (from : ℕ) (rest : List ℕ) → from ≤ length es → SpellsList (next_slice seq coding) before slices end (bit_list (drop from es)) rest
      → codes_from es from ≡ map (λ (s : Slice). s.row + FIRST_SLICE) slices ++ end_codes end
  in_order before [] end from rest le t = end_in_order end from le (at_end seq coding before end (bit_list (drop from es)) rest t)
  in_order before (s ∷ ss) end from rest le (mid, t, u) =
      let is = one_slice seq coding before s (bit_list (drop from es)) mid t in
      let there = code-there es from is.zeros is.byte is.behind are le is.fits is.split in
      let (whole, (front, ends)) = slice_ends seq coding s (bit_list (drop from es)) mid is in
      let opening : List ℕ = replicate (8 * is.zeros) 0 ++ (start_code_bits is.byte ++ front) in
      let split : bit_list (drop from es) ≡ opening ++ mid = is.split ∙ ap (λ (x : List ℕ). replicate (8 * is.zeros) 0 ++ (start_code_bits is.byte ++ x)) ends
      ∙ joined (replicate (8 * is.zeros) 0) (start_code_bits is.byte) front mid in
      let (to, low, high, sizes, later) = rest-there es from opening mid le split whole in
      let behind : length is.behind ≡ length front + length mid = ap length ends ∙ length-append front mid in
      let only : (k : ℕ) → from ≤ k → k < to → begins_code es k ≡ true → k ≡ from + is.zeros = λ k begun upto begins. (
      let (within, stands) = prefix-at es from k begun begins in
      let after : List ℕ = bit_list (drop (k + 3) es) in
      let after_size : length after ≡ 8 * (length es - (k + 3)) = length-bit_list (drop (k + 3) es) ∙ ap (λ (n : ℕ). 8 * n) (length-drop (k + 3) es) in
      elim (slice_prefix seq coding s (bit_list (drop from es)) mid after coded is (omega (arith, length-bit_list (drop from es))) stands) [
        | inl own ↦ omega (arith, within, there.sizes, after_size, ap length own, length-append (bits_of 8 is.byte) is.behind, length-bits_of 8 is.byte)
        | inr last ↦ absurd (let found : length mid ≡ length last.front + (24 + length after) =
            ap length last.split ∙ length-append last.front (start_code_prefix ++ after) ∙ omega (arith, length-append start_code_prefix after, length-bits_of 24 1) in
            omega (arith, within, after_size, found, sizes, upto))
      ]) in
      one_place from (from + is.zeros) to (omega arith) (omega (arith, there.sizes, behind, sizes)) high there.begins only
      ∙ ap₂ (λ (x : ℕ) (xs : List ℕ). x ∷ xs) (there.value ∙ is.row)
      (in_order (before ++ s ∷ []) ss end to rest high (subst (λ (x : List ℕ). SpellsList (next_slice seq coding) (before ++ s ∷ []) ss end x rest) later u))
    where
      joined : (a b c d : List ℕ) → a ++ (b ++ (c ++ d)) ≡ (a ++ (b ++ c)) ++ d
      joined a b c d = simp append_assoc

-- behind a spelled unit's head its own codes stand, and no others
pub codes-in-order : (picture : Picture) (bytes : List ℕ) → AreBytes bytes → HasParts picture bytes → codes_from bytes (length picture.head) ≡ own_codes picture
codes-in-order picture bytes are parts =
    let size : length bytes ≡ length picture.head + length parts.behind = ap length parts.split ∙ length-append picture.head parts.behind in
    let behind : drop (length picture.head) bytes ≡ parts.behind = ap (drop (length picture.head)) parts.split ∙ drop_at picture.head parts.behind (length picture.head) refl in
    in_order picture.seq picture.coding parts.coded bytes are [] picture.slices picture.sequence_end (length picture.head) [] (omega (arith, size))
    (subst (λ (es : List ℕ). SpellsList (next_slice picture.seq picture.coding) [] picture.slices picture.sequence_end (bit_list es) []) (sym behind) parts.spelled)
