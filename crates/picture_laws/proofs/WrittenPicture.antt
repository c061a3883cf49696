-- What is written of a picture is read as that picture.
use Rattle.std.proofs.Common.{
  ◌≡◌,
  ◌⊎◌,
  ◌==◌,
  ◌||◌,
  ◌+◌,
  ◌-◌,
  ◌%◌,
  ◌<◌,
  ◌≤◌,
  ℕ,
  zero,
  suc,
  nat_le,
  nat_eq,
  List,
  [],
  ◌∷◌,
  ◌++◌,
  length,
  replicate,
  Option,
  Some,
  None,
  Bool,
  true,
  false,
  if◌then◌else◌,
  refl,
  sym,
  ap,
  ap₂,
  subst,
  ◌∙◌,
  inl,
  inr,
  arith,
  append_assoc,
  append-nil,
}
use Rattle.std.specs.List.{flat_map, AllByRecursion}
use Rattle.std.proofs.Math.Pow.{pow_pos}
use Rattle.std.proofs.lemmas.Bool.{and_parts, cases_Bool, leb-true, eqb-true}
use Rattle.std.proofs.lemmas.List.{length-append, length-replicate, append_cancel_right}
use Rattle.bit_lists.specs.Bits.{IsPrefix, bits_of}
use Rattle.bit_lists.specs.Fields.{bit_list}
use Rattle.bit_lists.proofs.BitLemmas.{length-bits_of}
use Rattle.bit_lists.proofs.JoinedLemmas.{bits_of-zero}
use Rattle.bit_lists.proofs.ByteLemmas.{length-bit_list}
use Rattle.syntax_types.specs.declared.picture.PicCoding.{PicCoding}
use Rattle.syntax_types.specs.declared.picture.Picture.{Picture}
use Rattle.syntax_types.specs.declared.picture.SeqState.{SeqState}
use Rattle.syntax_types.specs.declared.slice.Slice.{Slice}
use Rattle.stream_constants.specs.declared.start_codes.TheConstants.{SEQUENCE_END}
use Rattle.picture_grammar.specs.Refusal.Refusal.{BadHeader}
use Rattle.picture_grammar.specs.Grammar.{optional, SpellsList}
use Rattle.picture_grammar.specs.Grammar.Next.{more, last}
use Rattle.picture_grammar.specs.StartCode.{start_code_prefix, start_code_bits, zero_bits, only_zero_bytes}
use Rattle.stream_constants.specs.SliceCodes.{is_slice}
use Rattle.picture_grammar.specs.Slice.{ClosesSlice, slice}
use Rattle.picture_grammar.specs.Head.{head}
use Rattle.picture_grammar.specs.Picture.{whole_slice, slice_or_end, next_slice, picture_unit, SpellsPicture}
use Rattle.picture_grammar.specs.Written.{written_slice, to_whole_bytes, written_picture, IsWritten}
use Rattle.picture_laws.specs.Spellable.{HasSpellableMacroblocks, HasSpellableSlices}
use Rattle.picture_laws.proofs.Tested.{zeros-begin}
use Rattle.picture_laws.proofs.StartCodes.{zeros_before, opened, opened-zeros, code-taken, code-made}
use Rattle.picture_laws.proofs.Tails.{IsNewTail}
use Rattle.picture_laws.proofs.SteadyHead.{head-moved}
use Rattle.picture_laws.proofs.WrittenSlice.{slice-written, macroblocks-of_slice}
use Rattle.picture_laws.proofs.ShortSlices.{zeros_before-all}

-- ---- what follows a slice

-- nothing, or a start code, in whole bytes
record Follows (bits : List ℕ) : Type 0 where
  whole : length bits % 8 ≡ 0
  none_or_code : (bits ≡ []) ⊎ ((byte : ℕ) × (rest : List ℕ) × (bits ≡ start_code_bits byte ++ rest))

pub length-start_code : (byte : ℕ) → length (start_code_bits byte) ≡ 32
length-start_code byte = length-append start_code_prefix (bits_of 8 byte) ∙ ap₂ (λ (a b : ℕ). a + b) (length-bits_of 24 1) (length-bits_of 8 byte)

closes : (n : ℕ) (bits : List ℕ) → Follows bits → ClosesSlice (replicate n 0 ++ bits)
closes n bits follows = elim follows.none_or_code [
  | inl none ↦
      let all : replicate n 0 ++ bits ≡ replicate n 0 = ap (λ (b : List ℕ). replicate n 0 ++ b) none ∙ append-nil (replicate n 0) in
      inr (all ∙ ap (λ (k : ℕ). replicate {A = ℕ} k 0) (sym (ap length all ∙ length-replicate {A = ℕ} n 0)))
  | inr (byte, rest, e) ↦
      inl (subst (IsPrefix (replicate 23 0)) (sym (ap (λ (b : List ℕ). replicate n 0 ++ b) e ∙ opened n byte rest)) (zeros-begin 23 (n + 23) (1 ∷ (bits_of 8 byte ++ rest)) (omega arith)))
]

-- zero bits to a whole byte
bits_to_byte : (n : ℕ) (bits : List ℕ) → n < 8 → Follows bits → (zero_bits BadHeader).Spells 0 (replicate n 0 ++ bits) bits
bits_to_byte n bits lt follows =
    let whole = follows.whole in
    let count : length (replicate n 0 ++ bits) % 8 ≡ n = omega (arith, length-append (replicate n 0) bits, length-replicate {A = ℕ} n 0) in
    (replicate n 0, (pow_pos (length (replicate n 0 ++ bits) % 8), sym (bits_of-zero n) ∙ ap (λ (k : ℕ). bits_of k 0) (sym count)), refl, refl)

no_zeros : (byte : ℕ) (rest : List ℕ) → start_code_bits byte ++ rest ≡ replicate (length (start_code_bits byte ++ rest)) 0 → ⊥
no_zeros byte rest e = omega (
  arith,
  opened-zeros 0 byte rest,
  ap zeros_before e
      ∙ zeros_before-all (length (start_code_bits byte ++ rest)),
  length-append (start_code_bits byte) rest,
  length-start_code byte,
)

-- the start code of a slice
pub code_bounds : (byte : ℕ) → is_slice byte ≡ true → (1 ≤ byte) × (byte ≤ 175)
code_bounds byte is =
    let parts = and_parts (nat_le 1 byte) (nat_le byte 175) is in
    (leb-true 1 byte parts.0, leb-true byte 175 parts.1)

pub code_other : (byte : ℕ) → is_slice byte ≡ true → (byte == SEQUENCE_END) ≡ false
code_other byte is = elim (cases_Bool (nat_eq byte SEQUENCE_END)) [
  | inl same ↦ absurd (let bounds = code_bounds byte is in let e = eqb-true byte SEQUENCE_END same in omega arith)
  | inr other ↦ other
]

module _ (seq : SeqState) (coding : PicCoding) where
  abbrev IsSpellableSlice : Slice → Type 0
  IsSpellableSlice s = HasSpellableMacroblocks seq coding s × (is_slice (s.row + 1) ≡ true)

  -- ---- slices as they are written

  abbrev written_whole : Slice → List ℕ
  written_whole s = to_whole_bytes (start_code_bits (s.row + 1) ++ written_slice coding s)

  abbrev end_code : Bool → List ℕ
  end_code sequence_end = if sequence_end then start_code_bits SEQUENCE_END else []

  abbrev fill : Slice → ℕ
  fill s = (8 - length (start_code_bits (s.row + 1) ++ written_slice coding s) % 8) % 8

  split_whole : (s : Slice) (rest : List ℕ) → written_whole s ++ rest ≡ start_code_bits (s.row + 1) ++ (written_slice coding s ++ (replicate (fill s) 0 ++ rest))
  split_whole s rest = append_assoc (start_code_bits (s.row + 1) ++ written_slice coding s) (replicate (fill s) 0) rest
      ∙ append_assoc (start_code_bits (s.row + 1)) (written_slice coding s) (replicate (fill s) 0 ++ rest)

  whole_length : (s : Slice) → length (written_whole s) % 8 ≡ 0
  whole_length s = omega (arith, length-append (start_code_bits (s.row + 1) ++ written_slice coding s) (replicate (fill s) 0), length-replicate {A = ℕ} (fill s) 0)

  follows : (slices : List Slice) (sequence_end : Bool) → Follows (flat_map written_whole slices ++ end_code sequence_end)
  follows [] true = record { whole = omega (arith, length-start_code SEQUENCE_END); none_or_code = inr (SEQUENCE_END, [], sym (append-nil (start_code_bits SEQUENCE_END))) }
  follows [] false = record { whole = refl; none_or_code = inl refl }
  follows (s ∷ ss) sequence_end =
      let rest = flat_map written_whole ss ++ end_code sequence_end in
      let split : flat_map written_whole (s ∷ ss) ++ end_code sequence_end ≡ written_whole s ++ rest = append_assoc (written_whole s) (flat_map written_whole ss) (end_code sequence_end) in
      let later = (follows ss sequence_end).whole in
      record {
        whole = omega (arith, ap length split, length-append (written_whole s) rest, whole_length s, later);
        none_or_code = inr (s.row + 1, written_slice coding s ++ (replicate (fill s) 0 ++ rest), split ∙ split_whole s rest);
      }

  whole_made : (s : Slice) (rest : List ℕ) → IsSpellableSlice s → Follows rest → (whole_slice seq coding (s.row + 1)).Spells s (written_slice coding s ++ (replicate (fill s) 0 ++ rest)) rest
  whole_made s rest (has, is) follows =
      let row : s.row ≡ s.row + 1 - 1 = omega arith in (
        s,
        replicate (fill s) 0 ++ rest,
        subst (λ (r : ℕ). (slice seq coding r).Spells s (written_slice coding s ++ (replicate (fill s) 0 ++ rest)) (replicate (fill s) 0 ++ rest)) row
            (slice-written seq coding s (replicate (fill s) 0 ++ rest) has (closes (fill s) rest follows)),
        (0, rest, bits_to_byte (fill s) rest (omega arith) follows, (refl, refl)),
      )

  one_made : (before : List Slice) (s : Slice) (rest : List ℕ) → IsSpellableSlice s → Follows rest → (next_slice seq coding before).Spells (more s) (written_whole s ++ rest) rest
  one_made [] s rest has follows =
      let later = written_slice coding s ++ (replicate (fill s) 0 ++ rest) in
      subst (λ (b : List ℕ). (next_slice seq coding []).Spells (more s) b rest) (sym (split_whole s rest))
      (s.row + 1, later, code-made BadHeader is_slice (s.row + 1) 0 later (let b = code_bounds (s.row + 1) has.1 in omega arith) has.1, (s, rest, whole_made s rest has follows, (refl, refl)))
  one_made (b ∷ bs) s rest has follows =
      let later = written_slice coding s ++ (replicate (fill s) 0 ++ rest) in
      let code = code-made BadHeader (λ byte. is_slice byte || byte == SEQUENCE_END) (s.row + 1) 0 later
      (let b = code_bounds (s.row + 1) has.1 in omega arith) (ap (λ (c : Bool). c || (s.row + 1) == SEQUENCE_END) has.1) in
      let item = subst (λ (c : Bool). (optional c (whole_slice seq coding (s.row + 1))).Spells (Some s) later rest) (sym has.1) (s, rest, whole_made s rest has follows, (refl, refl)) in
      let none = subst (λ (c : Bool). (optional c only_zero_bytes).Spells None rest rest) (sym (code_other (s.row + 1) has.1)) (refl, refl) in
      subst (λ (b' : List ℕ). (next_slice seq coding (b ∷ bs)).Spells (more s) b' rest) (sym (split_whole s rest))
      (inr (no_zeros (s.row + 1) later, (s.row + 1, later, code, (Some s, rest, item, (None, rest, none, (refl, refl))))))

  list_made : (before slices : List Slice) (sequence_end : Bool) → AllByRecursion IsSpellableSlice slices → 0 < length (before ++ slices)
      → SpellsList (next_slice seq coding) before slices sequence_end (flat_map written_whole slices ++ end_code sequence_end) []
  list_made [] [] sequence_end all some = absurd (omega arith)
  list_made (b ∷ bs) [] false all some = inl (refl, (([], tt), [], inl (refl, (refl, refl)), (refl, refl)))
  list_made (b ∷ bs) [] true all some =
      let code = code-made BadHeader (λ byte. is_slice byte || byte == SEQUENCE_END) SEQUENCE_END 0 [] (omega arith) refl in
      subst (λ (b' : List ℕ). (next_slice seq coding (b ∷ bs)).Spells (last true) b' []) (append-nil (start_code_bits SEQUENCE_END))
      (inr (no_zeros SEQUENCE_END [], (SEQUENCE_END, [], code, (None, [], (refl, refl), (Some ([], tt), [], (([], tt), [], inl (refl, (refl, refl)), (refl, refl)), (refl, refl))))))
  list_made before (s ∷ ss) sequence_end all some =
      let rest = flat_map written_whole ss ++ end_code sequence_end in
      let split : flat_map written_whole (s ∷ ss) ++ end_code sequence_end ≡ written_whole s ++ rest = append_assoc (written_whole s) (flat_map written_whole ss) (end_code sequence_end) in (
        rest,
        subst (λ (b : List ℕ). (next_slice seq coding before).Spells (more s) b rest) (sym split) (one_made before s rest all.0 (follows ss sequence_end)),
        list_made (before ++ s ∷ []) ss sequence_end all.1 (subst (λ (b : List Slice). 0 < length b) (sym (append_assoc before (s ∷ []) ss)) some),
      )

  -- ---- slices that are spelled

  whole_taken : (byte : ℕ) (s : Slice) (bits rest : List ℕ) → is_slice byte ≡ true → (whole_slice seq coding byte).Spells s bits rest → IsSpellableSlice s
  whole_taken byte s bits rest is (s', m, t, (number, m', u, (e, f))) =
      let (row, has) = macroblocks-of_slice seq coding (byte - 1) s' bits m t in
      let bounds = code_bounds byte is in
      let same : s'.row + 1 ≡ byte = omega (arith, row, bounds.0) in
      subst IsSpellableSlice (sym e) (has, ap is_slice same ∙ is)

  one_taken : (before : List Slice) (s : Slice) (bits rest : List ℕ) → (next_slice seq coding before).Spells (more s) bits rest → IsSpellableSlice s
  one_taken [] s bits rest (byte, m, code, (s', m', t, (e, f))) =
      let (n, split, fits, is) = code-taken BadHeader is_slice byte bits m code in
      let same : s ≡ s' = cc in
      subst IsSpellableSlice (sym same) (whole_taken byte s' m m' is t)
  one_taken (b ∷ bs) s bits rest (inl (c, (zeros, m, t, (e, f)))) = absurd (let e' : more s ≡ last false = e in cc)
  one_taken (b ∷ bs) s bits rest (inr (c, (byte, m, code, (item, m', t, (zeros, m'', u, (e, f)))))) = by_code (is_slice byte) refl item m' t e where
    by_code : (is : Bool) → is_slice byte ≡ is → (item : Option Slice) (m' : List ℕ) → (optional is (whole_slice seq coding byte)).Spells item m m' → more s ≡ slice_or_end item → IsSpellableSlice s
    by_code true is item m' (s', m2, t, (d, d')) e =
        let same : s ≡ s' = (let e' : more s ≡ more s' = e ∙ ap slice_or_end d in cc) in
        subst IsSpellableSlice (sym same) (whole_taken byte s' m m2 is t)
    by_code false is item m' (d, d') e = absurd (let e' : more s ≡ last true = e ∙ ap slice_or_end d in cc)

  list_taken : (before slices : List Slice) (sequence_end : Bool) (bits rest : List ℕ)
      → SpellsList (next_slice seq coding) before slices sequence_end bits rest → AllByRecursion IsSpellableSlice slices
  list_taken before [] sequence_end bits rest s = tt
  list_taken before (v ∷ vs) sequence_end bits rest (middle, s, t) = (one_taken before v bits middle s, list_taken (before ++ v ∷ []) vs sequence_end middle rest t)

  list_some : (slices : List Slice) (sequence_end : Bool) (bits rest : List ℕ) → SpellsList (next_slice seq coding) [] slices sequence_end bits rest → 0 < length slices
  list_some [] sequence_end bits rest (byte, m, code, (s, m', t, (e, f))) = absurd (let e' : last sequence_end ≡ more s = e in cc)
  list_some (v ∷ vs) sequence_end bits rest s = omega arith

  first_tail : (slices : List Slice) (sequence_end : Bool) → 0 < length slices → AllByRecursion IsSpellableSlice slices → IsNewTail is_slice (flat_map written_whole slices ++ end_code sequence_end)
  first_tail [] sequence_end some all = absurd (omega arith)
  first_tail (s ∷ ss) sequence_end some all =
      let rest = flat_map written_whole ss ++ end_code sequence_end in
      record {
        byte = s.row + 1;
        rest = written_slice coding s ++ (replicate (fill s) 0 ++ rest);
        is_byte = let b = code_bounds (s.row + 1) all.0.1 in omega arith;
        starts = all.0.1;
        split = append_assoc (written_whole s) (flat_map written_whole ss) (end_code sequence_end) ∙ split_whole s rest;
      }

-- ---- pictures

pub picture-written : (before : Option SeqState) (picture : Picture) → HasSpellableSlices before picture → (picture_unit before).Spells picture (written_picture picture) []
unfolding picture_unit written_picture
picture-written before picture has =
    let slices = flat_map (written_whole picture.seq picture.coding) picture.slices ++ end_code picture.seq picture.coding picture.sequence_end in
    let (s, are, split) = has.head in
    let (tail, front, parts, moved) = head-moved before (picture.seq, picture.coding) (bit_list picture.head ++ has.rest) has.rest s in
    let same : front ≡ bit_list picture.head = sym (append_cancel_right (bit_list picture.head) front has.rest parts) in
    let after = follows picture.seq picture.coding picture.slices picture.sequence_end in
    let head' = subst (λ (f : List ℕ). (head before).Spells (picture.seq, picture.coding) (f ++ slices) slices) same
    (moved slices (first_tail picture.seq picture.coding picture.slices picture.sequence_end has.some has.each) (has.whole ∙ sym after.whole)) in
    let whole : bit_list picture.head ++ slices ≡ written_picture picture =
    sym (append_assoc (bit_list picture.head) (flat_map (written_whole picture.seq picture.coding) picture.slices) (end_code picture.seq picture.coding picture.sequence_end)) in
    subst (λ (b : List ℕ). (picture_unit before).Spells picture b []) whole (
      ((picture.seq, picture.coding), picture.head),
      slices,
      (head', are, refl),
      ((picture.slices, picture.sequence_end), [], list_made picture.seq picture.coding [] picture.slices picture.sequence_end has.each has.some, (refl, refl)),
    )

pub slices-of_picture : (before : Option SeqState) (picture : Picture) (bits rest : List ℕ) → length bits % 8 ≡ 0 → (picture_unit before).Spells picture bits rest → HasSpellableSlices before picture
unfolding picture_unit
slices-of_picture before picture bits rest whole (headers, m, (s, are, split), (slices, m', t, (e, f))) =
    subst (HasSpellableSlices before) (sym e) (record {
      rest = m;
      whole = omega (arith, whole, ap length split, length-append (bit_list headers.1) m, length-bit_list headers.1);
      head = (subst (λ (b : List ℕ). (head before).Spells headers.0 b m) split s, are, refl);
      some = list_some headers.0.0 headers.0.1 slices.0 slices.1 m m' t;
      each = list_taken headers.0.0 headers.0.1 [] slices.0 slices.1 m m' t;
    })

pub picture-read : (before : Option SeqState) (picture : Picture) (written : List ℕ) → HasSpellableSlices before picture → IsWritten picture written → SpellsPicture before picture written
picture-read before picture written has is = subst (λ (b : List ℕ). (picture_unit before).Spells picture b []) (sym is.1) (picture-written before picture has)
