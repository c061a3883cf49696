-- A unit of whole bytes is spelled by a picture, or refused.
use Rattle.std.proofs.Common.{◌≡◌, ◌==◌, ℕ, ◌+◌, ◌-◌, ◌*◌, ◌/◌, ◌%◌, not, List, [], ◌∷◌, ◌++◌, length, take, Option, Some, None, Bool, true, false, refl, sym, ap, ◌∙◌, arith}
use Rattle.std.proofs.lemmas.List.{length-append}
use Rattle.bit_lists.proofs.BitLemmas.{length-bits_of}
use Rattle.bit_lists.proofs.PrefixLemmas.{IsPrefix-append}
use Rattle.bit_lists.proofs.NumberLemmas.{AreBits-take, AreBits}
use Rattle.syntax_types.specs.declared.picture.PicCoding.{PicCoding}
use Rattle.syntax_types.specs.declared.picture.Picture.{Picture}
use Rattle.syntax_types.specs.declared.picture.SeqState.{SeqState}
use Rattle.syntax_types.specs.declared.slice.Slice.{Slice}
use Rattle.stream_constants.specs.declared.start_codes.TheConstants.{QUANT_MATRIX}
use Rattle.picture_grammar.specs.Exact.{EndsWith}
use Rattle.picture_grammar.specs.Refusal.Refusal.{BadHeader}
use Rattle.picture_grammar.specs.Grammar.{Grammar, done, ◌>>=◌, ◌>>◌, optional, many, with_spelling}
use Rattle.picture_grammar.specs.StartCode.{zero_bits}
use Rattle.picture_grammar.specs.Headers.{Loaded}
use Rattle.picture_grammar.specs.Head.{unread, extension, extension_or_user_data, sequence_headers, sequence_part, group_part, picture_part, head}
use Rattle.picture_grammar.specs.Picture.{whole_slice, later_slice, next_slice, picture_unit}
use Rattle.picture_grammar.proofs.HeaderLaws.{exact-head}
use Rattle.picture_laws.proofs.Answers.{Answer, IsRight, IsDecided}
use Rattle.picture_laws.proofs.Answers.Answer.{found, refused}
use Rattle.picture_laws.proofs.Decided.{next_answer, right-bind, decided-done, decided-bind, decided-then, decided-optional, decided-if_next, decided-many}
use Rattle.picture_laws.proofs.DecidedPictures.{decided-slice}
use Rattle.picture_laws.proofs.DecidedHeads.{decided-zero_bits, decided-start_code, decided-only_zero_bytes, decided-head}
use Rattle.picture_laws.proofs.TakesHeads.{takes-slices}
use Rattle.picture_laws.proofs.Tested.{tested-zero}
use Rattle.picture_laws.proofs.WholeBytes.{
  KeepsWhole,
  EndsWhole,
  keeps-done,
  keeps-ends,
  keeps-bind,
  ends-bind,
  ends-behind,
  keeps-optional,
  keeps-when,
  keeps-if_next,
  keeps-ahead,
  keeps-many,
  keeps-uimsbf,
  ends-zero_bits,
  keeps-start_code,
  bytes_of,
  bytes_of-right,
}

-- ---- a head ends at a whole byte

ends-unread : EndsWhole unread
ends-unread = record {
  whole = λ v bits rest (a, middle, (code, coded, passing, split), s).
      let count : length bits ≡ length bits % 8 + length middle = ap length split ∙ length-append code middle ∙ ap (λ k. k + length middle) (ap length coded.1 ∙ length-bits_of (length bits % 8) a) in
      (keeps-many _ (λ before. keeps-if_next _ _ _ (keeps-done _) (keeps-bind _ _ (keeps-uimsbf 8 [] refl) (λ byte. keeps-done _)))).whole v middle rest s (omega arith);
}

-- what stands behind the fields of an extension
behind-fields : (is_matrix : Bool) (loaded : Loaded) → EndsWhole (optional is_matrix (zero_bits BadHeader) >> (optional (not is_matrix) unread >> done loaded))
behind-fields true loaded =
    ends-bind _ _ (ends-bind _ _ (ends-zero_bits _) (λ number. keeps-done _)) (λ number. keeps-bind _ _ (keeps-done _) (λ none. keeps-done loaded))
behind-fields false loaded =
    ends-behind _ _ (λ none. ends-bind _ _ (ends-bind _ _ ends-unread (λ bits. keeps-done _)) (λ bits. keeps-done loaded))

ends-extension : (identifiers : ℕ → Bool) → EndsWhole (extension identifiers)
ends-extension identifiers = ends-behind _ _ (λ identifier. ends-behind _ _ (λ loaded. behind-fields (identifier == QUANT_MATRIX) loaded))

keeps-extensions : (start_codes identifiers : ℕ → Bool) → KeepsWhole (many (extension_or_user_data start_codes identifiers))
keeps-extensions start_codes identifiers = keeps-many _ (λ before. keeps-if_next _ _ _
    (keeps-bind _ _ (keeps-start_code _ _) (λ byte. keeps-bind _ _ (keeps-when _ _ _ (keeps-ends (ends-extension identifiers)))
    (λ loaded. keeps-bind _ _ (keeps-optional _ _ (keeps-ends ends-unread)) (λ bits. keeps-done _))))
    (keeps-done _))

keeps-sequence_headers : (before : Option SeqState) → KeepsWhole (sequence_headers before)
keeps-sequence_headers before =
    keeps-bind _ _ (keeps-start_code _ _)
    (λ byte. keeps-ends (ends-behind _ _
    (λ seq. ends-bind _ _ (ends-zero_bits _)
    (λ number. keeps-bind _ _ (keeps-start_code _ _)
    (λ byte'. keeps-ends (ends-behind _ _ (λ identifier. ends-behind _ _
    (λ progressive. ends-bind _ _ (ends-zero_bits _)
    (λ number'. keeps-bind _ _ (keeps-extensions _ _) (λ others. keeps-done _))))))))))

keeps-sequence_part : (before : Option SeqState) → KeepsWhole (sequence_part before)
keeps-sequence_part None = keeps-sequence_headers None
keeps-sequence_part (Some before) = keeps-if_next _ _ _ (keeps-sequence_headers (Some before)) (keeps-done before)

keeps-group_part : KeepsWhole group_part
keeps-group_part = keeps-if_next _ _ _
    (keeps-bind _ _ (keeps-start_code _ _)
    (λ byte. keeps-ends (ends-behind _ _
    (λ group. ends-bind _ _ (ends-zero_bits _)
    (λ number. keeps-bind _ _ (keeps-extensions _ (λ identifier. false)) (λ others. keeps-done tt))))))
    (keeps-done tt)

keeps-picture_part : (seq : SeqState) → KeepsWhole (picture_part seq)
keeps-picture_part seq =
    keeps-bind _ _ (keeps-start_code _ _)
    (λ byte. keeps-ends (ends-behind _ _
    (λ header. ends-bind _ _ (ends-zero_bits _)
    (λ number. keeps-bind _ _ (keeps-start_code _ _)
    (λ byte'. keeps-ends (ends-behind _ _ (λ identifier. ends-behind _ _
    (λ coding. ends-bind _ _ (ends-zero_bits _)
    (λ number'. keeps-bind _ _ (keeps-extensions _ _) (λ loaded. keeps-done _))))))))))

pub keeps-head : (before : Option SeqState) → KeepsWhole (head before)
unfolding head
keeps-head before =
    keeps-bind _ _ (keeps-sequence_part before)
    (λ seq. keeps-bind _ _ keeps-group_part
    (λ group. keeps-bind _ _ (keeps-picture_part seq)
    (λ headers. keeps-bind _ _ (keeps-ahead _) (λ byte. keeps-done headers))))

-- ---- a value with its bytes

abbrev pub with_bytes_answer : {A : Type 0} → List ℕ → Answer A → Answer (A × List ℕ)
with_bytes_answer bits (found v rest) = let count = length bits - length rest in found (v, bytes_of (count / 8) (take count bits)) rest
with_bytes_answer bits (refused r left) = refused r left

taken-bytes : {A : Type 0} (grammar : Grammar A) (v : A) (bits rest : List ℕ) → AreBits bits → EndsWith bits rest → length bits % 8 ≡ 0
    → length rest % 8 ≡ 0 → grammar.Spells v bits rest → AreBits rest
    → IsRight (with_spelling grammar) bits (with_bytes_answer bits (found v rest))
taken-bytes grammar v bits rest are (front, split) whole whole' s are' =
    let count : length bits - length rest ≡ length front = omega (arith, ap length split, length-append front rest) in
    let taken : take (length bits - length rest) bits ≡ front = ap (λ k. take k bits) count ∙ ap (take (length front)) split ∙ IsPrefix-append front rest in
    let are_front : AreBits (take (length bits - length rest) bits) = AreBits-take (length bits - length rest) bits are in
    let eights : length (take (length bits - length rest) bits) ≡ 8 * ((length bits - length rest) / 8) =
    ap length taken ∙ sym count ∙ (let sum : length bits ≡ length front + length rest = ap length split ∙ length-append front rest in omega arith) in
    let bytes = bytes_of-right ((length bits - length rest) / 8) (take (length bits - length rest) bits) are_front eights in
    ((s, bytes.0, split ∙ ap (λ x. x ++ rest) (sym taken ∙ sym bytes.1)), are')

pub right-with_bytes : {A : Type 0} (grammar : Grammar A) → KeepsWhole grammar → ((v : A) (bits rest : List ℕ) → grammar.Spells v bits rest → EndsWith bits rest)
    → (bits : List ℕ) → AreBits bits → length bits % 8 ≡ 0 → (answer : Answer A) → IsRight grammar bits answer → IsRight (with_spelling grammar) bits (with_bytes_answer bits answer)
right-with_bytes grammar keeps front bits are whole (found v rest) (s, are') = taken-bytes grammar v bits rest are (front v bits rest s) whole (keeps.whole v bits rest s whole) s are'
right-with_bytes grammar keeps front bits are whole (refused r left) s = s

-- ---- units

abbrev pub decided-whole_slice : (seq : SeqState) (coding : PicCoding) (byte : ℕ) → IsDecided (whole_slice seq coding byte)
decided-whole_slice seq coding byte = decided-bind _ _ (decided-slice seq coding _) (λ slice. decided-then _ _ (decided-zero_bits _) (decided-done slice))

abbrev pub decided-later_slice : (seq : SeqState) (coding : PicCoding) → IsDecided (later_slice seq coding)
decided-later_slice seq coding =
    decided-bind _ _ (decided-start_code _ _)
    (λ byte. decided-bind _ _ (decided-optional _ _ (decided-whole_slice seq coding byte))
    (λ slice. decided-then _ _ (decided-optional _ _ decided-only_zero_bytes) (decided-done _)))

abbrev pub decided-next_slice : (seq : SeqState) (coding : PicCoding) (before : List Slice) → IsDecided (next_slice seq coding before)
decided-next_slice seq coding [] = decided-bind _ _ (decided-start_code _ _) (λ byte. decided-bind _ _ (decided-whole_slice seq coding byte) (λ slice. decided-done _))
decided-next_slice seq coding (s ∷ ss) = decided-if_next _ _ _ tested-zero (decided-then _ _ decided-only_zero_bytes (decided-done _)) (decided-later_slice seq coding)

abbrev pub decided-slices : (headers : (SeqState × PicCoding) × List ℕ) → IsDecided {A = Picture} (many (next_slice headers.0.0 headers.0.1) >>= λ slices. done (record {
  seq = headers.0.0;
  coding = headers.0.1;
  head = headers.1;
  slices = slices.0;
  sequence_end = slices.1;
}))
decided-slices headers = decided-bind _ _ (decided-many _ (decided-next_slice _ _) (takes-slices _ _)) (λ slices. decided-done _)

abbrev pub unit_answer : Option SeqState → List ℕ → Answer Picture
unit_answer before bits = next_answer (with_bytes_answer bits ((decided-head before).answer bits)) (λ headers. (decided-slices headers).answer)

pub right-unit : (before : Option SeqState) (bits : List ℕ) → AreBits bits → length bits % 8 ≡ 0 → IsRight (picture_unit before) bits (unit_answer before bits)
unfolding picture_unit
right-unit before bits are whole =
    right-bind (with_spelling (head before)) _ decided-slices bits (with_bytes_answer bits ((decided-head before).answer bits))
    (right-with_bytes (head before) (keeps-head before) (exact-head before).spelled_front bits are whole ((decided-head before).answer bits) ((decided-head before).right bits are))
