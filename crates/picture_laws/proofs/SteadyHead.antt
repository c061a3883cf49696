-- A head is read the same before another first slice.
use Rattle.std.proofs.Common.{◌≡◌, ◌==◌, ◌||◌, ◌%◌, ℕ, List, [], ◌++◌, length, Option, Some, None, Bool, true, false, refl, sym, ap, subst, ◌∙◌, inl, inr}
use Rattle.std.proofs.lemmas.Bool.{cases_Bool, eqb-true, both_ways}
use Rattle.syntax_types.specs.declared.picture.PicCoding.{PicCoding}
use Rattle.syntax_types.specs.declared.picture.SeqState.{SeqState}
use Rattle.stream_constants.specs.declared.start_codes.TheConstants.{USER_DATA, SEQUENCE_HEADER, EXTENSION, GROUP}
use Rattle.picture_grammar.specs.Refusal.Refusal.{BadHeader}
use Rattle.picture_grammar.specs.Grammar.{◌>>◌, many}
use Rattle.picture_grammar.specs.StartCode.{start_code}
use Rattle.stream_constants.specs.SliceCodes.{is_slice}
use Rattle.picture_grammar.specs.Headers.{Loaded}
use Rattle.picture_grammar.specs.Head.{extension, extension_or_user_data, user_data_only, sequence_headers, sequence_part, group_part, picture_part, head}
use Rattle.picture_grammar.proofs.LocalLaws.{local-element}
use Rattle.picture_laws.proofs.LocalHeaders.{local-sequence_header, local-sequence_extension, local-group_header, local-picture_header, local-picture_coding_extension, local-quant_matrix_extension}
use Rattle.picture_laws.proofs.StartCodes.{code-taken, code-made}
use Rattle.picture_laws.proofs.Tails.{AreAlike, IsTail, IsNewTail}
use Rattle.picture_laws.proofs.Steady.{
  IsSteady,
  steady-local,
  steady-done,
  steady-bind,
  steady-then,
  steady-optional,
  steady-when,
  steady-many,
  steady-zero_bits,
  steady-start_code,
  steady-comes,
  steady-unread,
}

-- ---- start codes that aren't those before which a head is read the same

-- none of these start codes is one before the picture header
pub record AreNoneBefore (is_last : ℕ → Bool) : Type 0 where
  pub user_data : is_last USER_DATA ≡ false
  pub extension : is_last EXTENSION ≡ false
  pub sequence : is_last SEQUENCE_HEADER ≡ false
  pub group : is_last GROUP ≡ false

slices : AreNoneBefore is_slice
slices = record { user_data = refl; extension = refl; sequence = refl; group = refl }

module _ {is_last : ℕ → Bool} (before : AreNoneBefore is_last) where
  not_last : (code byte : ℕ) → is_last code ≡ false → (byte == code) ≡ true → is_last byte ≡ true → ⊥
  not_last code byte other is one = both_ways (is_last code) other (ap is_last (sym (eqb-true byte code is)) ∙ one)

  no_extension : (byte : ℕ) → (byte == EXTENSION || byte == USER_DATA) ≡ true → is_last byte ≡ true → ⊥
  no_extension byte is one = elim (cases_Bool (byte == EXTENSION)) [
    | inl e ↦ not_last EXTENSION byte before.extension e one
    | inr n ↦ not_last USER_DATA byte before.user_data (sym (ap (λ (b : Bool). b || byte == USER_DATA) n) ∙ is) one
  ]

  -- ---- heads

  steady-extension : (identifiers : ℕ → Bool) → IsSteady is_last (extension identifiers)
  steady-extension identifiers =
      steady-bind _ _ (steady-local _ (local-element _ _ _))
      (λ identifier. steady-bind _ _ (steady-when _ _ _ (steady-local _ local-quant_matrix_extension))
      (λ loaded. steady-then _ _ (steady-optional _ _ (steady-zero_bits _)) (steady-then _ _ (steady-optional _ _ steady-unread) (steady-done loaded))))

  steady-extension_or_user_data : (start_codes identifiers : ℕ → Bool) (values : List Loaded) → ((byte : ℕ) → start_codes byte ≡ true → is_last byte ≡ true → ⊥)
      → IsSteady is_last (extension_or_user_data start_codes identifiers values)
  steady-extension_or_user_data start_codes identifiers values none =
      steady-comes BadHeader start_codes _ _ none
      (λ byte. steady-bind _ _ (steady-when _ _ _ (steady-extension identifiers))
      (λ loaded. steady-then _ _ (steady-optional _ _ steady-unread) (steady-done _)))

  steady-extensions : (identifiers : ℕ → Bool) → IsSteady is_last (many (extension_or_user_data (λ byte. byte == EXTENSION || byte == USER_DATA) identifiers))
  steady-extensions identifiers = steady-many _ (λ values. steady-extension_or_user_data _ identifiers values no_extension)

  steady-user_data_only : IsSteady is_last user_data_only
  steady-user_data_only = steady-many _ (λ values. steady-extension_or_user_data _ (λ identifier. false) values (λ byte. not_last USER_DATA byte before.user_data))

  steady-sequence_rest : (state : Option SeqState) → IsSteady is_last (sequence_headers state)
  steady-sequence_rest state =
      steady-then _ _ (steady-start_code _ _)
      (steady-bind _ _ (steady-local _ (local-sequence_header state))
      (λ seq. steady-then _ _ (steady-zero_bits _)
      (steady-then _ _ (steady-start_code _ _)
      (steady-then _ _ (steady-local _ (local-element _ _ _))
      (steady-bind _ _ (steady-local _ (local-sequence_extension state))
      (λ progressive. steady-then _ _ (steady-zero_bits _)
      (steady-then _ _ (steady-extensions _) (steady-done _))))))))

  pub steady-sequence_part : (state : Option SeqState) → IsSteady is_last (sequence_part state)
  steady-sequence_part None = steady-sequence_rest None
  steady-sequence_part (Some state) = steady-comes BadHeader (λ byte. byte == SEQUENCE_HEADER) _ state (λ byte. not_last SEQUENCE_HEADER byte before.sequence)
      (λ byte. steady-bind _ _ (steady-local _ (local-sequence_header (Some state)))
      (λ seq. steady-then _ _ (steady-zero_bits _)
      (steady-then _ _ (steady-start_code _ _)
      (steady-then _ _ (steady-local _ (local-element _ _ _))
      (steady-bind _ _ (steady-local _ (local-sequence_extension (Some state)))
      (λ progressive. steady-then _ _ (steady-zero_bits _)
      (steady-then _ _ (steady-extensions _) (steady-done _))))))))

  pub steady-group_part : IsSteady is_last group_part
  steady-group_part = steady-comes BadHeader (λ byte. byte == GROUP) _ tt (λ byte. not_last GROUP byte before.group)
      (λ byte. steady-then _ _ (steady-local _ local-group_header)
      (steady-then _ _ (steady-zero_bits _)
      (steady-then _ _ steady-user_data_only (steady-done tt))))

  steady-picture_part : (seq : SeqState) → IsSteady is_last (picture_part seq)
  steady-picture_part seq =
      steady-then _ _ (steady-start_code _ _)
      (steady-bind _ _ (steady-local _ local-picture_header)
      (λ header. steady-then _ _ (steady-zero_bits _)
      (steady-then _ _ (steady-start_code _ _)
      (steady-then _ _ (steady-local _ (local-element _ _ _))
      (steady-bind _ _ (steady-local _ (local-picture_coding_extension _ _ _))
      (λ coding. steady-then _ _ (steady-zero_bits _)
      (steady-bind _ _ (steady-extensions _)
      (λ loaded. steady-done _))))))))

-- A head is spelled before each first slice with its zero bytes, and before one with none.
pub head-moved : (before : Option SeqState) (headers : SeqState × PicCoding) (bits rest : List ℕ) → (head before).Spells headers bits rest
    → IsTail is_slice rest × (front : List ℕ) × (bits ≡ front ++ rest)
    × ((other : List ℕ) → IsNewTail is_slice other → length rest % 8 ≡ length other % 8 → (head before).Spells headers (front ++ other) other)
unfolding head
head-moved before headers bits rest (seq, m1, s1, (group, m2, s2, (found, m3, s3, (byte, m4, (kept, after, coming), (e, g))))) =
    let (n, split, fits, is) = code-taken BadHeader is_slice byte m3 after coming in
    let same : m3 ≡ rest = kept ∙ g in
    let tail : IsTail is_slice rest = record { zeros = n; byte = byte; rest = after; is_byte = fits; starts = is; split = sym same ∙ split } in
    let (f, p, q) = (steady-bind (sequence_part before) (λ seq. group_part >> picture_part seq) (steady-sequence_part slices before)
    (λ seq. steady-then _ _ (steady-group_part slices) (steady-picture_part slices seq))).moved
    found bits m3 (seq, m1, s1, (group, m2, s2, s3)) in (
      tail,
      f,
      p ∙ ap (λ (x : List ℕ). f ++ x) same,
      λ other new whole.
          let alike : AreAlike is_slice m3 other = record { front = []; old = rest; new = other; first = same; second = refl; old_tail = tail; new_tail = new; whole = whole } in
          let (seq', m1', s1', (group', m2', s2', s3')) = q other alike in
          let comes = subst (λ (b : List ℕ). (start_code BadHeader is_slice).Spells new.byte b new.rest) (sym new.split) (code-made BadHeader is_slice new.byte 0 new.rest new.is_byte new.starts) in
          (seq', m1', s1', (group', m2', s2', (found, other, s3', (new.byte, other, (refl, new.rest, comes), (e, refl))))),
    )
