-- Lists in heads and units end: each value takes bits.
use Rattle.std.proofs.Common.{◌≡◌, ◌==◌, ℕ, ◌<◌, List, [], ◌∷◌, length, Bool, false, ap, inl, inr, arith}
use Rattle.std.proofs.lemmas.List.{length-append}
use Rattle.bit_lists.specs.Bits.{IsPrefix, bits_of}
use Rattle.bit_lists.proofs.BitLemmas.{length-bits_of}
use Rattle.syntax_types.specs.declared.picture.PicCoding.{PicCoding}
use Rattle.syntax_types.specs.declared.picture.SeqState.{SeqState}
use Rattle.syntax_types.specs.declared.slice.Slice.{Slice}
use Rattle.stream_constants.specs.declared.start_codes.TheConstants.{EXTENSION, USER_DATA}
use Rattle.picture_grammar.specs.Refusal.{Refusal}
use Rattle.picture_grammar.specs.Refusal.Refusal.{BadHeader}
use Rattle.picture_grammar.specs.Grammar.{Grammar, done, ◌>>=◌, ◌>>◌, optional, when, if_next, Next, one_item_more}
use Rattle.picture_grammar.specs.Grammar.Next.{more, last}
use Rattle.picture_grammar.specs.Element.{uimsbf}
use Rattle.picture_grammar.specs.StartCode.{start_code_prefix, zero_byte, start_code, StartCodeComes}
use Rattle.stream_constants.specs.SliceCodes.{is_slice}
use Rattle.picture_grammar.specs.Headers.{Loaded}
use Rattle.picture_grammar.specs.Head.{no_matrix, unread, extension, extension_or_user_data}
use Rattle.picture_grammar.specs.Picture.{whole_slice, later_slice, next_slice}
use Rattle.picture_grammar.proofs.GrammarLaws.{exact-done, exact-bind, exact-then, exact-optional, exact-when}
use Rattle.picture_grammar.proofs.HeaderLaws.{exact-zero_bytes, exact-only_zero_bytes, exact-unread, exact-extension, exact-whole_slice}
use Rattle.picture_laws.proofs.Decided.{TakesBits}
use Rattle.picture_laws.proofs.Takes.{Takes, takes-bind, takes-behind, takes-element, takes-list, takes-uimsbf}

-- a value where the bits aren't such as end the list
module _ {A B : Type 0} (IsSuch : List ℕ → Type 0) (end : B) (grammar : Grammar (Next A B)) (takes : Takes grammar) where
  pub fewer-else : (value : A) (bits middle : List ℕ) → (if_next IsSuch (done (last end)) grammar).Spells (more value) bits middle → length middle < length bits
  fewer-else value bits middle (inl (c, (e, f))) = absurd (let e' : more value ≡ last end = e in cc)
  fewer-else value bits middle (inr (c, s)) = takes.fewer (more value) bits middle s

  pub fewer-then : (value : A) (bits middle : List ℕ) → (if_next IsSuch grammar (done (last end))).Spells (more value) bits middle → length middle < length bits
  fewer-then value bits middle (inl (c, s)) = takes.fewer (more value) bits middle s
  fewer-then value bits middle (inr (c, (e, f))) = absurd (let e' : more value ≡ last end = e in cc)

takes-if_next : {A : Type 0} (IsSuch : List ℕ → Type 0) (then else : Grammar A) → Takes then → Takes else → Takes (if_next IsSuch then else)
takes-if_next {A} IsSuch then else takes other_takes = record { fewer = fewer } where
  fewer : (v : A) (bits rest : List ℕ) → (if_next IsSuch then else).Spells v bits rest → length rest < length bits
  fewer v bits rest (inl (c, s)) = takes.fewer v bits rest s
  fewer v bits rest (inr (c, s)) = other_takes.fewer v bits rest s

takes-zero_byte : (refusal : Refusal) → Takes (zero_byte refusal)
takes-zero_byte refusal = takes-uimsbf 8 _ (omega arith)

pub takes-zero_bytes : (refusal : Refusal) → TakesBits (λ (before : List ℕ). if_next (IsPrefix start_code_prefix)
    (done {A = Next ℕ (Unit {0})} (last tt)) (zero_byte refusal >>= λ byte. done (more byte)))
takes-zero_bytes refusal = takes-list _ (λ before value bits middle s. fewer-else (IsPrefix start_code_prefix) tt _
    (takes-bind (zero_byte refusal) (λ byte. done (more byte)) (takes-zero_byte refusal) (λ byte. exact-done _)) value bits middle s)

pub takes-start_code : (refusal : Refusal) (may_come : ℕ → Bool) → Takes (start_code refusal may_come)
takes-start_code refusal may_come =
    takes-behind _ _ (exact-zero_bytes refusal) (λ zeros. takes-element _ _ _ (λ v c coded. omega (arith, ap length coded.1, length-append (bits_of 24 1) (bits_of 8 v), length-bits_of 8 v)))

pub takes-only_zero_bytes : TakesBits (λ (before : List ℕ). if_next (λ bits. bits ≡ []) (done {A = Next ℕ (Unit {0})} (last tt))
    (if_next (IsPrefix start_code_prefix) (start_code BadHeader (λ _. false) >> done (last tt)) (zero_byte BadHeader >>= λ byte. done (more byte))))
takes-only_zero_bytes = takes-list _ (λ before value bits middle s. fewer-else (λ bits. bits ≡ []) tt _ later value bits middle s) where
  later : Takes (if_next (IsPrefix start_code_prefix) (start_code BadHeader (λ _. false) >> done {A = Next ℕ (Unit {0})} (last tt)) (zero_byte BadHeader >>= λ byte. done (more byte)))
  later = takes-if_next _ _ _ (takes-bind _ _ (takes-start_code _ _) (λ byte. exact-done _)) (takes-bind _ _ (takes-zero_byte _) (λ byte. exact-done _))

pub takes-unread : TakesBits (λ (before : List ℕ). if_next (IsPrefix start_code_prefix) (done {A = Next ℕ (Unit {0})} (last tt)) (one_item_more (uimsbf 8 [])))
takes-unread = takes-list _ (λ before value bits middle s. fewer-else (IsPrefix start_code_prefix) tt _
    (takes-bind (uimsbf 8 []) (λ byte. done (more byte)) (takes-uimsbf 8 [] (omega arith)) (λ byte. exact-done _)) value bits middle s)

-- what comes where one of the start codes does
abbrev one_extension : (ℕ → Bool) → (ℕ → Bool) → Grammar (Next Loaded (Unit {0}))
one_extension start_codes identifiers = do
  byte ← start_code BadHeader start_codes
  loaded ← when (byte == EXTENSION) (extension identifiers) no_matrix
  optional (byte == USER_DATA) unread
  done (more loaded)

takes-one_extension : (start_codes identifiers : ℕ → Bool) → Takes (one_extension start_codes identifiers)
takes-one_extension start_codes identifiers =
    takes-bind _ _ (takes-start_code _ _) (λ byte. exact-bind _ _ (exact-when _ _ _ (exact-extension identifiers))
    (λ loaded. exact-then _ _ (exact-optional _ _ exact-unread) (exact-done _)))

pub takes-extensions : (start_codes identifiers : ℕ → Bool) → TakesBits (extension_or_user_data start_codes identifiers)
takes-extensions start_codes identifiers =
    takes-list (extension_or_user_data start_codes identifiers)
    (λ before value bits middle s. fewer-then (StartCodeComes start_codes) tt (one_extension start_codes identifiers) (takes-one_extension start_codes identifiers) value bits middle s)

takes-later_slice : (seq : SeqState) (coding : PicCoding) → Takes (later_slice seq coding)
takes-later_slice seq coding =
    takes-bind _ _ (takes-start_code _ _) (λ byte. exact-bind _ _ (exact-optional _ _ (exact-whole_slice seq coding byte))
    (λ slice. exact-then _ _ (exact-optional _ _ exact-only_zero_bytes) (exact-done _)))

pub takes-slices : (seq : SeqState) (coding : PicCoding) → TakesBits (next_slice seq coding)
takes-slices seq coding = takes-list (next_slice seq coding) fewer where
  fewer : (before : List Slice) (value : Slice) (bits middle : List ℕ) → (next_slice seq coding before).Spells (more value) bits middle → length middle < length bits
  fewer [] value bits middle s =
      (takes-bind (start_code BadHeader is_slice) (λ byte. whole_slice seq coding byte >>= λ slice. done (more slice)) (takes-start_code BadHeader is_slice)
      (λ byte. exact-bind _ _ (exact-whole_slice seq coding byte) (λ slice. exact-done _))).fewer (more value) bits middle s
  fewer (before ∷ befores) value bits middle (inl (c, (a, m, s, (e, f)))) = absurd (let e' : more value ≡ last false = e in cc)
  fewer (before ∷ befores) value bits middle (inr (c, s)) =
      (takes-later_slice seq coding).fewer (more value) bits middle s
