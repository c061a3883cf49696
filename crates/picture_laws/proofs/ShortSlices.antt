-- No start code prefix begins inside a slice.
use Rattle.std.proofs.Common.{
  ◌≡◌,
  ◌⊎◌,
  ◌<◌,
  ◌≤◌,
  ℕ,
  zero,
  suc,
  List,
  [],
  ◌∷◌,
  ◌++◌,
  length,
  replicate,
  drop,
  Option,
  Some,
  None,
  Bool,
  true,
  false,
  refl,
  sym,
  ap,
  subst,
  ◌∙◌,
  inl,
  inr,
  arith,
  append_assoc,
  append-nil,
}
use Rattle.std.proofs.lemmas.Bool.{cases_lt}
use Rattle.std.proofs.lemmas.List.{length-append, length-replicate, append_cancel_right}
use Rattle.bit_lists.proofs.PrefixLemmas.{IsPrefix-split}
use Rattle.syntax_types.specs.declared.macroblock.Macroblock.{Macroblock}
use Rattle.syntax_types.specs.declared.picture.PicCoding.{PicCoding}
use Rattle.syntax_types.specs.declared.picture.SeqState.{SeqState}
use Rattle.syntax_types.specs.declared.slice.Slice.{Slice}
use Rattle.picture_grammar.specs.Grammar.{done, ◌>>=◌, optional, SpellsList, Next, more_of, one_item_more}
use Rattle.picture_grammar.specs.Grammar.Next.{more, last}
use Rattle.picture_grammar.specs.Element.{uimsbf, one_flag}
use Rattle.picture_grammar.specs.Macroblock.{macroblock}
use Rattle.picture_grammar.specs.Slice.{extra_information, slice_extension, slice_info, columns, columns_left, ClosesSlice, next_macroblock, slice}
use Rattle.picture_grammar.specs.StartCode.{start_code_prefix}
use Rattle.picture_grammar.specs.Picture.{IsCoding}
use Rattle.picture_laws.proofs.Tested.{prefix-zeros}
use Rattle.picture_laws.proofs.StartCodes.{zeros_before, parted}
use Rattle.picture_laws.proofs.Tails.{suffix-one, led}
use Rattle.picture_laws.proofs.ZeroRuns.{
  AreShort,
  zeros_behind,
  IsShort,
  short-done,
  short-bind,
  short-weak,
  short-optional,
  short-if_next,
  short-one_more,
  short-many,
  short-uimsbf,
  behind_flag,
  short-flag,
  short-behind,
  short-zeros,
}
use Rattle.picture_laws.proofs.ShortMacroblocks.{short-number, short-one_flag, short-macroblock}

-- ---- the header of a slice

abbrev behind_byte : Option ℕ → ℕ
behind_byte None = 9
behind_byte (Some byte) = 8

abbrev behind_extra : Next ℕ (Unit {0}) → ℕ
behind_extra (more byte) = 8
behind_extra (last end) = 9

short-extra : (before : List ℕ) → IsShort 8 behind_extra (extra_information before)
short-extra before =
    short-bind 8 (behind_flag 8) behind_extra one_flag (λ another. optional another (uimsbf 8 []) >>= λ byte. done (more_of byte)) (short-flag 8 [] (omega arith))
    (λ another s. short-bind (behind_flag 8 another) behind_byte behind_extra (optional another (uimsbf 8 [])) (λ byte. done (more_of byte)) (by_flag another)
    (λ byte t. short-done (behind_byte byte) behind_extra (more_of byte) (by_byte byte))) where
      by_flag : (another : Bool) → IsShort (behind_flag 8 another) behind_byte (optional another (uimsbf 8 []))
      by_flag true = short-optional 0 behind_byte true (uimsbf 8 []) (λ _. short-uimsbf 0 8 [] (omega arith)) (λ e. absurd (let e' : true ≡ false = e in cc))
      by_flag false = short-done 9 behind_byte None (omega arith)

      by_byte : (byte : Option ℕ) → behind_byte byte ≤ behind_extra (more_of byte)
      by_byte None = omega arith
      by_byte (Some byte) = omega arith

short-extension : IsShort 0 (λ _. 9) slice_extension
short-extension =
    short-bind 0 (λ _. 1) (λ _. 9) _ _ (short-one_flag 0 1 (omega arith) (omega arith))
    (λ intra s. short-bind 1 (λ _. 8) (λ _. 9) _ _ (short-uimsbf 1 7 [] (omega arith))
    (λ reserved t. short-bind 8 (λ _. 9) (λ _. 9) _ _ (short-many 8 behind_extra extra_information (λ v. omega arith) short-extra)
    (λ found u. short-done 9 (λ _. 9) _ (omega arith))))

short-info : IsShort 4 (λ _. 9) slice_info
short-info = short-bind 4 (behind_flag 4) (λ _. 9) one_flag (λ extended. optional extended slice_extension) (short-flag 4 [] (omega arith)) (λ extended s. by_flag extended) where
  by_flag : (extended : Bool) → IsShort (behind_flag 4 extended) (λ _. 9) (optional extended slice_extension)
  by_flag true = short-optional 0 (λ _. 9) true slice_extension (λ _. short-extension) (λ e. absurd (let e' : true ≡ false = e in cc))
  by_flag false = short-done 5 (λ _. 9) None (omega arith)

-- ---- slices

short-next : (seq : SeqState) (coding : PicCoding) → IsCoding coding → (before : List Macroblock) → IsShort 14 (λ _. 14) (next_macroblock seq coding before)
short-next seq coding is [] = short-one_more 14 (λ _. 14) _ (short-macroblock coding true (columns seq) is)
short-next seq coding is (m ∷ ms) =
    short-if_next 14 (λ _. 14) ClosesSlice (done (last tt)) (one_item_more (macroblock coding false (columns_left seq (m ∷ ms)))) (short-done 14 (λ _. 14) (last tt) (omega arith))
    (short-one_more 14 (λ _. 14) _ (short-macroblock coding false (columns_left seq (m ∷ ms)) is))

short-slice : (seq : SeqState) (coding : PicCoding) (row : ℕ) → IsCoding coding → IsShort 0 (λ _. 14) (slice seq coding row)
unfolding slice
short-slice seq coding row is =
    short-bind 0 (λ _. 4) (λ _. 14) _ _ (short-number 0 5 (omega arith))
    (λ code s. short-bind 4 (λ _. 9) (λ _. 14) _ _ short-info
    (λ info t. short-bind 9 (λ _. 14) (λ _. 14) _ _ (short-weak 14 9 (λ _. 14) (λ _. 14) _ (omega arith) (λ v. omega arith)
    (short-many 14 (λ _. 14) (next_macroblock seq coding) (λ v. omega arith) (short-next seq coding is)))
    (λ found u. short-done 14 (λ _. 14) _ (omega arith))))

list-closes : (seq : SeqState) (coding : PicCoding) (before values : List Macroblock) (bits rest : List ℕ) → SpellsList (next_macroblock seq coding) before values tt bits rest → ClosesSlice rest
list-closes seq coding [] [] bits rest (m, middle, s, (e, f)) = absurd (let e' : last tt ≡ more m = e in cc)
list-closes seq coding (b ∷ bs) [] bits rest (inl (c, (e, f))) = subst ClosesSlice f c
list-closes seq coding (b ∷ bs) [] bits rest (inr (c, (m, middle, s, (e, f)))) = absurd (let e' : last tt ≡ more m = e in cc)
list-closes seq coding before (v ∷ vs) bits rest (middle, s, t) = list-closes seq coding (before ++ v ∷ []) vs middle rest t

pub slice-closes : (seq : SeqState) (coding : PicCoding) (row : ℕ) (s : Slice) (bits rest : List ℕ) → (slice seq coding row).Spells s bits rest → ClosesSlice rest
unfolding slice
slice-closes seq coding row s bits rest (code, m, s1, (info, m', s2, (found, m'', s3, (e, f)))) = subst ClosesSlice f (list-closes seq coding [] found.0 m' m'' s3)

-- ---- no start code prefix

zeros_before-more : (n : ℕ) (bits : List ℕ) → n ≤ zeros_before (replicate n 0 ++ bits)
zeros_before-more zero bits = omega arith
zeros_before-more (suc n) bits = omega (arith, zeros_before-more n bits)

pub zeros_before-all : (n : ℕ) → zeros_before (replicate n 0) ≡ n
zeros_before-all zero = refl
zeros_before-all (suc n) = ap suc (zeros_before-all n)

-- bits that close a slice begin with 23 zeros, or with no one at all
none_soon : (k : ℕ) (end after rest : List ℕ) → ClosesSlice rest → end ≡ replicate k 0 ++ 1 ∷ [] → rest ≡ end ++ after → k < 23 → ⊥
none_soon k end after rest closes is split lt =
    let first : zeros_before rest ≡ k = led k end after rest is split in
    elim closes [
      | inl p ↦ omega (arith, first, lt, ap zeros_before (IsPrefix-split (replicate 23 0) rest p), zeros_before-more 23 (drop 23 rest))
      | inr all ↦ omega (
        arith,
        first,
        ap zeros_before all ∙ zeros_before-all (length rest),
        ap length split,
        length-append end after,
        ap length is,
        length-append {A = ℕ} (replicate k 0) (1 ∷ []),
        length-replicate {A = ℕ} k 0,
      )
    ]

pub no_run : (before after : List ℕ) → AreShort 0 (before ++ start_code_prefix ++ after) → ⊥
no_run before after short =
    let bits = subst (AreShort 0) (append_assoc before start_code_prefix after) short in
    let run : AreShort (zeros_behind 0 before) (replicate 23 0 ++ 1 ∷ after) =
    subst (AreShort (zeros_behind 0 before)) (ap (λ (x : List ℕ). x ++ after) prefix-zeros ∙ append_assoc (replicate 23 0) (1 ∷ []) after) (short-behind 0 before (start_code_prefix ++ after) bits) in
    omega (arith, short-zeros (zeros_behind 0 before) 22 (1 ∷ after) run)

pub no-code-in-slice : (seq : SeqState) (coding : PicCoding) (row : ℕ) (s : Slice) (inner rest before after : List ℕ) → IsCoding coding → (slice seq coding row).Spells s (inner ++ rest) rest
    → inner ++ rest ≡ before ++ start_code_prefix ++ after → length inner ≤ length before
no-code-in-slice seq coding row s inner rest before after is spelled e = elim (cases_lt (length before) (length inner)) [
  | inl lt ↦ absurd (by_parts lt (parted inner rest (before ++ start_code_prefix) after e))
  | inr le ↦ le
] where
  closes : ClosesSlice rest
  closes = slice-closes seq coding row s (inner ++ rest) rest spelled

  short : AreShort 0 inner
  short =
      let (front, p, short, le) = (short-slice seq coding row is).runs s (inner ++ rest) rest spelled in
      subst (AreShort 0) (append_cancel_right front inner rest (sym p)) short

  cut : length before < length inner → (m : List ℕ) → rest ≡ m ++ after → ((n : List ℕ) × (inner ≡ before ++ n) × (start_code_prefix ≡ n ++ m))
      ⊎ ((n : List ℕ) × (before ≡ inner ++ n) × (m ≡ n ++ start_code_prefix)) → ⊥
  cut lt m r (inl (n, q, p)) = elim (suffix-one n m p) [
    | inl none ↦
        let whole : n ≡ start_code_prefix = sym (append-nil n) ∙ ap (λ (x : List ℕ). n ++ x) (sym none) ∙ sym p in
        no_run before [] (subst (AreShort 0) (q ∙ ap (λ (x : List ℕ). before ++ x) whole ∙ sym (append-nil (before ++ start_code_prefix))) short)
    | inr (k, is_one, count) ↦ none_soon k m after rest closes is_one r (omega (arith, lt, ap length q, length-append before n, count))
  ]
  cut lt m r (inr (n, q, p)) = omega (arith, lt, ap length q, length-append inner n)

  by_parts : length before < length inner → ((m : List ℕ) × (before ++ start_code_prefix ≡ inner ++ m) × (rest ≡ m ++ after))
      ⊎ ((m : List ℕ) × (inner ≡ (before ++ start_code_prefix) ++ m) × (after ≡ m ++ rest)) → ⊥
  by_parts lt (inl (m, q, r)) = cut lt m r (parted before start_code_prefix inner m q)
  by_parts lt (inr (m, q, r)) = no_run before m (subst (AreShort 0) q short)
