-- Every unit is spelled by a picture or refused, in one way.
use Rattle.std.proofs.Common.{
  ◌≡◌,
  ◌==◌,
  ◌||◌,
  ◌&&◌,
  ℕ,
  ◌-◌,
  ◌*◌,
  ◌%◌,
  ◌<◌,
  ◌⊎◌,
  nat_eq,
  List,
  [],
  ◌∷◌,
  ◌++◌,
  length,
  Option,
  Some,
  None,
  Bool,
  true,
  false,
  refl,
  sym,
  ap,
  ap₂,
  subst,
  ◌∙◌,
  inl,
  inr,
  arith,
  eq-eqb,
}
use Rattle.std.proofs.lemmas.Bool.{and_parts, and_from, eqb-true, both_ways}
use Rattle.std.proofs.lemmas.List.{length-append}
use Rattle.std.specs.List.{flat_map, range_with_len}
use Rattle.bit_lists.specs.Bits.{IsPrefix}
use Rattle.bit_lists.specs.Fields.{bit_list}
use Rattle.bit_lists.proofs.ByteLemmas.{length-bit_list}
use Rattle.bit_lists.proofs.NumberLemmas.{AreBits-bit_list}
use Rattle.syntax_types.specs.declared.picture.PicCoding.{PicCoding}
use Rattle.syntax_types.specs.declared.picture.Picture.{Picture}
use Rattle.syntax_types.specs.declared.picture.SeqState.{SeqState}
use Rattle.syntax_types.specs.declared.slice.Slice.{Slice}
use Rattle.stream_constants.specs.declared.start_codes.TheConstants.{SEQUENCE_END}
use Rattle.picture_grammar.specs.Refusal.{Refusal}
use Rattle.picture_grammar.specs.Refusal.Refusal.{BadHeader, Uncovered}
use Rattle.picture_grammar.specs.Grammar.{Grammar, done, ◌>>=◌, ◌>>◌, optional, if_next, SpellsList, Next}
use Rattle.picture_grammar.specs.Grammar.Next.{more, last}
use Rattle.picture_grammar.specs.StartCode.{start_code_prefix, start_code, zero_byte, only_zero_bytes}
use Rattle.stream_constants.specs.SliceCodes.{is_slice}
use Rattle.picture_grammar.specs.Picture.{later_slice, slice_or_end, next_slice, whole_slice, picture_unit, rows, addresses, IsCovered, SpellsPicture, RefusesPicture}
use Rattle.picture_grammar.specs.Slice.{columns}
use Rattle.picture_grammar.proofs.HeaderLaws.{exact-picture_unit}
use Rattle.picture_laws.proofs.Answers.{Answer, IsRight}
use Rattle.picture_laws.proofs.Answers.Answer.{found, refused}
use Rattle.picture_laws.proofs.DecidedUnits.{unit_answer, right-unit}

-- ---- bits of bytes

-- ---- what spells a unit leaves nothing

-- one more zero byte, or the end of the bits
abbrev pub next_zero : List ℕ → Grammar (Next ℕ (Unit {0}))
next_zero before = if_next (λ bits. bits ≡ []) (done (last tt))
    (if_next (IsPrefix start_code_prefix) (start_code BadHeader (λ _. false) >> done (last tt)) (zero_byte BadHeader >>= λ byte. done (more byte)))

zero-end : (before values bits rest : List ℕ) → SpellsList next_zero before values tt bits rest → rest ≡ []
zero-end before [] bits rest (inl (none, (e, f))) = sym f ∙ none
zero-end before [] bits rest (inr (some, inl (c, (byte, m, (zeros, m', s, (code, coded, passing, split)), t)))) = absurd (both_ways false refl passing)
zero-end before [] bits rest (inr (some, inr (c, (byte, m, s, (e, f))))) = absurd (let e' : last tt ≡ more byte = e in cc)
zero-end before (v ∷ vs) bits rest (middle, s, t) = zero-end (before ++ v ∷ []) vs middle rest t

pub zero-rest : (zeros : List ℕ × Unit {0}) (bits rest : List ℕ) → only_zero_bytes.Spells zeros bits rest → rest ≡ []
zero-rest zeros bits rest s = zero-end [] zeros.0 bits rest s

-- what is no slice is the end code
end-rest : (seq : SeqState) (coding : PicCoding) (end : Bool) (bits rest : List ℕ) → (later_slice seq coding).Spells (last end) bits rest → rest ≡ []
end-rest seq coding end bits rest (byte, m, (zeros, m', s, (code, coded, passing, split)), (slice, m'', t, (zeros', m''', u, (e, f)))) =
    by_cases (is_slice byte) (byte == SEQUENCE_END) passing slice zeros' t u e where
      by_cases : (slice_comes end_comes : Bool) → (slice_comes || end_comes) && true ≡ true
          → (item : Option Slice) (zeros : Option (List ℕ × Unit {0})) → (optional slice_comes (whole_slice seq coding byte)).Spells item m m''
          → (optional end_comes only_zero_bytes).Spells zeros m'' m''' → last end ≡ slice_or_end item → rest ≡ []
      by_cases true b p (Some item) zeros t u e = absurd (let e' : last end ≡ more item = e in cc)
      by_cases true b p None zeros (value, n, t, (g, h)) u e = cc
      by_cases false true p item zeros t (value, n, u, (g, h)) e = sym f ∙ sym h ∙ zero-rest value m'' n u
      by_cases false false p item zeros t u e = absurd (both_ways false refl p)

slices-rest : (seq : SeqState) (coding : PicCoding) (before values : List Slice) (end : Bool) (bits rest : List ℕ) → SpellsList (next_slice seq coding) before values end bits rest → rest ≡ []
slices-rest seq coding [] [] end bits rest (byte, m, s, (slice, m', t, (e, f))) = absurd (let e' : last end ≡ more slice = e in cc)
slices-rest seq coding (b ∷ bs) [] end bits rest (inl (c, (zeros, m, s, (e, f)))) = sym f ∙ zero-rest zeros bits m s
slices-rest seq coding (b ∷ bs) [] end bits rest (inr (c, s)) = end-rest seq coding end bits rest s
slices-rest seq coding before (v ∷ vs) end bits rest (middle, s, t) = slices-rest seq coding (before ++ v ∷ []) vs end middle rest t

pub unit-rest : (before : Option SeqState) (picture : Picture) (bits rest : List ℕ) → (picture_unit before).Spells picture bits rest → rest ≡ []
unfolding picture_unit
unit-rest before picture bits rest (headers, m, s, (slices, m', t, (e, f))) = sym f ∙ slices-rest headers.0.0 headers.0.1 [] slices.0 slices.1 m m' t

-- ---- lists that are the same

abbrev same_list : List ℕ → List ℕ → Bool
same_list [] [] = true
same_list [] (y ∷ ys) = false
same_list (x ∷ xs) [] = false
same_list (x ∷ xs) (y ∷ ys) = nat_eq x y && same_list xs ys

same-true : (xs ys : List ℕ) → same_list xs ys ≡ true → xs ≡ ys
same-true [] [] e = refl
same-true [] (y ∷ ys) e = absurd (both_ways false refl e)
same-true (x ∷ xs) [] e = absurd (both_ways false refl e)
same-true (x ∷ xs) (y ∷ ys) e =
    let parts = and_parts (nat_eq x y) (same_list xs ys) e in
    ap₂ (λ (z : ℕ) (zs : List ℕ). z ∷ zs) (eqb-true x y parts.0) (same-true xs ys parts.1)

same-from : (xs ys : List ℕ) → xs ≡ ys → same_list xs ys ≡ true
same-from [] [] e = refl
same-from [] (y ∷ ys) e = cc
same-from (x ∷ xs) [] e = cc
same-from (x ∷ xs) (y ∷ ys) e =
    let head : x ≡ y = cc in
    let tail : xs ≡ ys = cc in
    and_from (nat_eq x y) (same_list xs ys) (eq-eqb x y head) (same-from xs ys tail)

covered : (picture : Picture) → IsCovered picture ⊎ (IsCovered picture → ⊥)
covered picture = by_test (same_list held all) refl where
  held : List ℕ
  held = flat_map (addresses picture.seq) picture.slices

  all : List ℕ
  all = range_with_len 0 (rows picture.seq picture.coding * columns picture.seq)

  by_test : (b : Bool) → same_list held all ≡ b → IsCovered picture ⊎ (IsCovered picture → ⊥)
  by_test true e = inl (same-true held all e)
  by_test false e = inr (λ c. both_ways (same_list held all) e (same-from held all c))

-- ---- a spelling or a refusal

module _ (before : Option SeqState) (bytes : List ℕ) where
  abbrev pub IsSpelled : Type 0
  IsSpelled = (picture : Picture) × SpellsPicture before picture bytes × IsCovered picture

  abbrev pub HasRefusal : Type 0
  HasRefusal = (refusal : Refusal) × (place : ℕ) × RefusesPicture before bytes refusal place

  by_answer : (answer : Answer Picture) → IsRight (picture_unit before) (bit_list bytes) answer → IsSpelled ⊎ HasRefusal
  by_answer (found picture rest) (s, are) =
      let spelled : SpellsPicture before picture bytes = subst ((picture_unit before).Spells picture (bit_list bytes)) (unit-rest before picture (bit_list bytes) rest s) s in
      elim (covered picture) [
        | inl c ↦ inl (picture, spelled, c)
        | inr n ↦ inr (Uncovered, 0, inr (picture, spelled, n, refl, refl))
      ]
  by_answer (refused refusal left) r =
      let (front, split) = (exact-picture_unit before).refused_front (bit_list bytes) left refusal r in
      inr (refusal, length (bit_list bytes) - length left, inl (left, r, omega (arith, ap length split, length-append front left)))

  pub spelled-or-refused : IsSpelled ⊎ HasRefusal
  spelled-or-refused =
      by_answer (unit_answer before (bit_list bytes)) (right-unit before (bit_list bytes) (AreBits-bit_list bytes) (let w = length-bit_list bytes in omega arith))

  -- ---- and never in two ways

  pub one-refusal : (r s : Refusal) (place other : ℕ) → RefusesPicture before bytes r place → RefusesPicture before bytes s other → (r ≡ s) × (place ≡ other)
  one-refusal r s place other (inl (left, p, at)) (inl (left', q, at')) =
      let same = (exact-picture_unit before).one_refusal (bit_list bytes) left left' r s p q in
      (same.0, omega (arith, ap length same.1))
  one-refusal r s place other (inl (left, p, at)) (inr (picture, q, n, e, f)) = absurd ((exact-picture_unit before).not_both picture (bit_list bytes) [] left r q p)
  one-refusal r s place other (inr (picture, p, n, e, f)) (inl (left, q, at)) = absurd ((exact-picture_unit before).not_both picture (bit_list bytes) [] left s p q)
  one-refusal r s place other (inr (picture, p, n, e, f)) (inr (picture', q, n', e', f')) = (e ∙ sym e', f ∙ sym f')

  pub no-refusal : (picture : Picture) (r : Refusal) (place : ℕ) → SpellsPicture before picture bytes → IsCovered picture → RefusesPicture before bytes r place → ⊥
  no-refusal picture r place s c (inl (left, p, at)) = (exact-picture_unit before).not_both picture (bit_list bytes) [] left r s p
  no-refusal picture r place s c (inr (picture', p, n, e, f)) =
      n (subst IsCovered ((exact-picture_unit before).one_value picture picture' (bit_list bytes) [] [] s p).0 c)
