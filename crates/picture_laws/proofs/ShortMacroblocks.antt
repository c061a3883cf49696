-- Zero bits on end in macroblocks: at most 22, from 14 before one to 14 behind it.
use Rattle.std.proofs.Common.{
  ◌≡◌,
  ◌≢◌,
  ◌⊎◌,
  ◌==◌,
  ◌||◌,
  ◌+◌,
  ◌-◌,
  ◌<◌,
  ◌≤◌,
  ℕ,
  zero,
  suc,
  ℤ,
  pos,
  negsuc,
  not,
  nat_eq,
  List,
  [],
  ◌∷◌,
  slice_index,
  None,
  Bool,
  true,
  false,
  cond,
  refl,
  sym,
  ap,
  subst,
  ◌∙◌,
  inl,
  inr,
  arith,
  eq-eqb,
}
use Rattle.std.specs.List.{list_all, range_with_len, AllByRecursion}
use Rattle.std.specs.Int.{bit_at}
use Rattle.std.proofs.lemmas.Bool.{and_parts, both_ways, not-true, eqb-true}
use Rattle.std.proofs.lemmas.Nat.Bits.{bit_at-zero}
use Rattle.prefix_codes.specs.declared.table_name.TableName.TheVariants.{Address, Motion, Pattern}
use Rattle.prefix_codes.specs.TableName.{entries}
use Rattle.prefix_codes.proofs.Computing.{tables}
use Rattle.syntax_types.specs.declared.macroblock.TheConstants.{BLOCKS}
use Rattle.syntax_types.specs.declared.macroblock.Kind.{Kind}
use Rattle.syntax_types.specs.declared.picture.PicCoding.{PicCoding}
use Rattle.picture_grammar.specs.Refusal.Refusal.{NoCode, BadAddress, BadType, BadPattern}
use Rattle.picture_grammar.specs.Grammar.{Grammar, optional, when, many}
use Rattle.picture_grammar.specs.Element.{vlclbf, uimsbf, one_flag, marker_bit, rule}
use Rattle.picture_grammar.specs.Block.{block}
use Rattle.picture_grammar.specs.Motion.{MotionFormat, dmvector, dmvector_code, has_residual, vector_part, motion_vector, motion_vectors}
use Rattle.picture_grammar.specs.Macroblock.{
  address_code,
  address_increment,
  most_increment,
  type_table,
  type_symbol,
  macroblock_type,
  has_motion_type,
  usual_motion_type,
  has_dct_type,
  quantiser_scale_code,
  has_forward,
  has_concealment,
  f_codes,
  motion_format,
  block_way,
  is_coded,
  no_block,
  blocks,
  macroblock,
}
use Rattle.picture_grammar.specs.Picture.{IsFCode, IsCoding}
use Rattle.picture_laws.specs.Spellable.{IsSpellable}
use Rattle.picture_laws.proofs.ZeroRuns.{
  AreShort,
  zeros_behind,
  IsShort,
  is_short_entry,
  short-done,
  short-element,
  short-bind,
  short-weak,
  short-when,
  short-optional,
  short-repeated,
  short-each,
  short-many,
  short-uimsbf,
  behind_flag,
  short-flag,
  short-code,
  short-vlclbf,
}
use Rattle.picture_laws.proofs.ShortBlocks.{some-number, short-block}
use Rattle.picture_laws.proofs.MacroblockKinds.{HasKind, kind-of, short_types, or_cases}

-- ---- elements

-- a number that isn't 0
pub short-number : (from n : ℕ) → from + n ≤ 23 → IsShort from (λ _. n - 1) (uimsbf n (rule BadType (λ number. not (number == 0)) ∷ []))
short-number from n le = short-element from (λ _. n - 1) _ _ (rule BadType (λ number. not (number == 0)) ∷ []) (λ v code coded passing.
    let test = (and_parts (not (nat_eq v 0)) true passing).0 in
    let some : v ≢ 0 = λ none. both_ways (nat_eq v 0) (not-true (nat_eq v 0) test) (eq-eqb v 0 none) in
    let (short, behind) = some-number from n v coded.0 some le in
    subst (λ (c : List ℕ). AreShort from c × (zeros_behind from c ≤ n - 1)) (sym coded.1) (short, omega (arith, behind)))

pub flag-most : (from most : ℕ) (is_set : Bool) → from + 1 ≤ most → behind_flag from is_set ≤ most
flag-most from most true le = omega arith
flag-most from most false le = le

pub short-one_flag : (from most : ℕ) → from < 22 → from + 1 ≤ most → IsShort from (λ _. most) one_flag
short-one_flag from most lt le = short-weak from from (behind_flag from) (λ _. most) one_flag (omega arith) (λ v. flag-most from most v le) (short-flag from [] lt)

-- what stands in some cases only
short-stands : {A : Type 0} (from most : ℕ) (test : Bool) (grammar : Grammar A) (absent : A) → (test ≡ true → IsShort from (λ _. most) grammar)
    → IsShort from (λ _. cond test most from) (when test grammar absent)
short-stands from most true grammar absent short = short refl
short-stands from most false grammar absent short = short-done from (λ _. from) absent (omega arith)

short-may_stand : {A : Type 0} (from most : ℕ) (test : Bool) (grammar : Grammar A) → IsShort from (λ _. most) grammar → IsShort from (λ _. cond test most from) (optional test grammar)
short-may_stand from most true grammar short = short-optional from (λ _. most) true grammar (λ _. short) (λ e. absurd (let e' : true ≡ false = e in cc))
short-may_stand from most false grammar short = short-done from (λ _. from) None (omega arith)

cond-most : (test : Bool) (x y n : ℕ) → x ≤ n → y ≤ n → cond test x y ≤ n
cond-most true x y n le le' = le
cond-most false x y n le le' = le'

-- ---- the address and the type

addresses_short : list_all (is_short_entry 15 (λ _. 5)) (entries Address) ≡ true
unfolding tables
addresses_short = refl

short-address : (most : ℕ) → IsShort 15 (λ _. 5) (address_increment most)
short-address most =
    short-bind 15 (λ _. 5) (λ _. 5) (many (address_code most)) _
    (short-many 15 (λ _. 5) (address_code most) (λ v. omega arith)
    (λ escapes. short-bind 15 (λ _. 5) (λ _. 5) _ _ (short-vlclbf 15 (λ _. 5) Address BadAddress _ addresses_short) (λ symbol s. short-done 5 (λ _. 5) _ (omega arith))))
    (λ codes s. short-done 5 (λ _. 5) _ (omega arith))

short-type : (coding : PicCoding) → IsShort 5 (λ _. 1) (macroblock_type coding)
short-type coding = short-element 5 (λ _. 1) _ BadType [] (λ kind code listed passing. short-code 5 (λ _. 1) (type_table coding) (type_symbol kind) code (short_types coding) listed)

-- ---- motion vectors

motions_short : list_all (is_short_entry 15 (λ _. 4)) (entries Motion) ≡ true
unfolding tables
motions_short = refl

short-dmvector : IsShort 13 (λ _. 14) dmvector
short-dmvector = short-element 13 (λ _. 14) _ _ [] (λ value code coded passing. subst (λ (c : List ℕ). AreShort 13 c × (zeros_behind 13 c ≤ 14)) (sym coded.1) (by_value value)) where
  by_value : (value : ℤ) → AreShort 13 (dmvector_code value) × (zeros_behind 13 (dmvector_code value) ≤ 14)
  by_value (pos zero) = ((omega arith, tt), omega arith)
  by_value (pos (suc n)) = ((omega arith, tt), omega arith)
  by_value (negsuc n) = (tt, omega arith)

short-part : (f_code : ℕ) (dual : Bool) → f_code ≤ 9 → IsShort 15 (λ _. 14) (vector_part f_code dual)
short-part f_code dual le =
    short-bind 15 (λ _. 4) (λ _. 14) _ _ (short-vlclbf 15 (λ _. 4) Motion NoCode [] motions_short)
    (λ size s. short-bind 4 (λ _. 5) (λ _. 14) _ _ (short-when 4 (λ _. 5) (not (size == 0)) one_flag false (λ _. short-one_flag 4 5 (omega arith) (omega arith)) (λ _. omega arith))
    (λ negative t. short-bind 5 (λ _. 13) (λ _. 14) _ _ (short-when 5 (λ _. 13) (has_residual f_code size) (uimsbf (f_code - 1) []) 0
    (λ _. short-weak 5 5 (λ _. 5 + (f_code - 1)) (λ _. 13) (uimsbf (f_code - 1) []) (omega arith) (λ v. omega arith) (short-uimsbf 5 (f_code - 1) [] (omega arith))) (λ _. omega arith))
    (λ residual u. short-bind 13 (λ _. 14) (λ _. 14) _ _ (short-when 13 (λ _. 14) dual dmvector (pos 0) (λ _. short-dmvector) (λ _. omega arith))
    (λ difference w. short-done 14 (λ _. 14) _ (omega arith)))))

small : (codes : List ℕ) → AllByRecursion IsFCode codes → (slice_index codes 0 ≤ 9) × (slice_index codes 1 ≤ 9)
small [] all = (omega arith, omega arith)
small (a ∷ []) all = (all.0.1, omega arith)
small (a ∷ b ∷ cs) all = (all.0.1, all.1.0.1)

short-vectors : (codes : List ℕ) (format : MotionFormat) → AllByRecursion IsFCode codes → IsShort 14 (λ _. 14) (motion_vectors codes format)
short-vectors codes format all =
    let few = small codes all in
    short-repeated 14 format.count (motion_vector codes format)
    (short-bind 14 (λ _. 15) (λ _. 14) _ _ (short-optional 14 (λ _. 15) format.select one_flag (λ _. short-one_flag 14 15 (omega arith) (omega arith)) (λ _. omega arith))
    (λ select s. short-bind 15 (λ _. 14) (λ _. 14) _ _ (short-part (slice_index codes 0) format.dual few.0)
    (λ horizontal t. short-bind 14 (λ _. 14) (λ _. 14) _ _ (short-weak 15 14 (λ _. 14) (λ _. 14) _ (omega arith) (λ v. omega arith) (short-part (slice_index codes 1) format.dual few.1))
    (λ vertical u. short-done 14 (λ _. 14) _ (omega arith)))))

-- ---- the pattern and the blocks

patterns_short : list_all (is_short_entry 14 (λ _. 4)) (entries Pattern) ≡ true
unfolding tables
patterns_short = refl

short-marker : (from : ℕ) → from ≤ 22 → IsShort from (λ _. 0) (marker_bit BadType)
short-marker from le = short-element from (λ _. 0) _ _ (rule BadType (λ bit. bit == 1) ∷ []) (λ v code coded passing.
    let one : v ≡ 1 = eqb-true v 1 (and_parts (nat_eq v 1) true passing).0 in
    let (short, behind) = some-number from 1 v coded.0 (λ none. absurd (omega (arith, one, none))) (omega arith) in
    subst (λ (c : List ℕ). AreShort from c × (zeros_behind from c ≤ 0)) (sym coded.1) (short, omega (arith, behind)))

-- where blocks may be coded at most 4 zeros stand before them
short-blocks : (coding : PicCoding) (kind : Kind) (pattern from : ℕ) → from ≤ 14 → ((kind.intra ≡ true) ⊎ (kind.pattern ≡ true) → from ≤ 4) → (kind.pattern ≡ false → pattern ≡ 0)
    → IsShort from (λ _. 14) (blocks coding kind pattern)
short-blocks coding kind pattern from le few none = by_flags kind.intra kind.pattern refl refl where
  coded : from ≤ 4 → IsShort from (λ _. 14) (blocks coding kind pattern)
  coded le' =
      short-weak 4 from (λ _. 4) (λ _. 14) (blocks coding kind pattern) le' (λ v. omega arith)
      (short-each 4 (range_with_len 0 BLOCKS) _ (λ i. short-when 4 (λ _. 4) (is_coded kind pattern i) (block (block_way coding kind i)) no_block
      (λ _. short-weak 8 4 (λ _. 1) (λ _. 4) (block (block_way coding kind i)) (omega arith) (λ v. omega arith) (short-block (block_way coding kind i))) (λ _. omega arith)))

  uncoded : (i : ℕ) → kind.intra ≡ false → pattern ≡ 0 → is_coded kind pattern i ≡ false
  uncoded i intra zero_pattern =
      ap (λ (b : Bool). b || bit_at pattern (BLOCKS - 1 - i) == 1) intra
      ∙ ap (λ (n : ℕ). bit_at n (BLOCKS - 1 - i) == 1) zero_pattern ∙ ap (λ (n : ℕ). n == 1) (bit_at-zero (BLOCKS - 1 - i))

  by_flags : (intra patterned : Bool) → kind.intra ≡ intra → kind.pattern ≡ patterned → IsShort from (λ _. 14) (blocks coding kind pattern)
  by_flags true patterned is p = coded (few (inl is))
  by_flags false true is p = coded (few (inr p))
  by_flags false false is p =
      short-weak from from (λ _. from) (λ _. 14) (blocks coding kind pattern) (omega arith) (λ v. le)
      (short-each from (range_with_len 0 BLOCKS) _ (λ i. short-when from (λ _. from) (is_coded kind pattern i) (block (block_way coding kind i)) no_block
      (λ e. absurd (both_ways (is_coded kind pattern i) (uncoded i is (none p)) e)) (λ _. omega arith)))

-- ---- the whole macroblock

forward_codes : (coding : PicCoding) (kind : Kind) → IsCoding coding → HasKind coding kind → has_forward coding kind ≡ true → AllByRecursion IsFCode (f_codes coding 0)
forward_codes coding kind is has stands = is.forward (elim (or_cases kind.forward (has_concealment coding kind) stands) [
  | inl forward ↦ inl (has.forward forward)
  | inr conceals ↦ inr (and_parts kind.intra coding.concealment conceals).1
])

backward_codes : (coding : PicCoding) (kind : Kind) → IsCoding coding → HasKind coding kind → kind.backward ≡ true → AllByRecursion IsFCode (f_codes coding 1)
backward_codes coding kind is has stands =
    let (other, neither) = has.backward stands in
    let range = is.kind in
    is.backward (let three : coding.kind ≡ 3 = omega (arith, range.0, range.1, other, neither) in three)

abbrev behind_forward : PicCoding → Kind → ℕ
behind_forward coding kind = cond (has_forward coding kind) 14 4

abbrev behind_backward : PicCoding → Kind → ℕ
behind_backward coding kind = cond kind.backward 14 (behind_forward coding kind)

abbrev behind_marker : PicCoding → Kind → ℕ
behind_marker coding kind = cond (has_concealment coding kind) 0 (behind_backward coding kind)

abbrev behind_pattern : PicCoding → Kind → ℕ
behind_pattern coding kind = cond kind.pattern 4 (behind_marker coding kind)

few-intra : (pattern conceals backward forward : Bool) → pattern ≡ false → backward ≡ false → forward ≡ false
    → cond pattern 4 (cond conceals 0 (cond backward 14 (cond (forward || conceals) 14 4))) ≤ 4
few-intra true conceals backward forward p b f = absurd (let e : true ≡ false = p in cc)
few-intra false true backward forward p b f = omega arith
few-intra false false true forward p b f = absurd (let e : true ≡ false = b in cc)
few-intra false false false true p b f = absurd (let e : true ≡ false = f in cc)
few-intra false false false false p b f = omega arith

few-before_blocks : (coding : PicCoding) (kind : Kind) → HasKind coding kind → (kind.intra ≡ true) ⊎ (kind.pattern ≡ true) → behind_pattern coding kind ≤ 4
few-before_blocks coding kind has (inl intra) = let (forward, backward, pattern) = has.alone intra in few-intra kind.pattern
    (has_concealment coding kind) kind.backward kind.forward pattern backward forward
few-before_blocks coding kind has (inr pattern) = subst (λ (b : Bool). cond b 4 (behind_marker coding kind) ≤ 4) (sym pattern) (omega arith)

none-absent : (test : Bool) (pattern : ℕ) → IsSpellable (when test (vlclbf Pattern BadPattern []) 0) pattern → test ≡ false → pattern ≡ 0
none-absent true pattern s e = absurd (let e' : true ≡ false = e in cc)
none-absent false pattern s e = s.spelled.0

pub short-macroblock : (coding : PicCoding) (first : Bool) (columns_left : ℕ) → IsCoding coding → IsShort 14 (λ _. 14) (macroblock coding first columns_left)
unfolding macroblock
short-macroblock coding first columns_left is =
    short-bind 14 (λ _. 5) (λ _. 14) _ _ (short-weak 15 14 (λ _. 5) (λ _. 5) _ (omega arith) (λ v. omega arith) (short-address (most_increment coding first columns_left)))
    (λ increment s1. short-bind 5 (λ _. 1) (λ _. 14) _ _ (short-type coding)
    (λ kind s2.
    let has = kind-of kind coding s2.spelled.0 s2.spelled.1 in
    let forward_most = cond-most (has_forward coding kind) 14 4 14 (omega arith) (omega arith) in
    let backward_most = cond-most kind.backward 14 (behind_forward coding kind) 14 (omega arith) forward_most in
    let marker_most = cond-most (has_concealment coding kind) 0 (behind_backward coding kind) 14 (omega arith) backward_most in
    let pattern_most = cond-most kind.pattern 4 (behind_marker coding kind) 14 (omega arith) marker_most in
    short-bind 1 (λ _. 1) (λ _. 14) _ _ (short-when 1 (λ _. 1) (has_motion_type coding kind)
    (uimsbf 2 (rule BadType (λ number. not (number == 0)) ∷ [])) (usual_motion_type coding) (λ _. short-number 1 2 (omega arith))
    (λ _. omega arith))
    (λ motion s3. short-bind 1 (λ _. 2) (λ _. 14) _ _ (short-when 1 (λ _. 2) (has_dct_type coding kind) one_flag false (λ _. short-one_flag 1 2 (omega arith) (omega arith)) (λ _. omega arith))
    (λ field_dct s4. short-bind 2 (λ _. 4) (λ _. 14) _ _ (short-optional 2 (λ _. 4) kind.quant quantiser_scale_code (λ _. short-number 2 5 (omega arith)) (λ _. omega arith))
    (λ code s5. short-bind 4 (λ _. behind_forward coding kind) (λ _. 14) _ _ (short-stands 4 14 (has_forward coding kind) (motion_vectors (f_codes coding 0) (motion_format coding motion)) []
    (λ stands. short-weak 14 4 (λ _. 14) (λ _. 14) _ (omega arith) (λ v. omega arith) (short-vectors (f_codes coding 0) (motion_format coding motion) (forward_codes coding kind is has stands))))
    (λ forward s6. short-bind (behind_forward coding kind) (λ _. behind_backward coding kind) (λ _. 14) _ _
    (short-stands (behind_forward coding kind) 14 kind.backward (motion_vectors (f_codes coding 1) (motion_format coding motion)) []
    (λ stands. short-weak 14 (behind_forward coding kind) (λ _. 14) (λ _. 14) _ forward_most (λ v. omega arith)
    (short-vectors (f_codes coding 1) (motion_format coding motion) (backward_codes coding kind is has stands))))
    (λ backward s7. short-bind (behind_backward coding kind) (λ _. behind_marker coding kind) (λ _. 14) _ _
    (short-may_stand (behind_backward coding kind) 0 (has_concealment coding kind) (marker_bit BadType)
    (short-marker (behind_backward coding kind) (omega (arith, backward_most))))
    (λ marker s8. short-bind (behind_marker coding kind) (λ _. behind_pattern coding kind) (λ _. 14) _ _ (short-stands (behind_marker coding kind) 4 kind.pattern (vlclbf Pattern BadPattern []) 0
    (λ stands. short-weak 14 (behind_marker coding kind) (λ _. 4) (λ _. 4) _ marker_most (λ v. omega arith) (short-vlclbf 14 (λ _. 4) Pattern BadPattern [] patterns_short)))
    (λ pattern s9. short-bind (behind_pattern coding kind) (λ _. 14) (λ _. 14) _ _
    (short-blocks coding kind pattern (behind_pattern coding kind) pattern_most (few-before_blocks coding kind has)
    (none-absent kind.pattern pattern s9))
    (λ blocks s10. short-done 14 (λ _. 14) _ (omega arith)))))))))))
