-- Macroblocks read part by part (ISO/IEC 13818-2, 6.2.5).
use Rattle.std.proofs.Common.{
  ◌≡◌,
  ◌==◌,
  ◌-◌,
  ◌^◌,
  ◌<◌,
  ℕ,
  zero,
  suc,
  not,
  List,
  [],
  ◌∷◌,
  length,
  Option,
  Some,
  None,
  IsNone,
  OnOk,
  IfErr,
  IsErrOf,
  MatchResult,
  Result,
  Ok,
  Err,
  Bool,
  false,
  if◌then◌else◌,
  slice_index,
  slice_index_or,
  ap,
  subst,
  arith,
}
use Rattle.std.specs.List.{AllByRecursion}
use Rattle.shelf_io.specs.declared.source.Source.{Ghosts}
use Rattle.bit_cursor.specs.declared.bit_reader.BitReader.{BitReader}
use Rattle.bit_cursor.specs.BitReader.{bits_left, place, KeepsSource}
use Rattle.prefix_codes.specs.declared.table_name.TableName.TheVariants.{Pattern}
use Rattle.syntax_types.specs.declared.block.Block.{Block}
use Rattle.syntax_types.specs.declared.macroblock.Kind.{Kind}
use Rattle.syntax_types.specs.declared.macroblock.Macroblock.{Macroblock}
use Rattle.syntax_types.specs.declared.macroblock.Vector.{Vector}
use Rattle.syntax_types.specs.declared.picture.PicCoding.{PicCoding}
use Rattle.picture_grammar.specs.Refusal.Refusal.{BadType, BadPattern}
use Rattle.picture_grammar.specs.Grammar.{Grammar, done, ◌>>=◌, optional, when}
use Rattle.picture_grammar.specs.Element.{vlclbf, uimsbf, one_flag, marker_bit, rule}
use Rattle.picture_grammar.specs.Exact.{IsExact, IsLocal}
use Rattle.picture_grammar.specs.Motion.{MotionFormat, motion_vector, motion_vectors}
use Rattle.picture_grammar.specs.Macroblock.{
  address_code,
  address_increment,
  most_increment,
  macroblock_type,
  has_motion_type,
  usual_motion_type,
  motion_type,
  has_dct_type,
  dct_type,
  quantiser_scale_code,
  has_forward,
  has_concealment,
  f_codes,
  motion_format,
  blocks,
  macroblock,
}
use Rattle.picture_grammar.proofs.LocalLaws.{local-bind, local-element, local-done, local-optional, local-many}
use Rattle.picture_laws.proofs.LocalHeaders.{local-when, local-repeated, local-uimsbf, local-address}
use Rattle.grammar_reading.specs.BitsRead.{Reads, Explains, BeginsWith}
use Rattle.grammar_reading.proofs.BitsRead.{read-comes, refused-comes}
use Rattle.macroblock_reader.specs.declared.fault.SliceFault.{SliceFault}
use Rattle.macroblock_reader.specs.SliceFault.{refusal_told}
use Rattle.macroblock_reader.specs.Private.Answers.{Answers, Course, answer_as}
use Rattle.macroblock_reader.proofs.Courses.{course-start}
use Rattle.macroblock_reader.proofs.Vectors.{local-vector}

-- ---- what is left of a macroblock behind each of its parts

abbrev pub from_10 : ℕ → Kind → ℕ → Bool → Option ℕ → List Vector → List Vector → ℕ → List Block → Grammar Macroblock
from_10 increment kind motion field_dct code forward backward pattern found = done (record {
  skipped_before = increment - 1;
  kind = kind;
  motion_type = motion;
  field_dct = field_dct;
  code = code;
  forward = record { items = forward };
  backward = record { items = backward };
  pattern = pattern;
  blocks = found;
})

module _ (coding : PicCoding) where
  abbrev pub from_9 : ℕ → Kind → ℕ → Bool → Option ℕ → List Vector → List Vector → ℕ → Grammar Macroblock
  from_9 increment kind motion field_dct code forward backward pattern = blocks coding kind pattern >>= from_10 increment kind motion field_dct code forward backward pattern

  abbrev pub from_8 : ℕ → Kind → ℕ → Bool → Option ℕ → List Vector → List Vector → Grammar Macroblock
  from_8 increment kind motion field_dct code forward backward = when kind.pattern (vlclbf Pattern BadPattern []) 0 >>= from_9 increment kind motion field_dct code forward backward

  abbrev pub from_7 : ℕ → Kind → ℕ → Bool → Option ℕ → List Vector → List Vector → Grammar Macroblock
  from_7 increment kind motion field_dct code forward backward = optional (has_concealment coding kind) (marker_bit BadType) >>= λ _. from_8 increment kind motion field_dct code forward backward

  abbrev pub from_6 : ℕ → Kind → ℕ → Bool → Option ℕ → List Vector → Grammar Macroblock
  from_6 increment kind motion field_dct code forward = when kind.backward (motion_vectors (f_codes coding 1) (motion_format coding motion)) [] >>= from_7 increment kind motion field_dct code forward

  abbrev pub from_5 : ℕ → Kind → ℕ → Bool → Option ℕ → Grammar Macroblock
  from_5 increment kind motion field_dct code = when (has_forward coding kind) (motion_vectors (f_codes coding 0) (motion_format coding motion)) [] >>= from_6 increment kind motion field_dct code

  abbrev pub from_4 : ℕ → Kind → ℕ → Bool → Grammar Macroblock
  from_4 increment kind motion field_dct = optional kind.quant quantiser_scale_code >>= from_5 increment kind motion field_dct

  abbrev pub from_3 : ℕ → Kind → ℕ → Grammar Macroblock
  from_3 increment kind motion = dct_type coding kind >>= from_4 increment kind motion

  abbrev pub from_2 : ℕ → Kind → Grammar Macroblock
  from_2 increment kind = motion_type coding kind >>= from_3 increment kind

  abbrev pub from_1 : ℕ → Grammar Macroblock
  from_1 increment = macroblock_type coding >>= from_2 increment

pub macroblock-start : {S : Type 0} {g : Ghosts S} (coding : PicCoding) (first : Bool) (columns_left : ℕ) (reader : BitReader S g) → KeepsSource reader reader
    → Course (macroblock coding first columns_left) (address_increment (most_increment coding first columns_left) >>= from_1 coding) reader reader
unfolding macroblock
macroblock-start coding first columns_left reader keeps = course-start (macroblock coding first columns_left) reader keeps

-- ---- no part looks ahead

pub local-kind : (coding : PicCoding) → IsLocal (macroblock_type coding)
local-kind coding = local-element _ _ _

pub local-motion_type : (coding : PicCoding) (kind : Kind) → IsLocal (motion_type coding kind)
local-motion_type coding kind = local-when (has_motion_type coding kind) (uimsbf 2 (rule BadType (λ number. not (number == 0)) ∷ [])) (usual_motion_type coding) (local-uimsbf 2 _)

pub local-dct_type : (coding : PicCoding) (kind : Kind) → IsLocal (dct_type coding kind)
local-dct_type coding kind = local-when (has_dct_type coding kind) one_flag false (local-element _ _ _)

pub local-code : (stands : Bool) → IsLocal (optional stands quantiser_scale_code)
local-code stands = local-optional stands quantiser_scale_code (local-uimsbf 5 _)

pub local-vectors : (stand : Bool) (codes : List ℕ) (format : MotionFormat) → IsLocal (when stand (motion_vectors codes format) [])
local-vectors stand codes format = local-when stand (motion_vectors codes format) [] (local-repeated format.count (motion_vector codes format) (local-vector codes format))

pub local-marker : (stands : Bool) → IsLocal (optional stands (marker_bit BadType))
local-marker stands = local-optional stands (marker_bit BadType) (local-uimsbf 1 _)

pub local-pattern : (stands : Bool) → IsLocal (when stands (vlclbf Pattern BadPattern []) 0)
local-pattern stands = local-when stands (vlclbf Pattern BadPattern []) 0 (local-element _ _ _)

-- ---- answers under other names of the same

module _ {S : Type 0} {g : Ghosts S} {old new : BitReader S g} where
  pub vectors-as : {stands stands' : Bool} {codes codes' : List ℕ} {format format' : MotionFormat} {result : Result (List Vector) SliceFault} → stands ≡ stands' → codes ≡ codes' → format ≡ format'
      → Answers ⊥ (when stands (motion_vectors codes format) []) result old new → Answers ⊥ (when stands' (motion_vectors codes' format') []) result old new
  vectors-as {stands} {stands'} {codes} {codes'} {format} {format'} {result} e f h a =
      subst (λ (b : Bool). Answers ⊥ (when b (motion_vectors codes' format') []) result old new) e
      (subst (λ (cs : List ℕ). Answers ⊥ (when stands (motion_vectors cs format') []) result old new) f
      (subst (λ (m : MotionFormat). Answers ⊥ (when stands (motion_vectors codes m) []) result old new) h a))

  pub marker-as : {stands stands' : Bool} (result : Result (Unit {0}) SliceFault) → stands ≡ stands'
      → Answers ⊥ (optional stands (marker_bit BadType)) (answer_as (λ _. if stands then Some 1 else None) result) old new
      → Answers ⊥ (optional stands' (marker_bit BadType)) (answer_as (λ _. if stands' then Some 1 else None) result) old new
  marker-as result e a = subst (λ (b : Bool). Answers ⊥ (optional b (marker_bit BadType)) (answer_as (λ _. if b then Some 1 else None) result) old new) e a

-- ---- the f_codes of a direction

below-at : (xs : List ℕ) (i : ℕ) → length xs ≡ 2 → AllByRecursion (λ n. n < 2 ^ 4) xs → i < 2 → slice_index xs i < 2 ^ 4
below-at [] i two all lt = absurd (omega (arith, two))
below-at (x ∷ []) i two all lt = absurd (omega (arith, two))
below-at (x ∷ y ∷ []) zero two all lt = all.0
below-at (x ∷ y ∷ []) (suc zero) two all lt = all.1.0
below-at (x ∷ y ∷ []) (suc (suc i)) two all lt = absurd (omega (arith, lt))
below-at (x ∷ y ∷ z ∷ xs) i two all lt = absurd (omega (arith, two))

pub codes-below : (xs : List (List ℕ)) (d i : ℕ) → length xs ≡ 2
    → AllByRecursion (λ codes. (length codes ≡ 2) × AllByRecursion (λ n. n < 2 ^ 4) codes) xs → d < 2 → i < 2
    → slice_index (slice_index_or xs d []) i < 2 ^ 4
codes-below [] d i two all lt lt' = absurd (omega (arith, two))
codes-below (x ∷ []) d i two all lt lt' = absurd (omega (arith, two))
codes-below (x ∷ y ∷ []) zero i two all lt lt' = below-at x i all.0.0 all.0.1 lt'
codes-below (x ∷ y ∷ []) (suc zero) i two all lt lt' = below-at y i all.1.0.0 all.1.0.1 lt'
codes-below (x ∷ y ∷ []) (suc (suc d)) i two all lt lt' = absurd (omega (arith, lt))
codes-below (x ∷ y ∷ z ∷ xs) d i two all lt lt' = absurd (omega (arith, two))

-- ---- what the public calls say of the whole answer

module _ {M A T S : Type 0} {g : Ghosts S} (grammar : Grammar A) (value : A) (old new : BitReader S g) where
  pub whole-ok : (result : Result T SliceFault) → Answers M grammar (answer_as (λ _. value) result) old new → OnOk result (Reads grammar value old new)
  whole-ok (Ok x) a = a.ok
  whole-ok (Err fault) a = tt

  pub whole-refused : (result : Result T SliceFault) → Answers M grammar (answer_as (λ _. value) result) old new → IfErr result (λ fault. Explains grammar old (refusal_told fault))
  whole-refused (Ok x) a = tt
  whole-refused (Err fault) a = a.refused

  pub whole-exact : IsExact grammar → (other : A) (rest : List ℕ) → BeginsWith grammar other old rest → (result : Result T SliceFault) → Answers M grammar (answer_as (λ _. value) result) old new
      → MatchResult result (λ _. (value ≡ other) × (bits_left new ≡ Some rest)) (λ fault. IsNone (refusal_told fault))
  whole-exact exact other rest comes (Ok x) a = read-comes exact rest a.ok comes
  whole-exact exact other rest comes (Err fault) a = refused-comes exact other (bits_left old) (place old) (refusal_told fault) rest a.refused comes

pub whole-fault : {A T : Type 0} (value : A) (result : Result T SliceFault) (fault : SliceFault) → IsErrOf result fault → IsErrOf (answer_as (λ _. value) result) fault
whole-fault value (Ok x) fault is = absurd (let never = is in cc)
whole-fault value (Err f) fault is = ap Err (let same : f ≡ fault = cc in same)
