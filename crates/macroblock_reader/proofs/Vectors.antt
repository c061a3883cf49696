-- Motion vectors (ISO/IEC 13818-2, 6.2.5.2).
use Rattle.std.proofs.Common.{
  ◌≡◌,
  ◌==◌,
  ◌⊎◌,
  ◌+◌,
  ◌-◌,
  ◌^◌,
  ◌%◌,
  ◌<◌,
  ◌≤◌,
  ℕ,
  zero,
  suc,
  ℤ,
  pos,
  negsuc,
  unsigned_abs,
  not,
  List,
  [],
  ◌∷◌,
  ◌++◌,
  length,
  take,
  drop,
  Option,
  Some,
  None,
  IfSome,
  Result,
  Ok,
  Err,
  Bool,
  true,
  false,
  if◌then◌else◌,
  slice_index,
  refl,
  sym,
  ap,
  subst,
  ◌∙◌,
  inl,
  inr,
  arith,
}
use Rattle.std.specs.Option.{option_map}
use Rattle.std.proofs.lemmas.List.{take-append-drop, take_all, take-take}
use Rattle.shelf_io.specs.declared.source.Source.{Ghosts}
use Rattle.bit_lists.specs.Bits.{IsPrefix, bits_of, front_of}
use Rattle.bit_cursor.specs.declared.bit_reader.BitReader.{BitReader}
use Rattle.bit_cursor.specs.Shown.{IsWindow}
use Rattle.bit_cursor.specs.BitReader.{bits_left, place, KeepsSource}
use Rattle.shelf_io.specs.Source.{without_front}
use Rattle.prefix_codes.specs.declared.table_name.TableName.TheVariants.{Motion}
use Rattle.syntax_types.specs.declared.macroblock.Vector.{Vector}
use Rattle.picture_grammar.specs.Refusal.Refusal.{NoCode, End}
use Rattle.picture_grammar.specs.Grammar.{Grammar, done, ◌>>=◌, optional, when, repeated}
use Rattle.picture_grammar.specs.Element.{vlclbf, uimsbf, one_flag}
use Rattle.picture_grammar.specs.Exact.{IsLocal}
use Rattle.picture_grammar.specs.Block.{signed}
use Rattle.picture_grammar.specs.Motion.{MotionFormat, Part, dmvector, dmvector_code, has_residual, vector_part, motion_vector}
use Rattle.picture_grammar.proofs.LocalLaws.{local-bind, local-element, local-done, local-optional}
use Rattle.picture_laws.proofs.LocalHeaders.{local-when, local-uimsbf}
use Rattle.grammar_reading.specs.BitsRead.{ExplainsFrom}
use Rattle.grammar_reading.proofs.ReadElements.{reads-code}
use Rattle.macroblock_reader.specs.declared.fault.SliceFault.{SliceFault}
use Rattle.macroblock_reader.specs.declared.fault.SliceFault.TheVariants as fault
use Rattle.macroblock_reader.specs.Private.Answers.{Answers, answer_as, Course}
use Rattle.macroblock_reader.proofs.Courses.{advances-kept, answers-read, answers-told, answers-as, answers-first, course-start, course-on, course-last}

-- ---- dmvector

abbrev DmvectorCode : ℤ → List ℕ → Type 0
DmvectorCode value code = (unsigned_abs value ≤ 1) × (code ≡ dmvector_code value)

abbrev lead : List ℕ → ℕ
lead [] = 0
lead (bit ∷ bits) = bit

-- no bit, or one that isn't 0, is within a code
not-whole : (bits : List ℕ) → (bits ≡ []) ⊎ (bits ≡ 1 ∷ []) → (value : ℤ) → IsPrefix (dmvector_code value) bits → ⊥
not-whole bits (inl e) (pos zero) p = let q = ap length (subst (IsPrefix (0 ∷ [])) e p) in omega (arith, q)
not-whole bits (inl e) (pos (suc n)) p = let q = ap length (subst (IsPrefix (1 ∷ 0 ∷ [])) e p) in omega (arith, q)
not-whole bits (inl e) (negsuc n) p = let q = ap length (subst (IsPrefix (1 ∷ 1 ∷ [])) e p) in omega (arith, q)
not-whole bits (inr e) (pos zero) p = let q = ap lead (subst (IsPrefix (0 ∷ [])) e p) in omega (arith, q)
not-whole bits (inr e) (pos (suc n)) p = let q = ap length (subst (IsPrefix (1 ∷ 0 ∷ [])) e p) in omega (arith, q)
not-whole bits (inr e) (negsuc n) p = let q = ap length (subst (IsPrefix (1 ∷ 1 ∷ [])) e p) in omega (arith, q)

begins-one : (bits : List ℕ) → (bits ≡ []) ⊎ (bits ≡ 1 ∷ []) → IsPrefix bits (1 ∷ 0 ∷ [])
begins-one bits (inl e) = subst (λ b. IsPrefix b (1 ∷ 0 ∷ [])) (sym e) refl
begins-one bits (inr e) = subst (λ b. IsPrefix b (1 ∷ 0 ∷ [])) (sym e) refl

dmvector-cut : (bits : List ℕ) → (bits ≡ []) ⊎ (bits ≡ 1 ∷ []) → dmvector.Refuses bits End bits
dmvector-cut bits few = (
  refl,
  inr (inr (
    record { value = pos 1; code = 1 ∷ 0 ∷ []; coded = (omega arith, refl); passing = refl; agrees = inr (begins-one bits few) },
    (λ s. not-whole bits few s.value (subst (λ c. IsPrefix c bits) s.coded.1 s.first)),
    refl,
  )),
)

two-bits : (shown : ℕ) → shown < 4 → (shown < 2 → take 1 (bits_of 2 shown) ≡ 0 ∷ []) × (shown ≡ 2 → bits_of 2 shown ≡ 1 ∷ 0 ∷ [])
    × (shown ≡ 3 → bits_of 2 shown ≡ 1 ∷ 1 ∷ []) × (shown ≡ 2 → take 1 (bits_of 2 shown) ≡ 1 ∷ [])
unfolding bits_of
two-bits zero lt = (λ _. refl, λ e. absurd (omega (arith, e)), λ e. absurd (omega (arith, e)), λ e. absurd (omega (arith, e)))
two-bits (suc zero) lt = (λ _. refl, λ e. absurd (omega (arith, e)), λ e. absurd (omega (arith, e)), λ e. absurd (omega (arith, e)))
two-bits (suc (suc zero)) lt = (λ l. absurd (omega (arith, l)), λ e. refl, λ e. absurd (omega (arith, e)), λ e. refl)
two-bits (suc (suc (suc zero))) lt = (λ l. absurd (omega (arith, l)), λ e. absurd (omega (arith, e)), λ e. refl, λ e. absurd (omega (arith, e)))
two-bits (suc (suc (suc (suc n)))) lt = absurd (omega (arith, lt))

empty : (bits : List ℕ) → length bits ≡ 0 → bits ≡ []
empty [] e = refl
empty (bit ∷ bits) e = absurd (omega (arith, e))

module _ {S : Type 0} {g : Ghosts S} (shown known : ℕ) (old : BitReader S g) (shows : IfSome (bits_left old) (λ bits. IsWindow 2 bits shown known))
    (below : shown < 4) (unknown : shown % 2 ^ (2 - known) ≡ 0) where
  cut-at : (told : Option (List ℕ)) (at : ℕ) → IfSome told (λ bits. IsWindow 2 bits shown known) → (known ≡ 0) ⊎ ((known ≡ 1) × (2 ≤ shown))
      → IfSome told (λ bits. ExplainsFrom dmvector (Some (record { refusal = End; at = at })) bits at)
  cut-at None at s few = tt
  cut-at (Some bits) at s few = record { front = []; left = bits; split = refl; refused = dmvector-cut bits (few-bits few); moved = omega arith } where
    few-bits : (known ≡ 0) ⊎ ((known ≡ 1) × (2 ≤ shown)) → (bits ≡ []) ⊎ (bits ≡ 1 ∷ [])
    few-bits (inl e) = inl (empty bits (let k = s.known in omega (arith, e)))
    few-bits (inr (e, ge)) =
        let one : length bits ≡ 1 = (let k = s.known in omega (arith, e)) in
        let even : shown % 2 ≡ 0 = subst (λ k. shown % 2 ^ (2 - k) ≡ 0) e unknown in
        let is : shown ≡ 2 = omega (arith, below, ge, even) in
        inr (sym (take_all 2 bits (omega arith)) ∙ sym s.front ∙ ap (λ k. front_of 2 shown k) e ∙ (two-bits shown below).3 is)

  pub dmvector-end : (at : ℕ) (new : BitReader S g) → at ≡ place old → (known ≡ 0) ⊎ ((known ≡ 1) × (2 ≤ shown)) → bits_left new ≡ bits_left old
      → place new ≡ place old → KeepsSource old new → Answers ⊥ dmvector (Err (fault.End at)) old new
  dmvector-end at new is few left moved keeps =
      subst (λ p. Answers ⊥ dmvector (Err (fault.End p)) old new) (sym is)
      (answers-told dmvector (fault.End (place old)) _ old new refl (cut-at (bits_left old) (place old) shows few)
      (advances-kept (bits_left old) (bits_left new) (place old) (place new) left moved) keeps)

  front-at : (told : Option (List ℕ)) (n : ℕ) (code : List ℕ) → IfSome told (λ bits. IsWindow 2 bits shown known) → n ≤ known → known ≤ 2
      → take n (bits_of 2 shown) ≡ code → told ≡ option_map (λ rest. code ++ rest) (without_front told n)
  front-at None n code s le few is = refl
  front-at (Some bits) n code s le few is =
      let front : take n bits ≡ code = sym (take-take n 2 bits (omega arith)) ∙ ap (take n) (sym s.front) ∙ take-take n known (bits_of 2 shown) le ∙ is in
      ap Some (sym (take-append-drop n bits) ∙ ap (λ f. f ++ drop n bits) front)

  pub dmvector-read : (value : ℤ) (n : ℕ) (new : BitReader S g) → unsigned_abs value ≤ 1 → length (dmvector_code value) ≡ n → n ≤ known → known ≤ 2 → take n (bits_of 2 shown) ≡ dmvector_code value
      → bits_left new ≡ without_front (bits_left old) n → place new ≡ place old + n → KeepsSource old new → Answers ⊥ dmvector (Ok value) old new
  dmvector-read value n new small counted le few is left moved keeps =
      answers-read dmvector value old new
      (reads-code DmvectorCode End [] value (dmvector_code value) (small, refl) (bits_left old) (bits_left new) (place old) (place new) refl
      (front-at (bits_left old) n (dmvector_code value) shows le few is ∙ ap (option_map (λ rest. dmvector_code value ++ rest)) (sym left))
      (moved ∙ ap (λ k. place old + k) (sym counted))) keeps

  -- the codes by the bits that are shown
  pub zero-code : shown < 2 → take 1 (bits_of 2 shown) ≡ 0 ∷ []
  zero-code lt = (two-bits shown below).0 lt

  pub one-code : shown ≡ 2 → take 2 (bits_of 2 shown) ≡ 1 ∷ 0 ∷ []
  one-code e = ap (take 2) ((two-bits shown below).1 e)

  pub minus-code : shown ≡ 3 → take 2 (bits_of 2 shown) ≡ 1 ∷ 1 ∷ []
  minus-code e = ap (take 2) ((two-bits shown below).2 e)

-- ---- a part of a vector

module _ (f_code : ℕ) (dual : Bool) where
  abbrev pub part_4 : ℕ → Bool → ℕ → ℤ → Grammar Part
  part_4 size negative residual difference = done (record { code = signed size negative; residual = residual; difference = difference })

  abbrev pub part_3 : ℕ → Bool → ℕ → Grammar Part
  part_3 size negative residual = when dual dmvector (pos 0) >>= part_4 size negative residual

  abbrev pub part_2 : ℕ → Bool → Grammar Part
  part_2 size negative = when (has_residual f_code size) (uimsbf (f_code - 1) []) 0 >>= part_3 size negative

  abbrev pub part_1 : ℕ → Grammar Part
  part_1 size = when (not (size == 0)) one_flag false >>= part_2 size

pub local-residual : (f_code size : ℕ) → IsLocal (when (has_residual f_code size) (uimsbf (f_code - 1) []) 0)
local-residual f_code size = local-when (has_residual f_code size) (uimsbf (f_code - 1) []) 0 (local-uimsbf (f_code - 1) [])

pub local-sign : (size : ℕ) → IsLocal (when (not (size == 0)) one_flag false)
local-sign size = local-when (not (size == 0)) one_flag false (local-element _ _ _)

pub local-difference : (dual : Bool) → IsLocal (when dual dmvector (pos 0))
local-difference dual = local-when dual dmvector (pos 0) (local-element _ _ _)

pub local-size : IsLocal (vlclbf Motion NoCode [])
local-size = local-element _ _ _

pub local-part : (f_code : ℕ) (dual : Bool) → IsLocal (vector_part f_code dual)
local-part f_code dual =
    local-bind _ (part_1 f_code dual) local-size
    (λ size. local-bind _ (part_2 f_code dual size) (local-sign size)
    (λ negative. local-bind _ (part_3 f_code dual size negative) (local-residual f_code size)
    (λ residual. local-bind _ (part_4 f_code dual size negative residual) (local-difference dual) (λ difference. local-done _))))

-- ---- a vector

module _ (codes : List ℕ) (format : MotionFormat) where
  abbrev pub vector_3 : Option Bool → Part → Part → Grammar Vector
  vector_3 select horizontal vertical = done (record {
    select = select;
    code = horizontal.code ∷ vertical.code ∷ [];
    residual = horizontal.residual ∷ vertical.residual ∷ [];
    dual = if format.dual then Some (horizontal.difference ∷ vertical.difference ∷ []) else None;
  })

  abbrev pub vector_2 : Option Bool → Part → Grammar Vector
  vector_2 select horizontal = vector_part (slice_index codes 1) format.dual >>= vector_3 select horizontal

  abbrev pub vector_1 : Option Bool → Grammar Vector
  vector_1 select = vector_part (slice_index codes 0) format.dual >>= vector_2 select

pub local-select : (select : Bool) → IsLocal (optional select one_flag)
local-select select = local-optional select one_flag (local-element _ _ _)

pub local-vector : (codes : List ℕ) (format : MotionFormat) → IsLocal (motion_vector codes format)
local-vector codes format =
    local-bind _ (vector_1 codes format) (local-select format.select)
    (λ select. local-bind _ (vector_2 codes format select) (local-part _ _) (λ horizontal. local-bind _ (vector_3 codes format select horizontal) (local-part _ _) (λ vertical. local-done _)))

-- ---- one or two of them

local-one : {A : Type 0} (grammar : Grammar A) → IsLocal grammar → IsLocal (repeated 1 grammar)
local-one grammar local = local-bind grammar (λ v. done [] >>= λ values. done (v ∷ values)) local (λ v. local-bind (done []) (λ values. done (v ∷ values)) (local-done _) (λ values. local-done _))

module _ {A S : Type 0} {g : Ghosts S} (grammar : Grammar A) (old : BitReader S g) where
  pub one-read : {M : Type 0} (two : Bool) (value : A) (new : BitReader S g) → two ≡ false → Answers M grammar (Ok value) old new
      → Answers M (repeated (if two then 2 else 1) grammar) (Ok (value ∷ [])) old new
  one-read {M} two value new e a =
      subst (λ (b : Bool). Answers M (repeated (if b then 2 else 1) grammar) (Ok (value ∷ [])) old new) (sym e)
      (answers-as grammar (repeated 1 grammar) (λ v. v ∷ []) old new (λ v bits rest s. (v, rest, s, ([], rest, (refl, refl), (refl, refl)))) (λ bits left refusal r. inl r) (Ok value) a)

  pub none-read : {M : Type 0} (two : Bool) (refused : SliceFault) (new : BitReader S g) → Answers M grammar (Err refused) old new
      → Answers M (repeated (if two then 2 else 1) grammar) (Err refused) old new
  none-read true refused new a = answers-first grammar (λ value. repeated 1 grammar >>= λ values. done (value ∷ values)) a
  none-read false refused new a = answers-first grammar (λ value. repeated 0 grammar >>= λ values. done (value ∷ values)) a

  pub two-read : {M : Type 0} (keeps_on : (x y z : S) → g.keeps x y → g.keeps y z → g.keeps x z) → IsLocal grammar → (start : KeepsSource old old)
      → (two : Bool) (value : A) (middle new : BitReader S g) → two ≡ true → (result : Result A SliceFault)
      → Answers M grammar (Ok value) old middle → Answers M grammar result middle new → Answers M (repeated (if two then 2 else 1) grammar) (answer_as (λ other. value ∷ other ∷ []) result) old new
  two-read {M} keeps_on local start two value middle new e result a b =
      let c = course-on keeps_on grammar (λ v. repeated 1 grammar >>= λ values. done (v ∷ values)) local (course-start (repeated 2 grammar) old start) a in
      let second = answers-as grammar (repeated 1 grammar) (λ v. v ∷ []) middle new (λ v bits rest s. (v, rest, s, ([], rest, (refl, refl), (refl, refl)))) (λ bits left refusal r. inl r) result b in
      subst (λ (t : Bool). Answers M (repeated (if t then 2 else 1) grammar) (answer_as (λ other. value ∷ other ∷ []) result) old new) (sym e)
      (by_result keeps_on local result c second) where
        by_result : (keeps_on : (x y z : S) → g.keeps x y → g.keeps y z → g.keeps x z) → IsLocal grammar → (result : Result A SliceFault)
            → Course (repeated 2 grammar) (repeated 1 grammar >>= λ values. done (value ∷ values)) old middle
            → Answers M (repeated 1 grammar) (answer_as (λ v. v ∷ []) result) middle new → Answers M (repeated 2 grammar) (answer_as (λ other. value ∷ other ∷ []) result) old new
        by_result keeps_on local (Ok other) c s = course-last keeps_on (repeated 1 grammar) (λ values. value ∷ values) (local-one grammar local) (Ok (other ∷ [])) c s
        by_result keeps_on local (Err refused) c s = course-last keeps_on (repeated 1 grammar) (λ values. value ∷ values) (local-one grammar local) (Err refused) c s
