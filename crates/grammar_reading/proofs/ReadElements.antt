-- Numbers and flags of a grammar by the bits that a reader gives: read, refused by a rule, or cut by the end.
use Rattle.std.proofs.Common.{
  ◌≡◌,
  ◌==◌,
  ◌+◌,
  ◌-◌,
  ◌*◌,
  ◌^◌,
  ◌<◌,
  ◌≤◌,
  ℕ,
  zero,
  suc,
  List,
  [],
  ◌∷◌,
  ◌++◌,
  length,
  replicate,
  take,
  drop,
  Option,
  Some,
  None,
  IfSome,
  IfOk,
  Result,
  Ok,
  Err,
  Bool,
  true,
  false,
  refl,
  sym,
  ap,
  ap₂,
  subst,
  ◌∙◌,
  inl,
  inr,
  arith,
}
use Rattle.std.specs.Option.{option_map}
use Rattle.std.proofs.lemmas.List.{length-append, length-replicate, take-append-drop}
use Rattle.shelf_io.specs.declared.source.Source.{Ghosts}
use Rattle.bit_lists.specs.Bits.{IsPrefix, bits_of, number_of}
use Rattle.bit_lists.specs.Fields.{bit_list, flag}
use Rattle.bit_lists.proofs.BitLemmas.{length-bits_of}
use Rattle.bit_lists.proofs.NumberLemmas.{AreBits, AreBits-append, AreBits-zeros, AreBits-bit_list, number_of-below, bits_of-number_of, AreBits-bits_of}
use Rattle.bit_lists.proofs.PrefixLemmas.{IsPrefix-append}
use Rattle.bit_cursor.specs.Shown.{IsFirstNumber}
use Rattle.bit_cursor.specs.BitReader.{source_of, bits_held, held_bits, bits_left}
use Rattle.shelf_io.specs.Source.{without_front}
use Rattle.bit_cursor.specs.declared.bit_reader.BitReader.{BitReader}
use Rattle.picture_grammar.specs.Refusal.{Refusal}
use Rattle.picture_grammar.specs.Refusal.Refusal.{End}
use Rattle.picture_grammar.specs.Element.{Rule, passes, element, uimsbf, flag_where, one_flag, marker_bit, rule}
use Rattle.picture_grammar.proofs.ElementLaws.{IsPrefixFree, breaks}
use Rattle.picture_grammar.proofs.Codes.{free-number, free-flag}
use Rattle.grammar_reading.specs.BitsRead.{IsSpelled, ReadsFrom, RefusedAt, ExplainsFrom}

-- ---- an element by its code

module _ {A : Type 0} (Codes : A → List ℕ → Type 0) (kind : Refusal) (rules : List (Rule A)) (value : A) (code : List ℕ) (coded : Codes value code) where
  -- a code at the front of the bits, which was taken
  pub reads-code : (told after : Option (List ℕ)) (place place_after : ℕ) → passes rules value ≡ true → told ≡ option_map (λ rest. code ++ rest) after → place_after ≡ place + length code
      → ReadsFrom (element Codes kind rules) value told after place place_after
  reads-code told after place place_after passing left moved = record { front = code; spelled = spelled after; left = left; moved = moved } where
    spelled : (after : Option (List ℕ)) → IsSpelled (element Codes kind rules) value code after
    spelled None = ([], (code, coded, passing, refl))
    spelled (Some rest) = (code, coded, passing, refl)

-- a code at the front of the bits whose value passes the first rules, and not the next one
pub code-breaks : {A : Type 0} (Codes : A → List ℕ → Type 0) (kind : Refusal) (before after : List (Rule A)) (broken : Rule A) (value : A) (code bits : List ℕ) (place : ℕ) → IsPrefixFree Codes
    → Codes value code → IsPrefix code bits → passes before value ≡ true → broken.test value ≡ false
    → RefusedAt (element Codes kind (before ++ broken ∷ after)) broken.refusal bits place place
code-breaks Codes kind before after broken value code bits place free coded first passing fails = record {
  front = [];
  left = bits;
  split = refl;
  refused = (refl, inr (inl (breaks Codes free value code coded bits first before after broken passing fails)));
  moved = omega arith;
}

-- bits that end within a code whose value passes the rules
pub code-cut : {A : Type 0} (Codes : A → List ℕ → Type 0) (kind : Refusal) (rules : List (Rule A)) (value : A) (code bits : List ℕ) (place : ℕ)
    → ((v : A) (c : List ℕ) → Codes v c → length bits < length c) → Codes value code → passes rules value ≡ true → IsPrefix bits code
    → RefusedAt (element Codes kind rules) End bits place place
code-cut Codes kind rules value code bits place short coded passing begun = record {
  front = [];
  left = bits;
  split = refl;
  refused = (
    refl,
    inr (inr (
      record { value = value; code = code; coded = coded; passing = passing; agrees = inr begun },
      λ stands. let few = short stands.value stands.code stands.coded in omega (arith, few, few_bits stands.code bits stands.first),
      refl,
    )),
  );
  moved = omega arith;
} where
  few_bits : (front bits : List ℕ) → IsPrefix front bits → length front ≤ length bits
  few_bits front bits first = omega (
    arith,
    ap length (sym (take-append-drop (length front) bits)
        ∙ ap (λ (x : List ℕ). x ++ drop (length front) bits) first),
    length-append front (drop (length front) bits),
  )

-- ---- numbers of n bits (uimsbf)

-- the bits left behind a number
number-left : (n value : ℕ) (told : Option (List ℕ)) → IfSome told (λ bits. IsFirstNumber n bits value) → told ≡ option_map (λ rest. bits_of n value ++ rest) (without_front told n)
number-left n value None front = refl
number-left n value (Some bits) front = ap Some (sym (take-append-drop n bits) ∙ ap (λ (x : List ℕ). x ++ drop n bits) front.front)

module _ (n value : ℕ) (told after : Option (List ℕ)) (place place_after : ℕ) where
  -- what `bits` gives is a number of the grammar, where it passes the rules
  pub reads-number : (rules : List (Rule ℕ)) → IfSome told (λ bits. IsFirstNumber n bits value) → value < 2 ^ n → after ≡ without_front told n → place_after ≡ place + n → passes rules value ≡ true
      → ReadsFrom (uimsbf n rules) value told after place place_after
  reads-number rules front below left moved passing =
      reads-code (λ number code. (number < 2 ^ n) × (code ≡ bits_of n number)) End rules value (bits_of n value) (below, refl) told after place place_after passing
      (number-left n value told front ∙ ap (option_map (λ rest. bits_of n value ++ rest)) (sym left)) (moved ∙ ap (λ (k : ℕ). place + k) (sym (length-bits_of n value)))

number-first : (n value : ℕ) (bits : List ℕ) → IsFirstNumber n bits value → IsPrefix (bits_of n value) bits
number-first n value bits front = ap (λ (k : ℕ). take k bits) (length-bits_of n value) ∙ front.front

-- a number that breaks a rule, where the reader says so at the number's place
pub explains-rule : (n value : ℕ) (told : Option (List ℕ)) (place : ℕ) (before after : List (Rule ℕ)) (broken : Rule ℕ) → IfSome told (λ bits. IsFirstNumber n bits value) → value < 2 ^ n
    → passes before value ≡ true → broken.test value ≡ false
    → IfSome told (λ bits. ExplainsFrom (uimsbf n (before ++ broken ∷ after)) (Some (record { refusal = broken.refusal; at = place })) bits place)
explains-rule n value None place before after broken front below passing fails = tt
explains-rule n value (Some bits) place before after broken front below passing fails =
    code-breaks (λ number code. (number < 2 ^ n) × (code ≡ bits_of n number)) End before after broken value (bits_of n value) bits place
    (free-number n) (below, refl) (number-first n value bits front) passing fails

-- bits that end within a number, where one that begins with them passes the rules
pub explains-cut : (n : ℕ) (told : Option (List ℕ)) (place : ℕ) (rules : List (Rule ℕ)) → IfSome told (λ bits. length bits < n)
    → IfSome told (λ bits. (number : ℕ) × (number < 2 ^ n) × (passes rules number ≡ true) × IsPrefix bits (bits_of n number))
    → IfSome told (λ bits. ExplainsFrom (uimsbf n rules) (Some (record { refusal = End; at = place })) bits place)
explains-cut n None place rules short some = tt
explains-cut n (Some bits) place rules short (number, below, passing, begun) =
    code-cut (λ number code. (number < 2 ^ n) × (code ≡ bits_of n number)) End rules number (bits_of n number) bits place
    (λ v c coded. omega (arith, short, ap length coded.1, length-bits_of n v)) (below, refl) passing begun

-- ---- flags, and marker bits

abbrev pub FlagCode : Bool → List ℕ → Type 0
FlagCode is_set code = code ≡ flag is_set ∷ []

-- a bit as a flag
bit-flag : (value : ℕ) (is_set : Bool) → flag is_set ≡ value → bits_of 1 value ≡ flag is_set ∷ []
unfolding bits_of
bit-flag value true e = subst (λ (v : ℕ). bits_of 1 v ≡ 1 ∷ []) e refl
bit-flag value false e = subst (λ (v : ℕ). bits_of 1 v ≡ 0 ∷ []) e refl

module _ (value : ℕ) (told after : Option (List ℕ)) (place place_after : ℕ) where
  -- what `bits(1)` gives is a flag of the grammar
  pub reads-flag : (rules : List (Rule Bool)) (is_set : Bool) → flag is_set ≡ value → IfSome told (λ bits. IsFirstNumber 1 bits value)
      → after ≡ without_front told 1 → place_after ≡ place + 1 → passes rules is_set ≡ true
      → ReadsFrom (flag_where rules) is_set told after place place_after
  reads-flag rules is_set is front left moved passing =
      reads-code FlagCode End rules is_set (flag is_set ∷ []) refl told after place place_after passing
      (number-left 1 value told front ∙ ap₂ (λ (x : List ℕ) (o : Option (List ℕ)). option_map (λ rest. x ++ rest) o) (bit-flag value is_set is) (sym left)) moved

-- a flag that breaks a rule
pub explains-flag_rule : (value : ℕ) (told : Option (List ℕ)) (place : ℕ) (before after : List (Rule Bool)) (broken : Rule Bool) (is_set : Bool)
    → flag is_set ≡ value → IfSome told (λ bits. IsFirstNumber 1 bits value)
    → passes before is_set ≡ true → broken.test is_set ≡ false
    → IfSome told (λ bits. ExplainsFrom (flag_where (before ++ broken ∷ after)) (Some (record { refusal = broken.refusal; at = place })) bits place)
explains-flag_rule value None place before after broken is_set is front passing fails = tt
explains-flag_rule value (Some bits) place before after broken is_set is front passing fails =
    code-breaks FlagCode End before after broken is_set (flag is_set ∷ []) bits place free-flag refl
    (subst (λ (x : List ℕ). IsPrefix x bits) (bit-flag value is_set is) (number-first 1 value bits front)) passing fails

pub none_left : (bits : List ℕ) → length bits < 1 → bits ≡ []
none_left [] lt = refl
none_left (bit ∷ bits) lt = absurd (omega arith)

-- the end where a flag must stand, if one of the two passes the rules
pub explains-flag_cut : (told : Option (List ℕ)) (place : ℕ) (rules : List (Rule Bool)) (is_set : Bool) → passes rules is_set ≡ true → IfSome told (λ bits. length bits < 1)
    → IfSome told (λ bits. ExplainsFrom (flag_where rules) (Some (record { refusal = End; at = place })) bits place)
explains-flag_cut None place rules is_set passing short = tt
explains-flag_cut (Some bits) place rules is_set passing short =
    code-cut FlagCode End rules is_set (flag is_set ∷ []) bits place (λ v c coded. omega (arith, short, ap length coded)) refl passing
    (subst (λ (b : List ℕ). IsPrefix b (flag is_set ∷ [])) (sym (none_left bits short)) refl)

-- the end where a marker bit must stand
pub explains-marker_cut : (told : Option (List ℕ)) (place : ℕ) (refusal : Refusal) → IfSome told (λ bits. length bits < 1)
    → IfSome told (λ bits. ExplainsFrom (marker_bit refusal) (Some (record { refusal = End; at = place })) bits place)
explains-marker_cut None place refusal short = tt
explains-marker_cut (Some bits) place refusal short =
    explains-cut 1 (Some bits) place (rule refusal (λ bit. bit == 1) ∷ []) short (1, omega arith, refl, subst (λ (b : List ℕ). IsPrefix b (bits_of 1 1)) (sym (none_left bits short)) refl)

-- ---- numbers with no rule

-- bits begin some number of so many bits, filled up with zeros
completed : (n : ℕ) (bits : List ℕ) → AreBits bits → length bits ≤ n → (number : ℕ) × (number < 2 ^ n) × IsPrefix bits (bits_of n number)
completed n bits are le =
    let filled = bits ++ replicate (n - length bits) 0 in
    let all : AreBits filled = AreBits-append bits (replicate (n - length bits) 0) are (AreBits-zeros (n - length bits)) in
    let count : length filled ≡ n = omega (arith, length-append bits (replicate (n - length bits) 0), length-replicate {A = ℕ} (n - length bits) 0) in
    let whole : bits_of n (number_of filled) ≡ filled = ap (λ (k : ℕ). bits_of k (number_of filled)) (sym count) ∙ bits_of-number_of filled all in (
      number_of filled,
      subst (λ (k : ℕ). number_of filled < 2 ^ k) count (number_of-below filled all),
      subst (IsPrefix bits) (sym whole) (IsPrefix-append bits (replicate (n - length bits) 0)),
    )

-- the end within a number with no rule
pub explains-number_end : (n : ℕ) (told : Option (List ℕ)) (place : ℕ) → IfSome told (λ bits. length bits < n) → IfSome told AreBits
    → IfSome told (λ bits. ExplainsFrom (uimsbf n []) (Some (record { refusal = End; at = place })) bits place)
explains-number_end n None place short are = tt
explains-number_end n (Some bits) place short are =
    let (number, below, begun) = completed n bits are (omega arith) in
    explains-cut n (Some bits) place [] short (number, below, refl, begun)

-- what a reader has left are bits
pub left-bits : {S : Type 0} {g : Ghosts S} (reader : BitReader S g) → IfSome (bits_left reader) AreBits
left-bits {S} {g} reader = by_bytes (g.left (source_of reader).now) where
  by_bytes : (told : Option (List ℕ)) → IfSome (option_map (λ bytes. held_bits reader ++ bit_list bytes) told) AreBits
  by_bytes None = tt
  by_bytes (Some bytes) = AreBits-append (held_bits reader) (bit_list bytes) (AreBits-bits_of (bits_held reader) _) (AreBits-bit_list bytes)

-- a number that a reader gives, where it gives one
pub reads-answer : {E : Type 0} (result : Result ℕ E) (n : ℕ) (told after : Option (List ℕ)) (place place_after : ℕ)
    → IfOk result (λ value. IfSome told (λ bits. IsFirstNumber n bits value)) → IfOk result (λ value. value < 2 ^ n)
    → IfOk result (λ _. after ≡ without_front told n) → IfOk result (λ _. place_after ≡ place + n) → IfOk result (λ number. ReadsFrom (uimsbf n []) number told after place place_after)
reads-answer (Ok value) n told after place place_after front below left moved = reads-number n value told after place place_after [] front below left moved refl
reads-answer (Err fault) n told after place place_after front below left moved = tt

-- a bit that a reader gives, as a flag
pub reads-bit : (value : ℕ) (told after : Option (List ℕ)) (place place_after : ℕ) → IfSome told (λ bits. IsFirstNumber 1 bits value) → value < 2 ^ 1
    → after ≡ without_front told 1 → place_after ≡ place + 1
    → ReadsFrom one_flag (value == 1) told after place place_after
reads-bit value told after place place_after front below left moved = reads-flag value told after place place_after [] (value == 1) (of_bit value below) front left moved refl where
  of_bit : (value : ℕ) → value < 2 → flag (value == 1) ≡ value
  of_bit zero lt = refl
  of_bit (suc zero) lt = refl
  of_bit (suc (suc n)) lt = absurd (omega arith)
