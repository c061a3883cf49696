-- The elements of a grammar (the syntax elements of ISO/IEC 13818-2, 5.1 and 6.2). An element has codes, each for a
-- value, and rules for the value. It is refused where no code stands, where no code that stands there passes the rules,
-- and where the bits end too soon.
use Rattle.std.specs.Prelude.{◌≡◌, ◌⊎◌, ◌<◌, ◌^◌, ◌==◌, ℕ, Some, List, [], ◌∷◌, ◌++◌, Bool, true}
use Rattle.std.specs.List.{list_all}
use Rattle.bit_lists.specs.Bits.{IsPrefix, bits_of}
use Rattle.bit_lists.specs.Fields.{flag}
use Rattle.prefix_codes.specs.declared.table_name.TableName.{TableName}
use Rattle.prefix_codes.specs.TableName.{code_in}
use Rattle.picture_grammar.specs.Refusal.{Refusal}
use Rattle.picture_grammar.specs.Refusal.Refusal.{End}
use Rattle.picture_grammar.specs.Grammar.{Grammar}

-- what a value must pass, and the kind of refusal where none does
pub record Rule (A : Type 0) : Type 0 where
  pub refusal : Refusal
  pub test : A → Bool

-- a rule by its parts
abbrev pub rule : {A : Type 0} → Refusal → (A → Bool) → Rule A
rule refusal test = record { refusal = refusal; test = test }

-- a value passes all rules
abbrev pub passes : {A : Type 0} → List (Rule A) → A → Bool
passes rules value = list_all (λ r. r.test value) rules

module _ {A : Type 0} (Codes : A → List ℕ → Type 0) where
  -- the bits begin with a code of a value that passes the rules
  pub record Stands (rules : List (Rule A)) (bits : List ℕ) : Type 0 where
    pub value : A
    pub code : List ℕ
    pub coded : Codes value code
    pub passing : passes rules value ≡ true
    pub first : IsPrefix code bits

  -- the bits begin with such a code, or end within one
  pub record MayStand (rules : List (Rule A)) (bits : List ℕ) : Type 0 where
    pub value : A
    pub code : List ℕ
    pub coded : Codes value code
    pub passing : passes rules value ≡ true
    pub agrees : IsPrefix code bits ⊎ IsPrefix bits code

  -- a code may stand there that passes the rules before, but none that passes the next one too
  pub record Breaks (rules : List (Rule A)) (bits : List ℕ) (refusal : Refusal) : Type 0 where
    pub before : List (Rule A)
    pub broken : Rule A
    pub after : List (Rule A)
    pub order : rules ≡ before ++ broken ∷ after
    pub so_far : MayStand before bits
    pub none : ¬ MayStand (before ++ broken ∷ []) bits
    pub named : refusal ≡ broken.refusal

  -- how the bits are refused: no code stands there, none that passes the rules, or the bits end within one that does
  abbrev pub IsRefused : Refusal → List (Rule A) → List ℕ → Refusal → Type 0
  IsRefused no_code rules bits refusal =
      ((¬ MayStand [] bits) × (refusal ≡ no_code))
      ⊎ Breaks rules bits refusal
      ⊎ (MayStand rules bits × (¬ Stands rules bits) × (refusal ≡ End))

  -- an element, with the kind of refusal where no code stands, and its rules
  abbrev pub element : Refusal → List (Rule A) → Grammar A
  element no_code rules = record {
    Spells = λ value bits rest. (code : List ℕ) × Codes value code × (passes rules value ≡ true) × (bits ≡ code ++ rest);
    Refuses = λ bits refusal left. (left ≡ bits) × IsRefused no_code rules bits refusal;
  }

-- ---- the elements of the standard

-- a code of a table of Annex B (vlclbf)
abbrev pub vlclbf : TableName → Refusal → List (Rule ℕ) → Grammar ℕ
vlclbf table = element (λ symbol code. code_in table symbol ≡ Some code)

-- an unsigned number of so many bits, the most significant one first (uimsbf, bslbf)
abbrev pub uimsbf : ℕ → List (Rule ℕ) → Grammar ℕ
uimsbf n rules = element (λ number code. (number < 2 ^ n) × (code ≡ bits_of n number)) End rules

-- a flag, 1 for true
abbrev pub flag_where : List (Rule Bool) → Grammar Bool
flag_where rules = element (λ is_set code. code ≡ flag is_set ∷ []) End rules

-- a flag of either value
abbrev pub one_flag : Grammar Bool
one_flag = flag_where []

-- marker_bit, which is 1 (6.3.3)
abbrev pub marker_bit : Refusal → Grammar ℕ
marker_bit refusal = uimsbf 1 (rule refusal (λ bit. bit == 1) ∷ [])
