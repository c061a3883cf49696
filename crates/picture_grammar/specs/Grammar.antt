-- Grammars: what bits spell, and why bits are refused. A format is a sequence of elements in the order of its syntax
-- table (ISO/IEC 13818-2, 6.2), put together here; the elements themselves are those of Element.
use Rattle.std.specs.Prelude.{◌≡◌, ◌⊎◌, ℕ, zero, suc, Option, Some, None, List, [], ◌∷◌, ◌++◌, Bool, true, false}
use Rattle.bit_lists.specs.Fields.{AreBytes, bit_list}
use Rattle.picture_grammar.specs.Refusal.{Refusal}

-- The bits of a format.
-- `Spells value bits rest`: the bits begin with a spelling of the value, and the rest follows it.
-- `Refuses bits refusal left`: the bits before those left are the elements of an opening part, and no element that may
-- come next is spelled at the bits left.
pub record Grammar (A : Type 0) : Type 1 where
  pub Spells : A → List ℕ → List ℕ → Type 0
  pub Refuses : List ℕ → Refusal → List ℕ → Type 0

-- ---- one thing behind another

-- no bits, for this value
abbrev pub done : {A : Type 0} → A → Grammar A
done value = record {
  Spells = λ v bits rest. (v ≡ value) × (bits ≡ rest);
  Refuses = λ bits refusal left. ⊥;
}

-- a grammar, then another one, which may depend on the value so far
infixl 10 ◌>>=◌
abbrev pub ◌>>=◌ : {A B : Type 0} → Grammar A → (A → Grammar B) → Grammar B
◌>>=◌ {A} first next = record {
  Spells = λ v bits rest. (a : A) × (middle : List ℕ) × first.Spells a bits middle × (next a).Spells v middle rest;
  Refuses = λ bits refusal left. first.Refuses bits refusal left
      ⊎ ((a : A) × (middle : List ℕ) × first.Spells a bits middle × (next a).Refuses middle refusal left);
}

-- a grammar whose value isn't used, then another one
infixl 10 ◌>>◌
abbrev pub ◌>>◌ : {A B : Type 0} → Grammar A → Grammar B → Grammar B
first >> next = first >>= λ _. next

-- ---- what stands in some cases only

-- what stands only where it is called for
abbrev pub optional : {A : Type 0} → Bool → Grammar A → Grammar (Option A)
optional true grammar = grammar >>= λ value. done (Some value)
optional false grammar = done None

-- what stands only where it is called for, and counts as this value elsewhere
abbrev pub when : {A : Type 0} → Bool → Grammar A → A → Grammar A
when true grammar absent = grammar
when false grammar absent = done absent

-- nextbits() (5.2.2): one grammar where the bits are such, and another one where they aren't
abbrev pub if_next : {A : Type 0} → (List ℕ → Type 0) → Grammar A → Grammar A → Grammar A
if_next IsSuch then else = record {
  Spells = λ v bits rest. (IsSuch bits × then.Spells v bits rest) ⊎ ((¬ IsSuch bits) × else.Spells v bits rest);
  Refuses = λ bits refusal left. (IsSuch bits × then.Refuses bits refusal left) ⊎ ((¬ IsSuch bits) × else.Refuses bits refusal left);
}

-- a grammar that depends on the bits that are left, as on how far the next whole byte is (5.2.1)
abbrev pub at_bits : {A : Type 0} → (List ℕ → Grammar A) → Grammar A
at_bits grammar = record {
  Spells = λ v bits rest. (grammar bits).Spells v bits rest;
  Refuses = λ bits refusal left. (grammar bits).Refuses bits refusal left;
}

-- what has to follow, without taking it
abbrev pub ahead : {A : Type 0} → Grammar A → Grammar A
ahead grammar = record {
  Spells = λ v bits rest. (bits ≡ rest) × (after : List ℕ) × grammar.Spells v bits after;
  Refuses = grammar.Refuses;
}

-- ---- what stands several times

-- so many of one kind
abbrev pub repeated : {A : Type 0} → ℕ → Grammar A → Grammar (List A)
repeated zero grammar = done []
repeated (suc n) grammar = grammar >>= λ value. repeated n grammar >>= λ values. done (value ∷ values)

-- one for each item of a list
abbrev pub each : {I A : Type 0} → List I → (I → Grammar A) → Grammar (List A)
each [] grammar = done []
each (i ∷ is) grammar = grammar i >>= λ value. each is grammar >>= λ values. done (value ∷ values)

-- one more value, or the end of a list of values and what it says
pub data Next (A B : Type 0) : Type 0 where
  more : A → Next A B
  last : B → Next A B

-- a value is one more, and none is the end
abbrev pub more_of : {A : Type 0} → Option A → Next A (Unit {0})
more_of (Some value) = more value
more_of None = last tt

-- a value that is one more of a list
abbrev pub one_item_more : {A B : Type 0} → Grammar A → Grammar (Next A B)
one_item_more grammar = grammar >>= λ value. done (more value)

module _ {A B : Type 0} (next : List A → Grammar (Next A B)) where
  -- behind the values so far: these values, then the end
  abbrev pub SpellsList : List A → List A → B → List ℕ → List ℕ → Type 0
  SpellsList before [] end bits rest = (next before).Spells (last end) bits rest
  SpellsList before (value ∷ values) end bits rest =
      (middle : List ℕ) × (next before).Spells (more value) bits middle × SpellsList (before ++ value ∷ []) values end middle rest

  -- behind the values so far: these values, then a refusal
  abbrev pub RefusesAfter : List A → List A → List ℕ → Refusal → List ℕ → Type 0
  RefusesAfter before [] bits refusal left = (next before).Refuses bits refusal left
  RefusesAfter before (value ∷ values) bits refusal left =
      (middle : List ℕ) × (next before).Spells (more value) bits middle × RefusesAfter (before ++ value ∷ []) values middle refusal left

  -- values one after another up to an end; what may come next depends on the values before it
  abbrev pub many : Grammar (List A × B)
  many = record {
    Spells = λ found bits rest. SpellsList [] found.0 found.1 bits rest;
    Refuses = λ bits refusal left. (values : List A) × RefusesAfter [] values bits refusal left;
  }

-- ---- bytes

-- a value together with the bytes that spell it
abbrev pub with_spelling : {A : Type 0} → Grammar A → Grammar (A × List ℕ)
with_spelling grammar = record {
  Spells = λ found bits rest. grammar.Spells found.0 bits rest × AreBytes found.1 × (bits ≡ bit_list found.1 ++ rest);
  Refuses = grammar.Refuses;
}
