-- What a reader took of the bits that are left, and what it says of those that it didn't: the words of every reader's
-- clauses. A reader has a type of faults of its own, and says of each what it tells: a refusal at a place, or nothing.
use Rattle.std.specs.Prelude.{◌≡◌, ◌+◌, ℕ, List, ◌++◌, length, Option, Result, MatchResult, Some, None, IfSome, IsNone, IsSomeAnd}
use Rattle.std.specs.Option.{option_map}
use Rattle.shelf_io.specs.declared.source.Source.{Ghosts}
use Rattle.bit_cursor.specs.declared.bit_reader.BitReader.{BitReader}
use Rattle.bit_cursor.specs.BitReader.{bits_left, place}
use Rattle.picture_grammar.specs.Refusal.{Refusal}
use Rattle.picture_grammar.specs.Grammar.{Grammar}

-- a kind of refusal, and the place in bits of the element that is refused
pub record PlacedRefusal : Type 0 where
  pub refusal : Refusal
  pub at : ℕ

-- ---- bits, where they are told, and places

-- the bits left are those behind some front, and the place moved past it
pub record AdvancesFrom (bits after : Option (List ℕ)) (from to : ℕ) : Type 0 where
  pub front : List ℕ
  pub left : bits ≡ option_map (λ rest. front ++ rest) after
  pub moved : to ≡ from + length front

-- the front spells this value before the bits left, which may decide where it ends; where these aren't told, before some
abbrev pub IsSpelled : {A : Type 0} → Grammar A → A → List ℕ → Option (List ℕ) → Type 0
IsSpelled grammar value front None = (rest : List ℕ) × grammar.Spells value (front ++ rest) rest
IsSpelled grammar value front (Some rest) = grammar.Spells value (front ++ rest) rest

-- the bits left are those behind a front that spells this value, and the place moved past it
pub record ReadsFrom {A : Type 0} (grammar : Grammar A) (value : A) (bits after : Option (List ℕ)) (from to : ℕ) : Type 0 where
  pub front : List ℕ
  pub spelled : IsSpelled grammar value front after
  pub left : bits ≡ option_map (λ rest. front ++ rest) after
  pub moved : to ≡ from + length front

-- the bits from a place on are refused, at another place behind some front of them
pub record RefusedAt {A : Type 0} (grammar : Grammar A) (refusal : Refusal) (bits : List ℕ) (from at : ℕ) : Type 0 where
  pub front : List ℕ
  pub left : List ℕ
  pub split : bits ≡ front ++ left
  pub refused : grammar.Refuses bits refusal left
  pub moved : at ≡ from + length front

-- where a fault tells a refusal, the bits from a place on are refused so
abbrev pub ExplainsFrom : {A : Type 0} → Grammar A → Option PlacedRefusal → List ℕ → ℕ → Type 0
ExplainsFrom grammar told bits from = IfSome told (λ said. RefusedAt grammar said.refusal bits from said.at)

-- ---- a reader before and after a call

-- its next bits are still the source's in order, behind some that were taken
abbrev pub Advances : {S : Type 0} {g : Ghosts S} → BitReader S g → BitReader S g → Type 0
Advances old new = AdvancesFrom (bits_left old) (bits_left new) (place old) (place new)

-- the bits that were taken spell this value
abbrev pub Reads : {A : Type 0} {S : Type 0} {g : Ghosts S} → Grammar A → A → BitReader S g → BitReader S g → Type 0
Reads grammar value old new = ReadsFrom grammar value (bits_left old) (bits_left new) (place old) (place new)

-- the next bits, which are told, begin with a spelling of this value, and the rest follows it
abbrev pub BeginsWith : {A : Type 0} {S : Type 0} {g : Ghosts S} → Grammar A → A → BitReader S g → List ℕ → Type 0
BeginsWith grammar value reader rest = IsSomeAnd (bits_left reader) (λ bits. grammar.Spells value bits rest)

-- the fault says how and where the next bits are refused, where they are told and it tells a refusal
abbrev pub Explains : {A : Type 0} {S : Type 0} {g : Ghosts S} → Grammar A → BitReader S g → Option PlacedRefusal → Type 0
Explains grammar reader told = IfSome (bits_left reader) (λ bits. ExplainsFrom grammar told bits (place reader))

-- where the next bits begin with a value the answer is that value, with the rest left, or a fault that tells no refusal
abbrev pub AnswersSpelling : {A E : Type 0} {S : Type 0} {g : Ghosts S} → Grammar A → (E → Option PlacedRefusal) → Result A E → BitReader S g → BitReader S g → Type 0
AnswersSpelling {A} grammar told result old new = (value : A) (rest : List ℕ) → BeginsWith grammar value old rest →
    MatchResult result (λ found. (found ≡ value) × (bits_left new ≡ Some rest)) (λ fault. IsNone (told fault))
