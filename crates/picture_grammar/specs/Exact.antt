-- What the bits decide.
use Rattle.std.specs.Prelude.{◌≡◌, ℕ, List, ◌++◌}
use Rattle.picture_grammar.specs.Refusal.{Refusal}
use Rattle.picture_grammar.specs.Grammar.{Grammar}

-- the bits end with these
abbrev pub EndsWith : List ℕ → List ℕ → Type 0
EndsWith bits rest = (front : List ℕ) × (bits ≡ front ++ rest)

-- Bits begin with a spelling of at most one value, and no spelling begins another one; or they are refused in at most
-- one way; and never both. What is spelled, and what is before a refusal, stands in front of the bits left.
pub record IsExact {A : Type 0} (grammar : Grammar A) : Type 0 where
  pub one_value : (v w : A) (bits rest other : List ℕ) → grammar.Spells v bits rest → grammar.Spells w bits other → (v ≡ w) × (rest ≡ other)
  pub not_both : (v : A) (bits rest left : List ℕ) (refusal : Refusal) → grammar.Spells v bits rest → grammar.Refuses bits refusal left → ⊥
  pub one_refusal : (bits left other : List ℕ) (r s : Refusal) → grammar.Refuses bits r left → grammar.Refuses bits s other → (r ≡ s) × (left ≡ other)
  pub spelled_front : (v : A) (bits rest : List ℕ) → grammar.Spells v bits rest → EndsWith bits rest
  pub refused_front : (bits left : List ℕ) (refusal : Refusal) → grammar.Refuses bits refusal left → EndsWith bits left

-- What is spelled doesn't depend on what follows it: no element looks ahead.
pub record IsLocal {A : Type 0} (grammar : Grammar A) : Type 0 where
  pub anywhere : (v : A) (bits rest : List ℕ) → grammar.Spells v bits rest
      → (front : List ℕ) × (bits ≡ front ++ rest) × ((following : List ℕ) → grammar.Spells v (front ++ following) following)
