-- What a grammar says of all bits, as a function: the value that they begin with and the rest, or the refusal.
use Rattle.std.proofs.Common.{ℕ, ◌<◌, List, [], ◌∷◌, ◌++◌}
use Rattle.bit_lists.proofs.NumberLemmas.{AreBits}
use Rattle.picture_grammar.specs.Refusal.{Refusal}
use Rattle.picture_grammar.specs.Grammar.{Grammar}

pub AreBits-behind : (front rest : List ℕ) → AreBits (front ++ rest) → AreBits rest
AreBits-behind [] rest are = are
AreBits-behind (bit ∷ front) rest are = AreBits-behind front rest are.1

pub data Answer (A : Type 0) : Type 0 where
  found : A → List ℕ → Answer A
  refused : Refusal → List ℕ → Answer A

-- the answer is the grammar's
abbrev pub IsRight : {A : Type 0} → Grammar A → List ℕ → Answer A → Type 0
IsRight grammar bits (found value rest) = grammar.Spells value bits rest × AreBits rest
IsRight grammar bits (refused refusal left) = grammar.Refuses bits refusal left

pub record IsDecided {A : Type 0} (grammar : Grammar A) : Type 0 where
  pub answer : List ℕ → Answer A
  pub right : (bits : List ℕ) → AreBits bits → IsRight grammar bits (answer bits)
