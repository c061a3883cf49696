-- How far the files of a shelf were asked for bytes: for each name a place at or behind which none was asked for.
use Rattle.std.specs.Prelude.{◌≡◌, ℕ, ◌≤◌, List, max}

-- between two states no file but this one was asked for bytes, and this one for none at or behind a place
pub record AsksUpTo (name : List ℕ) (place : ℕ) (old new : List ℕ → ℕ) : Type 0 where
  pub here : new name ≤ max (old name) place
  pub others : (other : List ℕ) → (other ≡ name → ⊥) → new other ≤ old other

-- between two states no file was asked for bytes
abbrev pub AsksNothing : (old new : List ℕ → ℕ) → Type 0
AsksNothing old new = (name : List ℕ) → new name ≤ old name
