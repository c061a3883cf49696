-- Places in a row, of which some are taken out: each one's neighbours among the others. Places count from 1, between two ends.
use Rattle.std.specs.Prelude.{◌≡◌, ℕ, ◌+◌, ◌-◌, ◌<◌, ◌≤◌, Bool, true, false, List, length, slice_index, vec_capacity}
use Rattle.certificate_checker.specs.declared.links.Links.{Links}

-- q is the next place behind p that isn't taken out, and p isn't either
pub record IsNext (out : ℕ → Bool) (count p q : ℕ) : Type 0 where
  pub goes : p < q
  pub within : q ≤ count + 1
  pub first : out p ≡ false
  pub last : out q ≡ false
  pub between : (r : ℕ) → p < r → r < q → out r ≡ true

-- each place that isn't taken out has its neighbours, and so have the ends
pub record AreLinked (out : ℕ → Bool) (count : ℕ) (next previous : List ℕ) : Type 0 where
  pub next_size : length next ≡ count + 2
  pub previous_size : length previous ≡ count + 2
  pub begins : out 0 ≡ false
  pub ends : out (count + 1) ≡ false
  pub nexts : (p : ℕ) → p ≤ count → out p ≡ false → IsNext out count p (slice_index next p)
  pub previouses : (q : ℕ) → 1 ≤ q → q ≤ count + 1 → out q ≡ false → IsNext out count (slice_index previous q) q

-- each place has the one behind it and the one before it
pub record IsRow (size : ℕ) (links : Links) : Type 0 where
  pub next_size : length links.next.items ≡ size
  pub previous_size : length links.previous.items ≡ size
  pub nexts : (at : ℕ) → at < size → slice_index links.next.items at ≡ at + 1
  pub previouses : (at : ℕ) → at < size → slice_index links.previous.items at ≡ at - 1

-- room for so many places and the two ends
abbrev pub HasLinkRoom : (count : ℕ) → Links → Type 0
HasLinkRoom count links = (count + 2 ≤ vec_capacity links.next) × (count + 2 ≤ vec_capacity links.previous)

-- no room is given away
abbrev pub KeepsLinkRoom : (old new : Links) → Type 0
KeepsLinkRoom old new = (vec_capacity new.next ≡ vec_capacity old.next) × (vec_capacity new.previous ≡ vec_capacity old.previous)
