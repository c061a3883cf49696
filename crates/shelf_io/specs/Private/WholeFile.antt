-- Files that are read whole, in several calls.
use Rattle.std.specs.Prelude.{◌≡◌, ℕ, ◌+◌, ◌≤◌, List, length, take}

-- n bytes of a content were added to its front so far; none only at its end
abbrev pub AddsNext : List ℕ → List ℕ → ℕ → List ℕ → Type 0
AddsNext old new n content = old ≡ take (length old) content → (new ≡ take (length old + n) content) × (n ≡ 0 → length content ≤ length old)
