-- A list cut at places.
use Rattle.std.specs.Prelude.{ℕ, List, [], ◌∷◌}

-- from a place to the first cut, from each cut to the next one, and from the last one to the end
abbrev pub spans : ℕ → List ℕ → ℕ → List (ℕ × ℕ)
spans from [] end = (from, end) ∷ []
spans from (cut ∷ cuts) end = (from, cut) ∷ spans cut cuts end
