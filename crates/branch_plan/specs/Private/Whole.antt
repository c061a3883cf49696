-- The nodes of a whole tree as they are counted: from its leaves on.
use Rattle.std.specs.Prelude.{ℕ, List, [], ◌∷◌}

-- some numbers, the last of them first, with others behind them
abbrev pub behind : List ℕ → (others : List ℕ) → List ℕ
behind [] others = others
behind (x ∷ xs) others = behind xs (x ∷ others)
