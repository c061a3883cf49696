-- The draws of the generator: a linear congruential generator of 64 bits, of whose state each draw gives the upper 32.
use Rattle.std.specs.Prelude.{ℕ, ◌+◌, ◌*◌, ◌/◌, ◌%◌, ◌^◌, List, [], ◌∷◌}

-- the state that a draw leaves, from the state before it (the multiplier and increment of Knuth's MMIX)
unfoldable pub state_after : ℕ → ℕ
state_after state = (state * 6364136223846793005 + 1442695040888963407) % 2 ^ 64

-- the number that a draw gives: the upper 32 bits of the state that it leaves
abbrev pub draw : ℕ → ℕ
draw state = state_after state / 2 ^ 32

-- a thing that is drawn: from a state, the thing and the state that its draws leave
abbrev pub Drawn : Type 0 → Type 0
Drawn A = ℕ → A × ℕ

-- a thing for which nothing is drawn
abbrev pub nothing_drawn : {A : Type 0} → A → Drawn A
nothing_drawn thing state = (thing, state)

-- what is drawn behind a thing that was drawn
abbrev pub behind : {A B : Type 0} → (A → Drawn B) → A × ℕ → B × ℕ
behind next drawn = next drawn.0 drawn.1

-- a thing, and then another one, which may depend on the first
infixl 10 ◌>>=◌
abbrev pub ◌>>=◌ : {A B : Type 0} → Drawn A → (A → Drawn B) → Drawn B
◌>>=◌ first next state = behind next (first state)

-- a number below n
unfoldable pub pick : ℕ → Drawn ℕ
pick n state = (draw state % n, state_after state)

-- a thing for each of these, in order
abbrev pub draw_each : {I A : Type 0} → List I → (I → Drawn A) → Drawn (List A)
draw_each [] thing = nothing_drawn []
draw_each (i ∷ is) thing = do
  first ← thing i
  others ← draw_each is thing
  nothing_drawn (first ∷ others)
