-- The bytes of an elementary stream that a window holds.
use Rattle.std.specs.Prelude.{◌≡◌, ℕ, ◌+◌, ◌<◌, ◌⊎◌, List, length, drop}

-- the place in the stream from which on bytes are held, and these
abbrev pub Held : Type 0
Held = ℕ × List ℕ

-- that place
abbrev pub window_from : Held → ℕ
window_from held = held.0

-- these bytes
abbrev pub window_bytes : Held → List ℕ
window_bytes held = held.1

-- the place behind the last one
abbrev pub window_end : Held → ℕ
window_end held = window_from held + length (window_bytes held)

-- they are those of a stream of which these bytes have come
pub record IsWindowOf (es : List ℕ) (held : Held) : Type 0 where
  pub end_is : window_end held ≡ length es
  pub held_are : window_bytes held ≡ drop (window_from held) es

-- no bytes stand from a place up to another, or not all of them are held
abbrev pub LacksPart : Held → (from to : ℕ) → Type 0
LacksPart held from to = (from < window_from held) ⊎ (to < from) ⊎ (window_end held < to)
