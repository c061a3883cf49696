-- A part of a vector that is found at the front of a window (ISO/IEC 13818-2, 6.2.5.2.1).
use Rattle.std.specs.Prelude.{◌≤◌, ℕ, [], false}
use Rattle.grammar_reading.specs.declared.window.BitWindow.{BitWindow}
use Rattle.grammar_reading.specs.Window.{seen}
use Rattle.picture_grammar.specs.Motion.{Part, vector_part}

-- a part without a dmvector stands there, in so many bits
abbrev pub IsPartFound : ℕ → BitWindow → Part → ℕ → Type 0
IsPartFound f_code window part len = (len ≤ window.known) × (vector_part f_code false).Spells part (seen window len) []
