-- What is seen of the bits that are left.
use Rattle.std.specs.Prelude.{◌≡◌, ℕ, List, take}
use Rattle.bit_lists.specs.Bits.{front_of}
use Rattle.prefix_codes.specs.declared.lookup.TheConstants.{WINDOW_BITS}
use Rattle.grammar_reading.specs.declared.window.BitWindow.{BitWindow}

-- the first bits of a window
abbrev pub seen : BitWindow → ℕ → List ℕ
seen window count = front_of WINDOW_BITS window.bits count

-- the window shows the front of these bits, or all of them
abbrev pub ShowsFront : BitWindow → List ℕ → Type 0
ShowsFront window bits = take WINDOW_BITS bits ≡ seen window window.known
