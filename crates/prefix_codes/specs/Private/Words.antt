-- Words of the program's tables: a length in the lowest bits, and a number behind it.
use Rattle.std.specs.Prelude.{ℕ, ◌/◌, ◌%◌, ◌^◌, ◌==◌, Option, Some, None, if◌then◌else◌}
use Rattle.prefix_codes.specs.declared.tables.TheConstants.{LENGTH_BITS, NUMBER_BITS}

-- its number
abbrev pub number_in : ℕ → ℕ
number_in word = word / 2 ^ LENGTH_BITS % 2 ^ NUMBER_BITS

-- its length
abbrev pub length_in : ℕ → ℕ
length_in word = word % 2 ^ LENGTH_BITS

-- the symbol and the length of the code that stands at the front of some bits, in a word of a level
abbrev pub answer_of : ℕ → Option (ℕ × ℕ)
answer_of word = if length_in word == 0 then None else Some (number_in word, length_in word)
