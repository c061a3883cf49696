-- The length of a header, by its ninth byte.
use Rattle.std.proofs.Common.{◌≡◌, ℕ, ◌+◌, ◌%◌, ◌<◌, ◌≤◌, List, ◌++◌, length, get_or, arith, ap, ◌∙◌, sym}
use Rattle.std.proofs.lemmas.List.{get_or_append_left}
use Rattle.pes_units.specs.PesHeader.{header_length}
use Rattle.pes_units.proofs.Elements.{pes_header_data_length-is}

-- what the code looks at
pub ruleset header = (pes_header_data_length-is)

-- a header has nine bytes at least, and 264 at most
pub header_some : (bytes : List ℕ) → 9 ≤ header_length bytes
header_some bytes = omega arith

pub header_few : (bytes : List ℕ) → header_length bytes < 265
header_few bytes = omega (arith, pes_header_data_length-is bytes)

-- bytes behind the ninth leave it
pub header_more : (bytes more : List ℕ) → 9 ≤ length bytes → header_length (bytes ++ more) ≡ header_length bytes
header_more bytes more whole =
    ap (λ (n : ℕ). 9 + n) (pes_header_data_length-is (bytes ++ more)
    ∙ ap (λ (n : ℕ). n % 256) (get_or_append_left bytes more 0 8 (omega arith))
    ∙ sym (pes_header_data_length-is bytes))
