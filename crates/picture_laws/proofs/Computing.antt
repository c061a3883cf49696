-- What a grammar says of printed bits, by computation.
use Rattle.std.proofs.Common.{◌≡◌, ◌&&◌, nat_lt, List, [], ◌∷◌, Bool, true, ℕ}
use Rattle.std.proofs.lemmas.Bool.{and_parts, ltb-true}
use Rattle.bit_lists.specs.Bits.{bits_of, number_of}
use Rattle.bit_lists.proofs.NumberLemmas.{AreBits}
use Rattle.picture_grammar.specs.Written.{written_block}
use Rattle.prefix_codes.proofs.Computing.{tables}
use Rattle.picture_grammar.specs.Grammar.{Grammar}
use Rattle.picture_laws.proofs.Answers.{IsRight, IsDecided}
use Rattle.picture_laws.proofs.DecidedPictures.{decided-block, decided-macroblock, decided-slice}

abbrev pub all_bits : List ℕ → Bool
all_bits [] = true
all_bits (bit ∷ bits) = nat_lt bit 2 && all_bits bits

are_bits : (bits : List ℕ) → all_bits bits ≡ true → AreBits bits
are_bits [] e = tt
are_bits (bit ∷ bits) e = let parts = and_parts (nat_lt bit 2) (all_bits bits) e in (ltb-true bit 2 parts.0, are_bits bits parts.1)

-- the answer for printed bits is that of the grammar
pub said : {A : Type 0} {grammar : Grammar A} (decided : IsDecided grammar) (bits : List ℕ) → all_bits bits ≡ true → IsRight grammar bits (decided.answer bits)
said decided bits e = decided.right bits (are_bits bits e)

-- `unfolding answers` opens what computes the answers
unfoldable pub answers : Unit {0}
unfolding tables bits_of number_of written_block decided-block decided-macroblock decided-slice
answers = tt
