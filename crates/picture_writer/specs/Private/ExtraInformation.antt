-- The extra information of a picture header (6.2.3).
use Rattle.std.specs.Prelude.{ℕ, List, []}
use Rattle.picture_grammar.specs.Grammar.{SpellsList}
use Rattle.picture_grammar.specs.Refusal.Refusal.{BadHeader}
use Rattle.picture_grammar.specs.Slice.{extra_information}
use Rattle.picture_grammar.specs.StartCode.{zero_bits}

-- the bits are bytes each behind a bit 1, the bit 0, and zero bits to a whole byte
pub record Closes (bits : List ℕ) : Type 0 where
  pub values : List ℕ
  pub mid : List ℕ
  pub rest : List ℕ
  pub number : ℕ
  pub information : SpellsList extra_information [] values tt bits mid
  pub zeros : (zero_bits BadHeader).Spells number mid rest
