-- One step of a version: a macroblock, and the state before and behind it.
use Rattle.std.specs.Prelude.{◌≡◌, ◌+◌, ℕ, Option, Some, None, List, unwrap_or, option_and_then, is_some, IfSome, Bool, if◌then◌else◌}
use Rattle.syntax_types.specs.declared.macroblock.Macroblock.{Macroblock}
use Rattle.syntax_types.specs.declared.picture.PicCoding.{PicCoding}
use Rattle.picture_grammar.specs.Macroblock.{macroblock}
use Rattle.requantiser.specs.declared.version_state.VersionState.{VersionState}

-- some bits spell the macroblock (ISO/IEC 13818-2, 6.2.5)
pub record IsSpelledMacroblock (coding : PicCoding) (m : Macroblock) : Type 0 where
  pub first : Bool
  pub columns_left : ℕ
  pub bits : List ℕ
  pub rest : List ℕ
  pub spelled : (macroblock coding first columns_left).Spells m bits rest

-- what a step made: the macroblock that was lent, where it is coded, or none where it is skipped
abbrev pub made_of : Bool → Macroblock → Option Macroblock
made_of coded to = if coded then Some to else None

-- The state behind a macroblock of the source, and what was made of it: the codes are those now in force, and a skipped
-- macroblock waits with those before it for the next one that is coded, which counts them.
pub record IsStateBehind (from : Macroblock) (made : Option Macroblock) (before behind : VersionState) : Type 0 where
  pub ratio : behind.m ≡ before.m
  pub source_code : behind.source_code ≡ unwrap_or from.code before.source_code
  pub version_code : behind.version_code ≡ unwrap_or (option_and_then (λ m. m.code) made) before.version_code
  pub skipped : behind.skipped ≡ (if is_some made then 0 else before.skipped + from.skipped_before + 1)
  pub placed : IfSome made (λ to. to.skipped_before ≡ before.skipped + from.skipped_before)
