-- The state behind a macroblock that is coded or skipped.
use Rattle.std.proofs.Common.{◌≡◌, ◌+◌, Bool, true, false, refl, unwrap_or}
use Rattle.std.specs.Prelude.{if◌then◌else◌}
use Rattle.syntax_types.specs.declared.macroblock.Macroblock.{Macroblock}
use Rattle.requantiser.specs.declared.version_state.VersionState.{VersionState}
use Rattle.requantiser.specs.VersionState.{IsStateBehind, made_of}

pub state-behind : (coded : Bool) (from to : Macroblock) (before behind : VersionState) → behind.m ≡ before.m → behind.source_code ≡ unwrap_or from.code before.source_code
    → behind.version_code ≡ (if coded then unwrap_or to.code before.version_code else before.version_code)
    → behind.skipped ≡ (if coded then 0 else before.skipped + from.skipped_before + 1)
    → (coded ≡ true → to.skipped_before ≡ before.skipped + from.skipped_before) → IsStateBehind from (made_of coded to) before behind
state-behind true from to before behind ratio source_code version_code skipped placed = record {
  ratio = ratio;
  source_code = source_code;
  version_code = version_code;
  skipped = skipped;
  placed = placed refl;
}
state-behind false from to before behind ratio source_code version_code skipped placed = record {
  ratio = ratio;
  source_code = source_code;
  version_code = version_code;
  skipped = skipped;
  placed = tt;
}
