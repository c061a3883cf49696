use Rattle.std.proofs.Common.{◌≡◌, map, take}
use Rattle.version_table.specs.Private.Draft.{kept}
use Rattle.version_table.proofs.draft.kept_versions.Given as goal

abbrev pub invariant-loop-version : goal.invariant-loop-version
invariant-loop-version l = l.versions.items ≡ map kept (take l.version-index l.version-items)
