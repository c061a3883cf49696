use Rattle.std.proofs.Common.{◌≡◌, ◌++◌, take, map}
use Rattle.std.specs.List.{flat_map}
use Rattle.version_table.specs.Lines.{stated, text_of_version}
use Rattle.version_table.proofs.write.push_versions.Given as goal

abbrev pub invariant-loop-version : goal.invariant-loop-version
invariant-loop-version l = l.out.items ≡ l.initial.out.items ++ flat_map text_of_version (map stated (take l.version-index l.versions))
