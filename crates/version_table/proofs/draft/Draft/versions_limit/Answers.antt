use Rattle.std.proofs.Common.{◌+◌, ◌-◌, ℕ, nat_lt, [], ◌∷◌, map, sum_by, sym, ap, ◌∙◌, arith}
use Rattle.std.specs.List.{flat_map}
use Rattle.version_table.specs.declared.fault.Limit.TheVariants as limits
use Rattle.version_table.specs.declared.limits.TheConstants.{DISTORTIONS_LIMIT}
use Rattle.version_table.specs.declared.line.Stage.TheVariants as stages
use Rattle.version_table.specs.declared.line.StatedVersion.{StatedVersion}
use Rattle.version_table.specs.Table.{greatest}
use Rattle.version_table.specs.Limits.{first_failing, greatest_stated, test, version_tests}
use Rattle.version_table.specs.Private.Draft.{lines_of_draft}
use Rattle.version_table.proofs.Greatest.{failing_before, failing_behind, less_than_room}
use Rattle.version_table.proofs.draft.Draft.versions_limit.Goals as goal

pub returns-in-Some : goal.returns-in-Some
returns-in-Some c =
    let versions = c.args.versions.now in
    let sum = sum_by greatest_stated (lines_of_draft stages.Units c.args.self.now) + greatest (map (λ (version : StatedVersion). version.distortion) versions) in
    sym (failing_before (flat_map version_tests versions) (test limits.Distortions (nat_lt sum DISTORTIONS_LIMIT) ∷ []) c.in-Some.limit (sym c.limit_of_versions.ensures ∙ c.in-Some.is))

pub returns-in-None : goal.returns-in-None
returns-in-None c =
    let versions = c.args.versions.now in
    let most = greatest (map (λ (version : StatedVersion). version.distortion) versions) in
    let sum = sum_by greatest_stated (lines_of_draft stages.Units c.args.self.now) in
    let last = λ (n : ℕ) (room : ℕ). first_failing (test limits.Distortions (nat_lt n room) ∷ []) in
    let draft = c.requires in
    c.unless.ensures
    ∙ ap (λ (n : ℕ). last n (DISTORTIONS_LIMIT - c.args.self.now.distortions)) c.greatest_distortion.ensures
    ∙ ap (λ kept. first_failing (test limits.Distortions kept ∷ []))
    (less_than_room c.args.self.now.distortions most DISTORTIONS_LIMIT (omega (arith, draft.few_distortions)) ∙ ap (λ (n : ℕ). nat_lt (n + most) DISTORTIONS_LIMIT) draft.distortions)
    ∙ sym (failing_behind (flat_map version_tests versions) (test limits.Distortions (nat_lt (sum + most) DISTORTIONS_LIMIT) ∷ []) (sym c.limit_of_versions.ensures ∙ c.in-None.is))
