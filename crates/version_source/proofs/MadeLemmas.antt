-- Programs have one list of versions, and each video of theirs has its own.
use Rattle.std.proofs.Common.{◌≡◌, ℕ, zero, suc, ◌<◌, List, [], ◌∷◌, length, get_or, All, None, refl, ap, ◌∙◌, arith}
use Rattle.std.proofs.lemmas.List.{length-map}
use Rattle.std.proofs.Math.Logic.{∥∥₁_elim}
use Rattle.bit_lists.specs.Fields.{AreBytes}
use Rattle.program_reader.specs.declared.program.Program.{Program}
use Rattle.version_maker.specs.declared.version.UnitVersion.{UnitVersion}
use Rattle.job_report.specs.declared.job.ProgramJob.{ProgramJob}
use Rattle.version_source.specs.Sendable.{IsSendable}
use Rattle.version_source.specs.Versions.{AreAllVersions, AreVideoVersions, ratios_of}
use Rattle.version_source.specs.Private.Made.{HasVersions, HaveVersions, versions-set}
use Rattle.version_source.specs.Private.OneVersions.{one-all}
use Rattle.version_source.proofs.AllVersions.{all-versions}

pub versions-many : (programs : List Program) (ratios : List (List ℕ)) (versions : List (List (List UnitVersion))) → AreAllVersions programs ratios versions → length versions ≡ length programs
versions-many [] [] [] are = refl
versions-many [] [] (v ∷ vs) are = absurd are
versions-many [] (r ∷ rs) versions are = absurd are
versions-many (p ∷ ps) [] versions are = absurd are
versions-many (p ∷ ps) (r ∷ rs) [] are = absurd are
versions-many (p ∷ ps) (r ∷ rs) (v ∷ vs) are = ap suc (versions-many ps rs vs are.1)

-- the video of the program at a place
pub made-at : (programs : List Program) (ratios : List (List ℕ)) (versions : List (List (List UnitVersion))) (k : ℕ) (d : Program) → AreAllVersions programs ratios versions → k < length programs
    → AreVideoVersions (get_or programs k d).video (get_or ratios k []) None (get_or programs k d).units (get_or versions k [])
made-at [] ratios versions k d are within = absurd (let e : k < 0 = within in omega (arith, e))
made-at (p ∷ ps) [] versions k d are within = absurd are
made-at (p ∷ ps) (r ∷ rs) [] k d are within = absurd are
made-at (p ∷ ps) (r ∷ rs) (v ∷ vs) zero d are within = are.0
made-at (p ∷ ps) (r ∷ rs) (v ∷ vs) (suc k) d are within = made-at ps rs vs k d are.1 (omega (arith, within))

pub has-made : (programs : List Program) (ratios : List (List ℕ)) (k : ℕ) (d : Program) → HaveVersions programs ratios → k < length programs
    → HasVersions (get_or programs k d).video (get_or ratios k []) (get_or programs k d).units
has-made programs ratios k d made within = (get_or made.0 k [], ∥∥₁_elim made.1 (hlevel) (λ are. ∣ made-at programs ratios made.0 k d are within ∣₁))

-- ---- as a job says

pub ratios-many : (jobs : List ProgramJob) (programs : List Program) → length jobs ≡ length programs → length (ratios_of jobs) ≡ length programs
ratios-many jobs programs many = length-map jobs (λ (job : ProgramJob). job.coarser.items) ∙ many

pub ratios-at : (jobs : List ProgramJob) (k : ℕ) (d : ProgramJob) → k < length jobs → get_or (ratios_of jobs) k [] ≡ (get_or jobs k d).coarser.items
ratios-at [] k d within = absurd (let e : k < 0 = within in omega (arith, e))
ratios-at (j ∷ js) zero d within = refl
ratios-at (j ∷ js) (suc k) d within = ratios-at js k d (omega (arith, within))

pub some-made : (programs : List Program) (jobs : List ProgramJob) → length jobs ≡ length programs → All IsSendable programs → All (λ program. AreBytes program.video) programs
    → HaveVersions programs (ratios_of jobs)
some-made programs jobs many sendable bytes =
    let (versions, are) = all-versions programs (ratios_of jobs) (ratios-many jobs programs many) sendable bytes in (versions, ∣ are ∣₁)

pub same-made : (programs : List Program) (ratios : List (List ℕ)) (made : HaveVersions programs ratios) (versions : List (List (List UnitVersion))) → AreAllVersions programs ratios versions
    → made.0 ≡ versions
same-made programs ratios made versions are = ∥∥₁_elim made.1 (versions-set made.0 versions) (λ those. one-all programs ratios made.0 versions those are)
