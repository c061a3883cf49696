-- The versions of programs and of a video, which are no values of the code.
use mathlib.Core.HLevel.{Σ_prop_path}
use Rattle.std.specs.Prelude.{ℕ, List, None, refl}
use Rattle.std.specs.Coded.{Coded, Coded-set, code_by, coded_list, coded_ℕ, coded×}
use Rattle.std.proofs.Math.Logic.{∥∥₁_elim}
use Rattle.program_reader.specs.declared.program.Program.{Program}
use Rattle.program_reader.specs.declared.program.UnitSource.{UnitSource}
use Rattle.version_maker.specs.declared.version.UnitVersion.{UnitVersion}
use Rattle.version_source.specs.Versions.{AreAllVersions, AreVideoVersions}
use Rattle.version_source.specs.Private.OneVersions.{one-all}

-- programs have these versions
abbrev pub HaveVersions : List Program → (ratios : List (List ℕ)) → Type 0
HaveVersions programs ratios = (versions : List (List (List UnitVersion))) × ∥ AreAllVersions programs ratios versions ∥₁

-- the units of a video have these versions
abbrev pub HasVersions : (es coarser : List ℕ) → List UnitSource → Type 0
HasVersions es coarser units = (versions : List (List UnitVersion)) × ∥ AreVideoVersions es coarser None units versions ∥₁

-- a version as the pair of its fields
abbrev version_code : Coded UnitVersion
version_code =
    code_by (List ℕ × ℕ) (coded× (coded_list coded_ℕ) coded_ℕ) (λ version. (version.bytes, version.distortion)) (λ p. record { bytes = p.0; distortion = p.1 }) (λ _. refl)

pub versions-set : IsSet (List (List (List UnitVersion)))
versions-set = Coded-set (coded_list (coded_list (coded_list version_code)))

-- there is one list of them

pub one-made : (programs : List Program) (ratios : List (List ℕ)) → IsProp (HaveVersions programs ratios)
one-made programs ratios p q =
    Σ_prop_path {B = λ (versions : List (List (List UnitVersion))). ∥ AreAllVersions programs ratios versions ∥₁} (λ versions. hlevel) {u = p} {v = q}
    (∥∥₁_elim p.1 (versions-set p.0 q.0) (λ are. ∥∥₁_elim q.1 (versions-set p.0 q.0) (λ others. one-all programs ratios p.0 q.0 are others)))
