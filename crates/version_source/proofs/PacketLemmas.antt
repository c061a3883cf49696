-- PES packets in chosen versions, and their pieces.
use Rattle.std.proofs.Common.{◌≡◌, ℕ, zero, suc, ◌<◌, List, [], ◌∷◌, ◌++◌, length, Option, IfSome, refl, ap, subst, sym, ◌∙◌, arith}
use Rattle.std.specs.List.{AllZip, slice_get}
use Rattle.syntax_types.specs.declared.picture.Picture.{Picture}
use Rattle.syntax_types.specs.declared.picture.SeqState.{SeqState}
use Rattle.pes_units.specs.VideoHeader.{written_pes_header}
use Rattle.program_reader.specs.declared.program.UnitSource.{UnitSource}
use Rattle.version_maker.specs.declared.version.UnitVersion.{UnitVersion}
use Rattle.version_maker.specs.Versions.{AreVersions, IsCoarserVersion, IsVersionAt}
use Rattle.version_maker.proofs.Lists.{one-list}
use Rattle.version_source.specs.Sendable.{bytes_of_unit}
use Rattle.version_source.specs.Versions.{chosen_bytes}
use Rattle.version_source.specs.Private.Sending.{IsPacketOf}

-- one version for each ratio
as-many : (picture : Picture) (coarser : List ℕ) (others : List UnitVersion) → AllZip (IsCoarserVersion picture) coarser others → length others ≡ length coarser
as-many picture [] [] are = refl
as-many picture [] (v ∷ vs) are = absurd are
as-many picture (m ∷ ms) [] are = absurd are
as-many picture (m ∷ ms) (v ∷ vs) are = ap suc (as-many picture ms vs are.1)

pub versions-many : (before : Option SeqState) (unit coarser : List ℕ) (versions : List UnitVersion) → AreVersions before unit coarser versions → length versions ≡ suc (length coarser)
versions-many before unit coarser versions are =
    ap length are.of_picture.in_order ∙ ap suc (as-many are.picture coarser are.of_picture.others are.of_picture.coarser_ones)

-- the bytes of the version at a place
bytes-chosen : (versions : List UnitVersion) (index : ℕ) (bytes : List ℕ) → index < length versions → IfSome (slice_get versions index) (λ version. version.bytes ≡ bytes)
    → bytes ≡ chosen_bytes versions index
bytes-chosen [] index bytes within at = absurd (let e : index < 0 = within in omega (arith, e))
bytes-chosen (v ∷ vs) zero bytes within at = sym at
bytes-chosen (v ∷ vs) (suc k) bytes within at = bytes-chosen vs k bytes (omega (arith, within)) at

pub version-chosen : (before : Option SeqState) (unit coarser : List ℕ) (index : ℕ) (version : List ℕ) (versions : List UnitVersion) → IsVersionAt before unit coarser index version
    → AreVersions before unit coarser versions → version ≡ chosen_bytes versions index
version-chosen before unit coarser index version versions is are =
    let same : is.versions ≡ versions = one-list before unit coarser is.versions versions is.are are in
    let many : length versions ≡ suc (length coarser) = versions-many before unit coarser versions are in
    bytes-chosen versions index version (let within = is.within in omega (arith, many, within))
    (subst (λ (vs : List UnitVersion). IfSome (slice_get vs index) (λ v. v.bytes ≡ version)) same is.at)

-- a header before the version of this number is the PES packet
pub packet-of : (es coarser : List ℕ) (before : Option SeqState) (unit : UnitSource) (index : ℕ) (bytes version packet : List ℕ) → bytes ≡ bytes_of_unit es unit
    → IsVersionAt before bytes coarser index version → packet ≡ written_pes_header unit.times ++ version → IsPacketOf es coarser before unit index packet
packet-of es coarser before unit index bytes version packet same is made versions are =
    let here : IsVersionAt before (bytes_of_unit es unit) coarser index version = subst (λ (b : List ℕ). IsVersionAt before b coarser index version) same is in
    made ∙ ap (λ (v : List ℕ). written_pes_header unit.times ++ v) (version-chosen before (bytes_of_unit es unit) coarser index version versions here are)
