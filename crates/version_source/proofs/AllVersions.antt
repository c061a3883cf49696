-- The versions of programs: that there are some, and how long they are.
use Rattle.std.proofs.Common.{◌≡◌, ℕ, zero, suc, ◌+◌, ◌-◌, List, [], ◌∷◌, length, drop, map, slice_index_or, All, Option, Some, None, refl, ap, ◌∙◌, arith}
use Rattle.std.proofs.lemmas.List.{length-append}
use Rattle.bit_lists.specs.Fields.{AreBytes}
use Rattle.bit_lists.proofs.ByteLemmas.{AreBytes-take, AreBytes-drop}
use Rattle.syntax_types.specs.declared.picture.SeqState.{SeqState}
use Rattle.picture_grammar.specs.Picture.{MayPrecede}
use Rattle.pes_units.specs.VideoHeader.{written_pes_header}
use Rattle.program_reader.specs.declared.program.Program.{Program}
use Rattle.program_reader.specs.declared.program.UnitSource.{UnitSource}
use Rattle.version_maker.specs.declared.version.UnitVersion.{UnitVersion}
use Rattle.version_maker.specs.declared.version.VersionSize.{VersionSize}
use Rattle.version_maker.specs.Versions.{size_of}
use Rattle.version_maker.proofs.Lists.{some-list}
use Rattle.version_source.specs.Sendable.{IsSendable, SpellInOrder, bytes_of_unit}
use Rattle.version_source.specs.Pieces.{pes_packet}
use Rattle.version_source.specs.Versions.{AreAllVersions, AreVideoVersions, chosen_bytes}
use Rattle.version_source.proofs.StateLemmas.{state-left}

-- the bytes of a unit are bytes
are-unit-bytes : (es : List ℕ) (unit : UnitSource) → AreBytes es → AreBytes (bytes_of_unit es unit)
are-unit-bytes es unit are = AreBytes-take (unit.end - unit.begin) (drop unit.begin es) (AreBytes-drop unit.begin es are)

-- ---- some

video-versions : (es coarser : List ℕ) (before : Option SeqState) (units : List UnitSource) → AreBytes es → MayPrecede before → SpellInOrder es before units
    → (versions : List (List UnitVersion)) × AreVideoVersions es coarser before units versions
video-versions es coarser before [] are may spelled = ([], tt)
video-versions es coarser before (unit ∷ units) are may (after, leaves, spelled) =
    let (first, those) = some-list before leaves.picture (bytes_of_unit es unit) coarser may (are-unit-bytes es unit are) leaves.whole in
    let (more, others) = video-versions es coarser (Some after) units are (state-left before (bytes_of_unit es unit) after may leaves) spelled in
    (first ∷ more, (after, leaves, those, others))

pub all-versions : (programs : List Program) (ratios : List (List ℕ)) → length ratios ≡ length programs → All IsSendable programs → All (λ program. AreBytes program.video) programs
    → (versions : List (List (List UnitVersion))) × AreAllVersions programs ratios versions
all-versions [] [] same sendable are = ([], tt)
all-versions [] (r ∷ rs) same sendable are = absurd (cc)
all-versions (p ∷ ps) [] same sendable are = absurd (cc)
all-versions (program ∷ programs) (coarser ∷ ratios) same sendable are =
    let here : IsSendable program = sendable 0 program (omega arith) in
    let byte : AreBytes program.video = are 0 program (omega arith) in
    let later : All IsSendable programs = λ k d within. sendable (suc k) d (omega (arith, within)) in
    let bytes : All (λ (p : Program). AreBytes p.video) programs = λ k d within. are (suc k) d (omega (arith, within)) in
    let (first, those) = video-versions program.video coarser None program.units byte tt here.pictures in
    let (more, others) = all-versions programs ratios (omega (arith, same)) later bytes in
    (first ∷ more, (those, others))

-- ---- how long they are

abbrev pub none : VersionSize
none = record { bytes = 0; distortion = 0 }

size-chosen : (versions : List UnitVersion) (index : ℕ) → length (chosen_bytes versions index) ≡ (slice_index_or (map size_of versions) index none).bytes
size-chosen [] index = refl
size-chosen (v ∷ vs) zero = refl
size-chosen (v ∷ vs) (suc k) = size-chosen vs k

pub packet-size : (unit : UnitSource) (versions : List UnitVersion) (index : ℕ)
    → length (pes_packet unit (chosen_bytes versions index)) ≡ length (written_pes_header unit.times) + (slice_index_or (map size_of versions) index none).bytes
packet-size unit versions index =
    length-append (written_pes_header unit.times) (chosen_bytes versions index) ∙ ap (λ (n : ℕ). length (written_pes_header unit.times) + n) (size-chosen versions index)
