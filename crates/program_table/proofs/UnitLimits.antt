-- The units of a table keep its limits: their times rise, and each version has a place.
use Rattle.std.proofs.Common.{◌≡◌, ℕ, zero, suc, ◌+◌, ◌-◌, ◌*◌, ◌<◌, ◌≤◌, List, [], ◌∷◌, length, take, drop, map, All, Option, Some, None, ℤ, ◌<ℤ◌, refl, sym, ap, ap₂, subst, ◌∙◌, arith}
use Rattle.std.specs.Prelude.{fold, max, slice_index, sum_by}
use Rattle.std.specs.List.Sorted.{IsStrictlyIncreasing}
use Rattle.std.proofs.lemmas.Int.{ints}
use Rattle.std.proofs.lemmas.List.{length-map, length-take}
use Rattle.std.proofs.lemmas.List.Elements.{All-cons, All-head, All-map, All-nil, All-tail}
use Rattle.std.proofs.lemmas.List.Sums.{sum_by-cons}
use Rattle.bit_lists.specs.Fields.{AreBytes, bit_list}
use Rattle.bit_lists.proofs.ByteLemmas.{AreBytes-take, AreBytes-drop}
use Rattle.syntax_types.specs.declared.picture.SeqState.{SeqState}
use Rattle.picture_grammar.specs.Picture.{IsState, MayPrecede}
use Rattle.picture_laws.proofs.SpelledStates.{state-of_unit}
use Rattle.pes_units.specs.declared.times.Times.{Times}
use Rattle.pes_units.specs.VideoHeader.{spelled, written_dts, written_pes_header}
use Rattle.version_table.specs.declared.table.Version.{Version}
use Rattle.version_table.specs.Table.{IsValidUnit, IsValidVersion, greatest, greatest_distortion}
use Rattle.elementary_streams.specs.declared.pes_packets.PlacedPacket.{PlacedPacket}
use Rattle.program_reader.specs.declared.program.UnitSource.{UnitSource}
use Rattle.program_reader.specs.declared.unit_sizes.UnitSizes.{UnitSizes}
use Rattle.program_reader.specs.Carry.{unit_weight}
use Rattle.program_reader.specs.Sizes.{AreUnitSizes, stands_at}
use Rattle.program_reader.specs.declared.timed_picture.TimedPicture.{TimedPicture}
use Rattle.program_reader.specs.Audio.{IsDue}
use Rattle.program_reader.specs.Programs.{AreUnitSources}
use Rattle.program_reader.specs.Intervals.{nearest}
use Rattle.program_reader.specs.Units.{AreInOrder, AreKept, IsLater, all, but_last}
use Rattle.version_maker.specs.declared.version.UnitVersion.{UnitVersion}
use Rattle.version_maker.specs.declared.version.VersionSize.{VersionSize}
use Rattle.version_maker.specs.Versions.{AreVersions, size_of}
use Rattle.version_maker.proofs.Lists.{one-list}
use Rattle.job_programs.specs.Distortions.{AreNear, greatest_weighed, weighed_together}
use Rattle.job_programs.specs.Programs.{last_time}
use Rattle.version_source.specs.Private.OneVersions.{one-state}
use Rattle.version_source.specs.Sendable.{LeavesState, bytes_of_unit}
use Rattle.version_source.specs.Versions.{AreVideoVersions}
use Rattle.version_source.proofs.StateLemmas.{state-left}
use Rattle.version_source.proofs.PacketLemmas.{versions-many}
use Rattle.program_table.specs.Table.{row_version, unit_row, unit_rows}

-- ---- pictures in order

pub kept-in-order : (es : List ℕ) (packets : List PlacedPacket) (units kept : List (ℕ × ℕ)) (pictures : List TimedPicture) (dropped : ℕ) → AreKept es packets units kept pictures dropped
    → AreInOrder es packets [] kept pictures
kept-in-order es packets units kept pictures dropped (all same in_order none) = in_order
kept-in-order es packets units kept pictures dropped (but_last last refusal at split in_order broken count) = in_order

-- the state of the first picture is one that may be in force
first-state : (es : List ℕ) (packets : List PlacedPacket) (kept : List (ℕ × ℕ)) (first : TimedPicture) (later : List TimedPicture) → AreInOrder es packets [] kept (first ∷ later)
    → IsState first.seq
first-state es packets [] first later in_order = absurd in_order
first-state es packets (unit ∷ units) first later (next, rest) =
    let coded = next.coded in
    subst IsState coded.seq_is (state-of_unit None coded.picture (bit_list (take (unit.1 - unit.0) (drop unit.0 es))) [] tt coded.whole.spelled)

pub pictures-state : (kept : List (ℕ × ℕ)) (first : TimedPicture) (pictures : List TimedPicture) (es : List ℕ) (packets : List PlacedPacket) (later : List TimedPicture)
    → pictures ≡ first ∷ later → AreInOrder es packets [] kept pictures → IsState first.seq
pictures-state kept first pictures es packets later first_is in_order =
    first-state es packets kept first later (subst (AreInOrder es packets [] kept) first_is in_order)

-- ---- times

-- each number is at least as great as this one, and greater than the one before
abbrev pub Climb : (low : ℕ) → List ℕ → Type 0
Climb low [] = Unit {0}
Climb low (n ∷ ns) = (low ≤ n) × Climb (suc n) ns

pub climb-rises : (low : ℕ) (ns : List ℕ) → Climb low ns → IsStrictlyIncreasing ns
climb-rises low [] climb k within = absurd (omega (arith, within))
climb-rises low (x ∷ []) climb k within = absurd (omega (arith, within))
climb-rises low (x ∷ y ∷ ys) climb zero within = let next : suc x ≤ y = climb.1.0 in omega (arith, next)
climb-rises low (x ∷ y ∷ ys) climb (suc k) within =
    let same : suc (k + 1) ≡ suc k + 1 = omega arith in
    let here : slice_index (y ∷ ys) k < slice_index (y ∷ ys) (k + 1) = climb-rises (suc x) (y ∷ ys) climb.1 k (omega (arith, within)) in
    subst (λ (n : ℕ). slice_index (y ∷ ys) k < slice_index (x ∷ y ∷ ys) n) same here

-- when units are decoded
abbrev pub dues_of : List UnitSource → List ℕ
dues_of units = map (λ unit. unit.due) units

later-due : (start : ℕ) (earliest first second : ℤ) (due next : ℕ) → IsDue start earliest first due → IsDue start earliest second next → first <ℤ second → suc due ≤ next
later-due start earliest first second due next is too order = omega (arith, ints, is, too, order)

pub dues-climb : (start : ℕ) (earliest : ℤ) (es : List ℕ) (packets : List PlacedPacket) (earlier : List TimedPicture) (low : ℕ) (units : List (ℕ × ℕ)) (pictures : List TimedPicture)
    (sources : List UnitSource) → ((ticks : ℤ) (due : ℕ) → IsLater (nearest earlier) ticks → IsDue start earliest ticks due → low ≤ due) → AreUnitSources start earliest units pictures sources
    → AreInOrder es packets earlier units pictures → Climb low (dues_of sources)
dues-climb start earliest es packets earlier low [] [] [] bound are in_order = tt
dues-climb start earliest es packets earlier low [] [] (s ∷ ss) bound are in_order = absurd are
dues-climb start earliest es packets earlier low [] (p ∷ ps) sources bound are in_order = absurd are
dues-climb start earliest es packets earlier low (u ∷ us) [] sources bound are in_order = absurd are
dues-climb start earliest es packets earlier low (u ∷ us) (p ∷ ps) [] bound are in_order = absurd are
dues-climb start earliest es packets earlier low (unit ∷ units) (picture ∷ pictures) (source ∷ sources) bound (begins, ends, times, due, kind, role, are) (next, in_order) = (
  bound picture.ticks source.due next.later due,
  dues-climb start earliest es packets (picture ∷ earlier) (suc source.due) units pictures sources
      (λ ticks next_due later is. later-due start earliest picture.ticks ticks source.due next_due due is later) are in_order,
)

-- ---- lengths

-- a unit is no longer than a unit may be
abbrev pub IsShortUnit : UnitSource → Type 0
IsShortUnit unit = unit.end - unit.begin ≤ 1048576

pub units-short : (start : ℕ) (earliest : ℤ) (es : List ℕ) (packets : List PlacedPacket) (earlier : List TimedPicture) (units : List (ℕ × ℕ)) (pictures : List TimedPicture)
    (sources : List UnitSource) → AreUnitSources start earliest units pictures sources → AreInOrder es packets earlier units pictures → All IsShortUnit sources
units-short start earliest es packets earlier [] [] [] are in_order = All-nil IsShortUnit
units-short start earliest es packets earlier [] [] (s ∷ ss) are in_order = absurd are
units-short start earliest es packets earlier [] (p ∷ ps) sources are in_order = absurd are
units-short start earliest es packets earlier (u ∷ us) [] sources are in_order = absurd are
units-short start earliest es packets earlier (u ∷ us) (p ∷ ps) [] are in_order = absurd are
units-short start earliest es packets earlier (unit ∷ units) (picture ∷ pictures) (source ∷ sources) (begins, ends, times, due, kind, role, are) (next, in_order) =
    let short : unit.1 - unit.0 ≤ 1048576 = next.short in
    All-cons IsShortUnit source sources (omega (arith, begins, ends, short)) (units-short start earliest es packets (picture ∷ earlier) units pictures sources are in_order)

pub sources-many : (start : ℕ) (earliest : ℤ) (units : List (ℕ × ℕ)) (pictures : List TimedPicture) (sources : List UnitSource)
    → AreUnitSources start earliest units pictures sources → length sources ≡ length units
sources-many start earliest [] [] [] are = refl
sources-many start earliest [] [] (s ∷ ss) are = absurd are
sources-many start earliest [] (p ∷ ps) sources are = absurd are
sources-many start earliest (u ∷ us) [] sources are = absurd are
sources-many start earliest (u ∷ us) (p ∷ ps) [] are = absurd are
sources-many start earliest (u ∷ us) (p ∷ ps) (s ∷ ss) (begins, ends, times, due, kind, role, are) = ap suc (sources-many start earliest us ps ss are)

pub rows-few : (weight drift : ℕ) (units : List UnitSource) (versions : List (List UnitVersion)) → length (unit_rows weight drift units versions) ≤ length units
rows-few weight drift [] [] = omega arith
rows-few weight drift [] (v ∷ vs) = omega arith
rows-few weight drift (u ∷ us) [] = omega arith
rows-few weight drift (u ∷ us) (v ∷ vs) = let rest : length (unit_rows weight drift us vs) ≤ length us = rows-few weight drift us vs in omega (arith, rest)

-- ---- versions

pub header-spelled : (pts dts : Option ℕ) → length (spelled pts dts) ≤ 19
header-spelled None dts = omega arith
header-spelled (Some pts) None = omega arith
header-spelled (Some pts) (Some dts) = omega arith

pub header-few : (times : Times) → length (written_pes_header times) ≤ 19
header-few times = header-spelled times.pts (written_dts times.pts times.dts)

-- a table has a place for each version of each unit
abbrev pub HavePlaces : Type 0
HavePlaces =
    (before : Option SeqState) (unit coarser : List ℕ) (versions : List UnitVersion) (header weight : ℕ) → MayPrecede before → AreBytes unit → length unit ≤ 1048576
    → AreVersions before unit coarser versions → header ≤ 19 → 2609192632320 * weight < 281474976710656
    → All (λ version. IsValidVersion (record { bytes = header + length version.bytes; distortion = version.distortion * weight })) versions

bytes-short : (es : List ℕ) (unit : UnitSource) → IsShortUnit unit → length (bytes_of_unit es unit) ≤ 1048576
bytes-short es unit short = omega (arith, short, length-take (unit.end - unit.begin) (drop unit.begin es))

-- the distortions of versions, times what their unit weighs, are below the limit
abbrev pub AreVersionsNear : (weight : ℕ) → List UnitVersion → Type 0
AreVersionsNear weight versions = All (λ (version : UnitVersion). version.distortion * weight < 281474976710656) versions

-- so are those of the versions of all units
abbrev pub AreAllNear : (weight drift : ℕ) → List UnitSource → List (List UnitVersion) → Type 0
AreAllNear weight drift (unit ∷ units) (versions ∷ more) = AreVersionsNear (unit_weight weight drift unit units) versions × AreAllNear weight drift units more
AreAllNear weight drift units versions = Unit {0}

unit-valid : HavePlaces → (slot weight : ℕ) (es coarser : List ℕ) (before : Option SeqState) (unit : UnitSource) (versions : List UnitVersion) → length coarser ≤ 7 → AreBytes es
    → MayPrecede before → IsShortUnit unit → unit.due ≤ last_time slot → AreVersions before (bytes_of_unit es unit) coarser versions → AreVersionsNear weight versions
    → IsValidUnit slot (unit_row weight unit versions)
unit-valid places slot weight es coarser before unit versions few are may short due is near =
    let count : length versions ≡ suc (length coarser) = versions-many before (bytes_of_unit es unit) coarser versions is in
    let same : length (map (row_version weight unit) versions) ≡ length versions = length-map versions (row_version weight unit) in
    let bytes : AreBytes (bytes_of_unit es unit) = AreBytes-take (unit.end - unit.begin) (drop unit.begin es) (AreBytes-drop unit.begin es are) in
    let by_slots : unit.due ≤ 2147483648 * slot = omega (arith, due) in
    let alone : All (λ version. IsValidVersion (row_version 1 unit version)) versions =
    places before (bytes_of_unit es unit) coarser versions (length (written_pes_header unit.times)) 1 may bytes (bytes-short es unit short) is (header-few unit.times) (omega arith) in
    let valid : All (λ version. IsValidVersion (row_version weight unit version)) versions = λ k d within.
    record { some_bytes = (alone k d within).some_bytes; bytes = (alone k d within).bytes; distortion = near k d within } in
    record {
      due = by_slots;
      some_version = omega (arith, count, same);
      few_versions = omega (arith, count, same, few);
      versions = All-map IsValidVersion (row_version weight unit) versions valid;
    }

pub rows-valid : HavePlaces → (slot weight drift : ℕ) (es coarser : List ℕ) (before : Option SeqState) (units : List UnitSource) (versions : List (List UnitVersion)) → length coarser ≤ 7
    → AreBytes es → MayPrecede before → All IsShortUnit units → All (λ unit. unit.due ≤ last_time slot) units → AreVideoVersions es coarser before units versions
    → AreAllNear weight drift units versions → All (IsValidUnit slot) (unit_rows weight drift units versions)
rows-valid places slot weight drift es coarser before [] [] few are may short dues is near = All-nil (IsValidUnit slot)
rows-valid places slot weight drift es coarser before [] (v ∷ vs) few are may short dues is near = absurd is
rows-valid places slot weight drift es coarser before (u ∷ us) [] few are may short dues is near = absurd is
rows-valid places slot weight drift es coarser before (unit ∷ units) (own ∷ more) few are may short dues (after, leaves, here, rest) near =
    let weighs : ℕ = unit_weight weight drift unit units in
    All-cons (IsValidUnit slot) (unit_row weighs unit own) (unit_rows weight drift units more)
    (unit-valid places slot weighs es coarser before unit own few are may (All-head IsShortUnit unit units short) (All-head (λ (u : UnitSource). u.due ≤ last_time slot) unit units dues) here near.0)
    (rows-valid places slot weight drift es coarser (Some after) units more few are (state-left before (bytes_of_unit es unit) after may leaves) (All-tail IsShortUnit unit units short)
    (All-tail (λ (u : UnitSource). u.due ≤ last_time slot) unit units dues) rest near.1)

-- without drift all are: a hundred times the greatest distortion is below the limit
pub all-near : HavePlaces → (weight : ℕ) (es coarser : List ℕ) (before : Option SeqState) (units : List UnitSource) (versions : List (List UnitVersion)) → weight ≤ 100 → AreBytes es
    → MayPrecede before → All IsShortUnit units → AreVideoVersions es coarser before units versions → AreAllNear weight 0 units versions
all-near places weight es coarser before [] [] light are may short is = tt
all-near places weight es coarser before [] (v ∷ vs) light are may short is = absurd is
all-near places weight es coarser before (u ∷ us) [] light are may short is = absurd is
all-near places weight es coarser before (unit ∷ units) (own ∷ more) light are may short (after, leaves, here, rest) =
    let bytes : AreBytes (bytes_of_unit es unit) = AreBytes-take (unit.end - unit.begin) (drop unit.begin es) (AreBytes-drop unit.begin es are) in
    let room : 2609192632320 * weight < 281474976710656 = omega (arith, light) in
    let valid : All (λ version. IsValidVersion (row_version weight unit version)) own =
    places before (bytes_of_unit es unit) coarser own (length (written_pes_header unit.times)) weight may bytes (bytes-short es unit (All-head IsShortUnit unit units short)) here (header-few unit.times) room in (
      λ k d within. (valid k d within).distortion,
      all-near places weight es coarser (Some after) units more light are (state-left before (bytes_of_unit es unit) after may leaves) (All-tail IsShortUnit unit units short) rest,
    )

-- with it, where the told sizes are
pub told-near : (weight drift : ℕ) (es coarser : List ℕ) (before : Option SeqState) (units : List UnitSource) (versions : List (List UnitVersion)) (sizes : List UnitSizes)
    → AreVideoVersions es coarser before units versions → AreUnitSizes es coarser before (map stands_at units) sizes → AreNear weight drift units sizes → AreAllNear weight drift units versions
told-near weight drift es coarser before [] [] sizes is sized near = tt
told-near weight drift es coarser before [] (v ∷ vs) sizes is sized near = absurd is
told-near weight drift es coarser before (u ∷ us) [] sizes is sized near = absurd is
told-near weight drift es coarser before (unit ∷ units) (own ∷ more) [] is sized near = absurd sized
told-near weight drift es coarser before (unit ∷ units) (own ∷ more) (s ∷ ss) (after, leaves, here, rest) (told, others) near =
    let bytes : List ℕ = bytes_of_unit es unit in
    let same : told.versions ≡ own = one-list before bytes coarser told.versions own told.are here in
    let items : s.versions.items ≡ map size_of own = told.each ∙ ap (map size_of) same in
    let those : All (λ (size : VersionSize). size.distortion * unit_weight weight drift unit units < 281474976710656) (map size_of own) =
    subst (All (λ (size : VersionSize). size.distortion * unit_weight weight drift unit units < 281474976710656)) items near.0 in
    let left : LeavesState before bytes told.are.picture.seq = record { picture = told.are.picture; whole = told.are.whole; after_is = refl } in
    let state : told.are.picture.seq ≡ after = one-state before bytes told.are.picture.seq after left leaves in (
      unmapped (unit_weight weight drift unit units) own those,
      told-near weight drift es coarser (Some after) units more ss rest (subst (λ (q : SeqState). AreUnitSizes es coarser (Some q) (map stands_at units) ss) state others) near.1,
    )
  where
    unmapped : (weight : ℕ) (versions : List UnitVersion) → All (λ (size : VersionSize). size.distortion * weight < 281474976710656) (map size_of versions) → AreVersionsNear weight versions
    unmapped weight [] every = All-nil (λ (version : UnitVersion). version.distortion * weight < 281474976710656)
    unmapped weight (v ∷ vs) every =
        All-cons (λ (version : UnitVersion). version.distortion * weight < 281474976710656) v vs
        (All-head (λ (size : VersionSize). size.distortion * weight < 281474976710656) (size_of v) (map size_of vs) every)
        (unmapped weight vs (All-tail (λ (size : VersionSize). size.distortion * weight < 281474976710656) (size_of v) (map size_of vs) every))

-- the greatest distortions of the rows of units together are those of the told sizes
pub told-together : (weight drift : ℕ) (es coarser : List ℕ) (before : Option SeqState) (units : List UnitSource) (versions : List (List UnitVersion)) (sizes : List UnitSizes)
    → AreVideoVersions es coarser before units versions → AreUnitSizes es coarser before (map stands_at units) sizes
    → sum_by greatest_distortion (unit_rows weight drift units versions) ≡ weighed_together weight drift units sizes
told-together weight drift es coarser before [] [] [] is sized = refl
told-together weight drift es coarser before [] [] (s ∷ ss) is sized = absurd sized
told-together weight drift es coarser before [] (v ∷ vs) sizes is sized = absurd is
told-together weight drift es coarser before (u ∷ us) [] sizes is sized = absurd is
told-together weight drift es coarser before (unit ∷ units) (own ∷ more) [] is sized = absurd sized
told-together weight drift es coarser before (unit ∷ units) (own ∷ more) (s ∷ ss) (after, leaves, here, rest) (told, others) =
    let bytes : List ℕ = bytes_of_unit es unit in
    let n : ℕ = unit_weight weight drift unit units in
    let same : told.versions ≡ own = one-list before bytes coarser told.versions own told.are here in
    let items : s.versions.items ≡ map size_of own = told.each ∙ ap (map size_of) same in
    let left : LeavesState before bytes told.are.picture.seq = record { picture = told.are.picture; whole = told.are.whole; after_is = refl } in
    let state : told.are.picture.seq ≡ after = one-state before bytes told.are.picture.seq after left leaves in
    let first : greatest_distortion (unit_row n unit own) ≡ greatest_weighed n s =
    greatest-same n unit own 0 ∙ sym (ap (λ (xs : List VersionSize). greatest (map (λ (size : VersionSize). size.distortion * n) xs)) items) in
    let later = told-together weight drift es coarser (Some after) units more ss rest (subst (λ (q : SeqState). AreUnitSizes es coarser (Some q) (map stands_at units) ss) state others) in
    sum_by-cons greatest_distortion (unit_row n unit own) (unit_rows weight drift units more) ∙ ap₂ (λ (a b : ℕ). a + b) first later
  where
    greatest-same : (n : ℕ) (unit : UnitSource) (versions : List UnitVersion) (most : ℕ)
        → fold max most (map (λ (v : Version). v.distortion) (map (row_version n unit) versions)) ≡ fold max most (map (λ (size : VersionSize). size.distortion * n) (map size_of versions))
    greatest-same n unit [] most = refl
    greatest-same n unit (v ∷ vs) most = greatest-same n unit vs (max most (v.distortion * n))

pub row-dues : (weight drift : ℕ) (es coarser : List ℕ) (before : Option SeqState) (units : List UnitSource) (versions : List (List UnitVersion)) → AreVideoVersions es coarser before units versions
    → map (λ unit. unit.due) (unit_rows weight drift units versions) ≡ dues_of units
row-dues weight drift es coarser before [] [] is = refl
row-dues weight drift es coarser before [] (v ∷ vs) is = absurd is
row-dues weight drift es coarser before (u ∷ us) [] is = absurd is
row-dues weight drift es coarser before (unit ∷ units) (own ∷ more) (after, leaves, here, rest) =
    ap (λ (ns : List ℕ). unit.due ∷ ns) (row-dues weight drift es coarser (Some after) units more rest)
