-- All versions of all units of a program.
use Rattle.std.proofs.Common.{◌≡◌, ℕ, ◌-◌, ◌<◌, true, List, [], ◌∷◌, ◌++◌, All, length, drop, Option, Some, None, ℤ, refl, sym, ap, ap₂, subst, ◌∙◌}
use Rattle.std.specs.Prelude.{slice_range}
use Rattle.std.specs.List.{AllZip}
use Rattle.std.proofs.lemmas.List.Elements.{All-cons, All-head, All-nil, All-tail}
use Rattle.bit_lists.specs.Fields.{AreBytes, bit_list}
use Rattle.bit_lists.proofs.ByteLemmas.{AreBytes-append, AreBytes-take, AreBytes-drop}
use Rattle.syntax_types.specs.declared.picture.Picture.{Picture}
use Rattle.syntax_types.specs.declared.picture.SeqState.{SeqState}
use Rattle.es_units.specs.StartCodes.{has_code, is_sequence_header}
use Rattle.picture_grammar.specs.Picture.{MayPrecede, SpellsPicture}
use Rattle.picture_grammar.proofs.HeaderLaws.{exact-picture_unit}
use Rattle.picture_laws.proofs.SpelledStates.{state-of_unit}
use Rattle.picture_heads.specs.Heads.{IsHeadWithoutDelay}
use Rattle.picture_reader.specs.Picture.{IsPictureOf}
use Rattle.elementary_streams.specs.declared.pes_packets.PlacedPacket.{PlacedPacket}
use Rattle.program_reader.specs.declared.program.Program.{Program}
use Rattle.program_reader.specs.declared.program.UnitSource.{UnitSource}
use Rattle.program_reader.specs.declared.timed_picture.TimedPicture.{TimedPicture}
use Rattle.job_report.specs.declared.job.Form.{Form}
use Rattle.program_reader.specs.Programs.{AreUnitSources, IsProgramOfFile, video_bytes, video_packets}
use Rattle.program_reader.specs.Units.{AreKept, all, but_last}
use Rattle.version_maker.specs.declared.version.UnitVersion.{UnitVersion}
use Rattle.version_maker.specs.Versions.{AreVersions, IsCoarserVersion, IsSourceVersion}
use Rattle.version_source.specs.Sendable.{LeavesState, bytes_of_unit}
use Rattle.version_source.specs.Versions.{AreVideoVersions}
use Rattle.unit_laws.specs.WholeVersions.{AreWholeVersions, BeginWithSequence, IsWholeVersion}
use Rattle.unit_laws.proofs.Codes.{CodeOf}
use Rattle.unit_laws.proofs.CodesInOrder.{codes-in-order}
use Rattle.unit_laws.proofs.SourceUnits.{AreSpans, IsSourceUnit, IsSpan, cut-spans, led-unit, source-unit}
use Rattle.unit_laws.proofs.SpelledVersions.{coarser-spelled, source-spelled, without_delay}
use Rattle.unit_laws.proofs.WholeVersions.{AreBytes-behind, HasParts, begins-alike, has-parts, whole-version}

-- a version that begins with a sequence header
abbrev BeginsSequence : UnitVersion → Type 0
BeginsSequence version = has_code is_sequence_header version.bytes 0 ≡ true

-- ---- one unit

module _ (before : Option SeqState) (unit : List ℕ) (picture : Picture) (after : SeqState) (may : MayPrecede before) (source : IsSourceUnit unit) (are : AreBytes unit)
    (whole : IsPictureOf before unit picture) (leaves : picture.seq ≡ after) where
  parts : HasParts picture unit
  parts = has-parts before picture unit are whole.spelled

  -- a version that spells a picture of such a head
  made-version : (made : Picture) (version : UnitVersion) → AreBytes version.bytes → SpellsPicture before made version.bytes → IsHeadWithoutDelay picture.head made.head → made.seq ≡ picture.seq
      → IsWholeVersion before after version × ((3 < length unit → CodeOf is_sequence_header unit 0) → BeginsSequence version)
  made-version made version are_version spelled w seq =
      let v = has-parts before made version.bytes are_version spelled in (
        record {
          whole = whole-version picture made unit version.bytes source parts v are are_version w;
          slices = record { picture = made; spelled = spelled; codes = codes-in-order made version.bytes are_version v };
          leaves = seq ∙ leaves;
        },
        begins-alike picture made unit version.bytes source parts v are are_version w is_sequence_header,
      )

  first-version : (version : UnitVersion) → IsSourceVersion picture unit version → IsWholeVersion before after version × ((3 < length unit → CodeOf is_sequence_header unit 0) → BeginsSequence version)
  first-version version is =
      let bytes : AreBytes version.bytes =
      subst AreBytes (sym is.bytes) (AreBytes-append is.head is.behind is.without.bytes (AreBytes-behind picture.head is.behind (subst AreBytes is.source are))) in
      made-version (without_delay picture is.head) version bytes
      (subst (SpellsPicture before (without_delay picture is.head)) (sym is.bytes) (source-spelled before picture unit is.head is.behind whole.spelled is.source is.without)) is.without refl

  coarser-version : (m : ℕ) (version : UnitVersion) → IsCoarserVersion picture m version
      → IsWholeVersion before after version × ((3 < length unit → CodeOf is_sequence_header unit 0) → BeginsSequence version)
  coarser-version m version is =
      made-version is.made version is.written.0 (coarser-spelled m before picture is.made unit version.bytes may whole.spelled whole.covered is.coarser is.written) is.coarser.head is.coarser.seq

  coarser-versions : (coarser : List ℕ) (versions : List UnitVersion) → AllZip (IsCoarserVersion picture) coarser versions
      → All (IsWholeVersion before after) versions × ((3 < length unit → CodeOf is_sequence_header unit 0) → All BeginsSequence versions)
  coarser-versions [] [] zip = (All-nil (IsWholeVersion before after), λ led. All-nil BeginsSequence)
  coarser-versions [] (v ∷ vs) zip = absurd zip
  coarser-versions (m ∷ ms) [] zip = absurd zip
  coarser-versions (m ∷ ms) (v ∷ vs) zip =
      let one = coarser-version m v zip.0 in
      let rest = coarser-versions ms vs zip.1 in
      (All-cons (IsWholeVersion before after) v vs one.0 rest.0, λ led. All-cons BeginsSequence v vs (one.1 led) (rest.1 led))

unit-versions : (before : Option SeqState) (unit coarser : List ℕ) (after : SeqState) (versions : List UnitVersion) → MayPrecede before → IsSourceUnit unit → AreBytes unit → LeavesState before unit after
    → AreVersions before unit coarser versions → All (IsWholeVersion before after) versions × ((3 < length unit → CodeOf is_sequence_header unit 0) → All BeginsSequence versions)
unit-versions before unit coarser after versions may source are leaves is =
    let same : is.picture ≡ leaves.picture = ((exact-picture_unit before).one_value is.picture leaves.picture (bit_list unit) [] [] is.whole.spelled leaves.whole.spelled).0 in
    let seq : is.picture.seq ≡ after = ap (λ (p : Picture). p.seq) same ∙ leaves.after_is in
    let of = is.of_picture in
    let one = first-version before unit is.picture after may source are is.whole seq of.first of.source in
    let rest = coarser-versions before unit is.picture after may source are is.whole seq coarser of.others of.coarser_ones in (
      subst (All (IsWholeVersion before after)) (sym of.in_order) (All-cons (IsWholeVersion before after) of.first of.others one.0 rest.0),
      λ led. subst (All BeginsSequence) (sym of.in_order) (All-cons BeginsSequence of.first of.others (one.1 led) (rest.1 led)),
    )

-- ---- the units of a video

range-bytes : (es : List ℕ) (from to : ℕ) → AreBytes es → AreBytes (slice_range es from to)
range-bytes es from to are = AreBytes-take (to - from) (drop from es) (AreBytes-drop from es are)

-- a unit's place in the video
abbrev IsSpanOf : List ℕ → UnitSource → Type 0
IsSpanOf es unit = IsSpan es (unit.begin, unit.end)

all-versions : (es coarser : List ℕ) (before : Option SeqState) (units : List UnitSource) (versions : List (List UnitVersion)) → AreBytes es → MayPrecede before → All (IsSpanOf es) units
    → AreVideoVersions es coarser before units versions → AreWholeVersions before versions
all-versions es coarser before [] [] are may spans is = tt
all-versions es coarser before [] (v ∷ vs) are may spans is = absurd is
all-versions es coarser before (u ∷ us) [] are may spans is = absurd is
all-versions es coarser before (u ∷ us) (v ∷ vs) are may spans (after, leaves, here, rest) =
    let source = source-unit es u.begin u.end (All-head (IsSpanOf es) u us spans) in
    let state : MayPrecede (Some after) = subst (λ (s : SeqState). MayPrecede (Some s)) leaves.after_is
    (state-of_unit before leaves.picture (bit_list (bytes_of_unit es u)) [] may leaves.whole.spelled) in (
      after,
      (unit-versions before (bytes_of_unit es u) coarser after v may source (range-bytes es u.begin u.end are) leaves here).0,
      all-versions es coarser (Some after) us vs are state (All-tail (IsSpanOf es) u us spans) rest,
    )

led-versions : (es coarser : List ℕ) (unit : UnitSource) (units : List UnitSource) (versions : List (List UnitVersion)) → AreBytes es → IsSpanOf es unit
    → has_code is_sequence_header es unit.begin ≡ true → AreVideoVersions es coarser None (unit ∷ units) versions → BeginWithSequence versions
led-versions es coarser u us [] are span led is = absurd is
led-versions es coarser u us (v ∷ vs) are span led (after, leaves, here, rest) =
    (unit-versions None (bytes_of_unit es u) coarser after v tt (source-unit es u.begin u.end span) (range-bytes es u.begin u.end are) leaves here).1 (led-unit es u.begin u.end span.inside led)

-- ---- a program's units

front-spans : (es : List ℕ) (front behind : List (ℕ × ℕ)) → All (IsSpan es) (front ++ behind) → All (IsSpan es) front
front-spans es [] behind spans = All-nil (IsSpan es)
front-spans es (x ∷ xs) behind spans = All-cons (IsSpan es) x xs (All-head (IsSpan es) x (xs ++ behind) spans) (front-spans es xs behind (All-tail (IsSpan es) x (xs ++ behind) spans))

-- the units that are kept, of which the first is the first of all
kept-spans : (es : List ℕ) (packets : List PlacedPacket) (units kept : List (ℕ × ℕ)) (pictures : List TimedPicture) (dropped : ℕ) → AreSpans es units → AreKept es packets units kept pictures dropped
    → All (IsSpan es) kept × ((first : ℕ × ℕ) (more : List (ℕ × ℕ)) → kept ≡ first ∷ more → has_code is_sequence_header es first.0 ≡ true)
kept-spans es packets units kept pictures dropped spans (all same in_order none) = (
  subst (All (IsSpan es)) same spans.each,
  λ first more is. subst (λ (at : ℕ). has_code is_sequence_header es at ≡ true) (sym (spans.begins first more (same ∙ is))) spans.leads,
)
kept-spans es packets units kept pictures dropped spans (but_last last refusal at split in_order broken count) = (
  front-spans es kept (last ∷ []) (subst (All (IsSpan es)) split spans.each),
  λ first more is. subst (λ (at : ℕ). has_code is_sequence_header es at ≡ true)
      (sym (spans.begins first (more ++ last ∷ []) (split ∙ ap (λ (xs : List (ℕ × ℕ)). xs ++ last ∷ []) is))) spans.leads,
)

source-spans : (start : ℕ) (earliest : ℤ) (es : List ℕ) (kept : List (ℕ × ℕ)) (pictures : List TimedPicture) (sources : List UnitSource) → AreUnitSources start earliest kept pictures sources
    → All (IsSpan es) kept → All (IsSpanOf es) sources
source-spans start earliest es [] [] [] are spans = All-nil (IsSpanOf es)
source-spans start earliest es [] [] (s ∷ ss) are spans = absurd are
source-spans start earliest es [] (p ∷ ps) sources are spans = absurd are
source-spans start earliest es (u ∷ us) [] sources are spans = absurd are
source-spans start earliest es (u ∷ us) (p ∷ ps) [] are spans = absurd are
source-spans start earliest es (u ∷ us) (p ∷ ps) (s ∷ ss) (begins, ends, times, due, kind, role, are) spans =
    All-cons (IsSpanOf es) s ss (subst (λ (span : ℕ × ℕ). IsSpan es span) (ap₂ (λ (a b : ℕ). (a, b)) (sym begins) (sym ends)) (All-head (IsSpan es) u us spans))
    (source-spans start earliest es us ps ss are (All-tail (IsSpan es) u us spans))

-- the first unit of a program
first-source : (start : ℕ) (earliest : ℤ) (kept : List (ℕ × ℕ)) (pictures : List TimedPicture) (picture : TimedPicture) (later : List TimedPicture) (sources : List UnitSource)
    → AreUnitSources start earliest kept pictures sources → pictures ≡ picture ∷ later
    → (first : ℕ × ℕ) × (more : List (ℕ × ℕ)) × (source : UnitSource) × (others : List UnitSource) × (kept ≡ first ∷ more) × (sources ≡ source ∷ others) × (source.begin ≡ first.0)
first-source start earliest [] [] picture later sources are is = absurd (let e : [] ≡ picture ∷ later = is in cc)
first-source start earliest [] (p ∷ ps) picture later sources are is = absurd are
first-source start earliest (u ∷ us) [] picture later sources are is = absurd are
first-source start earliest (u ∷ us) (p ∷ ps) picture later [] are is = absurd are
first-source start earliest (u ∷ us) (p ∷ ps) picture later (s ∷ ss) (begins, ends, times, due, kind, role, are) is = (u, us, s, ss, refl, refl, begins)

pub program-versions : (form : Form) (content : List ℕ) (number : ℕ) (dropped : List ℕ) (start : ℕ) (program : Program) (coarser : List ℕ) (versions : List (List UnitVersion)) → AreBytes program.video
    → IsProgramOfFile form content number dropped start program → AreVideoVersions program.video coarser None program.units versions → AreWholeVersions None versions × BeginWithSequence versions
program-versions form content number dropped start program coarser versions are of is =
    let program_is = of.program_is in
    let es : List ℕ = video_bytes of.demuxed in
    let bytes : AreBytes es = subst AreBytes program_is.video_is are in
    let pictures = program_is.has_pictures in
    let kept = kept-spans es (video_packets of.demuxed) pictures.units.cuts program_is.kept program_is.pictures pictures.at_end
    (cut-spans es pictures.units pictures.has_units.units_are) pictures.kept_are in
    let spans : All (IsSpanOf es) program.units = source-spans start program_is.earliest es program_is.kept program_is.pictures program.units program_is.units_are kept.0 in
    let there : AreVideoVersions es coarser None program.units versions = subst (λ (video : List ℕ). AreVideoVersions video coarser None program.units versions) program_is.video_is is in
    let (first, more, unit, others, kept_is, units_are, begins) =
    first-source start program_is.earliest program_is.kept program_is.pictures program_is.first pictures.later program.units program_is.units_are pictures.first_is in
    let led : has_code is_sequence_header es unit.begin ≡ true = subst (λ (at : ℕ). has_code is_sequence_header es at ≡ true) (sym begins) (kept.1 first more kept_is) in (
      all-versions es coarser None program.units versions bytes tt spans there,
      led-versions es coarser unit others versions bytes (All-head (IsSpanOf es) unit others (subst (All (IsSpanOf es)) units_are spans)) led
          (subst (λ (units : List UnitSource). AreVideoVersions es coarser None units versions) units_are there),
    )
