-- The units that a video sends are whole, the first begins with a sequence header, and no start code begins inside their slices.
use Rattle.std.proofs.Common.{◌≡◌, ℕ, ◌<◌, true, List, [], ◌∷◌, ◌++◌, All, length, get_or, map, Some, None, Option, refl, sym, ap, ◌∙◌, subst, arith}
use Rattle.std.specs.List.{AllZip}
use Rattle.std.specs.Option.{option_map_or}
use Rattle.std.proofs.lemmas.List.{length-map}
use Rattle.std.proofs.lemmas.List.Elements.{All-cons, All-get_or, All-nil}
use Rattle.std.proofs.lemmas.Option.{slice_get-get_or}
use Rattle.bit_lists.specs.Fields.{AreBytes}
use Rattle.syntax_types.specs.declared.picture.SeqState.{SeqState}
use Rattle.es_units.specs.StartCodes.{has_code, is_sequence_header}
use Rattle.picture_grammar.specs.Picture.{SpellsPicture}
use Rattle.es_units.specs.Units.{cut_units}
use Rattle.version_table.specs.declared.table.Unit.{Unit as CodedUnit}
use Rattle.version_table.specs.Choice.{HasVersion}
use Rattle.program_reader.specs.Carry.{unit_weight}
use Rattle.program_reader.specs.declared.program.Program.{Program}
use Rattle.program_reader.specs.declared.program.UnitSource.{UnitSource}
use Rattle.program_reader.specs.Programs.{IsProgramOfFile}
use Rattle.job_report.specs.declared.job.Form.{Form}
use Rattle.version_maker.specs.declared.version.UnitVersion.{UnitVersion}
use Rattle.version_source.specs.Versions.{AreVideoVersions, chosen_bytes}
use Rattle.unit_laws.specs.OwnCodes.{HasNoCodeInSlices, HaveNoCodeInSlices, codes_from, own_codes}
use Rattle.unit_laws.specs.WholeVersions.{AreWholeVersions, BeginWithSequence, IsWholeVersion}
use Rattle.program_table.specs.Table.{row_version, unit_rows}
use Rattle.layer_laws.specs.WholeUnits.{IsLedBySequence, IsWholeUnit, placed_units}
use Rattle.parsing_laws.specs.Parsed.{AreReadAs, SentUnit, joined_payloads}
use Rattle.job_laws.specs.ParsesTo.{sent_units}

-- ---- the laws below, as this crate calls them

abbrev pub VersionsAreWhole : Type 0
VersionsAreWhole =
    (form : Form) (content : List ℕ) (number : ℕ) (dropped : List ℕ) (start : ℕ) (program : Program) (coarser : List ℕ) (versions : List (List UnitVersion)) → AreBytes program.video
    → IsProgramOfFile form content number dropped start program → AreVideoVersions program.video coarser None program.units versions → AreWholeVersions None versions

abbrev pub VersionsAreLed : Type 0
VersionsAreLed =
    (form : Form) (content : List ℕ) (number : ℕ) (dropped : List ℕ) (start : ℕ) (program : Program) (coarser : List ℕ) (versions : List (List UnitVersion)) → AreBytes program.video
    → IsProgramOfFile form content number dropped start program → AreVideoVersions program.video coarser None program.units versions → BeginWithSequence versions

abbrev pub bytes_sent : List SentUnit → List (List ℕ)
bytes_sent units = map (λ (unit : SentUnit). unit.bytes) units

abbrev pub UnitsCutAgain : Type 0
UnitsCutAgain =
    (units : List SentUnit) (packets : List (List ℕ)) → AreReadAs units packets → IsLedBySequence (bytes_sent units) → All IsWholeUnit (bytes_sent units)
    → cut_units (joined_payloads packets) ≡ Some (record { dropped = 0; cuts = placed_units 0 (bytes_sent units) })

-- ---- the version that a choice names

abbrev pub no_version : UnitVersion
no_version = record { bytes = []; distortion = 0 }

pub chosen-is : (versions : List UnitVersion) (k : ℕ) → k < length versions → (get_or versions k no_version).bytes ≡ chosen_bytes versions k
chosen-is versions k within = sym (ap (λ (found : Option UnitVersion). option_map_or (λ (version : UnitVersion). version.bytes) found []) (slice_get-get_or versions k no_version within))

-- the same bytes, with the same picture
moved : (before : Option SeqState) (a b : List ℕ) → a ≡ b → (is : HasNoCodeInSlices before a) → (other : HasNoCodeInSlices before b) × (other.picture.seq ≡ is.picture.seq)
moved before a b same is = (
  record {
    picture = is.picture;
    spelled = subst (λ (bytes : List ℕ). SpellsPicture before is.picture bytes) same is.spelled;
    codes = subst (λ (bytes : List ℕ). codes_from bytes (length is.picture.head) ≡ own_codes is.picture) same is.codes;
  },
  refl,
)

-- ---- all units

pub sent-whole : (weight drift : ℕ) (before : Option SeqState) (units : List UnitSource) (versions : List (List UnitVersion)) (choice : List ℕ) (more : List CodedUnit) → AreWholeVersions before versions
    → AllZip HasVersion (unit_rows weight drift units versions ++ more) choice → All IsWholeUnit (bytes_sent (sent_units units versions choice))
sent-whole weight drift before [] versions choice more are fits = All-nil IsWholeUnit
sent-whole weight drift before (u ∷ us) [] choice more are fits = All-nil IsWholeUnit
sent-whole weight drift before (u ∷ us) (v ∷ vs) [] more are fits = All-nil IsWholeUnit
sent-whole weight drift before (u ∷ us) (v ∷ vs) (k ∷ choice) more (after, here, rest) fits =
    let within : k < length v = omega (arith, fits.0, length-map v (row_version (unit_weight weight drift u us) u)) in
    let one : IsWholeVersion before after (get_or v k no_version) = All-get_or (IsWholeVersion before after) v k no_version within here in
    All-cons IsWholeUnit (chosen_bytes v k) (bytes_sent (sent_units us vs choice)) (subst IsWholeUnit (chosen-is v k within) one.whole)
    (sent-whole weight drift (Some after) us vs choice more rest fits.1)

pub sent-slices : (weight drift : ℕ) (before : Option SeqState) (units : List UnitSource) (versions : List (List UnitVersion)) (choice : List ℕ) (more : List CodedUnit) → AreWholeVersions before versions
    → AllZip HasVersion (unit_rows weight drift units versions ++ more) choice → HaveNoCodeInSlices before (bytes_sent (sent_units units versions choice))
sent-slices weight drift before [] versions choice more are fits = tt
sent-slices weight drift before (u ∷ us) [] choice more are fits = tt
sent-slices weight drift before (u ∷ us) (v ∷ vs) [] more are fits = tt
sent-slices weight drift before (u ∷ us) (v ∷ vs) (k ∷ choice) more (after, here, rest) fits =
    let within : k < length v = omega (arith, fits.0, length-map v (row_version (unit_weight weight drift u us) u)) in
    let one : IsWholeVersion before after (get_or v k no_version) = All-get_or (IsWholeVersion before after) v k no_version within here in
    let (slices, same) = moved before (get_or v k no_version).bytes (chosen_bytes v k) (chosen-is v k within) one.slices in
    let state : AreWholeVersions (Some slices.picture.seq) vs = subst (λ (s : SeqState). AreWholeVersions (Some s) vs) (sym (same ∙ one.leaves)) rest in
    (slices, sent-slices weight drift (Some slices.picture.seq) us vs choice more state fits.1)

pub sent-led : (weight drift : ℕ) (es coarser : List ℕ) (before : Option SeqState) (units : List UnitSource) (versions : List (List UnitVersion)) (choice : List ℕ) (more : List CodedUnit)
    → AreVideoVersions es coarser before units versions → BeginWithSequence versions → AllZip HasVersion (unit_rows weight drift units versions ++ more) choice
    → IsLedBySequence (bytes_sent (sent_units units versions choice))
sent-led weight drift es coarser before units [] choice more are led fits = absurd led
sent-led weight drift es coarser before [] (v ∷ vs) choice more are led fits = absurd are
sent-led weight drift es coarser before (u ∷ us) (v ∷ vs) [] more are led fits = absurd fits
sent-led weight drift es coarser before (u ∷ us) (v ∷ vs) (k ∷ choice) more are led fits =
    let within : k < length v = omega (arith, fits.0, length-map v (row_version (unit_weight weight drift u us) u)) in
    let one : has_code is_sequence_header (get_or v k no_version).bytes 0 ≡ true =
    All-get_or (λ (version : UnitVersion). has_code is_sequence_header version.bytes 0 ≡ true) v k no_version within led in
    subst (λ (bytes : List ℕ). has_code is_sequence_header bytes 0 ≡ true) (chosen-is v k within) one
