-- What the PES packets of a video that is read back are: whole units with a picture, sound, and none dropped.
use Rattle.std.proofs.Common.{◌≡◌, ℕ, ◌-◌, ◌<◌, ◌≤◌, Bool, true, if◌then◌else◌, List, [], ◌∷◌, ◌++◌, All, get_or, length, drop, map, Option, Some, refl, sym, ap, ap₂, subst, ◌∙◌, arith, ℤ}
use Rattle.std.specs.List.{AllZip, zip}
use Rattle.std.specs.Option.{option_map_or}
use Rattle.std.proofs.lemmas.List.{length-drop, length-map}
use Rattle.std.proofs.lemmas.List.Elements.{All-cons, All-get_or, All-nil}
use Rattle.std.proofs.lemmas.List.Folds.{flat_map-map}
use Rattle.std.proofs.lemmas.Option.{slice_get-get_or}
use Rattle.bit_lists.specs.Fields.{AreBytes}
use Rattle.bit_lists.proofs.ByteLemmas.{AreBytes-append, AreBytes-take, AreBytes-drop}
use Rattle.syntax_types.specs.declared.picture.Picture.{Picture}
use Rattle.syntax_types.specs.declared.picture.SeqState.{SeqState}
use Rattle.pes_units.specs.PesHeader.{header_length}
use Rattle.pes_units.specs.Times.{decoding_time}
use Rattle.version_table.specs.declared.table.Unit.{Unit as CodedUnit}
use Rattle.version_table.specs.Choice.{HasVersion, version_at}
use Rattle.ts_demux.specs.declared.demuxed.PesUnit.{PesUnit}
use Rattle.elementary_streams.specs.Packets.{AreSound, joined, pes_payload_of, taken}
use Rattle.layer_laws.specs.WholeUnits.{IsWholeUnit}
use Rattle.program_reader.specs.Carry.{unit_weight}
use Rattle.program_reader.specs.declared.program.UnitSource.{UnitSource}
use Rattle.program_reader.specs.declared.timed_picture.TimedPicture.{TimedPicture}
use Rattle.program_reader.specs.Programs.{AreUnitSources}
use Rattle.program_table.specs.Table.{row_version, unit_rows}
use Rattle.version_maker.specs.declared.version.UnitVersion.{UnitVersion}
use Rattle.version_maker.specs.Versions.{AreVersions, IsCoarserVersion, IsSourceVersion}
use Rattle.version_source.specs.Sendable.{bytes_of_unit}
use Rattle.version_source.specs.Versions.{AreVideoVersions, chosen_bytes}
use Rattle.unit_laws.specs.WholeVersions.{AreWholeVersions, IsWholeVersion}
use Rattle.unit_laws.proofs.WholeVersions.{AreBytes-behind}
use Rattle.parsing_laws.specs.Parsed.{AreReadAs, SentUnit, bytes_of_packets, joined_payloads}
use Rattle.job_laws.proofs.SentUnits.{chosen-is, no_version}
use Rattle.job_laws.specs.ParsesTo.{sent_units}
use Rattle.time_laws.specs.Video.{AreDecoded, DecodedPicture}
use Rattle.time_laws.proofs.Videos.{read-time}
use Rattle.alone_laws.proofs.Scheduled.{AreDueBy, AreSmall}
use Rattle.alone_laws.proofs.UnitPictures.{HasPicture, has-picture}
use Rattle.alone_laws.proofs.VideoAgain.{AreSentUnits, AreStated}

-- ---- bytes

source-bytes : (picture : Picture) (unit : List ℕ) (version : UnitVersion) → AreBytes unit → IsSourceVersion picture unit version → AreBytes version.bytes
source-bytes picture unit version are is =
    subst AreBytes (sym is.bytes) (AreBytes-append is.head is.behind is.without.bytes (AreBytes-behind picture.head is.behind (subst AreBytes is.source are)))

abbrev HasBytes : UnitVersion → Type 0
HasBytes version = AreBytes version.bytes

coarser-bytes : (picture : Picture) (coarser : List ℕ) (versions : List UnitVersion) → AllZip (IsCoarserVersion picture) coarser versions → All HasBytes versions
coarser-bytes picture [] [] zips = All-nil HasBytes
coarser-bytes picture [] (v ∷ vs) zips = absurd zips
coarser-bytes picture (m ∷ ms) [] zips = absurd zips
coarser-bytes picture (m ∷ ms) (v ∷ vs) zips = All-cons HasBytes v vs zips.0.written.0 (coarser-bytes picture ms vs zips.1)

chosen-bytes : (before : Option SeqState) (unit coarser : List ℕ) (versions : List UnitVersion) (k : ℕ) → AreBytes unit → AreVersions before unit coarser versions → k < length versions
    → AreBytes (chosen_bytes versions k)
chosen-bytes before unit coarser versions k are is within =
    let of = is.of_picture in
    let all : All HasBytes versions =
    subst (All HasBytes) (sym of.in_order) (All-cons HasBytes of.first of.others (source-bytes is.picture unit of.first are of.source) (coarser-bytes is.picture coarser of.others of.coarser_ones)) in
    subst AreBytes (chosen-is versions k within) (All-get_or HasBytes versions k no_version within all)

-- payloads that are bytes
abbrev pub AreBytesOf : List PesUnit → Type 0
AreBytesOf [] = Unit {0}
AreBytesOf (packet ∷ packets) = AreBytes (pes_payload_of packet) × AreBytesOf packets

unit-range : (es : List ℕ) (u : UnitSource) → AreBytes es → AreBytes (bytes_of_unit es u)
unit-range es u are = AreBytes-take (u.end - u.begin) (drop u.begin es) (AreBytes-drop u.begin es are)

pub payload-bytes : (es coarser : List ℕ) (weight drift : ℕ) (state : Option SeqState) (units : List UnitSource) (versions : List (List UnitVersion)) (choice : List ℕ) (more : List CodedUnit)
    (packets : List PesUnit) → AreBytes es → AreVideoVersions es coarser state units versions → AllZip HasVersion (unit_rows weight drift units versions ++ more) choice
    → AreReadAs (sent_units units versions choice) (bytes_of_packets packets) → AreBytesOf packets
payload-bytes es coarser weight drift state units versions choice more [] are is fits read = tt
payload-bytes es coarser weight drift state [] versions choice more (x ∷ xs) are is fits read = absurd read
payload-bytes es coarser weight drift state (u ∷ us) [] choice more (x ∷ xs) are is fits read = absurd is
payload-bytes es coarser weight drift state (u ∷ us) (v ∷ vs) [] more (x ∷ xs) are is fits read = absurd fits
payload-bytes es coarser weight drift state (u ∷ us) (v ∷ vs) (n ∷ choice) more (x ∷ xs) are (after, leaves, here, rest) fits read =
    let within : n < length v = omega (arith, fits.0, length-map v (row_version (unit_weight weight drift u us) u)) in (
      subst AreBytes (sym read.0.payload_is) (chosen-bytes state (bytes_of_unit es u) coarser v n (unit-range es u are) here within),
      payload-bytes es coarser weight drift (Some after) us vs choice more xs are rest fits.1 read.1,
    )

-- ---- whole units

abbrev pub AreWholeOf : List PesUnit → Type 0
AreWholeOf [] = Unit {0}
AreWholeOf (packet ∷ packets) = IsWholeUnit (pes_payload_of packet) × AreWholeOf packets

pub whole-payloads : (weight drift : ℕ) (before : Option SeqState) (units : List UnitSource) (versions : List (List UnitVersion)) (choice : List ℕ) (more : List CodedUnit)
    (packets : List PesUnit) → AreWholeVersions before versions → AllZip HasVersion (unit_rows weight drift units versions ++ more) choice
    → AreReadAs (sent_units units versions choice) (bytes_of_packets packets) → AreWholeOf packets
whole-payloads weight drift before units versions choice more [] are fits read = tt
whole-payloads weight drift before [] versions choice more (x ∷ xs) are fits read = absurd read
whole-payloads weight drift before (u ∷ us) [] choice more (x ∷ xs) are fits read = absurd read
whole-payloads weight drift before (u ∷ us) (v ∷ vs) [] more (x ∷ xs) are fits read = absurd fits
whole-payloads weight drift before (u ∷ us) (v ∷ vs) (n ∷ choice) more (x ∷ xs) (after, here, rest) fits read =
    let within : n < length v = omega (arith, fits.0, length-map v (row_version (unit_weight weight drift u us) u)) in
    let one : IsWholeVersion before after (get_or v n no_version) = All-get_or (IsWholeVersion before after) v n no_version within here in (
      subst IsWholeUnit (chosen-is v n within ∙ sym read.0.payload_is) one.whole,
      whole-payloads weight drift (Some after) us vs choice more xs rest fits.1 read.1,
    )

abbrev pub ArePictured : List PesUnit → Type 0
ArePictured [] = Unit {0}
ArePictured (packet ∷ packets) = HasPicture (pes_payload_of packet) × ArePictured packets

pub pictured-payloads : (base : ℕ) (earlier : List DecodedPicture) (packets : List PesUnit) (pictures : List DecodedPicture) → AreBytesOf packets → AreDecoded base earlier packets pictures
    → ArePictured packets
pictured-payloads base earlier [] pictures are decoded = tt
pictured-payloads base earlier (x ∷ xs) [] are decoded = absurd decoded
pictured-payloads base earlier (x ∷ xs) (p ∷ ps) are decoded =
    (has-picture _ decoded.0.spelled (pes_payload_of x) are.0 decoded.0.whole.spelled, pictured-payloads base (p ∷ earlier) xs ps are.1 decoded.1)

-- ---- sizes

abbrev pub AreShortPackets : ℕ → List PesUnit → Type 0
AreShortPackets most [] = Unit {0}
AreShortPackets most (packet ∷ packets) = (length packet.bytes ≤ most) × AreShortPackets most packets

heads : List ℕ → ℕ
heads [] = 0
heads (x ∷ xs) = x

tails : List ℕ → List ℕ
tails [] = []
tails (x ∷ xs) = xs

abbrev chosen_size : CodedUnit × ℕ → ℕ
chosen_size chosen = (version_at chosen.0 chosen.1).bytes

pub short-packets : (most : ℕ) (pairs : List (CodedUnit × ℕ)) (packets : List PesUnit) → AreSmall most pairs
    → map (λ (chosen : CodedUnit × ℕ). (version_at chosen.0 chosen.1).bytes) pairs ≡ map (λ (packet : PesUnit). length packet.bytes) packets → AreShortPackets most packets
unfolding heads tails
short-packets most pairs [] small same = tt
short-packets most [] (x ∷ xs) small same = absurd (let e = ap (length {A = ℕ}) same in omega (arith, e))
short-packets most (p ∷ ps) (x ∷ xs) small same = (
  (let one : chosen_size p ≡ length x.bytes = ap heads same in omega (arith, one, small.0)),
  short-packets most ps xs small.1 (ap tails same),
)

pub all-sent-units : (packets : List PesUnit) → AreWholeOf packets → ArePictured packets → AreShortPackets 1048576 packets → AreSentUnits packets
all-sent-units [] whole pictured short = tt
all-sent-units (x ∷ xs) whole pictured short = (
  record { whole = whole.0; pictured = pictured.0; short = omega (arith, short.0, length-drop (header_length x.bytes) x.bytes) },
  all-sent-units xs whole.1 pictured.1 short.1,
)

pub shorter : (most more : ℕ) (packets : List PesUnit) → most ≤ more → AreShortPackets most packets → AreShortPackets more packets
shorter most more [] le short = tt
shorter most more (x ∷ xs) le short = (omega (arith, le, short.0), shorter most more xs le short.1)

-- units of a row that are due by a time
abbrev pub AreRowsEarly : ℕ → List CodedUnit → Type 0
AreRowsEarly by [] = Unit {0}
AreRowsEarly by (unit ∷ units) = (unit.due ≤ by) × AreRowsEarly by units

pub early-rows : (by : ℕ) (units : List CodedUnit) (choice : List ℕ) (packets : List PesUnit)
    → map (λ (chosen : CodedUnit × ℕ). (version_at chosen.0 chosen.1).bytes) (zip units choice) ≡ map (λ (packet : PesUnit). length packet.bytes) packets → length units ≡ length packets
    → AreDueBy by (zip units choice) → AreRowsEarly by units
unfolding tails
early-rows by [] choice packets same many due = tt
early-rows by (u ∷ us) choice [] same many due = absurd (omega (arith, many))
early-rows by (u ∷ us) [] (x ∷ xs) same many due = absurd (let e = ap (length {A = ℕ}) same in omega (arith, e))
early-rows by (u ∷ us) (c ∷ cs) (x ∷ xs) same many due = (due.0, early-rows by us cs xs (ap tails same) (omega (arith, many)) due.1)

-- ---- what is read of them

pub sound-again : (sent : List SentUnit) (packets : List PesUnit) → AreReadAs sent (bytes_of_packets packets) → AreSound true packets
sound-again sent [] read = tt
sound-again [] (x ∷ xs) read = absurd read
sound-again (s ∷ ss) (x ∷ []) read = (read.0.sound_last, tt)
sound-again (s ∷ ss) (x ∷ y ∷ xs) read = (read.0.sound, sound-again ss (y ∷ xs) read.1)

pub taken-again : (sent : List SentUnit) (packets : List PesUnit) → AreReadAs sent (bytes_of_packets packets) → taken true packets ≡ packets
taken-again sent [] read = refl
taken-again [] (x ∷ xs) read = absurd read
taken-again (s ∷ ss) (x ∷ []) read = ap (λ (dropped : Bool). let xs : List PesUnit = if dropped then [] else x ∷ [] in xs) read.0.kept
taken-again (s ∷ ss) (x ∷ y ∷ xs) read = ap (λ (rest : List PesUnit). x ∷ rest) (taken-again ss (y ∷ xs) read.1)

pub payloads-again : (sent : List SentUnit) (packets : List PesUnit) → AreReadAs sent (bytes_of_packets packets) → map (λ (unit : SentUnit). unit.bytes) sent ≡ map pes_payload_of packets
payloads-again [] [] read = refl
payloads-again [] (x ∷ xs) read = absurd read
payloads-again (s ∷ ss) [] read = absurd read
payloads-again (s ∷ ss) (x ∷ xs) read = ap₂ (λ (b : List ℕ) (bs : List (List ℕ)). b ∷ bs) (sym read.0.payload_is) (payloads-again ss xs read.1)

pub joined-again : (packets : List PesUnit) → joined packets ≡ joined_payloads (bytes_of_packets packets)
joined-again packets = sym (flat_map-map (λ (bytes : List ℕ). drop (header_length bytes) bytes) (λ (packet : PesUnit). packet.bytes) packets)

pub stated-again : (es coarser : List ℕ) (weight drift start : ℕ) (earliest : ℤ) (state : Option SeqState) (kept : List (ℕ × ℕ)) (pictures : List TimedPicture) (units : List UnitSource)
    (versions : List (List UnitVersion)) (choice : List ℕ) (more : List CodedUnit) (packets : List PesUnit) → AreUnitSources start earliest kept pictures units
    → AreVideoVersions es coarser state units versions → AllZip HasVersion (unit_rows weight drift units versions ++ more) choice
    → AreReadAs (sent_units units versions choice) (bytes_of_packets packets) → AreStated pictures packets
stated-again es coarser weight drift start earliest state [] [] [] versions choice more [] are is fits read = tt
stated-again es coarser weight drift start earliest state [] [] [] versions choice more (x ∷ xs) are is fits read = absurd read
stated-again es coarser weight drift start earliest state [] [] (u ∷ us) versions choice more packets are is fits read = absurd are
stated-again es coarser weight drift start earliest state [] (p ∷ ps) units versions choice more packets are is fits read = absurd are
stated-again es coarser weight drift start earliest state (k ∷ ks) [] units versions choice more packets are is fits read = absurd are
stated-again es coarser weight drift start earliest state (k ∷ ks) (p ∷ ps) [] versions choice more packets are is fits read = absurd are
stated-again es coarser weight drift start earliest state (k ∷ ks) (p ∷ ps) (u ∷ us) [] choice more packets are is fits read = absurd is
stated-again es coarser weight drift start earliest state (k ∷ ks) (p ∷ ps) (u ∷ us) (v ∷ vs) [] more packets are is fits read = absurd fits
stated-again es coarser weight drift start earliest state (k ∷ ks) (p ∷ ps) (u ∷ us) (v ∷ vs) (n ∷ choice) more [] are is fits read = absurd read
stated-again es coarser weight drift start earliest state (k ∷ ks) (p ∷ ps) (u ∷ us) (v ∷ vs) (n ∷ choice) more (x ∷ xs) are (after, leaves, here, rest) fits read =
    (read-time x u.times _ read.0 ∙ ap decoding_time are.2, stated-again es coarser weight drift start earliest (Some after) ks ps us vs choice more xs are.6 rest fits.1 read.1)
