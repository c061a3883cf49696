-- The PIDs of a job's stream carry the items of its streams, program by program, and of video the PES packets of its units.
use Rattle.std.proofs.Common.{◌≡◌, ℕ, suc, ◌<◌, List, [], ◌∷◌, ◌++◌, All, length, get_or, map, Option, ap, arith, length-append}
use Rattle.std.specs.List.{AllZip, flat_map}
use Rattle.std.specs.Option.{option_map_or}
use Rattle.std.proofs.lemmas.List.{length-map}
use Rattle.std.proofs.lemmas.List.Elements.{All-cons, All-get_or, All-head, All-nil, All-tail}
use Rattle.std.proofs.lemmas.Option.{slice_get-get_or}
use Rattle.bit_lists.specs.Payload.{Payload, CarriedPayload}
use Rattle.ts_packets.specs.TransportStream.{pid_pieces as packets_on}
use Rattle.ts_packets.specs.Carried.{carried}
use Rattle.pes_units.specs.VideoHeader.{written_pes_header}
use Rattle.pes_units.specs.PesPieces.{pes_pieces}
use Rattle.version_table.specs.declared.table.Unit.{Unit as CodedUnit}
use Rattle.version_table.specs.Choice.{HasVersion}
use Rattle.program_reader.specs.Carry.{unit_weight}
use Rattle.program_reader.specs.declared.program.UnitSource.{UnitSource}
use Rattle.version_maker.specs.declared.version.UnitVersion.{UnitVersion}
use Rattle.version_source.specs.Pieces.{pes_packet, video_items}
use Rattle.version_source.specs.Sendable.{IsUnitOf}
use Rattle.version_source.specs.Versions.{chosen_bytes}
use Rattle.program_table.specs.Table.{row_version, unit_rows}
use Rattle.layer_laws.specs.PesPieces.{Carries, CarryAll}
use Rattle.parsing_laws.specs.Parsed.{CanBeSaid, sent_packet}
use Rattle.job_laws.specs.ParsesTo.{sent_units}
use Rattle.version_source.proofs.VersionBytes.{HasBytes, HaveBytes}

-- ---- each PID with its items

abbrev pub CarriesItems : (file : List ℕ) → (packets pid : ℕ) → List (List Payload) → Type 0
CarriesItems file packets pid items =
    map (λ (carried : CarriedPayload). carried.payload) (carried (packets_on file pid 0 packets)) ≡ flat_map (λ (pieces : List Payload). pieces) items

abbrev pub AllCarry : (file : List ℕ) → (packets : ℕ) → List ℕ → List (List (List Payload)) → Type 0
AllCarry file packets [] [] = Unit {0}
AllCarry file packets [] (_ ∷ _) = ⊥
AllCarry file packets (_ ∷ _) [] = ⊥
AllCarry file packets (pid ∷ pids) (items ∷ streams) = CarriesItems file packets pid items × AllCarry file packets pids streams

-- what holds at each number holds of all, side by side
pub all-carry : (file : List ℕ) (packets : ℕ) (pids : List ℕ) (streams : List (List (List Payload))) → length pids ≡ length streams
    → ((stream : ℕ) → stream < length streams → CarriesItems file packets (get_or pids stream 0) (get_or streams stream [])) → AllCarry file packets pids streams
all-carry file packets [] [] same each = tt
all-carry file packets [] (s ∷ ss) same each = absurd (omega (arith, same))
all-carry file packets (p ∷ ps) [] same each = absurd (omega (arith, same))
all-carry file packets (p ∷ ps) (s ∷ ss) same each =
    (each 0 (omega arith), all-carry file packets ps ss (omega (arith, same)) (λ stream within. each (suc stream) (omega (arith, within))))

pub carry-parts : (file : List ℕ) (packets : ℕ) (pids more : List ℕ) (streams others : List (List (List Payload))) → length pids ≡ length streams
    → AllCarry file packets (pids ++ more) (streams ++ others) → AllCarry file packets pids streams × AllCarry file packets more others
carry-parts file packets [] more [] others same carry = (tt, carry)
carry-parts file packets [] more (s ∷ ss) others same carry = absurd (omega (arith, same))
carry-parts file packets (p ∷ ps) more [] others same carry = absurd (omega (arith, same))
carry-parts file packets (p ∷ ps) more (s ∷ ss) others same carry =
    let rest = carry-parts file packets ps more ss others (omega (arith, same)) carry.1 in ((carry.0, rest.0), rest.1)

-- ---- the PES packets of units

abbrev pub PiecesCarry : Type 0
PiecesCarry = (packet : List ℕ) → 0 < length packet → Carries packet (pes_pieces packet)

pub items-carry : PiecesCarry → (units : List UnitSource) (versions : List (List UnitVersion)) (choice : List ℕ)
    → CarryAll (map sent_packet (sent_units units versions choice)) (video_items units versions choice)
items-carry law [] versions choice = tt
items-carry law (u ∷ us) [] choice = tt
items-carry law (u ∷ us) (v ∷ vs) [] = tt
items-carry law (u ∷ us) (v ∷ vs) (k ∷ choice) =
    (law (pes_packet u (chosen_bytes v k)) (omega (arith, length-append (written_pes_header u.times) (chosen_bytes v k))), items-carry law us vs choice)

no_version : UnitVersion
no_version = record { bytes = []; distortion = 0 }

chosen-some : (versions : List UnitVersion) (k : ℕ) → k < length versions → All HasBytes versions → 0 < length (chosen_bytes versions k)
chosen-some versions k within some =
    let chosen : chosen_bytes versions k ≡ (get_or versions k no_version).bytes =
    ap (λ (found : Option UnitVersion). option_map_or (λ (version : UnitVersion). version.bytes) found []) (slice_get-get_or versions k no_version within) in
    omega (arith, ap length chosen, All-get_or HasBytes versions k no_version within some)

pub units-said : (weight drift : ℕ) (es : List ℕ) (units : List UnitSource) (versions : List (List UnitVersion)) (choice : List ℕ) (more : List CodedUnit) → All (IsUnitOf es) units
    → HaveBytes versions → AllZip HasVersion (unit_rows weight drift units versions ++ more) choice → All CanBeSaid (sent_units units versions choice)
units-said weight drift es [] versions choice more are some fits = All-nil CanBeSaid
units-said weight drift es (u ∷ us) [] choice more are some fits = All-nil CanBeSaid
units-said weight drift es (u ∷ us) (v ∷ vs) [] more are some fits = All-nil CanBeSaid
units-said weight drift es (u ∷ us) (v ∷ vs) (k ∷ choice) more are some fits =
    let is : IsUnitOf es u = All-head (IsUnitOf es) u us are in
    let within : k < length v = omega (arith, fits.0, length-map v (row_version (unit_weight weight drift u us) u)) in
    All-cons CanBeSaid (record { times = u.times; bytes = chosen_bytes v k }) (sent_units us vs choice)
    (record { in_range = is.in_range; beside = is.beside; some = chosen-some v k within some.0 })
    (units-said weight drift es us vs choice more (All-tail (IsUnitOf es) u us are) some.1 fits.1)
