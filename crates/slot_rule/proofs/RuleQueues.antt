-- The streams of a table: which stands where, how many there are, and what each keeps.
use Rattle.std.proofs.Common.{
  ◌≡◌,
  ℕ,
  suc,
  ◌+◌,
  ◌*◌,
  ◌^◌,
  ◌<◌,
  ◌≤◌,
  List,
  [],
  ◌∷◌,
  ◌++◌,
  All,
  length,
  map,
  get_or,
  take,
  drop,
  sum_by,
  slice_get,
  Some,
  refl,
  sym,
  ap,
  ap₂,
  subst,
  ◌∙◌,
  append_assoc,
  append-nil,
  zero-add,
  add-zero,
  zero-le,
  count_by,
  eqb,
  arith,
}
use Rattle.std.specs.List.{enumerate_from, flat_map, AllZip}
use Rattle.std.specs.List.Sorted.{IsNonDecreasingBy, IsNonDecreasing}
use Rattle.std.proofs.lemmas.Option.{slice_get_within, get_or_from_slice_get}
use Rattle.std.proofs.lemmas.List.{drop-drop, take-append-drop, drop_more, length-append, length-map, get_or-map}
use Rattle.std.proofs.lemmas.List.Concat.{flat_map-append}
use Rattle.std.proofs.lemmas.List.Elements.{All-nil, All-cons, All-append, All-head, All-tail, All-weaker}
use Rattle.std.proofs.lemmas.List.FromFn.{length-enumerate_from, get_or-enumerate_from}
use Rattle.std.proofs.lemmas.List.Sums.{sum_by-cons, sum_by-le}
use Rattle.version_table.specs.declared.limits.TheConstants.{PROGRAMS_MOST, AUDIOS_MOST, UNITS_MOST, TIME_SLOTS_MOST, AUDIO_PACKETS_LIMIT}
use Rattle.version_table.specs.declared.table.Unit.{Unit as CodedUnit}
use Rattle.version_table.specs.declared.table.AudioPacket.{AudioPacket}
use Rattle.version_table.specs.declared.table.ProgramRow.{ProgramRow}
use Rattle.version_table.specs.declared.table.Table.{Table}
use Rattle.version_table.specs.Table.{units_of, IsValidVersion, IsValidUnit, IsValidPacket, IsValidAudio, IsValidProgram, IsValidTable}
use Rattle.version_table.specs.Choice.{HasVersion, Fits, version_at}
use Rattle.stream_constants.specs.declared.packets.TheConstants.{PAYLOAD_BYTES}
use Rattle.slot_rule.specs.Buffers.{Row, Reserved, Carries, Empty, is_of, payload_in}
use Rattle.slot_rule.specs.Schedule.{IsHead, FollowRule}
use Rattle.slot_rule.specs.Sent.{choice_from}
use Rattle.slot_rule.proofs.RuleRows.{IsNext, FollowRule-at}
use Rattle.std.proofs.lemmas.Bool.{cond_both}
use Rattle.slot_rule.specs.Queues.{QueueKind, QueuedPacket, Queue, video_queue, audio_of, queues_from, queues_of}
use Rattle.version_table.proofs.TableLines.{packets_of}
-- the units of these programs
pub use Rattle.version_table.proofs.TableLines.{units_in}
use Rattle.slot_rule.proofs.RuleVideo.{packets_from-each, packets_from-dues, packets_from-gones, DuesRise-from_increasing, HasSizes}

-- the streams of a program: the video, then its audio streams
abbrev pub queues_in : (program : ℕ) → ProgramRow → List ℕ → List Queue
queues_in program row choice = video_queue program row choice ∷ map audio_of row.audios

-- the streams of the first programs, and those of the others
pub queues_from-append : (program : ℕ) (rows more : List ProgramRow) (choice : List ℕ)
    → queues_from program (rows ++ more) choice ≡ queues_from program rows choice ++ queues_from (program + length rows) more (drop (length (units_in rows)) choice)
queues_from-append program [] more choice = ap (λ p. queues_from p more choice) (sym (add-zero program))
queues_from-append program (first ∷ rows) more choice =
    let number : (program + 1) + length rows ≡ program + suc (length rows) = omega arith in
    let units : drop (length (units_in rows)) (drop (length first.units) choice) ≡ drop (length (units_in (first ∷ rows))) choice =
    drop-drop (length (units_in rows)) (length first.units) choice ∙ ap (λ n. drop n choice) (sym (length-append first.units (units_in rows))) in
    ap (λ (others : List Queue). queues_in program first choice ++ others)
    (queues_from-append (program + 1) rows more (drop (length first.units) choice)
    ∙ ap₂ (λ p versions. queues_from (program + 1) rows (drop (length first.units) choice) ++ queues_from p more versions) number units)
    ∙ sym (append_assoc (queues_in program first choice) (queues_from (program + 1) rows (drop (length first.units) choice))
    (queues_from (program + suc (length rows)) more (drop (length (units_in (first ∷ rows))) choice)))

-- one more program
pub queues_from-push : (program : ℕ) (rows : List ProgramRow) (row : ProgramRow) (choice : List ℕ)
    → queues_from program (rows ++ row ∷ []) choice ≡ queues_from program rows choice ++ queues_in (program + length rows) row (drop (length (units_in rows)) choice)
queues_from-push program rows row choice =
    queues_from-append program rows (row ∷ []) choice
    ∙ ap (λ (others : List Queue). queues_from program rows choice ++ others) (append-nil (queues_in (program + length rows) row (drop (length (units_in rows)) choice)))

pub length-queues_from : (program : ℕ) (rows : List ProgramRow) (choice : List ℕ) → length (queues_from program rows choice) ≡ sum_by (λ row. suc (length row.audios)) rows
length-queues_from program [] choice = refl
length-queues_from program (row ∷ rows) choice =
    length-append (queues_in program row choice) (queues_from (program + 1) rows (drop (length row.units) choice))
    ∙ ap₂ (λ m n. suc m + n) (length-map row.audios audio_of) (length-queues_from (program + 1) rows (drop (length row.units) choice))
    ∙ sym (sum_by-cons (λ row. suc (length row.audios)) row rows)

-- a valid table has at most nine streams for each of eight programs
pub queues_of-few : (table : Table) (choice : List ℕ) → IsValidTable table → length (queues_of table choice) ≤ PROGRAMS_MOST * (1 + AUDIOS_MOST)
queues_of-few table choice valid =
    let each : All (λ row. suc (length row.audios) ≤ 1 + AUDIOS_MOST) table.programs = All-weaker (IsValidProgram table.slot)
    (λ row. suc (length row.audios) ≤ 1 + AUDIOS_MOST) (λ row h. omega (arith, h.few_audios)) table.programs valid.programs in
    let total : sum_by (λ row. suc (length row.audios)) table.programs ≤ length table.programs * (1 + AUDIOS_MOST) = sum_by-le (λ row. suc (length row.audios)) (1 + AUDIOS_MOST) table.programs each in
    omega (arith, length-queues_from 0 table.programs choice, valid.few_programs)

-- ---- what each stream keeps
-- what each packet of a valid table keeps, where a slot lasts this many ticks
pub record IsLimited (slot : ℕ) (packet : QueuedPacket) : Type 0 where
  pub some_payload : 1 ≤ packet.payload
  pub payload : packet.payload ≤ PAYLOAD_BYTES
  pub due : packet.due ≤ packet.gone
  pub gone : packet.gone ≤ TIME_SLOTS_MOST * slot
  pub item : packet.item + 1 < 2 ^ 32
  pub piece : packet.piece + 1 < 2 ^ 32

-- what each stream of a valid table keeps
pub record IsValidStream (slot : ℕ) (stream : Queue) : Type 0 where
  pub each : All (IsLimited slot) stream.packets
  pub dues : IsNonDecreasingBy (λ packet. packet.due) stream.packets
  pub gones : IsNonDecreasingBy (λ packet. packet.gone) stream.packets

-- a choice that fits has a version with bytes for each unit
pub HasSizes-from_fits : (slot : ℕ) (units others : List CodedUnit) (choice : List ℕ) → All (IsValidUnit slot) units
    → AllZip HasVersion (units ++ others) choice → HasSizes units choice
HasSizes-from_fits slot [] others choice valid fits = tt
HasSizes-from_fits slot (unit ∷ units) others [] valid fits = absurd fits
HasSizes-from_fits slot (unit ∷ units) others (k ∷ choice) valid fits =
    let here : IsValidVersion (version_at unit k) = (All-head (IsValidUnit slot) unit units valid).versions k (record { bytes = 0; distortion = 0 }) fits.0 in
    (here.some_bytes, here.bytes, HasSizes-from_fits slot units others choice (All-tail (IsValidUnit slot) unit units valid) fits.1)

pub fits_rest : (units others : List CodedUnit) (choice : List ℕ) → AllZip HasVersion (units ++ others) choice → AllZip HasVersion others (drop (length units) choice)
fits_rest [] others choice fits = fits
fits_rest (unit ∷ units) others [] fits = absurd fits
fits_rest (unit ∷ units) others (k ∷ choice) fits = fits_rest units others choice fits.1

IsValidStream-video : (slot program : ℕ) (row : ProgramRow) (choice : List ℕ) → IsValidProgram slot row → HasSizes row.units choice → length row.units ≤ UNITS_MOST
    → IsValidStream slot (video_queue program row choice)
IsValidStream-video slot program row choice valid sizes few =
    let rises = DuesRise-from_increasing row.units valid.dues in
    record {
      each = packets_from-each (IsLimited slot) 0 row.units choice sizes
          (λ n d packet within h small.
          let limit : (get_or row.units n d).due ≤ TIME_SLOTS_MOST * slot = (valid.units n d within).due in
          record {
            some_payload = h.some_payload;
            payload = h.payload;
            due = omega (arith, h.due_is, h.gone_is);
            gone = omega (arith, h.gone_is);
            item = omega (arith, h.item_is);
            piece = omega arith;
          });
      dues = packets_from-dues 0 row.units choice sizes rises;
      gones = packets_from-gones 0 row.units choice sizes rises;
    }

abbrev pub audio_packet : ℕ × AudioPacket → QueuedPacket
audio_packet numbered = record { item = numbered.0; piece = 0; payload = numbered.1.bytes; due = numbered.1.due; gone = numbered.1.gone }

pub length-audio_of : (packets : List AudioPacket) → length (audio_of packets).packets ≡ length packets
length-audio_of packets = length-map (enumerate_from 0 packets) audio_packet ∙ length-enumerate_from 0 packets

-- the packet at a place of an audio stream
pub get_or-audio_of : (packets : List AudioPacket) (i : ℕ) (d : QueuedPacket) (e : AudioPacket) → i < length packets
    → get_or (audio_of packets).packets i d ≡ audio_packet (i, get_or packets i e)
get_or-audio_of packets i d e within =
    let fits : i < length (enumerate_from 0 packets) = rw length-enumerate_from within in
    get_or-map audio_packet (enumerate_from 0 packets) i (0, e) d fits
    ∙ ap audio_packet (get_or-enumerate_from 0 packets i (0, e) within) ∙ ap (λ n. audio_packet (n, get_or packets i e)) (zero-add i)

audio_rises : (packets : List AudioPacket) (of_packet : QueuedPacket → ℕ) (of_audio : AudioPacket → ℕ)
    → ((n : ℕ) (packet : AudioPacket) → of_packet (audio_packet (n, packet)) ≡ of_audio packet)
    → IsNonDecreasing (map of_audio packets) → IsNonDecreasingBy of_packet (audio_of packets).packets
audio_rises packets of_packet of_audio same rises i j d upto within =
    let none : AudioPacket = record { due = 0; gone = 0; bytes = 0 } in
    let fits : j < length packets = rw (← length-audio_of packets) within in
    let size : length (map of_audio packets) ≡ length packets = length-map packets of_audio in
    rw (
      get_or-audio_of packets i d none (omega arith),
      get_or-audio_of packets j d none fits,
      same i (get_or packets i none),
      same j (get_or packets j none),
      ← get_or-map of_audio packets i none 0 (omega arith),
      ← get_or-map of_audio packets j none 0 fits,
    )
    (rises i j 0 upto (omega arith))

IsValidStream-audio : (slot : ℕ) (packets : List AudioPacket) → IsValidAudio slot packets → length packets < AUDIO_PACKETS_LIMIT → IsValidStream slot (audio_of packets)
IsValidStream-audio slot packets valid few = record {
  each = λ i d within.
      (let none : AudioPacket = record { due = 0; gone = 0; bytes = 0 } in
      let fits : i < length packets = rw (← length-audio_of packets) within in
      let here : IsValidPacket slot (get_or packets i none) = valid.each i none fits in
      rw (get_or-audio_of packets i d none fits)
      (record {
        some_payload = here.some_bytes;
        payload = omega (arith, here.bytes);
        due = here.due;
        gone = here.gone;
        item = omega arith;
        piece = omega arith;
      }));
  dues = audio_rises packets (λ packet. packet.due) (λ packet. packet.due) (λ n packet. refl) valid.dues;
  gones = audio_rises packets (λ packet. packet.gone) (λ packet. packet.gone) (λ n packet. refl) valid.gones;
}

audios_valid : (slot : ℕ) (audios : List (List AudioPacket)) → All (IsValidAudio slot) audios → length (packets_of audios) < AUDIO_PACKETS_LIMIT
    → All (IsValidStream slot) (map audio_of audios)
audios_valid slot [] valid few = All-nil (IsValidStream slot)
audios_valid slot (packets ∷ audios) valid few =
    let size : length (packets_of (packets ∷ audios)) ≡ length packets + length (packets_of audios) = length-append packets (packets_of audios) in
    All-cons (IsValidStream slot) (audio_of packets) (map audio_of audios)
    (IsValidStream-audio slot packets (All-head (IsValidAudio slot) packets audios valid) (omega arith)) (audios_valid slot audios (All-tail (IsValidAudio slot) packets audios valid) (omega arith))

queues_from-valid : (slot program : ℕ) (rows : List ProgramRow) (choice : List ℕ) → All (IsValidProgram slot) rows → AllZip HasVersion (units_in rows) choice
    → length (units_in rows) ≤ UNITS_MOST → length (flat_map (λ row. packets_of row.audios) rows) < AUDIO_PACKETS_LIMIT → All (IsValidStream slot) (queues_from program rows choice)
queues_from-valid slot program [] choice valid fits few few_packets = All-nil (IsValidStream slot)
queues_from-valid slot program (row ∷ rows) choice valid fits few few_packets =
    let here : IsValidProgram slot row = All-head (IsValidProgram slot) row rows valid in
    let units : length (units_in (row ∷ rows)) ≡ length row.units + length (units_in rows) = length-append row.units (units_in rows) in
    let packets : length (flat_map (λ (r : ProgramRow). packets_of r.audios) (row ∷ rows)) ≡ length (packets_of row.audios) + length (flat_map (λ (r : ProgramRow). packets_of r.audios) rows) =
    length-append (packets_of row.audios) (flat_map (λ (r : ProgramRow). packets_of r.audios) rows) in
    All-append (IsValidStream slot) (queues_in program row choice) (queues_from (program + 1) rows (drop (length row.units) choice))
    (All-cons (IsValidStream slot) (video_queue program row choice) (map audio_of row.audios)
    (IsValidStream-video slot program row choice here (HasSizes-from_fits slot row.units (units_in rows) choice here.units fits) (omega arith))
    (audios_valid slot row.audios here.audios (omega arith)))
    (queues_from-valid slot (program + 1) rows (drop (length row.units) choice) (All-tail (IsValidProgram slot) row rows valid)
    (fits_rest row.units (units_in rows) choice fits) (omega arith) (omega arith))

-- the streams of a valid table under a choice that fits are valid
pub queues_of-valid : (table : Table) (choice : List ℕ) → IsValidTable table → Fits table choice → All (IsValidStream table.slot) (queues_of table choice)
queues_of-valid table choice valid fits = queues_from-valid table.slot 0 table.programs choice valid.programs fits valid.units valid.audio_packets

pub IsValidStream-at : (table : Table) (choice : List ℕ) (stream : ℕ) (s : Queue) → IsValidTable table → Fits table choice
    → slice_get (queues_of table choice) stream ≡ Some s → IsValidStream table.slot s
IsValidStream-at table choice stream s valid fits got =
    let within : stream < length (queues_of table choice) = slice_get_within (queues_of table choice) stream s got in
    subst (λ (x : Queue). IsValidStream table.slot x) (get_or_from_slice_get (queues_of table choice) stream s s got) (queues_of-valid table choice valid fits stream s within)

-- the units of a program have versions with bytes
pub HasSizes-at_program : (table : Table) (choice : List ℕ) (p : ℕ) (d : ProgramRow) → IsValidTable table → Fits table choice → p < length table.programs
    → HasSizes (get_or table.programs p d).units (choice_from table.programs p choice)
HasSizes-at_program table choice p d valid fits within =
    let row = get_or table.programs p d in
    let rest = drop (p + 1) table.programs in
    let split : units_of table ≡ units_in (take p table.programs) ++ (row.units ++ units_in rest) =
    ap units_in (sym (take-append-drop p table.programs) ∙ ap (λ more. take p table.programs ++ more) (drop_more table.programs p d within))
    ∙ flat_map-append (λ (r : ProgramRow). r.units) (take p table.programs) (row ∷ rest) in
    HasSizes-from_fits table.slot row.units (units_in rest) (choice_from table.programs p choice) (valid.programs p d within).units
    (fits_rest (units_in (take p table.programs)) (row.units ++ units_in rest) choice (subst (λ (units : List CodedUnit). AllZip HasVersion units choice) split fits))

-- ---- the packets that rows carry
pub IsHead-limited : (table : Table) (choice : List ℕ) (rows : List Row) (stream : ℕ) (kind : QueueKind) (packet : QueuedPacket) → IsValidTable table → Fits table choice
    → IsHead (queues_of table choice) rows stream kind packet → IsLimited table.slot packet
IsHead-limited table choice rows stream kind packet valid fits head =
    let valid_stream : IsValidStream table.slot (record { kind = kind; packets = head.0 }) = IsValidStream-at table choice stream (record { kind = kind; packets = head.0 }) valid fits head.1 in
    let n = count_by (is_of stream) rows in
    subst (λ (p : QueuedPacket). IsLimited table.slot p) (get_or_from_slice_get head.0 n packet packet head.2) (valid_stream.each n packet (slice_get_within head.0 n packet head.2))

payload_in-next : (table : Table) (choice : List ℕ) (stream : ℕ) (rows : List Row) (row : Row) → IsValidTable table → Fits table choice
    → IsNext table choice rows row → payload_in stream row ≤ PAYLOAD_BYTES
payload_in-next table choice stream rows (Reserved sent) valid fits next = zero-le
payload_in-next table choice stream rows Empty valid fits next = zero-le
payload_in-next table choice stream rows (Carries s packet) valid fits next =
    let limited : IsLimited table.slot packet = IsHead-limited table choice rows s next.1.kind packet valid fits next.1.head in
    cond_both (eqb s stream) packet.payload 0 (λ n. n ≤ PAYLOAD_BYTES) (λ e. limited.payload) (λ e. zero-le)

-- the rows carry at most a packet's payload each
pub FollowRule-payloads : (table : Table) (choice : List ℕ) (stream : ℕ) (rows : List Row) → IsValidTable table → Fits table choice
    → FollowRule table choice rows → All (λ row. payload_in stream row ≤ PAYLOAD_BYTES) rows
FollowRule-payloads table choice stream rows valid fits follows k d within =
    payload_in-next table choice stream (take k rows) (get_or rows k d) valid fits (FollowRule-at table choice rows follows k d within)
