-- What stands in the slots of a schedule names programs and packets of the table.
use Rattle.std.proofs.Common.{
  ◌≡◌,
  ℕ,
  zero,
  suc,
  ◌+◌,
  ◌-◌,
  ◌*◌,
  ◌<◌,
  ◌≤◌,
  ◌%◌,
  ◌⊎◌,
  Bool,
  true,
  false,
  eqb,
  leb,
  List,
  [],
  ◌∷◌,
  ◌++◌,
  length,
  get_or,
  take,
  drop,
  slice_get,
  Option,
  Some,
  None,
  nat_le,
  if◌then◌else◌,
  refl,
  sym,
  ap,
  ap₂,
  subst,
  ◌∙◌,
  inl,
  inr,
  add-zero,
  zero-add,
  zero-le,
  count_by,
  arith,
}
use Rattle.std.specs.Option.{option_map}
use Rattle.std.proofs.lemmas.Bool.{cases_lt, eqb-false, leb-true, leb-false}
use Rattle.std.proofs.lemmas.List.{drop-drop, get_or_append_left, get_or-append_right, length-append, length-map}
use Rattle.std.proofs.lemmas.List.Sums.{sum_by-cons}
use Rattle.std.proofs.lemmas.Option.{none-some, same_Some, slice_get_cases, slice_get_within, slice_get-get_or, slice_get-map, get_or_from_slice_get, slice_get_past}
use Rattle.version_table.specs.Choice.{Fits}
use Rattle.version_table.specs.Table.{IsValidTable}
use Rattle.version_table.specs.declared.table.AudioPacket.{AudioPacket}
use Rattle.version_table.specs.declared.table.ProgramRow.{ProgramRow}
use Rattle.version_table.specs.declared.table.Table.{Table}
use Rattle.slot_rule.specs.Buffers.{is_of, Row, Reserved, Carries, Empty}
use Rattle.slot_rule.specs.Queues.{QueueKind, QueuedPacket, Queue, audio_of, queues_from, queues_of, video_queue}
use Rattle.slot_rule.specs.Schedule.{IsHead}
use Rattle.slot_rule.specs.Sent.{IsAudioPacket, IsOfTable, IsPiece, choice_from, video_number}
use Rattle.slot_rule.specs.SlotList.{IsSlotList, piece_sent, sent_of}
use Rattle.slot_rule.specs.Timetable.{period, reserved_at}
use Rattle.slot_rule.specs.declared.sent.Sent.{Sent}
use Rattle.slot_rule.specs.declared.sent.Sent.TheVariants.{Pat, Pmt, Pcr}
use Rattle.slot_rule.specs.declared.slot_list.SlotList.{SlotList}
use Rattle.slot_rule.proofs.AudioPackets.{audio_of-item, audio_of-none}
use Rattle.slot_rule.proofs.RulePlaces.{StandsAt-from_get}
use Rattle.slot_rule.proofs.RuleQueues.{HasSizes-at_program, units_in, queues_in}
use Rattle.slot_rule.proofs.RuleRows.{IsNext, FollowRule-at}
use Rattle.slot_rule.proofs.RuleVideo.{HasSizes}
use Rattle.slot_rule.proofs.SlotListLaws.{kind_at-head}

-- ---- the element at a place of two lists
slice_get-left : {X : Type 0} (xs ys : List X) (i : ℕ) (x : X) → i < length xs → slice_get (xs ++ ys) i ≡ Some x → slice_get xs i ≡ Some x
slice_get-left xs ys i x within e =
    slice_get-get_or xs i x within ∙ ap Some (sym (get_or_append_left xs ys x i within) ∙ get_or_from_slice_get (xs ++ ys) i x x e)

slice_get-right : {X : Type 0} (xs ys : List X) (i : ℕ) (x : X) → length xs ≤ i → slice_get (xs ++ ys) i ≡ Some x → slice_get ys (i - length xs) ≡ Some x
slice_get-right xs ys i x past e =
    let within : i - length xs < length ys = omega (arith, slice_get_within (xs ++ ys) i x e, length-append xs ys) in
    slice_get-get_or ys (i - length xs) x within ∙ ap Some (sym (get_or-append_right xs ys (length xs) i x refl past) ∙ get_or_from_slice_get (xs ++ ys) i x x e)

-- ---- which queue has a number
-- the queue is the video of the program, or one of its audio streams, where the first of the programs has a number
abbrev IsVideoQueue : (first : ℕ) → List ProgramRow → List ℕ → (program : ℕ) → ProgramRow → (stream : ℕ) → Queue → Type 0
IsVideoQueue first rows choice program row stream queue =
    (stream ≡ video_number rows program) × (queue ≡ video_queue (first + program) row (choice_from rows program choice))

abbrev IsAudioQueue : List ProgramRow → (program : ℕ) → ProgramRow → (stream : ℕ) → Queue → Type 0
IsAudioQueue rows program row stream queue =
    (audio : ℕ) × (packets : List AudioPacket) × (slice_get row.audios audio ≡ Some packets) × (stream ≡ video_number rows program + 1 + audio) × (queue ≡ audio_of packets)

record QueuePlace (first : ℕ) (rows : List ProgramRow) (choice : List ℕ) (stream : ℕ) (queue : Queue) : Type 0 where
  program : ℕ
  row : ProgramRow
  row_is : slice_get rows program ≡ Some row
  which : IsVideoQueue first rows choice program row stream queue ⊎ IsAudioQueue rows program row stream queue

-- a queue of the first program
own_place : (first : ℕ) (row : ProgramRow) (rows : List ProgramRow) (choice : List ℕ) (stream : ℕ) (queue : Queue)
    → slice_get (queues_in first row choice) stream ≡ Some queue → QueuePlace first (row ∷ rows) choice stream queue
own_place first row rows choice zero queue e = record {
  program = 0;
  row = row;
  row_is = refl;
  which = inl (refl, sym (same_Some _ _ e) ∙ ap (λ n. video_queue n row choice) (sym (add-zero first)));
}
own_place first row rows choice (suc audio) queue e =
    let mapped : option_map audio_of (slice_get row.audios audio) ≡ Some queue = sym (slice_get-map audio_of row.audios audio) ∙ e in
    elim (slice_get_cases row.audios audio).1 as (λ _. QueuePlace first (row ∷ rows) choice (suc audio) queue) [
      | inl at ↦ record {
        program = 0;
        row = row;
        row_is = refl;
        which = inr (
          audio,
          at.0,
          at.2,
          (let e : suc audio ≡ 0 + 1 + audio = omega arith in e),
          sym (same_Some (audio_of at.0) queue (sym (ap (option_map audio_of) at.2) ∙ mapped)),
        );
      }
      | inr past ↦ absurd (none-some queue (sym (ap (option_map audio_of) past.1) ∙ mapped))
    ]

-- a queue of a later program
later_place : (first : ℕ) (row : ProgramRow) (rows : List ProgramRow) (choice : List ℕ) (stream : ℕ) (queue : Queue) → suc (length row.audios) ≤ stream
    → QueuePlace (first + 1) rows (drop (length row.units) choice) (stream - suc (length row.audios)) queue → QueuePlace first (row ∷ rows) choice stream queue
later_place first row rows choice stream queue past place =
    let p = place.program in
    let before = take place.program rows in
    let start : video_number (row ∷ rows) (suc place.program) ≡ suc (length row.audios) + video_number rows place.program =
    sum_by-cons (λ (r : ProgramRow). suc (length r.audios)) row (take place.program rows) in
    let number : (first + 1) + place.program ≡ first + suc place.program = omega arith in
    let versions : choice_from rows place.program (drop (length row.units) choice) ≡ choice_from (row ∷ rows) (suc place.program) choice =
    drop-drop (length (units_in (take place.program rows))) (length row.units) choice ∙ ap (λ n. drop n choice) (sym (length-append row.units (units_in (take place.program rows)))) in
    record {
      program = suc place.program;
      row = place.row;
      row_is = place.row_is;
      which = elim place.which as (λ _. IsVideoQueue first (row ∷ rows) choice (suc place.program) place.row stream queue ⊎ IsAudioQueue (row ∷ rows) (suc place.program) place.row stream queue) [
        | inl video ↦ inl (omega (arith, video.0), video.1 ∙ ap₂ (λ n v. video_queue n place.row v) number versions)
        | inr other ↦ inr (other.0, other.1, other.2, omega (arith, other.3), other.4)
      ];
    }

queue_place : (first : ℕ) (rows : List ProgramRow) (choice : List ℕ) (stream : ℕ) (queue : Queue)
    → slice_get (queues_from first rows choice) stream ≡ Some queue → QueuePlace first rows choice stream queue
queue_place first [] choice stream queue e =
    let none : List Queue = [] in
    absurd (none-some queue (sym (slice_get_past none stream zero-le) ∙ e))
queue_place first (row ∷ rows) choice stream queue e =
    let own = queues_in first row choice in
    let others = queues_from (first + 1) rows (drop (length row.units) choice) in
    let size : length (queues_in first row choice) ≡ suc (length row.audios) = ap suc (length-map row.audios audio_of) in
    elim (cases_lt stream (suc (length row.audios))) as (λ _. QueuePlace first (row ∷ rows) choice stream queue) [
      | inl within ↦ own_place first row rows choice stream queue (slice_get-left own others stream queue (omega arith) e)
      | inr past ↦
          later_place first row rows choice stream queue past
          (queue_place (first + 1) rows (drop (length row.units) choice) (stream - suc (length row.audios)) queue
          (ap (λ n. slice_get others (stream - n)) (sym size) ∙ slice_get-right own others stream queue (omega arith) e))
    ]

-- ---- what a row names
module _ (table : Table) (choice : List ℕ) (valid : IsValidTable table) (fits : Fits table choice) where
  piece_of_table : (program : ℕ) (row : ProgramRow) (stream k : ℕ) (packet : QueuedPacket) → slice_get table.programs program ≡ Some row
      → stream ≡ video_number table.programs program
      → slice_get (queues_of table choice) stream ≡ Some (video_queue program row (choice_from table.programs program choice))
      → slice_get (video_queue program row (choice_from table.programs program choice)).packets k ≡ Some packet → IsPiece table choice stream packet.item packet.piece
  piece_of_table program row stream k packet row_is number queue got =
      let versions = choice_from table.programs program choice in
      let within : program < length table.programs = slice_get_within table.programs program row row_is in
      let sizes : HasSizes row.units (choice_from table.programs program choice) =
      subst (λ (r : ProgramRow). HasSizes r.units (choice_from table.programs program choice))
      (get_or_from_slice_get table.programs program row row row_is) (HasSizes-at_program table choice program row valid fits within) in
      let at = StandsAt-from_get row.units versions sizes k packet got in
      record { program = program; row = row; row_is = row_is; number = number; queue = queue; unit = at.unit; unit_is = at.unit_is; piece_within = omega (arith, at.bytes, at.some_left) }

  audio_packet_of_table : (program : ℕ) (row : ProgramRow) (audio : ℕ) (packets : List AudioPacket) (stream k : ℕ) (packet : QueuedPacket)
      → slice_get table.programs program ≡ Some row
      → slice_get row.audios audio ≡ Some packets → stream ≡ video_number table.programs program + 1 + audio → slice_get (queues_of table choice) stream ≡ Some (audio_of packets)
      → slice_get (audio_of packets).packets k ≡ Some packet → IsAudioPacket table choice stream packet.item
  audio_packet_of_table program row audio packets stream k packet row_is packets_are number queue got =
      elim (slice_get_cases packets k).1 as (λ _. IsAudioPacket table choice stream packet.item) [
        | inl at ↦ record {
          program = program;
          row = row;
          row_is = row_is;
          audio = audio;
          packets = packets;
          packets_are = packets_are;
          number = number;
          queue = queue;
          packet = at.0;
          packet_is = ap (λ n. slice_get packets n) (audio_of-item packets k packet got) ∙ at.2;
        }
        | inr past ↦ absurd (none-some packet (sym (audio_of-none packets k past.1) ∙ got))
      ]

  head_of_table : (rows : List Row) (stream : ℕ) (kind : QueueKind) (packet : QueuedPacket) → IsHead (queues_of table choice) rows stream kind packet
      → IsOfTable table choice (piece_sent kind stream packet)
  head_of_table rows stream kind packet head =
      let queue : Queue = record { kind = kind; packets = head.0 } in
      let place = queue_place 0 table.programs choice stream queue head.1 in
      elim place.which as (λ _. IsOfTable table choice (piece_sent kind stream packet)) [
        | inl video ↦
            (let is : queue ≡ video_queue place.program place.row (choice_from table.programs place.program choice) = video.1
            ∙ ap (λ n. video_queue n place.row (choice_from table.programs place.program choice)) (zero-add place.program) in
            subst (λ (k : QueueKind). IsOfTable table choice (piece_sent k stream packet)) (sym (ap (λ (q : Queue). q.kind) is))
            (piece_of_table place.program place.row stream (count_by (is_of stream) rows) packet place.row_is video.0 (head.1 ∙ ap Some is)
            (ap (λ (q : Queue). slice_get q.packets (count_by (is_of stream) rows)) (sym is) ∙ head.2)))
        | inr other ↦
            subst (λ (k : QueueKind). IsOfTable table choice (piece_sent k stream packet)) (sym (ap (λ (q : Queue). q.kind) other.4))
            (audio_packet_of_table place.program place.row other.0 other.1 stream (count_by (is_of stream) rows) packet place.row_is other.2 other.3 (head.1 ∙ ap Some other.4)
            (ap (λ (q : Queue). slice_get q.packets (count_by (is_of stream) rows)) (sym other.4) ∙ head.2))
      ]

  named_if : (b : Bool) (own : Sent) (rest : Option Sent) (sent : Sent) → (b ≡ true → IsOfTable table choice own) → (b ≡ false → rest ≡ Some sent → IsOfTable table choice sent)
      → (if b then Some own else rest) ≡ Some sent → IsOfTable table choice sent
  named_if true own rest sent here later e = subst (λ (s : Sent). IsOfTable table choice s) (same_Some own sent e) (here refl)
  named_if false own rest sent here later e = later refl e

  reserved_of_table : (offset : ℕ) (sent : Sent) → reserved_at (length table.programs) offset ≡ Some sent → IsOfTable table choice sent
  reserved_of_table offset sent e =
      let programs = length table.programs in
      let pcr : Option Sent = if nat_le offset (2 * programs) then Some (Pcr (offset - programs - 1)) else None in
      let pmt : Option Sent = if nat_le offset programs then Some (Pmt (offset - 1)) else pcr in
      named_if (eqb offset 0) Pat pmt sent (λ _. tt)
      (λ some. named_if (leb offset programs) (Pmt (offset - 1)) pcr sent
      (λ low. (let some' : offset ≡ 0 → ⊥ = eqb-false offset 0 some in let below : offset - 1 < length table.programs = omega (arith, leb-true offset programs low) in below))
      (λ high. named_if (leb offset (2 * programs)) (Pcr (offset - programs - 1)) None sent
      (λ low. (let below : offset - length table.programs - 1 < length table.programs = omega (arith, leb-true offset (2 * programs) low, leb-false offset programs high) in below))
      (λ _ none. absurd (none-some sent none)))) e

  row_of_table : (rows : List Row) (row : Row) → IsNext table choice rows row → IsOfTable table choice (sent_of (queues_of table choice) row)
  row_of_table rows (Reserved sent) next = reserved_of_table (length rows % period table.slot) sent next
  row_of_table rows Empty next = tt
  row_of_table rows (Carries stream packet) next =
      subst (λ (k : QueueKind). IsOfTable table choice (piece_sent k stream packet)) (sym (kind_at-head (queues_of table choice) rows stream next.1.kind packet next.1.head))
      (head_of_table rows stream next.1.kind packet next.1.head)

  -- what stands in the slots of a schedule names programs and packets of the table
  pub slots_of_table : (list : SlotList) → IsSlotList table choice list → (n : ℕ) (sent : Sent) → slice_get list.rows n ≡ Some sent → IsOfTable table choice sent
  slots_of_table list is n sent there =
      let queues = queues_of table choice in
      let mapped : option_map (sent_of queues) (slice_get is.rows n) ≡ Some sent = sym (slice_get-map (sent_of queues) is.rows n)
      ∙ ap (λ (rows : List Sent). slice_get rows n) (sym is.rows_are) ∙ there in
      elim (slice_get_cases is.rows n).1 as (λ _. IsOfTable table choice sent) [
        | inl at ↦
            (let within : n < length is.rows = slice_get_within is.rows n at.0 at.2 in
            let row_is : get_or is.rows n at.0 ≡ at.0 = get_or_from_slice_get is.rows n at.0 at.0 at.2 in
            let next : IsNext table choice (take n is.rows) at.0 = subst (λ (r : Row). IsNext table choice (take n is.rows) r) row_is
            (FollowRule-at table choice is.rows is.schedule.follows n at.0 within) in
            subst (λ (s : Sent). IsOfTable table choice s) (same_Some (sent_of queues at.0) sent (sym (ap (option_map (sent_of queues)) at.2) ∙ mapped)) (row_of_table (take n is.rows) at.0 next))
        | inr past ↦ absurd (none-some sent (sym (ap (option_map (sent_of queues)) past.1) ∙ mapped))
      ]
