-- Numbers of streams: the queue that has one, and the PID on which it goes.
use Rattle.std.proofs.Common.{◌≡◌, ℕ, zero, suc, ◌+◌, ◌-◌, ◌<◌, ◌≤◌, List, [], ◌∷◌, ◌++◌, All, length, map, take, drop, sum_by, Some, refl, sym, ap, ap₂, ◌∙◌, inl, inr, arith, length-append}
use Rattle.std.specs.Prelude.{slice_get, slice_index}
use Rattle.std.specs.List.{flat_map}
use Rattle.std.specs.Option.{option_map}
use Rattle.std.proofs.lemmas.Bool.{cases_lt}
use Rattle.std.proofs.lemmas.List.{drop-drop, get_or-append-add, length-map}
use Rattle.std.proofs.lemmas.List.Elements.{All-head, All-tail}
use Rattle.std.proofs.lemmas.List.Sums.{sum_by-cons}
use Rattle.std.proofs.lemmas.Option.{none-some, same_Some, slice_get-map}
use Rattle.psi_tables.specs.declared.stream.Stream.{Stream}
use Rattle.psi_tables.specs.Pmt.{pids_of}
use Rattle.version_table.specs.declared.table.AudioPacket.{AudioPacket}
use Rattle.version_table.specs.declared.table.ProgramRow.{ProgramRow}
use Rattle.slot_rule.specs.Queues.{audio_of, queues_from, video_queue}
use Rattle.slot_rule.specs.Sent.{choice_from, video_number}
use Rattle.slot_rule.proofs.RuleQueues.{queues_in, units_in}
use Rattle.job_report.specs.declared.job.ProgramJob.{ProgramJob}
use Rattle.program_reader.specs.declared.program.Program.{Program}
use Rattle.version_maker.specs.declared.version.UnitVersion.{UnitVersion}
use Rattle.program_table.specs.Table.{audio_row, program_row, program_rows}
use Rattle.mux_writer.specs.Layout.{video_pid, with_output_pids, with_pids_from}
use Rattle.job_stream.specs.Private.Outgoing.{CanGoOut}
use Rattle.job_stream.specs.Stream.{output_maps}
use Rattle.job_stream.proofs.LayoutLemmas.{pids-count}

-- ---- lists

get-behind : {A : Type 0} (xs ys : List A) (k : ℕ) (n : ℕ) → k ≡ length xs + n → slice_get (xs ++ ys) k ≡ slice_get ys n
get-behind [] ys k n is = ap (slice_get ys) (omega (arith, is))
get-behind (x ∷ xs) ys zero n is = absurd (omega (arith, is))
get-behind (x ∷ xs) ys (suc k) n is = get-behind xs ys k n (omega (arith, is))

get-before : {A : Type 0} (xs ys : List A) (k : ℕ) (x : A) → slice_get xs k ≡ Some x → slice_get (xs ++ ys) k ≡ Some x
get-before [] ys k x is = absurd (none-some x is)
get-before (a ∷ more) ys zero x is = is
get-before (a ∷ more) ys (suc k) x is = get-before more ys k x is

-- ---- queues

-- a program behind another one has the numbers behind
pub number-behind : (row : ProgramRow) (rows : List ProgramRow) (program : ℕ) → video_number (row ∷ rows) (suc program) ≡ suc (length row.audios) + video_number rows program
number-behind row rows program = sum_by-cons (λ (r : ProgramRow). suc (length r.audios)) row (take program rows)

pub choice-behind : (row : ProgramRow) (rows : List ProgramRow) (program : ℕ) (choice : List ℕ)
    → choice_from rows program (drop (length row.units) choice) ≡ choice_from (row ∷ rows) (suc program) choice
choice-behind row rows program choice =
    drop-drop (length (units_in (take program rows))) (length row.units) choice ∙ ap (λ (n : ℕ). drop n choice) (sym (length-append row.units (units_in (take program rows))))

queues-size : (first : ℕ) (row : ProgramRow) (choice : List ℕ) → length (queues_in first row choice) ≡ suc (length row.audios)
queues-size first row choice = ap suc (length-map row.audios audio_of)

-- the video of a program is the queue of its number
pub video-at : (first : ℕ) (rows : List ProgramRow) (choice : List ℕ) (program : ℕ) (row : ProgramRow) → slice_get rows program ≡ Some row
    → slice_get (queues_from first rows choice) (video_number rows program) ≡ Some (video_queue (first + program) row (choice_from rows program choice))
video-at first [] choice program row there = absurd (none-some row there)
video-at first (r ∷ rs) choice zero row there =
    let number : first ≡ first + 0 = omega arith in
    ap (λ (n : ℕ). Some (video_queue n r choice)) number ∙ ap (λ (x : ProgramRow). Some (video_queue (first + 0) x choice)) (same_Some r row there)
video-at first (r ∷ rs) choice (suc program) row there =
    let later : List ℕ = drop (length r.units) choice in
    let number : (first + 1) + program ≡ first + suc program = omega arith in
    get-behind (queues_in first r choice) (queues_from (first + 1) rs later) (video_number (r ∷ rs) (suc program)) (video_number rs program)
    (number-behind r rs program ∙ ap (λ (n : ℕ). n + video_number rs program) (sym (queues-size first r choice)))
    ∙ video-at (first + 1) rs later program row there
    ∙ ap₂ (λ (n : ℕ) (c : List ℕ). Some (video_queue n row c)) number (choice-behind r rs program choice)

-- and its audio streams are those behind it
pub audio-at : (first : ℕ) (rows : List ProgramRow) (choice : List ℕ) (program audio : ℕ) (row : ProgramRow) (packets : List AudioPacket) → slice_get rows program ≡ Some row
    → slice_get row.audios audio ≡ Some packets → slice_get (queues_from first rows choice) (video_number rows program + 1 + audio) ≡ Some (audio_of packets)
audio-at first [] choice program audio row packets there of = absurd (none-some row there)
audio-at first (r ∷ rs) choice zero audio row packets there of =
    let same : r ≡ row = same_Some r row there in
    let own : slice_get (map audio_of r.audios) audio ≡ Some (audio_of packets) =
    slice_get-map audio_of r.audios audio ∙ ap (option_map audio_of) (ap (λ (x : ProgramRow). slice_get x.audios audio) same ∙ of) in
    ap (slice_get (queues_from first (r ∷ rs) choice)) (number audio)
    ∙ get-before (queues_in first r choice) (queues_from (first + 1) rs (drop (length r.units) choice)) (suc audio) (audio_of packets) own
  where
    number : (n : ℕ) → 0 + 1 + n ≡ suc n
    number n = omega arith
audio-at first (r ∷ rs) choice (suc program) audio row packets there of =
    let later : List ℕ = drop (length r.units) choice in
    let place : video_number (r ∷ rs) (suc program) + 1 + audio ≡ length (queues_in first r choice) + (video_number rs program + 1 + audio) =
    omega (arith, number-behind r rs program, queues-size first r choice) in
    get-behind (queues_in first r choice) (queues_from (first + 1) rs later) (video_number (r ∷ rs) (suc program) + 1 + audio) (video_number rs program + 1 + audio) place
    ∙ audio-at (first + 1) rs later program audio row packets there of

-- ---- every number is that of a stream of a program

-- the stream of this number is one of a program's: its video, or an audio stream
pub record IsPlaced (rows : List ProgramRow) (stream : ℕ) : Type 0 where
  pub program : ℕ
  pub row : ProgramRow
  pub row_is : slice_get rows program ≡ Some row
  pub audio : ℕ
  pub few : audio ≤ length row.audios
  pub number : stream ≡ video_number rows program + audio

pub placed : (rows : List ProgramRow) (stream : ℕ) → stream < sum_by (λ (row : ProgramRow). suc (length row.audios)) rows → IsPlaced rows stream
placed [] stream within = absurd (let e : stream < 0 = within in omega (arith, e))
placed (row ∷ rows) stream within =
    elim (cases_lt stream (suc (length row.audios))) as (λ _. IsPlaced (row ∷ rows) stream) [
      | inl low ↦ record { program = 0; row = row; row_is = refl; audio = stream; few = omega (arith, low); number = (let e : stream ≡ 0 + stream = omega arith in e) }
      | inr high ↦
          (let sum = sum_by-cons (λ (r : ProgramRow). suc (length r.audios)) row rows in
          let place : IsPlaced rows (stream - suc (length row.audios)) = placed rows (stream - suc (length row.audios)) (omega (arith, within, high, sum)) in
          record {
            program = suc place.program;
            row = place.row;
            row_is = place.row_is;
            audio = place.audio;
            few = place.few;
            number = omega (arith, high, place.number, number-behind row rows place.program);
          })
    ]

-- ---- PIDs

pid-at : (pid : ℕ) (streams : List Stream) (more : List ℕ) (k : ℕ) → k < length streams
    → slice_index (map (λ (stream : Stream). stream.pid) (with_pids_from pid streams) ++ more) k ≡ pid + k
pid-at pid [] more k within = absurd (let e : k < 0 = within in omega (arith, e))
pid-at pid (s ∷ ss) more zero within = omega arith
pid-at pid (s ∷ ss) more (suc k) within = pid-at (pid + 1) ss more k (omega (arith, within)) ∙ (let e : (pid + 1) + k ≡ pid + suc k = omega arith in e)

-- the PID of a stream of a program, the first of the programs having this number
pub stream-pid-at : (first : ℕ) (jobs : List ProgramJob) (programs : List Program) (versions : List (List (List UnitVersion))) (program audio : ℕ) (row : ProgramRow)
    → All CanGoOut programs → slice_get (program_rows jobs programs versions) program ≡ Some row → audio ≤ length row.audios
    → slice_index (flat_map pids_of (output_maps first jobs programs)) (video_number (program_rows jobs programs versions) program + audio) ≡ video_pid (first + program) + audio
stream-pid-at first [] programs versions program audio row out there few = absurd (none-some row there)
stream-pid-at first (j ∷ js) [] versions program audio row out there few = absurd (none-some row there)
stream-pid-at first (j ∷ js) (p ∷ ps) [] program audio row out there few = absurd (none-some row there)
stream-pid-at first (j ∷ js) (p ∷ ps) (v ∷ vs) zero audio row out there few =
    let goes : CanGoOut p = All-head CanGoOut p ps out in
    let same : program_row j.weight j.drift p v ≡ row = same_Some (program_row j.weight j.drift p v) row there in
    let audios : length row.audios ≡ length p.audios = sym (ap (λ (r : ProgramRow). length r.audios) same) ∙ length-map p.audios audio_row in
    let within : audio < length p.map.streams.items = omega (arith, few, audios, goes.streams) in
    ap (slice_index (pids_of (with_output_pids first j.number p.map) ++ flat_map pids_of (output_maps (first + 1) js ps))) (begins audio)
    ∙ pid-at (video_pid first) p.map.streams.items (flat_map pids_of (output_maps (first + 1) js ps)) audio within
    ∙ ap (λ (n : ℕ). video_pid n + audio) (let e : first ≡ first + 0 = omega arith in e)
  where
    begins : (n : ℕ) → 0 + n ≡ n
    begins n = omega arith
stream-pid-at first (j ∷ js) (p ∷ ps) (v ∷ vs) (suc program) audio row out there few =
    let goes : CanGoOut p = All-head CanGoOut p ps out in
    let rows : List ProgramRow = program_rows js ps vs in
    let own : List ℕ = pids_of (with_output_pids first j.number p.map) in
    let size : length own ≡ length p.map.streams.items = pids-count (video_pid first) p.map.streams.items in
    let audios : length (program_row j.weight j.drift p v).audios ≡ length p.audios = length-map p.audios audio_row in
    let number = number-behind (program_row j.weight j.drift p v) rows program in
    let place : video_number (program_row j.weight j.drift p v ∷ rows) (suc program) + audio ≡ length own + (video_number rows program + audio) =
    omega (arith, number, size, audios, goes.streams) in
    ap (slice_index (own ++ flat_map pids_of (output_maps (first + 1) js ps))) place
    ∙ get_or-append-add own (flat_map pids_of (output_maps (first + 1) js ps)) (video_number rows program + audio) 0
    ∙ stream-pid-at (first + 1) js ps vs program audio row (All-tail CanGoOut p ps out) there few
    ∙ ap (λ (n : ℕ). video_pid n + audio) (let e : (first + 1) + program ≡ first + suc program = omega arith in e)
