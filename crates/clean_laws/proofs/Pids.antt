-- The PIDs of a job's stream are apart.
use Rattle.std.proofs.Common.{◌≡◌, ℕ, suc, ◌+◌, ◌*◌, ◌<◌, ◌≤◌, List, All, length, Some, refl, sym, ap, ap₂, subst, ◌∙◌, arith}
use Rattle.std.specs.Prelude.{slice_get, slice_index}
use Rattle.std.specs.List.{flat_map}
use Rattle.std.proofs.lemmas.Option.{get_or_from_slice_get, slice_get_within}
use Rattle.version_table.specs.declared.table.ProgramRow.{ProgramRow}
use Rattle.version_table.specs.declared.table.Table.{Table}
use Rattle.version_table.specs.Table.{IsValidProgram, IsValidTable}
use Rattle.psi_tables.specs.Pmt.{pids_of}
use Rattle.slot_rule.specs.declared.queue_kind.QueueKind.TheVariants.{Video, Audio}
use Rattle.slot_rule.specs.Queues.{queues_of}
use Rattle.slot_rule.specs.Sent.{video_number}
use Rattle.slot_rule.proofs.RuleQueues.{length-queues_from}
use Rattle.job_report.specs.declared.job.Job.{Job}
use Rattle.program_reader.specs.declared.program.Program.{Program}
use Rattle.version_maker.specs.declared.version.UnitVersion.{UnitVersion}
use Rattle.program_table.specs.Table.{program_rows}
use Rattle.mux_writer.specs.declared.packets.TheConstants.{PAT_PID}
use Rattle.mux_writer.specs.Layout.{map_pid, stream_pid, video_pid}
use Rattle.job_stream.specs.Private.Outgoing.{CanGoOut}
use Rattle.job_stream.specs.Stream.{layout_of, output_maps}
use Rattle.clean_laws.proofs.Brought.{IsPidOf}
use Rattle.clean_laws.proofs.Numbers.{IsPlaced, placed, stream-pid-at}

-- PIDs of streams of programs, each with at most eight audio streams, are one PID only where they are of one program and place
one-place : (p q a b : ℕ) → a ≤ 8 → b ≤ 8 → 257 + 16 * p + a ≡ 257 + 16 * q + b → (p ≡ q) × (a ≡ b)
one-place p q a b few other same = (omega (arith, few, other, same), omega (arith, few, other, same))

module _ (job : Job) (programs : List Program) (table : Table) (choice : List ℕ) (versions : List (List (List UnitVersion))) (valid : IsValidTable table) (out : All CanGoOut programs)
    (rows_are : table.programs ≡ program_rows job.programs programs versions) where
  -- a program of the table has few audio streams
  pub few-audios : (program : ℕ) (row : ProgramRow) → slice_get table.programs program ≡ Some row → length row.audios ≤ 8
  few-audios program row there =
      let is : IsValidProgram table.slot row =
      subst (IsValidProgram table.slot) (get_or_from_slice_get table.programs program row row there) (valid.programs program row (slice_get_within table.programs program row there)) in
      is.few_audios

  -- the PID of a stream of a program
  pub pid-is : (program audio : ℕ) (row : ProgramRow) → slice_get table.programs program ≡ Some row → audio ≤ length row.audios
      → stream_pid (layout_of job programs) (video_number table.programs program + audio) ≡ video_pid program + audio
  pid-is program audio row there few =
      subst
      (λ (rows : List ProgramRow). slice_get rows program ≡ Some row
      → slice_index (flat_map pids_of (output_maps 0 job.programs programs)) (video_number rows program + audio) ≡ video_pid (0 + program) + audio)
      (sym rows_are) (λ found. stream-pid-at 0 job.programs programs versions program audio row out found few) there
      ∙ ap (λ (n : ℕ). video_pid n + audio) (let e : 0 + program ≡ program = omega arith in e)

  -- where a stream stands, and its PID
  pub place-of : (stream : ℕ) → stream < length (queues_of table choice) → IsPlaced table.programs stream
  place-of stream within = placed table.programs stream (subst (λ (n : ℕ). stream < n) (length-queues_from 0 table.programs choice) within)

  pub placed-pid : (stream : ℕ) (place : IsPlaced table.programs stream) → stream_pid (layout_of job programs) stream ≡ video_pid place.program + place.audio
  placed-pid stream place = ap (stream_pid (layout_of job programs)) place.number ∙ pid-is place.program place.audio place.row place.row_is place.few

  -- two streams with one PID are one
  pub one-stream : (program audio : ℕ) (row : ProgramRow) → slice_get table.programs program ≡ Some row → audio ≤ length row.audios → (other : ℕ)
      → other < length (queues_of table choice) → stream_pid (layout_of job programs) other ≡ video_pid program + audio → other ≡ video_number table.programs program + audio
  one-stream program audio row there few other within same =
      let place : IsPlaced table.programs other = place-of other within in
      let limit : length place.row.audios ≤ 8 = few-audios place.program place.row place.row_is in
      let own : length row.audios ≤ 8 = few-audios program row there in
      let pids : 257 + 16 * place.program + place.audio ≡ 257 + 16 * program + audio = omega (arith, placed-pid other place, same) in
      let both = one-place place.program program place.audio audio (omega (arith, limit, place.few)) (omega (arith, own, few)) pids in
      place.number ∙ ap₂ (λ (p a : ℕ). video_number table.programs p + a) both.0 both.1

  pub video-pid : (program vbv : ℕ) (row : ProgramRow) → slice_get table.programs program ≡ Some row
      → IsPidOf (queues_of table choice) (layout_of job programs) (length table.programs) (video_number table.programs program) (video_pid program) (Video program vbv)
  video-pid program vbv row there =
      let own : stream_pid (layout_of job programs) (video_number table.programs program + 0) ≡ video_pid program + 0 = pid-is program 0 row there (omega arith) in
      let few : program < 8 = omega (arith, slice_get_within table.programs program row there, valid.few_programs) in
      record {
        own = ap (stream_pid (layout_of job programs)) (let e : video_number table.programs program ≡ video_number table.programs program + 0 = omega arith in e) ∙ omega (arith, own);
        apart = λ other within same.
            one-stream program 0 row there (omega arith) other within (omega (arith, same))
            ∙ (let e : video_number table.programs program + 0 ≡ video_number table.programs program = omega arith in e);
        no_null = λ e. absurd (omega (arith, e, few));
        no_pat = λ e. absurd (omega (arith, e));
        no_map = λ p within e. absurd (omega (arith, e));
        pcr = (refl, λ other within e. omega (arith, e));
      }

  pub audio-pid : (program audio : ℕ) (row : ProgramRow) → slice_get table.programs program ≡ Some row → audio < length row.audios
      → IsPidOf (queues_of table choice) (layout_of job programs) (length table.programs) (video_number table.programs program + 1 + audio) (video_pid program + 1 + audio) Audio
  audio-pid program audio row there within =
      let n : ℕ = video_number table.programs program in
      let number : video_number table.programs program + 1 + audio ≡ video_number table.programs program + suc audio = omega arith in
      let own : stream_pid (layout_of job programs) (video_number table.programs program + suc audio) ≡ video_pid program + suc audio = pid-is program (suc audio) row there (omega (arith, within)) in
      let few : program < 8 = omega (arith, slice_get_within table.programs program row there, valid.few_programs) in
      let limit : length row.audios ≤ 8 = few-audios program row there in
      record {
        own = ap (stream_pid (layout_of job programs)) number ∙ omega (arith, own);
        apart = λ other there_too same. one-stream program (suc audio) row there (omega (arith, within)) other there_too (omega (arith, same)) ∙ sym number;
        no_null = λ e. absurd (omega (arith, e, few, within, limit));
        no_pat = λ e. absurd (omega (arith, e));
        no_map = λ p small e. absurd (omega (arith, e, within, limit));
        pcr = λ other small e. absurd (omega (arith, e, within, limit));
      }

  -- no stream has the PID of sections
  pub no-pat : (stream : ℕ) → stream < length (queues_of table choice) → stream_pid (layout_of job programs) stream ≡ PAT_PID → ⊥
  no-pat stream within e = absurd (omega (arith, e, placed-pid stream (place-of stream within)))

  pub no-map : (stream program : ℕ) → stream < length (queues_of table choice) → program < length table.programs → stream_pid (layout_of job programs) stream ≡ map_pid program → ⊥
  no-map stream program within small e =
      let place : IsPlaced table.programs stream = place-of stream within in
      let limit : length place.row.audios ≤ 8 = few-audios place.program place.row place.row_is in
      absurd (omega (arith, e, placed-pid stream place, place.few, limit))
