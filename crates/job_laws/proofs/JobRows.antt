-- The maps of a job's stream have numbers that fit their fields.
use Rattle.std.proofs.Common.{ℕ, ◌+◌, ◌^◌, ◌<◌, ◌≤◌, List, [], ◌∷◌, All, arith}
use Rattle.std.proofs.lemmas.List.Elements.{All-cons, All-head, All-nil, All-tail}
use Rattle.psi_tables.specs.declared.stream.Stream.{Stream}
use Rattle.job_report.specs.declared.job.Job.{Job}
use Rattle.job_report.specs.declared.job.ProgramJob.{ProgramJob}
use Rattle.job_report.specs.ValidJob.{IsValidJob, IsValidProgramJob}
use Rattle.program_reader.specs.declared.program.Program.{Program}
use Rattle.mux_writer.specs.Layout.{video_pid, with_output_pids, with_pids_from}
use Rattle.job_stream.specs.Stream.{layout_of, output_maps}
use Rattle.output_laws.specs.Fields.{HaveNumbersInRange, IsMapInRange}
use Rattle.job_stream.proofs.LayoutRows.{HasKinds}

abbrev HasKind : Stream → Type 0
HasKind stream = stream.kind < 2 ^ 8

kinds-kept : (pid : ℕ) (streams : List Stream) → All HasKind streams → All HasKind (with_pids_from pid streams)
kinds-kept pid [] kinds = All-nil HasKind
kinds-kept pid (stream ∷ streams) kinds =
    All-cons HasKind (record stream { pid = pid }) (with_pids_from (pid + 1) streams) (All-head HasKind stream streams kinds) (kinds-kept (pid + 1) streams (All-tail HasKind stream streams kinds))

maps-in-range : (first : ℕ) (jobs : List ProgramJob) (programs : List Program) → All IsValidProgramJob jobs → All HasKinds programs → All IsMapInRange (output_maps first jobs programs)
maps-in-range first [] programs valid kinds = All-nil IsMapInRange
maps-in-range first (job ∷ jobs) [] valid kinds = All-nil IsMapInRange
maps-in-range first (job ∷ jobs) (program ∷ programs) valid kinds =
    let number : job.number ≤ 65535 = (All-head IsValidProgramJob job jobs valid).number in
    All-cons IsMapInRange (with_output_pids first job.number program.map) (output_maps (first + 1) jobs programs)
    (record { number = omega (arith, number); kinds = kinds-kept (video_pid first) program.map.streams.items (All-head HasKinds program programs kinds) })
    (maps-in-range (first + 1) jobs programs (All-tail IsValidProgramJob job jobs valid) (All-tail HasKinds program programs kinds))

pub in-range : (job : Job) (programs : List Program) → IsValidJob job → All (λ (program : Program). All (λ (stream : Stream). stream.kind < 2 ^ 8) program.map.streams.items) programs
    → HaveNumbersInRange (layout_of job programs)
in-range job programs valid kinds = record {
  stream_id = omega (arith, valid.stream_id);
  maps = maps-in-range 0 job.programs programs valid.programs kinds;
}
