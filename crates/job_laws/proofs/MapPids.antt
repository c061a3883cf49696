-- The PAT of a job's stream leads to the map of each of its programs, one behind the other.
use Rattle.std.proofs.Common.{◌≡◌, ℕ, zero, suc, ◌+◌, List, [], ◌∷◌, ◌++◌, All, length, map, Some, refl, sym, ◌∙◌, subst, arith, append_assoc, length-append}
use Rattle.std.specs.Prelude.{slice_get}
use Rattle.std.proofs.lemmas.List.Elements.{All-head, All-tail}
use Rattle.std.proofs.lemmas.Option.{none-some, same_Some}
use Rattle.psi_tables.specs.declared.program_map.ProgramMap.{ProgramMap}
use Rattle.slot_rule.specs.declared.sent.Sent.{Sent}
use Rattle.job_report.specs.declared.job.ProgramJob.{ProgramJob}
use Rattle.job_report.specs.ValidJob.{HaveNumbersApart, IsValidProgramJob}
use Rattle.program_reader.specs.declared.program.Program.{Program}
use Rattle.mux_writer.specs.declared.layout.Layout.{Layout}
use Rattle.mux_writer.specs.Layout.{map_pid, with_output_pids}
use Rattle.mux_writer.specs.Output.{output_stream}
use Rattle.mux_writer.specs.Pieces.{Pieces}
use Rattle.job_stream.specs.Stream.{output_maps}
use Rattle.output_laws.specs.SentOn.{AreRowsOf}
use Rattle.parsing_laws.specs.TakenOut.{BeginWithTables, IsNumberedIn, LeadsToMap}
use Rattle.job_laws.proofs.JobPrograms.{IsOtherNumber, apart-next, apart-tail, numbered}

-- the law below, as this proof calls it
abbrev pub LeadsLaw : Type 0
LeadsLaw =
    (layout : Layout) (slot : ℕ) (pieces : Pieces) (rows : List Sent) (program : ℕ) (program_map : ProgramMap)
    → AreRowsOf layout pieces rows → BeginWithTables (length layout.maps.items) rows → IsNumberedIn layout.maps.items program program_map
    → LeadsToMap (output_stream layout slot pieces rows) program_map.number (map_pid program)

module _ (law : LeadsLaw) (layout : Layout) (slot : ℕ) (pieces : Pieces) (rows : List Sent) (are : AreRowsOf layout pieces rows) (begin : BeginWithTables (length layout.maps.items) rows) where
  pub leads-each : (n : ℕ) (jobs : List ProgramJob) (programs : List Program) (before : List ProgramMap) → length jobs ≡ length programs
      → layout.maps.items ≡ before ++ output_maps n jobs programs → length before ≡ n → All (IsOtherNumber jobs) before → HaveNumbersApart jobs → All IsValidProgramJob jobs
      → (place number : ℕ) → slice_get (map (λ (job : ProgramJob). job.number) jobs) place ≡ Some number
      → LeadsToMap (output_stream layout slot pieces rows) number (map_pid (n + place))
  leads-each n [] programs before many split size apart pairs valid zero number there = absurd (none-some number there)
  leads-each n [] programs before many split size apart pairs valid (suc place) number there = absurd (none-some number there)
  leads-each n (j ∷ js) [] before many split size apart pairs valid place number there = absurd (omega (arith, many))
  leads-each n (j ∷ js) (p ∷ ps) before many split size apart pairs valid zero number there =
      let program_map : ProgramMap = with_output_pids n j.number p.map in
      let own : LeadsToMap (output_stream layout slot pieces rows) j.number (map_pid n) =
      law layout slot pieces rows n program_map are begin
      (numbered layout.maps.items before (output_maps (n + 1) js ps) program_map n j js split size refl (All-head IsValidProgramJob j js valid).some_number apart) in
      subst (λ (k : ℕ). LeadsToMap (output_stream layout slot pieces rows) k (map_pid (n + 0))) (same_Some j.number number there)
      (subst (λ (k : ℕ). LeadsToMap (output_stream layout slot pieces rows) j.number (map_pid k)) (let e : n ≡ n + 0 = omega arith in e) own)
  leads-each n (j ∷ js) (p ∷ ps) before many split size apart pairs valid (suc place) number there =
      let program_map : ProgramMap = with_output_pids n j.number p.map in
      subst (λ (k : ℕ). LeadsToMap (output_stream layout slot pieces rows) number (map_pid k)) (let e : n + 1 + place ≡ n + suc place = omega arith in e)
      (leads-each (n + 1) js ps (before ++ program_map ∷ []) (omega (arith, many)) (split ∙ sym (append_assoc before (program_map ∷ []) (output_maps (n + 1) js ps)))
      (omega (arith, size, length-append before (program_map ∷ []))) (apart-next before j js program_map refl apart pairs) (apart-tail j js pairs)
      (All-tail IsValidProgramJob j js valid) place number there)
