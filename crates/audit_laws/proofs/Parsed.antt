-- Each program that a stream parses to: its clock references go on its video's PID, and its video begins with a sequence header.
use Rattle.std.proofs.Common.{◌≡◌, ℕ, zero, suc, ◌+◌, List, [], ◌∷◌, length, drop, map, min, Option, Some, None, refl, sym, ap, subst, ◌∙◌, arith}
use Rattle.std.specs.Prelude.{slice_get}
use Rattle.std.proofs.lemmas.List.Folds.{flat_map-map}
use Rattle.std.proofs.lemmas.Option.{none-some, same_Some}
use Rattle.list_types.specs.Spans.{spans}
use Rattle.pes_units.specs.PesHeader.{header_length}
use Rattle.es_units.specs.declared.units.Units.{Units}
use Rattle.es_units.specs.Units.{cut_units, cuts_behind, cuts_up_to, first_sequence}
use Rattle.psi_tables.specs.declared.program_map.ProgramMap.{ProgramMap}
use Rattle.ts_demux.specs.declared.demuxed.Demuxed.{Demuxed}
use Rattle.ts_demux.specs.declared.demuxed.PesUnit.{PesUnit}
use Rattle.ts_demux.specs.Demux.{IsDemuxed}
use Rattle.elementary_streams.specs.Packets.{joined}
use Rattle.job_report.specs.declared.job.ProgramJob.{ProgramJob}
use Rattle.program_reader.specs.declared.program.Program.{Program}
use Rattle.version_maker.specs.declared.version.UnitVersion.{UnitVersion}
use Rattle.mux_writer.specs.Layout.{video_pid, with_output_pids}
use Rattle.layer_laws.specs.WholeUnits.{placed_units}
use Rattle.parsing_laws.specs.Parsed.{SentUnit, bytes_of_packets, joined_payloads}
use Rattle.job_laws.specs.ParsesTo.{ParsesTo, ParsesToProgram, sent_units}

-- A program of this number is taken out of a stream; its clock references are on the PID of the video of this place, which begins with a sequence header.
pub record IsTakenAt (file : List ℕ) (place number : ℕ) : Type 0 where
  pub demuxed : Demuxed
  pub taken_out : IsDemuxed file number [] demuxed
  pub pcr : demuxed.map.pcr_pid ≡ video_pid place
  pub begins : first_sequence (joined demuxed.video) ≡ Some 0

heads : List (ℕ × ℕ) → ℕ
heads [] = 1
heads (span ∷ more) = span.0

spans-begin : (from : ℕ) (cuts : List ℕ) (end : ℕ) → heads (spans from cuts end) ≡ from
unfolding heads
spans-begin from [] end = refl
spans-begin from (cut ∷ cuts) end = refl

units-begin : (units : List (List ℕ)) (from : ℕ) (cuts : List ℕ) (end : ℕ) → spans from cuts end ≡ placed_units 0 units → from ≡ 0
unfolding heads
units-begin [] from [] end same = absurd (let e = ap (length {A = ℕ × ℕ}) same in omega (arith, e))
units-begin [] from (cut ∷ cuts) end same = absurd (let e = ap (length {A = ℕ × ℕ}) same in omega (arith, e))
units-begin (unit ∷ units) from cuts end same = sym (spans-begin from cuts end) ∙ ap heads same

first-is : (es : List ℕ) (units : List (List ℕ)) (first : Option ℕ) → first_sequence es ≡ first → cut_units es ≡ Some (record { dropped = 0; cuts = placed_units 0 units })
    → first_sequence es ≡ Some 0
first-is es units None is cut = absurd (none-some _ (sym (let e : cut_units es ≡ None = rw is refl in e) ∙ cut))
first-is es units (Some at) is cut =
    let found : cut_units es ≡ Some (record { dropped = min (cuts_up_to es at) 4294967295; cuts = spans at (cuts_behind es at) (length es) }) = rw is refl in
    let same : spans at (cuts_behind es at) (length es) ≡ placed_units 0 units = ap (λ (u : Units). u.cuts) (same_Some _ _ (sym found ∙ cut)) in
    is ∙ ap (λ (k : ℕ). Some k) (units-begin units at (cuts_behind es at) (length es) same)

one-taken : (file content : List ℕ) (place : ℕ) (job : ProgramJob) (program_map : ProgramMap) (sent : List SentUnit)
    → ParsesToProgram file content job (with_output_pids place job.number program_map) sent
    → IsTakenAt file place job.number
one-taken file content place job program_map sent parses = record {
  demuxed = parses.demuxed;
  taken_out = parses.taken_out;
  pcr = ap (λ (m : ProgramMap). m.pcr_pid) parses.map_is;
  begins = ap first_sequence (sym (flat_map-map (λ (bytes : List ℕ). drop (header_length bytes) bytes) (λ (packet : PesUnit). packet.bytes) parses.demuxed.video))
      ∙ first-is (joined_payloads (bytes_of_packets parses.demuxed.video)) (map (λ (unit : SentUnit). unit.bytes) sent) _ refl parses.units;
}

pub taken-at : (file : List ℕ) (n : ℕ) (jobs : List ProgramJob) (contents : List (List ℕ)) (programs : List Program) (versions : List (List (List UnitVersion))) (choice : List ℕ)
    → ParsesTo file n jobs contents programs versions choice → (place number : ℕ) → slice_get (map (λ (job : ProgramJob). job.number) jobs) place ≡ Some number → IsTakenAt file (n + place) number
taken-at file n [] contents programs versions choice parses place number there = absurd (none-some number there)
taken-at file n (j ∷ js) [] programs versions choice parses place number there = absurd parses
taken-at file n (j ∷ js) (c ∷ cs) [] versions choice parses place number there = absurd parses
taken-at file n (j ∷ js) (c ∷ cs) (p ∷ ps) [] choice parses place number there = absurd parses
taken-at file n (j ∷ js) (c ∷ cs) (p ∷ ps) (v ∷ vs) choice parses zero number there =
    subst (λ (k : ℕ). IsTakenAt file (n + 0) k) (same_Some j.number number there)
    (subst (λ (k : ℕ). IsTakenAt file k j.number) (let e : n ≡ n + 0 = omega arith in e) (one-taken file c n j p.map (sent_units p.units v choice) parses.0))
taken-at file n (j ∷ js) (c ∷ cs) (p ∷ ps) (v ∷ vs) choice parses (suc place) number there =
    subst (λ (k : ℕ). IsTakenAt file k number) (let e : n + 1 + place ≡ n + suc place = omega arith in e)
    (taken-at file (n + 1) js cs ps vs (drop (length p.units) choice) parses.1 place number there)
