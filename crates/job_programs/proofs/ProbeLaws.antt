-- A probed file has one program, or one refusal.
use Rattle.std.proofs.Common.{◌≡◌, ℕ, ◌<◌, List, [], Option, None, Some, sym, subst, ◌∙◌, arith}
use Rattle.std.specs.FinMap.{get}
use Rattle.std.specs.Option.{IsSomeAnd}
use Rattle.shelf_io.specs.Files.{Files}
use Rattle.job_report.specs.declared.job.Form.TheVariants.{Ts}
use Rattle.job_programs.specs.declared.limits.TheConstants.{PROBED_AUDIO_PACKETS_MOST}
use Rattle.program_reader.specs.declared.program.Program.{Program}
use Rattle.program_reader.specs.declared.program_fault.SourceKind.{SourceKind}
use Rattle.job_programs.specs.declared.source_fault.SourceFault.{SourceFault}
use Rattle.job_programs.specs.Probe.{IsProbed, IsProbeRefused, probed_job, refused, many_packets}
use Rattle.job_programs.specs.Share.{audio_packets}
use Rattle.job_programs.specs.Told.{IsProbedOn, IsProbeRefusedOn}
use Rattle.job_programs.specs.Private.Behind.{job_keeps}
use Rattle.job_programs.proofs.Forms.{behind-of, refused-behind}
use Rattle.job_programs.proofs.LawLemmas.{OneProgram, OneRefusal, NeverBoth, not-both, one-refusal}
use Rattle.job_programs.proofs.FirstLemmas.{same-fault}

probed-not-refused : OneProgram → NeverBoth → (slot start number : ℕ) (drop content : List ℕ) (program : Program) (kind : SourceKind) (at : ℕ)
    → IsProbed slot start number drop content program → IsProbeRefused slot start number drop content kind at → ⊥
probed-not-refused one never slot start number drop content program kind at is (refused r) =
    not-both one never slot start 0 0 Ts number drop (job_keeps (probed_job number drop)) content program kind at
    (behind-of slot start [] [] (probed_job number drop) content program is.is_program) (refused-behind slot start [] [] (probed_job number drop) content kind at r)
probed-not-refused one never slot start number drop content program kind at is (many_packets other next many _ _) =
    let same : other ≡ program = one Ts content number drop start other program next.holds is.is_program.holds in
    let many' : PROBED_AUDIO_PACKETS_MOST < audio_packets program.audios = subst (λ (p : Program). PROBED_AUDIO_PACKETS_MOST < audio_packets p.audios) same many in
    omega (arith, many', is.few_packets)

one-probe-refusal : OneProgram → OneRefusal → NeverBoth → (slot start number : ℕ) (drop content : List ℕ) (kind kind' : SourceKind) (at at' : ℕ)
    → IsProbeRefused slot start number drop content kind at → IsProbeRefused slot start number drop content kind' at' → (kind ≡ kind') × (at ≡ at')
one-probe-refusal one only never slot start number drop content kind kind' at at' (refused r) (refused r') =
    one-refusal only never slot start 0 0 Ts number drop (job_keeps (probed_job number drop)) content kind kind' at at'
    (refused-behind slot start [] [] (probed_job number drop) content kind at r) (refused-behind slot start [] [] (probed_job number drop) content kind' at' r')
one-probe-refusal one only never slot start number drop content kind kind' at at' (refused r) (many_packets p next _ _ _) =
    absurd (not-both one never slot start 0 0 Ts number drop (job_keeps (probed_job number drop)) content p kind at
    (behind-of slot start [] [] (probed_job number drop) content p next) (refused-behind slot start [] [] (probed_job number drop) content kind at r))
one-probe-refusal one only never slot start number drop content kind kind' at at' (many_packets p next _ _ _) (refused r') =
    absurd (not-both one never slot start 0 0 Ts number drop (job_keeps (probed_job number drop)) content p kind' at'
    (behind-of slot start [] [] (probed_job number drop) content p next) (refused-behind slot start [] [] (probed_job number drop) content kind' at' r'))
one-probe-refusal one only never slot start number drop content kind kind' at at' (many_packets _ _ _ k a) (many_packets _ _ _ k' a') = (k ∙ sym k', a ∙ sym a')

pub same-content : (files : Files) (name c d : List ℕ) → get files name ≡ Some c → get files name ≡ Some d → c ≡ d
same-content files name c d first second = cc

-- ---- on told files

pub one-probed-on : OneProgram → (files : Files) (name : List ℕ) (slot start number : ℕ) (drop : List ℕ) (p q : Program)
    → IsProbedOn (Some files) name slot start number drop p → IsProbedOn (Some files) name slot start number drop q → p ≡ q
one-probed-on one files name slot start number drop p q a b = by-content (get files name) a.held b.held
  where
    by-content : (made : Option (List ℕ)) → IsSomeAnd made (λ content. IsProbed slot start number drop content p) → IsSomeAnd made (λ content. IsProbed slot start number drop content q) → p ≡ q
    by-content None first second = absurd first
    by-content (Some content) first second = one Ts content number drop start p q first.is_program.holds second.is_program.holds

pub probed-not-refused-on : OneProgram → NeverBoth → (files : Files) (name : List ℕ) (slot start number : ℕ) (drop : List ℕ) (program : Program) (fault : SourceFault)
    → IsProbedOn (Some files) name slot start number drop program → IsProbeRefusedOn (Some files) name slot start number drop fault → ⊥
probed-not-refused-on one never files name slot start number drop program fault a r = by-content (get files name) a.held r.held
  where
    by-content : (made : Option (List ℕ)) → IsSomeAnd made (λ content. IsProbed slot start number drop content program)
        → IsSomeAnd made (λ content. IsProbeRefused slot start number drop content fault.kind fault.at) → ⊥
    by-content None first second = absurd first
    by-content (Some content) first second = probed-not-refused one never slot start number drop content program fault.kind fault.at first second

pub one-probe-refusal-on : OneProgram → OneRefusal → NeverBoth → (files : Files) (name : List ℕ) (slot start number : ℕ) (drop : List ℕ) (a b : SourceFault)
    → IsProbeRefusedOn (Some files) name slot start number drop a → IsProbeRefusedOn (Some files) name slot start number drop b → a ≡ b
one-probe-refusal-on one only never files name slot start number drop a b ra rb = by-content (get files name) ra.held rb.held
  where
    by-content : (made : Option (List ℕ)) → IsSomeAnd made (λ content. IsProbeRefused slot start number drop content a.kind a.at)
        → IsSomeAnd made (λ content. IsProbeRefused slot start number drop content b.kind b.at) → a ≡ b
    by-content None first second = absurd first
    by-content (Some content) first second =
        let why = one-probe-refusal one only never slot start number drop content a.kind b.kind a.at b.at first second in
        same-fault a.program b.program a.kind b.kind a.at b.at (ra.first ∙ sym rb.first) why.0 why.1
