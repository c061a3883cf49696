use Rattle.std.proofs.Common.{rules, ◌≡◌, ℕ, ◌<◌, ◌≤◌, true, false, length, refl, sym, subst}
use Rattle.std.specs.List.{sum_by}
use Rattle.std.proofs.lemmas.Result.{err_from_is_err_and}
use Rattle.job_programs.specs.declared.limits.TheConstants.{PROBED_AUDIO_PACKETS_MOST}
use Rattle.program_reader.specs.declared.program_fault.SourceKind.TheVariants.{ProgramLimit}
use Rattle.job_programs.specs.declared.source_fault.ProgramsFault.{ProgramsFault}
use Rattle.job_programs.specs.Told.{HasProbeCause}
use Rattle.job_programs.specs.Share.{audio_packets}
use Rattle.job_programs.proofs.Ends.{ends_so}
use Rattle.job_programs.proofs.ProbeLemmas.{probe-cause, probed-on, packets-refused, not-few}
use Rattle.job_programs.proofs.ShareLemmas.{packets-off}
use Rattle.job_programs.proofs.probe.pass_one.Goals as goal

pub returns-in_err-next-clause-cause : goal.returns-in_err-next-clause-cause
returns-in_err-next-clause-cause g c =
    let p = err_from_is_err_and c.from_residual.result c.from_residual.ensures.1 in
    rw (p.1, p.2) (probe-cause (g.K.Shelf.files c.args.shelf.now) c.args.name.now c.args.slot c.args.start c.args.number c.args.drop.now
    (g.K.Shelf.counts c.args.shelf.now) (g.K.Shelf.counts c.pass_next.new.shelf) (g.K.Shelf.since_fault c.pass_next.new.shelf)
    c.in_err-next.field-0.0 c.in_err-next.ensures.cause)

pub returns-then-not-has_few_pieces-clause-cause : goal.returns-then-not-has_few_pieces-clause-cause
returns-then-not-has_few_pieces-clause-cause g c =
    let next = c.in_ok-next.next in
    let is = c.in_ok-next.ensures.next in
    let told = g.K.Shelf.files c.args.shelf.now in
    let old = g.K.Shelf.counts c.args.shelf.now in
    let new = g.K.Shelf.counts c.pass_next.new.shelf in
    let since = g.K.Shelf.since_fault c.pass_next.new.shelf in
    let fails : c.has_few_pieces.result ≡ false = search rules in
    let many : PROBED_AUDIO_PACKETS_MOST < sum_by length c.as_slice.result.now =
    not-few c.has_few_pieces.result (sum_by length c.as_slice.result.now) PROBED_AUDIO_PACKETS_MOST c.has_few_pieces.ensures fails in
    let same = packets-off is.program next.program c.as_slice.result.now is.sized_off.read_off c.as_slice.ensures in
    let many' : PROBED_AUDIO_PACKETS_MOST < audio_packets is.program.audios = subst (λ (n : ℕ). PROBED_AUDIO_PACKETS_MOST < n) same many in
    subst (λ (said : ProgramsFault). HasProbeCause told c.args.name.now c.args.slot c.args.start c.args.number c.args.drop.now old new since said) (sym c.over_limit.ensures)
    (packets-refused told c.args.name.now c.args.slot c.args.start c.args.number c.args.drop.now next.size is.program (record { program = 0; kind = ProgramLimit; at = 0 })
    is.next many' refl refl refl)

pub returns-in_err-next-clause-ends : goal.returns-in_err-next-clause-ends
returns-in_err-next-clause-ends g c =
    let p = err_from_is_err_and c.from_residual.result c.from_residual.ensures.1 in
    rw (p.1, p.2) c.in_err-next.ensures.ends

pub returns-then-not-has_few_pieces-clause-ends : goal.returns-then-not-has_few_pieces-clause-ends
returns-then-not-has_few_pieces-clause-ends g c = ends_so (λ no. absurd no) (λ no. absurd no) c.in_ok-next.ensures.ends

pub returns-clause-program : goal.returns-clause-program
returns-clause-program g c =
    let next = c.in_ok-next.next in
    let is = c.in_ok-next.ensures.next in
    let holds : c.has_few_pieces.result ≡ true = search rules in
    let few : sum_by length c.as_slice.result.now ≤ PROBED_AUDIO_PACKETS_MOST = c.has_few_pieces.ensures.0 holds in
    let same = packets-off is.program next.program c.as_slice.result.now is.sized_off.read_off c.as_slice.ensures in
    record {
      program = is.program;
      probed = probed-on (g.K.Shelf.files c.args.shelf.now) c.args.name.now c.args.slot c.args.start c.args.number c.args.drop.now next.size is.program is.next
          (subst (λ (n : ℕ). n ≤ PROBED_AUDIO_PACKETS_MOST) same few);
      off = is.sized_off;
    }
