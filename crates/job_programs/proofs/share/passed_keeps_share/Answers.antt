use Rattle.std.proofs.Common.{rules, ◌≡◌, ◌≤◌, false, true, length, List, ℕ, sym, subst, ◌∙◌}
use Rattle.std.specs.List.{sum_by}
use Rattle.job_programs.specs.declared.limits.TheConstants.{AUDIO_PACKETS_MOST}
use Rattle.job_programs.proofs.ShareLemmas.{packets-off, share-by, share-not}
use Rattle.job_programs.proofs.PassedLemmas.{sized-by}
use Rattle.job_programs.proofs.share.passed_keeps_share.Goals as goal

pub keeps_distortions-requires-clause-sizes : goal.keeps_distortions-requires-clause-sizes
keeps_distortions-requires-clause-sizes c = (
  c.requires.sizes.0,
  sized-by c.requires.sizes.0 c.args.wanted.now.coarser.now c.args.passed.now c.as_slice-units.result.now c.as_slice-sizes.result.now c.requires.sizes.1
      c.as_slice-units.ensures c.as_slice-sizes.ensures,
)

pub returns-then-not-has_few_pieces : goal.returns-then-not-has_few_pieces
returns-then-not-has_few_pieces c = λ program is.
    let w = c.args.wanted.now in
    let fails : c.has_few_pieces.result ≡ false = search rules in
    share-not c.has_few_pieces.result w.weight w.drift (sum_by length c.as_slice.result.now) w.coarser.now program
    (packets-off program c.args.passed.now.program c.as_slice.result.now is.read_off c.as_slice.ensures) c.has_few_pieces.ensures fails

pub returns : goal.returns
returns c = λ program is.
    let w = c.args.wanted.now in
    let holds : c.has_few_pieces.result ≡ true = search rules in
    let few : sum_by length c.as_slice.result.now ≤ AUDIO_PACKETS_MOST = c.has_few_pieces.ensures.0 holds in
    share-by c.keeps_distortions.result w.weight w.drift w.coarser.now program
    (subst (λ (n : ℕ). n ≤ AUDIO_PACKETS_MOST) (packets-off program c.args.passed.now.program c.as_slice.result.now is.read_off c.as_slice.ensures) few)
    (c.keeps_distortions.ensures program
    (sized-by program w.coarser.now c.args.passed.now c.as_slice-units.result.now c.as_slice-sizes.result.now is c.as_slice-units.ensures c.as_slice-sizes.ensures))
