use Rattle.std.proofs.Common.{rules, ◌≡◌, ◌≤◌, false, true, refl, sym, ap, subst, ◌∙◌, List}
use Rattle.program_reader.specs.declared.program.AudioSource.{AudioSource}
use Rattle.program_reader.specs.declared.unit_sizes.UnitSizes.{UnitSizes}
use Rattle.program_reader.specs.Sizes.{AreProgramSizes}
use Rattle.job_programs.specs.declared.limits.TheConstants.{AUDIO_PACKETS_MOST}
use Rattle.job_programs.specs.Share.{audio_packets}
use Rattle.job_programs.proofs.ShareLemmas.{share-by, share-not}
use Rattle.job_programs.proofs.share.keeps_share.Goals as goal

pub keeps_distortions-requires-clause-sizes : goal.keeps_distortions-requires-clause-sizes
keeps_distortions-requires-clause-sizes c =
    let sized = c.args.sized.now in (
      sized.program,
      record {
        units_are = c.as_slice-units.ensures;
        are_sizes = subst (λ (those : List UnitSizes). AreProgramSizes sized.program c.args.wanted.now.coarser.now those) (sym c.as_slice-sizes.ensures) c.requires.sizes;
      },
    )

pub returns-then-not-has_few_packets : goal.returns-then-not-has_few_packets
returns-then-not-has_few_packets c =
    let w = c.args.wanted.now in
    let fails : c.has_few_packets.result ≡ false = search rules in
    share-not c.has_few_packets.result w.weight w.drift (audio_packets c.as_slice.result.now) w.coarser.now c.args.sized.now.program
    (ap (λ (audios : List AudioSource). audio_packets audios) c.as_slice.ensures) c.has_few_packets.ensures fails

pub returns : goal.returns
returns c =
    let w = c.args.wanted.now in
    let sized = c.args.sized.now in
    let holds : c.has_few_packets.result ≡ true = search rules in
    let few : audio_packets c.as_slice.result.now ≤ AUDIO_PACKETS_MOST = c.has_few_packets.ensures.0 holds in
    share-by c.keeps_distortions.result w.weight w.drift w.coarser.now sized.program
    (subst (λ (audios : List AudioSource). audio_packets audios ≤ AUDIO_PACKETS_MOST) c.as_slice.ensures few)
    (c.keeps_distortions.ensures sized.program record {
      units_are = c.as_slice-units.ensures;
      are_sizes = subst (λ (those : List UnitSizes). AreProgramSizes sized.program w.coarser.now those) (sym c.as_slice-sizes.ensures) c.requires.sizes;
    })
