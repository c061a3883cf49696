use Rattle.std.proofs.Common.{◌≡◌, ℕ, ◌+◌, ap, length, subst, arith}
use Rattle.program_reader.specs.declared.program.Program.{Program}
use Rattle.version_source.specs.Private.Place.{Skips}
use Rattle.version_source.proofs.PlaceLemmas.{covers-at, skip-further}
use Rattle.version_source.proofs.place.place_of.Goals as goal

pub split_at-requires : goal.split_at-requires
split_at-requires c =
    let few = covers-at c.args.programs.now c.args.choice.now c.args.stream c.loop-k.k c.loop-k.left c.loop-k.rest.now c.index-programs-k.result c.requires c.loop-k.invariant c.loop-k-test.true in
    omega (arith, few, c.len.ensures, ap (λ (p : Program). length p.units) c.index-programs-k.is)

pub loop-k-preserved : goal.loop-k-preserved
loop-k-preserved c =
    let audios : c.len-audios.result ≡ length c.index-programs-k.result.audios = c.len-audios.ensures in
    skip-further c.args.programs.now c.args.choice.now c.args.stream c.loop-k.k (c.loop-k.k + 1) c.loop-k.left _ c.len.result c.loop-k.rest.now _ c.index-programs-k.result c.loop-k.invariant
    c.loop-k-test.true c.index-programs-k.is (omega arith) (omega (arith, audios)) (omega (arith, audios)) c.len.ensures c.split_at.ensures.back

pub returns : goal.returns
returns c = record {
  left = c.loop-k.left;
  rest = c.loop-k.rest.now;
  skips = subst (λ (n : ℕ). Skips c.args.programs.now c.args.choice.now c.args.stream n c.loop-k.left c.loop-k.rest.now) (omega arith) c.loop-k.invariant;
}
