use Rattle.std.proofs.Common.{◌+◌, ◌<◌, ◌*◌, ◌∙◌, List, All, ap, sym, subst, drop, arith}
use Rattle.std.proofs.lemmas.List.{drop_all}
use Rattle.version_maker.specs.declared.version.VersionSize.{VersionSize}
use Rattle.program_reader.specs.declared.unit_sizes.UnitSizes.{UnitSizes}
use Rattle.job_programs.specs.Distortions.{greatest_weighed, weighed_together}
use Rattle.job_programs.proofs.TogetherLemmas.{below-limit, greatest-here, left-over, near-at, past-limit, together-at, together-none}
use Rattle.job_programs.proofs.distortions.are_together_below.Goals as goal

pub bounds-sizes-k : goal.bounds-sizes-k
bounds-sizes-k c = omega (arith, c.loop-k-test.true, c.requires.many)

pub greatest_weighed-most-requires : goal.greatest_weighed-most-requires
greatest_weighed-most-requires c =
    let own = c.index-sizes-k.result in
    let near = near-at c.args.weight c.args.drift c.args.units.now c.args.sizes.now c.loop-k.k own c.unit_weight-own.result c.loop-k-test.true c.requires.many c.index-sizes-k.is
    c.unit_weight-own.ensures.value c.loop-k.invariant.near in
    subst (λ (items : List VersionSize). All (λ size. size.distortion * c.unit_weight-own.result < 281474976710656) items)
    (sym (c.as_slice.ensures.value ∙ ap (λ (s : UnitSizes). s.versions.items) (sym c.index-sizes-k.is))) near.0

pub loop-k-preserved : goal.loop-k-preserved
loop-k-preserved c =
    let own = c.index-sizes-k.result in
    let k = c.loop-k.k in
    let most = c.greatest_weighed-most.result in
    let is = greatest-here c.unit_weight-own.result most own c.as_slice.result.now (c.as_slice.ensures.value ∙ ap (λ (s : UnitSizes). s.versions.items) (sym c.index-sizes-k.is)) c.greatest_weighed-most.ensures in
    let split = together-at c.args.weight c.args.drift c.args.units.now c.args.sizes.now k own c.unit_weight-own.result c.loop-k-test.true c.requires.many c.index-sizes-k.is
    c.unit_weight-own.ensures.value in
    let near = near-at c.args.weight c.args.drift c.args.units.now c.args.sizes.now k own c.unit_weight-own.result c.loop-k-test.true c.requires.many c.index-sizes-k.is
    c.unit_weight-own.ensures.value c.loop-k.invariant.near in
    let less : most < c.loop-k.room = omega (arith, c.if-most-room.false) in
    record {
      some = omega (arith, less);
      sum = left-over (weighed_together c.args.weight c.args.drift c.args.units.now c.args.sizes.now) c.loop-k.room most (greatest_weighed c.unit_weight-own.result own)
          (weighed_together c.args.weight c.args.drift (drop k c.args.units.now) (drop k c.args.sizes.now))
          (weighed_together c.args.weight c.args.drift (drop (k + 1) c.args.units.now) (drop (k + 1) c.args.sizes.now)) 1152921504606846976 c.loop-k.invariant.sum split is less;
      near = near.1;
    }

pub returns-then-most-room : goal.returns-then-most-room
returns-then-most-room c =
    let own = c.index-sizes-k.result in
    let k = c.loop-k.k in
    let most = c.greatest_weighed-most.result in
    let is = greatest-here c.unit_weight-own.result most own c.as_slice.result.now (c.as_slice.ensures.value ∙ ap (λ (s : UnitSizes). s.versions.items) (sym c.index-sizes-k.is)) c.greatest_weighed-most.ensures in
    let split = together-at c.args.weight c.args.drift c.args.units.now c.args.sizes.now k own c.unit_weight-own.result c.loop-k-test.true c.requires.many c.index-sizes-k.is
    c.unit_weight-own.ensures.value in
    past-limit (weighed_together c.args.weight c.args.drift c.args.units.now c.args.sizes.now) c.loop-k.room most (greatest_weighed c.unit_weight-own.result own)
    (weighed_together c.args.weight c.args.drift (drop k c.args.units.now) (drop k c.args.sizes.now))
    (weighed_together c.args.weight c.args.drift (drop (k + 1) c.args.units.now) (drop (k + 1) c.args.sizes.now)) 1152921504606846976 c.loop-k.invariant.sum split is
    (omega (arith, c.if-most-room.true))

pub returns : goal.returns
returns c =
    below-limit (weighed_together c.args.weight c.args.drift c.args.units.now c.args.sizes.now) c.loop-k.room
    (weighed_together c.args.weight c.args.drift (drop c.loop-k.k c.args.units.now) (drop c.loop-k.k c.args.sizes.now)) 1152921504606846976 c.loop-k.invariant.sum c.loop-k.invariant.some
    (together-none c.args.weight c.args.drift (drop c.loop-k.k c.args.units.now) (drop c.loop-k.k c.args.sizes.now) (drop_all c.loop-k.k c.args.units.now c.loop-k-test.false))
