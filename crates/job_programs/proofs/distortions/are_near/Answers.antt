use Rattle.std.proofs.Common.{rules, ◌≡◌, false, true, ap, sym, ◌∙◌, arith}
use Rattle.std.proofs.lemmas.List.{drop_all}
use Rattle.program_reader.specs.declared.unit_sizes.UnitSizes.{UnitSizes}
use Rattle.job_programs.proofs.NearLemmas.{near-all, near-more, near-not, own-near}
use Rattle.job_programs.proofs.distortions.are_near.Goals as goal

pub bounds-sizes-k : goal.bounds-sizes-k
bounds-sizes-k c = omega (arith, c.loop-k-test.true, c.requires.many)

pub loop-k-preserved : goal.loop-k-preserved
loop-k-preserved c =
    let own = c.index-sizes-k.result in
    let holds : c.are_below.result ≡ true = search rules in
    let decides = own-near c.are_below.result c.unit_weight-own.result own c.as_slice.result.now
    (c.as_slice.ensures.value ∙ ap (λ (s : UnitSizes). s.versions.items) (sym c.index-sizes-k.is)) c.are_below.ensures in
    near-more c.args.weight c.args.drift c.args.units.now c.args.sizes.now c.loop-k.k own c.unit_weight-own.result c.loop-k-test.true c.requires.many c.index-sizes-k.is c.unit_weight-own.ensures.value
    (decides.0 holds) c.loop-k.invariant

pub returns-then-not-are_below : goal.returns-then-not-are_below
returns-then-not-are_below c =
    let own = c.index-sizes-k.result in
    let fails : c.are_below.result ≡ false = search rules in
    let decides = own-near c.are_below.result c.unit_weight-own.result own c.as_slice.result.now
    (c.as_slice.ensures.value ∙ ap (λ (s : UnitSizes). s.versions.items) (sym c.index-sizes-k.is)) c.are_below.ensures in
    near-not c.args.weight c.args.drift c.args.units.now c.args.sizes.now c.loop-k.k own c.unit_weight-own.result c.loop-k-test.true c.requires.many c.index-sizes-k.is c.unit_weight-own.ensures.value
    (λ near. let yes : c.are_below.result ≡ true = decides.1 near in cc) c.loop-k.invariant

pub returns : goal.returns
returns c = near-all c.args.weight c.args.drift c.args.units.now c.args.sizes.now c.loop-k.k (drop_all c.loop-k.k c.args.units.now c.loop-k-test.false) c.loop-k.invariant
