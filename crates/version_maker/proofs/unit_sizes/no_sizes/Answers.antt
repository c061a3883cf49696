use Rattle.std.proofs.Common.{◌≡◌, ◌∷◌, ◌++◌, ℕ, List, [], length, replicate, rules, ap, subst, sym, ◌∙◌, arith}
use Rattle.version_maker.specs.declared.version.VersionSize.{VersionSize}
use Rattle.version_maker.specs.Private.Sized.{AreSized, first_size}
use Rattle.version_maker.proofs.SizedSlices.{none-all, one-more-none}
use Rattle.version_maker.proofs.unit_sizes.no_sizes.Goals as goal

pub loop-m-preserved : goal.loop-m-preserved
loop-m-preserved c = record {
  within = omega (arith, c.loop-m-test.true);
  len = search rules;
  items = c.push.ensures.items ∙ ap (λ (xs : List VersionSize). xs ++ first_size 0 ∷ []) c.loop-m.invariant.items ∙ one-more-none c.loop-m._m-index;
}

pub returns : goal.returns
returns c = λ seq coding.
    let all : c.loop-m._m-index ≡ length c.args.coarser.now = omega (arith, c.loop-m-test.false, c.loop-m.invariant.within) in
    subst (AreSized seq coding [] c.args.coarser.now) (sym (c.loop-m.invariant.items ∙ ap (λ (n : ℕ). replicate n (first_size 0)) all)) (none-all seq coding c.args.coarser.now)
