use Rattle.std.proofs.Common.{ℕ, refl, sym, subst, List}
use Rattle.picture_heads.specs.Heads.{HasDelay, IsHeadWithoutDelay}
use Rattle.requantiser.proofs.Versions.{lawful-delay}
use Rattle.requantiser.proofs.LawfulVersions.{version-lawful, version-behind}
use Rattle.requantiser.proofs.picture.coarsen.Goals as goal

pub without_delay-requires : goal.without_delay-requires
without_delay-requires c =
    let (front, delay, back, h) = lawful-delay c.args.picture.now c.requires in
    (front, delay, back, subst (λ (x : List ℕ). HasDelay x front delay back) (sym c.as_slice.ensures) h)

pub returns-clause-lawful : goal.returns-clause-lawful
returns-clause-lawful c = version-lawful c.args.m c.args.picture.now _ c.requires (record {
  seq = refl;
  coding = refl;
  head = subst (λ (x : List ℕ). IsHeadWithoutDelay x c.in_ok-head.head) c.as_slice.ensures c.in_ok-head.ensures;
  slices = c.in_ok-slices.ensures;
  sequence_end = refl;
})

pub returns-clause-behind : goal.returns-clause-behind
returns-clause-behind c = λ before bytes may spelled. version-behind c.args.m before c.args.picture.now _ bytes may spelled c.requires.covered (record {
  seq = refl;
  coding = refl;
  head = subst (λ (x : List ℕ). IsHeadWithoutDelay x c.in_ok-head.head) c.as_slice.ensures c.in_ok-head.ensures;
  slices = c.in_ok-slices.ensures;
  sequence_end = refl;
})
