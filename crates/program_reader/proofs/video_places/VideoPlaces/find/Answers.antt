use Rattle.std.proofs.Common.{◌++◌, ◌∙◌, List, ℕ, refl, sym, subst, take, arith}
use Rattle.std.proofs.lemmas.List.{append-nil, take_all}
use Rattle.es_units.specs.PictureFinder.{HasFound}
use Rattle.program_reader.proofs.WalkLemmas.{found_further}
use Rattle.program_reader.proofs.video_places.VideoPlaces.find.Goals as goal

pub loop-count-init : goal.loop-count-init
loop-count-init c = record {
  within = omega arith;
  passed = omega arith;
  packets = refl;
  bytes = refl;
  found = λ es has. subst (λ (xs : List ℕ). HasFound xs c.args.self.now.pictures.items c.args.self.now.finder) (sym (append-nil es)) has;
}

pub loop-count-preserved : goal.loop-count-preserved
loop-count-preserved c =
    let so_far = c.loop-count.invariant in
    let step = c.in_ok-count.ensures in
    let bytes = c.args.bytes.now in
    record {
      within = omega (arith, so_far.within, step.within.1);
      passed = omega (arith, so_far.passed, step.passed);
      packets = step.packets ∙ so_far.packets;
      bytes = step.bytes ∙ so_far.bytes;
      found = λ es has.
          found_further es bytes c.find_next.new.self.pictures.items c.find_next.new.self.finder c.loop-count.count c.in_ok-count.field-0 so_far.within
          (step.found (es ++ take c.loop-count.count bytes) (so_far.found es has));
    }

pub returns-clause-found : goal.returns-clause-found
returns-clause-found c es has =
    let bytes = c.args.bytes.now in
    subst (λ (xs : List ℕ). HasFound (es ++ xs) c.loop-count.self.pictures.items c.loop-count.self.finder) (take_all c.loop-count.count bytes (omega (arith, c.loop-count-test.false)))
    (c.loop-count.invariant.found es has)
