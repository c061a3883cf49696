use Rattle.std.proofs.Common.{Option, refl, subst, sym, ◌∙◌, arith}
use Rattle.shelf_io.specs.Files.{Files}
use Rattle.file_pieces.specs.declared.again_fault.AgainFault.TheVariants.{Failed, Missing}
use Rattle.file_pieces.specs.Lane.{IsVideoHeld}
use Rattle.file_pieces.specs.LaneState.{IsVideoKept}
use Rattle.file_pieces.proofs.ReadsLemmas.{ok_never, reads_nothing, reads_ok, reads_then}
use Rattle.file_pieces.proofs.lane_state.LaneState.go_to.Goals as goal

pub loop-self-init : goal.loop-self-init
loop-self-init g c = record {
  kept = c.requires.kept;
  told = c.requires.told;
  files = refl;
  within = c.requires.before;
  reads = reads_nothing _ ⊥ ⊥ _ _ _ _ (λ f. f) (λ m. m);
}

pub loop-self-preserved : goal.loop-self-preserved
loop-self-preserved g c =
    let is = c.loop-self.invariant in
    let same = c.in-Ok.ensures.reads.same_files in
    let there = c.in-Ok.ensures.there in
    let before = c.loop-self-test.true in
    record {
      kept = subst (λ (t : Option Files). IsVideoKept t c.args.lane.now c.skip.new.self) (sym same) c.in-Ok.ensures.kept;
      told = subst (λ (t : Option Files). IsVideoHeld t c.args.lane.now) (sym same) is.told;
      files = same ∙ is.files;
      within = omega (arith, there, before);
      reads = reads_ok _ _ _ _ _ _ _ _ _ _ (ok_never c.in-Ok.field-0 Failed) (ok_never c.in-Ok.field-0 Missing)
          (reads_then _ _ _ _ _ _ _ _ _ _ _ _ _ _ ⊥ ⊥ (λ f. f) (λ m. m) is.reads c.in-Ok.ensures.reads);
    }

pub returns-in-Err-clause-kept : goal.returns-in-Err-clause-kept
returns-in-Err-clause-kept g c = subst (λ (t : Option Files). IsVideoKept t c.args.lane.now c.skip.new.self) c.loop-self.invariant.files c.in-Err.ensures.kept

pub returns-in-Err-clause-changed : goal.returns-in-Err-clause-changed
returns-in-Err-clause-changed g c changed = sym c.loop-self.invariant.files ∙ c.in-Err.ensures.changed changed

pub returns-in-Err-clause-reads : goal.returns-in-Err-clause-reads
returns-in-Err-clause-reads g c = reads_then _ _ _ _ _ _ _ _ _ _ _ _ _ _ ⊥ ⊥ (λ f. f) (λ m. m) c.loop-self.invariant.reads c.in-Err.ensures.reads

pub returns-clause-kept : goal.returns-clause-kept
returns-clause-kept g c = subst (λ (t : Option Files). IsVideoKept t c.args.lane.now c.loop-self.self) c.loop-self.invariant.files c.loop-self.invariant.kept
