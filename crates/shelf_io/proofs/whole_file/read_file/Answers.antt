use Rattle.std.proofs.Common.{◌≡◌, ◌+◌, ◌∙◌, length, arith}
use Rattle.shelf_io.proofs.Counted.{never_failed}
use Rattle.shelf_io.proofs.Whole.{adds_first, adds_on, asks_twice, causes_none, causes_twice, IfTold_then, IfTold_both}
use Rattle.shelf_io.proofs.whole_file.read_file.Goals as goal

pub loop-count-init : goal.loop-count-init
loop-count-init g c =
    let grew : length c.read_more.new.bytes.items ≡ length c.new-bytes.result.items + c.in_ok-count.count =
    omega (arith, c.in_ok-count.ensures.length, c.read_more.new.bytes.ok.0, c.new-bytes.result.ok.0) in
    record {
      within = c.in_ok-count.ensures.within;
      told = IfTold_then (g.K.Shelf.files c.args.shelf.now) c.args.name.now c.in_ok-count.ensures.told
          (λ content. adds_first content _ c.read_more.new.bytes.items c.in_ok-count.count c.new-bytes.ensures.items grew);
      files = c.in_ok-count.ensures.files;
      asked = c.in_ok-count.ensures.asked;
      causes = causes_none (never_failed c.in_ok-count.count) (never_failed c.in_ok-count.count) c.in_ok-count.ensures.causes;
    }

pub loop-count-preserved : goal.loop-count-preserved
loop-count-preserved g c =
    let grew : length c.read_more-in-loop-count.new.bytes.items ≡ length c.loop-count.bytes.items + c.in_ok-count-2.count =
    omega (arith, c.in_ok-count-2.ensures.length, c.read_more-in-loop-count.new.bytes.ok.0, c.loop-count.bytes.ok.0) in
    record {
      within = c.in_ok-count-2.ensures.within;
      told = IfTold_both (g.K.Shelf.files c.args.shelf.now) c.args.name.now c.loop-count.invariant.told (rw c.loop-count.invariant.files at c.in_ok-count-2.ensures.told)
          (λ content before. adds_on content c.loop-count.bytes.items c.read_more-in-loop-count.new.bytes.items c.in_ok-count-2.count grew before.0);
      files = c.in_ok-count-2.ensures.files ∙ c.loop-count.invariant.files;
      asked = asks_twice c.loop-count.invariant.asked c.in_ok-count-2.ensures.asked;
      causes = causes_twice c.loop-count.invariant.causes (causes_none (never_failed c.in_ok-count-2.count) (never_failed c.in_ok-count-2.count) c.in_ok-count-2.ensures.causes);
    }

pub returns-in_err-count-2-clause-asked : goal.returns-in_err-count-2-clause-asked
returns-in_err-count-2-clause-asked g c = asks_twice c.loop-count.invariant.asked c.in_err-count-2.ensures.asked
