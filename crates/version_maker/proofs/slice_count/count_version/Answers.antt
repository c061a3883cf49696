use Rattle.std.proofs.Common.{◌≡◌, ◌∙◌, ℕ, None, refl, sym, ap, arith}
use Rattle.std.specs.Prelude.{◌==◌, false, not}
use Rattle.macroblock_writer.specs.Parts.{head_length}
use Rattle.requantiser.specs.declared.head.Head.{Head}
use Rattle.requantiser.specs.Steps.{Step}
use Rattle.requantiser.specs.Tallies.{kind_under}
use Rattle.version_maker.proofs.OutlineCounts.{outline-counted}
use Rattle.version_maker.proofs.slice_count.count_version.Goals as goal

pub returns-then-stays : goal.returns-then-stays
returns-then-stays c =
    let coding = c.args.picture.coding.now in
    let from = c.args.from.now in
    let head : Head = c.stayed_head-head.result in
    let state = c.args.count.now.state in
    let outlined = c.stayed_head-head.ensures.outlined c.args.picture.seq.now coding c.args.inner state c.args.lent.now.macroblock (sym c.stays.ensures ∙ c.if-stays.true)
    c.requires.spelled c.requires.can.tallied in
    let step : Step = record { from = from; made = outlined.made; behind = state; distortion = c.args.tally.now.distortion } in
    let pattern : ℕ = head.pattern in
    let lengths : head_length coding head.skipped_before (kind_under from.kind head) head.code head.pattern
    ≡ head_length coding from.skipped_before (record from.kind { quant = false; pattern = not (pattern == 0) }) None pattern =
    ap (λ (h : Head). head_length coding h.skipped_before (kind_under from.kind h) h.code h.pattern) c.stayed_head-head.ensures.value
    ∙ ap (λ (n : ℕ). head_length coding from.skipped_before (record from.kind { quant = false; pattern = not (n == 0) }) None n) (sym (ap (λ (h : Head). h.pattern) c.stayed_head-head.ensures.value)) in
    record {
      step = step;
      same = refl;
      is = record { at = outlined.at; state = outlined.state; difference = outlined.difference };
      counted = record {
        state = refl;
        bits = omega (
          arith,
          c.from.ensures,
          c.at.ensures.value coding from c.args.bits.now.motion_and_dc c.requires.bits.stayed,
          lengths,
          outline-counted coding from head c.args.bits.now.motion_and_dc c.requires.spelled c.requires.bits.motion_and_dc,
          outlined.bits,
        );
        few = omega (arith, c.from.ensures, c.at.ensures.few, c.requires.can.tallied.few);
        distortion = refl;
        small = omega (arith, c.requires.can.tallied.small);
      };
    }
