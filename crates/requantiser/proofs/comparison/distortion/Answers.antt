use Rattle.std.proofs.Common.{◌≡◌, ℕ, ◌*◌, ◌<◌, ◌∙◌, sym, ap, ap₂, arith}
use Rattle.picture_grammar.specs.Picture.{rows}
use Rattle.picture_grammar.specs.Slice.{columns}
use Rattle.requantiser.specs.Distortion.{coefficient_of_picture}
use Rattle.requantiser.specs.Private.Sums.{sum_from}
use Rattle.requantiser.proofs.Differences.{difference_of-same, difference_at, distortion-is, grid_few}
use Rattle.requantiser.proofs.Sums.{one_more_number, no_more_number}
use Rattle.requantiser.proofs.comparison.distortion.Goals as goal

pub start-first-requires-clause-few : goal.start-first-requires-clause-few
start-first-requires-clause-few c = grid_few c.args.from.now c.rows.result c.requires.from c.rows.ensures.few c.rows.ensures.value

pub loop-address-preserved : goal.loop-address-preserved
loop-address-preserved c =
    let address : ℕ = c.loop-address.address in
    let below : address < c.rows.result * c.columns.result = c.loop-address-test.true in
    let is : c.difference-sum.result ≡ difference_at c.args.from.now c.args.to.now address =
    c.difference-sum.ensures.value
    ∙ sym (difference_of-same (coefficient_of_picture c.args.from.now address) (coefficient_of_picture c.args.to.now address) _ _ c.find_at-a.ensures.value c.find_at-b.ensures.value) in
    record {
      first = c.find_at-a.ensures.rest;
      second = c.find_at-b.ensures.rest;
      rest = one_more_number (difference_at c.args.from.now c.args.to.now) c.loop-address.sum address
          (c.rows.result * c.columns.result) c.difference-sum.result _ below is c.loop-address.invariant.rest;
      bound = omega (arith, c.difference-sum.ensures.bound, c.loop-address.invariant.bound);
    }

pub returns : goal.returns
returns c =
    let end : c.rows.result * c.columns.result ≡ rows c.args.from.now.seq c.args.from.now.coding * columns c.args.from.now.seq =
    ap₂ (λ a b. a * b) c.rows.ensures.value c.columns.ensures.value in
    no_more_number (difference_at c.args.from.now c.args.to.now) c.loop-address.sum c.loop-address.address (c.rows.result * c.columns.result) _ c.loop-address-test.false c.loop-address.invariant.rest
    ∙ ap (λ n. sum_from (difference_at c.args.from.now c.args.to.now) 0 n) end
    ∙ distortion-is c.args.from.now c.args.to.now
