use Rattle.std.proofs.Common.{◌≡◌, ◌∙◌, ℕ, ℤ, Bool, List, unsigned_abs, get_or, refl, sym, ap, subst, arith}
use Rattle.quant_math.specs.Levels.{coarser_level}
use Rattle.requantiser.specs.Private.Changes.{level_change}
use Rattle.requantiser.specs.Private.Counts.{IsSized, tally_in, with_squares}
use Rattle.requantiser.specs.Private.Lengths.{table_number}
use Rattle.requantiser.proofs.Counted.{counted_by}
use Rattle.requantiser.proofs.tally.add_coefficient.Goals as goal

pub add_squares-requires-clause-room : goal.add_squares-requires-clause-room
add_squares-requires-clause-room c = λ k below. (c.requires.room k below).distortion

pub add_squares-requires-clause-small : goal.add_squares-requires-clause-small
add_squares-requires-clause-small c = λ k below.
    (c.rung_of-rung.result.now.right c.args.coefficient.weight c.args.rescaling.now.from c.args.rescaling.now.intra (omega arith)
    (omega (arith, c.args.rescaling.now.from_range)) c.rung_of-rung.ensures.number k below).2

pub add_sizes-requires-clause-next : goal.add_sizes-requires-clause-next
add_sizes-requires-clause-next c = λ k below. omega (arith, c.from-at.ensures, (c.requires.room k below).next)

pub add_sizes-requires-clause-room : goal.add_sizes-requires-clause-room
add_sizes-requires-clause-room c = λ k below. (c.requires.room k below).bits

pub returns : goal.returns
returns c = λ way table k below.
    let level : ℤ = c.args.coefficient.level in
    let weight : ℕ = c.args.coefficient.weight in
    let from : ℕ = c.args.rescaling.now.from in
    let intra : Bool = c.args.rescaling.now.intra in
    let scales : List ℕ = c.args.targets.now.scales in
    let rung = c.rung_of-rung.result.now in
    let size : ℕ = get_or rung.sizes k 0 in
    let squared : ℕ = get_or rung.squares k 0 in
    let is = rung.right weight from intra (omega arith) (omega (arith, c.args.rescaling.now.from_range)) c.rung_of-rung.ensures.number k below in
    let size_is : size ≡ unsigned_abs (coarser_level level weight from (get_or scales k 0) intra) =
    is.0 ∙ ap (λ (l : ℤ). unsigned_abs (coarser_level l weight from (get_or rung.scales k 0) intra)) c.rung_of-rung.ensures.level
    ∙ ap (λ (xs : List ℕ). unsigned_abs (coarser_level level weight from (get_or xs k 0) intra)) c.rung_of-rung.ensures.scales in
    let squared_is : squared ≡ level_change level weight from (get_or scales k 0) intra =
    is.1 ∙ ap (λ (l : ℤ). level_change l weight from (get_or rung.scales k 0) intra) c.rung_of-rung.ensures.level
    ∙ ap (λ (xs : List ℕ). level_change level weight from (get_or xs k 0) intra) c.rung_of-rung.ensures.scales in
    counted_by way c.args.coefficient.at size squared (coarser_level level weight from (get_or scales k 0) intra) (level_change level weight from (get_or scales k 0) intra)
    (tally_in c.args.targets.now (with_squares c.args.counts.now c.args.squares.now) k below) (tally_in c.args.targets.now (with_squares c.add_sizes.new.self c.add_squares.new.squares) k below) refl
    (ap (λ (xs : List ℕ). get_or xs k 0) c.add_sizes.ensures.patterns) size_is squared_is is.2
    (subst (λ (n : ℕ). IsSized way n size (get_or c.args.counts.now.next k 0) (get_or c.args.counts.now.bits k 0) (get_or c.add_sizes.new.self.next k 0) (get_or c.add_sizes.new.self.bits k 0))
    c.from-at.ensures
    (c.add_sizes.ensures.each way k (table ∙ ap (table_number way) (sym c.from-at.ensures)) below)) (c.add_squares.ensures k below)
