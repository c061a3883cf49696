use Rattle.std.proofs.Common.{◌≡◌, ◌<◌, ◌≤◌, ◌∙◌, ◌⊎◌, inl, inr, ℕ, get_or, subst, arith}
use Rattle.std.proofs.lemmas.Bool.{cases_lt}
use Rattle.syntax_types.specs.declared.block.BlockWay.{BlockWay}
use Rattle.requantiser.specs.Private.Counts.{IsSized}
use Rattle.requantiser.specs.Private.Lengths.{table_number}
use Rattle.requantiser.proofs.Counted.{none_sized, one_more_at}
use Rattle.requantiser.proofs.counts.Counts.add_sizes.Goals as goal

pub add_size-requires-clause-k : goal.add_size-requires-clause-k
add_size-requires-clause-k c = omega (arith, c.loop-k-test.true, c.args.rung.now.few)

pub add_size-requires-clause-row : goal.add_size-requires-clause-row
add_size-requires-clause-row c = c.args.rung.now.placed c.loop-k.k (omega (arith, c.loop-k-test.true, c.args.rung.now.few))

pub add_size-requires-clause-next : goal.add_size-requires-clause-next
add_size-requires-clause-next c =
    let k : ℕ = c.loop-k.k in
    let below : k < 8 = omega (arith, c.loop-k-test.true, c.args.rung.now.few) in
    omega (arith, (c.loop-k.invariant.stay k (omega arith)).0, c.requires.next k below)

pub add_size-requires-clause-room : goal.add_size-requires-clause-room
add_size-requires-clause-room c =
    let k : ℕ = c.loop-k.k in
    let below : k < 8 = omega (arith, c.loop-k-test.true, c.args.rung.now.few) in
    omega (arith, (c.loop-k.invariant.stay k (omega arith)).1, c.requires.room k below)

pub loop-k-preserved : goal.loop-k-preserved
loop-k-preserved c =
    let k : ℕ = c.loop-k.k in
    let sizes = c.args.rung.now.sizes in
    let next = c.args.self.now.next in
    let bits = c.args.self.now.bits in
    let here = c.loop-k.invariant.stay k (omega arith) in
    record {
      went = λ way j at. one_more_at (λ j (a b n : ℕ). IsSized way c.args.at (get_or sizes j 0) (get_or next j 0) (get_or bits j 0) a b)
          (λ j. get_or c.loop-k.self.next j 0) (λ j. get_or c.loop-k.self.bits j 0) (λ j. 0) (λ j. get_or c.add_size.new.self.next j 0) (λ j. get_or c.add_size.new.self.bits j 0) (λ j. 0) k
          (subst (λ (n : ℕ). IsSized way c.args.at (get_or sizes k 0) n (get_or bits k 0) (get_or c.add_size.new.self.next k 0) (get_or c.add_size.new.self.bits k 0)) here.0
          (subst (λ (n : ℕ). IsSized way c.args.at (get_or sizes k 0) (get_or c.loop-k.self.next k 0) n (get_or c.add_size.new.self.next k 0) (get_or c.add_size.new.self.bits k 0))
          here.1 (c.add_size.ensures.here way at)))
          (λ j other. ((c.add_size.ensures.others j other).0, (c.add_size.ensures.others j other).1, omega arith)) (λ j. c.loop-k.invariant.went way j at) j;
      stay = λ j past.
          let other = c.add_size.ensures.others j (λ e. absurd (omega (arith, e, past))) in
          let was = c.loop-k.invariant.stay j (omega (arith, past)) in
          (other.0 ∙ was.0, other.1 ∙ was.1);
      patterns = c.add_size.ensures.patterns ∙ c.loop-k.invariant.patterns;
      squares = c.add_size.ensures.squares ∙ c.loop-k.invariant.squares;
    }

pub returns-clause-each : goal.returns-clause-each
returns-clause-each c = λ way k at below. by_place way k at below (cases_lt k c.loop-k.k)
  where
    by_place : (way : BlockWay) (k : ℕ) → c.args.table ≡ table_number way c.args.at → k < 8 → (k < c.loop-k.k) ⊎ (c.loop-k.k ≤ k)
        → IsSized way c.args.at (get_or c.args.rung.now.sizes k 0) (get_or c.args.self.now.next k 0) (get_or c.args.self.now.bits k 0) (get_or c.loop-k.self.next k 0) (get_or c.loop-k.self.bits k 0)
    by_place way k at below (inl there) = c.loop-k.invariant.went way k at there
    by_place way k at below (inr past) =
        none_sized way c.args.at _ _ _ _ _ (c.args.rung.now.gone k (omega (arith, past, c.loop-k-test.false)) below) (c.loop-k.invariant.stay k past).0 (c.loop-k.invariant.stay k past).1
