use Rattle.std.proofs.Common.{◌≡◌, ℕ, ◌<◌, ◌≤◌, List, MatchOption, sym, ap, subst, ◌∙◌, arith}
use Rattle.arrayvec.specs.ArrayVec.{ArrayVec}
use Rattle.dual_bounds.specs.declared.windows.Window.{Window as PricedWindow}
use Rattle.dual_bounds.specs.Bounds.{bound_of_value}
use Rattle.dual_bounds.specs.Values.{value_of_windows}
use Rattle.bound_certificate.specs.declared.cert.Node.TheVariants.{Window}
use Rattle.branch_plan.specs.declared.values.Values.{Values}
use Rattle.branch_plan.specs.Private.Leaves.{IsLeafOn}
use Rattle.branch_plan.specs.Private.Valued.{IsTimeKept}
use Rattle.branch_plan.proofs.Priced.{no_lower, time_leaf_is}
use Rattle.branch_plan.proofs.leaves.time_leaf.Goals as goal

pub returns-clause-leaf : goal.returns-clause-leaf
returns-clause-leaf c =
    let known = c.args.known in
    let below = subst (λ (n : ℕ). MatchOption c.bound_below-bound.result (known.distortion ≤ n) (λ b. (b ≡ n) × (n < known.distortion))) c.time_valued-own.ensures.bound c.bound_below-bound.ensures in
    let values : Values = record { time = c.time_valued-own.result.kept; seen = c.args.seen } in
    let with_is : c.in_ok-with.with ≡ c.args.windows.now = c.in_ok-with.ensures ∙ ap (λ (xs : List PricedWindow). record { items = xs }) c.as_slice.ensures.value in
    subst (λ (priced : ArrayVec PricedWindow). IsLeafOn c.args.table.now c.args.nodes c.args.fixed.now known.distortion
    (record { node = Window priced; bound = c.bound_below-bound.result; values = values; known = known })) (sym with_is)
    (time_leaf_is c.args.table.now c.args.nodes c.args.fixed.now c.args.windows.now c.bound_below-bound.result values known c.requires.free.0 c.requires.known c.requires.windows c.time_valued-own.ensures.most
    c.requires.few_windows c.requires.free.1 below)

pub returns-clause-floor : goal.returns-clause-floor
returns-clause-floor c =
    let known = c.args.known in
    let below = subst (λ (n : ℕ). MatchOption c.bound_below-bound.result (known.distortion ≤ n) (λ b. (b ≡ n) × (n < known.distortion))) c.time_valued-own.ensures.bound c.bound_below-bound.ensures in
    no_lower (bound_of_value (value_of_windows c.args.table.now c.args.fixed.now c.args.windows.now.items))
    (bound_of_value (value_of_windows c.args.table.now c.args.fixed.now c.args.windows.now.items)) known.distortion c.bound_below-bound.result (omega arith) below

pub returns-clause-valued : goal.returns-clause-valued
returns-clause-valued c =
    let with_is : c.in_ok-with.with.items ≡ c.args.windows.now.items = ap (λ (ws : ArrayVec PricedWindow). ws.items) c.in_ok-with.ensures ∙ c.as_slice.ensures.value in
    λ seeing seen. record {
      time = subst (λ (ws : List PricedWindow). IsTimeKept c.args.table.now c.args.fixed.now ws c.time_valued-own.result.kept) (sym with_is) c.time_valued-own.ensures.kept;
      seen = seen;
    }
