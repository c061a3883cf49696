use Rattle.std.proofs.Common.{◌≡◌, ℕ, ◌<◌, ◌≤◌, List, Option, ap, subst, refl, inl, inr, arith}
use Rattle.std.proofs.lemmas.Bool.{cases_lt}
use Rattle.dual_bounds.specs.Bounds.{bound_of_value}
use Rattle.dual_bounds.specs.Values.{value_of_windows}
use Rattle.multiplier_search.specs.Windows.{BeatEachTried}
use Rattle.bound_certificate.specs.declared.cert.Cert.{Cert}
use Rattle.bound_certificate.specs.declared.cert.Node.{Node}
use Rattle.certificate_checker.specs.Faults.{IsHeadRight}
use Rattle.certificate_checker.specs.Shown.{unfixed}
use Rattle.certificate_checker.proofs.Soundness.{faultless_bound}
use Rattle.branch_plan.specs.Bound.{unit_dues}
use Rattle.branch_plan.specs.Changes.{EndsBestAlone}
use Rattle.branch_plan.specs.Private.Changes.{GainsOver}
use Rattle.branch_plan.specs.Private.Root.{BeatEachPair}
use Rattle.branch_plan.specs.declared.found.Found.{Found}
use Rattle.branch_plan.specs.declared.known.Known.{Known}
use Rattle.branch_plan.proofs.Certs.{IsCertTree, as_many_chosen, branches_in, cert_tree, pairs_in, tried_in, writable}
use Rattle.branch_plan.proofs.Debts.{pays_unspent}
use Rattle.branch_plan.proofs.Enough.{always_optimal}
use Rattle.branch_plan.proofs.Roots.{faultless, pair_bounds, tried_bounds}
use Rattle.branch_plan.proofs.Trying.{gains}
use Rattle.branch_plan.proofs.planner.plan.Goals as goal

abbrev cert_of : (bound distortion : ℕ) (choice : List ℕ) (nodes : List Node) → Cert
cert_of bound distortion choice nodes = record { version = 3; bound = bound; distortion = distortion; choice = choice; nodes = nodes }

strictly : (bound low high : ℕ) → bound ≤ low → (bound ≡ low → ⊥) → low ≤ high → bound < high
strictly bound low high under differs less = elim (cases_lt bound low) as (λ _. bound < high) [
  | inl below ↦ omega (arith, below, less)
  | inr above ↦ absurd (differs (omega (arith, under, above)))
]

pub returns-clause-written : goal.returns-clause-written
returns-clause-written c =
    let table = c.args.table.now in
    let ended = c.in_ok-ended.ended in
    let is = c.in_ok-ended.ensures.ends in
    let known = c.after_owed-known.result in
    let tree : IsCertTree table c.args.nodes ended.found c.in_ok-tree.tree ended.bound ended.known.distortion =
    cert_tree table c.args.nodes ended c.in_ok-tree.tree is (c.in_ok-tree.ensures is.ids is.order is.once) in
    let cert = cert_of ended.bound known.distortion known.choice c.in_ok-tree.tree in
    writable table c.args.nodes ended.found cert ended.known.distortion c.requires.valid c.requires.some_nodes c.requires.nodes refl tree c.after_owed-known.ensures.known.fits

pub returns-clause-root : goal.returns-clause-root
returns-clause-root c =
    let table = c.args.table.now in
    let ended = c.in_ok-ended.ended in
    let is = c.in_ok-ended.ensures.ends in
    let known = c.after_owed-known.result in
    let tree : IsCertTree table c.args.nodes ended.found c.in_ok-tree.tree ended.bound ended.known.distortion =
    cert_tree table c.args.nodes ended c.in_ok-tree.tree is (c.in_ok-tree.ensures is.ids is.order is.once) in
    let cert = cert_of ended.bound known.distortion known.choice c.in_ok-tree.tree in
    tree.shows

pub returns-clause-faultless : goal.returns-clause-faultless
returns-clause-faultless c =
    let table = c.args.table.now in
    let ended = c.in_ok-ended.ended in
    let is = c.in_ok-ended.ensures.ends in
    let known = c.after_owed-known.result in
    let tree : IsCertTree table c.args.nodes ended.found c.in_ok-tree.tree ended.bound ended.known.distortion =
    cert_tree table c.args.nodes ended c.in_ok-tree.tree is (c.in_ok-tree.ensures is.ids is.order is.once) in
    let cert = cert_of ended.bound known.distortion known.choice c.in_ok-tree.tree in
    let kept = c.after_owed-known.ensures.known in
    let head : IsHeadRight table cert = record { fits = kept.fits; scheduled = kept.scheduled; distortion = kept.distortion } in
    faultless table cert head tree.shows

pub returns-clause-bound : goal.returns-clause-bound
returns-clause-bound c =
    let table = c.args.table.now in
    let ended = c.in_ok-ended.ended in
    let is = c.in_ok-ended.ensures.ends in
    let known = c.after_owed-known.result in
    let tree : IsCertTree table c.args.nodes ended.found c.in_ok-tree.tree ended.bound ended.known.distortion =
    cert_tree table c.args.nodes ended c.in_ok-tree.tree is (c.in_ok-tree.ensures is.ids is.order is.once) in
    let cert = cert_of ended.bound known.distortion known.choice c.in_ok-tree.tree in
    faultless_bound table cert c.requires.valid (returns-clause-faultless c)

pub returns-clause-few_nodes : goal.returns-clause-few_nodes
returns-clause-few_nodes c =
    let table = c.args.table.now in
    let ended = c.in_ok-ended.ended in
    let is = c.in_ok-ended.ensures.ends in
    let known = c.after_owed-known.result in
    let tree : IsCertTree table c.args.nodes ended.found c.in_ok-tree.tree ended.bound ended.known.distortion =
    cert_tree table c.args.nodes ended c.in_ok-tree.tree is (c.in_ok-tree.ensures is.ids is.order is.once) in
    let cert = cert_of ended.bound known.distortion known.choice c.in_ok-tree.tree in
    tree.few

pub returns-clause-branches : goal.returns-clause-branches
returns-clause-branches c =
    let table = c.args.table.now in
    let ended = c.in_ok-ended.ended in
    let is = c.in_ok-ended.ensures.ends in
    let known = c.after_owed-known.result in
    let tree : IsCertTree table c.args.nodes ended.found c.in_ok-tree.tree ended.bound ended.known.distortion =
    cert_tree table c.args.nodes ended c.in_ok-tree.tree is (c.in_ok-tree.ensures is.ids is.order is.once) in
    let cert = cert_of ended.bound known.distortion known.choice c.in_ok-tree.tree in
    branches_in table c.args.nodes ended.found c.in_ok-tree.tree ended.bound ended.known.distortion tree

pub returns-clause-spent : goal.returns-clause-spent
returns-clause-spent c =
    let table = c.args.table.now in
    let ended = c.in_ok-ended.ended in
    let is = c.in_ok-ended.ensures.ends in
    let known = c.after_owed-known.result in
    let tree : IsCertTree table c.args.nodes ended.found c.in_ok-tree.tree ended.bound ended.known.distortion =
    cert_tree table c.args.nodes ended c.in_ok-tree.tree is (c.in_ok-tree.ensures is.ids is.order is.once) in
    let cert = cert_of ended.bound known.distortion known.choice c.in_ok-tree.tree in
    let kept = c.after_owed-known.ensures.known in
    let under = returns-clause-bound c known.choice kept.fits kept.scheduled in
    λ budget.
    let differs = c.ended_by-search.ensures.budget budget in
    let less : ended.bound < ended.known.distortion = strictly ended.bound known.distortion ended.known.distortion (omega (arith, under, kept.distortion)) differs
    (omega (arith, c.after_owed-known.ensures.kept, c.with_found-owing.ensures.least)) in
    tree.spent less cert refl refl (as_many_chosen table known.choice kept.fits)

pub returns-clause-enough : goal.returns-clause-enough
returns-clause-enough c =
    let known = c.after_owed-known.result in
    let cert = cert_of c.in_ok-ended.ended.bound known.distortion known.choice c.in_ok-tree.tree in
    always_optimal c.args.table.now c.args.nodes cert c.ended_by-search.result (returns-clause-root c) (returns-clause-branches c) (returns-clause-spent c)

pub returns-clause-tried : goal.returns-clause-tried
returns-clause-tried c =
    let table = c.args.table.now in
    let ended = c.in_ok-ended.ended in
    let is = c.in_ok-ended.ensures.ends in
    let known = c.after_owed-known.result in
    let tree : IsCertTree table c.args.nodes ended.found c.in_ok-tree.tree ended.bound ended.known.distortion =
    cert_tree table c.args.nodes ended c.in_ok-tree.tree is (c.in_ok-tree.ensures is.ids is.order is.once) in
    let cert = cert_of ended.bound known.distortion known.choice c.in_ok-tree.tree in
    let windows = c.in_ok-windows.windows.time.items in
    let root = bound_of_value (value_of_windows table (unfixed table) windows) in
    let time : root ≤ ended.bound = omega (arith, tree.time, ap (λ (f : Found). bound_of_value (value_of_windows table (unfixed table) f.time.items)) c.in_ok-ended.ensures.found) in
    let least = tried_bounds table windows root
    (subst (λ (f : List (Option ℕ)). BeatEachTried table f (unit_dues table) windows) c.in_ok-fixed.ensures.value c.in_ok-windows.ensures.tried) refl in
    tried_in table root ended.bound least time

pub returns-clause-pairs : goal.returns-clause-pairs
returns-clause-pairs c =
    let table = c.args.table.now in
    let ended = c.in_ok-ended.ended in
    let is = c.in_ok-ended.ensures.ends in
    let known = c.after_owed-known.result in
    let tree : IsCertTree table c.args.nodes ended.found c.in_ok-tree.tree ended.bound ended.known.distortion =
    cert_tree table c.args.nodes ended c.in_ok-tree.tree is (c.in_ok-tree.ensures is.ids is.order is.once) in
    let cert = cert_of ended.bound known.distortion known.choice c.in_ok-tree.tree in
    let windows = c.in_ok-windows.windows.time.items in
    let root = bound_of_value (value_of_windows table (unfixed table) windows) in
    let time : root ≤ ended.bound = omega (arith, tree.time, ap (λ (f : Found). bound_of_value (value_of_windows table (unfixed table) f.time.items)) c.in_ok-ended.ensures.found) in
    let least = pair_bounds table windows root (subst (λ (f : List (Option ℕ)). BeatEachPair table f windows) c.in_ok-fixed.ensures.value c.in_ok-windows.ensures.pairs) refl in
    pairs_in table root ended.bound least time

pub with_found-owing-requires : goal.with_found-owing-requires
with_found-owing-requires c = omega arith

pub after_owed-known-requires-clause-owing : goal.after_owed-known-requires-clause-owing
after_owed-known-requires-clause-owing c =
    let owing = c.in_ok-owing.ensures.owing in
    c.with_found-owing.ensures.owing c.args.table.now c.debt_of-debt.result owing c.in_ok-ended.ensures.ends.known
    (pays_unspent c.debt_of-debt.result c.in_ok-owing.owing owing.pays)

pub returns-clause-no_worse : goal.returns-clause-no_worse
returns-clause-no_worse c = λ premise is scheduled.
    omega (
      arith,
      c.in_ok-premise.ensures.no_worse premise is scheduled,
      c.in_ok-owing.ensures.owing.kept,
      c.debt_of-debt.ensures.start,
      ap (λ (k : Known). k.distortion) c.in_ok-best.ensures,
      c.in_ok-ended.ensures.kept,
      c.with_found-owing.ensures.least,
      c.after_owed-known.ensures.kept,
    )

pub returns-clause-alone : goal.returns-clause-alone
returns-clause-alone c =
    subst (λ (n : ℕ). EndsBestAlone c.args.table.now n c.after_owed-known.result.choice) c.debt_of-debt.ensures.evaluations c.after_owed-known.ensures.alone

pub returns-clause-rounds : goal.returns-clause-rounds
returns-clause-rounds c =
    let table = c.args.table.now in
    let known = c.after_owed-known.result in
    let over = subst (λ (n : ℕ). GainsOver table n known.choice known.distortion c.debt_of-debt.result.start) c.debt_of-debt.ensures.evaluations
    c.after_owed-known.ensures.rounds in
    gains table c.args.evaluations known.choice known.distortion c.debt_of-debt.result.start over
    (λ premise is scheduled. omega (arith, c.in_ok-premise.ensures.no_worse premise is scheduled, c.debt_of-debt.ensures.start))

pub returns-clause-reached : goal.returns-clause-reached
returns-clause-reached c =
    let table = c.args.table.now in
    let ended = c.in_ok-ended.ended in
    let is = c.in_ok-ended.ensures.ends in
    let tree : IsCertTree table c.args.nodes ended.found c.in_ok-tree.tree ended.bound ended.known.distortion =
    cert_tree table c.args.nodes ended c.in_ok-tree.tree is (c.in_ok-tree.ensures is.ids is.order is.once) in
    record { time = tree.time; buffers = tree.buffers }
