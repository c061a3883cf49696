use Rattle.std.proofs.Common.{◌≡◌, ◌≢◌, ◌+◌, ℕ, List, length, get_or, ap, subst, arith}
use Rattle.version_table.specs.declared.table.Unit.{Unit as CodedUnit}
use Rattle.version_table.specs.Choice.{version_at}
use Rattle.certificate_checker.specs.Shown.{versions_of}
use Rattle.branch_plan.specs.declared.known.Known.{Known}
use Rattle.branch_plan.specs.declared.changes.Change.TheVariants.{Helps}
use Rattle.branch_plan.specs.Private.Changes.{FailsBelow, IsChangeOf, changes_before}
use Rattle.branch_plan.proofs.Changing.{choice_long, version_there}
use Rattle.branch_plan.proofs.Counting.{all_runs, before_more, one_more_run}
use Rattle.branch_plan.proofs.changes.change_unit.Goals as goal

pub bounds-as_slice-place : goal.bounds-as_slice-place
bounds-as_slice-place c = omega (arith, c.requires.place, choice_long c.args.table.now c.args.known.choice c.requires.known.fits, ap length c.as_slice.ensures)

pub distortion_at-most-requires : goal.distortion_at-most-requires
distortion_at-most-requires c =
    let there = version_there c.args.table.now c.args.known.choice c.args.place c.requires.known.fits c.requires.place in
    let version = ap (λ (xs : List ℕ). get_or xs c.args.place 0) c.as_slice.ensures in
    let unit = ap (λ (u : CodedUnit). length u.versions.items) c.unit_at-unit.ensures in
    omega (arith, there, version, unit)

pub returns-then-rest-eq0-clause-tried : goal.returns-then-rest-eq0-clause-tried
returns-then-rest-eq0-clause-tried c =
    let table = c.args.table.now in
    let unit = c.unit_at-unit.result.now in
    let chosen = get_or c.as_slice.result.now c.args.place 0 in
    let there = version_there table c.args.known.choice c.args.place c.requires.known.fits c.requires.place in
    let version = ap (λ (xs : List ℕ). get_or xs c.args.place 0) c.as_slice.ensures in
    let count = ap (λ (u : CodedUnit). length u.versions.items) c.unit_at-unit.ensures in
    let other : c.loop-k.k ≢ chosen =
    (λ same. omega (arith, ap (λ (n : ℕ). (version_at unit n).distortion) same, c.distortion_at.ensures, c.distortion_at-most.ensures, c.if-distortion_at-most.true)) in
    let more = one_more_run c.args.left c.loop-k.rest c.loop-k.k chosen (versions_of table c.args.place) (changes_before table c.args.place) (changes_before table (c.args.place + 1))
    c.loop-k.invariant.used other (omega (arith, c.loop-k-test.true, c.len-k-end.ensures.value, count)) (omega (arith, there, version))
    (before_more table c.args.place c.requires.place) in
    (c.loop-k.invariant.same, omega (arith, more, c.if-rest-eq0.true))

pub returns-in-Helps-clause-tried : goal.returns-in-Helps-clause-tried
returns-in-Helps-clause-tried c =
    let table = c.args.table.now in
    let unit = c.unit_at-unit.result.now in
    let chosen = get_or c.as_slice.result.now c.args.place 0 in
    let there = version_there table c.args.known.choice c.args.place c.requires.known.fits c.requires.place in
    let version = ap (λ (xs : List ℕ). get_or xs c.args.place 0) c.as_slice.ensures in
    let count = ap (λ (u : CodedUnit). length u.versions.items) c.unit_at-unit.ensures in
    let other : c.loop-k.k ≢ chosen =
    (λ same. omega (arith, ap (λ (n : ℕ). (version_at unit n).distortion) same, c.distortion_at.ensures, c.distortion_at-most.ensures, c.if-distortion_at-most.true)) in
    let more = one_more_run c.args.left c.loop-k.rest c.loop-k.k chosen (versions_of table c.args.place) (changes_before table c.args.place) (changes_before table (c.args.place + 1))
    c.loop-k.invariant.used other (omega (arith, c.loop-k-test.true, c.len-k-end.ensures.value, count)) (omega (arith, there, version))
    (before_more table c.args.place c.requires.place) in
    let change = subst (λ (known : Known). IsChangeOf table known c.args.place c.loop-k.k (Helps c.in-Helps.better)) c.loop-k.invariant.same c.in-Helps.ensures.change in (
      change.0,
      change.1,
      change.2,
      omega (arith, c.loop-k.invariant.rest, c.if-rest-eq0.false),
      c.requires.place,
      omega (arith, more, c.if-rest-eq0.false),
    )

pub returns-clause-tried : goal.returns-clause-tried
returns-clause-tried c =
    let table = c.args.table.now in
    let choice = c.args.known.choice in
    let chosen = get_or c.as_slice.result.now c.args.place 0 in
    let there = version_there table choice c.args.place c.requires.known.fits c.requires.place in
    let version = ap (λ (xs : List ℕ). get_or xs c.args.place 0) c.as_slice.ensures in
    let count = ap (λ (u : CodedUnit). length u.versions.items) c.unit_at-unit.ensures in
    let all : c.loop-k.k ≡ versions_of table c.args.place = omega (arith, c.loop-k-test.false, c.loop-k.auto.k-end, c.len-k-end.ensures.value, count) in
    let used = all_runs c.args.left c.loop-k.rest c.loop-k.k chosen (versions_of table c.args.place) (changes_before table c.args.place) (changes_before table (c.args.place + 1))
    c.loop-k.invariant.used all (omega (arith, there, version)) (before_more table c.args.place c.requires.place) in
    let fails : FailsBelow table choice c.args.place (versions_of table c.args.place) = subst (λ (n : ℕ). FailsBelow table choice c.args.place n) all c.loop-k.invariant.fails in (
      c.loop-k.invariant.same,
      c.loop-k.invariant.rest,
      used,
      λ place low high.
          let here : c.args.place ≡ place = omega (arith, low, high) in
          subst (λ (p : ℕ). FailsBelow table choice p (versions_of table p)) here fails,
    )
