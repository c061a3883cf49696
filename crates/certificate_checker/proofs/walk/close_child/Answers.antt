use Rattle.std.proofs.Common.{◌≡◌, ℕ, ◌+◌, ◌<◌, ◌≤◌, [], ◌∷◌, ◌++◌, reverse, Option, sym, ap, subst, ◌∙◌, arith}
use Rattle.certificate_checker.specs.declared.path.OpenBranch.{OpenBranch}
use Rattle.certificate_checker.specs.declared.walk.Closing.TheVariants.{Shown}
use Rattle.certificate_checker.specs.Shown.{choice_left, fix, lesser, version_left, versions_of}
use Rattle.certificate_checker.specs.Private.Paths.{IsClosing, unfix, version_in}
use Rattle.certificate_checker.proofs.Steps.{innermost, last_closing, last_path, next_closing, next_path}
use Rattle.certificate_checker.proofs.Told.{in_hand, told_by, told_innermost, told_without, units_open}
use Rattle.certificate_checker.proofs.Units.{few_versions_of}
use Rattle.certificate_checker.proofs.walk.close_child.Goals as goal

pub overflow_add-next : goal.overflow_add-next
overflow_add-next c =
    let branch = c.in-Some.branch in
    let inner = innermost c.args.table.now c.args.path.now c.pop.new.self.items branch c.requires.path c.in-Some.ensures.items in
    let version : c.unwrap_or-next.result ≡ version_in c.args.path.now.fixed.items branch.unit = c.unwrap_or-next.ensures ∙ ap version_left c.version.ensures in
    omega (arith, version, inner.some, few_versions_of c.args.table.now branch.unit c.requires.valid)

pub returns-then-from-versions_of-clause-path : goal.returns-then-from-versions_of-clause-path
returns-then-from-versions_of-clause-path c =
    let branch = c.in-Some.branch in
    let kept : OpenBranch = record { unit = branch.unit; least = c.lesser-least.result } in
    let some : c.unwrap_or-next.result + 1 < versions_of c.args.table.now branch.unit = omega (arith, c.if-from-versions_of.true, c.from.ensures, c.versions_of.ensures) in
    next_path c.args.table.now c.args.path.now c.keep.new.self c.pop.new.self.items branch c.lesser-least.result (c.unwrap_or-next.result + 1) c.requires.path c.in-Some.ensures.items some
    (c.keep.ensures.fixed ∙ c.fix.ensures.fixed) (c.keep.ensures.choice ∙ c.fix.ensures.choice ∙ ap choice_left (sym c.keep.ensures.fixed))
    (c.keep.ensures.branches ∙ ap (λ v. v.items ++ kept ∷ []) c.fix.ensures.branches) (
      omega (arith, c.fix.ensures.room.0, c.keep.ensures.room.0),
      omega (arith, c.fix.ensures.room.1, c.keep.ensures.room.1),
      omega (arith, c.pop.ensures.capacity, c.fix.ensures.room.2, c.keep.ensures.room.2),
    )

pub returns-then-from-versions_of-clause-next : goal.returns-then-from-versions_of-clause-next
returns-then-from-versions_of-clause-next c =
    let branch = c.in-Some.branch in
    let kept : OpenBranch = record { unit = branch.unit; least = c.lesser-least.result } in
    let some : c.unwrap_or-next.result + 1 < versions_of c.args.table.now branch.unit = omega (arith, c.if-from-versions_of.true, c.from.ensures, c.versions_of.ensures) in
    let version : c.unwrap_or-next.result ≡ version_in c.args.path.now.fixed.items branch.unit = c.unwrap_or-next.ensures ∙ ap version_left c.version.ensures in
    let least : kept ≡ record { unit = branch.unit; least = lesser branch.least c.args.bound } = ap (λ (x : Option ℕ). record { unit = branch.unit; least = x }) c.lesser-least.ensures in
    next_closing c.args.table.now c.args.path.now c.keep.new.self c.pop.new.self.items branch c.args.bound (c.unwrap_or-next.result + 1) c.requires.path c.in-Some.ensures.items
    (ap (λ (n : ℕ). n + 1) version) some (c.keep.ensures.fixed ∙ c.fix.ensures.fixed)
    (c.keep.ensures.branches ∙ ap (λ v. v.items ++ kept ∷ []) c.fix.ensures.branches ∙ ap (λ (b : OpenBranch). c.pop.new.self.items ++ b ∷ []) least)

pub returns-clause-path : goal.returns-clause-path
returns-clause-path c =
    last_path c.args.table.now c.args.path.now c.unfix.new.self c.pop.new.self.items c.in-Some.branch c.requires.path c.in-Some.ensures.items c.unfix.ensures.fixed c.unfix.ensures.choice
    (ap (λ v. v.items) c.unfix.ensures.branches) (c.unfix.ensures.room.0, c.unfix.ensures.room.1, omega (arith, c.pop.ensures.capacity, c.unfix.ensures.room.2))

pub returns-clause-next : goal.returns-clause-next
returns-clause-next c =
    let branch = c.in-Some.branch in
    let version : c.unwrap_or-next.result ≡ version_in c.args.path.now.fixed.items branch.unit = c.unwrap_or-next.ensures ∙ ap version_left c.version.ensures in
    let all : versions_of c.args.table.now branch.unit ≤ version_in c.args.path.now.fixed.items branch.unit + 1 =
    omega (arith, c.if-from-versions_of.false, c.from.ensures, c.versions_of.ensures, version) in
    subst (λ (x : Option ℕ). IsClosing c.args.table.now c.args.path.now c.unfix.new.self c.args.bound (Shown x)) (sym c.lesser-least.ensures)
    (last_closing c.args.table.now c.args.path.now c.unfix.new.self c.pop.new.self.items branch c.args.bound c.requires.path c.in-Some.ensures.items all c.unfix.ensures.fixed
    (ap (λ v. v.items) c.unfix.ensures.branches))

pub fix_next-requires-clause-unit : goal.fix_next-requires-clause-unit
fix_next-requires-clause-unit c = (in_hand c.args.table.now c.args.path.now c.pop.new.self.items c.in-Some.branch c.requires.path c.in-Some.ensures.items).number

pub fix_next-requires-clause-version : goal.fix_next-requires-clause-version
fix_next-requires-clause-version c = omega (arith, c.if-from-versions_of.true, c.from.ensures, c.versions_of.ensures)

pub fix_next-requires-clause-tally : goal.fix_next-requires-clause-tally
fix_next-requires-clause-tally c = (
  c.args.path.now.fixed.items,
  units_open (reverse c.pop.new.self.items),
  told_innermost c.args.table.now c.args.path.now c.pop.new.self.items c.in-Some.branch c.args.tally.now c.requires.tally c.in-Some.ensures.items,
)

pub returns-then-from-versions_of-clause-tally : goal.returns-then-from-versions_of-clause-tally
returns-then-from-versions_of-clause-tally c =
    let branch = c.in-Some.branch in
    let outer = c.pop.new.self.items in
    let kept : OpenBranch = record { unit = branch.unit; least = c.lesser-least.result } in
    let hand = in_hand c.args.table.now c.args.path.now outer branch c.requires.path c.in-Some.ensures.items in
    let told = told_innermost c.args.table.now c.args.path.now outer branch c.args.tally.now c.requires.tally c.in-Some.ensures.items in
    told_by c.args.table.now c.keep.new.self (fix branch.unit (c.unwrap_or-next.result + 1) c.args.path.now.fixed.items) outer kept c.fix_next.new.self
    (c.fix_next.ensures.tally c.args.path.now.fixed.items (units_open (reverse outer)) told hand.within hand.some) (c.keep.ensures.fixed ∙ c.fix.ensures.fixed)
    (c.keep.ensures.branches ∙ ap (λ v. v.items ++ kept ∷ []) c.fix.ensures.branches)

pub set_free-requires-clause-unit : goal.set_free-requires-clause-unit
set_free-requires-clause-unit c = (in_hand c.args.table.now c.args.path.now c.pop.new.self.items c.in-Some.branch c.requires.path c.in-Some.ensures.items).number

pub set_free-requires-clause-tally : goal.set_free-requires-clause-tally
set_free-requires-clause-tally c = (
  c.args.path.now.fixed.items,
  units_open (reverse c.pop.new.self.items),
  told_innermost c.args.table.now c.args.path.now c.pop.new.self.items c.in-Some.branch c.args.tally.now c.requires.tally c.in-Some.ensures.items,
)

pub returns-clause-tally : goal.returns-clause-tally
returns-clause-tally c =
    let branch = c.in-Some.branch in
    let outer = c.pop.new.self.items in
    let hand = in_hand c.args.table.now c.args.path.now outer branch c.requires.path c.in-Some.ensures.items in
    let told = told_innermost c.args.table.now c.args.path.now outer branch c.args.tally.now c.requires.tally c.in-Some.ensures.items in
    told_without c.args.table.now c.unfix.new.self (unfix branch.unit c.args.path.now.fixed.items) outer c.set_free.new.self
    (c.set_free.ensures.tally c.args.path.now.fixed.items (units_open (reverse outer)) told hand.within hand.some) c.unfix.ensures.fixed (ap (λ v. v.items) c.unfix.ensures.branches)
