use Rattle.std.proofs.Common.{◌≡◌, ℕ, ◌+◌, ◌<◌, List, Option, Some, length, refl, sym, ap, subst, ◌∙◌, arith}
use Rattle.std.specs.BinaryHeap.{heap_items}
use Rattle.std.proofs.lemmas.List.{length-set, set-set}
use Rattle.version_table.specs.declared.table.Unit.{Unit as CodedUnit}
use Rattle.version_table.specs.Table.{units_of}
use Rattle.dual_bounds.specs.Fixed.{FixesVersions, NamesVersion}
use Rattle.certificate_checker.specs.Shown.{fix, versions_of}
use Rattle.certificate_checker.proofs.Units.{all_zip_size, fixes_one}
use Rattle.branch_plan.specs.declared.known.Known.{Known}
use Rattle.branch_plan.specs.Private.Branching.{AreChildren}
use Rattle.branch_plan.specs.Private.Known.{IsKnown}
use Rattle.branch_plan.specs.Private.Valued.{AreKept, AreValuedBelow}
use Rattle.branch_plan.proofs.Reaching.{reached_child}
use Rattle.branch_plan.proofs.Stepping.{child_step}
use Rattle.branch_plan.proofs.Valued.{one_more_value, values_own}
use Rattle.branch_plan.proofs.children.children_of.Goals as goal

pub with_version-fixed-requires : goal.with_version-fixed-requires
with_version-fixed-requires c =
    let size = all_zip_size NamesVersion (units_of c.args.table.now) c.args.place.fixed c.requires.fixed in
    omega (arith, size, c.loop-k.invariant.long, c.requires.free.0)

pub windows_for-requires-clause-fixed : goal.windows_for-requires-clause-fixed
windows_for-requires-clause-fixed c =
    let table = c.args.table.now in
    let place = c.args.place in
    let k = c.loop-k.k in
    let size = all_zip_size NamesVersion (units_of table) place.fixed c.requires.fixed in
    let count = ap (λ (u : CodedUnit). length u.versions.items) c.unit_at.ensures in
    let low : k < versions_of table place.unit = omega (arith, c.loop-k-test.true, c.len-k-end.ensures.value, count) in
    let now : c.with_version-fixed.result ≡ fix place.unit k place.fixed = c.with_version-fixed.ensures ∙ c.loop-k.invariant.fixed k in
    let fixes : FixesVersions table c.with_version-fixed.result =
    subst (λ (f : List (Option ℕ)). FixesVersions table f) (sym now) (fixes_one table place.fixed place.unit k c.requires.fixed low) in
    fixes

pub with_child-requires-clause-fixed : goal.with_child-requires-clause-fixed
with_child-requires-clause-fixed c =
    let table = c.args.table.now in
    let place = c.args.place in
    let k = c.loop-k.k in
    let size = all_zip_size NamesVersion (units_of table) place.fixed c.requires.fixed in
    let count = ap (λ (u : CodedUnit). length u.versions.items) c.unit_at.ensures in
    let low : k < versions_of table place.unit = omega (arith, c.loop-k-test.true, c.len-k-end.ensures.value, count) in
    let now : c.with_version-fixed.result ≡ fix place.unit k place.fixed = c.with_version-fixed.ensures ∙ c.loop-k.invariant.fixed k in
    let fixes : FixesVersions table c.with_version-fixed.result =
    subst (λ (f : List (Option ℕ)). FixesVersions table f) (sym now) (fixes_one table place.fixed place.unit k c.requires.fixed low) in
    fixes

pub with_child-requires-clause-few_windows : goal.with_child-requires-clause-few_windows
with_child-requires-clause-few_windows c =
    c.in_ok-own.ensures.few c.args.asked.nodes c.requires.few_windows c.requires.relaxation

pub with_child-requires-clause-floor : goal.with_child-requires-clause-floor
with_child-requires-clause-floor c =
    let table = c.args.table.now in
    let place = c.args.place in
    let k = c.loop-k.k in
    let count = ap (λ (u : CodedUnit). length u.versions.items) c.unit_at.ensures in
    let low : k < versions_of table place.unit = omega (arith, c.loop-k-test.true, c.len-k-end.ensures.value, count) in
    let now : c.with_version-fixed.result ≡ fix place.unit k place.fixed = c.with_version-fixed.ensures ∙ c.loop-k.invariant.fixed k in
    let fixes : FixesVersions table c.with_version-fixed.result =
    subst (λ (f : List (Option ℕ)). FixesVersions table f) (sym now) (fixes_one table place.fixed place.unit k c.requires.fixed low) in
    reached_child table place.fixed c.with_version-fixed.result place.unit k c.args.windows.now.items c.in_ok-own.own.items c.args.buffers.now c.args.asked.floor
    c.requires.free low now fixes c.in_ok-own.ensures.value c.requires.floor

pub with_child-requires-clause-values : goal.with_child-requires-clause-values
with_child-requires-clause-values c =
    let table = c.args.table.now in
    let place = c.args.place in
    let size = all_zip_size NamesVersion (units_of table) place.fixed c.requires.fixed in
    let now : c.with_version-fixed.result ≡ fix place.unit c.loop-k.k place.fixed = c.with_version-fixed.ensures ∙ c.loop-k.invariant.fixed c.loop-k.k in
    let more = c.values_with-more.ensures place.fixed c.requires.free.1 size c.requires.values in
    values_own table c.with_version-fixed.result c.args.windows.now.items c.in_ok-own.own.items c.args.buffers.now c.values_with-more.result c.values_for-own_values.result c.is_relaxed-relaxed.result
    c.in_ok-own.ensures.same c.values_for-own_values.ensures.seen c.values_for-own_values.ensures.time c.values_for-own_values.ensures.own
    (subst (λ (f : List (Option ℕ)). AreKept table f c.args.windows.now.items c.args.buffers.now c.values_with-more.result) (sym now) more)

pub values_with-more-requires-clause-version : goal.values_with-more-requires-clause-version
values_with-more-requires-clause-version c =
    let count = ap (λ (u : CodedUnit). length u.versions.items) c.unit_at.ensures in
    omega (arith, c.loop-k-test.true, c.len-k-end.ensures.value, count)

pub loop-k-preserved : goal.loop-k-preserved
loop-k-preserved c =
    let table = c.args.table.now in
    let place = c.args.place in
    let k = c.loop-k.k in
    let size = all_zip_size NamesVersion (units_of table) place.fixed c.requires.fixed in
    let count = ap (λ (u : CodedUnit). length u.versions.items) c.unit_at.ensures in
    let low : k < versions_of table place.unit = omega (arith, c.loop-k-test.true, c.len-k-end.ensures.value, count) in
    let now : c.with_version-fixed.result ≡ fix place.unit k place.fixed = c.with_version-fixed.ensures ∙ c.loop-k.invariant.fixed k in
    let fixes : FixesVersions table c.with_version-fixed.result =
    subst (λ (f : List (Option ℕ)). FixesVersions table f) (sym now) (fixes_one table place.fixed place.unit k c.requires.fixed low) in
    let child = c.in_ok-children.ensures.child in
    record {
      run = c.with_child.ensures.run;
      known = subst (λ (n : Known). IsKnown table n) (sym child.known) child.is.known;
      kept = omega (arith, child.is.kept, c.loop-k.invariant.kept, ap (λ (n : Known). n.distortion) child.known);
      order = c.in_ok-children.ensures.order;
      long = ap length now ∙ length-set place.fixed place.unit (Some k);
      fixed = λ j. ap (fix place.unit j) now ∙ set-set place.fixed place.unit (Some k) (Some j);
      children = child_step table c.args.buffers.now c.args.asked.nodes c.args.asked.floor place.fixed c.with_version-fixed.result place.unit c.args.first k (c.args.first + k)
          (heap_items c.args.start.leaves) c.loop-k.children c.in_ok-children.children c.loop-k.invariant.children refl now child;
      valued = one_more_value table c.args.buffers.now place.fixed c.with_version-fixed.result place.unit k c.loop-k.children.nodes.items c.in_ok-children.children.nodes.items c.loop-k.children.values.items
          c.in_ok-children.children.values.items child.leaf.node child.leaf.values c.loop-k.invariant.children.count c.loop-k.invariant.valued now child.nodes child.values child.valued;
    }

pub returns-clause-values : goal.returns-clause-values
returns-clause-values c =
    let table = c.args.table.now in
    let count = ap (λ (u : CodedUnit). length u.versions.items) c.unit_at.ensures in
    let all : c.loop-k.k ≡ versions_of table c.args.place.unit = omega (arith, c.loop-k-test.false, c.loop-k.auto.k-end, c.len-k-end.ensures.value, count) in
    subst (λ (n : ℕ). AreValuedBelow table c.args.buffers.now c.args.place.fixed c.args.place.unit n c.loop-k.children.nodes.items c.loop-k.children.values.items) all c.loop-k.invariant.valued

pub returns-clause-children : goal.returns-clause-children
returns-clause-children c =
    let table = c.args.table.now in
    let count = ap (λ (u : CodedUnit). length u.versions.items) c.unit_at.ensures in
    let all : c.loop-k.k ≡ versions_of table c.args.place.unit = omega (arith, c.loop-k-test.false, c.loop-k.auto.k-end, c.len-k-end.ensures.value, count) in
    subst (λ (n : ℕ). AreChildren table c.args.asked.nodes c.args.asked.floor c.args.place.fixed c.args.place.unit c.args.first n c.loop-k.children.nodes.items (heap_items c.args.start.leaves)
    (heap_items c.loop-k.children.leaves) c.loop-k.children.known.distortion) all c.loop-k.invariant.children
