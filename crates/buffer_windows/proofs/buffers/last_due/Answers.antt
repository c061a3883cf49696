use Rattle.std.proofs.Common.{◌≡◌, ◌-◌, ◌<◌, ◌≤◌, ℕ, List, length, get_or, leb, leb-true, leb-false, sym, ap, ◌∙◌, arith, rules}
use Rattle.std.proofs.lemmas.List.Sorted.{IsPartitionPoint-from_clause, IsPartitionedBy-leb}
use Rattle.version_table.specs.declared.table.Unit.{Unit as CodedUnit}
use Rattle.version_table.specs.Table.{IsValidUnit}
use Rattle.buffer_windows.proofs.LastDue.{dues_stay, last_due-is, last_due-none}
use Rattle.buffer_windows.proofs.buffers.last_due.Goals as goal

pub returns-then-behind-eq0 : goal.returns-then-behind-eq0
returns-then-behind-eq0 c =
    let units : List CodedUnit = c.as_slice-units.result.now in
    let same : c.as_slice-units.result.now ≡ c.args.program.now.units = c.as_slice-units.ensures in
    let stay : (i j : ℕ) (d : CodedUnit) → i ≤ j → j < length c.as_slice-units.result.now → (get_or c.as_slice-units.result.now i d).due ≤ (get_or c.as_slice-units.result.now j d).due =
    rw same (dues_stay c.args.program.now.units c.requires.dues) in
    let parted = IsPartitionedBy-leb (λ (u : CodedUnit). u.due) _ c.args.window.now.due stay in
    let point = IsPartitionPoint-from_clause (λ u. leb u.due c.args.window.now.due) _ _ c.partition_point-behind.ensures.partitioned parted (λ a r q k. search rules) in
    let later : (k : ℕ) (d : CodedUnit) → 0 ≤ k → k < length c.args.program.now.units → c.args.window.now.due < (get_or c.args.program.now.units k d).due =
    rw (sym same) (λ k d from within. leb-false _ _ (point.1 k d (omega arith) within)) in
    record { value = sym (last_due-none c.args.window.now c.args.program.now later); small = omega arith }

pub returns-else-behind-eq0 : goal.returns-else-behind-eq0
returns-else-behind-eq0 c =
    let same : c.as_slice-units.result.now ≡ c.args.program.now.units = c.as_slice-units.ensures in
    let n = c.partition_point-behind.result in
    let stay : (i j : ℕ) (d : CodedUnit) → i ≤ j → j < length c.as_slice-units.result.now → (get_or c.as_slice-units.result.now i d).due ≤ (get_or c.as_slice-units.result.now j d).due =
    rw same (dues_stay c.args.program.now.units c.requires.dues) in
    let parted = IsPartitionedBy-leb (λ (u : CodedUnit). u.due) _ c.args.window.now.due stay in
    let point = IsPartitionPoint-from_clause (λ u. leb u.due c.args.window.now.due) _ _ c.partition_point-behind.ensures.partitioned parted (λ a r q k. search rules) in
    let by : (k : ℕ) (d : CodedUnit) → k < c.partition_point-behind.result → k < length c.args.program.now.units
    → (get_or c.args.program.now.units k d).due ≤ c.args.window.now.due =
    rw (sym same) (λ k d below within. leb-true _ _ (point.0 k d (omega arith) below)) in
    let later : (k : ℕ) (d : CodedUnit) → c.partition_point-behind.result ≤ k → k < length c.args.program.now.units
    → c.args.window.now.due < (get_or c.args.program.now.units k d).due =
    rw (sym same) (λ k d from within. leb-false _ _ (point.1 k d from within)) in
    let fewer : n ≤ length c.args.program.now.units = rw (sym same) c.partition_point-behind.ensures.bound in
    let own : (get_or c.as_slice-units.result.now (n - 1) c.index-units-behind.result).due ≡ (get_or c.args.program.now.units (n - 1) c.index-units-behind.result).due =
    ap (λ (units : List CodedUnit). (get_or units (n - 1) c.index-units-behind.result).due) same in
    let valid : IsValidUnit c.args.slot (get_or c.args.program.now.units (n - 1) c.index-units-behind.result) =
    c.requires.units (n - 1) c.index-units-behind.result (omega arith) in
    record {
      value = own ∙ sym (last_due-is c.args.window.now c.args.program.now n c.index-units-behind.result c.requires.dues (omega arith) fewer by later);
      small = omega (arith, own, valid.due);
    }
