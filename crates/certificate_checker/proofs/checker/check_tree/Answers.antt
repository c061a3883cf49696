use Rattle.std.proofs.Common.{rules, ◌≡◌, ℕ, false, [], length, sym, subst, arith}
use Rattle.std.proofs.lemmas.Bool.{iff_false}
use Rattle.std.proofs.lemmas.Result.{err_from_is_err_and}
use Rattle.version_table.specs.Table.{units_of}
use Rattle.certificate_checker.specs.Shown.{unfixed}
use Rattle.certificate_checker.specs.Private.Paths.{HasRoomFor}
use Rattle.certificate_checker.proofs.DueOrder.{order_size}
use Rattle.certificate_checker.proofs.Told.{told_without}
use Rattle.certificate_checker.proofs.Verdicts.{bound_high, cleared_fixed, cleared_path, extra_node, fault_in_tree}
use Rattle.certificate_checker.proofs.checker.check_tree.Goals as goal

pub clear-requires : goal.clear-requires
clear-requires c =
    let order = c.args.tally.now.order in
    let size : c.len.result ≡ length (units_of c.args.table.now) = omega (arith, c.len.ensures, order.ok.0, order_size c.args.table.now order.items c.requires.tally.order) in
    subst (λ (n : ℕ). HasRoomFor n c.args.path.now) (sym size) c.requires.room

pub walk-requires-clause-path : goal.walk-requires-clause-path
walk-requires-clause-path c =
    let order = c.args.tally.now.order in
    let size : c.len.result ≡ length (units_of c.args.table.now) = omega (arith, c.len.ensures, order.ok.0, order_size c.args.table.now order.items c.requires.tally.order) in
    cleared_path c.args.table.now c.args.path.now c.clear.new.path c.len.result size c.requires.room c.clear.ensures.room c.clear.ensures.fixed c.clear.ensures.choice c.clear.ensures.branches

pub walk-requires-clause-fresh : goal.walk-requires-clause-fresh
walk-requires-clause-fresh c =
    let order = c.args.tally.now.order in
    let size : c.len.result ≡ length (units_of c.args.table.now) = omega (arith, c.len.ensures, order.ok.0, order_size c.args.table.now order.items c.requires.tally.order) in
    cleared_fixed c.args.table.now c.clear.new.path c.len.result size c.clear.ensures.fixed

pub walk-requires-clause-tally : goal.walk-requires-clause-tally
walk-requires-clause-tally c =
    told_without c.args.table.now c.clear.new.path (unfixed c.args.table.now) [] c.args.tally.now c.requires.tally (walk-requires-clause-fresh c) c.clear.ensures.branches

pub returns-in_err-tree-clause-fault : goal.returns-in_err-tree-clause-fault
returns-in_err-tree-clause-fault c =
    let p = err_from_is_err_and c.from_residual.result c.from_residual.ensures.1 in
    rw (p.1, p.2) (fault_in_tree c.args.table.now c.args.cert.now c.as_slice.result.now c.in_err-tree.field-0.0 c.as_slice.ensures c.requires.head c.in_err-tree.ensures.fault)

pub returns-then-tree-len-clause-fault : goal.returns-then-tree-len-clause-fault
returns-then-tree-len-clause-fault c =
    let tree = c.in_ok-tree.tree in
    extra_node c.args.table.now c.args.cert.now c.as_slice.result.now tree.bound tree.nodes c.as_slice.ensures c.requires.head c.in_ok-tree.ensures.shown
    (omega (arith, c.if-tree-len.true, c.len-2.ensures))

pub returns-then-not-is_at_most-clause-fault : goal.returns-then-not-is_at_most-clause-fault
returns-then-not-is_at_most-clause-fault c =
    let tree = c.in_ok-tree.tree in
    let above : c.is_at_most.result ≡ false = search rules in
    bound_high c.args.table.now c.args.cert.now c.as_slice.result.now tree.bound tree.nodes c.as_slice.ensures c.requires.head c.in_ok-tree.ensures.shown
    (omega (arith, c.if-tree-len.false, c.len-2.ensures)) (iff_false c.is_at_most.ensures above)
