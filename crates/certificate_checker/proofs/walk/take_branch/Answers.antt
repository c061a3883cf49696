use Rattle.std.proofs.Common.{◌<◌, None, length, reverse, arith}
use Rattle.version_table.specs.Table.{units_of}
use Rattle.dual_bounds.specs.Fixed.{NamesVersion}
use Rattle.bound_certificate.specs.declared.cert.Node.TheVariants.{Branch}
use Rattle.certificate_checker.specs.Faults.{IsRight}
use Rattle.certificate_checker.specs.Shown.{fix}
use Rattle.certificate_checker.proofs.Steps.{enter_path, enter_taken, room_to_enter}
use Rattle.certificate_checker.proofs.Told.{told_by, units_open}
use Rattle.certificate_checker.proofs.Units.{all_zip_size}
use Rattle.certificate_checker.proofs.walk.take_branch.Goals as goal

pub enter-requires-clause-within : goal.enter-requires-clause-within
enter-requires-clause-within c =
    let right : IsRight c.args.table.now c.args.path.now.fixed.items (Branch c.args.unit) = c.in-None.ensures c.args.table.now c.requires.path in
    omega (arith, right.0, all_zip_size NamesVersion (units_of c.args.table.now) c.args.path.now.fixed.items c.requires.path.fixes)

pub enter-requires-clause-room : goal.enter-requires-clause-room
enter-requires-clause-room c = room_to_enter c.args.table.now c.args.path.now c.args.unit c.requires.path (c.in-None.ensures c.args.table.now c.requires.path)

pub returns-in-None-clause-path : goal.returns-in-None-clause-path
returns-in-None-clause-path c =
    enter_path c.args.table.now c.args.path.now c.enter.new.self c.args.unit c.requires.valid c.requires.path (c.in-None.ensures c.args.table.now c.requires.path)
    c.enter.ensures.fixed c.enter.ensures.choice c.enter.ensures.branches c.enter.ensures.room

pub returns-in-None-clause-next : goal.returns-in-None-clause-next
returns-in-None-clause-next c =
    enter_taken c.args.table.now c.args.path.now c.enter.new.self c.args.unit c.requires.valid c.requires.path (c.in-None.ensures c.args.table.now c.requires.path)
    c.enter.ensures.fixed c.enter.ensures.branches

pub fix_first-requires-clause-unit : goal.fix_first-requires-clause-unit
fix_first-requires-clause-unit c = (c.in-None.ensures c.args.table.now c.requires.path).0

pub fix_first-requires-clause-tally : goal.fix_first-requires-clause-tally
fix_first-requires-clause-tally c =
    (c.args.path.now.fixed.items, units_open (reverse c.args.path.now.branches.items), c.requires.tally, (c.in-None.ensures c.args.table.now c.requires.path).1)

pub returns-in-None-clause-tally : goal.returns-in-None-clause-tally
returns-in-None-clause-tally c =
    let table = c.args.table.now in
    let old = c.args.path.now in
    let right : IsRight table old.fixed.items (Branch c.args.unit) = c.in-None.ensures table c.requires.path in
    let within : c.args.unit < length old.fixed.items = omega (arith, right.0, all_zip_size NamesVersion (units_of table) old.fixed.items c.requires.path.fixes) in
    told_by table c.enter.new.self (fix c.args.unit 0 old.fixed.items) old.branches.items (record { unit = c.args.unit; least = None }) c.fix_first.new.self
    (c.fix_first.ensures.tally old.fixed.items (units_open (reverse old.branches.items)) c.requires.tally within right.1) c.enter.ensures.fixed c.enter.ensures.branches
