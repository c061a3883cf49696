use Rattle.std.proofs.Common.{length, arith}
use Rattle.version_table.specs.Table.{units_of}
use Rattle.dual_bounds.specs.Fixed.{NamesVersion}
use Rattle.certificate_checker.proofs.Units.{all_zip_size}
use Rattle.branch_plan.proofs.Reaching.{root_few}
use Rattle.branch_plan.proofs.found.found_windows.Goals as goal

pub shared_windows-requires-clause-units : goal.shared_windows-requires-clause-units
shared_windows-requires-clause-units c = omega (arith, all_zip_size NamesVersion (units_of c.args.table.now) c.args.fixed.now c.requires.fixed, c.len.ensures)

pub returns-clause-sound : goal.returns-clause-sound
returns-clause-sound c = record {
  time = c.in_ok-time.ensures.searched;
  few = root_few c.args.table.now c.args.nodes (length c.in_ok-time.time.items) c.args.relaxes c.requires.nodes c.requires.relaxes c.in_ok-time.ensures.most c.in_ok-time.ensures.few;
  buffers = c.in_ok-buffers.ensures.searched;
  shared = c.in_ok-buffers.ensures.shared;
}
