use Rattle.std.specs.Option.{option_copied}
use Rattle.bit_lists.specs.Fields.{bit_list}
use Rattle.picture_laws.proofs.SpelledStates.{state-of_head}
use Rattle.picture_reader.specs.UnitCursor.{bits_from}
use Rattle.version_source.proofs.StateLemmas.{head-leaves, not-refused}
use Rattle.file_pieces.specs.declared.again_fault.AgainFault.TheVariants.{Changed}
use Rattle.file_pieces.proofs.ReadsLemmas.{err_is}
use Rattle.file_pieces.proofs.unit_again.state_again.Goals as goal

pub returns-in-Ok-clause-state : goal.returns-in-Ok-clause-state
returns-in-Ok-clause-state c =
    let headers = c.in-Ok.cursor.headers in
    state-of_head (option_copied c.args.before) (headers.seq, headers.coding) (bit_list c.args.unit.now) (bits_from c.args.unit.now headers.slices_at) c.requires.before
    c.in-Ok.ensures.headed.spelled

pub returns-in-Ok-clause-leaves : goal.returns-in-Ok-clause-leaves
returns-in-Ok-clause-leaves c is = head-leaves (option_copied c.args.before) c.args.unit.now c.in-Ok.cursor.headers is c.in-Ok.ensures.headed

pub returns-in-Err-clause-changed : goal.returns-in-Err-clause-changed
returns-in-Err-clause-changed c changed is =
    c.of_picture.ensures.changed (err_is c.of_picture.result Changed changed) (not-refused (option_copied c.args.before) c.args.unit.now c.in-Err.fault is c.in-Err.ensures)
