use Rattle.std.proofs.Common.{◌≡◌, None, Some, arith}
use Rattle.std.specs.Option.{option_copied}
use Rattle.file_pieces.specs.declared.again_fault.AgainFault.TheVariants.{Changed}
use Rattle.file_pieces.specs.FileStream.{file_of}
use Rattle.file_pieces.proofs.Kept.{if_told, left_on, never_misread, read_unit}
use Rattle.file_pieces.proofs.ReadsLemmas.{err_as, err_is}
use Rattle.file_pieces.proofs.lane_state.LaneState.skip.Goals as goal

pub returns-in-Ok-state_again-clause-kept : goal.returns-in-Ok-state_again-clause-kept
returns-in-Ok-state_again-clause-kept g c =
    let told = g.K.Shelf.files c.args.shelf.now in
    let lane = c.args.lane.now in
    let next = c.args.self.now.next in
    let read = option_copied c.as_ref.result in
    let units = read_unit told lane next c.unit-unit.result c.args.self.now.state read c.part-bytes.result.now c.unit-unit.ensures c.as_ref.ensures.value c.requires.told c.requires.kept.state_is
    (c.part-bytes.ensures.told told lane.stream c.requires.lane.place c.in-Ok.ensures.follows) in
    record {
      follows = c.in-Ok.ensures.follows;
      within = omega (arith, c.requires.number);
      precedes = c.in-Ok-state_again.ensures.state;
      state_is = if_told (file_of told lane.stream) units (λ file one.
          left_on lane file next read c.part-bytes.result.now c.in-Ok-state_again.state c.requires.number one c.in-Ok-state_again.ensures.leaves);
      packet_is = λ packet number some there. absurd (let bad : None ≡ Some packet = some in cc);
    }

pub returns-in-Err-state_again-clause-changed : goal.returns-in-Err-state_again-clause-changed
returns-in-Err-state_again-clause-changed g c changed =
    let told = g.K.Shelf.files c.args.shelf.now in
    let lane = c.args.lane.now in
    let next = c.args.self.now.next in
    let read = option_copied c.as_ref.result in
    let units = read_unit told lane next c.unit-unit.result c.args.self.now.state read c.part-bytes.result.now c.unit-unit.ensures c.as_ref.ensures.value c.requires.told c.requires.kept.state_is
    (c.part-bytes.ensures.told told lane.stream c.requires.lane.place c.in-Ok.ensures.follows) in
    never_misread told lane next read c.part-bytes.result.now c.requires.number units (c.in-Err-state_again.ensures.changed (err_as c.in-Err-state_again.fault Changed (err_is c.in-Err-state_again.fault Changed changed)))
