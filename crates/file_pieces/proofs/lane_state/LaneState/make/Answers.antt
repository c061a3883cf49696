use Rattle.std.proofs.Common.{◌≡◌, List, ℕ, subst₂, arith}
use Rattle.std.proofs.lemmas.Option.{same_Some}
use Rattle.std.specs.Option.{option_copied}
use Rattle.file_pieces.specs.declared.again_fault.AgainFault.TheVariants.{Changed}
use Rattle.file_pieces.specs.FileStream.{file_of}
use Rattle.file_pieces.specs.LaneState.{IsUnitPacket}
use Rattle.file_pieces.proofs.Kept.{if_told, left_on, never_misread, never_missized, packet_there, read_unit}
use Rattle.file_pieces.proofs.ReadsLemmas.{err_as, err_is}
use Rattle.file_pieces.proofs.lane_state.LaneState.make.Goals as goal

pub returns-in-Err-packet_again-clause-changed : goal.returns-in-Err-packet_again-clause-changed
returns-in-Err-packet_again-clause-changed g c changed =
    let told = g.K.Shelf.files c.args.shelf.now in
    let lane = c.args.lane.now in
    let next = c.args.self.now.next in
    let read = option_copied c.as_ref.result in
    let units = read_unit told lane next c.unit-unit.result c.args.self.now.state read c.part-bytes.result.now c.unit-unit.ensures c.as_ref.ensures.value c.requires.told c.requires.kept.state_is
    (c.part-bytes.ensures.told told lane.stream c.requires.lane.place c.in-Ok.ensures.follows) in
    never_missized told lane next read c.part-bytes.result.now c.plan-plan.result c.requires.number c.plan-plan.ensures units (c.in-Err-packet_again.ensures.changed (err_as c.in-Err-packet_again.fault Changed (err_is c.in-Err-packet_again.fault Changed changed)))

pub returns-in-Ok-state_again-clause-kept : goal.returns-in-Ok-state_again-clause-kept
returns-in-Ok-state_again-clause-kept g c =
    let told = g.K.Shelf.files c.args.shelf.now in
    let lane = c.args.lane.now in
    let next = c.args.self.now.next in
    let first = option_copied c.as_ref.result in
    let read = option_copied c.as_ref-2.result in
    let part = c.part-bytes.ensures.told told lane.stream c.requires.lane.place c.in-Ok.ensures.follows in
    let units = read_unit told lane next c.unit-unit.result c.args.self.now.state first c.part-bytes.result.now c.unit-unit.ensures c.as_ref.ensures.value c.requires.told c.requires.kept.state_is part in
    let again = read_unit told lane next c.unit-unit.result c.args.self.now.state read c.part-bytes.result.now c.unit-unit.ensures c.as_ref-2.ensures.value c.requires.told c.requires.kept.state_is part in
    let made = packet_there told lane next first c.part-bytes.result.now c.plan-plan.result c.in-Ok-packet_again.packet c.requires.lane c.requires.number c.plan-plan.ensures units
    c.in-Ok-packet_again.ensures.packet in
    record {
      follows = c.in-Ok.ensures.follows;
      within = omega (arith, c.requires.number);
      precedes = c.in-Ok-state_again.ensures.state;
      state_is = if_told (file_of told lane.stream) again (λ file one.
          left_on lane file next read c.part-bytes.result.now c.in-Ok-state_again.state c.requires.number one c.in-Ok-state_again.ensures.leaves);
      packet_is = λ packet number some there.
          let same : c.in-Ok-packet_again.packet ≡ packet = same_Some c.in-Ok-packet_again.packet packet some in
          let one : next ≡ number = omega (arith, there) in
          subst₂ (λ (n : ℕ) (p : List ℕ). IsUnitPacket told lane n p) one same made;
    }

pub returns-in-Err-state_again-clause-changed : goal.returns-in-Err-state_again-clause-changed
returns-in-Err-state_again-clause-changed g c changed =
    let told = g.K.Shelf.files c.args.shelf.now in
    let lane = c.args.lane.now in
    let next = c.args.self.now.next in
    let read = option_copied c.as_ref-2.result in
    let units = read_unit told lane next c.unit-unit.result c.args.self.now.state read c.part-bytes.result.now c.unit-unit.ensures c.as_ref-2.ensures.value c.requires.told c.requires.kept.state_is
    (c.part-bytes.ensures.told told lane.stream c.requires.lane.place c.in-Ok.ensures.follows) in
    never_misread told lane next read c.part-bytes.result.now c.requires.number units
    (c.in-Err-state_again.ensures.changed (err_as c.in-Err-state_again.fault Changed (err_is c.in-Err-state_again.fault Changed changed)))
