use Rattle.std.proofs.Common.{◌^◌, ◌<◌, arith}
use Rattle.std.proofs.lemmas.List.Elements.{All-weaker}
use Rattle.version_table.specs.Private.Draft.{lines_of_draft}
use Rattle.version_table.proofs.Kept.{KeepsVersion, keeps_from}
use Rattle.version_table.proofs.Drafts.{adds_title, adds_slot, adds_nodes, adds_evaluations, adds_program, adds_unit, adds_audio, adds_packet}
use Rattle.version_table.proofs.draft.Draft.add.Goals as goal

pub overflow_cast-self : goal.overflow_cast-self
overflow_cast-self c =
    let keeps = rw c.in-Slot.is at (keeps_from (lines_of_draft c.args.stage c.args.self.now) c.args.line.now c.requires.kept) in
    omega (arith, keeps.1)

pub overflow_cast-self-in-Nodes : goal.overflow_cast-self-in-Nodes
overflow_cast-self-in-Nodes c =
    let keeps = rw c.in-Nodes.is at (keeps_from (lines_of_draft c.args.stage c.args.self.now) c.args.line.now c.requires.kept) in
    omega (arith, keeps.1)

pub overflow_cast-self-in-Evaluations : goal.overflow_cast-self-in-Evaluations
overflow_cast-self-in-Evaluations c =
    let keeps = rw c.in-Evaluations.is at (keeps_from (lines_of_draft c.args.stage c.args.self.now) c.args.line.now c.requires.kept) in
    omega (arith, keeps)

pub overflow_cast-vbv : goal.overflow_cast-vbv
overflow_cast-vbv c =
    let keeps = rw c.in-Program.is at (keeps_from (lines_of_draft c.args.stage c.args.self.now) c.args.line.now c.requires.kept) in
    omega (arith, keeps.vbv_most)

pub add_unit-requires-clause-few : goal.add_unit-requires-clause-few
add_unit-requires-clause-few c =
    let keeps = rw c.in-Unit.is at (keeps_from (lines_of_draft c.args.stage c.args.self.now) c.args.line.now c.requires.kept) in
    omega (arith, keeps.units, c.requires.draft.unit_count)

pub add_unit-requires-clause-small : goal.add_unit-requires-clause-small
add_unit-requires-clause-small c =
    let keeps = rw c.in-Unit.is at (keeps_from (lines_of_draft c.args.stage c.args.self.now) c.args.line.now c.requires.kept) in
    All-weaker KeepsVersion (λ version. version.bytes < 2 ^ 32) (λ version h. omega (arith, h.bytes)) c.in-Unit.versions.items keeps.each

pub add_unit-requires-clause-room : goal.add_unit-requires-clause-room
add_unit-requires-clause-room c =
    let keeps = rw c.in-Unit.is at (keeps_from (lines_of_draft c.args.stage c.args.self.now) c.args.line.now c.requires.kept) in
    omega (arith, keeps.distortions, c.requires.draft.distortions)

pub overflow_cast-bytes : goal.overflow_cast-bytes
overflow_cast-bytes c =
    let keeps = rw c.in-Packet.is at (keeps_from (lines_of_draft c.args.stage c.args.self.now) c.args.line.now c.requires.kept) in
    omega (arith, keeps.bytes_most)

pub add_packet-requires : goal.add_packet-requires
add_packet-requires c =
    let keeps = rw c.in-Packet.is at (keeps_from (lines_of_draft c.args.stage c.args.self.now) c.args.line.now c.requires.kept) in
    omega (arith, keeps.packets, c.requires.draft.packet_count)

pub returns-in-Title : goal.returns-in-Title
returns-in-Title c =
    let is = c.in-Title.is in
    rw is (adds_title c.args.stage c.args.self.now (rw is at c.requires.stands) c.requires.draft)

pub returns-in-Slot : goal.returns-in-Slot
returns-in-Slot c =
    let is = c.in-Slot.is in
    rw is (adds_slot c.args.stage c.args.self.now c.in-Slot.ticks (rw is at c.requires.stands) c.requires.draft)

pub returns-in-Nodes : goal.returns-in-Nodes
returns-in-Nodes c =
    let is = c.in-Nodes.is in
    rw is (adds_nodes c.args.stage c.args.self.now c.in-Nodes.n (rw is at c.requires.stands) c.requires.draft)

pub returns-in-Evaluations : goal.returns-in-Evaluations
returns-in-Evaluations c =
    let is = c.in-Evaluations.is in
    rw is (adds_evaluations c.args.stage c.args.self.now c.in-Evaluations.n (rw is at c.requires.stands) c.requires.draft)

pub returns-in_ok-add_program-in-Program : goal.returns-in_ok-add_program-in-Program
returns-in_ok-add_program-in-Program c =
    let is = c.in-Program.is in
    let new = c.in_ok-add_program-in-Program.ensures in
    rw (is, new) (adds_program c.args.self.now c.args.stage c.in-Program.vbv (rw is at c.requires.stands) c.requires.draft)

pub returns-in_ok-add_unit-in-Unit : goal.returns-in_ok-add_unit-in-Unit
returns-in_ok-add_unit-in-Unit c =
    let is = c.in-Unit.is in
    let new = c.in_ok-add_unit-in-Unit.ensures in
    let keeps = rw c.in-Unit.is at (keeps_from (lines_of_draft c.args.stage c.args.self.now) c.args.line.now c.requires.kept) in
    rw (is, new) (adds_unit c.args.self.now c.args.stage c.in-Unit.due c.in-Unit.versions (rw is at c.requires.stands) c.requires.draft (omega (arith, keeps.distortions, c.requires.draft.distortions)))

pub returns-in_ok-close_audio-in-Audio : goal.returns-in_ok-close_audio-in-Audio
returns-in_ok-close_audio-in-Audio c =
    let is = c.in-Audio.is in
    let new = c.in_ok-close_audio-in-Audio.ensures in
    rw (is, new) (adds_audio c.args.self.now c.args.stage (rw is at c.requires.stands) c.requires.draft)

pub returns-in_ok-add_packet-in-Packet : goal.returns-in_ok-add_packet-in-Packet
returns-in_ok-add_packet-in-Packet c =
    let is = c.in-Packet.is in
    let new = c.in_ok-add_packet-in-Packet.ensures in
    rw (is, new) (adds_packet c.args.self.now c.args.stage c.in-Packet.due c.in-Packet.gone c.in-Packet.bytes (rw is at c.requires.stands) c.requires.draft)
