use Rattle.std.proofs.Common.{◌≡◌, ◌<◌, ◌*◌, ◌++◌, ◌∷◌, [], ℕ, Option, Some, None, length, slice_get, ap, sym, subst, refl, ◌∙◌, rules}
use Rattle.std.proofs.lemmas.List.{places}
use Rattle.std.proofs.lemmas.Option.{slice_get-get_or, slice_get_within}
use Rattle.ts_packets.specs.declared.packet.Packet.{Packet}
use Rattle.ts_packets.specs.Packet.{packet_identifier}
use Rattle.ts_packets.specs.TransportStream.{Piece, pid_pieces}
use Rattle.ts_packets.specs.Carried.{carried}
use Rattle.ts_packets.specs.PidReader.{IsBehind, carried_at}
use Rattle.ts_demux.specs.declared.carried_packets.StreamPayload.{StreamPayload}
use Rattle.ts_demux.specs.declared.demux_fault.DemuxFault.TheVariants.{Sync}
use Rattle.ts_demux.specs.Faults.{of_pid}
use Rattle.ts_demux.specs.Demux.{IsStreamFault}
use Rattle.ts_demux.specs.CarriedPackets.{pids_read}
use Rattle.ts_demux.proofs.CarriedSteps.{pids_in, none_found, none_stand, no_sync, has_fault, adds, stand_next, set_pids, pid_within, item_pid, item_behind, other_added, here_added}
use Rattle.ts_demux.proofs.carried_packets.CarriedPackets.take.Goals as goal

pub returns-in_default-clause-taken : goal.returns-in_default-clause-taken
returns-in_default-clause-taken c file within bytes_are stand =
    subst (λ (at : ℕ). IsStreamFault file (pids_read c.args.self.now) c.args.n (Sync at)) (sym c.place_of.ensures)
    (no_sync file c.args.n c.args.bytes.now (packet_identifier c.args.bytes.now) bytes_are refl (pids_read c.args.self.now) within c.in_default.ensures.sync.1)

pub returns-in_default-index_of-clause-taken : goal.returns-in_default-index_of-clause-taken
returns-in_default-index_of-clause-taken c file within bytes_are stand =
    none_found file c.args.n c.args.bytes.now c.in-Ok.pid bytes_are c.in-Ok.ensures.pid.1 (pids_read c.args.self.now) c.in-Ok.ensures.pid.0
    (rw c.as_slice.ensures.value at c.in_default-index_of.ensures)

pub returns-in_default-index_of-clause-behind : goal.returns-in_default-index_of-clause-behind
returns-in_default-index_of-clause-behind c file within bytes_are stand =
    none_stand file c.args.n c.args.bytes.now c.in-Ok.pid bytes_are c.in-Ok.ensures.pid.1 c.args.self.now.streams.items
    (rw c.as_slice.ensures.value at c.in_default-index_of.ensures) stand

pub index_mut-requires : goal.index_mut-requires
index_mut-requires c =
    let there : slice_get (pids_in c.args.self.now.streams.items) c.in-Some.index ≡ Some c.in-Ok.pid = rw c.as_slice.ensures.value at c.in-Some.ensures in
    let less : c.in-Some.index < length c.args.self.now.streams.items = pid_within c.args.self.now.streams.items c.in-Some.index c.in-Ok.pid there in
    search (rules, places, less)

pub returns-in-Err-clause-taken : goal.returns-in-Err-clause-taken
returns-in-Err-clause-taken c file within bytes_are stand =
    let streams = c.args.self.now.streams.items in
    let index = c.in-Some.index in
    let of_it = c.in-Ok.pid in
    let item = c.index_mut.result.now in
    let there : slice_get (pids_in streams) index ≡ Some of_it = rw c.as_slice.ensures.value at c.in-Some.ensures in
    let item_is : slice_get streams index ≡ Some item = slice_get-get_or streams index item (pid_within streams index of_it there) ∙ ap Some (sym c.index_mut.ensures.value) in
    let before = pid_pieces file of_it 0 c.args.n in
    let behind : IsBehind before item.packets = item_behind streams index of_it item there item_is file c.args.n stand in
    has_fault file c.args.n c.args.bytes.now of_it bytes_are c.in-Ok.ensures.pid.1 (pids_in streams) index there c.pid_refused.result c.in-Err.fault within
    (c.in-Err.ensures.fault before (188 * c.args.n) behind) (c.pid_refused.ensures ∙ ap (λ at. of_pid at c.in-Err.fault) c.place_of-in-Err.ensures)

pub returns-in-Err-clause-pids : goal.returns-in-Err-clause-pids
returns-in-Err-clause-pids c =
    let streams = c.args.self.now.streams.items in
    let index = c.in-Some.index in
    let of_it = c.in-Ok.pid in
    let item = c.index_mut.result.now in
    let there : slice_get (pids_in streams) index ≡ Some of_it = rw c.as_slice.ensures.value at c.in-Some.ensures in
    let item_is : slice_get streams index ≡ Some item = slice_get-get_or streams index item (pid_within streams index of_it there) ∙ ap Some (sym c.index_mut.ensures.value) in
    set_pids streams index item (record { pid = item.pid; packets = c.take.new.self }) item_is refl

pub returns-in_default-taken-clause-taken : goal.returns-in_default-taken-clause-taken
returns-in_default-taken-clause-taken c file within bytes_are stand =
    let streams = c.args.self.now.streams.items in
    let index = c.in-Some.index in
    let of_it = c.in-Ok.pid in
    let item = c.index_mut.result.now in
    let there : slice_get (pids_in streams) index ≡ Some of_it = rw c.as_slice.ensures.value at c.in-Some.ensures in
    let item_is : slice_get streams index ≡ Some item = slice_get-get_or streams index item (pid_within streams index of_it there) ∙ ap Some (sym c.index_mut.ensures.value) in
    let before = pid_pieces file of_it 0 c.args.n in
    let behind : IsBehind before item.packets = item_behind streams index of_it item there item_is file c.args.n stand in
    let piece : Piece = record { at = 188 * c.args.n; bytes = c.args.bytes.now } in
    let carries : carried (before ++ piece ∷ []) ≡ carried before ++ [] = subst (λ (taken : Option Packet). carried (before ++ piece ∷ []) ≡ carried before
    ++ carried_at (188 * c.args.n) taken) c.in_default-taken.is (c.in-Ok-take.ensures.carried before (188 * c.args.n) behind) in
    adds file c.args.n c.args.bytes.now of_it bytes_are c.in-Ok.ensures.pid.1 (pids_in streams) index there None [] c.requires.distinct c.in-Ok.ensures.pid.0
    refl (λ k apart. refl) (c.in-Ok-take.ensures.fault before (188 * c.args.n) behind) carries

pub returns-in_default-taken-clause-behind : goal.returns-in_default-taken-clause-behind
returns-in_default-taken-clause-behind c file within bytes_are stand =
    let streams = c.args.self.now.streams.items in
    let index = c.in-Some.index in
    let of_it = c.in-Ok.pid in
    let item = c.index_mut.result.now in
    let there : slice_get (pids_in streams) index ≡ Some of_it = rw c.as_slice.ensures.value at c.in-Some.ensures in
    let item_is : slice_get streams index ≡ Some item = slice_get-get_or streams index item (pid_within streams index of_it there) ∙ ap Some (sym c.index_mut.ensures.value) in
    let before = pid_pieces file of_it 0 c.args.n in
    let behind : IsBehind before item.packets = item_behind streams index of_it item there item_is file c.args.n stand in
    stand_next file c.args.n c.args.bytes.now of_it bytes_are c.in-Ok.ensures.pid.1 streams index item (record { pid = item.pid; packets = c.take.new.self }) item_is
    (item_pid streams index of_it item there item_is) refl c.requires.distinct (c.in-Ok-take.ensures.behind before (188 * c.args.n) behind) stand

pub returns-in_default-taken-clause-pids : goal.returns-in_default-taken-clause-pids
returns-in_default-taken-clause-pids c =
    let streams = c.args.self.now.streams.items in
    let index = c.in-Some.index in
    let of_it = c.in-Ok.pid in
    let item = c.index_mut.result.now in
    let there : slice_get (pids_in streams) index ≡ Some of_it = rw c.as_slice.ensures.value at c.in-Some.ensures in
    let item_is : slice_get streams index ≡ Some item = slice_get-get_or streams index item (pid_within streams index of_it there) ∙ ap Some (sym c.index_mut.ensures.value) in
    set_pids streams index item (record { pid = item.pid; packets = c.take.new.self }) item_is refl

pub returns-clause-taken : goal.returns-clause-taken
returns-clause-taken c file within bytes_are stand =
    let streams = c.args.self.now.streams.items in
    let index = c.in-Some.index in
    let of_it = c.in-Ok.pid in
    let item = c.index_mut.result.now in
    let there : slice_get (pids_in streams) index ≡ Some of_it = rw c.as_slice.ensures.value at c.in-Some.ensures in
    let item_is : slice_get streams index ≡ Some item = slice_get-get_or streams index item (pid_within streams index of_it there) ∙ ap Some (sym c.index_mut.ensures.value) in
    let before = pid_pieces file of_it 0 c.args.n in
    let behind : IsBehind before item.packets = item_behind streams index of_it item there item_is file c.args.n stand in
    let piece : Piece = record { at = 188 * c.args.n; bytes = c.args.bytes.now } in
    let packet = c.in-Some-taken.packet in
    let found : StreamPayload = record { index = index; at = c.place_of-2.result; start = packet.start; payload = packet.payload } in
    let carries : carried (before ++ piece ∷ []) ≡ carried before ++ carried_at (188 * c.args.n) (Some packet) = subst (λ (taken : Option Packet). carried (before ++ piece ∷ [])
    ≡ carried before ++ carried_at (188 * c.args.n) taken) c.in-Some-taken.is (c.in-Ok-take.ensures.carried before (188 * c.args.n) behind) in
    adds file c.args.n c.args.bytes.now of_it bytes_are c.in-Ok.ensures.pid.1 (pids_in streams) index there (Some found) (carried_at (188 * c.args.n) (Some packet))
    c.requires.distinct c.in-Ok.ensures.pid.0 (here_added found packet (188 * c.args.n) c.place_of-2.ensures refl refl) (other_added found)
    (c.in-Ok-take.ensures.fault before (188 * c.args.n) behind) carries

pub returns-clause-behind : goal.returns-clause-behind
returns-clause-behind c file within bytes_are stand =
    let streams = c.args.self.now.streams.items in
    let index = c.in-Some.index in
    let of_it = c.in-Ok.pid in
    let item = c.index_mut.result.now in
    let there : slice_get (pids_in streams) index ≡ Some of_it = rw c.as_slice.ensures.value at c.in-Some.ensures in
    let item_is : slice_get streams index ≡ Some item = slice_get-get_or streams index item (pid_within streams index of_it there) ∙ ap Some (sym c.index_mut.ensures.value) in
    let before = pid_pieces file of_it 0 c.args.n in
    let behind : IsBehind before item.packets = item_behind streams index of_it item there item_is file c.args.n stand in
    stand_next file c.args.n c.args.bytes.now of_it bytes_are c.in-Ok.ensures.pid.1 streams index item (record { pid = item.pid; packets = c.take.new.self }) item_is
    (item_pid streams index of_it item there item_is) refl c.requires.distinct (c.in-Ok-take.ensures.behind before (188 * c.args.n) behind) stand

pub returns-clause-pids : goal.returns-clause-pids
returns-clause-pids c =
    let streams = c.args.self.now.streams.items in
    let index = c.in-Some.index in
    let of_it = c.in-Ok.pid in
    let item = c.index_mut.result.now in
    let there : slice_get (pids_in streams) index ≡ Some of_it = rw c.as_slice.ensures.value at c.in-Some.ensures in
    let item_is : slice_get streams index ≡ Some item = slice_get-get_or streams index item (pid_within streams index of_it there) ∙ ap Some (sym c.index_mut.ensures.value) in
    set_pids streams index item (record { pid = item.pid; packets = c.take.new.self }) item_is refl

pub returns-clause-index : goal.returns-clause-index
returns-clause-index c =
    let there : slice_get (pids_in c.args.self.now.streams.items) c.in-Some.index ≡ Some c.in-Ok.pid = rw c.as_slice.ensures.value at c.in-Some.ensures in
    slice_get_within (pids_in c.args.self.now.streams.items) c.in-Some.index c.in-Ok.pid there
