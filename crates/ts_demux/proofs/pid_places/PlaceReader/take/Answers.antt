use Rattle.std.proofs.Common.{◌≡◌, ◌*◌, ◌++◌, ◌∷◌, [], ℕ, List, ap, sym, subst, refl, ◌∙◌}
use Rattle.ts_packets.specs.Packet.{packet_identifier}
use Rattle.ts_packets.specs.TransportStream.{Piece, pid_pieces}
use Rattle.ts_packets.specs.PidReader.{IsBehind, carried_at}
use Rattle.ts_demux.specs.declared.demux_fault.DemuxFault.TheVariants.{Sync}
use Rattle.ts_demux.specs.Demux.{IsStreamFault}
use Rattle.ts_demux.specs.Faults.{of_pid}
use Rattle.ts_demux.proofs.CarriedSteps.{has_fault, no_sync}
use Rattle.ts_demux.proofs.PlaceSteps.{other_adds, other_pieces, own_adds, own_pieces}
use Rattle.ts_demux.proofs.pid_places.PlaceReader.take.Goals as goal

pub returns-in_default-clause-taken : goal.returns-in_default-clause-taken
returns-in_default-clause-taken c file within bytes_are stand =
    subst (λ (at : ℕ). IsStreamFault file (c.args.self.now.pid ∷ []) c.args.n (Sync at)) (sym c.place_of.ensures)
    (no_sync file c.args.n c.args.bytes.now (packet_identifier c.args.bytes.now) bytes_are refl (c.args.self.now.pid ∷ []) within c.in_default.ensures.sync.1)

pub returns-then-pid-self-clause-taken : goal.returns-then-pid-self-clause-taken
returns-then-pid-self-clause-taken c file within bytes_are stand =
    other_adds file c.args.n c.args.bytes.now c.in-Ok.pid bytes_are c.in-Ok.ensures.pid.1 c.in-Ok.ensures.pid.0 c.args.self.now.pid c.if-pid-self.true

pub returns-then-pid-self-clause-behind : goal.returns-then-pid-self-clause-behind
returns-then-pid-self-clause-behind c file within bytes_are stand =
    subst (λ (ps : List Piece). IsBehind ps c.args.self.now.packets)
    (sym (other_pieces file c.args.n c.args.bytes.now c.in-Ok.pid bytes_are c.in-Ok.ensures.pid.1 c.in-Ok.ensures.pid.0 c.args.self.now.pid c.if-pid-self.true)) stand

pub returns-in-Ok-take-clause-taken : goal.returns-in-Ok-take-clause-taken
returns-in-Ok-take-clause-taken c file within bytes_are stand =
    let pid = c.args.self.now.pid in
    let before = pid_pieces file pid 0 c.args.n in
    let of_it : pid ≡ packet_identifier c.args.bytes.now = sym c.if-pid-self.false ∙ c.in-Ok.ensures.pid.1 in
    own_adds file c.args.n c.args.bytes.now pid bytes_are of_it c.in-Ok.ensures.pid.0 (carried_at (188 * c.args.n) c.in-Ok-take.taken) c.placed.result
    (c.in-Ok-take.ensures.fault before (188 * c.args.n) stand) (c.in-Ok-take.ensures.carried before (188 * c.args.n) stand) c.placed.ensures.place

pub returns-in-Ok-take-clause-behind : goal.returns-in-Ok-take-clause-behind
returns-in-Ok-take-clause-behind c file within bytes_are stand =
    let pid = c.args.self.now.pid in
    let before = pid_pieces file pid 0 c.args.n in
    let of_it : pid ≡ packet_identifier c.args.bytes.now = sym c.if-pid-self.false ∙ c.in-Ok.ensures.pid.1 in
    subst (λ (ps : List Piece). IsBehind ps c.take.new.self) (sym (own_pieces file c.args.n c.args.bytes.now pid bytes_are of_it c.in-Ok.ensures.pid.0))
    (c.in-Ok-take.ensures.behind before (188 * c.args.n) stand)

pub returns-in-Err-clause-taken : goal.returns-in-Err-clause-taken
returns-in-Err-clause-taken c file within bytes_are stand =
    let pid = c.args.self.now.pid in
    let before = pid_pieces file pid 0 c.args.n in
    let of_it : pid ≡ packet_identifier c.args.bytes.now = sym c.if-pid-self.false ∙ c.in-Ok.ensures.pid.1 in
    has_fault file c.args.n c.args.bytes.now pid bytes_are of_it (pid ∷ []) 0 refl c.pid_refused.result c.in-Err.fault within
    (c.in-Err.ensures.fault before (188 * c.args.n) stand) (c.pid_refused.ensures ∙ ap (λ at. of_pid at c.in-Err.fault) c.place_of-in-Err.ensures)
