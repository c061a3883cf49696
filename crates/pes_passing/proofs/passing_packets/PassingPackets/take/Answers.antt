use Rattle.std.proofs.Common.{◌≡◌, ◌+◌, ◌<◌, ◌≤◌, ◌&&◌, Bool, cond, is_some, Option, Some, None, IfSome, inl, inr, length, refl, subst, arith}
use Rattle.std.specs.Option.{option_map}
use Rattle.ts_demux.specs.declared.carried_packets.StreamPayload.{StreamPayload}
use Rattle.ts_demux.specs.declared.demux_fault.DemuxFault.{DemuxFault}
use Rattle.ts_demux.specs.declared.demux_fault.DemuxFault.TheVariants.{OutOfMemory}
use Rattle.ts_demux.specs.CarriedPackets.{AddsFound}
use Rattle.ts_demux.proofs.CarriedSteps.{other_added}
use Rattle.ts_demux.proofs.GatherSteps.{first_fault}
use Rattle.pes_passing.specs.PassingPackets.{begun_packet, open_of, pids_of, StandsIn}
use Rattle.pes_passing.specs.Private.OpenPacket.{Counts, ended_behind, Holds, with_payload}
use Rattle.pes_passing.proofs.Standing.{holds_added, on_added, on_any, on_fault, stands_added, stands_same}
use Rattle.pes_passing.proofs.passing_packets.PassingPackets.take.Goals as goal

pub returns-in-Err-clause-refused : goal.returns-in-Err-clause-refused
returns-in-Err-clause-refused c = inr (λ file ended within bytes_are was.
    first_fault file (pids_of c.args.self.now) c.args.self.now.read c.in-Err.fault was.sound (c.in-Err.ensures.taken file within bytes_are was.stand))

pub returns-in_default-clause-taken : goal.returns-in_default-clause-taken
returns-in_default-clause-taken c file ended within bytes_are was =
    stands_same file ended c.args.self.now c.take.new.self None c.in-Ok.ensures.pids
    (subst (λ (found : Option StreamPayload). AddsFound file (pids_of c.args.self.now) c.args.self.now.read found) c.in_default.is (c.in-Ok.ensures.taken file within bytes_are was.stand))
    refl (c.in-Ok.ensures.behind file within bytes_are was.stand) was

pub returns-in_default-clause-holds : goal.returns-in_default-clause-holds
returns-in_default-clause-holds c = c.requires.turned

pub returns-in_default-clause-same : goal.returns-in_default-clause-same
returns-in_default-clause-same c = (c.in-Ok.ensures.pids, refl, refl)

pub returns-then-found-self-clause-taken : goal.returns-then-found-self-clause-taken
returns-then-found-self-clause-taken c file ended within bytes_are was =
    let found = c.in-Some.found in
    stands_same file ended c.args.self.now c.take.new.self (Some found) c.in-Ok.ensures.pids
    (subst (λ (o : Option StreamPayload). AddsFound file (pids_of c.args.self.now) c.args.self.now.read o) c.in-Some.is (c.in-Ok.ensures.taken file within bytes_are was.stand))
    (other_added found c.args.self.now.index c.if-found-self.true) (c.in-Ok.ensures.behind file within bytes_are was.stand) was

pub returns-then-found-self-clause-holds : goal.returns-then-found-self-clause-holds
returns-then-found-self-clause-holds c = c.requires.turned

pub returns-then-found-self-clause-same : goal.returns-then-found-self-clause-same
returns-then-found-self-clause-same c = (c.in-Ok.ensures.pids, refl, refl)

pub add-requires-clause-turned : goal.add-requires-clause-turned
add-requires-clause-turned c = c.requires.turned

pub add-requires-clause-room : goal.add-requires-clause-room
add-requires-clause-room c = omega (arith, c.requires.few, c.requires.place)

pub returns-clause-taken : goal.returns-clause-taken
returns-clause-taken c file ended within bytes_are was =
    let old = c.args.self.now in
    let found = c.in-Some.found in
    let after = c.add.new.self in
    let fits = subst (λ (o : Option StreamPayload). IfSome o (λ p. (0 < length p.payload.now) × (length p.payload.now ≤ 184))) c.in-Some.is c.in-Ok.ensures.fits in
    let adds = subst (λ (o : Option StreamPayload). AddsFound file (pids_of old) old.read o) c.in-Some.is (c.in-Ok.ensures.taken file within bytes_are was.stand) in
    on_added c.add.result (λ (ends : Bool). ends ≡ (found.start && is_some old.pes.held))
    (open_of after ≡ cond found.start (Some (begun_packet found.at found.payload.now)) (option_map (with_payload found.payload.now) old.pes.held))
    (λ (ends : Bool). Counts ends old.pes after)
    (λ (ends : Bool). StandsIn file (ended_behind ends ended after.held) (record { packets = c.take.new.self; index = old.index; read = old.read + 1; pes = after }))
    c.add.ensures.ended c.add.ensures.last c.add.ensures.counts
    (λ ends is open_is counts. stands_added file ended old c.take.new.self after found ends c.requires.turned c.in-Ok.ensures.pids adds c.if-found-self.false
    (c.in-Ok.ensures.behind file within bytes_are was.stand) fits.0 fits.1 is open_is counts was)

pub returns-clause-holds : goal.returns-clause-holds
returns-clause-holds c =
    let old = c.args.self.now in
    let found = c.in-Some.found in
    let after = c.add.new.self in
    on_added c.add.result (λ (ends : Bool). ends ≡ (found.start && is_some old.pes.held))
    (open_of after ≡ cond found.start (Some (begun_packet found.at found.payload.now)) (option_map (with_payload found.payload.now) old.pes.held))
    (λ (ends : Bool). Counts ends old.pes after) (λ (ends : Bool). Holds ends after)
    c.add.ensures.ended c.add.ensures.last c.add.ensures.counts (λ ends is open_is counts. holds_added found.start old.pes after ends is counts)

pub returns-clause-refused : goal.returns-clause-refused
returns-clause-refused c = on_fault c.add.result (λ (fault : DemuxFault). fault ≡ OutOfMemory) _ c.add.ensures.memory (λ fault is. inl is)

pub returns-clause-same : goal.returns-clause-same
returns-clause-same c = on_any c.add.result _ (c.in-Ok.ensures.pids, refl, refl)
