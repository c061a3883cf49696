use Rattle.std.proofs.Common.{◌≡◌, List, ℕ, Bool, None, Some, Option, ap, ◌∙◌, if◌then◌else◌}
use Rattle.pes_units.specs.declared.pes_header.PesHeader.{PesHeader}
use Rattle.pes_units.specs.PesHeader.{pes_fields_of}
use Rattle.pes_units.specs.PesPackets.{is_dropped}
use Rattle.elementary_streams.proofs.TakenLemmas.{read_some, read_none, count_dropped, count_taken, holds_taken, holds_dropped}
use Rattle.elementary_streams.proofs.pes_packets.TakenPackets.take_last.Goals as goal

moved : (video : Bool) (read : Option PesHeader) (bytes packet : List ℕ) → read ≡ (if is_dropped video bytes then None else Some (pes_fields_of bytes)) → bytes ≡ packet →
    read ≡ (if is_dropped video packet then None else Some (pes_fields_of packet))
moved video read bytes packet is same = is ∙ ap (λ (xs : List ℕ). if is_dropped video xs then None else Some (pes_fields_of xs)) same

pub add-requires : goal.add-requires
add-requires c = (read_some (is_dropped c.args.video c.args.packet.now.bytes) c.in-Ok.read c.in-Some.header (pes_fields_of c.args.packet.now.bytes)
    (moved c.args.video c.in-Ok.read c.as_slice.result.now c.args.packet.now.bytes c.in-Ok.ensures.header c.as_slice.ensures) c.in-Some.is).1

pub returns-in_ok-add-in-Some-clause-adds : goal.returns-in_ok-add-in-Some-clause-adds
returns-in_ok-add-in-Some-clause-adds c = λ before holds.
    let kept = (read_some (is_dropped c.args.video c.args.packet.now.bytes) c.in-Ok.read c.in-Some.header (pes_fields_of c.args.packet.now.bytes)
    (moved c.args.video c.in-Ok.read c.as_slice.result.now c.args.packet.now.bytes c.in-Ok.ensures.header c.as_slice.ensures) c.in-Some.is).0 in
    holds_taken (is_dropped c.args.video c.args.packet.now.bytes) before c.args.packet.now c.add.new.self kept (c.in_ok-add-in-Some.ensures.holds before holds)

pub returns-in_ok-add-in-Some-clause-dropped : goal.returns-in_ok-add-in-Some-clause-dropped
returns-in_ok-add-in-Some-clause-dropped c =
    let kept = (read_some (is_dropped c.args.video c.args.packet.now.bytes) c.in-Ok.read c.in-Some.header (pes_fields_of c.args.packet.now.bytes)
    (moved c.args.video c.in-Ok.read c.as_slice.result.now c.args.packet.now.bytes c.in-Ok.ensures.header c.as_slice.ensures) c.in-Some.is).0 in
    c.in_ok-add-in-Some.ensures.dropped ∙ c.requires ∙ count_taken (is_dropped c.args.video c.args.packet.now.bytes) kept

pub returns-in-None-clause-adds : goal.returns-in-None-clause-adds
returns-in-None-clause-adds c = λ before holds.
    let cut = read_none (is_dropped c.args.video c.args.packet.now.bytes) c.in-Ok.read (pes_fields_of c.args.packet.now.bytes)
    (moved c.args.video c.in-Ok.read c.as_slice.result.now c.args.packet.now.bytes c.in-Ok.ensures.header c.as_slice.ensures) c.in-None.is in
    holds_dropped (is_dropped c.args.video c.args.packet.now.bytes) before c.args.packet.now (record c.args.self.now { dropped = 1 }) cut
    (record { payload = holds.payload; placed = holds.placed })

pub returns-in-None-clause-dropped : goal.returns-in-None-clause-dropped
returns-in-None-clause-dropped c =
    let cut = read_none (is_dropped c.args.video c.args.packet.now.bytes) c.in-Ok.read (pes_fields_of c.args.packet.now.bytes)
    (moved c.args.video c.in-Ok.read c.as_slice.result.now c.args.packet.now.bytes c.in-Ok.ensures.header c.as_slice.ensures) c.in-None.is in
    count_dropped (is_dropped c.args.video c.args.packet.now.bytes) cut
