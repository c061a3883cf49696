use Rattle.std.proofs.Common.{◌<◌, length, get_or, refl, ap, arith}
use Rattle.std.proofs.lemmas.List.{length-map}
use Rattle.std.proofs.lemmas.Option.{slice_get-get_or}
use Rattle.psi_tables.specs.declared.stream.Stream.{Stream}
use Rattle.ts_demux.specs.CarriedPackets.{pids_read}
use Rattle.pes_passing.proofs.Passing.{none_passed}
use Rattle.pes_passing.proofs.passing_packets.PassingPackets.new.Goals as goal

pub returns-clause-passed : goal.returns-clause-passed
returns-clause-passed c left most few =
    let pids = pids_read c.in-Ok.packets in
    let within : c.args.index < length pids = omega (arith, c.requires, ap length c.in-Ok.ensures.0, length-map c.args.streams.now (λ (s : Stream). s.pid)) in
    none_passed left most (record { packets = c.in-Ok.packets; index = c.args.index; read = 0; pes = c.new-2.result }) few refl c.new-2.ensures.0 c.new-2.ensures.1 c.new-2.ensures.2
    (get_or pids c.args.index 0) (slice_get-get_or pids c.args.index 0 within) c.in-Ok.ensures.1
