use Rattle.tstd_model.proofs.WatchGoes.{clean-of}
use Rattle.tstd_model.proofs.packet_watch.PacketWatch.is_clean.Goals as goal

pub returns : goal.returns
returns c = λ yes slot kind removals given watched slots dues.
    let sure = c.is_all.ensures yes in
    clean-of slot kind removals given c.args.self watched slots dues (c.end.ensures.tb sure.0, c.end.ensures.main sure.1, c.end.ensures.found sure.2, c.end.ensures.held sure.3)
