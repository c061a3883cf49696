use Rattle.std.proofs.Common.{◌∙◌}
use Rattle.tstd_model.specs.PacketBytes.{parts}
use Rattle.tstd_model.specs.Decoder.{leave_tb}
use Rattle.tstd_model.proofs.DecoderWalks.{bytes-pass}
use Rattle.tstd_model.proofs.system_decoder.SystemDecoder.passing.Goals as goal

pub returns : goal.returns
returns c =
    let decoder = c.args.self.now in
    c.new.ensures
    ∙ bytes-pass c.args.wanted (parts decoder.arrivals.now) (leave_tb decoder.slot decoder.kind decoder.arrivals.now) c.tb_bytes.result c.tb_bytes.ensures.belong c.tb_bytes.ensures.instants
