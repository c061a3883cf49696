use Rattle.std.proofs.Common.{◌*◌, ap}
use Rattle.stream_constants.specs.declared.clock.TheConstants.{BYTE_SUBTICKS_PER_TICK}
use Rattle.tstd_model.proofs.DecoderWalks.{bytes-arrive, bytes-belong}
use Rattle.tstd_model.proofs.system_decoder.SystemDecoder.bytes.Goals as goal

pub returns-clause-instants : goal.returns-clause-instants
returns-clause-instants c =
    bytes-arrive c.args.self.now.slot _ c.args.self.now.arrivals.now c.new.result (ap (λ n. BYTE_SUBTICKS_PER_TICK * n) c.from.ensures) c.requires.headers_within c.new.ensures

pub returns-clause-belong : goal.returns-clause-belong
returns-clause-belong c = bytes-belong _ c.args.self.now.arrivals.now c.new.result c.new.ensures
