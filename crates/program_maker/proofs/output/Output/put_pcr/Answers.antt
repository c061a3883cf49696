use Rattle.std.proofs.Common.{◌+◌, ◌-◌, ◌*◌, ◌%◌, ◌++◌, ℕ, Some, [], false, refl, ap, ◌∙◌}
use Rattle.std.proofs.lemmas.Result.{on_ok_weaker}
use Rattle.ts_packets.specs.Packet.{written}
use Rattle.program_maker.proofs.Counting.{pcr-behind}
use Rattle.program_maker.proofs.output.Output.put_pcr.Goals as goal

pub returns : goal.returns
returns c = λ packets is.
    let old = c.args.self.now in
    let counter = (old.video % 16 + 15) % 16 in
    let same = ap (λ (n : ℕ). old.bytes.items ++ written (record {
      pid = 0x101;
      start = false;
      counter = counter;
      field = Some (record { discontinuity = false; pcr = Some (300 * (90000 + 3600 * n - 45000)) });
      payload = [];
    })) c.from.ensures in
    on_ok_weaker c.put.result (λ e. pcr-behind packets old c.put.new.self c.args.k counter is refl (e ∙ same) c.put.ensures.video c.put.ensures.audio) c.put.ensures.bytes
