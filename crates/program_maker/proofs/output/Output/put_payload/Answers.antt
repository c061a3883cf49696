use Rattle.std.proofs.Common.{◌++◌, ap, ◌∙◌}
use Rattle.std.proofs.lemmas.Result.{on_ok_weaker}
use Rattle.program_maker.proofs.Counting.{payload-behind, as-payload}
use Rattle.program_maker.proofs.output.Output.put_payload.Goals as goal

pub returns : goal.returns
returns c = λ packets is.
    let carried = c.args.carried in
    let payload = c.args.payload.now in
    let counter = c.take_counter-counter.result in
    let mid = c.take_counter-counter.new.self in
    let same = as-payload carried c.pid_by.result c.args.start counter c.stuffing.result payload c.pid_by.ensures c.stuffing.ensures in
    on_ok_weaker c.put.result (λ e. payload-behind carried packets c.args.self.now mid c.put.new.self c.args.start payload counter is c.requires.some
    c.take_counter-counter.ensures.counter c.take_counter-counter.ensures.bytes (e ∙ ap (λ bytes. mid.bytes.items ++ bytes) same) c.put.ensures.video c.put.ensures.audio)
    c.put.ensures.bytes
