use Rattle.std.proofs.Common.{◌++◌, refl, ap, ◌∙◌, arith}
use Rattle.std.proofs.lemmas.Result.{on_ok_weaker}
use Rattle.program_maker.specs.Packets.{section_packet}
use Rattle.program_maker.proofs.Counting.{first-behind, section-as}
use Rattle.program_maker.proofs.output.Output.put_section.Goals as goal

pub returns : goal.returns
returns c = λ packets is none not_video not_audio.
    let old = c.args.self.now in
    let section = c.args.section.now in
    let same = ap (λ bytes. old.bytes.items ++ bytes) (section-as c.args.pid section _ c.requires.few c.section_bytes-payload.ensures) in
    on_ok_weaker c.put.result (λ e. first-behind packets old c.put.new.self (section_packet c.args.pid section) is (omega arith) refl
    none not_video not_audio (e ∙ same) c.put.ensures.video c.put.ensures.audio)
    c.put.ensures.bytes
