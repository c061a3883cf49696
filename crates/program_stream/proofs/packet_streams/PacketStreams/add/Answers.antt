use Rattle.std.proofs.Common.{◌≡◌, ℕ, ◌∷◌, [], ◌++◌, List, set, sym, ap, ◌∙◌}
use Rattle.std.proofs.lemmas.Result.{on_ok_weaker}
use Rattle.ts_demux.specs.declared.demuxed.AudioStream.{AudioStream}
use Rattle.ts_demux.specs.declared.demuxed.PesUnit.{PesUnit}
use Rattle.ts_demux.specs.Streams.{is_among}
use Rattle.program_stream.specs.Elements.{element_bytes}
use Rattle.program_stream.proofs.Holding.{with_unit, holds-added, holds-begun}
use Rattle.program_stream.proofs.packet_streams.PacketStreams.add.Goals as goal

pub returns-in-Some : goal.returns-in-Some
returns-in-Some c elements ids element holds no_packets same bytes_are place =
    let copied : c.in_ok-to_vec.field-0.items ≡ c.args.bytes.now = c.in_ok-to_vec.ensures.items_if_clones_equal (λ x y is. is) in
    let bytes : c.from_vec.result ≡ element_bytes element = c.from_vec.ensures ∙ copied ∙ bytes_are in
    let streams = c.args.self.now.streams.items in
    let d = c.index_mut.result.now in
    on_ok_weaker c.push.result
    (λ pushed. holds-added elements element c.args.at c.args.id ids c.args.self.now _ c.in-Some.index d place same c.in-Some.ensures holds
    (ap (set streams c.in-Some.index)
    (ap (λ (units : List PesUnit). record { pid = d.pid; units = units }) (pushed ∙ ap (λ (xs : List ℕ). d.units ++ record { at = c.args.at; bytes = xs } ∷ []) bytes)
    ∙ ap (λ (s : AudioStream). with_unit s (record { at = c.args.at; bytes = element_bytes element })) c.index_mut.ensures.value)))
    c.push.ensures.ok

pub returns-in-None : goal.returns-in-None
returns-in-None c elements ids element holds no_packets same bytes_are place =
    let copied : c.in_ok-to_vec.field-0.items ≡ c.args.bytes.now = c.in_ok-to_vec.ensures.items_if_clones_equal (λ x y is. is) in
    let bytes : c.from_vec.result ≡ element_bytes element = c.from_vec.ensures ∙ copied ∙ bytes_are in
    on_ok_weaker c.begin.result
    (λ begun. holds-begun elements element c.args.at c.args.id ids c.args.self.now c.begin.new.self place same c.in-None.ensures
    (no_packets (ap (λ (xs : List ℕ). is_among xs c.args.id) (sym holds.ids_are) ∙ c.in-None.ensures)) holds
    (begun ∙ ap (λ (xs : List ℕ). c.args.self.now.streams.items ++ record { pid = c.args.id; units = record { at = c.args.at; bytes = xs } ∷ [] } ∷ []) bytes))
    c.begin.ensures
