use Rattle.std.proofs.Common.{◌≡◌, ◌∙◌, ◌++◌, ◌∷◌, [], ◌==◌, ◌&&◌, ℕ, Bool, List, true, Some, is_some, get_or, refl, sym, ap}
use Rattle.program_stream.specs.Elements.{element_bytes}
use Rattle.program_stream.proofs.Packets.{not_true, same_number}
use Rattle.pes_passing.specs.declared.element_packets.ElementPackets.{ElementPackets}
use Rattle.pes_passing.specs.ElementPackets.{AreIn}
use Rattle.pes_passing.specs.PassingPackets.{begun_packet, open_of}
use Rattle.pes_passing.specs.Private.OpenPacket.{Counts, ended_behind}
use Rattle.pes_passing.proofs.ElementSteps.{in_added, in_same}
use Rattle.pes_passing.proofs.Standing.{on_added}
use Rattle.pes_passing.proofs.element_packets.ElementPackets.take.Goals as goal

pub returns-then-from-self-clause-taken : goal.returns-then-from-self-clause-taken
returns-then-from-self-clause-taken c before element ended bytes_are place was =
    let id = c.args.self.now.id in
    let same : c.from.result ≡ element.id = c.from.ensures ∙ ap (λ (xs : List ℕ). get_or xs 3 0) (c.element-bytes.ensures ∙ bytes_are) in
    in_same before element ended c.args.self.now (not_true (element.id == id) (λ is. c.if-from-self.true (same ∙ same_number element.id id is))) was

pub returns-clause-taken : goal.returns-clause-taken
returns-clause-taken c before element ended bytes_are place was =
    let old = c.args.self.now in
    let after = c.add.new.self in
    let new : ElementPackets = record { elements = old.elements; id = old.id; pes = after } in
    let bytes = c.element-bytes.result.now in
    let bytes_same : bytes ≡ element_bytes element = c.element-bytes.ensures ∙ bytes_are in
    let same : c.from.result ≡ element.id = c.from.ensures ∙ ap (λ (xs : List ℕ). get_or xs 3 0) bytes_same in
    on_added c.add.result (λ (ends : Bool). ends ≡ (true && is_some old.pes.held)) (open_of after ≡ Some (begun_packet c.place.result bytes)) (λ (ends : Bool). Counts ends old.pes after)
    (λ (ends : Bool). AreIn (before ++ element ∷ []) (ended_behind ends ended after.held) new) c.add.ensures.ended c.add.ensures.last c.add.ensures.counts
    (λ ends is open_is counts. in_added before element ended old new c.place.result bytes ends c.requires.turned refl (sym same ∙ c.if-from-self.false) bytes_same (c.place.ensures ∙ place) is
    open_is counts was)
