use Rattle.std.proofs.Common.{List, ℕ, subst, sym}
use Rattle.std.specs.Option.{option_copied}
use Rattle.syntax_types.specs.declared.picture.SeqState.{SeqState}
use Rattle.version_source.specs.Sendable.{LeavesState}
use Rattle.version_source.proofs.PacketLemmas.{packet-of}
use Rattle.version_source.proofs.packet.unit_packet.Goals as goal

pub unit_version-requires-clause-picture : goal.unit_version-requires-clause-picture
unit_version-requires-clause-picture c =
    subst (λ (unit : List ℕ). (after : SeqState) × LeavesState (option_copied c.args.before) unit after) (sym c.unit_bytes-bytes.ensures.bytes) c.requires.picture

pub returns : goal.returns
returns c =
    packet-of c.args.es.now c.args.coarser.now (option_copied c.args.before) c.args.unit.now c.args.index c.unit_bytes-bytes.result.now _ c.in_ok-packet.packet
    c.unit_bytes-bytes.ensures.bytes c.in_ok-version.ensures c.in_ok-packet.ensures
