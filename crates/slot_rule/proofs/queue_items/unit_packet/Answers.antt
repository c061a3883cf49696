use Rattle.std.proofs.Common.{◌≡◌, slice_get, slice_index, sym, subst, ◌∙◌}
use Rattle.std.proofs.lemmas.Option.{same_Some}
use Rattle.version_table.specs.declared.table.Unit.{Unit as CodedUnit}
use Rattle.version_table.specs.Choice.{version_at}
use Rattle.slot_rule.specs.Queues.{unit_packets}
use Rattle.slot_rule.proofs.Places.{slice_get_read_as}
use Rattle.slot_rule.proofs.UnitPieces.{HasSizes-version}
use Rattle.slot_rule.proofs.queue_items.unit_packet.Goals as goal

pub bounds-versions-place : goal.bounds-versions-place
bounds-versions-place c =
    let l = c.in_ok-unit.ensures.lookup in
    let there = slice_get_read_as c.as_slice.result.now c.args.row.now.units c.args.item c.in_ok-unit.unit.now c.as_slice.ensures l.3.0 l.1 in
    (HasSizes-version c.args.row.now.units c.args.versions.now c.args.item c.in_ok-unit.unit.now c.requires there).0

pub piece_of-requires-clause-version : goal.piece_of-requires-clause-version
piece_of-requires-clause-version c =
    let l = c.in_ok-unit.ensures.lookup in
    let there = slice_get_read_as c.as_slice.result.now c.args.row.now.units c.args.item c.in_ok-unit.unit.now c.as_slice.ensures l.3.0 l.1 in
    (HasSizes-version c.args.row.now.units c.args.versions.now c.args.item c.in_ok-unit.unit.now c.requires there).1

pub piece_of-requires-clause-some_bytes : goal.piece_of-requires-clause-some_bytes
piece_of-requires-clause-some_bytes c =
    let l = c.in_ok-unit.ensures.lookup in
    let there = slice_get_read_as c.as_slice.result.now c.args.row.now.units c.args.item c.in_ok-unit.unit.now c.as_slice.ensures l.3.0 l.1 in
    (HasSizes-version c.args.row.now.units c.args.versions.now c.args.item c.in_ok-unit.unit.now c.requires there).2

pub returns-clause-found : goal.returns-clause-found
returns-clause-found c unit there =
    let l = c.in_ok-unit.ensures.lookup in
    let same : c.in_ok-unit.unit.now ≡ unit =
    same_Some _ _ (sym (slice_get_read_as c.as_slice.result.now c.args.row.now.units c.args.item c.in_ok-unit.unit.now c.as_slice.ensures l.3.0 l.1) ∙ there) in
    subst (λ (u : CodedUnit). c.piece_of.result ≡ slice_get (unit_packets c.args.item u.due (version_at u (slice_index c.args.versions.now c.args.item)).bytes) c.args.piece) same c.piece_of.ensures
