use Rattle.std.proofs.Common.{◌∙◌, rules, w64}
use Rattle.std.proofs.lemmas.Int.{to_z-of_z}
use mir.Val.{SFits}
use Rattle.impossible_proof.proofs.Balanced.{held}
use Rattle.impossible_proof.proofs.Scanned.{ending_by-is}
use Rattle.impossible_proof.proofs.scan.end_at.Goals as goal

pub returns : goal.returns
returns c =
    let fits : SFits w64 c.less_room.result = search rules in
    to_z-of_z w64 c.less_room.result fits ∙ c.less_room.ensures
    ∙ ending_by-is c.args.table.now c.args.needs.now c.args.due c.needed.result _ c.needed.ensures.value (held c.room_by.result c.room_by.ensures.small ∙ c.room_by.ensures.value)
