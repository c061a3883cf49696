use Rattle.std.proofs.Common.{◌∙◌, rules, w64}
use Rattle.std.proofs.lemmas.Int.{to_z-of_z}
use mir.Val.{SFits}
use Rattle.impossible_proof.proofs.FirstWindow.{due_in_time, found_answers, no_beginning}
use Rattle.impossible_proof.proofs.window.first_window_to.Goals as goal

pub first_from-requires-clause-due : goal.first_from-requires-clause-due
first_from-requires-clause-due c = due_in_time c.args.table.now c.args.needs.now c.requires.needs c.args.due c.requires.end

pub returns-in-Some : goal.returns-in-Some
returns-in-Some c =
    let fits : SFits w64 c.window_capacity.result = search rules in
    found_answers c.args.table.now c.args.needs.now c.requires.valid c.requires.needs _ c.requires.end c.in-Some.ensures c.needed.ensures.value
    (to_z-of_z w64 c.window_capacity.result fits ∙ c.window_capacity.ensures)

pub returns-in-None : goal.returns-in-None
returns-in-None c from due has = no_beginning c.args.table.now c.args.needs.now c.requires.valid c.requires.needs c.args.due c.requires.end c.in-None.ensures
