use Rattle.std.proofs.Common.{List, ap, subst, sym}
use Rattle.bit_lists.specs.Payload.{Payload}
use Rattle.version_source.specs.Pieces.{HasPiece}
use Rattle.version_source.specs.Source.{told_of}
use Rattle.version_source.proofs.SourceLemmas.{new-items, new-sent}
use Rattle.version_source.proofs.source.VersionSource.new.Goals as goal

pub invariant_of-result : goal.invariant_of-result
invariant_of-result c =
    let chosen = c.new-chosen.result in
    let are = c.new-chosen.ensures in
    new-sent c.args.programs.now chosen.programs.now c.args.jobs.now chosen.jobs.now c.args.choice.now chosen.choice.now c.in_ok-sent.sent.items are.programs are.jobs are.choice c.requires.as_many
    c.requires.sendable c.requires.names c.in_ok-sent.ensures.sent

pub returns-clause-told : goal.returns-clause-told
returns-clause-told c = λ versions those.
    let chosen = c.new-chosen.result in
    let are = c.new-chosen.ensures in
    ap (λ (items : List (List (List Payload))). told_of items)
    (new-items c.args.programs.now chosen.programs.now c.args.jobs.now chosen.jobs.now c.args.choice.now chosen.choice.now chosen.made versions are.programs are.jobs are.choice those)

pub returns-clause-has : goal.returns-clause-has
returns-clause-has c = λ versions those stream item piece has.
    let chosen = c.new-chosen.result in
    let are = c.new-chosen.ensures in
    subst (λ (items : List (List (List Payload))). HasPiece items stream item piece)
    (sym (new-items c.args.programs.now chosen.programs.now c.args.jobs.now chosen.jobs.now c.args.choice.now chosen.choice.now chosen.made versions are.programs are.jobs are.choice those)) has
