use Rattle.std.proofs.Common.{◌≡◌, []}
use Rattle.tstd_model.proofs.WatchGoes.{found-none, held-none, main-none, tb-none}
use Rattle.tstd_model.proofs.WatchLaws.{passed-nothing}
use Rattle.tstd_model.proofs.packet_watch.PacketWatch.end.Goals as goal

pub returns-clause-tb : goal.returns-clause-tb
returns-clause-tb c = λ yes.
    let watch = c.args.self in
    ((c.and-judged.ensures.tb (c.and.ensures.tb yes).0).0, tb-none _ watch.tb.subticks watch.tb.slot watch.tb.before)

pub returns-clause-main : goal.returns-clause-main
returns-clause-main c = λ yes.
    let watch = c.args.self in
    let judged = c.and-judged.ensures.main (c.and.ensures.main yes).0 in
    (judged.0, main-none watch.kind watch (c.of.ensures.main judged.1))

pub returns-clause-found : goal.returns-clause-found
returns-clause-found c = λ yes.
    let watch = c.args.self in
    let both = c.and.ensures.found yes in
    let judged = c.and-judged.ensures.found both.0 in
    let none : watch.taken ≡ [] = passed-nothing c.take-more.result watch.taken c.take-more.new.self c.take-more.ensures (c.is_none-found.ensures both.1) in
    (judged.0, found-none watch.kind watch (c.of.ensures.found judged.1) none)

pub returns-clause-held : goal.returns-clause-held
returns-clause-held c = λ yes.
    let watch = c.args.self in
    let judged = c.and-judged.ensures.held (c.and.ensures.held yes).0 in
    (judged.0, held-none watch.kind watch (c.of.ensures.held judged.1))
