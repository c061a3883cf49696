use Rattle.stream_audit.proofs.StreamWatching.{clean-all}
use Rattle.stream_audit.proofs.stream_watch.StreamWatch.is_clean.Goals as goal

pub returns : goal.returns
returns c = λ yes start file pid slot kind removals parts taken begins dues.
    clean-all start c.args.self file pid slot kind removals parts taken begins
    (λ given watched rise. c.is_clean.ensures yes slot kind removals given watched rise dues)
    (λ given emptied rise. c.empties.ensures c.if-not-empties.false slot _ given emptied rise)
