use Rattle.std.proofs.Common.{◌++◌, ◌∷◌, [], ◌≤◌, Bool, subst, arith, length-append}
use Rattle.shelf_io.specs.Source.{source_bytes_most}
use Rattle.ts_demux.proofs.PassSteps.{passes_size}
use Rattle.pes_passing.specs.ElementPackets.{Goes, taken_of}
use Rattle.pes_passing.proofs.ElementSteps.{within}
use Rattle.pes_passing_tests.proofs.element_tests.all_places.Goals as goal

pub loop-more-init : goal.loop-more-init
loop-more-init g c = record { ended = []; passes = c.in-Ok.ensures.passed }

pub next-requires : goal.next-requires
next-requires g c = record { stands = (g.S.Source.left c.args.source.now, g.S.Source.most c.args.source.now, c.loop-more.invariant.ended, c.loop-more.invariant.passes) }

pub loop-more-preserved : goal.loop-more-preserved
loop-more-preserved g c =
    let inv = c.loop-more.invariant in
    let goes = subst (λ (more : Bool). Goes more (g.S.Source.left c.args.source.now) (g.S.Source.left c.next.new.source) (g.S.Source.most c.args.source.now) (g.S.Source.most c.next.new.source) inv.ended c.next.new.self)
    c.if-not-more.false (c.in-Ok-next.ensures.passed (g.S.Source.left c.args.source.now) (g.S.Source.most c.args.source.now) inv.ended inv.passes) in
    record { ended = inv.ended ++ goes.0 ∷ []; passes = goes.2 }

pub loop-more-smaller : goal.loop-more-smaller
loop-more-smaller g c =
    let left = g.S.Source.left c.args.source.now in
    let most = g.S.Source.most c.args.source.now in
    let inv = c.loop-more.invariant in
    let goes = subst (λ (more : Bool). Goes more left (g.S.Source.left c.next.new.source) most (g.S.Source.most c.next.new.source) inv.ended c.next.new.self)
    c.if-not-more.false (c.in-Ok-next.ensures.passed left most inv.ended inv.passes) in
    let few = within left (g.S.Source.left c.next.new.source) most (g.S.Source.most c.next.new.source) (inv.ended ++ goes.0 ∷ []) c.next.new.self goes.2 in
    omega (arith, inv.passes.are_in.count_is, goes.2.are_in.count_is, length-append inv.ended (goes.0 ∷ []), few.0, few.2)

pub taken-requires : goal.taken-requires
taken-requires g c =
    let left = g.S.Source.left c.args.source.now in
    let after = g.S.Source.left c.next.new.source in
    let most = g.S.Source.most c.args.source.now in
    let most_after = g.S.Source.most c.next.new.source in
    let inv = c.loop-more.invariant in
    let goes = subst (λ (more : Bool). Goes more left after most most_after inv.ended c.next.new.self) c.if-not-more.true (c.in-Ok-next.ensures.passed left most inv.ended inv.passes) in
    let fits : most ≤ source_bytes_most = g.met.S.Source.most_fits c.args.source.now in
    omega (arith, fits, goes.whole.1, length-append goes.seen [], passes_size left after most most_after [] goes.seen [] goes.passes)
