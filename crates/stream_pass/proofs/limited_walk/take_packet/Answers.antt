use Rattle.std.proofs.Common.{◌≡◌, ◌+◌, ◌++◌, ◌∷◌, [], ℕ, length, refl, sym, ap, subst, ◌∙◌}
use Rattle.std.specs.Option.{option_copied}
use Rattle.ts_demux.specs.declared.demuxed.PesUnit.{PesUnit}
use Rattle.stream_pass.specs.StreamWalk.{AreFew}
use Rattle.stream_pass.specs.Private.Passed.{AreReadTo}
use Rattle.stream_pass.proofs.Passed.{added, few_front, given_is}
use Rattle.stream_pass.proofs.limited_walk.take_packet.Goals as goal

pub returns-in-Ok : goal.returns-in-Ok
returns-in-Ok g c start ended next is taken =
    let has_read = g.W.StreamWalk.has_read start in
    let refuses = g.W.StreamWalk.refuses start in
    let given : PesUnit = c.in-Some.packet.now in
    let same : next ≡ given = given_is ended next (option_copied c.args.packet) is given (ap option_copied c.in-Some.is) in
    added has_read refuses ended next c.args.passed c.in-Ok.state (c.args.passed.count + 1) (c.args.passed.bytes + c.len.result) refl
    (ap (λ (n : ℕ). c.args.passed.bytes + n) (c.len.ensures ∙ ap (λ (p : PesUnit). length p.bytes) (sym same))) taken
    (λ few. subst (λ (p : PesUnit). AreReadTo has_read refuses (ended ++ p ∷ []) c.in-Ok.state) (sym same)
    (c.in-Ok.ensures start ended (subst (λ (p : PesUnit). AreFew (ended ++ p ∷ [])) same few) (taken.read (few_front ended (next ∷ []) few))))
