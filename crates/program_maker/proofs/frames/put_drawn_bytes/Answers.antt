use Rattle.std.proofs.Common.{◌≡◌, ◌++◌, ◌∷◌, [], ℕ, List, refl, ap, subst, ◌∙◌, append_assoc, arith}
use Rattle.std.specs.List.{range_with_len}
use Rattle.program_maker.specs.Draws.{pick, draw_each}
use Rattle.program_maker.specs.Streams.{drawn_bytes}
use Rattle.program_maker.proofs.Drawing.{drawn-more}
use Rattle.program_maker.proofs.frames.put_drawn_bytes.Goals as goal

pub loop-i-preserved : goal.loop-i-preserved
loop-i-preserved c =
    let start = c.args.draws.now.state in
    let before : List ℕ = c.args.pes.now.items in
    let made : List ℕ = (draw_each (range_with_len 0 c.loop-i._i) (λ _. pick 255) start).0 in
    let x = c.pick.result in
    let more = drawn-more (λ _. pick 255) c.loop-i._i start made (made ++ x ∷ []) x c.loop-i.draws.state c.pick.new.self.state
    (refl, c.loop-i.invariant.1) c.pick.ensures.number c.pick.ensures.state refl in
    (c.in_ok-push.ensures.items ∙ ap (λ xs. xs ++ x ∷ []) c.loop-i.invariant.0 ∙ append_assoc before made (x ∷ []) ∙ ap (λ xs. before ++ xs) more.0, more.1)

pub returns-clause-made : goal.returns-clause-made
unfolding drawn_bytes
returns-clause-made c =
    let all : c.loop-i._i ≡ 572 = omega (arith, c.loop-i-test.false, c.loop-i.auto._i-end) in
    subst (λ i. c.loop-i.pes.items ≡ c.args.pes.now.items ++ (draw_each (range_with_len 0 i) (λ _. pick 255) c.args.draws.now.state).0) all c.loop-i.invariant.0

pub returns-clause-state : goal.returns-clause-state
unfolding drawn_bytes
returns-clause-state c =
    let all : c.loop-i._i ≡ 572 = omega (arith, c.loop-i-test.false, c.loop-i.auto._i-end) in
    subst (λ i. c.loop-i.draws.state ≡ (draw_each (range_with_len 0 i) (λ _. pick 255) c.args.draws.now.state).1) all c.loop-i.invariant.1
