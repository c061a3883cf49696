use Rattle.std.proofs.Common.{refl, rules, ap, ◌∙◌, arith}
use Rattle.std.proofs.lemmas.List.{get_or_read}
use Rattle.branch_plan.specs.declared.arena.Link.{Link}
use Rattle.branch_plan.proofs.Linking.{linked_all, linked_more}
use Rattle.branch_plan.proofs.children.link_children.Goals as goal

pub loop-k-preserved : goal.loop-k-preserved
loop-k-preserved c =
    let links = c.args.links.now.items in
    let behind = ap (λ (l : Link). l.next) (get_or_read links c.args.number c.index.result.now c.requires.number c.index.ensures (record { parent = 0; unit = 0; version = 0; next = 0 })) in
    linked_more c.args.number c.args.unit c.args.count c.loop-k.k links c.loop-k.links.items c.push.new.self.items _ c.requires.number c.loop-k.invariant (search rules) refl refl refl
    (λ less. omega (arith, c.next_behind.ensures.rise less, c.len-first.ensures)) (λ last. c.next_behind.ensures.last last ∙ behind)

pub returns : goal.returns
returns c =
    linked_all c.args.number c.args.unit c.args.count c.loop-k.k c.args.links.now.items c.loop-k.links.items (omega (arith, c.loop-k-test.false, c.loop-k.auto.k-end)) c.requires.some
    c.loop-k.invariant
