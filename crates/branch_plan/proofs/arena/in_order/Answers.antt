use Rattle.std.proofs.Common.{◌≡◌, ℕ, ◌+◌, List, ◌++◌, ◌∷◌, [], set, ap, subst, sym, ◌∙◌, arith}
use Rattle.std.proofs.lemmas.List.{get_or_read}
use Rattle.bound_certificate.specs.declared.cert.Node.{Node}
use Rattle.bound_certificate.specs.declared.cert.Node.TheVariants.{Open}
use Rattle.branch_plan.specs.declared.arena.Link.{Link}
use Rattle.branch_plan.specs.Private.Growth.{next_of, node_of}
use Rattle.branch_plan.proofs.Arenas.{IsWritten, all_written, none_written, one_written}
use Rattle.branch_plan.proofs.arena.in_order.Goals as goal

pub loop-taken-init : goal.loop-taken-init
loop-taken-init c =
    λ ids order once.
    subst (λ (ws : List Node). IsWritten c.args.arena.nodes.items c.args.arena.links.items c.args.arena.nodes.items ws 0 0 ids) (sym (c.from_vec-nodes.ensures ∙ c.in_ok-with_capacity.ensures.items))
    (none_written c.args.arena.nodes.items c.args.arena.links.items ids order once)

pub take_node-node-requires : goal.take_node-node-requires
take_node-node-requires c =
    let nodes = c.args.arena.nodes.items in
    let links = c.args.arena.links.items in
    let ids = c.requires.order in
    let step = one_written nodes links c.loop-taken.left.items c.loop-taken.nodes c.loop-taken.at c.loop-taken._taken ids.0 (omega (arith, c.loop-taken-test.true, c.len-count.ensures))
    (c.loop-taken.invariant ids.0 ids.1 ids.2) in
    omega (arith, step.0, (c.loop-taken.invariant ids.0 ids.1 ids.2).size)

pub index-requires : goal.index-requires
index-requires c =
    let nodes = c.args.arena.nodes.items in
    let links = c.args.arena.links.items in
    let ids = c.requires.order in
    let step = one_written nodes links c.loop-taken.left.items c.loop-taken.nodes c.loop-taken.at c.loop-taken._taken ids.0 (omega (arith, c.loop-taken-test.true, c.len-count.ensures))
    (c.loop-taken.invariant ids.0 ids.1 ids.2) in
    omega (arith, step.0, c.requires.links)

pub loop-taken-preserved : goal.loop-taken-preserved
loop-taken-preserved c =
    let nodes = c.args.arena.nodes.items in
    let links = c.args.arena.links.items in
    let at = c.loop-taken.at in
    λ ids order once.
    let step = one_written nodes links c.loop-taken.left.items c.loop-taken.nodes at c.loop-taken._taken ids (omega (arith, c.loop-taken-test.true, c.len-count.ensures))
    (c.loop-taken.invariant ids order once) in
    let node_is : c.take_node-node.result ≡ node_of nodes at = c.take_node-node.ensures.node ∙ step.1 in
    let next_is = ap (λ (l : Link). l.next)
    (get_or_read links at c.index.result.now (omega (arith, step.0, c.requires.links)) c.index.ensures (record { parent = 0; unit = 0; version = 0; next = 0 })) in
    subst (λ (n : ℕ). IsWritten nodes links c.take_node-node.new.nodes.items c.push.new.self n (c.loop-taken._taken + 1) ids) (sym next_is)
    (subst (λ (ls : List Node). IsWritten nodes links ls c.push.new.self (next_of links at) (c.loop-taken._taken + 1) ids) (sym c.take_node-node.ensures.left)
    (subst (λ (ws : List Node). IsWritten nodes links (set c.loop-taken.left.items at Open) ws (next_of links at) (c.loop-taken._taken + 1) ids)
    (sym (c.in_ok-push.ensures.ok ∙ ap (λ (n : Node). c.loop-taken.nodes ++ n ∷ []) node_is)) step.2))

pub returns : goal.returns
returns c =
    λ ids order once.
    all_written c.args.arena.nodes.items c.args.arena.links.items c.loop-taken.left.items c.loop-taken.nodes c.loop-taken.at c.loop-taken._taken ids
    (omega (arith, c.loop-taken-test.false, c.len-count.ensures)) (c.loop-taken.invariant ids order once)
