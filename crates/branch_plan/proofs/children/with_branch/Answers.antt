use Rattle.std.proofs.Common.{◌≡◌, ℕ, ◌+◌, ◌-◌, List, ◌++◌, Option, length, set, refl, rules, sym, ap, subst, ◌∙◌, arith}
use Rattle.std.proofs.lemmas.List.{get_or_read}
use Rattle.dual_bounds.specs.declared.windows.Window.{Window as PricedWindow}
use Rattle.dual_bounds.specs.Fixed.{FixesVersions}
use Rattle.multiplier_search.specs.Windows.{AreSearched}
use Rattle.bound_certificate.specs.declared.cert.Node.{Node}
use Rattle.bound_certificate.specs.declared.cert.Node.TheVariants.{Branch, Open}
use Rattle.bound_certificate.specs.Spelling.{bytes_of_node}
use Rattle.branch_plan.specs.declared.limits.TheConstants.{BRANCH_BYTES}
use Rattle.buffer_windows.specs.declared.windows.BufferWindow.{BufferWindow as SeeingWindow}
use Rattle.certificate_checker.specs.Shown.{versions_of}
use Rattle.branch_plan.specs.Private.Found.{AreShared, IsReachedAbove, buffers_of, time_of}
use Rattle.branch_plan.specs.Private.Growth.{node_of}
use Rattle.branch_plan.specs.Private.Leaves.{MayBranch}
use Rattle.branch_plan.specs.Private.Valued.{AreKept, values_of}
use Rattle.branch_plan.proofs.Valued.{buffers_same, kept_for, no_value, valued_as}
use Rattle.branch_plan.proofs.Reaching.{reached_above, time_few, time_searched}
use Rattle.certificate_checker.proofs.Units.{few_versions_of}
use Rattle.std.specs.BinaryHeap.{heap_items}
use Rattle.branch_plan.specs.Private.Branching.{AreChildren, AreLinkedBehind, tree_bytes}
use Rattle.branch_plan.proofs.Stepping.{branched_growth, made_within, place_open}
use Rattle.branch_plan.proofs.TreeBytes.{one_within}
use Rattle.branch_plan.proofs.children.with_branch.Goals as goal

pub index-requires : goal.index-requires
index-requires c = omega (arith, (place_open c.args.table.now c.args.nodes c.requires.place.bound c.args.place.number c.args.growth c.requires.place.taken).within)

pub index-requires-2 : goal.index-requires-2
index-requires-2 c = omega (arith, (place_open c.args.table.now c.args.nodes c.requires.place.bound c.args.place.number c.args.growth c.requires.place.taken).within)

pub index-values-requires : goal.index-values-requires
index-values-requires c =
    omega (
      arith,
      (place_open c.args.table.now c.args.nodes c.requires.place.bound c.args.place.number c.args.growth c.requires.place.taken).within,
      c.requires.place.taken.valued.as_many,
    )

pub children_of-requires-clause-values : goal.children_of-requires-clause-values
children_of-requires-clause-values c =
    let is = c.requires.place in
    let table = c.args.table.now in
    let growth = c.args.growth in
    let number = c.args.place.number in
    let seeing = growth.found.buffers in
    let others = growth.found.time.items in
    let values = growth.arena.values.items in
    let own = node_of growth.arena.nodes.items number in
    let at = place_open table c.args.nodes is.bound number growth is.taken in
    let node = get_or_read growth.arena.nodes.items number c.index.result.now at.within c.index.ensures Open in
    let value = get_or_read values number c.index-values.result.now (omega (arith, at.within, is.taken.valued.as_many)) c.index-values.ensures no_value in
    let kept = kept_for table seeing others c.args.place.fixed own c.index-values.result.now at.may.has
    (valued_as table seeing c.args.place.fixed (is.taken.grown.path number) own own c.index-values.result.now (values_of values number) is.fixed refl value
    (is.taken.valued.each number at.within)) in
    subst (λ (ws : List PricedWindow). AreKept table c.args.place.fixed ws seeing c.index-values.result.now) (sym (c.time_of-windows.ensures ∙ ap (λ (n : Node). time_of n others) node)) kept

pub children_of-requires-clause-fixed : goal.children_of-requires-clause-fixed
children_of-requires-clause-fixed c =
    let is = c.requires.place in
    let at = (place_open c.args.table.now c.args.nodes is.bound c.args.place.number c.args.growth is.taken).within in
    subst (λ (f : List (Option ℕ)). FixesVersions c.args.table.now f) (sym is.fixed) (is.taken.grown.is.fixes c.args.place.number at)

pub children_of-requires-clause-windows : goal.children_of-requires-clause-windows
children_of-requires-clause-windows c =
    let is = c.requires.place in
    let at = place_open c.args.table.now c.args.nodes is.bound c.args.place.number c.args.growth is.taken in
    let node = get_or_read c.args.growth.arena.nodes.items c.args.place.number c.index.result.now at.within c.index.ensures Open in
    subst (λ (ws : List PricedWindow). AreSearched ws) (sym (c.time_of-windows.ensures ∙ ap (λ (n : Node). time_of n c.args.growth.found.time.items) node))
    (time_searched (node_of c.args.growth.arena.nodes.items c.args.place.number) c.args.growth.found.time.items at.searched.0 is.taken.founded.sound.time)

pub children_of-requires-clause-few_windows : goal.children_of-requires-clause-few_windows
children_of-requires-clause-few_windows c =
    let is = c.requires.place in
    let at = place_open c.args.table.now c.args.nodes is.bound c.args.place.number c.args.growth is.taken in
    let node = get_or_read c.args.growth.arena.nodes.items c.args.place.number c.index.result.now at.within c.index.ensures Open in
    let own = node_of c.args.growth.arena.nodes.items c.args.place.number in
    subst (λ (ws : List PricedWindow). AreShared c.args.table.now c.args.nodes (length ws))
    (sym (c.time_of-windows.ensures ∙ ap (λ (n : Node). time_of n c.args.growth.found.time.items) node))
    (time_few c.args.table.now c.args.nodes own c.args.growth.found.time.items (is.taken.grown.each c.args.place.number at.within).few is.taken.founded.sound.few)

pub children_of-requires-clause-buffers : goal.children_of-requires-clause-buffers
children_of-requires-clause-buffers c = c.requires.place.taken.founded.sound.buffers

pub kept_bound-requires-clause-time : goal.kept_bound-requires-clause-time
kept_bound-requires-clause-time c = c.requires.place.taken.founded.least

pub children_of-requires-clause-floor : goal.children_of-requires-clause-floor
children_of-requires-clause-floor c =
    let is = c.requires.place in
    let table = c.args.table.now in
    let growth = c.args.growth in
    let place = c.args.place in
    let at = place_open table c.args.nodes is.bound place.number growth is.taken in
    let own = node_of growth.arena.nodes.items place.number in
    let first = get_or_read growth.arena.nodes.items place.number c.index.result.now at.within c.index.ensures Open in
    let windows_are : c.time_of-windows.result.items ≡ time_of own growth.found.time.items = c.time_of-windows.ensures ∙ ap (λ (n : Node). time_of n growth.found.time.items) first in
    let buffers_are : buffers_of own growth.found.buffers ≡ growth.found.buffers =
    buffers_same table growth.found.buffers (is.taken.grown.path place.number) own (values_of growth.arena.values.items place.number) (is.taken.valued.each place.number at.within) in
    let may = subst (λ (f : List (Option ℕ)). MayBranch table f own is.bound) (sym is.fixed) at.may in
    let fixes = subst (λ (f : List (Option ℕ)). FixesVersions table f) (sym is.fixed) (is.taken.grown.is.fixes place.number at.within) in
    subst (λ (bs : List SeeingWindow). IsReachedAbove table place.fixed place.unit c.time_of-windows.result.items bs c.kept_bound.result) buffers_are
    (subst (λ (ws : List PricedWindow). IsReachedAbove table place.fixed place.unit ws (buffers_of own growth.found.buffers) c.kept_bound.result) (sym windows_are)
    (reached_above table place.fixed place.unit own growth.found is.bound growth.root c.kept_bound.result growth.time fixes may at.at_least c.kept_bound.ensures.most is.taken.founded.time_is c.kept_bound.ensures.other))

pub link_children-requires-clause-number : goal.link_children-requires-clause-number
link_children-requires-clause-number c =
    let is = c.requires.place in
    let at = (place_open c.args.table.now c.args.nodes is.bound c.args.place.number c.args.growth is.taken).within in
    omega (arith, at, is.taken.grown.is.as_many)

pub link_children-requires-clause-count : goal.link_children-requires-clause-count
link_children-requires-clause-count c =
    let versions = few_versions_of c.args.table.now c.args.place.unit c.requires.valid in
    omega (arith, versions, c.in_ok-made.ensures.children.count, c.len.ensures)

pub index_mut-requires : goal.index_mut-requires
index_mut-requires c = omega (arith, (place_open c.args.table.now c.args.nodes c.requires.place.bound c.args.place.number c.args.growth c.requires.place.taken).within)

pub returns-clause-branched : goal.returns-clause-branched
returns-clause-branched c =
    let table = c.args.table.now in
    let growth = c.args.growth in
    let place = c.args.place in
    let is = c.requires.place in
    let nodes = growth.arena.nodes.items in
    let children = c.in_ok-made.field-0 in
    let versions = versions_of table place.unit in
    let floor = c.kept_bound.result in
    let first_is : c.len-first.result ≡ length nodes = omega (arith, c.len-first.ensures) in
    let kids : AreChildren table c.args.nodes floor place.fixed place.unit (length nodes) versions children.nodes.items (heap_items growth.leaves) (heap_items children.leaves)
    children.known.distortion =
    subst (λ (n : ℕ). AreChildren table c.args.nodes floor place.fixed place.unit n versions children.nodes.items (heap_items growth.leaves) (heap_items children.leaves) children.known.distortion) first_is
    c.in_ok-made.ensures.children in
    let count_is : c.len.result ≡ versions = omega (arith, c.in_ok-made.ensures.children.count, c.len.ensures) in
    let linked : AreLinkedBehind place.number place.unit versions growth.arena.links.items c.link_children.new.links.items =
    subst (λ (n : ℕ). AreLinkedBehind place.number place.unit n growth.arena.links.items c.link_children.new.links.items) count_is c.in_ok-link_children.ensures in
    let nodes_is : c.append.new.self.items ≡ set nodes place.number (Branch place.unit) ++ children.nodes.items = search rules in
    let values_is : c.append-2.new.self.items ≡ growth.arena.values.items ++ children.values.items = search rules in
    let within = (place_open table c.args.nodes is.bound place.number growth is.taken).within in
    let old : c.node_bytes.result ≡ length (bytes_of_node (node_of nodes place.number)) =
    c.node_bytes.ensures.is ∙ ap (λ (n : Node). length (bytes_of_node n)) (get_or_read nodes place.number c.index-3.result.now within c.index-3.ensures Open) in
    let more = ap (λ (ns : List Node). tree_bytes ns) c.as_slice.ensures.value in
    let bytes_is : c.args.growth.bytes - c.node_bytes.result + BRANCH_BYTES + c.nodes_bytes.result + length (bytes_of_node (node_of nodes place.number))
    ≡ c.args.growth.bytes + BRANCH_BYTES + tree_bytes children.nodes.items = omega (arith, old, one_within nodes place.number within, is.taken.bytes.are, c.nodes_bytes.ensures, more) in
    branched_growth table c.args.nodes growth _ place children.nodes.items children.values.items growth.arena.links.items is kids linked
    c.in_ok-made.ensures.known c.in_ok-made.ensures.kept c.in_ok-made.ensures.order nodes_is c.in_ok-made.ensures.values values_is c.kept_bound.ensures.most c.kept_bound.ensures.least c.kept_bound.ensures.fits refl refl bytes_is

pub index-requires-3 : goal.index-requires-3
index-requires-3 c = omega (arith, (place_open c.args.table.now c.args.nodes c.requires.place.bound c.args.place.number c.args.growth c.requires.place.taken).within)

pub overflow_sub-kept : goal.overflow_sub-kept
overflow_sub-kept c =
    let growth = c.args.growth in
    let is = c.requires.place in
    let nodes = growth.arena.nodes.items in
    let within = (place_open c.args.table.now c.args.nodes is.bound c.args.place.number growth is.taken).within in
    let old : c.node_bytes.result ≡ length (bytes_of_node (node_of nodes c.args.place.number)) =
    c.node_bytes.ensures.is ∙ ap (λ (n : Node). length (bytes_of_node n)) (get_or_read nodes c.args.place.number c.index-3.result.now within c.index-3.ensures Open) in
    omega (arith, old, one_within nodes c.args.place.number within, is.taken.bytes.are)

pub nodes_bytes-requires : goal.nodes_bytes-requires
nodes_bytes-requires c =
    let is = c.requires.place in
    let made = c.in_ok-made.field-0 in
    let kids = c.in_ok-made.ensures.children in
    let within = made_within c.args.table.now c.args.nodes (versions_of c.args.table.now c.args.place.unit) is.bytes.0 c.args.growth.found.buffers c.args.place.fixed c.args.place.unit
    made.nodes.items made.values.items is.bytes.1 kids.count kids.each c.in_ok-made.ensures.values in
    omega (arith, within, is.bytes.2, ap (λ (ns : List Node). tree_bytes ns) c.as_slice.ensures.value)

pub overflow_add-bytes-2 : goal.overflow_add-bytes-2
overflow_add-bytes-2 c =
    let is = c.requires.place in
    let made = c.in_ok-made.field-0 in
    let kids = c.in_ok-made.ensures.children in
    let within = made_within c.args.table.now c.args.nodes (versions_of c.args.table.now c.args.place.unit) is.bytes.0 c.args.growth.found.buffers c.args.place.fixed c.args.place.unit
    made.nodes.items made.values.items is.bytes.1 kids.count kids.each c.in_ok-made.ensures.values in
    omega (arith, within, is.bytes.2, c.nodes_bytes.ensures, ap (λ (ns : List Node). tree_bytes ns) c.as_slice.ensures.value)
