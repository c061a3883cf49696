-- The loop over the nodes: what comes of those that are left comes of all.
use Rattle.std.proofs.Common.{◌≡◌, ℕ, suc, ◌+◌, ◌<◌, ◌≤◌, List, [], ◌∷◌, length, reverse, get_or, drop, Option, sym, ap, subst, ◌∙◌, arith}
use Rattle.std.proofs.lemmas.List.{drop_all, drop_more, length-drop}
use Rattle.version_table.specs.declared.table.Table.{Table}
use Rattle.bound_certificate.specs.declared.cert.Node.{Node}
use Rattle.certificate_checker.specs.declared.path.Next.TheVariants.{Needed, Whole}
use Rattle.certificate_checker.specs.declared.path.OpenBranch.{OpenBranch}
use Rattle.certificate_checker.specs.declared.path.Path.{Path}
use Rattle.certificate_checker.specs.declared.why.Why.{Why}
use Rattle.certificate_checker.specs.declared.why.Why.TheVariants as whys
use Rattle.certificate_checker.specs.Shown.{unfixed}
use Rattle.certificate_checker.specs.Faults.{IsFirstOfNode}
use Rattle.certificate_checker.specs.Walk.{Shows, Stops, Walked, Walks, missing, wrong}
use Rattle.certificate_checker.specs.Private.Paths.{Ahead, IsFaultIn, IsTaken, Resumes}
use Rattle.certificate_checker.proofs.Paths.{stops_whole}

-- what comes of these nodes comes of all
abbrev pub IsAllOf : Table → (all : List Node) → Path → (left : List Node) → Type 0
IsAllOf table all path left = (whole : Walked) → Ahead table path left whole → Walks table (unfixed table) all whole

pub at_first : (table : Table) (all : List Node) (path : Path) → path.fixed.items ≡ unfixed table → path.branches.items ≡ [] → IsAllOf table all path all
at_first table all path fixed branches whole (walked, walks, completes) =
    let here : Walks table (unfixed table) all walked = subst (λ (f : List (Option ℕ)). Walks table f all walked) fixed walks in
    let same : walked ≡ whole = subst (λ (bs : List OpenBranch). Resumes table path.fixed.items (reverse bs) walked whole) branches completes in
    subst (λ (w : Walked). Walks table (unfixed table) all w) same here

pub one_more : (table : Table) (all : List Node) (old new : Path) (at : ℕ) (node : Node) → at < length all → node ≡ get_or all at node → IsAllOf table all old (drop at all)
    → IsTaken table old new node Needed → IsAllOf table all new (drop (at + 1) all)
one_more table all old new at node within is ahead taken whole further =
    let split : drop at all ≡ node ∷ drop (at + 1) all = drop_more all at node within ∙ ap (λ (n : Node). n ∷ drop (at + 1) all) (sym is) in
    ahead whole (subst (λ (ns : List Node). Ahead table old ns whole) (sym split) (taken (drop (at + 1) all) whole further))

pub whole_shown : (table : Table) (all : List Node) (old new : Path) (at : ℕ) (node : Node) (shown : Option ℕ) → at < length all → node ≡ get_or all at node → IsAllOf table all old (drop at all)
    → IsTaken table old new node (Whole shown) → Walks table (unfixed table) all (Shows shown (drop (at + 1) all))
whole_shown table all old new at node shown within is ahead taken =
    let split : drop at all ≡ node ∷ drop (at + 1) all = drop_more all at node within ∙ ap (λ (n : Node). n ∷ drop (at + 1) all) (sym is) in
    let rest : List Node = drop (at + 1) all in
    ahead (Shows shown rest) (subst (λ (ns : List Node). Ahead table old ns (Shows shown rest)) (sym split) (taken rest))

pub wrong_in : (table : Table) (all : List Node) (path : Path) (at : ℕ) (node : Node) (why : Why) → at < length all → node ≡ get_or all at node → IsAllOf table all path (drop at all)
    → IsFirstOfNode table path.fixed.items node why → IsFaultIn table all (record { node = at; why = why })
wrong_in table all path at node why within is ahead first =
    let rest : List Node = drop (at + 1) all in
    let split : drop at all ≡ node ∷ rest = drop_more all at node within ∙ ap (λ (n : Node). n ∷ rest) (sym is) in
    let stopped : Walked = Stops why (suc (length rest)) in
    let here : Ahead table path (node ∷ rest) stopped =
    (stopped, wrong path.fixed.items node rest why first, stops_whole table path.fixed.items (reverse path.branches.items) why (suc (length rest))) in (
      suc (length rest),
      ahead stopped (subst (λ (ns : List Node). Ahead table path ns stopped) (sym split) here),
      omega (arith, length-drop (at + 1) all, within),
    )

pub missing_in : (table : Table) (all : List Node) (path : Path) (at n : ℕ) → length all ≤ at → n ≡ length all → IsAllOf table all path (drop at all)
    → IsFaultIn table all (record { node = n; why = whys.NoNode })
missing_in table all path at n past is ahead =
    let none : drop at all ≡ [] = drop_all at all past in
    let stopped : Walked = Stops whys.NoNode 0 in
    let here : Ahead table path [] stopped = (stopped, missing path.fixed.items, stops_whole table path.fixed.items (reverse path.branches.items) whys.NoNode 0) in
    (0, ahead stopped (subst (λ (ns : List Node). Ahead table path ns stopped) (sym none) here), omega (arith, is))
