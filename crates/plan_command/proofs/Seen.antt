-- What was seen of each item of a list.
use Rattle.std.proofs.Common.{◌≡◌, ℕ, ◌+◌, ◌<◌, List, [], ◌∷◌, length, drop, get_or, sym}
use Rattle.std.specs.List.{AllByRecursion}
use Rattle.std.proofs.lemmas.List.{drop_more}
use Rattle.bound_certificate.specs.declared.cert.Node.{Node}
use Rattle.bound_certificate.specs.Cert.{HasRoom, IsOfVersion, NodeMayStand}

-- one item more was seen
pub one_seen : {A : Type 0} (P : A → Type 0) (C : Type 0) (items : List A) (i : ℕ) (item : A) → i < length items → item ≡ get_or items i item → P item
    → (AllByRecursion P (drop i items) → C) → AllByRecursion P (drop (i + 1) items) → C
one_seen P C items i item within is holds all rest = all (rw (drop_more items i item within, sym is) (holds, rest))

-- nodes of the version whose numbers have room may stand
pub may_stand : (version : ℕ) (nodes : List Node) → AllByRecursion (IsOfVersion version) nodes → AllByRecursion HasRoom nodes → AllByRecursion (NodeMayStand version) nodes
may_stand version [] are have = tt
may_stand version (node ∷ nodes) are have = ((are.0, have.0), may_stand version nodes are.1 have.1)
