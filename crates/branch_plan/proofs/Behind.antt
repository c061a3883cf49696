-- What stands behind a tree that shows a bound: one thing, told by the nodes that it begins with.
use Rattle.std.proofs.Common.{◌≡◌, ℕ, zero, suc, ◌+◌, ◌⊎◌, inl, inr, List, [], ◌∷◌, length, Option, None, refl, sym, ap, subst}
use Rattle.version_table.specs.declared.table.Table.{Table}
use Rattle.bound_certificate.specs.declared.cert.Node.{Node}
use Rattle.bound_certificate.specs.declared.cert.Node.TheVariants.{Branch}
use Rattle.certificate_checker.specs.declared.why.Why.{Why}
use Rattle.certificate_checker.specs.declared.why.Why.TheVariants as whys
use Rattle.certificate_checker.specs.Shown.{bound_of_leaf, fix, versions_of}
use Rattle.certificate_checker.specs.Faults.{IsRight}
use Rattle.certificate_checker.specs.Walk.{IsLeaf, Shows, Stops, Walked, Walks, WalksEach, beside, missing, wrong, leaf, branch, none, stop, next}
use Rattle.certificate_checker.proofs.Outcomes.{branch_unit}

-- ---- a tree that shows a bound, taken apart at its first node
abbrev pub ShowsFrom : Table → List (Option ℕ) → List Node → Walked → Type 0
ShowsFrom table fixed nodes (Stops why left) = Unit {0}
ShowsFrom table fixed [] (Shows bound behind) = ⊥
ShowsFrom table fixed (node ∷ nodes) (Shows bound behind) =
    (IsLeaf node × (behind ≡ nodes))
    ⊎ ((unit : ℕ) × (node ≡ Branch unit) × IsRight table fixed node × WalksEach table fixed unit 0 (versions_of table unit) nodes (Shows bound behind))

from_branch : (table : Table) (fixed : List (Option ℕ)) (unit : ℕ) (nodes : List Node) (walked : Walked) → IsRight table fixed (Branch unit)
    → WalksEach table fixed unit 0 (versions_of table unit) nodes walked → ShowsFrom table fixed (Branch unit ∷ nodes) walked
from_branch table fixed unit nodes (Shows bound behind) right each = inr (unit, refl, right, each)
from_branch table fixed unit nodes (Stops why left) right each = tt

pub shows_from : (table : Table) (fixed : List (Option ℕ)) (nodes : List Node) (walked : Walked) → Walks table fixed nodes walked → ShowsFrom table fixed nodes walked
shows_from table fixed nodes walked (missing f) = tt
shows_from table fixed nodes walked (wrong f node behind why first) = tt
shows_from table fixed nodes walked (leaf f node behind is right) = inl (is, refl)
shows_from table fixed nodes walked (branch f unit behind w right each) = from_branch table f unit behind w right each

-- the children of a branch
abbrev pub EachFrom : Table → List (Option ℕ) → (unit k children : ℕ) → List Node → Walked → Type 0
EachFrom table fixed unit k children nodes (Stops why left) = Unit {0}
EachFrom table fixed unit k zero nodes (Shows bound behind) = behind ≡ nodes
EachFrom table fixed unit k (suc more) nodes (Shows bound behind) =
    (first : Option ℕ) × (middle : List Node) × (last : Option ℕ) × Walks table (fix unit k fixed) nodes (Shows first middle)
    × WalksEach table fixed unit (k + 1) more middle (Shows last behind)

from_next : (table : Table) (fixed : List (Option ℕ)) (unit k more : ℕ) (nodes behind : List Node) (bound : Option ℕ) (walked : Walked)
    → Walks table (fix unit k fixed) nodes (Shows bound behind) → WalksEach table fixed unit (k + 1) more behind walked
    → EachFrom table fixed unit k (suc more) nodes (beside bound walked)
from_next table fixed unit k more nodes behind bound (Shows other rest) first others = (bound, behind, other, first, others)
from_next table fixed unit k more nodes behind bound (Stops why left) first others = tt

pub each_from : (table : Table) (fixed : List (Option ℕ)) (unit k children : ℕ) (nodes : List Node) (walked : Walked) → WalksEach table fixed unit k children nodes walked
    → EachFrom table fixed unit k children nodes walked
each_from table fixed unit k children nodes walked (none f u i ns) = refl
each_from table fixed unit k children nodes walked (stop f u i more ns why left first) = tt
each_from table fixed unit k children nodes walked (next f u i more ns behind bound w first others) = from_next table f u i more ns behind bound w first others

-- ---- behind a tree that shows a bound stands one thing
abbrev pub AreAlike : Walked → Walked → Type 0
AreAlike a (Stops why left) = Unit {0}
AreAlike (Stops why left) (Shows bound behind) = Unit {0}
AreAlike (Shows bound behind) (Shows other rest) = behind ≡ rest

stops_alike : (why : Why) (left : ℕ) (b : Walked) → AreAlike (Stops why left) b
stops_alike why left (Shows bound behind) = tt
stops_alike why left (Stops other also) = tt

alike_leaf : (table : Table) (fixed : List (Option ℕ)) (node : Node) (behind : List Node) (bound : Option ℕ) (b : Walked) → IsLeaf node → ShowsFrom table fixed (node ∷ behind) b
    → AreAlike (Shows bound behind) b
alike_leaf table fixed node behind bound (Shows other rest) is (inl second) = sym second.1
alike_leaf table fixed node behind bound (Shows other rest) is (inr (unit, same, right, each)) = absurd (subst (λ (n : Node). IsLeaf n) same is)
alike_leaf table fixed node behind bound (Stops why left) is second = tt

-- the children of a branch on the same unit
pub moved : (table : Table) (fixed : List (Option ℕ)) (unit other : ℕ) (nodes : List Node) (walked : Walked) → Branch unit ≡ Branch other
    → WalksEach table fixed other 0 (versions_of table other) nodes walked → WalksEach table fixed unit 0 (versions_of table unit) nodes walked
moved table fixed unit other nodes walked same each =
    subst (λ (u : ℕ). WalksEach table fixed u 0 (versions_of table u) nodes walked) (sym (ap (λ (n : Node). branch_unit n) same)) each

alike_branch : (table : Table) (fixed : List (Option ℕ)) (unit : ℕ) (nodes : List Node) (a b : Walked)
    → ((other : Walked) → WalksEach table fixed unit 0 (versions_of table unit) nodes other → AreAlike a other) → ShowsFrom table fixed (Branch unit ∷ nodes) b → AreAlike a b
alike_branch table fixed unit nodes a (Shows bound behind) one (inl second) = absurd second.0
alike_branch table fixed unit nodes a (Shows bound behind) one (inr (other, same, right, each)) = one (Shows bound behind) (moved table fixed unit other nodes (Shows bound behind) same each)
alike_branch table fixed unit nodes a (Stops why left) one second = tt

alike_none : (table : Table) (fixed : List (Option ℕ)) (unit k : ℕ) (nodes : List Node) (b : Walked) → EachFrom table fixed unit k zero nodes b → AreAlike (Shows None nodes) b
alike_none table fixed unit k nodes (Shows bound behind) second = sym second
alike_none table fixed unit k nodes (Stops why left) second = tt

beside_alike : (bound last other : Option ℕ) (rest : List Node) (walked : Walked) → AreAlike walked (Shows last rest) → AreAlike (beside bound walked) (Shows other rest)
beside_alike bound last other rest (Shows also behind) same = same
beside_alike bound last other rest (Stops why left) same = tt

alike_next : (table : Table) (fixed : List (Option ℕ)) (unit k more : ℕ) (nodes behind : List Node) (bound : Option ℕ) (walked b : Walked)
    → ((other : Walked) → Walks table (fix unit k fixed) nodes other → AreAlike (Shows bound behind) other)
    → ((other : Walked) → WalksEach table fixed unit (k + 1) more behind other → AreAlike walked other) → EachFrom table fixed unit k (suc more) nodes b → AreAlike (beside bound walked) b
alike_next table fixed unit k more nodes behind bound walked (Shows shown rest) one others (first, middle, last, walk, each) =
    let same : behind ≡ middle = one (Shows first middle) walk in
    beside_alike bound last shown rest walked
    (others (Shows last rest) (subst (λ (ns : List Node). WalksEach table fixed unit (k + 1) more ns (Shows last rest)) (sym same) each))
alike_next table fixed unit k more nodes behind bound walked (Stops why left) one others second = tt

mutual
  pub same_walk : (table : Table) (fixed : List (Option ℕ)) (nodes : List Node) (a : Walked) → Walks table fixed nodes a → (b : Walked) → Walks table fixed nodes b → AreAlike a b
  same_walk table fixed nodes a (missing f) b second = stops_alike whys.NoNode 0 b
  same_walk table fixed nodes a (wrong f node behind why first) b second = stops_alike why (suc (length behind)) b
  same_walk table fixed nodes a (leaf f node behind is right) b second = alike_leaf table f node behind (bound_of_leaf table f node) b is (shows_from table f (node ∷ behind) b second)
  same_walk table fixed nodes a (branch f unit behind w right each) b second =
      alike_branch table f unit behind w b (λ other also. same_each table f unit 0 (versions_of table unit) behind w each other also)
      (shows_from table f (Branch unit ∷ behind) b second)

  same_each : (table : Table) (fixed : List (Option ℕ)) (unit k children : ℕ) (nodes : List Node) (a : Walked) → WalksEach table fixed unit k children nodes a
      → (b : Walked) → WalksEach table fixed unit k children nodes b → AreAlike a b
  same_each table fixed unit k children nodes a (none f u i ns) b second = alike_none table f u i ns b (each_from table f u i zero ns b second)
  same_each table fixed unit k children nodes a (stop f u i more ns why left first) b second = stops_alike why left b
  same_each table fixed unit k children nodes a (next f u i more ns behind bound w first others) b second =
      alike_next table f u i more ns behind bound w b (λ other also. same_walk table (fix u i f) ns (Shows bound behind) first other also)
      (λ other also. same_each table f u (i + 1) more behind w others other also) (each_from table f u i (suc more) ns b second)
