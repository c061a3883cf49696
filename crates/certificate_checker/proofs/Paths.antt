-- One node more on the way through a tree: a branch entered, a child closed, a branch closed.
use Rattle.std.proofs.Common.{
  ◌≡◌,
  ℕ,
  zero,
  suc,
  ◌+◌,
  ◌-◌,
  ◌<◌,
  ◌≤◌,
  min,
  List,
  [],
  ◌∷◌,
  ◌++◌,
  length,
  reverse,
  get_or,
  set,
  Option,
  Some,
  None,
  refl,
  sym,
  ap,
  subst,
  ◌∙◌,
  arith,
}
use Rattle.std.proofs.lemmas.List.{get_or-set_same, set-set, set-get_or, reverse-append, length-reverse, length-set}
use Rattle.version_table.specs.declared.table.Table.{Table}
use Rattle.bound_certificate.specs.declared.cert.Node.{Node}
use Rattle.bound_certificate.specs.declared.cert.Node.TheVariants.{Branch}
use Rattle.certificate_checker.specs.declared.path.OpenBranch.{OpenBranch}
use Rattle.certificate_checker.specs.declared.why.Why.{Why}
use Rattle.certificate_checker.specs.Shown.{fix, lesser, version_left, versions_of}
use Rattle.certificate_checker.specs.Faults.{IsFree, IsRight}
use Rattle.certificate_checker.specs.Walk.{Shows, Stops, Walked, Walks, WalksEach, beside, branch, none, stop, next}
use Rattle.certificate_checker.specs.Private.Paths.{AreOpen, FromChild, Resumes, unfix, version_in}

-- ---- bounds beside each other
lesser_none : (a : Option ℕ) → lesser a None ≡ a
lesser_none None = refl
lesser_none (Some a) = refl

lesser_lesser : (a b c : Option ℕ) → lesser (lesser a b) c ≡ lesser a (lesser b c)
lesser_lesser None b c = refl
lesser_lesser (Some a) None c = refl
lesser_lesser (Some a) (Some b) None = refl
lesser_lesser (Some a) (Some b) (Some c) = let same : min (min a b) c ≡ min a (min b c) = omega arith in ap (λ (n : ℕ). Some n) same

beside_lesser : (a b : Option ℕ) (walked : Walked) → beside (lesser a b) walked ≡ beside a (beside b walked)
beside_lesser a b (Shows c behind) = ap (λ (x : Option ℕ). Shows x behind) (lesser_lesser a b c)
beside_lesser a b (Stops why left) = refl

beside_none : (walked : Walked) → beside None walked ≡ walked
beside_none (Shows c behind) = refl
beside_none (Stops why left) = refl

-- ---- what is fixed
pub unfix-fix : (unit k : ℕ) (fixed : List (Option ℕ)) → unfix unit (fix unit k fixed) ≡ unfix unit fixed
unfix-fix unit k fixed = set-set fixed unit (Some k) None

fix-unfix : (unit k : ℕ) (fixed : List (Option ℕ)) → fix unit k (unfix unit fixed) ≡ fix unit k fixed
fix-unfix unit k fixed = set-set fixed unit None (Some k)

pub unfix-free : (unit k : ℕ) (fixed : List (Option ℕ)) → IsFree fixed unit → unfix unit (fix unit k fixed) ≡ fixed
unfix-free unit k fixed free = unfix-fix unit k fixed ∙ ap (λ (entry : Option ℕ). set fixed unit entry) (sym free) ∙ set-get_or fixed unit None

pub version-fix : (unit k : ℕ) (fixed : List (Option ℕ)) → unit < length fixed → version_in (fix unit k fixed) unit ≡ k
version-fix unit k fixed within = ap version_left (get_or-set_same fixed unit (Some k) None within)

-- ---- what comes of the whole
joined : (table : Table) (before : List (Option ℕ)) (unit k : ℕ) (nodes : List Node) (walked each : Walked) → k < versions_of table unit → Walks table (fix unit k before) nodes walked
    → FromChild table before unit k walked each → WalksEach table before unit k (versions_of table unit - k) nodes each
joined table before unit k nodes (Shows bound behind) each within walks (others, more, is) =
    let count : suc (versions_of table unit - (k + 1)) ≡ versions_of table unit - k = omega (arith, within) in
    subst (λ (w : Walked). WalksEach table before unit k (versions_of table unit - k) nodes w) (sym is)
    (subst (λ (n : ℕ). WalksEach table before unit k n nodes (beside bound others)) count
    (next before unit k (versions_of table unit - (k + 1)) nodes behind bound others walks more))
joined table before unit k nodes (Stops why left) each within walks is =
    let count : suc (versions_of table unit - (k + 1)) ≡ versions_of table unit - k = omega (arith, within) in
    subst (λ (w : Walked). WalksEach table before unit k (versions_of table unit - k) nodes w) (sym is)
    (subst (λ (n : ℕ). WalksEach table before unit k n nodes (Stops why left)) count (stop before unit k (versions_of table unit - (k + 1)) nodes why left walks))

-- from the branch on: once this has come of the child of version k
abbrev pub IsResumed : Table → (before : List (Option ℕ)) → (unit k : ℕ) → Option ℕ → List OpenBranch → (walked whole : Walked) → Type 0
IsResumed table before unit k least outer walked whole = (each : Walked) × FromChild table before unit k walked each × Resumes table before outer (beside least each) whole

-- the same, where the child's version is fixed
resumed : (table : Table) (fixed before : List (Option ℕ)) (unit k : ℕ) (least : Option ℕ) (outer : List OpenBranch) (walked whole : Walked) → unit < length fixed
    → unfix unit (fix unit k fixed) ≡ before → Resumes table (fix unit k fixed) (record { unit = unit; least = least } ∷ outer) walked whole → IsResumed table before unit k least outer walked whole
resumed table fixed before unit k least outer walked whole within same resumes =
    let by_version : IsResumed table (unfix unit (fix unit k fixed)) unit k least outer walked whole =
    subst (λ (n : ℕ). IsResumed table (unfix unit (fix unit k fixed)) unit n least outer walked whole) (version-fix unit k fixed within) resumes in
    subst (λ (f : List (Option ℕ)). IsResumed table f unit k least outer walked whole) same by_version

pub next_child : (table : Table) (fixed : List (Option ℕ)) (own : OpenBranch) (outer : List OpenBranch) (bound : Option ℕ) (k : ℕ) → k ≡ version_in fixed own.unit + 1
    → own.unit < length fixed → k < versions_of table own.unit → (nodes : List Node) (walked whole : Walked) → Walks table (fix own.unit k fixed) nodes walked
    → Resumes table (fix own.unit k fixed) (record { unit = own.unit; least = lesser own.least bound } ∷ outer) walked whole
    → Resumes table fixed (own ∷ outer) (Shows bound nodes) whole
next_child table fixed own outer bound k k_is within some nodes walked whole walks resumes =
    let unit : ℕ = own.unit in
    let before : List (Option ℕ) = unfix unit fixed in
    let parts = resumed table fixed before unit k (lesser own.least bound) outer walked whole within (unfix-fix unit k fixed) resumes in
    let here : Walks table (fix unit k before) nodes walked = subst (λ (f : List (Option ℕ)). Walks table f nodes walked) (sym (fix-unfix unit k fixed)) walks in
    let each = joined table before unit k nodes walked parts.0 some here parts.1 in
    let last = subst (λ (n : ℕ). WalksEach table before unit n (versions_of table unit - n) nodes parts.0) k_is each in (
      beside bound parts.0,
      (parts.0, last, refl),
      subst (λ (w : Walked). Resumes table before outer w whole) (beside_lesser own.least bound parts.0) parts.2,
    )

pub last_child : (table : Table) (fixed : List (Option ℕ)) (own : OpenBranch) (outer : List OpenBranch) (bound : Option ℕ) → versions_of table own.unit ≤ version_in fixed own.unit + 1
    → (nodes : List Node) (whole : Walked) → Resumes table (unfix own.unit fixed) outer (Shows (lesser own.least bound) nodes) whole
    → Resumes table fixed (own ∷ outer) (Shows bound nodes) whole
last_child table fixed own outer bound all nodes whole resumes =
    let unit : ℕ = own.unit in
    let before : List (Option ℕ) = unfix unit fixed in
    let k : ℕ = version_in fixed unit + 1 in
    let no_more : zero ≡ versions_of table unit - k = omega (arith, all) in (
      Shows (lesser bound None) nodes,
      (Shows None nodes, subst (λ (n : ℕ). WalksEach table before unit k n nodes (Shows None nodes)) no_more (none before unit k nodes), refl),
      subst (λ (x : Option ℕ). Resumes table before outer (Shows (lesser own.least x) nodes) whole) (sym (lesser_none bound)) resumes,
    )

pub first_child : (table : Table) (fixed : List (Option ℕ)) (unit : ℕ) (outer : List OpenBranch) → IsRight table fixed (Branch unit) → unit < length fixed → 0 < versions_of table unit
    → (nodes : List Node) (walked whole : Walked) → Walks table (fix unit 0 fixed) nodes walked
    → Resumes table (fix unit 0 fixed) (record { unit = unit; least = None } ∷ outer) walked whole
    → (w : Walked) × Walks table fixed (Branch unit ∷ nodes) w × Resumes table fixed outer w whole
first_child table fixed unit outer right within some nodes walked whole walks resumes =
    let parts = resumed table fixed fixed unit 0 None outer walked whole within (unfix-free unit 0 fixed right.1) resumes in
    let each = joined table fixed unit 0 nodes walked parts.0 some walks parts.1 in
    let count : versions_of table unit - 0 ≡ versions_of table unit = omega arith in (
      parts.0,
      branch fixed unit nodes parts.0 right (subst (λ (n : ℕ). WalksEach table fixed unit 0 n nodes parts.0) count each),
      subst (λ (w : Walked). Resumes table fixed outer w whole) (beside_none parts.0) parts.2,
    )

-- a fault in hand is that of the whole
pub stops_whole : (table : Table) (fixed : List (Option ℕ)) (branches : List OpenBranch) (why : Why) (left : ℕ) → Resumes table fixed branches (Stops why left) (Stops why left)
stops_whole table fixed [] why left = refl
stops_whole table fixed (own ∷ branches) why left = (Stops why left, refl, stops_whole table (unfix own.unit fixed) branches why left)

-- ---- open branches are no more than there are units
fixed_count : List (Option ℕ) → ℕ
fixed_count [] = 0
fixed_count (None ∷ fixed) = fixed_count fixed
fixed_count (Some k ∷ fixed) = suc (fixed_count fixed)

fixed_count-unfix : (fixed : List (Option ℕ)) (unit k : ℕ) → get_or fixed unit None ≡ Some k → suc (fixed_count (set fixed unit None)) ≡ fixed_count fixed
unfolding fixed_count
fixed_count-unfix [] unit k is = absurd (none_is_none k is)
  where
    none_is_none : (n : ℕ) → None ≡ Some n → ⊥
    none_is_none n e = grind (arith, e)
fixed_count-unfix (None ∷ fixed) zero k is = absurd (grind (arith, is))
fixed_count-unfix (Some n ∷ fixed) zero k is = refl
fixed_count-unfix (None ∷ fixed) (suc unit) k is = fixed_count-unfix fixed unit k is
fixed_count-unfix (Some n ∷ fixed) (suc unit) k is = ap suc (fixed_count-unfix fixed unit k is)

fixed_count-le : (fixed : List (Option ℕ)) → fixed_count fixed ≤ length fixed
unfolding fixed_count
fixed_count-le [] = omega arith
fixed_count-le (None ∷ fixed) = omega (arith, fixed_count-le fixed)
fixed_count-le (Some n ∷ fixed) = omega (arith, fixed_count-le fixed)

fixed_count-free : (fixed : List (Option ℕ)) (unit : ℕ) → unit < length fixed → get_or fixed unit None ≡ None → fixed_count fixed < length fixed
unfolding fixed_count
fixed_count-free [] unit within free = absurd (omega (arith, within))
fixed_count-free (None ∷ fixed) zero within free = omega (arith, fixed_count-le fixed)
fixed_count-free (Some n ∷ fixed) zero within free = absurd (grind (arith, free))
fixed_count-free (None ∷ fixed) (suc unit) within free = omega (arith, fixed_count-free fixed unit (omega (arith, within)) free)
fixed_count-free (Some n ∷ fixed) (suc unit) within free = omega (arith, fixed_count-free fixed unit (omega (arith, within)) free)

open_few : (table : Table) (fixed : List (Option ℕ)) (branches : List OpenBranch) → AreOpen table fixed branches → length branches ≤ fixed_count fixed
open_few table fixed [] opened = omega arith
open_few table fixed (own ∷ branches) opened =
    omega (arith, open_few table (unfix own.unit fixed) branches opened.3, fixed_count-unfix fixed own.unit (version_in fixed own.unit) opened.1)

pub room_for_one : (table : Table) (fixed : List (Option ℕ)) (branches : List OpenBranch) (unit : ℕ) → AreOpen table fixed (reverse branches) → unit < length fixed → IsFree fixed unit
    → length branches < length fixed
room_for_one table fixed branches unit opened within free =
    omega (arith, open_few table fixed (reverse branches) opened, length-reverse branches, fixed_count-free fixed unit within free)

-- ---- the branches with one more, the innermost first
pub reverse-push : (branches : List OpenBranch) (own : OpenBranch) → reverse (branches ++ own ∷ []) ≡ own ∷ reverse branches
reverse-push branches own = reverse-append branches (own ∷ [])

pub opened : (table : Table) (fixed before : List (Option ℕ)) (unit k : ℕ) (least : Option ℕ) (outer : List OpenBranch) → unit < length fixed → k < versions_of table unit
    → unfix unit (fix unit k fixed) ≡ before → AreOpen table before outer → AreOpen table (fix unit k fixed) (record { unit = unit; least = least } ∷ outer)
opened table fixed before unit k least outer within some same are =
    let version : version_in (fix unit k fixed) unit ≡ k = version-fix unit k fixed within in (
      omega (arith, within, length-set fixed unit (Some k)),
      get_or-set_same fixed unit (Some k) None within ∙ ap (λ (n : ℕ). Some n) (sym version),
      omega (arith, version, some),
      subst (λ (f : List (Option ℕ)). AreOpen table f outer) (sym same) are,
    )
