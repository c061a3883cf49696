-- Paths by links, and nodes in their order.
use Rattle.std.proofs.Common.{◌≡◌, ◌≢◌, ℕ, zero, suc, ◌+◌, ◌<◌, ◌≤◌, ◌⊎◌, inl, inr, List, [], ◌∷◌, ◌++◌, length, map, get_or, set, Option, Some, None, refl, sym, ap, subst, ◌∙◌, arith}
use Rattle.std.proofs.lemmas.Bool.{cases_eq}
use Rattle.std.proofs.lemmas.List.{append_assoc, get_or-set_same, get_or-set_other, append-nil, ext_get_or, length-map, length-set}
use Rattle.version_table.specs.declared.table.Unit.{Unit as CodedUnit}
use Rattle.version_table.specs.declared.table.Table.{Table}
use Rattle.version_table.specs.Table.{units_of}
use Rattle.bound_certificate.specs.declared.cert.Node.{Node}
use Rattle.bound_certificate.specs.declared.cert.Node.TheVariants.{Open}
use Rattle.certificate_checker.specs.Shown.{fix, unfixed}
use Rattle.branch_plan.specs.declared.arena.Link.{Link}
use Rattle.branch_plan.specs.Private.Forest.{Follows, times_among}
use Rattle.branch_plan.specs.Private.Growth.{ArePaths, AreLinked, IsOrder, StandOnce, link_of, next_of, node_of}
use Rattle.branch_plan.proofs.Opens.{self_one}

-- ---- one pass up
-- what is fixed so far is what the whole path fixes, and where nothing is, the rest of the path says it
abbrev pub CoversAt : (fixed low whole : List (Option ℕ)) → (u : ℕ) → Type 0
CoversAt fixed low whole u =
    ((get_or fixed u None ≢ None) × (get_or fixed u None ≡ get_or whole u None)) ⊎ ((get_or fixed u None ≡ None) × (get_or whole u None ≡ get_or low u None))

abbrev pub Covers : (fixed low whole : List (Option ℕ)) → Type 0
Covers fixed low whole = (u : ℕ) → CoversAt fixed low whole u

none_at : (units : List CodedUnit) (u : ℕ) → get_or (map {B = Option ℕ} (λ (unit : CodedUnit). None) units) u None ≡ None
none_at [] u = refl
none_at (unit ∷ units) zero = refl
none_at (unit ∷ units) (suc u) = none_at units u

pub covers_first : (table : Table) (fixed whole : List (Option ℕ)) → fixed ≡ unfixed table → Covers fixed whole whole
covers_first table fixed whole is u = inr (ap (λ (f : List (Option ℕ)). get_or f u None) is ∙ none_at (units_of table) u, refl)

some_no_none : (e : Option ℕ) (k : ℕ) → e ≡ Some k → e ≢ None
some_no_none None k is none_is = absurd (grind (arith, is))
some_no_none (Some n) k is none_is = absurd (grind (arith, none_is))

-- beside the unit nothing changes
kept_beside : (fixed new low whole : List (Option ℕ)) (unit k u : ℕ) → u ≢ unit → CoversAt fixed low whole unit → (get_or fixed unit None ≡ None → new ≡ set fixed unit (Some k))
    → (get_or fixed unit None ≢ None → new ≡ fixed) → get_or new u None ≡ get_or fixed u None
kept_beside fixed new low whole unit k u differs (inl some_is) free taken = ap (λ (f : List (Option ℕ)). get_or f u None) (taken some_is.0)
kept_beside fixed new low whole unit k u differs (inr none_is) free taken =
    ap (λ (f : List (Option ℕ)). get_or f u None) (free none_is.0) ∙ get_or-set_other fixed unit u (Some k) None differs

covers_beside : (fixed new low rest whole : List (Option ℕ)) (unit k u : ℕ) → low ≡ fix unit k rest → u ≢ unit → get_or new u None ≡ get_or fixed u None → CoversAt fixed low whole u
    → CoversAt new rest whole u
covers_beside fixed new low rest whole unit k u low_is differs same (inl is) = inl ((λ none_is. is.0 (sym same ∙ none_is)), same ∙ is.1)
covers_beside fixed new low rest whole unit k u low_is differs same (inr is) =
    inr (same ∙ is.0, is.1 ∙ ap (λ (f : List (Option ℕ)). get_or f u None) low_is ∙ get_or-set_other rest unit u (Some k) None differs)

covers_unit : (fixed new low rest whole : List (Option ℕ)) (unit k : ℕ) → low ≡ fix unit k rest → unit < length fixed → length rest ≡ length fixed
    → (get_or fixed unit None ≡ None → new ≡ set fixed unit (Some k)) → (get_or fixed unit None ≢ None → new ≡ fixed) → CoversAt fixed low whole unit → CoversAt new rest whole unit
covers_unit fixed new low rest whole unit k low_is within size free taken (inl is) =
    let same : get_or new unit None ≡ get_or fixed unit None = ap (λ (f : List (Option ℕ)). get_or f unit None) (taken is.0) in
    inl ((λ none_is. is.0 (sym same ∙ none_is)), same ∙ is.1)
covers_unit fixed new low rest whole unit k low_is within size free taken (inr is) =
    let here : get_or new unit None ≡ Some k = ap (λ (f : List (Option ℕ)). get_or f unit None) (free is.0) ∙ get_or-set_same fixed unit (Some k) None within in
    let low_here : get_or low unit None ≡ Some k = ap (λ (f : List (Option ℕ)). get_or f unit None) low_is ∙ get_or-set_same rest unit (Some k) None (omega (arith, within, size)) in
    inl (some_no_none (get_or new unit None) k here, here ∙ sym low_here ∙ sym is.1)

-- one more version of the path, where its unit was free
pub covers_more : (fixed new low rest whole : List (Option ℕ)) (unit k : ℕ) → low ≡ fix unit k rest → unit < length fixed → length rest ≡ length fixed → Covers fixed low whole
    → (get_or fixed unit None ≡ None → new ≡ set fixed unit (Some k)) → (get_or fixed unit None ≢ None → new ≡ fixed) → Covers new rest whole
covers_more fixed new low rest whole unit k low_is within size covers free taken u =
    elim (cases_eq u unit) as (λ _. CoversAt new rest whole u) [
      | inl same ↦
          subst (λ (v : ℕ). CoversAt new rest whole v) (sym same) (covers_unit fixed new low rest whole unit k low_is within size free taken (covers unit))
      | inr differs ↦ covers_beside fixed new low rest whole unit k u low_is differs (kept_beside fixed new low whole unit k u differs (covers unit) free taken) (covers u)
    ]

covered_at : (fixed low whole : List (Option ℕ)) (u : ℕ) → get_or low u None ≡ None → CoversAt fixed low whole u → get_or fixed u None ≡ get_or whole u None
covered_at fixed low whole u none_is (inl is) = is.1
covered_at fixed low whole u none_is (inr is) = is.0 ∙ sym (is.1 ∙ none_is)

-- at the root all is said
pub covers_all : (table : Table) (fixed low whole : List (Option ℕ)) → low ≡ unfixed table → length fixed ≡ length whole → Covers fixed low whole → fixed ≡ whole
covers_all table fixed low whole low_is size covers =
    ext_get_or None fixed whole size (λ u within. covered_at fixed low whole u (ap (λ (f : List (Option ℕ)). get_or f u None) low_is ∙ none_at (units_of table) u) (covers u))

-- each path is as long as there are units
path_long_within : (table : Table) (links : List Link) (path : ℕ → List (Option ℕ)) (most : ℕ) → AreLinked table links → ArePaths table links path → (j : ℕ) → j < length links → j ≤ most
    → length (path j) ≡ length (units_of table)
path_long_within table links path most linked are zero within low = ap length are.root ∙ length-map (units_of table) (λ (unit : CodedUnit). None)
path_long_within table links path zero linked are (suc j) within low = absurd (omega (arith, low))
path_long_within table links path (suc most) linked are (suc j) within low =
    let link = link_of links (suc j) in
    let back = linked.back (suc j) (omega arith) within in
    ap length (are.child (suc j) (omega arith) within) ∙ length-set (path link.parent) link.unit (Some link.version)
    ∙ path_long_within table links path most linked are link.parent (omega (arith, back, within)) (omega (arith, back, low))

pub path_long : (table : Table) (links : List Link) (path : ℕ → List (Option ℕ)) → AreLinked table links → ArePaths table links path → (j : ℕ) → j < length links
    → length (path j) ≡ length (units_of table)
path_long table links path linked are j within = path_long_within table links path j linked are j within (omega arith)

-- the loop: with every such paths the versions so far cover the whole path
abbrev pub ArePassed : Table → List Link → (fixed : List (Option ℕ)) → (at number : ℕ) → Type 0
ArePassed table links fixed at number = (path : ℕ → List (Option ℕ)) → ArePaths table links path → Covers fixed (path at) (path number)

pub one_passed : (table : Table) (links : List Link) (fixed new : List (Option ℕ)) (at number : ℕ) → AreLinked table links → 0 < at → at < length links
    → length fixed ≡ length (units_of table) → ArePassed table links fixed at number
    → (get_or fixed (link_of links at).unit None ≡ None → new ≡ set fixed (link_of links at).unit (Some (link_of links at).version))
    → (get_or fixed (link_of links at).unit None ≢ None → new ≡ fixed) → ArePassed table links new (link_of links at).parent number
one_passed table links fixed new at number linked some within size passed free taken path are =
    let link = link_of links at in
    covers_more fixed new (path at) (path link.parent) (path number) link.unit link.version (are.child at some within) (omega (arith, linked.unit at some within, size))
    (path_long table links path linked are link.parent (omega (arith, linked.back at some within, within)) ∙ sym size) (passed path are) free taken

pub all_passed : (table : Table) (links : List Link) (fixed : List (Option ℕ)) (at number : ℕ) → AreLinked table links → at ≡ 0 → number < length links
    → length fixed ≡ length (units_of table) → ArePassed table links fixed at number → (path : ℕ → List (Option ℕ)) → ArePaths table links path → fixed ≡ path number
all_passed table links fixed at number linked at_is within size passed path are =
    covers_all table fixed (path at) (path number) (ap path at_is ∙ are.root) (size ∙ sym (path_long table links path linked are number within)) (passed path are)

-- ---- in order
-- what is written, and the nodes from one on, are all; those are still where they were, and each is once among the rest
pub record IsWritten (nodes : List Node) (links : List Link) (left written : List Node) (at count : ℕ) (ids : List ℕ) : Type 0 where
  pub rest : List ℕ
  pub is : written ++ map (node_of nodes) rest ≡ map (node_of nodes) ids
  pub follows : Follows (next_of links) (length nodes) at rest
  pub more : length rest + count ≡ length nodes
  pub size : length left ≡ length nodes
  pub once : StandOnce (length nodes) rest
  pub intact : (j : ℕ) → 0 < times_among j rest → node_of left j ≡ node_of nodes j

pub none_written : (nodes : List Node) (links : List Link) (ids : List ℕ) → IsOrder nodes links ids → StandOnce (length nodes) ids → IsWritten nodes links nodes [] 0 0 ids
none_written nodes links ids order once = record {
  rest = ids;
  is = refl;
  follows = order.0;
  more = omega (arith, order.1);
  size = refl;
  once = once;
  intact = λ j there. refl;
}

times_first : (x : ℕ) (rest : List ℕ) → times_among x (x ∷ rest) ≡ suc (times_among x rest)
times_first x rest = omega (arith, self_one x x refl)

times_later : (j x : ℕ) (rest : List ℕ) → times_among j rest ≤ times_among j (x ∷ rest)
times_later j x rest = omega arith

once_first : (count x : ℕ) (rest : List ℕ) → x < count → StandOnce count (x ∷ rest) → times_among x rest ≡ 0
once_first count x rest within once = omega (arith, times_first x rest, once x within)

apart_from : (j x : ℕ) (rest : List ℕ) → times_among x rest ≡ 0 → 0 < times_among j rest → j ≢ x
apart_from j x rest none some same = omega (arith, some, none, ap (λ (n : ℕ). times_among n rest) same)

written_more : (nodes : List Node) (links : List Link) (left written : List Node) (at count : ℕ) (ids rest : List ℕ) → count < length nodes
    → written ++ map (node_of nodes) rest ≡ map (node_of nodes) ids → Follows (next_of links) (length nodes) at rest → length rest + count ≡ length nodes → length left ≡ length nodes
    → StandOnce (length nodes) rest → ((j : ℕ) → 0 < times_among j rest → node_of left j ≡ node_of nodes j)
    → (at < length nodes) × (node_of left at ≡ node_of nodes at)
    × IsWritten nodes links (set left at Open) (written ++ node_of nodes at ∷ []) (next_of links at) (count + 1) ids
written_more nodes links left written at count ids [] within is follows more size once intact = absurd (omega (arith, within, more))
written_more nodes links left written at count ids (x ∷ rest) within is follows more size once intact =
    let none = once_first (length nodes) x rest follows.1 once in (
      omega (arith, follows.0, follows.1),
      intact at (subst (λ (i : ℕ). 0 < times_among i (x ∷ rest)) (sym follows.0) (omega (arith, times_first x rest))),
      record {
        rest = rest;
        is =
            append_assoc written (node_of nodes at ∷ []) (map (node_of nodes) rest)
            ∙ ap (λ (i : ℕ). written ++ node_of nodes i ∷ map (node_of nodes) rest) follows.0 ∙ is;
        follows = subst (λ (i : ℕ). Follows (next_of links) (length nodes) (next_of links i) rest) (sym follows.0) follows.2;
        more = omega (arith, more);
        size = length-set left at Open ∙ size;
        once = λ j low. omega (arith, times_later j x rest, once j low);
        intact = λ j there.
            get_or-set_other left at j Open Open (λ same. apart_from j x rest none there (same ∙ follows.0)) ∙ intact j (omega (arith, there, times_later j x rest));
      },
    )

pub one_written : (nodes : List Node) (links : List Link) (left written : List Node) (at count : ℕ) (ids : List ℕ) → count < length nodes → IsWritten nodes links left written at count ids
    → (at < length nodes) × (node_of left at ≡ node_of nodes at) × IsWritten nodes links (set left at Open) (written ++ node_of nodes at ∷ []) (next_of links at) (count + 1) ids
one_written nodes links left written at count ids within is = written_more nodes links left written at count ids is.rest within is.is is.follows is.more is.size is.once is.intact

all_written_in : (nodes : List Node) (written : List Node) (count : ℕ) (ids rest : List ℕ) → length nodes ≤ count → written ++ map (node_of nodes) rest ≡ map (node_of nodes) ids
    → length rest + count ≡ length nodes → written ≡ map (node_of nodes) ids
all_written_in nodes written count ids [] past is more = sym (append-nil written) ∙ is
all_written_in nodes written count ids (x ∷ rest) past is more = absurd (omega (arith, past, more))

pub all_written : (nodes : List Node) (links : List Link) (left written : List Node) (at count : ℕ) (ids : List ℕ) → length nodes ≤ count → IsWritten nodes links left written at count ids
    → written ≡ map (node_of nodes) ids
all_written nodes links left written at count ids past is = all_written_in nodes written count ids is.rest past is.is is.more
