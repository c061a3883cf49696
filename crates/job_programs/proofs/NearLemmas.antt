-- Distortions against the limit of tables, unit by unit.
use Rattle.std.proofs.Common.{◌≡◌, ℕ, ◌+◌, ◌*◌, ◌<◌, ◌≤◌, ◌↔◌, ◌⊎◌, inl, inr, Bool, true, false, IsTrue, List, [], ◌∷◌, length, drop, get_or, map, All, Option, Some, None, refl, sym, ap, ap₂, subst, ◌∙◌, arith}
use Rattle.std.proofs.lemmas.List.{drop_more, length-map}
use Rattle.bit_lists.specs.Fields.{bit_list}
use Rattle.syntax_types.specs.declared.picture.Picture.{Picture}
use Rattle.syntax_types.specs.declared.picture.SeqState.{SeqState}
use Rattle.picture_grammar.proofs.HeaderLaws.{exact-picture_unit}
use Rattle.version_maker.specs.declared.version.VersionSize.{VersionSize}
use Rattle.version_maker.specs.declared.version.UnitVersion.{UnitVersion}
use Rattle.version_maker.specs.Versions.{AreSizes, size_of}
use Rattle.version_maker.proofs.Lists.{one-list}
use Rattle.program_reader.specs.Carry.{unit_weight}
use Rattle.program_reader.specs.Sizes.{AreProgramSizes, AreUnitSizes, stands_at}
use Rattle.program_reader.specs.declared.program.Program.{Program}
use Rattle.program_reader.specs.declared.timed_picture.Role.TheVariants.{Frame}
use Rattle.program_reader.specs.Units.{unit_bytes}
use Rattle.program_reader.specs.declared.program.UnitSource.{UnitSource}
use Rattle.program_reader.specs.declared.unit_sizes.UnitSizes.{UnitSizes}
use Rattle.job_programs.specs.Distortions.{AreNear, KeepsDistortions, weighed_together}
use Rattle.program_reader.proofs.Missing.{no_unit}

-- ---- units have one list of sizes

-- behind one state a unit spells one picture
pub one-picture : (before : Option SeqState) (unit coarser : List ℕ) (a b : List VersionSize) (one : AreSizes before unit coarser a) (other : AreSizes before unit coarser b)
    → one.are.picture ≡ other.are.picture
one-picture before unit coarser a b one other =
    ((exact-picture_unit before).one_value one.are.picture other.are.picture (bit_list unit) [] [] one.are.whole.spelled other.are.whole.spelled).0

one-size : (before : Option SeqState) (unit coarser : List ℕ) (a b : List VersionSize) → AreSizes before unit coarser a → AreSizes before unit coarser b → a ≡ b
one-size before unit coarser a b one other =
    one.each ∙ ap (λ (versions : List UnitVersion). map size_of versions) (one-list before unit coarser one.versions other.versions one.are other.are) ∙ sym other.each

abbrev sizes_with : List VersionSize → UnitSizes
sizes_with items = record { versions = record { items = items } }

pub one-sizes : (es coarser : List ℕ) (before : Option SeqState) (units : List (ℕ × ℕ)) (a b : List UnitSizes) → AreUnitSizes es coarser before units a → AreUnitSizes es coarser before units b → a ≡ b
one-sizes es coarser before [] [] [] one other = refl
one-sizes es coarser before [] [] (y ∷ ys) one other = absurd other
one-sizes es coarser before [] (x ∷ xs) b one other = absurd one
one-sizes es coarser before (u ∷ us) [] b one other = absurd one
one-sizes es coarser before (u ∷ us) (x ∷ xs) [] one other = absurd other
one-sizes es coarser before (u ∷ us) (x ∷ xs) (y ∷ ys) (here, rest) (there, others) =
    let same : here.are.picture ≡ there.are.picture = one-picture before (unit_bytes es u) coarser x.versions.items y.versions.items here there in
    let state : Some here.are.picture.seq ≡ Some there.are.picture.seq = ap (λ (picture : Picture). Some picture.seq) same in
    ap₂ (λ (items : List VersionSize) (more : List UnitSizes). sizes_with items ∷ more) (one-size before (unit_bytes es u) coarser x.versions.items y.versions.items here there)
    (one-sizes es coarser (Some there.are.picture.seq) us xs ys (subst (λ (s : Option SeqState). AreUnitSizes es coarser s us xs) state rest) others)

-- one for each unit
pub sizes-many : (es coarser : List ℕ) (before : Option SeqState) (units : List (ℕ × ℕ)) (sizes : List UnitSizes) → AreUnitSizes es coarser before units sizes → length sizes ≡ length units
sizes-many es coarser before [] [] are = refl
sizes-many es coarser before [] (s ∷ ss) are = absurd are
sizes-many es coarser before (u ∷ us) [] are = absurd are
sizes-many es coarser before (u ∷ us) (s ∷ ss) (here, rest) = let more = sizes-many es coarser (Some here.are.picture.seq) us ss rest in omega (arith, more)

-- ---- one unit more

-- the distortions of a unit, times what it weighs, are below the limit
abbrev pub IsUnitNear : (weight : ℕ) → UnitSizes → Type 0
IsUnitNear weight sizes = All (λ size. size.distortion * weight < 281474976710656) sizes.versions.items

-- one unit before others
near-cons : (weight drift n : ℕ) (units rest : List UnitSource) (unit : UnitSource) (sizes more : List UnitSizes) (own : UnitSizes) → units ≡ unit ∷ rest → sizes ≡ own ∷ more
    → n ≡ unit_weight weight drift unit rest → IsUnitNear n own → AreNear weight drift rest more → AreNear weight drift units sizes
near-cons weight drift n units rest unit sizes more own split parts weighs here near =
    subst (λ (us : List UnitSource). AreNear weight drift us sizes) (sym split)
    (subst (λ (ss : List UnitSizes). AreNear weight drift (unit ∷ rest) ss) (sym parts) (subst (λ (m : ℕ). IsUnitNear m own) weighs here, near))

pub near-parts : (weight drift n : ℕ) (units rest : List UnitSource) (unit : UnitSource) (sizes more : List UnitSizes) (own : UnitSizes) → units ≡ unit ∷ rest → sizes ≡ own ∷ more
    → n ≡ unit_weight weight drift unit rest → AreNear weight drift units sizes → IsUnitNear n own × AreNear weight drift rest more
near-parts weight drift n units rest unit sizes more own split parts weighs near =
    let both : AreNear weight drift (unit ∷ rest) (own ∷ more) =
    subst (λ (ss : List UnitSizes). AreNear weight drift (unit ∷ rest) ss) parts (subst (λ (us : List UnitSource). AreNear weight drift us sizes) split near) in
    (subst (λ (m : ℕ). IsUnitNear m own) (sym weighs) both.0, both.1)

pub sizes-from : (sizes : List UnitSizes) (k : ℕ) (own : UnitSizes) → k < length sizes → own ≡ get_or sizes k own → drop k sizes ≡ own ∷ drop (k + 1) sizes
sizes-from sizes k own within is = drop_more sizes k own within ∙ ap (λ (s : UnitSizes). s ∷ drop (k + 1) sizes) (sym is)

-- the weight of the unit at a place, whatever stands for one that isn't there
abbrev pub Weighs : (weight drift : ℕ) → List UnitSource → (k n : ℕ) → Type 0
Weighs weight drift units k n = (other : UnitSource) → n ≡ unit_weight weight drift (get_or units k other) (drop (k + 1) units)

-- those before a place are near, so all are where those from it on are
pub near-more : (weight drift : ℕ) (units : List UnitSource) (sizes : List UnitSizes) (k : ℕ) (own : UnitSizes) (n : ℕ) → k < length units → length sizes ≡ length units
    → own ≡ get_or sizes k own → Weighs weight drift units k n → IsUnitNear n own
    → AreNear weight drift (drop k units) (drop k sizes) ↔ AreNear weight drift units sizes
    → AreNear weight drift (drop (k + 1) units) (drop (k + 1) sizes) ↔ AreNear weight drift units sizes
near-more weight drift units sizes k own n within many own_is weighs here so_far =
    let split = drop_more units k no_unit within in
    let parts = sizes-from sizes k own (omega (arith, within, many)) own_is in (
      λ rest. so_far.0 (near-cons weight drift n (drop k units) (drop (k + 1) units) (get_or units k no_unit) (drop k sizes) (drop (k + 1) sizes) own split parts (weighs no_unit) here rest),
      λ all. (near-parts weight drift n (drop k units) (drop (k + 1) units) (get_or units k no_unit) (drop k sizes) (drop (k + 1) sizes) own split parts (weighs no_unit) (so_far.1 all)).1,
    )

-- one that isn't near is found
pub near-not : (weight drift : ℕ) (units : List UnitSource) (sizes : List UnitSizes) (k : ℕ) (own : UnitSizes) (n : ℕ) → k < length units → length sizes ≡ length units
    → own ≡ get_or sizes k own → Weighs weight drift units k n → ¬ IsUnitNear n own
    → AreNear weight drift (drop k units) (drop k sizes) ↔ AreNear weight drift units sizes → IsTrue false ↔ AreNear weight drift units sizes
near-not weight drift units sizes k own n within many own_is weighs far so_far = (
  λ no. absurd (let e : false ≡ true = no in cc),
  λ all. absurd (far (near-parts weight drift n (drop k units) (drop (k + 1) units) (get_or units k no_unit) (drop k sizes) (drop (k + 1) sizes) own (drop_more units k no_unit within)
      (sizes-from sizes k own (omega (arith, within, many)) own_is) (weighs no_unit) (so_far.1 all)).0),
)

-- none is left
pub near-all : (weight drift : ℕ) (units : List UnitSource) (sizes : List UnitSizes) (k : ℕ) → drop k units ≡ []
    → AreNear weight drift (drop k units) (drop k sizes) ↔ AreNear weight drift units sizes → IsTrue true ↔ AreNear weight drift units sizes
near-all weight drift units sizes k none so_far =
    (λ yes. so_far.0 (subst (λ (us : List UnitSource). AreNear weight drift us (drop k sizes)) (sym none) tt), λ all. refl)

-- whether the distortions of some sizes are below the limit, where they are the items of a slice
pub own-near : (r : Bool) (n : ℕ) (own : UnitSizes) (items : List VersionSize) → items ≡ own.versions.items
    → IsTrue r ↔ All (λ size. size.distortion * n < 281474976710656) items → IsTrue r ↔ IsUnitNear n own
own-near r n own items same decides = (
  λ yes. subst (λ (xs : List VersionSize). All (λ size. size.distortion * n < 281474976710656) xs) same (decides.0 yes),
  λ near. decides.1 (subst (λ (xs : List VersionSize). All (λ size. size.distortion * n < 281474976710656) xs) (sym same) near),
)

-- ---- a program

-- there is a drift, or there are many units
abbrev pub IsAsked : (drift : ℕ) → Program → Type 0
IsAsked drift program = (0 < drift) ⊎ (4096 < length program.units)

pub asked-of : (drift count : ℕ) (program : Program) (units : List UnitSource) → count ≡ length units → units ≡ program.units → (0 < drift) ⊎ (4096 < count) → IsAsked drift program
asked-of drift count program units is same (inl some) = inl some
asked-of drift count program units is same (inr many) = inr (omega (arith, is, many, ap (λ (us : List UnitSource). length us) same))

-- without drift every program of few units keeps the limits
pub kept-without : (weight drift : ℕ) (coarser : List ℕ) (program : Program) → drift ≡ 0 → length program.units ≤ 4096 → IsTrue true ↔ KeepsDistortions weight drift coarser program
kept-without weight drift coarser program none few = (λ yes asked. absurd (unasked asked), λ kept. refl)
  where
    unasked : IsAsked drift program → ⊥
    unasked (inl some) = omega (arith, none, some)
    unasked (inr many) = omega (arith, few, many)

-- the limits of distortions, of units and their sizes
abbrev pub AreKept : (weight drift : ℕ) → List UnitSource → List UnitSizes → Type 0
AreKept weight drift units sizes = AreNear weight drift units sizes × (weighed_together weight drift units sizes < 1152921504606846976)

-- else one of which the told sizes do
pub kept-told : (r : Bool) (weight drift : ℕ) (coarser : List ℕ) (program : Program) (sizes : List UnitSizes) (units : List UnitSource) (told : List UnitSizes) → IsAsked drift program
    → AreProgramSizes program coarser sizes → units ≡ program.units → told ≡ sizes → IsTrue r ↔ AreKept weight drift units told
    → IsTrue r ↔ KeepsDistortions weight drift coarser program
kept-told r weight drift coarser program sizes units told asked are units_are told_are decides = (
  λ yes again. (let kept = moved (decides.0 yes) in record { sizes = sizes; are_sizes = are; near = kept.0; together = kept.1 }),
  λ kept. let is = kept asked in
      let same : is.sizes ≡ sizes = one-sizes program.video coarser None (map stands_at program.units) is.sizes sizes is.are_sizes are in
      decides.1 (back (subst (λ (ss : List UnitSizes). AreKept weight drift program.units ss) same (is.near, is.together))),
)
  where
    moved : AreKept weight drift units told → AreKept weight drift program.units sizes
    moved kept = subst (λ (us : List UnitSource). AreKept weight drift us sizes) units_are (subst (λ (ss : List UnitSizes). AreKept weight drift units ss) told_are kept)

    back : AreKept weight drift program.units sizes → AreKept weight drift units told
    back kept = subst (λ (us : List UnitSource). AreKept weight drift us told) (sym units_are) (subst (λ (ss : List UnitSizes). AreKept weight drift program.units ss) (sym told_are) kept)

pub told-many : (program : Program) (coarser : List ℕ) (sizes told : List UnitSizes) (units : List UnitSource) → AreProgramSizes program coarser sizes → units ≡ program.units → told ≡ sizes
    → length told ≡ length units
told-many program coarser sizes told units are units_are told_are =
    ap (λ (ss : List UnitSizes). length ss) told_are ∙ sizes-many program.video coarser None (map stands_at program.units) sizes are ∙ length-map program.units stands_at
    ∙ ap (λ (us : List UnitSource). length us) (sym units_are)
