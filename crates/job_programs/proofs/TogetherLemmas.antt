-- The greatest distortions of units together, unit by unit.
use Rattle.std.proofs.Common.{◌≡◌, ℕ, ◌+◌, ◌-◌, ◌*◌, ◌<◌, ◌≤◌, ◌↔◌, true, false, IsTrue, List, [], length, drop, get_or, map, refl, sym, ap, ap₂, ◌∙◌, arith}
use Rattle.std.proofs.lemmas.List.{drop_more}
use Rattle.version_maker.specs.declared.version.VersionSize.{VersionSize}
use Rattle.version_table.specs.Table.{greatest}
use Rattle.program_reader.specs.declared.program.UnitSource.{UnitSource}
use Rattle.program_reader.specs.declared.unit_sizes.UnitSizes.{UnitSizes}
use Rattle.job_programs.specs.Distortions.{AreNear, greatest_weighed, weighed_together}
use Rattle.program_reader.proofs.Missing.{no_unit}
use Rattle.job_programs.proofs.NearLemmas.{IsUnitNear, Weighs, near-parts, sizes-from}

-- those of the unit at a place and of the others behind it
pub together-at : (weight drift : ℕ) (units : List UnitSource) (sizes : List UnitSizes) (k : ℕ) (own : UnitSizes) (n : ℕ) → k < length units → length sizes ≡ length units
    → own ≡ get_or sizes k own → Weighs weight drift units k n
    → weighed_together weight drift (drop k units) (drop k sizes) ≡ greatest_weighed n own + weighed_together weight drift (drop (k + 1) units) (drop (k + 1) sizes)
together-at weight drift units sizes k own n within many own_is weighs =
    ap₂ (weighed_together weight drift) (drop_more units k no_unit within) (sizes-from sizes k own (omega (arith, within, many)) own_is)
    ∙ ap (λ (m : ℕ). greatest_weighed m own + weighed_together weight drift (drop (k + 1) units) (drop (k + 1) sizes)) (sym (weighs no_unit))

pub near-at : (weight drift : ℕ) (units : List UnitSource) (sizes : List UnitSizes) (k : ℕ) (own : UnitSizes) (n : ℕ) → k < length units → length sizes ≡ length units
    → own ≡ get_or sizes k own → Weighs weight drift units k n → AreNear weight drift (drop k units) (drop k sizes)
    → IsUnitNear n own × AreNear weight drift (drop (k + 1) units) (drop (k + 1) sizes)
near-at weight drift units sizes k own n within many own_is weighs near =
    near-parts weight drift n (drop k units) (drop (k + 1) units) (get_or units k no_unit) (drop k sizes) (drop (k + 1) sizes) own (drop_more units k no_unit within)
    (sizes-from sizes k own (omega (arith, within, many)) own_is) (weighs no_unit) near

-- the greatest of the items of a slice
pub greatest-here : (n most : ℕ) (own : UnitSizes) (items : List VersionSize) → items ≡ own.versions.items
    → most ≡ greatest (map (λ (size : VersionSize). size.distortion * n) items) → most ≡ greatest_weighed n own
greatest-here n most own items same is = is ∙ ap (λ (xs : List VersionSize). greatest (map (λ (size : VersionSize). size.distortion * n) xs)) same

-- ---- against a limit

pub left-over : (all room most own here rest limit : ℕ) → all + room ≡ limit + here → here ≡ own + rest → most ≡ own → most < room → all + (room - most) ≡ limit + rest
left-over all room most own here rest limit sum split is less = omega (arith, sum, split, is, less)

pub past-limit : (all room most own here rest limit : ℕ) → all + room ≡ limit + here → here ≡ own + rest → most ≡ own → room ≤ most → IsTrue false ↔ (all < limit)
past-limit all room most own here rest limit sum split is full = (λ no. absurd (let e : false ≡ true = no in cc), λ less. absurd (omega (arith, sum, split, is, full, less)))

pub below-limit : (all room rest limit : ℕ) → all + room ≡ limit + rest → 0 < room → rest ≡ 0 → IsTrue true ↔ (all < limit)
below-limit all room rest limit sum some none = (λ yes. omega (arith, sum, some, none), λ less. refl)

pub together-none : (weight drift : ℕ) (units : List UnitSource) (sizes : List UnitSizes) → units ≡ [] → weighed_together weight drift units sizes ≡ 0
together-none weight drift units sizes none = ap (λ (us : List UnitSource). weighed_together weight drift us sizes) none
