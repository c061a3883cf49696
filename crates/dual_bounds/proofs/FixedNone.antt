-- Nothing fixed, for each unit.
use Rattle.std.proofs.Common.{◌≡◌, ℕ, List, [], ◌∷◌, map, Option, None, refl}
use Rattle.std.specs.List.{AllZip}
use Rattle.std.proofs.lemmas.List.Elements.{All-map}
use Rattle.version_table.specs.declared.table.Unit.{Unit as CodedUnit}
use Rattle.dual_bounds.specs.Fixed.{FixesNone, NamesVersion}

pub names_none : (units : List CodedUnit) → AllZip NamesVersion units (map (λ unit. None) units)
names_none [] = tt
names_none (unit ∷ units) = (tt, names_none units)

pub fixes_none : (units : List CodedUnit) → FixesNone (map (λ unit. None) units)
fixes_none units = All-map (λ (entry : Option ℕ). entry ≡ None) (λ (unit : CodedUnit). None) units (λ k d within. refl)
