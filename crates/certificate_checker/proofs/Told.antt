-- What is told of a path, as the path goes on.
use Rattle.std.proofs.Common.{◌≡◌, ℕ, ◌<◌, List, [], ◌∷◌, ◌++◌, length, map, reverse, get_or, is_some, true, Option, None, refl, sym, ap, subst, ◌∙◌, arith}
use Rattle.version_table.specs.declared.table.Table.{Table}
use Rattle.version_table.specs.Table.{units_of}
use Rattle.dual_bounds.specs.Fixed.{NamesVersion}
use Rattle.certificate_checker.specs.declared.path.OpenBranch.{OpenBranch}
use Rattle.certificate_checker.specs.declared.path.Path.{Path}
use Rattle.certificate_checker.specs.declared.tally.Tally.{Tally}
use Rattle.certificate_checker.specs.Private.Paths.{AreOpen, IsPath}
use Rattle.certificate_checker.specs.Private.Tallies.{IsTally, IsTold, KeepsTallyRoom}
use Rattle.certificate_checker.proofs.Paths.{reverse-push}
use Rattle.certificate_checker.proofs.Units.{all_zip_size}

-- the units of branches
abbrev pub units_open : List OpenBranch → List ℕ
units_open branches = map (λ (branch : OpenBranch). branch.unit) branches

-- ---- room
pub tally_room_kept : (tally : Tally) → KeepsTallyRoom tally tally
tally_room_kept tally = record { order = refl; places = refl; links = (refl, refl); packets = refl; distortions = refl }

pub tally_room_both : (old between new : Tally) → KeepsTallyRoom old between → KeepsTallyRoom between new → KeepsTallyRoom old new
tally_room_both old between new first second = record {
  order = second.order ∙ first.order;
  places = second.places ∙ first.places;
  links = (second.links.0 ∙ first.links.0, second.links.1 ∙ first.links.1);
  packets = second.packets ∙ first.packets;
  distortions = second.distortions ∙ first.distortions;
}

-- ---- the innermost branch
pub told_innermost : (table : Table) (path : Path) (outer : List OpenBranch) (branch : OpenBranch) (tally : Tally) → IsTold table path tally → path.branches.items ≡ outer ++ branch ∷ []
    → IsTally table path.fixed.items (branch.unit ∷ units_open (reverse outer)) tally
told_innermost table path outer branch tally told popped =
    subst (λ (bs : List OpenBranch). IsTally table path.fixed.items (units_open bs) tally) (ap reverse popped ∙ reverse-push outer branch) told

pub told_by : (table : Table) (path : Path) (fixed : List (Option ℕ)) (outer : List OpenBranch) (branch : OpenBranch) (tally : Tally)
    → IsTally table fixed (branch.unit ∷ units_open (reverse outer)) tally → path.fixed.items ≡ fixed → path.branches.items ≡ outer ++ branch ∷ [] → IsTold table path tally
told_by table path fixed outer branch tally told fixed_is branches =
    subst (λ (bs : List OpenBranch). IsTally table path.fixed.items (units_open bs) tally) (sym (ap reverse branches ∙ reverse-push outer branch))
    (subst (λ (f : List (Option ℕ)). IsTally table f (branch.unit ∷ units_open (reverse outer)) tally) (sym fixed_is) told)

pub told_without : (table : Table) (path : Path) (fixed : List (Option ℕ)) (outer : List OpenBranch) (tally : Tally) → IsTally table fixed (units_open (reverse outer)) tally
    → path.fixed.items ≡ fixed → path.branches.items ≡ outer → IsTold table path tally
told_without table path fixed outer tally told fixed_is branches =
    subst (λ (bs : List OpenBranch). IsTally table path.fixed.items (units_open (reverse bs)) tally) (sym branches)
    (subst (λ (f : List (Option ℕ)). IsTally table f (units_open (reverse outer)) tally) (sym fixed_is) told)

-- a version of the innermost unit is fixed
pub record IsInHand (table : Table) (path : Path) (unit : ℕ) : Type 0 where
  pub number : unit < length (units_of table)
  pub within : unit < length path.fixed.items
  pub some : is_some (get_or path.fixed.items unit None) ≡ true

pub in_hand : (table : Table) (path : Path) (outer : List OpenBranch) (branch : OpenBranch) → IsPath table path → path.branches.items ≡ outer ++ branch ∷ [] → IsInHand table path branch.unit
in_hand table path outer branch is popped =
    let are : reverse path.branches.items ≡ branch ∷ reverse outer = ap reverse popped ∙ reverse-push outer branch in
    let opens = subst (λ (bs : List OpenBranch). AreOpen table path.fixed.items bs) are is.are_open in
    record {
      number = omega (arith, opens.0, all_zip_size NamesVersion (units_of table) path.fixed.items is.fixes);
      within = opens.0;
      some = ap is_some opens.1;
    }
