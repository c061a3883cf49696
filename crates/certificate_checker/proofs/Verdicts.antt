-- What is answered of a whole certificate whose head is right.
use Rattle.std.proofs.Common.{◌≡◌, ℕ, ◌-◌, ◌<◌, ◌≤◌, List, [], length, drop, reverse, replicate, Option, None, refl, sym, ap, subst, ◌∙◌, arith}
use Rattle.std.proofs.lemmas.List.{drop_all, length-drop, length-replicate}
use Rattle.version_table.specs.declared.table.Table.{Table}
use Rattle.version_table.specs.Table.{units_of}
use Rattle.dual_bounds.specs.Fixed.{FixesVersions}
use Rattle.bound_certificate.specs.declared.cert.Cert.{Cert}
use Rattle.bound_certificate.specs.declared.cert.Node.{Node}
use Rattle.certificate_checker.specs.declared.path.OpenBranch.{OpenBranch}
use Rattle.certificate_checker.specs.declared.path.Path.{Path}
use Rattle.certificate_checker.specs.declared.why.CertFault.{CertFault}
use Rattle.certificate_checker.specs.declared.why.Why.TheVariants as whys
use Rattle.certificate_checker.specs.Shown.{choice_left, unfixed}
use Rattle.certificate_checker.specs.Faults.{IsHeadRight}
use Rattle.certificate_checker.specs.Walk.{Shows, Stops, Walks}
use Rattle.certificate_checker.specs.Checked.{IsAtMost, IsFaultless, IsFirstFault, behind_tree, in_bound, in_tree}
use Rattle.certificate_checker.specs.Private.Paths.{AreOpen, HasRoomFor, IsFaultIn, IsPath, KeepsRoom}
use Rattle.certificate_checker.proofs.Units.{fixes_nothing, unfixed_is, zeros_left}

-- ---- a path that is cleared
pub cleared_fixed : (table : Table) (path : Path) (units : ℕ) → units ≡ length (units_of table) → path.fixed.items ≡ replicate {A = Option ℕ} units None → path.fixed.items ≡ unfixed table
cleared_fixed table path units size fixed = fixed ∙ ap (λ (n : ℕ). replicate {A = Option ℕ} n None) size ∙ unfixed_is (units_of table)

pub cleared_path : (table : Table) (old new : Path) (units : ℕ) → units ≡ length (units_of table) → HasRoomFor (length (units_of table)) old → KeepsRoom old new
    → new.fixed.items ≡ replicate {A = Option ℕ} units None → new.choice.items ≡ replicate units 0 → new.branches.items ≡ [] → IsPath table new
cleared_path table old new units size room keeps fixed choice branches = record {
  fixes = subst (λ (f : List (Option ℕ)). FixesVersions table f) (sym (cleared_fixed table new units size fixed)) (fixes_nothing (units_of table));
  choice = choice ∙ zeros_left units ∙ ap choice_left (sym fixed);
  are_open = subst (λ (bs : List OpenBranch). AreOpen table new.fixed.items (reverse bs)) (sym branches) tt;
  room = omega (arith, room.2, keeps.2, size, ap length fixed, length-replicate {A = Option ℕ} units None);
}

-- ---- what is answered
pub fault_in_tree : (table : Table) (cert : Cert) (nodes : List Node) (fault : CertFault) → nodes ≡ cert.nodes → IsHeadRight table cert → IsFaultIn table nodes fault → IsFirstFault table cert fault
fault_in_tree table cert nodes fault same head (left, walks, place) =
    in_tree left head (subst (λ (ns : List Node). Walks table (unfixed table) ns (Stops fault.why left)) same walks) (place ∙ ap length same)

pub extra_node : (table : Table) (cert : Cert) (nodes : List Node) (shown : Option ℕ) (n : ℕ) → nodes ≡ cert.nodes → IsHeadRight table cert
    → Walks table (unfixed table) nodes (Shows shown (drop n nodes)) → n < length cert.nodes → IsFirstFault table cert (record { node = n; why = whys.ExtraNode })
extra_node table cert nodes shown n same head walks within =
    let here : Walks table (unfixed table) cert.nodes (Shows shown (drop n cert.nodes)) = subst (λ (ns : List Node). Walks table (unfixed table) ns (Shows shown (drop n ns))) same walks in
    let size : length (drop n cert.nodes) ≡ length cert.nodes - n = length-drop n cert.nodes in
    behind_tree shown (drop n cert.nodes) head here (omega (arith, size, within)) (omega (arith, size, within)) refl

whole_tree : (table : Table) (cert : Cert) (nodes : List Node) (shown : Option ℕ) (n : ℕ) → nodes ≡ cert.nodes → Walks table (unfixed table) nodes (Shows shown (drop n nodes))
    → length cert.nodes ≤ n → Walks table (unfixed table) cert.nodes (Shows shown [])
whole_tree table cert nodes shown n same walks all =
    let here : Walks table (unfixed table) cert.nodes (Shows shown (drop n cert.nodes)) = subst (λ (ns : List Node). Walks table (unfixed table) ns (Shows shown (drop n ns))) same walks in
    subst (λ (ns : List Node). Walks table (unfixed table) cert.nodes (Shows shown ns)) (drop_all n cert.nodes all) here

pub bound_high : (table : Table) (cert : Cert) (nodes : List Node) (shown : Option ℕ) (n : ℕ) → nodes ≡ cert.nodes → IsHeadRight table cert
    → Walks table (unfixed table) nodes (Shows shown (drop n nodes)) → length cert.nodes ≤ n → (IsAtMost cert.bound shown → ⊥)
    → IsFirstFault table cert (record { node = 0; why = whys.BoundHigh })
bound_high table cert nodes shown n same head walks all high = in_bound shown head (whole_tree table cert nodes shown n same walks all) high refl refl

pub no_fault_left : (table : Table) (cert : Cert) (nodes : List Node) (shown : Option ℕ) (n : ℕ) → nodes ≡ cert.nodes → IsHeadRight table cert
    → Walks table (unfixed table) nodes (Shows shown (drop n nodes)) → length cert.nodes ≤ n → IsAtMost cert.bound shown → IsFaultless table cert
no_fault_left table cert nodes shown n same head walks all most = record { head = head; shown = shown; tree = whole_tree table cert nodes shown n same walks all; bound = most }
