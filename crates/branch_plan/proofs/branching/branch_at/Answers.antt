use Rattle.std.proofs.Common.{◌≡◌, ℕ, ◌+◌, ◌≤◌, inl, inr, List, Option, length, rules, refl, sym, ap, subst, ◌∙◌, arith}
use Rattle.version_table.specs.declared.table.Unit.{Unit as CodedUnit}
use Rattle.version_table.specs.Table.{units_of}
use Rattle.dual_bounds.specs.Fixed.{FixesVersions, NamesVersion}
use Rattle.certificate_checker.specs.Faults.{LeavesOne}
use Rattle.certificate_checker.specs.Shown.{versions_of}
use Rattle.certificate_checker.proofs.Units.{all_zip_size, few_versions_of}
use Rattle.branch_plan.specs.declared.branching.Ended.{Ended as EndedTree}
use Rattle.branch_plan.specs.Private.Branching.{Ends, HasRoom, IsFull}
use Rattle.branch_plan.specs.Private.Growth.{node_of}
use Rattle.branch_plan.specs.Private.Valued.{values_of}
use Rattle.branch_plan.specs.Private.Leaves.{IsFreeUnit}
use Rattle.branch_plan.proofs.Ending.{ends_spent}
use Rattle.branch_plan.proofs.Stepping.{not_one_left, place_open}
use Rattle.branch_plan.proofs.TreeBytes.{never_full, node_shared}
use Rattle.branch_plan.proofs.branching.branch_at.Goals as goal

pub path_to-requires-clause-number : goal.path_to-requires-clause-number
path_to-requires-clause-number c =
    omega (arith, (place_open c.args.table.now c.args.nodes c.args.bound c.args.number c.args.growth c.requires.taken).within, c.requires.taken.grown.is.as_many, ap length c.as_slice.ensures.value)

pub unit_to_branch-requires-clause-fixed : goal.unit_to_branch-requires-clause-fixed
unit_to_branch-requires-clause-fixed c =
    let table = c.args.table.now in
    let taken = c.requires.taken in
    let path = taken.grown.path in
    let at = place_open table c.args.nodes c.args.bound c.args.number c.args.growth taken in
    let fixed_is : c.in_ok-fixed.fixed ≡ path c.args.number = c.in_ok-fixed.ensures path (search rules) in
    subst (λ (f : List (Option ℕ)). FixesVersions table f) (sym fixed_is) (taken.grown.is.fixes c.args.number at.within)

pub index-leaf-requires : goal.index-leaf-requires
index-leaf-requires c = omega (arith, (place_open c.args.table.now c.args.nodes c.args.bound c.args.number c.args.growth c.requires.taken).within)

pub unreachable-requires : goal.unreachable-requires
unreachable-requires c =
    let table = c.args.table.now in
    let taken = c.requires.taken in
    let path = taken.grown.path in
    let at = place_open table c.args.nodes c.args.bound c.args.number c.args.growth taken in
    let fixed_is : c.in_ok-fixed.fixed ≡ path c.args.number = c.in_ok-fixed.ensures path (search rules) in
    not_one_left table (path c.args.number) at.may.unit at.may.free (subst (λ (f : List (Option ℕ)). LeavesOne table f) fixed_is c.in_default.ensures)

pub with_branch-requires-clause-place : goal.with_branch-requires-clause-place
with_branch-requires-clause-place c =
    let table = c.args.table.now in
    let taken = c.requires.taken in
    let path = taken.grown.path in
    let at = place_open table c.args.nodes c.args.bound c.args.number c.args.growth taken in
    let fixed_is : c.in_ok-fixed.fixed ≡ path c.args.number = c.in_ok-fixed.ensures path (search rules) in
    let count = ap (λ (u : CodedUnit). length u.versions.items) c.unit_at.ensures in
    record {
      bound = c.args.bound;
      taken = taken;
      fixed = fixed_is;
      free = c.in-Some.ensures;
      room = omega (arith, c.if-len-versions.false, c.len.ensures, c.len-versions.ensures.value, count);
      bytes = subst (λ (n : ℕ). HasRoom table c.args.growth n) (c.len-versions.ensures.value ∙ count) (c.has_room.ensures.room c.if-not-has_room.false);
    }

pub returns-then-len-versions-clause-step : goal.returns-then-len-versions-clause-step
returns-then-len-versions-clause-step c =
    let table = c.args.table.now in
    let taken = c.requires.taken in
    let path = taken.grown.path in
    let at = place_open table c.args.nodes c.args.bound c.args.number c.args.growth taken in
    let fixed_is : c.in_ok-fixed.fixed ≡ path c.args.number = c.in_ok-fixed.ensures path (search rules) in
    let count = ap (λ (u : CodedUnit). length u.versions.items) c.unit_at.ensures in
    let free : IsFreeUnit table (path c.args.number) c.in-Some.unit = subst (λ (f : List (Option ℕ)). IsFreeUnit table f c.in-Some.unit) fixed_is c.in-Some.ensures in
    subst (λ (e : EndedTree). Ends table c.args.nodes e × (e.known.distortion ≤ c.args.growth.known.distortion) × (e.found ≡ c.args.growth.found)) (sym c.as_spent.ensures) (
      ends_spent table c.args.nodes c.args.bound c.args.number c.in-Some.unit c.args.growth c.requires.valid taken free
          (inl (omega (arith, c.if-len-versions.true, c.len.ensures, c.len-versions.ensures.value, count))),
      omega arith,
      refl,
    )

pub has_room-requires-clause-units : goal.has_room-requires-clause-units
has_room-requires-clause-units c =
    let table = c.args.table.now in
    let taken = c.requires.taken in
    let path = taken.grown.path in
    let at = place_open table c.args.nodes c.args.bound c.args.number c.args.growth taken in
    let fixed_is : c.in_ok-fixed.fixed ≡ path c.args.number = c.in_ok-fixed.ensures path (search rules) in
    let size = all_zip_size NamesVersion (units_of table) (path c.args.number) (taken.grown.is.fixes c.args.number at.within) in
    omega (arith, size, ap (λ (f : List (Option ℕ)). length f) fixed_is, c.len-2.ensures)

pub has_room-requires-clause-within : goal.has_room-requires-clause-within
has_room-requires-clause-within c =
    let table = c.args.table.now in
    let taken = c.requires.taken in
    let path = taken.grown.path in
    let at = place_open table c.args.nodes c.args.bound c.args.number c.args.growth taken in
    let fixed_is : c.in_ok-fixed.fixed ≡ path c.args.number = c.in_ok-fixed.ensures path (search rules) in
    let size = all_zip_size NamesVersion (units_of table) (path c.args.number) (taken.grown.is.fixes c.args.number at.within) in
    omega (arith, size, ap (λ (f : List (Option ℕ)). length f) fixed_is, c.len-2.ensures, taken.bytes.within)

pub returns-then-not-has_room-clause-step : goal.returns-then-not-has_room-clause-step
returns-then-not-has_room-clause-step c =
    let table = c.args.table.now in
    let most = c.args.nodes in
    let growth = c.args.growth in
    let unit = c.in-Some.unit in
    let taken = c.requires.taken in
    let path = taken.grown.path in
    let at = place_open table most c.args.bound c.args.number growth taken in
    let fixed_is : c.in_ok-fixed.fixed ≡ path c.args.number = c.in_ok-fixed.ensures path (search rules) in
    let count = ap (λ (u : CodedUnit). length u.versions.items) c.unit_at.ensures in
    let free : IsFreeUnit table (path c.args.number) unit = subst (λ (f : List (Option ℕ)). IsFreeUnit table f unit) fixed_is c.in-Some.ensures in
    let full : IsFull table growth (versions_of table unit) =
    subst (λ (n : ℕ). IsFull table growth n) (c.len-versions.ensures.value ∙ count) (c.has_room.ensures.full c.if-not-has_room.true) in
    subst (λ (e : EndedTree). Ends table most e × (e.known.distortion ≤ growth.known.distortion) × (e.found ≡ growth.found)) (sym c.as_spent-then-not-has_room.ensures) (
      ends_spent table most c.args.bound c.args.number unit growth c.requires.valid taken free (inr (
        λ enough. never_full table most (versions_of table unit) growth c.requires.valid (omega (arith, at.within, taken.nodes)) taken.bytes.are
            (λ j low. node_shared table most growth.found.buffers (path j) (node_of growth.arena.nodes.items j) (values_of growth.arena.values.items j) c.requires.nodes enough
            taken.founded.sound.shared (taken.grown.each j low) (taken.valued.each j low))
            taken.nodes (few_versions_of table unit c.requires.valid) full,
        full,
      )),
      omega arith,
      refl,
    )
