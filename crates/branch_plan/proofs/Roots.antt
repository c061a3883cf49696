-- A tree of one node with windows: what it shows, and how great its bound is at least.
use Rattle.std.proofs.Common.{◌≡◌, ◌≢◌, ℕ, ◌<◌, ◌≤◌, ◌⊎◌, List, [], ◌∷◌, length, map, All, Option, Some, refl, sym, ap₂, subst, ◌∙◌, inl, inr, arith, ◌≤ℤ◌}
use Rattle.std.specs.List.{Contains}
use Rattle.std.proofs.lemmas.Int.{ints}
use Rattle.std.proofs.lemmas.List.Elements.{All-cons}
use Rattle.arrayvec.specs.ArrayVec.{ArrayVec}
use Rattle.version_table.specs.declared.table.Unit.{Unit as CodedUnit}
use Rattle.version_table.specs.declared.table.Table.{Table}
use Rattle.version_table.specs.Table.{IsValidTable, units_of}
use Rattle.version_table.specs.Choice.{Fits, distortion_of_choice}
use Rattle.slot_rule.specs.Schedule.{IsScheduled}
use Rattle.buffer_windows.specs.declared.windows.BufferWindow.{BufferWindow as SeeingWindow}
use Rattle.buffer_windows.specs.Bounds.{bound_of_buffer_windows}
use Rattle.multiplier_search.specs.Buffered.{AreSearchedBuffered}
use Rattle.branch_plan.specs.declared.found.Found.{Found}
use Rattle.branch_plan.specs.Private.Found.{ReachesBoth}
use Rattle.dual_bounds.specs.declared.constants.TheConstants.{WINDOWS_MOST}
use Rattle.dual_bounds.specs.declared.windows.Multiplier.{Multiplier}
use Rattle.dual_bounds.specs.declared.windows.Window.{Window as PricedWindow}
use Rattle.dual_bounds.specs.Bounds.{bound_of_value}
use Rattle.dual_bounds.specs.Values.{from_start, value_of_multipliers, value_of_windows}
use Rattle.dual_bounds.proofs.ValueLaws.{bounds_rise}
use Rattle.multiplier_search.specs.Single.{IsBestSingle, IsFirstBest, IsNoWorseMultiplier, dues_of}
use Rattle.multiplier_search.specs.Turns.{BeatAdditions}
use Rattle.multiplier_search.specs.Windows.{AreSearched, BeatEachTried}
use Rattle.bound_certificate.specs.declared.cert.Cert.{Cert}
use Rattle.bound_certificate.specs.declared.cert.Node.TheVariants.{Window, BufferWindow}
use Rattle.certificate_checker.specs.Shown.{unfixed}
use Rattle.certificate_checker.specs.Faults.{AreRight, AreRightBufferWindows, IsHeadRight}
use Rattle.certificate_checker.specs.Walk.{Shows, Walks, leaf}
use Rattle.certificate_checker.specs.Checked.{IsFaultless}
use Rattle.certificate_checker.proofs.Soundness.{faultless_bound}
use Rattle.branch_plan.specs.Bound.{IsAtLeastEachPair, IsAtLeastEachTried, unit_dues}
use Rattle.branch_plan.specs.Plan.{ShowsItsBound}
use Rattle.branch_plan.specs.declared.known.Known.{Known}
use Rattle.branch_plan.specs.Private.Known.{IsKnown}
use Rattle.branch_plan.specs.Private.Root.{BeatEachPair}

-- ---- the tree
searched_right : (windows : List PricedWindow) → AreSearched windows → AreRight windows
searched_right windows searched = (searched.rise, (λ k d low. (searched.sound k d low).order), (λ k d low. (searched.sound k d low).lambda))

root_shows : (table : Table) (priced : ArrayVec PricedWindow) → AreSearched priced.items
    → Walks table (unfixed table) (Window priced ∷ []) (Shows (Some (bound_of_value (value_of_windows table (unfixed table) priced.items))) [])
root_shows table priced searched = leaf (unfixed table) (Window priced) [] tt (searched_right priced.items searched)

-- a certificate that shows its bound has no fault, where its head has none
pub faultless : (table : Table) (cert : Cert) → IsHeadRight table cert → ShowsItsBound table cert → IsFaultless table cert
faultless table cert head shows = record { head = head; shown = Some cert.bound; tree = shows; bound = omega arith }

-- the bound of windows at the root is at most the distortion of a known choice
pub root_at_most : (table : Table) (priced : ArrayVec PricedWindow) (known : Known) → IsValidTable table → AreSearched priced.items → IsKnown table known
    → bound_of_value (value_of_windows table (unfixed table) priced.items) ≤ known.distortion
root_at_most table priced known valid searched is =
    let bound = bound_of_value (value_of_windows table (unfixed table) priced.items) in
    let cert : Cert = record { version = 2; bound = bound; distortion = known.distortion; choice = known.choice; nodes = Window priced ∷ [] } in
    let head : IsHeadRight table cert = record { fits = is.fits; scheduled = is.scheduled; distortion = is.distortion } in
    let right : IsFaultless table cert = faultless table cert head (root_shows table priced searched) in
    subst (λ (n : ℕ). bound ≤ n) (sym is.distortion) (faultless_bound table cert valid right known.choice is.fits is.scheduled)

-- the same of windows that see the buffers
pub right_buffered : (table : Table) (windows : List SeeingWindow) → AreSearchedBuffered table windows → AreRightBufferWindows table windows
right_buffered table windows searched =
    record {
      rise = searched.rise;
      some = λ k d within. (searched.sound k d within).allowed;
      programs = λ k d within. (searched.sound k d within).programs;
      limit = λ k d within. (searched.sound k d within).lambda;
    }

pub seen_at_most : (table : Table) (windows : List SeeingWindow) (bound : ℕ) (known : Known) → IsValidTable table → AreSearchedBuffered table windows
    → bound_of_buffer_windows table (unfixed table) windows ≡ Some bound → IsKnown table known → bound ≤ known.distortion
seen_at_most table windows bound known valid searched seen is =
    let cert : Cert = record { version = 3; bound = bound; distortion = known.distortion; choice = known.choice; nodes = BufferWindow windows ∷ [] } in
    let head : IsHeadRight table cert = record { fits = is.fits; scheduled = is.scheduled; distortion = is.distortion } in
    let shows = subst (λ (b : Option ℕ). Walks table (unfixed table) (BufferWindow windows ∷ []) (Shows b [])) seen
    (leaf (unfixed table) (BufferWindow windows) [] tt (right_buffered table windows searched)) in
    let right : IsFaultless table cert = faultless table cert head shows in
    subst (λ (n : ℕ). bound ≤ n) (sym is.distortion) (faultless_bound table cert valid right known.choice is.fits is.scheduled)

-- ---- the greater bound of both kinds
of_choice : (table : Table) (choice : List ℕ) → Known
of_choice table choice = record { choice = choice; distortion = distortion_of_choice table choice }

known_is : (table : Table) (choice : List ℕ) → Fits table choice → IsScheduled table choice → IsKnown table (of_choice table choice)
unfolding of_choice
known_is table choice fits scheduled = record { fits = fits; scheduled = scheduled; distortion = refl }

pub reaches_seen : (table : Table) (found : Found) (time bound : ℕ) → IsValidTable table → AreSearchedBuffered table found.buffers
    → bound_of_buffer_windows table (unfixed table) found.buffers ≡ Some bound → time < bound → ReachesBoth table found time bound
unfolding of_choice
reaches_seen table found time bound valid searched seen more =
    record {
      least = omega (arith, more);
      buffers = λ other is. omega (arith, some_same other bound (sym is ∙ seen));
      reached = inr (bound, seen, omega arith);
      bounds = λ choice fits scheduled. seen_at_most table found.buffers bound (of_choice table choice) valid searched seen (known_is table choice fits scheduled);
    }
  where
    some_same : (a b : ℕ) → Some a ≡ Some b → a ≡ b
    some_same a b e = grind (arith, e)

pub reaches_time : (table : Table) (found : Found) (time : ℕ) (seen : Option ℕ) → IsValidTable table → AreSearched found.time.items
    → time ≡ bound_of_value (value_of_windows table (unfixed table) found.time.items) → bound_of_buffer_windows table (unfixed table) found.buffers ≡ seen
    → ((bound : ℕ) → seen ≡ Some bound → bound ≤ time) → ReachesBoth table found time time
unfolding of_choice
reaches_time table found time seen valid searched time_is seen_is less =
    record {
      least = omega arith;
      buffers = λ other is. less other (sym seen_is ∙ is);
      reached = inl (omega (arith, time_is));
      bounds = λ choice fits scheduled.
          omega (arith, time_is, root_at_most table found.time (of_choice table choice) valid searched (known_is table choice fits scheduled));
    }

-- ---- its bound
pub tried_bounds : (table : Table) (windows : List PricedWindow) (bound : ℕ) → BeatEachTried table (unfixed table) (unit_dues table) windows
    → bound ≡ bound_of_value (value_of_windows table (unfixed table) windows) → IsAtLeastEachTried table bound
tried_bounds table windows bound beaten same tried is =
    subst (λ (n : ℕ). bound_of_value (value_of_windows table (unfixed table) (tried ∷ [])) ≤ n) (sym same)
    (bounds_rise (value_of_windows table (unfixed table) (tried ∷ [])) (value_of_windows table (unfixed table) windows) (beaten tried is))

pub pair_bounds : (table : Table) (windows : List PricedWindow) (bound : ℕ) → BeatEachPair table (unfixed table) windows
    → bound ≡ bound_of_value (value_of_windows table (unfixed table) windows) → IsAtLeastEachPair table bound
pair_bounds table windows bound beaten same first other best is differs =
    subst (λ (n : ℕ). bound_of_value (value_of_multipliers table (unfixed table) (other ∷ first ∷ [])) ≤ n) (sym same)
    (bounds_rise (value_of_multipliers table (unfixed table) (other ∷ first ∷ [])) (value_of_windows table (unfixed table) windows) (beaten first other best is differs))

-- ---- the first best multiplier is one
same_multiplier : (a b : Multiplier) → a.due ≡ b.due → a.lambda ≡ b.lambda → a ≡ b
same_multiplier a b due lambda = ap₂ (λ (d l : ℕ). record { due = d; lambda = l }) due lambda

no_worse_both : (table : Table) (fixed : List (Option ℕ)) (a b : Multiplier) → IsNoWorseMultiplier table fixed a b → IsNoWorseMultiplier table fixed b a → a ≡ b
no_worse_both table fixed a b (inl more) (inl less) = absurd (omega (arith, ints, more, less))
no_worse_both table fixed a b (inl more) (inr same) = absurd (omega (arith, ints, more, same.0))
no_worse_both table fixed a b (inr same) (inl more) = absurd (omega (arith, ints, more, same.0))
no_worse_both table fixed a b (inr same) (inr like) = order same.1 like.1
  where
    order : (a.due < b.due) ⊎ ((a.due ≡ b.due) × (a.lambda ≤ b.lambda)) → (b.due < a.due) ⊎ ((b.due ≡ a.due) × (b.lambda ≤ a.lambda)) → a ≡ b
    order (inl less) (inl more) = absurd (omega (arith, less, more))
    order (inl less) (inr at) = absurd (omega (arith, less, at.0))
    order (inr at) (inl less) = absurd (omega (arith, less, at.0))
    order (inr at) (inr also) = same_multiplier a b at.0 (omega (arith, at.1, also.1))

one_first_best : (table : Table) (fixed : List (Option ℕ)) (dues : List ℕ) (a b : Multiplier) → IsFirstBest table fixed dues a → IsFirstBest table fixed dues b → a ≡ b
one_first_best table fixed dues a b first second = no_worse_both table fixed a b (first.first b second.candidate) (second.first a first.candidate)

no_due : (units : List CodedUnit) (due : ℕ) → units ≡ [] → Contains (dues_of units) due → ⊥
no_due [] due none (k, within, is) = absurd (omega (arith, within))
no_due (unit ∷ units) due none there = cc

-- one turn behind the first best multiplier reaches each pair with it
pub pairs_beaten : (table : Table) (fixed : List (Option ℕ)) (single pair : List Multiplier) → IsBestSingle table fixed single
    → (length single < WINDOWS_MOST → BeatAdditions table fixed (dues_of (units_of table)) (map from_start single) (map from_start pair))
    → BeatEachPair table fixed (map from_start pair)
unfolding value_of_multipliers
pairs_beaten table fixed [] pair none additions first other best is differs = absurd (no_due (units_of table) other.due none is.due)
pairs_beaten table fixed (one ∷ []) pair single additions first other best is differs =
    let same : first ≡ one = one_first_best table fixed (unit_dues table) first one best single in
    let apart : one.due ≢ other.due = (λ at. differs (sym (subst (λ (m : Multiplier). m.due ≡ other.due) (sym same) at))) in
    let all : All (λ (w : PricedWindow). w.due ≢ other.due) (map from_start (one ∷ [])) =
    All-cons (λ (w : PricedWindow). w.due ≢ other.due) (from_start one) [] apart (λ k d low. absurd (omega (arith, low))) in
    let beaten = additions (omega arith) other.due other.lambda is.due all is.lambda in
    subst (λ (m : Multiplier). value_of_multipliers table fixed (other ∷ m ∷ []) ≤ℤ value_of_windows table fixed (map from_start pair)) (sym same) beaten
pairs_beaten table fixed (one ∷ two ∷ more) pair single additions first other best is differs = absurd single
