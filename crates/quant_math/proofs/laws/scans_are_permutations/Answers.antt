use Rattle.std.proofs.Common.{refl, true, false, Bool, ◌≡◌, ◌==◌, ℕ, suc, zero, ◌&&◌}
use Rattle.std.specs.Prelude.{count_by}
use Rattle.std.proofs.lemmas.Bool.Decides.{Decides-below_and, Decides-eqb}
use Rattle.quant_math.specs.Scans.{scan_order}
use Rattle.quant_math.proofs.laws.scans_are_permutations.Goals as goal

abbrev visits : Bool → ℕ → ℕ
visits alternate index = count_by (λ x. x == index) (scan_order alternate)

-- whether the scan comes once to each raster index below n
abbrev visited_below : Bool → ℕ → Bool
visited_below alternate zero = true
visited_below alternate (suc n) = (visits alternate n == 1) && visited_below alternate n

visited : (alternate : Bool) → visited_below alternate 64 ≡ true
visited false = refl
visited true = refl

pub returns : goal.returns
returns c alternate index below =
    (Decides-below_and (λ k. visits alternate k == 1) (λ k. visits alternate k ≡ 1) (visited_below alternate) (λ k. Decides-eqb (visits alternate k) 1) refl (λ _. refl) 64).0
    (visited alternate) index below
