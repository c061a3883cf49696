-- The versions of a unit one after the other, as a loop reads them.
use Rattle.std.proofs.Common.{◌≡◌, ℕ, zero, suc, ◌-◌, ◌<◌, List, [], ◌∷◌, ◌++◌, length, codes, Some, None, refl, sym, ap, ◌∙◌, append_assoc, arith}
use Rattle.std.proofs.lemmas.List.{append-nil, length_push}
use Rattle.version_table.specs.declared.limits.TheConstants.{VERSIONS_MOST}
use Rattle.version_table.specs.declared.line.StatedVersion.{StatedVersion}
use Rattle.version_table.specs.Private.Reading.{◌>>=◌, Read, after, version_at, versions_at}

-- what was read before, and what is still read
abbrev pub with_front : List StatedVersion → Read (List StatedVersion) → Read (List StatedVersion)
with_front front read = read >>= λ x. Some (front ++ x.0, x.1)

regroup : (front : List StatedVersion) (version : StatedVersion) (read : Read (List StatedVersion))
    → with_front front (read >>= λ x. Some (version ∷ x.0, x.1)) ≡ with_front (front ++ version ∷ []) read
regroup front version None = refl
regroup front version (Some x) = ap (λ (versions : List StatedVersion). Some (versions, x.1)) (simp append_assoc)

-- one more version
pub goes_on : (front : List StatedVersion) (text behind then : List ℕ) (version : StatedVersion) (whole : Read (List StatedVersion)) → length front < VERSIONS_MOST
    → after (codes " ") text ≡ Some behind → version_at behind ≡ Some (version, then) → with_front front (versions_at (VERSIONS_MOST - length front) text) ≡ whole
    → with_front (front ++ version ∷ []) (versions_at (VERSIONS_MOST - length (front ++ version ∷ [])) then) ≡ whole
unfolding versions_at
goes_on front text behind then version whole room space read so_far =
    let most = VERSIONS_MOST - length (front ++ version ∷ []) in
    let one_less : VERSIONS_MOST - length front ≡ suc most = omega (arith, length_push front version) in
    let here : with_front front (versions_at (VERSIONS_MOST - length front) text) ≡ with_front front (versions_at most then >>= λ x. Some (version ∷ x.0, x.1)) = rw (one_less, space, read) refl in
    sym (regroup front version (versions_at most then)) ∙ sym here ∙ so_far

-- a version more than there may be
pub one_too_many : (front : List StatedVersion) (text behind : List ℕ) (whole : Read (List StatedVersion)) → length front ≡ VERSIONS_MOST
    → after (codes " ") text ≡ Some behind → with_front front (versions_at (VERSIONS_MOST - length front) text) ≡ whole → None ≡ whole
unfolding versions_at
one_too_many front text behind whole full space so_far =
    let none_left : VERSIONS_MOST - length front ≡ 0 = omega (arith, full) in
    let here : with_front front (versions_at (VERSIONS_MOST - length front) text) ≡ None = rw (none_left, space) refl in
    sym here ∙ so_far

-- no version behind a space
pub breaks_off : (front : List StatedVersion) (text behind : List ℕ) (whole : Read (List StatedVersion)) → length front < VERSIONS_MOST
    → after (codes " ") text ≡ Some behind → version_at behind ≡ None → with_front front (versions_at (VERSIONS_MOST - length front) text) ≡ whole → None ≡ whole
unfolding versions_at
breaks_off front text behind whole room space read so_far =
    let one_less : VERSIONS_MOST - length front ≡ suc (VERSIONS_MOST - length front - 1) = omega arith in
    let here : with_front front (versions_at (VERSIONS_MOST - length front) text) ≡ None = rw (one_less, space, read) refl in
    sym here ∙ so_far

stops_at : (n : ℕ) (text : List ℕ) → after (codes " ") text ≡ None → versions_at n text ≡ Some ([], text)
unfolding versions_at
stops_at zero text no_space = rw no_space refl
stops_at (suc n) text no_space = rw no_space refl

-- no further version
pub stops : (front : List StatedVersion) (text : List ℕ) (whole : Read (List StatedVersion)) → after (codes " ") text ≡ None
    → with_front front (versions_at (VERSIONS_MOST - length front) text) ≡ whole → Some (front, text) ≡ whole
stops front text whole no_space so_far =
    let here : with_front front (versions_at (VERSIONS_MOST - length front) text) ≡ Some (front, text) =
    rw (stops_at (VERSIONS_MOST - length front) text no_space) (ap (λ (versions : List StatedVersion). Some (versions, text)) (append-nil front)) in
    sym here ∙ so_far
