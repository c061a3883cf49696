-- What is kept of the videos of programs, each at its place.
use Rattle.std.proofs.Common.{◌≡◌, ℕ, zero, suc, ◌+◌, ◌<◌, List, [], ◌∷◌, ◌++◌, length, take, drop, get_or, set, replicate, All, Some, None, refl, ap, subst, sym, ◌∙◌, arith}
use Rattle.std.proofs.lemmas.List.Elements.{All-head, All-tail}
use Rattle.program_reader.specs.declared.program.Program.{Program}
use Rattle.version_source.specs.declared.sent_video.SentVideo.{SentVideo}
use Rattle.version_source.specs.Sendable.{IsSendable}
use Rattle.version_source.specs.Versions.{NamesVersions}
use Rattle.version_source.specs.Private.Kept.{AreKept, IsKept, IsVideo, nothing}
use Rattle.version_source.specs.Private.Place.{Skips}
use Rattle.version_source.proofs.PlaceLemmas.{own-dropped, own-taken}

pub kept-many : (programs : List Program) (ratios : List (List ℕ)) (choice : List ℕ) (sent : List SentVideo) → AreKept programs ratios choice sent → length sent ≡ length programs
kept-many [] [] choice [] kept = refl
kept-many [] [] choice (s ∷ ss) kept = absurd kept
kept-many [] (r ∷ rs) choice sent kept = absurd kept
kept-many (p ∷ ps) [] choice sent kept = absurd kept
kept-many (p ∷ ps) (r ∷ rs) choice [] kept = absurd kept
kept-many (p ∷ ps) (r ∷ rs) choice (s ∷ ss) kept = ap suc (kept-many ps rs (drop (length p.units) choice) ss kept.1)

-- what is kept at a place
pub kept-at : (programs : List Program) (ratios : List (List ℕ)) (choice : List ℕ) (sent : List SentVideo) (stream k left : ℕ) (rest : List ℕ) (d : Program) (e : SentVideo)
    → AreKept programs ratios choice sent → Skips programs choice stream k left rest → k < length programs
    → IsKept (get_or programs k d).video (get_or ratios k []) (get_or programs k d).units (take (length (get_or programs k d).units) rest) (get_or sent k e)
kept-at [] ratios choice sent stream k left rest d e kept skips within = absurd (let e : k < 0 = within in omega (arith, e))
kept-at (p ∷ ps) [] choice sent stream k left rest d e kept skips within = absurd kept
kept-at (p ∷ ps) (r ∷ rs) choice [] stream k left rest d e kept skips within = absurd kept
kept-at (p ∷ ps) (r ∷ rs) choice (s ∷ ss) stream zero left rest d e kept (same, all) within =
    subst (λ (xs : List ℕ). IsKept p.video r p.units (take (length p.units) xs) s) (sym all) kept.0
kept-at (p ∷ ps) (r ∷ rs) choice (s ∷ ss) stream (suc k) left rest d e kept (below, split, skips) within =
    kept-at ps rs (drop (length p.units) choice) ss below k left rest d e kept.1 skips (omega (arith, within))

-- another one in its place
pub kept-set : (programs : List Program) (ratios : List (List ℕ)) (choice : List ℕ) (sent : List SentVideo) (stream k left : ℕ) (rest : List ℕ) (d : Program) (new : SentVideo)
    → AreKept programs ratios choice sent → Skips programs choice stream k left rest → k < length programs
    → IsKept (get_or programs k d).video (get_or ratios k []) (get_or programs k d).units (take (length (get_or programs k d).units) rest) new
    → AreKept programs ratios choice (set sent k new)
kept-set [] ratios choice sent stream k left rest d new kept skips within is = absurd (let e : k < 0 = within in omega (arith, e))
kept-set (p ∷ ps) [] choice sent stream k left rest d new kept skips within is = absurd kept
kept-set (p ∷ ps) (r ∷ rs) choice [] stream k left rest d new kept skips within is = absurd kept
kept-set (p ∷ ps) (r ∷ rs) choice (s ∷ ss) stream zero left rest d new kept (same, all) within is =
    (subst (λ (xs : List ℕ). IsKept p.video r p.units (take (length p.units) xs) new) all is, kept.1)
kept-set (p ∷ ps) (r ∷ rs) choice (s ∷ ss) stream (suc k) left rest d new kept (below, split, skips) within is =
    (kept.0, kept-set ps rs (drop (length p.units) choice) ss below k left rest d new kept.1 skips (omega (arith, within)) is)

-- the video at a place can be sent
pub video-at : (programs : List Program) (ratios : List (List ℕ)) (choice : List ℕ) (stream k left : ℕ) (rest : List ℕ) (d : Program) → All IsSendable programs
    → NamesVersions programs ratios choice → Skips programs choice stream k left rest → k < length programs
    → IsVideo (get_or programs k d).video (get_or ratios k []) (get_or programs k d).units (take (length (get_or programs k d).units) rest)
video-at [] ratios choice stream k left rest d sendable names skips within = absurd (let e : k < 0 = within in omega (arith, e))
video-at (p ∷ ps) [] choice stream k left rest d sendable names skips within = absurd names
video-at (p ∷ ps) (r ∷ rs) choice stream zero left rest d sendable (own, others, split, size, few, names) (same, all) within =
    let here : IsSendable p = All-head IsSendable p ps sendable in
    let mine : take (length p.units) rest ≡ own = ap (λ (xs : List ℕ). take (length p.units) xs) all ∙ own-taken choice own others (length p.units) split size in
    subst (λ (xs : List ℕ). IsVideo p.video r p.units xs) (sym mine)
    (record { units_stand = here.units; pictures = here.pictures; chosen = few; enough = omega (arith, size) })
video-at (p ∷ ps) (r ∷ rs) choice stream (suc k) left rest d sendable (own, others, split, size, few, names) (below, over, skips) within =
    let behind : drop (length p.units) choice ≡ others = own-dropped choice own others (length p.units) split size in
    video-at ps rs (drop (length p.units) choice) below k left rest d (All-tail IsSendable p ps sendable) (subst (NamesVersions ps rs) (sym behind) names) skips (omega (arith, within))

-- before the first unit
pub nothing-kept : (programs : List Program) (ratios : List (List ℕ)) (choice : List ℕ) → length ratios ≡ length programs → AreKept programs ratios choice (replicate (length programs) nothing)
nothing-kept [] [] choice many = tt
nothing-kept [] (r ∷ rs) choice many = absurd (cc)
nothing-kept (p ∷ ps) [] choice many = absurd (cc)
nothing-kept (p ∷ ps) (r ∷ rs) choice many = (
  record { within = omega arith; before_is = refl; packet_is = λ packet other is within. absurd (let bad : None ≡ Some packet = is in cc) },
  nothing-kept ps rs (drop (length p.units) choice) (omega (arith, many)),
)

-- one more video
more-of : {A : Type 0} (x : A) (n : ℕ) → replicate n x ++ x ∷ [] ≡ replicate (suc n) x
more-of x zero = refl
more-of x (suc n) = ap (λ xs. x ∷ xs) (more-of x n)

pub one-more-kept : (n : ℕ) (old new : List SentVideo) (fresh : SentVideo) → old ≡ replicate n nothing → fresh.unit ≡ 0 → fresh.before ≡ None → fresh.packet ≡ None → new ≡ old ++ fresh ∷ []
    → new ≡ replicate (n + 1) nothing
one-more-kept n old new fresh are unit before packet pushed =
    let same : fresh ≡ nothing = rw (unit, before, packet) refl in
    let on : suc n ≡ n + 1 = omega arith in
    pushed ∙ ap (λ (xs : List SentVideo). xs ++ fresh ∷ []) are ∙ ap (λ (s : SentVideo). replicate n nothing ++ s ∷ []) same ∙ more-of nothing n ∙ ap (λ (m : ℕ). replicate m nothing) on
