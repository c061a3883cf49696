-- Lists of instants of which one stays below the other, over plain lists.
use Rattle.std.proofs.Common.{◌≡◌, ℕ, zero, suc, ◌+◌, ◌*◌, ◌<◌, ◌≤◌, List, [], ◌∷◌, ◌++◌, length, drop, map, replicate, max, refl, ◌∙◌, subst, arith, inl, inr, Bool, false, None}
use Rattle.std.proofs.lemmas.Bool.{cases_Bool, cond-true, cond-false, lt-ltb, le-ltb}
use Rattle.tstd_model.specs.Instants.{departures, departures_into}
use Rattle.tstd_model.specs.PacketBytes.{PacketPart, Overhead, PesHeader, Data, kept, with_headers}
use Rattle.tstd_model.specs.Private.Keeps.{Keeps, EachAtLeast}
use Rattle.tstd_model.specs.Private.Scans.{RemovedByte, first_over, first_late, first_old, is_held}
use Rattle.tstd_model.specs.Private.Server.{EachAtMost, Spaced}
use Rattle.tstd_model.proofs.OverLaws.{first_over-passes}

-- ---- the order
pub keeps-same : (xs : List ℕ) → Keeps 0 0 xs xs
keeps-same [] = tt
keeps-same (x ∷ xs) = (omega arith, keeps-same xs)

pub keeps-through : (gap delay : ℕ) (xs ys zs : List ℕ) → Keeps gap delay xs ys → Keeps 0 0 ys zs → Keeps gap delay xs zs
keeps-through gap delay [] ys zs first second = tt
keeps-through gap delay (x ∷ xs) [] zs first second = absurd first
keeps-through gap delay (x ∷ xs) (y ∷ ys) [] first second = absurd second
keeps-through gap delay (x ∷ xs) (y ∷ ys) (z ∷ zs) first second = (omega (arith, first.0, second.0), keeps-through gap delay xs ys zs first.1 second.1)

pub keeps-behind : (count at : ℕ) (xs ys : List ℕ) → Keeps 0 0 xs ys → Keeps 0 0 (replicate count at ++ xs) (replicate count at ++ ys)
keeps-behind zero at xs ys keeps = keeps
keeps-behind (suc count) at xs ys keeps = (omega arith, keeps-behind count at xs ys keeps)

-- a run, and the front of the next one
pub keeps-run : (n w k m a most top count : ℕ) (rest : List ℕ) → top ≡ n + w → count ≡ w + k → m ≤ most → a ≤ most
    → Keeps 0 0 (replicate top most ++ (replicate k a ++ rest)) (replicate n m ++ (replicate count a ++ rest))
keeps-run zero zero k m a most zero count rest top_is count_is le le' =
    let same : k ≡ count = omega arith in
    subst (λ c. Keeps 0 0 (replicate k a ++ rest) (replicate c a ++ rest)) same (keeps-same (replicate k a ++ rest))
keeps-run zero zero k m a most (suc top) count rest top_is count_is le le' = absurd (omega arith)
keeps-run zero (suc w) k m a most zero count rest top_is count_is le le' = absurd (omega arith)
keeps-run zero (suc w) k m a most (suc top) zero rest top_is count_is le le' = absurd (omega arith)
keeps-run zero (suc w) k m a most (suc top) (suc count) rest top_is count_is le le' =
    (omega arith, keeps-run zero w k m a most top count rest (omega arith) (omega arith) le le')
keeps-run (suc n) w k m a most zero count rest top_is count_is le le' = absurd (omega arith)
keeps-run (suc n) w k m a most (suc top) count rest top_is count_is le le' = (omega arith, keeps-run n w k m a most top count rest (omega arith) count_is le le')

-- ---- one behind another
pub keeps-least : (gap delay least most count : ℕ) (xs rest lows : List ℕ) → length xs ≡ count → EachAtLeast least xs → most + gap ≤ least + delay → Keeps gap delay rest lows
    → Keeps gap delay (xs ++ rest) (replicate count most ++ lows)
keeps-least gap delay least most zero [] rest lows is each le keeps = keeps
keeps-least gap delay least most zero (x ∷ xs) rest lows is each le keeps = absurd (omega arith)
keeps-least gap delay least most (suc count) [] rest lows is each le keeps = absurd (omega arith)
keeps-least gap delay least most (suc count) (x ∷ xs) rest lows is each le keeps =
    (omega (arith, each.0), keeps-least gap delay least most count xs rest lows (omega arith) each.1 le keeps)

pub keeps-most : (most count : ℕ) (xs highs rest : List ℕ) → length xs ≡ count → EachAtMost most xs → Keeps 0 0 highs rest
    → Keeps 0 0 (replicate count most ++ highs) (xs ++ rest)
keeps-most most zero [] highs rest is each keeps = keeps
keeps-most most zero (x ∷ xs) highs rest is each keeps = absurd (omega arith)
keeps-most most (suc count) [] highs rest is each keeps = absurd (omega arith)
keeps-most most (suc count) (x ∷ xs) highs rest is each keeps = (omega (arith, each.0), keeps-most most count xs highs rest (omega arith) each.1 keeps)

pub keeps-front : (gap delay : ℕ) (xs ys rest lows : List ℕ) → length ys ≡ length xs → Keeps gap delay xs ys → Keeps gap delay rest lows → Keeps gap delay (xs ++ rest) (ys ++ lows)
keeps-front gap delay [] [] rest lows is keeps later = later
keeps-front gap delay [] (y ∷ ys) rest lows is keeps later = absurd (omega arith)
keeps-front gap delay (x ∷ xs) [] rest lows is keeps later = absurd keeps
keeps-front gap delay (x ∷ xs) (y ∷ ys) rest lows is keeps later = (keeps.0, keeps-front gap delay xs ys rest lows (omega arith) keeps.1 later)

-- ---- a server
pub keeps-departures : (s l l' : ℕ) (xs ys : List ℕ) → l ≤ l' → Keeps 0 0 xs ys → Keeps 0 0 (departures s l' xs) (departures s l ys)
unfolding departures
keeps-departures s l l' [] ys le keeps = tt
keeps-departures s l l' (x ∷ xs) [] le keeps = absurd keeps
keeps-departures s l l' (x ∷ xs) (y ∷ ys) le keeps =
    (omega (arith, keeps.0), keeps-departures s (max y l + s) (max x l' + s) xs ys (omega (arith, keeps.0)) keeps.1)

pub keeps-comes : (s l : ℕ) (xs : List ℕ) → Keeps 0 0 (departures s l xs) xs
unfolding departures
keeps-comes s l [] = tt
keeps-comes s l (x ∷ xs) = (omega arith, keeps-comes s (max x l + s) xs)

pub keeps-into : (s l l' : ℕ) (rooms rooms' xs ys : List ℕ) → l ≤ l' → Keeps 0 0 rooms' rooms → Keeps 0 0 xs ys
    → Keeps 0 0 (departures_into rooms' s l' xs) (departures_into rooms s l ys)
unfolding departures_into
keeps-into s l l' rooms rooms' [] ys le free keeps = tt
keeps-into s l l' rooms [] (x ∷ xs) ys le free keeps = tt
keeps-into s l l' rooms (room' ∷ rooms') (x ∷ xs) [] le free keeps = absurd keeps
keeps-into s l l' [] (room' ∷ rooms') (x ∷ xs) (y ∷ ys) le free keeps = absurd free
keeps-into s l l' (room ∷ rooms) (room' ∷ rooms') (x ∷ xs) (y ∷ ys) le free keeps = (
  omega (arith, keeps.0, free.0),
  keeps-into s (max (max y l + s) room) (max (max x l' + s) room') rooms rooms' xs ys (omega (arith, keeps.0, free.0)) free.1 keeps.1,
)

-- a run that comes by some instant and has room by then moves by so much later
pub keeps-moved : (s l by come room at count : ℕ) (rooms comes : List ℕ) → l ≤ by → come ≤ by → room ≤ by → by + s * count ≤ at
    → Keeps 0 0 (replicate count at ++ departures_into rooms s at comes) (departures_into (replicate count room ++ rooms) s l (replicate count come ++ comes))
unfolding departures_into
keeps-moved s l by come room at zero rooms comes le le' le'' end = keeps-into s l at rooms rooms comes comes (omega arith) (keeps-same rooms) (keeps-same comes)
keeps-moved s l by come room at (suc count) rooms comes le le' le'' end = (
  omega arith,
  keeps-moved s (max (max come l + s) room) (by + s) come room at count rooms comes (omega arith) (omega arith) (omega arith) (omega arith),
)

-- ---- bytes that are kept
pub keeps-kept : (test : PacketPart → Bool) (ps : List PacketPart) (xs ys : List ℕ) → length xs ≡ length ys → Keeps 0 0 xs ys → Keeps 0 0 (kept test ps xs) (kept test ps ys)
unfolding kept
keeps-kept test [] xs ys is keeps = tt
keeps-kept test (part ∷ ps) [] ys is keeps = tt
keeps-kept test (part ∷ ps) (x ∷ xs) [] is keeps = absurd keeps
keeps-kept test (part ∷ ps) (x ∷ xs) (y ∷ ys) is keeps =
    let later = keeps-kept test ps xs ys (omega arith) keeps.1 in
    elim (cases_Bool (test part)) [
      | inl passes ↦
          rw (cond-true (test part) (x ∷ kept test ps xs) (kept test ps xs) passes)
          (rw (cond-true (test part) (y ∷ kept test ps ys) (kept test ps ys) passes) ((keeps.0, later)))
      | inr fails ↦
          rw (cond-false (test part) (x ∷ kept test ps xs) (kept test ps xs) fails)
          (rw (cond-false (test part) (y ∷ kept test ps ys) (kept test ps ys) fails) later)
    ]

pub keeps-headers : (ps : List PacketPart) (xs ys : List ℕ) → Keeps 0 0 xs ys → Keeps 0 0 (with_headers ps xs) (with_headers ps ys)
unfolding with_headers
keeps-headers [] xs ys keeps = tt
keeps-headers (Overhead ∷ ps) xs ys keeps = keeps-headers ps xs ys keeps
keeps-headers (PesHeader ∷ ps) [] ys keeps = tt
keeps-headers (PesHeader ∷ ps) (x ∷ xs) [] keeps = absurd keeps
keeps-headers (PesHeader ∷ ps) (x ∷ xs) (y ∷ ys) keeps = (keeps.0, keeps-headers ps (x ∷ xs) (y ∷ ys) keeps)
keeps-headers (Data ∷ ps) [] ys keeps = tt
keeps-headers (Data ∷ ps) (x ∷ xs) [] keeps = absurd keeps
keeps-headers (Data ∷ ps) (x ∷ xs) (y ∷ ys) keeps = (keeps.0, keeps-headers ps xs ys keeps.1)

-- ---- what follows
-- with room for some at once: those behind them
pub keeps-drop : (size : ℕ) (ins outs : List ℕ) → Keeps 0 0 ins (replicate size 0 ++ outs) → Keeps 0 0 (drop size ins) outs
keeps-drop zero ins outs keeps = keeps
keeps-drop (suc size) [] outs keeps = tt
keeps-drop (suc size) (x ∷ ins) outs keeps = keeps-drop size ins outs keeps.1

-- each leaves a step behind the one before: at most so many steps late is at most so many of them behind
keeps-shift : (s o delay : ℕ) (ins outs : List ℕ) → Spaced s o outs → Keeps 0 (delay + s) ins outs → Keeps 0 delay ins (o ∷ outs)
keeps-shift s o delay [] outs rise keeps = tt
keeps-shift s o delay (x ∷ ins) [] rise keeps = absurd keeps
keeps-shift s o delay (x ∷ ins) (out ∷ outs) rise keeps = (omega (arith, keeps.0, rise.0), keeps-shift s out delay ins outs rise.1 keeps.1)

pub keeps-steps : (s l size delay late : ℕ) (ins outs : List ℕ) → late ≡ delay + s * size → Spaced s l outs → Keeps 0 late ins outs → Keeps 0 delay (drop size ins) outs
keeps-steps s l zero delay late ins outs is rise keeps =
    let same : late ≡ delay = omega arith in
    subst (λ d. Keeps 0 d ins outs) same keeps
keeps-steps s l (suc size) delay late [] outs is rise keeps = tt
keeps-steps s l (suc size) delay late (x ∷ ins) [] is rise keeps = absurd keeps
keeps-steps s l (suc size) delay late (x ∷ ins) (o ∷ outs) is rise keeps =
    let shorter = delay + s * size in
    let same : late ≡ shorter + s = omega arith in
    keeps-steps s l size delay shorter ins (o ∷ outs) refl rise
    (keeps-shift s o shorter ins outs rise.1 (subst (λ d. Keeps 0 d ins outs) same keeps.1))

pub over-none : (ins outs : List ℕ) → Keeps 0 0 ins outs → first_over ins outs ≡ None
unfolding first_over
over-none [] outs keeps = refl
over-none (x ∷ ins) [] keeps = absurd keeps
over-none (x ∷ ins) (out ∷ outs) keeps = first_over-passes x out ins outs (omega (arith, keeps.0)) ∙ over-none ins outs keeps.1

pub late-none : (comes : List ℕ) (bytes : List RemovedByte) → Keeps 1 0 (map (λ byte. byte.at) bytes) comes → first_late comes bytes ≡ None
unfolding first_late
late-none comes [] keeps = refl
late-none [] (byte ∷ bytes) keeps = absurd keeps
late-none (come ∷ comes) (byte ∷ bytes) keeps =
    cond-true _ _ _ (lt-ltb come byte.at (omega (arith, keeps.0))) ∙ late-none comes bytes keeps.1

held-not : (limit : ℕ) (part : PacketPart) (come out : ℕ) (outs : List ℕ) → out ≤ come + limit → is_held limit part come (out ∷ outs) ≡ false
unfolding is_held
held-not limit Data come out outs le = le-ltb (come + limit) out le
held-not limit PesHeader come out outs le = refl
held-not limit Overhead come out outs le = refl

pub old-none : (limit : ℕ) (ps : List PacketPart) (comes outs : List ℕ) → Keeps 0 limit comes outs → first_old limit ps comes outs ≡ None
unfolding first_old
old-none limit [] comes outs keeps = refl
old-none limit (part ∷ ps) [] outs keeps = refl
old-none limit (part ∷ ps) (come ∷ comes) [] keeps = absurd keeps
old-none limit (part ∷ ps) (come ∷ comes) (out ∷ outs) keeps =
    cond-false _ _ _ (held-not limit part come out outs (omega (arith, keeps.0))) ∙ old-none limit ps comes outs keeps.1

-- what is behind a run is shorter
keeps-longer : (gap delay : ℕ) (highs lows : List ℕ) → Keeps gap delay highs lows → length highs ≤ length lows
keeps-longer gap delay [] lows keeps = omega arith
keeps-longer gap delay (high ∷ highs) [] keeps = absurd keeps
keeps-longer gap delay (high ∷ highs) (low ∷ lows) keeps = omega (arith, keeps-longer gap delay highs lows keeps.1)

pub keeps-length : (count at : ℕ) (after before : List ℕ) → 0 < count → Keeps 0 0 (replicate count at ++ after) before → length after < length before
keeps-length zero at after before some keeps = absurd (omega arith)
keeps-length (suc count) at after [] some keeps = absurd keeps
keeps-length (suc zero) at after (low ∷ lows) some keeps = omega (arith, keeps-longer 0 0 after lows keeps.1)
keeps-length (suc (suc count)) at after (low ∷ lows) some keeps = omega (arith, keeps-length (suc count) at after lows (omega arith) keeps.1)
