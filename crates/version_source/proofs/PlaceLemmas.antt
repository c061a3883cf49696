-- The streams of programs, at their places.
use Rattle.std.proofs.Common.{◌≡◌, ℕ, zero, suc, ◌+◌, ◌-◌, ◌<◌, ◌≤◌, List, [], ◌∷◌, ◌++◌, length, map, take, drop, get_or, slice_index_or, refl, ap, subst, sym, ◌∙◌, arith}
use Rattle.std.proofs.lemmas.List.{get_or_append_left, get_or-append-add, length-append, length-map}
use Rattle.bit_lists.specs.Payload.{Payload}
use Rattle.program_reader.specs.declared.program.Program.{Program}
use Rattle.version_maker.specs.declared.version.UnitVersion.{UnitVersion}
use Rattle.version_source.specs.Pieces.{audio_items, stream_items, video_items}
use Rattle.version_source.specs.Versions.{NamesVersions}
use Rattle.version_source.specs.Private.Place.{Covers, Skips}

-- ---- over the programs before

-- one program more
skip-one : (programs : List Program) (choice : List ℕ) (stream k left : ℕ) (rest : List ℕ) (d : Program) → Skips programs choice stream k left rest → k < length programs
    → length (get_or programs k d).audios < left → Skips programs choice stream (suc k) (left - length (get_or programs k d).audios - 1) (drop (length (get_or programs k d).units) rest)
skip-one [] choice stream k left rest d skips within more = absurd (let e : k < 0 = within in omega (arith, e))
skip-one (p ∷ ps) choice stream zero left rest d (same, all) within more =
    (left - length p.audios - 1, omega (arith, same, more), (refl, ap (λ (xs : List ℕ). drop (length p.units) xs) all))
skip-one (p ∷ ps) choice stream (suc k) left rest d (below, split, skips) within more =
    (below, split, skip-one ps (drop (length p.units) choice) below k left rest d skips (omega (arith, within)) more)

-- where what is left is known by equations
pub skip-further : (programs : List Program) (choice : List ℕ) (stream k next left less count : ℕ) (rest behind : List ℕ) (program : Program) → Skips programs choice stream k left rest
    → k < length programs → program ≡ get_or programs k program → next ≡ suc k → length program.audios < left → less ≡ left - length program.audios - 1 → count ≡ length program.units
    → behind ≡ drop count rest → Skips programs choice stream next less behind
skip-further programs choice stream k next left less count rest behind program skips within is on more less_is count_is behind_is =
    let units : ℕ = length (get_or programs k program).units in
    let audios : length program.audios ≡ length (get_or programs k program).audios = ap (λ (p : Program). length p.audios) is in
    let same : count ≡ units = count_is ∙ ap (λ (p : Program). length p.units) is in
    let all : behind ≡ drop units rest = behind_is ∙ ap (λ (n : ℕ). drop n rest) same in
    let left_is : left - length (get_or programs k program).audios - 1 ≡ less = omega (arith, less_is, audios) in
    let plain : Skips programs choice stream (suc k) (left - length (get_or programs k program).audios - 1) (drop units rest) =
    skip-one programs choice stream k left rest program skips within (omega (arith, more, audios)) in
    subst (λ (xs : List ℕ). Skips programs choice stream next less xs) (sym all)
    (subst (λ (n : ℕ). Skips programs choice stream n less (drop units rest)) (sym on)
    (subst (λ (n : ℕ). Skips programs choice stream (suc k) n (drop units rest)) left_is plain))

-- the choice has a number for each unit of the next program
pub covers-at : (programs : List Program) (choice : List ℕ) (stream k left : ℕ) (rest : List ℕ) (d : Program) → Covers programs choice → Skips programs choice stream k left rest
    → k < length programs → length (get_or programs k d).units ≤ length rest
covers-at [] choice stream k left rest d covers skips within = absurd (let e : k < 0 = within in omega (arith, e))
covers-at (p ∷ ps) choice stream zero left rest d covers (same, all) within =
    let few : length p.units ≤ length choice = covers.0 in omega (arith, few, ap (λ (xs : List ℕ). length xs) all)
covers-at (p ∷ ps) choice stream (suc k) left rest d covers (below, split, skips) within =
    covers-at ps (drop (length p.units) choice) below k left rest d covers.1 skips (omega (arith, within))

-- ---- a choice by programs

take-own : (own rest : List ℕ) (n : ℕ) → length own ≡ n → take n (own ++ rest) ≡ own
take-own [] rest zero same = refl
take-own [] rest (suc n) same = absurd (cc)
take-own (x ∷ xs) rest zero same = absurd (cc)
take-own (x ∷ xs) rest (suc n) same = ap (λ (ys : List ℕ). x ∷ ys) (take-own xs rest n (omega (arith, same)))

drop-own : (own rest : List ℕ) (n : ℕ) → length own ≡ n → drop n (own ++ rest) ≡ rest
drop-own [] rest zero same = refl
drop-own [] rest (suc n) same = absurd (cc)
drop-own (x ∷ xs) rest zero same = absurd (cc)
drop-own (x ∷ xs) rest (suc n) same = drop-own xs rest n (omega (arith, same))

pub own-taken : (choice own rest : List ℕ) (n : ℕ) → choice ≡ own ++ rest → length own ≡ n → take n choice ≡ own
own-taken choice own rest n split same = ap (λ (xs : List ℕ). take n xs) split ∙ take-own own rest n same

pub own-dropped : (choice own rest : List ℕ) (n : ℕ) → choice ≡ own ++ rest → length own ≡ n → drop n choice ≡ rest
own-dropped choice own rest n split same = ap (λ (xs : List ℕ). drop n xs) split ∙ drop-own own rest n same

pub names-cover : (programs : List Program) (ratios : List (List ℕ)) (choice : List ℕ) → NamesVersions programs ratios choice → Covers programs choice
names-cover [] ratios choice names = tt
names-cover (p ∷ ps) [] choice names = absurd names
names-cover (p ∷ ps) (r ∷ rs) choice (own, rest, split, size, few, names) =
    let behind : drop (length p.units) choice ≡ rest = own-dropped choice own rest (length p.units) split size in (
      omega (arith, size, ap (λ (xs : List ℕ). length xs) split, length-append own rest),
      subst (Covers ps) (sym behind) (names-cover ps rs rest names),
    )

-- ---- the items of a stream

-- the streams of a program
abbrev own_items : Program → List (List UnitVersion) → (choice : List ℕ) → List (List (List Payload))
own_items program versions choice = video_items program.units versions choice ∷ map audio_items program.audios

own-many : (program : Program) (versions : List (List UnitVersion)) (choice : List ℕ) → length (own_items program versions choice) ≡ suc (length program.audios)
own-many program versions choice = ap suc (length-map program.audios audio_items)

pub stream-at : (programs : List Program) (versions : List (List (List UnitVersion))) (choice : List ℕ) (stream k left : ℕ) (rest : List ℕ) (d : Program) → length versions ≡ length programs
    → Skips programs choice stream k left rest → k < length programs → left ≤ length (get_or programs k d).audios
    → slice_index_or (stream_items programs versions choice) stream [] ≡ slice_index_or (own_items (get_or programs k d) (get_or versions k []) rest) left []
stream-at [] versions choice stream k left rest d many skips within one = absurd (let e : k < 0 = within in omega (arith, e))
stream-at (p ∷ ps) [] choice stream k left rest d many skips within one = absurd (cc)
stream-at (p ∷ ps) (v ∷ vs) choice stream zero left rest d many (same, all) within one =
    get_or_append_left (own_items p v choice) (stream_items ps vs (drop (length p.units) choice)) [] stream (omega (arith, own-many p v choice, same, one))
    ∙ ap (λ (n : ℕ). get_or (own_items p v choice) n []) (sym same) ∙ ap (λ (xs : List ℕ). get_or (own_items p v xs) left []) (sym all)
stream-at (p ∷ ps) (v ∷ vs) choice stream (suc k) left rest d many (below, split, skips) within one =
    let on : stream ≡ length (own_items p v choice) + below = omega (arith, own-many p v choice, split) in
    ap (λ (n : ℕ). get_or (own_items p v choice ++ stream_items ps vs (drop (length p.units) choice)) n []) on
    ∙ get_or-append-add (own_items p v choice) (stream_items ps vs (drop (length p.units) choice)) below []
    ∙ stream-at ps vs (drop (length p.units) choice) below k left rest d (omega (arith, many)) skips (omega (arith, within)) one

-- behind all streams there is none
pub no-stream : (programs : List Program) (versions : List (List (List UnitVersion))) (choice : List ℕ) (stream left : ℕ) (rest : List ℕ) → length versions ≡ length programs
    → Skips programs choice stream (length programs) left rest → slice_index_or (stream_items programs versions choice) stream [] ≡ []
no-stream [] versions choice stream left rest many skips = refl
no-stream (p ∷ ps) [] choice stream left rest many skips = refl
no-stream (p ∷ ps) (v ∷ vs) choice stream left rest many (below, split, skips) =
    let on : stream ≡ length (own_items p v choice) + below = omega (arith, own-many p v choice, split) in
    ap (λ (n : ℕ). get_or (own_items p v choice ++ stream_items ps vs (drop (length p.units) choice)) n []) on
    ∙ get_or-append-add (own_items p v choice) (stream_items ps vs (drop (length p.units) choice)) below []
    ∙ no-stream ps vs (drop (length p.units) choice) below left rest (omega (arith, many)) skips
