-- All streams of an output map are carried.
use Rattle.std.proofs.Common.{◌≡◌, ℕ, zero, suc, ◌+◌, ◌<◌, ◌≤◌, ◌==◌, Bool, true, false, not, ◌&&◌, ◌||◌, cond, List, [], ◌∷◌, ◌++◌, All, length, map, Some, refl, sym, ap, ap₂, ◌∙◌, subst, arith}
use Rattle.std.specs.List.{list_any, range_with_len}
use Rattle.std.proofs.lemmas.Bool.{eqb-true, ne_eqb}
use Rattle.std.proofs.lemmas.List.Elements.{All-head, All-tail}
use Rattle.psi_tables.specs.declared.stream.Stream.{Stream}
use Rattle.ts_demux.specs.Streams.{audios_of, is_among, is_audio, is_carried, others_of}

-- ---- PIDs

-- all below a number
abbrev pub AreBelow : ℕ → List ℕ → Type 0
AreBelow top [] = Unit {0}
AreBelow top (pid ∷ pids) = (pid < top) × AreBelow top pids

below-push : (top : ℕ) (pids : List ℕ) → AreBelow top pids → AreBelow (top + 1) (pids ++ top ∷ [])
below-push top [] below = (omega arith, tt)
below-push top (pid ∷ pids) below = (omega (arith, below.0), below-push top pids below.1)

below-among : (top pid : ℕ) (pids : List ℕ) → AreBelow top pids → top ≤ pid → is_among pids pid ≡ false
below-among top pid [] below le = refl
below-among top pid (first ∷ pids) below le = ap₂ (λ (a b : Bool). a || b) (ne_eqb first pid (λ same. omega (arith, same, below.0, le))) (below-among top pid pids below.1 le)

pub among-range : (from n pid : ℕ) → is_among (range_with_len from n) pid ≡ true → pid < from + n
among-range from zero pid among = absurd cc
among-range from (suc n) pid among = by_test (from == pid) refl (λ later. among-range (from + 1) n pid later)
  where
    by_test : (is : Bool) → (from == pid) ≡ is → (is_among (range_with_len (from + 1) n) pid ≡ true → pid < from + 1 + n) → pid < from + suc n
    by_test true is again = omega (arith, eqb-true from pid is)
    by_test false is again = omega (arith, again (sym (ap (λ (b : Bool). b || is_among (range_with_len (from + 1) n) pid) is) ∙ among))

-- ---- audio streams

abbrev IsAudio : Stream → Type 0
IsAudio stream = is_audio stream ≡ true

carried-one : (top : ℕ) (earlier : List ℕ) (stream : Stream) → AreBelow top earlier → IsAudio stream → stream.pid ≡ top → is_carried [] earlier stream ≡ true
carried-one top earlier stream below audio pid =
    ap₂ (λ (a b : Bool). a && true && not b) audio (below-among top stream.pid earlier below (omega (arith, pid)))

pub all-carried : (streams : List Stream) (top : ℕ) (earlier : List ℕ) → AreBelow top earlier → All IsAudio streams → map (λ (stream : Stream). stream.pid) streams ≡ range_with_len top (length streams)
    → (audios_of [] earlier streams ≡ streams) × (others_of [] earlier streams ≡ [])
all-carried [] top earlier below audio pids = (refl, refl)
all-carried (stream ∷ streams) top earlier below audio pids =
    let pid : stream.pid ≡ top = ap (λ (xs : List ℕ). first_or xs) pids in
    let rest : map (λ (s : Stream). s.pid) streams ≡ range_with_len (top + 1) (length streams) = ap (λ (xs : List ℕ). behind xs) pids in
    let on : is_carried [] earlier stream ≡ true = carried-one top earlier stream below (All-head IsAudio stream streams audio) pid in
    let later = all-carried streams (top + 1) (earlier ++ stream.pid ∷ [])
    (subst (λ (k : ℕ). AreBelow (top + 1) (earlier ++ k ∷ [])) (sym pid) (below-push top earlier below)) (All-tail IsAudio stream streams audio) rest in (
      ap (λ (b : Bool). cond b (stream ∷ audios_of [] (earlier ++ stream.pid ∷ []) streams) (audios_of [] earlier streams)) on ∙ ap (λ (xs : List Stream). stream ∷ xs) later.0,
      ap (λ (b : Bool). cond b (others_of [] (earlier ++ stream.pid ∷ []) streams) (stream.pid ∷ others_of [] earlier streams)) on ∙ later.1,
    )
  where
    first_or : List ℕ → ℕ
    first_or [] = 0
    first_or (x ∷ xs) = x

    behind : List ℕ → List ℕ
    behind [] = []
    behind (x ∷ xs) = xs
