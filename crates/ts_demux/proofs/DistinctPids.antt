-- The PIDs of carried streams differ.
use Rattle.std.proofs.Common.{◌≡◌, ℕ, zero, suc, ◌==◌, Bool, true, false, not, cond, ◌&&◌, List, [], ◌∷◌, ◌++◌, map, slice_get, Some, refl, sym, ap, subst, arith}
use Rattle.std.proofs.lemmas.Bool.{or_parts}
use Rattle.std.proofs.lemmas.Bool.Decides.{nat_tests}
use Rattle.std.proofs.lemmas.Option.{same_Some}
use Rattle.psi_tables.specs.declared.stream.Stream.{Stream}
use Rattle.psi_tables.specs.declared.program_map.ProgramMap.{ProgramMap}
use Rattle.ts_demux.specs.Streams.{is_audio, is_among, is_carried, audios_of, without_video}
use Rattle.ts_demux.specs.Demux.{IsCarriedMap}
use Rattle.ts_demux.specs.CarriedPackets.{AreDistinct}
use Rattle.ts_demux.specs.Private.CarriedStreams.{pids_in}

-- a PID that isn't among some and one more isn't among them, nor that one
pub not_among : (xs : List ℕ) (p pid : ℕ) → is_among (xs ++ p ∷ []) pid ≡ false → (is_among xs pid ≡ false) × ((p == pid) ≡ false)
not_among [] p pid none = (refl, (or_parts (p == pid) false none).0)
not_among (x ∷ xs) p pid none =
    let parts = or_parts (x == pid) (is_among (xs ++ p ∷ []) pid) none in
    let rest = not_among xs p pid parts.1 in
    (rw (parts.0, rest.0) refl, rest.1)

not_earlier : (audio dropped earlier : Bool) → (audio && not dropped && not earlier) ≡ true → earlier ≡ false
not_earlier audio dropped false is = refl
not_earlier true true true is = absurd cc
not_earlier true false true is = absurd cc
not_earlier false true true is = absurd cc
not_earlier false false true is = absurd cc

-- no audio stream has the PID of an earlier one
audios_apart : (drop_pids earlier : List ℕ) (streams : List Stream) (k pid : ℕ) → slice_get (pids_in (audios_of drop_pids earlier streams)) k ≡ Some pid → is_among earlier pid ≡ false
audios_apart drop_pids earlier [] k pid there = absurd cc
audios_apart drop_pids earlier (s ∷ streams) k pid there =
    by_test (λ j is. audios_apart drop_pids (earlier ++ s.pid ∷ []) streams j pid is) (λ j is. audios_apart drop_pids earlier streams j pid is) (is_carried drop_pids earlier s) refl k there
  where
    by_test : ((j : ℕ) → slice_get (pids_in (audios_of drop_pids (earlier ++ s.pid ∷ []) streams)) j ≡ Some pid → is_among (earlier ++ s.pid ∷ []) pid ≡ false) →
        ((j : ℕ) → slice_get (pids_in (audios_of drop_pids earlier streams)) j ≡ Some pid → is_among earlier pid ≡ false) → (is : Bool) → is_carried drop_pids earlier s ≡ is → (k : ℕ) →
        slice_get (pids_in (cond is (s ∷ audios_of drop_pids (earlier ++ s.pid ∷ []) streams) (audios_of drop_pids earlier streams))) k ≡ Some pid → is_among earlier pid ≡ false
    by_test behind same true is zero there =
        subst (λ (p : ℕ). is_among earlier p ≡ false) (same_Some s.pid pid there) (not_earlier (is_audio s) (is_among drop_pids s.pid) (is_among earlier s.pid) is)
    by_test behind same true is (suc k) there = (not_among earlier s.pid pid (behind k there)).0
    by_test behind same false is k there = same k there

-- a number apart from some stands before them
pub distinct_more : (p : ℕ) (pids : List ℕ) → ((k pid : ℕ) → slice_get pids k ≡ Some pid → (p == pid) ≡ false) → AreDistinct pids → AreDistinct (p ∷ pids)
distinct_more p pids apart distinct zero zero pid one other = refl
distinct_more p pids apart distinct zero (suc k) pid one other =
    let same : p ≡ pid = same_Some p pid one in
    let test : (p == pid) ≡ true = grind (arith, nat_tests) in
    let no : (p == pid) ≡ false = apart k pid other in
    absurd cc
distinct_more p pids apart distinct (suc j) zero pid one other =
    let same : p ≡ pid = same_Some p pid other in
    let test : (p == pid) ≡ true = grind (arith, nat_tests) in
    let no : (p == pid) ≡ false = apart j pid one in
    absurd cc
distinct_more p pids apart distinct (suc j) (suc k) pid one other = ap suc (distinct j k pid one other)

audios_distinct : (drop_pids earlier : List ℕ) (streams : List Stream) → AreDistinct (pids_in (audios_of drop_pids earlier streams))
audios_distinct drop_pids earlier [] = λ j k pid one other. absurd cc
audios_distinct drop_pids earlier (s ∷ streams) =
    by_test (audios_distinct drop_pids (earlier ++ s.pid ∷ []) streams) (audios_distinct drop_pids earlier streams) (is_carried drop_pids earlier s)
  where
    by_test : AreDistinct (pids_in (audios_of drop_pids (earlier ++ s.pid ∷ []) streams)) → AreDistinct (pids_in (audios_of drop_pids earlier streams)) → (is : Bool) → AreDistinct (pids_in (cond is (s ∷ audios_of drop_pids (earlier ++ s.pid ∷ []) streams) (audios_of drop_pids earlier streams)))
    by_test behind same true = distinct_more s.pid (pids_in (audios_of drop_pids (earlier ++ s.pid ∷ []) streams))
        (λ k pid there. (not_among earlier s.pid pid (audios_apart drop_pids (earlier ++ s.pid ∷ []) streams k pid there)).1)
        behind
    by_test behind same false = same

-- those of a map's carried streams differ
pub carried_distinct : (drop_pids : List ℕ) (whole carried_map : ProgramMap) (others : List ℕ) → IsCarriedMap drop_pids whole carried_map others →
    AreDistinct (map (λ (stream : Stream). stream.pid) carried_map.streams.items)
carried_distinct drop_pids whole carried_map others is =
    let audios = audios_of drop_pids (is.video.pid ∷ []) (without_video whole.streams.items) in
    subst (λ (items : List Stream). AreDistinct (pids_in items)) (sym is.streams)
    (distinct_more is.video.pid (pids_in audios)
    (λ k pid there. (not_among [] is.video.pid pid (audios_apart drop_pids (is.video.pid ∷ []) (without_video whole.streams.items) k pid there)).1)
    (audios_distinct drop_pids (is.video.pid ∷ []) (without_video whole.streams.items)))
