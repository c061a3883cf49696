-- Gatherers of some PIDs, one gatherer or one packet further.
use Rattle.std.proofs.Common.{◌≡◌, ℕ, zero, suc, ◌+◌, ◌*◌, ◌<◌, ◌≤◌, ◌==◌, inl, inr, Bool, true, false, List, [], ◌∷◌, ◌++◌, length, map, take, get_or, set, slice_get, Some, None, Result, Ok, Err, OnOk, length-append, append_assoc, refl, sym, ap, ◌∙◌, subst, arith}
use Rattle.std.proofs.lemmas.Bool.{cases_lt}
use Rattle.std.proofs.lemmas.Option.{same_Some, slice_get-get_or, slice_get_within}
use Rattle.std.proofs.lemmas.Bool.Decides.{nat_tests}
use Rattle.std.proofs.lemmas.List.{length-map}
use Rattle.ts_packets.specs.TransportStream.{piece_count}
use Rattle.psi_tables.specs.declared.stream.Stream.{Stream}
use Rattle.ts_demux.specs.declared.demux_fault.DemuxFault.{DemuxFault}
use Rattle.ts_demux.specs.declared.demuxed.AudioStream.{AudioStream}
use Rattle.ts_demux.specs.declared.pes_gatherer.PesGatherer.{PesGatherer}
use Rattle.ts_demux.specs.Demux.{IsStreamFault, IsFirstStreamFault, AreStreamsSound, pes_packets_on}
use Rattle.ts_demux.specs.Private.PesGatherer.{Gathers, AllGather, IsInOrder, gathered_of, gathered_more, gatherer_pids, stream_gathered}
use Rattle.ts_demux.specs.Private.StreamWalk.{AreSoundBefore, AreBeside, GathersUpTo, AreGathered}
use Rattle.bit_lists.specs.Payload.{CarriedPayload}
use Rattle.ts_demux.specs.declared.carried_packets.StreamPayload.{StreamPayload}
use Rattle.ts_demux.specs.declared.stream_walk.StreamGatherers.{StreamGatherers}
use Rattle.ts_demux.specs.CarriedPackets.{pids_read, AddsFound, carried_before, as_carried}
use Rattle.ts_demux.proofs.CarriedSteps.{own_added, other_added}
use Rattle.ts_demux.proofs.Gathering.{gathers_same, gathers_added}
use Rattle.ts_demux.proofs.PidTests.{yes_test}
use Rattle.list_types.proofs.Lists.{slice_get-set_same, slice_get-set_other}

pids_same : (xs : List PesGatherer) (n : ℕ) (d x : PesGatherer) → n < length xs → x.pid ≡ (get_or xs n d).pid → gatherer_pids (set xs n x) ≡ gatherer_pids xs
pids_same [] n d x within same = absurd (omega arith)
pids_same (y ∷ xs) zero d x within same = ap (λ (p : ℕ). p ∷ gatherer_pids xs) same
pids_same (y ∷ xs) (suc n) d x within same = ap (λ (ps : List ℕ). y.pid ∷ ps) (pids_same xs n d x (omega arith) same)

-- ---- all packets

pub sound_more : (file pids : List ℕ) (n : ℕ) → AreSoundBefore file pids n → ((fault : DemuxFault) → IsStreamFault file pids n fault → ⊥) → AreSoundBefore file pids (n + 1)
sound_more file pids n sound here m fault below is = elim (cases_lt m n) [
  | inl before ↦ sound m fault before is
  | inr not_before ↦ (let same : m ≡ n = omega arith in here fault (subst (λ (k : ℕ). IsStreamFault file pids k fault) same is))
]

pub fault_within : (file pids : List ℕ) (n : ℕ) (fault : DemuxFault) → IsStreamFault file pids n fault → n < piece_count file
fault_within file pids n fault (inl none) = none.0.within
fault_within file pids n fault (inr has) = has.3.within

pub sound_all : (file pids : List ℕ) (n : ℕ) → piece_count file ≤ n → AreSoundBefore file pids n → AreStreamsSound file pids
sound_all file pids n end sound m fault is = sound m fault (omega (arith, fault_within file pids m fault is)) is

pub all_at_end : (file : List ℕ) (n : ℕ) (gs : List PesGatherer) → n ≡ piece_count file → AllGather file n gs → AllGather file (piece_count file) gs
all_at_end file n gs end all = subst (λ (k : ℕ). AllGather file k gs) end all

-- what is gathered are the PES packets of the streams
pub streams_gathered : (file : List ℕ) (gs : List PesGatherer) (streams : List Stream) → AllGather file (piece_count file) gs →
    gatherer_pids gs ≡ map (λ (stream : Stream). stream.pid) streams → map stream_gathered gs ≡ map (pes_packets_on file) streams
streams_gathered file [] [] all same = refl
streams_gathered file [] (s ∷ streams) all same = absurd cc
streams_gathered file (g ∷ gs) [] all same = absurd cc
streams_gathered file (g ∷ gs) (s ∷ streams) all same =
    let pid : g.pid ≡ s.pid = cc in
    let others : gatherer_pids gs ≡ map (λ (stream : Stream). stream.pid) streams = cc in
    let gathered_is = (all 0 g refl).units in
    let one : stream_gathered g ≡ pes_packets_on file s = rw (gathered_is, pid) refl in
    ap (λ (a : AudioStream). a ∷ map stream_gathered gs) one ∙ ap (λ (xs : List AudioStream). pes_packets_on file s ∷ xs) (streams_gathered file gs streams (λ k h there. all (suc k) h there) others)

-- ---- one gatherer more

pub all_push : (file : List ℕ) (n : ℕ) (gs : List PesGatherer) (g : PesGatherer) → AllGather file n gs → Gathers file n g → AllGather file n (gs ++ g ∷ [])
all_push file n [] g all here zero h there = let same : g ≡ h = cc in subst (λ (x : PesGatherer). Gathers file n x) same here
all_push file n [] g all here (suc k) h there = absurd cc
all_push file n (x ∷ gs) g all here zero h there = all 0 h there
all_push file n (x ∷ gs) g all here (suc k) h there = all_push file n gs g (λ j i. all (suc j) i) here k h there

pids_push : (gs : List PesGatherer) (g : PesGatherer) → gatherer_pids (gs ++ g ∷ []) ≡ gatherer_pids gs ++ g.pid ∷ []
pids_push [] g = refl
pids_push (x ∷ gs) g = ap (λ (ps : List ℕ). x.pid ∷ ps) (pids_push gs g)

pids_next : (streams : List Stream) (i : ℕ) (d : Stream) → i < length streams →
    map (λ (stream : Stream). stream.pid) (take (i + 1) streams) ≡ map (λ (stream : Stream). stream.pid) (take i streams) ++ (get_or streams i d).pid ∷ []
pids_next [] i d within = absurd (omega arith)
pids_next (s ∷ streams) zero d within = refl
pids_next (s ∷ streams) (suc i) d within =
    ap (λ (n : ℕ). map (λ (stream : Stream). stream.pid) (take n (s ∷ streams))) (more i) ∙ ap (λ (ps : List ℕ). s.pid ∷ ps) (pids_next streams i d (omega arith))
  where
    more : (n : ℕ) → suc n + 1 ≡ suc (n + 1)
    more n = omega arith

pub pids_more : (gs : List PesGatherer) (g : PesGatherer) (streams : List Stream) (i : ℕ) (d : Stream) → gatherer_pids gs ≡ map (λ (stream : Stream). stream.pid) (take i streams) →
    i < length streams → g.pid ≡ (get_or streams i d).pid → gatherer_pids (gs ++ g ∷ []) ≡ map (λ (stream : Stream). stream.pid) (take (i + 1) streams)
pids_more gs g streams i d same within pid =
    pids_push gs g ∙ ap (λ (p : ℕ). gatherer_pids gs ++ p ∷ []) pid ∙ ap (λ (ps : List ℕ). ps ++ (get_or streams i d).pid ∷ []) same ∙ sym (pids_next streams i d within)

-- ---- one packet more

-- the PIDs and their places
pub there_pid : (gs : List PesGatherer) (k : ℕ) (g : PesGatherer) → slice_get gs k ≡ Some g → slice_get (gatherer_pids gs) k ≡ Some g.pid
there_pid [] k g there = absurd cc
there_pid (x ∷ gs) zero g there = ap (λ (y : PesGatherer). Some y.pid) (same_Some x g there)
there_pid (x ∷ gs) (suc k) g there = there_pid gs k g there

-- a packet that adds nothing
pub all_same : (file pids : List ℕ) (n : ℕ) (gs : List PesGatherer) → gatherer_pids gs ≡ pids → AddsFound file pids n None → AllGather file n gs → AllGather file (n + 1) gs
all_same file pids n gs beside adds all k g there =
    gathers_same file n g (adds.each k g.pid (ap (λ (ps : List ℕ). slice_get ps k) (sym beside) ∙ there_pid gs k g there)) (all k g there)

-- a packet that adds a payload
pub all_added : (file pids : List ℕ) (n : ℕ) (gs : List PesGatherer) (found : StreamPayload) (item after : PesGatherer) → gatherer_pids gs ≡ pids →
    AddsFound file pids n (Some found) → 0 < length found.payload.now → slice_get gs found.index ≡ Some item →
    gathered_of after ≡ gathered_more (gathered_of item) found.at found.start found.payload.now → IsInOrder after → after.pid ≡ item.pid → AllGather file n gs →
    AllGather file (n + 1) (set gs found.index after)
all_added file pids n gs found item after beside adds some item_is more order pid_is all k g there = by_test (found.index == k) refl
  where
    own : carried_before file item.pid (n + 1) ≡ carried_before file item.pid n ++ as_carried found ∷ []
    own = adds.each found.index item.pid (ap (λ (ps : List ℕ). slice_get ps found.index) (sym beside) ∙ there_pid gs found.index item item_is)
        ∙ ap (λ (xs : List CarriedPayload). carried_before file item.pid n ++ xs) (own_added found)

    by_test : (same : Bool) → (found.index == k) ≡ same → Gathers file (n + 1) g
    by_test true same_is =
        let k_is : found.index ≡ k = grind (arith, nat_tests) in
        let is : after ≡ g = same_Some after g (sym (slice_get-set_same gs found.index after (slice_get_within gs found.index item item_is)) ∙ ap (slice_get (set gs found.index after)) k_is ∙ there) in
        subst (λ (x : PesGatherer). Gathers file (n + 1) x) is (gathers_added file n item after found some own more order pid_is (all found.index item item_is))
    by_test false same_is =
        let apart : found.index ≡ k → ⊥ = λ e. (let t : (found.index == k) ≡ true = yes_test found.index k e in absurd cc) in
        let was : slice_get gs k ≡ Some g = sym (slice_get-set_other gs found.index k after (λ e. apart (sym e))) ∙ there in
        gathers_same file n g (adds.each k g.pid (ap (λ (ps : List ℕ). slice_get ps k) (sym beside) ∙ there_pid gs k g was)
        ∙ ap (λ (xs : List CarriedPayload). carried_before file g.pid n ++ xs) (other_added found k apart)) (all k g was)

-- the PIDs stay
pub set_pids : (gs : List PesGatherer) (index : ℕ) (item after : PesGatherer) → slice_get gs index ≡ Some item → after.pid ≡ item.pid → gatherer_pids (set gs index after) ≡ gatherer_pids gs
set_pids gs index item after there same = pids_same gs index item after (slice_get_within gs index item there) (same ∙ ap (λ (g : PesGatherer). g.pid) (same_Some item (get_or gs index item) (sym there ∙ slice_get-get_or gs index item (slice_get_within gs index item there))))

-- the first packet that is refused
pub first_fault : (file pids : List ℕ) (n : ℕ) (fault : DemuxFault) → AreSoundBefore file pids n → IsStreamFault file pids n fault → IsFirstStreamFault file pids fault
first_fault file pids n fault sound is = record { packet = n; stands = is; first = sound }

-- a number of a PID is that of its gatherer
pub beside_within : (gs : List PesGatherer) (pids : List ℕ) (k : ℕ) → gatherer_pids gs ≡ pids → k < length pids → k < length gs
beside_within gs pids k beside within = omega (arith, within, ap length beside, length-map gs (λ (g : PesGatherer). g.pid))

-- facts of an answer that are so together
pub on_ok : {T E : Type 0} (result : Result T E) (A B C D : Type 0) → OnOk result A → OnOk result B → OnOk result C → (A → B → C → D) → OnOk result D
on_ok (Ok x) A B C D a b c f = f a b c
on_ok (Err e) A B C D a b c f = tt

-- ---- all packets of a source

pub gathered_at_end : (seen rest : List ℕ) (n : ℕ) (pids : List ℕ) (walk : StreamGatherers) → length seen ≡ 188 * n → length rest < 188 → pids_read walk.packets ≡ pids → AreBeside walk →
    GathersUpTo (seen ++ rest) n walk → AreGathered (seen ++ rest) pids walk.gatherers.items
gathered_at_end seen rest n pids walk count short pids_are beside gathers =
    let end : n ≡ piece_count (seen ++ rest) = omega (arith, count, short, length-append seen rest) in
    record {
      all = all_at_end (seen ++ rest) n walk.gatherers.items end gathers.all;
      pids_are = beside ∙ pids_are;
      sound = sound_all (seen ++ rest) pids n (omega (arith, end)) (subst (λ (ps : List ℕ). AreSoundBefore (seen ++ rest) ps n) pids_are gathers.sound);
    }

pub refused_early : (seen packet more pids streams : List ℕ) (fault : DemuxFault) → pids ≡ streams → IsFirstStreamFault (seen ++ (packet ++ more)) pids fault →
    IsFirstStreamFault ((seen ++ packet) ++ more) streams fault
refused_early seen packet more pids streams fault same first =
    subst (λ (ps : List ℕ). IsFirstStreamFault ((seen ++ packet) ++ more) ps fault) same
    (subst (λ (file : List ℕ). IsFirstStreamFault file pids fault) (sym (append_assoc seen packet more)) first)
