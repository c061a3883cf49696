-- What surely keeps its limits has no fault.
use Rattle.std.proofs.Common.{◌≡◌, ℕ, ◌-◌, ◌*◌, List, ◌++◌, drop, map, replicate, sym, ◌∙◌, ap, subst, arith, Bool, None}
use Rattle.stream_constants.specs.declared.decoder.TheConstants.{TB_BYTES, MB_SUBTICKS, VIDEO_BYTES, AUDIO_BYTES}
use Rattle.tstd_model.specs.declared.passing.Wanted.TheVariants.{Payload, DataAlone}
use Rattle.tstd_model.specs.Instants.{departures, departures_into}
use Rattle.tstd_model.specs.PacketBytes.{Arrival, PacketPart, parts, arrives, kept, with_headers, is_payload}
use Rattle.tstd_model.specs.Decoder.{BufferKind, Video, Audio, Removal, tb_subticks, leave_tb, payload_passes, data_passes, removed, eb_bytes, eb_rooms, moves, transport_buffer}
use Rattle.tstd_model.specs.Faults.{hold_subticks}
use Rattle.tstd_model.specs.Private.Cursors.{is_wanted}
use Rattle.tstd_model.specs.Private.Keeps.{Keeps}
use Rattle.tstd_model.specs.Private.Scans.{taken_from}
use Rattle.tstd_model.specs.Private.Walks.{main_buffer, first_excess, late_found, old_found}
use Rattle.tstd_model.proofs.CursorLaws.{taken-instants}
use Rattle.tstd_model.proofs.KeepLaws.{keeps-through, keeps-kept, keeps-comes, keeps-drop, keeps-steps, over-none, late-none, old-none}
use Rattle.tstd_model.proofs.Server.{departures-spaced, length-departures}

pub tb-kept : (slot s : ℕ) (kind : BufferKind) (arrivals : List Arrival) → s ≡ tb_subticks kind → Keeps 0 (s * TB_BYTES) (arrives slot arrivals) (departures s 0 (arrives slot arrivals))
    → first_excess (transport_buffer slot kind arrivals) ≡ None
unfolding leave_tb
tb-kept slot s kind arrivals s_is keeps =
    let ins = arrives slot arrivals in
    over-none (drop TB_BYTES ins) (departures (tb_subticks kind) 0 ins)
    (subst (λ n. Keeps 0 0 (drop TB_BYTES ins) (departures n 0 ins)) s_is
    (keeps-steps s 0 TB_BYTES 0 (s * TB_BYTES) ins (departures s 0 ins) (omega arith) (departures-spaced s 0 ins) keeps))

-- payload comes no later into TB than into the buffer behind it
passes-later : (slot : ℕ) (kind : BufferKind) (arrivals : List Arrival) → Keeps 0 0 (payload_passes slot kind arrivals) (kept (is_wanted Payload) (parts arrivals) (arrives slot arrivals))
unfolding payload_passes leave_tb
passes-later slot kind arrivals =
    let ins = arrives slot arrivals in
    keeps-kept is_payload (parts arrivals) (departures (tb_subticks kind) 0 ins) ins (length-departures (tb_subticks kind) 0 ins) (keeps-comes (tb_subticks kind) 0 ins)

behind-kept : (slot : ℕ) (kind : BufferKind) (arrivals : List Arrival) (size : ℕ) (outs : List ℕ)
    → Keeps 0 0 (kept (is_wanted Payload) (parts arrivals) (arrives slot arrivals)) (replicate size 0 ++ outs) → Keeps 0 0 (drop size (payload_passes slot kind arrivals)) outs
behind-kept slot kind arrivals size outs keeps =
    keeps-drop size (payload_passes slot kind arrivals) outs
    (keeps-through 0 0 (payload_passes slot kind arrivals) (kept (is_wanted Payload) (parts arrivals) (arrives slot arrivals)) (replicate size 0 ++ outs) (passes-later slot kind arrivals) keeps)

pub video-kept : (slot vbv eb : ℕ) (kind : BufferKind) (arrivals : List Arrival) (removals : List Removal) (moving outs : List ℕ) → kind ≡ Video vbv → eb ≡ eb_bytes vbv
    → moving ≡ moves slot vbv arrivals removals → outs ≡ with_headers (parts arrivals) moving
    → Keeps 0 0 (kept (is_wanted Payload) (parts arrivals) (arrives slot arrivals)) (replicate (VIDEO_BYTES - eb) 0 ++ outs)
    → first_excess (main_buffer slot kind arrivals removals) ≡ None
video-kept slot vbv eb kind arrivals removals moving outs kind_is eb_is moving_is outs_are keeps =
    let leaves = with_headers (parts arrivals) (moves slot vbv arrivals removals) in
    let same : outs ≡ leaves = outs_are ∙ ap (λ (l : List ℕ). with_headers (parts arrivals) l) moving_is in
    subst (λ k. first_excess (main_buffer slot k arrivals removals) ≡ None) (sym kind_is)
    (over-none (drop (VIDEO_BYTES - eb_bytes vbv) (payload_passes slot (Video vbv) arrivals)) leaves
    (behind-kept slot (Video vbv) arrivals (VIDEO_BYTES - eb_bytes vbv) leaves
    (subst (λ n. Keeps 0 0 (kept (is_wanted Payload) (parts arrivals) (arrives slot arrivals)) (replicate (VIDEO_BYTES - n) 0 ++ leaves)) eb_is
    (subst (λ l. Keeps 0 0 (kept (is_wanted Payload) (parts arrivals) (arrives slot arrivals)) (replicate (VIDEO_BYTES - eb) 0 ++ l)) same keeps))))

pub audio-kept : (slot : ℕ) (kind : BufferKind) (arrivals : List Arrival) (removals : List Removal) (outs : List ℕ) → kind ≡ Audio → outs ≡ removed removals
    → Keeps 0 0 (kept (is_wanted Payload) (parts arrivals) (arrives slot arrivals)) (replicate AUDIO_BYTES 0 ++ outs) → first_excess (main_buffer slot kind arrivals removals) ≡ None
audio-kept slot kind arrivals removals outs kind_is outs_are keeps =
    subst (λ k. first_excess (main_buffer slot k arrivals removals) ≡ None) (sym kind_is)
    (over-none (drop AUDIO_BYTES (payload_passes slot Audio arrivals)) (removed removals)
    (behind-kept slot Audio arrivals AUDIO_BYTES (removed removals)
    (subst (λ l. Keeps 0 0 (kept (is_wanted Payload) (parts arrivals) (arrives slot arrivals)) (replicate AUDIO_BYTES 0 ++ l)) outs_are keeps)))

taken-kept : (removals : List Removal) (comes : List ℕ) → Keeps 1 0 (removed removals) comes → Keeps 1 0 (map (λ byte. byte.at) (taken_from 0 removals)) comes
taken-kept removals comes keeps = subst (λ l. Keeps 1 0 l comes) (sym (taken-instants 0 removals)) keeps

pub video-found : (slot vbv : ℕ) (kind : BufferKind) (arrivals : List Arrival) (removals : List Removal) (comes : List ℕ) → kind ≡ Video vbv → comes ≡ moves slot vbv arrivals removals
    → Keeps 1 0 (removed removals) comes → late_found slot kind arrivals removals ≡ None
video-found slot vbv kind arrivals removals comes kind_is comes_are keeps =
    subst (λ k. late_found slot k arrivals removals ≡ None) (sym kind_is)
    (late-none (moves slot vbv arrivals removals) (taken_from 0 removals)
    (taken-kept removals (moves slot vbv arrivals removals) (subst (λ l. Keeps 1 0 (removed removals) l) comes_are keeps)))

pub audio-found : (slot : ℕ) (kind : BufferKind) (arrivals : List Arrival) (removals : List Removal) (comes : List ℕ) → kind ≡ Audio
    → comes ≡ kept (is_wanted Payload) (parts arrivals) (leave_tb slot kind arrivals) → Keeps 1 0 (removed removals) comes → late_found slot kind arrivals removals ≡ None
unfolding payload_passes
audio-found slot kind arrivals removals comes kind_is comes_are keeps =
    let same : comes ≡ payload_passes slot Audio arrivals = comes_are ∙ ap (λ k. kept (is_wanted Payload) (parts arrivals) (leave_tb slot k arrivals)) kind_is in
    subst (λ k. late_found slot k arrivals removals ≡ None) (sym kind_is)
    (late-none (payload_passes slot Audio arrivals) (taken_from 0 removals)
    (taken-kept removals (payload_passes slot Audio arrivals) (subst (λ l. Keeps 1 0 (removed removals) l) same keeps)))

pub video-held : (slot vbv limit : ℕ) (kind : BufferKind) (arrivals : List Arrival) (removals : List Removal) (outs : List ℕ) → kind ≡ Video vbv → limit ≡ hold_subticks → outs ≡ removed removals
    → Keeps 0 limit (kept (is_wanted DataAlone) (parts arrivals) (arrives slot arrivals)) (replicate 0 0 ++ outs) → old_found slot kind arrivals removals ≡ None
video-held slot vbv limit kind arrivals removals outs kind_is limit_is outs_are keeps =
    subst (λ k. old_found slot k arrivals removals ≡ None) (sym kind_is)
    (old-none hold_subticks _ (kept (is_wanted DataAlone) (parts arrivals) (arrives slot arrivals)) (removed removals)
    (subst (λ n. Keeps 0 n (kept (is_wanted DataAlone) (parts arrivals) (arrives slot arrivals)) (removed removals)) limit_is
    (subst (λ l. Keeps 0 limit (kept (is_wanted DataAlone) (parts arrivals) (arrives slot arrivals)) l) outs_are keeps)))

pub audio-held : (slot limit : ℕ) (kind : BufferKind) (arrivals : List Arrival) (removals : List Removal) (outs : List ℕ) → kind ≡ Audio → limit ≡ hold_subticks → outs ≡ removed removals
    → Keeps 0 limit (kept (is_wanted Payload) (parts arrivals) (arrives slot arrivals)) (replicate 0 0 ++ outs) → old_found slot kind arrivals removals ≡ None
audio-held slot limit kind arrivals removals outs kind_is limit_is outs_are keeps =
    subst (λ k. old_found slot k arrivals removals ≡ None) (sym kind_is)
    (old-none hold_subticks _ (kept (is_wanted Payload) (parts arrivals) (arrives slot arrivals)) (removed removals)
    (subst (λ n. Keeps 0 n (kept (is_wanted Payload) (parts arrivals) (arrives slot arrivals)) (removed removals)) limit_is
    (subst (λ l. Keeps 0 limit (kept (is_wanted Payload) (parts arrivals) (arrives slot arrivals)) l) outs_are keeps)))

-- the moves, packet by packet
pub runs-are : (slot vbv free : ℕ) (kind : BufferKind) (arrivals : List Arrival) (removals : List Removal) (rooms comes : List ℕ) → kind ≡ Video vbv → free ≡ eb_bytes vbv
    → rooms ≡ removed removals → comes ≡ kept (is_wanted DataAlone) (parts arrivals) (leave_tb slot kind arrivals)
    → departures_into (replicate free 0 ++ rooms) MB_SUBTICKS 0 comes ≡ moves slot vbv arrivals removals
unfolding moves data_passes eb_rooms
runs-are slot vbv free kind arrivals removals rooms comes kind_is free_is rooms_are comes_are =
    ap (λ n. departures_into (replicate n 0 ++ rooms) MB_SUBTICKS 0 comes) free_is
    ∙ ap (λ (l : List ℕ). departures_into (replicate (eb_bytes vbv) 0 ++ l) MB_SUBTICKS 0 comes) rooms_are
    ∙ ap (λ (l : List ℕ). departures_into (eb_rooms vbv removals) MB_SUBTICKS 0 l) (comes_are ∙ ap (λ k. kept (is_wanted DataAlone) (parts arrivals) (leave_tb slot k arrivals)) kind_is)

pub passing-are : (slot s : ℕ) (kind : BufferKind) (arrivals : List Arrival) (test : PacketPart → Bool) → s ≡ tb_subticks kind
    → kept test (parts arrivals) (departures s 0 (arrives slot arrivals)) ≡ kept test (parts arrivals) (leave_tb slot kind arrivals)
unfolding leave_tb
passing-are slot s kind arrivals test s_is = ap (λ n. kept test (parts arrivals) (departures n 0 (arrives slot arrivals))) s_is
