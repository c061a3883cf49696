-- What is sure of the packets behind one is sure with it.
use Rattle.std.proofs.Common.{◌≡◌, ℕ, ◌-◌, ◌*◌, ◌<◌, List, [], ◌∷◌, ◌++◌, replicate, map, append-nil, refl, sym, ◌∙◌, ap, subst, arith, Bool, Option, Some, None, IfSome, IfNone}
use Rattle.std.proofs.lemmas.List.{append_assoc}
use Rattle.std.specs.List.Sorted.{IsStrictlyIncreasing, IsNonDecreasing}
use Rattle.stream_constants.specs.declared.decoder.TheConstants.{TB_BYTES, MB_SUBTICKS, VIDEO_BYTES, AUDIO_BYTES}
use Rattle.tstd_model.specs.declared.packet_watch.PacketWatch.{PacketWatch}
use Rattle.tstd_model.specs.declared.passing.Wanted.{Wanted}
use Rattle.tstd_model.specs.declared.passing.Wanted.TheVariants.{Payload, DataAlone}
use Rattle.tstd_model.specs.declared.runs.Passed.{Passed}
use Rattle.tstd_model.specs.Decoder.{BufferKind, Video, Audio, System, Removal, tb_subticks, leave_tb, removed, eb_bytes, moves, transport_buffer}
use Rattle.tstd_model.specs.Faults.{IsFirstOrNone, hold_subticks}
use Rattle.tstd_model.specs.Instants.{departures, departures_into}
use Rattle.tstd_model.specs.PacketBytes.{Arrival, PacketPart, parts, arrives, kept, with_headers}
use Rattle.tstd_model.specs.Watch.{HasWatched, IsSure}
use Rattle.tstd_model.specs.Private.Cursors.{is_wanted}
use Rattle.tstd_model.specs.Private.Keeps.{Keeps, Passes, wanted_count}
use Rattle.tstd_model.specs.Private.Rooms.{room_bytes, mb_bytes}
use Rattle.tstd_model.specs.Private.Sure.{IsJudged}
use Rattle.tstd_model.specs.Private.Walks.{main_buffer, first_excess, late_found, old_found}
use Rattle.tstd_model.specs.Private.Watches.{comes_later, wanted_later, moves_later, PassesTb, MovesBy, LeavesBy, KeepsMain, KeepsFound, KeepsHeld, Goes, HasWatchedEach}
use Rattle.tstd_model.proofs.DecoderWalks.{earliest-of}
use Rattle.tstd_model.proofs.FaultLaws.{first_fault-is}
use Rattle.tstd_model.proofs.KeepLaws.{keeps-same, keeps-through, keeps-into}
use Rattle.tstd_model.proofs.KeepWalks.{tb-kept, video-kept, audio-kept, video-found, audio-found, video-held, audio-held, runs-are}
use Rattle.tstd_model.proofs.WatchLaws.{passed-found}

-- ---- a packet of video
module _ (old new : PacketWatch) (packet : Arrival) (later : List Arrival) (end : ℕ) (passes : PassesTb old.tb packet end new.tb) where
  abbrev old_moves : List ℕ
  old_moves = moves_later old.moves (wanted_later DataAlone old.tb (packet ∷ later))

  abbrev new_moves : List ℕ
  new_moves = moves_later new.moves (wanted_later DataAlone new.tb later)

  moved-on : (at : ℕ) → MovesBy old.moves end (wanted_count DataAlone packet) at new.moves → Keeps 0 0 (replicate (wanted_count DataAlone packet) at ++ new_moves) old_moves
  moved-on at moves =
      let n = wanted_count DataAlone packet in
      let comes = replicate n end ++ wanted_later DataAlone new.tb later in
      keeps-through 0 0 (replicate n at ++ new_moves) (moves_later old.moves comes) old_moves
      (moves (wanted_later DataAlone new.tb later))
      (keeps-into MB_SUBTICKS old.moves.before old.moves.before old.moves.rooms old.moves.rooms comes (wanted_later DataAlone old.tb (packet ∷ later)) (omega arith)
      (keeps-same old.moves.rooms) (passes DataAlone later))

  pub video-found-goes : (moved : Option ℕ) (passed : Passed) → IfSome moved (λ at. MovesBy old.moves end (wanted_count DataAlone packet) at new.moves)
      → Passes (wanted_count DataAlone packet) passed old.taken new.taken → IfNone moved ⊥ → IfSome moved (λ at. 0 < passed.count → at < passed.first)
      → Keeps 1 0 new.taken new_moves → Keeps 1 0 old.taken old_moves
  video-found-goes None passed moves taken told behind keeps = absurd told
  video-found-goes (Some at) passed moves taken told behind keeps =
      passed-found passed (wanted_count DataAlone packet) at old.taken new.taken new_moves old_moves taken behind (moved-on at moves) keeps

  -- `room` are the bytes that leave MB, once the packet's payload has come
  pub video-main-goes : (moved : Option ℕ) (room : List ℕ) → IfSome moved (λ at. MovesBy old.moves end (wanted_count DataAlone packet) at new.moves)
      → IfNone moved ⊥ → IfSome moved (λ at. LeavesBy room packet at new.leaves)
      → ((lows : List ℕ) → Keeps 0 0 (comes_later Payload old.tb.slot later) (room ++ lows) → Keeps 0 0 (comes_later Payload old.tb.slot (packet ∷ later)) (old.leaves ++ lows))
      → Keeps 0 0 (comes_later Payload old.tb.slot later) (new.leaves ++ with_headers (parts later) new_moves)
      → Keeps 0 0 (comes_later Payload old.tb.slot (packet ∷ later)) (old.leaves ++ with_headers (parts (packet ∷ later)) old_moves)
  video-main-goes None room moves told leaves rooms keeps = absurd told
  video-main-goes (Some at) room moves told leaves rooms keeps =
      rooms (with_headers (parts (packet ∷ later)) old_moves)
      (keeps-through 0 0 (comes_later Payload old.tb.slot later) (new.leaves ++ with_headers (parts later) new_moves) (room ++ with_headers (parts (packet ∷ later)) old_moves)
      keeps
      (leaves later old_moves new_moves (moved-on at moves)))

-- ---- packets one by one
pub watched-more : (slot : ℕ) (kind : BufferKind) (removals : List Removal) (given : List Arrival) (packet : Arrival) (old new : PacketWatch) → Goes old packet new
    → HasWatchedEach slot kind removals given old → HasWatchedEach slot kind removals (given ++ packet ∷ []) new
watched-more slot kind removals given packet old new goes has = record {
  tb = λ later sure. subst (λ l. first_excess (transport_buffer slot kind l) ≡ None) (sym (append_assoc given (packet ∷ []) later)) (has.tb (packet ∷ later) (goes.tb later sure));
  main = λ later sure. subst (λ l. first_excess (main_buffer slot kind l removals) ≡ None) (sym (append_assoc given (packet ∷ []) later)) (has.main (packet ∷ later) (goes.main later sure));
  found = λ later sure. subst (λ l. late_found slot kind l removals ≡ None) (sym (append_assoc given (packet ∷ []) later)) (has.found (packet ∷ later) (goes.found later sure));
  held = λ later sure. subst (λ l. old_found slot kind l removals ≡ None) (sym (append_assoc given (packet ∷ []) later)) (has.held (packet ∷ later) (goes.held later sure));
}

-- all packets but these have come
pub record WatchedSoFar (slot : ℕ) (kind : BufferKind) (removals : List Removal) (arrivals later : List Arrival) (watch : PacketWatch) : Type 0 where
  pub given : List Arrival
  pub split : arrivals ≡ given ++ later
  pub watched : HasWatchedEach slot kind removals given watch

pub so-far-more : (slot : ℕ) (kind : BufferKind) (removals : List Removal) (arrivals later rest : List Arrival) (packet : Arrival) (old new : PacketWatch) → later ≡ packet ∷ rest
    → ((given : List Arrival) → HasWatchedEach slot kind removals given old → HasWatchedEach slot kind removals (given ++ packet ∷ []) new)
    → WatchedSoFar slot kind removals arrivals later old → WatchedSoFar slot kind removals arrivals rest new
so-far-more slot kind removals arrivals later rest packet old new split takes so_far = record {
  given = so_far.given ++ packet ∷ [];
  split = so_far.split ∙ ap (λ (l : List Arrival). so_far.given ++ l) split ∙ sym (append_assoc so_far.given (packet ∷ []) rest);
  watched = takes so_far.given so_far.watched;
}

-- what is so of a list with what is to come is so of the whole
pub so-far-whole : (P : List Arrival → Type 0) (arrivals given later : List Arrival) → arrivals ≡ given ++ later → later ≡ [] → P (given ++ []) → P arrivals
so-far-whole P arrivals given later split none holds =
    subst P (sym (split ∙ ap (λ (l : List Arrival). given ++ l) none)) holds

-- ---- no packet more
pub tb-none : (delay s slot before : ℕ) → Keeps 0 delay (arrives slot []) (departures s before (arrives slot []))
unfolding arrives
tb-none delay s slot before = tt

comes-none : (limit slot : ℕ) (wanted : Wanted) (lows : List ℕ) → Keeps 0 limit (comes_later wanted slot []) lows
unfolding parts arrives kept
comes-none limit slot wanted lows = tt

pub main-none : (kind : BufferKind) (watch : PacketWatch) → IsJudged kind → KeepsMain kind watch []
main-none (Video vbv) watch judged = comes-none 0 watch.tb.slot Payload (watch.leaves ++ with_headers (parts []) (moves_later watch.moves (wanted_later DataAlone watch.tb [])))
main-none Audio watch judged = comes-none 0 watch.tb.slot Payload watch.moves.rooms
main-none System watch judged = absurd judged

pub found-none : (kind : BufferKind) (watch : PacketWatch) → IsJudged kind → watch.taken ≡ [] → KeepsFound kind watch []
found-none (Video vbv) watch judged none = subst (λ l. Keeps 1 0 l (moves_later watch.moves (wanted_later DataAlone watch.tb []))) (sym none) tt
found-none Audio watch judged none = subst (λ l. Keeps 1 0 l (wanted_later Payload watch.tb [])) (sym none) tt
found-none System watch judged none = absurd judged

pub held-none : (kind : BufferKind) (watch : PacketWatch) → IsJudged kind → KeepsHeld kind watch []
held-none (Video vbv) watch judged = comes-none hold_subticks watch.tb.slot DataAlone watch.taken
held-none Audio watch judged = comes-none hold_subticks watch.tb.slot Payload watch.taken
held-none System watch judged = absurd judged

-- ---- before the first packet
tb-leaves : (slot slot' s before : ℕ) (kind : BufferKind) (later : List Arrival) → slot' ≡ slot → s ≡ tb_subticks kind → before ≡ 0
    → departures s before (arrives slot' later) ≡ leave_tb slot kind later
unfolding leave_tb
tb-leaves slot slot' s before kind later slot_is s_is before_is =
    ap (λ n. departures s before (arrives n later)) slot_is
    ∙ ap (λ n. departures s n (arrives slot later)) before_is
    ∙ ap (λ n. departures n 0 (arrives slot later)) s_is

tb-sure : (slot slot' s before : ℕ) (kind : BufferKind) (later : List Arrival) → slot' ≡ slot → s ≡ tb_subticks kind → before ≡ 0
    → Keeps 0 (s * TB_BYTES) (arrives slot' later) (departures s before (arrives slot' later)) → first_excess (transport_buffer slot kind later) ≡ None
tb-sure slot slot' s before kind later slot_is s_is before_is keeps =
    tb-kept slot s kind later s_is
    (subst (λ n. Keeps 0 (s * TB_BYTES) (arrives slot later) (departures s n (arrives slot later))) before_is
    (subst (λ n. Keeps 0 (s * TB_BYTES) (arrives n later) (departures s before (arrives n later))) slot_is keeps))

-- what is known of a watch to which nothing has come
pub record IsBegun (slot : ℕ) (kind : BufferKind) (removals : List Removal) (watch : PacketWatch) : Type 0 where
  pub kind_is : watch.kind ≡ kind
  pub slot_is : watch.tb.slot ≡ slot
  pub subticks_are : watch.tb.subticks ≡ tb_subticks kind
  pub empty : watch.tb.before ≡ 0
  pub taken_are : watch.taken ≡ removed removals
  pub rooms_are : watch.moves.rooms ≡ replicate (room_bytes kind) 0 ++ removed removals
  pub unmoved : watch.moves.before ≡ 0
  pub leaves_are : watch.leaves ≡ replicate (mb_bytes kind) 0

module _ (slot : ℕ) (removals : List Removal) (watch : PacketWatch) (later : List Arrival) where
  passes-are : (kind : BufferKind) (test : PacketPart → Bool) → IsBegun slot kind removals watch
      → kept test (parts later) (departures watch.tb.subticks watch.tb.before (arrives watch.tb.slot later)) ≡ kept test (parts later) (leave_tb slot kind later)
  passes-are kind test begun =
      ap (λ (l : List ℕ). kept test (parts later) l)
      (tb-leaves slot watch.tb.slot watch.tb.subticks watch.tb.before kind later begun.slot_is begun.subticks_are begun.empty)

  abbrev moving : List ℕ
  moving = moves_later watch.moves (wanted_later DataAlone watch.tb later)

  moves-begun : (vbv : ℕ) → IsBegun slot (Video vbv) removals watch → moving ≡ moves slot vbv later removals
  moves-begun vbv begun =
      let comes = wanted_later DataAlone watch.tb later in
      ap (λ (l : List ℕ). departures_into l MB_SUBTICKS watch.moves.before comes) begun.rooms_are
      ∙ ap (λ n. departures_into (replicate (eb_bytes vbv) 0 ++ removed removals) MB_SUBTICKS n comes) begun.unmoved
      ∙ runs-are slot vbv (eb_bytes vbv) (Video vbv) later removals (removed removals) comes refl refl refl (passes-are (Video vbv) (is_wanted DataAlone) begun)

  main-begun : (kind : BufferKind) → IsBegun slot kind removals watch → KeepsMain kind watch later → first_excess (main_buffer slot kind later removals) ≡ None
  main-begun (Video vbv) begun keeps =
      let outs = with_headers (parts later) moving in
      video-kept slot vbv (eb_bytes vbv) (Video vbv) later removals moving outs refl refl (moves-begun vbv begun) refl
      (subst (λ n. Keeps 0 0 (comes_later Payload n later) (replicate (VIDEO_BYTES - eb_bytes vbv) 0 ++ outs)) begun.slot_is
      (subst (λ l. Keeps 0 0 (comes_later Payload watch.tb.slot later) (l ++ outs)) begun.leaves_are keeps))
  main-begun Audio begun keeps =
      audio-kept slot Audio later removals (removed removals) refl refl
      (subst (λ n. Keeps 0 0 (comes_later Payload n later) (replicate AUDIO_BYTES 0 ++ removed removals)) begun.slot_is
      (subst (λ l. Keeps 0 0 (comes_later Payload watch.tb.slot later) l) begun.rooms_are keeps))
  main-begun System begun keeps = absurd keeps

  found-begun : (kind : BufferKind) → IsBegun slot kind removals watch → KeepsFound kind watch later → late_found slot kind later removals ≡ None
  found-begun (Video vbv) begun keeps =
      video-found slot vbv (Video vbv) later removals moving refl (moves-begun vbv begun) (subst (λ l. Keeps 1 0 l moving) begun.taken_are keeps)
  found-begun Audio begun keeps =
      let comes = wanted_later Payload watch.tb later in
      audio-found slot Audio later removals comes refl (passes-are Audio (is_wanted Payload) begun) (subst (λ l. Keeps 1 0 l comes) begun.taken_are keeps)
  found-begun System begun keeps = absurd keeps

  held-begun : (kind : BufferKind) → IsBegun slot kind removals watch → KeepsHeld kind watch later → old_found slot kind later removals ≡ None
  held-begun (Video vbv) begun keeps =
      video-held slot vbv hold_subticks (Video vbv) later removals watch.taken refl refl begun.taken_are
      (subst (λ n. Keeps 0 hold_subticks (comes_later DataAlone n later) watch.taken) begun.slot_is keeps)
  held-begun Audio begun keeps =
      audio-held slot hold_subticks Audio later removals watch.taken refl refl begun.taken_are
      (subst (λ n. Keeps 0 hold_subticks (comes_later Payload n later) watch.taken) begun.slot_is keeps)
  held-begun System begun keeps = absurd keeps

pub watched-none : (slot : ℕ) (kind : BufferKind) (removals : List Removal) (watch : PacketWatch) → IsBegun slot kind removals watch → HasWatchedEach slot kind removals [] watch
watched-none slot kind removals watch begun = record {
  tb = λ later sure. tb-sure slot watch.tb.slot watch.tb.subticks watch.tb.before kind later begun.slot_is begun.subticks_are begun.empty sure.1;
  main = λ later sure. main-begun slot removals watch later kind begun (subst (λ k. KeepsMain k watch later) begun.kind_is sure.1);
  found = λ later sure. found-begun slot removals watch later kind begun (subst (λ k. KeepsFound k watch later) begun.kind_is sure.1);
  held = λ later sure. held-begun slot removals watch later kind begun (subst (λ k. KeepsHeld k watch later) begun.kind_is sure.1);
}

-- ---- all four questions together
pub watched-whole : (slot : ℕ) (kind : BufferKind) (removals : List Removal) (given : List Arrival) (watch : PacketWatch) → HasWatchedEach slot kind removals given watch
    → HasWatched slot kind removals given watch
watched-whole slot kind removals given watch each = record {
  clean = λ later slots dues sure.
      first_fault-is slot kind (given ++ later) removals None slots dues
      (earliest-of slot kind (given ++ later) removals None None None None None None
      (sym (each.found later sure.2)) (sym (each.tb later sure.0)) (sym (each.main later sure.1)) refl (sym (each.held later sure.3)) (refl, refl, refl));
}

pub watched-next : (slot : ℕ) (kind : BufferKind) (removals : List Removal) (given : List Arrival) (packet : Arrival) (old new : PacketWatch) → Goes old packet new
    → HasWatched slot kind removals given old → HasWatched slot kind removals (given ++ packet ∷ []) new
watched-next slot kind removals given packet old new goes has = record {
  clean = λ later slots dues sure.
      let same = append_assoc given (packet ∷ []) later in
      subst (λ l. IsFirstOrNone slot kind l removals None) (sym same)
      (has.clean (packet ∷ later) (subst (λ (l : List Arrival). IsStrictlyIncreasing (map (λ (a : Arrival). a.slot_no) l)) same slots) dues
      (goes.tb later sure.0, goes.main later sure.1, goes.found later sure.2, goes.held later sure.3));
}

-- ---- behind the last packet
pub clean-of : (slot : ℕ) (kind : BufferKind) (removals : List Removal) (given : List Arrival) (watch : PacketWatch) → HasWatched slot kind removals given watch
    → IsStrictlyIncreasing (map (λ a. a.slot_no) given) → IsNonDecreasing (map (λ r. r.due) removals) → IsSure watch [] → IsFirstOrNone slot kind given removals None
clean-of slot kind removals given watch has slots dues sure =
    let same = append-nil given in
    subst (λ l. IsFirstOrNone slot kind l removals None) same
    (has.clean [] (subst (λ (l : List Arrival). IsStrictlyIncreasing (map (λ (a : Arrival). a.slot_no) l)) (sym same) slots) dues sure)
