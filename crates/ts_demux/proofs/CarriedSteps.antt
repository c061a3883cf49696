-- What the packets of a file carry on some PIDs, one packet further.
use Rattle.std.proofs.Common.{
  ◌≡◌,
  ◌≢◌,
  ℕ,
  zero,
  suc,
  ◌+◌,
  ◌*◌,
  ◌<◌,
  ◌≤◌,
  ◌==◌,
  ◌||◌,
  inl,
  inr,
  Bool,
  true,
  false,
  cond,
  List,
  [],
  ◌∷◌,
  ◌++◌,
  length,
  map,
  take,
  get_or,
  set,
  slice_get,
  Option,
  Some,
  None,
  refl,
  sym,
  ap,
  ◌∙◌,
  subst,
  arith,
  append-nil,
}
use Rattle.std.proofs.lemmas.Bool.Decides.{nat_tests}
use Rattle.std.proofs.lemmas.Option.{same_Some, slice_get_within}
use Rattle.std.proofs.lemmas.List.{map-append}
use Rattle.list_types.proofs.Lists.{slice_get-set_same, slice_get-set_other}
use Rattle.bit_lists.specs.Payload.{CarriedPayload}
use Rattle.ts_packets.specs.declared.pid_fault.PidFault.{PidFault}
use Rattle.ts_packets.specs.declared.pid_reader.PidReader.{PidReader}
use Rattle.ts_packets.specs.Packet.{sync_byte, packet_identifier}
use Rattle.ts_packets.specs.TransportStream.{Piece, piece_at, piece_count, is_of_pid, pid_pieces}
use Rattle.ts_packets.specs.Carried.{carried, pid_fault}
use Rattle.ts_packets.specs.declared.packet.Packet.{Packet}
use Rattle.ts_packets.specs.PidReader.{IsBehind, carried_at}
use Rattle.psi_tables.specs.declared.stream.Stream.{Stream}
use Rattle.ts_demux.specs.declared.carried_packets.CarriedPid.{CarriedPid}
use Rattle.ts_demux.specs.declared.carried_packets.StreamPayload.{StreamPayload}
use Rattle.ts_demux.specs.declared.demux_fault.DemuxFault.{DemuxFault}
use Rattle.ts_demux.specs.declared.demux_fault.DemuxFault.TheVariants.{Sync}
use Rattle.ts_demux.specs.Faults.{of_pid}
use Rattle.ts_demux.specs.Streams.{is_among}
use Rattle.ts_demux.specs.Tables.{HasPidFault, piece}
use Rattle.ts_demux.specs.Demux.{IsStreamFault}
use Rattle.ts_demux.specs.CarriedPackets.{AreDistinct, AddsFound, added_to, as_carried, carried_before}
use Rattle.ts_demux.proofs.TableLemmas.{pieces_more, pieces_other}
use Rattle.ts_demux.proofs.WalkSteps.{is_of}
use Rattle.ts_demux.proofs.PidTests.{no_test, yes_test}

abbrev pub pids_in : List CarriedPid → List ℕ
pids_in streams = map (λ (stream : CarriedPid). stream.pid) streams

-- ---- PIDs and their places

pub among_at : (pids : List ℕ) (pid : ℕ) → is_among pids pid ≡ true → (k : ℕ) × (slice_get pids k ≡ Some pid)
among_at [] pid is = absurd cc
among_at (p ∷ pids) pid is = by_test (among_at pids pid) (p == pid) refl is
  where
    by_test : (is_among pids pid ≡ true → (k : ℕ) × (slice_get pids k ≡ Some pid)) → (same : Bool) → (p == pid) ≡ same → (same || is_among pids pid) ≡ true →
        (k : ℕ) × (slice_get (p ∷ pids) k ≡ Some pid)
    by_test others true same_is is = let same : p ≡ pid = grind (arith, nat_tests) in (0, ap Some same)
    by_test others false same_is is = let found = others is in (suc found.0, found.1)

pub at_among : (pids : List ℕ) (k pid : ℕ) → slice_get pids k ≡ Some pid → is_among pids pid ≡ true
at_among [] k pid there = absurd cc
at_among (p ∷ pids) zero pid there = let same : p ≡ pid = same_Some p pid there in ap (λ (b : Bool). b || is_among pids pid) (yes_test p pid same)
at_among (p ∷ pids) (suc k) pid there = by_test (p == pid) (at_among pids k pid there)
  where
    by_test : (same : Bool) → is_among pids pid ≡ true → (same || is_among pids pid) ≡ true
    by_test true is = refl
    by_test false is = is

pub there_pid : (streams : List CarriedPid) (k : ℕ) (stream : CarriedPid) → slice_get streams k ≡ Some stream → slice_get (pids_in streams) k ≡ Some stream.pid
there_pid [] k stream there = absurd cc
there_pid (s ∷ streams) zero stream there = ap (λ (x : CarriedPid). Some x.pid) (same_Some s stream there)
there_pid (s ∷ streams) (suc k) stream there = there_pid streams k stream there

pub pid_within : (streams : List CarriedPid) (k pid : ℕ) → slice_get (pids_in streams) k ≡ Some pid → k < length streams
pid_within [] k pid there = absurd cc
pid_within (s ∷ streams) zero pid there = omega arith
pid_within (s ∷ streams) (suc k) pid there = let less : k < length streams = pid_within streams k pid there in omega (arith, less)

-- a reader that has another state has the same PID
pub set_pids : (streams : List CarriedPid) (index : ℕ) (item new : CarriedPid) → slice_get streams index ≡ Some item → new.pid ≡ item.pid →
    pids_in (set streams index new) ≡ pids_in streams
set_pids [] index item new there same = absurd cc
set_pids (s ∷ streams) zero item new there same = ap (λ (p : ℕ). p ∷ pids_in streams) (same ∙ sym (ap (λ (x : CarriedPid). x.pid) (same_Some s item there)))
set_pids (s ∷ streams) (suc index) item new there same = ap (λ (ps : List ℕ). s.pid ∷ ps) (set_pids streams index item new there same)

-- ---- the n-th packet, of the PID `of_it`

module _ (file : List ℕ) (n : ℕ) (bytes : List ℕ) (of_it : ℕ) (bytes_are : bytes ≡ piece_at file n) (of_it_is : of_it ≡ packet_identifier bytes) where
  apart_from : (pid : ℕ) → (of_it ≡ pid → ⊥) → is_of_pid file pid n ≡ false
  apart_from pid apart = is_of file n of_it pid bytes false bytes_are of_it_is (no_test of_it pid apart)

  on_it : is_of_pid file of_it n ≡ true
  on_it = is_of file n of_it of_it bytes true bytes_are of_it_is (yes_test of_it of_it refl)

  -- what has its PID is of it
  same_pid : (pid : ℕ) → is_of_pid file pid n ≡ true → of_it ≡ pid
  same_pid pid is = by_test (of_it == pid) refl
    where
      by_test : (same : Bool) → (of_it == pid) ≡ same → of_it ≡ pid
      by_test true same_is = grind (arith, nat_tests)
      by_test false same_is = let e : is_of_pid file pid n ≡ false = is_of file n of_it pid bytes false bytes_are of_it_is same_is in absurd cc

  pieces_here : pid_pieces file of_it 0 (n + 1) ≡ pid_pieces file of_it 0 n ++ record { at = 188 * n; bytes = bytes } ∷ []
  pieces_here = pieces_more file of_it 0 n (omega arith) on_it ∙ ap (λ (b : List ℕ). pid_pieces file of_it 0 n ++ record { at = 188 * n; bytes = b } ∷ []) (sym bytes_are)

  -- no fault, but for those of its own PID
  pub no_fault : (pids : List ℕ) → sync_byte bytes ≡ 0x47 → ((found : PidFault) → is_among pids of_it ≡ true → HasPidFault file of_it 0 n found → ⊥) →
      (fault : DemuxFault) → IsStreamFault file pids n fault → ⊥
  no_fault pids sync sound fault (inl none) = none.0.no_sync (subst (λ (b : List ℕ). sync_byte b ≡ 0x47) bytes_are sync)
  no_fault pids sync sound fault (inr has) =
      let same : has.0 ≡ of_it = sym (same_pid has.0 has.3.of_pid) in
      sound has.1 (subst (λ (p : ℕ). is_among pids p ≡ true) same has.2) (subst (λ (p : ℕ). HasPidFault file p 0 n has.1) same has.3)

  -- none of the PIDs is its own
  pub none_found : (pids : List ℕ) → sync_byte bytes ≡ 0x47 → ((k : ℕ) → slice_get pids k ≢ Some of_it) → AddsFound file pids n None
  none_found pids sync none = record {
    sound = no_fault pids sync (λ found among has. none (among_at pids of_it among).0 (among_at pids of_it among).1);
    each = λ k pid there. ap carried (pieces_other file pid 0 n (apart_from pid (λ same. none k (there ∙ ap Some (sym same))))) ∙ sym (append-nil (carried_before file pid n));
  }

  pub none_stand : (streams : List CarriedPid) → ((k : ℕ) → slice_get (pids_in streams) k ≢ Some of_it) →
      ((k : ℕ) (stream : CarriedPid) → slice_get streams k ≡ Some stream → IsBehind (pid_pieces file stream.pid 0 n) stream.packets) →
      (k : ℕ) (stream : CarriedPid) → slice_get streams k ≡ Some stream → IsBehind (pid_pieces file stream.pid 0 (n + 1)) stream.packets
  none_stand streams none stand k stream there =
      subst (λ (ps : List Piece). IsBehind ps stream.packets)
      (sym (pieces_other file stream.pid 0 n (apart_from stream.pid (λ same. none k (there_pid streams k stream there ∙ ap Some (sym same)))))) (stand k stream there)

  -- no sync byte
  pub no_sync : (pids : List ℕ) → n < piece_count file → (sync_byte bytes ≡ 0x47 → ⊥) → IsStreamFault file pids n (Sync (188 * n))
  no_sync pids within none = inl (record { within = within; no_sync = subst (λ (b : List ℕ). sync_byte b ≡ 0x47 → ⊥) bytes_are none }, refl)

  -- ---- the PID of this number is its own

  module _ (pids : List ℕ) (index : ℕ) (there : slice_get pids index ≡ Some of_it) where
    pub has_fault : (fault : DemuxFault) (found : PidFault) → n < piece_count file →
        Some found ≡ pid_fault (pid_pieces file of_it 0 n) (record { at = 188 * n; bytes = bytes }) → fault ≡ of_pid (188 * n) found → IsStreamFault file pids n fault
    has_fault fault found within is fault_is = inr (
      of_it,
      found,
      at_among pids index of_it there,
      record {
        within = within;
        behind = omega arith;
        of_pid = on_it;
        fault_is = subst (λ (b : List ℕ). pid_fault (pid_pieces file of_it 0 n) (record { at = 188 * n; bytes = b }) ≡ Some found) bytes_are (sym is);
      },
      fault_is,
    )

    -- it adds to its own PID what it carries
    pub adds : (found : Option StreamPayload) (more : List CarriedPayload) → AreDistinct pids → sync_byte bytes ≡ 0x47 → added_to index found ≡ more →
        ((k : ℕ) → (index ≡ k → ⊥) → added_to k found ≡ []) → None ≡ pid_fault (pid_pieces file of_it 0 n) (record { at = 188 * n; bytes = bytes }) →
        carried (pid_pieces file of_it 0 n ++ record { at = 188 * n; bytes = bytes } ∷ []) ≡ carried (pid_pieces file of_it 0 n) ++ more → AddsFound file pids n found
    adds found more distinct sync own others none carries = record {
      sound = no_fault pids sync (λ fault among has.
          (let no : pid_fault (pid_pieces file of_it 0 n) (piece file n) ≡ None = subst (λ (b : List ℕ). pid_fault (pid_pieces file of_it 0 n) (record { at = 188 * n; bytes = b }) ≡ None) bytes_are (sym none) in
          let e : None ≡ Some fault = sym no ∙ has.fault_is in
          absurd cc));
      each = λ k pid here. by_test k pid here (index == k) refl;
    }
      where
        by_test : (k pid : ℕ) → slice_get pids k ≡ Some pid → (same : Bool) → (index == k) ≡ same → carried_before file pid (n + 1) ≡ carried_before file pid n ++ added_to k found
        by_test k pid here true same_is =
            let k_is : index ≡ k = grind (arith, nat_tests) in
            let pid_is : of_it ≡ pid = same_Some of_it pid (sym there ∙ ap (slice_get pids) k_is ∙ here) in
            subst (λ (p : ℕ). carried_before file p (n + 1) ≡ carried_before file p n ++ added_to k found) pid_is
            (ap carried pieces_here ∙ carries ∙ ap (λ (xs : List CarriedPayload). carried_before file of_it n ++ xs) (sym own ∙ ap (λ (j : ℕ). added_to j found) k_is))
        by_test k pid here false same_is =
            let apart : index ≡ k → ⊥ = λ e. (let t : (index == k) ≡ true = yes_test index k e in absurd cc) in
            let other : of_it ≡ pid → ⊥ = λ e. apart (distinct index k pid (there ∙ ap Some e) here) in
            ap carried (pieces_other file pid 0 n (apart_from pid other)) ∙ sym (append-nil (carried_before file pid n))
            ∙ ap (λ (xs : List CarriedPayload). carried_before file pid n ++ xs) (sym (others k apart))

  -- the reader of its PID has taken it
  pub stand_next : (streams : List CarriedPid) (index : ℕ) (item new : CarriedPid) → slice_get streams index ≡ Some item → item.pid ≡ of_it → new.pid ≡ item.pid →
      AreDistinct (pids_in streams) → IsBehind (pid_pieces file of_it 0 n ++ record { at = 188 * n; bytes = bytes } ∷ []) new.packets →
      ((k : ℕ) (stream : CarriedPid) → slice_get streams k ≡ Some stream → IsBehind (pid_pieces file stream.pid 0 n) stream.packets) →
      (k : ℕ) (stream : CarriedPid) → slice_get (set streams index new) k ≡ Some stream → IsBehind (pid_pieces file stream.pid 0 (n + 1)) stream.packets
  stand_next streams index item new there item_is new_is distinct behind stand k stream here = by_test (index == k) refl
    where
      within : index < length streams
      within = slice_get_within streams index item there

      by_test : (same : Bool) → (index == k) ≡ same → IsBehind (pid_pieces file stream.pid 0 (n + 1)) stream.packets
      by_test true same_is =
          let k_is : index ≡ k = grind (arith, nat_tests) in
          let is : new ≡ stream = same_Some new stream (sym (slice_get-set_same streams index new within) ∙ ap (slice_get (set streams index new)) k_is ∙ here) in
          let pid_is : of_it ≡ stream.pid = sym (new_is ∙ item_is) ∙ ap (λ (s : CarriedPid). s.pid) is in
          let packets_are : new.packets ≡ stream.packets = ap (λ (s : CarriedPid). s.packets) is in
          subst (λ (p : ℕ). IsBehind (pid_pieces file p 0 (n + 1)) stream.packets) pid_is
          (subst (λ (ps : List Piece). IsBehind ps stream.packets) (sym pieces_here)
          (subst (λ (r : PidReader). IsBehind (pid_pieces file of_it 0 n ++ record { at = 188 * n; bytes = bytes } ∷ []) r) packets_are behind))
      by_test false same_is =
          let apart : k ≡ index → ⊥ = λ e. (let t : (index == k) ≡ true = yes_test index k (sym e) in absurd cc) in
          let was : slice_get streams k ≡ Some stream = sym (slice_get-set_other streams index k new apart) ∙ here in
          let own : slice_get (pids_in streams) index ≡ Some of_it = there_pid streams index item there ∙ ap Some item_is in
          let other : of_it ≡ stream.pid → ⊥ = λ e. apart (sym (distinct index k stream.pid (own ∙ ap Some e) (there_pid streams k stream was))) in
          subst (λ (ps : List Piece). IsBehind ps stream.packets) (sym (pieces_other file stream.pid 0 n (apart_from stream.pid other))) (stand k stream was)

-- ---- one reader more

pub stand_push : (file : List ℕ) (streams : List CarriedPid) (new : CarriedPid) →
    ((k : ℕ) (stream : CarriedPid) → slice_get streams k ≡ Some stream → IsBehind (pid_pieces file stream.pid 0 0) stream.packets) → IsBehind [] new.packets →
    (k : ℕ) (stream : CarriedPid) → slice_get (streams ++ new ∷ []) k ≡ Some stream → IsBehind (pid_pieces file stream.pid 0 0) stream.packets
stand_push file [] new stand behind zero stream there = subst (λ (s : CarriedPid). IsBehind (pid_pieces file s.pid 0 0) s.packets) (same_Some new stream there) behind
stand_push file [] new stand behind (suc k) stream there = absurd cc
stand_push file (s ∷ streams) new stand behind zero stream there = stand 0 stream there
stand_push file (s ∷ streams) new stand behind (suc k) stream there = stand_push file streams new (λ j other is. stand (suc j) other is) behind k stream there

take_pids : (streams : List Stream) (i : ℕ) (d : Stream) → i < length streams →
    map (λ (stream : Stream). stream.pid) (take (i + 1) streams) ≡ map (λ (stream : Stream). stream.pid) (take i streams) ++ (get_or streams i d).pid ∷ []
take_pids [] i d within = absurd (omega arith)
take_pids (s ∷ streams) zero d within = refl
take_pids (s ∷ streams) (suc i) d within =
    ap (λ (k : ℕ). map (λ (stream : Stream). stream.pid) (take k (s ∷ streams))) (more i) ∙ ap (λ (ps : List ℕ). s.pid ∷ ps) (take_pids streams i d (omega arith))
  where
    more : (m : ℕ) → suc m + 1 ≡ suc (m + 1)
    more m = omega arith

pub pids_push : (read : List CarriedPid) (new : CarriedPid) (streams : List Stream) (i : ℕ) (d : Stream) → pids_in read ≡ map (λ (stream : Stream). stream.pid) (take i streams) →
    i < length streams → new.pid ≡ (get_or streams i d).pid → pids_in (read ++ new ∷ []) ≡ map (λ (stream : Stream). stream.pid) (take (i + 1) streams)
pids_push read new streams i d same within pid_is =
    map-append (λ (stream : CarriedPid). stream.pid) read (new ∷ []) ∙ ap (λ (ps : List ℕ). ps ++ new.pid ∷ []) same
    ∙ ap (λ (p : ℕ). map (λ (stream : Stream). stream.pid) (take i streams) ++ p ∷ []) pid_is ∙ sym (take_pids streams i d within)

-- ---- the search for a PID

pub pid_at : (streams : List CarriedPid) (k : ℕ) (d : CarriedPid) → k < length streams → slice_get (pids_in streams) k ≡ Some (get_or streams k d).pid
pid_at [] k d within = absurd (omega arith)
pid_at (s ∷ streams) zero d within = refl
pid_at (s ∷ streams) (suc k) d within = pid_at streams k d (omega arith)

pub none_more : (streams : List CarriedPid) (pid index : ℕ) (d : CarriedPid) → index < length streams → ((get_or streams index d).pid ≡ pid → ⊥) →
    ((k : ℕ) → k < index → slice_get (pids_in streams) k ≢ Some pid) → (k : ℕ) → k < index + 1 → slice_get (pids_in streams) k ≢ Some pid
none_more streams pid index d within apart before k below there = by_test (k == index) refl
  where
    by_test : (same : Bool) → (k == index) ≡ same → ⊥
    by_test true same_is =
        let k_is : k ≡ index = grind (arith, nat_tests) in
        apart (same_Some (get_or streams index d).pid pid (sym (pid_at streams index d within) ∙ ap (slice_get (pids_in streams)) (sym k_is) ∙ there))
    by_test false same_is =
        let other : k ≡ index → ⊥ = λ e. (let t : (k == index) ≡ true = yes_test k index e in absurd cc) in
        before k (omega (arith, other, below)) there

pub none_at_all : (streams : List CarriedPid) (pid index : ℕ) → length streams ≤ index → ((k : ℕ) → k < index → slice_get (pids_in streams) k ≢ Some pid) →
    (k : ℕ) → slice_get (pids_in streams) k ≢ Some pid
none_at_all streams pid index end before k there = let within : k < length streams = pid_within streams k pid there in before k (omega (arith, within, end)) there

-- ---- the reader of a PID, and what a payload adds

-- the stream of this number is of the PID, and its reader stands before the packet
module _ (streams : List CarriedPid) (index of_it : ℕ) (item : CarriedPid) (there : slice_get (pids_in streams) index ≡ Some of_it) (item_is : slice_get streams index ≡ Some item) where
  pub item_pid : item.pid ≡ of_it
  item_pid = same_Some item.pid of_it (sym (there_pid streams index item item_is) ∙ there)

  pub item_behind : (file : List ℕ) (n : ℕ) →
      ((k : ℕ) (stream : CarriedPid) → slice_get streams k ≡ Some stream → IsBehind (pid_pieces file stream.pid 0 n) stream.packets) →
      IsBehind (pid_pieces file of_it 0 n) item.packets
  item_behind file n stand = subst (λ (p : ℕ). IsBehind (pid_pieces file p 0 n) item.packets) item_pid (stand index item item_is)

pub own_added : (found : StreamPayload) → added_to found.index (Some found) ≡ as_carried found ∷ []
own_added found = ap (λ (b : Bool). cond b (as_carried found ∷ []) []) (yes_test found.index found.index refl)

pub other_added : (found : StreamPayload) (k : ℕ) → (found.index ≡ k → ⊥) → added_to k (Some found) ≡ []
other_added found k apart = ap (λ (b : Bool). cond b (as_carried found ∷ []) []) (no_test found.index k apart)

-- the payload of a packet at a place
pub here_added : (found : StreamPayload) (packet : Packet) (at : ℕ) → found.at ≡ at → found.start ≡ packet.start → found.payload.now ≡ packet.payload.now →
    added_to found.index (Some found) ≡ carried_at at (Some packet)
here_added found packet at at_is start_is payload_is = own_added found ∙ rw (at_is, start_is, payload_is) refl
