-- The packets of a stream that are counted, as an audit takes them: each is the place of its number, with its own payload.
use Rattle.std.proofs.Common.{◌≡◌, ℕ, suc, ◌+◌, ◌-◌, ◌<◌, ◌≤◌, ◌==◌, eqb, nat_lt, Bool, true, false, cond, if◌then◌else◌, ◌&&◌, ◌||◌, List}
use Rattle.std.proofs.Common.{[], ◌∷◌, ◌++◌, length, map, filter, take, drop, Option, Some, None, option_and_then, refl, sym, ap, ap₂, subst, ◌∙◌, arith}
use Rattle.std.specs.Prelude.{slice_get}
use Rattle.std.specs.List.{flat_map, list_any, range_with_len}
use Rattle.std.proofs.lemmas.Bool.{and_right, eqb-true, eq-eqb, ltb-false}
use Rattle.std.proofs.lemmas.List.{append-nil, drop-map, length-map, map-append}
use Rattle.std.proofs.lemmas.List.FromFn.{length-map-range_with_len}
use Rattle.std.proofs.lemmas.List.Elements.{filter-append}
use Rattle.std.proofs.lemmas.List.Folds.{flat_map-map}
use Rattle.std.proofs.lemmas.Option.{get_or_from_slice_get, slice_get_within}
use Rattle.std.proofs.Math.Seq.{drop-append_seam, take-suc}
use Rattle.bit_lists.specs.Payload.{CarriedPayload, Payload, is_start}
use Rattle.ts_packets.specs.Packet.{PacketRecord, packet_identifier, packet_of}
use Rattle.ts_packets.specs.TransportStream.{is_of_pid, packets, piece_at, piece_count, pid_pieces}
use Rattle.ts_packets.specs.Carried.{carried, has_payload_on, payload_of, payloads_on}
use Rattle.layer_laws.specs.Counted.{AreCounted}
use Rattle.ts_demux.specs.declared.pid_places.Place.{Place}
use Rattle.ts_demux.specs.CarriedPackets.{carried_before}
use Rattle.ts_demux.specs.PidPlaces.{added_at, pcr_in, place_at, places_on}
use Rattle.stream_audit.specs.Streams.{place_of}
use Rattle.layer_laws.proofs.CountedPackets.{no_packet}

-- ---- the laws below, as these proofs call them

-- in a file of packets the packet of each number is the record of that number, and of packets that are counted on a PID payloads are carried
pub record PacketLaws : Type 0 where
  pub stands : (file : List ℕ) (list : List PacketRecord) (n : ℕ) (packet : PacketRecord) → packets file ≡ map Some list → slice_get list n ≡ Some packet
      → (packet_of (piece_at file n) ≡ Some packet) × (packet_identifier (piece_at file n) ≡ packet.pid)
  pub carries : (file : List ℕ) (list : List PacketRecord) (pid from to : ℕ) → packets file ≡ map Some list → AreCounted pid list → from ≤ to → to ≤ length list
      → map (λ (c : CarriedPayload). c.payload) (carried (pid_pieces file pid from to)) ≡ payloads_on pid (take (to - from) (drop from list))

pub as-many : (file : List ℕ) (list : List PacketRecord) → packets file ≡ map Some list → piece_count file ≡ length list
as-many file list read = sym (length-map-range_with_len (λ (n : ℕ). packet_of (piece_at file n)) 0 (piece_count file)) ∙ ap length read ∙ length-map list Some

-- ---- packets by their numbers

-- the PCR of a packet, where it has one
abbrev pub own_pcr : PacketRecord → Option ℕ
own_pcr packet = option_and_then (λ field. field.pcr) packet.field

-- a packet of a number as a place
abbrev pub place_by : ℕ → PacketRecord → Place
place_by n packet = record { packet = n; pcr = own_pcr packet; start = is_start (payload_of packet); payload = length packet.payload }

-- the packets that pass a test, the first packet with a number
abbrev pub places_by : (test : PacketRecord → Bool) → (from : ℕ) → List PacketRecord → List Place
places_by test from [] = []
places_by test from (packet ∷ more) = if test packet then place_by from packet ∷ places_by test (from + 1) more else places_by test (from + 1) more

-- numbers that pass a test give the packets that pass another, where the tests agree and each gives its packet
pub along : (test : PacketRecord → Bool) (q : ℕ → Bool) (f : ℕ → Place) (from : ℕ) (list : List PacketRecord)
    → ((k : ℕ) (packet : PacketRecord) → slice_get list k ≡ Some packet → (q (from + k) ≡ test packet) × (test packet ≡ true → f (from + k) ≡ place_by (from + k) packet))
    → map f (filter q (range_with_len from (length list))) ≡ places_by test from list
along test q f from [] each = refl
along test q f from (packet ∷ more) each = by_test (test packet) (ap q at ∙ here.0) (λ passes. ap f at ∙ here.1 passes ∙ ap (λ (n : ℕ). place_by n packet) (sym at))
    (along test q f (from + 1) more
    (λ k other there.
    let of = each (suc k) other there in
    (ap q (next k) ∙ of.0, λ passes. ap f (next k) ∙ of.1 passes ∙ ap (λ (n : ℕ). place_by n other) (sym (next k)))))
  where
    here : (q (from + 0) ≡ test packet) × (test packet ≡ true → f (from + 0) ≡ place_by (from + 0) packet)
    here = each 0 packet refl

    at : from ≡ from + 0
    at = omega arith

    next : (k : ℕ) → from + 1 + k ≡ from + suc k
    next k = omega arith

    by_test : (b : Bool) → q from ≡ b → (b ≡ true → f from ≡ place_by from packet)
        → map f (filter q (range_with_len (from + 1) (length more))) ≡ places_by test (from + 1) more
        → map f (cond (q from) (from ∷ filter q (range_with_len (from + 1) (length more))) (filter q (range_with_len (from + 1) (length more))))
        ≡ cond b (place_by from packet ∷ places_by test (from + 1) more) (places_by test (from + 1) more)
    by_test true is found rest = rw is (ap₂ (λ (p : Place) (ps : List Place). p ∷ ps) (found refl) rest)
    by_test false is found rest = rw is rest

-- ---- what a packet adds

payloads-append : (pid : ℕ) (xs ys : List PacketRecord) → payloads_on pid (xs ++ ys) ≡ payloads_on pid xs ++ payloads_on pid ys
payloads-append pid xs ys = ap (map payload_of) (filter-append (has_payload_on pid) xs ys) ∙ map-append payload_of (filter (has_payload_on pid) xs) (filter (has_payload_on pid) ys)

-- what a packet of its PID carries alone
alone : (pid : ℕ) (packet : PacketRecord) → packet.pid ≡ pid → payloads_on pid (packet ∷ []) ≡ cond (nat_lt 0 (length packet.payload)) (payload_of packet ∷ []) []
alone pid packet own =
    ap (λ (a : Bool). map payload_of (cond (a && nat_lt 0 (length packet.payload)) (packet ∷ []) [])) (eq-eqb packet.pid pid own) ∙ kept-one (nat_lt 0 (length packet.payload))
  where
    kept-one : (b : Bool) → map payload_of (cond (true && b) (packet ∷ []) []) ≡ cond b (payload_of packet ∷ []) []
    kept-one true = refl
    kept-one false = refl

-- its bytes are its payload
own-bytes : (pid : ℕ) (packet : PacketRecord) → packet.pid ≡ pid → flat_map (λ (p : Payload). p.bytes) (payloads_on pid (packet ∷ [])) ≡ packet.payload
own-bytes pid packet own = ap (flat_map (λ (p : Payload). p.bytes)) (alone pid packet own) ∙ by_test (nat_lt 0 (length packet.payload)) refl
  where
    empty : (bytes : List ℕ) → nat_lt 0 (length bytes) ≡ false → [] ≡ bytes
    empty [] none = refl
    empty (byte ∷ bytes) none = absurd (let low = ltb-false 0 (suc (length bytes)) none in omega (arith, low))

    by_test : (b : Bool) → nat_lt 0 (length packet.payload) ≡ b → flat_map (λ (p : Payload). p.bytes) (cond b (payload_of packet ∷ []) []) ≡ packet.payload
    by_test true some = append-nil packet.payload
    by_test false none = empty packet.payload none

own-start : (pid : ℕ) (packet : PacketRecord) → packet.pid ≡ pid → list_any is_start (payloads_on pid (packet ∷ [])) ≡ is_start (payload_of packet)
own-start pid packet own = ap (list_any is_start) (alone pid packet own) ∙ by_test (nat_lt 0 (length packet.payload)) refl
  where
    or-false : (b : Bool) → (b || false) ≡ b
    or-false true = refl
    or-false false = refl

    by_test : (b : Bool) → nat_lt 0 (length packet.payload) ≡ b → list_any is_start (cond b (payload_of packet ∷ []) []) ≡ is_start (payload_of packet)
    by_test true some = or-false (is_start (payload_of packet))
    by_test false none = sym (and_right packet.start (nat_lt 0 (length packet.payload)) none)

any-map : {A B : Type 0} (f : A → B) (p : B → Bool) (xs : List A) → list_any p (map f xs) ≡ list_any (λ x. p (f x)) xs
any-map f p [] = refl
any-map f p (x ∷ xs) = ap (λ (b : Bool). p (f x) || b) (any-map f p xs)

abbrev place_of_parts : ℕ → Option ℕ → Bool → ℕ → Place
place_of_parts n pcr start payload = record { packet = n; pcr = pcr; start = start; payload = payload }

module _ (laws : PacketLaws) (file : List ℕ) (list : List PacketRecord) (read : packets file ≡ map Some list) where
  abbrev payloads_before : ℕ → ℕ → List Payload
  payloads_before pid n = map (λ (c : CarriedPayload). c.payload) (carried_before file pid n)

  before-are : (pid n : ℕ) → AreCounted pid list → n ≤ length list → payloads_before pid n ≡ payloads_on pid (take n list)
  before-are pid n counted within =
      laws.carries file list pid 0 n read counted (omega arith) within ∙ ap (λ (k : ℕ). payloads_on pid (take k list)) (let e : n - 0 ≡ n = omega arith in e)

  -- what a packet adds to what its PID carries is its own payload
  added : (pid n : ℕ) (packet : PacketRecord) → AreCounted pid list → slice_get list n ≡ Some packet
      → map (λ (c : CarriedPayload). c.payload) (added_at file pid n) ≡ payloads_on pid (packet ∷ [])
  added pid n packet counted there =
      let within : n < length list = slice_get_within list n packet there in
      let was : payloads_before pid n ≡ payloads_on pid (take n list) = before-are pid n counted (omega (arith, within)) in
      let now : payloads_before pid (n + 1) ≡ payloads_on pid (take (n + 1) list) = before-are pid (n + 1) counted (omega (arith, within)) in
      let more : take (n + 1) list ≡ take n list ++ packet ∷ [] =
      ap (λ (k : ℕ). take k list) (let e : n + 1 ≡ suc n = omega arith in e) ∙ take-suc list n no_packet within
      ∙ ap (λ (p : PacketRecord). take n list ++ p ∷ []) (get_or_from_slice_get list n packet no_packet there) in
      let size : length (carried_before file pid n) ≡ length (payloads_on pid (take n list)) =
      sym (length-map (carried_before file pid n) (λ (c : CarriedPayload). c.payload)) ∙ ap (length {A = Payload}) was in
      sym (drop-map (λ (c : CarriedPayload). c.payload) (length (carried_before file pid n)) (carried_before file pid (n + 1)))
      ∙ ap (drop (length (carried_before file pid n))) (now ∙ ap (payloads_on pid) more ∙ payloads-append pid (take n list) (packet ∷ []))
      ∙ ap (λ (k : ℕ). drop k (payloads_on pid (take n list) ++ payloads_on pid (packet ∷ []))) size
      ∙ drop-append_seam (payloads_on pid (take n list)) (payloads_on pid (packet ∷ []))

  -- so it is the place of its number
  place-is : (pid n : ℕ) (packet : PacketRecord) → AreCounted pid list → slice_get list n ≡ Some packet → packet.pid ≡ pid → place_at file pid n ≡ place_by n packet
  place-is pid n packet counted there own =
      let pcr : pcr_in (piece_at file n) ≡ own_pcr packet = ap (λ (found : Option PacketRecord). option_and_then own_pcr found) (laws.stands file list n packet read there).0 in
      let start : list_any (λ (c : CarriedPayload). is_start c.payload) (added_at file pid n) ≡ is_start (payload_of packet) =
      sym (any-map (λ (c : CarriedPayload). c.payload) is_start (added_at file pid n)) ∙ ap (list_any is_start) (added pid n packet counted there) ∙ own-start pid packet own in
      let bytes : flat_map (λ (c : CarriedPayload). c.payload.bytes) (added_at file pid n) ≡ packet.payload =
      sym (flat_map-map (λ (p : Payload). p.bytes) (λ (c : CarriedPayload). c.payload) (added_at file pid n))
      ∙ ap (flat_map (λ (p : Payload). p.bytes)) (added pid n packet counted there) ∙ own-bytes pid packet own in
      ap₂ (λ (p : Option ℕ) (s : Bool). place_of_parts n p s (length (flat_map (λ (c : CarriedPayload). c.payload.bytes) (added_at file pid n)))) pcr start
      ∙ ap (λ (b : List ℕ). place_of_parts n (own_pcr packet) (is_start (payload_of packet)) (length b)) bytes

  -- all places of a PID
  pub places-are : (pid : ℕ) → AreCounted pid list → places_on file pid ≡ places_by (λ (packet : PacketRecord). packet.pid == pid) 0 list
  places-are pid counted =
      ap (λ (n : ℕ). map (place_at file pid) (filter (is_of_pid file pid) (range_with_len 0 n))) (as-many file list read)
      ∙ along (λ (packet : PacketRecord). packet.pid == pid) (is_of_pid file pid) (place_at file pid) 0 list
      (λ k packet there.
      let same : 0 + k ≡ k = omega arith in (
        ap (is_of_pid file pid) same ∙ ap (λ (n : ℕ). n == pid) (laws.stands file list k packet read there).1,
        λ passes. ap (place_at file pid) same ∙ place-is pid k packet counted there (eqb-true packet.pid pid passes) ∙ ap (λ (n : ℕ). place_by n packet) (sym same),
      ))

  -- all places of two PIDs
  pub both-are : (one other : ℕ) → AreCounted one list → AreCounted other list
      → map (place_of file) (filter (λ k. is_of_pid file one k || is_of_pid file other k) (range_with_len 0 (piece_count file)))
      ≡ places_by (λ (packet : PacketRecord). (packet.pid == one) || (packet.pid == other)) 0 list
  both-are one other counted also =
      let q : ℕ → Bool = λ k. is_of_pid file one k || is_of_pid file other k in
      ap (λ (n : ℕ). map (place_of file) (filter (λ k. is_of_pid file one k || is_of_pid file other k) (range_with_len 0 n))) (as-many file list read)
      ∙ along (λ (packet : PacketRecord). (packet.pid == one) || (packet.pid == other)) (λ k. is_of_pid file one k || is_of_pid file other k) (place_of file) 0 list
      (λ k packet there.
      let same : 0 + k ≡ k = omega arith in
      let pid : packet_identifier (piece_at file k) ≡ packet.pid = (laws.stands file list k packet read there).1 in (
        ap (λ n. is_of_pid file one n || is_of_pid file other n) same ∙ ap (λ (n : ℕ). (n == one) || (n == other)) pid,
        λ passes.
            ap (place_of file) same ∙ ap (λ (p : ℕ). place_at file p k) pid
            ∙ place-is packet.pid k packet (counted-either packet.pid (eqb packet.pid one) (eqb packet.pid other) refl refl passes) there refl ∙ ap (λ (n : ℕ). place_by n packet) (sym same),
      ))
    where
      counted-either : (pid : ℕ) (a b : Bool) → (pid == one) ≡ a → (pid == other) ≡ b → (a || b) ≡ true → AreCounted pid list
      counted-either pid true b is has passes = subst (λ (p : ℕ). AreCounted p list) (sym (eqb-true pid one is)) counted
      counted-either pid false true is has passes = subst (λ (p : ℕ). AreCounted p list) (sym (eqb-true pid other has)) also
      counted-either pid false false is has passes = absurd cc

  -- what a PID carries
  pub carried-are : (pid : ℕ) → AreCounted pid list → map (λ (c : CarriedPayload). c.payload) (carried (pid_pieces file pid 0 (piece_count file))) ≡ payloads_on pid list
  carried-are pid counted =
      ap (λ (n : ℕ). map (λ (c : CarriedPayload). c.payload) (carried (pid_pieces file pid 0 n))) (as-many file list read)
      ∙ laws.carries file list pid 0 (length list) read counted (omega arith) (omega arith)
      ∙ ap (λ (n : ℕ). payloads_on pid (take n list)) (let e : length list - 0 ≡ length list = omega arith in e) ∙ ap (payloads_on pid) (take-all list)
    where
      take-all : (xs : List PacketRecord) → take (length xs) xs ≡ xs
      take-all [] = refl
      take-all (x ∷ xs) = ap (λ (ys : List PacketRecord). x ∷ ys) (take-all xs)
