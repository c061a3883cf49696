-- What packets carry, and what is the last of them, one packet further.
use Rattle.std.proofs.Common.{
  ◌≡◌,
  ℕ,
  ◌+◌,
  ◌<◌,
  ◌≤◌,
  Bool,
  true,
  false,
  not,
  cond,
  ◌&&◌,
  nat_lt,
  ◌==◌,
  List,
  [],
  ◌∷◌,
  ◌++◌,
  length,
  drop,
  map,
  filter,
  Option,
  Some,
  None,
  Result,
  Ok,
  Err,
  IfOk,
  IfSome,
  refl,
  sym,
  ap,
  ◌∙◌,
  subst,
  arith,
  length-drop,
}
use Rattle.std.specs.Str.{bytes_eq}
use Rattle.std.proofs.lemmas.Bool.{and_from, eq-eqb}
use Rattle.std.proofs.lemmas.Slice.Eq.{bytes_eq-Decides}
use Rattle.std.proofs.lemmas.Bool.Decides.{nat_tests}
use Rattle.std.specs.List.{filter_map, cons_option, last_or}
use Rattle.std.specs.Option.{option_map, option_map_or}
use Rattle.std.proofs.lemmas.List.{map-append, append-nil}
use Rattle.std.proofs.lemmas.List.Elements.{filter-append, filter_map-append}
use Rattle.bit_lists.specs.Payload.{CarriedPayload}
use Rattle.ts_packets.specs.declared.packet.Packet.{Packet}
use Rattle.ts_packets.specs.declared.pid_reader.PidReader.{PidReader}
use Rattle.ts_packets.specs.Packet.{PacketRecord, record_of, packet_of, IsPacket, has_field, adaptation_field_length}
use Rattle.ts_packets.specs.TransportStream.{Piece}
use Rattle.ts_packets.specs.Carried.{PlacedPacket, placed, has_payload, payload_packets, is_repeat, not_repeated, without_repeats, carried_by, carried, last_payload}
use Rattle.ts_packets.specs.LastPayload.{Numbered, numbered}
use Rattle.ts_packets.specs.PidReader.{is_none_there, IsBehind, carried_at}
use Rattle.ts_packets.specs.Private.PidReader.{repeats, taken_packet}

pub payload_packets-append : (xs ys : List Piece) → payload_packets (xs ++ ys) ≡ payload_packets xs ++ payload_packets ys
payload_packets-append xs ys = ap (filter has_payload) (filter_map-append placed xs ys) ∙ filter-append has_payload (filter_map placed xs) (filter_map placed ys)

-- a packet at a place
abbrev pub placed_at : ℕ → PacketRecord → PlacedPacket
placed_at at packet = record { at = at; packet = packet }

-- ---- the last one

last_of : PlacedPacket → List PlacedPacket → PlacedPacket
last_of before [] = before
last_of before (x ∷ xs) = last_of x xs

last_is : (before : PlacedPacket) (xs : List PlacedPacket) → last_or (Some before) xs ≡ Some (last_of before xs)
unfolding last_of
last_is before [] = refl
last_is before (x ∷ xs) = last_is x xs

pub last-append : (o : Option PlacedPacket) (xs : List PlacedPacket) (x : PlacedPacket) → last_or o (xs ++ x ∷ []) ≡ Some x
last-append o [] x = refl
last-append o (y ∷ xs) x = last-append (Some y) xs x

-- ---- repeats

is_again : Option PlacedPacket → PlacedPacket → Bool
is_again last x = option_map_or (λ (before : PlacedPacket). is_repeat x.packet before.packet) last false

not_repeated-append : (before : PlacedPacket) (xs : List PlacedPacket) (x : PlacedPacket)
    → not_repeated before (xs ++ x ∷ []) ≡ not_repeated before xs ++ cond (is_repeat x.packet (last_of before xs).packet) [] (x ∷ [])
unfolding last_of
not_repeated-append before [] x = refl
not_repeated-append before (y ∷ xs) x = by_test (is_repeat y.packet before.packet) (not_repeated-append y xs x)
  where
    by_test : (again : Bool) → not_repeated y (xs ++ x ∷ []) ≡ not_repeated y xs ++ cond (is_repeat x.packet (last_of y xs).packet) [] (x ∷ [])
        → cond again (not_repeated y (xs ++ x ∷ [])) (y ∷ not_repeated y (xs ++ x ∷ [])) ≡ cond again (not_repeated y xs) (y ∷ not_repeated y xs)
        ++ cond (is_repeat x.packet (last_of y xs).packet) [] (x ∷ [])
    by_test true same = same
    by_test false same = ap (λ (zs : List PlacedPacket). y ∷ zs) same

without-append : (xs : List PlacedPacket) (x : PlacedPacket) → without_repeats (xs ++ x ∷ []) ≡ without_repeats xs ++ cond (is_again (last_or None xs) x) [] (x ∷ [])
unfolding is_again
without-append [] x = refl
without-append (y ∷ xs) x =
    ap (λ (zs : List PlacedPacket). y ∷ zs) (not_repeated-append y xs x)
    ∙ ap (λ (last : Option PlacedPacket). (y ∷ not_repeated y xs) ++ cond (is_again last x) [] (x ∷ [])) (sym (last_is y xs))

-- ---- one piece more

-- a piece that is no packet, or one without payload, carries nothing
pub carried_nothing : (before : List Piece) (piece : Piece) → payload_packets (piece ∷ []) ≡ [] → (carried (before ++ piece ∷ []) ≡ carried before)
    × (last_payload (before ++ piece ∷ []) ≡ last_payload before)
carried_nothing before piece none =
    let same : payload_packets (before ++ piece ∷ []) ≡ payload_packets before =
    payload_packets-append before (piece ∷ []) ∙ ap (λ (more : List PlacedPacket). payload_packets before ++ more) none ∙ append-nil (payload_packets before) in
    (ap (λ (packets : List PlacedPacket). map carried_by (without_repeats packets)) same, ap (last_or None) same)

pub carried_more : (before : List Piece) (piece : Piece) (x : PlacedPacket) → payload_packets (piece ∷ []) ≡ x ∷ []
    → (carried (before ++ piece ∷ []) ≡ carried before ++ map carried_by
    (cond (option_map_or (λ (last : PlacedPacket). is_repeat x.packet last.packet) (last_payload before) false) [] (x ∷ [])))
    × (last_payload (before ++ piece ∷ []) ≡ Some x)
unfolding is_again
carried_more before piece x one =
    let more : payload_packets (before ++ piece ∷ []) ≡ payload_packets before ++ x ∷ [] =
    payload_packets-append before (piece ∷ []) ∙ ap (λ (packets : List PlacedPacket). payload_packets before ++ packets) one in (
      ap (λ (packets : List PlacedPacket). map carried_by (without_repeats packets)) more
          ∙ ap (map carried_by) (without-append (payload_packets before) x)
          ∙ map-append carried_by (without_repeats (payload_packets before)) (cond (is_again (last_or None (payload_packets before)) x) [] (x ∷ [])),
      ap (last_or None) more ∙ last-append None (payload_packets before) x,
    )

-- ---- a piece by its packet

pub packets_none : (piece : Piece) → packet_of piece.bytes ≡ None → payload_packets (piece ∷ []) ≡ []
packets_none piece none = ap (λ (found : Option PacketRecord). filter has_payload (cons_option (option_map (λ (packet : PacketRecord). placed_at piece.at packet) found) [])) none

pub packets_one : (piece : Piece) (packet : PacketRecord) → packet_of piece.bytes ≡ Some packet
    → payload_packets (piece ∷ []) ≡ cond (nat_lt 0 (length packet.payload)) (placed_at piece.at packet ∷ []) []
packets_one piece packet is = ap (λ (found : Option PacketRecord). filter has_payload (cons_option (option_map (λ (packet : PacketRecord). placed_at piece.at packet) found) [])) is

some_there : (before : List Piece) (piece : Piece) → is_none_there (before ++ piece ∷ []) ≡ false
some_there [] piece = refl
some_there (_ ∷ _) piece = refl

-- a reader behind a piece that carries nothing
pub behind_nothing : (before : List Piece) (piece : Piece) (reader next : PidReader) → IsBehind before reader → payload_packets (piece ∷ []) ≡ []
    → next.is_first ≡ false → next.last ≡ reader.last → IsBehind (before ++ piece ∷ []) next
behind_nothing before piece reader next behind none first last = record {
  first = first ∙ sym (some_there before piece);
  last = last ∙ behind.last ∙ sym (ap (option_map (λ (placed : PlacedPacket). numbered placed.packet)) (carried_nothing before piece none).1);
}

-- a reader behind a packet with payload
pub behind_packet : (before : List Piece) (piece : Piece) (packet : PacketRecord) (next : PidReader)
    → payload_packets (piece ∷ []) ≡ placed_at piece.at packet ∷ [] → next.is_first ≡ false → next.last ≡ Some (numbered packet)
    → IsBehind (before ++ piece ∷ []) next
behind_packet before piece packet next one first last = record {
  first = first ∙ sym (some_there before piece);
  last = last ∙ sym (ap (option_map (λ (placed : PlacedPacket). numbered placed.packet)) (carried_more before piece (placed_at piece.at packet) one).1);
}

abbrev carried_of : ℕ → Option PacketRecord → List CarriedPayload
carried_of at None = []
carried_of at (Some packet) = carried_by (placed_at at packet) ∷ []

carried_at-is : (at : ℕ) (taken : Option Packet) → carried_at at taken ≡ carried_of at (option_map record_of taken)
carried_at-is at None = refl
carried_at-is at (Some packet) = refl

repeat_of : (packet : PacketRecord) (last : Option PlacedPacket)
    → option_map_or (repeats packet) (option_map (λ (p : PlacedPacket). numbered p.packet) last) false
    ≡ option_map_or (λ (p : PlacedPacket). is_repeat packet p.packet) last false
repeat_of packet None = refl
repeat_of packet (Some p) = refl

-- what is taken of a packet is what it adds to what is carried
pub carried_taken : (before : List Piece) (piece : Piece) (packet : PacketRecord) (last : Option Numbered) (taken : Option Packet)
    → packet_of piece.bytes ≡ Some packet → last ≡ option_map (λ (p : PlacedPacket). numbered p.packet) (last_payload before)
    → option_map record_of taken ≡ taken_packet packet last → carried (before ++ piece ∷ []) ≡ carried before ++ carried_at piece.at taken
carried_taken before piece packet last taken is last_is taken_is =
    by_payload (nat_lt 0 (length packet.payload)) refl (option_map_or (λ (p : PlacedPacket). is_repeat packet p.packet) (last_payload before) false) refl
  where
    again_is : option_map_or (repeats packet) last false ≡ option_map_or (λ (p : PlacedPacket). is_repeat packet p.packet) (last_payload before) false
    again_is = ap (λ (last : Option Numbered). option_map_or (repeats packet) last false) last_is ∙ repeat_of packet (last_payload before)

    taken_of : (some again : Bool) → nat_lt 0 (length packet.payload) ≡ some
        → option_map_or (λ (p : PlacedPacket). is_repeat packet p.packet) (last_payload before) false ≡ again
        → carried_at piece.at taken ≡ carried_of piece.at (cond (some && not again) (Some packet) None)
    taken_of some again some_is again' =
        carried_at-is piece.at taken ∙ ap (carried_of piece.at)
        (taken_is ∙ ap (λ (b : Bool). cond (nat_lt 0 (length packet.payload) && not b) (Some packet) None) (again_is ∙ again')
        ∙ ap (λ (b : Bool). cond (b && not again) (Some packet) None) some_is)

    by_again : (again : Bool) → carried before ++ map carried_by (cond again [] (placed_at piece.at packet ∷ [])) ≡ carried before ++ carried_of piece.at (cond (true && not again) (Some packet) None)
    by_again true = refl
    by_again false = refl

    by_payload : (some : Bool) → nat_lt 0 (length packet.payload) ≡ some → (again : Bool)
        → option_map_or (λ (p : PlacedPacket). is_repeat packet p.packet) (last_payload before) false ≡ again
        → carried (before ++ piece ∷ []) ≡ carried before ++ carried_at piece.at taken
    by_payload false some_is again again_is =
        (carried_nothing before piece (packets_one piece packet is ∙ ap (λ (b : Bool). cond b (placed_at piece.at packet ∷ []) []) some_is)).0
        ∙ sym (ap (λ (more : List CarriedPayload). carried before ++ more) (taken_of false again some_is again_is) ∙ append-nil (carried before))
    by_payload true some_is again again_is =
        (carried_more before piece (placed_at piece.at packet) (packets_one piece packet is ∙ ap (λ (b : Bool). cond b (placed_at piece.at packet ∷ []) []) some_is)).0
        ∙ ap (λ (b : Bool). carried before ++ map carried_by (cond b [] (placed_at piece.at packet ∷ []))) again_is
        ∙ by_again again
        ∙ sym (ap (λ (more : List CarriedPayload). carried before ++ more) (taken_of true again some_is again_is))

-- payload stands, or none, by its length
pub some_payload : (n : ℕ) → (n == 0) ≡ false → nat_lt 0 n ≡ true
some_payload n some = grind (arith, nat_tests)

pub no_payload : (n : ℕ) → (n == 0) ≡ true → nat_lt 0 n ≡ false
no_payload n none = grind (arith, nat_tests)

-- what holds of an answer, by what holds of it
pub if_ok : {E : Type 0} (P Q : Option Packet → Type 0) (result : Result (Option Packet) E) → ((taken : Option Packet) → P taken → Q taken) → IfOk result P → IfOk result Q
if_ok P Q (Ok taken) step is = step taken is
if_ok P Q (Err fault) step is = is

-- ---- how much a packet carries

-- a packet's payload is what the header leaves at most
pub payload_size : (packet : PacketRecord) (bytes : List ℕ) → IsPacket packet bytes → length packet.payload ≤ 184
payload_size packet bytes is = subst (λ (p : PacketRecord). length p.payload ≤ 184) (sym is.fields) (by_field (has_field bytes) (adaptation_field_length bytes) is.size)
  where
    by_field : (some : Bool) (n : ℕ) → length bytes ≡ 188 → length (cond some (drop (5 + n) bytes) (drop 4 bytes)) ≤ 184
    by_field true n size = omega (arith, length-drop (5 + n) bytes)
    by_field false n size = omega (arith, length-drop 4 bytes)

-- what is taken has some payload, and no more than that
pub taken_fits : (packet : PacketRecord) (last : Option Numbered) (taken : Option Packet) → length packet.payload ≤ 184
    → option_map record_of taken ≡ taken_packet packet last → IfSome taken (λ (p : Packet). (0 < length p.payload.now) × (length p.payload.now ≤ 184))
taken_fits packet last None size is = tt
taken_fits packet last (Some p) size is = by_test (nat_lt 0 (length packet.payload)) refl (not (option_map_or (repeats packet) last false)) is
  where
    by_test : (some : Bool) → nat_lt 0 (length packet.payload) ≡ some → (new : Bool) → Some (record_of p) ≡ cond (some && new) (Some packet) None
        → (0 < length p.payload.now) × (length p.payload.now ≤ 184)
    by_test true some_is true e =
        let same : record_of p ≡ packet = cc in
        let count : length p.payload.now ≡ length packet.payload = ap (λ (r : PacketRecord). length r.payload) same in
        let some : 0 < length packet.payload = grind (arith, nat_tests) in
        (omega arith, omega arith)
    by_test true some_is false e = absurd cc
    by_test false some_is new e = absurd cc

-- ---- a packet that comes again

not_repeated-same : (a b : PlacedPacket) (ys : List PlacedPacket) → a.packet ≡ b.packet → not_repeated a ys ≡ not_repeated b ys
not_repeated-same a b [] same = refl
not_repeated-same a b (y ∷ ys) same = ap (λ (packet : PacketRecord). cond (is_repeat y.packet packet) (not_repeated y ys) (y ∷ not_repeated y ys)) same

repeats_itself : (packet : PacketRecord) → is_repeat packet packet ≡ true
repeats_itself packet = and_from (packet.counter == packet.counter) (bytes_eq packet.payload packet.payload)
    (eq-eqb packet.counter packet.counter refl) ((bytes_eq-Decides packet.payload packet.payload).1 refl)

again_from : (x y : PlacedPacket) (ys : List PlacedPacket) → y.packet ≡ x.packet → not_repeated x (y ∷ ys) ≡ not_repeated x ys
again_from x y ys same =
    let again : is_repeat y.packet x.packet ≡ true = ap (λ (packet : PacketRecord). is_repeat packet x.packet) same ∙ repeats_itself x.packet in
    rw again (not_repeated-same y x ys same)

again_behind : (before x y : PlacedPacket) (xs ys : List PlacedPacket) → y.packet ≡ x.packet → not_repeated before (xs ++ x ∷ y ∷ ys) ≡ not_repeated before (xs ++ x ∷ ys)
again_behind before x y [] ys same = ap (λ (zs : List PlacedPacket). cond (is_repeat x.packet before.packet) zs (x ∷ zs)) (again_from x y ys same)
again_behind before x y (z ∷ xs) ys same = ap (λ (zs : List PlacedPacket). cond (is_repeat z.packet before.packet) zs (z ∷ zs)) (again_behind z x y xs ys same)

again_in : (xs : List PlacedPacket) (x y : PlacedPacket) (ys : List PlacedPacket) → y.packet ≡ x.packet → without_repeats (xs ++ x ∷ y ∷ ys) ≡ without_repeats (xs ++ x ∷ ys)
again_in [] x y ys same = ap (λ (zs : List PlacedPacket). x ∷ zs) (again_from x y ys same)
again_in (z ∷ xs) x y ys same = ap (λ (zs : List PlacedPacket). z ∷ zs) (again_behind z x y xs ys same)

-- a packet that is sent twice, one behind the other, carries its payload once
pub sent_twice : (before after : List Piece) (first second : Piece) (packet : PacketRecord) → packet_of first.bytes ≡ Some packet
    → packet_of second.bytes ≡ Some packet → carried (before ++ first ∷ second ∷ after) ≡ carried (before ++ first ∷ after)
sent_twice before after first second packet first_is second_is =
    ap (λ (packets : List PlacedPacket). map carried_by (without_repeats packets))
    (payload_packets-append before (first ∷ second ∷ after)
    ∙ ap (λ (more : List PlacedPacket). payload_packets before ++ more)
    (payload_packets-append (first ∷ []) (second ∷ after)
    ∙ ap (λ (more : List PlacedPacket). payload_packets (first ∷ []) ++ more) (payload_packets-append (second ∷ []) after)))
    ∙ by_payload (nat_lt 0 (length packet.payload)) (packets_one first packet first_is) (packets_one second packet second_is)
    ∙ ap (λ (packets : List PlacedPacket). map carried_by (without_repeats packets))
    (sym (payload_packets-append before (first ∷ after) ∙ ap (λ (more : List PlacedPacket). payload_packets before ++ more) (payload_packets-append (first ∷ []) after)))
  where
    by_payload : (some : Bool) → payload_packets (first ∷ []) ≡ cond some (placed_at first.at packet ∷ []) [] → payload_packets (second ∷ []) ≡ cond some (placed_at second.at packet ∷ []) [] →
        map carried_by (without_repeats (payload_packets before
        ++ (payload_packets (first ∷ []) ++ (payload_packets (second ∷ []) ++ payload_packets after))))
        ≡ map carried_by (without_repeats (payload_packets before ++ (payload_packets (first ∷ []) ++ payload_packets after)))
    by_payload true one two = rw (one, two) (ap (map carried_by) (again_in (payload_packets before) (placed_at first.at packet) (placed_at second.at packet) (payload_packets after) refl))
    by_payload false one two = rw (one, two) refl
