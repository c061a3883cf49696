-- Streams with their packets, one element further.
use Rattle.std.proofs.Common.{◌≡◌, ℕ, zero, suc, ◌+◌, ◌<◌, ◌==◌, Bool, true, false, cond, ◌||◌, List, [], ◌∷◌, ◌++◌, length, map, take, set, get_or, slice_get, Some, refl, sym, ap, ◌∙◌, subst, arith}
use Rattle.std.proofs.lemmas.Bool.{or_parts}
use Rattle.std.proofs.lemmas.List.{map-append}
use Rattle.std.proofs.lemmas.List.Folds.{list_any-append}
use Rattle.ts_demux.specs.declared.demuxed.AudioStream.{AudioStream}
use Rattle.ts_demux.specs.declared.demuxed.PesUnit.{PesUnit}
use Rattle.ts_demux.specs.Streams.{is_among}
use Rattle.program_stream.specs.declared.packet_streams.PacketStreams.{PacketStreams}
use Rattle.program_stream.specs.Elements.{Element, element_bytes, all_spelled}
use Rattle.program_stream.specs.Streams.{packets_of, stream_with_id}
use Rattle.program_stream.specs.Private.Walks.{with_id, stream_ids, AreApart, HaveTheirPackets, Holds}
use Rattle.program_stream.proofs.Packets.{same_number, packets_of-own, packets_of-other, not_same, among_at}

-- the stream of another id
same_stream : (elements : List Element) (element : Element) (stream : AudioStream) → (element.id == stream.pid) ≡ false →
    stream ≡ stream_with_id elements stream.pid → stream ≡ stream_with_id (elements ++ element ∷ []) stream.pid
same_stream elements element stream other is =
    is ∙ ap (λ (units : List PesUnit). record { pid = stream.pid; units = units }) (sym (packets_of-other elements element stream.pid other))

flip : (a b : ℕ) → (a == b) ≡ false → (b == a) ≡ false
flip a b is = by_test (b == a) refl
  where
    by_test : (test : Bool) → (b == a) ≡ test → test ≡ false
    by_test true same = (let one : b ≡ a = same_number b a same in let both : (a == a) ≡ false = subst (λ (n : ℕ). (a == n) ≡ false) one is in absurd cc)
    by_test false same = refl

-- an element of none of them changes none
pub others_hold : (elements : List Element) (element : Element) (streams : List AudioStream) → is_among (stream_ids streams) element.id ≡ false →
    HaveTheirPackets elements streams → HaveTheirPackets (elements ++ element ∷ []) streams
others_hold elements element [] none have = tt
others_hold elements element (s ∷ streams) none have =
    let parts = or_parts (s.pid == element.id) (is_among (stream_ids streams) element.id) none in
    (same_stream elements element s (flip s.pid element.id parts.0) have.0, others_hold elements element streams parts.1 have.1)

pub holds-other : (elements : List Element) (element : Element) (ids : List ℕ) (held : PacketStreams) → is_among ids element.id ≡ false →
    Holds elements ids held → Holds (elements ++ element ∷ []) ids held
holds-other elements element ids held none holds = record {
  ids_are = holds.ids_are;
  apart = holds.apart;
  each = others_hold elements element held.streams.items (ap (λ (xs : List ℕ). is_among xs element.id) holds.ids_are ∙ none) holds.each;
}

-- ---- one packet more of a stream that is there

-- the stream with it
abbrev pub with_unit : AudioStream → PesUnit → AudioStream
with_unit stream unit = record { pid = stream.pid; units = stream.units ++ unit ∷ [] }

own_stream : (elements : List Element) (element : Element) (at : ℕ) (stream : AudioStream) → at ≡ length (all_spelled elements) + element.zeros → stream.pid ≡ element.id →
    stream ≡ stream_with_id elements stream.pid → with_unit stream (record { at = at; bytes = element_bytes element }) ≡ stream_with_id (elements ++ element ∷ []) stream.pid
own_stream elements element at stream place same is =
    let unit : PesUnit = record { at = at; bytes = element_bytes element } in
    let units_are : stream.units ≡ packets_of elements element.id = ap (λ (s : AudioStream). s.units) is ∙ ap (packets_of elements) same in
    let longer : stream.units ++ unit ∷ [] ≡ packets_of (elements ++ element ∷ []) stream.pid =
    ap (λ (units : List PesUnit). units ++ unit ∷ []) units_are ∙ sym (packets_of-own elements element at place) ∙ ap (packets_of (elements ++ element ∷ [])) (sym same) in
    ap (λ (units : List PesUnit). record { pid = stream.pid; units = units }) longer

pub ids_same : (streams : List AudioStream) (k : ℕ) (d : AudioStream) (unit : PesUnit) → stream_ids (set streams k (with_unit (get_or streams k d) unit)) ≡ stream_ids streams
ids_same [] k d unit = refl
ids_same (s ∷ streams) zero d unit = refl
ids_same (s ∷ streams) (suc k) d unit = ap (λ (xs : List ℕ). s.pid ∷ xs) (ids_same streams k d unit)

one_holds : (elements : List Element) (element : Element) (at : ℕ) (streams : List AudioStream) (k : ℕ) (d : AudioStream) → at ≡ length (all_spelled elements) + element.zeros →
    slice_get (stream_ids streams) k ≡ Some element.id → AreApart (stream_ids streams) → HaveTheirPackets elements streams →
    HaveTheirPackets (elements ++ element ∷ []) (set streams k (with_unit (get_or streams k d) (record { at = at; bytes = element_bytes element })))
one_holds elements element at [] k d place there apart have = absurd cc
one_holds elements element at (s ∷ streams) zero d place there apart have =
    let same : s.pid ≡ element.id = cc in
    (own_stream elements element at s place same have.0, others_hold elements element streams (subst (λ (n : ℕ). is_among (stream_ids streams) n ≡ false) same apart.0) have.1)
one_holds elements element at (s ∷ streams) (suc k) d place there apart have =
    let other : (s.pid == element.id) ≡ false = not_same (stream_ids streams) s.pid element.id apart.0 (among_at (stream_ids streams) k element.id there) in
    (same_stream elements element s (flip s.pid element.id other) have.0, one_holds elements element at streams k d place there apart.1 have.1)

pub holds-added : (elements : List Element) (element : Element) (at id : ℕ) (ids : List ℕ) (held after : PacketStreams) (k : ℕ) (d : AudioStream) → at ≡ length (all_spelled elements) + element.zeros →
    id ≡ element.id → slice_get (stream_ids held.streams.items) k ≡ Some id → Holds elements ids held →
    after.streams.items ≡ set held.streams.items k (with_unit (get_or held.streams.items k d) (record { at = at; bytes = element_bytes element })) →
    Holds (elements ++ element ∷ []) (with_id ids id) after
holds-added elements element at id ids held after k d place same there holds after_is =
    let unit : PesUnit = record { at = at; bytes = element_bytes element } in
    let some : is_among ids id ≡ true = ap (λ (xs : List ℕ). is_among xs id) (sym holds.ids_are) ∙ among_at (stream_ids held.streams.items) k id there in
    let stays : with_id ids id ≡ ids = ap (λ (b : Bool). cond b ids (ids ++ id ∷ [])) some in
    subst (λ (xs : List ℕ). Holds (elements ++ element ∷ []) xs after) (sym stays)
    (record {
      ids_are = ap stream_ids after_is ∙ ids_same held.streams.items k d unit ∙ holds.ids_are;
      apart = holds.apart;
      each = subst (HaveTheirPackets (elements ++ element ∷ [])) (sym after_is)
          (one_holds elements element at held.streams.items k d place (there ∙ ap Some same) (subst AreApart (sym holds.ids_are) holds.apart) holds.each);
    })

-- ---- the first packet of a stream that is new

apart-more : (ids : List ℕ) (id : ℕ) → AreApart ids → is_among ids id ≡ false → AreApart (ids ++ id ∷ [])
apart-more [] id apart none = (refl, tt)
apart-more (x ∷ ids) id apart none =
    let parts = or_parts (x == id) (is_among ids id) none in
    (list_any-append (λ (n : ℕ). n == x) ids (id ∷ []) ∙ ap (λ (b : Bool). b || is_among (id ∷ []) x) apart.0 ∙ ap (λ (b : Bool). b || false) (flip x id parts.0), apart-more ids id apart.1 parts.1)

have-more : (elements : List Element) (streams : List AudioStream) (s : AudioStream) → HaveTheirPackets elements streams → s ≡ stream_with_id elements s.pid → HaveTheirPackets elements (streams ++ s ∷ [])
have-more elements [] s have is = (is, tt)
have-more elements (x ∷ streams) s have is = (have.0, have-more elements streams s have.1 is)

pub holds-begun : (elements : List Element) (element : Element) (at id : ℕ) (ids : List ℕ) (held after : PacketStreams) → at ≡ length (all_spelled elements) + element.zeros →
    id ≡ element.id → is_among (stream_ids held.streams.items) id ≡ false → packets_of elements id ≡ [] → Holds elements ids held →
    after.streams.items ≡ held.streams.items ++ record { pid = id; units = record { at = at; bytes = element_bytes element } ∷ [] } ∷ [] →
    Holds (elements ++ element ∷ []) (with_id ids id) after
holds-begun elements element at id ids held after place same none no_packets holds after_is =
    let unit : PesUnit = record { at = at; bytes = element_bytes element } in
    let new : AudioStream = record { pid = id; units = unit ∷ [] } in
    let none_there : is_among ids id ≡ false = ap (λ (xs : List ℕ). is_among xs id) (sym holds.ids_are) ∙ none in
    let longer : with_id ids id ≡ ids ++ id ∷ [] = ap (λ (b : Bool). cond b ids (ids ++ id ∷ [])) none_there in
    let units_are : unit ∷ [] ≡ packets_of (elements ++ element ∷ []) id =
    ap (λ (units : List PesUnit). units ++ unit ∷ []) (sym no_packets ∙ ap (packets_of elements) same) ∙ sym (packets_of-own elements element at place) ∙ ap (packets_of (elements ++ element ∷ [])) (sym same) in
    subst (λ (xs : List ℕ). Holds (elements ++ element ∷ []) xs after) (sym longer)
    (record {
      ids_are = ap stream_ids after_is ∙ map-append (λ (s : AudioStream). s.pid) held.streams.items (new ∷ []) ∙ ap (λ (xs : List ℕ). xs ++ id ∷ []) holds.ids_are;
      apart = apart-more ids id holds.apart none_there;
      each = subst (HaveTheirPackets (elements ++ element ∷ [])) (sym after_is)
          (have-more (elements ++ element ∷ []) held.streams.items new
          (others_hold elements element held.streams.items (subst (λ (n : ℕ). is_among (stream_ids held.streams.items) n ≡ false) same none) holds.each)
          (ap (λ (units : List PesUnit). record { pid = id; units = units }) units_are));
    })

-- ---- all streams at the end

pub streams_are : (elements : List Element) (streams : List AudioStream) → HaveTheirPackets elements streams → streams ≡ map (stream_with_id elements) (stream_ids streams)
streams_are elements [] have = refl
streams_are elements (s ∷ streams) have =
    ap (λ (x : AudioStream). x ∷ streams) have.0 ∙ ap (λ (xs : List AudioStream). stream_with_id elements s.pid ∷ xs) (streams_are elements streams have.1)

-- an id that isn't among those of the first streams, nor that of the next one
pub none_more : (streams : List AudioStream) (k id : ℕ) (d : AudioStream) → k < length streams → ((get_or streams k d).pid == id) ≡ false →
    is_among (take k (stream_ids streams)) id ≡ false → is_among (take (k + 1) (stream_ids streams)) id ≡ false
none_more [] k id d within other none = absurd (omega arith)
none_more (s ∷ streams) zero id d within other none = ap (λ (b : Bool). b || false) other
none_more (s ∷ streams) (suc k) id d within other none =
    let parts = or_parts (s.pid == id) (is_among (take k (stream_ids streams)) id) none in
    ap (λ (n : ℕ). is_among (take n (s.pid ∷ stream_ids streams)) id) (later k) ∙ ap (λ (b : Bool). b || is_among (take (k + 1) (stream_ids streams)) id) parts.0
    ∙ none_more streams k id d (omega arith) other parts.1
  where
    later : (n : ℕ) → suc n + 1 ≡ suc (n + 1)
    later n = omega arith
