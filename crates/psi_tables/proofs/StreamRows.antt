-- Rows of streams in a program map, and what is kept of them.
use Rattle.std.proofs.Common.{
  ◌≡◌,
  ℕ,
  ◌+◌,
  ◌*◌,
  ◌%◌,
  ◌<◌,
  ◌≤◌,
  List,
  [],
  ◌∷◌,
  ◌++◌,
  All,
  length,
  get_or,
  take,
  drop,
  map,
  refl,
  sym,
  ap,
  ap₂,
  subst,
  ◌∙◌,
  arith,
  length-append,
  length-take,
  length-drop,
}
use Rattle.std.specs.Prelude.{Option, Some}
use Rattle.std.specs.Option.{unwrap_or}
use Rattle.std.specs.List.{sum_by}
use Rattle.std.proofs.lemmas.List.{get_or_append_left, get_or-take, get_or_at, map_push, length-map}
use Rattle.std.proofs.lemmas.List.Elements.{All-push, All-nil}
use Rattle.std.proofs.lemmas.List.Sums.{sum_by_push}
use Rattle.psi_tables.specs.declared.stream.Stream.{Stream}
use Rattle.psi_tables.specs.Section.{IsItemRow}
use Rattle.psi_tables.specs.Descriptors.{IsDescriptor, kept_bytes, count_dropped}
use Rattle.psi_tables.specs.Streams.{StreamInfo, ES_info_length, IsStreamInfo, stream_of}
use Rattle.psi_tables.specs.Private.Streams.{IsKeepable}
use Rattle.psi_tables.proofs.Rows.{IsTold, IsUnderWay, same_parts, same_row, under_way_none, under_way_more, under_way_rest}
use Rattle.psi_tables.proofs.DescriptorRows.{descriptors_told, count_dropped-row}
use Rattle.psi_tables.proofs.Elements.{ES_info_length-is}

-- ---- where a stream ends

-- a stream's length stands in its front
pub info_ends : (f g b d : List ℕ) → f ++ b ≡ g ++ d → length f ≡ 5 + ES_info_length f → length g ≡ 5 + ES_info_length g → length f ≡ length g
info_ends f g b d same first second =
    let left : (n : ℕ) → n < 5 → get_or (f ++ b) n 0 ≡ get_or f n 0 = λ n low. get_or_append_left f b 0 n (omega (arith, first, low)) in
    let right : (n : ℕ) → n < 5 → get_or (g ++ d) n 0 ≡ get_or g n 0 = λ n low. get_or_append_left g d 0 n (omega (arith, second, low)) in
    let three : get_or f 3 0 ≡ get_or g 3 0 = sym (left 3 (omega arith)) ∙ ap (λ (xs : List ℕ). get_or xs 3 0) same ∙ right 3 (omega arith) in
    let four : get_or f 4 0 ≡ get_or g 4 0 = sym (left 4 (omega arith)) ∙ ap (λ (xs : List ℕ). get_or xs 4 0) same ∙ right 4 (omega arith) in
    omega (arith, first, second, three, four, ES_info_length-is f, ES_info_length-is g)

-- bytes that begin with a stream have room for it
pub info_fits : (bytes front behind : List ℕ) → bytes ≡ front ++ behind → length front ≡ 5 + ES_info_length front → 5 + (get_or bytes 3 0 % 16 * 256 + get_or bytes 4 0 % 256) ≤ length bytes
info_fits bytes front behind same is =
    let left : (n : ℕ) → n < 5 → get_or (front ++ behind) n 0 ≡ get_or front n 0 = λ n low. get_or_append_left front behind 0 n (omega (arith, is, low)) in
    let three : get_or bytes 3 0 ≡ get_or front 3 0 = ap (λ (xs : List ℕ). get_or xs 3 0) same ∙ left 3 (omega arith) in
    let four : get_or bytes 4 0 ≡ get_or front 4 0 = ap (λ (xs : List ℕ). get_or xs 4 0) same ∙ left 4 (omega arith) in
    omega (arith, is, three, four, ES_info_length-is front, ap length same, length-append front behind)

-- and bytes with room for it begin with one
pub is_info : (bytes : List ℕ) (n : ℕ) → n ≡ 5 + (get_or bytes 3 0 % 16 * 256 + get_or bytes 4 0 % 256) → n ≤ length bytes → length (take n bytes) ≡ 5 + ES_info_length (take n bytes)
is_info bytes n is fits =
    let three : get_or (take n bytes) 3 0 ≡ get_or bytes 3 0 = get_or-take n bytes 3 0 (omega (arith, is)) in
    let four : get_or (take n bytes) 4 0 ≡ get_or bytes 4 0 = get_or-take n bytes 4 0 (omega (arith, is)) in
    omega (arith, is, three, four, ES_info_length-is (take n bytes), length-take n bytes, fits)

-- ---- rows of streams

one_info : (x y : StreamInfo) (bytes : List ℕ) → IsStreamInfo x bytes → IsStreamInfo y bytes → x ≡ y
one_info x y bytes first second =
    let types : x.stream_type ≡ y.stream_type = first.type_is ∙ sym second.type_is in
    let pids : x.elementary_PID ≡ y.elementary_PID = first.pid ∙ sym second.pid in
    let descriptors : x.descriptors ≡ y.descriptors = same_row IsDescriptor descriptors_told x.descriptors y.descriptors (drop 5 bytes) first.descriptors_are second.descriptors_are in
    ap₂ (λ (t p : ℕ). record { stream_type = t; elementary_PID = p; descriptors = x.descriptors }) types pids
    ∙ ap (λ (ds : List (List ℕ)). record { stream_type = y.stream_type; elementary_PID = y.elementary_PID; descriptors = ds }) descriptors

pub streams_told : IsTold IsStreamInfo
streams_told = record {
  some = λ x front is. omega (arith, is.size);
  ends = λ x y f g b d same first second. info_ends f g b d same first.size second.size;
  one = one_info;
}

-- the rest of a row begins with a stream, where there is a rest
pub next_info : (bytes rest : List ℕ) (done xs : List StreamInfo) → IsUnderWay IsStreamInfo bytes rest done → IsItemRow IsStreamInfo xs bytes
    → 0 < length rest → (front : List ℕ) × (behind : List ℕ) × (rest ≡ front ++ behind) × (info : StreamInfo) × IsStreamInfo info front
    × (ys : List StreamInfo) × (xs ≡ done ++ info ∷ ys)
next_info bytes rest done xs is row more = by_rest (under_way_rest IsStreamInfo streams_told bytes rest done xs is row)
  where
    by_rest : (ys : List StreamInfo) × (xs ≡ done ++ ys) × IsItemRow IsStreamInfo ys rest → (front : List ℕ) × (behind : List ℕ)
        × (rest ≡ front ++ behind) × (info : StreamInfo) × IsStreamInfo info front × (ys : List StreamInfo) × (xs ≡ done ++ info ∷ ys)
    by_rest ([], same, none) = absurd (omega (arith, more, ap length none))
    by_rest (y ∷ ys, same, found) = (found.0, found.1, found.2, y, found.3, ys, same)

-- it is the stream of the bytes that were split off
pub next_info_of : (bytes rest front behind : List ℕ) (done xs : List StreamInfo) → IsUnderWay IsStreamInfo bytes rest done
    → IsItemRow IsStreamInfo xs bytes → rest ≡ front ++ behind → length front ≡ 5 + ES_info_length front → (info : StreamInfo)
    × IsStreamInfo info front × (ys : List StreamInfo) × (xs ≡ done ++ info ∷ ys)
next_info_of bytes rest front behind done xs is row split size =
    let next = next_info bytes rest done xs is row (omega (arith, ap length split, length-append front behind, size)) in
    let parts = same_parts next.0 front next.1 behind (sym next.2 ∙ split) (info_ends next.0 front next.1 behind (sym next.2 ∙ split) next.4.size size) in
    (next.3, subst (IsStreamInfo next.3) parts.0 next.4, next.5, next.6)

-- ---- the loop over streams

-- so far: what was taken is kept and counted, and there is room for it
pub record HasReadStreams (bytes rest : List ℕ) (streams : List Stream) (dropped : ℕ) : Type 0 where
  pub done : List StreamInfo
  pub under_way : IsUnderWay IsStreamInfo bytes rest done
  pub streams_are : streams ≡ map stream_of done
  pub dropped_is : dropped ≡ sum_by (λ info. count_dropped info.descriptors) done
  pub keepable : All IsKeepable done
  pub count : length done ≤ 64
  pub few : dropped + length rest ≤ length bytes

pub streams_none : (bytes : List ℕ) → HasReadStreams bytes bytes [] 0
streams_none bytes = record {
  done = [];
  under_way = under_way_none IsStreamInfo bytes;
  streams_are = refl;
  dropped_is = refl;
  keepable = All-nil IsKeepable;
  count = omega arith;
  few = omega arith;
}

pub streams_more : (bytes rest : List ℕ) (streams : List Stream) (dropped : ℕ) (front behind : List ℕ) (info : StreamInfo)
    → HasReadStreams bytes rest streams dropped → rest ≡ front ++ behind → IsStreamInfo info front → IsKeepable info → length streams < 64
    → HasReadStreams bytes behind (streams ++ stream_of info ∷ []) (dropped + count_dropped info.descriptors)
streams_more bytes rest streams dropped front behind info read split is keeps room = record {
  done = read.done ++ info ∷ [];
  under_way = under_way_more IsStreamInfo bytes rest read.done info front behind read.under_way split is;
  streams_are = ap (λ (xs : List Stream). xs ++ stream_of info ∷ []) read.streams_are ∙ sym (map_push stream_of read.done info);
  dropped_is = omega (arith, read.dropped_is, sum_by_push (λ i. count_dropped i.descriptors) read.done info);
  keepable = All-push IsKeepable read.done info read.keepable keeps;
  count = omega (arith, length-append read.done (info ∷ []), ap length read.streams_are, length-map read.done stream_of, room);
  few = omega (arith, read.few, ap length split, length-append front behind, is.size, count_dropped-row info.descriptors (drop 5 front) is.descriptors_are, length-drop 5 front);
}

-- one of the streams that fit fits
pub keepable_at : (done ys : List StreamInfo) (info : StreamInfo) → All IsKeepable (done ++ info ∷ ys) → IsKeepable info
keepable_at done ys info all = subst IsKeepable (get_or_at done info ys info (length done) refl) (all (length done) info (omega (arith, length-append done (info ∷ ys))))

-- the parts of a pair that is there
pub same_pair : {A B : Type 0} (a c : A) (b d : B) → ◌≡◌ {A = Option (A × B)} (Some (a, b)) (Some (c, d)) → (a ≡ c) × (b ≡ d)
same_pair {A} {B} a c b d same = (ap (λ (o : Option (A × B)). (unwrap_or o (a, b)).0) same, ap (λ (o : Option (A × B)). (unwrap_or o (a, b)).1) same)

-- a stream by its fields
pub stream_is : (stream : Stream) (dropped : ℕ) (info : StreamInfo) → stream.kind ≡ info.stream_type → stream.pid ≡ info.elementary_PID
    → stream.descriptors.items ≡ kept_bytes info.descriptors → dropped ≡ count_dropped info.descriptors
    → ◌≡◌ {A = Option (Stream × ℕ)} (Some (stream, dropped)) (Some (stream_of info, count_dropped info.descriptors))
stream_is stream dropped info kinds pids descriptors counts =
    ap₂ (λ (k p : ℕ). Some (record { kind = k; pid = p; descriptors = stream.descriptors }, dropped)) kinds pids
    ∙ ap₂ (λ (xs : List ℕ) (n : ℕ). Some (record { kind = info.stream_type; pid = info.elementary_PID; descriptors = record { items = xs } }, n)) descriptors counts
