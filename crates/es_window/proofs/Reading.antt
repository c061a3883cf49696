-- The bytes of a stream that have come, a PES packet further, and what a part of them is.
use Rattle.std.proofs.Common.{◌≡◌, ℕ, ◌+◌, ◌-◌, ◌^◌, ◌<◌, ◌≤◌, Bool, true, false, not, List, [], ◌∷◌, ◌++◌, length, take, drop, slice_get, Option, Some, None, IfSome}
use Rattle.std.proofs.Common.{sym, ap, ◌∙◌, subst, arith, length-append, length-drop}
use Rattle.std.specs.Option.{option_to_list}
use Rattle.std.proofs.lemmas.List.{append-nil, drop-append-le, drop-drop, length-take-le, take-append-le}
use Rattle.std.proofs.lemmas.List.Sums.{sum_by-append, sum_by-cons}
use Rattle.std.proofs.lemmas.Grind.{flat_map-append}
use Rattle.std.proofs.lemmas.Option.{same_Some}
use Rattle.pes_units.specs.PesHeader.{header_length}
use Rattle.ts_packets.specs.TransportStream.{piece_count}
use Rattle.ts_demux.specs.declared.demuxed.PesUnit.{PesUnit}
use Rattle.ts_demux.specs.Pass.{IsWhole}
use Rattle.ts_demux.proofs.PassSteps.{passes_size, told_all, told_seen}
use Rattle.elementary_streams.specs.Packets.{pes_payload_of}
use Rattle.pes_passing.specs.declared.passing_packets.PassingPackets.{PassingPackets}
use Rattle.pes_passing.specs.PassingPackets.{Goes, held_of, index_of, open_of, packets_before, pids_of, read_of, size_of, StandsIn}
use Rattle.pes_passing.proofs.Passing.{within}
use Rattle.es_window.specs.declared.held_part.HeldPart.{HeldPart}
use Rattle.es_window.specs.declared.held_part.HeldPart.TheVariants.{Packet, Payload}
use Rattle.es_window.specs.declared.passing_bytes.PassingBytes.{PassingBytes}
use Rattle.es_window.specs.EsWindow.{Held, IsWindowOf, window_bytes, window_end, window_from}
use Rattle.es_window.specs.PassingBytes.{bytes_in, EndsBefore, HasAll, HasCome, HasRead, HasSome, IsPart, part_of, stream_of}
use Rattle.es_window.specs.Private.Steps.{held_part, steps_left}
use Rattle.es_window.proofs.Streams.{has_front}

-- ---- a window

-- more bytes have come
pub window_more : (es more : List ℕ) (held : Held) → IsWindowOf es held → IsWindowOf (es ++ more) (window_from held, window_bytes held ++ more)
window_more es more held is =
    let within : window_from held ≤ length es = omega (arith, is.end_is) in
    record {
      end_is = omega (arith, is.end_is, length-append (window_bytes held) more, length-append es more);
      held_are = ap (λ (bytes : List ℕ). bytes ++ more) is.held_are ∙ sym (drop-append-le (window_from held) es more within);
    }

-- a part of what is held
pub held_part_of : (es more : List ℕ) (held : Held) (from to : ℕ) (part : List ℕ) → IsWindowOf es held → window_from held ≤ from → from ≤ to → to ≤ window_end held
    → part ≡ take (to - from) (drop (from - window_from held) (window_bytes held)) → IsPart (es ++ more) from to part
held_part_of es more held from to part is behind order within is_part =
    let back : window_from held + (from - window_from held) ≡ from = omega (arith, behind) in
    let here : from ≤ length es = omega (arith, order, within, is.end_is) in
    let few : to - from ≤ length (drop from es) = omega (arith, order, within, is.end_is, length-drop from es) in
    let same : drop (from - window_from held) (window_bytes held) ≡ drop from es =
    ap (drop (from - window_from held)) is.held_are ∙ drop-drop (from - window_from held) (window_from held) es ∙ ap (λ (k : ℕ). drop k es) back in
    record {
      order = order;
      within = omega (arith, within, is.end_is, length-append es more);
      part_is = is_part ∙ ap (take (to - from)) same ∙ sym (ap (take (to - from)) (drop-append-le from es more here) ∙ take-append-le (to - from) (drop from es) more few);
    }

-- ---- a step

pub part_few : (part : HeldPart) (packet : PesUnit) → length (held_part part (Some packet)) ≤ length packet.bytes
part_few Payload packet = omega (arith, length-append (pes_payload_of packet) [], length-drop (header_length packet.bytes) packet.bytes)
part_few Packet packet = omega (arith, length-append packet.bytes [])

pub size_more : (ended : List PesUnit) (packet : PesUnit) → size_of (ended ++ packet ∷ []) ≡ size_of ended + length packet.bytes
size_more ended packet =
    let size : PesUnit → ℕ = λ p. length p.bytes in
    let one : size_of (packet ∷ []) ≡ length packet.bytes + size_of [] = sum_by-cons size packet [] in
    omega (arith, sum_by-append size ended (packet ∷ []), one)

pub held_few : (part : HeldPart) (ended : List PesUnit) (last : Option PesUnit) → size_of ended + length (held_part part last) ≤ size_of (ended ++ option_to_list last)
held_few part ended None = let same : size_of (ended ++ []) ≡ size_of ended = ap size_of (append-nil ended) in omega (arith, same)
held_few part ended (Some packet) = omega (arith, part_few part packet, size_more ended packet)

pub some_read : (left left_after : Option (List ℕ)) (most most_after : ℕ) (held : List ℕ) (bytes : PassingBytes) → bytes.has_ended ≡ false
    → HasRead left left_after most most_after held bytes → HasSome left left_after most most_after held bytes
some_read left left_after most most_after held bytes going has = subst (λ (b : Bool). HasCome b left left_after most most_after held bytes) going has

module _ (left mid after : Option (List ℕ)) (most most_mid most_after : ℕ) (held held_after : List ℕ) (old : PassingBytes) (packets : PassingPackets)
    (was : HasSome left mid most most_mid held old) where
  abbrev part : HeldPart
  part = old.part

  pub add_fits : (more : Bool) → Goes more left after most most_after held_after was.ended packets → window_end old.window + length (held_part part (held_of packets)) < 2 ^ 64
  add_fits true goes =
      let packet = goes.0 in
      let passed = goes.2 in
      let stands = passed.every [] in
      let fits = within left after most most_after held_after (was.ended ++ packet ∷ []) packets passed in
      let same : length (held_part part (held_of packets)) ≡ length (held_part part (Some packet)) = ap (λ (p : Option PesUnit). length (held_part part p)) goes.1 in
      let all = sum_by-append (λ (p : PesUnit). length p.bytes) (was.ended ++ packet ∷ []) (option_to_list (open_of packets.pes)) in
      omega (arith, was.few, same, part_few part packet, size_more was.ended packet, all, stands.few_bytes, fits.0)
  add_fits false goes =
      let stands = goes.whole.0 in
      let size = passes_size left after most most_after [] goes.seen held_after goes.passes in
      omega (arith, was.few, held_few part was.ended (held_of packets), stands.few_bytes, goes.whole.1, length-append goes.seen held_after, size, was.passed.most_few)

  pub read_on : (more : Bool) (window : Held) → window ≡ (window_from old.window, window_bytes old.window ++ held_part part (held_of packets))
      → Goes more left after most most_after held_after was.ended packets
      → HasRead left after most most_after held_after (record { packets = packets; part = old.part; window = window; has_ended = not more })
  read_on true window is goes =
      let packet = goes.0 in
      let here : window ≡ (window_from old.window, window_bytes old.window ++ held_part part (Some packet)) =
      is ∙ ap (λ (p : Option PesUnit). (window_from old.window, window_bytes old.window ++ held_part part p)) goes.1 in
      let joins : bytes_in part was.ended ++ held_part part (Some packet) ≡ bytes_in part (was.ended ++ packet ∷ []) = sym (flat_map-append (part_of part) was.ended (packet ∷ [])) in
      let more_bytes = window_more (bytes_in part was.ended) (held_part part (Some packet)) old.window was.window in
      record {
        ended = was.ended ++ packet ∷ [];
        passed = goes.2;
        window = subst (λ (w : Held). IsWindowOf (bytes_in part (was.ended ++ packet ∷ [])) w) (sym here) (subst (λ (es : List ℕ). IsWindowOf es (window_from old.window, window_bytes old.window ++ held_part part (Some packet))) joins more_bytes);
        few = rw here (omega (arith, was.few, part_few part packet, size_more was.ended packet, length-append (window_bytes old.window) (held_part part (Some packet))));
      }
  read_on false window is goes =
      let joins : bytes_in part was.ended ++ held_part part (held_of packets) ≡ bytes_in part (was.ended ++ option_to_list (held_of packets)) =
      sym (flat_map-append (part_of part) was.ended (option_to_list (held_of packets))) in
      let more_bytes = window_more (bytes_in part was.ended) (held_part part (held_of packets)) old.window was.window in
      record {
        seen = goes.seen;
        passes = goes.passes;
        end = goes.end;
        whole = record {
          ended = was.ended;
          stands = goes.whole.0;
          window = subst (λ (w : Held). IsWindowOf (bytes_in part (was.ended ++ option_to_list (held_of packets))) w) (sym is) (subst (λ (es : List ℕ). IsWindowOf es (window_from old.window, window_bytes old.window ++ held_part part (held_of packets))) joins more_bytes);
        };
      }

  pub further : (more : Bool) (window : Held) → old.has_ended ≡ false → Goes more left after most most_after held_after was.ended packets
      → steps_left (record { packets = packets; part = old.part; window = window; has_ended = not more }) < steps_left old
  further true window going goes =
      let packet = goes.0 in
      let passed = goes.2 in
      let stands = passed.every [] in
      let fits = within left after most most_after held_after (was.ended ++ packet ∷ []) packets passed in
      let before = (was.passed.every []).count_is in
      rw going (omega (arith, stands.count_is, before, fits.0, fits.1, length-append was.ended (packet ∷ [])))
  further false window going goes =
      let before = (was.passed.every []).count_is in
      rw going (omega (arith, goes.whole.0.count_is, before))

-- ---- at the end

same_pid : (packets : PassingPackets) (pid other : ℕ) → slice_get (pids_of packets) (index_of packets) ≡ Some pid → slice_get (pids_of packets) (index_of packets) ≡ Some other → pid ≡ other
same_pid packets pid other is also = same_Some pid other (sym is ∙ also)

all_of : (file : List ℕ) (bytes : PassingBytes) (pid : ℕ) (all : HasAll file bytes) → slice_get (pids_of bytes.packets) (index_of bytes.packets) ≡ Some pid
    → stream_of bytes.part file pid ≡ bytes_in bytes.part (all.ended ++ option_to_list (held_of bytes.packets))
all_of file bytes pid all is =
    ap (bytes_in bytes.part) (ap (λ (p : ℕ). packets_before file p (piece_count file)) (same_pid bytes.packets pid all.stands.pid is all.stands.pid_is) ∙ all.stands.split.packets)

pub ends_before : (left left_after : Option (List ℕ)) (most most_after : ℕ) (held : List ℕ) (bytes : PassingBytes) (to : ℕ) → bytes.has_ended ≡ true
    → HasRead left left_after most most_after held bytes → window_end bytes.window < to
    → EndsBefore left left_after most most_after held bytes.part (pids_of bytes.packets) (index_of bytes.packets) to
ends_before left left_after most most_after held bytes to ended has less =
    let whole = subst (λ (b : Bool). HasCome b left left_after most most_after held bytes) ended has in
    record {
      seen = whole.seen;
      passes = whole.passes;
      end = whole.end;
      whole = λ pid is. let size = ap length (all_of (whole.seen ++ held) bytes pid whole.whole is) in omega (arith, size, whole.whole.window.end_is, less);
    }

-- ---- a part

part_some : (file : List ℕ) (left_after : Option (List ℕ)) (most most_after : ℕ) (held : List ℕ) (bytes : PassingBytes) (pid from to : ℕ) (part : List ℕ)
    → HasSome (Some file) left_after most most_after held bytes → slice_get (pids_of bytes.packets) (index_of bytes.packets) ≡ Some pid
    → window_from bytes.window ≤ from → from ≤ to → to ≤ window_end bytes.window
    → part ≡ take (to - from) (drop (from - window_from bytes.window) (window_bytes bytes.window)) → IsPart (stream_of bytes.part file pid) from to part
part_some file left_after most most_after held bytes pid from to part has is behind order within is_part =
    let told = told_seen file left_after most most_after has.passed.seen held has.passed.passes in
    let stands : StandsIn file has.ended bytes.packets = subst (λ (f : List ℕ). StandsIn f has.ended bytes.packets) told.1 (has.passed.every told.0) in
    let size : length (has.passed.seen ++ told.0) ≡ length file = ap length told.1 in
    let read : read_of bytes.packets ≤ piece_count file = omega (arith, has.passed.count, size, length-append has.passed.seen told.0) in
    let front = has_front bytes.part file stands.pid (read_of bytes.packets) has.ended (open_of bytes.packets.pes) read stands.split in
    let own : stream_of bytes.part file pid ≡ bytes_in bytes.part has.ended ++ front.more =
    ap (λ (p : ℕ). stream_of bytes.part file p) (same_pid bytes.packets pid stands.pid is stands.pid_is) ∙ front.stream_is in
    subst (λ (es : List ℕ). IsPart es from to part) (sym own) (held_part_of (bytes_in bytes.part has.ended) front.more bytes.window from to part has.window behind order within is_part)

part_all : (file : List ℕ) (left_after : Option (List ℕ)) (most most_after : ℕ) (held : List ℕ) (bytes : PassingBytes) (pid from to : ℕ) (part : List ℕ)
    → IsWhole (Some file) left_after most most_after held (λ f. HasAll f bytes) → slice_get (pids_of bytes.packets) (index_of bytes.packets) ≡ Some pid
    → window_from bytes.window ≤ from → from ≤ to → to ≤ window_end bytes.window
    → part ≡ take (to - from) (drop (from - window_from bytes.window) (window_bytes bytes.window)) → IsPart (stream_of bytes.part file pid) from to part
part_all file left_after most most_after held bytes pid from to part whole is behind order within is_part =
    let all : HasAll file bytes = subst (λ (f : List ℕ). HasAll f bytes) (told_all file left_after most most_after whole.seen held whole.passes whole.end) whole.whole in
    let es = bytes_in bytes.part (all.ended ++ option_to_list (held_of bytes.packets)) in
    let own : stream_of bytes.part file pid ≡ es ++ [] = all_of file bytes pid all is ∙ sym (append-nil es) in
    subst (λ (stream : List ℕ). IsPart stream from to part) (sym own) (held_part_of es [] bytes.window from to part all.window behind order within is_part)

pub part_read : (has_ended : Bool) (file : List ℕ) (left_after : Option (List ℕ)) (most most_after : ℕ) (held : List ℕ) (bytes : PassingBytes) (pid from to : ℕ) (part : List ℕ)
    → HasCome has_ended (Some file) left_after most most_after held bytes → slice_get (pids_of bytes.packets) (index_of bytes.packets) ≡ Some pid
    → window_from bytes.window ≤ from → from ≤ to → to ≤ window_end bytes.window
    → part ≡ take (to - from) (drop (from - window_from bytes.window) (window_bytes bytes.window)) → IsPart (stream_of bytes.part file pid) from to part
part_read false file left_after most most_after held bytes pid from to part has is behind order within is_part =
    part_some file left_after most most_after held bytes pid from to part has is behind order within is_part
part_read true file left_after most most_after held bytes pid from to part has is behind order within is_part =
    part_all file left_after most most_after held bytes pid from to part has is behind order within is_part

-- it is as long as its places say
pub part_size : (held : Held) (from to : ℕ) (part : List ℕ) → window_from held ≤ from → from ≤ to → to ≤ window_end held
    → part ≡ take (to - from) (drop (from - window_from held) (window_bytes held)) → length part ≡ to - from
part_size held from to part behind order within is =
    ap length is
    ∙ length-take-le (to - from) (drop (from - window_from held) (window_bytes held)) (omega (arith, behind, order, within, length-drop (from - window_from held) (window_bytes held)))

-- what holds of an answer that is there
pub if_part : {T : Type 0} {P Q : T → Type 0} (result : Option T) → IfSome result P → ((x : T) → P x → Q x) → IfSome result Q
if_part None some on = some
if_part (Some x) some on = on x some
