-- The bytes of a stream of a program stream that have come, a PES packet further, and what a part of them is.
use Rattle.std.proofs.Common.{◌≡◌, ℕ, ◌+◌, ◌-◌, ◌^◌, ◌<◌, ◌≤◌, Bool, true, false, not, List, [], ◌∷◌, ◌++◌, length, take, drop, Option, Some}
use Rattle.std.proofs.Common.{sym, ap, ◌∙◌, subst, arith, append_assoc, length-append}
use Rattle.std.specs.Option.{option_to_list}
use Rattle.std.proofs.lemmas.List.{append-nil}
use Rattle.std.proofs.lemmas.Grind.{flat_map-append}
use Rattle.ts_demux.specs.declared.demuxed.PesUnit.{PesUnit}
use Rattle.ts_demux.specs.Pass.{IsWhole}
use Rattle.ts_demux.proofs.PassSteps.{passes_size, told_all, told_seen}
use Rattle.program_stream.specs.Elements.{AreElements, Element, all_spelled}
use Rattle.program_stream.specs.PassingElements.{rest_of}
use Rattle.program_stream.specs.Split.{HasElements}
use Rattle.program_stream.specs.Streams.{packets_of}
use Rattle.program_stream.proofs.FrontElements.{front_elements, front_packets}
use Rattle.program_stream.proofs.OneReading.{one_list}
use Rattle.pes_passing.specs.declared.element_packets.ElementPackets.{ElementPackets}
use Rattle.pes_passing.specs.ElementPackets.{Goes, held_of, id_of}
use Rattle.pes_passing.specs.PassingPackets.{open_of, size_of}
use Rattle.pes_passing.proofs.ElementSteps.{sizes_in, within}
use Rattle.es_window.specs.declared.element_bytes.ElementBytes.{ElementBytes}
use Rattle.es_window.specs.declared.held_part.HeldPart.{HeldPart}
use Rattle.es_window.specs.ElementBytes.{EndsBefore, HasAll, HasCome, HasRead, HasSome, stream_in}
use Rattle.es_window.specs.EsWindow.{Held, IsWindowOf, window_bytes, window_end, window_from}
use Rattle.es_window.specs.PassingBytes.{bytes_in, IsPart, part_of}
use Rattle.es_window.specs.Private.Steps.{element_steps_left, held_part}
use Rattle.es_window.proofs.Reading.{held_few, held_part_of, part_few, size_more, window_more}

-- ---- a step

pub some_read : (left left_after : Option (List ℕ)) (most most_after : ℕ) (bytes : ElementBytes) → bytes.has_ended ≡ false → HasRead left left_after most most_after bytes
    → HasSome left left_after most most_after bytes
some_read left left_after most most_after bytes going has = subst (λ (b : Bool). HasCome b left left_after most most_after bytes) going has

module _ (left mid after : Option (List ℕ)) (most most_mid most_after : ℕ) (old : ElementBytes) (packets : ElementPackets) (was : HasSome left mid most most_mid old) where
  abbrev part : HeldPart
  part = old.part

  pub add_fits : (more : Bool) → Goes more left after most most_after was.ended packets → window_end old.window + length (held_part part (held_of packets)) < 2 ^ 64
  add_fits true goes =
      let packet = goes.0 in
      let fits = within left after most most_after (was.ended ++ packet ∷ []) packets goes.2 in
      let same : length (held_part part (held_of packets)) ≡ length (held_part part (Some packet)) = ap (λ (p : Option PesUnit). length (held_part part p)) goes.1 in
      omega (arith, was.few, same, part_few part packet, size_more was.ended packet, fits.1, fits.2)
  add_fits false goes =
      let stands = goes.whole.0 in
      let sizes = sizes_in (goes.seen ++ []) stands.elements stands.cut packets.id stands.elements_are in
      let size = passes_size left after most most_after [] goes.seen [] goes.passes in
      omega (
        arith,
        was.few,
        held_few part was.ended (held_of packets),
        ap size_of stands.split.packets,
        sizes.1,
        length-append goes.seen [],
        size,
        was.passed.passed.most_few,
      )

  pub read_on : (more : Bool) (window : Held) → window ≡ (window_from old.window, window_bytes old.window ++ held_part part (held_of packets)) → Goes more left after most most_after was.ended packets
      → HasRead left after most most_after (record { packets = packets; part = old.part; window = window; has_ended = not more })
  read_on true window is goes =
      let packet = goes.0 in
      let here : window ≡ (window_from old.window, window_bytes old.window ++ held_part part (Some packet)) =
      is ∙ ap (λ (p : Option PesUnit). (window_from old.window, window_bytes old.window ++ held_part part p)) goes.1 in
      let joins : bytes_in part was.ended ++ held_part part (Some packet) ≡ bytes_in part (was.ended ++ packet ∷ []) = sym (flat_map-append (part_of part) was.ended (packet ∷ [])) in
      let more_bytes = window_more (bytes_in part was.ended) (held_part part (Some packet)) old.window was.window in
      record {
        ended = was.ended ++ packet ∷ [];
        passed = goes.2;
        window = subst (λ (w : Held). IsWindowOf (bytes_in part (was.ended ++ packet ∷ [])) w) (sym here) (subst (λ (es : List ℕ). IsWindowOf es (window_from old.window, window_bytes old.window ++ held_part part (Some packet))) joins more_bytes);
        few = rw here (omega (arith, was.few, part_few part packet, size_more was.ended packet, length-append (window_bytes old.window) (held_part part (Some packet))));
      }
  read_on false window is goes =
      let joins : bytes_in part was.ended ++ held_part part (held_of packets) ≡ bytes_in part (was.ended ++ option_to_list (held_of packets)) =
      sym (flat_map-append (part_of part) was.ended (option_to_list (held_of packets))) in
      let more_bytes = window_more (bytes_in part was.ended) (held_part part (held_of packets)) old.window was.window in
      record {
        seen = goes.seen;
        passes = goes.passes;
        end = goes.end;
        whole = record {
          ended = was.ended;
          stands = goes.whole.0;
          window = subst (λ (w : Held). IsWindowOf (bytes_in part (was.ended ++ option_to_list (held_of packets))) w) (sym is) (subst (λ (es : List ℕ). IsWindowOf es (window_from old.window, window_bytes old.window ++ held_part part (held_of packets))) joins more_bytes);
        };
      }

  pub further : (more : Bool) (window : Held) → old.has_ended ≡ false → Goes more left after most most_after was.ended packets
      → element_steps_left (record { packets = packets; part = old.part; window = window; has_ended = not more }) < element_steps_left old
  further true window going goes =
      let packet = goes.0 in
      let fits = within left after most most_after (was.ended ++ packet ∷ []) packets goes.2 in
      rw going (omega (arith, goes.2.are_in.count_is, was.passed.are_in.count_is, fits.0, fits.2, length-append was.ended (packet ∷ [])))
  further false window going goes = rw going (omega (arith, goes.whole.0.count_is, was.passed.are_in.count_is))

-- ---- at the end

all_of : (file : List ℕ) (bytes : ElementBytes) (elements : List Element) (cut : ℕ) (all : HasAll file bytes) → HasElements file elements cut
    → stream_in bytes.part elements (id_of bytes.packets) ≡ bytes_in bytes.part (all.ended ++ option_to_list (held_of bytes.packets))
all_of file bytes elements cut all are =
    let same = one_list file elements all.stands.elements cut all.stands.cut are.are all.stands.elements_are.are in
    ap (bytes_in bytes.part) (ap (λ (es : List Element). packets_of es (id_of bytes.packets)) same.elements ∙ all.stands.split.packets)

pub ends_before : (left left_after : Option (List ℕ)) (most most_after : ℕ) (bytes : ElementBytes) (to : ℕ) → bytes.has_ended ≡ true → HasRead left left_after most most_after bytes
    → window_end bytes.window < to → EndsBefore left left_after most most_after bytes.part (id_of bytes.packets) to
ends_before left left_after most most_after bytes to ended has less =
    let whole = subst (λ (b : Bool). HasCome b left left_after most most_after bytes) ended has in
    record {
      seen = whole.seen;
      passes = whole.passes;
      end = whole.end;
      whole = λ elements cut are. let size = ap length (all_of (whole.seen ++ []) bytes elements cut whole.whole are) in omega (arith, size, whole.whole.window.end_is, less);
    }

-- ---- a part

record Begins (front all : List ℕ) : Type 0 where
  pub more : List ℕ
  pub all_is : all ≡ front ++ more

-- what has come stands in front of the stream
begins : (file : List ℕ) (left_after : Option (List ℕ)) (most most_after : ℕ) (bytes : ElementBytes) (elements : List Element) (cut : ℕ) (has : HasSome (Some file) left_after most most_after bytes)
    → HasElements file elements cut → Begins (bytes_in bytes.part has.ended) (stream_in bytes.part elements (id_of bytes.packets))
begins file left_after most most_after bytes elements cut has are =
    let passed = has.passed.passed in
    let id = id_of bytes.packets in
    let part = bytes.part in
    let told = told_seen file left_after most most_after (all_spelled has.passed.elements) (rest_of bytes.packets.elements) passed.passes in
    let front = front_elements has.passed.elements elements told.0 cut passed.sound (subst (λ (f : List ℕ). AreElements f elements cut) (sym told.1) are.are) in
    let units = front_packets 0 id has.passed.elements front.behind in
    let last = option_to_list (open_of bytes.packets.pes) in
    let all : packets_of elements id ≡ has.ended ++ (last ++ units.behind) =
    ap (λ (es : List Element). packets_of es id) front.all_is ∙ units.all_is ∙ ap (λ (us : List PesUnit). us ++ units.behind) has.passed.are_in.split.packets
    ∙ append_assoc has.ended last units.behind in
    record { more = bytes_in part (last ++ units.behind); all_is = ap (bytes_in part) all ∙ flat_map-append (part_of part) has.ended (last ++ units.behind) }

part_some : (file : List ℕ) (left_after : Option (List ℕ)) (most most_after : ℕ) (bytes : ElementBytes) (elements : List Element) (cut from to : ℕ) (part : List ℕ)
    → HasSome (Some file) left_after most most_after bytes → HasElements file elements cut → window_from bytes.window ≤ from → from ≤ to → to ≤ window_end bytes.window
    → part ≡ take (to - from) (drop (from - window_from bytes.window) (window_bytes bytes.window)) → IsPart (stream_in bytes.part elements (id_of bytes.packets)) from to part
part_some file left_after most most_after bytes elements cut from to part has are behind order within is_part =
    let front = begins file left_after most most_after bytes elements cut has are in
    subst (λ (es : List ℕ). IsPart es from to part) (sym front.all_is) (held_part_of (bytes_in bytes.part has.ended) front.more bytes.window from to part has.window behind order within is_part)

part_all : (file : List ℕ) (left_after : Option (List ℕ)) (most most_after : ℕ) (bytes : ElementBytes) (elements : List Element) (cut from to : ℕ) (part : List ℕ)
    → IsWhole (Some file) left_after most most_after [] (λ f. HasAll f bytes) → HasElements file elements cut → window_from bytes.window ≤ from → from ≤ to → to ≤ window_end bytes.window
    → part ≡ take (to - from) (drop (from - window_from bytes.window) (window_bytes bytes.window)) → IsPart (stream_in bytes.part elements (id_of bytes.packets)) from to part
part_all file left_after most most_after bytes elements cut from to part whole are behind order within is_part =
    let all : HasAll file bytes = subst (λ (f : List ℕ). HasAll f bytes) (told_all file left_after most most_after whole.seen [] whole.passes whole.end) whole.whole in
    let es = bytes_in bytes.part (all.ended ++ option_to_list (held_of bytes.packets)) in
    let own : stream_in bytes.part elements (id_of bytes.packets) ≡ es ++ [] = all_of file bytes elements cut all are ∙ sym (append-nil es) in
    subst (λ (stream : List ℕ). IsPart stream from to part) (sym own) (held_part_of es [] bytes.window from to part all.window behind order within is_part)

pub part_read : (has_ended : Bool) (file : List ℕ) (left_after : Option (List ℕ)) (most most_after : ℕ) (bytes : ElementBytes) (elements : List Element) (cut from to : ℕ) (part : List ℕ)
    → HasCome has_ended (Some file) left_after most most_after bytes → HasElements file elements cut → window_from bytes.window ≤ from → from ≤ to → to ≤ window_end bytes.window
    → part ≡ take (to - from) (drop (from - window_from bytes.window) (window_bytes bytes.window)) → IsPart (stream_in bytes.part elements (id_of bytes.packets)) from to part
part_read false file left_after most most_after bytes elements cut from to part has are behind order within is_part =
    part_some file left_after most most_after bytes elements cut from to part has are behind order within is_part
part_read true file left_after most most_after bytes elements cut from to part has are behind order within is_part =
    part_all file left_after most most_after bytes elements cut from to part has are behind order within is_part
