-- Fronts of an output stream, and what a sink holds of it.
use Rattle.std.proofs.Common.{◌≡◌, ℕ, ◌+◌, ◌≤◌, List, [], ◌∷◌, ◌++◌, length, take, drop, refl, sym, ap, subst, ◌∙◌, append_assoc, append-nil, length-append, arith}
use Rattle.std.specs.List.{flat_map}
use Rattle.std.proofs.Math.Seq.{take-append-add}
use Rattle.std.proofs.lemmas.Grind.{flat_map-append}
use Rattle.std.proofs.lemmas.List.{take_at, take-append-drop, take-append-le}
use Rattle.std.proofs.lemmas.List.FromFn.{take-map-range_with_len, map-range_with_len_more}
use Rattle.shelf_io.specs.Sink.{Told, with_bytes, AddsPrefix}
use Rattle.shelf_io.proofs.Written.{with_bytes-none, with_bytes-twice}
use Rattle.slot_rule.specs.declared.sent.Sent.{Sent}
use Rattle.ts_packets.specs.Packet.{PacketRecord, written}
use Rattle.mux_writer.specs.declared.layout.Layout.{Layout}
use Rattle.mux_writer.specs.Output.{packet_in, packets_of_first, output_stream}
use Rattle.mux_writer.specs.Pieces.{Pieces}
use Rattle.mux_writer.specs.Private.Writer.{HoldsRest}

abbrev pub front_bytes : Layout → (slot : ℕ) → Pieces → List Sent → ℕ → List ℕ
front_bytes layout slot pieces rows n = flat_map written (packets_of_first layout slot pieces rows n)

flat_map-push : (packets : List PacketRecord) (packet : PacketRecord) → flat_map written (packets ++ packet ∷ []) ≡ flat_map written packets ++ written packet
flat_map-push packets packet = flat_map-append written packets (packet ∷ []) ∙ ap (λ (bytes : List ℕ). flat_map written packets ++ bytes) (append-nil (written packet))

-- the bytes of one slot more
front-more : (layout : Layout) (slot : ℕ) (pieces : Pieces) (rows : List Sent) (n : ℕ)
    → front_bytes layout slot pieces rows (n + 1) ≡ front_bytes layout slot pieces rows n ++ written (packet_in layout slot pieces rows n)
front-more layout slot pieces rows n =
    ap (flat_map written) (map-range_with_len_more (packet_in layout slot pieces rows) 0 n n (omega arith))
    ∙ flat_map-push (packets_of_first layout slot pieces rows n) (packet_in layout slot pieces rows n)

-- the first n slots are a front of the stream
front-of-stream : (layout : Layout) (slot : ℕ) (pieces : Pieces) (rows : List Sent) (n : ℕ) → n ≤ length rows
    → (rest : List ℕ) × (output_stream layout slot pieces rows ≡ front_bytes layout slot pieces rows n ++ rest)
front-of-stream layout slot pieces rows n within =
    let all : List PacketRecord = packets_of_first layout slot pieces rows (length rows) in
    let first : take n all ≡ packets_of_first layout slot pieces rows n = take-map-range_with_len (packet_in layout slot pieces rows) 0 (length rows) n within in (
      flat_map written (drop n all),
      ap (flat_map written) (sym (take-append-drop n all))
          ∙ flat_map-append written (take n all) (drop n all)
          ∙ ap (λ (packets : List PacketRecord). flat_map written packets ++ flat_map written (drop n all)) first,
    )

front-added : (was now : Told) (front rest : List ℕ) → now ≡ with_bytes was front → AddsPrefix was now (front ++ rest)
front-added was now front rest is =
    (length front, omega (arith, length-append front rest), is ∙ ap (with_bytes was) (sym (take_at front rest (length front) refl)))

part-added : (was mid now : Told) (front packet rest : List ℕ) → mid ≡ with_bytes was front → AddsPrefix mid now packet → AddsPrefix was now ((front ++ packet) ++ rest)
part-added was mid now front packet rest is added =
    let k : ℕ = added.0 in
    let fits : k ≤ length packet = added.1 in
    let all : (front ++ packet) ++ rest ≡ front ++ (packet ++ rest) = append_assoc front packet rest in
    let inside : take k (packet ++ rest) ≡ take k packet = take-append-le k packet rest fits in
    let same : take (length front + k) ((front ++ packet) ++ rest) ≡ front ++ take k packet =
    ap (take (length front + k)) all ∙ take-append-add front (packet ++ rest) k ∙ ap (λ (bytes : List ℕ). front ++ bytes) inside in (
      length front + k,
      omega (arith, fits, length-append (front ++ packet) rest, length-append front packet),
      added.2 ∙ ap (λ (told : Told). with_bytes told (take k packet)) is ∙ with_bytes-twice was front (take k packet) ∙ ap (with_bytes was) (sym same),
    )

-- ---- bytes of which a front was added and the rest is held

-- nothing was added, and nothing is held
pub holds-none : (was : Told) → HoldsRest was was [] []
holds-none was = record { front = []; added = with_bytes-none was; whole = refl }

-- more is held
holds-more : (was now : Told) (held bytes packet : List ℕ) → HoldsRest was now held bytes → HoldsRest was now (held ++ packet) (bytes ++ packet)
holds-more was now held bytes packet is = record {
  front = is.front;
  added = is.added;
  whole = sym (append_assoc is.front held packet) ∙ ap (λ (front : List ℕ). front ++ packet) is.whole;
}

-- a front of what was held was added too
holds-less : (was mid now : Told) (held kept bytes : List ℕ) → HoldsRest was mid held bytes → HoldsRest mid now kept held → HoldsRest was now kept bytes
holds-less was mid now held kept bytes is then = record {
  front = is.front ++ then.front;
  added = then.added ∙ ap (λ (told : Told). with_bytes told then.front) is.added ∙ with_bytes-twice was is.front then.front;
  whole = append_assoc is.front then.front kept ∙ ap (λ (rest : List ℕ). is.front ++ rest) then.whole ∙ is.whole;
}

-- ---- slots of which a front was added and the rest is held

-- a sink that got the first n slots but for what is held holds a front of the stream
pub prefix-behind : (layout : Layout) (slot : ℕ) (pieces : Pieces) (rows : List Sent) (n : ℕ) (was now : Told) (held : List ℕ) → n ≤ length rows
    → HoldsRest was now held (front_bytes layout slot pieces rows n) → AddsPrefix was now (output_stream layout slot pieces rows)
prefix-behind layout slot pieces rows n was now held within is =
    let front : (rest : List ℕ) × (output_stream layout slot pieces rows ≡ front_bytes layout slot pieces rows n ++ rest) = front-of-stream layout slot pieces rows n within in
    let parts : output_stream layout slot pieces rows ≡ is.front ++ (held ++ front.0) =
    front.1 ∙ ap (λ (bytes : List ℕ). bytes ++ front.0) (sym is.whole) ∙ append_assoc is.front held front.0 in
    subst (AddsPrefix was now) (sym parts) (front-added was now is.front (held ++ front.0) is.added)

-- and so does one that got a part of what was held too
pub prefix-within : (layout : Layout) (slot : ℕ) (pieces : Pieces) (rows : List Sent) (n : ℕ) (was mid now : Told) (held : List ℕ) → n ≤ length rows
    → HoldsRest was mid held (front_bytes layout slot pieces rows n) → AddsPrefix mid now held → AddsPrefix was now (output_stream layout slot pieces rows)
prefix-within layout slot pieces rows n was mid now held within is added =
    let front : (rest : List ℕ) × (output_stream layout slot pieces rows ≡ front_bytes layout slot pieces rows n ++ rest) = front-of-stream layout slot pieces rows n within in
    let parts : output_stream layout slot pieces rows ≡ (is.front ++ held) ++ front.0 = front.1 ∙ ap (λ (bytes : List ℕ). bytes ++ front.0) (sym is.whole) in
    subst (AddsPrefix was now) (sym parts) (part-added was mid now is.front held front.0 is.added added)

-- the next packet is held behind the first n slots
pub slot-more : (layout : Layout) (slot : ℕ) (pieces : Pieces) (rows : List Sent) (n : ℕ) (was mid now : Told) (held kept bytes packet : List ℕ)
    → HoldsRest was mid held (front_bytes layout slot pieces rows n) → HoldsRest mid now kept held → packet ≡ written (packet_in layout slot pieces rows n) → bytes ≡ kept ++ packet
    → HoldsRest was now bytes (front_bytes layout slot pieces rows (n + 1))
slot-more layout slot pieces rows n was mid now held kept bytes packet is then made pushed =
    let more : HoldsRest was now (kept ++ packet) (front_bytes layout slot pieces rows n ++ packet) =
    holds-more was now kept (front_bytes layout slot pieces rows n) packet (holds-less was mid now held kept (front_bytes layout slot pieces rows n) is then) in
    let all : front_bytes layout slot pieces rows n ++ packet ≡ front_bytes layout slot pieces rows (n + 1) =
    ap (λ (last : List ℕ). front_bytes layout slot pieces rows n ++ last) made ∙ sym (front-more layout slot pieces rows n) in
    subst (λ (list : List ℕ). HoldsRest was now list (front_bytes layout slot pieces rows (n + 1))) (sym pushed)
    (subst (HoldsRest was now (kept ++ packet)) all more)

-- what was held was added behind the first n slots, which are all
pub stream-whole : (layout : Layout) (slot : ℕ) (pieces : Pieces) (rows : List Sent) (n : ℕ) (was mid now : Told) (held : List ℕ) → n ≡ length rows
    → HoldsRest was mid held (front_bytes layout slot pieces rows n) → now ≡ with_bytes mid held → now ≡ with_bytes was (output_stream layout slot pieces rows)
stream-whole layout slot pieces rows n was mid now held all is added =
    added
    ∙ ap (λ (told : Told). with_bytes told held) is.added
    ∙ with_bytes-twice was is.front held
    ∙ ap (with_bytes was) (is.whole ∙ ap (front_bytes layout slot pieces rows) all)
