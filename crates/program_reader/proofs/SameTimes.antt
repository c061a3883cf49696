-- The bytes and the times of a unit that has ended are told by the bytes and PES packets that have passed.
use Rattle.std.proofs.Common.{◌≡◌, ℕ, zero, suc, ◌+◌, ◌-◌, ◌<◌, ◌≤◌, ◌==◌, Bool, true, false, List, [], ◌∷◌, ◌++◌, length, take, drop, slice_range, Option, Some, None, refl, sym, ap, ◌∙◌, subst, inl, inr, arith}
use Rattle.std.specs.List.{find, range_with_len}
use Rattle.std.specs.Option.{option_map_or}
use Rattle.std.proofs.lemmas.Bool.{cases_lt, ne_eqb}
use Rattle.std.proofs.lemmas.Grind.{flat_map-append}
use Rattle.std.proofs.lemmas.List.{drop-append-le, length-append, length-drop, take-append-le}
use Rattle.audio_frames.proofs.Places.{found_passes}
use Rattle.es_units.specs.Pictures.{begins_picture, first_picture}
use Rattle.es_units.proofs.PicturesFound.{begins_same}
use Rattle.ts_demux.specs.declared.demuxed.PesUnit.{PesUnit}
use Rattle.elementary_streams.specs.declared.pes_packets.PlacedPacket.{PlacedPacket}
use Rattle.elementary_streams.specs.Packets.{pes_payload_of, joined, placed_from}
use Rattle.program_reader.specs.PictureTimes.{is_first_picture_in, times_at, times_of_unit}
use Rattle.program_reader.specs.TimesWalk.{Join}
use Rattle.program_reader.specs.Units.{unit_bytes}
use Rattle.program_reader.proofs.PlaceLemmas.{found_from}
use Rattle.elementary_streams.proofs.TakenLemmas.{placed_at}
use Rattle.program_reader.proofs.TimesWalked.{none_behind}
use Rattle.es_units.proofs.Fronts.{find_range_same}

-- ---- what is found among places

-- none before the first one is found
not_found : (p : ℕ → Bool) (at n from : ℕ) → at < from → option_map_or (λ found. found == at) (find p (range_with_len from n)) false ≡ false
not_found p at n from before = by_first (find p (range_with_len from n)) refl
  where
    by_first : (first : Option ℕ) → find p (range_with_len from n) ≡ first → option_map_or (λ found. found == at) first false ≡ false
    by_first None is = refl
    by_first (Some f) is = ne_eqb f at (λ same. omega (arith, same, found_from p n from f is, before))

-- whether a place is the first one is told by the places up to it
first_same : (p q : ℕ → Bool) (at n from : ℕ) → ((k : ℕ) → k ≤ at → p k ≡ q k)
    → option_map_or (λ found. found == at) (find p (range_with_len from n)) false ≡ option_map_or (λ found. found == at) (find q (range_with_len from n)) false
first_same p q at zero from same = refl
first_same p q at (suc n) from same = elim (cases_lt at from) [
  | inl before ↦ not_found p at (suc n) from before ∙ sym (not_found q at (suc n) from before)
  | inr upto ↦ by_test (q from) (same from upto) refl (first_same p q at n (from + 1) same)
]
  where
    by_test : (passes : Bool) → p from ≡ q from → q from ≡ passes
        → option_map_or (λ found. found == at) (find p (range_with_len (from + 1) n)) false ≡ option_map_or (λ found. found == at) (find q (range_with_len (from + 1) n)) false
        → option_map_or (λ found. found == at) (find p (range_with_len from (suc n))) false ≡ option_map_or (λ found. found == at) (find q (range_with_len from (suc n))) false
    by_test true here is rest = let there : p from ≡ true = here ∙ is in rw (there, is) refl
    by_test false here is rest = let there : p from ≡ false = here ∙ is in rw (there, is) rest

-- ---- a stream and bytes behind it

module _ (es more : List ℕ) where
  picture_same : (from end : ℕ) → end + 3 ≤ length es → first_picture (es ++ more) from end ≡ first_picture es from end
  picture_same from end within =
      find_range_same (begins_picture (es ++ more)) (begins_picture es) (end - from) from (λ k b u. begins_same es more k (omega (arith, b, u, within)))

  first_in_same : (at : ℕ) (packet : PlacedPacket) → at + 3 < length es → is_first_picture_in (es ++ more) at packet ≡ is_first_picture_in es at packet
  first_in_same at packet within =
      first_same (begins_picture (es ++ more)) (begins_picture es) at (packet.end - packet.from) packet.from (λ k le. begins_same es more k (omega (arith, le, within)))

  times_at_same : (at from end : ℕ) (packets later : List PlacedPacket) → at + 3 < length es → Join from later end → at < from
      → times_at (es ++ more) (packets ++ later) at ≡ times_at es packets at
  times_at_same at from end [] later within join before = none_behind (es ++ more) at from end later join before
  times_at_same at from end (p ∷ ps) later within join before =
      by_test (is_first_picture_in es at p) (first_in_same at p within) refl (times_at_same at from end ps later within join before)
    where
      by_test : (is_here : Bool) → is_first_picture_in (es ++ more) at p ≡ is_first_picture_in es at p → is_first_picture_in es at p ≡ is_here
          → times_at (es ++ more) (ps ++ later) at ≡ times_at es ps at → times_at (es ++ more) ((p ∷ ps) ++ later) at ≡ times_at es (p ∷ ps) at
      by_test true same is rest = let there : is_first_picture_in (es ++ more) at p ≡ true = same ∙ is in rw (there, is) refl
      by_test false same is rest = let there : is_first_picture_in (es ++ more) at p ≡ false = same ∙ is in rw (there, is) rest

  unit_times_same : (end : ℕ) (packets later : List PlacedPacket) (unit : ℕ × ℕ) → unit.1 + 3 < length es → Join (length es) later end
      → times_of_unit (es ++ more) (packets ++ later) unit ≡ times_of_unit es packets unit
  unit_times_same end packets later unit within join = by_first (first_picture es unit.0 unit.1) (picture_same unit.0 unit.1 (omega (arith, within))) refl
    where
      by_first : (first : Option ℕ) → first_picture (es ++ more) unit.0 unit.1 ≡ first_picture es unit.0 unit.1 → first_picture es unit.0 unit.1 ≡ first
          → times_of_unit (es ++ more) (packets ++ later) unit ≡ times_of_unit es packets unit
      by_first None same is = let there : first_picture (es ++ more) unit.0 unit.1 ≡ None = same ∙ is in rw (there, is) refl
      by_first (Some at) same is =
          let there : first_picture (es ++ more) unit.0 unit.1 ≡ Some at = same ∙ is in
          let begun : unit.0 ≤ at = found_from (begins_picture es) (unit.1 - unit.0) unit.0 at is in
          let upto : at < unit.0 + (unit.1 - unit.0) = (found_passes (begins_picture es) (unit.1 - unit.0) unit.0 at is).1 in
          rw (there, is) (times_at_same at (length es) end packets later (omega (arith, begun, upto, within)) join (omega (arith, begun, upto, within)))

-- a range of a stream is one of each longer stream
pub range_front : (xs ys : List ℕ) (begin end : ℕ) → begin ≤ end → end ≤ length xs → slice_range (xs ++ ys) begin end ≡ slice_range xs begin end
range_front xs ys begin end order within =
    ap (take (end - begin)) (drop-append-le begin xs ys (omega (arith, order, within)))
    ∙ take-append-le (end - begin) (drop begin xs) ys (omega (arith, length-drop begin xs, within))

-- ---- PES packets and more behind them

pub joined_append : (packets more : List PesUnit) → joined (packets ++ more) ≡ joined packets ++ joined more
joined_append packets more = flat_map-append pes_payload_of packets more

pub longer : (packets more : List PesUnit) → length (joined packets) ≤ length (joined (packets ++ more))
longer packets more =
    let size : length (joined (packets ++ more)) ≡ length (joined packets ++ joined more) = ap (λ (xs : List ℕ). length xs) (joined_append packets more) in
    omega (arith, size, length-append (joined packets) (joined more))

pub placed_append : (from : ℕ) (packets more : List PesUnit) → placed_from from (packets ++ more) ≡ placed_from from packets ++ placed_from (from + length (joined packets)) more
placed_append from [] more = ap (λ (n : ℕ). placed_from n more) (let same : from ≡ from + 0 = omega arith in same)
placed_append from (p ∷ ps) more =
    let size : length (joined (p ∷ ps)) ≡ length (pes_payload_of p) + length (joined ps) = length-append (pes_payload_of p) (joined ps) in
    ap (λ (placed : List PlacedPacket). placed_at from p ∷ placed) (
    placed_append (from + length (pes_payload_of p)) ps more
    ∙ ap (λ (n : ℕ). placed_from (from + length (pes_payload_of p)) ps ++ placed_from n more)
    (let same : from + length (pes_payload_of p) + length (joined ps) ≡ from + length (joined (p ∷ ps)) = omega (arith, size) in same)
    )

-- their payloads stand one behind the other
pub joins : (from : ℕ) (packets : List PesUnit) → Join from (placed_from from packets) (from + length (joined packets))
joins from [] = omega arith
joins from (p ∷ ps) =
    let size : length (joined (p ∷ ps)) ≡ length (pes_payload_of p) + length (joined ps) = length-append (pes_payload_of p) (joined ps) in
    let end : from + length (pes_payload_of p) + length (joined ps) ≡ from + length (joined (p ∷ ps)) = omega (arith, size) in
    (refl, omega arith, subst (Join (from + length (pes_payload_of p)) (placed_from (from + length (pes_payload_of p)) ps)) end (joins (from + length (pes_payload_of p)) ps))

pub joins_all : (packets : List PesUnit) → Join 0 (placed_from 0 packets) (length (joined packets))
joins_all packets = let size : 0 + length (joined packets) ≡ length (joined packets) = omega arith in subst (Join 0 (placed_from 0 packets)) size (joins 0 packets)

module _ (packets more : List PesUnit) (unit : ℕ × ℕ) where
  -- a unit's bytes
  pub bytes_always : unit.0 ≤ unit.1 → unit.1 ≤ length (joined packets) → unit_bytes (joined (packets ++ more)) unit ≡ unit_bytes (joined packets) unit
  bytes_always order within =
      ap (λ (es : List ℕ). slice_range es unit.0 unit.1) (joined_append packets more) ∙ range_front (joined packets) (joined more) unit.0 unit.1 order within

  -- its times
  pub times_always : unit.1 + 3 < length (joined packets)
      → times_of_unit (joined (packets ++ more)) (placed_from 0 (packets ++ more)) unit ≡ times_of_unit (joined packets) (placed_from 0 packets) unit
  times_always within =
      let size : 0 + length (joined packets) ≡ length (joined packets) = omega arith in
      let placed : placed_from 0 (packets ++ more) ≡ placed_from 0 packets ++ placed_from (length (joined packets)) more =
      placed_append 0 packets more ∙ ap (λ (n : ℕ). placed_from 0 packets ++ placed_from n more) size in
      ap (λ (es : List ℕ). times_of_unit es (placed_from 0 (packets ++ more)) unit) (joined_append packets more)
      ∙ ap (λ (ps : List PlacedPacket). times_of_unit (joined packets ++ joined more) ps unit) placed
      ∙ unit_times_same (joined packets) (joined more) (length (joined packets) + length (joined more)) (placed_from 0 packets) (placed_from (length (joined packets)) more) unit within
      (joins (length (joined packets)) more)
