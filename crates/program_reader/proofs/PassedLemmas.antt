-- Units of a video that have passed: one more behind those that are kept, whatever packets follow.
use Rattle.std.proofs.Common.{◌≡◌, ◌⊎◌, ℕ, ◌+◌, ◌-◌, ◌<◌, ◌≤◌, Bool, true, false, List, [], ◌∷◌, ◌++◌, length, map, All, Option, Some, None, IfSome, unwrap_or, Result, Ok, Err, MatchResult, refl, sym, ap, ◌∙◌, subst, inl, inr, arith, min, ◌^◌}
use Rattle.std.specs.List.{last_or}
use Rattle.std.specs.Option.{option_map}
use Rattle.std.proofs.lemmas.List.{append-nil, append_assoc, length-append, take-append-le}
use Rattle.es_units.specs.declared.unit_cutter.CutUnit.{CutUnit}
use Rattle.es_units.specs.declared.unit_cutter.UnitCutter.{UnitCutter}
use Rattle.es_units.specs.declared.units.Units.{Units}
use Rattle.es_units.specs.CutUpTo.{HasUnits}
use Rattle.es_units.specs.PictureFinder.{picture_places}
use Rattle.es_units.specs.UnitCutter.{BeginWith, HasCut, ended_from, ended_of, place_of}
use Rattle.es_units.specs.Units.{first_sequence, cuts_up_to, cuts_behind, cut_units}
use Rattle.list_types.specs.Spans.{spans}
use Rattle.pes_units.specs.declared.times.Times.{Times}
use Rattle.pes_units.specs.Times.{decoding_time}
use Rattle.picture_grammar.specs.Refusal.{Refusal}
use Rattle.ts_demux.specs.declared.demuxed.PesUnit.{PesUnit}
use Rattle.program_reader.specs.declared.kept_units.KeptUnit.{KeptUnit}
use Rattle.program_reader.specs.declared.passed_units.PassedUnits.{PassedUnits}
use Rattle.elementary_streams.specs.declared.pes_packets.PlacedPacket.{PlacedPacket}
use Rattle.program_reader.specs.declared.program_fault.ProgramFault.{ProgramFault}
use Rattle.program_reader.specs.declared.program_fault.ProgramFault.TheVariants.{OutOfMemory}
use Rattle.program_reader.specs.declared.timed_picture.TimedPicture.{TimedPicture}
use Rattle.program_reader.specs.declared.times_walk.TimesWalk.{TimesWalk}
use Rattle.program_reader.specs.declared.unit_sizes.SizesWanted.{SizesWanted}
use Rattle.program_reader.specs.declared.video_places.VideoPlaces.{VideoPlaces}
use Rattle.program_reader.specs.KeptUnits.{AreRows, row_of, kept_at}
use Rattle.program_reader.specs.Sizes.{AreSizedSoFar}
use Rattle.program_reader.specs.Intervals.{nearest}
use Rattle.elementary_streams.specs.Packets.{joined, placed_from}
use Rattle.program_reader.specs.PictureTimes.{times_of_unit}
use Rattle.program_reader.specs.TimesWalk.{HasPassed, Join}
use Rattle.program_reader.specs.Units.{AreInOrder, IsBroken, IsNext, IsUnitRefused, is_none_left, last_of, state_behind, unit_bytes}
use Rattle.program_reader.specs.VideoWalk.{AreFew, AreRefused, HavePassed, Stand, end_of}
use Rattle.program_reader.specs.Private.KeptUnits.{Fits, IsPictureNear}
use Rattle.program_reader.specs.Private.PassedVideo.{IsKeptAs, timed_as, IsReadAs}
use Rattle.program_reader.specs.Private.SizedUnits.{IsSizedFound, IsSizedBehind}
use Rattle.program_reader.specs.Private.TimedPictures.{IsFound, IsNotFound, IsPossible, LastTells}
use Rattle.program_reader.proofs.CutLemmas.{cuts_fit}
use Rattle.program_reader.proofs.KeepLemmas.{all_earlier, first_push, last_push, last_tells, near_next, nearest_last, order_push, possible_near, range_of_unit, rows_push}
use Rattle.program_reader.proofs.SameTimes.{bytes_always, joins_all, longer, times_always}
use Rattle.program_reader.proofs.SizedLemmas.{sized_more}
use Rattle.program_reader.proofs.StatedTimes.{AreStatedTo, count_behind, stated_more, stated_none, step_is}
use Rattle.elementary_streams.proofs.StreamLemmas.{placed_count, placed_times}
use Rattle.elementary_streams.proofs.TimeRange.{IsInRange}

-- ---- where units stand

-- a unit stands behind a place, within so many bytes
pub record Follows (size from : ℕ) (unit : ℕ × ℕ) : Type 0 where
  pub begun : from ≤ unit.0
  pub order : unit.0 ≤ unit.1
  pub within : unit.1 ≤ size

pub fits_front : (size from : ℕ) (units more : List (ℕ × ℕ)) → Fits size from (units ++ more) → Fits size from units
fits_front size from [] more fits = tt
fits_front size from (u ∷ us) more fits = (fits.0, fits.1, fits.2, fits_front size u.1 us more fits.3)

pub fits_last : (size from : ℕ) (units : List (ℕ × ℕ)) (unit : ℕ × ℕ) → Fits size from (units ++ unit ∷ []) → Follows size (end_of from units) unit
fits_last size from [] unit fits = record { begun = fits.0; order = fits.1; within = fits.2 }
fits_last size from (u ∷ us) unit fits = fits_last size u.1 us unit fits.3

pub end_push : (from : ℕ) (units : List (ℕ × ℕ)) (unit : ℕ × ℕ) → end_of from (units ++ unit ∷ []) ≡ unit.1
end_push from [] unit = refl
end_push from (u ∷ us) unit = end_push u.1 us unit

-- units with which those of a stream begin
pub record AreGiven (es : List ℕ) (given : List (ℕ × ℕ)) : Type 0 where
  pub fits : Fits (length es) 0 given
  pub few : length given ≤ length es + 1

pub given_of : (es : List ℕ) (given : List (ℕ × ℕ)) → BeginWith given (cut_units es) → AreGiven es given
given_of es given begin_with = by_cut (cut_units es) refl begin_with
  where
    by_cut : (cut : Option Units) → cut_units es ≡ cut → BeginWith given cut → AreGiven es given
    by_cut None is none = record {
      fits = subst (Fits (length es) 0) (sym none) tt;
      few = (let size : length given ≡ 0 = ap (λ (us : List (ℕ × ℕ)). length us) none in omega (arith, size));
    }
    by_cut (Some units) is begins =
        let fit = cuts_fit es units is in
        let size : length units.cuts ≡ length given + length begins.0 = ap (λ (us : List (ℕ × ℕ)). length us) begins.1 ∙ length-append given begins.0 in record {
          fits = fits_front (length es) 0 given begins.0 (subst (Fits (length es) 0) begins.1 fit.0);
          few = omega (arith, size, fit.1);
        }

-- the last unit of a stream ends where the stream does
spans_end : (from : ℕ) (cuts : List ℕ) (end : ℕ) (units : List (ℕ × ℕ)) (unit : ℕ × ℕ) → spans from cuts end ≡ units ++ unit ∷ [] → unit.1 ≡ end
spans_end from [] end [] unit is = let same : (let p : ℕ × ℕ = (from, end) in p) ≡ unit = cc in sym (ap (λ (p : ℕ × ℕ). p.1) same)
spans_end from [] end (u ∷ []) unit is = absurd cc
spans_end from [] end (u ∷ v ∷ us) unit is = absurd cc
spans_end from (c ∷ cs) end [] unit is = let none : spans c cs end ≡ [] = cc in absurd (no_spans c cs end none)
  where
    no_spans : (from : ℕ) (cuts : List ℕ) (end : ℕ) → spans from cuts end ≡ [] → ⊥
    no_spans from [] end is = cc
    no_spans from (c ∷ cs) end is = cc
spans_end from (c ∷ cs) end (u ∷ us) unit is = let more : spans c cs end ≡ us ++ unit ∷ [] = cc in spans_end c cs end us unit more

last_ends : (es : List ℕ) (units : Units) (before : List (ℕ × ℕ)) (unit : ℕ × ℕ) → cut_units es ≡ Some units → units.cuts ≡ before ++ unit ∷ [] → unit.1 ≡ length es
last_ends es units before unit is split = by_first (first_sequence es) is
  where
    by_first : (first : Option ℕ) →
        option_map (λ first. let u : Units = record { dropped = min (cuts_up_to es first) (2 ^ 32 - 1); cuts = spans first (cuts_behind es first) (length es) } in u) first ≡ Some units
        → unit.1 ≡ length es
    by_first None found = absurd cc
    by_first (Some first) found =
        let same : (let u : Units = record { dropped = min (cuts_up_to es first) (2 ^ 32 - 1); cuts = spans first (cuts_behind es first) (length es) } in u) ≡ units = cc in
        spans_end first (cuts_behind es first) (length es) before unit (ap (λ (u : Units). u.cuts) same ∙ split)

-- a unit that ends before the stream's end isn't the last one
record StandsBefore (es : List ℕ) (before : List (ℕ × ℕ)) (unit : ℕ × ℕ) : Type 0 where
  pub units : Units
  pub units_are : cut_units es ≡ Some units
  pub more : List (ℕ × ℕ)
  pub split : units.cuts ≡ before ++ unit ∷ more
  pub left : is_none_left more ≡ false

stands_before : (es : List ℕ) (before : List (ℕ × ℕ)) (unit : ℕ × ℕ) → unit.1 < length es → BeginWith (before ++ unit ∷ []) (cut_units es) → StandsBefore es before unit
stands_before es before unit less begin_with = by_cut (cut_units es) refl begin_with
  where
    by_more : (units : Units) → cut_units es ≡ Some units → (more : List (ℕ × ℕ)) → units.cuts ≡ before ++ unit ∷ more → StandsBefore es before unit
    by_more units is [] split = let ends : unit.1 ≡ length es = last_ends es units before unit is split in absurd (omega (arith, less, ends))
    by_more units is (u ∷ us) split = record { units = units; units_are = is; more = u ∷ us; split = split; left = refl }

    by_cut : (cut : Option Units) → cut_units es ≡ cut → BeginWith (before ++ unit ∷ []) cut → StandsBefore es before unit
    by_cut None is none =
        let size : length (before ++ unit ∷ []) ≡ 0 = ap (λ (us : List (ℕ × ℕ)). length us) none in
        absurd (omega (arith, size, length-append before (unit ∷ [])))
    by_cut (Some units) is begins = by_more units is begins.0 (begins.1 ∙ append_assoc before (unit ∷ []) begins.0)

-- the start code behind a unit that has ended stands before the last bytes
pub ended_before : (pushed : List ℕ) (given : List (ℕ × ℕ)) (cutter : UnitCutter) (unit : ℕ × ℕ) → HasCut pushed given cutter → ended_of cutter ≡ unit ∷ [] → unit.1 + 3 < length pushed
ended_before pushed given cutter unit has is = by_state cutter.ended cutter.cut.begin is has.cut.has
  where
    by_state : (ended begin : Option ℕ) → ended_from ended begin ≡ unit ∷ [] → HasUnits pushed (length pushed - 3) given begin cutter.cut.dropped → unit.1 + 3 < length pushed
    by_state None begin none units = absurd cc
    by_state (Some from) None none units = absurd cc
    by_state (Some from) (Some begin) one units =
        let same : (let p : ℕ × ℕ = (from, begin) in p) ≡ unit = cc in
        let end : begin ≡ unit.1 = ap (λ (p : ℕ × ℕ). p.1) same in
        omega (arith, end, units.before)

-- ---- places that were passed by

pub passed_later : (places : List ℕ) (packets : List PlacedPacket) (from to : ℕ) (walk : TimesWalk) → from ≤ to → HasPassed places packets from walk → HasPassed places packets to walk
passed_later places packets from to walk le has = record {
  places_within = has.places_within;
  packets_within = has.packets_within;
  places_before = λ k d lt. omega (arith, le, has.places_before k d lt);
  packets_before = λ k d lt. omega (arith, le, has.packets_before k d lt);
}

pub passed_longer : (places more : List ℕ) (packets later : List PlacedPacket) (bound : ℕ) (walk : TimesWalk) → HasPassed places packets bound walk
    → HasPassed (places ++ more) (packets ++ later) bound walk
passed_longer places more packets later bound walk has = record {
  places_within = omega (arith, has.places_within, length-append places more);
  packets_within = omega (arith, has.packets_within, length-append packets later);
  places_before = subst (All (λ (place : ℕ). place < bound)) (sym (take-append-le walk.place places more has.places_within)) has.places_before;
  packets_before = subst (All (λ (packet : PlacedPacket). packet.end ≤ bound)) (sym (take-append-le walk.packet packets later has.packets_within)) has.packets_before;
}

-- ---- times that are near

-- so many times are stated up to a place, and the last picture before it is near
record NearTo (es : List ℕ) (packets : List PlacedPacket) (last : Option TimedPicture) (i at : ℕ) : Type 0 where
  pub count : ℕ
  pub stated : AreStatedTo count at es packets
  pub near : IfSome last (IsPictureNear count i)

near_from : (es : List ℕ) (packets : List PlacedPacket) (size : ℕ) (earlier : List TimedPicture) (units : List (ℕ × ℕ)) (pictures : List TimedPicture) (count i from : ℕ)
    → length packets ≤ 4000000 → i + length units ≤ 1099511627777 → All (λ packet. IsInRange (decoding_time packet.header.times)) packets → AreInOrder es packets earlier units pictures
    → Fits size from units → LastTells earlier → AreStatedTo count from es packets → IfSome (nearest earlier) (IsPictureNear count i)
    → NearTo es packets (last_or (nearest earlier) pictures) (i + length units) (end_of from units)
near_from es packets size earlier [] [] count i from few units_few ranges are fits tells stated near = record {
  count = count;
  stated = stated;
  near = (let same : i ≡ i + 0 = omega arith in subst (λ (n : ℕ). IfSome (nearest earlier) (IsPictureNear count n)) same near);
}
near_from es packets size earlier [] (p ∷ ps) count i from few units_few ranges are fits tells stated near = absurd are
near_from es packets size earlier (u ∷ us) [] count i from few units_few ranges are fits tells stated near = absurd are
near_from es packets size earlier (u ∷ us) (p ∷ ps) count i from few units_few ranges are fits tells stated near =
    let next = are.0 in
    let behind = count_behind count (decoding_time p.times) in
    let stated_next : AreStatedTo behind u.1 es packets = stated_more count from u.0 u.1 es packets p.times fits.0 fits.1 next.times_are stated in
    let range : IsInRange (decoding_time p.times) = subst (λ (t : Times). IsInRange (decoding_time t)) (sym next.times_are) (range_of_unit es packets u ranges) in
    let near_p : IsPictureNear behind (i + 1) p =
    near_next es packets earlier u p count behind i range (by_nearest (nearest earlier) near) near (step_is count (decoding_time p.times)) tells next in
    let size_is : (i + 1) + length us ≡ i + length (u ∷ us) = omega arith in
    subst (λ (n : ℕ). NearTo es packets (last_or (Some p) ps) n (end_of u.1 us)) size_is
    (near_from es packets size (p ∷ earlier) us ps behind (i + 1) u.1 few (omega (arith, size_is, units_few)) ranges are.1 fits.3 next.reference stated_next near_p)
  where
    by_nearest : (last : Option TimedPicture) → IfSome last (IsPictureNear count i) → IfSome last IsPossible
    by_nearest None near = tt
    by_nearest (Some picture) near = possible_near picture count i (omega (arith, stated.few, few)) (omega (arith, units_few)) near

-- so the last picture is possible
pub possible_passed : (packets : List PesUnit) (places : VideoPlaces) (given : List (ℕ × ℕ)) (units : PassedUnits) (size : ℕ) → AreFew packets → length given ≤ 1099511627777 → Fits size 0 given
    → HavePassed packets places given units → IfSome units.kept.last IsPossible
possible_passed packets places given units size few units_few fits have =
    let es = joined packets in
    let ps = placed_from 0 packets in
    let count : length ps ≡ length packets = placed_count 0 packets in
    let ordered : AreInOrder es ps [] given have.pictures =
    subst (λ (qs : List PesUnit). AreInOrder (joined qs) (placed_from 0 qs) [] given have.pictures) (append-nil packets) (have.in_order []) in
    let near = near_from es ps size [] given have.pictures 0 0 0 (omega (arith, count, few.packets_few)) (omega (arith, units_few)) (placed_times 0 packets) ordered fits tt (stated_none packets) tt in
    subst (λ (last : Option TimedPicture). IfSome last IsPossible) (sym have.last_is)
    (by_last near.count (0 + length given) (last_of have.pictures) (omega (arith, near.stated.few, count, few.packets_few)) (omega (arith, units_few)) near.near)
  where
    by_last : (count i : ℕ) (last : Option TimedPicture) → count ≤ 4000000 → i ≤ 1099511627777 → IfSome last (IsPictureNear count i) → IfSome last IsPossible
    by_last count i None stated_few units_few near = tt
    by_last count i (Some picture) stated_few units_few near = possible_near picture count i stated_few units_few near

-- ---- one more unit is kept

pub have_more : (packets : List PesUnit) (places : VideoPlaces) (given : List (ℕ × ℕ)) (unit : ℕ × ℕ) (picture : TimedPicture) (old new : PassedUnits)
    → (have : HavePassed packets places given old) → IsKeptAs old.kept unit (Some picture) new.kept
    → ((more : List PesUnit) → IsNext (joined (packets ++ more)) (placed_from 0 (packets ++ more)) (all_earlier [] have.pictures) unit picture)
    → (new.wanted.are_wanted ≡ true → (more : List PesUnit)
    → AreSizedSoFar (joined (packets ++ more)) new.wanted.coarser.now (state_behind new.kept.last) (map kept_at new.kept.units.items) new.sizes.items)
    → new.wanted ≡ old.wanted → HasPassed places.pictures.items places.packets.items unit.1 new.times → HavePassed packets places (given ++ unit ∷ []) new
have_more packets places given unit picture old new have kept next sized wanted passed = record {
  pictures = have.pictures ++ picture ∷ [];
  in_order = λ more. order_push (joined (packets ++ more)) (placed_from 0 (packets ++ more)) [] given have.pictures unit picture (have.in_order more) (next more);
  rows = subst (λ (rs : List KeptUnit). AreRows (given ++ unit ∷ []) (have.pictures ++ picture ∷ []) rs) (sym kept.0)
      (rows_push given have.pictures old.kept.units.items unit picture (row_of unit picture) have.rows refl);
  first_is = kept.1 ∙ ap (λ (f : Option TimedPicture). Some (unwrap_or f picture)) have.first_is ∙ sym (first_push have.pictures picture);
  last_is = kept.2 ∙ sym (last_push have.pictures picture);
  none_dropped = kept.3 ∙ have.none_dropped;
  sized = sized;
  coarser = (let same : length new.wanted.coarser.now ≡ length old.wanted.coarser.now = ap (λ (w : SizesWanted). length w.coarser.now) wanted in omega (arith, same, have.coarser));
  passed = subst (λ (n : ℕ). HasPassed places.pictures.items places.packets.items n new.times) (sym (end_push 0 given unit)) passed;
}

-- ---- a unit that has ended is read

module _ (packets : List PesUnit) (places : VideoPlaces) (given : List (ℕ × ℕ)) (old : PassedUnits) (unit : CutUnit) (result : Result (Option TimedPicture) ProgramFault)
    (stand : Stand packets places) (have : HavePassed packets places given old) (read : IsReadAs places unit false old.kept.last result)
    (follows : Follows (length (joined packets)) (end_of 0 given) (place_of unit)) (ended : unit.end + 3 < length (joined packets))
    (bytes : unit.bytes.now ≡ unit_bytes (joined packets) (place_of unit)) where
  abbrev earlier_here : List TimedPicture
  earlier_here = all_earlier [] have.pictures

  nearest_here : nearest earlier_here ≡ old.kept.last
  nearest_here = nearest_last [] have.pictures ∙ sym have.last_is

  bytes_here : (more : List PesUnit) → unit.bytes.now ≡ unit_bytes (joined (packets ++ more)) (place_of unit)
  bytes_here more = bytes ∙ sym (bytes_always packets more (place_of unit) follows.order follows.within)

  found_here : (more : List PesUnit) → MatchResult result (IsFound (joined (packets ++ more)) (placed_from 0 (packets ++ more)) earlier_here old.kept.last (timed_as unit read.times false))
      (IsNotFound (joined (packets ++ more)) (placed_from 0 (packets ++ more)) old.kept.last (timed_as unit read.times false))
  found_here more =
      read.found (joined (packets ++ more)) (placed_from 0 (packets ++ more)) earlier_here (bytes_here more) nearest_here
      (last_tells (joined (packets ++ [])) (placed_from 0 (packets ++ [])) [] given have.pictures (have.in_order []) tt)
      (read.times_are packets stand follows.within ∙ sym (times_always packets more (place_of unit) ended))

  -- it is a picture, whatever packets follow
  pub next_here : (picture : TimedPicture) → result ≡ Ok (Some picture) → (more : List PesUnit)
      → IsNext (joined (packets ++ more)) (placed_from 0 (packets ++ more)) earlier_here (place_of unit) picture
  next_here picture is more =
      subst (λ (r : Result (Option TimedPicture) ProgramFault). MatchResult r (IsFound (joined (packets ++ more)) (placed_from 0 (packets ++ more)) earlier_here old.kept.last (timed_as unit read.times false))
      (IsNotFound (joined (packets ++ more)) (placed_from 0 (packets ++ more)) old.kept.last (timed_as unit read.times false))) is (found_here more)

  -- it isn't dropped
  pub some_here : result ≡ Ok None → ⊥
  some_here is =
      let none : (false ≡ true) × (refusal : Refusal) × (at : ℕ) × IsBroken (joined (packets ++ [])) old.kept.last (place_of unit) refusal at = subst (λ (r : Result (Option TimedPicture) ProgramFault). MatchResult r (IsFound (joined (packets ++ [])) (placed_from 0 (packets ++ [])) earlier_here old.kept.last (timed_as unit read.times false))
      (IsNotFound (joined (packets ++ [])) (placed_from 0 (packets ++ [])) old.kept.last (timed_as unit read.times false))) is (found_here []) in
      let last : false ≡ true = none.0 in
      cc

  -- or it is refused, whatever packets follow
  pub refused_here : (fault : ProgramFault) → result ≡ Err fault → (fault ≡ OutOfMemory → ⊥)
      → ((more : List PesUnit) → BeginWith (given ++ place_of unit ∷ []) (cut_units (joined (packets ++ more)))) → ((more : List PesUnit) → unit.end < length (joined (packets ++ more)))
      → AreRefused packets fault
  refused_here fault is some begin_with within more =
      let es = joined (packets ++ more) in
      let ps = placed_from 0 (packets ++ more) in
      let stands = stands_before es given (place_of unit) (within more) (begin_with more) in
      let refused : IsUnitRefused es ps old.kept.last (place_of unit) false fault =
      by_fault (subst (λ (r : Result (Option TimedPicture) ProgramFault). MatchResult r (IsFound es ps earlier_here old.kept.last (timed_as unit read.times false))
      (IsNotFound es ps old.kept.last (timed_as unit read.times false))) is (found_here more)) in record {
        units = stands.units;
        units_are = stands.units_are;
        fault_is = record {
          before = given;
          unit = place_of unit;
          more = stands.more;
          split = stands.split;
          pictures = have.pictures;
          in_order = have.in_order more;
          refused = subst (λ (l : Bool). IsUnitRefused es ps (last_of have.pictures) (place_of unit) l fault) (sym stands.left)
              (subst (λ (b : Option TimedPicture). IsUnitRefused es ps b (place_of unit) false fault) have.last_is refused);
        };
      }
    where
      by_fault : (fault ≡ OutOfMemory) ⊎ IsUnitRefused (joined (packets ++ more)) (placed_from 0 (packets ++ more)) old.kept.last (place_of unit) false fault
          → IsUnitRefused (joined (packets ++ more)) (placed_from 0 (packets ++ more)) old.kept.last (place_of unit) false fault
      by_fault (inl memory) = absurd (some memory)
      by_fault (inr refused) = refused

  -- its sizes
  pub sized_here : (picture : TimedPicture) (behind : PassedUnits) → result ≡ Ok (Some picture) → IsKeptAs old.kept (place_of unit) (Some picture) behind.kept → behind.wanted ≡ old.wanted
      → IsSizedFound (state_behind old.kept.last) unit.bytes.now old.wanted.coarser.now old.wanted.are_wanted old.sizes.items behind.sizes.items (Some picture)
      → behind.wanted.are_wanted ≡ true → (more : List PesUnit)
      → AreSizedSoFar (joined (packets ++ more)) behind.wanted.coarser.now (state_behind behind.kept.last) (map kept_at behind.kept.units.items) behind.sizes.items
  sized_here picture behind is kept wanted sized =
      subst (λ (w : SizesWanted). w.are_wanted ≡ true → (more : List PesUnit)
      → AreSizedSoFar (joined (packets ++ more)) w.coarser.now (state_behind behind.kept.last) (map kept_at behind.kept.units.items) behind.sizes.items) (sym wanted)
      (λ want more.
      let es = joined (packets ++ more) in
      let within : unit.end ≤ length es = omega (arith, follows.within, longer packets more) in
      let own : IsSizedBehind (state_behind old.kept.last) (unit_bytes es (place_of unit)) old.wanted.coarser.now old.wanted.are_wanted old.sizes.items behind.sizes.items =
      subst (λ (xs : List ℕ). IsSizedBehind (state_behind old.kept.last) xs old.wanted.coarser.now old.wanted.are_wanted old.sizes.items behind.sizes.items) (bytes_here more) sized in
      sized_more es es (placed_from 0 (packets ++ more)) old.wanted.coarser.now old.wanted.are_wanted earlier_here old.kept.last (place_of unit) picture old.kept behind.kept old.sizes.items
      behind.sizes.items refl refl nearest_here follows.order within (next_here picture is more) own kept.0 kept.2 (λ want. have.sized want more) want)

-- ---- times that are looked up

-- places and packets as slices
pub passed_slices : (places pictures : List ℕ) (packets placed : List PlacedPacket) (bound : ℕ) (walk : TimesWalk) → pictures ≡ places → placed ≡ packets → HasPassed places packets bound walk
    → HasPassed pictures placed bound walk
passed_slices places pictures packets placed bound walk pictures_are placed_are has =
    subst (λ (ks : List ℕ). HasPassed ks placed bound walk) (sym pictures_are) (subst (λ (ps : List PlacedPacket). HasPassed places ps bound walk) (sym placed_are) has)

pub slices_passed : (places pictures : List ℕ) (packets placed : List PlacedPacket) (bound : ℕ) (walk : TimesWalk) → pictures ≡ places → placed ≡ packets → HasPassed pictures placed bound walk
    → HasPassed places packets bound walk
slices_passed places pictures packets placed bound walk pictures_are placed_are has =
    subst (λ (ks : List ℕ). HasPassed ks packets bound walk) pictures_are (subst (λ (ps : List PlacedPacket). HasPassed pictures ps bound walk) placed_are has)

-- a unit's times are its own among the PES packets that have passed
pub looked_up : (packets : List PesUnit) (places : VideoPlaces) (pictures : List ℕ) (placed : List PlacedPacket) (begin end : ℕ) (times : Times) → Stand packets places
    → end ≤ length (joined packets) → pictures ≡ places.pictures.items → placed ≡ places.packets.items
    → ((es : List ℕ) → picture_places es ≡ pictures → Join 0 placed (length es) → end ≤ length es → times ≡ times_of_unit es placed (begin, end))
    → times ≡ times_of_unit (joined packets) (placed_from 0 packets) (begin, end)
looked_up packets places pictures placed begin end times stand within pictures_are placed_are tell =
    let placed_is : placed ≡ placed_from 0 packets = placed_are ∙ stand.placed in
    tell (joined packets) (stand.found.all ∙ sym pictures_are) (subst (λ (ps : List PlacedPacket). Join 0 ps (length (joined packets))) (sym placed_is) (joins_all packets)) within
    ∙ ap (λ (ps : List PlacedPacket). times_of_unit (joined packets) ps (begin, end)) placed_is

pub looked_range : (packets : List PesUnit) (unit : ℕ × ℕ) (times : Times) → times ≡ times_of_unit (joined packets) (placed_from 0 packets) unit → IsInRange (decoding_time times)
looked_range packets unit times are =
    subst (λ (t : Times). IsInRange (decoding_time t)) (sym are) (range_of_unit (joined packets) (placed_from 0 packets) unit (placed_times 0 packets))
