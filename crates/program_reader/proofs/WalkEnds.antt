-- A walk over the PES packets of a video at its begin and at its end.
use Rattle.std.proofs.Common.{◌≡◌, ◌⊎◌, ℕ, ◌+◌, ◌-◌, ◌<◌, ◌≤◌, ◌^◌, min, Bool, true, false, List, [], ◌∷◌, ◌++◌, length, drop, map, All, Option, Some, None, IfSome, unwrap_or, Result, Ok, Err, IfOk, MatchResult, if◌then◌else◌, refl, sym, ap, ◌∙◌, subst, inl, inr, arith}
use Rattle.std.proofs.lemmas.List.{append-nil, length-append, length-take, take_all}
use Rattle.es_units.specs.declared.unit_cutter.CutUnit.{CutUnit}
use Rattle.es_units.specs.declared.unit_cutter.UnitCutter.{UnitCutter}
use Rattle.es_units.specs.declared.units.Units.{Units}
use Rattle.es_units.specs.UnitCutter.{BeginWith, HasCut, front_of, most_kept, place_of, units_dropped}
use Rattle.es_units.specs.Units.{cut_units}
use Rattle.pes_units.specs.declared.pes_header.PesHeader.{PesHeader}
use Rattle.pes_units.specs.PesHeader.{pes_fields_of}
use Rattle.pes_units.specs.PesPackets.{is_dropped, last_refusal, packet_refusal}
use Rattle.picture_grammar.specs.Refusal.{Refusal}
use Rattle.ts_demux.specs.declared.demuxed.Demuxed.{Demuxed}
use Rattle.ts_demux.specs.declared.demuxed.PesUnit.{PesUnit}
use Rattle.version_table.specs.declared.limits.TheConstants.{VERSIONS_MOST}
use Rattle.program_reader.specs.declared.kept_units.KeptUnit.{KeptUnit}
use Rattle.program_reader.specs.declared.kept_units.KeptUnits.{KeptUnits}
use Rattle.program_reader.specs.declared.limits.TheConstants.{FILE_BYTES_MOST}
use Rattle.program_reader.specs.declared.passed_units.PassedUnits.{PassedUnits}
use Rattle.elementary_streams.specs.declared.pes_packets.PlacedPacket.{PlacedPacket}
use Rattle.elementary_streams.specs.declared.stream_fault.StreamFault.TheVariants as stream_faults
use Rattle.elementary_streams.specs.declared.stream_fault.StreamFault.TheVariants.{Pes}
use Rattle.program_reader.specs.declared.program_fault.ProgramFault.{ProgramFault}
use Rattle.program_reader.specs.declared.program_fault.ProgramFault.TheVariants.{OutOfMemory, Refused}
use Rattle.program_reader.specs.declared.program_fault.SourceKind.TheVariants as kinds
use Rattle.program_reader.specs.declared.timed_picture.TimedPicture.{TimedPicture}
use Rattle.program_reader.specs.declared.unit_sizes.UnitSizes.{UnitSizes}
use Rattle.program_reader.specs.declared.video_places.VideoPlaces.{VideoPlaces}
use Rattle.program_reader.specs.declared.video_walk.WalkedVideo.{WalkedVideo}
use Rattle.program_reader.specs.KeptUnits.{AreRows, first_of, row_of, kept_at}
use Rattle.program_reader.specs.Intervals.{nearest}
use Rattle.elementary_streams.specs.Packets.{AreSound, IsPacketFault, joined, packets_dropped, placed_from, taken}
use Rattle.program_reader.specs.Programs.{HasUnits, IsDemuxedRefused, video_bytes, video_packets}
use Rattle.program_reader.specs.Sizes.{AreSizedSoFar, AreUnitSizes}
use Rattle.program_reader.specs.TimesWalk.{HasPassed}
use Rattle.program_reader.specs.Units.{AreInOrder, AreKept, IsBroken, IsNext, IsUnitRefused, IsUnitsFault, last_of, state_behind, unit_bytes}
use Rattle.program_reader.specs.VideoWalk.{AreAll, AreFew, AreRefused, HasUnitFault, HavePassed, IsFaultBefore, IsVideoWalked, ReadsTo, Stand, end_of}
use Rattle.program_reader.specs.Private.PassedVideo.{IsKeptAs, timed_as, IsReadAs, IsVideoOf}
use Rattle.program_reader.specs.Private.SizedUnits.{IsSizedBehind, IsSizedFound}
use Rattle.program_reader.specs.Private.PassedVideo.{IsFaultOf}
use Rattle.program_reader.specs.Private.TimedPictures.{IsFound, IsNotFound, IsPossible}
use Rattle.program_reader.proofs.KeepLemmas.{all_earlier, first_push, last_tells, nearest_last, order_push, rows_push}
use Rattle.program_reader.proofs.PassedLemmas.{AreGiven, Follows, fits_front, fits_last, given_of, passed_later, possible_passed}
use Rattle.program_reader.proofs.ProgramLemmas.{first_none, first_some, none_kept, nothing_kept}
use Rattle.program_reader.proofs.SameTimes.{longer}
use Rattle.program_reader.proofs.SizedLemmas.{sized_all, sized_more, sized_none}
use Rattle.elementary_streams.proofs.TakenLemmas.{IsWhole, count_dropped, count_taken, dropped_of, read_none, read_some, refused_last, sound_of, taken_of}

-- ---- before the first packet

pub reads_none : (places : VideoPlaces) (cutter : UnitCutter) (units : PassedUnits) → Stand [] places → HasCut [] [] cutter → most_kept cutter ≡ FILE_BYTES_MOST
    → units.kept.units.items ≡ [] → units.kept.first ≡ None → units.kept.last ≡ None → units.kept.dropped ≡ 0 → units.sizes.items ≡ []
    → HasPassed places.pictures.items places.packets.items 0 units.times → length units.wanted.coarser.now < VERSIONS_MOST → ReadsTo [] 0 places cutter units
reads_none places cutter units stand cut most none first last dropped sizes passed coarser = record {
  stand = stand;
  within = omega arith;
  given = [];
  cut = cut;
  most = most;
  read = record {
    pictures = [];
    in_order = λ more. tt;
    rows = subst (AreRows [] []) (sym none) tt;
    first_is = first;
    last_is = last;
    none_dropped = dropped;
    sized = λ want more. sized_none (joined more) units.wanted.coarser.now units.kept.last units.kept.units.items units.sizes.items none last sizes;
    coarser = coarser;
    passed = passed;
  };
}

-- ---- the last unit

-- the units of a video that are kept at its end, as pictures in order
pub record IsWalkKept (es : List ℕ) (packets : List PlacedPacket) (cuts : List (ℕ × ℕ)) (kept : KeptUnits) : Type 0 where
  pub units : List (ℕ × ℕ)
  pub pictures : List TimedPicture
  pub kept_are : AreKept es packets cuts units pictures kept.dropped
  pub in_order : AreInOrder es packets [] units pictures
  pub rows : AreRows units pictures kept.units.items
  pub first_is : kept.first ≡ first_of pictures

module _ (packets : List PesUnit) (places : VideoPlaces) (cutter : UnitCutter) (units : PassedUnits) (few : AreFew packets)
    (reads : ReadsTo packets (length (joined packets)) places cutter units) where
  abbrev es : List ℕ
  es = joined packets

  abbrev ps : List PlacedPacket
  ps = placed_from 0 packets

  pub cut_all : HasCut es reads.given cutter
  cut_all = subst (λ (xs : List ℕ). HasCut xs reads.given cutter) (take_all (length es) es (omega arith)) reads.cut

  abbrev have : HavePassed packets places reads.given units
  have = reads.read

  module _ (unit : CutUnit)
      (cut_is : cut_units es ≡ Some (let u : Units = record { dropped = units_dropped cutter; cuts = reads.given ++ place_of unit ∷ [] } in u))
      (own : unit.bytes.now ≡ front_of (most_kept cutter) es (place_of unit)) where
    given_last : AreGiven es (reads.given ++ place_of unit ∷ [])
    given_last =
        given_of es (reads.given ++ place_of unit ∷ [])
        (let all : BeginWith (reads.given ++ place_of unit ∷ []) (Some (let u : Units = record { dropped = units_dropped cutter; cuts = reads.given ++ place_of unit ∷ [] } in u)) =
        ([], sym (append-nil (reads.given ++ place_of unit ∷ []))) in
        subst (BeginWith (reads.given ++ place_of unit ∷ [])) (sym cut_is) all)

    pub follows_last : Follows (length es) (end_of 0 reads.given) (place_of unit)
    follows_last = fits_last (length es) 0 reads.given (place_of unit) given_last.fits

    pub few_last : length reads.given < 1099511627777
    few_last = omega (arith, given_last.few, few.bytes_few, length-append reads.given (place_of unit ∷ []))

    size_last : length (unit_bytes es (place_of unit)) ≤ 1099511627776
    size_last =
        let size : length (unit_bytes es (place_of unit)) ≡ min (unit.end - unit.begin) (length (drop unit.begin es)) = length-take (unit.end - unit.begin) (drop unit.begin es) in
        omega (arith, size, follows_last.within, few.bytes_few)

    pub bytes_last : unit.bytes.now ≡ unit_bytes es (place_of unit)
    bytes_last =
        let most : most_kept cutter ≡ 1099511627776 = reads.most in
        own ∙ take_all (most_kept cutter) (unit_bytes es (place_of unit)) (omega (arith, most, size_last))

    pub short_last : length unit.bytes.now ≤ 1099511627776
    short_last =
        let same : length unit.bytes.now ≡ length (unit_bytes es (place_of unit)) = ap (λ (xs : List ℕ). length xs) bytes_last in
        omega (arith, same, size_last)

    pub passed_last : HasPassed places.pictures.items places.packets.items unit.begin units.times
    passed_last = passed_later places.pictures.items places.packets.items (end_of 0 reads.given) unit.begin units.times follows_last.begun reads.read.passed

    pub possible_last : IfSome units.kept.last IsPossible
    possible_last =
        possible_passed packets places reads.given units (length es) few (omega (arith, few_last)) (fits_front (length es) 0 reads.given (place_of unit ∷ []) given_last.fits) have

    module _ (behind : PassedUnits) (result : Result (Option TimedPicture) ProgramFault) (read : IsReadAs places unit true units.kept.last result) where
      abbrev earlier : List TimedPicture
      earlier = all_earlier [] have.pictures

      order_all : AreInOrder es ps [] reads.given have.pictures
      order_all = subst (λ (qs : List PesUnit). AreInOrder (joined qs) (placed_from 0 qs) [] reads.given have.pictures) (append-nil packets) (have.in_order [])

      nearest_all : nearest earlier ≡ units.kept.last
      nearest_all = nearest_last [] have.pictures ∙ sym have.last_is

      found_all : MatchResult result (IsFound es ps earlier units.kept.last (timed_as unit read.times true)) (IsNotFound es ps units.kept.last (timed_as unit read.times true))
      found_all =
          read.found es ps earlier bytes_last nearest_all (last_tells es ps [] reads.given have.pictures order_all tt) (read.times_are packets reads.stand follows_last.within)

      next_all : (picture : TimedPicture) → result ≡ Ok (Some picture) → IsNext es ps earlier (place_of unit) picture
      next_all picture is =
          subst (λ (r : Result (Option TimedPicture) ProgramFault). MatchResult r (IsFound es ps earlier units.kept.last (timed_as unit read.times true))
          (IsNotFound es ps units.kept.last (timed_as unit read.times true))) is found_all

      -- it is a picture
      kept_some : (picture : TimedPicture) → result ≡ Ok (Some picture) → IsKeptAs units.kept (place_of unit) (Some picture) behind.kept
          → IsWalkKept es ps (reads.given ++ place_of unit ∷ []) behind.kept
      kept_some picture is kept = record {
        units = reads.given ++ place_of unit ∷ [];
        pictures = have.pictures ++ picture ∷ [];
        kept_are = AreKept.all refl (order_push es ps [] reads.given have.pictures (place_of unit) picture order_all (next_all picture is)) (kept.3 ∙ have.none_dropped);
        in_order = order_push es ps [] reads.given have.pictures (place_of unit) picture order_all (next_all picture is);
        rows = subst (λ (rs : List KeptUnit). AreRows (reads.given ++ place_of unit ∷ []) (have.pictures ++ picture ∷ []) rs) (sym kept.0)
            (rows_push reads.given have.pictures units.kept.units.items (place_of unit) picture (row_of (place_of unit) picture) have.rows refl);
        first_is = kept.1 ∙ ap (λ (f : Option TimedPicture). Some (unwrap_or f picture)) have.first_is ∙ sym (first_push have.pictures picture);
      }

      -- it is dropped
      kept_none : result ≡ Ok None → IsKeptAs units.kept (place_of unit) None behind.kept → IsWalkKept es ps (reads.given ++ place_of unit ∷ []) behind.kept
      kept_none is kept =
          let broken : (true ≡ true) × (refusal : Refusal) × (at : ℕ) × IsBroken es units.kept.last (place_of unit) refusal at =
          subst (λ (r : Result (Option TimedPicture) ProgramFault). MatchResult r (IsFound es ps earlier units.kept.last (timed_as unit read.times true))
          (IsNotFound es ps units.kept.last (timed_as unit read.times true))) is found_all in
          let own_broken : IsBroken es (last_of have.pictures) (place_of unit) broken.1 broken.2 =
          subst (λ (b : Option TimedPicture). IsBroken es b (place_of unit) broken.1 broken.2) have.last_is broken.3 in record {
            units = reads.given;
            pictures = have.pictures;
            kept_are = AreKept.but_last (place_of unit) broken.1 broken.2 refl order_all own_broken kept.3;
            in_order = order_all;
            rows = subst (AreRows reads.given have.pictures) (sym kept.0) have.rows;
            first_is = kept.1 ∙ have.first_is;
          }

      pub kept_end : (found : Option TimedPicture) → result ≡ Ok found → IsKeptAs units.kept (place_of unit) found behind.kept
          → IsWalkKept es ps (reads.given ++ place_of unit ∷ []) behind.kept
      kept_end None is kept = kept_none is kept
      kept_end (Some picture) is kept = kept_some picture is kept

      -- or it is refused
      pub refused_end : (fault : ProgramFault) → result ≡ Err fault → (fault ≡ OutOfMemory) ⊎ IsUnitsFault es ps (reads.given ++ place_of unit ∷ []) fault
      refused_end fault is =
          by_fault (subst (λ (r : Result (Option TimedPicture) ProgramFault). MatchResult r (IsFound es ps earlier units.kept.last (timed_as unit read.times true))
          (IsNotFound es ps units.kept.last (timed_as unit read.times true))) is found_all)
        where
          by_fault : (fault ≡ OutOfMemory) ⊎ IsUnitRefused es ps units.kept.last (place_of unit) true fault
              → (fault ≡ OutOfMemory) ⊎ IsUnitsFault es ps (reads.given ++ place_of unit ∷ []) fault
          by_fault (inl memory) = inl memory
          by_fault (inr refused) = inr (record {
            before = reads.given;
            unit = place_of unit;
            more = [];
            split = refl;
            pictures = have.pictures;
            in_order = order_all;
            refused = subst (λ (b : Option TimedPicture). IsUnitRefused es ps b (place_of unit) true fault) have.last_is refused;
          })

      -- the sizes of those before it
      sized_here : units.wanted.are_wanted ≡ true → AreSizedSoFar es units.wanted.coarser.now (state_behind units.kept.last) (map kept_at units.kept.units.items) units.sizes.items
      sized_here want =
          subst (λ (qs : List PesUnit). AreSizedSoFar (joined qs) units.wanted.coarser.now (state_behind units.kept.last) (map kept_at units.kept.units.items) units.sizes.items) (append-nil packets)
          (have.sized want [])

      -- the sizes of all
      pub sized_end : (found : Option TimedPicture) → result ≡ Ok found → IsKeptAs units.kept (place_of unit) found behind.kept → behind.wanted ≡ units.wanted
          → IsSizedFound (state_behind units.kept.last) unit.bytes.now units.wanted.coarser.now units.wanted.are_wanted units.sizes.items behind.sizes.items found
          → units.wanted.are_wanted ≡ true → AreUnitSizes es units.wanted.coarser.now None (map kept_at behind.kept.units.items) behind.sizes.items
      sized_end None is kept wanted sized want =
          subst (λ (ss : List UnitSizes). AreUnitSizes es units.wanted.coarser.now None (map kept_at behind.kept.units.items) ss) (sym sized)
          (subst (λ (rows : List KeptUnit). AreUnitSizes es units.wanted.coarser.now None (map kept_at rows) units.sizes.items) (sym kept.0)
          (sized_all es units.wanted.coarser.now (state_behind units.kept.last) (map kept_at units.kept.units.items) units.sizes.items (sized_here want)))
      sized_end (Some picture) is kept wanted sized want =
          let own_sized : IsSizedBehind (state_behind units.kept.last) (unit_bytes es (place_of unit)) units.wanted.coarser.now units.wanted.are_wanted units.sizes.items behind.sizes.items =
          subst (λ (xs : List ℕ). IsSizedBehind (state_behind units.kept.last) xs units.wanted.coarser.now units.wanted.are_wanted units.sizes.items behind.sizes.items) bytes_last sized in
          sized_all es units.wanted.coarser.now (state_behind behind.kept.last) (map kept_at behind.kept.units.items) behind.sizes.items
          (sized_more es es ps units.wanted.coarser.now units.wanted.are_wanted earlier units.kept.last (place_of unit) picture units.kept behind.kept units.sizes.items behind.sizes.items refl refl
          nearest_all follows_last.order follows_last.within (next_all picture is) own_sized kept.0 kept.2 sized_here want)

-- ---- what is answered

module _ (demuxed : Demuxed) (packets : List PesUnit) (taken_is : taken true demuxed.video ≡ packets) (sound : AreSound true demuxed.video) where
  -- a unit was refused
  pub answer_refused : (fault : ProgramFault) → AreRefused packets fault → IsDemuxedRefused demuxed fault
  answer_refused fault refused =
      let all : HasUnitFault (joined packets) (placed_from 0 packets) fault =
      subst (λ (ps : List PesUnit). HasUnitFault (joined ps) (placed_from 0 ps) fault) (append-nil packets) (refused []) in
      let own : HasUnitFault (video_bytes demuxed) (video_packets demuxed) fault = subst (λ (ps : List PesUnit). HasUnitFault (joined ps) (placed_from 0 ps) fault) (sym taken_is) all in
      IsDemuxedRefused.bad_unit own.units (record { sound = sound; units_are = own.units_are }) own.fault_is

  -- no sequence header stands
  pub answer_none : cut_units (joined packets) ≡ None → IsDemuxedRefused demuxed (Refused kinds.NoSequence 0)
  answer_none none = IsDemuxedRefused.no_sequence (sound, inl (ap (λ (ps : List PesUnit). cut_units (joined ps)) taken_is ∙ none)) refl

  -- the last unit is refused
  pub answer_last : (units : Units) (fault : ProgramFault) → cut_units (joined packets) ≡ Some units
      → (fault ≡ OutOfMemory) ⊎ IsUnitsFault (joined packets) (placed_from 0 packets) units.cuts fault → (fault ≡ OutOfMemory) ⊎ IsDemuxedRefused demuxed fault
  answer_last units fault units_are (inl memory) = inl memory
  answer_last units fault units_are (inr refused) =
      inr (IsDemuxedRefused.bad_unit units (record { sound = sound; units_are = ap (λ (ps : List PesUnit). cut_units (joined ps)) taken_is ∙ units_are })
      (subst (λ (ps : List PesUnit). IsUnitsFault (joined ps) (placed_from 0 ps) units.cuts fault) (sym taken_is) refused))

  -- all units are read
  pub answer_units : (units : Units) (read : PassedUnits) (dropped pes_dropped : ℕ) (result : Result WalkedVideo ProgramFault) → cut_units (joined packets) ≡ Some units
      → IsWalkKept (joined packets) (placed_from 0 packets) units.cuts read.kept → dropped ≡ units.dropped → pes_dropped ≡ packets_dropped true demuxed.video
      → MatchResult result (IsVideoOf read dropped pes_dropped) (λ fault. (read.kept.first ≡ None) × (fault ≡ Refused kinds.NoSequence 0))
      → MatchResult result (IsVideoWalked demuxed) (λ fault. (fault ≡ OutOfMemory) ⊎ IsDemuxedRefused demuxed fault)
  answer_units units read dropped pes_dropped (Ok video) units_are is dropped_is pes_is walked =
      let begins = first_some is.pictures video.first (sym is.first_is ∙ walked.first_is) in record {
        kept = is.units;
        pictures = is.pictures;
        has_pictures = record {
          units = units;
          has_units = record { sound = sound; units_are = ap (λ (ps : List PesUnit). cut_units (joined ps)) taken_is ∙ units_are };
          at_end = read.kept.dropped;
          kept_are = subst (λ (ps : List PesUnit). AreKept (joined ps) (placed_from 0 ps) units.cuts is.units is.pictures read.kept.dropped) (sym taken_is) is.kept_are;
          later = begins.0;
          first_is = begins.1;
          dropped_is = walked.dropped_is ∙ ap (λ (n : ℕ). min (n + read.kept.dropped) (2 ^ 32 - 1)) dropped_is;
        };
        rows = subst (AreRows is.units is.pictures) (sym walked.rows_are) is.rows;
        pes_dropped_is = walked.pes_dropped_is ∙ pes_is;
      }
  answer_units units read dropped pes_dropped (Err fault) units_are is dropped_is pes_is none =
      let no_pictures : is.pictures ≡ [] = first_none is.pictures (sym is.first_is ∙ none.0) in
      let no_units : is.units ≡ [] = none_kept (joined packets) (placed_from 0 packets) [] is.units is.pictures is.in_order no_pictures in
      let has : HasUnits demuxed units = record { sound = sound; units_are = ap (λ (ps : List PesUnit). cut_units (joined ps)) taken_is ∙ units_are } in
      inr (subst (IsDemuxedRefused demuxed) (sym none.1)
      (IsDemuxedRefused.no_sequence
      (nothing_kept demuxed units is.units is.pictures read.kept.dropped has no_units no_pictures
      (subst (λ (ps : List PesUnit). AreKept (joined ps) (placed_from 0 ps) units.cuts is.units is.pictures read.kept.dropped) (sym taken_is) is.kept_are)) refl))

-- their sizes
pub walked_sizes : (bytes coarser : List ℕ) (read : PassedUnits) (dropped pes_dropped : ℕ) (result : Result WalkedVideo ProgramFault)
    → AreUnitSizes bytes coarser None (map kept_at read.kept.units.items) read.sizes.items
    → MatchResult result (IsVideoOf read dropped pes_dropped) (λ fault. (read.kept.first ≡ None) × (fault ≡ Refused kinds.NoSequence 0))
    → IfOk result (λ video. AreUnitSizes bytes coarser None (map kept_at video.units.items) video.sizes.items)
walked_sizes bytes coarser read dropped pes_dropped (Err fault) sized walked = tt
walked_sizes bytes coarser read dropped pes_dropped (Ok video) sized walked =
    subst (λ (rows : List KeptUnit). AreUnitSizes bytes coarser None (map kept_at rows) video.sizes.items) (sym walked.rows_are)
    (subst (λ (ss : List UnitSizes). AreUnitSizes bytes coarser None (map kept_at read.kept.units.items) ss) (sym walked.sizes_are) sized)

-- ---- the last packet

-- fewer packets are few too
pub few_front : (packets : List PesUnit) (last : PesUnit) → AreFew (packets ++ last ∷ []) → AreFew packets
few_front packets last few = record {
  packets_few = omega (arith, few.packets_few, length-append packets (last ∷ []));
  bytes_few = omega (arith, few.bytes_few, longer packets (last ∷ []));
}

-- what a whole video's packets are, by its last one
pub record EndsWith (packets : List PesUnit) (dropped : ℕ) (all : List PesUnit) : Type 0 where
  pub sound : AreSound true all
  pub taken_are : taken true all ≡ packets
  pub dropped_are : dropped ≡ packets_dropped true all

pub ends_none : (packets all : List PesUnit) → packets ≡ [] → all ≡ [] → EndsWith packets 0 all
ends_none packets all none empty = record {
  sound = subst (AreSound true) (sym empty) tt;
  taken_are = ap (taken true) empty ∙ sym none;
  dropped_are = sym (ap (packets_dropped true) empty);
}

pub known_last : (packets all : List PesUnit) (given : Option PesUnit) (last : PesUnit) → given ≡ Some last → AreAll packets given all → all ≡ packets ++ last ∷ []
known_last packets all given last is are = subst (λ (some : Option PesUnit). AreAll packets some all) is are

-- the header of a last packet tells whether it is dropped
pub ends_some : (packets all : List PesUnit) (last : PesUnit) (found : Option PesHeader) (header : PesHeader) → All (IsWhole true) packets → all ≡ packets ++ last ∷ []
    → last_refusal true last.bytes ≡ None → found ≡ (if is_dropped true last.bytes then None else Some (pes_fields_of last.bytes)) → found ≡ Some header
    → EndsWith (packets ++ last ∷ []) 0 all × (header ≡ pes_fields_of last.bytes)
ends_some packets all last found header whole all_are sound found_is some =
    let kept = read_some (is_dropped true last.bytes) found header (pes_fields_of last.bytes) found_is some in (
      record {
        sound = subst (AreSound true) (sym all_are) (sound_of true packets last whole sound);
        taken_are = ap (taken true) all_are ∙ taken_of true packets last ∙ ap (λ (more : List PesUnit). packets ++ more) (taken_here (is_dropped true last.bytes) kept.0);
        dropped_are = count_taken (is_dropped true last.bytes) kept.0 ∙ sym (ap (packets_dropped true) all_are ∙ dropped_of true packets last);
      },
      kept.1,
    )
  where
    taken_here : (dropped : Bool) → dropped ≡ false → (if dropped then [] else last ∷ []) ≡ last ∷ []
    taken_here dropped is = rw is refl

pub ends_dropped : (packets all : List PesUnit) (last : PesUnit) (found : Option PesHeader) → All (IsWhole true) packets → all ≡ packets ++ last ∷ [] → last_refusal true last.bytes ≡ None
    → found ≡ (if is_dropped true last.bytes then None else Some (pes_fields_of last.bytes)) → found ≡ None → EndsWith packets 1 all
ends_dropped packets all last found whole all_are sound found_is none =
    let cut = read_none (is_dropped true last.bytes) found (pes_fields_of last.bytes) found_is none in record {
      sound = subst (AreSound true) (sym all_are) (sound_of true packets last whole sound);
      taken_are = ap (taken true) all_are ∙ taken_of true packets last ∙ ap (λ (more : List PesUnit). packets ++ more) (taken_here (is_dropped true last.bytes) cut) ∙ append-nil packets;
      dropped_are = count_dropped (is_dropped true last.bytes) cut ∙ sym (ap (packets_dropped true) all_are ∙ dropped_of true packets last);
    }
  where
    taken_here : (dropped : Bool) → dropped ≡ true → (if dropped then [] else last ∷ []) ≡ []
    taken_here dropped is = rw is refl

-- a packet that another one follows has this fault
pub fault_whole : (packets : List PesUnit) (packet : PesUnit) (fault : ProgramFault) → All (IsWhole true) packets → IsFaultOf packet.at (packet_refusal true packet.bytes) fault
    → (fault ≡ OutOfMemory) ⊎ IsFaultBefore packets packet fault
fault_whole packets packet fault whole (inl memory) = inl memory
fault_whole packets packet fault whole (inr found) = inr (λ next more. (
  Pes packet.at found.0,
  record {
    before = packets;
    packet = packet;
    more = next ∷ more;
    split = refl;
    sound = whole;
    found = found.0;
    refused = found.1;
    fault_is = refl;
  },
  found.2,
))

-- the last packet has this fault
pub fault_last : (demuxed : Demuxed) (packets : List PesUnit) (last : PesUnit) (fault : ProgramFault) → demuxed.video ≡ packets ++ last ∷ [] → All (IsWhole true) packets
    → IsFaultOf last.at (last_refusal true last.bytes) fault → (fault ≡ OutOfMemory) ⊎ IsDemuxedRefused demuxed fault
fault_last demuxed packets last fault all_are whole (inl memory) = inl memory
fault_last demuxed packets last fault all_are whole (inr found) =
    by_fault (refused_last true demuxed.video packets last (Pes last.at found.0) all_are whole (inr (found.0, found.1, refl)))
  where
    by_fault : (Pes last.at found.0 ≡ stream_faults.OutOfMemory) ⊎ IsPacketFault true demuxed.video (Pes last.at found.0) → (fault ≡ OutOfMemory) ⊎ IsDemuxedRefused demuxed fault
    by_fault (inl memory) = absurd cc
    by_fault (inr is) = inr (IsDemuxedRefused.bad_packet (Pes last.at found.0) is found.2)
