-- A walk over the PES packets of a video, one more packet or unit further, and at its end.
use Rattle.std.proofs.Common.{◌≡◌, ℕ, ◌+◌, ◌-◌, ◌<◌, ◌≤◌, min, true, false, List, [], ◌∷◌, ◌++◌, length, take, drop, map, slice_range, Option, Some, None, IfSome, is_some, Result, Ok, Err, refl, sym, ap, ◌∙◌, subst, arith}
use Rattle.std.proofs.Math.Seq.{drop-append_seam, take-append_seam}
use Rattle.std.proofs.lemmas.List.{append-nil, append_assoc, drop-drop, length-append, length-drop, length-take, length-take-le, take-append-drop, take_all, take_rest}
use Rattle.std.specs.Option.{option_to_list}
use Rattle.es_units.specs.declared.picture_finder.PictureFinder.{PictureFinder}
use Rattle.es_units.specs.declared.unit_cutter.CutUnit.{CutUnit}
use Rattle.es_units.specs.declared.unit_cutter.UnitCutter.{UnitCutter}
use Rattle.es_units.specs.PictureFinder.{HasFound, found_of, picture_places}
use Rattle.es_units.specs.UnitCutter.{BeginWith, HasCut, bytes_pushed, ended_of, front_of, most_kept, place_of}
use Rattle.es_units.specs.Units.{cut_units}
use Rattle.es_units.proofs.CutterKeeps.{take_sum}
use Rattle.pes_units.specs.declared.pes_header.PesHeader.{PesHeader}
use Rattle.pes_units.specs.PesHeader.{pes_fields_of}
use Rattle.ts_demux.specs.declared.demuxed.PesUnit.{PesUnit}
use Rattle.elementary_streams.specs.declared.pes_packets.PlacedPacket.{PlacedPacket}
use Rattle.program_reader.specs.declared.passed_units.PassedUnits.{PassedUnits}
use Rattle.program_reader.specs.declared.program_fault.ProgramFault.{ProgramFault}
use Rattle.program_reader.specs.declared.program_fault.ProgramFault.TheVariants.{OutOfMemory}
use Rattle.program_reader.specs.declared.timed_picture.TimedPicture.{TimedPicture}
use Rattle.program_reader.specs.declared.video_places.VideoPlaces.{VideoPlaces}
use Rattle.program_reader.specs.declared.video_walk.VideoWalk.{VideoWalk}
use Rattle.program_reader.specs.KeptUnits.{kept_at}
use Rattle.program_reader.specs.Sizes.{AreSizedSoFar}
use Rattle.elementary_streams.specs.Packets.{pes_payload_of, joined, placed_from}
use Rattle.program_reader.specs.TimesWalk.{HasPassed}
use Rattle.program_reader.specs.Units.{AreInOrder, state_behind, unit_bytes}
use Rattle.program_reader.specs.VideoWalk.{AreFew, AreRefused, HasUnitFault, HavePassed, Reads, ReadsTo, Stand, end_of}
use Rattle.program_reader.specs.Private.PassedVideo.{IsKeptAs, IsReadAs}
use Rattle.program_reader.specs.Private.SizedUnits.{IsSizedFound}
use Rattle.program_reader.specs.Private.TimedPictures.{IsPossible}
use Rattle.program_reader.proofs.PassedLemmas.{AreGiven, Follows, ended_before, fits_front, fits_last, given_of, have_more, next_here, passed_later, passed_longer, possible_passed, refused_here, sized_here, some_here}
use Rattle.program_reader.proofs.SameTimes.{joined_append, longer, range_front}
use Rattle.elementary_streams.proofs.TakenLemmas.{joined_push, placed_at, placed_push}

-- ---- places of one more packet

-- the picture that is found with bytes is one more place
pub found_place : (es found bytes : List ℕ) (finder : PictureFinder) (place : Option ℕ) → option_to_list place ≡ found_of finder → HasFound (es ++ bytes) (found ++ found_of finder) finder
    → HasFound (es ++ bytes) (found ++ option_to_list place) finder
found_place es found bytes finder place is has = subst (λ (ks : List ℕ). HasFound (es ++ bytes) (found ++ ks) finder) (sym is) has

-- more bytes of a piece behind those before
pub found_further : (es bytes found : List ℕ) (finder : PictureFinder) (at count : ℕ) → at ≤ length bytes → HasFound ((es ++ take at bytes) ++ take count (take (length bytes - at) (drop at bytes))) found finder
    → HasFound (es ++ take (at + count) bytes) found finder
found_further es bytes found finder at count within has =
    subst (λ (xs : List ℕ). HasFound xs found finder)
    (ap (λ (xs : List ℕ). (es ++ take at bytes) ++ take count xs) (take_rest bytes at) ∙ append_assoc es (take at bytes) (take count (drop at bytes))
    ∙ ap (λ (xs : List ℕ). es ++ xs) (take_sum at count bytes within)) has

-- one more PES packet stands behind the others
pub stand_more : (packets : List PesUnit) (packet : PesUnit) (old mid new : VideoPlaces) (payload : List ℕ) (header : PesHeader) (from end : ℕ) → Stand packets old
    → header ≡ pes_fields_of packet.bytes → payload ≡ pes_payload_of packet → HasFound (joined packets ++ payload) new.pictures.items new.finder → from ≡ old.bytes
    → end ≡ old.bytes + length payload → new.bytes ≡ end → mid.packets.items ≡ old.packets.items
    → new.packets.items ≡ mid.packets.items ++ record { from = from; end = end; header = header } ∷ [] → Stand (packets ++ packet ∷ []) new
stand_more packets packet old mid new payload header from end stand header_is payload_is found from_is end_is bytes same items =
    let size : length payload ≡ length (pes_payload_of packet) = ap (λ (xs : List ℕ). length xs) payload_is in
    let bytes_are : joined packets ++ payload ≡ joined (packets ++ packet ∷ []) = ap (λ (xs : List ℕ). joined packets ++ xs) payload_is ∙ sym (joined_push packets packet) in
    let more : length (joined (packets ++ packet ∷ [])) ≡ length (joined packets) + length payload =
    sym (ap (λ (xs : List ℕ). length xs) bytes_are) ∙ length-append (joined packets) payload in
    let row : record { from = from; end = end; header = header } ≡ placed_at (0 + length (joined packets)) packet =
    rows from end header (placed_at (0 + length (joined packets)) packet) (omega (arith, from_is, stand.bytes)) (omega (arith, end_is, stand.bytes, size)) header_is in record {
      placed = items ∙ ap (λ (ps : List PlacedPacket). ps ++ record { from = from; end = end; header = header } ∷ []) (same ∙ stand.placed)
          ∙ ap (λ (p : PlacedPacket). placed_from 0 packets ++ p ∷ []) row ∙ sym (placed_push 0 packets packet);
      bytes = omega (arith, bytes, end_is, stand.bytes, more);
      found = subst (λ (xs : List ℕ). HasFound xs new.pictures.items new.finder) bytes_are found;
    }
  where
    rows : (from end : ℕ) (header : PesHeader) (p : PlacedPacket) → from ≡ p.from → end ≡ p.end → header ≡ p.header → record { from = from; end = end; header = header } ≡ p
    rows from end header p f e h = rw (f, e, h) refl

-- ---- units behind one more packet

always_longer : (packets : List PesUnit) (packet : PesUnit) (P : List PesUnit → Type 0) → ((more : List PesUnit) → P (packets ++ more)) → (more : List PesUnit) → P ((packets ++ packet ∷ []) ++ more)
always_longer packets packet P all more = subst P (sym (append_assoc packets (packet ∷ []) more)) (all (packet ∷ more))

-- the places of pictures and packets go on
places_longer : (packets : List PesUnit) (packet : PesUnit) (old new : VideoPlaces) → Stand packets old → Stand (packets ++ packet ∷ []) new
    → (more : List ℕ) × (new.pictures.items ≡ old.pictures.items ++ more)
places_longer packets packet old new before behind =
    let later = before.found.final (pes_payload_of packet) in
    (later.0, sym behind.found.all ∙ ap picture_places (joined_push packets packet) ∙ later.1)

pub have_longer : (packets : List PesUnit) (packet : PesUnit) (given : List (ℕ × ℕ)) (old new : VideoPlaces) (units : PassedUnits) → Stand packets old → Stand (packets ++ packet ∷ []) new
    → HavePassed packets old given units → HavePassed (packets ++ packet ∷ []) new given units
have_longer packets packet given old new units before behind have =
    let pictures = places_longer packets packet old new before behind in
    let placed : new.packets.items ≡ old.packets.items ++ placed_at (0 + length (joined packets)) packet ∷ [] =
    behind.placed ∙ placed_push 0 packets packet ∙ ap (λ (ps : List PlacedPacket). ps ++ placed_at (0 + length (joined packets)) packet ∷ []) (sym before.placed) in
    let passed : HasPassed (old.pictures.items ++ pictures.0) (old.packets.items ++ placed_at (0 + length (joined packets)) packet ∷ []) (end_of 0 given) units.times =
    passed_longer old.pictures.items pictures.0 old.packets.items (placed_at (0 + length (joined packets)) packet ∷ []) (end_of 0 given) units.times have.passed in record {
      pictures = have.pictures;
      in_order = always_longer packets packet (λ ps. AreInOrder (joined ps) (placed_from 0 ps) [] given have.pictures) have.in_order;
      rows = have.rows;
      first_is = have.first_is;
      last_is = have.last_is;
      none_dropped = have.none_dropped;
      sized = λ want. always_longer packets packet
          (λ ps. AreSizedSoFar (joined ps) units.wanted.coarser.now (state_behind units.kept.last) (map kept_at units.kept.units.items) units.sizes.items) (have.sized want);
      passed = subst (λ (ps : List PlacedPacket). HasPassed new.pictures.items ps (end_of 0 given) units.times) (sym placed)
          (subst (λ (ks : List ℕ). HasPassed ks (old.packets.items ++ placed_at (0 + length (joined packets)) packet ∷ []) (end_of 0 given) units.times) (sym pictures.1) passed);
      coarser = have.coarser;
    }

-- a walk that has cut all bytes has one more packet before it
pub reads_longer : (packets : List PesUnit) (packet : PesUnit) (old new : VideoPlaces) (cutter : UnitCutter) (units : PassedUnits) → Stand (packets ++ packet ∷ []) new
    → ReadsTo packets (length (joined packets)) old cutter units → ReadsTo (packets ++ packet ∷ []) (length (joined packets)) new cutter units
reads_longer packets packet old new cutter units behind reads =
    let es = joined packets in
    let same : take (length es) es ≡ take (length es) (joined (packets ++ packet ∷ [])) =
    take_all (length es) es (omega arith) ∙ sym (take-append_seam es (pes_payload_of packet)) ∙ ap (take (length es)) (sym (joined_push packets packet)) in record {
      stand = behind;
      within = longer packets (packet ∷ []);
      given = reads.given;
      cut = subst (λ (xs : List ℕ). HasCut xs reads.given cutter) same reads.cut;
      most = reads.most;
      read = have_longer packets packet reads.given old new units reads.stand behind reads.read;
    }

-- what is left of its bytes is that packet's payload
pub payload_left : (packets : List PesUnit) (packet : PesUnit) → drop (length (joined packets)) (joined (packets ++ packet ∷ [])) ≡ pes_payload_of packet
payload_left packets packet = ap (drop (length (joined packets))) (joined_push packets packet) ∙ drop-append_seam (joined packets) (pes_payload_of packet)

pub refused_longer : (packets : List PesUnit) (packet : PesUnit) (fault : ProgramFault) → AreRefused packets fault → AreRefused (packets ++ packet ∷ []) fault
refused_longer packets packet fault refused = always_longer packets packet (λ ps. HasUnitFault (joined ps) (placed_from 0 ps) fault) refused

-- ---- bytes are cut

module _ (packets : List PesUnit) (at : ℕ) (places : VideoPlaces) (old new : UnitCutter) (units : PassedUnits) (bytes : List ℕ) (count : ℕ)
    (few : AreFew packets) (reads : ReadsTo packets at places old units) (left : drop at (joined packets) ≡ bytes) (within : count ≤ length bytes)
    (cut : (pushed : List ℕ) (given : List (ℕ × ℕ)) → HasCut pushed given old → HasCut (pushed ++ take count bytes) (given ++ ended_of new) new)
    (most : most_kept new ≡ most_kept old) where
  abbrev here : List ℕ
  here = take (at + count) (joined packets)

  pub upto : at + count ≤ length (joined packets)
  upto = let size : length bytes ≡ length (joined packets) - at = ap (λ (xs : List ℕ). length xs) (sym left) ∙ length-drop at (joined packets) in omega (arith, size, within, reads.within)

  here_size : length here ≡ at + count
  here_size = length-take-le (at + count) (joined packets) upto

  here_is : take at (joined packets) ++ take count bytes ≡ here
  here_is = ap (λ (xs : List ℕ). take at (joined packets) ++ take count xs) (sym left) ∙ take_sum at count (joined packets) reads.within

  whole : joined packets ≡ here ++ drop (at + count) (joined packets)
  whole = sym (take-append-drop (at + count) (joined packets))

  pub cut_here : HasCut here (reads.given ++ ended_of new) new
  cut_here = subst (λ (xs : List ℕ). HasCut xs (reads.given ++ ended_of new) new) here_is (cut (take at (joined packets)) reads.given reads.cut)

  -- no unit has ended
  pub reads_quiet : ended_of new ≡ [] → ReadsTo packets (at + count) places new units
  reads_quiet none = record {
    stand = reads.stand;
    within = upto;
    given = reads.given;
    cut = subst (λ (us : List (ℕ × ℕ)). HasCut here us new) (ap (λ (us : List (ℕ × ℕ)). reads.given ++ us) none ∙ append-nil reads.given) cut_here;
    most = most ∙ reads.most;
    read = reads.read;
  }

  -- whatever packets follow, the units begin with those that are given
  begins_here : (more : List PesUnit) → BeginWith (reads.given ++ ended_of new) (cut_units (joined (packets ++ more)))
  begins_here more =
      let rest = drop (at + count) (joined packets) ++ joined more in
      let all : here ++ rest ≡ joined (packets ++ more) =
      sym (append_assoc here (drop (at + count) (joined packets)) (joined more)) ∙ ap (λ (xs : List ℕ). xs ++ joined more) (sym whole) ∙ sym (joined_append packets more) in
      subst (λ (xs : List ℕ). BeginWith (reads.given ++ ended_of new) (cut_units xs)) all (cut_here.final rest)

  -- a unit has ended
  module _ (unit : CutUnit) (ended : ended_of new ≡ place_of unit ∷ [])
      (own : (pushed : List ℕ) (given : List (ℕ × ℕ)) → HasCut pushed given new → unit.bytes.now ≡ front_of (most_kept new) pushed (place_of unit)) where
    given_here : AreGiven here (reads.given ++ place_of unit ∷ [])
    given_here =
        subst (λ (us : List (ℕ × ℕ)). AreGiven here (reads.given ++ us)) ended
        (given_of here (reads.given ++ ended_of new)
        (subst (λ (xs : List ℕ). BeginWith (reads.given ++ ended_of new) (cut_units xs)) (append-nil here) (cut_here.final [])))

    pub ends_before : unit.end + 3 < length (joined packets)
    ends_before = omega (arith, ended_before here (reads.given ++ ended_of new) new (place_of unit) cut_here ended, here_size, upto)

    pub follows : Follows (length (joined packets)) (end_of 0 reads.given) (place_of unit)
    follows =
        let it = fits_last (length here) 0 reads.given (place_of unit) given_here.fits in
        record { begun = it.begun; order = it.order; within = omega (arith, it.within, here_size, upto) }

    pub units_few : length reads.given < 1099511627777
    units_few =
        omega (arith, given_here.few, here_size, upto, few.bytes_few, length-append reads.given (place_of unit ∷ []), ended_before here (reads.given ++ ended_of new) new (place_of unit) cut_here ended)

    bytes_size : length (slice_range here unit.begin unit.end) ≤ 1099511627776
    bytes_size =
        let size : length (slice_range here unit.begin unit.end) ≡ min (unit.end - unit.begin) (length (drop unit.begin here)) = length-take (unit.end - unit.begin) (drop unit.begin here) in
        omega (arith, size, follows.within, few.bytes_few)

    pub bytes_are : unit.bytes.now ≡ unit_bytes (joined packets) (place_of unit)
    bytes_are =
        let most_is : most_kept new ≡ 1099511627776 = most ∙ reads.most in
        let inside : unit.end ≤ length here = (fits_last (length here) 0 reads.given (place_of unit) given_here.fits).within in
        own here (reads.given ++ ended_of new) cut_here
        ∙ take_all (most_kept new) (slice_range here unit.begin unit.end) (omega (arith, most_is, bytes_size))
        ∙ sym (range_front here (drop (at + count) (joined packets)) unit.begin unit.end follows.order inside)
        ∙ ap (λ (xs : List ℕ). slice_range xs unit.begin unit.end) (sym whole)

    pub bytes_short : length unit.bytes.now ≤ 1099511627776
    bytes_short =
        let same : length unit.bytes.now ≡ length (unit_bytes (joined packets) (place_of unit)) = ap (λ (xs : List ℕ). length xs) bytes_are in
        let size : length (unit_bytes (joined packets) (place_of unit)) ≡ min (unit.end - unit.begin) (length (drop unit.begin (joined packets))) =
        length-take (unit.end - unit.begin) (drop unit.begin (joined packets)) in
        omega (arith, same, size, follows.within, few.bytes_few)

    pub passed_here : HasPassed places.pictures.items places.packets.items unit.begin units.times
    passed_here = passed_later places.pictures.items places.packets.items (end_of 0 reads.given) unit.begin units.times follows.begun reads.read.passed

    pub possible_here : IfSome units.kept.last IsPossible
    possible_here =
        possible_passed packets places reads.given units (length here) few (omega (arith, units_few)) (fits_front (length here) 0 reads.given (place_of unit ∷ []) given_here.fits) reads.read

    module _ (behind : PassedUnits) (result : Result (Option TimedPicture) ProgramFault) (read : IsReadAs places unit false units.kept.last result) where
      -- it is kept
      pub reads_unit : (picture : TimedPicture) → result ≡ Ok (Some picture) → IsKeptAs units.kept (place_of unit) (Some picture) behind.kept → behind.wanted ≡ units.wanted
          → IsSizedFound (state_behind units.kept.last) unit.bytes.now units.wanted.coarser.now units.wanted.are_wanted units.sizes.items behind.sizes.items (Some picture)
          → HasPassed places.pictures.items places.packets.items unit.end behind.times → ReadsTo packets (at + count) places new behind
      reads_unit picture is kept wanted sized passed = record {
        stand = reads.stand;
        within = upto;
        given = reads.given ++ place_of unit ∷ [];
        cut = subst (λ (us : List (ℕ × ℕ)). HasCut here (reads.given ++ us) new) ended cut_here;
        most = most ∙ reads.most;
        read = have_more packets places reads.given (place_of unit) picture units behind reads.read kept
            (next_here packets places reads.given units unit result reads.stand reads.read read follows ends_before bytes_are picture is)
            (sized_here packets places reads.given units unit result reads.stand reads.read read follows ends_before bytes_are picture behind is kept wanted sized) wanted passed;
      }

      pub reads_some : result ≡ Ok None → ⊥
      reads_some = some_here packets places reads.given units unit result reads.stand reads.read read follows ends_before bytes_are

      -- it is refused
      pub reads_refused : (fault : ProgramFault) → result ≡ Err fault → (fault ≡ OutOfMemory → ⊥) → AreRefused packets fault
      reads_refused fault is some =
          refused_here packets places reads.given units unit result reads.stand reads.read read follows ends_before bytes_are fault is some
          (λ more. subst (λ (us : List (ℕ × ℕ)). BeginWith (reads.given ++ us) (cut_units (joined (packets ++ more)))) ended (begins_here more))
          (λ more. omega (arith, ends_before, longer packets more))

      -- so it is read
      pub reads_found : (found : Option TimedPicture) → result ≡ Ok found → IsKeptAs units.kept (place_of unit) found behind.kept → behind.wanted ≡ units.wanted
          → IsSizedFound (state_behind units.kept.last) unit.bytes.now units.wanted.coarser.now units.wanted.are_wanted units.sizes.items behind.sizes.items found
          → HasPassed places.pictures.items places.packets.items unit.end behind.times → ReadsTo packets (at + count) places new behind
      reads_found None is kept wanted sized passed = absurd (reads_some is)
      reads_found (Some picture) is kept wanted sized passed = reads_unit picture is kept wanted sized passed

-- a cutter can take what is left of the bytes
pub push_fits : (packets : List PesUnit) (at : ℕ) (places : VideoPlaces) (cutter : UnitCutter) (units : PassedUnits) (bytes : List ℕ) → AreFew packets → ReadsTo packets at places cutter units
    → drop at (joined packets) ≡ bytes → bytes_pushed cutter + length bytes ≤ 1099511627776
push_fits packets at places cutter units bytes few reads left =
    let size : length bytes ≡ length (joined packets) - at = ap (λ (xs : List ℕ). length xs) (sym left) ∙ length-drop at (joined packets) in
    omega (arith, size, reads.cut.count, length-take-le at (joined packets) reads.within, reads.within, few.bytes_few)

-- what is left behind more of them
pub left_on : (es bytes : List ℕ) (at count : ℕ) → drop at es ≡ bytes → drop (at + count) es ≡ slice_range bytes count (length bytes)
left_on es bytes at count left = sym (drop-drop count at es) ∙ ap (drop count) left ∙ sym (take_rest bytes count)

-- all bytes are taken
pub taken_all : (packets : List PesUnit) (at count : ℕ) (bytes : List ℕ) → at ≤ length (joined packets) → drop at (joined packets) ≡ bytes → count ≤ length bytes → length bytes ≤ count
    → at + count ≡ length (joined packets)
taken_all packets at count bytes within left less more =
    let size : length bytes ≡ length (joined packets) - at = ap (λ (xs : List ℕ). length xs) (sym left) ∙ length-drop at (joined packets) in
    omega (arith, size, within, less, more)

-- the bytes behind a packet's header are its payload
pub payload_is : (packet : PesUnit) (header : PesHeader) (bytes payload : List ℕ) → header ≡ pes_fields_of packet.bytes → bytes ≡ packet.bytes → payload ≡ drop header.len bytes
    → payload ≡ pes_payload_of packet
payload_is packet header bytes payload header_is bytes_are payload_are =
    payload_are ∙ ap (drop header.len) bytes_are ∙ ap (λ (h : PesHeader). drop h.len packet.bytes) header_is

-- where a packet's bytes can be placed
pub place_fits : (packets : List PesUnit) (packet : PesUnit) (places : VideoPlaces) (payload : List ℕ) → Stand packets places → AreFew (packets ++ packet ∷ []) → payload ≡ pes_payload_of packet
    → places.bytes + length payload ≤ 1099511627776
place_fits packets packet places payload stand few payload_are =
    let all : length (joined (packets ++ packet ∷ [])) ≡ length (joined packets ++ pes_payload_of packet) = ap (λ (xs : List ℕ). length xs) (joined_push packets packet) in
    let size : length payload ≡ length (pes_payload_of packet) = ap (λ (xs : List ℕ). length xs) payload_are in
    omega (arith, all, size, length-append (joined packets) (pes_payload_of packet), stand.bytes, few.bytes_few)

-- ---- where a unit was refused

pub reads_any : (packets : List PesUnit) (at to : ℕ) (refused : Option ProgramFault) (walk : VideoWalk) → is_some refused ≡ true → Reads packets at refused walk → Reads packets to refused walk
reads_any packets at to None walk some reads = absurd cc
reads_any packets at to (Some fault) walk some reads = reads

pub reads_more : (packets : List PesUnit) (packet : PesUnit) (at to : ℕ) (refused : Option ProgramFault) (walk : VideoWalk) → is_some refused ≡ true → Reads packets at refused walk
    → Reads (packets ++ packet ∷ []) to refused walk
reads_more packets packet at to None walk some reads = absurd cc
reads_more packets packet at to (Some fault) walk some reads = refused_longer packets packet fault reads

-- where none is, the units are read
pub reads_here : (packets : List PesUnit) (at : ℕ) (refused : Option ProgramFault) (walk : VideoWalk) → refused ≡ None → Reads packets at refused walk
    → ReadsTo packets at walk.places walk.cutter walk.units
reads_here packets at refused walk none reads = subst (λ (r : Option ProgramFault). Reads packets at r walk) none reads

pub reads_there : (packets : List PesUnit) (at : ℕ) (refused : Option ProgramFault) (walk : VideoWalk) → refused ≡ None → ReadsTo packets at walk.places walk.cutter walk.units
    → Reads packets at refused walk
reads_there packets at refused walk none reads = subst (λ (r : Option ProgramFault). Reads packets at r walk) (sym none) reads

pub not_refused : (refused : Option ProgramFault) → is_some refused ≡ false → refused ≡ None
not_refused None is = refl
not_refused (Some fault) is = absurd cc

pub refused_known : (packets : List PesUnit) (at : ℕ) (refused : Option ProgramFault) (fault : ProgramFault) (walk : VideoWalk) → refused ≡ Some fault → Reads packets at refused walk
    → AreRefused packets fault
refused_known packets at refused fault walk is reads = subst (λ (r : Option ProgramFault). Reads packets at r walk) is reads
