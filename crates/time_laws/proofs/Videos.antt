-- The pictures of a video that is read back are decoded when its units are due.
use Rattle.std.proofs.Common.{◌≡◌, ℕ, ◌+◌, ◌^◌, ◌<◌, Bool, true, false, List, [], ◌∷◌, ◌++◌, All, get_or, length, map, Option, Some, None, refl, sym, ap, ap₂, subst, ◌∙◌, arith, ℤ, pos, ◌+ℤ◌, ◌*ℤ◌}
use Rattle.std.specs.List.{AllZip, zip}
use Rattle.std.specs.Option.{option_map, option_map_or}
use Rattle.std.proofs.lemmas.Int.{ints}
use Rattle.std.proofs.lemmas.List.{get_or-map, length-drop, length-map}
use Rattle.std.proofs.lemmas.List.Elements.{All-head, All-tail}
use Rattle.std.proofs.lemmas.Option.{slice_get-get_or}
use Rattle.syntax_types.specs.declared.picture.PicCoding.{PicCoding}
use Rattle.syntax_types.specs.declared.picture.Picture.{Picture}
use Rattle.syntax_types.specs.declared.picture.SeqState.{SeqState}
use Rattle.pes_units.specs.declared.times.Times.{Times}
use Rattle.pes_units.specs.declared.pes_header.PesHeader.{PesHeader}
use Rattle.pes_units.specs.PesHeader.{header_length, pes_refusal}
use Rattle.pes_units.specs.PesPackets.{is_length_sound}
use Rattle.pes_units.specs.VideoHeader.{written_pes_header}
use Rattle.pes_units.proofs.Refusals.{passes-header}
use Rattle.pes_units.specs.Times.{decoding_time}
use Rattle.picture_grammar.specs.Macroblock.{is_frame}
use Rattle.picture_grammar.specs.Picture.{MayPrecede}
use Rattle.picture_reader.specs.Picture.{IsPictureOf}
use Rattle.version_table.specs.declared.table.Unit.{Unit as CodedUnit}
use Rattle.version_table.specs.declared.table.Version.{Version}
use Rattle.version_table.specs.Choice.{HasVersion, version_at}
use Rattle.layer_laws.specs.VideoPackets.{IsReadAsVideo}
use Rattle.ts_demux.specs.declared.demuxed.PesUnit.{PesUnit}
use Rattle.program_reader.specs.Carry.{unit_weight}
use Rattle.elementary_streams.specs.declared.pes_packets.PlacedPacket.{PlacedPacket}
use Rattle.program_reader.specs.declared.program.UnitSource.{UnitSource}
use Rattle.program_reader.specs.declared.timed_picture.Role.{Role}
use Rattle.program_reader.specs.declared.timed_picture.Role.TheVariants.{Frame, FirstField, SecondField}
use Rattle.program_reader.specs.declared.timed_picture.TimedPicture.{TimedPicture}
use Rattle.program_reader.specs.Audio.{IsDue}
use Rattle.elementary_streams.specs.Packets.{pes_payload_of}
use Rattle.program_reader.specs.Programs.{AreUnitSources, IsBase}
use Rattle.program_reader.specs.Intervals.{CodedPicture, before_frame, begins_reference, decoding_interval, interval_behind, is_b, nearest, reference_shown, share_of, shown_as, shown_meanwhile}
use Rattle.program_reader.specs.Units.{AreInOrder, IsNext, IsTimed, TellsReference, coded_as, role_behind, state_behind, ticks_behind, unit_bytes}
use Rattle.version_maker.specs.declared.version.UnitVersion.{UnitVersion}
use Rattle.version_source.specs.Sendable.{bytes_of_unit}
use Rattle.version_source.specs.Versions.{AreVideoVersions, chosen_bytes}
use Rattle.program_table.specs.Table.{row_version, unit_row, unit_rows}
use Rattle.parsing_laws.specs.Parsed.{AreReadAs, bytes_of_packets}
use Rattle.job_laws.specs.ParsesTo.{sent_units}
use Rattle.time_laws.specs.Video.{AreDecoded, DecodedPicture, IsDecodedWhen, coded_of, stated_time}
use Rattle.time_laws.proofs.Spelled.{SpellingLaws, SpellsAlike, chosen-alike, one-picture}
use Rattle.time_laws.proofs.Ticks.{due-behind, due-shown, stated-shown}
use Rattle.picture_heads.proofs.ReadHeads.{without_delay}
use Rattle.elementary_streams.proofs.StreamLemmas.{passes}

-- ---- times

-- the time that a packet is read with is that of the unit that was sent
pub read-time : (packet : PesUnit) (times : Times) (payload : List ℕ) → IsReadAsVideo times payload packet.bytes → stated_time packet ≡ decoding_time times
read-time packet times payload read = read.decoded

-- ---- a picture of the stream beside that of the source

-- the picture that goes out: that of the source, but for its vbv_delay, with the time at which its unit is due
abbrev pub outgoing : TimedPicture → UnitSource → DecodedPicture
outgoing picture unit = record { seq = picture.seq; coding = without_delay picture.coding; role = picture.role; at = unit.due }

abbrev pub all_outgoing : List TimedPicture → List UnitSource → List DecodedPicture
all_outgoing (picture ∷ pictures) (unit ∷ units) = outgoing picture unit ∷ all_outgoing pictures units
all_outgoing pictures units = []

-- what stands before goes out as what stood before in the source, and is due at its time
abbrev pub IsLike : (start : ℕ) → (earliest : ℤ) → Option TimedPicture → Option DecodedPicture → Type 0
IsLike start earliest None None = Unit {0}
IsLike start earliest (Some before) (Some sent) =
    (sent.seq ≡ before.seq) × (sent.coding ≡ without_delay before.coding) × (sent.role ≡ before.role) × IsDue start earliest before.ticks sent.at
IsLike start earliest before sent = ⊥

-- a picture of the source as it goes out, but for its time
abbrev pub coded_out : TimedPicture → CodedPicture
coded_out picture = record { seq = picture.seq; coding = without_delay picture.coding; role = picture.role }

-- the last of some pictures, the nearest first, says what the last coded I or P frame before its own is shown for
abbrev pub TellsLast : List TimedPicture → Type 0
TellsLast [] = Unit {0}
TellsLast (picture ∷ earlier) = TellsReference earlier picture

-- all that stands before goes out so
pub record AreLike (start : ℕ) (earliest : ℤ) (earlier : List TimedPicture) (sent : List DecodedPicture) : Type 0 where
  pub last : IsLike start earliest (nearest earlier) (nearest sent)
  pub all : map coded_of sent ≡ map coded_out earlier
  pub tells : TellsLast earlier

like-state : (start : ℕ) (earliest : ℤ) (before : Option TimedPicture) (earlier : Option DecodedPicture) → IsLike start earliest before earlier
    → state_behind before ≡ option_map (λ (p : DecodedPicture). p.seq) earlier
like-state start earliest None None like = refl
like-state start earliest None (Some e) like = absurd like
like-state start earliest (Some b) None like = absurd like
like-state start earliest (Some b) (Some e) like = ap (λ (s : SeqState). Some s) (sym like.0)

like-role : (start : ℕ) (earliest : ℤ) (before : Option TimedPicture) (earlier : Option DecodedPicture) → IsLike start earliest before earlier
    → option_map (λ (p : TimedPicture). p.role) before ≡ option_map (λ (p : DecodedPicture). p.role) earlier
like-role start earliest None None like = refl
like-role start earliest None (Some e) like = absurd like
like-role start earliest (Some b) None like = absurd like
like-role start earliest (Some b) (Some e) like = ap (λ (r : Role). Some r) (sym like.2)

-- ---- decoding intervals don't depend on vbv_delay

begins-alike : (role : Role) (coding : PicCoding) → begins_reference role (without_delay coding) ≡ begins_reference role coding
begins-alike Frame coding = refl
begins-alike FirstField coding = refl
begins-alike SecondField coding = refl

pub shown-alike : (role : Role) (seq : SeqState) (coding : PicCoding) → shown_as role seq (without_delay coding) ≡ shown_as role seq coding
shown-alike Frame seq coding = refl
shown-alike FirstField seq coding = refl
shown-alike SecondField seq coding = refl

pub reference-alike : (earlier : List TimedPicture) → reference_shown (map coded_out earlier) ≡ reference_shown (map coded_as earlier)
reference-alike [] = refl
reference-alike (p ∷ ps) = by-test (begins_reference p.role p.coding) refl (reference-alike ps)
  where
    by-test : (begins : Bool) → begins_reference p.role p.coding ≡ begins → reference_shown (map coded_out ps) ≡ reference_shown (map coded_as ps)
        → reference_shown (map coded_out (p ∷ ps)) ≡ reference_shown (map coded_as (p ∷ ps))
    by-test true is rest =
        let sent : begins_reference p.role (without_delay p.coding) ≡ true = begins-alike p.role p.coding ∙ is in
        rw (is, sent) (ap (λ (ticks : ℕ). Some ticks) (shown-alike p.role p.seq p.coding))
    by-test false is rest =
        let sent : begins_reference p.role (without_delay p.coding) ≡ false = begins-alike p.role p.coding ∙ is in
        rw (is, sent) rest

pub before-alike : (role : Role) (earlier : List TimedPicture) → reference_shown (before_frame role (map coded_out earlier)) ≡ reference_shown (before_frame role (map coded_as earlier))
before-alike Frame earlier = reference-alike earlier
before-alike FirstField earlier = reference-alike earlier
before-alike SecondField [] = refl
before-alike SecondField (p ∷ ps) = reference-alike ps

interval-alike : (picture : TimedPicture) (reference : Option ℕ) → interval_behind (coded_out picture) reference ≡ interval_behind (coded_as picture) reference
interval-alike picture reference =
    ap (λ (own : ℕ). share_of picture.role (shown_meanwhile (is_b picture.coding) own reference picture.seq.rate_code) picture.seq.rate_code)
    (shown-alike picture.role picture.seq picture.coding)

-- the interval behind a picture that goes out is that behind the picture of the source
lasts-alike : (before : TimedPicture) (earlier : List TimedPicture) (last : DecodedPicture) (sent : List DecodedPicture) → TellsReference earlier before
    → map coded_of (last ∷ sent) ≡ map coded_out (before ∷ earlier) → ticks_behind before ≡ decoding_interval (coded_of last) (map coded_of sent)
lasts-alike before earlier last sent tells all =
    let head : coded_of last ≡ coded_out before = cc in
    let tail : map coded_of sent ≡ map coded_out earlier = cc in
    ap (λ (r : Option ℕ). interval_behind (coded_as before) r) (tells.before ∙ sym (before-alike before.role earlier))
    ∙ sym (interval-alike before (reference_shown (before_frame before.role (map coded_out earlier))))
    ∙ ap₂ (λ (c : CodedPicture) (cs : List CodedPicture). decoding_interval c cs) (sym head) (sym tail)

first-stated : (value : ℕ) (ticks stated : ℤ) → stated ≡ pos value → stated ≡ pos value +ℤ pos 0 *ℤ pos (2 ^ 33)
first-stated value ticks stated is = omega (arith, ints)

-- when the picture is decoded
when-shown : (start base due : ℕ) (earliest stated ticks : ℤ) (earlier : List TimedPicture) (sent : List DecodedPicture) (time : Option ℕ) → IsBase start earliest base
    → due < 2576980377600 → AreLike start earliest earlier sent → IsDue start earliest ticks due → IsTimed (nearest earlier) time stated ticks → IsDecodedWhen base sent time due
when-shown start base due earliest stated ticks [] (e ∷ es) time is early like due_is timed = absurd like.last
when-shown start base due earliest stated ticks (b ∷ bs) [] time is early like due_is timed = absurd like.last
when-shown start base due earliest stated ticks [] [] None is early like due_is timed = absurd timed
when-shown start base due earliest stated ticks [] [] (Some value) is early like due_is timed =
    stated-shown base due value ticks stated (pos 0) (due-shown start base due earliest ticks is due_is early) timed.1 (first-stated value ticks stated timed.0)
when-shown start base due earliest stated ticks (b ∷ bs) (e ∷ es) (Some value) is early like due_is timed =
    stated-shown base due value ticks stated timed.0.congruent.0 (due-shown start base due earliest ticks is due_is early) timed.1 timed.0.congruent.1
when-shown start base due earliest stated ticks (b ∷ bs) (e ∷ es) None is early like due_is timed =
    due-behind start e.at due (ticks_behind b) earliest b.ticks ticks like.last.3 due_is timed.1 ∙ ap (λ (n : ℕ). e.at + n) (lasts-alike b bs e es like.tells like.all)

-- ---- all pictures

module _ (laws : SpellingLaws) (es coarser : List ℕ) (placed : List PlacedPacket) (weight drift start base : ℕ) (earliest : ℤ) (based : IsBase start earliest base) where
  pub decoded : (earlier : List TimedPicture) (sent : List DecodedPicture) → AreLike start earliest earlier sent → MayPrecede (state_behind (nearest earlier)) → (kept : List (ℕ × ℕ))
      (pictures : List TimedPicture) (units : List UnitSource) (versions : List (List UnitVersion)) (choice : List ℕ) (more : List CodedUnit) (packets : List PesUnit)
      → AreInOrder es placed earlier kept pictures → AreUnitSources start earliest kept pictures units → AreVideoVersions es coarser (state_behind (nearest earlier)) units versions
      → AllZip HasVersion (unit_rows weight drift units versions ++ more) choice → All (λ (unit : UnitSource). unit.due < 2576980377600) units
      → AreReadAs (sent_units units versions choice) (bytes_of_packets packets) → AreDecoded base sent packets (all_outgoing pictures units)
  decoded earlier sent like may [] [] [] versions choice more [] in_order are are_versions fits early read = tt
  decoded earlier sent like may [] [] [] versions choice more (o ∷ os) in_order are are_versions fits early read = absurd read
  decoded earlier sent like may [] [] (u ∷ us) versions choice more packets in_order are are_versions fits early read = absurd are
  decoded earlier sent like may [] (p ∷ ps) units versions choice more packets in_order are are_versions fits early read = absurd in_order
  decoded earlier sent like may (k ∷ ks) [] units versions choice more packets in_order are are_versions fits early read = absurd in_order
  decoded earlier sent like may (k ∷ ks) (p ∷ ps) [] versions choice more packets in_order are are_versions fits early read = absurd are
  decoded earlier sent like may (k ∷ ks) (p ∷ ps) (u ∷ us) [] choice more packets in_order are are_versions fits early read = absurd are_versions
  decoded earlier sent like may (k ∷ ks) (p ∷ ps) (u ∷ us) (v ∷ vs) [] more packets in_order are are_versions fits early read = absurd fits
  decoded earlier sent like may (k ∷ ks) (p ∷ ps) (u ∷ us) (v ∷ vs) (n ∷ choice) more [] in_order are are_versions fits early read = absurd read
  decoded earlier sent like may (k ∷ ks) (p ∷ ps) (u ∷ us) (v ∷ vs) (n ∷ choice) more (o ∷ os) in_order are (after, leaves, here, rest) fits early read =
      let next : IsNext es placed earlier k p = in_order.0 in
      let state : Option SeqState = state_behind (nearest earlier) in
      let unit : List ℕ = bytes_of_unit es u in
      let bytes : unit_bytes es k ≡ unit = ap₂ (λ (from to : ℕ). unit_bytes es (from, to)) (sym are.0) (sym are.1) in
      let own : IsPictureOf state unit next.coded.picture = subst (λ (x : List ℕ). IsPictureOf state x next.coded.picture) bytes next.coded.whole in
      let within : n < length v = omega (arith, fits.0, length-map v (row_version (unit_weight weight drift u us) u)) in
      let alike : SpellsAlike state here.picture (chosen_bytes v n) = chosen-alike laws state unit coarser v n may here within in
      let same : here.picture ≡ next.coded.picture = one-picture state unit here.picture next.coded.picture here.whole own in
      let left : leaves.picture ≡ next.coded.picture = one-picture state unit leaves.picture next.coded.picture leaves.whole own in
      let seq : alike.spelled.seq ≡ p.seq = alike.seq_is ∙ ap (λ (x : Picture). x.seq) same ∙ next.coded.seq_is in
      let coding : alike.spelled.coding ≡ without_delay p.coding = alike.coding_is ∙ ap (λ (x : Picture). without_delay x.coding) same ∙ ap without_delay next.coded.coding_is in
      let behind : after ≡ p.seq = sym leaves.after_is ∙ ap (λ (x : Picture). x.seq) left ∙ next.coded.seq_is in
      let payload : pes_payload_of o ≡ chosen_bytes v n = read.0.payload_is in
      let time : stated_time o ≡ decoding_time p.times = read-time o u.times (chosen_bytes v n) read.0 ∙ ap decoding_time are.2 in
      let on_time : IsDecodedWhen base sent (decoding_time p.times) u.due =
      when-shown start base u.due earliest p.stated p.ticks earlier sent (decoding_time p.times) based (All-head (λ (x : UnitSource). x.due < 2576980377600) u us early) like are.3 next.timed in
      let may_next : MayPrecede (Some p.seq) = subst (λ (s : SeqState). MayPrecede (Some s)) next.coded.seq_is (laws.state state next.coded.picture unit may own.spelled) in (
        record {
          spelled = alike.spelled;
          whole = subst (λ (x : List ℕ). IsPictureOf (option_map (λ (e : DecodedPicture). e.seq) (nearest sent)) x alike.spelled) (sym payload)
              (subst (λ (s : Option SeqState). IsPictureOf s (chosen_bytes v n) alike.spelled) (like-state start earliest (nearest earlier) (nearest sent) like.last) alike.whole);
          seq_is = sym seq;
          coding_is = sym coding;
          role_is = next.role_is ∙ ap (role_behind (is_frame p.coding)) (like-role start earliest (nearest earlier) (nearest sent) like.last);
          when = subst (λ (t : Option ℕ). IsDecodedWhen base sent t u.due) (sym time) on_time;
        },
        decoded (p ∷ earlier) (outgoing p u ∷ sent)
            (record { last = (refl, refl, refl, are.3); all = ap (λ (cs : List CodedPicture). coded_out p ∷ cs) like.all; tells = next.reference }) may_next ks ps us vs choice more os in_order.1 are.6
            (subst (λ (s : SeqState). AreVideoVersions es coarser (Some s) us vs) behind rest) fits.1 (All-tail (λ (x : UnitSource). x.due < 2576980377600) u us early) read.1,
      )

-- the due times of the rows are those of the pictures
pub dues-are : (es coarser : List ℕ) (weight drift start : ℕ) (earliest : ℤ) (state : Option SeqState) (kept : List (ℕ × ℕ)) (pictures : List TimedPicture) (units : List UnitSource)
    (versions : List (List UnitVersion)) → AreUnitSources start earliest kept pictures units → AreVideoVersions es coarser state units versions
    → map (λ (unit : CodedUnit). unit.due) (unit_rows weight drift units versions) ≡ map (λ (picture : DecodedPicture). picture.at) (all_outgoing pictures units)
dues-are es coarser weight drift start earliest state [] [] [] versions are are_versions = refl
dues-are es coarser weight drift start earliest state [] [] (u ∷ us) versions are are_versions = absurd are
dues-are es coarser weight drift start earliest state [] (p ∷ ps) units versions are are_versions = absurd are
dues-are es coarser weight drift start earliest state (k ∷ ks) [] units versions are are_versions = absurd are
dues-are es coarser weight drift start earliest state (k ∷ ks) (p ∷ ps) [] versions are are_versions = absurd are
dues-are es coarser weight drift start earliest state (k ∷ ks) (p ∷ ps) (u ∷ us) [] are are_versions = absurd are_versions
dues-are es coarser weight drift start earliest state (k ∷ ks) (p ∷ ps) (u ∷ us) (v ∷ vs) are (after, leaves, here, rest) =
    ap (λ (dues : List ℕ). u.due ∷ dues) (dues-are es coarser weight drift start earliest (Some after) ks ps us vs are.6 rest)

-- ---- sizes

-- a PES packet that is read with a payload is as long as the header that was written and the payload
whole-length : (times : Times) (payload bytes : List ℕ) → IsReadAsVideo times payload bytes → length bytes ≡ length (written_pes_header times) + length payload
whole-length times payload bytes read =
    let header = passes-header true bytes (passes (pes_refusal true bytes) (is_length_sound true bytes) read.sound) in
    omega (arith, header.followed, ap (λ (h : PesHeader). h.len) read.header, ap length read.payload_is, length-drop (header_length bytes) bytes)

no_version : UnitVersion
no_version = record { bytes = []; distortion = 0 }

no_size : Version
no_size = record { bytes = 0; distortion = 0 }

chosen-size : (weight : ℕ) (u : UnitSource) (v : List UnitVersion) (n : ℕ) → n < length v
    → (let chosen : Version = version_at (unit_row weight u v) n in chosen.bytes) ≡ length (written_pes_header u.times) + length (chosen_bytes v n)
chosen-size weight u v n within =
    let chosen : chosen_bytes v n ≡ (get_or v n no_version).bytes =
    ap (λ (found : Option UnitVersion). option_map_or (λ (version : UnitVersion). version.bytes) found []) (slice_get-get_or v n no_version within) in
    let row : version_at (unit_row weight u v) n ≡ row_version weight u (get_or v n no_version) = get_or-map (row_version weight u) v n no_version (record { bytes = 0; distortion = 0 }) within in
    ap (λ (version : Version). version.bytes) row ∙ ap (λ (bytes : List ℕ). length (written_pes_header u.times) + length bytes) (sym chosen)

-- the versions that a choice names are as long as the PES packets
pub sizes-are : (es coarser : List ℕ) (weight drift : ℕ) (state : Option SeqState) (units : List UnitSource) (versions : List (List UnitVersion)) (choice : List ℕ) (more : List CodedUnit)
    (packets : List PesUnit) → AreVideoVersions es coarser state units versions → AllZip HasVersion (unit_rows weight drift units versions ++ more) choice
    → AreReadAs (sent_units units versions choice) (bytes_of_packets packets)
    → map (λ (chosen : CodedUnit × ℕ). (version_at chosen.0 chosen.1).bytes) (zip (unit_rows weight drift units versions) choice) ≡ map (λ (packet : PesUnit). length packet.bytes) packets
sizes-are es coarser weight drift state [] [] choice more [] are fits read = refl
sizes-are es coarser weight drift state [] [] choice more (o ∷ os) are fits read = absurd read
sizes-are es coarser weight drift state [] (v ∷ vs) choice more packets are fits read = absurd are
sizes-are es coarser weight drift state (u ∷ us) [] choice more packets are fits read = absurd are
sizes-are es coarser weight drift state (u ∷ us) (v ∷ vs) [] more packets are fits read = absurd fits
sizes-are es coarser weight drift state (u ∷ us) (v ∷ vs) (n ∷ choice) more [] are fits read = absurd read
sizes-are es coarser weight drift state (u ∷ us) (v ∷ vs) (n ∷ choice) more (o ∷ os) (after, leaves, here, rest) fits read =
    let within : n < length v = omega (arith, fits.0, length-map v (row_version (unit_weight weight drift u us) u)) in
    ap₂ (λ (size : ℕ) (sizes : List ℕ). size ∷ sizes) (chosen-size (unit_weight weight drift u us) u v n within ∙ sym (whole-length u.times (chosen_bytes v n) o.bytes read.0))
    (sizes-are es coarser weight drift (Some after) us vs choice more os rest fits.1 read.1)
