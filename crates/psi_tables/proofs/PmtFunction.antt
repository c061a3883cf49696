-- The function of a PMT section and the relation say the same.
use Rattle.std.proofs.Common.{
  ◌≡◌,
  ℕ,
  zero,
  suc,
  ◌+◌,
  ◌<◌,
  ◌≤◌,
  ◌==◌,
  ◌&&◌,
  Bool,
  true,
  false,
  cond,
  List,
  [],
  ◌∷◌,
  ◌++◌,
  All,
  length,
  get_or,
  take,
  drop,
  map,
  Option,
  Some,
  None,
  refl,
  sym,
  ap,
  ap₂,
  subst,
  ◌∙◌,
  arith,
  length-append,
}
use Rattle.std.specs.Prelude.{nat_le, nat_lt, option_and_then}
use Rattle.std.specs.List.{list_all}
use Rattle.std.specs.Option.{option_map}
use Rattle.std.proofs.lemmas.Bool.{and_parts, and_from, eqb-true, leb-true}
use Rattle.std.proofs.lemmas.Bool.Decides.{nat_tests}
use Rattle.std.proofs.lemmas.List.{take_at, drop_at, take-append-drop, get_or_append_left}
use Rattle.std.proofs.lemmas.List.Sums.{AllPass-from_list_all, list_all-from_AllPass}
use Rattle.psi_tables.specs.declared.program_map.ProgramMap.{ProgramMap}
use Rattle.psi_tables.specs.declared.section.TheConstants.{SECTION_LENGTH_LEAST}
use Rattle.psi_tables.specs.declared.stream.Stream.{Stream}
use Rattle.psi_tables.specs.declared.stream.TheConstants.{DESCRIPTOR_BYTES, STREAMS_MOST}
use Rattle.psi_tables.specs.Section.{IsItemRow, table_id, section_length, current_next_indicator, content}
use Rattle.psi_tables.specs.Descriptors.{IsDescriptor}
use Rattle.psi_tables.specs.Streams.{StreamInfo, ES_info_length, IsStreamInfo, stream_of}
use Rattle.psi_tables.specs.Pmt.{program_info_length, IsMapContent, IsPmt, HasRoom}
use Rattle.psi_tables.specs.PmtOf.{items_in, descriptor_size, descriptors_in, info_size, info_with, infos_in, has_room, is_pmt, program_with, pmt_of}
use Rattle.psi_tables.proofs.Elements.{descriptor_length-is, ES_info_length-is}
use Rattle.psi_tables.proofs.DescriptorRows.{is_descriptor}
use Rattle.psi_tables.proofs.StreamRows.{is_info}
use Rattle.psi_tables.proofs.MapContents.{one_map}

-- ---- items

-- an item is read from its own bytes, whose number its front says
pub record IsReadBy {A : Type 0} (spells : A → List ℕ → Type 0) (size : List ℕ → ℕ) (item : List ℕ → Option A) : Type 0 where
  pub some : (x : A) (front : List ℕ) → spells x front → 0 < length front
  pub size_is : (x : A) (front behind : List ℕ) → spells x front → size (front ++ behind) ≡ length front
  pub reads : (x : A) (front : List ℕ) → spells x front → item front ≡ Some x
  pub spelled : (x : A) (bytes : List ℕ) → size bytes ≤ length bytes → item (take (size bytes) bytes) ≡ Some x → spells x (take (size bytes) bytes)

made : {A : Type 0} (test : Bool) (first : Option A) (others : Option (List A)) (x : A) (xs : List A) → test ≡ false → first ≡ Some x → others ≡ Some xs
    → cond test None (option_and_then (λ f. option_map (λ o. f ∷ o) others) first) ≡ Some (x ∷ xs)
made test first others x xs e f g = rw (e, f, g) refl

record Parts {A : Type 0} (test : Bool) (first : Option A) (others : Option (List A)) (all : List A) : Type 0 where
  pub passes : test ≡ false
  pub x : A
  pub xs : List A
  pub first_is : first ≡ Some x
  pub others_are : others ≡ Some xs
  pub all_are : all ≡ x ∷ xs

parts : {A : Type 0} (test : Bool) (first : Option A) (others : Option (List A)) (all : List A)
    → cond test None (option_and_then (λ f. option_map (λ o. f ∷ o) others) first) ≡ Some all → Parts test first others all
parts true first others all e = absurd cc
parts false None others all e = absurd cc
parts false (Some x) None all e = absurd cc
parts false (Some x) (Some xs) all e = record { passes = refl; x = x; xs = xs; first_is = refl; others_are = refl; all_are = let f : x ∷ xs ≡ all = cc in sym f }

module _ {A : Type 0} (spells : A → List ℕ → Type 0) (size : List ℕ → ℕ) (item : List ℕ → Option A) (is_read : IsReadBy spells size item) where
  pub row_read : (xs : List A) (bytes : List ℕ) (n : ℕ) → length bytes ≤ n → IsItemRow spells xs bytes → items_in size item bytes n ≡ Some xs
  row_read [] bytes n few row = ap (λ (b : List ℕ). items_in size item b n) row
  row_read (x ∷ xs) bytes n few row = by_front row.0 row.1 n row.2 row.3 (λ m less. row_read xs row.1 m less row.4) few
    where
      by_front : (front behind : List ℕ) (n : ℕ) → bytes ≡ front ++ behind → spells x front
          → ((m : ℕ) → length behind ≤ m → items_in size item behind m ≡ Some xs) → length bytes ≤ n → items_in size item bytes n ≡ Some (x ∷ xs)
      by_front [] behind n split is others few = absurd (omega (arith, is_read.some x [] is))
      by_front (b ∷ front) behind zero split is others few = absurd (omega (arith, few, ap length split))
      by_front (b ∷ front) behind (suc n) split is others few =
          let whole : List ℕ = b ∷ (front ++ behind) in
          let size_is : size whole ≡ length (b ∷ front) = is_read.size_is x (b ∷ front) behind is in
          let total : length whole ≡ length (b ∷ front) + length behind = length-append (b ∷ front) behind in
          let test : nat_lt (length whole) (size whole) ≡ false = grind (arith, nat_tests, size_is, total) in
          let first : item (take (size whole) whole) ≡ Some x =
          ap (λ (k : ℕ). item (take k whole)) size_is ∙ ap item (take_at (b ∷ front) behind (length (b ∷ front)) refl) ∙ is_read.reads x (b ∷ front) is in
          let rest : drop (size whole) whole ≡ behind = ap (λ (k : ℕ). drop k whole) size_is ∙ drop_at (b ∷ front) behind (length (b ∷ front)) refl in
          let later : items_in size item (drop (size whole) whole) n ≡ Some xs =
          ap (λ (r : List ℕ). items_in size item r n) rest ∙ others n (omega (arith, few, ap length split, total)) in
          ap (λ (r : List ℕ). items_in size item r (suc n)) split
          ∙ made (nat_lt (length whole) (size whole)) (item (take (size whole) whole)) (items_in size item (drop (size whole) whole) n) x xs test first later

  pub row_spelled : (n : ℕ) (bytes : List ℕ) (xs : List A) → items_in size item bytes n ≡ Some xs → IsItemRow spells xs bytes
  row_spelled n [] xs e = let none : [] ≡ xs = cc in subst (λ (ys : List A). IsItemRow spells ys []) none refl
  row_spelled zero (b ∷ bytes) xs e = absurd cc
  row_spelled (suc n) (b ∷ bytes) xs e =
      let whole : List ℕ = b ∷ bytes in
      let p = parts (nat_lt (length whole) (size whole)) (item (take (size whole) whole)) (items_in size item (drop (size whole) whole) n) xs e in
      let fits : size whole ≤ length whole = grind (arith, nat_tests, p.passes) in
      subst (λ (ys : List A). IsItemRow spells ys whole) (sym p.all_are) (
        take (size whole) whole,
        drop (size whole) whole,
        sym (take-append-drop (size whole) whole),
        is_read.spelled p.x whole fits p.first_is,
        row_spelled n (drop (size whole) whole) p.xs p.others_are,
      )

-- ---- descriptors and streams

descriptors_read : IsReadBy IsDescriptor descriptor_size Some
descriptors_read = record {
  some = λ x front is. omega (arith, is.size);
  size_is = λ x front behind is.
      let second : get_or (front ++ behind) 1 0 ≡ get_or front 1 0 = get_or_append_left front behind 0 1 (omega (arith, is.size)) in
      omega (arith, is.size, second, descriptor_length-is front, descriptor_length-is (front ++ behind));
  reads = λ x front is. ap Some (sym is.bytes_are);
  spelled = λ x bytes fits e.
      let same : take (descriptor_size bytes) bytes ≡ x = cc in
      let here = is_descriptor bytes (descriptor_size bytes) (omega (arith, descriptor_length-is bytes)) fits in
      subst (λ (d : List ℕ). IsDescriptor d (take (descriptor_size bytes) bytes)) same here;
}

row_of_descriptors : (xs : List (List ℕ)) (bytes : List ℕ) → IsItemRow IsDescriptor xs bytes → descriptors_in bytes ≡ Some xs
row_of_descriptors xs bytes row = row_read IsDescriptor descriptor_size Some descriptors_read xs bytes (length bytes) (omega arith) row

descriptors_row : (xs : List (List ℕ)) (bytes : List ℕ) → descriptors_in bytes ≡ Some xs → IsItemRow IsDescriptor xs bytes
descriptors_row xs bytes e = row_spelled IsDescriptor descriptor_size Some descriptors_read (length bytes) bytes xs e

with_is : (x : StreamInfo) (front : List ℕ) → IsStreamInfo x front → info_with front x.descriptors ≡ x
with_is x front is = ap₂ (λ (t p : ℕ). record { stream_type = t; elementary_PID = p; descriptors = x.descriptors }) (sym is.type_is) (sym is.pid)

mapped : (front : List ℕ) (found : Option (List (List ℕ))) (x : StreamInfo) → option_map (info_with front) found ≡ Some x → (ds : List (List ℕ)) × (found ≡ Some ds) × (info_with front ds ≡ x)
mapped front None x e = absurd cc
mapped front (Some ds) x e = (ds, refl, cc)

info_spelled : (front : List ℕ) (x : StreamInfo) → length front ≡ 5 + ES_info_length front → (ds : List (List ℕ)) → descriptors_in (drop 5 front) ≡ Some ds
    → info_with front ds ≡ x → IsStreamInfo x front
info_spelled front x size ds found is =
    subst (λ (i : StreamInfo). IsStreamInfo i front) is (record { size = size; type_is = refl; pid = refl; descriptors_are = descriptors_row ds (drop 5 front) found })

infos_read : IsReadBy IsStreamInfo info_size (λ info. option_map (info_with info) (descriptors_in (drop 5 info)))
infos_read = record {
  some = λ x front is. omega (arith, is.size);
  size_is = λ x front behind is.
      let left : (n : ℕ) → n < 5 → get_or (front ++ behind) n 0 ≡ get_or front n 0 = λ n low. get_or_append_left front behind 0 n (omega (arith, is.size, low)) in
      omega (arith, is.size, left 3 (omega arith), left 4 (omega arith), ES_info_length-is front, ES_info_length-is (front ++ behind));
  reads = λ x front is. ap (option_map (info_with front)) (row_of_descriptors x.descriptors (drop 5 front) is.descriptors_are) ∙ ap Some (with_is x front is);
  spelled = λ x bytes fits e.
      let front = take (info_size bytes) bytes in
      let m = mapped front (descriptors_in (drop 5 front)) x e in
      info_spelled front x (is_info bytes (info_size bytes) (omega (arith, ES_info_length-is bytes)) fits) m.0 m.1 m.2;
}

row_of_infos : (xs : List StreamInfo) (bytes : List ℕ) → IsItemRow IsStreamInfo xs bytes → infos_in bytes ≡ Some xs
row_of_infos xs bytes row = row_read IsStreamInfo info_size (λ info. option_map (info_with info) (descriptors_in (drop 5 info))) infos_read xs bytes (length bytes) (omega arith) row

infos_row : (xs : List StreamInfo) (bytes : List ℕ) → infos_in bytes ≡ Some xs → IsItemRow IsStreamInfo xs bytes
infos_row xs bytes e = row_spelled IsStreamInfo info_size (λ info. option_map (info_with info) (descriptors_in (drop 5 info))) infos_read (length bytes) bytes xs e

-- ---- room

room_passes : (streams : List Stream) → length streams ≤ STREAMS_MOST → All (λ stream. length stream.descriptors.items ≤ DESCRIPTOR_BYTES) streams → has_room streams ≡ true
room_passes streams few each =
    and_from (nat_le (length streams) STREAMS_MOST) (list_all (λ (stream : Stream). nat_le (length stream.descriptors.items) DESCRIPTOR_BYTES) streams)
    (grind (arith, nat_tests, few))
    (list_all-from_AllPass (λ (stream : Stream). nat_le (length stream.descriptors.items) DESCRIPTOR_BYTES) streams
    (λ k d within. let fits : length (get_or streams k d).descriptors.items ≤ DESCRIPTOR_BYTES = each k d within in grind (arith, nat_tests, fits)))

room_from_test : (program : ProgramMap) → has_room program.streams.items ≡ true → HasRoom program
room_from_test program passes =
    let streams : List Stream = program.streams.items in
    let both = and_parts (nat_le (length streams) STREAMS_MOST) (list_all (λ (stream : Stream). nat_le (length stream.descriptors.items) DESCRIPTOR_BYTES) streams) passes in
    record {
      streams = leb-true (length streams) STREAMS_MOST both.0;
      descriptors = λ k d within. leb-true (length (get_or streams k d).descriptors.items) DESCRIPTOR_BYTES
          (AllPass-from_list_all (λ (stream : Stream). nat_le (length stream.descriptors.items) DESCRIPTOR_BYTES) streams both.1 k d within);
    }

-- ---- the section

content_with : (section : List ℕ) (descriptors : List (List ℕ)) (infos : List StreamInfo) → 4 + program_info_length (content section) ≤ length (content section)
    → IsItemRow IsDescriptor descriptors (take (program_info_length (content section)) (drop 4 (content section)))
    → IsItemRow IsStreamInfo infos (drop (4 + program_info_length (content section)) (content section))
    → IsMapContent (program_with section descriptors infos) (content section)
content_with section descriptors infos room own row = record {
  pcr = refl;
  room = room;
  descriptors = descriptors;
  descriptors_are = own;
  streams = infos;
  streams_are = row;
  kept = refl;
  dropped_are = refl;
}

-- the descriptors and the streams of a section, where they are such, and a program made of them
abbrev Own : Type 0
Own = Option (List (List ℕ))

abbrev Rows : Type 0
Rows = Option (List StreamInfo)

abbrev Maker : Type 0
Maker = List (List ℕ) → List StreamInfo → ProgramMap

chosen : (test : Bool) (own : Own) (rows : Rows) (make : Maker) (descriptors : List (List ℕ)) (infos : List StreamInfo)
    → (is_room : List StreamInfo → Bool) → test ≡ true → own ≡ Some descriptors → rows ≡ Some infos → is_room infos ≡ true
    → cond test (option_and_then (λ ds. option_and_then (λ is. cond (is_room is) (Some (make ds is)) None) rows) own) None ≡ Some (make descriptors infos)
chosen test own rows make descriptors infos is_room e f g h = rw (e, f, g, h) refl

pub pmt_made : (section : List ℕ) (program : ProgramMap) → IsPmt program section → HasRoom program → pmt_of section ≡ Some program
pmt_made section program is room =
    let has = is.content_is in
    let frame : is_pmt section ≡ true =
    grind (arith, nat_tests, is.current.table_is, is.current.current, is.whole.size, is.whole.room, has.room) in
    let fits : has_room (map stream_of has.streams) ≡ true =
    ap has_room (sym has.kept) ∙ room_passes program.streams.items room.streams room.descriptors in
    let same : program_with section has.descriptors has.streams ≡ program =
    one_map (program_with section has.descriptors has.streams) program (content section)
    (content_with section has.descriptors has.streams has.room has.descriptors_are has.streams_are) has (sym is.number) in
    chosen (is_pmt section) (descriptors_in (take (program_info_length (content section)) (drop 4 (content section))))
    (infos_in (drop (4 + program_info_length (content section)) (content section))) (program_with section) has.descriptors has.streams
    (λ (is : List StreamInfo). has_room (map stream_of is)) frame
    (row_of_descriptors has.descriptors (take (program_info_length (content section)) (drop 4 (content section))) has.descriptors_are)
    (row_of_infos has.streams (drop (4 + program_info_length (content section)) (content section)) has.streams_are) fits
    ∙ ap Some same

record Choice (test : Bool) (own : Own) (rows : Rows) (make : Maker) (is_room : List StreamInfo → Bool) (program : ProgramMap) : Type 0 where
  pub passes : test ≡ true
  pub descriptors : List (List ℕ)
  pub infos : List StreamInfo
  pub own_are : own ≡ Some descriptors
  pub rows_are : rows ≡ Some infos
  pub fits : is_room infos ≡ true
  pub program_is : make descriptors infos ≡ program

choice : (test : Bool) (own : Own) (rows : Rows) (make : Maker) (is_room : List StreamInfo → Bool) (program : ProgramMap)
    → cond test (option_and_then (λ ds. option_and_then (λ is. cond (is_room is) (Some (make ds is)) None) rows) own) None ≡ Some program → Choice test own rows make is_room program
choice false own rows make is_room program e = absurd cc
choice true None rows make is_room program e = absurd cc
choice true (Some ds) None make is_room program e = absurd cc
choice true (Some ds) (Some is) make is_room program e = by_room (is_room is) refl e
  where
    by_room : (room : Bool) → is_room is ≡ room → cond room (Some (make ds is)) None ≡ Some program → Choice true (Some ds) (Some is) make is_room program
    by_room true room_is same = record { passes = refl; descriptors = ds; infos = is; own_are = refl; rows_are = refl; fits = room_is; program_is = cc }
    by_room false room_is same = absurd cc

record Frame (section : List ℕ) : Type 0 where
  pub table_is : table_id section ≡ 2
  pub current : current_next_indicator section ≡ 1
  pub size : length section ≡ 3 + section_length section
  pub least : SECTION_LENGTH_LEAST ≤ section_length section
  pub room : 4 + program_info_length (content section) ≤ length (content section)

frame_of : (section : List ℕ) → is_pmt section ≡ true → Frame section
frame_of section passes =
    let a = table_id section == 2 in
    let b = current_next_indicator section == 1 in
    let c = length section == 3 + section_length section in
    let d = nat_le SECTION_LENGTH_LEAST (section_length section) in
    let e = nat_le (4 + program_info_length (content section)) (length (content section)) in
    let p = and_parts (a && b && c && d) e passes in
    let q = and_parts (a && b && c) d p.0 in
    let r = and_parts (a && b) c q.0 in
    let s = and_parts a b r.0 in
    record {
      table_is = eqb-true (table_id section) 2 s.0;
      current = eqb-true (current_next_indicator section) 1 s.1;
      size = eqb-true (length section) (3 + section_length section) r.1;
      least = leb-true SECTION_LENGTH_LEAST (section_length section) q.1;
      room = leb-true (4 + program_info_length (content section)) (length (content section)) p.1;
    }

pub pmt_is : (section : List ℕ) (program : ProgramMap) → pmt_of section ≡ Some program → IsPmt program section × HasRoom program
pmt_is section program e =
    let own = take (program_info_length (content section)) (drop 4 (content section)) in
    let rows = drop (4 + program_info_length (content section)) (content section) in
    let c = choice (is_pmt section) (descriptors_in own) (infos_in rows) (program_with section) (λ (is : List StreamInfo). has_room (map stream_of is)) program e in
    let f = frame_of section c.passes in
    let says : IsMapContent (program_with section c.descriptors c.infos) (content section) =
    content_with section c.descriptors c.infos f.room (descriptors_row c.descriptors own c.own_are) (infos_row c.infos rows c.rows_are) in
    let is : IsPmt (program_with section c.descriptors c.infos) section = record {
      current = record { table_is = f.table_is; current = f.current };
      whole = record { size = f.size; room = f.least };
      number = refl;
      content_is = says;
    } in
    (subst (λ (p : ProgramMap). IsPmt p section) c.program_is is, subst HasRoom c.program_is (room_from_test (program_with section c.descriptors c.infos) c.fits))
