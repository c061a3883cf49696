-- A cursor over the slices of a unit, by its steps.
use Rattle.std.proofs.Common.{◌≡◌, ◌≢◌, ℕ, ◌+◌, ◌-◌, ◌*◌, ◌/◌, ◌≤◌, List, [], ◌∷◌, ◌++◌, length, take, drop, Option, Some, None, Bool, false, sym, ap, subst, ◌∙◌, arith}
use Rattle.std.specs.List.{flat_map, range_with_len}
use Rattle.std.proofs.lemmas.List.{length-append}
use Rattle.bit_lists.specs.Fields.{AreBytes}
use Rattle.stream_constants.specs.declared.start_codes.TheConstants.{FIRST_SLICE}
use Rattle.syntax_types.specs.declared.picture.PicCoding.{PicCoding}
use Rattle.syntax_types.specs.declared.picture.SeqState.{SeqState}
use Rattle.syntax_types.specs.declared.slice.Slice.{Slice}
use Rattle.picture_grammar.specs.Grammar.Next.{more, last}
use Rattle.picture_grammar.specs.Grammar.{many}
use Rattle.picture_grammar.specs.Refusal.Refusal.{Uncovered}
use Rattle.picture_grammar.specs.Picture.{addresses, next_slice, rows, whole_slice, RefusesPicture}
use Rattle.picture_grammar.specs.Slice.{columns, slice}
use Rattle.grammar_reading.specs.BitsRead.{PlacedRefusal}
use Rattle.grammar_reading.specs.Several.{SpellsFront}
use Rattle.grammar_reading.proofs.Several.{several-more, several-end}
use Rattle.video_headers.specs.declared.head.Headers.{Headers}
use Rattle.picture_reader.specs.declared.coverage.Coverage.{Coverage}
use Rattle.picture_reader.specs.declared.coverage.Span.{Span}
use Rattle.picture_reader.specs.declared.cursor.UnitCursor.{UnitCursor}
use Rattle.picture_reader.specs.Coverage.{Covers}
use Rattle.picture_reader.specs.Picture.{IsPictureOf}
use Rattle.picture_reader.specs.Told.{RefusesTold}
use Rattle.picture_reader.specs.UnitCursor.{bits_from, picture_of, StandsBehindSlices, SliceBegins, SliceStands}
use Rattle.picture_reader.specs.Private.Faults.{moved}
use Rattle.picture_reader.proofs.Told.{list-refused}
use Rattle.picture_reader.proofs.Walks.{comes-told}
use Rattle.picture_reader.proofs.Wholes.{whole-refused, whole-spelled, whole-within}
use Rattle.picture_reader.proofs.Units.{RefusesUnit, slices-told, unit-uncovered, unit-whole}

not-none : (before : List Slice) (s : Slice) → before ++ s ∷ [] ≢ []
not-none before s e = omega (arith, ap length e, length-append before (s ∷ []))

module _ (before : Option SeqState) (unit : List ℕ) (are : AreBytes unit) (slices : List Slice) (cursor : UnitCursor) (stands : StandsBehindSlices before unit slices cursor) where
  abbrev seq : SeqState
  seq = cursor.headers.seq

  abbrev coding : PicCoding
  coding = cursor.headers.coding

  abbrev first_bits : List ℕ
  first_bits = bits_from unit cursor.headers.slices_at

  pub part-refused : (told : Option PlacedRefusal) → RefusesTold (next_slice cursor.headers.seq cursor.headers.coding slices) told (8 * length unit) (bits_from unit cursor.at)
      → RefusesUnit before unit told
  part-refused told r =
      slices-told before unit are cursor.headers stands.headed told
      (list-refused (next_slice seq coding) slices told (8 * length unit) first_bits (bits_from unit cursor.at) stands.front r)

  -- the end of the slices
  module _ (end : Bool) (ended : (next_slice cursor.headers.seq cursor.headers.coding slices).Spells (last end) (bits_from unit cursor.at) []) where
    all-spelled : (many (next_slice seq coding)).Spells (slices, end) first_bits []
    all-spelled = several-end (next_slice seq coding) slices end first_bits (bits_from unit cursor.at) [] stands.front ended

    pub end-uncovered : (flat_map (addresses cursor.headers.seq) slices ≡ range_with_len 0 (rows cursor.headers.seq cursor.headers.coding * columns cursor.headers.seq) → ⊥)
        → RefusesPicture before unit Uncovered 0
    end-uncovered none = unit-uncovered before unit are cursor.headers stands.headed slices end all-spelled none

    pub end-whole : flat_map (addresses cursor.headers.seq) slices ≡ range_with_len 0 (rows cursor.headers.seq cursor.headers.coding * columns cursor.headers.seq)
        → IsPictureOf before unit (picture_of cursor.headers (take cursor.headers.slices_at unit) slices end)
    end-whole all = unit-whole before unit are cursor.headers stands.headed slices end all-spelled all

  -- one more slice
  module _ (row at : ℕ) (begins : SliceBegins slices unit cursor row at) where
    pub slice-refused : (told : Option PlacedRefusal)
        → RefusesTold (slice cursor.headers.seq cursor.headers.coding row) told (length (bits_from unit at)) (bits_from unit at)
        → RefusesUnit before unit (moved (8 * at) told)
    slice-refused told r =
        let of_code : RefusesTold (slice seq coding (begins.code - FIRST_SLICE)) told (length (bits_from unit at)) (bits_from unit at) =
        subst (λ (k : ℕ). RefusesTold (slice seq coding k) told (length (bits_from unit at)) (bits_from unit at)) begins.in_row r in
        part-refused (moved (8 * at) told)
        (comes-told seq coding slices begins.code (bits_from unit cursor.at) (bits_from unit at) begins.comes (moved (8 * at) told) (8 * length unit)
        (whole-refused seq coding begins.code unit at begins.within told of_code))

    pub stands-more : (bits : ℕ) (span : Span) (found : Slice) (coverage : Coverage) (end : ℕ) → SliceStands cursor unit row at bits span found
        → Covers cursor.headers.seq (slices ++ found ∷ []) coverage → end ≡ at + (bits + 7) / 8
        → StandsBehindSlices before unit (slices ++ found ∷ []) (record { headers = cursor.headers; at = end; is_first = false; coverage = coverage })
    stands-more bits span found coverage end s covers is =
        let spelled : (slice seq coding (begins.code - FIRST_SLICE)).Spells found (bits_from unit at) (drop bits (bits_from unit at)) =
        subst (λ (k : ℕ). (slice seq coding k).Spells found (bits_from unit at) (drop bits (bits_from unit at))) begins.in_row s.spelled in
        let whole : (whole_slice seq coding begins.code).Spells found (bits_from unit at) (bits_from unit end) =
        subst (λ (k : ℕ). (whole_slice seq coding begins.code).Spells found (bits_from unit at) (bits_from unit k)) (sym is)
        (whole-spelled seq coding begins.code unit at begins.within bits s.within found spelled) in
        record {
          headed = stands.headed;
          front = several-more (next_slice seq coding) slices found first_bits (bits_from unit cursor.at) (bits_from unit end) stands.front
              (begins.comes.spelled found (bits_from unit end) whole);
          within = subst (λ (k : ℕ). k ≤ length unit) (sym is) (whole-within seq coding begins.code unit at begins.within bits s.within);
          first = not-none slices found;
          covers = covers;
        }
