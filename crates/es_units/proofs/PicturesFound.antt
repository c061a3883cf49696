-- Which pictures a finder has found behind more bytes.
use Rattle.std.proofs.Common.{◌≡◌, ℕ, zero, suc, ◌+◌, ◌-◌, ◌<◌, ◌≤◌, ◌==◌, Bool, true, false, not, ◌&&◌, List, [], ◌∷◌, ◌++◌, length, take, drop, filter, Option, Some, None, if◌then◌else◌, refl, sym, ap, subst, ◌∙◌, inl, inr, arith}
use Rattle.std.specs.List.{list_any, range_with_len}
use Rattle.std.specs.Option.{option_to_list}
use Rattle.std.proofs.lemmas.Bool.{and_left, cases_lt, lt-ltb, le-ltb}
use Rattle.std.proofs.lemmas.List.{append-nil, append_assoc, length-append, length-take, take-append-drop, take_rest}
use Rattle.stream_constants.specs.declared.start_codes.TheConstants.{GROUP, GROUP_HEADER_BYTES, PICTURE}
use Rattle.es_units.specs.declared.picture_finder.PictureFinder.{PictureFinder}
use Rattle.es_units.specs.Pictures.{begins_picture, is_in_group}
use Rattle.es_units.specs.PictureFinder.{HasFound, IsLastGroup, found_of, is_group_at, picture_places}
use Rattle.es_units.specs.Private.Groups.{group_reaches}
use Rattle.es_units.specs.StartCodes.{is_start_code_at, start_code_at, has_code}
use Rattle.es_units.specs.Units.{places}
use Rattle.es_units.proofs.Codes.{no_code, code_is}
use Rattle.es_units.proofs.CutterKeeps.{take_sum}
use Rattle.es_units.proofs.FrontCodes.{behind_none, front_same, joint_is, joint_code, joint_place, joint_list, tail_more, like_is, like_code, like_front}
use Rattle.es_units.proofs.Fronts.{filter_append, filter_quiet, filter_same, filter_split, past_end}
use Rattle.es_units.proofs.Places.{none_passes, places_more, some_place}

-- ---- a stream and bytes behind it

any_same : (p q : ℕ → Bool) (n from : ℕ) → ((k : ℕ) → from ≤ k → k < from + n → p k ≡ q k) → list_any p (range_with_len from n) ≡ list_any q (range_with_len from n)
any_same p q zero from same = refl
any_same p q (suc n) from same =
    let here : p from ≡ q from = same from (omega arith) (omega arith) in
    let rest : list_any p (range_with_len (from + 1) n) ≡ list_any q (range_with_len (from + 1) n) = any_same p q n (from + 1) (λ k b u. same k (omega arith) (omega arith)) in
    rw (here, rest) refl

-- whether a picture begins is told by the bytes of its start code and those before
pub begins_same : (es more : List ℕ) (at : ℕ) → at + 3 < length es → begins_picture (es ++ more) at ≡ begins_picture es at
begins_same es more at within =
    let code : has_code (λ value. value == PICTURE) (es ++ more) at ≡ has_code (λ value. value == PICTURE) es at = front_same (λ value. value == PICTURE) es more at within in
    let inside : is_in_group (es ++ more) at ≡ is_in_group es at =
    any_same (has_code (λ value. value == GROUP) (es ++ more)) (has_code (λ value. value == GROUP) es) (at - (at + 1 - GROUP_HEADER_BYTES)) (at + 1 - GROUP_HEADER_BYTES)
    (λ k b u. front_same (λ value. value == GROUP) es more k (omega arith)) in
    rw (code, inside) refl

-- none begins where no start code stands
begins_none : (es : List ℕ) (at : ℕ) → is_start_code_at es at ≡ false → begins_picture es at ≡ false
begins_none es at none = and_left _ _ (no_code (λ value. value == PICTURE) es at none)

-- those up to the last bytes are all
places_until : (es : List ℕ) → picture_places es ≡ filter (begins_picture es) (places 0 (length es - 3))
places_until es = filter_quiet (begins_picture es) (length es - 3) (length es) (omega arith) (λ k b u. begins_none es k (past_end es k (omega arith)))

-- and are the same of a longer stream
places_front : (es more : List ℕ) → filter (begins_picture (es ++ more)) (places 0 (length es - 3)) ≡ picture_places es
places_front es more =
    filter_same (begins_picture (es ++ more)) (begins_picture es) (length es - 3) (λ k u. begins_same es more k (omega arith)) ∙ sym (places_until es)

pub places_final : (es more : List ℕ) → (later : List ℕ) × (picture_places (es ++ more) ≡ picture_places es ++ later)
places_final es more =
    let later = filter (begins_picture (es ++ more)) (places (length es - 3) (length (es ++ more))) in (
      later,
      filter_split (begins_picture (es ++ more)) (length es - 3) (length (es ++ more)) (omega (arith, length-append es more))
          ∙ ap (λ (ks : List ℕ). ks ++ later) (places_front es more),
    )

-- where no start code ends with the bytes there are no more
places_quiet : (es bytes : List ℕ) → ((k : ℕ) → length es - 3 ≤ k → k < length (es ++ bytes) - 3 → is_start_code_at (es ++ bytes) k ≡ false)
    → picture_places (es ++ bytes) ≡ picture_places es
places_quiet es bytes quiet =
    let all = es ++ bytes in
    places_until all ∙ filter_quiet (begins_picture all) (length es - 3) (length all - 3) (omega (arith, length-append es bytes)) (λ k b u. begins_none all k (quiet k b u))
    ∙ places_front es bytes

one_of : (test : ℕ → Bool) (at : ℕ) → filter test (at ∷ []) ≡ (if test at then at ∷ [] else [])
one_of test at = by_test (test at) refl
  where
    by_test : (b : Bool) → test at ≡ b → filter test (at ∷ []) ≡ (if test at then at ∷ [] else [])
    by_test true is = rw is refl
    by_test false is = rw is refl

-- where the only one stands at their end a picture may begin there
places_code : (es bytes : List ℕ) (at : ℕ) → length (es ++ bytes) ≡ at + 4 → length es - 3 ≤ at
    → ((k : ℕ) → length es - 3 ≤ k → k < at → is_start_code_at (es ++ bytes) k ≡ false)
    → picture_places (es ++ bytes) ≡ picture_places es ++ (if begins_picture (es ++ bytes) at then at ∷ [] else [])
places_code es bytes at size le quiet =
    let all = es ++ bytes in
    let upto : length all - 3 ≡ at + 1 = omega (arith, size) in
    places_until all ∙ ap (λ (to : ℕ). filter (begins_picture all) (places 0 to)) upto
    ∙ ap (filter (begins_picture all)) (places_more 0 at (omega arith)) ∙ filter_append (begins_picture all) (places 0 at) (at ∷ [])
    ∙ ap (λ (ks : List ℕ). ks ++ filter (begins_picture all) (at ∷ []))
    (filter_quiet (begins_picture all) (length es - 3) at le (λ k b u. begins_none all k (quiet k b u)) ∙ places_front es bytes)
    ∙ ap (λ (ks : List ℕ). picture_places es ++ ks) (one_of (begins_picture all) at)

-- ---- the last group of pictures header

-- one of the stream stands before its last three bytes
group_within : (es : List ℕ) (at : ℕ) → is_group_at es at ≡ true → at + 3 < length es
group_within es at is = elim (cases_lt (at + 3) (length es)) [
  | inl less ↦ less
  | inr past ↦ (
      let none : is_group_at es at ≡ false = no_code (λ value. value == GROUP) es at (past_end es at past) in
      absurd (let both : true ≡ false = sym is ∙ none in cc)
      )
]

module _ (es bytes : List ℕ) (to : ℕ) (quiet : (k : ℕ) → length es - 3 ≤ k → k < to → is_start_code_at (es ++ bytes) k ≡ false) where
  -- up to the place no other begins
  group_same : (k : ℕ) → k < to → is_group_at (es ++ bytes) k ≡ is_group_at es k
  group_same k u = elim (cases_lt (k + 3) (length es)) [
    | inl within ↦ front_same (λ value. value == GROUP) es bytes k within
    | inr past ↦ no_code (λ value. value == GROUP) (es ++ bytes) k (quiet k (omega arith) u) ∙ sym (no_code (λ value. value == GROUP) es k (past_end es k past))
  ]

  -- it is the last one still, where none begins from the place on
  last_same : (group : Option ℕ) → length es - 3 ≤ to → ((k : ℕ) → to ≤ k → is_group_at (es ++ bytes) k ≡ false) → IsLastGroup es group → IsLastGroup (es ++ bytes) group
  last_same None le none last = λ k. elim (cases_lt k to) [
    | inl before ↦ group_same k before ∙ last k
    | inr behind ↦ none k behind
  ]
  last_same (Some at) le none last =
      let within : at + 3 < length es = group_within es at last.0 in (
        group_same at (omega arith) ∙ last.0,
        λ k later. elim (cases_lt k to) [
          | inl before ↦ group_same k before ∙ last.1 k later
          | inr behind ↦ none k behind
        ],
      )

  -- a header reaches over the place exactly where the last one does
  reaches : (group : Option ℕ) → length es - 3 ≤ to → IsLastGroup es group → is_in_group (es ++ bytes) to ≡ group_reaches group to
  reaches None le last =
      none_passes (is_group_at (es ++ bytes)) (to - (to + 1 - GROUP_HEADER_BYTES)) (to + 1 - GROUP_HEADER_BYTES)
      (λ k b u. group_same k (omega arith) ∙ last k)
  reaches (Some at) le last =
      let within : at + 3 < length es = group_within es at last.0 in
      elim (cases_lt (to - at) GROUP_HEADER_BYTES) [
        | inl near ↦ (some_place (is_group_at (es ++ bytes)) (to - (to + 1 - GROUP_HEADER_BYTES)) (to + 1 - GROUP_HEADER_BYTES) at (omega arith) (omega arith)
            (group_same at (omega arith) ∙ last.0) ∙ sym (lt-ltb (to - at) GROUP_HEADER_BYTES near))
        | inr far ↦ (none_passes (is_group_at (es ++ bytes)) (to - (to + 1 - GROUP_HEADER_BYTES)) (to + 1 - GROUP_HEADER_BYTES)
            (λ k b u. group_same k (omega arith) ∙ last.1 k (omega arith)) ∙ sym (le-ltb (to - at) GROUP_HEADER_BYTES far))
      ]

-- ---- bytes are taken

-- what is known of the pictures, the bytes and the end of a stream is all that is asked
has_found : (es found : List ℕ) (finder : PictureFinder) → picture_places es ≡ found → finder.pushed ≡ length es → finder.tail ≡ drop (length es) (behind_none es)
    → IsLastGroup es finder.group → HasFound es found finder
has_found es found finder all count tail group = record {
  final = λ more. (let is = places_final es more in (is.0, is.1 ∙ ap (λ (ks : List ℕ). ks ++ is.0) all));
  all = all;
  count = count;
  tail = tail;
  group = group;
}

-- none are, and what was found last is forgotten
pub found_still : (es found : List ℕ) (old new : PictureFinder) → new.found ≡ None → new.tail ≡ old.tail → new.pushed ≡ old.pushed → new.group ≡ old.group
    → HasFound es found old → HasFound (es ++ []) (found ++ found_of new) new
found_still es found old new none tail pushed group has =
    let no_more : found ++ found_of new ≡ found = let e : found_of new ≡ [] = rw none refl in ap (λ (ks : List ℕ). found ++ ks) e ∙ append-nil found in
    subst (λ (xs : List ℕ). HasFound xs (found ++ found_of new) new) (sym (append-nil es))
    (subst (λ (ks : List ℕ). HasFound es ks new) (sym no_more)
    (has_found es found new has.all (pushed ∙ has.count) (tail ∙ has.tail) (subst (IsLastGroup es) (sym group) has.group)))

-- no start code ends with them
pub finds_none : (es found : List ℕ) (old new : PictureFinder) (bytes : List ℕ) → HasFound es found old → old.found ≡ None
    → new.tail ≡ drop (length bytes) (old.tail ++ bytes) → new.pushed ≡ old.pushed + length bytes → new.group ≡ old.group → new.found ≡ old.found
    → ((at : ℕ) → is_start_code_at (old.tail ++ bytes) at ≡ false) → HasFound (es ++ bytes) (found ++ found_of new) new
finds_none es found old new bytes has none tail pushed group same empty =
    let all = es ++ bytes in
    let size : length all ≡ length es + length bytes = length-append es bytes in
    let joint : old.tail ++ bytes ≡ drop (length es) (behind_none all) = ap (λ (xs : List ℕ). xs ++ bytes) has.tail ∙ joint_list es bytes in
    let quiet : (k : ℕ) → length es - 3 ≤ k → k < length all - 3 → is_start_code_at all k ≡ false = λ k b u.
    sym (joint_is all (length es) (k + 3 - length es) k (omega arith)) ∙ ap (λ (xs : List ℕ). is_start_code_at xs (k + 3 - length es)) (sym joint) ∙ empty (k + 3 - length es) in
    let no_more : found_of new ≡ [] = rw (same, none) refl in
    subst (λ (ks : List ℕ). HasFound all ks new) (sym (ap (λ (ks : List ℕ). found ++ ks) no_more ∙ append-nil found))
    (has_found all found new (places_quiet es bytes quiet ∙ has.all) (omega (arith, pushed, has.count, size))
    (tail ∙ ap (λ (xs : List ℕ). drop (length bytes) (xs ++ bytes)) has.tail ∙ sym (tail_more es bytes))
    (subst (IsLastGroup all) (sym group) (last_same es bytes (length all - 3) quiet old.group (omega (arith, size))
    (λ k b. no_code (λ value. value == GROUP) all k (past_end all k (omega arith))) has.group)))

-- a start code is found among the last bytes and a piece, and the bytes up to its end are taken
pub finds_code : (es found : List ℕ) (old mid new : PictureFinder) (piece : List ℕ) (j value : ℕ) → HasFound es found old
    → j + 3 < length (old.tail ++ piece) → start_code_at (old.tail ++ piece) j ≡ Some value → ((at : ℕ) → at < j → is_start_code_at (old.tail ++ piece) at ≡ false)
    → length old.tail ≡ 3
    → mid.tail ≡ drop (length (take (j + 1) piece)) (old.tail ++ take (j + 1) piece) → mid.pushed ≡ old.pushed + length (take (j + 1) piece) → mid.group ≡ old.group
    → new.tail ≡ mid.tail → new.pushed ≡ mid.pushed → new.group ≡ (if value == GROUP then Some (mid.pushed - 4) else mid.group)
    → new.found ≡ (if (value == PICTURE) && not (group_reaches mid.group (mid.pushed - 4)) then Some (mid.pushed - 4) else None)
    → HasFound (es ++ take (j + 1) piece) (found ++ found_of new) new
finds_code es found old mid new piece j value has within code first long tail pushed group tail_is pushed_is group_is found_is =
    let bytes = take (j + 1) piece in
    let all = es ++ bytes in
    let rest = drop (j + 1) piece in
    let whole = es ++ piece in
    let tail_size : length (old.tail ++ piece) ≡ length old.tail + length piece = length-append old.tail piece in
    let count : length bytes ≡ j + 1 = omega (arith, length-take (j + 1) piece, tail_size, long, within) in
    let size : length all ≡ length es + (j + 1) = omega (arith, length-append es bytes, count) in
    let joint : old.tail ++ piece ≡ drop (length es) (behind_none whole) = ap (λ (xs : List ℕ). xs ++ piece) has.tail ∙ joint_list es piece in
    let parts : whole ≡ all ++ rest = ap (λ (xs : List ℕ). es ++ xs) (sym (take-append-drop (j + 1) piece)) ∙ sym (append_assoc es bytes rest) in
    let stands : start_code_at (drop (length es) (behind_none whole)) j ≡ Some value = ap (λ (xs : List ℕ). start_code_at xs j) (sym joint) ∙ code in
    let far : 3 ≤ length es + j = joint_place whole (length es) j value stands in
    let at = length es + j - 3 in
    let here : start_code_at all at ≡ Some value =
    sym (like_code (all ++ rest) at all at (like_front all rest at (omega (arith, size, far)))) ∙ ap (λ (xs : List ℕ). start_code_at xs at) (sym parts)
    ∙ sym (joint_code whole (length es) j at (omega (arith, far))) ∙ stands in
    let quiet : (k : ℕ) → length es - 3 ≤ k → k < at → is_start_code_at all k ≡ false = λ k b u.
    sym (like_is (all ++ rest) k all k (like_front all rest k (omega (arith, size, u)))) ∙ ap (λ (xs : List ℕ). is_start_code_at xs k) (sym parts)
    ∙ sym (joint_is whole (length es) (k + 3 - length es) k (omega arith))
    ∙ ap (λ (xs : List ℕ). is_start_code_at xs (k + 3 - length es)) (sym joint) ∙ first (k + 3 - length es) (omega (arith, u, far)) in
    let le : length es - 3 ≤ at = omega arith in
    let all_size : length all ≡ at + 4 = omega (arith, size, far) in
    let counted : mid.pushed ≡ length all = omega (arith, pushed, has.count, size, count) in
    let place : mid.pushed - 4 ≡ at = omega (arith, counted, all_size) in
    let reached : is_in_group all at ≡ group_reaches mid.group (mid.pushed - 4) =
    reaches es bytes at quiet old.group le has.group ∙ rw (group, place) refl in
    let begins : begins_picture all at ≡ ((value == PICTURE) && not (group_reaches mid.group (mid.pushed - 4))) = rw (code_is (λ v. v == PICTURE) all at value here, reached) refl in
    let more : found_of new ≡ (if begins_picture all at then at ∷ [] else []) = rw (found_is, begins) (told (value == PICTURE && not (group_reaches mid.group (mid.pushed - 4))) (mid.pushed - 4) at place) in
    has_found all (found ++ found_of new) new
    (places_code es bytes at all_size le quiet ∙ rw (has.all, more) refl)
    (pushed_is ∙ counted)
    (tail_is ∙ tail ∙ ap (λ (xs : List ℕ). drop (length bytes) (xs ++ bytes)) has.tail ∙ sym (tail_more es bytes))
    (subst (IsLastGroup all) (sym (group_is ∙ rw (group, place) refl)) (by_value (value == GROUP) refl le quiet all_size here))
  where
    told : (b : Bool) (from at : ℕ) → from ≡ at → option_to_list (if b then Some from else None) ≡ (if b then at ∷ [] else [])
    told true from at is = ap (λ (k : ℕ). k ∷ []) is
    told false from at is = refl

    by_value : (is : Bool) → (value == GROUP) ≡ is → length es - 3 ≤ length es + j - 3
        → ((k : ℕ) → length es - 3 ≤ k → k < length es + j - 3 → is_start_code_at (es ++ take (j + 1) piece) k ≡ false)
        → length (es ++ take (j + 1) piece) ≡ length es + j - 3 + 4 → start_code_at (es ++ take (j + 1) piece) (length es + j - 3) ≡ Some value
        → IsLastGroup (es ++ take (j + 1) piece) (if is then Some (length es + j - 3) else old.group)
    by_value true is le quiet size here =
        let all = es ++ take (j + 1) piece in
        (code_is (λ v. v == GROUP) all (length es + j - 3) value here ∙ is, λ k later. no_code (λ v. v == GROUP) all k (past_end all k (omega (arith, size, later))))
    by_value false is le quiet size here =
        let all = es ++ take (j + 1) piece in
        let at = length es + j - 3 in
        last_same es (take (j + 1) piece) at quiet old.group le (λ k b. elim (cases_lt at k) [
          | inl later ↦ no_code (λ v. v == GROUP) all k (past_end all k (omega (arith, size, later)))
          | inr upto ↦ (let same : k ≡ at = omega (arith, b, upto) in ap (is_group_at all) same ∙ code_is (λ v. v == GROUP) all at value here ∙ is)
        ]) has.group

-- ---- one step behind others of a piece

pub found_on : (es found : List ℕ) (old new : PictureFinder) (piece : List ℕ) (count more : ℕ) → old.found ≡ None → count ≤ length piece
    → HasFound ((es ++ take count piece) ++ take more (take (length piece - count) (drop count piece))) ((found ++ found_of old) ++ found_of new) new
    → HasFound (es ++ take (count + more) piece) (found ++ found_of new) new
found_on es found old new piece count more none within has =
    let places : found ++ found_of old ≡ found = let e : found_of old ≡ [] = rw none refl in ap (λ (ks : List ℕ). found ++ ks) e ∙ append-nil found in
    let bytes : (es ++ take count piece) ++ take more (take (length piece - count) (drop count piece)) ≡ es ++ take (count + more) piece =
    ap (λ (xs : List ℕ). (es ++ take count piece) ++ take more xs) (take_rest piece count)
    ∙ append_assoc es (take count piece) (take more (drop count piece)) ∙ ap (λ (xs : List ℕ). es ++ xs) (take_sum count more piece within) in
    rw (bytes, places) at has
