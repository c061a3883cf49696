-- The times of units, looked up by where pictures begin and by PES packets in order.
use Rattle.std.proofs.Common.{◌≡◌, ℕ, zero, suc, ◌+◌, ◌-◌, ◌<◌, ◌≤◌, ◌==◌, Bool, true, false, List, [], ◌∷◌, ◌++◌, length, get_or, take, drop, filter, All, Option, Some, None, cond, refl, sym, ap, subst, ◌∙◌, inl, inr, arith}
use Rattle.std.specs.List.{range_with_len}
use Rattle.std.specs.Option.{option_map_or}
use Rattle.std.proofs.Math.Seq.{split_at}
use Rattle.std.proofs.lemmas.Bool.{cases_eq, cases_lt, eq-eqb, ne_eqb, le-leb, lt-leb}
use Rattle.std.proofs.lemmas.List.{take_more}
use Rattle.std.proofs.lemmas.List.Elements.{All-cons, All-head, All-tail, All-nil, All-push}
use Rattle.list_types.proofs.Search.{find_range}
use Rattle.audio_frames.proofs.Places.{found_least, none_passes}
use Rattle.es_units.specs.PictureFinder.{picture_places}
use Rattle.es_units.specs.Pictures.{begins_picture, first_picture}
use Rattle.list_types.proofs.Search.{find_none}
use Rattle.elementary_streams.specs.declared.pes_packets.PlacedPacket.{PlacedPacket}
use Rattle.program_reader.specs.PictureTimes.{is_first_picture_in, no_times, times_at, times_of_unit}
use Rattle.program_reader.specs.TimesWalk.{Join}
use Rattle.program_reader.specs.Private.TimesWalk.{EndsWith, IsNextOf, times_behind}
use Rattle.program_reader.proofs.StampLemmas.{within}

-- ---- the next item of a list

pub next_of : {X : Type 0} (xs : List X) (count : ℕ) (d : X) → count < length xs → IsNextOf xs count (get_or xs count d)
next_of xs count d lt = record { rest = drop (suc count) xs; split = split_at xs count d lt; within = lt }

pub ends_with : (places : List ℕ) (count : ℕ) → 0 < count → count ≤ length places → EndsWith (take count places) (Some (get_or places (count - 1) 0))
ends_with places count some within =
    let one : (count - 1) + 1 ≡ count = omega (arith, some) in
    (take (count - 1) places, ap (λ (n : ℕ). take n places) (sym one) ∙ take_more places (count - 1) 0 (omega (arith, some, within)))

-- ---- what passes a test among places in order

-- none passes between what is listed before a place and the next that is
pub between : (test : ℕ → Bool) (n from low at : ℕ) (before behind : List ℕ) → filter test (range_with_len from n) ≡ before ++ at ∷ behind
    → All (λ place. place < low) before → (k : ℕ) → from ≤ k → low ≤ k → k < at → test k ≡ false
between test zero from low at [] behind is all k begun le lt = absurd cc
between test zero from low at (b ∷ before) behind is all k begun le lt = absurd cc
between test (suc n) from low at before behind is all k begun le lt =
    by_test (test from) refl before is all (λ before is all later. between test n (from + 1) low at before behind is all k later le lt)
  where
    by_test : (passes : Bool) → test from ≡ passes → (before : List ℕ) → cond passes (from ∷ filter test (range_with_len (from + 1) n)) (filter test (range_with_len (from + 1) n)) ≡ before ++ at ∷ behind
        → All (λ place. place < low) before
        → ((before : List ℕ) → filter test (range_with_len (from + 1) n) ≡ before ++ at ∷ behind → All (λ place. place < low) before → from + 1 ≤ k → test k ≡ false)
        → test k ≡ false
    by_test true passes [] is all rest = let same : from ≡ at = cc in absurd (omega (arith, same, begun, lt))
    by_test true passes (b ∷ before) is all rest =
        let same : from ≡ b = cc in
        let more : filter test (range_with_len (from + 1) n) ≡ before ++ at ∷ behind = cc in
        let low_b : b < low = All-head (λ place. place < low) b before all in
        rest before more (All-tail (λ place. place < low) b before all) (omega (arith, same, low_b, le))
    by_test false fails before is all rest = elim (cases_eq from k) [
      | inl same ↦ subst (λ (j : ℕ). test j ≡ false) same fails
      | inr apart ↦ rest before is all (omega (arith, apart, begun))
    ]

-- none passes behind the last that is listed
pub behind_all : (test : ℕ → Bool) (n from low : ℕ) → All (λ place. place < low) (filter test (range_with_len from n)) → (k : ℕ) → from ≤ k → k < from + n → low ≤ k → test k ≡ false
behind_all test zero from low all k begun upto le = absurd (omega arith)
behind_all test (suc n) from low all k begun upto le = by_test (test from) refl all (λ all later. behind_all test n (from + 1) low all k later (omega (arith, upto)) le)
  where
    by_test : (passes : Bool) → test from ≡ passes → All (λ place. place < low) (cond passes (from ∷ filter test (range_with_len (from + 1) n)) (filter test (range_with_len (from + 1) n)))
        → (All (λ place. place < low) (filter test (range_with_len (from + 1) n)) → from + 1 ≤ k → test k ≡ false) → test k ≡ false
    by_test true passes all rest =
        let low_from : from < low = All-head (λ place. place < low) from (filter test (range_with_len (from + 1) n)) all in
        rest (All-tail (λ place. place < low) from (filter test (range_with_len (from + 1) n)) all) (omega (arith, low_from, le))
    by_test false fails all rest = elim (cases_eq from k) [
      | inl same ↦ subst (λ (j : ℕ). test j ≡ false) same fails
      | inr apart ↦ rest all (omega (arith, apart, begun))
    ]

-- what is listed passes and is one of the places
pub record IsListed (test : ℕ → Bool) (from end at : ℕ) (before : List ℕ) : Type 0 where
  pub passes : test at ≡ true
  pub begun : from ≤ at
  pub upto : at < end
  pub earlier : All (λ place. place < at) before

pub listed : (test : ℕ → Bool) (n from at : ℕ) (before behind : List ℕ) → filter test (range_with_len from n) ≡ before ++ at ∷ behind → IsListed test from (from + n) at before
listed test zero from at [] behind is = absurd cc
listed test zero from at (b ∷ before) behind is = absurd cc
listed test (suc n) from at before behind is = by_test (test from) refl before is (λ before is. listed test n (from + 1) at before behind is)
  where
    later : (before : List ℕ) → IsListed test (from + 1) ((from + 1) + n) at before → IsListed test from (from + suc n) at before
    later before is = record { passes = is.passes; begun = omega (arith, is.begun); upto = omega (arith, is.upto); earlier = is.earlier }

    by_test : (passes : Bool) → test from ≡ passes → (before : List ℕ) → cond passes (from ∷ filter test (range_with_len (from + 1) n)) (filter test (range_with_len (from + 1) n)) ≡ before ++ at ∷ behind
        → ((before : List ℕ) → filter test (range_with_len (from + 1) n) ≡ before ++ at ∷ behind → IsListed test (from + 1) ((from + 1) + n) at before)
        → IsListed test from (from + suc n) at before
    by_test true passes [] is rest =
        let same : from ≡ at = cc in
        record { passes = subst (λ (k : ℕ). test k ≡ true) same passes; begun = omega (arith, same); upto = omega (arith, same); earlier = All-nil (λ place. place < at) }
    by_test true passes (b ∷ before) is rest =
        let same : from ≡ b = cc in
        let more : filter test (range_with_len (from + 1) n) ≡ before ++ at ∷ behind = cc in
        let is_listed = rest before more in
        record {
          passes = is_listed.passes;
          begun = omega (arith, is_listed.begun);
          upto = omega (arith, is_listed.upto);
          earlier = All-cons (λ place. place < at) b before (omega (arith, same, is_listed.begun)) is_listed.earlier;
        }
    by_test false fails before is rest = later before (rest before is)

one_more : (xs : List ℕ) (x : ℕ) (ys : List ℕ) → (xs ++ x ∷ []) ++ ys ≡ xs ++ x ∷ ys
one_more [] x ys = refl
one_more (y ∷ xs) x ys = ap (λ (zs : List ℕ). y ∷ zs) (one_more xs x ys)

all_last : (low : ℕ) (xs : List ℕ) (x : ℕ) → All (λ place. place < low) (xs ++ x ∷ []) → x < low
all_last low [] x all = All-head (λ place. place < low) x [] all
all_last low (y ∷ xs) x all = all_last low xs x (All-tail (λ place. place < low) y (xs ++ x ∷ []) all)

-- ---- the picture of a unit

first_here : (es : List ℕ) (begin end at : ℕ) (before behind : List ℕ) → picture_places es ≡ before ++ at ∷ behind → All (λ place. place < begin) before
    → begin ≤ at → at < end → first_picture es begin end ≡ Some at
first_here es begin end at before behind is all le lt =
    find_range (begins_picture es) (end - begin) begin at le (omega arith) (listed (begins_picture es) (length es - 0) 0 at before behind is).passes
    (λ k b u. between (begins_picture es) (length es - 0) 0 begin at before behind is all k (omega arith) b u)

first_none : (es : List ℕ) (begin end : ℕ) → begin ≤ end → ((k : ℕ) → begin ≤ k → k < end → begins_picture es k ≡ false) → first_picture es begin end ≡ None
first_none es begin end le none = find_none (begins_picture es) (end - begin) begin (λ k b u. none k b (omega arith))

-- ---- the PES packet of a picture

-- one that ends before the picture isn't it
not_before : (es : List ℕ) (at : ℕ) (packet : PlacedPacket) → packet.from ≤ packet.end → packet.end ≤ at → is_first_picture_in es at packet ≡ false
not_before es at packet le past = by_first (first_picture es packet.from packet.end) refl
  where
    by_first : (first : Option ℕ) → first_picture es packet.from packet.end ≡ first → option_map_or (λ f. f == at) first false ≡ false
    by_first None is = refl
    by_first (Some f) is = ne_eqb f at (λ same. omega (arith, same, (within (begins_picture es) packet.from packet.end f le is).1, past))

-- one that begins behind the picture isn't it
not_behind : (es : List ℕ) (at : ℕ) (packet : PlacedPacket) → packet.from ≤ packet.end → at < packet.from → is_first_picture_in es at packet ≡ false
not_behind es at packet le later = by_first (first_picture es packet.from packet.end) refl
  where
    by_first : (first : Option ℕ) → first_picture es packet.from packet.end ≡ first → option_map_or (λ f. f == at) first false ≡ false
    by_first None is = refl
    by_first (Some f) is = ne_eqb f at (λ same. omega (arith, same, (within (begins_picture es) packet.from packet.end f le is).0, later))

-- those behind it tell nothing
pub none_behind : (es : List ℕ) (at from end : ℕ) (packets : List PlacedPacket) → Join from packets end → at < from → times_at es packets at ≡ no_times
none_behind es at from end [] join later = refl
none_behind es at from end (p ∷ ps) join later =
    rw (not_behind es at p (omega (arith, join.0, join.1)) (omega (arith, join.0, later)))
    (none_behind es at p.end end ps join.2 (omega (arith, later, join.1)))

-- those before it are passed by
passed : (es : List ℕ) (at from end : ℕ) (before rest : List PlacedPacket) → Join from (before ++ rest) end → All (λ packet. packet.end ≤ at) before
    → times_at es (before ++ rest) at ≡ times_at es rest at
passed es at from end [] rest join all = refl
passed es at from end (p ∷ ps) rest join all =
    rw (not_before es at p (omega (arith, join.0, join.1)) (All-head (λ packet. packet.end ≤ at) p ps all))
    (passed es at p.end end ps rest join.2 (All-tail (λ packet. packet.end ≤ at) p ps all))

-- where the rest begins
pub record JoinsOn (at end : ℕ) (rest : List PlacedPacket) : Type 0 where
  pub from : ℕ
  pub begun : from ≤ at
  pub join : Join from rest end

joins_on : (at from end : ℕ) (before rest : List PlacedPacket) → from ≤ at → Join from (before ++ rest) end → All (λ packet. packet.end ≤ at) before → JoinsOn at end rest
joins_on at from end [] rest le join all = record { from = from; begun = le; join = join }
joins_on at from end (p ∷ ps) rest le join all =
    joins_on at p.end end ps rest (All-head (λ packet. packet.end ≤ at) p ps all) join.2 (All-tail (λ packet. packet.end ≤ at) p ps all)

module _ (es : List ℕ) (at : ℕ) (packets before rest : List PlacedPacket) (packet : PlacedPacket) (split : packets ≡ before ++ packet ∷ rest)
    (join : Join 0 packets (length es)) (all : All (λ packet. packet.end ≤ at) before) (upto : at < packet.end) where
  here : JoinsOn at (length es) (packet ∷ rest)
  here = joins_on at 0 (length es) before (packet ∷ rest) (omega arith) (subst (λ (ps : List PlacedPacket). Join 0 ps (length es)) split join) all

  pub packet_begun : packet.from ≤ at
  packet_begun = omega (arith, here.begun, here.join.0)

  times_here : times_at es packets at ≡ times_at es (packet ∷ rest) at
  times_here = ap (λ (ps : List PlacedPacket). times_at es ps at) split ∙ passed es at 0 (length es) before (packet ∷ rest) (subst (λ (ps : List PlacedPacket). Join 0 ps (length es)) split join) all

  -- the picture is the first one in it
  pub times_first : first_picture es packet.from packet.end ≡ Some at → times_at es packets at ≡ packet.header.times
  times_first first = let is : (at == at) ≡ true = eq-eqb at at refl in times_here ∙ rw (first, is) refl

  -- another one is
  pub times_later : (earlier : ℕ) → first_picture es packet.from packet.end ≡ Some earlier → earlier < at → times_at es packets at ≡ no_times
  times_later earlier first lt =
      let apart : (earlier == at) ≡ false = ne_eqb earlier at (λ same. omega (arith, same, lt)) in
      times_here ∙ rw (first, apart) (none_behind es at packet.end (length es) rest here.join.2 upto)

-- no PES packet ends behind the picture
pub none_left : (at from end : ℕ) (packets : List PlacedPacket) → from ≤ at → Join from packets end → All (λ packet. packet.end ≤ at) packets → end ≤ at
none_left at from end [] le join all = omega (arith, le, join)
none_left at from end (p ∷ ps) le join all = none_left at p.end end ps (All-head (λ packet. packet.end ≤ at) p ps all) join.2 (All-tail (λ packet. packet.end ≤ at) p ps all)

-- ---- the times of a unit

module _ (es : List ℕ) (packets : List PlacedPacket) (begin end : ℕ) where
  -- no picture begins in it
  pub times_none : begin ≤ end → ((k : ℕ) → begin ≤ k → k < end → begins_picture es k ≡ false) → no_times ≡ times_of_unit es packets (begin, end)
  times_none le none = let is : first_picture es begin end ≡ None = first_none es begin end le none in rw is refl

  pub times_past : begin ≤ end → All (λ place. place < begin) (picture_places es) → end ≤ length es → no_times ≡ times_of_unit es packets (begin, end)
  times_past le all within = times_none le (λ k b u. behind_all (begins_picture es) (length es - 0) 0 begin all k (omega arith) (omega arith) b)

  pub times_beyond : (at : ℕ) (before behind : List ℕ) → begin ≤ end → picture_places es ≡ before ++ at ∷ behind → All (λ place. place < begin) before → end ≤ at
      → no_times ≡ times_of_unit es packets (begin, end)
  times_beyond at before behind le is all past =
      times_none le (λ k b u. between (begins_picture es) (length es - 0) 0 begin at before behind is all k (omega arith) b (omega (arith, u, past)))

  module _ (at : ℕ) (before behind : List ℕ) (is : picture_places es ≡ before ++ at ∷ behind) (all : All (λ place. place < begin) before) (le : begin ≤ at) (lt : at < end) where
    pub times_are : times_of_unit es packets (begin, end) ≡ times_at es packets at
    times_are = let first : first_picture es begin end ≡ Some at = first_here es begin end at before behind is all le lt in rw first refl

    at_within : at < length es
    at_within = omega (arith, (listed (begins_picture es) (length es - 0) 0 at before behind is).upto)

    -- no PES packet is left for it, which can't be
    pub no_packet : Join 0 packets (length es) → All (λ packet. packet.end ≤ at) packets → ⊥
    no_packet join ended = omega (arith, at_within, none_left at 0 (length es) packets (omega arith) join ended)

    module _ (packet : PlacedPacket) (earlier rest : List PlacedPacket) (split : packets ≡ earlier ++ packet ∷ rest) (join : Join 0 packets (length es))
        (ended : All (λ packet. packet.end ≤ at) earlier) (upto : at < packet.end) where
      -- it is the first picture in its PES packet: none is listed before, or the last one stands before the packet
      pub times_of_first : All (λ place. place < packet.from) before → packet.header.times ≡ times_of_unit es packets (begin, end)
      times_of_first none =
          sym (times_are ∙ times_first es at packets earlier rest packet split join ended upto
          (find_range (begins_picture es) (packet.end - packet.from) packet.from at (packet_begun es at packets earlier rest packet split join ended upto)
          (omega (arith, packet_begun es at packets earlier rest packet split join ended upto, upto)) (listed (begins_picture es) (length es - 0) 0 at before behind is).passes
          (λ k b u. between (begins_picture es) (length es - 0) 0 packet.from at before behind is none k (omega arith) b u)))

      -- the last one stands in it too
      pub times_of_later : (last : ℕ) (early : List ℕ) → before ≡ early ++ last ∷ [] → packet.from ≤ last → no_times ≡ times_of_unit es packets (begin, end)
      times_of_later last early split_before begun =
          sym (times_are ∙ by_first (first_picture es packet.from packet.end) refl)
        where
          last_listed : IsListed (begins_picture es) 0 (0 + (length es - 0)) last early
          last_listed = listed (begins_picture es) (length es - 0) 0 last early (at ∷ behind) (is ∙ ap (λ (xs : List ℕ). xs ++ at ∷ behind) split_before ∙ one_more early last (at ∷ behind))

          last_before : last < at
          last_before = all_last at early last (subst (All (λ place. place < at)) split_before (listed (begins_picture es) (length es - 0) 0 at before behind is).earlier)

          by_first : (first : Option ℕ) → first_picture es packet.from packet.end ≡ first → times_at es packets at ≡ no_times
          by_first None first =
              let none : begins_picture es last ≡ false = none_passes (begins_picture es) (packet.end - packet.from) packet.from first last begun (omega (arith, last_before, upto, begun)) in
              absurd (let both : true ≡ false = sym last_listed.passes ∙ none in cc)
          by_first (Some f) first = elim (cases_lt last f) [
            | inl behind_last ↦ (
                let none : begins_picture es last ≡ false = found_least (begins_picture es) (packet.end - packet.from) packet.from f first last begun behind_last in
                absurd (let both : true ≡ false = sym last_listed.passes ∙ none in cc)
                )
            | inr upto_last ↦ times_later es at packets earlier rest packet split join ended upto f first (omega (arith, upto_last, last_before))
          ]

      -- which of both it is tells the last one that is listed before
      pub times_by_last : (last : Option ℕ) → EndsWith before last → times_behind packet last ≡ times_of_unit es packets (begin, end)
      times_by_last None none = times_of_first (subst (All (λ place. place < packet.from)) (sym none) (All-nil (λ place. place < packet.from)))
      times_by_last (Some last) ends = elim (cases_lt last packet.from) [
        | inl outside ↦ (
            let early_listed : IsListed (begins_picture es) 0 (0 + (length es - 0)) last ends.0 =
            listed (begins_picture es) (length es - 0) 0 last ends.0 (at ∷ behind) (is ∙ ap (λ (xs : List ℕ). xs ++ at ∷ behind) ends.1 ∙ one_more ends.0 last (at ∷ behind)) in
            rw (lt-leb packet.from last outside)
            (times_of_first (subst (All (λ place. place < packet.from)) (sym ends.1)
            (All-push (λ place. place < packet.from) ends.0 last (λ k d u. omega (arith, early_listed.earlier k d u, outside)) outside)))
            )
        | inr inside ↦ rw (le-leb packet.from last inside) (times_of_later last ends.0 ends.1 inside)
      ]
