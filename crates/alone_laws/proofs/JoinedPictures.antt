-- The pictures of units that are joined: each begins in its own unit, and its times are those of the PES packet that holds the unit.
use Rattle.std.proofs.Common.{◌≡◌, ◌≢◌, ℕ, ◌+◌, ◌-◌, ◌<◌, ◌≤◌, ◌==◌, not, nat_lt, Bool, true, false, List, [], ◌∷◌, ◌++◌, get_or, length, Option, Some, None, refl, sym, ap, ap₂, ◌∙◌, inl, inr, arith, eq-eqb}
use Rattle.std.specs.Prelude.{slice_index}
use Rattle.std.specs.Option.{option_map_or}
use Rattle.std.proofs.Math.ListN.{get_or-append}
use Rattle.std.proofs.lemmas.Bool.{and_from, cases_eq, cases_lt, eqb-true, lt-ltb, ne_eqb}
use Rattle.std.proofs.lemmas.List.{get_or-append-add, length-append}
use Rattle.audio_frames.proofs.Places.{found_passes, none_passes}
use Rattle.stream_constants.specs.declared.start_codes.TheConstants.{PICTURE, GROUP}
use Rattle.stream_constants.specs.SliceCodes.{is_slice}
use Rattle.es_units.specs.Pictures.{begins_picture, first_picture}
use Rattle.es_units.specs.StartCodes.{has_code, is_unit_start}
use Rattle.es_units.proofs.Places.{none_passes as none_any}
use Rattle.elementary_streams.specs.declared.pes_packets.PlacedPacket.{PlacedPacket}
use Rattle.layer_laws.specs.WholeUnits.{IsWholeUnit}
use Rattle.unit_laws.proofs.Codes.{Code, CodeOf, code-has, has-code, not-code}
use Rattle.program_reader.specs.PictureTimes.{is_first_picture_in, no_times, times_at, times_of_unit}
use Rattle.program_reader.proofs.PlaceLemmas.{found_from}
use Rattle.alone_laws.proofs.UnitPictures.{HasPicture}
use Rattle.layer_laws.proofs.CodesAtSeams.{same_code}

-- ---- a unit's end

-- a group's start code is one with which a unit may begin
group-starts : (es : List ℕ) (at : ℕ) → has_code (λ value. value == GROUP) es at ≡ true → has_code is_unit_start es at ≡ true
group-starts es at has =
    let found = has-code (λ value. value == GROUP) es at has in
    code-has is_unit_start es at found.value found.code (ap is_unit_start (eqb-true found.value GROUP found.passes))

-- a group's start code in a unit stands eight bytes before its end or earlier: a slice follows
pub group-early : (unit : List ℕ) (k : ℕ) → IsWholeUnit unit → length unit < k + 8 → has_code (λ value. value == GROUP) unit k ≡ false
group-early unit k whole near = not-code (λ value. value == GROUP) unit k clash
  where
    same : (i j a b : ℕ) → i ≡ j → get_or unit i 0 ≡ a → get_or unit j 0 ≡ b → a ≡ b
    same i j a b places one other = sym one ∙ ap (λ (n : ℕ). get_or unit n 0) places ∙ other

    clash : CodeOf (λ value. value == GROUP) unit k → ⊥
    clash found =
        let slice = has-code is_slice unit whole.slice whole.slice_is in
        let own = found.code in
        let other = slice.code in
        let value : found.value ≡ GROUP = eqb-true found.value GROUP found.passes in
        elim (cases_lt whole.slice k) [
          | inl behind ↦
              let no : has_code is_unit_start unit k ≡ false = whole.no_header k behind in
              let header = group-starts unit k (code-has (λ v. v == GROUP) unit k found.value found.code found.passes) in
              let both : false ≡ true = sym no ∙ header in
              cc
          | inr upto ↦ elim (cases_lt (k + 3) whole.slice) [
            | inl far ↦ omega (arith, far, other.within, near)
            | inr close ↦ elim (cases_eq k whole.slice) [
              | inl here ↦
                  let one : found.value ≡ slice.value = same (k + 3) (whole.slice + 3) found.value slice.value (omega (arith, here)) own.last other.last in
                  let both : false ≡ true = sym (ap is_slice value) ∙ ap is_slice one ∙ slice.passes in
                  cc
              | inr apart ↦ elim (cases_eq (k + 1) whole.slice) [
                | inl one ↦ (let both : 1 ≡ 0 = same (k + 2) (whole.slice + 1) 1 0 (omega (arith, one)) own.third other.second in omega (arith, both))
                | inr more ↦ elim (cases_eq (k + 2) whole.slice) [
                  | inl two ↦ (let both : 1 ≡ 0 = same (k + 2) whole.slice 1 0 two own.third other.first in omega (arith, both))
                  | inr last ↦
                      (let both : found.value ≡ 0 = same (k + 3) whole.slice found.value 0 (omega (arith, upto, close, apart, more, last)) own.last other.first in omega (arith, both, value))
                ]
              ]
            ]
          ]
        ]

-- ---- a unit among others

-- The unit stands in a stream from a place on, its start codes with it, behind no start code of a group less than eight bytes before it and before two zeros or
-- the end.
pub record StandsIn (es : List ℕ) (o : ℕ) (unit : List ℕ) : Type 0 where
  pub codes : (test : ℕ → Bool) (p : ℕ) → p + 3 < length unit → has_code test es (o + p) ≡ has_code test unit p
  pub behind : (k : ℕ) → k < o → o < k + 8 → has_code (λ value. value == GROUP) es k ≡ false
  pub first : get_or es (o + length unit) 0 ≡ 0
  pub second : get_or es (o + length unit + 1) 0 ≡ 0

pub stands-in : (es front unit rest : List ℕ) (o : ℕ) → es ≡ front ++ (unit ++ rest) → o ≡ length front → (get_or rest 0 0 ≡ 0) × (get_or rest 1 0 ≡ 0)
    → ((k : ℕ) → k < o → o < k + 8 → has_code (λ value. value == GROUP) es k ≡ false) → StandsIn es o unit
stands-in es front unit rest o is at low apart = record {
  codes = λ test p inside.
      same_code test es unit (o + p) p (lt-ltb (o + p + 3) (length es) (omega (arith, size, at, inside)) ∙ sym (lt-ltb (p + 3) (length unit) inside)) (own p (omega (arith, inside)))
      (next p 1 (omega (arith, inside))) (next p 2 (omega (arith, inside))) (next p 3 inside);
  behind = apart;
  first = later 0 (o + length unit) (omega arith) ∙ low.0;
  second = later 1 (o + length unit + 1) (omega arith) ∙ low.1;
}
  where
    size : length es ≡ length front + length unit + length rest
    size = ap length is ∙ length-append front (unit ++ rest) ∙ omega (arith, length-append unit rest)

    own : (i : ℕ) → i < length unit → get_or es (o + i) 0 ≡ get_or unit i 0
    own i inside =
        ap (λ (xs : List ℕ). get_or xs (o + i) 0) is ∙ ap (λ (n : ℕ). get_or (front ++ (unit ++ rest)) (n + i) 0) at ∙ get_or-append-add front (unit ++ rest) i 0
        ∙ get_or-append unit rest 0 i inside

    next : (p k : ℕ) → p + k < length unit → get_or es (o + p + k) 0 ≡ get_or unit (p + k) 0
    next p k inside = ap (λ (n : ℕ). get_or es n 0) (let e : o + p + k ≡ o + (p + k) = omega arith in e) ∙ own (p + k) inside

    later : (k n : ℕ) → n ≡ o + length unit + k → get_or es n 0 ≡ get_or rest k 0
    later k n place =
        ap₂ (λ (xs : List ℕ) (i : ℕ). get_or xs i 0) is (let e : n ≡ length front + (length unit + k) = omega (arith, place, at) in e) ∙ get_or-append-add front (unit ++ rest) (length unit + k) 0
        ∙ get_or-append-add unit rest k 0

-- what follows the unit is behind no start code of a group less than eight bytes before it either
pub apart-behind : (es : List ℕ) (o : ℕ) (unit : List ℕ) → IsWholeUnit unit → StandsIn es o unit → (k : ℕ) → k < o + length unit → o + length unit < k + 8
    → has_code (λ value. value == GROUP) es k ≡ false
apart-behind es o unit whole there k before near = elim (cases_lt k o) [
  | inl early ↦ there.behind k early (omega (arith, near))
  | inr own ↦
      let p : ℕ = k - o in
      let place : k ≡ o + p = omega (arith, own) in
      elim (cases_lt (p + 3) (length unit)) [
        | inl inside ↦ ap (has_code (λ value. value == GROUP) es) place ∙ there.codes (λ value. value == GROUP) p inside ∙ group-early unit p whole (omega (arith, near, own))
        | inr seam ↦ not-code (λ value. value == GROUP) es k (λ found. across found.value found.code (eqb-true found.value GROUP found.passes) (omega (arith, own, before, seam)) before)
      ]
]
  where
    same : (i j a b : ℕ) → i ≡ j → get_or es i 0 ≡ a → get_or es j 0 ≡ b → a ≡ b
    same i j a b places one other = sym one ∙ ap (λ (n : ℕ). get_or es n 0) places ∙ other

    across : (value : ℕ) → Code es k value → value ≡ GROUP → o + length unit ≤ k + 3 → k < o + length unit → ⊥
    across value code group low high = elim (cases_eq (k + 3) (o + length unit)) [
      | inl one ↦ (let both : value ≡ 0 = same (k + 3) (o + length unit) value 0 one code.last there.first in omega (arith, both, group))
      | inr more ↦ elim (cases_eq (k + 2) (o + length unit)) [
        | inl two ↦ (let both : 1 ≡ 0 = same (k + 2) (o + length unit) 1 0 two code.third there.first in omega (arith, both))
        | inr last ↦ (let both : 1 ≡ 0 = same (k + 2) (o + length unit + 1) 1 0 (omega (arith, low, high, more, last)) code.third there.second in omega (arith, both))
      ]
    ]

-- so the picture of the unit begins in the stream
begins-there : (es : List ℕ) (o : ℕ) (unit : List ℕ) → StandsIn es o unit → (has : HasPicture unit) → begins_picture es (o + has.at) ≡ true
begins-there es o unit there has =
    and_from _ _ (there.codes (λ value. value == PICTURE) has.at inside ∙ has.code)
    (ap not (none_any (has_code (λ value. value == GROUP) es) (o + has.at - (o + has.at + 1 - 8)) (o + has.at + 1 - 8) none))
  where
    inside : has.at + 3 < length unit
    inside = (let found = has-code (λ value. value == PICTURE) unit has.at has.code in let code = found.code in code.within)

    none : (k : ℕ) → o + has.at + 1 - 8 ≤ k → k < o + has.at + 1 - 8 + (o + has.at - (o + has.at + 1 - 8)) → has_code (λ value. value == GROUP) es k ≡ false
    none k low high = elim (cases_lt k o) [
      | inl before ↦ there.behind k before (omega (arith, low))
      | inr own ↦
          let g : ℕ = k - o in
          let place : k ≡ o + g = omega (arith, own) in
          ap (has_code (λ value. value == GROUP) es) place ∙ there.codes (λ value. value == GROUP) g (omega (arith, high, own, inside))
          ∙ has.no_group g (omega (arith, high, own)) (omega (arith, low, own))
    ]

-- where its first picture is found
pub record FindsPicture (es : List ℕ) (o : ℕ) (end : ℕ) : Type 0 where
  pub at : ℕ
  pub found : first_picture es o end ≡ Some at
  pub begun : o ≤ at
  pub within : at < end

pub finds-picture : (es : List ℕ) (o : ℕ) (unit : List ℕ) → StandsIn es o unit → HasPicture unit → FindsPicture es o (o + length unit)
finds-picture es o unit there has = by_found (first_picture es o (o + length unit)) refl
  where
    by_found : (found : Option ℕ) → first_picture es o (o + length unit) ≡ found → FindsPicture es o (o + length unit)
    by_found (Some at) is = record {
      at = at;
      found = is;
      begun = found_from (begins_picture es) (o + length unit - o) o at is;
      within = (let upto = (found_passes (begins_picture es) (o + length unit - o) o at is).1 in omega (arith, upto));
    }
    by_found None is =
        let no : begins_picture es (o + has.at) ≡ false = none_passes (begins_picture es) (o + length unit - o) o is (o + has.at) (omega arith) (omega (arith, has.within)) in
        absurd (let both : false ≡ true = sym no ∙ begins-there es o unit there has in cc)

-- ---- the times of a picture

not-here : (at : ℕ) (first : Option ℕ) → ((found : ℕ) → first ≡ Some found → found ≢ at) → option_map_or (λ found. found == at) first false ≡ false
not-here at None apart = refl
not-here at (Some found) apart = ne_eqb found at (apart found refl)

-- payloads end before a place or at it
abbrev pub EndBy : ℕ → List PlacedPacket → Type 0
EndBy at [] = Unit {0}
EndBy at (packet ∷ packets) = (packet.end ≤ at) × EndBy at packets

pub end-later : (at later : ℕ) (packets : List PlacedPacket) → at ≤ later → EndBy at packets → EndBy later packets
end-later at later [] low by = tt
end-later at later (p ∷ ps) low by = (omega (arith, low, by.0), end-later at later ps low by.1)

pub end-one-more : (at : ℕ) (packets : List PlacedPacket) (packet : PlacedPacket) → EndBy at packets → packet.end ≤ at → EndBy at (packets ++ packet ∷ [])
end-one-more at [] packet by within = (within, tt)
end-one-more at (p ∷ ps) packet by within = (by.0, end-one-more at ps packet by.1 within)

-- PES packets before a place don't hold it
passed-by : (es : List ℕ) (done later : List PlacedPacket) (at : ℕ) → EndBy at done → times_at es (done ++ later) at ≡ times_at es later at
passed-by es [] later at before = refl
passed-by es (p ∷ ps) later at before =
    let here : is_first_picture_in es at p ≡ false =
    not-here at (first_picture es p.from p.end) (λ found is same.
    let low = found_from (begins_picture es) (p.end - p.from) p.from found is in
    let high = (found_passes (begins_picture es) (p.end - p.from) p.from found is).1 in
    omega (arith, low, high, before.0, same)) in
    rw here (passed-by es ps later at before.1)

-- a unit's times are those of the PES packet that it is
pub own-times : (es : List ℕ) (done later : List PlacedPacket) (packet : PlacedPacket) → EndBy packet.from done → FindsPicture es packet.from packet.end
    → times_of_unit es (done ++ packet ∷ later) (packet.from, packet.end) ≡ packet.header.times
own-times es done later packet before finds =
    let here : is_first_picture_in es finds.at packet ≡ true =
    ap (λ (first : Option ℕ). option_map_or (λ found. found == finds.at) first false) finds.found ∙ eq-eqb finds.at finds.at refl in
    let all : times_at es (packet ∷ later) finds.at ≡ packet.header.times = rw here refl in
    ap (λ (first : Option ℕ). option_map_or (times_at es (done ++ packet ∷ later)) first no_times) finds.found
    ∙ passed-by es done (packet ∷ later) finds.at (end-later packet.from finds.at done finds.begun before) ∙ all
