-- What a builder gives, by what it holds.
use Rattle.std.proofs.Common.{
  ◌≡◌,
  ℕ,
  ◌+◌,
  ◌-◌,
  ◌<◌,
  ◌≤◌,
  Bool,
  true,
  false,
  cond,
  List,
  [],
  ◌∷◌,
  ◌++◌,
  length,
  take,
  drop,
  Ok,
  Err,
  refl,
  sym,
  ap,
  ◌∙◌,
  arith,
  length-drop,
  Option,
  Some,
  None,
  MatchOption,
}
use Rattle.std.proofs.lemmas.List.{append-nil, drop-take, drop-drop, drop-append-le, length-take, take_all}
use Rattle.std.specs.Prelude.{nat_lt, slice_index}
use Rattle.std.proofs.lemmas.Bool.{lt-ltb}
use Rattle.std.proofs.Math.Seq.{take-append_seam}
use Rattle.psi_tables.specs.declared.section.SectionFault.{SectionFault}
use Rattle.psi_tables.specs.declared.section.SectionFault.TheVariants.{BadSection}
use Rattle.psi_tables.specs.declared.section_front.SectionFront.{SectionFront}
use Rattle.psi_tables.specs.declared.section_builder.SectionBuilder.TheInside.{Inside}
use Rattle.bit_lists.specs.Payload.{Payload}
use Rattle.psi_tables.specs.Sections.{Found, has_pointer, points_past, before_pointer, behind_pointer, bytes_on, checked, found_at, found_from, found_in, until_error, sections_behind, sections_of}
use Rattle.psi_tables.specs.Private.SectionFront.{front_bytes, is_settled, is_bad, IsHeld, GoesOn, ReadsOn}
use Rattle.psi_tables.specs.SectionBuilder.{payloads_of, pointing_past, waiting_bytes, payloads_held, IsInOrder}
use Rattle.psi_tables.proofs.Fronts.{found_at-bad, found_at-whole}
use Rattle.psi_tables.proofs.Reading.{behind-error, until_error-stops}
use Rattle.psi_tables.proofs.Held.{held-same, held-error, found_alone, fed-same, fed-error}
use Rattle.psi_tables.proofs.Steps.{front-whole, front-error, front-none}

-- ---- what is held

held-bytes : (builder : Inside) → builder.points_past ≡ false → payloads_held builder ≡ payloads_of (front_bytes builder.front ++ waiting_bytes builder)
held-bytes builder points = ap (λ (past : Bool). cond past (pointing_past ∷ []) (payloads_of (front_bytes builder.front ++ waiting_bytes builder))) points

-- nothing waits behind what isn't settled
none-waits : (builder : Inside) → IsInOrder builder → is_settled (front_bytes builder.front) ≡ false → front_bytes builder.front ++ waiting_bytes builder ≡ front_bytes builder.front
none-waits builder order unsettled =
    let none : builder.end - builder.at ≡ 0 = omega (arith, order.unsettled unsettled) in
    ap (λ (n : ℕ). front_bytes builder.front ++ take n (drop builder.at builder.waiting)) none ∙ append-nil (front_bytes builder.front)

-- ---- pull

pub pulls-past : (builder : Inside) → builder.points_past ≡ true → (later : List Payload) → sections_of (payloads_held builder ++ later) ≡ Err BadSection ∷ sections_of later
unfolding sections_of
pulls-past builder points later =
    ap (λ (past : Bool). sections_behind [] (cond past (pointing_past ∷ []) (payloads_of (front_bytes builder.front ++ waiting_bytes builder))
    ++ later)) points ∙ behind-error [] pointing_past BadSection later refl

pub pulls-none : (builder : Inside) → IsInOrder builder → builder.points_past ≡ false → is_settled (front_bytes builder.front) ≡ false → sections_of (payloads_held builder) ≡ []
unfolding sections_of
pulls-none builder order points unsettled =
    let u : List ℕ = front_bytes builder.front in
    let held : payloads_held builder ≡ payloads_of u = held-bytes builder points ∙ ap payloads_of (none-waits builder order unsettled) in
    ap (sections_behind []) held ∙ found_alone u (front-none u order.held.front_is unsettled)

pub pulls-error : (builder : Inside) (fault : SectionFault) → IsInOrder builder → builder.points_past ≡ false
    → is_settled (front_bytes builder.front) ≡ true → found_at (front_bytes builder.front) ≡ Err fault ∷ [] → (later : List Payload)
    → sections_of (payloads_held builder ++ later) ≡ Err fault ∷ sections_of later
unfolding sections_of
pulls-error builder fault order points settled error later =
    let u : List ℕ = front_bytes builder.front in
    let w : List ℕ = waiting_bytes builder in
    ap (λ (held : List Payload). sections_behind [] (held ++ later)) (held-bytes builder points) ∙ held-error (u ++ w) fault (front-error u w [] fault order.held.front_is settled error) later

-- a section that is found has no bad length
found-good : (a section : List ℕ) → is_settled a ≡ true → found_at a ≡ Ok section ∷ [] → is_bad a ≡ false
found-good a section settled found =
    elim (is_bad a) as (λ (bad : Bool). is_bad a ≡ bad → is_bad a ≡ false) [ true ↦ λ bad. absurd (apart (sym (found_at-bad a settled bad) ∙ found)) | false ↦ λ good. good ] refl
  where
    apart : Err BadSection ∷ [] ≡ Ok section ∷ [] → ⊥
    apart is = cc

waits-on : (at n end : ℕ) (bytes : List ℕ) (at_now end_now : ℕ) (bytes_now : List ℕ) → at + n ≤ end → bytes_now ≡ bytes → at_now ≡ at + n
    → end_now ≡ end → take (end_now - at_now) (drop at_now bytes_now) ≡ drop n (take (end - at) (drop at bytes))
waits-on at n end bytes at_now end_now bytes_now within same is_at is_end =
    let size : end_now - at_now ≡ end - (at + n) = omega (arith, is_at, is_end) in
    let whole : end - at ≡ n + (end - (at + n)) = omega (arith, within) in
    ap (λ (k : ℕ). take k (drop at_now bytes_now)) size ∙ ap (λ (k : ℕ). take (end - (at + n)) (drop k bytes_now)) is_at ∙ ap (λ (bs : List ℕ). take (end - (at + n)) (drop (at + n) bs)) same
    ∙ ap (λ (bs : List ℕ). take (end - (at + n)) bs) (sym (drop-drop n at bytes)) ∙ sym (drop-take n (end - (at + n)) (drop at bytes)) ∙ ap (λ (k : ℕ). drop n (take k (drop at bytes))) (sym whole)

pub pulls-section : (builder now : Inside) (n : ℕ) (section : List ℕ) → IsInOrder builder → builder.points_past ≡ false
    → is_settled (front_bytes builder.front) ≡ true → found_at (front_bytes builder.front) ≡ Ok section ∷ []
    → ReadsOn (waiting_bytes builder) n now.front → now.waiting ≡ builder.waiting → now.at ≡ builder.at + n → now.end ≡ builder.end
    → now.points_past ≡ builder.points_past → (later : List Payload)
    → sections_of (payloads_held builder ++ later) ≡ Ok section ∷ sections_of (payloads_held now ++ later)
unfolding sections_of
pulls-section builder now n section order points settled found reads waiting at end still later =
    let u : List ℕ = front_bytes builder.front in
    let w : List ℕ = waiting_bytes builder in
    let behind : List ℕ = front_bytes now.front ++ drop n w in
    let rest : waiting_bytes now ≡ drop n w = waits-on builder.at n builder.end builder.waiting now.at now.end now.waiting
    (omega (arith, order.places, reads.bound, length-take (builder.end - builder.at) (drop builder.at builder.waiting))) waiting at end in
    let held : payloads_held now ≡ payloads_of behind = held-bytes now (still ∙ points) ∙ ap (λ (bytes : List ℕ). payloads_of (front_bytes now.front ++ bytes)) rest in
    let same : (next : List ℕ) → found_from 0 (u ++ w) next ≡ (Ok section ∷ []) ++ found_from 0 behind next = λ (next : List ℕ).
    front-whole u w next order.held.front_is settled (found-good u section settled found) ∙ ap (λ (fs : List Found). fs ++ found_from 0 w next) found
    ∙ ap (λ (fs : List Found). Ok section ∷ fs) (reads.same next) in
    ap (λ (bytes : List Payload). sections_behind [] (bytes ++ later)) (held-bytes builder points)
    ∙ held-same (u ++ w) behind (Ok section ∷ []) refl same later
    ∙ ap (λ (bytes : List Payload). Ok section ∷ sections_behind [] (bytes ++ later)) (sym held)

-- a fault that isn't there
pub no-fault : (fault : Option SectionFault) (P : Type 0) (Q : SectionFault → Type 0) → MatchOption fault P Q → ((x : SectionFault) → fault ≡ Some x → ⊥) → P
no-fault None P Q is none = is
no-fault (Some x) P Q is none = absurd (none x refl)

-- ---- feed

-- what is found of a settled section that is held
settled-found : (front : SectionFront) → IsHeld front → is_settled (front_bytes front) ≡ true → (found : Found) × (found_at (front_bytes front) ≡ found ∷ [])
settled-found front held settled =
    elim (is_bad (front_bytes front)) as (λ (bad : Bool). is_bad (front_bytes front) ≡ bad → (found : Found) × (found_at (front_bytes front) ≡ found ∷ [])) [
      | true ↦ λ bad. (Err BadSection, found_at-bad (front_bytes front) settled bad)
      | false ↦ λ good. (checked (front_bytes front), found_at-whole (front_bytes front) settled good (held.read settled) held.front_is.within)
    ] refl

-- a builder that gives nothing holds only what isn't settled
gives-past : (builder : Inside) → builder.points_past ≡ true → sections_of (payloads_held builder) ≡ [] → ⊥
gives-past builder points none =
    let some : Err BadSection ∷ sections_of [] ≡ [] = sym (pulls-past builder points []) ∙ ap sections_of (append-nil (payloads_held builder)) ∙ none in
    cc

gives-found : (builder : Inside) (found : Found) → IsInOrder builder → builder.points_past ≡ false → is_settled (front_bytes builder.front) ≡ true
    → found_at (front_bytes builder.front) ≡ found ∷ [] → sections_of (payloads_held builder) ≡ [] → ⊥
unfolding sections_of
gives-found builder (Err fault) order points settled found none =
    let some : Err fault ∷ sections_of [] ≡ [] = sym (pulls-error builder fault order points settled found []) ∙ ap sections_of (append-nil (payloads_held builder)) ∙ none in
    cc
gives-found builder (Ok section) order points settled found none =
    let u : List ℕ = front_bytes builder.front in
    let w : List ℕ = waiting_bytes builder in
    let same : (next : List ℕ) → found_from 0 (u ++ w) next ≡ (Ok section ∷ []) ++ found_from 0 w next = λ (next : List ℕ).
    front-whole u w next order.held.front_is settled (found-good u section settled found) ∙ ap (λ (fs : List Found). fs ++ found_from 0 w next) found in
    let some : Ok section ∷ sections_behind [] (payloads_of w ++ []) ≡ [] =
    sym (held-same (u ++ w) w (Ok section ∷ []) refl same []) ∙ ap (sections_behind []) (append-nil (payloads_of (u ++ w)) ∙ sym (held-bytes builder points)) ∙ none in
    cc

pub nothing-past : (builder : Inside) → sections_of (payloads_held builder) ≡ [] → builder.points_past ≡ false
nothing-past builder none =
    elim (builder.points_past) as (λ (past : Bool). builder.points_past ≡ past → builder.points_past ≡ false)
    [ true ↦ λ points. absurd (gives-past builder points none) | false ↦ λ points. points ] refl

pub nothing-settled : (builder : Inside) → IsInOrder builder → sections_of (payloads_held builder) ≡ [] → is_settled (front_bytes builder.front) ≡ false
nothing-settled builder order none =
    elim (is_settled (front_bytes builder.front)) as (λ (settled : Bool). is_settled (front_bytes builder.front) ≡ settled → is_settled (front_bytes builder.front) ≡ false) [
      | true ↦ λ settled. let found = settled-found builder.front order.held settled in absurd (gives-found builder found.0 order (nothing-past builder none) settled found.1 none)
      | false ↦ λ unsettled. unsettled
    ] refl

-- it holds these bytes
held-none : (builder : Inside) → IsInOrder builder → sections_of (payloads_held builder) ≡ [] → payloads_held builder ≡ payloads_of (front_bytes builder.front)
held-none builder order none = held-bytes builder (nothing-past builder none) ∙ ap payloads_of (none-waits builder order (nothing-settled builder order none))

-- a payload without a pointer
pub feeds-on : (builder now : Inside) (start : Bool) (bytes : List ℕ) → IsInOrder builder → sections_of (payloads_held builder) ≡ []
    → has_pointer (record { start = start; bytes = bytes }) ≡ false → GoesOn (front_bytes builder.front) bytes now.front
    → now.points_past ≡ builder.points_past → now.at ≡ builder.at → now.end ≡ builder.end → (later : List Payload)
    → sections_of (payloads_held now ++ later) ≡ sections_of (payloads_held builder ++ record { start = start; bytes = bytes } ∷ later)
unfolding sections_of
feeds-on builder now start bytes order none no_pointer goes points at end later =
    let p : Payload = record { start = start; bytes = bytes } in
    let u : List ℕ = front_bytes builder.front in
    let v : List ℕ = front_bytes now.front in
    let empty : now.end - now.at ≡ 0 = omega (arith, at, end, order.unsettled (nothing-settled builder order none)) in
    let waiting : v ++ waiting_bytes now ≡ v = ap (λ (n : ℕ). v ++ take n (drop now.at now.waiting)) empty ∙ append-nil v in
    let held : payloads_held now ≡ payloads_of v = held-bytes now (points ∙ nothing-past builder none) ∙ ap payloads_of waiting in
    let same : (more : List Payload) → found_from 0 u (bytes_on (p ∷ more)) ++ found_in p (bytes_on more) ≡ found_from 0 v (bytes_on more) = λ (more : List Payload).
    ap (λ (pointer : Bool). found_from 0 u (cond pointer (before_pointer p) (bytes ++ bytes_on more))
    ++ cond pointer (cond (points_past p) (Err BadSection ∷ []) (found_from 0 (behind_pointer p) (bytes_on more))) []) no_pointer
    ∙ append-nil (found_from 0 u (bytes ++ bytes_on more)) ∙ goes.same (bytes_on more) in
    ap (λ (hold : List Payload). sections_behind [] (hold ++ later)) held
    ∙ sym (fed-same u p v (front-none u order.held.front_is (nothing-settled builder order none)) same later)
    ∙ ap (λ (hold : List Payload). sections_behind [] (hold ++ p ∷ later)) (sym (held-none builder order none))

-- a payload whose pointer is past it
pub feeds-past : (builder : Inside) (start : Bool) (bytes : List ℕ) → IsInOrder builder → sections_of (payloads_held builder) ≡ []
    → has_pointer (record { start = start; bytes = bytes }) ≡ true → points_past (record { start = start; bytes = bytes }) ≡ true
    → (later : List Payload) → sections_of (pointing_past ∷ later)
    ≡ sections_of (payloads_held builder ++ record { start = start; bytes = bytes } ∷ later)
unfolding sections_of
feeds-past builder start bytes order none pointer past later =
    let p : Payload = record { start = start; bytes = bytes } in
    let u : List ℕ = front_bytes builder.front in
    let nothing : found_from 0 u [] ≡ [] = front-none u order.held.front_is (nothing-settled builder order none) in
    let found : until_error (found_from 0 u (bytes_on (p ∷ [])) ++ found_in p []) ≡ Err BadSection ∷ [] =
    rw (pointer, past, nothing) refl in
    behind-error [] pointing_past BadSection later refl ∙ sym (fed-error u p BadSection nothing found later)
    ∙ ap (λ (hold : List Payload). sections_behind [] (hold ++ p ∷ later)) (sym (held-none builder order none))

-- with a pointer into it: the bytes before its place go on with the section, and the sections behind it wait
pointed-before : (p : Payload) (u before : List ℕ) → has_pointer p ≡ true → before ≡ before_pointer p → (later : List Payload) → found_from 0 u (bytes_on (p ∷ later)) ≡ found_from 0 u before
pointed-before p u before pointer is later = rw pointer (ap (λ (bs : List ℕ). found_from 0 u bs) (sym is))

pointed-in : (p : Payload) (behind : List ℕ) → has_pointer p ≡ true → points_past p ≡ false → behind ≡ behind_pointer p → (next : List ℕ) → found_in p next ≡ found_from 0 behind next
pointed-in p behind pointer inside is next = rw (pointer, inside) (ap (λ (bs : List ℕ). found_from 0 bs next) (sym is))

-- what is found before the place
before-found : (u before : List ℕ) (between : SectionFront) → GoesOn u before between → found_from 0 u before ≡ found_from 0 (front_bytes between) []
before-found u before between goes = ap (λ (bs : List ℕ). found_from 0 u bs) (sym (append-nil before)) ∙ goes.same []

pub feeds-pointed : (builder now : Inside) (start : Bool) (bytes before behind : List ℕ) (n : ℕ) (between : SectionFront) → IsInOrder builder
    → sections_of (payloads_held builder) ≡ [] → has_pointer (record { start = start; bytes = bytes }) ≡ true
    → points_past (record { start = start; bytes = bytes }) ≡ false → before ≡ before_pointer (record { start = start; bytes = bytes })
    → behind ≡ behind_pointer (record { start = start; bytes = bytes }) → GoesOn (front_bytes builder.front) before between
    → is_settled (front_bytes between) ≡ false → ReadsOn behind n now.front → waiting_bytes now ≡ drop n behind
    → now.points_past ≡ builder.points_past → (later : List Payload)
    → sections_of (payloads_held now ++ later) ≡ sections_of (payloads_held builder ++ record { start = start; bytes = bytes } ∷ later)
unfolding sections_of
feeds-pointed builder now start bytes before behind n between order none pointer inside is_before is_behind goes unsettled reads waiting points later =
    let p : Payload = record { start = start; bytes = bytes } in
    let u : List ℕ = front_bytes builder.front in
    let v : List ℕ = front_bytes now.front ++ drop n behind in
    let held : payloads_held now ≡ payloads_of v = held-bytes now (points ∙ nothing-past builder none) ∙ ap (λ (bs : List ℕ). payloads_of (front_bytes now.front ++ bs)) waiting in
    let same : (more : List Payload) → found_from 0 u (bytes_on (p ∷ more)) ++ found_in p (bytes_on more) ≡ found_from 0 v (bytes_on more) = λ (more : List Payload).
    let first : found_from 0 u (bytes_on (p ∷ more)) ≡ [] = pointed-before p u before pointer is_before more ∙ before-found u before between goes
    ∙ front-none (front_bytes between) goes.held.front_is unsettled in
    ap (λ (fs : List Found). fs ++ found_in p (bytes_on more)) first ∙ pointed-in p behind pointer inside is_behind (bytes_on more) ∙ reads.same (bytes_on more) in
    ap (λ (hold : List Payload). sections_behind [] (hold ++ later)) held
    ∙ sym (fed-same u p v (front-none u order.held.front_is (nothing-settled builder order none)) same later)
    ∙ ap (λ (hold : List Payload). sections_behind [] (hold ++ p ∷ later)) (sym (held-none builder order none))

-- where the section ends before the place
ends-found : (u : List ℕ) (p : Payload) (before behind : List ℕ) (between : SectionFront) (found : Found) → found_from 0 u [] ≡ []
    → has_pointer p ≡ true → points_past p ≡ false → before ≡ before_pointer p → behind ≡ behind_pointer p → GoesOn u before between
    → is_settled (front_bytes between) ≡ true → found_at (front_bytes between) ≡ found ∷ [] → (later : List Payload)
    → sections_behind [] (payloads_of (front_bytes between ++ behind) ++ later) ≡ sections_behind [] (payloads_of u ++ p ∷ later)
ends-found u p before behind between (Err fault) nothing pointer inside is_before is_behind goes settled found later =
    let m : List ℕ = front_bytes between in
    let first : found_from 0 u (bytes_on (p ∷ [])) ≡ found_from 0 (m ++ []) [] = pointed-before p u before pointer is_before []
    ∙ before-found u before between goes ∙ ap (λ (bs : List ℕ). found_from 0 bs []) (sym (append-nil m)) in
    let error : until_error (found_from 0 u (bytes_on (p ∷ []))) ≡ Err fault ∷ [] = ap until_error first ∙ front-error m [] [] fault goes.held.front_is settled found in
    held-error (m ++ behind) fault (front-error m behind [] fault goes.held.front_is settled found) later ∙ sym (fed-error u p fault nothing (until_error-stops _ (found_in p []) fault error) later)
ends-found u p before behind between (Ok section) nothing pointer inside is_before is_behind goes settled found later =
    let m : List ℕ = front_bytes between in
    let good : is_bad m ≡ false = found-good m section settled found in
    let first : (more : List Payload) → found_from 0 u (bytes_on (p ∷ more)) ≡ found_at m = λ (more : List Payload).
    pointed-before p u before pointer is_before more ∙ before-found u before between goes
    ∙ ap (λ (bs : List ℕ). found_from 0 bs []) (sym (append-nil m)) ∙ front-whole m [] [] goes.held.front_is settled good
    ∙ append-nil (found_at m) in
    let same : (more : List Payload) → found_from 0 u (bytes_on (p ∷ more)) ++ found_in p (bytes_on more) ≡ found_from 0 (m ++ behind) (bytes_on more) = λ (more : List Payload).
    ap (λ (fs : List Found). fs ++ found_in p (bytes_on more)) (first more)
    ∙ ap (λ (fs : List Found). found_at m ++ fs) (pointed-in p behind pointer inside is_behind (bytes_on more))
    ∙ sym (front-whole m behind (bytes_on more) goes.held.front_is settled good) in
    sym (fed-same u p (m ++ behind) nothing same later)

pub feeds-ending : (builder now : Inside) (start : Bool) (bytes before behind : List ℕ) → IsInOrder builder → sections_of (payloads_held builder) ≡ []
    → has_pointer (record { start = start; bytes = bytes }) ≡ true → points_past (record { start = start; bytes = bytes }) ≡ false
    → before ≡ before_pointer (record { start = start; bytes = bytes }) → behind ≡ behind_pointer (record { start = start; bytes = bytes })
    → GoesOn (front_bytes builder.front) before now.front → is_settled (front_bytes now.front) ≡ true → waiting_bytes now ≡ behind
    → now.points_past ≡ builder.points_past → (later : List Payload)
    → sections_of (payloads_held now ++ later) ≡ sections_of (payloads_held builder ++ record { start = start; bytes = bytes } ∷ later)
unfolding sections_of
feeds-ending builder now start bytes before behind order none pointer inside is_before is_behind goes settled waiting points later =
    let p : Payload = record { start = start; bytes = bytes } in
    let u : List ℕ = front_bytes builder.front in
    let found = settled-found now.front goes.held settled in
    let held : payloads_held now ≡ payloads_of (front_bytes now.front ++ behind) = held-bytes now (points ∙ nothing-past builder none)
    ∙ ap (λ (bs : List ℕ). payloads_of (front_bytes now.front ++ bs)) waiting in
    ap (λ (hold : List Payload). sections_behind [] (hold ++ later)) held
    ∙ ends-found u p before behind now.front found.0 (front-none u order.held.front_is (nothing-settled builder order none)) pointer inside
    is_before is_behind goes settled found.1 later ∙ ap (λ (hold : List Payload). sections_behind [] (hold ++ p ∷ later))
    (sym (held-none builder order none))

-- ---- the places of what waits

pub waits-from : (behind copied rest : List ℕ) (n : ℕ) → copied ≡ behind → n ≤ length behind → take (length behind - n) (drop n (copied ++ rest)) ≡ drop n behind
waits-from behind copied rest n is within =
    let size : length behind - n ≡ length (drop n behind) = sym (length-drop n behind) in
    ap (λ (bs : List ℕ). take (length behind - n) (drop n (bs ++ rest))) is
    ∙ ap (λ (bs : List ℕ). take (length behind - n) bs) (drop-append-le n behind rest within)
    ∙ ap (λ (k : ℕ). take k (drop n behind ++ rest)) size ∙ take-append_seam (drop n behind) rest

-- ---- tests of the code

pub no-bytes : (start : Bool) (bytes : List ℕ) → length bytes ≡ 0 → has_pointer (record { start = start; bytes = bytes }) ≡ false
no-bytes true bytes none = ap (λ (n : ℕ). nat_lt 0 n) none
no-bytes false bytes none = refl

pub some-pointer : (bytes : List ℕ) → 0 < length bytes → has_pointer (record { start = true; bytes = bytes }) ≡ true
some-pointer bytes some = lt-ltb 0 (length bytes) some

pub before-is : (bytes : List ℕ) → points_past (record { start = true; bytes = bytes }) ≡ false
    → take (1 + slice_index bytes 0 - 1) (drop 1 bytes) ≡ before_pointer (record { start = true; bytes = bytes })
before-is bytes inside =
    let size : 1 + slice_index bytes 0 - 1 ≡ slice_index bytes 0 = omega arith in
    ap (λ (n : ℕ). take n (drop 1 bytes)) size ∙ sym (rw inside refl)

pub behind-is : (bytes : List ℕ) → take (length bytes - (1 + slice_index bytes 0)) (drop (1 + slice_index bytes 0) bytes) ≡ behind_pointer (record { start = true; bytes = bytes })
behind-is bytes = take_all (length bytes - (1 + slice_index bytes 0)) (drop (1 + slice_index bytes 0) bytes) (omega (arith, length-drop (1 + slice_index bytes 0) bytes))
