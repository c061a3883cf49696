-- What is held of a section, before and behind bytes that are taken.
use Rattle.std.proofs.Common.{
  ◌≡◌,
  ℕ,
  zero,
  suc,
  ◌+◌,
  ◌-◌,
  ◌<◌,
  ◌≤◌,
  ◌≢◌,
  Bool,
  true,
  false,
  cond,
  List,
  [],
  ◌∷◌,
  ◌++◌,
  length,
  get_or,
  take,
  drop,
  Err,
  refl,
  sym,
  ap,
  ◌∙◌,
  subst,
  append_assoc,
  arith,
  length-append,
  length-drop,
  drop-cons,
  ⊎_elim,
}
use Rattle.std.specs.Prelude.{slice_index, min, not, ◌&&◌, ◌||◌, nat_lt}
use Rattle.std.proofs.lemmas.List.{append-nil, take-append-drop, take_all, get_or-take, length-take-le, drop-drop}
use Rattle.std.proofs.Math.Seq.{take-add}
use Rattle.std.proofs.lemmas.Bool.{cases_lt, le-ltb}
use Rattle.psi_tables.specs.declared.section.SectionFault.{SectionFault}
use Rattle.psi_tables.specs.Sections.{Found, is_read, has_bad_length, section_size, found_at, found_from, until_error}
use Rattle.psi_tables.specs.Private.SectionFront.{is_bad, is_settled, IsFront, IsLike, IsHeld, IsSound, TakesIn, ReadsOn, front_bytes, missing_bytes}
use Rattle.psi_tables.specs.declared.section_front.SectionFront.{SectionFront}
use Rattle.psi_tables.proofs.Headers.{get_or-header}
use Rattle.psi_tables.proofs.Fronts.{
  section_size-append,
  is_bad-append,
  is_bad-like,
  unsettled-good,
  found_at-unsettled,
  settled-header,
  settled-size,
  unsettled-size,
  found_at-passed,
  found_at-append,
  found_at-like,
  found_from-one,
  found_from-whole,
  found_from-error,
  found_from-like,
  section_size-like,
}

-- ---- the lemmas on fronts, for any that holds bytes

pub front-one : (a next : List ℕ) → 0 < length a → IsFront a → found_from 0 a next ≡ found_at (a ++ next)
front-one [] next held front = absurd (omega arith)
front-one (byte ∷ us) next held front = found_from-one byte us next front.no_stuffing front.within

pub front-whole : (a behind next : List ℕ) → IsFront a → is_settled a ≡ true → is_bad a ≡ false → found_from 0 (a ++ behind) next ≡ found_at a ++ found_from 0 behind next
front-whole [] behind next front settled good = absurd (omega (arith, settled-header [] settled))
front-whole (byte ∷ us) behind next front settled good = found_from-whole byte us behind next front.no_stuffing settled (omega (arith, front.within, settled-size (byte ∷ us) settled good))

pub front-error : (a behind next : List ℕ) (fault : SectionFault) → IsFront a → is_settled a ≡ true → found_at a ≡ Err fault ∷ [] → until_error (found_from 0 (a ++ behind) next) ≡ Err fault ∷ []
front-error [] behind next fault front settled error = absurd (omega (arith, settled-header [] settled))
front-error (byte ∷ us) behind next fault front settled error = found_from-error byte us behind next fault front.no_stuffing settled error

-- ---- bytes taken

-- the first byte stays
head-like : (a b : List ℕ) → IsLike a b → slice_index a 0 ≡ slice_index b 0
head-like a b like = get_or-header a b 0 (omega arith) like.header

head-append : (a x : List ℕ) → 0 < length a → slice_index (a ++ x) 0 ≡ slice_index a 0
head-append [] x held = absurd (omega arith)
head-append (byte ∷ us) x held = refl

-- what goes on with bytes held
pub taken-front : (a bytes : List ℕ) (n : ℕ) (now : List ℕ) → 0 < length a → IsFront a → TakesIn a bytes n now → IsFront now
taken-front a bytes n now held front taken =
    record { no_stuffing = λ is. front.no_stuffing (sym (head-append a (take n bytes) held) ∙ sym (head-like now (a ++ take n bytes) taken.like) ∙ is); within = taken.within }

taken-held : (a bytes : List ℕ) (n : ℕ) (now : List ℕ) → 0 < length a → TakesIn a bytes n now → 0 < length now
taken-held a bytes n now held taken = omega (arith, taken.like.size, length-append a (take n bytes))

taken-found : (a bytes : List ℕ) (n : ℕ) (now : List ℕ) → TakesIn a bytes n now → (next : List ℕ) → found_at (a ++ (bytes ++ next)) ≡ found_at (now ++ next)
taken-found a bytes n now taken next =
    elim (is_settled now) as (λ (settled : Bool). is_settled now ≡ settled → found_at (a ++ (bytes ++ next)) ≡ found_at (now ++ next)) [
      | true ↦ λ settled.
          let joined : a ++ (bytes ++ next) ≡ (a ++ take n bytes) ++ (drop n bytes ++ next) =
          ap (λ (bs : List ℕ). a ++ (bs ++ next)) (sym (take-append-drop n bytes))
          ∙ ap (λ (bs : List ℕ). a ++ bs) (append_assoc (take n bytes) (drop n bytes) next)
          ∙ sym (append_assoc a (take n bytes) (drop n bytes ++ next)) in
          ap found_at joined ∙ sym (found_at-like now (a ++ take n bytes) (drop n bytes ++ next) taken.like)
          ∙ found_at-append now (drop n bytes ++ next) settled ∙ sym (found_at-append now next settled)
      | false ↦ λ unsettled.
          let all : take n bytes ≡ bytes = take_all n bytes (omega (arith, taken.all unsettled)) in
          ap found_at (sym (append_assoc a bytes next)) ∙ ap (λ (bs : List ℕ). found_at ((a ++ bs) ++ next)) (sym all) ∙ sym (found_at-like now (a ++ take n bytes) next taken.like)
    ] refl

-- the same is found from what is held then
pub taken-same : (a bytes : List ℕ) (n : ℕ) (now : List ℕ) → 0 < length a → IsFront a → TakesIn a bytes n now → (next : List ℕ) → found_from 0 a (bytes ++ next) ≡ found_from 0 now next
taken-same a bytes n now held front taken next =
    front-one a (bytes ++ next) held front ∙ taken-found a bytes n now taken next ∙ sym (front-one now next (taken-held a bytes n now held taken) (taken-front a bytes n now held front taken))

-- nothing, where it is passed over
pub taken-passed : (a bytes : List ℕ) (n : ℕ) (now : List ℕ) → 0 < length a → IsFront a → TakesIn a bytes n now → is_settled now ≡ true
    → is_read now ≡ false → (next : List ℕ) → found_from 0 a (bytes ++ next) ≡ []
taken-passed a bytes n now held front taken settled passed next =
    front-one a (bytes ++ next) held front ∙ taken-found a bytes n now taken next ∙ found_at-append now next settled ∙ found_at-passed now passed

-- ---- the next section

begun-some : (bytes : List ℕ) (n : ℕ) (now : List ℕ) → 0 < length bytes → TakesIn [] bytes n now → 0 < n
begun-some bytes zero now some taken =
    let empty : length now ≡ 0 = taken.like.size in
    elim (is_settled now) as (λ (settled : Bool). is_settled now ≡ settled → 0 < 0) [
      | true ↦ λ settled. absurd (omega (arith, empty, settled-header now settled))
      | false ↦ λ unsettled. omega (arith, taken.all unsettled)
    ] refl
begun-some bytes (suc n) now some taken = omega arith

pub begun-front : (byte : ℕ) (bytes : List ℕ) (n : ℕ) (now : List ℕ) → byte ≢ 255 → TakesIn [] (byte ∷ bytes) n now → IsFront now
begun-front byte bytes n now no_stuffing taken =
    let first : slice_index (take n (byte ∷ bytes)) 0 ≡ byte = get_or-take n (byte ∷ bytes) 0 0 (begun-some (byte ∷ bytes) n now (omega arith) taken) in
    record { no_stuffing = λ is. no_stuffing (sym first ∙ sym (head-like now (take n (byte ∷ bytes)) taken.like) ∙ is); within = taken.within }

pub begun-same : (bytes : List ℕ) (n : ℕ) (now : List ℕ) → TakesIn [] bytes n now → (next : List ℕ) → found_from 0 bytes next ≡ found_from 0 (now ++ drop n bytes) next
begun-same bytes n now taken next =
    let within : length (take n bytes) ≤ section_size (take n bytes) = omega (arith, taken.like.size, taken.within, section_size-like now (take n bytes) taken.like) in
    ap (λ (bs : List ℕ). found_from 0 bs next) (sym (take-append-drop n bytes)) ∙ sym (found_from-like now (take n bytes) (drop n bytes) next taken.like within)

pub begun-passed : (bytes : List ℕ) (n : ℕ) (now : List ℕ) → IsFront now → TakesIn [] bytes n now → is_settled now ≡ true → is_read now ≡ false
    → (next : List ℕ) → found_from 0 bytes next ≡ found_from 0 (drop n bytes) next
begun-passed bytes n now front taken settled passed next =
    let good : is_bad now ≡ false = ap (λ (read : Bool). read && has_bad_length now) passed in
    begun-same bytes n now taken next ∙ front-whole now (drop n bytes) next front settled good ∙ ap (λ (found : List Found). found ++ found_from 0 (drop n bytes) next) (found_at-passed now passed)

-- ---- how many bytes are taken

pub missing-good : (b : List ℕ) → 3 ≤ length b → is_bad b ≡ false → missing_bytes b ≡ section_size b - length b
missing-good b whole good =
    ap (λ (few : Bool). cond (few || is_bad b) 0 (section_size b - length b)) (le-ltb (length b) 3 whole) ∙ ap (λ (bad : Bool). cond bad 0 (section_size b - length b)) good

missing-within : (b : List ℕ) → 3 ≤ length b → missing_bytes b ≤ section_size b - length b
missing-within b whole =
    elim (nat_lt (length b) 3 || is_bad b) as (λ (none : Bool). cond none 0 (section_size b - length b) ≤ section_size b - length b) [ true ↦ omega arith | false ↦ omega arith ]

-- bytes of the header, and of what is missing then
pub takes_in : (a bytes : List ℕ) (h : ℕ) (b : List ℕ) (k : ℕ) (now : List ℕ) → is_settled a ≡ false → h ≤ length bytes → b ≡ a ++ take h bytes
    → (length b < 3 → h ≡ length bytes) → (0 < h → length b ≤ 3) → k ≡ min (missing_bytes b) (length bytes - h)
    → IsLike now (b ++ take k (drop h bytes)) → TakesIn a bytes (h + k) now
takes_in a bytes h b k now unsettled bound is all header more like =
    let x : List ℕ = take k (drop h bytes) in
    let size_x : length x ≡ k = omega (arith, length-take-le k (drop h bytes) (omega (arith, length-drop h bytes))) in
    let size_now : length now ≡ length b + k = omega (arith, like.size, length-append b x) in
    let joined : b ++ x ≡ a ++ take (h + k) bytes = ap (λ (c : List ℕ). c ++ x) is ∙ append_assoc a (take h bytes) x ∙ ap (λ (c : List ℕ). a ++ c) (sym (take-add h k bytes)) in
    let short : length b < 3 → k ≡ 0 = λ few. omega (arith, all few) in
    let b_within : length b ≤ section_size b = from_a h is header in
    let same_size : 3 ≤ length b → section_size now ≡ section_size b = λ whole. section_size-like now (b ++ x) like ∙ section_size-append b x whole in
    let good : is_settled now ≡ false → 3 ≤ length b → is_bad b ≡ false = λ not_yet whole.
    sym (is_bad-append b x whole) ∙ sym (is_bad-like now (b ++ x) like) ∙ unsettled-good now not_yet (omega (arith, size_now)) in
    record {
      bound = omega arith;
      like = subst (λ (c : List ℕ). IsLike now c) joined like;
      all = λ not_yet. ⊎_elim (λ few. omega (arith, short few, all few))
          (λ whole. let missing : missing_bytes b ≡ section_size b
          - length b = missing-good b whole (good not_yet whole) in omega (arith, missing, same_size whole, unsettled-size now not_yet))
          (cases_lt (length b) 3);
      within = ⊎_elim (λ few. omega (arith, short few)) (λ whole. omega (arith, missing-within b whole, same_size whole)) (cases_lt (length b) 3);
    }
  where
    from_a : (m : ℕ) → b ≡ a ++ take m bytes → (0 < m → length b ≤ 3) → length b ≤ section_size b
    from_a zero same few = let is_a : b ≡ a = same ∙ append-nil a in subst (λ (c : List ℕ). length c ≤ section_size c) (sym is_a) (omega (arith, unsettled-size a unsettled))
    from_a (suc m) same few = omega (arith, few (omega arith))

-- no bytes behind it change nothing
pub like-none : (b x : List ℕ) → x ≡ [] → IsLike b (b ++ x)
like-none b x none =
    let is : b ++ x ≡ b = ap (λ (bs : List ℕ). b ++ bs) none ∙ append-nil b in
    record { size = ap length (sym is); header = ap (λ (bs : List ℕ). take 3 bs) (sym is); read = λ _. sym is }

-- sections that are passed over at the head of bytes, up to a place
pub record PassesOver (bytes : List ℕ) (at : ℕ) (front : SectionFront) : Type 0 where
  pub bound : at ≤ length bytes
  pub held : IsHeld front
  pub empty : front_bytes front ≡ []
  pub same : (next : List ℕ) → found_from 0 bytes next ≡ found_from 0 (drop at bytes) next

-- ---- tests of the code

pub passed-over : (settled read : Bool) → settled && not read ≡ true → (settled ≡ true) × (read ≡ false)
passed-over true true is = cc
passed-over true false is = (refl, refl)
passed-over false read is = cc

pub not-passed-over : (settled read : Bool) → settled && not read ≡ false → settled ≡ true → read ≡ true
not-passed-over true true is there = refl
not-passed-over true false is there = cc
not-passed-over false read is there = cc

-- ---- the next section, at a place behind those that are passed over

-- the bytes from a place on, as a slice of them
abbrev pub rest_from : List ℕ → ℕ → List ℕ
rest_from bytes at = take (length bytes - at) (drop at bytes)

begun-taken : (bytes : List ℕ) (at n : ℕ) (front : SectionFront) (now : List ℕ) → PassesOver bytes at front → TakesIn (front_bytes front) (rest_from bytes at) n now → TakesIn [] (drop at bytes) n now
begun-taken bytes at n front now passed taken =
    let all : rest_from bytes at ≡ drop at bytes = take_all (length bytes - at) (drop at bytes) (omega (arith, length-drop at bytes)) in
    subst (λ (before : List ℕ). TakesIn before (drop at bytes) n now) passed.empty (subst (λ (rest : List ℕ). TakesIn (front_bytes front) rest n now) all taken)

begun-is : (bytes : List ℕ) (at n : ℕ) (front : SectionFront) (now : List ℕ) → PassesOver bytes at front → at < length bytes → get_or bytes at 0 ≢ 255
    → TakesIn (front_bytes front) (rest_from bytes at) n now → IsFront now
begun-is bytes at n front now passed within no_stuffing taken =
    begun-front (get_or bytes at 0) (drop (suc at) bytes) n now no_stuffing (subst (λ (bs : List ℕ). TakesIn [] bs n now) (drop-cons bytes at 0 within) (begun-taken bytes at n front now passed taken))

drop-on : (at n : ℕ) (bytes : List ℕ) → drop n (drop at bytes) ≡ drop (at + n) bytes
drop-on at n bytes = drop-drop n at bytes

pub begins-read : (bytes : List ℕ) (at n : ℕ) (front now : SectionFront) → PassesOver bytes at front → at < length bytes → get_or bytes at 0 ≢ 255
    → TakesIn (front_bytes front) (rest_from bytes at) n (front_bytes now) → IsSound now
    → is_settled (front_bytes now) && not (is_read (front_bytes now)) ≡ false → ReadsOn bytes (at + n) now
begins-read bytes at n front now passed within no_stuffing taken sound read =
    let t : TakesIn [] (drop at bytes) n (front_bytes now) = begun-taken bytes at n front (front_bytes now) passed taken in
    record {
      bound = omega (arith, t.bound, length-drop at bytes);
      held = record {
        sound = sound;
        front_is = begun-is bytes at n front (front_bytes now) passed within no_stuffing taken;
        read = not-passed-over
            (is_settled (front_bytes now)) (is_read (front_bytes now)) read;
      };
      all = λ unsettled. omega (arith, t.all unsettled, within, length-drop at bytes);
      same = λ (next : List ℕ). passed.same next ∙ begun-same (drop at bytes) n (front_bytes now) t next ∙ ap (λ (bs : List ℕ). found_from 0 (front_bytes now ++ bs) next) (drop-on at n bytes);
    }

pub begins-passed : (bytes : List ℕ) (at n : ℕ) (front : SectionFront) (now : List ℕ) (cleared : SectionFront) → PassesOver bytes at front
    → at < length bytes → get_or bytes at 0 ≢ 255 → TakesIn (front_bytes front) (rest_from bytes at) n now
    → is_settled now && not (is_read now) ≡ true → IsHeld cleared → front_bytes cleared ≡ [] → PassesOver bytes (at + n) cleared
begins-passed bytes at n front now cleared passed within no_stuffing taken over held empty =
    let t : TakesIn [] (drop at bytes) n now = begun-taken bytes at n front now passed taken in
    let tests = passed-over (is_settled now) (is_read now) over in
    record {
      bound = omega (arith, t.bound, length-drop at bytes);
      held = held;
      empty = empty;
      same = λ (next : List ℕ). passed.same next ∙ begun-passed (drop at bytes) n now
          (begun-is bytes at n front now passed within no_stuffing taken) t tests.0 tests.1 next
          ∙ ap (λ (bs : List ℕ). found_from 0 bs next) (drop-on at n bytes);
    }

-- nothing is found of what isn't settled
pub front-none : (a : List ℕ) → IsFront a → is_settled a ≡ false → found_from 0 a [] ≡ []
front-none [] front unsettled = refl
front-none (byte ∷ us) front unsettled =
    front-one (byte ∷ us) [] (omega arith) front ∙ ap found_at (append-nil (byte ∷ us)) ∙ found_at-unsettled (byte ∷ us) unsettled
