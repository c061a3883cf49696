-- A walk over payloads, one payload further.
use Rattle.std.proofs.Common.{◌≡◌, ℕ, ◌+◌, ◌-◌, ◌≤◌, min, Bool, true, false, cond, List, [], ◌∷◌, ◌++◌, length, take, Option, Some, None, IsSome, option_and_then, refl, sym, ap, ◌∙◌, inl, inr, arith, append_assoc}
use Rattle.std.specs.Option.{option_map, option_to_list}
use Rattle.std.proofs.lemmas.Bool.{cases_lt}
use Rattle.std.proofs.Math.Seq.{take-append-add}
use Rattle.std.proofs.lemmas.List.{append-nil, take_all, take_min, length-take, take_at, take-append-le}
use Rattle.bit_lists.specs.Payload.{CarriedPayload, is_start}
use Rattle.pes_units.specs.PesPackets.{Gathered, up_to_start, gathered}
use Rattle.pes_walk.specs.declared.walk.PesWalk.{PesWalk}
use Rattle.pes_walk.specs.Walk.{begun_in, with_more, closed_behind, open_behind, HasWalked}
use Rattle.list_types.proofs.Lists.{take_behind}

-- a packet whose first payload is this
abbrev from_first : CarriedPayload → List ℕ → Gathered
from_first carried more = record { at = carried.at; bytes = carried.payload.bytes ++ more }

-- ---- a payload in which a packet begins

up_to_next : (carried : List CarriedPayload) (x : CarriedPayload) → is_start x.payload ≡ true → up_to_start (carried ++ x ∷ []) ≡ up_to_start carried
up_to_next [] x starts = ap (λ (s : Bool). cond s [] (x.payload.bytes ++ [])) starts
up_to_next (c ∷ carried) x starts = ap (λ (more : List ℕ). cond (is_start c.payload) [] (c.payload.bytes ++ more)) (up_to_next carried x starts)

one_more : (s : Bool) (p q y : Gathered) (ps qs : List Gathered) → q ≡ p → qs ≡ ps ++ y ∷ [] → cond s (q ∷ qs) qs ≡ cond s (p ∷ ps) ps ++ y ∷ []
one_more true p q y ps qs same are = rw (same, are) refl
one_more false p q y ps qs same are = are

pub gathered_start : (carried : List CarriedPayload) (x : CarriedPayload) → is_start x.payload ≡ true → gathered (carried ++ x ∷ []) ≡ gathered carried ++ begun_in x ∷ []
gathered_start [] x starts =
    ap (λ (s : Bool). cond s (from_first x [] ∷ []) []) starts
    ∙ ap (λ (bytes : List ℕ). record { at = x.at; bytes = bytes } ∷ []) (append-nil x.payload.bytes)
gathered_start (c ∷ carried) x starts =
    one_more (is_start c.payload) (from_first c (up_to_start carried)) (from_first c (up_to_start (carried ++ x ∷ []))) (begun_in x) (gathered carried) (gathered (carried ++ x ∷ []))
    (ap (from_first c) (up_to_next carried x starts)) (gathered_start carried x starts)

-- ---- a payload that goes on

-- the last packet goes on
abbrev pub longer : List Gathered → CarriedPayload → List Gathered
longer [] x = []
longer (p ∷ []) x = with_more x p ∷ []
longer (p ∷ q ∷ ps) x = p ∷ longer (q ∷ ps) x

-- what a payload brings of bytes before the first packet
abbrev before_first : List Gathered → List ℕ → List ℕ
before_first [] bytes = bytes
before_first (_ ∷ _) bytes = []

more_before : (s : Bool) (first up new bytes : List ℕ) (p : Gathered) (ps : List Gathered) → new ≡ up ++ before_first ps bytes
    → cond s [] (first ++ new) ≡ cond s [] (first ++ up) ++ before_first (cond s (p ∷ ps) ps) bytes
more_before true first up new bytes p ps is = refl
more_before false first up new bytes p ps is = ap (λ (xs : List ℕ). first ++ xs) is ∙ sym (append_assoc first up (before_first ps bytes))

up_to_more : (carried : List CarriedPayload) (x : CarriedPayload) → is_start x.payload ≡ false
    → up_to_start (carried ++ x ∷ []) ≡ up_to_start carried ++ before_first (gathered carried) x.payload.bytes
up_to_more [] x none = ap (λ (s : Bool). cond s [] (x.payload.bytes ++ [])) none ∙ append-nil x.payload.bytes
up_to_more (c ∷ carried) x none =
    more_before (is_start c.payload) c.payload.bytes (up_to_start carried) (up_to_start (carried ++ x ∷ [])) x.payload.bytes (from_first c (up_to_start carried)) (gathered carried)
    (up_to_more carried x none)

longer_first : (c x : CarriedPayload) (up new : List ℕ) (ps qs : List Gathered) → new ≡ up ++ before_first ps x.payload.bytes → qs ≡ longer ps x
    → from_first c new ∷ qs ≡ longer (from_first c up ∷ ps) x
longer_first c x up new [] qs is are =
    ap (λ (rest : List Gathered). from_first c new ∷ rest) are
    ∙ ap (λ (bytes : List ℕ). record { at = c.at; bytes = bytes } ∷ []) (ap (λ (xs : List ℕ). c.payload.bytes ++ xs) is ∙ sym (append_assoc c.payload.bytes up x.payload.bytes))
longer_first c x up new (p ∷ ps) qs is are =
    ap (λ (rest : List Gathered). from_first c new ∷ rest) are
    ∙ ap (λ (bytes : List ℕ). from_first c bytes ∷ longer (p ∷ ps) x) (is ∙ append-nil up)

longer_all : (s : Bool) (c x : CarriedPayload) (up new : List ℕ) (ps qs : List Gathered) → new ≡ up ++ before_first ps x.payload.bytes → qs ≡ longer ps x
    → cond s (from_first c new ∷ qs) qs ≡ longer (cond s (from_first c up ∷ ps) ps) x
longer_all true c x up new ps qs is are = longer_first c x up new ps qs is are
longer_all false c x up new ps qs is are = are

pub gathered_on : (carried : List CarriedPayload) (x : CarriedPayload) → is_start x.payload ≡ false → gathered (carried ++ x ∷ []) ≡ longer (gathered carried) x
gathered_on [] x none = ap (λ (s : Bool). cond s (from_first x [] ∷ []) []) none
gathered_on (c ∷ carried) x none =
    longer_all (is_start c.payload) c x (up_to_start carried) (up_to_start (carried ++ x ∷ [])) (gathered carried) (gathered (carried ++ x ∷ [])) (up_to_more carried x none)
    (gathered_on carried x none)

pub longer_last : (closed : List Gathered) (p : Gathered) (x : CarriedPayload) → longer (closed ++ p ∷ []) x ≡ closed ++ with_more x p ∷ []
longer_last [] p x = refl
longer_last (q ∷ []) p x = refl
longer_last (q ∷ r ∷ closed) p x = ap (λ (ps : List Gathered). q ∷ ps) (longer_last (r ∷ closed) p x)

-- ---- the first bytes

-- as many of the next bytes as have room
pub room_taken : (most : ℕ) (ys xs : List ℕ) (room n : ℕ) → length ys ≤ most → room ≡ most - length ys → n ≡ min (length xs) room → ys ++ take n xs ≡ take most (ys ++ xs)
room_taken most ys xs room n few room_is n_is =
    let whole : most ≡ length ys + room = omega (arith, few, room_is) in
    let swapped : n ≡ min room (length xs) = omega (arith, n_is) in
    ap (λ (k : ℕ). ys ++ take k xs) swapped ∙ ap (λ (zs : List ℕ). ys ++ zs) (take_min room xs)
    ∙ sym (ap (λ (k : ℕ). take k (ys ++ xs)) whole ∙ take-append-add ys xs room)

-- ---- the walk

-- how the walk's place and bytes have changed, where a packet begins in the payload or where none does
pub record Changes (starts : Bool) (x : CarriedPayload) (old new : PesWalk) (begun : Option ℕ) (front : List ℕ) : Type 0 where
  pub turned : begun ≡ cond starts (Some x.at) old.begun
  pub cleared : front ≡ cond starts [] old.front.items
  pub place : new.begun ≡ begun
  pub none : begun ≡ None → new.front.items ≡ front
  pub more : IsSome begun → length front ≤ 65542 → new.front.items ≡ take 65542 (front ++ x.payload.bytes)

walked_by : (starts : Bool) (carried : List CarriedPayload) (closed : List Gathered) (last : Option Gathered) (x : CarriedPayload) (old new : PesWalk) (begun : Option ℕ) (front : List ℕ)
    → is_start x.payload ≡ starts → HasWalked carried closed last old → Changes starts x old new begun front
    → HasWalked (carried ++ x ∷ []) (cond starts (closed ++ option_to_list last) closed) (cond starts (Some (begun_in x)) (option_map (with_more x) last)) new
walked_by true carried closed last x old new begun front is has changes = record {
  packets = gathered_start carried x is ∙ ap (λ (ps : List Gathered). ps ++ begun_in x ∷ []) has.packets;
  none = λ no. absurd (let bad : Some (begun_in x) ≡ None = no in cc);
  place = changes.place ∙ changes.turned;
  front =
      changes.more (rw changes.turned refl) (omega (arith, ap length changes.cleared))
      ∙ ap (λ (kept : List ℕ). take 65542 (kept ++ x.payload.bytes)) changes.cleared;
}
walked_by false carried closed None x old new begun front is has changes = record {
  packets = gathered_on carried x is ∙ ap (λ (ps : List Gathered). longer ps x) (has.packets ∙ append-nil closed ∙ has.none refl) ∙ sym (append-nil closed ∙ has.none refl);
  none = has.none;
  place = changes.place ∙ changes.turned ∙ has.place;
  front = changes.none (changes.turned ∙ has.place) ∙ changes.cleared ∙ has.front;
}
walked_by false carried closed (Some packet) x old new begun front is has changes =
    let some : IsSome begun = rw (changes.turned, has.place) refl in
    let kept : front ≡ take 65542 packet.bytes = changes.cleared ∙ has.front in
    let few : length front ≤ 65542 = omega (arith, ap length kept, length-take 65542 packet.bytes) in
    record {
      packets = gathered_on carried x is ∙ ap (λ (ps : List Gathered). longer ps x) has.packets ∙ longer_last closed packet x;
      none = λ no. absurd (let bad : Some (with_more x packet) ≡ None = no in cc);
      place = changes.place ∙ changes.turned ∙ has.place;
      front = changes.more some few ∙ ap (λ (kept : List ℕ). take 65542 (kept ++ x.payload.bytes)) kept ∙ take_behind 65542 packet.bytes x.payload.bytes;
    }

pub walked : (carried : List CarriedPayload) (closed : List Gathered) (last : Option Gathered) (x : CarriedPayload) (old new : PesWalk) (begun : Option ℕ) (front : List ℕ)
    → HasWalked carried closed last old → Changes (is_start x.payload) x old new begun front
    → HasWalked (carried ++ x ∷ []) (closed_behind closed last x) (open_behind last x) new
walked carried closed last x old new begun front has changes = walked_by (is_start x.payload) carried closed last x old new begun front refl has changes

pub walked_none : (walk : PesWalk) → walk.begun ≡ None → walk.front.items ≡ [] → HasWalked [] [] None walk
walked_none walk place front = record {
  packets = refl;
  none = λ _. refl;
  place = place;
  front = front;
}

-- ---- what is asked of the open packet

-- what a function of the kept bytes gives, where it is the same of the front and of the whole
pub asked : {A : Type 0} (f : List ℕ → Option A) (same : (bytes : List ℕ) → f (take 65542 bytes) ≡ f bytes) (carried : List CarriedPayload) (closed : List Gathered) (last : Option Gathered)
    (walk : PesWalk) (begun : ℕ) → HasWalked carried closed last walk → walk.begun ≡ Some begun → f walk.front.items ≡ option_and_then (λ packet. f packet.bytes) last
asked f same carried closed None walk begun has is = absurd (let bad : Some begun ≡ None = sym is ∙ has.place in cc)
asked f same carried closed (Some packet) walk begun has is = ap f has.front ∙ same packet.bytes

pub of_open : {A : Type 0} (f : List ℕ → A) (same : (bytes : List ℕ) → f (take 65542 bytes) ≡ f bytes) (carried : List CarriedPayload) (closed : List Gathered) (last : Option Gathered)
    (walk : PesWalk) (begun : ℕ) → HasWalked carried closed last walk → walk.begun ≡ Some begun → Some (f walk.front.items) ≡ option_map (λ packet. f packet.bytes) last
of_open f same carried closed None walk begun has is = absurd (let bad : Some begun ≡ None = sym is ∙ has.place in cc)
of_open f same carried closed (Some packet) walk begun has is = ap (λ (bytes : List ℕ). Some (f bytes)) has.front ∙ ap Some (same packet.bytes)

pub none_asked : {A : Type 0} (f : List ℕ → Option A) (carried : List CarriedPayload) (closed : List Gathered) (last : Option Gathered) (walk : PesWalk) → HasWalked carried closed last walk
    → walk.begun ≡ None → None ≡ option_and_then (λ packet. f packet.bytes) last
none_asked f carried closed None walk has is = refl
none_asked f carried closed (Some packet) walk has is = absurd (let bad : None ≡ Some packet.at = sym is ∙ has.place in cc)
