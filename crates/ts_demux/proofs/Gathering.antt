-- The PES packets that a PID carries, one payload further.
use Rattle.std.proofs.Common.{◌≡◌, ℕ, ◌+◌, ◌<◌, Bool, true, false, cond, ◌&&◌, nat_lt, List, [], ◌∷◌, ◌++◌, length, map, Option, Some, refl, sym, ap, ◌∙◌, append_assoc, arith}
use Rattle.std.proofs.lemmas.Bool.Decides.{nat_tests}
use Rattle.std.proofs.lemmas.List.{append-nil}
use Rattle.bit_lists.specs.Payload.{CarriedPayload, is_start}
use Rattle.ts_packets.specs.Carried.{carried}
use Rattle.pes_units.specs.PesPackets.{Gathered, gathered, up_to_start}
use Rattle.ts_demux.specs.declared.demuxed.PesUnit.{PesUnit}
use Rattle.ts_demux.specs.declared.pes_gatherer.PesGatherer.{PesGatherer}
use Rattle.ts_demux.specs.declared.carried_packets.StreamPayload.{StreamPayload}
use Rattle.ts_demux.specs.CarriedPackets.{carried_before, as_carried}
use Rattle.ts_demux.specs.Private.PesGatherer.{last_of, gathered_of, longer, gathered_more, IsInOrder, Gathers}

abbrev pub unit_of : Gathered → PesUnit
unit_of packet = record { at = packet.at; bytes = packet.bytes }

abbrev pub units_of : List CarriedPayload → List PesUnit
units_of carried = map unit_of (gathered carried)

-- ---- the bytes before the next start

up_start : (xs : List CarriedPayload) (c : CarriedPayload) → is_start c.payload ≡ true → up_to_start (xs ++ c ∷ []) ≡ up_to_start xs
up_start [] c start = ap (λ (b : Bool). cond b [] (c.payload.bytes ++ [])) start
up_start (x ∷ xs) c start = by_test (is_start x.payload) (up_start xs c start)
  where
    by_test : (is : Bool) → up_to_start (xs ++ c ∷ []) ≡ up_to_start xs → cond is [] (x.payload.bytes ++ up_to_start (xs ++ c ∷ [])) ≡ cond is [] (x.payload.bytes ++ up_to_start xs)
    by_test true same = refl
    by_test false same = ap (λ (bytes : List ℕ). x.payload.bytes ++ bytes) same

up_on : (xs : List CarriedPayload) (c : CarriedPayload) → is_start c.payload ≡ false → gathered xs ≡ [] → up_to_start (xs ++ c ∷ []) ≡ up_to_start xs ++ c.payload.bytes
up_on [] c start none = ap (λ (b : Bool). cond b [] (c.payload.bytes ++ [])) start ∙ append-nil c.payload.bytes
up_on (x ∷ xs) c start none = by_test (up_on xs c start) (is_start x.payload) none
  where
    by_test : (gathered xs ≡ [] → up_to_start (xs ++ c ∷ []) ≡ up_to_start xs ++ c.payload.bytes) → (is : Bool) →
        cond is (record { at = x.at; bytes = x.payload.bytes ++ up_to_start xs } ∷ gathered xs) (gathered xs) ≡ [] →
        cond is [] (x.payload.bytes ++ up_to_start (xs ++ c ∷ [])) ≡ cond is [] (x.payload.bytes ++ up_to_start xs) ++ c.payload.bytes
    by_test on true none = absurd cc
    by_test on false none = ap (λ (bytes : List ℕ). x.payload.bytes ++ bytes) (on none) ∙ sym (append_assoc x.payload.bytes (up_to_start xs) c.payload.bytes)

up_same : (xs : List CarriedPayload) (c : CarriedPayload) (g : Gathered) (gs : List Gathered) → gathered xs ≡ g ∷ gs → up_to_start (xs ++ c ∷ []) ≡ up_to_start xs
up_same [] c g gs some = absurd cc
up_same (x ∷ xs) c g gs some = by_test (up_same xs c g gs) (is_start x.payload) some
  where
    by_test : (gathered xs ≡ g ∷ gs → up_to_start (xs ++ c ∷ []) ≡ up_to_start xs) → (is : Bool) →
        cond is (record { at = x.at; bytes = x.payload.bytes ++ up_to_start xs } ∷ gathered xs) (gathered xs) ≡ g ∷ gs →
        cond is [] (x.payload.bytes ++ up_to_start (xs ++ c ∷ [])) ≡ cond is [] (x.payload.bytes ++ up_to_start xs)
    by_test on true some = refl
    by_test on false some = ap (λ (bytes : List ℕ). x.payload.bytes ++ bytes) (on some)

-- ---- the PES packets

-- one begins
units_start : (xs : List CarriedPayload) (c : CarriedPayload) → is_start c.payload ≡ true → units_of (xs ++ c ∷ []) ≡ units_of xs ++ record { at = c.at; bytes = c.payload.bytes } ∷ []
units_start [] c start =
    ap (λ (b : Bool). map unit_of (cond b (record { at = c.at; bytes = c.payload.bytes ++ [] } ∷ []) [])) start
    ∙ ap (λ (bytes : List ℕ). (let unit : PesUnit = record { at = c.at; bytes = bytes } in unit) ∷ []) (append-nil c.payload.bytes)
units_start (x ∷ xs) c start = by_test (is_start x.payload) (units_start xs c start)
  where
    by_test : (is : Bool) → units_of (xs ++ c ∷ []) ≡ units_of xs ++ record { at = c.at; bytes = c.payload.bytes } ∷ [] →
        map unit_of (cond is (record { at = x.at; bytes = x.payload.bytes ++ up_to_start (xs ++ c ∷ []) } ∷ gathered (xs ++ c ∷ [])) (gathered (xs ++ c ∷ [])))
        ≡ map unit_of (cond is (record { at = x.at; bytes = x.payload.bytes ++ up_to_start xs } ∷ gathered xs) (gathered xs)) ++ record { at = c.at; bytes = c.payload.bytes } ∷ []
    by_test true same =
        ap (λ (bytes : List ℕ). (let unit : PesUnit = record { at = x.at; bytes = x.payload.bytes ++ bytes } in unit) ∷ units_of (xs ++ c ∷ [])) (up_start xs c start)
        ∙ ap (λ (us : List PesUnit). (let unit : PesUnit = record { at = x.at; bytes = x.payload.bytes ++ up_to_start xs } in unit) ∷ us) same
    by_test false same = same

-- the last one goes on
units_on : (xs : List CarriedPayload) (c : CarriedPayload) → is_start c.payload ≡ false → units_of (xs ++ c ∷ []) ≡ longer (units_of xs) c.payload.bytes
units_on [] c start = ap (λ (b : Bool). map unit_of (cond b (record { at = c.at; bytes = c.payload.bytes ++ [] } ∷ []) [])) start
units_on (x ∷ xs) c start = by_test (is_start x.payload) (units_on xs c start)
  where
    by_others : (others : List Gathered) → gathered xs ≡ others → units_of (xs ++ c ∷ []) ≡ longer (map unit_of others) c.payload.bytes →
        record {
          at =
              x.at;
          bytes = x.payload.bytes ++ up_to_start (xs ++ c ∷ []);
        } ∷ units_of (xs ++ c ∷ []) ≡ longer (record { at = x.at; bytes = x.payload.bytes ++ up_to_start xs } ∷ map unit_of others) c.payload.bytes
    by_others [] none same =
        ap (λ (bytes : List ℕ). (let unit : PesUnit = record { at = x.at; bytes = x.payload.bytes ++ bytes } in unit) ∷ units_of (xs ++ c ∷ [])) (up_on xs c start none)
        ∙ ap (λ (us : List PesUnit). (let unit : PesUnit = record { at = x.at; bytes = x.payload.bytes ++ (up_to_start xs ++ c.payload.bytes) } in unit) ∷ us) same
        ∙ ap (λ (bytes : List ℕ). (let unit : PesUnit = record { at = x.at; bytes = bytes } in unit) ∷ []) (sym (append_assoc x.payload.bytes (up_to_start xs) c.payload.bytes))
    by_others (g ∷ gs) some same =
        ap (λ (bytes : List ℕ). (let unit : PesUnit = record { at = x.at; bytes = x.payload.bytes ++ bytes } in unit) ∷ units_of (xs ++ c ∷ [])) (up_same xs c g gs some)
        ∙ ap (λ (us : List PesUnit). (let unit : PesUnit = record { at = x.at; bytes = x.payload.bytes ++ up_to_start xs } in unit) ∷ us) same

    by_test : (is : Bool) → units_of (xs ++ c ∷ []) ≡ longer (units_of xs) c.payload.bytes →
        map unit_of (cond is (record { at = x.at; bytes = x.payload.bytes ++ up_to_start (xs ++ c ∷ []) } ∷ gathered (xs ++ c ∷ [])) (gathered (xs ++ c ∷ [])))
        ≡ longer (map unit_of (cond is (record { at = x.at; bytes = x.payload.bytes ++ up_to_start xs } ∷ gathered xs) (gathered xs))) c.payload.bytes
    by_test true same = by_others (gathered xs) refl same
    by_test false same = same

-- one payload more, which isn't empty
units_more : (xs : List CarriedPayload) (c : CarriedPayload) → 0 < length c.payload.bytes → units_of (xs ++ c ∷ []) ≡ gathered_more (units_of xs) c.at c.payload.start c.payload.bytes
units_more xs c some = by_start c.payload.start refl (nat_lt 0 (length c.payload.bytes)) refl
  where
    by_start : (start : Bool) → c.payload.start ≡ start → (full : Bool) → nat_lt 0 (length c.payload.bytes) ≡ full →
        units_of (xs ++ c ∷ []) ≡ cond start (units_of xs ++ record { at = c.at; bytes = c.payload.bytes } ∷ []) (longer (units_of xs) c.payload.bytes)
    by_start start start_is false full_is = absurd (grind (arith, nat_tests))
    by_start true start_is true full_is = units_start xs c (ap (λ (b : Bool). b && nat_lt 0 (length c.payload.bytes)) start_is ∙ full_is)
    by_start false start_is true full_is = units_on xs c (ap (λ (b : Bool). b && nat_lt 0 (length c.payload.bytes)) start_is)

-- ---- a gatherer's own

pub longer_last : (units : List PesUnit) (unit : PesUnit) (payload : List ℕ) → longer (units ++ unit ∷ []) payload ≡ units ++ record { at = unit.at; bytes = unit.bytes ++ payload } ∷ []
longer_last [] unit payload = refl
longer_last (u ∷ []) unit payload = refl
longer_last (u ∷ v ∷ units) unit payload = ap (λ (us : List PesUnit). u ∷ us) (longer_last (v ∷ units) unit payload)

pub goes_on : (whole : List PesUnit) (begun : Option ℕ) (at : ℕ) (bytes more payload : List ℕ) → begun ≡ Some at → more ≡ bytes ++ payload →
    whole ++ last_of begun more ≡ longer (whole ++ last_of begun bytes) payload
goes_on whole begun at bytes more payload is same = rw (is, same) (sym (longer_last whole (record { at = at; bytes = bytes }) payload))

-- ---- a packet

-- one that adds nothing to its PID
pub gathers_same : (file : List ℕ) (n : ℕ) (gatherer : PesGatherer) → carried_before file gatherer.pid (n + 1) ≡ carried_before file gatherer.pid n ++ [] →
    Gathers file n gatherer → Gathers file (n + 1) gatherer
gathers_same file n gatherer same gathers = record {
  order = gathers.order;
  units = gathers.units ∙ sym (ap units_of (same ∙ append-nil (carried_before file gatherer.pid n)));
}

-- one that adds a payload
pub gathers_added : (file : List ℕ) (n : ℕ) (gatherer after : PesGatherer) (found : StreamPayload) → 0 < length found.payload.now →
    carried_before file gatherer.pid (n + 1) ≡ carried_before file gatherer.pid n ++ as_carried found ∷ [] →
    gathered_of after ≡ gathered_more (gathered_of gatherer) found.at found.start found.payload.now → IsInOrder after → after.pid ≡ gatherer.pid →
    Gathers file n gatherer → Gathers file (n + 1) after
gathers_added file n gatherer after found some added more order pid_is gathers = record {
  order = order;
  units = rw pid_is (more ∙ ap (λ (units : List PesUnit). gathered_more units found.at found.start found.payload.now) gathers.units
      ∙ sym (ap units_of added ∙ units_more (carried_before file gatherer.pid n) (as_carried found) some));
}
