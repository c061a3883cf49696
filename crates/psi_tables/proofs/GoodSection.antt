-- Bytes that are one section with a right length and a right CRC.
use Rattle.std.proofs.Common.{
  ◌≡◌,
  ◌≢◌,
  ℕ,
  ◌<◌,
  ◌≤◌,
  ◌==◌,
  nat_lt,
  nat_le,
  Bool,
  true,
  false,
  not,
  cond,
  ◌||◌,
  List,
  [],
  ◌∷◌,
  ◌++◌,
  length,
  take,
  replicate,
  map,
  Ok,
  Err,
  refl,
  ap,
  ◌∙◌,
  arith,
  length-take,
  length-append,
  inl,
  inr,
}
use Rattle.std.specs.Prelude.{slice_index}
use Rattle.std.specs.List.{concat}
use Rattle.std.proofs.Math.ListN.{get_or-append}
use Rattle.std.proofs.lemmas.Bool.{and_from, and_right, or_cases, or_parts, or_right, not-false, eqb-true, ltb-false, le-leb, cases_lt}
use Rattle.bit_lists.specs.Payload.{Payload}
use Rattle.psi_tables.specs.declared.section.SectionFault.TheVariants.{BadSection, BadCrc}
use Rattle.psi_tables.specs.Section.{table_id}
use Rattle.psi_tables.specs.Sections.{Found, length_end, is_read, has_bad_length, section_size, crc_over, checked, found_at, sections_of, going}
use Rattle.psi_tables.specs.SectionBuilder.{payloads_of}
use Rattle.psi_tables.specs.Private.SectionFront.{IsFront, is_settled, is_bad}
use Rattle.psi_tables.proofs.Elements.{table_id-is}
use Rattle.psi_tables.proofs.Fronts.{section_size-append}
use Rattle.psi_tables.proofs.Alone.{section-alone}
use Rattle.psi_tables.proofs.Pieces.{section-in-pieces}

record IsGood (s : List ℕ) : Type 0 where
  pub long : 3 ≤ length s
  pub read : is_read s ≡ true
  pub sound : has_bad_length s ≡ false
  pub whole : section_size s ≡ length s

found_whole : (unread bad short : Bool) (found : Found) (s : List ℕ)
    → cond unread [] (cond bad (Err BadSection ∷ []) (cond short [] (found ∷ []))) ≡ Ok s ∷ [] → (unread ≡ false)
    × ((bad ≡ false) × ((short ≡ false) × (found ≡ Ok s)))
found_whole true bad short found s is = absurd (cc)
found_whole false true short found s is = absurd (cc)
found_whole false false true found s is = absurd (cc)
found_whole false false false found s is = (refl, (refl, (refl, cc)))

checked_same : (right : Bool) (x s : List ℕ) → cond right (Ok x) (Err BadCrc) ≡ Ok s → x ≡ s
checked_same true x s is = cc
checked_same false x s is = absurd (cc)

good : (s : List ℕ) → found_at s ≡ Ok s ∷ [] → IsGood s
good s is =
    let parts = found_whole (nat_lt (length s) length_end || not (is_read s)) (has_bad_length s) (nat_lt (length s) (section_size s)) (checked (take (section_size s) s)) s is in
    let tests : (nat_lt (length s) length_end ≡ false) × (not (is_read s) ≡ false) = or_parts (nat_lt (length s) length_end) (not (is_read s)) parts.0 in
    let same : take (section_size s) s ≡ s = checked_same (crc_over (take (section_size s) s) == 0) (take (section_size s) s) s parts.1.1.1 in
    let full : section_size s ≤ length s = ltb-false (length s) (section_size s) parts.1.1.0 in
    record {
      long = ltb-false (length s) length_end tests.0;
      read = not-false (is_read s) tests.1;
      sound = parts.1.0;
      whole = omega (arith, full, length-take (section_size s) s, ap length same);
    }

no_stuffing : (s : List ℕ) → is_read s ≡ true → slice_index s 0 ≢ 0xFF
no_stuffing s read stuffed = elim (or_cases (table_id s == 0) (table_id s == 2) read) [
  | inl pat ↦ absurd (omega (arith, eqb-true (table_id s) 0 pat, table_id-is s, stuffed))
  | inr pmt ↦ absurd (omega (arith, eqb-true (table_id s) 2 pmt, table_id-is s, stuffed))
]

settled : (s : List ℕ) → IsGood s → is_settled s ≡ true
settled s is = and_from (nat_le length_end (length s)) (is_bad s || nat_le (section_size s) (length s)) (le-leb length_end (length s) is.long)
    (or_right (is_bad s) (nat_le (section_size s) (length s)) (le-leb (section_size s) (length s) (omega (arith, is.whole))))

front_of : (s first rest : List ℕ) → s ≡ first ++ rest → 0 < length first → IsGood s → IsFront first
front_of s first rest cut some is = record {
  no_stuffing = λ stuffed. no_stuffing s is.read (ap (λ (bytes : List ℕ). slice_index bytes 0) cut ∙ get_or-append first rest 0 0 some ∙ stuffed);
  within = elim (cases_lt (length first) 3) [
    | inl short ↦ omega arith
    | inr long ↦ omega (arith, section_size-append first rest long, ap section_size cut, is.whole, ap length cut, length-append first rest)
  ];
}

-- a section in a payload of its own
pub alone : (s : List ℕ) (n : ℕ) (later : List Payload) → found_at s ≡ Ok s ∷ [] → sections_of (record { start = true; bytes = 0 ∷ (s ++ replicate n 0xFF) } ∷ later) ≡ Ok s ∷ sections_of later
alone s n later found =
    let is = good s found in
    let bad : is_bad s ≡ false = and_right (is_read s) (has_bad_length s) is.sound in
    let front : IsFront s = record { no_stuffing = no_stuffing s is.read; within = omega (arith, is.whole) } in
    by_bytes s is.long (section-alone s n front (settled s is) bad found later)
  where
    by_bytes : (bytes : List ℕ) → 3 ≤ length bytes → sections_of (payloads_of (bytes ++ replicate n 0xFF) ++ later) ≡ Ok s ∷ sections_of later
        → sections_of (record { start = true; bytes = 0 ∷ (bytes ++ replicate n 0xFF) } ∷ later) ≡ Ok s ∷ sections_of later
    by_bytes [] long same = absurd (omega arith)
    by_bytes (byte ∷ bytes) long same = same

-- a section in pieces over several payloads
pub in_pieces : (s first : List ℕ) (pieces : List (List ℕ)) (later : List Payload) → s ≡ first ++ concat pieces → 0 < length first
    → found_at s ≡ Ok s ∷ [] → sections_of (record { start = true; bytes = 0 ∷ first } ∷ (map going pieces ++ later)) ≡ Ok s ∷ sections_of later
in_pieces s first pieces later cut some found =
    let is = good s found in
    by_bytes first some (section-in-pieces s first pieces cut some (front_of s first (concat pieces) cut some is) (settled s is) found later)
  where
    by_bytes : (bytes : List ℕ) → 0 < length bytes → sections_of (payloads_of bytes ++ (map going pieces ++ later)) ≡ Ok s ∷ sections_of later
        → sections_of (record { start = true; bytes = 0 ∷ bytes } ∷ (map going pieces ++ later)) ≡ Ok s ∷ sections_of later
    by_bytes [] some same = absurd (omega arith)
    by_bytes (byte ∷ bytes) some same = same
