-- Bytes that nothing refuses begin with a header.
use Rattle.std.proofs.Common.{◌≡◌, ℕ, ◌<◌, Bool, true, false, cond, List, [], ◌∷◌, length, Option, Some, None, Ok, Err, refl, sym, subst, arith, eqb}
use Rattle.std.specs.Prelude.{Result, IfOk}
use Rattle.std.specs.List.{find}
use Rattle.std.specs.Result.{result_err}
use Rattle.std.proofs.lemmas.Bool.{and_parts, eqb-true, leb-false, not-false}
use Rattle.pes_units.specs.declared.pes_fault.PesFault.{PesFault}
use Rattle.pes_units.specs.declared.pes_fault.PesFault.TheVariants.{BadPrefix, Short, Scrambled, BadMarker}
use Rattle.pes_units.specs.declared.pes_header.PesHeader.{PesHeader}
use Rattle.pes_units.specs.PesHeader.{IsPesHeader, pes_fields_of, fixed_bits, has_pes_fault, has_prefix, header_length, pes_scrambling_control, pes_refusal}
use Rattle.pes_units.specs.Times.{are_times_sound}
use Rattle.pes_units.proofs.Prefix.{prefix-first, prefix-id}
use Rattle.pes_units.proofs.Sound.{sound-has}

-- a search that finds nothing
finds_none : (fault : PesFault) (has : Bool) (others : Option PesFault) → cond has (Some fault) others ≡ None → (has ≡ false) × (others ≡ None)
finds_none fault true others e = absurd cc
finds_none fault false others e = (refl, e)

pub passes-header : (video : Bool) (bytes : List ℕ) → pes_refusal video bytes ≡ None → IsPesHeader video (pes_fields_of bytes) bytes
passes-header video bytes passes =
    let prefix = finds_none BadPrefix (has_pes_fault video bytes BadPrefix) (find (has_pes_fault video bytes) (Short ∷ Scrambled ∷ BadMarker ∷ [])) passes in
    let short = finds_none Short (has_pes_fault video bytes Short) (find (has_pes_fault video bytes) (Scrambled ∷ BadMarker ∷ [])) prefix.1 in
    let scrambled = finds_none Scrambled (has_pes_fault video bytes Scrambled) (find (has_pes_fault video bytes) (BadMarker ∷ [])) short.1 in
    let marker = finds_none BadMarker (has_pes_fault video bytes BadMarker) None scrambled.1 in
    let has : has_prefix video bytes ≡ true = not-false (has_prefix video bytes) prefix.0 in
    let followed : header_length bytes < length bytes = leb-false (length bytes) (header_length bytes) short.0 in
    let long : 3 < length bytes = omega (arith, followed) in
    let control = and_parts (eqb (fixed_bits bytes) 2) (are_times_sound bytes) (not-false _ marker.0) in
    record {
      prefix = prefix-first video bytes long has;
      kind = prefix-id video bytes long has;
      stream_id = refl;
      stated = refl;
      fixed = eqb-true (fixed_bits bytes) 2 control.0;
      scrambling = eqb-true (pes_scrambling_control bytes) 0 (not-false _ scrambled.0);
      times = sound-has bytes control.1;
      len = refl;
      followed = followed;
    }

-- so does what a reader answers that answers the first fault, and else what is kept
pub read-header : (video : Bool) (bytes : List ℕ) (read : Result PesHeader PesFault) → result_err read ≡ pes_refusal video bytes
    → IfOk read (λ header. header ≡ pes_fields_of bytes) → IfOk read (λ header. IsPesHeader video header bytes)
read-header video bytes (Ok header) fault same =
    subst (λ (h : PesHeader). IsPesHeader video h bytes) (sym same) (passes-header video bytes (sym fault))
read-header video bytes (Err e) fault same = tt
