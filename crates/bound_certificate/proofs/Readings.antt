-- Bytes are read in one way.
use Rattle.std.proofs.Common.{◌≡◌, ℕ, suc, ◌<◌, ◌≤◌, ◌⊎◌, inl, inr, List, [], ◌∷◌, ◌++◌, length, get_or, refl, sym, ap, subst, ◌∙◌, arith, length-append, append_assoc, Result, Ok, Err, IfOk, IfErr}
use Rattle.std.proofs.lemmas.Bool.{cases_lt}
use Rattle.bit_lists.specs.Fields.{AreBytes}
use Rattle.bound_certificate.specs.declared.cert.Cert.{Cert}
use Rattle.bound_certificate.specs.declared.fault.CertFormat.{CertFormat}
use Rattle.bound_certificate.specs.declared.fault.CertFormat.TheVariants.{CertSyntax, OutOfMemory}
use Rattle.bound_certificate.specs.Reading.{IsCertSyntaxRefusal, CertReading, Holds, RefusedAt, IsCertRead, IsFaultOf, Says}
use Rattle.bound_certificate.proofs.Refusals.{longer}
use Rattle.bound_certificate.proofs.Whole.{one_cert}

pub are_bytes_of : (bytes : List ℕ) → ((i : ℕ) → get_or bytes i 0 < 256) → AreBytes bytes
are_bytes_of [] below = tt
are_bytes_of (byte ∷ bytes) below = (below 0, are_bytes_of bytes (λ i. below (suc i)))

-- no refusal comes before another one
not_before : (bytes : List ℕ) (n m : ℕ) → IsCertSyntaxRefusal bytes n → IsCertSyntaxRefusal bytes m → n < m → ⊥
not_before bytes n m first second before =
    let parts = longer first.before first.rest second.before second.rest (sym first.parts ∙ second.parts) (omega (arith, first.place, second.place, before)) in
    by_more parts.0 parts.1 parts.2
  where
    by_more : (w : List ℕ) → second.before ≡ first.before ++ w → first.rest ≡ w ++ second.rest → ⊥
    by_more [] same rest = omega (arith, first.place, second.place, before, ap length same, length-append first.before [])
    by_more (next ∷ w) same rest =
        first.byte next (w ++ second.rest) (w ++ second.begun.1) second.begun.0 rest second.begun.2
        (second.begun.3 ∙ ap (λ (xs : List ℕ). xs ++ second.begun.1) same ∙ append_assoc first.before (next ∷ w) second.begun.1)

one_place : (bytes : List ℕ) (n m : ℕ) → IsCertSyntaxRefusal bytes n → IsCertSyntaxRefusal bytes m → n ≡ m
one_place bytes n m first second = by_order (cases_lt n m) (cases_lt m n)
  where
    by_order : (n < m) ⊎ (m ≤ n) → (m < n) ⊎ (n ≤ m) → n ≡ m
    by_order (inl before) other = absurd (not_before bytes n m first second before)
    by_order (inr less) (inl before) = absurd (not_before bytes m n second first before)
    by_order (inr less) (inr more) = omega (arith, less, more)

pub reading_is_one : (bytes : List ℕ) (a b : CertReading) → IsCertRead bytes a → IsCertRead bytes b → a ≡ b
reading_is_one bytes (Holds a) (Holds b) first second = ap Holds (one_cert a b first.1 second.1 (sym first.2 ∙ second.2))
reading_is_one bytes (Holds a) (RefusedAt m) first (inl long) = absurd (omega (arith, first.0, long.0))
reading_is_one bytes (Holds a) (RefusedAt m) first (inr refused) = absurd (refused.1.ended a first.1 (sym first.2))
reading_is_one bytes (RefusedAt n) (Holds b) (inl long) second = absurd (omega (arith, second.0, long.0))
reading_is_one bytes (RefusedAt n) (Holds b) (inr refused) second = absurd (refused.1.ended b second.1 (sym second.2))
reading_is_one bytes (RefusedAt n) (RefusedAt m) (inl long) (inl other) = ap RefusedAt (long.1 ∙ sym other.1)
reading_is_one bytes (RefusedAt n) (RefusedAt m) (inl long) (inr refused) = absurd (omega (arith, long.0, refused.0))
reading_is_one bytes (RefusedAt n) (RefusedAt m) (inr refused) (inl long) = absurd (omega (arith, long.0, refused.0))
reading_is_one bytes (RefusedAt n) (RefusedAt m) (inr refused) (inr other) = ap RefusedAt (one_place bytes n m refused.1 other.1)

pub only_answer : (bytes : List ℕ) (result : Result Cert CertFormat) → IfOk result (λ cert. IsCertRead bytes (Holds cert)) → IfErr result (IsFaultOf bytes) → (reading : CertReading)
    → IsCertRead bytes reading → Says result reading
only_answer bytes (Ok cert) is fault reading read = subst (Says (Ok cert)) (reading_is_one bytes (Holds cert) reading is read) refl
only_answer bytes (Err (CertSyntax n)) is fault reading read = subst (Says (Err (CertSyntax n))) (reading_is_one bytes (RefusedAt n) reading fault read) refl
only_answer bytes (Err OutOfMemory) is fault reading read = tt
