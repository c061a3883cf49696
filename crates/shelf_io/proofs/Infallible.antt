-- A take that always answers Ok meets what a source promises.
use Rattle.std.proofs.Common.{
  ◌≡◌,
  ◌≤◌,
  ◌+◌,
  ◌-◌,
  ◌^◌,
  ◌↔◌,
  min,
  ℕ,
  List,
  [],
  ◌∷◌,
  Option,
  None,
  Some,
  IsSome,
  cond,
  is_some,
  slice_get,
  Result,
  Ok,
  Err,
  IfOk,
  OnErr,
  IsOkAnd,
  length,
  drop,
  subst,
  ap,
  refl,
  arith,
  length-drop,
}
use Rattle.shelf_io.specs.declared.fault.Fault.{Fault}
use Rattle.shelf_io.specs.Buffer.{CopiesFront}
use Rattle.shelf_io.specs.Source.{Takes}

pub if_ok : {T : Type 0} (r : Result T Fault) (P : T → Type 0) → IsOkAnd r P → IfOk r P
if_ok (Ok n) P h = h
if_ok (Err e) P h = absurd h

pub on_err : {T : Type 0} (r : Result T Fault) (P : T → Type 0) (Q : Type 0) → IsOkAnd r P → OnErr r Q
on_err (Ok n) P Q h = tt
on_err (Err e) P Q h = absurd h

pub never_err : {T : Type 0} (r : Result T Fault) (e : Fault) (P : T → Type 0) → IsOkAnd r P → r ≡ Err e → ⊥
never_err r e P h is = subst (λ x. IsOkAnd x P) is h

pub takes : (r : Result ℕ Fault) (old new before after : List ℕ) → length old ≤ 2 ^ 60 → IsOkAnd r (CopiesFront old before after)
    → IsOkAnd r (λ n. new ≡ drop n old) → IfOk r (Takes (Some old) (Some new) (min (length old) (2 ^ 60)) (min (length new) (2 ^ 60)))
takes (Ok n) old new before after fits fills rest = record {
  rest = ap Some rest;
  fewer = simp (rest, length-drop) (fewer fits fills.within);
}
  where
    fewer : length old ≤ 2 ^ 60 → n ≤ length old → min (length old - n) (2 ^ 60) + n ≡ min (length old) (2 ^ 60)
    fewer fits within = omega arith
takes (Err e) old new before after fits fills rest = absurd fills

pub one_byte : (old : List ℕ) → length old ≤ 2 ^ 60 → Takes (Some old) (Some (drop 1 old)) (min (length old) (2 ^ 60)) (min (length (drop 1 old)) (2 ^ 60)) (cond (is_some (slice_get old 0)) 1 0)
one_byte [] fits = record { rest = refl; fewer = omega arith }
one_byte (byte ∷ bytes) fits = record { rest = refl; fewer = omega arith }

pub takes_byte : (r : Result (Option ℕ) Fault) (old new : List ℕ) → length old ≤ 2 ^ 60 → IsOkAnd r (λ byte. byte ≡ slice_get old 0)
    → new ≡ drop 1 old → IfOk r (λ byte. Takes (Some old) (Some new) (min (length old) (2 ^ 60)) (min (length new) (2 ^ 60))
    (cond (is_some byte) 1 0))
takes_byte (Ok byte) old new fits first rest = rw (first, rest) (one_byte old fits)
takes_byte (Err e) old new fits first rest = absurd first

pub takes_number : (r : Result (Option ℕ) Fault) (old new : List ℕ) (count : ℕ) → length old ≤ 2 ^ 60 → count ≤ 4 → IsOkAnd r (λ taken. IsSome taken ↔ (4 ≤ length old))
    → IsOkAnd r (λ taken. new ≡ drop (cond (is_some taken) count 0) old) → IfOk r (λ taken. Takes (Some old) (Some new) (min (length old) (2 ^ 60)) (min (length new) (2 ^ 60))
    (cond (is_some taken) count 0))
takes_number (Ok None) old new count fits few enough rest = record { rest = ap Some rest; fewer = simp rest (omega arith) }
takes_number (Ok (Some number)) old new count fits few enough rest = record {
  rest = ap Some rest;
  fewer = simp (rest, length-drop) (fewer (enough.0 refl));
}
  where
    fewer : 4 ≤ length old → min (length old - count) (2 ^ 60) + count ≡ min (length old) (2 ^ 60)
    fewer long = omega arith
takes_number (Err e) old new count fits few enough rest = absurd enough
