-- What a call that reads a file does to a shelf.
use Rattle.std.proofs.Common.{◌≡◌, ℕ, ◌↔◌, List, Option, Some, None, Result, Ok, Err, IsErrOf, refl, ap, subst, sym, ◌∙◌, arith}
use Rattle.shelf_io.specs.declared.fault.Fault.{Fault}
use Rattle.shelf_io.specs.declared.fault.Fault.TheVariants.{Failed, Missing, OutOfMemory}
use Rattle.shelf_io.specs.Asked.{AsksUpTo}
use Rattle.shelf_io.specs.Counts.{Rose, ShelfCounts}
use Rattle.shelf_io.specs.Files.{Files, Lacks}
use Rattle.file_pass.specs.FilePass.{SameReads, StopsAs}
use Rattle.file_pass.proofs.Later.{raises_later}
use Rattle.file_pieces.specs.declared.again_fault.AgainFault.{AgainFault}
use Rattle.file_pieces.specs.declared.again_fault.AgainFault.TheVariants as again
use Rattle.file_pieces.specs.declared.limits.TheConstants.{READ_MOST}
use Rattle.file_pieces.specs.Reads.{ReadsFile}

-- by how its reads were stopped
pub reads_of : (stop : Option Fault) (name : List ℕ) (failed missing : Type 0) (told told_after : Option Files) (old new : ShelfCounts) (since : ℕ) (asked asked_after : List ℕ → ℕ)
    → told_after ≡ told → new.write_faults ≡ old.write_faults → AsksUpTo name READ_MOST asked asked_after → StopsAs stop told name old new since
    → failed ↔ (stop ≡ Some Failed) → missing ↔ (stop ≡ Some Missing) → ReadsFile name failed missing told told_after old new since asked asked_after
reads_of None name failed missing told told_after old new since asked asked_after files writes asks stops on_failed on_missing = record {
  same_files = files;
  same_write_faults = writes;
  asks = asks;
  failed_as = λ f. absurd (let bad : None ≡ Some Failed = on_failed.0 f in cc);
  missing_as = λ m. absurd (let bad : None ≡ Some Missing = on_missing.0 m in cc);
  else_same = λ _ _. stops;
}
reads_of (Some Failed) name failed missing told told_after old new since asked asked_after files writes asks stops on_failed on_missing = record {
  same_files = files;
  same_write_faults = writes;
  asks = asks;
  failed_as = λ _. stops;
  missing_as = λ m. absurd (let bad : Some Failed ≡ Some Missing = on_missing.0 m in cc);
  else_same = λ no _. absurd (no (on_failed.1 refl));
}
reads_of (Some Missing) name failed missing told told_after old new since asked asked_after files writes asks stops on_failed on_missing = record {
  same_files = files;
  same_write_faults = writes;
  asks = asks;
  failed_as = λ f. absurd (let bad : Some Missing ≡ Some Failed = on_failed.0 f in cc);
  missing_as = λ _. stops;
  else_same = λ _ no. absurd (no (on_missing.1 refl));
}
reads_of (Some OutOfMemory) name failed missing told told_after old new since asked asked_after files writes asks stops on_failed on_missing = record {
  same_files = files;
  same_write_faults = writes;
  asks = asks;
  failed_as = λ f. absurd (let bad : Some OutOfMemory ≡ Some Failed = on_failed.0 f in cc);
  missing_as = λ m. absurd (let bad : Some OutOfMemory ≡ Some Missing = on_missing.0 m in cc);
  else_same = λ _ _. stops;
}

-- ---- calls one behind the other

asks_on : (name : List ℕ) (first middle last : List ℕ → ℕ) → AsksUpTo name READ_MOST first middle → AsksUpTo name READ_MOST middle last → AsksUpTo name READ_MOST first last
asks_on name first middle last one two = record {
  here = let a = one.here in let b = two.here in omega (arith, a, b);
  others = λ other not. let a = one.others other not in let b = two.others other not in omega (arith, a, b);
}

pub rose_from : (a b c : ℕ) → b ≡ a → Rose b c → Rose a c
rose_from a b c same rose = subst (λ (n : ℕ). Rose n c) same rose

-- a call behind one in which no read was stopped
pub reads_on : (name : List ℕ) (failed missing : Type 0) (told middle last : Option Files) (old mid new : ShelfCounts) (since : ℕ) (asked asked_mid asked_after : List ℕ → ℕ)
    → told ≡ middle → SameReads old mid → mid.write_faults ≡ old.write_faults → AsksUpTo name READ_MOST asked asked_mid
    → ReadsFile name failed missing middle last mid new since asked_mid asked_after → ReadsFile name failed missing told last old new since asked asked_after
reads_on name failed missing told middle last old mid new since asked asked_mid asked_after files same writes asks then = record {
  same_files = then.same_files ∙ sym files;
  same_write_faults = then.same_write_faults ∙ writes;
  asks = asks_on name asked asked_mid asked_after asks then.asks;
  failed_as = λ f. raises_later old.faults mid.faults new.faults old.absences mid.absences new.absences since same.same_faults same.same_absences (then.failed_as f);
  missing_as = λ m. let e = then.missing_as m in
      (subst (λ (t : Option Files). Lacks t name) (sym files) e.0, raises_later old.absences mid.absences new.absences old.faults mid.faults new.faults since same.same_absences same.same_faults e.1);
  else_same = λ nf nm. let e = then.else_same nf nm in record { same_faults = e.same_faults ∙ same.same_faults; same_absences = e.same_absences ∙ same.same_absences };
}

-- the same of a whole call before, which answered neither
pub reads_then : (name : List ℕ) (failed missing : Type 0) (told middle last : Option Files) (old mid new : ShelfCounts) (since_mid since : ℕ) (asked asked_mid asked_after : List ℕ → ℕ) (f m : Type 0)
    → (f → ⊥) → (m → ⊥) → ReadsFile name f m told middle old mid since_mid asked asked_mid
    → ReadsFile name failed missing middle last mid new since asked_mid asked_after → ReadsFile name failed missing told last old new since asked asked_after
reads_then name failed missing told middle last old mid new since_mid since asked asked_mid asked_after f m no_f no_m first then =
    reads_on name failed missing told middle last old mid new since asked asked_mid asked_after (sym first.same_files) (first.else_same no_f no_m) first.same_write_faults first.asks then

-- a call whose answer is another one of the same kind
pub reads_as : (name : List ℕ) (f m failed missing : Type 0) (told last : Option Files) (old new : ShelfCounts) (since : ℕ) (asked asked_after : List ℕ → ℕ)
    → f ↔ failed → m ↔ missing → ReadsFile name f m told last old new since asked asked_after → ReadsFile name failed missing told last old new since asked asked_after
reads_as name f m failed missing told last old new since asked asked_after on_failed on_missing is = record {
  same_files = is.same_files;
  same_write_faults = is.same_write_faults;
  asks = is.asks;
  failed_as = λ g. is.failed_as (on_failed.1 g);
  missing_as = λ n. is.missing_as (on_missing.1 n);
  else_same = λ nf nm. is.else_same (λ g. nf (on_failed.0 g)) (λ n. nm (on_missing.0 n));
}

-- where nothing is read
pub reads_nothing : (name : List ℕ) (failed missing : Type 0) (told : Option Files) (old : ShelfCounts) (since : ℕ) (asked : List ℕ → ℕ) → (failed → ⊥) → (missing → ⊥)
    → ReadsFile name failed missing told told old old since asked asked
reads_nothing name failed missing told old since asked no_f no_m = record {
  same_files = refl;
  same_write_faults = refl;
  asks = record { here = omega arith; others = λ other not. omega arith };
  failed_as = λ f. absurd (no_f f);
  missing_as = λ m. absurd (no_m m);
  else_same = λ _ _. record { same_faults = refl; same_absences = refl };
}

-- one that answered a value
pub reads_ok : (name : List ℕ) (f m : Type 0) (told last : Option Files) (old new : ShelfCounts) (since : ℕ) (asked asked_after : List ℕ → ℕ) → (f → ⊥) → (m → ⊥)
    → ReadsFile name f m told last old new since asked asked_after → ReadsFile name ⊥ ⊥ told last old new since asked asked_after
reads_ok name f m told last old new since asked asked_after no_f no_m is =
    reads_as name f m ⊥ ⊥ told last old new since asked asked_after (no_f, λ b. absurd b) (no_m, λ b. absurd b) is

-- ---- the answer of a call

abbrev pub err_of : {T : Type 0} → AgainFault → Result T AgainFault
err_of fault = Err fault

abbrev pub ok_of : {T : Type 0} → T → Result T AgainFault
ok_of x = Ok x

pub err_is : {T : Type 0} (fault other : AgainFault) → IsErrOf (err_of {T = T} fault) other → fault ≡ other
err_is fault other is = cc

pub err_as : {T : Type 0} (fault other : AgainFault) → fault ≡ other → IsErrOf (err_of {T = T} fault) other
err_as {T} fault other same = ap (err_of {T = T}) same

pub ok_never : {T : Type 0} (x : T) (fault : AgainFault) → IsErrOf (ok_of x) fault → ⊥
ok_never x fault is = cc

-- what a call did that answered a fault, or a value
pub err_reads : {T : Type 0} (fault : AgainFault) (name : List ℕ) (told last : Option Files) (old new : ShelfCounts) (since : ℕ) (asked asked_after : List ℕ → ℕ)
    → ReadsFile name (IsErrOf (err_of {T = T} fault) again.Failed) (IsErrOf (err_of {T = T} fault) again.Missing) told last old new since asked asked_after
    → ReadsFile name (fault ≡ again.Failed) (fault ≡ again.Missing) told last old new since asked asked_after
err_reads {T} fault name told last old new since asked asked_after is =
    reads_as name (IsErrOf (err_of {T = T} fault) again.Failed) (IsErrOf (err_of {T = T} fault) again.Missing) (fault ≡ again.Failed) (fault ≡ again.Missing) told last old new since asked asked_after
    (err_is {T = T} fault again.Failed, err_as {T = T} fault again.Failed) (err_is {T = T} fault again.Missing, err_as {T = T} fault again.Missing) is

pub ok_reads : {T : Type 0} (x : T) (name : List ℕ) (told last : Option Files) (old new : ShelfCounts) (since : ℕ) (asked asked_after : List ℕ → ℕ)
    → ReadsFile name (IsErrOf (ok_of x) again.Failed) (IsErrOf (ok_of x) again.Missing) told last old new since asked asked_after
    → ReadsFile name ⊥ ⊥ told last old new since asked asked_after
ok_reads x name told last old new since asked asked_after is =
    reads_ok name (IsErrOf (ok_of x) again.Failed) (IsErrOf (ok_of x) again.Missing) told last old new since asked asked_after (ok_never x again.Failed) (ok_never x again.Missing) is
