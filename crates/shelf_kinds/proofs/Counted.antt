-- An object that counts each fault once meets what a shelf and a sink promise of their counts.
use Rattle.std.proofs.Common.{◌≡◌, ◌≢◌, ℕ, List, Result, Ok, Err, IfOk, OnErr, IsErrOf, ◌<◌, ◌≤◌, refl, arith}
use Rattle.std.proofs.lemmas.Bool.Decides.{nat_tests}
use Rattle.shelf_io.specs.declared.fault.Fault.{Fault}
use Rattle.shelf_io.specs.declared.fault.Fault.TheVariants.{Failed, Missing, OutOfMemory}
use Rattle.shelf_io.specs.Asked.{AsksUpTo}
use Rattle.shelf_io.specs.Causes.{SinkCauses, ReadCauses, WriteCauses}
use Rattle.shelf_kinds.specs.Counted.{counts_after_read, counts_after_write, faults_after_put}
use Rattle.shelf_io.specs.Counts.{Rose, ShelfCounts, one_more}
use Rattle.shelf_io.proofs.Counted.{rose_by_one}

-- what holds anyway holds of an answer
pub if_ok : {T : Type 0} (r : Result T Fault) (P : T → Type 0) → ((n : T) → P n) → IfOk r P
if_ok (Ok n) P each = each n
if_ok (Err e) P each = tt

pub on_err : {T : Type 0} (r : Result T Fault) (P : Type 0) → P → OnErr r P
on_err (Ok n) P holds = tt
on_err (Err e) P holds = holds

-- a shelf that keeps no count of the places that were asked for
pub asks_uncounted : (name : List ℕ) (place : ℕ) → AsksUpTo name place (λ _. 0) (λ _. 0)
asks_uncounted name place = record { here = omega arith; others = λ other differs. omega arith }

grows_by_one : (n : ℕ) → n ≤ one_more n
grows_by_one n = grind (arith, nat_tests)

-- what a count that stands still isn't
pub no_rise : (n : ℕ) → n < n → ⊥
no_rise n rise = omega arith

pub read_causes : {T : Type 0} (r : Result T Fault) (old new : ShelfCounts) → new ≡ counts_after_read old r → ReadCauses (IsErrOf r Failed) (IsErrOf r Missing) old new
read_causes (Ok n) old new is = rw is record {
  failed_rose = λ e. cc;
  missing_rose = λ e. cc;
  only_failed = λ rise. absurd (no_rise old.faults rise);
  only_missing = λ rise. absurd (no_rise old.absences rise);
  faults_grow = omega arith;
  same_write_faults = refl;
  absences_grow = omega arith;
}
read_causes (Err Failed) old new is = rw is record {
  failed_rose = λ e. rose_by_one old.faults;
  missing_rose = λ e. cc;
  only_failed = λ rise. refl;
  only_missing = λ rise. absurd (no_rise old.absences rise);
  faults_grow = grows_by_one
      old.faults;
  same_write_faults = refl;
  absences_grow = omega arith;
}
read_causes (Err Missing) old new is = rw is record {
  failed_rose = λ e. cc;
  missing_rose = λ e. rose_by_one old.absences;
  only_failed = λ rise. absurd (no_rise old.faults rise);
  only_missing = λ rise. refl;
  faults_grow = omega arith;
  same_write_faults = refl;
  absences_grow = grows_by_one old.absences;
}
read_causes (Err OutOfMemory) old new is = rw is record {
  failed_rose = λ e. cc;
  missing_rose = λ e. cc;
  only_failed = λ rise. absurd (no_rise old.faults rise);
  only_missing = λ rise. absurd (no_rise old.absences rise);
  faults_grow = omega arith;
  same_write_faults = refl;
  absences_grow = omega arith;
}

pub write_causes : {T : Type 0} (r : Result T Fault) (old new : ShelfCounts) → r ≢ Err Missing → new ≡ counts_after_write old r → WriteCauses (IsErrOf r Failed) (IsErrOf r Missing) old new
write_causes (Ok n) old new never is = rw is record {
  failed_rose = λ e. cc;
  only_failed = λ rise. absurd (no_rise old.write_faults rise);
  never_missing = never;
  same_faults = refl;
  write_faults_grow = omega arith;
  same_absences = refl;
}
write_causes (Err Failed) old new never is = rw is record {
  failed_rose = λ e. rose_by_one old.write_faults;
  only_failed = λ rise. refl;
  never_missing = never;
  same_faults = refl;
  write_faults_grow = grows_by_one old.write_faults;
  same_absences = refl;
}
write_causes (Err Missing) old new never is = absurd (never refl)
write_causes (Err OutOfMemory) old new never is = rw is record {
  failed_rose = λ e. cc;
  only_failed = λ rise. absurd (no_rise old.write_faults rise);
  never_missing = never;
  same_faults = refl;
  write_faults_grow = omega arith;
  same_absences = refl;
}

pub put_causes : {K T : Type 0} (faults : K → ℕ) (r : Result T Fault) (old new : K) → r ≢ Err Missing → faults new ≡ faults_after_put (faults old) r
    → SinkCauses faults (IsErrOf r Failed) (IsErrOf r Missing) old new
put_causes faults (Ok n) old new never is = record { failed_rose = λ e. cc; never_missing = never; faults_grow = omega arith }
put_causes faults (Err Failed) old new never is =
    let rose : Rose (faults old) (faults new) = rw is (rose_by_one (faults old)) in
    record { failed_rose = λ e. rose; never_missing = never; faults_grow = rw is (grows_by_one (faults old)) }
put_causes faults (Err Missing) old new never is = absurd (never refl)
put_causes faults (Err OutOfMemory) old new never is = record { failed_rose = λ e. cc; never_missing = never; faults_grow = omega arith }

pub put_only_failed : {T : Type 0} (r : Result T Fault) (old new : ℕ) → r ≢ Err Missing → new ≡ faults_after_put old r → old < new → IsErrOf r Failed
put_only_failed (Ok n) old new never is rise = absurd (no_rise old (rw is at rise))
put_only_failed (Err Failed) old new never is rise = refl
put_only_failed (Err Missing) old new never is rise = absurd (never refl)
put_only_failed (Err OutOfMemory) old new never is rise = absurd (no_rise old (rw is at rise))
