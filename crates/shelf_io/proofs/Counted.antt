-- Counts over several calls.
use Rattle.std.proofs.Common.{◌≡◌, ℕ, Result, Ok, Err, ◌<◌, ◌≤◌, arith}
use Rattle.std.proofs.lemmas.Bool.Decides.{nat_tests}
use Rattle.shelf_io.specs.declared.fault.Fault.{Fault}
use Rattle.shelf_io.specs.Counts.{Rose, one_more}

abbrev answered : {T : Type 0} → T → Result T Fault
answered x = Ok x

-- a call that answered a value answered no fault
pub never_failed : {T : Type 0} (x : T) {fault : Fault} → answered x ≡ Err fault → ⊥
never_failed x is = cc

-- a count that one more was added to rose
pub rose_by_one : (n : ℕ) → Rose n (one_more n)
rose_by_one n = λ small. grind (arith, nat_tests)

-- a count that no call of two let rise stands where it stood
pub unfailed : (old middle new : ℕ) → old ≡ middle → middle ≤ new → (middle < new → ⊥) → old ≡ new
unfailed old middle new same grows never = omega (arith, never)

-- a count that rose over two calls, and not in the first, rose in the second
pub rises_later : (old middle new : ℕ) → (old < middle → ⊥) → old < new → middle < new
rises_later old middle new never rise = omega (arith, never)

-- a count that rose in a later call rose over both
pub rose_later : (old middle new : ℕ) → old ≤ middle → middle ≤ new → Rose middle new → Rose old new
rose_later old middle new before after rose = λ below. grind (arith, rose)

-- no count rose from none to none
pub none-rose : Rose 0 0 → ⊥
none-rose r = let lt : 0 < 0 = r (omega arith) in omega (arith, lt)
