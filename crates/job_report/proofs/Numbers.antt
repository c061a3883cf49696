-- Numbers of programs, and lists of numbers that rise.
use Rattle.std.proofs.Common.{◌≡◌, ℕ, ◌<◌, ◌==◌, Bool, true, false, ◌||◌, List, [], ◌∷◌, length, map, refl, ap, subst, arith}
use Rattle.std.specs.List.{list_any}
use Rattle.toml.specs.Data.{Data}
use Rattle.job_report.specs.declared.job.ProgramJob.{ProgramJob}
use Rattle.job_report.specs.declared.limits.TheConstants.{NUMBER_MOST}
use Rattle.job_report.specs.Field.{is_integer, is_between, is_new_number, rises}
use Rattle.job_report.specs.Job.{integer_of}
use Rattle.job_report.specs.Private.Value.{IsRight}

-- fewer than two numbers rise
pub rises-short : (numbers : List ℕ) → length numbers < 2 → true ≡ rises numbers
rises-short [] short = refl
rises-short (n ∷ []) short = refl
rises-short (n ∷ m ∷ ns) short = absurd (omega arith)

pub list_any-map : {A B : Type 0} (p : B → Bool) (f : A → B) (xs : List A) → list_any p (map f xs) ≡ list_any (λ x. p (f x)) xs
list_any-map p f [] = refl
list_any-map p f (x ∷ xs) = ap (λ b. p (f x) || b) (list_any-map p f xs)

-- a number that none of the programs has
pub number-new : (value : Data) (n : ℕ) (programs : List ProgramJob) → value ≡ integer_of n → IsRight is_integer (is_between 1 NUMBER_MOST) value
    → list_any (λ program. program.number == n) programs ≡ false → IsRight is_integer (is_new_number (map (λ program. program.number) programs)) value
number-new value n programs is right free =
    let P : Data → Type 0 = λ v. is_between 1 NUMBER_MOST v ≡ true in
    let within : is_between 1 NUMBER_MOST (integer_of n) ≡ true = subst P is right.within in
    rw is (record { of_type = refl; within = rw (within, list_any-map (λ m. m == n) (λ program. program.number) programs, free) refl })

-- a number that one of the programs has
pub number-taken : (value : Data) (n : ℕ) (programs : List ProgramJob) → value ≡ integer_of n → IsRight is_integer (is_between 1 NUMBER_MOST) value
    → list_any (λ program. program.number == n) programs ≡ true
    → (is_integer value ≡ true) × (is_new_number (map (λ program. program.number) programs) value ≡ false)
number-taken value n programs is right taken =
    let P : Data → Type 0 = λ v. is_between 1 NUMBER_MOST v ≡ true in
    let within : is_between 1 NUMBER_MOST (integer_of n) ≡ true = subst P is right.within in
    rw is (refl, rw (within, list_any-map (λ m. m == n) (λ program. program.number) programs, taken) refl)
