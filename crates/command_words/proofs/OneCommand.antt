-- Words say one command.
use Rattle.std.proofs.Common.{◌≡◌, ℕ, List, [], ◌∷◌, Option, Some, None, length, decimal, refl, sym, ap, ◌∙◌, arith}
use Rattle.std.proofs.lemmas.Fmt.{decimal_injective}
use Rattle.command_words.specs.Command.{Command, Plan, Gen, Run, Check, Probe, CheckPlan, Impossible, Fit, Audit, IsSaid}

-- the first letter of the verb
abbrev pub initial : List (List ℕ) → ℕ
initial ((letter ∷ letters) ∷ words) = letter
initial ([] ∷ words) = 0
initial [] = 0

-- words with one verb aren't those with another one
pub other_verb : {words a b : List (List ℕ)} (m n : ℕ) → words ≡ a → words ≡ b → initial a ≡ m → initial b ≡ n → (m ≡ n → ⊥) → ⊥
other_verb m n first second front other differ = differ (sym front ∙ ap initial (sym first ∙ second) ∙ other)

-- its second letter
abbrev pub second_letter : List (List ℕ) → ℕ
second_letter ((first ∷ second ∷ letters) ∷ words) = second
second_letter ((letter ∷ []) ∷ words) = 0
second_letter ([] ∷ words) = 0
second_letter [] = 0

-- nor where verbs differ there
other_second : {words a b : List (List ℕ)} (m n : ℕ) → words ≡ a → words ≡ b → second_letter a ≡ m → second_letter b ≡ n → (m ≡ n → ⊥) → ⊥
other_second m n first second front other differ = differ (sym front ∙ ap second_letter (sym first ∙ second) ∙ other)

-- how many letters it has
abbrev pub letters : List (List ℕ) → ℕ
letters (verb ∷ words) = length verb
letters [] = 0

-- nor where verbs differ in how many
pub other_length : {words a b : List (List ℕ)} (m n : ℕ) → words ≡ a → words ≡ b → letters a ≡ m → letters b ≡ n → (m ≡ n → ⊥) → ⊥
other_length m n first second front other differ = differ (sym front ∙ ap letters (sym first ∙ second) ∙ other)

-- words say one command
pub one_command : (words : List (List ℕ)) (a b : Option Command) → IsSaid words a → IsSaid words b → a ≡ b
one_command words (Some (Plan table certificate)) (Some (Plan other name)) a b = let x = a.words_are in let y = b.words_are in cc
one_command words (Some (Gen seed pictures out)) (Some (Gen other count name)) a b =
    let x = a.words_are in
    let y = b.words_are in
    let seed_words : decimal seed ≡ decimal other = cc in
    let picture_words : decimal pictures ≡ decimal count = cc in
    let seeds : seed ≡ other = decimal_injective seed other a.seed_below b.seed_below seed_words in
    let counts : pictures ≡ count =
    decimal_injective pictures count (omega (arith, a.few_pictures)) (omega (arith, b.few_pictures)) picture_words in
    cc
one_command words (Some (Plan table certificate)) (Some (Gen seed pictures out)) a b = absurd (other_verb 112 103 a.words_are b.words_are refl refl (λ same. omega (arith, same)))
one_command words (Some (Gen seed pictures out)) (Some (Plan table certificate)) a b = absurd (other_verb 103 112 a.words_are b.words_are refl refl (λ same. omega (arith, same)))
one_command words (Some (Run job out certificate)) (Some (Run other name cert)) a b = let x = a.words_are in let y = b.words_are in cc
one_command words (Some (Check job certificate)) (Some (Check other cert)) a b = let x = a.words_are in let y = b.words_are in cc
one_command words (Some (Plan table certificate)) (Some (Run job out cert)) a b = absurd (other_verb 112 114 a.words_are b.words_are refl refl (λ same. omega (arith, same)))
one_command words (Some (Plan table certificate)) (Some (Check job cert)) a b = absurd (other_verb 112 99 a.words_are b.words_are refl refl (λ same. omega (arith, same)))
one_command words (Some (Gen seed pictures out)) (Some (Run job stream cert)) a b = absurd (other_verb 103 114 a.words_are b.words_are refl refl (λ same. omega (arith, same)))
one_command words (Some (Gen seed pictures out)) (Some (Check job cert)) a b = absurd (other_verb 103 99 a.words_are b.words_are refl refl (λ same. omega (arith, same)))
one_command words (Some (Run job out certificate)) (Some (Plan table cert)) a b = absurd (other_verb 114 112 a.words_are b.words_are refl refl (λ same. omega (arith, same)))
one_command words (Some (Run job out certificate)) (Some (Gen seed pictures name)) a b = absurd (other_verb 114 103 a.words_are b.words_are refl refl (λ same. omega (arith, same)))
one_command words (Some (Run job out certificate)) (Some (Check other cert)) a b = absurd (other_verb 114 99 a.words_are b.words_are refl refl (λ same. omega (arith, same)))
one_command words (Some (Check job certificate)) (Some (Plan table cert)) a b = absurd (other_verb 99 112 a.words_are b.words_are refl refl (λ same. omega (arith, same)))
one_command words (Some (Check job certificate)) (Some (Gen seed pictures name)) a b = absurd (other_verb 99 103 a.words_are b.words_are refl refl (λ same. omega (arith, same)))
one_command words (Some (Check job certificate)) (Some (Run other out cert)) a b = absurd (other_verb 99 114 a.words_are b.words_are refl refl (λ same. omega (arith, same)))
one_command words (Some (Probe file number table)) (Some (Probe name count made)) a b =
    let x = a.words_are in
    let y = b.words_are in
    let number_words : decimal number ≡ decimal count = cc in
    let numbers : number ≡ count = decimal_injective number count (omega (arith, a.number_most)) (omega (arith, b.number_most)) number_words in
    cc
one_command words (Some (Gen seed pictures out)) (Some (Probe file number made)) a b = absurd (other_verb 103 112 a.words_are b.words_are refl refl (λ same. omega (arith, same)))
one_command words (Some (Probe file number made)) (Some (Gen seed pictures out)) a b = absurd (other_verb 112 103 a.words_are b.words_are refl refl (λ same. omega (arith, same)))
one_command words (Some (Run job out certificate)) (Some (Probe file number made)) a b = absurd (other_verb 114 112 a.words_are b.words_are refl refl (λ same. omega (arith, same)))
one_command words (Some (Probe file number made)) (Some (Run job out certificate)) a b = absurd (other_verb 112 114 a.words_are b.words_are refl refl (λ same. omega (arith, same)))
one_command words (Some (Check job certificate)) (Some (Probe file number made)) a b = absurd (other_verb 99 112 a.words_are b.words_are refl refl (λ same. omega (arith, same)))
one_command words (Some (Probe file number made)) (Some (Check job certificate)) a b = absurd (other_verb 112 99 a.words_are b.words_are refl refl (λ same. omega (arith, same)))
one_command words (Some (Plan table certificate)) (Some (Probe file number made)) a b = absurd (other_second 108 114 a.words_are b.words_are refl refl (λ same. omega (arith, same)))
one_command words (Some (Probe file number made)) (Some (Plan table certificate)) a b = absurd (other_second 114 108 a.words_are b.words_are refl refl (λ same. omega (arith, same)))
one_command words (Some (CheckPlan table certificate)) (Some (CheckPlan other name)) a b = let x = a.words_are in let y = b.words_are in cc
one_command words (Some (CheckPlan text cert)) (Some (Plan table certificate)) a b = absurd (other_length 10 4 a.words_are b.words_are refl refl (λ same. omega (arith, same)))
one_command words (Some (Plan table certificate)) (Some (CheckPlan text cert)) a b = absurd (other_length 4 10 a.words_are b.words_are refl refl (λ same. omega (arith, same)))
one_command words (Some (CheckPlan text cert)) (Some (Gen seed pictures out)) a b = absurd (other_length 10 3 a.words_are b.words_are refl refl (λ same. omega (arith, same)))
one_command words (Some (Gen seed pictures out)) (Some (CheckPlan text cert)) a b = absurd (other_length 3 10 a.words_are b.words_are refl refl (λ same. omega (arith, same)))
one_command words (Some (CheckPlan text cert)) (Some (Run job out certificate)) a b = absurd (other_length 10 3 a.words_are b.words_are refl refl (λ same. omega (arith, same)))
one_command words (Some (Run job out certificate)) (Some (CheckPlan text cert)) a b = absurd (other_length 3 10 a.words_are b.words_are refl refl (λ same. omega (arith, same)))
one_command words (Some (CheckPlan text cert)) (Some (Check job certificate)) a b = absurd (other_length 10 5 a.words_are b.words_are refl refl (λ same. omega (arith, same)))
one_command words (Some (Check job certificate)) (Some (CheckPlan text cert)) a b = absurd (other_length 5 10 a.words_are b.words_are refl refl (λ same. omega (arith, same)))
one_command words (Some (CheckPlan text cert)) (Some (Probe file number made)) a b = absurd (other_length 10 5 a.words_are b.words_are refl refl (λ same. omega (arith, same)))
one_command words (Some (Probe file number made)) (Some (CheckPlan text cert)) a b = absurd (other_length 5 10 a.words_are b.words_are refl refl (λ same. omega (arith, same)))
one_command words (Some (Impossible table)) (Some (Impossible other)) a b = let x = a.words_are in let y = b.words_are in cc
one_command words (Some (Impossible table)) (Some (Plan text certificate)) a b = absurd (other_length 10 4 a.words_are b.words_are refl refl (λ same. omega (arith, same)))
one_command words (Some (Plan text certificate)) (Some (Impossible table)) a b = absurd (other_length 4 10 a.words_are b.words_are refl refl (λ same. omega (arith, same)))
one_command words (Some (Impossible table)) (Some (Gen seed pictures out)) a b = absurd (other_length 10 3 a.words_are b.words_are refl refl (λ same. omega (arith, same)))
one_command words (Some (Gen seed pictures out)) (Some (Impossible table)) a b = absurd (other_length 3 10 a.words_are b.words_are refl refl (λ same. omega (arith, same)))
one_command words (Some (Impossible table)) (Some (Run job out certificate)) a b = absurd (other_length 10 3 a.words_are b.words_are refl refl (λ same. omega (arith, same)))
one_command words (Some (Run job out certificate)) (Some (Impossible table)) a b = absurd (other_length 3 10 a.words_are b.words_are refl refl (λ same. omega (arith, same)))
one_command words (Some (Impossible table)) (Some (Check job certificate)) a b = absurd (other_length 10 5 a.words_are b.words_are refl refl (λ same. omega (arith, same)))
one_command words (Some (Check job certificate)) (Some (Impossible table)) a b = absurd (other_length 5 10 a.words_are b.words_are refl refl (λ same. omega (arith, same)))
one_command words (Some (Impossible table)) (Some (Probe file number made)) a b = absurd (other_length 10 5 a.words_are b.words_are refl refl (λ same. omega (arith, same)))
one_command words (Some (Probe file number made)) (Some (Impossible table)) a b = absurd (other_length 5 10 a.words_are b.words_are refl refl (λ same. omega (arith, same)))
one_command words (Some (Impossible table)) (Some (CheckPlan text cert)) a b = absurd (other_verb 105 99 a.words_are b.words_are refl refl (λ same. omega (arith, same)))
one_command words (Some (CheckPlan text cert)) (Some (Impossible table)) a b = absurd (other_verb 99 105 a.words_are b.words_are refl refl (λ same. omega (arith, same)))
one_command words (Some (Fit job list)) (Some (Fit other name)) a b = let x = a.words_are in let y = b.words_are in cc
one_command words (Some (Fit job list)) (Some (Plan table certificate)) a b = absurd (other_verb 102 112 a.words_are b.words_are refl refl (λ same. omega (arith, same)))
one_command words (Some (Plan table certificate)) (Some (Fit job list)) a b = absurd (other_verb 112 102 a.words_are b.words_are refl refl (λ same. omega (arith, same)))
one_command words (Some (Fit job list)) (Some (Gen seed pictures out)) a b = absurd (other_verb 102 103 a.words_are b.words_are refl refl (λ same. omega (arith, same)))
one_command words (Some (Gen seed pictures out)) (Some (Fit job list)) a b = absurd (other_verb 103 102 a.words_are b.words_are refl refl (λ same. omega (arith, same)))
one_command words (Some (Fit job list)) (Some (Run work out certificate)) a b = absurd (other_verb 102 114 a.words_are b.words_are refl refl (λ same. omega (arith, same)))
one_command words (Some (Run work out certificate)) (Some (Fit job list)) a b = absurd (other_verb 114 102 a.words_are b.words_are refl refl (λ same. omega (arith, same)))
one_command words (Some (Fit job list)) (Some (Check work certificate)) a b = absurd (other_verb 102 99 a.words_are b.words_are refl refl (λ same. omega (arith, same)))
one_command words (Some (Check work certificate)) (Some (Fit job list)) a b = absurd (other_verb 99 102 a.words_are b.words_are refl refl (λ same. omega (arith, same)))
one_command words (Some (Fit job list)) (Some (Probe file number made)) a b = absurd (other_verb 102 112 a.words_are b.words_are refl refl (λ same. omega (arith, same)))
one_command words (Some (Probe file number made)) (Some (Fit job list)) a b = absurd (other_verb 112 102 a.words_are b.words_are refl refl (λ same. omega (arith, same)))
one_command words (Some (Fit job list)) (Some (CheckPlan text cert)) a b = absurd (other_verb 102 99 a.words_are b.words_are refl refl (λ same. omega (arith, same)))
one_command words (Some (CheckPlan text cert)) (Some (Fit job list)) a b = absurd (other_verb 99 102 a.words_are b.words_are refl refl (λ same. omega (arith, same)))
one_command words (Some (Fit job list)) (Some (Impossible table)) a b = absurd (other_verb 102 105 a.words_are b.words_are refl refl (λ same. omega (arith, same)))
one_command words (Some (Impossible table)) (Some (Fit job list)) a b = absurd (other_verb 105 102 a.words_are b.words_are refl refl (λ same. omega (arith, same)))
one_command words (Some (Audit file number slot)) (Some (Audit name count ticks)) a b =
    let x = a.words_are in
    let y = b.words_are in
    let number_words : decimal number ≡ decimal count = cc in
    let slot_words : decimal slot ≡ decimal ticks = cc in
    let numbers : number ≡ count = decimal_injective number count (omega (arith, a.number_most)) (omega (arith, b.number_most)) number_words in
    let slots : slot ≡ ticks = decimal_injective slot ticks (omega (arith, a.slot_most)) (omega (arith, b.slot_most)) slot_words in
    cc
one_command words (Some (Audit file number slot)) (Some (Plan table certificate)) a b = absurd (other_verb 97 112 a.words_are b.words_are refl refl (λ same. omega (arith, same)))
one_command words (Some (Plan table certificate)) (Some (Audit file number slot)) a b = absurd (other_verb 112 97 a.words_are b.words_are refl refl (λ same. omega (arith, same)))
one_command words (Some (Audit file number slot)) (Some (Gen seed pictures out)) a b = absurd (other_verb 97 103 a.words_are b.words_are refl refl (λ same. omega (arith, same)))
one_command words (Some (Gen seed pictures out)) (Some (Audit file number slot)) a b = absurd (other_verb 103 97 a.words_are b.words_are refl refl (λ same. omega (arith, same)))
one_command words (Some (Audit file number slot)) (Some (Run job out certificate)) a b = absurd (other_verb 97 114 a.words_are b.words_are refl refl (λ same. omega (arith, same)))
one_command words (Some (Run job out certificate)) (Some (Audit file number slot)) a b = absurd (other_verb 114 97 a.words_are b.words_are refl refl (λ same. omega (arith, same)))
one_command words (Some (Audit file number slot)) (Some (Check job certificate)) a b = absurd (other_verb 97 99 a.words_are b.words_are refl refl (λ same. omega (arith, same)))
one_command words (Some (Check job certificate)) (Some (Audit file number slot)) a b = absurd (other_verb 99 97 a.words_are b.words_are refl refl (λ same. omega (arith, same)))
one_command words (Some (Audit file number slot)) (Some (Probe name count table)) a b = absurd (other_verb 97 112 a.words_are b.words_are refl refl (λ same. omega (arith, same)))
one_command words (Some (Probe name count table)) (Some (Audit file number slot)) a b = absurd (other_verb 112 97 a.words_are b.words_are refl refl (λ same. omega (arith, same)))
one_command words (Some (Audit file number slot)) (Some (CheckPlan table certificate)) a b = absurd (other_verb 97 99 a.words_are b.words_are refl refl (λ same. omega (arith, same)))
one_command words (Some (CheckPlan table certificate)) (Some (Audit file number slot)) a b = absurd (other_verb 99 97 a.words_are b.words_are refl refl (λ same. omega (arith, same)))
one_command words (Some (Audit file number slot)) (Some (Impossible table)) a b = absurd (other_verb 97 105 a.words_are b.words_are refl refl (λ same. omega (arith, same)))
one_command words (Some (Impossible table)) (Some (Audit file number slot)) a b = absurd (other_verb 105 97 a.words_are b.words_are refl refl (λ same. omega (arith, same)))
one_command words (Some (Audit file number slot)) (Some (Fit job list)) a b = absurd (other_verb 97 102 a.words_are b.words_are refl refl (λ same. omega (arith, same)))
one_command words (Some (Fit job list)) (Some (Audit file number slot)) a b = absurd (other_verb 102 97 a.words_are b.words_are refl refl (λ same. omega (arith, same)))
one_command words (Some a) None said none = absurd (none (a, said))
one_command words None (Some b) none said = absurd (none (b, said))
one_command words None None a b = refl
