-- Rules of numbers as limits.
use Rattle.std.specs.Prelude.{◌≡◌, ◌<◌, ◌^◌, ◌==◌, ◌||◌, not, ℕ, nat_lt, max, min, Option, Some, None, List, [], ◌∷◌, Bool, true, false}
use Rattle.bit_lists.specs.Fields.{flag}
use Rattle.syntax_types.specs.declared.picture.TheConstants.{FRAME_PICTURE}
use Rattle.syntax_types.specs.declared.picture.SeqState.{SeqState}
use Rattle.picture_grammar.specs.Element.{Rule}
use Rattle.picture_grammar.specs.Headers.{is_from_to, repeats, is_f_code}
use Rattle.video_headers.specs.declared.limit.Limit.{Limit}
use Rattle.video_headers.specs.declared.why.Why.{Why}
use Rattle.video_headers.specs.declared.why.Why.TheVariants.{BadHeader}
use Rattle.video_headers.specs.Private.Why.{refusal_of}

-- a limit by its parts
abbrev pub limit : ℕ → ℕ → Why → Limit
limit least most otherwise = record { least = least; most = most; otherwise = otherwise }

-- this limit where it leaves none, else what is found later
abbrev pub broken_or : Bool → Why → Option Why → Option Why
broken_or true why later = Some why
broken_or false why later = later

-- the first limit that leaves none of the numbers from a least to a greatest one
abbrev pub first_broken : ℕ → ℕ → List Limit → Option Why
first_broken least most [] = None
first_broken least most (l ∷ ls) =
    broken_or (nat_lt (min most l.most) (max least l.least)) l.otherwise (first_broken (max least l.least) (min most l.most) ls)

-- these limits are those rules for numbers of n bits
abbrev pub AreRules : ℕ → List Limit → List (Rule ℕ) → Type 0
AreRules n [] [] = Unit {0}
AreRules n [] (r ∷ rs) = ⊥
AreRules n (l ∷ ls) [] = ⊥
AreRules n (l ∷ ls) (r ∷ rs) = (r.refusal ≡ refusal_of l.otherwise) × ((number : ℕ) → number < 2 ^ n → r.test number ≡ is_from_to l.least l.most number) × AreRules n ls rs

-- this limit is that rule for a flag
abbrev pub IsFlagRule : Limit → Rule Bool → Type 0
IsFlagRule l r = (r.refusal ≡ refusal_of l.otherwise) × ((is_set : Bool) → r.test is_set ≡ is_from_to l.least l.most (flag is_set))

-- this limit is the rule that a field repeats what the state before says
abbrev pub IsRepeated : Option SeqState → (SeqState → ℕ) → Limit → Type 0
IsRepeated before field l = (l.otherwise ≡ BadHeader) × ((number : ℕ) → number < 2 ^ 32 → repeats before field number ≡ is_from_to l.least l.most number)

-- this limit is the rule of an f_code of 4 bits
abbrev pub IsFCodeLimit : Bool → Limit → Type 0
IsFCodeLimit is_needed l = (l.otherwise ≡ BadHeader) × ((number : ℕ) → number < 2 ^ 4 → (not is_needed || is_f_code number) ≡ is_from_to l.least l.most number)

-- this limit is the rule that a progressive sequence has frame pictures alone
abbrev pub IsStructureLimit : Bool → Limit → Type 0
IsStructureLimit progressive l = (l.otherwise ≡ BadHeader) × ((number : ℕ) → number < 2 ^ 2 → (not progressive || number == FRAME_PICTURE) ≡ is_from_to l.least l.most number)
