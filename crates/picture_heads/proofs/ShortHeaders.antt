-- Zero bits on end in sequence headers and their extension: at most 22.
use Rattle.std.proofs.Common.{◌≡◌, ◌≢◌, ◌&&◌, ◌+◌, ◌<◌, ◌≤◌, ℕ, nat_le, nat_eq, List, [], ◌∷◌, Option, None, Bool, true, false, sym, subst, arith, eq-eqb}
use Rattle.std.proofs.lemmas.Bool.{and_parts, leb-true, eqb-true, both_ways, not-true}
use Rattle.syntax_types.specs.declared.picture.SeqState.{SeqState}
use Rattle.stream_constants.specs.declared.main_level.TheConstants.{VBV_MOST}
use Rattle.picture_grammar.specs.declared.limits.TheConstants.{WIDTH_LEAST, WIDTH_MOST, HEIGHT_LEAST, HEIGHT_MOST, RATE_CODE_MOST, MAIN_AT_MAIN, CHROMA_420}
use Rattle.stream_constants.specs.declared.start_codes.TheConstants.{SEQUENCE_EXTENSION}
use Rattle.picture_grammar.specs.Refusal.Refusal.{BadHeader, NotMpeg2}
use Rattle.picture_grammar.specs.Grammar.{optional, repeated, ◌>>◌}
use Rattle.picture_grammar.specs.Element.{Rule, passes, uimsbf, flag_where, rule}
use Rattle.picture_grammar.specs.Headers.{is_from_to, is_not_zero, matrix_if_loaded, sequence_header, sequence_extension}
use Rattle.picture_laws.proofs.ZeroRuns.{AreShort, zeros_behind, IsShort, short-done, short-element, short-bind, short-weak, short-optional, short-repeated, short-uimsbf, behind_flag, short-flag}
use Rattle.picture_laws.proofs.ShortBlocks.{some-number}
use Rattle.picture_laws.proofs.ShortMacroblocks.{flag-most}

-- a number that its rules keep from being 0
short-some : (from n most : ℕ) (rules : List (Rule ℕ)) → from + n ≤ 23 → n ≤ most + 1 → ((v : ℕ) → passes rules v ≡ true → v ≢ 0) → IsShort from (λ _. most) (uimsbf n rules)
short-some from n most rules le less some = short-element from (λ _. most) _ _ rules (λ v code coded passing.
    let (short, behind) = some-number from n v coded.0 (some v passing) le in
    subst (λ (c : List ℕ). AreShort from c × (zeros_behind from c ≤ most)) (sym coded.1) (short, omega (arith, behind, less)))

short-any : (from n most : ℕ) (rules : List (Rule ℕ)) → from + n ≤ 22 → from + n ≤ most → IsShort from (λ _. most) (uimsbf n rules)
short-any from n most rules le less = short-weak from from (λ _. from + n) (λ _. most) (uimsbf n rules) (omega arith) (λ v. less) (short-uimsbf from n rules le)

from-some : (least most v : ℕ) (other : Bool) → 0 < least → (is_from_to least most v && other) ≡ true → v ≢ 0
from-some least most v other some is none =
    let first = (and_parts (is_from_to least most v) other is).0 in
    omega (arith, none, some, leb-true least v (and_parts (nat_le least v) (nat_le v most) first).0)

one-some : (n v : ℕ) → 0 < n → (nat_eq v n && true) ≡ true → v ≢ 0
one-some n v some is none = omega (arith, none, some, eqb-true v n (and_parts (nat_eq v n) true is).0)

weight-some : (v : ℕ) → (is_not_zero v && true) ≡ true → v ≢ 0
weight-some v is none = both_ways (nat_eq v 0) (not-true (nat_eq v 0) (and_parts (is_not_zero v) true is).0) (eq-eqb v 0 none)

-- ---- matrices

short-weights : (from most : ℕ) → from ≤ 7 → 7 ≤ most → IsShort from (λ _. most) (repeated 64 (uimsbf 8 (rule BadHeader is_not_zero ∷ [])))
short-weights from most le less =
    short-weak 7 from (λ _. 7) (λ _. most) _ le (λ v. less)
    (short-repeated 7 64 (uimsbf 8 (rule BadHeader is_not_zero ∷ [])) (short-some 7 8 7 _ (omega arith) (omega arith) weight-some))

short-loaded : (from : ℕ) (load : Bool) → 7 ≤ from → IsShort (behind_flag from load) (λ _. from + 1) (optional load (repeated 64 (uimsbf 8 (rule BadHeader is_not_zero ∷ []))))
short-loaded from true le = short-optional 0 (λ _. from + 1) true _ (λ e. short-weights 0 (from + 1) (omega arith) (omega arith)) (λ e. absurd (let e' : true ≡ false = e in cc))
short-loaded from false le = short-done (from + 1) (λ _. from + 1) None (omega arith)

short-matrix : (from : ℕ) → 7 ≤ from → from < 22 → IsShort from (λ _. from + 1) matrix_if_loaded
short-matrix from le lt = short-bind from (behind_flag from) (λ _. from + 1) _ _ (short-flag from [] lt) (λ load s. short-loaded from load le)

-- ---- headers

pub short-sequence_header : (before : Option SeqState) → IsShort 0 (λ _. 12) (sequence_header before)
short-sequence_header before =
    short-bind 0 (λ _. 11) (λ _. 12) _ _ (short-some 0 12 11 _ (omega arith) (omega arith) (λ v is. from-some WIDTH_LEAST WIDTH_MOST v _ (omega arith) is))
    (λ width s1. short-bind 11 (λ _. 11) (λ _. 12) _ _ (short-some 11 12 11 _ (omega arith) (omega arith) (λ v is. from-some HEIGHT_LEAST HEIGHT_MOST v _ (omega arith) is))
    (λ height s2. short-bind 11 (λ _. 15) (λ _. 12) _ _ (short-any 11 4 15 _ (omega arith) (omega arith))
    (λ aspect s3. short-bind 15 (λ _. 3) (λ _. 12) _ _ (short-some 15 4 3 _ (omega arith) (omega arith) (λ v is. from-some 1 RATE_CODE_MOST v _ (omega arith) is))
    (λ rate s4. short-bind 3 (λ _. 21) (λ _. 12) _ _ (short-any 3 18 21 _ (omega arith) (omega arith))
    (λ bit_rate s5. short-bind 21 (λ _. 0) (λ _. 12) _ _ (short-some 21 1 0 _ (omega arith) (omega arith) (λ v is. one-some 1 v (omega arith) is))
    (λ marker s6. short-bind 0 (λ _. 9) (λ _. 12) _ _ (short-some 0 10 9 _ (omega arith) (omega arith) (λ v is. from-some 1 VBV_MOST v _ (omega arith) is))
    (λ vbv s7. short-bind 9 (behind_flag 9) (λ _. 12) _ _ (short-flag 9 [] (omega arith))
    (λ constrained s8. short-weak 10 (behind_flag 9 constrained) (λ _. 12) (λ _. 12) _ (flag-most 9 10 constrained (omega arith)) (λ v. omega arith)
    (short-bind 10 (λ _. 11) (λ _. 12) _ _ (short-matrix 10 (omega arith) (omega arith))
    (λ intra s9. short-bind 11 (λ _. 12) (λ _. 12) _ _ (short-matrix 11 (omega arith) (omega arith))
    (λ non_intra s10. short-done 12 (λ _. 12) _ (omega arith))))))))))))

short-one : (from most : ℕ) (rules : List (Rule Bool)) → from < 22 → from + 1 ≤ most → IsShort from (λ _. most) (flag_where rules)
short-one from most rules lt le = short-weak from from (behind_flag from) (λ _. most) _ (omega arith) (λ v. flag-most from most v le) (short-flag from rules lt)

-- the identifier and what stands behind it
pub short-sequence_extension : (before : Option SeqState) → IsShort 0 (λ _. 16) (uimsbf 4 (rule NotMpeg2 (λ identifier. nat_eq identifier SEQUENCE_EXTENSION) ∷ []) >> sequence_extension before)
short-sequence_extension before =
    short-bind 0 (λ _. 3) (λ _. 16) _ _ (short-some 0 4 3 _ (omega arith) (omega arith) (λ v is. one-some 1 v (omega arith) is))
    (λ id s0. short-bind 3 (λ _. 7) (λ _. 16) _ _ (short-some 3 8 7 _ (omega arith) (omega arith) (λ v is. one-some MAIN_AT_MAIN v (omega arith) is))
    (λ profile s1. short-bind 7 (λ _. 8) (λ _. 16) _ _ (short-one 7 8 _ (omega arith) (omega arith))
    (λ progressive s2. short-bind 8 (λ _. 1) (λ _. 16) _ _ (short-some 8 2 1 _ (omega arith) (omega arith) (λ v is. one-some CHROMA_420 v (omega arith) is))
    (λ chroma s3. short-bind 1 (λ _. 3) (λ _. 16) _ _ (short-any 1 2 3 _ (omega arith) (omega arith))
    (λ width s4. short-bind 3 (λ _. 5) (λ _. 16) _ _ (short-any 3 2 5 _ (omega arith) (omega arith))
    (λ height s5. short-bind 5 (λ _. 17) (λ _. 16) _ _ (short-any 5 12 17 _ (omega arith) (omega arith))
    (λ bit_rate s6. short-bind 17 (λ _. 0) (λ _. 16) _ _ (short-some 17 1 0 _ (omega arith) (omega arith) (λ v is. one-some 1 v (omega arith) is))
    (λ marker s7. short-bind 0 (λ _. 8) (λ _. 16) _ _ (short-any 0 8 8 _ (omega arith) (omega arith))
    (λ vbv s8. short-bind 8 (λ _. 9) (λ _. 16) _ _ (short-one 8 9 _ (omega arith) (omega arith))
    (λ low_delay s9. short-bind 9 (λ _. 11) (λ _. 16) _ _ (short-any 9 2 11 _ (omega arith) (omega arith))
    (λ rate_n s10. short-bind 11 (λ _. 16) (λ _. 16) _ _ (short-any 11 5 16 _ (omega arith) (omega arith))
    (λ rate_d s11. short-done 16 (λ _. 16) progressive (omega arith)))))))))))))
