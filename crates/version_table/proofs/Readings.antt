-- Each text is read in exactly one way.
use Rattle.std.proofs.Common.{◌≡◌, ℕ, ◌≤◌, List, [], ◌++◌, length, Some, None, sym, ap, subst, ◌∙◌, arith, inl, inr}
use Rattle.std.proofs.lemmas.List.{append-nil, length-append}
use Rattle.version_table.specs.declared.fault.Limit.{Limit}
use Rattle.version_table.specs.declared.line.Line.{Line}
use Rattle.version_table.specs.declared.line.Line.TheVariants.{Title, Slot, Nodes, Evaluations, Program, Unit as UnitLine, Audio, Packet}
use Rattle.version_table.specs.declared.table.Table.{Table}
use Rattle.version_table.specs.Lines.{text_of_line, lines_of_table}
use Rattle.version_table.specs.Order.{last_line, LineMayStand, IsOpening, IsForm}
use Rattle.version_table.specs.Limits.{KeepLimits, BreakFirst}
use Rattle.version_table.specs.Text.{text_of_lines, table_spelling, IsTextTable, IsTableSyntaxRefusal, IsLimitRefusal, TextReading, Holds, RefusedAt, RefusedFor, IsTableRead}
use Rattle.version_table.specs.Private.Reading.{line_at}
use Rattle.version_table.proofs.LineTexts.{line_again, line_sound}
use Rattle.version_table.proofs.Openings.{stage_of, follows_allows, allows_follows, opening_walk, Stuck, one_beginning}
use Rattle.version_table.proofs.Breaks.{one_break, no_break}
use Rattle.version_table.proofs.TableLines.{table_form, table_kept}
use Rattle.version_table.proofs.TableOf.{one_table}

-- ---- lines have bytes

pub line_some : (line : Line) → 1 ≤ length (text_of_line line)
unfolding text_of_line
line_some Title = omega arith
line_some (Slot ticks) = omega arith
line_some (Nodes n) = omega arith
line_some (Evaluations n) = omega arith
line_some (Program vbv) = omega arith
line_some (UnitLine due versions) = omega arith
line_some Audio = omega arith
line_some (Packet due gone bytes) = omega arith

-- no line comes at the end
pub stuck_at_end : (before : List Line) → Stuck before []
stuck_at_end before line more may e = omega (arith, ap length e, length-append (text_of_line line) more, line_some line)

-- where no line is read, none comes
pub stuck_from_none : (before : List Line) (rest : List ℕ) → line_at (stage_of before) rest ≡ None → Stuck before rest
stuck_from_none before rest none line more may e =
    let again = line_again (stage_of before) line more (follows_allows (last_line before) line may.0) may.1 in
    let at = ap (line_at (stage_of before)) e in
    absurd cc

-- a line that is read may stand there
pub may_from_read : (before : List Line) (rest behind : List ℕ) (line : Line) → line_at (stage_of before) rest ≡ Some (line, behind) → LineMayStand before line × (rest ≡ text_of_line line ++ behind)
may_from_read before rest behind line read =
    let is = line_sound (stage_of before) rest behind line read in
    ((allows_follows (last_line before) line is.allows, is.syntax), is.parts)

-- ---- the one beginning of a text

record Beginning (text : List ℕ) (before : List Line) (rest : List ℕ) : Type 0 where
  parts : text ≡ text_of_lines before ++ rest
  opening : IsOpening before
  stuck : Stuck before rest

same_beginning : (text : List ℕ) (xs ys : List Line) (r s : List ℕ) → Beginning text xs r → Beginning text ys s → (xs ≡ ys) × (r ≡ s)
same_beginning text xs ys r s a b = one_beginning [] xs ys r s (opening_walk xs a.opening) (opening_walk ys b.opening) a.stuck b.stuck (sym a.parts ∙ b.parts)

table_beginning : (text : List ℕ) (table : Table) → IsTextTable table → text ≡ table_spelling table → Beginning text (lines_of_table table) []
table_beginning text table valid e = record { parts = e ∙ sym (append-nil (table_spelling table)); opening = (table_form table valid).0; stuck = stuck_at_end (lines_of_table table) }

syntax_beginning : (text : List ℕ) (n : ℕ) (refusal : IsTableSyntaxRefusal text n) → Beginning text refusal.before refusal.rest
syntax_beginning text n refusal = record { parts = refusal.parts; opening = refusal.opening; stuck = λ line more may e. refusal.no_line line more may e }

limit_beginning : (text : List ℕ) (limit : Limit) (refusal : IsLimitRefusal text limit) → Beginning text refusal.lines []
limit_beginning text limit refusal = record { parts = refusal.spelled ∙ sym (append-nil (text_of_lines refusal.lines)); opening = refusal.form.0; stuck = stuck_at_end refusal.lines }

-- ---- one reading

table_table : (text : List ℕ) (a b : Table) → IsTextTable a → IsTextTable b → text ≡ table_spelling a → text ≡ table_spelling b → a ≡ b
table_table text a b valid_a valid_b e f = one_table a b (same_beginning text (lines_of_table a) (lines_of_table b) [] [] (table_beginning text a valid_a e) (table_beginning text b valid_b f)).0

-- a text whose lines have the form of a table is not refused in a line
form_syntax : (text : List ℕ) (lines : List Line) (n : ℕ) → IsForm lines → Beginning text lines [] → IsTableSyntaxRefusal text n → ⊥
form_syntax text lines n form begins refusal =
    let (same, ends) = same_beginning text lines refusal.before [] refusal.rest begins (syntax_beginning text n refusal) in
    refusal.owed (subst IsForm same form) (sym ends)

table_syntax : (text : List ℕ) (table : Table) (n : ℕ) → IsTextTable table → text ≡ table_spelling table → IsTableSyntaxRefusal text n → ⊥
table_syntax text table n valid e refusal = form_syntax text (lines_of_table table) n (table_form table valid) (table_beginning text table valid e) refusal

limit_syntax : (text : List ℕ) (limit : Limit) (n : ℕ) → IsLimitRefusal text limit → IsTableSyntaxRefusal text n → ⊥
limit_syntax text limit n refusal other = form_syntax text refusal.lines n refusal.form (limit_beginning text limit refusal) other

table_limit : (text : List ℕ) (table : Table) (limit : Limit) → IsTextTable table → text ≡ table_spelling table → IsLimitRefusal text limit → ⊥
table_limit text table limit valid e refusal =
    let same = (same_beginning text (lines_of_table table) refusal.lines [] [] (table_beginning text table valid e) (limit_beginning text limit refusal)).0 in
    no_break refusal.lines limit (subst KeepLimits same (table_kept table valid)) refusal.first

syntax_syntax : (text : List ℕ) (m n : ℕ) → IsTableSyntaxRefusal text m → IsTableSyntaxRefusal text n → m ≡ n
syntax_syntax text m n a b =
    let same = (same_beginning text a.before b.before a.rest b.rest (syntax_beginning text m a) (syntax_beginning text n b)).0 in
    omega (arith, a.number, b.number, ap length same)

limit_limit : (text : List ℕ) (k l : Limit) → IsLimitRefusal text k → IsLimitRefusal text l → k ≡ l
limit_limit text k l a b =
    let same = (same_beginning text a.lines b.lines [] [] (limit_beginning text k a) (limit_beginning text l b)).0 in
    one_break b.lines k l (subst (λ (ls : List Line). BreakFirst ls k) same a.first) b.first

pub one_reading : (text : List ℕ) (a b : TextReading) → IsTableRead text a → IsTableRead text b → a ≡ b
one_reading text (Holds t) (Holds u) f g = ap (λ (table : Table). Holds table) (table_table text t u f.1 g.1 f.2 g.2)
one_reading text (Holds t) (RefusedAt n) f g = absurd (table_syntax text t n f.1 f.2 g.1)
one_reading text (Holds t) (RefusedFor l) f (inl long) = absurd (omega (arith, f.0, long.0))
one_reading text (Holds t) (RefusedFor l) f (inr other) = absurd (table_limit text t l f.1 f.2 other.1)
one_reading text (RefusedAt m) (Holds u) f g = absurd (table_syntax text u m g.1 g.2 f.1)
one_reading text (RefusedAt m) (RefusedAt n) f g = ap (λ (k : ℕ). RefusedAt k) (syntax_syntax text m n f.1 g.1)
one_reading text (RefusedAt m) (RefusedFor l) f (inl long) = absurd (omega (arith, f.0, long.0))
one_reading text (RefusedAt m) (RefusedFor l) f (inr other) = absurd (limit_syntax text l m other.1 f.1)
one_reading text (RefusedFor k) (Holds u) (inl long) g = absurd (omega (arith, g.0, long.0))
one_reading text (RefusedFor k) (Holds u) (inr other) g = absurd (table_limit text u k g.1 g.2 other.1)
one_reading text (RefusedFor k) (RefusedAt n) (inl long) g = absurd (omega (arith, g.0, long.0))
one_reading text (RefusedFor k) (RefusedAt n) (inr other) g = absurd (limit_syntax text k n other.1 g.1)
one_reading text (RefusedFor k) (RefusedFor l) (inl f) (inl g) = ap (λ (limit : Limit). RefusedFor limit) (f.1 ∙ sym g.1)
one_reading text (RefusedFor k) (RefusedFor l) (inl f) (inr g) = absurd (omega (arith, f.0, g.0))
one_reading text (RefusedFor k) (RefusedFor l) (inr f) (inl g) = absurd (omega (arith, f.0, g.0))
one_reading text (RefusedFor k) (RefusedFor l) (inr f) (inr g) = ap (λ (limit : Limit). RefusedFor limit) (limit_limit text k l f.1 g.1)
