-- Lines that may stand one behind the other, and that a text has one beginning of such lines.
use Rattle.std.proofs.Common.{◌≡◌, ℕ, List, [], ◌∷◌, ◌++◌, length, Option, Some, None, refl, sym, ap, subst, ◌∙◌, append_assoc, arith}
use Rattle.std.proofs.lemmas.List.{append-nil, length-append}
use Rattle.std.proofs.lemmas.List.Concat.{flat_map-cons}
use Rattle.std.proofs.NetLemmas.Options.{same_parts}
use Rattle.version_table.specs.declared.line.Line.{Line}
use Rattle.version_table.specs.declared.line.Line.TheVariants.{Title, Slot, Nodes, Evaluations, Program, Unit as UnitLine, Audio, Packet}
use Rattle.version_table.specs.declared.line.Stage.{Stage}
use Rattle.version_table.specs.declared.line.Stage.TheVariants as stages
use Rattle.version_table.specs.Lines.{text_of_line}
use Rattle.version_table.specs.Order.{last_line, MayFollow, LineMayStand, IsOpening}
use Rattle.version_table.specs.Limits.{first_limit, KeepLimits}
use Rattle.version_table.specs.Text.{text_of_lines}
use Rattle.version_table.specs.Private.Reading.{line_at}
use Rattle.version_table.specs.Private.Draft.{stage_after, Allows}
use Rattle.version_table.proofs.Counts.{last_line_push}
use Rattle.version_table.proofs.LineTexts.{line_again}

-- ---- the stage behind some lines

abbrev pub stage_behind : Option Line → Stage
stage_behind None = stages.Title
stage_behind (Some line) = stage_after line

abbrev pub stage_of : List Line → Stage
stage_of lines = stage_behind (last_line lines)

pub stage_of_push : (lines : List Line) (line : Line) → stage_of (lines ++ line ∷ []) ≡ stage_after line
stage_of_push lines line = ap stage_behind (last_line_push lines line)

pub follows_allows : (last : Option Line) (line : Line) → MayFollow last line → Allows (stage_behind last) line
unfolding MayFollow
follows_allows None Title h = h
follows_allows (Some Title) Title h = h
follows_allows (Some (Slot ticks)) Title h = h
follows_allows (Some (Nodes n)) Title h = h
follows_allows (Some (Evaluations n)) Title h = h
follows_allows (Some (Program vbv)) Title h = h
follows_allows (Some (UnitLine due versions)) Title h = h
follows_allows (Some Audio) Title h = h
follows_allows (Some (Packet due gone bytes)) Title h = h
follows_allows last line h = h

pub allows_follows : (last : Option Line) (line : Line) → Allows (stage_behind last) line → MayFollow last line
unfolding MayFollow
allows_follows None Title h = h
allows_follows (Some Title) Title h = h
allows_follows (Some (Slot ticks)) Title h = h
allows_follows (Some (Nodes n)) Title h = h
allows_follows (Some (Evaluations n)) Title h = h
allows_follows (Some (Program vbv)) Title h = h
allows_follows (Some (UnitLine due versions)) Title h = h
allows_follows (Some Audio) Title h = h
allows_follows (Some (Packet due gone bytes)) Title h = h
allows_follows last line h = h

-- ---- what holds of each line and the lines before it

abbrev pub Walk : (List Line → Line → Type 0) → List Line → List Line → Type 0
Walk R before [] = Unit {0}
Walk R before (line ∷ lines) = R before line × Walk R (before ++ line ∷ []) lines

pub walk_from : (R : List Line → Line → Type 0) (before lines : List Line)
    → ((front : List Line) (line : Line) (behind : List Line) → before ++ lines ≡ front ++ line ∷ behind → R front line) → Walk R before lines
walk_from R before [] each = tt
walk_from R before (line ∷ lines) each = (
  each before line lines refl,
  walk_from R (before ++ line ∷ []) lines (λ front l behind e. each front l behind (sym (append_assoc before (line ∷ []) lines) ∙ e)),
)

walk_at : (R : List Line → Line → Type 0) (before lines front : List Line) (line : Line) (behind : List Line) → Walk R before lines → lines ≡ front ++ line ∷ behind → R (before ++ front) line
walk_at R before lines [] line behind walk e =
    let here : Walk R before (line ∷ behind) = subst (Walk R before) e walk in
    subst (λ (b : List Line). R b line) (sym (append-nil before)) here.0
walk_at R before lines (first ∷ front) line behind walk e =
    let here : Walk R before (first ∷ (front ++ line ∷ behind)) = subst (Walk R before) e walk in
    subst (λ (b : List Line). R b line) (append_assoc before (first ∷ []) front) (walk_at R (before ++ first ∷ []) (front ++ line ∷ behind) front line behind here.1 refl)

pub walk_to : (R : List Line → Line → Type 0) (lines : List Line) → Walk R [] lines → (front : List Line) (line : Line) (behind : List Line) → lines ≡ front ++ line ∷ behind → R front line
walk_to R lines walk front line behind e = walk_at R [] lines front line behind walk e

pub walk_append : (R : List Line → Line → Type 0) (before front behind : List Line) → Walk R before front → Walk R (before ++ front) behind → Walk R before (front ++ behind)
walk_append R before [] behind one two = subst (λ (b : List Line). Walk R b behind) (append-nil before) two
walk_append R before (line ∷ front) behind one two =
    (one.0, walk_append R (before ++ line ∷ []) front behind one.1 (subst (λ (b : List Line). Walk R b behind) (sym (append_assoc before (line ∷ []) front)) two))

pub walk_parts : (R : List Line → Line → Type 0) (before front behind : List Line) → Walk R before (front ++ behind) → Walk R before front × Walk R (before ++ front) behind
walk_parts R before [] behind walk = (tt, subst (λ (b : List Line). Walk R b behind) (sym (append-nil before)) walk)
walk_parts R before (line ∷ front) behind walk =
    let rest = walk_parts R (before ++ line ∷ []) front behind walk.1 in
    ((walk.0, rest.0), subst (λ (b : List Line). Walk R b behind) (append_assoc before (line ∷ []) front) rest.1)

-- ---- openings

abbrev pub Kept : List Line → Line → Type 0
Kept before line = first_limit before line ≡ None

pub opening_walk : (lines : List Line) → IsOpening lines → Walk LineMayStand [] lines
opening_walk lines opening = walk_from LineMayStand [] lines opening

pub walk_opening : (lines : List Line) → Walk LineMayStand [] lines → IsOpening lines
walk_opening lines walk = walk_to LineMayStand lines walk

pub opening_push : (lines : List Line) (line : Line) → IsOpening lines → LineMayStand lines line → IsOpening (lines ++ line ∷ [])
opening_push lines line opening stands = walk_opening (lines ++ line ∷ []) (walk_append LineMayStand [] lines (line ∷ []) (opening_walk lines opening) (stands, tt))

pub kept_push : (lines : List Line) (line : Line) → KeepLimits lines → first_limit lines line ≡ None → KeepLimits (lines ++ line ∷ [])
kept_push lines line kept here = walk_to Kept (lines ++ line ∷ []) (walk_append Kept [] lines (line ∷ []) (walk_from Kept [] lines kept) (here, tt))

pub no_lines_open : IsOpening []
no_lines_open front line behind e = absurd (omega (arith, ap length e, length-append front (line ∷ behind)))

pub no_lines_kept : KeepLimits []
no_lines_kept front line behind e = absurd (omega (arith, ap length e, length-append front (line ∷ behind)))

-- ---- one beginning

-- no line that may stand there comes
abbrev pub Stuck : List Line → List ℕ → Type 0
Stuck before rest = (line : Line) (more : List ℕ) → LineMayStand before line → rest ≡ text_of_line line ++ more → ⊥

one_line : (before : List Line) (x y : Line) (u v : List ℕ) → LineMayStand before x → LineMayStand before y → text_of_line x ++ u ≡ text_of_line y ++ v → (x ≡ y) × (u ≡ v)
one_line before x y u v may_x may_y e =
    let stage = stage_of before in
    let again_x = line_again stage x u (follows_allows (last_line before) x may_x.0) may_x.1 in
    let again_y = line_again stage y v (follows_allows (last_line before) y may_y.0) may_y.1 in
    same_parts x y u v (sym again_x ∙ ap (line_at stage) e ∙ again_y)

text_of_lines-cons : (line : Line) (lines : List Line) (rest : List ℕ) → text_of_lines (line ∷ lines) ++ rest ≡ text_of_line line ++ (text_of_lines lines ++ rest)
text_of_lines-cons line lines rest = ap (λ (t : List ℕ). t ++ rest) (flat_map-cons text_of_line line lines) ∙ append_assoc (text_of_line line) (text_of_lines lines) rest

pub one_beginning : (before xs ys : List Line) (r s : List ℕ) → Walk LineMayStand before xs → Walk LineMayStand before ys → Stuck (before ++ xs) r → Stuck (before ++ ys) s
    → text_of_lines xs ++ r ≡ text_of_lines ys ++ s → (xs ≡ ys) × (r ≡ s)
one_beginning before [] [] r s walk_x walk_y stuck_x stuck_y e = (refl, e)
one_beginning before [] (y ∷ ys) r s walk_x walk_y stuck_x stuck_y e =
    let stuck = subst (λ (b : List Line). Stuck b r) (append-nil before) stuck_x in
    absurd (stuck y (text_of_lines ys ++ s) walk_y.0 (e ∙ text_of_lines-cons y ys s))
one_beginning before (x ∷ xs) [] r s walk_x walk_y stuck_x stuck_y e =
    let stuck = subst (λ (b : List Line). Stuck b s) (append-nil before) stuck_y in
    absurd (stuck x (text_of_lines xs ++ r) walk_x.0 (sym e ∙ text_of_lines-cons x xs r))
one_beginning before (x ∷ xs) (y ∷ ys) r s walk_x walk_y stuck_x stuck_y e =
    let regrouped : text_of_line x ++ (text_of_lines xs ++ r) ≡ text_of_line y ++ (text_of_lines ys ++ s) = sym (text_of_lines-cons x xs r) ∙ e ∙ text_of_lines-cons y ys s in
    let (same, rest) = one_line before x y (text_of_lines xs ++ r) (text_of_lines ys ++ s) walk_x.0 walk_y.0 regrouped in
    let before_y : before ++ y ∷ [] ≡ before ++ x ∷ [] = ap (λ (l : Line). before ++ l ∷ []) (sym same) in
    let stuck_xs = subst (λ (b : List Line). Stuck b r) (sym (append_assoc before (x ∷ []) xs)) stuck_x in
    let stuck_ys = subst (λ (b : List Line). Stuck (b ++ ys) s) before_y (subst (λ (b : List Line). Stuck b s) (sym (append_assoc before (y ∷ []) ys)) stuck_y) in
    let (lines, ends) = one_beginning (before ++ x ∷ []) xs ys r s walk_x.1 (subst (λ (b : List Line). Walk LineMayStand b ys) before_y walk_y.1) stuck_xs stuck_ys rest in
    (ap (λ (l : Line). l ∷ xs) same ∙ ap (λ (ls : List Line). y ∷ ls) lines, ends)
