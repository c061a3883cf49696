-- Counts of lines, the last of some lines, and the audio streams of the last program.
use Rattle.std.proofs.Common.{◌≡◌, ℕ, suc, ◌+◌, ◌-◌, Bool, true, false, not, cond, List, [], ◌∷◌, ◌++◌, length, map, reverse, count_by, Some, None, refl, sym, ap, ◌∙◌, append_assoc, arith}
use Rattle.std.specs.Prelude.{slice_get}
use Rattle.std.specs.List.{flat_map, take_while}
use Rattle.std.proofs.lemmas.List.{append-nil, reverse-append}
use Rattle.std.proofs.lemmas.List.Sums.{sum_by-cons, sum_by-append, sum_by_push, take_while-cons}
use Rattle.version_table.specs.declared.line.Line.{Line}
use Rattle.version_table.specs.declared.line.Line.TheVariants.{Program, Audio}
use Rattle.version_table.specs.declared.table.AudioPacket.{AudioPacket}
use Rattle.version_table.specs.declared.table.ProgramRow.{ProgramRow}
use Rattle.version_table.specs.Lines.{line_of_unit, line_of_packet, lines_of_audio, lines_of_program}
use Rattle.version_table.specs.Order.{last_line}
use Rattle.version_table.specs.Limits.{is_program, begins_audio, audios_here}

-- ---- the last line

-- what stands before a line doesn't matter
pub last_line-append : (front : List Line) (line : Line) (behind : List Line) → last_line (front ++ line ∷ behind) ≡ last_line (line ∷ behind)
last_line-append [] line behind = refl
last_line-append (first ∷ []) line behind = refl
last_line-append (first ∷ second ∷ front) line behind = last_line-append (second ∷ front) line behind

pub last_line_push : (front : List Line) (line : Line) → last_line (front ++ line ∷ []) ≡ Some line
last_line_push front line = last_line-append front line []

last_parts-more : {X : Type 0} (y : X) (xs : List X) (x : X) → ((front : List X) × (xs ≡ front ++ x ∷ [])) → (front : List X) × (y ∷ xs ≡ front ++ x ∷ [])
last_parts-more {X} y xs x found = (y ∷ found.0, ap (λ (rest : List X). y ∷ rest) found.1)

-- a list with a last item ends in it
pub last_parts : {X : Type 0} (xs : List X) (x : X) → slice_get xs (length xs - 1) ≡ Some x → (front : List X) × (xs ≡ front ++ x ∷ [])
last_parts [] x e = absurd cc
last_parts (y ∷ []) x e = ([], cc)
last_parts (y ∷ z ∷ xs) x e =
    let here : length (y ∷ z ∷ xs) - 1 ≡ suc (length xs) = omega arith in
    let there : length (z ∷ xs) - 1 ≡ length xs = omega arith in
    last_parts-more y (z ∷ xs) x (last_parts (z ∷ xs) x (rw there (rw here at e)))

-- one without is empty
pub last_none : {X : Type 0} (xs : List X) → slice_get xs (length xs - 1) ≡ None → xs ≡ []
last_none [] e = refl
last_none (y ∷ []) e = absurd cc
last_none (y ∷ z ∷ xs) e =
    let here : length (y ∷ z ∷ xs) - 1 ≡ suc (length xs) = omega arith in
    let there : length (z ∷ xs) - 1 ≡ length xs = omega arith in
    let nil : z ∷ xs ≡ [] = last_none (z ∷ xs) (rw there (rw here at e)) in
    absurd cc

-- ---- counts

abbrev one : Bool → ℕ
one b = cond b 1 0

-- lines of which none is counted
pub count_none : {X : Type 0} (p : Line → Bool) (f : X → Line) → ((x : X) → p (f x) ≡ false) → (xs : List X) → count_by p (map f xs) ≡ 0
count_none p f never [] = refl
count_none p f never (x ∷ xs) =
    let here = never x in
    omega (arith, sum_by-cons (λ (l : Line). cond (p l) 1 0) (f x) (map f xs), count_none p f never xs, ap one here)

-- lines of which each is counted
pub count_each : {X : Type 0} (p : Line → Bool) (f : X → Line) → ((x : X) → p (f x) ≡ true) → (xs : List X) → count_by p (map f xs) ≡ length xs
count_each p f always [] = refl
count_each p f always (x ∷ xs) =
    let here = always x in
    omega (arith, sum_by-cons (λ (l : Line). cond (p l) 1 0) (f x) (map f xs), count_each p f always xs, ap one here)

pub count-append : (p : Line → Bool) (front behind : List Line) → count_by p (front ++ behind) ≡ count_by p front + count_by p behind
count-append p front behind = sum_by-append (λ (l : Line). cond (p l) 1 0) front behind

pub count-cons : (p : Line → Bool) (line : Line) (lines : List Line) → count_by p (line ∷ lines) ≡ cond (p line) 1 0 + count_by p lines
count-cons p line lines = sum_by-cons (λ (l : Line). cond (p l) 1 0) line lines

pub count_push : (p : Line → Bool) (lines : List Line) (line : Line) → count_by p (lines ++ line ∷ []) ≡ count_by p lines + cond (p line) 1 0
count_push p lines line = sum_by_push (λ (l : Line). cond (p l) 1 0) lines line

-- the lines of audio streams
pub programs_in_audios : (audios : List (List AudioPacket)) → count_by is_program (flat_map lines_of_audio audios) ≡ 0
programs_in_audios [] = refl
programs_in_audios (packets ∷ audios) =
    omega (
      arith,
      count-append is_program (lines_of_audio packets) (flat_map lines_of_audio audios),
      count-cons is_program Audio (map line_of_packet packets),
      count_none is_program line_of_packet (λ _. refl) packets,
      programs_in_audios audios,
    )

pub audios_in_audios : (audios : List (List AudioPacket)) → count_by begins_audio (flat_map lines_of_audio audios) ≡ length audios
audios_in_audios [] = refl
audios_in_audios (packets ∷ audios) =
    omega (
      arith,
      count-append begins_audio (lines_of_audio packets) (flat_map lines_of_audio audios),
      count-cons begins_audio Audio (map line_of_packet packets),
      count_none begins_audio line_of_packet (λ _. refl) packets,
      audios_in_audios audios,
    )

-- a program has one line of its own kind
pub programs_in_program : (program : ProgramRow) → count_by is_program (lines_of_program program) ≡ 1
programs_in_program program =
    omega (
      arith,
      count-append is_program (Program program.vbv ∷ map line_of_unit program.units) (flat_map lines_of_audio program.audios),
      count-cons is_program (Program program.vbv) (map line_of_unit program.units),
      count_none is_program line_of_unit (λ _. refl) program.units,
      programs_in_audios program.audios,
    )

pub programs_in_programs : (programs : List ProgramRow) → count_by is_program (flat_map lines_of_program programs) ≡ length programs
programs_in_programs [] = refl
programs_in_programs (program ∷ programs) =
    omega (arith, count-append is_program (lines_of_program program) (flat_map lines_of_program programs), programs_in_program program, programs_in_programs programs)

-- ---- the audio streams of the last program

pub audios_here_push : (lines : List Line) (line : Line) → audios_here (lines ++ line ∷ []) ≡ cond (is_program line) 0 (cond (begins_audio line) 1 0 + audios_here lines)
audios_here_push lines line =
    ap (λ (ls : List Line). count_by begins_audio (take_while (λ l. not (is_program l)) ls)) (reverse-append lines (line ∷ []))
    ∙ ap (count_by begins_audio) (take_while-cons (λ l. not (is_program l)) line (reverse lines))
    ∙ by (is_program line)
  where
    by : (b : Bool) → count_by begins_audio (cond (not b) (line ∷ take_while (λ l. not (is_program l)) (reverse lines)) []) ≡ cond b 0 (cond (begins_audio line) 1 0 + audios_here lines)
    by true = refl
    by false = count-cons begins_audio line (take_while (λ l. not (is_program l)) (reverse lines))

-- lines without a program's line only add their audio lines
pub audios_here-append : (lines behind : List Line) → count_by is_program behind ≡ 0 → audios_here (lines ++ behind) ≡ audios_here lines + count_by begins_audio behind
audios_here-append lines [] none = ap audios_here (append-nil lines) ∙ omega arith
audios_here-append lines (line ∷ behind) none =
    ap audios_here (sym (append_assoc lines (line ∷ []) behind))
    ∙ audios_here-append (lines ++ line ∷ []) behind (omega (arith, count-cons is_program line behind))
    ∙ by (is_program line) refl
  where
    by : (b : Bool) → is_program line ≡ b → audios_here (lines ++ line ∷ []) + count_by begins_audio behind ≡ audios_here lines + count_by begins_audio (line ∷ behind)
    by true is = absurd (omega (arith, count-cons is_program line behind, ap one is))
    by false is =
        let step : audios_here (lines ++ line ∷ []) ≡ cond (begins_audio line) 1 0 + audios_here lines = rw is at (audios_here_push lines line) in
        omega (arith, step, count-cons begins_audio line behind)

-- behind a program's line there are those that follow
pub audios_here_program : (front : List Line) (vbv : ℕ) (behind : List Line) → count_by is_program behind ≡ 0 → audios_here (front ++ Program vbv ∷ behind) ≡ count_by begins_audio behind
audios_here_program front vbv behind none =
    ap audios_here (sym (append_assoc front (Program vbv ∷ []) behind)) ∙ audios_here-append (front ++ Program vbv ∷ []) behind none
    ∙ ap (λ (n : ℕ). n + count_by begins_audio behind) (audios_here_push front (Program vbv)) ∙ omega arith
