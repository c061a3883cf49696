-- The start codes before vbv_delay: the walk comes to the picture's.
use Rattle.std.proofs.Common.{
  ◌≡◌,
  ◌≢◌,
  ◌⊎◌,
  ◌+◌,
  ◌%◌,
  ◌<◌,
  ◌≤◌,
  ◌==◌,
  ◌||◌,
  ◌&&◌,
  nat_eq,
  not,
  ℕ,
  zero,
  suc,
  Option,
  Some,
  None,
  List,
  [],
  ◌∷◌,
  ◌++◌,
  length,
  replicate,
  Bool,
  true,
  false,
  refl,
  sym,
  ap,
  subst,
  ◌∙◌,
  inl,
  inr,
  arith,
  append_assoc,
  eq-eqb,
}
use Rattle.std.proofs.lemmas.Bool.{and_parts, or_cases, cases_Bool, cases_lt, eqb-true}
use Rattle.std.proofs.lemmas.List.{length-append, length-replicate}
use Rattle.bit_lists.specs.Bits.{IsPrefix, bits_of}
use Rattle.bit_lists.proofs.BitLemmas.{length-bits_of}
use Rattle.bit_lists.proofs.JoinedLemmas.{bits_of-zero}
use Rattle.bit_lists.proofs.PrefixLemmas.{IsPrefix-append}
use Rattle.syntax_types.specs.declared.picture.SeqState.{SeqState}
use Rattle.stream_constants.specs.declared.start_codes.TheConstants.{PICTURE, USER_DATA, SEQUENCE_HEADER, EXTENSION, GROUP, SEQUENCE_DISPLAY, QUANT_MATRIX}
use Rattle.picture_grammar.specs.Refusal.{Refusal}
use Rattle.picture_grammar.specs.Refusal.Refusal.{BadHeader, NotMpeg2}
use Rattle.picture_grammar.specs.Grammar.{Grammar, done, optional, when, if_next, SpellsList, Next, one_item_more}
use Rattle.picture_grammar.specs.Grammar.Next.{more, last}
use Rattle.picture_grammar.specs.Element.{uimsbf}
use Rattle.picture_grammar.specs.StartCode.{start_code_prefix, start_code, zero_bits}
use Rattle.picture_grammar.specs.Headers.{Loaded}
use Rattle.picture_grammar.specs.Head.{is_scalable, no_matrix, unread, extension, extension_or_user_data, sequence_headers, sequence_part, group_part}
use Rattle.picture_laws.proofs.StartCodes.{zeros_before, zeros_before-one}
use Rattle.picture_laws.proofs.Tested.{prefix-zeros}
use Rattle.picture_heads.specs.Heads.{before_vbv_delay}
use Rattle.picture_heads.specs.Private.Walk.{IsFirstCode, GoesOn, LeadsIn}
use Rattle.picture_heads.proofs.Clear.{IsClear, clear-self, clear-then, first-then, clear-short, first-code}
use Rattle.picture_heads.proofs.ShortHeaders.{short-sequence_header, short-sequence_extension}
use Rattle.picture_laws.proofs.Steady.{unread_item}

-- the walk comes from these bits to those behind the picture's start code; a start code comes here
pub record Leads (bits rest : List ℕ) : Type 0 where
  pub codes : ℕ
  pub leads : LeadsIn codes bits rest
  pub many : 23 ≤ zeros_before bits

leads-then : (n : ℕ) (bits middle rest : List ℕ) → IsClear bits middle → LeadsIn n middle rest → LeadsIn n bits rest
leads-then zero bits middle rest clear leads = first-then bits middle PICTURE rest clear leads
leads-then (suc n) bits middle rest clear (byte, behind, later, code, goes, leads) = (byte, behind, later, first-then bits middle byte behind clear code, goes, leads)

-- behind a start code that isn't the picture's or that of a group, and a part where none begins, the walk goes on
leads-behind : (refusal : Refusal) (may_come : ℕ → Bool) (byte : ℕ) (bits m middle rest : List ℕ) → (start_code refusal may_come).Spells byte bits m → length bits % 8 ≡ 0
    → byte ≢ PICTURE → byte ≢ GROUP → IsClear m middle → Leads middle rest → Leads bits rest
leads-behind refusal may_come byte bits m middle rest s whole no_picture no_group clear l =
    let (code, zeros, aligned, is) = first-code refusal may_come byte bits m s whole in
    let goes : GoesOn byte m m = record { no_picture = no_picture; goes = inl (no_group, refl) } in
    record { codes = suc l.codes; leads = (byte, m, m, code, goes, leads-then l.codes m middle rest clear l.leads); many = zeros }

clash : (code other byte : ℕ) → (byte == code) ≡ true → byte ≡ other → (code == other) ≡ false → ⊥
clash code other byte is same apart = let both : true ≡ false = sym (eq-eqb code other (sym (eqb-true byte code is) ∙ same)) ∙ apart in cc

pub prefix-run : (rest : List ℕ) → zeros_before (start_code_prefix ++ rest) ≡ 23
prefix-run rest = ap zeros_before (ap (λ (x : List ℕ). x ++ rest) prefix-zeros ∙ append_assoc (replicate 23 0) (1 ∷ []) rest) ∙ zeros_before-one 23 rest

-- ---- bits up to a whole byte

-- zero bits to a whole byte are zeros, and whole bytes follow
pub padding : (refusal : Refusal) (number : ℕ) (bits rest : List ℕ) → (zero_bits refusal).Spells number bits rest
    → (p : ℕ) × (bits ≡ replicate p 0 ++ rest) × (length rest % 8 ≡ 0) × (p ≡ length bits % 8)
padding refusal number bits rest (code, (fits, is), passing, split) =
    let none : number ≡ 0 = eqb-true number 0 (and_parts (nat_eq number 0) true passing).0 in
    let zeros : code ≡ replicate (length bits % 8) 0 = is ∙ ap (bits_of (length bits % 8)) none ∙ bits_of-zero (length bits % 8) in
    let all : bits ≡ replicate (length bits % 8) 0 ++ rest = split ∙ ap (λ (x : List ℕ). x ++ rest) zeros in
    let count : length bits ≡ length bits % 8 + length rest =
    ap length all ∙ length-append (replicate (length bits % 8) 0) rest ∙ ap (λ (k : ℕ). k + length rest) (length-replicate {A = ℕ} (length bits % 8) 0) in
    (length bits % 8, all, omega (arith, count), refl)

-- of whole bytes that nobody reads none begins a start code
unread_clear : (before values bits rest : List ℕ) → SpellsList unread_item before values tt bits rest → length bits % 8 ≡ 0 → IsClear bits rest × (length rest % 8 ≡ 0)
unread_clear before [] bits rest (inl (p, (e, f))) whole = (subst (IsClear bits) f (clear-self bits), subst (λ (x : List ℕ). length x % 8 ≡ 0) f whole)
unread_clear before [] bits rest (inr (n, (v, m, s, (e, f)))) whole = absurd (let e' : last tt ≡ more v = e in cc)
unread_clear before (v ∷ vs) bits rest (middle, inl (p, (e, f)), t) whole = absurd (let e' : more v ≡ last tt = e in cc)
unread_clear before (v ∷ vs) bits rest (middle, inr (n, (v', m, (code, (fits, is), passing, split), (e, f))), t) whole =
    let eight : length code ≡ 8 = ap length is ∙ length-bits_of 8 v' in
    let all : bits ≡ code ++ middle = split ∙ ap (λ (x : List ℕ). code ++ x) f in
    let count : length bits ≡ 8 + length middle = ap length all ∙ length-append code middle ∙ omega (arith, eight) in
    let later = unread_clear (before ++ v ∷ []) vs middle rest t (omega (arith, whole, count)) in
    let one : IsClear bits middle = record {
      front = code;
      split = all;
      none = λ front after e' w. not_first front after e' w (cases_lt 0 (length front)) count eight;
    } in
    (clear-then bits middle rest one later.0, later.1)
  where
    none_here : (front after : List ℕ) → bits ≡ front ++ start_code_prefix ++ after → length front ≡ 0 → ⊥
    none_here [] after e' le = n (subst (IsPrefix start_code_prefix) (sym e') (IsPrefix-append start_code_prefix after))
    none_here (x ∷ front) after e' le = omega (arith, le)

    not_first : (front after : List ℕ) → bits ≡ front ++ start_code_prefix ++ after → length after % 8 ≡ 0 → (0 < length front) ⊎ (length front ≤ 0)
        → length bits ≡ 8 + length middle → length code ≡ 8 → length code ≤ length front
    not_first front after e' w (inl some) count eight =
        let sizes : length bits ≡ length front + 24 + length after =
        ap length e' ∙ length-append (front ++ start_code_prefix) after ∙ omega (arith, length-append front start_code_prefix, length-bits_of 24 1) in
        omega (arith, eight, whole, w, some, sizes)
    not_first front after e' w (inr le) count eight = absurd (none_here front after e' (omega (arith, le)))

-- up to a whole byte, then whole bytes that nobody reads
unread_parts : (found : List ℕ × Unit {0}) (bits rest : List ℕ) → unread.Spells found bits rest
    → (code : List ℕ) × (m : List ℕ) × (bits ≡ code ++ m) × (length code ≡ length bits % 8) × IsClear m rest × (length rest % 8 ≡ 0)
unread_parts found bits rest (number, m, (code, (fits, is), passing, split), s) =
    let count : length code ≡ length bits % 8 = ap length is ∙ length-bits_of (length bits % 8) number in
    let all : length bits ≡ length code + length m = ap length split ∙ length-append code m in
    let (clear, aligned) = unread_clear [] found.0 m rest s (omega (arith, count, all)) in
    (code, m, split, count, clear, aligned)

unread_all : (found : List ℕ × Unit {0}) (bits rest : List ℕ) → unread.Spells found bits rest → length bits % 8 ≡ 0 → IsClear bits rest × (length rest % 8 ≡ 0)
unread_all found bits rest s whole =
    let (code, m, split, count, clear, aligned) = unread_parts found bits rest s in
    let same : bits ≡ m = split ∙ ap (λ (x : List ℕ). x ++ m) (none_of code (omega (arith, count, whole))) in
    (subst (λ (x : List ℕ). IsClear x rest) (sym same) clear, aligned)
  where
    none_of : (code : List ℕ) → length code ≡ 0 → code ≡ []
    none_of [] e = refl
    none_of (x ∷ code) e = absurd (omega (arith, e))

-- ---- what stands in some cases only

when_none : {A : Type 0} (test : Bool) (grammar : Grammar A) (absent v : A) (bits rest : List ℕ) → test ≡ false → (when test grammar absent).Spells v bits rest → bits ≡ rest
when_none true grammar absent v bits rest e s = absurd (let e' : true ≡ false = e in cc)
when_none false grammar absent v bits rest e (p, q) = q

optional_none : {A : Type 0} (test : Bool) (grammar : Grammar A) (v : Option A) (bits rest : List ℕ) → test ≡ false → (optional test grammar).Spells v bits rest → bits ≡ rest
optional_none true grammar v bits rest e s = absurd (let e' : true ≡ false = e in cc)
optional_none false grammar v bits rest e (p, q) = q

optional_some : {A : Type 0} (test : Bool) (grammar : Grammar A) (v : Option A) (bits rest : List ℕ) → test ≡ true → (optional test grammar).Spells v bits rest → (w : A) × grammar.Spells w bits rest
optional_some true grammar v bits rest e (w, m, s, (p, q)) = (w, subst (λ (x : List ℕ). grammar.Spells w bits x) q s)
optional_some false grammar v bits rest e s = absurd (let e' : false ≡ true = e in cc)

-- ---- extensions and user data

display_bits : bits_of 4 SEQUENCE_DISPLAY ≡ 0 ∷ 0 ∷ 1 ∷ 0 ∷ []
unfolding bits_of
display_bits = refl

extension_clear : (identifiers : ℕ → Bool) (loaded : Loaded) (bits rest : List ℕ) → ((id : ℕ) → identifiers id ≡ true → id ≡ SEQUENCE_DISPLAY)
    → (extension identifiers).Spells loaded bits rest → length bits % 8 ≡ 0 → IsClear bits rest × (length rest % 8 ≡ 0)
extension_clear identifiers loaded bits rest display (id, m1, (code, (fits, is), passing, split), (found, m2, s2, (z, m3, s3, (u, m4, s4, (e, f))))) whole =
    let tests = and_parts (not (is_scalable id)) (identifiers id && true) passing in
    let same : id ≡ SEQUENCE_DISPLAY = display id (and_parts (identifiers id) true tests.1).0 in
    let no_matrix : (id == QUANT_MATRIX) ≡ false = ap (λ (n : ℕ). n == QUANT_MATRIX) same in
    let m12 : m1 ≡ m2 = when_none (id == QUANT_MATRIX) _ _ found m1 m2 no_matrix s2 in
    let m23 : m2 ≡ m3 = optional_none (id == QUANT_MATRIX) _ z m2 m3 no_matrix s3 in
    let (w, t) = optional_some (not (id == QUANT_MATRIX)) unread u m3 m4 (ap not no_matrix) s4 in
    let (pad, m, split', count, clear, aligned) = unread_parts w m3 m4 t in
    let four : length code ≡ 4 = ap length is ∙ length-bits_of 4 id in
    let rest_of : m1 ≡ pad ++ m = m12 ∙ m23 ∙ split' in
    let all : bits ≡ (code ++ pad) ++ m = split ∙ ap (λ (x : List ℕ). code ++ x) rest_of ∙ sym (append_assoc code pad m) in
    let first_size : length bits ≡ 4 + length m1 = ap length split ∙ length-append code m1 ∙ omega (arith, four) in
    let sizes : length bits ≡ length (code ++ pad) + length m = ap length all ∙ length-append (code ++ pad) m in
    let size : length (code ++ pad) ≡ 8 = length-append code pad ∙ omega (arith, four, count, ap length (m12 ∙ m23), first_size, whole) in
    let begins : bits ≡ 0 ∷ 0 ∷ 1 ∷ 0 ∷ m1 = split ∙ ap (λ (x : List ℕ). x ++ m1) (is ∙ ap (bits_of 4) same ∙ display_bits) in
    let one : IsClear bits m = record {
      front = code ++ pad;
      split = all;
      none = λ front after e' w'. not_first (omega (arith, whole, sizes, size)) begins (code ++ pad) size front after e' w' (cases_lt 0 (length front));
    } in
    (subst (IsClear bits) f (clear-then bits m m4 one clear), subst (λ (x : List ℕ). length x % 8 ≡ 0) f aligned)
  where
    none_here : (front after : List ℕ) → bits ≡ 0 ∷ 0 ∷ 1 ∷ 0 ∷ m1 → bits ≡ front ++ start_code_prefix ++ after → length front ≡ 0 → ⊥
    none_here [] after begins e' le =
        let runs : zeros_before (start_code_prefix ++ after) ≡ 23 = prefix-run after in
        omega (arith, runs, ap zeros_before (sym e' ∙ begins))
    none_here (x ∷ front) after begins e' le = omega (arith, le)

    not_first : length bits % 8 ≡ 0 → bits ≡ 0 ∷ 0 ∷ 1 ∷ 0 ∷ m1 → (eight : List ℕ) → length eight ≡ 8 → (front after : List ℕ) → bits ≡ front ++ start_code_prefix ++ after → length after % 8 ≡ 0
        → (0 < length front) ⊎ (length front ≤ 0) → length eight ≤ length front
    not_first whole begins eight size front after e' w (inl some) =
        let sizes : length bits ≡ length front + 24 + length after =
        ap length e' ∙ length-append (front ++ start_code_prefix) after ∙ omega (arith, length-append front start_code_prefix, length-bits_of 24 1) in
        omega (arith, size, whole, w, some, sizes)
    not_first whole begins eight size front after e' w (inr le) = absurd (none_here front after begins e' (omega (arith, le)))

-- what follows a start code of an extension or of user data
module _ (identifiers : ℕ → Bool) (display : (id : ℕ) → identifiers id ≡ true → id ≡ SEQUENCE_DISPLAY) where
  pub content_clear : (byte : ℕ) (loaded : Loaded) (user : Option (List ℕ × Unit {0})) (m1 m2 m3 : List ℕ) → (when (byte == EXTENSION) (extension identifiers) no_matrix).Spells loaded m1 m2
      → (optional (byte == USER_DATA) unread).Spells user m2 m3 → length m1 % 8 ≡ 0 → IsClear m1 m3 × (length m3 % 8 ≡ 0)
  content_clear byte loaded user m1 m2 m3 s t whole = elim (cases_Bool (byte == EXTENSION)) [
    | inl is ↦
        let same : byte ≡ EXTENSION = eqb-true byte EXTENSION is in
        let ext = extension_clear identifiers loaded m1 m2 display (when_some (byte == EXTENSION) is s) whole in
        let m23 : m2 ≡ m3 = optional_none (byte == USER_DATA) unread user m2 m3 (ap (λ (n : ℕ). n == USER_DATA) same) t in
        (subst (IsClear m1) m23 ext.0, subst (λ (x : List ℕ). length x % 8 ≡ 0) m23 ext.1)
    | inr other ↦
        let m12 : m1 ≡ m2 = when_none (byte == EXTENSION) _ _ loaded m1 m2 other s in
        elim (cases_Bool (byte == USER_DATA)) [
          | inl is ↦
              let (w, u) = optional_some (byte == USER_DATA) unread user m2 m3 is t in
              let all = unread_all w m2 m3 u (subst (λ (x : List ℕ). length x % 8 ≡ 0) m12 whole) in
              (subst (λ (x : List ℕ). IsClear x m3) (sym m12) all.0, all.1)
          | inr none ↦
              let same : m1 ≡ m3 = m12 ∙ optional_none (byte == USER_DATA) unread user m2 m3 none t in
              (subst (IsClear m1) same (clear-self m1), subst (λ (x : List ℕ). length x % 8 ≡ 0) same whole)
        ]
  ]
    where
      when_some : (test : Bool) → test ≡ true → (when test (extension identifiers) no_matrix).Spells loaded m1 m2 → (extension identifiers).Spells loaded m1 m2
      when_some true e s = s
      when_some false e s = absurd (let e' : false ≡ true = e in cc)

-- start codes of extensions and user data, and no identifier but that of sequence_display_extension()
pub record AreOthers (start_codes identifiers : ℕ → Bool) : Type 0 where
  pub codes : (byte : ℕ) → start_codes byte ≡ true → (byte ≢ PICTURE) × (byte ≢ GROUP)
  pub display : (id : ℕ) → identifiers id ≡ true → id ≡ SEQUENCE_DISPLAY

module _ (start_codes identifiers : ℕ → Bool) (others : AreOthers start_codes identifiers) where
  list_leads : (before values : List Loaded) (bits middle rest : List ℕ) → SpellsList (extension_or_user_data start_codes identifiers) before values (tt {0}) bits middle
      → length bits % 8 ≡ 0 → (length middle % 8 ≡ 0 → Leads middle rest) → Leads bits rest
  list_leads before [] bits middle rest (inl (c, (byte, m1, s1, (loaded, m2, s2, (user, m3, s3, (e, f)))))) whole later = absurd (let e' : last (tt {0}) ≡ more loaded = e in cc)
  list_leads before [] bits middle rest (inr (c, (e, f))) whole later = subst (λ (x : List ℕ). Leads x rest) (sym f) (later (subst (λ (x : List ℕ). length x % 8 ≡ 0) f whole))
  list_leads before (v ∷ vs) bits middle rest (next, inl (c, (byte, m1, s1, (loaded, m2, s2, (user, m3, s3, (e, f))))), t) whole later =
      let (code, zeros, aligned, is) = first-code BadHeader start_codes byte bits m1 s1 whole in
      let (clear, aligned') = content_clear identifiers others.display byte loaded user m1 m2 m3 s2 s3 aligned in
      let kind = others.codes byte is in
      leads-behind BadHeader start_codes byte bits m1 next rest s1 whole kind.0 kind.1 (subst (IsClear m1) f clear)
      (list_leads (before ++ v ∷ []) vs next middle rest t (subst (λ (x : List ℕ). length x % 8 ≡ 0) f aligned') later)
  list_leads before (v ∷ vs) bits middle rest (next, inr (c, (e, f)), t) whole later = absurd (let e' : more v ≡ last (tt {0}) = e in cc)

extension_codes : AreOthers (λ byte. byte == EXTENSION || byte == USER_DATA) (λ identifier. identifier == SEQUENCE_DISPLAY)
extension_codes = record {
  codes = λ byte is. elim (or_cases _ _ is) [
    | inl e ↦ (λ p. clash EXTENSION PICTURE byte e p refl, λ p. clash EXTENSION GROUP byte e p refl)
    | inr e ↦ (λ p. clash USER_DATA PICTURE byte e p refl, λ p. clash USER_DATA GROUP byte e p refl)
  ];
  display = λ id is. eqb-true id SEQUENCE_DISPLAY is;
}

user_codes : AreOthers (λ byte. byte == USER_DATA) (λ identifier. false)
user_codes = record {
  codes = λ byte e. (λ p. clash USER_DATA PICTURE byte e p refl, λ p. clash USER_DATA GROUP byte e p refl);
  display = λ id is. absurd (let e : false ≡ true = is in cc);
}

-- ---- the parts of a head before the picture header

group_leads : (found : Unit {0}) (bits middle rest : List ℕ) → group_part.Spells found bits middle → length bits % 8 ≡ 0 → (length middle % 8 ≡ 0 → Leads middle rest) → Leads bits rest
group_leads found bits middle rest (inr (c, (e, f))) whole later = subst (λ (x : List ℕ). Leads x rest) (sym f) (later (subst (λ (x : List ℕ). length x % 8 ≡ 0) f whole))
group_leads found bits middle rest
    (inl (c, (byte, m1, s1, (broken, m2, (time, n1, (c1, (fits, is), p1, split1), (closed, n2, (c2, is2, p2, split2), (c3, is3, p3, split3))), (z, m3, s3, (user, m4, s4, (e, f))))))) whole later =
    let (code, zeros, aligned, is_group) = first-code BadHeader (λ b. b == GROUP) byte bits m1 s1 whole in
    let same : byte ≡ GROUP = eqb-true byte GROUP is_group in
    let (p, pad, aligned', count) = padding BadHeader z m2 m3 s3 in
    let header = c1 ++ (c2 ++ (c3 ++ replicate p 0)) in
    let all : m1 ≡ header ++ m3 =
    split1 ∙ ap (λ (x : List ℕ). c1 ++ x) (split2 ∙ ap (λ (x : List ℕ). c2 ++ x) (split3 ∙ ap (λ (x : List ℕ). c3 ++ x) pad ∙ sym (append_assoc c3 (replicate p 0) m3)) ∙ sym
    (append_assoc c2 (c3 ++ replicate p 0) m3))
    ∙ sym (append_assoc c1 (c2 ++ (c3 ++ replicate p 0)) m3) in
    let l1 : length c1 ≡ 25 = ap length is ∙ length-bits_of 25 time in
    let l2 : length c2 ≡ 1 = ap length is2 in
    let l3 : length c3 ≡ 1 = ap length is3 in
    let sizes : length m1 ≡ 27 + length m2 =
    ap length split1 ∙ length-append c1 n1 ∙ omega (arith, l1, l2, l3, ap length split2, length-append c2 n2, ap length split3, length-append c3 m2) in
    let size : length header ≡ 32 =
    length-append c1 (c2 ++ (c3 ++ replicate p 0))
    ∙ omega (arith, l1, l2, l3, length-append c2 (c3 ++ replicate p 0), length-append c3 (replicate p 0), length-replicate {A = ℕ} p 0, sizes, aligned, count) in
    let goes : GoesOn byte m1 m3 = record { no_picture = λ q. clash GROUP PICTURE byte is_group q refl; goes = inr (same, header, all, size) } in
    let l : Leads m3 rest = list_leads _ _ user_codes [] user.0 m3 m4 rest s4 aligned' (λ w. subst (λ (x : List ℕ). Leads x rest) (sym f) (later (subst (λ (x : List ℕ). length x % 8 ≡ 0) f w))) in
    record { codes = suc l.codes; leads = (byte, m1, m3, code, goes, l.leads); many = zeros }

sequence_leads : (before : Option SeqState) (found : SeqState) (bits middle rest : List ℕ) → (sequence_headers before).Spells found bits middle → length bits % 8 ≡ 0
    → (length middle % 8 ≡ 0 → Leads middle rest) → Leads bits rest
sequence_leads before found bits middle rest (b1, m1, s1, (seq, m2, s2, (z1, m3, s3, (b2, m4, s4, (id, m5, s5, (progressive, m6, s6, (z2, m7, s7, (extra, m8, s8, (e, f))))))))) whole later =
    let (code, zeros, aligned, is) = first-code BadHeader (λ b. b == SEQUENCE_HEADER) b1 bits m1 s1 whole in
    let (p, pad, aligned3, count) = padding BadHeader z1 m2 m3 s3 in
    let (code', zeros', aligned4, is') = first-code NotMpeg2 (λ b. b == EXTENSION) b2 m3 m4 s4 aligned3 in
    let (q, pad', aligned7, count') = padding BadHeader z2 m6 m7 s7 in
    let l7 : Leads m7 rest = list_leads _ _ extension_codes [] extra.0 m7 m8 rest s8 aligned7 (λ w. subst (λ (x : List ℕ). Leads x rest) (sym f)
    (later (subst (λ (x : List ℕ). length x % 8 ≡ 0) f w))) in
    let (g, split, short, le) = (short-sequence_header before).runs seq m1 m2 s2 in
    let (g', split', short', le') = (short-sequence_extension before).runs progressive m4 m6 (id, m5, s5, s6) in
    let clear1 : IsClear m1 m3 = subst (λ (x : List ℕ). IsClear x m3) (sym (split ∙ ap (λ (x : List ℕ). g ++ x) pad)) (clear-short g p m3 short zeros') in
    let clear4 : IsClear m4 m7 = subst (λ (x : List ℕ). IsClear x m7) (sym (split' ∙ ap (λ (x : List ℕ). g' ++ x) pad')) (clear-short g' q m7 short' l7.many) in
    leads-behind BadHeader (λ b. b == SEQUENCE_HEADER) b1 bits m1 m3 rest s1 whole (λ r. clash SEQUENCE_HEADER PICTURE b1 is r refl) (λ r. clash SEQUENCE_HEADER GROUP b1 is r refl) clear1
    (leads-behind NotMpeg2 (λ b. b == EXTENSION) b2 m3 m4 m7 rest s4 aligned3 (λ r. clash EXTENSION PICTURE b2 is' r refl) (λ r. clash EXTENSION GROUP b2 is' r refl) clear4 l7)

part_leads : (before : Option SeqState) (found : SeqState) (bits middle rest : List ℕ) → (sequence_part before).Spells found bits middle → length bits % 8 ≡ 0
    → (length middle % 8 ≡ 0 → Leads middle rest) → Leads bits rest
part_leads None found bits middle rest s whole later = sequence_leads None found bits middle rest s whole later
part_leads (Some state) found bits middle rest (inl (c, s)) whole later = sequence_leads (Some state) found bits middle rest s whole later
part_leads (Some state) found bits middle rest (inr (c, (e, f))) whole later = subst (λ (x : List ℕ). Leads x rest) (sym f) (later (subst (λ (x : List ℕ). length x % 8 ≡ 0) f whole))

-- The walk comes to the picture's start code, and 13 bits stand between that and vbv_delay.
pub head-leads : (before : Option SeqState) (kind : ℕ) (bits rest : List ℕ) → (before_vbv_delay before).Spells kind bits rest → length bits % 8 ≡ 0
    → (between : List ℕ) × (length between ≡ 13) × Leads bits (between ++ rest)
head-leads before kind bits rest (seq, m1, s1, (group, m2, s2, (byte, m3, s3, (temporal, m4, (c10, (fits, is), p10, split10), (c3, (fits3, is3), p3, split3))))) whole =
    let all : m3 ≡ (c10 ++ c3) ++ rest = split10 ∙ ap (λ (x : List ℕ). c10 ++ x) split3 ∙ sym (append_assoc c10 c3 rest) in (
      c10 ++ c3,
      length-append c10 c3 ∙ omega (arith, ap length is, length-bits_of 10 temporal, ap length is3, length-bits_of 3 kind),
      subst (Leads bits) all
          (part_leads before seq bits m1 m3 s1 whole (λ w1. group_leads group m1 m2 m3 s2 w1 (λ w2. picture w2))),
    )
  where
    picture : length m2 % 8 ≡ 0 → Leads m2 m3
    picture w2 =
        let (code, zeros, aligned, is_picture) = first-code BadHeader (λ b. b == PICTURE) byte m2 m3 s3 w2 in
        record { codes = 0; leads = subst (λ (b : ℕ). IsFirstCode m2 b m3) (eqb-true byte PICTURE is_picture) code; many = zeros }
