-- Where bits end within a code, and why none stands at bits that no code begins.
use Rattle.std.proofs.Common.{◌≡◌, ℕ, ◌+◌, ◌-◌, ◌&&◌, ◌/◌, ◌%◌, ◌^◌, ◌<◌, ◌≤◌, ◌⊎◌, ◌↔◌, nat_le, Bool, true, List, [], ◌∷◌, length, take, Option, Some, refl, sym, ap, subst, ◌∙◌, inl, inr, arith, append-nil}
use Rattle.std.specs.List.{list_all}
use Rattle.std.proofs.Math.Nat.{mod-lt, mod-eq_of_lt}
use Rattle.std.proofs.lemmas.Bool.{and_parts, and_from, leb-true, le-leb, lt-leb}
use Rattle.std.proofs.lemmas.List.{length-take, take_all, take-take}
use Rattle.std.proofs.lemmas.Nat.{pow_pos}
use Rattle.bit_lists.specs.Bits.{IsPrefix, bits_of, front_of}
use Rattle.bit_lists.proofs.BitLemmas.{length-bits_of, bits_of-mod, window_high, IsPrefix-known}
use Rattle.bit_lists.proofs.PrefixLemmas.{IsPrefix-whole, IsPrefix-self}
use Rattle.prefix_codes.specs.Entry.{Entry}
use Rattle.prefix_codes.specs.declared.table_name.TableName.{TableName}
use Rattle.prefix_codes.specs.declared.table_name.TableName.TheVariants.{Address, TypeI, TypeP, TypeB, Pattern, Motion, DcLuma, DcChroma, CoeffZero, CoeffFirst, CoeffOne}
use Rattle.prefix_codes.specs.TableName.{entries, code_in, Begins}
use Rattle.prefix_codes.proofs.Computing.{tables}
use Rattle.prefix_codes.proofs.TableLemmas.{code_in-passes}
use Rattle.picture_grammar.specs.Refusal.{Refusal}
use Rattle.picture_grammar.specs.Element.{Rule, rule, MayStand, passes}
use Rattle.picture_grammar.proofs.Codes.{free-table}
use Rattle.picture_grammar.proofs.ElementLaws.{breaks}
use Rattle.grammar_reading.specs.declared.window.BitWindow.{BitWindow}
use Rattle.grammar_reading.specs.declared.symbol.SymbolFound.TheVariants.{Symbol, NoCode, PastMost, Cut}
use Rattle.grammar_reading.specs.Window.{seen, ShowsFront}
use Rattle.grammar_reading.specs.Cut.{BeginsCode}
use Rattle.grammar_reading.specs.Private.Cut.{BeginsCodeUpTo}
use Rattle.grammar_reading.specs.Symbol.{IsNoneFound, IsSymbolFound}
use Rattle.grammar_reading.proofs.Fronts.{front_of-bits, length-front_of, take-front_of}

-- ---- the code of a number, by numbers

-- a front of the window's number
high-below : (w known : ℕ) → known ≤ 24 → w % 2 ^ 24 / 2 ^ (24 - known) < 2 ^ known
high-below w known le =
    let whole : known + (24 - known) ≡ 24 = omega arith in
    let high : w % 2 ^ 24 / 2 ^ (24 - known) ≡ w / 2 ^ (24 - known) % 2 ^ known = ap (λ n. w % 2 ^ n / 2 ^ (24 - known)) (sym whole) ∙ window_high known (24 - known) w in
    subst (λ n. n < 2 ^ known) (sym high) (mod-lt (w / 2 ^ (24 - known)) (pow_pos known))

front-high : (w known : ℕ) → known ≤ 24 → front_of 24 w known ≡ bits_of known (w % 2 ^ 24 / 2 ^ (24 - known))
front-high w known le =
    let whole : known + (24 - known) ≡ 24 = omega arith in
    let high : w % 2 ^ 24 / 2 ^ (24 - known) ≡ w / 2 ^ (24 - known) % 2 ^ known = ap (λ n. w % 2 ^ n / 2 ^ (24 - known)) (sym whole) ∙ window_high known (24 - known) w in
    front_of-bits 24 w known le ∙ sym (bits_of-mod known (w / 2 ^ (24 - known))) ∙ ap (bits_of known) (sym high)

pub begins-code : (len bits w known : ℕ) → known ≤ 24 → known ≤ len → bits < 2 ^ len → IsPrefix (front_of 24 w known) (bits_of len bits) ↔ (bits / 2 ^ (len - known) ≡ w % 2 ^ 24 / 2 ^ (24 - known))
begins-code len bits w known le within fits =
    let high = w % 2 ^ 24 / 2 ^ (24 - known) in
    let whole : front_of len bits len ≡ bits_of len bits = take_all len (bits_of len bits) (omega (arith, length-bits_of len bits)) in
    let law = IsPrefix-known known len bits len high within within (high-below w known le) in (
      λ begins. ap (λ n. n / 2 ^ (len - known)) (sym (mod-eq_of_lt fits))
          ∙ law.0 (subst (λ f. IsPrefix f (front_of len bits len)) (front-high w known le) (subst (IsPrefix (front_of 24 w known)) (sym whole) begins)),
      λ same. subst (λ f. IsPrefix f (bits_of len bits)) (sym (front-high w known le))
          (subst (IsPrefix (bits_of known high)) whole (law.1 (ap (λ n. n / 2 ^ (len - known)) (mod-eq_of_lt fits) ∙ same))),
    )

-- what begins a code has no more bits
pub begun-length : (front code : List ℕ) → IsPrefix front code → length front ≤ length code
begun-length front code p = omega (arith, ap length p, length-take (length front) code)

-- the code of a symbol is one
pub BeginsCode-code : (table : TableName) (symbol : ℕ) (bits code : List ℕ) → code_in table symbol ≡ Some code → BeginsCode table symbol bits → IsPrefix bits code
BeginsCode-code table symbol bits code listed b =
    let both : Some b.code ≡ Some code = sym b.listed ∙ listed in
    let same : b.code ≡ code = cc in
    subst (IsPrefix bits) same b.cut

-- ---- what a window shows

-- a window that isn't filled shows all bits
pub shows-all : (window : BitWindow) (bits : List ℕ) → window.known ≤ 24 → (window.known ≡ 24 → ⊥) → ShowsFront window bits → bits ≡ seen window window.known
shows-all window bits le short shows =
    let few : length (take 24 bits) ≡ window.known = ap length shows ∙ length-front_of 24 window.bits window.known le in
    sym (take_all 24 bits (omega (arith, length-take 24 bits))) ∙ shows

pub shows-filled : (window : BitWindow) (bits : List ℕ) → window.known ≡ 24 → ShowsFront window bits → 24 ≤ length bits
shows-filled window bits full shows =
    let many : length (take 24 bits) ≡ window.known = ap length shows ∙ length-front_of 24 window.bits window.known (omega arith) in
    omega (arith, length-take 24 bits)

-- what begins the bits begins what is seen of them
pub seen-begins : (window : BitWindow) (bits code : List ℕ) → length code ≤ 24 → ShowsFront window bits → IsPrefix code bits → IsPrefix code (seen window window.known)
seen-begins window bits code le shows begins = ap (take (length code)) (sym shows) ∙ take-take (length code) 24 bits le ∙ begins

-- ... and the other way round
pub begins-seen : (window : BitWindow) (bits code : List ℕ) → length code ≤ 24 → ShowsFront window bits → IsPrefix code (seen window window.known) → IsPrefix code bits
begins-seen window bits code le shows begins = sym (take-take (length code) 24 bits le) ∙ ap (take (length code)) shows ∙ begins

-- ---- codes and symbols of all tables

-- a code has at most 24 bits, and a symbol is at most that of the escape
abbrev is_small : Entry → Bool
is_small e = nat_le (length e.1) 24 && nat_le e.0 4001

are_small : (table : TableName) → list_all is_small (entries table) ≡ true
unfolding tables
are_small Address = refl
are_small TypeI = refl
are_small TypeP = refl
are_small TypeB = refl
are_small Pattern = refl
are_small Motion = refl
are_small DcLuma = refl
are_small DcChroma = refl
are_small CoeffZero = refl
are_small CoeffFirst = refl
are_small CoeffOne = refl

pub small : (table : TableName) (symbol : ℕ) (code : List ℕ) → code_in table symbol ≡ Some code → (length code ≤ 24) × (symbol ≤ 4001)
small table symbol code listed =
    let parts = and_parts (nat_le (length code) 24) (nat_le symbol 4001) (code_in-passes is_small table symbol code (are_small table) listed) in
    (leb-true (length code) 24 parts.0, leb-true symbol 4001 parts.1)

-- ---- a code that stands there

module _ (table : TableName) (most : ℕ) (window : BitWindow) (symbol len : ℕ) (b : Begins table (seen window window.known) symbol len) where
  code-seen : (len ≤ window.known) × (seen window len ≡ b.code)
  code-seen =
      let counted = b.counted in
      let count = length-front_of 24 window.bits window.known window.within in
      let within : len ≤ window.known = omega (arith, ap length b.first, length-take (length b.code) (seen window window.known)) in
      (within, sym (take-front_of 24 window.bits len window.known within) ∙ ap (λ n. take n (seen window window.known)) (sym counted) ∙ b.first)

  pub symbol-found : symbol ≤ most → IsSymbolFound table most window (Symbol symbol len)
  symbol-found le = (
    code-seen.0,
    λ no_code past_most. (b.code, b.listed, and_from (nat_le symbol most) true (le-leb symbol most le) refl, code-seen.1 ∙ sym (append-nil b.code)),
  )

  pub symbol-past : most < symbol → IsSymbolFound table most window PastMost
  symbol-past lt = λ no_code past_most bits shows.
      let first : IsPrefix b.code bits = begins-seen window bits b.code (small table symbol b.code b.listed).0 shows b.first in
      (refl, inr (inl (breaks _ (free-table table) symbol b.code b.listed bits first [] [] (rule past_most (λ s. nat_le s most)) refl (lt-leb symbol most lt))))

-- ---- why none stands where no code begins

module _ (table : TableName) (most : ℕ) (window : BitWindow)
    (none : (symbol len : ℕ) → Begins table (seen window window.known) symbol len → ⊥) where
  abbrev Codes : ℕ → List ℕ → Type 0
  Codes symbol code = code_in table symbol ≡ Some code

  none_stands : (bits : List ℕ) → ShowsFront window bits → (s : ℕ) (code : List ℕ) → code_in table s ≡ Some code → IsPrefix code bits → ⊥
  none_stands bits shows s code listed p = none s (length code) (record {
    code = code;
    listed = listed;
    counted = refl;
    first = seen-begins window bits code (small table s code listed).0 shows p;
  })

  -- what may stand there is begun by the bits
  may-begin : (bits : List ℕ) → ShowsFront window bits → (rules : List (Rule ℕ)) (m : MayStand Codes rules bits) → IsPrefix bits m.code
  may-begin bits shows rules m = by_cases m.agrees where
    by_cases : IsPrefix m.code bits ⊎ IsPrefix bits m.code → IsPrefix bits m.code
    by_cases (inl p) = absurd (none_stands bits shows m.value m.code m.coded p)
    by_cases (inr p) = p

  pub none-full : window.known ≡ 24 → IsNoneFound table most window NoCode
  none-full full = λ no_code past_most bits shows. (
    refl,
    inl (
      λ m.
          let begun = may-begin bits shows [] m in
          let least = shows-filled window bits full shows in
          let few = small table m.value m.code m.coded in
          let whole : bits ≡ m.code = IsPrefix-whole bits m.code (let f = few.0 in omega (arith, begun-length bits m.code begun)) begun in
          none_stands bits shows m.value m.code m.coded (subst (IsPrefix m.code) (sym whole) (IsPrefix-self m.code)),
      refl,
    ),
  )

  module _ (short : window.known ≡ 24 → ⊥) where
    abbrev Rules : Refusal → List (Rule ℕ)
    Rules past_most = rule past_most (λ symbol. nat_le symbol most) ∷ []

    -- what may stand there under the rule has a symbol up to the limit
    allowed : (past_most : Refusal) (bits : List ℕ) → ShowsFront window bits → MayStand Codes (Rules past_most) bits → BeginsCodeUpTo table most (seen window window.known)
    allowed past_most bits shows m = record {
      symbol = m.value;
      within = leb-true m.value most (and_parts (nat_le m.value most) true m.passing).0;
      begun = record { code = m.code; listed = m.coded; cut = subst (λ x. IsPrefix x m.code) (shows-all window bits window.within short shows) (may-begin bits shows (Rules past_most) m) };
    }

    begun-at : (rules : List (Rule ℕ)) (bits : List ℕ) → ShowsFront window bits → (b : BeginsCodeUpTo table most (seen window window.known)) → passes rules b.symbol ≡ true → MayStand Codes rules bits
    begun-at rules bits shows b passing = record {
      value = b.symbol;
      code = b.begun.code;
      coded = b.begun.listed;
      passing = passing;
      agrees = inr (subst (λ x. IsPrefix x b.begun.code) (sym (shows-all window bits window.within short shows)) b.begun.cut);
    }

    pub none-cut : BeginsCodeUpTo table most (seen window window.known) → IsNoneFound table most window Cut
    none-cut b = λ no_code past_most bits shows. (
      refl,
      inr (inr (
        begun-at (Rules past_most) bits shows b (and_from (nat_le b.symbol most) true (le-leb b.symbol most b.within) refl),
        (λ s. none_stands bits shows s.value s.code s.coded s.first),
        refl,
      )),
    )

    pub none-past : (BeginsCodeUpTo table most (seen window window.known) → ⊥) → BeginsCodeUpTo table 4001 (seen window window.known) → IsNoneFound table most window PastMost
    none-past missing b = λ no_code past_most bits shows. (
      refl,
      inr (inl (record {
        before = [];
        broken = rule past_most (λ symbol. nat_le symbol most);
        after = [];
        order = refl;
        so_far = record {
          value = b.symbol;
          code = b.begun.code;
          coded = b.begun.listed;
          passing = refl;
          agrees = inr (subst (λ x. IsPrefix x b.begun.code) (sym (shows-all window bits window.within short shows)) b.begun.cut);
        };
        none = λ m. missing (allowed past_most bits shows m);
        named = refl;
      })),
    )

    pub none-begun : (BeginsCodeUpTo table 4001 (seen window window.known) → ⊥) → IsNoneFound table most window NoCode
    none-begun missing = λ no_code past_most bits shows. (
      refl,
      inl (
        λ m. missing (record {
          symbol = m.value;
          within = (small table m.value m.code m.coded).1;
          begun = record { code = m.code; listed = m.coded; cut = subst (λ x. IsPrefix x m.code) (shows-all window bits window.within short shows) (may-begin bits shows [] m) };
        }),
        refl,
      ),
    )

-- ---- where all bits of a window are known

-- what begins a whole window, as a look-up found it
pub begun-whole : {found : Option (ℕ × ℕ)} (table : TableName) (window : BitWindow) (symbol len n : ℕ) → window.known ≡ 24
    → ((s k : ℕ) → (found ≡ Some (s, k)) ↔ Begins table (seen window 24) s k) → found ≡ Some (symbol, len) → n ≡ len → Begins table (seen window window.known) symbol n
begun-whole table window symbol len n whole front is same =
    subst (λ k. Begins table (seen window k) symbol n) (sym whole) ((front symbol n).0 (is ∙ ap (λ k. Some (symbol, k)) (sym same)))
