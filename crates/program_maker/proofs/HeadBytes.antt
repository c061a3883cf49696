-- The heads of pictures, byte by byte.
use Rattle.std.proofs.Common.{◌≡◌, ◌≢◌, ◌+◌, ◌*◌, ◌/◌, ◌%◌, ◌<◌, ℕ, zero, suc, List, [], ◌∷◌, ◌++◌, nat_eq, nat_lt, not, Bool, true, false, refl, sym, ap, subst, ◌∙◌, inl, inr, eq-eqb, arith}
use Rattle.std.proofs.lemmas.Bool.{and_parts, ltb-true, ne_eqb, cases_Bool, eqb-true, eqb-false}
use Rattle.std.specs.List.{list_all}
use Rattle.std.proofs.lemmas.Nat.{mod_below}
use Rattle.bit_lists.specs.Fields.{AreBytes}
use Rattle.program_maker.specs.Heads.{coding_of, headers_before, generated_picture_header, generated_picture_coding_extension, head_of}

-- the head of a P-picture by its temporal reference
abbrev pub p_bytes : ℕ → List ℕ
p_bytes r =
    0x00 ∷ 0x00 ∷ 0x01 ∷ 0x00 ∷ (r / 4) ∷ (r % 4 * 64 + 0x17) ∷ 0xFF ∷ 0xFB ∷ 0x80
    ∷ 0x00 ∷ 0x00 ∷ 0x01 ∷ 0xB5 ∷ 0x81 ∷ 0x1F ∷ 0xF3 ∷ 0x41 ∷ 0x80 ∷ []

abbrev pub p_fields : ℕ → List ℕ
p_fields r = generated_picture_header true r ++ generated_picture_coding_extension (coding_of true)

pub p-head : (r : ℕ) → r < 12 → p_bytes r ≡ p_fields r
p-head zero lt = refl
p-head (suc zero) lt = refl
p-head (suc (suc zero)) lt = refl
p-head (suc (suc (suc zero))) lt = refl
p-head (suc (suc (suc (suc zero)))) lt = refl
p-head (suc (suc (suc (suc (suc zero))))) lt = refl
p-head (suc (suc (suc (suc (suc (suc zero)))))) lt = refl
p-head (suc (suc (suc (suc (suc (suc (suc zero))))))) lt = refl
p-head (suc (suc (suc (suc (suc (suc (suc (suc zero)))))))) lt = refl
p-head (suc (suc (suc (suc (suc (suc (suc (suc (suc zero))))))))) lt = refl
p-head (suc (suc (suc (suc (suc (suc (suc (suc (suc (suc zero)))))))))) lt = refl
p-head (suc (suc (suc (suc (suc (suc (suc (suc (suc (suc (suc zero))))))))))) lt = refl
p-head (suc (suc (suc (suc (suc (suc (suc (suc (suc (suc (suc (suc n)))))))))))) lt = absurd (omega (arith, lt))

abbrev pub i_fields : List ℕ
i_fields = headers_before false ++ generated_picture_header false 0 ++ generated_picture_coding_extension (coding_of false)

abbrev fields : Bool → ℕ → List ℕ
fields first r = headers_before (not first) ++ generated_picture_header (not first) r ++ generated_picture_coding_extension (coding_of (not first))

-- the head of an I-picture
pub i-head : (k : ℕ) → k % 12 ≡ 0 → i_fields ≡ head_of k
unfolding head_of
i-head k is = sym (ap (λ (b : Bool). fields b (k % 12)) (eq-eqb (k % 12) 0 is) ∙ ap (fields true) is)

-- and of a P-picture
pub later-head : (k : ℕ) → k % 12 ≢ 0 → p_fields (k % 12) ≡ head_of k
unfolding head_of
later-head k not_first = sym (ap (λ (b : Bool). fields b (k % 12)) (ne_eqb (k % 12) 0 not_first))

p-are : (r : ℕ) → r < 12 → AreBytes (p_bytes r)
p-are r lt = (
  omega arith,
  (
    omega arith,
    (
      omega arith,
      (
        omega arith,
        (
          omega arith,
          (
            omega arith,
            (
              omega arith,
              (
                omega arith,
                (
                  omega arith,
                  (
                    omega arith,
                    (
                      omega arith,
                      (
                        omega arith,
                        (
                          omega arith,
                          (
                            omega arith,
                            (
                              omega arith,
                              (
                                omega arith,
                                (
                                  omega arith,
                                  (
                                    omega arith,
                                    tt,
                                  ),
                                ),
                              ),
                            ),
                          ),
                        ),
                      ),
                    ),
                  ),
                ),
              ),
            ),
          ),
        ),
      ),
    ),
  ),
)

-- bytes, by a test
are-bytes : (xs : List ℕ) → list_all (λ byte. nat_lt byte 256) xs ≡ true → AreBytes xs
are-bytes [] e = tt
are-bytes (x ∷ xs) e = let parts = and_parts (nat_lt x 256) (list_all (λ byte. nat_lt byte 256) xs) e in (ltb-true x 256 parts.0, are-bytes xs parts.1)

i-are : AreBytes i_fields
i-are = are-bytes i_fields refl

pub head-are : (k : ℕ) → AreBytes (head_of k)
head-are k = elim (cases_Bool (nat_eq (k % 12) 0)) [
  | inl first ↦ subst AreBytes (i-head k (eqb-true (k % 12) 0 first)) i-are
  | inr later ↦ subst AreBytes (p-head (k % 12) (mod_below k 12 (omega arith)) ∙ later-head k (eqb-false (k % 12) 0 later)) (p-are (k % 12) (mod_below k 12 (omega arith)))
]
