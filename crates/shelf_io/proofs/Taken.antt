-- Bytes that are taken in several calls.
use Rattle.std.proofs.Common.{
  ◌≡◌,
  ℕ,
  ◌+◌,
  ◌-◌,
  ◌<◌,
  ◌≤◌,
  List,
  [],
  ◌++◌,
  Option,
  None,
  Some,
  IfSome,
  length,
  take,
  drop,
  min,
  refl,
  ap,
  sym,
  ◌∙◌,
  arith,
  subst,
  append_assoc,
  length-take-le,
  length-drop,
  add-zero,
  append-nil,
}
use Rattle.std.proofs.Math.Seq.{take-add}
use Rattle.std.proofs.lemmas.List.{drop_at, take_at, drop_all, take_all, drop-drop, length-take}
use Rattle.shelf_io.specs.Buffer.{CopiesFront}
use Rattle.shelf_io.specs.Source.{without_front, Takes, FillsUp}

front_twice : (told : Option (List ℕ)) (k n : ℕ) → without_front (without_front told k) n ≡ without_front told (k + n)
front_twice None k n = refl
front_twice (Some bytes) k n = ap Some (drop-drop n k bytes)

-- to take k bytes and then n is to take k + n
pub takes_twice : (left mid after : Option (List ℕ)) (most most_mid most_after k n : ℕ) → Takes left mid most most_mid k
    → Takes mid after most_mid most_after n → Takes left after most most_after (k + n)
takes_twice left mid after most most_mid most_after k n first then = record {
  rest = then.rest ∙ ap (λ told. without_front told n) first.rest ∙ front_twice left k n;
  fewer = omega (arith, first.fewer, then.fewer);
}

-- what follows of the bytes of a source from what is known before and after some were taken
pub after_front : (told now : Option (List ℕ)) (done : ℕ) (P Q R : List ℕ → Type 0) → now ≡ without_front told done → IfSome told P → IfSome now Q
    → ((bytes : List ℕ) → P bytes → Q (drop done bytes) → R bytes) → IfSome told R
after_front None now done P Q R is before then f = tt
after_front (Some bytes) now done P Q R is before then f = f bytes before (subst (λ told. IfSome told Q) is then)

-- bytes that go into the part of a buffer behind those that it holds already
module _ (bytes old buf room : List ℕ) (done n : ℕ) (few : done ≤ length bytes) (front : buf ≡ take done bytes ++ drop done old)
    (fills : CopiesFront (drop done bytes) (take (length buf - done) (drop done buf)) room n) where
  -- they come behind these
  pub fills_more : take done buf ++ (room ++ drop (length buf - done) (drop done buf)) ≡ take (done + n) bytes ++ drop (done + n) old
  fills_more =
      let rest : length (drop done buf) ≤ length buf - done = omega (arith, length-drop done buf) in
      let here : length (take done bytes) ≡ done = length-take-le done bytes few in
      let behind : take (length buf - done) (drop done buf) ≡ drop done old = take_all (length buf - done) (drop done buf) rest ∙ ap (drop done) front
      ∙ drop_at (take done bytes) (drop done old) done here in
      ap (λ back. take done buf ++ (room ++ back)) (drop_all (length buf - done) (drop done buf) rest)
      ∙ ap (λ f. f ++ (room ++ [])) (ap (take done) front ∙ take_at (take done bytes) (drop done old) done here)
      ∙ ap (λ r. take done bytes ++ r) (append-nil room ∙ fills.front ∙ ap (λ part. take n (drop done bytes) ++ drop n part) behind)
      ∙ sym (append_assoc (take done bytes) _ _)
      ∙ ap (λ f. f ++ drop n (drop done old)) (sym (take-add done n bytes))
      ∙ ap (λ r. take (done + n) bytes ++ r) (drop-drop n done old)

  -- and are no more than there are
  pub few_more : done + n ≤ length bytes
  few_more = add_fits fills.within (length-drop done bytes)
    where
      add_fits : {rest : ℕ} → n ≤ rest → rest ≡ length bytes - done → done + n ≤ length bytes
      add_fits h is = omega arith

-- where none came, no bytes are left
pub full_or_end : (bytes old buf room : List ℕ) (done : ℕ) → done ≤ length bytes → done < length buf → length buf ≡ length old
    → buf ≡ take done bytes ++ drop done old → CopiesFront (drop done bytes) (take (length buf - done) (drop done buf)) room 0
    → FillsUp bytes old (take done buf ++ (room ++ drop (length buf - done) (drop done buf))) done
full_or_end bytes old buf room done few room_left same front fills = record {
  front = fills_more bytes old buf room done 0 few front fills ∙ ap (λ k. take k bytes ++ drop k old) (add-zero done);
  count = ended fills.progress (length-drop done bytes) (length-take (length buf - done) (drop done buf) ∙ ap (min (length buf - done)) (length-drop done buf));
}
  where
    ended : {rest part : ℕ} → (0 < part → 0 < rest → 0 < 0) → rest ≡ length bytes - done → part ≡ min (length buf - done) (length buf - done) → done ≡ min (length old) (length bytes)
    ended progress is_rest is_part = grind arith
