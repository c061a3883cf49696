-- Drawn things that are written one behind the other.
use Rattle.std.proofs.Common.{◌≡◌, ◌+◌, ℕ, List, [], ◌∷◌, ◌++◌, Ok, Err, OnOk, Result, sym, ap, subst, ◌∙◌, append-nil, Bool}
use Rattle.std.specs.List.{flat_map, range_with_len}
use Rattle.std.proofs.lemmas.List.Concat.{flat_map-append}
use Rattle.shelf_io.specs.declared.fault.Fault.{Fault}
use Rattle.shelf_io.specs.Sink.{Told, with_bytes}
use Rattle.shelf_io.specs.Sink.Told.{Bytes, Number, Nothing}
use Rattle.bit_lists.specs.Fields.{AreBytes, bit_list}
use Rattle.bit_lists.proofs.ByteLemmas.{AreBytes-append, bit_list-append}
use Rattle.picture_grammar.specs.Written.{IsWritten, written_picture}
use Rattle.bit_cursor.specs.declared.bit_writer.BitWriter.{BitWriter}
use Rattle.bit_cursor.specs.BitWriter.{Gets, AddsBits, Writes, told_by, waiting_in}
use Rattle.bit_cursor.proofs.Composed.{gets_whole}
use Rattle.macroblock_writer.specs.Private.Going.{GoesOn}
use Rattle.macroblock_writer.proofs.Going.{goes-as, goes-then}
use Rattle.macroblock_writer.specs.Private.WholeSlices.{written_whole_slice}
use Rattle.program_maker.specs.Draws.{Drawn, draw_each}
use Rattle.program_maker.specs.Heads.{coding_of, is_predicted, head_of}
use Rattle.program_maker.specs.Pictures.{drawn_slices, drawn_picture}
use Rattle.program_maker.proofs.HeadBytes.{head-are}
use Rattle.program_maker.proofs.Drawing.{each-more}

module _ {K : Type 0} {written : K → Told} where
  pub goes-from : {T : Type 0} {faults : K → ℕ} {keeps : K → K → Type 0} {a b : BitWriter K} {x : T} {xs : List ℕ} → Writes written faults keeps a b (Ok x) xs → GoesOn written a b xs
  goes-from call = record { puts = call.ok; goes = call.stopped; same_sink = call.same_sink }

  pub goes-on_ok : {T : Type 0} {faults : K → ℕ} {keeps : K → K → Type 0} {a b c : BitWriter K} {xs ys zs : List ℕ} (r : Result T Fault)
      → GoesOn written a b xs → Writes written faults keeps b c r ys → xs ++ ys ≡ zs → OnOk r (GoesOn written a c zs)
  goes-on_ok (Ok x) first call e = goes-as (goes-then first (goes-from call)) e
  goes-on_ok (Err f) first call e = tt

  -- what was put by a writer in which nothing waited and that was finished
  pub goes-finished : {U : Type 0} {a b : BitWriter K} {bits : List ℕ} {told : Told} (r : Result U Fault) (out : K) {last : K} → told_by written a ≡ told → waiting_in a ≡ []
      → GoesOn written a b bits → OnOk r (Gets (told_by written b) (written out) (waiting_in b) [] []) → last ≡ out → OnOk r (AddsBits told (written last) bits)
  goes-finished {a} {b} {bits} (Ok x) out start none goes ends back =
      rw (← start, back) (gets_whole (subst (λ (waited : List ℕ). Gets (told_by written a) (told_by written b) waited bits (waiting_in b)) none goes.puts) ends)
  goes-finished (Err e) out start none goes ends back = tt

pub on_ok : {T E P : Type 0} (r : Result T E) → P → OnOk r P
on_ok (Ok x) p = p
on_ok (Err e) p = tt

module _ {A : Type 0} (thing : ℕ → Drawn A) (bits : A → List ℕ) where
  -- the bits of one more thing stand behind those of the others
  pub bits-more : (n start : ℕ)
      → flat_map bits (draw_each (range_with_len 0 n) thing start).0 ++ bits (thing n (draw_each (range_with_len 0 n) thing start).1).0
      ≡ flat_map bits (draw_each (range_with_len 0 (n + 1)) thing start).0
  bits-more n start =
      let before = (draw_each (range_with_len 0 n) thing start).0 in
      let x = (thing n (draw_each (range_with_len 0 n) thing start).1).0 in
      sym (ap (flat_map bits) (each-more thing n start) ∙ flat_map-append bits before (x ∷ []) ∙ ap (λ ys. flat_map bits before ++ ys) (append-nil (bits x)))

-- ---- a whole picture

bytes_of : Told → List ℕ
bytes_of (Bytes bytes) = bytes
bytes_of (Number n) = []
bytes_of Nothing = []

same-bytes : (xs ys : List ℕ) → Bytes xs ≡ Bytes ys → xs ≡ ys
unfolding bytes_of
same-bytes xs ys e = ap bytes_of e

-- the head, then the slices in whole bytes
pub made-picture : (k state : ℕ) (predicted : Bool) (first mid last given : List ℕ) → first ≡ [] → Bytes mid ≡ with_bytes (Bytes first) (head_of k) → predicted ≡ is_predicted k
    → AddsBits (Bytes mid) (Bytes last) (flat_map (written_whole_slice (coding_of predicted)) (drawn_slices predicted state).0) → given ≡ last
    → IsWritten (drawn_picture k state).0 given
unfolding drawn_picture written_picture
made-picture k state predicted first mid last given none head is adds same =
    let slices : Bool → List ℕ = λ p. flat_map (written_whole_slice (coding_of p)) (drawn_slices p state).0 in
    let mid_is : mid ≡ head_of k = same-bytes mid (first ++ head_of k) head ∙ ap (λ xs. xs ++ head_of k) none in
    let bytes : given ≡ head_of k ++ adds.bytes = same ∙ same-bytes last (mid ++ adds.bytes) adds.at_the_end ∙ ap (λ xs. xs ++ adds.bytes) mid_is in
    let bits : bit_list given ≡ bit_list (head_of k) ++ slices (is_predicted k) =
    ap bit_list bytes ∙ bit_list-append (head_of k) adds.bytes ∙ ap (λ b. bit_list (head_of k) ++ b) (adds.spelled ∙ ap slices is) in (
      subst AreBytes (sym bytes) (AreBytes-append (head_of k) adds.bytes (head-are k) adds.are_bytes),
      bits ∙ sym (append-nil (bit_list (head_of k) ++ slices (is_predicted k))),
    )
