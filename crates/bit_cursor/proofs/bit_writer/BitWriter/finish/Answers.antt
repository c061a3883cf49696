use Rattle.std.proofs.Common.{◌≡◌, ◌+◌, ◌-◌, ◌*◌, ◌/◌, ◌%◌, ◌<◌, ℕ, List, [], ◌++◌, length, take, replicate, ap, sym, ◌∙◌, arith, length-append}
use Rattle.std.proofs.lemmas.List.{length-replicate}
use Rattle.bit_lists.specs.Fields.{bit_list}
use Rattle.bit_cursor.proofs.Gets.{gets_bytes, gets_front, whole_bytes}
use Rattle.bit_lists.proofs.ByteLemmas.{AreBytes-take, length-bit_list}
use Rattle.bit_cursor.proofs.bit_writer.BitWriter.finish.Goals as goal

-- the bytes that go out are those of what waits
whole : (count : ℕ) (bytes waiting : List ℕ) → count ≡ length waiting → count < 32 → length waiting % 8 ≡ 0
    → bit_list bytes ≡ waiting ++ replicate (32 - length waiting) 0 → bit_list (take (count / 8) bytes) ++ [] ≡ waiting ++ []
whole count bytes waiting is few odd filled =
    let zeros : List ℕ = replicate (32 - length waiting) 0 in
    let lengths : 8 * length bytes ≡ length waiting + length zeros = sym (length-bit_list bytes) ∙ ap (length {A = ℕ}) filled ∙ length-append waiting zeros in
    let four : 8 * length bytes ≡ length waiting + (32 - length waiting) = lengths ∙ ap (λ n. length waiting + n) (length-replicate {A = ℕ} (32 - length waiting) 0) in
    whole_bytes (count / 8) bytes waiting zeros (omega arith) (omega arith) filled

pub returns-clause-ok : goal.returns-clause-ok
returns-clause-ok g c =
    gets_bytes c.put_all.result _ _ (take (c.count-count.result / 8) c.filled_up-bytes.result) c.args.self.waiting [] []
    (AreBytes-take (c.count-count.result / 8) c.filled_up-bytes.result c.filled_up-bytes.ensures.bytes)
    (whole c.count-count.result c.filled_up-bytes.result c.args.self.waiting c.count-count.ensures.count c.count-count.ensures.few c.requires.whole c.filled_up-bytes.ensures.bits) c.put_all.ensures.ok

pub returns-clause-err : goal.returns-clause-err
returns-clause-err g c =
    gets_front c.put_all.result _ _ (take (c.count-count.result / 8) c.filled_up-bytes.result) c.args.self.waiting [] []
    (AreBytes-take (c.count-count.result / 8) c.filled_up-bytes.result c.filled_up-bytes.ensures.bytes)
    (whole c.count-count.result c.filled_up-bytes.result c.args.self.waiting c.count-count.ensures.count c.count-count.ensures.few c.requires.whole
    c.filled_up-bytes.ensures.bits) c.put_all.ensures.err
