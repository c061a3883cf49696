-- What a sink got in several calls: what each function that puts bits by other ones needs. They speak of `Gets` and
-- `GetsFront`, so of `Puts` and `PutsFront` between states of a writer.
use Rattle.std.proofs.Common.{◌≡◌, ℕ, ◌+◌, ◌*◌, ◌%◌, List, [], ◌++◌, false, Result, Ok, Err, OnOk, IsErrAnd, length, refl, sym, ap, subst, ◌∙◌, arith, append_assoc, append-nil, length-append}
use Rattle.std.proofs.lemmas.Result.{on_ok_weaker, on_err_weaker}
use Rattle.shelf_io.specs.declared.fault.Fault.{Fault}
use Rattle.shelf_io.specs.Sink.{Told, with_bytes}
use Rattle.shelf_io.proofs.Written.{with_bytes-twice}
use Rattle.shelf_io.proofs.Counted.{rose_later}
use Rattle.bit_lists.specs.Fields.{bit_list}
use Rattle.bit_lists.proofs.ByteLemmas.{bit_list-append, length-bit_list, AreBytes-append}
use Rattle.bit_lists.proofs.PrefixLemmas.{IsPrefix-append, IsPrefix-behind, IsPrefix-through}
use Rattle.bit_cursor.specs.declared.bit_writer.BitWriter.{BitWriter}
use Rattle.bit_cursor.specs.BitWriter.{Gets, GetsFront, AddsBits, Writes, told_by, waiting_in, is_stopped, sink_of}
use Rattle.bit_cursor.proofs.Gets.{gets_none}

-- what was put in two calls, one after the other
pub gets_twice : {told mid after : Told} {waited first waits then still : List ℕ} → Gets told mid waited first waits → Gets mid after waits then still → Gets told after waited (first ++ then) still
gets_twice {told} {waited} {first} {waits} {then} {still} a b = record {
  bytes = a.bytes ++ b.bytes;
  are_bytes = AreBytes-append a.bytes b.bytes a.are_bytes b.are_bytes;
  at_the_end = b.at_the_end ∙ ap (λ t. with_bytes t b.bytes) a.at_the_end ∙ with_bytes-twice told a.bytes b.bytes;
  in_order = ap (λ bits. bits ++ still) (bit_list-append a.bytes b.bytes) ∙ append_assoc (bit_list a.bytes) (bit_list b.bytes) still ∙ ap (λ bits. bit_list a.bytes ++ bits) b.in_order
      ∙ sym (append_assoc (bit_list a.bytes) waits then) ∙ ap (λ bits. bits ++ then) a.in_order ∙ append_assoc waited first then;
}

-- and in two calls of which the second one failed
pub gets_then_front : {told mid after : Told} {waited first waits then : List ℕ} → Gets told mid waited first waits → GetsFront mid after waits then → GetsFront told after waited (first ++ then)
gets_then_front {told} {waited} {first} {waits} {then} a b =
    let order : bit_list a.bytes ++ (waits ++ then) ≡ waited ++ (first ++ then) =
    sym (append_assoc (bit_list a.bytes) waits then) ∙ ap (λ bits. bits ++ then) a.in_order ∙ append_assoc waited first then in
    record {
      bytes = a.bytes ++ b.bytes;
      are_bytes = AreBytes-append a.bytes b.bytes a.are_bytes b.are_bytes;
      at_the_end = b.at_the_end ∙ ap (λ t. with_bytes t b.bytes) a.at_the_end ∙ with_bytes-twice told a.bytes b.bytes;
      front = rw (bit_list-append a.bytes b.bytes, ← order) (IsPrefix-behind (bit_list a.bytes) (bit_list b.bytes) (waits ++ then) b.front);
    }

-- and in a call that failed, with more to come
pub gets_front_more : {told after : Told} {waited first : List ℕ} (more : List ℕ) → GetsFront told after waited first → GetsFront told after waited (first ++ more)
gets_front_more {waited} {first} more a = record {
  bytes = a.bytes;
  are_bytes = a.are_bytes;
  at_the_end = a.at_the_end;
  front = IsPrefix-through (bit_list a.bytes) (waited ++ first) (waited ++ (first ++ more)) a.front (rw (← append_assoc waited first more) (IsPrefix-append (waited ++ first) more));
}

-- the bits that stand behind a whole byte are all that stood and all that were put, but for the whole bytes among them
pub gets_odd : {told after : Told} {waited put waits : List ℕ} → Gets told after waited put waits → length waits % 8 ≡ (length waited + length put) % 8
gets_odd {waited} {put} {waits} a =
    let lengths : 8 * length a.bytes + length waits ≡ length waited + length put =
    ap (λ n. n + length waits) (sym (length-bit_list a.bytes)) ∙ sym (length-append (bit_list a.bytes) waits) ∙ ap (length {A = ℕ}) a.in_order ∙ length-append waited put in
    omega arith

pub odd_after : {told after : Told} {waited put waits : List ℕ} (n : ℕ) → length put ≡ n → Gets told after waited put waits → length waits % 8 ≡ (length waited % 8 + n) % 8
odd_after {waited} {put} {waits} n is a = let odd : length waits % 8 ≡ (length waited + length put) % 8 = gets_odd a in omega arith

-- what was put by a writer in which nothing waited and that was finished
pub gets_whole : {told mid after : Told} {put waits : List ℕ} → Gets told mid [] put waits → Gets mid after waits [] [] → AddsBits told after put
gets_whole {put} a b =
    let all = gets_twice a b in
    record {
      bytes = all.bytes;
      are_bytes = all.are_bytes;
      at_the_end = all.at_the_end;
      spelled = sym (append-nil (bit_list all.bytes)) ∙ all.in_order ∙ append-nil put;
    }

-- ---- how calls end

module _ {K : Type 0} {written : K → Told} {faults : K → ℕ} {keeps : K → K → Type 0} where
  -- nothing was put
  pub writes_none : {T : Type 0} (x : T) (a : BitWriter K) → ((first : K) → keeps first first) → is_stopped a ≡ false → Writes written faults keeps a a (Ok x) []
  writes_none x a keeps_itself goes = record {
    ok = gets_none (told_by written a) (waiting_in a) [] (waiting_in a) (sym (append-nil (waiting_in a)));
    err = tt;
    stopped = goes;
    failed = λ is. cc;
    never_missing = λ is. cc;
    counts = omega arith;
    kept = keeps_itself (sink_of a).now;
    same_sink = refl;
  }

  -- a call behind one that ended well
  pub writes_then : {T U : Type 0} {a b c : BitWriter K} {x : T} {r : Result U Fault} {xs ys : List ℕ} → ((first second third : K) → keeps first second → keeps second third → keeps first third)
      → Writes written faults keeps a b (Ok x) xs → Writes written faults keeps b c r ys → Writes written faults keeps a c r (xs ++ ys)
  writes_then {r} keeps_on first then = record {
    ok = on_ok_weaker r (gets_twice first.ok) then.ok;
    err = on_err_weaker r (gets_then_front first.ok) then.err;
    stopped = then.stopped;
    failed = λ is. rose_later _ _ _ first.counts then.counts (then.failed is);
    never_missing = then.never_missing;
    counts = omega (arith, first.counts, then.counts);
    kept = keeps_on _ _ _ first.kept then.kept;
    same_sink = then.same_sink ∙ first.same_sink;
  }

  -- a call that failed, with more to come behind it
  pub writes_no_more : {T U : Type 0} {a b : BitWriter K} {e : Fault} {xs : List ℕ} (more : List ℕ)
      → Writes {T = T} written faults keeps a b (Err e) xs → Writes {T = U} written faults keeps a b (Err e) (xs ++ more)
  writes_no_more more call = record {
    ok = tt;
    err = gets_front_more more call.err;
    stopped = call.stopped;
    failed = λ is. call.failed (let e = is in cc);
    never_missing = λ is. call.never_missing (let e = is in cc);
    counts = call.counts;
    kept = call.kept;
    same_sink = call.same_sink;
  }

  -- the same at the exit of a `?`
  pub writes_exit : {T U : Type 0} {a b : BitWriter K} {e : Fault} {xs : List ℕ} (r : Result U Fault) (more : List ℕ) → IsErrAnd r (λ f. f ≡ e)
      → Writes {T = T} written faults keeps a b (Err e) xs → Writes {T = U} written faults keeps a b r (xs ++ more)
  writes_exit (Ok x) more is call = absurd is
  writes_exit {U} {a} {b} {xs} (Err f) more is call = subst (λ (fault : Fault). Writes {T = U} written faults keeps a b (Err fault) (xs ++ more)) (sym is) (writes_no_more more call)

  -- what the sink holds at last, when a writer was made at a, put these bits up to b and was finished
  pub finished : {T U : Type 0} {a b : BitWriter K} {x : T} {bits put : List ℕ} {told : Told} (r : Result U Fault) (out : K) {last : K} → told_by written a ≡ told → waiting_in a ≡ []
      → Writes written faults keeps a b (Ok x) bits → OnOk r (Gets (told_by written b) (written out) (waiting_in b) [] []) → bits ≡ put → last ≡ out → OnOk r (AddsBits told (written last) put)
  finished {a} {b} {bits} (Ok x) out start none call ends are back =
      rw (← start, ← are, back) (gets_whole (subst (λ (waited : List ℕ). Gets (told_by written a) (told_by written b) waited bits (waiting_in b)) none call.ok) ends)
  finished (Err e) out start none call ends are back = tt
