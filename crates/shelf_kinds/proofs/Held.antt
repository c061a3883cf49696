-- The files of a table in memory, looked up by the bytes of their names.
use Rattle.std.proofs.Common.{◌≡◌, ℕ, List, ◌∷◌, [], ◌++◌, Bool, true, false, cond, Option, None, Some, unwrap_or, Result, Ok, Err, is_ok, OnOk, OnErr, String, Vec, map, refl, ap, sym, ◌∙◌}
use Rattle.std.specs.Option.{option_map}
use Rattle.std.specs.Ordering.{nat_cmp, is_eq, eq_by_cmp}
use Rattle.std.specs.Cmp.{Equal-is, eq_by_cmp_equiv}
use Rattle.std.specs.Cmp.Lexicographic.{slice_cmp, nat_list_cmp_total}
use Rattle.std.specs.Str.{bytes_eq}
use Rattle.std.specs.String.{string_bytes, string_cmp}
use Rattle.std.specs.Map.{lookup}
use Rattle.std.specs.BTreeMap.{BTreeMap, UpdatesBy, get_by_text}
use Rattle.std.specs.FinMap.{get, find, insert, get-from_entries, get-insert, same_map, slice_cmp-IsAntisymmetric, nat_cmp-IsAntisymmetric}
use Rattle.std.proofs.lemmas.Map.Text.{is_eq-slice_cmp, btree_map_updates_text}
use Rattle.shelf_io.specs.Files.{Files, content_of}
use Rattle.shelf_kinds.specs.Private.FileTable.{files_of}

chosen : {X Y : Type 0} (f : X → Y) (b : Bool) (x : X) (o : Option X) → cond b (Some (f x)) (option_map f o) ≡ option_map f (cond b (Some x) o)
chosen f true x o = refl
chosen f false x o = refl

find_content : {A B : Type 0} (es : List (String A × Vec ℕ B)) (q : List ℕ)
    → find (slice_cmp nat_cmp) q (map (λ e. (string_bytes e.0, e.1.items)) es)
    ≡ option_map (λ v. v.items) (lookup (λ k. is_eq (slice_cmp nat_cmp q (string_bytes k))) es)
find_content [] q = refl
find_content (e ∷ es) q =
    ap (cond (is_eq (slice_cmp nat_cmp q (string_bytes e.0))) (Some e.1.items)) (find_content es q)
    ∙ chosen (λ v. v.items) (is_eq (slice_cmp nat_cmp q (string_bytes e.0))) e.1 _

-- what the files of a table have under a name is what the table has
pub get-files_of : {A B : Type 0} (table : BTreeMap (String A) (Vec ℕ B)) (q : List ℕ) → get (files_of table) q ≡ option_map (λ v. v.items) (get_by_text table q)
get-files_of table q = get-from_entries nat_list_cmp_total _ q ∙ find_content table.entries q

-- a table that changed at one name has other files there, and the same elsewhere
pub files_of_updated : {A B : Type 0} (name : List ℕ) (old new : BTreeMap (String A) (Vec ℕ B)) (v : Vec ℕ B)
    → UpdatesBy string_cmp (λ k. slice_cmp nat_cmp name (string_bytes k)) old new (Some v) → files_of new ≡ insert (files_of old) name v.items
files_of_updated name old new v updates = same_map nat_list_cmp_total (slice_cmp-IsAntisymmetric nat_cmp-IsAntisymmetric) _ _ (λ q.
    get-files_of new q
    ∙ ap (option_map (λ w. w.items)) (btree_map_updates_text name old new (Some v) updates q)
    ∙ sym (chosen (λ w. w.items) (bytes_eq name q) v (get_by_text old q))
    ∙ ap (λ b. cond b (Some v.items) (option_map (λ w. w.items) (get_by_text old q))) (sym (is_eq-slice_cmp name q) ∙ (eq_by_cmp_equiv nat_list_cmp_total).symm name q)
    ∙ ap (cond (eq_by_cmp (slice_cmp nat_cmp) q name) (Some v.items)) (sym (get-files_of old q))
    ∙ sym (get-insert nat_list_cmp_total (files_of old) name v.items q))

same_choice : (b : Bool) (name q : List ℕ) (m : Files) (bytes : List ℕ) → (b ≡ true → q ≡ name) → get m name ≡ Some bytes → cond b (Some bytes) (get m q) ≡ get m q
same_choice true name q m bytes same is = sym is ∙ ap (get m) (sym (same refl))
same_choice false name q m bytes same is = refl

-- to give a file the content that it has changes nothing
pub insert_same : (m : Files) (name bytes : List ℕ) → get m name ≡ Some bytes → insert m name bytes ≡ m
insert_same m name bytes is = same_map nat_list_cmp_total (slice_cmp-IsAntisymmetric nat_cmp-IsAntisymmetric) _ _ (λ q.
    get-insert nat_list_cmp_total m name bytes q
    ∙ same_choice (eq_by_cmp (slice_cmp nat_cmp) q name) name q m bytes (λ same. slice_cmp-IsAntisymmetric nat_cmp-IsAntisymmetric q name ((Equal-is _).0 same)) is)

-- a held file whose vector grew: its content is the old one and the piece
pub appended_ok : {A B T E : Type 0} (name piece : List ℕ) (old new : BTreeMap (String A) (Vec ℕ B)) (content grown : Vec ℕ B) (was : Files)
    (r : Result T E) → UpdatesBy string_cmp (λ k. slice_cmp nat_cmp name (string_bytes k)) old new (Some grown) → Some content ≡ get_by_text old name
    → grown.items ≡ cond (is_ok r) (content.items ++ piece) content.items → files_of old ≡ was
    → OnOk r (files_of new ≡ insert was name (content_of was name ++ piece))
appended_ok name piece old new content grown was (Ok x) updates is items view =
    files_of_updated name old new grown updates
    ∙ ap (insert (files_of old) name) (items ∙ ap (λ o. unwrap_or o [] ++ piece) (ap (option_map (λ v. v.items)) is ∙ sym (get-files_of old name)))
    ∙ ap (λ files. insert files name (content_of files name ++ piece)) view
appended_ok name piece old new content grown was (Err e) updates is items view = tt

-- and where it could not grow nothing changed
pub appended_err : {A B T E : Type 0} (name piece : List ℕ) (old new : BTreeMap (String A) (Vec ℕ B)) (content grown : Vec ℕ B) (was : Files)
    (r : Result T E) → UpdatesBy string_cmp (λ k. slice_cmp nat_cmp name (string_bytes k)) old new (Some grown) → Some content ≡ get_by_text old name
    → grown.items ≡ cond (is_ok r) (content.items ++ piece) content.items → files_of old ≡ was → OnErr r (files_of new ≡ was)
appended_err name piece old new content grown was (Ok x) updates is items view = tt
appended_err name piece old new content grown was (Err e) updates is items view =
    files_of_updated name old new grown updates
    ∙ ap (insert (files_of old) name) items
    ∙ insert_same (files_of old) name content.items (get-files_of old name ∙ ap (option_map (λ v. v.items)) (sym is))
    ∙ view

-- a file that wasn't held gets the piece alone
pub appended_absent : {A B T E : Type 0} (name piece : List ℕ) (old : BTreeMap (String A) (Vec ℕ B)) (was mid new : Files) (bytes : List ℕ)
    (r : Result T E) → None ≡ get_by_text old name → files_of old ≡ was → mid ≡ was → bytes ≡ piece → OnOk r (new ≡ insert mid name bytes)
    → OnOk r (new ≡ insert was name (content_of was name ++ piece))
appended_absent name piece old was mid new bytes (Ok x) none view same copied ok =
    ok ∙ ap (λ files. insert files name bytes) same
    ∙ ap (insert was name) (copied ∙ ap (λ o. unwrap_or o [] ++ piece) (ap (option_map (λ v. v.items)) none ∙ sym (get-files_of old name) ∙ ap (λ files. get files name) view))
appended_absent name piece old was mid new bytes (Err e) none view same copied ok = tt
