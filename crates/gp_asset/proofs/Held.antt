-- The bytes of a buffer, from its parts.
use Rattle.std.proofs.Common.{◌≡◌, ℕ, ◌+◌, ◌<◌, ◌≤◌, Bool, true, false, not, List, [], ◌∷◌, ◌++◌, length, map, get_or, drop, nat_lt, Option, Some, None, Ok, Err, unwrap_or, refl, sym, ap, ◌∙◌, subst, arith}
use Rattle.std.specs.List.{list_all, range_with_len}
use Rattle.std.proofs.lemmas.Bool.{lt-ltb}
use Rattle.std.proofs.lemmas.Bool.Decides.{nat_tests}
use Rattle.std.proofs.lemmas.List.FromFn.{length-map-range_with_len, get_or-map-range_with_len}
use Rattle.std.proofs.lemmas.List.Folds.{list_all-map}
use Rattle.gp_tree.specs.declared.tree.Tree.{Tree, Members as an_object}
use Rattle.gp_tree.specs.declared.tree.Members.{Members}
use Rattle.gp_tree.specs.declared.tree.Member.{Member}
use Rattle.gp_tree.specs.Plain.{plain, plain_member, plain_members, plain_entries}
use Rattle.gp_tree.specs.Find.{object_members, member_list}
use Rattle.gp_tree.proofs.Firsts.{list_of, object_is}
use Rattle.gp_glb.specs.Uri.{code_of, uri_bytes}
use Rattle.gp_fields.specs.Fields.{BufferFields, ViewFields, key_of}
use Rattle.gp_rules.specs.declared.fault.AssetFault.TheVariants.{Buffer}
use Rattle.gp_rules.specs.declared.fault.AssetRefusal.{AssetRefusal}
use Rattle.gp_rules.specs.declared.fault.AssetRefusal.TheVariants.{Fault, Memory}
use Rattle.gp_asset.specs.declared.buffers.BufferBytes.{BufferBytes}
use Rattle.gp_fields.specs.Record.{◌>>=◌}
use Rattle.gp_rules.specs.Checks.{Checked, unless, each, Answers}
use Rattle.gp_asset.specs.Buffers.{is_marker, is_needed, bytes_of_uri, stored_bytes, buffer_bytes, bytes_if, buffer_of}
use Rattle.gp_asset.specs.Stored.{bytes_in, shown, present}
use Rattle.gp_rules.proofs.Each.{behind, next, stop}

-- ---- the text of a data URI

no_code : (text : List ℕ) → None ≡ code_of text → uri_bytes text ≡ None
unfolding uri_bytes
no_code text none = rw (← none) refl

decoded_by : (at : ℕ) (text bytes : List ℕ) (code : Option (List ℕ)) → code ≡ code_of text → uri_bytes text ≡ Some bytes → bytes_of_uri at (Some text) ≡ Ok bytes
decoded_by at text bytes None is has = absurd (let none = no_code text is in cc)
decoded_by at text bytes (Some code) is has = rw (← is, has) refl

pub decoded : (at : ℕ) (text bytes : List ℕ) (ascii : Option (List ℕ)) → Some text ≡ ascii → uri_bytes text ≡ Some bytes → bytes_of_uri at ascii ≡ Ok bytes
decoded at text bytes ascii is has = rw (← is) (decoded_by at text bytes (code_of text) refl has)

-- ---- the extensions of a buffer

pub all_markers : (tree : Tree) (ms : Members) (xs : List Member) (found : Bool) → tree ≡ an_object ms → plain_entries xs ≡ plain_members ms → found ≡ list_all (λ m. is_marker (key_of (plain_member m))) xs
    → found ≡ list_all is_marker (map key_of (object_members (plain tree)))
all_markers tree ms xs found tree_is listed is =
    let entries : object_members (plain tree) ≡ map plain_member xs = ap (λ t. object_members (plain t)) tree_is ∙ ap object_members (object_is ms) ∙ ap member_list (sym listed) ∙ list_of (map plain_member xs) in
    rw (entries, list_all-map is_marker key_of (map plain_member xs), list_all-map (λ m. is_marker (key_of m)) plain_member xs) is

-- ---- one buffer

abbrev pub wanted : Bool → Option (List ℕ) → ℕ → BufferFields → Checked (Option (List ℕ))
wanted needed bin at b = unless (not (list_all is_marker b.extensions)) (Buffer at) (bytes_if needed bin at b)

-- its stored bytes, where they aren't too few
abbrev pub enough : ℕ → ℕ → Checked (List ℕ) → Checked (Option (List ℕ))
enough least at stored = (stored >>= λ bytes. unless (nat_lt (length bytes) least) (Buffer at) (Ok bytes)) >>= λ bytes. Ok (Some bytes)

wanted_is : (bin : Option (List ℕ)) (at : ℕ) (b : BufferFields) (found needed : Bool) → found ≡ not (list_all is_marker b.extensions) → found ≡ false → needed ≡ true
    → wanted needed bin at b ≡ enough b.length at (stored_bytes bin at b.uri)
unfolding buffer_bytes
wanted_is bin at b found needed is none yes_needed = rw (← is, none, yes_needed) refl

refused_store : (least at : ℕ) (stored : Checked (List ℕ)) (refusal : AssetRefusal) → Answers (present stored) bytes_in (Err refusal) → Answers (enough least at stored) bytes_in (Err refusal)
refused_store least at (Ok bytes) (Fault fault) e = absurd (cc)
refused_store least at (Err found) (Fault fault) e = let d : found ≡ fault = cc in rw d refl
refused_store least at stored Memory e = tt

pub refused : (bin : Option (List ℕ)) (at : ℕ) (b seen : BufferFields) (found needed : Bool) (refusal : AssetRefusal) → seen ≡ b → found ≡ not (list_all is_marker b.extensions) → found ≡ false → needed ≡ true
    → Answers (present (stored_bytes bin at seen.uri)) bytes_in (Err refusal) → Answers (wanted needed bin at b) bytes_in (Err refusal)
refused bin at b seen found needed refusal same is none yes_needed e =
    let own = subst (λ (x : BufferFields). Answers (present (stored_bytes bin at x.uri)) bytes_in (Err refusal)) same e in
    subst (λ (w : Checked (Option (List ℕ))). Answers w bytes_in (Err refusal)) (sym (wanted_is bin at b found needed is none yes_needed)) (refused_store b.length at (stored_bytes bin at b.uri) refusal own)

short_store : (least at : ℕ) (stored : Checked (List ℕ)) (held : Option (List ℕ)) (now : List ℕ) → present stored ≡ Ok held → now ≡ unwrap_or held [] → length now < least → enough least at stored ≡ Err (Buffer at)
short_store least at (Err fault) held now e is few = absurd (cc)
short_store least at (Ok bytes) held now e is few =
    let d : Some bytes ≡ held = cc in
    let all : now ≡ bytes = is ∙ ap (λ o. unwrap_or o []) (sym d) in
    let less : nat_lt (length bytes) least ≡ true = rw (← all) (lt-ltb (length now) least few) in
    rw less refl

pub short : (bin : Option (List ℕ)) (at : ℕ) (b seen : BufferFields) (found needed : Bool) (held : BufferBytes) (now : List ℕ) → seen ≡ b → found ≡ not (list_all is_marker b.extensions) → found ≡ false → needed ≡ true
    → present (stored_bytes bin at seen.uri) ≡ Ok (bytes_in held) → now ≡ shown held → length now < seen.length → wanted needed bin at b ≡ Err (Buffer at)
short bin at b seen found needed held now same is none yes_needed e shows few =
    let own : present (stored_bytes bin at b.uri) ≡ Ok (bytes_in held) = ap (λ x. present (stored_bytes bin at x.uri)) (sym same) ∙ e in
    let long : length now < b.length = rw (← same) few in
    wanted_is bin at b found needed is none yes_needed ∙ short_store b.length at (stored_bytes bin at b.uri) (bytes_in held) now own shows long

whole_store : (least at : ℕ) (stored : Checked (List ℕ)) (held : Option (List ℕ)) (now : List ℕ) → present stored ≡ Ok held → now ≡ unwrap_or held [] → least ≤ length now → enough least at stored ≡ Ok held
whole_store least at (Err fault) held now e is many = absurd (cc)
whole_store least at (Ok bytes) held now e is many =
    let d : Some bytes ≡ held = cc in
    let all : now ≡ bytes = is ∙ ap (λ o. unwrap_or o []) (sym d) in
    let more : least ≤ length bytes = rw (← all) many in
    let less : nat_lt (length bytes) least ≡ false = grind (arith, nat_tests) in
    rw less (ap Ok d)

pub whole : (bin : Option (List ℕ)) (at : ℕ) (b seen : BufferFields) (found needed : Bool) (held : BufferBytes) (now : List ℕ) → seen ≡ b → found ≡ not (list_all is_marker b.extensions) → found ≡ false → needed ≡ true
    → present (stored_bytes bin at seen.uri) ≡ Ok (bytes_in held) → now ≡ shown held → seen.length ≤ length now → wanted needed bin at b ≡ Ok (bytes_in held)
whole bin at b seen found needed held now same is none yes_needed e shows many =
    let own : present (stored_bytes bin at b.uri) ≡ Ok (bytes_in held) = ap (λ x. present (stored_bytes bin at x.uri)) (sym same) ∙ e in
    let long : b.length ≤ length now = rw (← same) many in
    wanted_is bin at b found needed is none yes_needed ∙ whole_store b.length at (stored_bytes bin at b.uri) (bytes_in held) now own shows long

-- ---- all buffers

pub marks : (views : List ViewFields) (needed : List Bool) (n : ℕ) → needed ≡ map (is_needed views) (range_with_len 0 n) → length needed ≡ n
marks views needed n e = rw e (length-map-range_with_len (is_needed views) 0 n)

needed_at : (views : List ViewFields) (needed : List Bool) (n at : ℕ) (now : Bool) → needed ≡ map (is_needed views) (range_with_len 0 n) → at < n → now ≡ get_or needed at now → now ≡ is_needed views at
needed_at views needed n at now e within is = is ∙ ap (λ xs. get_or xs at now) e ∙ get_or-map-range_with_len (is_needed views) 0 n at at now within (omega arith)

pub one_buffer : (views : List ViewFields) (needed : List Bool) (bin : Option (List ℕ)) (bs : List BufferFields) (at : ℕ) (b : BufferFields) (now : Bool) → needed ≡ map (is_needed views) (range_with_len 0 (length bs)) → at < length bs
    → now ≡ get_or needed at now → b ≡ get_or bs at b → buffer_of views bin at (get_or bs at b) ≡ wanted now bin at b
unfolding buffer_of
one_buffer views needed bin bs at b now e within is own =
    rw (← own, ← needed_at views needed (length bs) at now e within is) refl

pub stopped : {C D : Type 0} (f : ℕ → BufferFields → Checked (Option (List ℕ))) (bs : List BufferFields) (at : ℕ) (b : BufferFields) (done : List (Option (List ℕ))) (one : Checked (Option (List ℕ))) (refusal : AssetRefusal) (value : C → Option (List ℕ)) (all : D → List (Option (List ℕ)))
    → at < length bs → f at (get_or bs at b) ≡ one → Answers one value (Err refusal) → each f 0 bs ≡ behind done (each f at (drop at bs)) → Answers (each f 0 bs) all (Err refusal)
stopped f bs at b done one (Fault fault) value all within is e so_far = so_far ∙ stop f bs at b done fault within (is ∙ e)
stopped f bs at b done one Memory value all within is e so_far = tt

held_push : (xs : List BufferBytes) (x : BufferBytes) → map bytes_in xs ++ bytes_in x ∷ [] ≡ map bytes_in (xs ++ x ∷ [])
held_push [] x = refl
held_push (y ∷ xs) x = ap (λ rest. bytes_in y ∷ rest) (held_push xs x)

pub pushed : (f : ℕ → BufferFields → Checked (Option (List ℕ))) (bs : List BufferFields) (at : ℕ) (b : BufferFields) (read longer : List BufferBytes) (x : BufferBytes) (one : Checked (Option (List ℕ)))
    → at < length bs → f at (get_or bs at b) ≡ one → one ≡ Ok (bytes_in x) → longer ≡ read ++ x ∷ []
    → each f 0 bs ≡ behind (map bytes_in read) (each f at (drop at bs)) → each f 0 bs ≡ behind (map bytes_in longer) (each f (at + 1) (drop (at + 1) bs))
pushed f bs at b read longer x one within is e more so_far =
    so_far ∙ next f bs at b (map bytes_in read) (bytes_in x) within (is ∙ e) ∙ ap (λ xs. behind xs (each f (at + 1) (drop (at + 1) bs))) (held_push read x ∙ ap (map bytes_in) (sym more))
