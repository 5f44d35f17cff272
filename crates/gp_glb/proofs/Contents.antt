-- The code and the bytes of a text, as functions and as relations.
use Rattle.std.proofs.Common.{◌≡◌, inl, inr, ◌⊎◌, ℕ, suc, List, [], ◌∷◌, ◌++◌, Some, None, Option, Ok, Err, Result, IsSome, codes, drop, length, nat_eq, ap, refl, sym, subst, ◌∙◌}
use Rattle.std.proofs.lemmas.List.{drop_at}
use Rattle.std.proofs.lemmas.Slice.Eq.{starts_is}
use Rattle.std.proofs.lemmas.Bool.{cases_Bool}
use Rattle.std.proofs.lemmas.Bool.Decides.{Decides-eqb}
use Rattle.std.specs.List.{starts_with}
use Rattle.std.specs.Option.{option_or, option_and_then}
use Rattle.std.specs.Result.{result_ok}
use Rattle.base64.specs.GeneralPurpose.{IsBytes, decode_of, decoded_of}
use Rattle.base64.specs.Engines.{standard}
use Rattle.base64.specs.declared.decode.DecodeError.{DecodeError}
use Rattle.base64.proofs.EngineFacts.{decode_of-encode_of, decode_of_strict}
use Rattle.gp_glb.specs.Laws.{CodesAgree, ContentsAgree, HaveOneCode, HaveOneContent}
use Rattle.gp_glb.specs.Uri.{HasCode, HasOtherCode, HasOtherScheme, Holds, code_of, strip_prefix, uri_bytes}
use Rattle.gp_glb.proofs.DecodedBytes.{decoded_are_bytes}
use Rattle.gp_glb.proofs.Prefixes.{other_prefix}

some_same : (one other : List ℕ) → Some one ≡ Some other → one ≡ other
some_same one other h = cc h

some_none : (x : List ℕ) → Some x ≡ None → ⊥
some_none x h = cc h

none_by : (o : Option (List ℕ)) → ((x : List ℕ) → o ≡ Some x → ⊥) → o ≡ None
none_by None h = refl
none_by (Some x) h = absurd (h x refl)

abbrev stream_prefix : List ℕ
stream_prefix = codes "data:application/octet-stream;base64,"

abbrev buffer_prefix : List ℕ
buffer_prefix = codes "data:application/gltf-buffer;base64,"

of_two : (one other : Option (List ℕ)) (x : List ℕ) → option_or one other ≡ Some x → (one ≡ Some x) ⊎ (other ≡ Some x)
of_two None other x h = inr h
of_two (Some y) other x h = inl h

stripped : (prefix text rest : List ℕ) → strip_prefix prefix text ≡ Some rest → text ≡ prefix ++ rest
unfolding strip_prefix
stripped prefix text rest h = elim (cases_Bool (starts_with nat_eq text prefix)) [
  | inl begins ↦
      let same : drop (length prefix) text ≡ rest = cc (rw begins at h) in
      (starts_is Decides-eqb text prefix (starts_with nat_eq text prefix) refl).0 begins ∙ ap (λ xs. prefix ++ xs) same
  | inr other ↦ cc (rw other at h)
]

strips : (prefix text rest : List ℕ) → text ≡ prefix ++ rest → strip_prefix prefix text ≡ Some rest
unfolding strip_prefix
strips prefix text rest e =
    let begins = (starts_is Decides-eqb text prefix (starts_with nat_eq text prefix) refl).1 rest e in
    rw begins (ap Some (ap (drop (length prefix)) e ∙ drop_at prefix rest (length prefix) refl))

pub finds_code : (text code : List ℕ) → HasCode text code → code_of text ≡ Some code
unfolding code_of
finds_code text code (inl e) = rw (strips stream_prefix text code e) refl
finds_code text code (inr e) =
    let other = none_by (strip_prefix stream_prefix text) (λ one h. other_prefix one code (sym (stripped stream_prefix text one h) ∙ e)) in
    rw (other, strips buffer_prefix text code e) refl

has_code : (text code : List ℕ) → code_of text ≡ Some code → HasCode text code
unfolding code_of
has_code text code h = elim (of_two (strip_prefix stream_prefix text) (strip_prefix buffer_prefix text) code h) [ inl one ↦ inl (stripped stream_prefix text code one) | inr other ↦ inr (stripped buffer_prefix text code other) ]

pub codes_agree : CodesAgree
codes_agree text code = (has_code text code, finds_code text code)

pub have_one_code : HaveOneCode
have_one_code text one other h k = some_same one other (sym (finds_code text one h) ∙ finds_code text other k)

pub finds_no_code : (text : List ℕ) → HasOtherScheme text → code_of text ≡ None
finds_no_code text other = none_by (code_of text) (λ code h. other code (has_code text code h))

pub has_some_code : (text code : List ℕ) → HasCode text code → IsSome (code_of text)
has_some_code text code h = rw (finds_code text code h) refl

-- ---- bytes

pub finds_bytes : (text code bytes : List ℕ) → HasCode text code → decode_of standard code ≡ Ok bytes → uri_bytes text ≡ Some bytes
unfolding uri_bytes decoded_of
finds_bytes text code bytes h decoded = rw (finds_code text code h) (ap result_ok decoded)

pub finds_no_bytes : (text code : List ℕ) (e : DecodeError) → HasCode text code → decode_of standard code ≡ Err e → uri_bytes text ≡ None
unfolding uri_bytes decoded_of
finds_no_bytes text code e h failed = rw (finds_code text code h) (ap result_ok failed)

is_ok : {A E : Type 0} (r : Result A E) (x : A) → result_ok r ≡ Some x → r ≡ Ok x
is_ok (Ok y) x h = cc h
is_ok (Err e) x h = cc h

-- what an option leads to, where that is something
leads : (code : Option (List ℕ)) (bytes : List ℕ) → option_and_then (decoded_of standard) code ≡ Some bytes → (found : List ℕ) × (code ≡ Some found) × (decode_of standard found ≡ Ok bytes)
unfolding decoded_of
leads None bytes h = cc h
leads (Some found) bytes h = (found, refl, is_ok _ bytes h)

back_bytes : (front back : List ℕ) → IsBytes (front ++ back) → IsBytes back
back_bytes [] back h = h
back_bytes (x ∷ front) back h = back_bytes front back (λ i. h (suc i))

code_bytes : (text code : List ℕ) → IsBytes text → HasCode text code → IsBytes code
code_bytes text code bytes (inl e) = back_bytes stream_prefix code (subst IsBytes e bytes)
code_bytes text code bytes (inr e) = back_bytes buffer_prefix code (subst IsBytes e bytes)

holds_bytes : (text bytes : List ℕ) → IsBytes text → uri_bytes text ≡ Some bytes → Holds text bytes
unfolding uri_bytes
holds_bytes text bytes from h =
    let found = leads (code_of text) bytes h in
    let has = has_code text found.0 found.1 in
    let within = code_bytes text found.0 from has in
    (found.0, has, (decoded_are_bytes standard found.0 bytes within found.2, decode_of_strict standard found.0 bytes (refl, refl) within found.2))

finds_held : (text bytes : List ℕ) → Holds text bytes → uri_bytes text ≡ Some bytes
finds_held text bytes h = finds_bytes text h.0 bytes h.1 (ap (decode_of standard) h.2.1 ∙ decode_of-encode_of standard bytes refl h.2.0)

pub contents_agree : ContentsAgree
contents_agree text bytes from = (holds_bytes text bytes from, finds_held text bytes)

pub have_one_content : HaveOneContent
have_one_content text one other h k = some_same one other (sym (finds_held text one h) ∙ finds_held text other k)

pub has_other_code : (text code : List ℕ) → HasCode text code → uri_bytes text ≡ None → HasOtherCode text
has_other_code text code h none = (code, h, λ bytes e. some_none bytes (sym (finds_held text bytes (code, h, e)) ∙ none))
