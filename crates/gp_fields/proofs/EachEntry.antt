-- Reading members that are all references to accessors, one by one.
use Rattle.std.specs.Prelude.{option_map, option_and_then}
use Rattle.std.proofs.Common.{◌≡◌, ℕ, ◌+◌, ◌<◌, ◌≤◌, Some, None, List, [], ◌∷◌, ◌++◌, length, map, get_or, drop, ap, ◌∙◌, append-nil}
use Rattle.std.proofs.lemmas.List.{drop_more, drop_all}
use Rattle.gp_tree.specs.declared.tree.Member.{Member}
use Rattle.gp_tree.specs.Plain.{plain_member, plain_entries, members}
use Rattle.gp_tree.proofs.Firsts.{list_of}
use Rattle.gp_fields.specs.declared.geometry.Entry.{Entry}
use Rattle.gp_fields.specs.Fields.{entry_of, entries_of, entries_fields}
use Rattle.gp_fields.proofs.Each.{behind, behind_none, behind_one}

pub begin : (n : ℕ) (ms : List Member) → entries_fields n (members (plain_entries ms)) ≡ behind [] (entries_of n (map plain_member ms))
begin n ms = ap (entries_of n) (list_of (map plain_member ms)) ∙ behind_none (entries_of n (map plain_member ms))

pub next : (n : ℕ) (ms : List Member) (k : ℕ) (d : Member) (done : List Entry) (a : Entry)
    → k < length ms → entry_of n (plain_member (get_or ms k d)) ≡ Some a
    → behind done (entries_of n (map plain_member (drop k ms))) ≡ behind (done ++ a ∷ []) (entries_of n (map plain_member (drop (k + 1) ms)))
next n ms k d done a within e =
    ap (λ xs. behind done (entries_of n (map plain_member xs))) (drop_more ms k d within)
    ∙ ap (λ o. behind done (option_and_then (λ b. option_map (λ rest. b ∷ rest) (entries_of n (map plain_member (drop (k + 1) ms)))) o)) e
    ∙ behind_one done a (entries_of n (map plain_member (drop (k + 1) ms)))

pub stop : (n : ℕ) (ms : List Member) (k : ℕ) (d : Member) (done : List Entry)
    → k < length ms → entry_of n (plain_member (get_or ms k d)) ≡ None
    → behind done (entries_of n (map plain_member (drop k ms))) ≡ None
stop n ms k d done within e =
    ap (λ xs. behind done (entries_of n (map plain_member xs))) (drop_more ms k d within)
    ∙ ap (λ o. behind done (option_and_then (λ b. option_map (λ rest. b ∷ rest) (entries_of n (map plain_member (drop (k + 1) ms)))) o)) e

pub last : (n : ℕ) (ms : List Member) (k : ℕ) (done : List Entry) → length ms ≤ k → behind done (entries_of n (map plain_member (drop k ms))) ≡ Some done
last n ms k done past = ap (λ xs. behind done (entries_of n (map plain_member xs))) (drop_all k ms past) ∙ ap Some (append-nil done)
