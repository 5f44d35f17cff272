-- Reading a list whose items all have one shape, item by item.
use Rattle.std.specs.Prelude.{option_map, option_and_then}
use Rattle.std.proofs.Common.{◌≡◌, ℕ, ◌+◌, ◌<◌, ◌≤◌, Option, Some, None, List, [], ◌∷◌, ◌++◌, length, map, get_or, drop, refl, sym, ap, ◌∙◌, append_assoc, append-nil}
use Rattle.std.proofs.lemmas.List.{drop_more, drop_all}
use Rattle.gp_tree.specs.declared.tree.Tree.{Tree}
use Rattle.gp_tree.specs.Plain.{plain, plain_items, list}
use Rattle.gp_tree.proofs.Edited.{items_of}
use Rattle.gp_fields.specs.Shapes.{Shaped, each, list_of}

-- those that were read, before the rest
abbrev pub behind : {A : Type 0} → List A → Option (List A) → Option (List A)
behind done o = option_map (λ rest. done ++ rest) o

pub behind_none : {A : Type 0} (o : Option (List A)) → o ≡ behind [] o
behind_none None = refl
behind_none (Some rest) = refl

pub behind_one : {A : Type 0} (done : List A) (a : A) (o : Option (List A)) → behind done (option_map (λ rest. a ∷ rest) o) ≡ behind (done ++ a ∷ []) o
behind_one done a None = refl
behind_one done a (Some rest) = ap Some (sym (append_assoc done (a ∷ []) rest))

pub begin : {A : Type 0} (shape : Shaped A) (ts : List Tree) → list_of shape (list (plain_items ts)) ≡ behind [] (each shape (map plain ts))
begin shape ts = ap (each shape) (items_of (map plain ts)) ∙ behind_none (each shape (map plain ts))

pub next : {A : Type 0} (shape : Shaped A) (ts : List Tree) (k : ℕ) (d : Tree) (done : List A) (a : A)
    → k < length ts → shape (plain (get_or ts k d)) ≡ Some a
    → behind done (each shape (map plain (drop k ts))) ≡ behind (done ++ a ∷ []) (each shape (map plain (drop (k + 1) ts)))
next shape ts k d done a within e =
    ap (λ xs. behind done (each shape (map plain xs))) (drop_more ts k d within)
    ∙ ap (λ o. behind done (option_and_then (λ b. option_map (λ rest. b ∷ rest) (each shape (map plain (drop (k + 1) ts)))) o)) e
    ∙ behind_one done a (each shape (map plain (drop (k + 1) ts)))

pub stop : {A : Type 0} (shape : Shaped A) (ts : List Tree) (k : ℕ) (d : Tree) (done : List A)
    → k < length ts → shape (plain (get_or ts k d)) ≡ None
    → behind done (each shape (map plain (drop k ts))) ≡ None
stop shape ts k d done within e =
    ap (λ xs. behind done (each shape (map plain xs))) (drop_more ts k d within)
    ∙ ap (λ o. behind done (option_and_then (λ b. option_map (λ rest. b ∷ rest) (each shape (map plain (drop (k + 1) ts)))) o)) e

pub last : {A : Type 0} (shape : Shaped A) (ts : List Tree) (k : ℕ) (done : List A) → length ts ≤ k → behind done (each shape (map plain (drop k ts))) ≡ Some done
last shape ts k done past = ap (λ xs. behind done (each shape (map plain xs))) (drop_all k ts past) ∙ ap Some (append-nil done)
