-- Reading a list item by item, up to the first that lacks the shape.
use Rattle.std.specs.Prelude.{is_none}
use Rattle.std.proofs.Common.{◌≡◌, ℕ, ◌+◌, ◌<◌, ◌≤◌, Option, Some, None, Result, Ok, Err, List, [], ◌∷◌, ◌++◌, length, map, get_or, drop, cond, refl, sym, ap, ◌∙◌, append_assoc, append-nil}
use Rattle.std.specs.List.{filter_map, cons_option, position, position_from}
use Rattle.std.proofs.lemmas.List.{drop_more, drop_all}
use Rattle.std.proofs.lemmas.Iterator.Adapters.{position_from-zero}
use Rattle.gp_tree.specs.declared.tree.Tree.{Tree}
use Rattle.gp_tree.specs.Plain.{PlainTree, plain, plain_items, list}
use Rattle.gp_tree.specs.Find.{find_member}
use Rattle.gp_tree.proofs.Edited.{items_of}
use Rattle.gp_fields.specs.declared.fault.Place.{Place}
use Rattle.gp_fields.specs.declared.fault.FieldFault.{FieldFault}
use Rattle.gp_fields.specs.Shapes.{Shaped}
use Rattle.gp_fields.specs.Record.{lacking, unless, lacks, items_of_shape, items_of_member, fault_of}

-- item k, and then the rest
abbrev pub turn : {A : Type 0} → Place → ℕ → (A → Result (List A) FieldFault) → Option A → Result (List A) FieldFault
turn place k rest None = Err (lacking place k)
turn place k rest (Some a) = rest a

-- the items from number k on, behind those that were read
abbrev pub from : {A : Type 0} → Place → Shaped A → ℕ → List A → List PlainTree → Result (List A) FieldFault
from place shape k done [] = Ok done
from place shape k done (t ∷ ts) = turn place k (λ a. from place shape (k + 1) (done ++ a ∷ []) ts) (shape t)

abbrev pub found : {A : Type 0} → Place → Shaped A → ℕ → List A → List PlainTree → Result (List A) FieldFault
found place shape k done ts = unless place (done ++ filter_map shape ts) (position_from (lacks shape) k ts)

found_turn : {A : Type 0} (place : Place) (shape : Shaped A) (k : ℕ) (done : List A) (ts : List PlainTree)
    → ((a : A) → from place shape (k + 1) (done ++ a ∷ []) ts ≡ found place shape (k + 1) (done ++ a ∷ []) ts)
    → (o : Option A)
    → turn place k (λ a. from place shape (k + 1) (done ++ a ∷ []) ts) o
    ≡ unless place (done ++ cons_option o (filter_map shape ts)) (cond (is_none o) (Some k) (position_from (lacks shape) (k + 1) ts))
found_turn place shape k done ts h None = refl
found_turn place shape k done ts h (Some a) =
    h a ∙ ap (λ xs. unless place xs (position_from (lacks shape) (k + 1) ts)) (append_assoc done (a ∷ []) (filter_map shape ts))

from_is_found : {A : Type 0} (place : Place) (shape : Shaped A) (k : ℕ) (done : List A) (ts : List PlainTree) → from place shape k done ts ≡ found place shape k done ts
from_is_found place shape k done [] = ap Ok (sym (append-nil done))
from_is_found place shape k done (t ∷ ts) = found_turn place shape k done ts (λ a. from_is_found place shape (k + 1) (done ++ a ∷ []) ts) (shape t)

-- before the first item
pub begin : {A : Type 0} (place : Place) (shape : Shaped A) (ts : List Tree) → items_of_shape place shape (list (plain_items ts)) ≡ from place shape 0 [] (map plain ts)
begin place shape ts =
    ap (λ xs. unless place (filter_map shape xs) (position (lacks shape) xs)) (items_of (map plain ts))
    ∙ ap (unless place (filter_map shape (map plain ts))) (position_from-zero (lacks shape) (map plain ts))
    ∙ sym (from_is_found place shape 0 [] (map plain ts))

-- past an item that has the shape
pub next : {A : Type 0} (place : Place) (shape : Shaped A) (ts : List Tree) (k : ℕ) (d : Tree) (done : List A) (a : A)
    → k < length ts → shape (plain (get_or ts k d)) ≡ Some a
    → from place shape k done (map plain (drop k ts)) ≡ from place shape (k + 1) (done ++ a ∷ []) (map plain (drop (k + 1) ts))
next place shape ts k d done a within e =
    ap (λ xs. from place shape k done (map plain xs)) (drop_more ts k d within)
    ∙ ap (turn place k (λ b. from place shape (k + 1) (done ++ b ∷ []) (map plain (drop (k + 1) ts)))) e

-- at an item that lacks it
pub stop : {A : Type 0} (place : Place) (shape : Shaped A) (ts : List Tree) (k : ℕ) (d : Tree) (done : List A)
    → k < length ts → shape (plain (get_or ts k d)) ≡ None
    → from place shape k done (map plain (drop k ts)) ≡ Err (lacking place k)
stop place shape ts k d done within e =
    ap (λ xs. from place shape k done (map plain xs)) (drop_more ts k d within)
    ∙ ap (turn place k (λ b. from place shape (k + 1) (done ++ b ∷ []) (map plain (drop (k + 1) ts)))) e

-- past the last
pub last : {A : Type 0} (place : Place) (shape : Shaped A) (ts : List Tree) (k : ℕ) (done : List A) → length ts ≤ k → from place shape k done (map plain (drop k ts)) ≡ Ok done
last place shape ts k done past = ap (λ xs. from place shape k done (map plain xs)) (drop_all k ts past)

same_fault : {A : Type 0} (place : Place) (xs ys : List A) (o : Option ℕ) → fault_of (unless place xs o) ≡ fault_of (unless place ys o)
same_fault place xs ys None = refl
same_fault place xs ys (Some at) = refl

-- the fault doesn't hang on what was read
pub forget : {A : Type 0} (place : Place) (shape : Shaped A) (k : ℕ) (done : List A) (ts : List PlainTree) → fault_of (from place shape k done ts) ≡ fault_of (from place shape k [] ts)
forget place shape k done ts =
    ap fault_of (from_is_found place shape k done ts)
    ∙ same_fault place (done ++ filter_map shape ts) (filter_map shape ts) (position_from (lacks shape) k ts)
    ∙ sym (ap fault_of (from_is_found place shape k [] ts))

abbrev pub in_option : {A : Type 0} → Place → Shaped A → Option PlainTree → Result (List A) FieldFault
in_option place shape o = elim o [ None ↦ Ok [] | Some found ↦ items_of_shape place shape found ]

-- a member of the root that is there
pub of_member : {A : Type 0} (place : Place) (name : List ℕ) (shape : Shaped A) (t : PlainTree) (found : PlainTree)
    → find_member name t ≡ Some found → items_of_member place name shape t ≡ items_of_shape place shape found
of_member place name shape t found e = ap (in_option place shape) e
