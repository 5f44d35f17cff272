-- Taking texts out of a list.
use Rattle.std.proofs.Common.{◌≡◌, Bool, true, false, filter, List, [], ◌∷◌, map, refl, sym, ap, ◌∙◌}
use Rattle.gp_tree.specs.declared.tree.Tree.{Tree}
use Rattle.gp_tree.specs.Plain.{PlainTree, PlainTrees, plain, plain_items, trees_of}
use Rattle.gp_tree.specs.Find.{item_list}
use Rattle.gp_tree.proofs.Edited.{items_of}

filter_step : (b : Bool) (p : PlainTree → Bool) (t : Tree) (ts : List Tree) → p (plain t) ≡ b
    → map plain (filter (λ u. p (plain u)) ts) ≡ filter p (map plain ts) → map plain (filter (λ u. p (plain u)) (t ∷ ts)) ≡ filter p (map plain (t ∷ ts))
filter_step true p t ts n ih = rw n (ap (λ l. plain t ∷ l) ih)
filter_step false p t ts n ih = rw n ih

filter_plain : (p : PlainTree → Bool) (ts : List Tree) → map plain (filter (λ u. p (plain u)) ts) ≡ filter p (map plain ts)
filter_plain p [] = refl
filter_plain p (t ∷ ts) = filter_step (p (plain t)) p t ts refl (filter_plain p ts)

-- the items that are kept, as plain values
pub kept : (p : PlainTree → Bool) (ts us : List Tree) (old : PlainTrees) → plain_items ts ≡ old → us ≡ filter (λ u. p (plain u)) ts → plain_items us ≡ trees_of (filter p (item_list old))
kept p ts us old e f =
    ap plain_items f ∙ ap trees_of (filter_plain p ts ∙ ap (filter p) (sym (items_of (map plain ts)) ∙ ap item_list e))
