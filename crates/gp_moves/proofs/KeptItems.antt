-- Items of a list that stay by their numbers.
use Rattle.std.proofs.Common.{◌≡◌, ℕ, ◌+◌, Bool, true, false, filter, List, [], ◌∷◌, map, refl, sym, ap, ◌∙◌}
use Rattle.std.specs.List.{enumerate_from}
use Rattle.gp_tree.specs.declared.tree.Tree.{Tree}
use Rattle.gp_tree.specs.Plain.{PlainTrees, plain, plain_items, trees_of}
use Rattle.gp_tree.specs.Find.{item_list}
use Rattle.gp_tree.proofs.Edited.{items_of}
use Rattle.gp_moves.specs.Items.{where_numbered}

-- of numbered items those whose numbers pass
abbrev pub passed : {A : Type 0} → (ℕ → Bool) → List (ℕ × A) → List A
passed {A} test ps = map (λ (p : ℕ × A). p.1) (filter (λ (p : ℕ × A). test p.0) ps)

passed_step : (b : Bool) (test : ℕ → Bool) (i : ℕ) (t : Tree) (ts : List Tree) → test i ≡ b
    → map plain (passed test (enumerate_from (i + 1) ts)) ≡ passed test (enumerate_from (i + 1) (map plain ts))
    → map plain (passed test (enumerate_from i (t ∷ ts))) ≡ passed test (enumerate_from i (map plain (t ∷ ts)))
passed_step true test i t ts n ih = rw n (ap (λ l. plain t ∷ l) ih)
passed_step false test i t ts n ih = rw n ih

passed_plain : (test : ℕ → Bool) (i : ℕ) (ts : List Tree) → map plain (passed test (enumerate_from i ts)) ≡ passed test (enumerate_from i (map plain ts))
passed_plain test i [] = refl
passed_plain test i (t ∷ ts) = passed_step (test i) test i t ts refl (passed_plain test (i + 1) ts)

pub kept : (test : ℕ → Bool) (ts us : List Tree) (old : PlainTrees) → plain_items ts ≡ old → us ≡ where_numbered test ts → plain_items us ≡ trees_of (where_numbered test (item_list old))
kept test ts us old e f =
    ap plain_items f ∙ ap trees_of (passed_plain test 0 ts ∙ ap (where_numbered test) (sym (items_of (map plain ts)) ∙ ap item_list e))
