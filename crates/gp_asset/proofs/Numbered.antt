-- A `Vec` that is gone over by value, with numbers.
use Rattle.std.proofs.Common.{◌≡◌, ℕ, List, length, Option, None, sym, ap, ◌∙◌, map-id}
use Rattle.std.specs.List.{enumerate_from}
use Rattle.std.specs.Vec.Iter.{into_iter_items, into_iter_len, into_iter_steps}
use Rattle.std.specs.declared.iter.Enumerate.{Enumerate}
use Rattle.std.specs.declared.vec.IntoIter.{IntoIter}
use Rattle.std.specs.Iterator.{Yields}
use Rattle.std.specs.Iterator.Adapters.{enumerate_source, enumerate_count, enumerate_steps}
use Rattle.std.proofs.lemmas.Iterator.Consumers.{YieldsList-end, YieldsList-from_enumerate}
use Rattle.std.proofs.lemmas.Iterator.Adapters.{YieldsList-from_vec}

-- what its loop was given, at the end
pub all_numbered : {A Z : Type 0} (items : List A) (source : IntoIter A Z) (first last after : Enumerate (IntoIter A Z)) (yielded : List (ℕ × A)) (item : Option (ℕ × A))
    → into_iter_items source ≡ items → into_iter_len source ≡ length items → enumerate_source first ≡ source → enumerate_count first ≡ 0
    → Yields (enumerate_steps (into_iter_steps {X = A} {Z = Z})) first yielded last → item ≡ None → enumerate_steps (into_iter_steps {X = A} {Z = Z}) last item after
    → yielded ≡ enumerate_from 0 items
all_numbered items source first last after yielded item holds len from count yields none end =
    let whole = YieldsList-from_vec items (ap into_iter_items from ∙ holds) (ap into_iter_len from ∙ len) in
    sym (map-id yielded) ∙ (YieldsList-end (YieldsList-from_enumerate whole count) yielded last yields item after none end).0
