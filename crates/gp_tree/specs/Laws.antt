-- What the edits of a value keep.
use Rattle.std.specs.Prelude.{◌≡◌, ℕ, suc, ◌<◌, ◌≤◌, List, [], ◌∷◌, Some, None, option_map}
use Rattle.gp_tree.specs.Plain.{PlainTree}
use Rattle.gp_tree.specs.Look.{item, items_len}
use Rattle.gp_tree.specs.Sound.{IsSound, HasDistinctKeys, depth, max_depth}
use Rattle.gp_tree.specs.Values.{IsName}
use Rattle.gp_tree.specs.Find.{IsObject, IsList, find_member}
use Rattle.gp_tree.specs.TreeEdits.{with_member, at_member, at_item, without, without_item, and_items}

-- ---- members after an edit

-- a member that was set is found
abbrev pub FindsSet : Type 0
FindsSet = (key : List ℕ) (v t : PlainTree) → IsObject t → IsName key → find_member key (with_member key v t) ≡ Some v

-- a value that was changed is found so, and a member that was removed is not found where no keys are equal
abbrev pub FindsChanged : Type 0
FindsChanged = (key : List ℕ) (change : PlainTree → PlainTree) (t : PlainTree) → find_member key (at_member key change t) ≡ option_map change (find_member key t)

abbrev pub FindsNoneRemoved : Type 0
FindsNoneRemoved = (key : List ℕ) (t : PlainTree) → HasDistinctKeys t → find_member key (without key t) ≡ None

-- every other member is found as before
abbrev pub SetKeepsOthers : Type 0
SetKeepsOthers = (name key : List ℕ) (v t : PlainTree) → (name ≡ key → ⊥) → IsName key → find_member name (with_member key v t) ≡ find_member name t

abbrev pub ChangeKeepsOthers : Type 0
ChangeKeepsOthers = (name key : List ℕ) (change : PlainTree → PlainTree) (t : PlainTree) → (name ≡ key → ⊥) → find_member name (at_member key change t) ≡ find_member name t

abbrev pub RemoveKeepsOthers : Type 0
RemoveKeepsOthers = (name key : List ℕ) (t : PlainTree) → (name ≡ key → ⊥) → find_member name (without key t) ≡ find_member name t

-- ---- items after an edit

-- one was appended
abbrev pub FindsAppended : Type 0
FindsAppended = (v t : PlainTree) → IsList t → item (and_items (v ∷ []) t) (items_len t) ≡ Some v

abbrev pub AppendKeepsItems : Type 0
AppendKeepsItems = (v t : PlainTree) (i : ℕ) → i < items_len t → item (and_items (v ∷ []) t) i ≡ item t i

-- one was changed
abbrev pub FindsChangedItem : Type 0
FindsChangedItem = (i : ℕ) (change : PlainTree → PlainTree) (t : PlainTree) → item (at_item i change t) i ≡ option_map change (item t i)

abbrev pub ChangeKeepsItems : Type 0
ChangeKeepsItems = (i j : ℕ) (change : PlainTree → PlainTree) (t : PlainTree) → (i ≡ j → ⊥) → item (at_item i change t) j ≡ item t j

-- one was removed: those before it stay, those behind it move up
abbrev pub RemoveKeepsEarlier : Type 0
RemoveKeepsEarlier = (i j : ℕ) (t : PlainTree) → j < i → item (without_item i t) j ≡ item t j

abbrev pub RemoveMovesLater : Type 0
RemoveMovesLater = (i j : ℕ) (t : PlainTree) → i ≤ j → item (without_item i t) j ≡ item t (suc j)

-- ---- soundness

-- the values in a sound value are sound, and less deep
abbrev pub ValuesAreSound : Type 0
ValuesAreSound = (key : List ℕ) (v t : PlainTree) → IsSound t → find_member key t ≡ Some v → IsSound v × (depth v < depth t)

abbrev pub ItemsAreSound : Type 0
ItemsAreSound = (i : ℕ) (v t : PlainTree) → IsSound t → item t i ≡ Some v → IsSound v × (depth v < depth t)

-- a part fits into a sound value: it is sound, and leaves room for one level more
abbrev pub Fits : PlainTree → Type 0
Fits v = IsSound v × (depth v < max_depth)

abbrev pub SetKeepsSound : Type 0
SetKeepsSound = (key : List ℕ) (v t : PlainTree) → IsName key → IsSound t → Fits v → IsSound (with_member key v t)

abbrev pub ChangeKeepsSound : Type 0
ChangeKeepsSound = (key : List ℕ) (change : PlainTree → PlainTree) (t : PlainTree) → IsSound t → ((v : PlainTree) → find_member key t ≡ Some v → Fits (change v)) → IsSound (at_member key change t)

abbrev pub RemoveKeepsSound : Type 0
RemoveKeepsSound = (key : List ℕ) (t : PlainTree) → IsSound t → IsSound (without key t)

abbrev pub AppendKeepsSound : Type 0
AppendKeepsSound = (v t : PlainTree) → IsSound t → Fits v → IsSound (and_items (v ∷ []) t)

abbrev pub ChangeItemKeepsSound : Type 0
ChangeItemKeepsSound = (i : ℕ) (change : PlainTree → PlainTree) (t : PlainTree) → IsSound t → ((v : PlainTree) → item t i ≡ Some v → Fits (change v)) → IsSound (at_item i change t)

abbrev pub RemoveItemKeepsSound : Type 0
RemoveItemKeepsSound = (i : ℕ) (t : PlainTree) → IsSound t → IsSound (without_item i t)

-- ---- depth: a value stays within a depth, with a part that leaves room for one level more

abbrev pub SetKeepsDepth : Type 0
SetKeepsDepth = (n : ℕ) (key : List ℕ) (v t : PlainTree) → depth t ≤ n → depth v < n → depth (with_member key v t) ≤ n

abbrev pub ChangeKeepsDepth : Type 0
ChangeKeepsDepth = (n : ℕ) (key : List ℕ) (change : PlainTree → PlainTree) (t : PlainTree) → depth t ≤ n → ((v : PlainTree) → find_member key t ≡ Some v → depth (change v) < n) → depth (at_member key change t) ≤ n

abbrev pub RemoveKeepsDepth : Type 0
RemoveKeepsDepth = (key : List ℕ) (t : PlainTree) → depth (without key t) ≤ depth t

abbrev pub AppendKeepsDepth : Type 0
AppendKeepsDepth = (n : ℕ) (v t : PlainTree) → depth t ≤ n → depth v < n → depth (and_items (v ∷ []) t) ≤ n

abbrev pub ChangeItemKeepsDepth : Type 0
ChangeItemKeepsDepth = (n i : ℕ) (change : PlainTree → PlainTree) (t : PlainTree) → depth t ≤ n → ((v : PlainTree) → item t i ≡ Some v → depth (change v) < n) → depth (at_item i change t) ≤ n

abbrev pub RemoveItemKeepsDepth : Type 0
RemoveItemKeepsDepth = (i : ℕ) (t : PlainTree) → depth (without_item i t) ≤ depth t
