-- What a JSON value stands for by its shape, or none where it has another one.
use Rattle.std.specs.Prelude.{ℕ, nat_lt, if◌then◌else◌, List, [], ◌∷◌, unwrap_or, Option, Some, None, option_map, option_and_then}
use Rattle.gp_tree.specs.Plain.{PlainTree, text, list, members}
use Rattle.gp_tree.specs.Find.{item_list, find_member}
use Rattle.gp_tree.specs.Values.{whole}

abbrev pub Shaped : Type 0 → Type 0
Shaped A = PlainTree → Option A

infixl 10 ◌>>=◌
abbrev pub ◌>>=◌ : {A B : Type 0} → Option A → (A → Option B) → Option B
a >>= f = option_and_then f a

-- an object, read by the rows of its members
abbrev pub object_of : {A : Type 0} → Shaped A → Shaped A
object_of fields (members ms) = fields (members ms)
object_of fields _ = None

abbrev pub an_object : Shaped PlainTree
an_object = object_of Some

abbrev pub a_text : Shaped (List ℕ)
a_text (text spelling) = Some spelling
a_text _ = None

-- a list whose items all have one shape
abbrev pub each : {A : Type 0} → Shaped A → List PlainTree → Option (List A)
each shape [] = Some []
each shape (t ∷ ts) = option_and_then (λ a. option_map (λ rest. a ∷ rest) (each shape ts)) (shape t)

abbrev pub list_of : {A : Type 0} → Shaped A → Shaped (List A)
list_of shape (list ts) = each shape (item_list ts)
list_of shape _ = None

-- a whole number below the length of the list that it points into
abbrev pub below : ℕ → ℕ → Option ℕ
below n at = if nat_lt at n then Some at else None

abbrev pub reference : ℕ → Shaped ℕ
reference n t = option_and_then (below n) (whole t)

-- ---- members of an object

-- one that has to be there
abbrev pub required : {A : Type 0} → PlainTree → List ℕ → Shaped A → Option A
required t name shape = option_and_then shape (find_member name t)

-- one that may be absent. `null` is a value like any other.
abbrev pub optional : {A : Type 0} → PlainTree → List ℕ → Shaped A → Option (Option A)
optional t name shape = elim (find_member name t) [ None ↦ Some None | Some value ↦ option_map Some (shape value) ]

-- one that has this value where it is absent
abbrev pub defaulted : {A : Type 0} → PlainTree → List ℕ → A → Shaped A → Option A
defaulted t name value shape = option_map (λ found. unwrap_or found value) (optional t name shape)
