-- Each edit changes its own members alone, of any value.
use Rattle.std.specs.Prelude.{◌≡◌, ℕ, Bool, not, List, [], ◌∷◌, filter, Option, Some, None, codes}
use Rattle.std.specs.List.{list_any}
use Rattle.gp_tree.specs.Plain.{PlainTree}
use Rattle.gp_tree.specs.Sound.{HasDistinctKeys}
use Rattle.gp_tree.specs.Find.{PlainMember, IsObject, IsList, is_named, array_items, object_members, find_member}
use Rattle.gp_edits.specs.declared.compression.Compression.{Compression}
use Rattle.gp_edits.specs.Changes.{is_text_named}
use Rattle.gp_edits.specs.Edits.{extension_name, placed, without_compression, compressed, with_one_buffer, with_two_buffers, with_extension_named, without_extension_named}

-- ---- what is beside the members of some names

-- a spelled string stands for one of these names
abbrev pub is_one_of : List (List ℕ) → List ℕ → Bool
is_one_of names spelling = list_any (λ name. is_named name spelling) names

-- the members of an object but those with these names, in their order, as they are spelled
abbrev pub others : List (List ℕ) → PlainTree → List PlainMember
others names t = filter (λ (m : PlainMember). not (is_one_of names m.0)) (object_members t)

-- an object is one with the same others, and any other value is as it was
pub record IsSameBut (names : List (List ℕ)) (before after : PlainTree) : Type 0 where
  pub others : others names after ≡ others names before
  pub object : IsObject before → IsObject after
  pub value : (IsObject before → ⊥) → after ≡ before

-- ---- a view

abbrev pub PlacedChangesItsOwn : Type 0
PlacedChangesItsOwn = (buffer offset : ℕ) (v : PlainTree) → IsSameBut (codes "buffer" ∷ codes "byteOffset" ∷ []) v (placed buffer offset v)

abbrev pub RemovedChangesItsOwn : Type 0
RemovedChangesItsOwn = (v : PlainTree) → IsSameBut (codes "extensions" ∷ []) v (without_compression v)

abbrev pub CompressedChangesItsOwn : Type 0
CompressedChangesItsOwn = (c : Compression) (v : PlainTree) → IsSameBut (codes "extensions" ∷ []) v (compressed c v)

-- the others of a value that was found, and none where none was
abbrev pub others_of : List (List ℕ) → Option PlainTree → List PlainMember
others_of names None = []
others_of names (Some value) = others names value

-- the extensions of a view but this one
abbrev pub other_extensions : PlainTree → List PlainMember
other_extensions v = others_of (extension_name ∷ []) (find_member (codes "extensions") v)

abbrev pub RemovedKeepsExtensions : Type 0
RemovedKeepsExtensions = (v : PlainTree) → HasDistinctKeys v → other_extensions (without_compression v) ≡ other_extensions v

abbrev pub CompressedKeepsExtensions : Type 0
CompressedKeepsExtensions = (c : Compression) (v : PlainTree) → other_extensions (compressed c v) ≡ other_extensions v

-- a view whose `extensions` are no object stays as it is

abbrev pub RemovedStays : Type 0
RemovedStays = (v value : PlainTree) → find_member (codes "extensions") v ≡ Some value → (IsObject value → ⊥) → without_compression v ≡ v

abbrev pub CompressedStays : Type 0
CompressedStays = (c : Compression) (v value : PlainTree) → find_member (codes "extensions") v ≡ Some value → (IsObject value → ⊥) → compressed c v ≡ v

-- ---- the root

abbrev pub OneBufferChangesItsOwn : Type 0
OneBufferChangesItsOwn = (length : ℕ) (t : PlainTree) → IsSameBut (codes "buffers" ∷ []) t (with_one_buffer length t)

abbrev pub TwoBuffersChangeTheirOwn : Type 0
TwoBuffersChangeTheirOwn = (length fallback : ℕ) (t : PlainTree) → IsSameBut (codes "buffers" ∷ []) t (with_two_buffers length fallback t)

-- the members that name extensions
abbrev pub name_lists : List (List ℕ)
name_lists = codes "extensionsUsed" ∷ codes "extensionsRequired" ∷ []

abbrev pub UnnamedChangesItsOwn : Type 0
UnnamedChangesItsOwn = (t : PlainTree) → IsSameBut name_lists t (without_extension_named t)

abbrev pub NamedChangesItsOwn : Type 0
NamedChangesItsOwn = (t : PlainTree) → IsSameBut name_lists t (with_extension_named t)

-- the items of a list that was found but the texts that stand for a name, in their order
abbrev pub items_beside : List ℕ → Option PlainTree → List PlainTree
items_beside name None = []
items_beside name (Some value) = filter (λ item. not (is_text_named name item)) (array_items value)

-- the names in the list of this key but the one of the extension
abbrev pub other_names : List ℕ → PlainTree → List PlainTree
other_names key t = items_beside extension_name (find_member key t)

pub record KeepsNames (before after : PlainTree) : Type 0 where
  pub used : other_names (codes "extensionsUsed") after ≡ other_names (codes "extensionsUsed") before
  pub required : other_names (codes "extensionsRequired") after ≡ other_names (codes "extensionsRequired") before

abbrev pub UnnamedKeepsNames : Type 0
UnnamedKeepsNames = (t : PlainTree) → HasDistinctKeys t → KeepsNames t (without_extension_named t)

abbrev pub NamedKeepsNames : Type 0
NamedKeepsNames = (t : PlainTree) → KeepsNames t (with_extension_named t)

-- a list of names that is no list stays as it is
pub record KeepsOtherShapes (before after : PlainTree) : Type 0 where
  pub used : (value : PlainTree) → find_member (codes "extensionsUsed") before ≡ Some value → (IsList value → ⊥) → find_member (codes "extensionsUsed") after ≡ Some value
  pub required : (value : PlainTree) → find_member (codes "extensionsRequired") before ≡ Some value → (IsList value → ⊥) → find_member (codes "extensionsRequired") after ≡ Some value

abbrev pub UnnamedStays : Type 0
UnnamedStays = (t : PlainTree) → KeepsOtherShapes t (without_extension_named t)

abbrev pub NamedStays : Type 0
NamedStays = (t : PlainTree) → KeepsOtherShapes t (with_extension_named t)
