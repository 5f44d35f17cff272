-- The tree of an asset stays sound where groups move, and uses no other extension than the one that packing names, over the definitions alone.
use Rattle.std.specs.Prelude.{◌≡◌, ℕ, ◌<◌, ◌≤◌, ◌^◌, true, List, map, length, IfSome, Ok}
use Rattle.std.specs.List.{All}
use Rattle.gp_tree.specs.Plain.{PlainTree}
use Rattle.gp_tree.specs.Sound.{HasDistinctKeys, IsSound}
use Rattle.gp_asset.specs.declared.purpose.Form.TheVariants.{Plain, Any}
use Rattle.gp_asset.specs.Extensions.{extensions_in_use, is_among, supported}
use Rattle.gp_asset.specs.Asset.{AssetParts}
use Rattle.gp_layout.specs.Layout.{end}
use Rattle.gp_edits.specs.PackLaws.{UsesOneMore}
use Rattle.gp_sameness.specs.Moved.{Moved}
use Rattle.gp_packed.specs.MadeViews.{Made, made_views}
use Rattle.gp_packed.specs.Plan.{parts, fallback_end, output_views}
use Rattle.gp_sameness.specs.References.{with_new_references}
use Rattle.gp_packed.specs.GroupEdits.{with_moved_accessors, with_list_accessors, with_all_indices}
use Rattle.gp_packed.specs.Packed.{with_made_views, packed_tree}
use Rattle.gp_packed.specs.StoredLaws.{Fits}
use Rattle.gp_packed.specs.AccessorsBack.{with_groups_moved}
use Rattle.gp_packed.specs.NewNumbers.{count_views}

-- ---- numbers that are written

-- those of a group: how many vertices it has and had, and the number of the accessor for primitives without indices
pub record GroupFits (m : Moved) : Type 0 where
  pub records : length m.records < 2 ^ 32
  pub count : m.count < 2 ^ 32
  pub number : IfSome m.list_accessor (λ at. at < 2 ^ 32)

-- that of a view that is made: how long it is
abbrev pub MadeFits : Made → Type 0
MadeFits v = length v.contents < 2 ^ 32

-- ---- a sound tree stays sound, edit by edit, whether or not it has the members that are edited

abbrev pub MovedAccessorsStaySound : Type 0
MovedAccessorsStaySound = (moved : List Moved) (a : AssetParts) (root : PlainTree)
    → All GroupFits moved → count_views moved a ≤ 2 ^ 32 → IsSound root → IsSound (with_moved_accessors moved a root)

abbrev pub ListAccessorsStaySound : Type 0
ListAccessorsStaySound = (moved : List Moved) (a : AssetParts) (root : PlainTree)
    → All GroupFits moved → count_views moved a ≤ 2 ^ 32 → IsSound root → IsSound (with_list_accessors moved a root)

abbrev pub AllIndicesStaySound : Type 0
AllIndicesStaySound = (moved : List Moved) (a : AssetParts) (root : PlainTree)
    → All GroupFits moved → IsSound root → IsSound (with_all_indices moved a root)

-- a new number is no greater than the one that was read
abbrev pub NewReferencesStaySound : Type 0
NewReferencesStaySound = (moved : List Moved) (a : AssetParts) (root : PlainTree) → IsSound root → IsSound (with_new_references moved a root)

abbrev pub MadeViewsStaySound : Type 0
MadeViewsStaySound = (moved : List Moved) (a : AssetParts) (root : PlainTree)
    → All MadeFits (made_views a moved) → IsSound root → IsSound (with_made_views moved a root)

-- ---- the packed tree

-- before its views are stored
abbrev pub unstored_tree : List Moved → AssetParts → PlainTree → PlainTree
unstored_tree moved a root = with_made_views moved a (with_groups_moved moved a root)

abbrev pub UnstoredTreesAreSound : Type 0
UnstoredTreesAreSound = (moved : List Moved) (a : AssetParts) (root : PlainTree)
    → All GroupFits moved → count_views moved a ≤ 2 ^ 32 → All MadeFits (made_views a moved)
    → IsSound root → IsSound (unstored_tree moved a root)

-- the views that are made are among those of the output
abbrev pub MadeViewsFit : Type 0
MadeViewsFit = (moved : List Moved) (a : AssetParts) → All Fits (output_views moved a) → All MadeFits (made_views a moved)

-- no two keys become equal, whatever numbers are written
abbrev pub UnstoredTreesHaveDistinctKeys : Type 0
UnstoredTreesHaveDistinctKeys = (moved : List Moved) (a : AssetParts) (root : PlainTree)
    → HasDistinctKeys root → HasDistinctKeys (unstored_tree moved a root)

-- the views that are stored are those of the output
abbrev pub PackedTreesAreSound : Type 0
PackedTreesAreSound = (moved : List Moved) (a : AssetParts) (root : PlainTree)
    → All GroupFits moved → count_views moved a ≤ 2 ^ 32
    → end (map length (parts (output_views moved a))) < 2 ^ 32 → fallback_end (output_views moved a) < 2 ^ 32 → All Fits (output_views moved a)
    → IsSound root → IsSound (packed_tree moved a root)

-- ---- extensions in use

-- the edits of groups add none
abbrev pub UnstoredTreesUseNoMore : Type 0
UnstoredTreesUseNoMore = (moved : List Moved) (a : AssetParts) (root : PlainTree) (name : List ℕ)
    → is_among name (extensions_in_use (unstored_tree moved a root)) ≡ true → is_among name (extensions_in_use root) ≡ true

-- storing the views adds the one that it names
abbrev pub PackedTreesUseOneMore : Type 0
PackedTreesUseOneMore = (moved : List Moved) (a : AssetParts) (root : PlainTree) → UsesOneMore (packed_tree moved a root) root

-- it is supported where the input's tree is
abbrev pub PackedTreesAreSupported : Type 0
PackedTreesAreSupported = (moved : List Moved) (a : AssetParts) (root : PlainTree) (used : List (List ℕ))
    → supported Plain (extensions_in_use root) ≡ Ok used
    → supported Any (extensions_in_use (packed_tree moved a root)) ≡ Ok (extensions_in_use (packed_tree moved a root))
