-- Laws of the edits, over the definitions alone.
use Rattle.std.specs.Prelude.{◌≡◌, ℕ, ◌<◌, ◌^◌, List, codes}
use Rattle.gp_tree.specs.Plain.{PlainTree}
use Rattle.gp_tree.specs.Lexical.{Each}
use Rattle.gp_tree.specs.Sound.{HasDistinctKeys, IsSound}
use Rattle.gp_tree.specs.TreeEdits.{without, at_member, with_items}
use Rattle.gp_edits.specs.Changes.{change_each}
use Rattle.gp_edits.specs.Edits.{placed, without_compression, with_plain_views, with_one_buffer, without_extension_named}
use Rattle.gp_edits.specs.Common.{common_view, common_names, common}

-- ---- what two assets have in common, before and after an edit

-- of a view: not its place, and not whether it was compressed
abbrev pub PlaceIsNotCommon : Type 0
PlaceIsNotCommon = (buffer offset : ℕ) (v : PlainTree) → common_view (placed buffer offset v) ≡ common_view v

abbrev pub CompressionIsNotCommon : Type 0
CompressionIsNotCommon = (v : PlainTree) → HasDistinctKeys v → common_view (without_compression v) ≡ common_view v

-- of the root: not the names of the extension, and not the buffers
abbrev pub NamesAreNotCommon : Type 0
NamesAreNotCommon = (t : PlainTree) → HasDistinctKeys t → common_names (without_extension_named t) ≡ common_names t

abbrev pub NamesAreNotInCommon : Type 0
NamesAreNotInCommon = (t : PlainTree) → HasDistinctKeys t → common (without_extension_named t) ≡ common t

abbrev pub SetBufferIsNotCommon : Type 0
SetBufferIsNotCommon = (length : ℕ) (t : PlainTree) → common (with_one_buffer length t) ≡ common t

abbrev pub BuffersAreNotCommon : Type 0
BuffersAreNotCommon = (t : PlainTree) → HasDistinctKeys t → common (without (codes "buffers") t) ≡ common t

-- the views were changed, each to one that has the same in common
abbrev pub ViewsStayCommon : Type 0
ViewsStayCommon =
    (change : ℕ → PlainTree → PlainTree) (values : List ℕ) (t : PlainTree) → HasDistinctKeys t
    → ((a : ℕ) (v : PlainTree) → HasDistinctKeys v → common_view (change a v) ≡ common_view v)
    → common (at_member (codes "bufferViews") (with_items (change_each change values)) t) ≡ common t

-- ---- an asset whose views were placed in one buffer, or that has none, without the extension

abbrev pub PlainStaysCommon : Type 0
PlainStaysCommon = (length : ℕ) (starts : List ℕ) (t : PlainTree) → HasDistinctKeys t → common (without_extension_named (with_one_buffer length (with_plain_views starts t))) ≡ common t

abbrev pub EmptyStaysCommon : Type 0
EmptyStaysCommon = (starts : List ℕ) (t : PlainTree) → HasDistinctKeys t → common (without_extension_named (without (codes "buffers") (with_plain_views starts t))) ≡ common t

-- and it stays sound
abbrev pub PlainStaysSound : Type 0
PlainStaysSound =
    (length : ℕ) (starts : List ℕ) (t : PlainTree) → length < 2 ^ 64 → Each (λ start. start < 2 ^ 64) starts → IsSound t
    → IsSound (without_extension_named (with_one_buffer length (with_plain_views starts t)))

abbrev pub EmptyStaysSound : Type 0
EmptyStaysSound =
    (starts : List ℕ) (t : PlainTree) → Each (λ start. start < 2 ^ 64) starts → IsSound t
    → IsSound (without_extension_named (without (codes "buffers") (with_plain_views starts t)))
