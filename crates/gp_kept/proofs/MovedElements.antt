-- The elements of accessors that move, and of those that are made.
use Rattle.std.specs.Prelude.{if◌then◌else◌, get_or, option_map, option_and_then, option_to_list, unwrap_or}
use Rattle.std.proofs.Common.{◌≡◌, ℕ, ◌+◌, Bool, true, false, List, [], ◌++◌, length, slice_get, Option, Some, None, refl, sym, ap, ◌∙◌, arith}
use Rattle.std.proofs.lemmas.Option.{slice_get-map}
use Rattle.gp_rules.specs.declared.accessing.Accessor.{Accessor}
use Rattle.gp_rules.specs.declared.accessing.Component.{Component}
use Rattle.gp_rules.specs.declared.accessing.Component.TheVariants.{U16, U32}
use Rattle.gp_rules.specs.declared.accessing.Shape.{Shape}
use Rattle.gp_rules.specs.declared.accessing.Shape.TheVariants.{Scalar}
use Rattle.gp_rules.specs.declared.storage.View.{View}
use Rattle.gp_rules.specs.Kinds.{component_of}
use Rattle.gp_rules.specs.Sizes.{padded}
use Rattle.gp_rules.specs.Accessors.{size_of}
use Rattle.gp_asset.specs.declared.purpose.Form.TheVariants.{Plain}
use Rattle.gp_asset.specs.Asset.{AssetParts}
use Rattle.gp_elements.specs.Elements.{Elements, stride_at, base_elements, elements_in, elements_of}
use Rattle.gp_elements.proofs.Sound.{accessors_are_sound}
use Rattle.gp_document.specs.Accepted.{asset_of}
use Rattle.gp_sameness.specs.Moved.{Moved}
use Rattle.gp_packed.specs.MadeViews.{Made, made_column, made_list, made_views, made_place, is_narrow}
use Rattle.gp_packed.specs.GroupEdits.{made_number}
use Rattle.gp_packed.specs.MadeLaws.{ReadsNumbers, list_contents}
use Rattle.gp_packed.specs.PackedParts.{moved_column_part, list_kind, made_view, packed_accessors, packed_views}
use Rattle.gp_kept.specs.ElementsMoved.{input_contents, output_contents, IsPackedFrom, ReadsBack, AreMovable, HasItems, HasNumbers, MovedColumnElements, MovedListElements, MadeListElements, PackedKeepsRest}
use Rattle.gp_packed.proofs.StoredSuits.{all_suit}
use Rattle.gp_packed.proofs.OutputViews.{front_found, behind_found, made_found}
use Rattle.gp_kept.proofs.MadeColumns.{columns_back}
use Rattle.gp_kept.proofs.MadeLists.{list_elements_back}
use Rattle.gp_kept.proofs.MadeInOrder.{columns_found, lists_found}
use Rattle.gp_kept.proofs.PackedAccessors.{columns_there, lists_there, made_lists_there}
use Rattle.gp_kept.proofs.KeptElements.{all_elements_kept, stride_stored}
use Rattle.gp_kept.proofs.OutputContents.{input_read, output_read, contents_stay, group_has, has_columns, has_lists}

-- ---- an accessor that reads a view without `sparse`

abbrev plain_part : ℕ → Component → Shape → ℕ → Accessor
plain_part view component shape count = record { view = Some view; offset = 0; component = component; shape = shape; count = count; sparse = None }

-- the stride of the view of an accessor
stride_made : (moved : List Moved) (a : AssetParts) (at : ℕ) (v : Made) → slice_get (made_views a moved) (made_place (made_views a moved) at) ≡ Some v
    → stride_at (packed_views moved a) (made_number moved a at) ≡ (made_view v).stride
stride_made moved a at v found =
    stride_stored moved a (made_number moved a at)
    ∙ ap (option_and_then (λ (w : View). w.stride)) (made_found moved a a.views made_view at refl ∙ ap (option_map made_view) found)

items_there : (moved : List Moved) (a : AssetParts) (more : List ℕ) (packed : AssetParts) (at view : ℕ) (component : Component) (shape : Shape) (count : ℕ) (bytes : List ℕ) (stride : Option ℕ)
    → IsPackedFrom moved a more packed
    → slice_get (packed_accessors moved a) at ≡ Some (plain_part view component shape count)
    → slice_get (output_contents moved a) view ≡ Some bytes
    → stride_at (packed_views moved a) view ≡ stride
    → HasItems packed (output_contents moved a) at (base_elements bytes (plain_part view component shape count) stride)
unfolding elements_of
items_there moved a more packed at view component shape count bytes stride is accessor contents strided =
    let y = plain_part view component shape count in
    let others = output_contents moved a in
    let whole : List (List ℕ) → Option Elements = λ items. Some (record { items = items; sparse = None }) in
    slice_get-map (elements_in packed.views others) packed.accessors at
    ∙ ap (λ (xs : List Accessor). option_map (elements_in packed.views others) (slice_get xs at)) is.accessors
    ∙ ap (option_map (elements_in packed.views others)) accessor
    ∙ ap (λ views. Some (elements_in views others y)) is.views
    ∙ ap (λ o. whole (base_elements (unwrap_or o []) y (stride_at (packed_views moved a) view))) contents
    ∙ ap (λ s. whole (base_elements bytes y s)) strided

-- ---- columns

pub column_elements : MovedColumnElements
column_elements a moved more packed i k m x is may found column =
    let at = get_or m.columns k 0 in
    let view = made_number moved a at in
    let whole = (group_has (ReadsBack a) moved i m may.reads found).whole in
    let bytes = has_columns a moved i k m x may.reads may.views may.apart found column in
    let stride = stride_made moved a at (made_column a m k at x) (columns_found a moved i k m x may.views may.apart found column) in
    items_there moved a more packed at view x.component x.shape (length m.records) _ (Some (padded (size_of x))) is (columns_there a moved i k m x may.apart found column) bytes stride
    ∙ ap (λ items. Some (record { items = items; sparse = None }))
    (columns_back a m k x (moved_column_part view m x) whole column (record { offset = refl; component = refl; shape = refl; count = refl }))

-- ---- lists

kind_of : (narrow : Bool) → component_of (if narrow then 5123 else 5125) ≡ Some (if narrow then U16 else U32)
unfolding component_of
kind_of true = refl
kind_of false = refl

-- of any accessor that reads the view of the list
list_read : (a : AssetParts) (moved : List Moved) (more : List ℕ) (packed : AssetParts) (i k at : ℕ) (m : Moved) (list : List ℕ) (shape : Shape) (count : ℕ)
    → IsPackedFrom moved a more packed → AreMovable a moved → slice_get moved i ≡ Some m
    → slice_get (m.lists ++ option_to_list m.list_accessor) k ≡ Some at → slice_get m.ordered k ≡ Some list
    → slice_get (packed_accessors moved a) at ≡ Some (plain_part (made_number moved a at) (list_kind m) shape count)
    → shape ≡ Scalar → count ≡ length list
    → HasNumbers packed (output_contents moved a) m at list
list_read a moved more packed i k at m list shape count is may found number other accessor scalar counts =
    let view = made_number moved a at in
    let y = plain_part view (list_kind m) shape count in
    let has = has_lists a moved i k at m list may.reads may.views may.apart found number other in
    let bytes = list_contents m has.other in
    let few = (group_has (ReadsBack a) moved i m may.reads found).whole.few in
    let stride = stride_made moved a at (made_list m (at, list)) (lists_found a moved i k at m list may.views may.apart found number other) in
    let like : ReadsNumbers m y (length has.other) = record { offset = refl; component = kind_of (is_narrow m); shape = scalar; count = counts ∙ sym has.same.long } in
    record {
      other = has.other;
      same = has.same;
      numbers = has.numbers;
      items = base_elements bytes y None;
      found = items_there moved a more packed at view (list_kind m) shape count bytes None is accessor has.found stride;
      read = list_elements_back m has.other y few has.numbers like;
    }

pub list_elements : MovedListElements
list_elements a moved more packed i k at m list x is may found number other accessor scalar counts =
    list_read a moved more packed i k at m list x.shape x.count is may found (front_found m.lists (option_to_list m.list_accessor) k at number) other
    (lists_there a moved i k at m x may.apart found number accessor) scalar counts

pub made_list_elements : MadeListElements
made_list_elements a moved more packed i at m list is may last found own other counts =
    let n = length m.lists in
    let from : n ≡ n + 0 = omega arith in
    let number : slice_get (m.lists ++ option_to_list m.list_accessor) n ≡ Some at =
    behind_found m.lists (option_to_list m.list_accessor) n 0 from ∙ ap (λ o. slice_get (option_to_list o) 0) own in
    list_read a moved more packed i n at m list Scalar m.count is may found number other (made_lists_there a moved i at m last found own) refl counts

-- ---- together

pub rest_kept : PackedKeepsRest
unfolding asset_of
rest_kept moved bytes d a more packed small is e from reads =
    let stay = contents_stay moved a in
    record {
      read = input_read moved d a e;
      written = output_read moved a more packed from (all_suit moved bytes d a small is e) reads;
      views = stay;
      elements =
          λ at within kept.
          all_elements_kept moved a more packed at (input_contents moved a) (output_contents moved a) from (accessors_are_sound Plain d.tree d.bin a e) stay within kept;
    }
