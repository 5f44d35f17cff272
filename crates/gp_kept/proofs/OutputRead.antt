-- What is read of the views that are made for a group.
use Rattle.std.proofs.Common.{◌≡◌, ℕ, List, [], map, get_or, Option, Some, None, sym, ap, ◌∙◌, subst}
use Rattle.std.specs.Prelude.{unwrap_or, option_map}
use Rattle.gp_rules.specs.declared.accessing.Accessor.{Accessor}
use Rattle.gp_rules.specs.Sizes.{padded}
use Rattle.gp_rules.specs.Accessors.{size_of}
use Rattle.gp_asset.specs.Asset.{AssetParts}
use Rattle.gp_index.specs.SameTriangles.{SameTriangles}
use Rattle.gp_elements.specs.Elements.{number_of, base_elements, stride_at, items_in, with_sparse}
use Rattle.gp_alias.specs.Movable.{items_of}
use Rattle.gp_packed.specs.MadeViews.{column_contents}
use Rattle.gp_packed.specs.MadeLaws.{ReadsNumbers, list_contents}
use Rattle.gp_kept.specs.TrianglesMoved.{IsReadFrom, MadeElementsAreMoved}
use Rattle.gp_sameness.specs.Drawn.{elements_at}
use Rattle.gp_kept.proofs.MadeColumns.{columns_back}
use Rattle.gp_kept.proofs.MadeLists.{list_elements_back}

-- the elements of an accessor that reads these bytes with this stride
read_from : (b : AssetParts) (contents : List (List ℕ)) (at : ℕ) (y : Accessor) (bytes : List ℕ) (stride : Option ℕ) → IsReadFrom b contents at y bytes stride
    → elements_at b contents at ≡ base_elements bytes y stride
read_from b contents at y bytes stride h =
    ap (λ o. unwrap_or (option_map (items_of b contents) o) []) h.there
    ∙ ap (λ s. (with_sparse (items_in b.views contents y y.view) contents y s).items) h.whole
    ∙ ap (λ v. items_in b.views contents y v) h.view
    ∙ ap (λ c. base_elements c y (stride_at b.views h.number)) h.held
    ∙ ap (base_elements bytes y) h.strides

pub made_elements_are_moved : MadeElementsAreMoved
made_elements_are_moved a b contents m whole made = record {
  columns = λ k x column.
      let c = made.columns k x column in
      read_from b contents (get_or m.columns k 0) c.accessor (column_contents a m k x) (Some (padded (size_of x))) c.from
      ∙ columns_back a m k x c.accessor whole column c.like;
  lists = λ k at list place new.
      let c = made.lists k at list place new in
      let numbers : map number_of (elements_at b contents at) ≡ c.other =
      ap (map number_of) (read_from b contents at c.accessor (list_contents m c.other) None c.from)
      ∙ list_elements_back m c.other c.accessor whole.few c.numbers (subst (ReadsNumbers m c.accessor) (sym c.same.long) c.like) in
      subst (SameTriangles list) (sym numbers) c.same;
}
