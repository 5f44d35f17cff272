-- What unpacking makes of the same asset is the same asset.
use Rattle.std.proofs.Common.{◌≡◌, ◌≢◌, ◌↔◌, ℕ, Bool, List, map, length, slice_get, Option, Some, None, option_map, option_and_then, unwrap_or, Result, Ok, refl, sym, ap, ◌∙◌, subst, []}
use Rattle.std.proofs.lemmas.List.{length-map}
use Rattle.std.proofs.lemmas.Option.{slice_get-map}
use Rattle.std.specs.List.{All, AllPairs, Contains}
use Rattle.gp_tree.specs.Plain.{PlainTree}
use Rattle.gp_rules.specs.declared.accessing.Accessor.{Accessor}
use Rattle.gp_rules.specs.declared.storage.View.{View}
use Rattle.gp_rules.specs.declared.fault.AssetFault.{AssetFault}
use Rattle.gp_asset.specs.declared.purpose.Form.TheVariants.{Any}
use Rattle.gp_asset.specs.declared.geometry.Primitive.{Primitive}
use Rattle.gp_asset.specs.Asset.{AssetParts}
use Rattle.gp_elements.specs.Elements.{Elements, stride_at, content_at, base_elements, items_in, with_sparse, elements_in, elements_of}
use Rattle.gp_edits.specs.Common.{common}
use Rattle.gp_moving.specs.Triangles.{same_vertex, Agree}
use Rattle.gp_document.specs.Document.{Document}
use Rattle.gp_document.specs.Accepted.{asset_of, IsAccepted}
use Rattle.gp_document.proofs.OneAnswer.{document_one}
use Rattle.gp_unpack.specs.Contents.{all_contents}
use Rattle.gp_unpack.specs.Kept.{KeepsViews}
use Rattle.gp_unpack.proofs.KeptParts.{relaid, strides_of, KeepsParts}
use Rattle.gp_sameness.specs.Moved.{Moved}
use Rattle.gp_sameness.specs.Common.{common_accessors, without_made_indices, without_made_accessors, without_made_views, common_after}
use Rattle.gp_sameness.specs.AnySize.{HoldsAnySize, asset_of_any_size}
use Rattle.gp_sameness.specs.Drawn.{corners_of, triangles_of, records_of, elements_at}
use Rattle.gp_sameness.specs.Same.{standing_groups, IsVertexOf, DrawsSame, KeepsVertices, ElementsStay, images_of, TrianglesStay, VerticesStay, HasNoMore, Same}
use Rattle.gp_sameness.proofs.AnySize.{assets_are_of_any_size}

-- ---- views of the same strides

stride_of_option : (v : Option View) → option_and_then (λ s. s) (option_map (λ (v : View). v.stride) v) ≡ option_and_then (λ (v : View). v.stride) v
stride_of_option None = refl
stride_of_option (Some v) = refl

module _ (before after : List View) (strides : strides_of after ≡ strides_of before) where
  counted : length after ≡ length before
  counted = sym (length-map after (λ (v : View). v.stride)) ∙ ap length strides ∙ length-map before (λ (v : View). v.stride)

  stride_stays : (at : ℕ) → stride_at before at ≡ stride_at after at
  stride_stays at =
      sym (stride_of_option (slice_get before at))
      ∙ ap (option_and_then (λ s. s)) (sym (slice_get-map (λ (v : View). v.stride) before at) ∙ ap (λ l. slice_get l at) (sym strides) ∙ slice_get-map (λ (v : View). v.stride) after at)
      ∙ stride_of_option (slice_get after at)

  items_stay : (contents : List (List ℕ)) (a : Accessor) (view : Option ℕ) → items_in before contents a view ≡ items_in after contents a view
  items_stay contents a None = refl
  items_stay contents a (Some at) = ap (base_elements (content_at contents at) a) (stride_stays at)

  accessor_stays : (contents : List (List ℕ)) (a : Accessor) → elements_in before contents a ≡ elements_in after contents a
  accessor_stays contents a = ap (λ base. with_sparse base contents a a.sparse) (items_stay contents a a.view)

  accessors_stay : (contents : List (List ℕ)) → ◌≡◌ {A = Accessor → Elements} (elements_in before contents) (elements_in after contents)
  accessors_stay contents = λ i a. accessor_stays contents a i

-- ---- an asset with other buffers, and with views of the same strides

module _ (a : AssetParts) (contents : List (List ℕ)) (b : AssetParts) (written : List (List ℕ))
    (buffers : List (Option (List ℕ))) (views : List View) (closed : Bool) (strides : strides_of views ≡ strides_of b.views) where
  abbrev c : AssetParts
  c = relaid buffers views closed b

  elements_stay : elements_of b written ≡ elements_of c written
  unfolding elements_of
  elements_stay = ap (λ (f : Accessor → Elements). map f b.accessors) (accessors_stay b.views views strides written)

  -- the items of accessor `at`, where each has the elements that are given
  abbrev items_by : (Accessor → Elements) → ℕ → List (List ℕ)
  items_by elements at = unwrap_or (option_map (λ x. (elements x).items) (slice_get b.accessors at)) []

  each_stays : ◌≡◌ {A = ℕ → List (List ℕ)} (elements_at b written) (elements_at c written)
  each_stays = ap items_by (accessors_stay b.views views strides written)

  draws_again : (p q : Primitive) → DrawsSame a contents p b written q → DrawsSame a contents p c written q
  draws_again p q d = record {
    indices = d.indices;
    indexed = d.indexed;
    exists = d.exists;
    below = subst (λ elements. All (IsVertexOf b q) (corners_of elements q)) each_stays d.below;
    agree = subst (λ elements. Agree same_vertex (triangles_of (elements_at a contents) p) (triangles_of elements q)) each_stays d.agree;
  }

  vertices_again : (columns : List ℕ) → KeepsVertices a contents b written columns → KeepsVertices a contents c written columns
  vertices_again columns k = record {
    counts = k.counts;
    different = subst (λ elements. AllPairs (λ r s. r ≢ s) (records_of elements columns)) each_stays k.different;
    same = λ r. subst (λ elements. Contains (records_of elements columns) r ↔ Contains (records_of (elements_at a contents) columns) r) each_stays (k.same r);
  }

  pub no_more_again : (moved : List Moved) → HasNoMore moved a contents b → HasNoMore moved a contents c
  no_more_again moved n = record { views = counted b.views views strides ∙ n.views; accessors = n.accessors }

  pub elements_again : (moved : List Moved) → ElementsStay moved a contents b written → ElementsStay moved a contents c written
  elements_again moved stay at there still = ap (λ l. slice_get l at) (sym elements_stay) ∙ stay at there still

  pub triangles_again : TrianglesStay a contents b written → TrianglesStay a contents c written
  triangles_again stay g place p moves among there =
      let drawn = stay g place p moves among there in
      (drawn.0, drawn.1, draws_again p drawn.0 drawn.2)

  pub all_vertices_again : VerticesStay a contents b written → VerticesStay a contents c written
  all_vertices_again stay g moves = vertices_again g.columns (stay g moves)

-- ---- trees

common_again : (moved : List Moved) (a : AssetParts) (t u : PlainTree) → common u ≡ common t → common_after moved a u ≡ common_after moved a t
unfolding common_after
common_again moved a t u e = ap (λ root. common_accessors moved (without_made_indices moved a (without_made_accessors a (without_made_views moved a root)))) e

-- ---- two files

module _ (before middle : List ℕ) (s : Same before middle) where
  -- the packed file stands for one asset
  same_document : (k : IsAccepted Any middle) → s.output.document ≡ k.document
  same_document k = document_one middle s.output.document k.document s.output.holds k.is_document.holds

  pub same_asset : (k : IsAccepted Any middle) → s.output.asset ≡ k.asset
  unfolding asset_of
  same_asset k =
      let own = (assets_are_of_any_size Any k.document.tree k.document.bin k.asset k.is_asset).0 in
      let e : ◌≡◌ {A = Result AssetParts AssetFault} (Ok s.output.asset) (Ok k.asset) =
      sym s.output.is_asset ∙ ap (λ (d : Document). asset_of_any_size Any d.tree d.bin) (same_document k) ∙ own in cc

  same_again : (after : List ℕ) (output : HoldsAnySize Any after) → all_contents output.asset ≡ Ok s.written → output.document.rest ≡ s.output.document.rest
      → common output.document.tree ≡ common s.output.document.tree → KeepsParts s.output.asset output.asset → Same before after
  same_again after output decoded rest trees k =
      let a = s.input.asset in
      let moved = standing_groups a s.contents in
      let m = s.output.asset in
      record {
        input = s.input;
        output = output;
        contents = s.contents;
        read = s.read;
        written = s.written;
        decoded = decoded;
        rest = rest ∙ s.rest;
        trees = common_again moved a s.output.document.tree output.document.tree trees ∙ s.trees;
        counts = subst (HasNoMore moved a s.contents) (sym k.is) (no_more_again a s.contents m s.written k.buffers k.views k.closed k.strides moved s.counts);
        views = s.views;
        elements = subst (λ b. ElementsStay moved a s.contents b s.written) (sym k.is) (elements_again a s.contents m s.written k.buffers k.views k.closed k.strides moved s.elements);
        images = ap (λ b. images_of b s.written) k.is ∙ s.images;
        triangles = subst (λ b. TrianglesStay a s.contents b s.written) (sym k.is) (triangles_again a s.contents m s.written k.buffers k.views k.closed k.strides s.triangles);
        vertices = subst (λ b. VerticesStay a s.contents b s.written) (sym k.is) (all_vertices_again a s.contents m s.written k.buffers k.views k.closed k.strides s.vertices);
      }

  pub same_unpacked : (after : List ℕ) (k : KeepsViews middle after) → KeepsParts k.input.asset k.output.asset → Same before after
  unfolding asset_of
  same_unpacked after k parts =
      let output : HoldsAnySize Any after = record {
        document = k.output.document;
        asset = k.output.asset;
        holds = k.output.holds;
        is_asset = (assets_are_of_any_size Any k.output.document.tree k.output.document.bin k.output.asset k.output.is_asset).0;
      } in
      same_again after output
      (k.written ∙ sym k.read ∙ ap all_contents (sym (same_asset k.input)) ∙ s.decoded)
      (k.rest ∙ ap (λ (d : Document). d.rest) (sym (same_document k.input)))
      (k.trees ∙ ap (λ (d : Document). common d.tree) (sym (same_document k.input)))
      (subst (λ b. KeepsParts b k.output.asset) (sym (same_asset k.input)) parts)
