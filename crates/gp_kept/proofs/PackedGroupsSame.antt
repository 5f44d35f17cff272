-- What packing writes where groups move is the same asset.
use Rattle.std.specs.Prelude.{option_map, option_to_list}
use Rattle.std.specs.List.{All, list_any}
use Rattle.std.specs.Option.{option_or}
use Rattle.std.proofs.Common.{◌≡◌, ℕ, ◌<◌, ◌==◌, true, false, List, [], ◌∷◌, ◌++◌, length, replicate, slice_get, Option, Some, None, Result, Ok, refl, sym, ap, ◌∙◌, subst, arith, eq-eqb}
use Rattle.std.proofs.lemmas.Bool.{or_left}
use Rattle.std.proofs.lemmas.List.{length-map}
use Rattle.std.proofs.lemmas.Option.{slice_get_within}
use Rattle.gp_glb.specs.Bytes.{padded, missing}
use Rattle.gp_fields.specs.Record.{AssetFields, asset_fields}
use Rattle.gp_layout.specs.Layout.{laid}
use Rattle.gp_layout.specs.Row.{laid_buffer}
use Rattle.gp_rules.specs.declared.storage.View.{View}
use Rattle.gp_asset.specs.declared.geometry.Primitive.{Primitive}
use Rattle.gp_asset.specs.declared.purpose.Form.TheVariants.{Plain}
use Rattle.gp_asset.specs.Extensions.{extensions_in_use}
use Rattle.gp_asset.specs.Asset.{AssetParts, asset}
use Rattle.gp_alias.specs.declared.group.Group.{Group}
use Rattle.gp_alias.specs.Groups.{vertex_accessors, index_accessors}
use Rattle.gp_alias.specs.Movable.{is_movable, groups}
use Rattle.gp_alias.specs.Laws.{IsIn}
use Rattle.gp_alias.proofs.ClassLaws.{groups_say_what_moves}
use Rattle.gp_unpack.specs.Contents.{FaultyView}
use Rattle.gp_unpack.proofs.Drawn.{asset_holds}
use Rattle.gp_unpack.proofs.Whole.{contents_are_whole}
use Rattle.gp_document.specs.Document.{Document}
use Rattle.gp_document.specs.Accepted.{asset_of}
use Rattle.gp_sameness.specs.Moved.{Moved}
use Rattle.gp_packed.specs.Plan.{Stored, parts, output_views, packed_bin}
use Rattle.gp_packed.specs.Packed.{packed_tree}
use Rattle.gp_packed.specs.MeshesBack.{list_of_group, list_at, with_indices}
use Rattle.gp_packed.specs.PackedParts.{packed_accessors}
use Rattle.gp_packed.specs.MovedGroups.{moved_of, number_if, moved_groups}
use Rattle.gp_packed.specs.RulesMoved.{GroupIsWhole, GroupsAreWhole, HasParts, packed_asset_parts}
use Rattle.gp_kept.specs.ElementsMoved.{input_contents, output_contents, ContentsStay, ReadsBack, AreMovable, KeepsRest}
use Rattle.gp_kept.specs.TrianglesMoved.{RefersBelow, IsRead, ReadsMoved}
use Rattle.gp_sameness.specs.Same.{ViewsStay, ElementsStay, MovesAs, DrawsSame, KeepsVertices}
use Rattle.gp_kept.specs.PackedTogether.{CanBePacked, KeepsAsset, PackedGroupsAreSame}
use Rattle.gp_sameness.specs.Drawn.{elements_at}
use Rattle.gp_kept.proofs.PackedAccessors.{numbered_found, made_lists_there, accessors_counted}
use Rattle.gp_kept.proofs.GroupMembers.{in_all, in_rest, is_gathered, lists_below}
use Rattle.gp_kept.proofs.TrianglesMoved.{primitive_refers}
use Rattle.gp_kept.proofs.AssetsRead.{assets_are_read}
use Rattle.gp_kept.proofs.MovedWhole.{moved_group_is_whole}
use Rattle.gp_kept.proofs.MovedGroupsWhole.{groups_are_whole}
use Rattle.gp_kept.proofs.MovedBytes.{records_are_bytes}
use Rattle.gp_kept.proofs.MovedElements.{rest_kept}
use Rattle.gp_kept.proofs.PackedAsset.{packed_passes}
use Rattle.gp_kept.proofs.PackedTogether.{can_move, keeping_is_same}
use Rattle.gp_kept.proofs.GroupPlaces.{MovesAt, group_moves, number_given, numbered_last}
use Rattle.gp_kept.proofs.MovedReads.{reads_moved}
use Rattle.gp_kept.proofs.ImagesStay.{images_within, images_stay}
use Rattle.gp_kept.proofs.SameDrawn.{draws_same, keeps_vertices}

-- ---- the asset of the output

-- the bytes behind the parts in a container
abbrev behind : List Stored → List ℕ
behind views = replicate (missing (length (laid (parts views)))) 0

has_parts : (views : List Stored) → HasParts views (behind views) (option_map (padded 0) (packed_bin views))
unfolding laid_buffer padded
has_parts [] some = absurd (omega (arith, some))
has_parts (s ∷ views) some = refl

-- ---- an accessor for indices exists

number_below : (moved : List Moved) (a : AssetParts) (i n : ℕ) (m : Moved) (p : Primitive) → RefersBelow (length a.accessors) p
    → ((own : ℕ) → m.list_accessor ≡ Some own → own < length (packed_accessors moved a))
    → (indices : Option ℕ) → p.indices ≡ indices → option_or indices m.list_accessor ≡ Some n → n < length (packed_accessors moved a)
number_below moved a i n m p refers made None none is = made n is
number_below moved a i n m p refers made (Some at) some is =
    let same : at ≡ n = cc in
    let own : IsIn at (index_accessors p) = ap (λ o. list_any (λ k. k == at) (option_to_list o)) some ∙ or_left (at == at) false (eq-eqb at at refl) in
    let below = in_all (λ k. k < length a.accessors) (vertex_accessors p ++ index_accessors p) at refers (in_rest at (vertex_accessors p) (index_accessors p) own) in
    omega (arith, below, same, accessors_counted moved a)

-- ---- the law

module _ (bytes : List ℕ) (d : Document) (a : AssetParts) (contents : List (List ℕ)) (h : CanBePacked bytes d a contents) where
  abbrev moved : List Moved
  moved = moved_groups a contents

  is_asset : asset Plain d.tree d.bin ≡ Ok a
  unfolding asset_of
  is_asset = h.is_asset

  known : IsRead a contents
  known = assets_are_read Plain d.tree d.bin a contents is_asset (contents_are_whole Plain d.tree d.bin a contents is_asset h.read)

  -- ---- groups

  moves_whole : (k : ℕ) (g : Group) (next : ℕ) → slice_get (groups a contents) k ≡ Some g → g.movable ≡ true → GroupIsWhole a (moved_of a contents (number_if g.bare next) g)
  moves_whole k g next here movable =
      moved_group_is_whole a contents k g (number_if g.bare next) known here (sym (groups_say_what_moves a contents k g here) ∙ movable) (number_given g.bare next)

  apart_whole : GroupsAreWhole moved a
  apart_whole = groups_are_whole Plain d.tree d.bin a contents is_asset h.read

  reads : All (ReadsBack a) moved
  reads = λ i m within. record {
    whole = (apart_whole.each i m within).columns;
    bytes = records_are_bytes bytes d a contents h.small h.is_document h.is_asset h.read i m within;
    triangles = (apart_whole.each i m within).lists.triples;
  }

  movable : AreMovable a moved
  movable = record { reads = reads; views = λ i m within. (apart_whole.each i m within).views; apart = apart_whole.apart }

  -- ---- what is kept

  abbrev written : List (List ℕ)
  written = output_contents moved a

  module _ (f : AssetFields) (fields : asset_fields d.tree ≡ Ok f) where
    abbrev more : List ℕ
    more = behind (output_views moved a)

    abbrev out : AssetParts
    out = packed_asset_parts moved a f (extensions_in_use (packed_tree moved a d.tree)) more

    rest : KeepsRest moved a out
    rest = rest_kept moved bytes d a more out h.small h.is_document h.is_asset (record { buffers = refl; views = refl; accessors = refl }) reads

    same_contents : input_contents moved a ≡ contents
    same_contents =
        let both : ◌≡◌ {A = Result (List (List ℕ)) FaultyView} (Ok (input_contents moved a)) (Ok contents) = sym rest.read ∙ h.read in
        cc

    view_within : (view : ℕ) (bs : List ℕ) → slice_get contents view ≡ Some bs → view < length a.views
    view_within view bs found =
        let within = slice_get_within contents view bs found in
        let long : length contents ≡ length a.views = sym (length-map contents (λ (c : List ℕ). length c)) ∙ ap length known.views ∙ length-map a.views (λ (v : View). v.length) in
        omega (arith, within, long)

    contents_stay : ContentsStay moved a contents written
    contents_stay = subst (λ cs. ContentsStay moved a cs written) same_contents rest.views

    views_stay : ViewsStay moved a contents written
    views_stay view number bs found new = contents_stay view number (view_within view bs found) new ∙ found

    elements_stay : ElementsStay moved a contents out written
    elements_stay = subst (λ cs. ElementsStay moved a cs out written) same_contents rest.elements

    module _ (g : Group) (moves : MovesAs a contents g) where
      stands : MovesAt a contents moved g
      stands = group_moves a contents g moves

      abbrev list_accessor : Option ℕ
      list_accessor = number_if g.bare stands.next

      abbrev m : Moved
      m = moved_of a contents list_accessor g

      may_move : is_movable a contents g ≡ true
      may_move = sym (groups_say_what_moves a contents moves.number g moves.there) ∙ moves.movable

      after : ReadsMoved a m (elements_at out written)
      after = reads_moved a moved more out stands.at m (record { buffers = refl; views = refl; accessors = refl }) movable (numbered_last a contents) stands.there
          (moves_whole moves.number g stands.next moves.there moves.movable) (lists_below a g (is_gathered a contents moves.number g moves.there))

      made_below : (own : ℕ) → m.list_accessor ≡ Some own → own < length (packed_accessors moved a)
      made_below own is = slice_get_within (packed_accessors moved a) own _ (made_lists_there a moved stands.at own m (numbered_last a contents) stands.there is)

      indexed : (place : ℕ) (p : Primitive) → IsIn place g.primitives → slice_get a.primitives place ≡ Some p → slice_get out.primitives place ≡ Some (with_indices list_accessor p)
      indexed place p inside there =
          numbered_found (λ (q : ℕ × Primitive). with_indices (list_at moved q.0) q.1) 0 place place p a.primitives (omega arith) there
          ∙ ap (λ o. Some (with_indices (list_of_group o) p)) (stands.draws place inside)

      draws : (place : ℕ) (p : Primitive) → IsIn place g.primitives → slice_get a.primitives place ≡ Some p → DrawsSame a contents p out written (with_indices list_accessor p)
      draws place p inside there =
          draws_same a contents out written moves.number g list_accessor known moves.there may_move after place p (number_given g.bare stands.next) inside there
          (λ n is. number_below moved a stands.at n m p (primitive_refers a contents place p known there) made_below p.indices refl is)

      keeps : KeepsVertices a contents out written g.columns
      keeps = keeps_vertices a contents out written moves.number g list_accessor known moves.there may_move after

    keeps_asset : KeepsAsset moved d a contents
    keeps_asset = record {
      asset = out;
      is_asset =
          packed_passes d.tree d.bin a f moved more (option_map (padded 0) (packed_bin (output_views moved a))) h.is_document.holds.sound.distinct is_asset fields (can_move bytes d a contents h) apart_whole
          (has_parts (output_views moved a));
      written = written;
      decoded = rest.written;
      views = views_stay;
      elements = elements_stay;
      images = images_stay moved a contents written (images_within Plain d.tree d.bin a is_asset) contents_stay;
      triangles = λ g place p moves inside there. (with_indices (list_accessor g moves) p, indexed g moves place p inside there, draws g moves place p inside there);
      vertices = λ g moves. keeps g moves;
    }

  keeps_all : KeepsAsset moved d a contents
  keeps_all = asset_holds Plain d.tree d.bin a is_asset (λ f used r holds all. keeps_asset f holds.has_fields)

pub packed_groups_are_same : PackedGroupsAreSame
packed_groups_are_same bytes d a contents h = keeping_is_same bytes d a contents h (keeps_all bytes d a contents h)
