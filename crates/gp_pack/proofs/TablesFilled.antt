-- The tables that are filled are those of what moves.
use Rattle.std.specs.Prelude.{is_some, option_map, option_and_then, unwrap_or, IfSome}
use Rattle.std.specs.List.{All, range_with_len, count_by, filter_map}
use Rattle.std.proofs.Common.{◌≡◌, ℕ, ◌+◌, ◌-◌, ◌<◌, ◌≤◌, ◌⊎◌, inl, inr, List, [], ◌∷◌, map, length, slice_get, Option, Some, None, refl, sym, ap, ◌∙◌, arith}
use Rattle.std.proofs.lemmas.List.{length-map, get_or_past}
use Rattle.std.proofs.lemmas.List.FromFn.{length-map-range_with_len, get_or-map-range_with_len}
use Rattle.gp_tree.specs.Lexical.{Each}
use Rattle.gp_asset.specs.Asset.{AssetParts}
use Rattle.gp_alias.specs.Survivors.{renumbered as number_by, new_numbers}
use Rattle.gp_unpack.proofs.EachItem.{each_of_all, each_is}
use Rattle.gp_moves.specs.declared.accessors.AccessorMove.{AccessorMove}
use Rattle.gp_moves.specs.declared.accessors.AccessorMove.TheVariants.{Stays}
use Rattle.gp_moves.specs.declared.group_edit.GroupEdit.{GroupEdit}
use Rattle.gp_moves.specs.declared.group_edit.Part.{Part}
use Rattle.gp_moves.specs.declared.group_edit.Part.TheVariants.{Columns, Lists}
use Rattle.gp_moves.specs.declared.made.MadeList.{MadeList}
use Rattle.gp_moves.specs.Accessors.{move_at}
use Rattle.gp_moves.specs.Firsts.{first_value, entries_of, placed, written}
use Rattle.gp_moves.specs.MadeTrees.{list_at as table_at}
use Rattle.gp_moves.specs.References.{new_number}
use Rattle.gp_pack.specs.declared.making.MadeGroups.{MadeGroups}
use Rattle.gp_pack.specs.declared.moving.MoveTables.{MoveTables}
use Rattle.gp_pack.specs.declared.tables.Places.{Places}
use Rattle.gp_sameness.specs.Moved.{Moved, is_moved, group_with}
use Rattle.gp_sameness.specs.Survivors.{survives, renumbered, where_numbered}
use Rattle.gp_packed.specs.MadeViews.{list_component, made_views, made_place}
use Rattle.gp_packed.specs.MadeLaws.{HasViews as OrderedViews}
use Rattle.gp_pack.specs.Making.{IsMovedAs}
use Rattle.gp_sameness.specs.Common.{primitive_place}
use Rattle.gp_packed.specs.GroupEdits.{made_number}
use Rattle.gp_packed.specs.MeshesBack.{list_at}
use Rattle.gp_pack.specs.MoveTables.{HasViews, AreTables, group_edit_of, part_in, move_by, accessor_move, made_list_of, dropped_of}
use Rattle.gp_pack.specs.TableParts.{ArePlaces, value_at, group_at, view_of_part, view_number, move_with, move_of, moves_of, list_made}
use Rattle.gp_pack.proofs.FirstGroups.{first_found}
use Rattle.gp_pack.proofs.FoundNumbers.{same_numbers, found_numbers}
use Rattle.gp_pack.proofs.FoundPlaces.{found_places}
use Rattle.gp_pack.proofs.TableEntries.{found_within, within_or_past, edited_at, moves_alike, no_group, is_numbered, kept_counted, rest_dropped, same_picked, views_alike}

-- ---- entries

value_within : (f : ℕ → Option ℕ) (values : List (Option ℕ)) (n at : ℕ) → values ≡ map f (range_with_len 0 n) → at < n → value_at values at ≡ f at
value_within f values n at are h =
    let e : 0 + at ≡ at = omega arith in
    ap (λ v. value_at v at) are ∙ ap (λ o. unwrap_or o None) (found_within f 0 n at h) ∙ ap f e

group_found : (part : Part) (moved : List Moved) (groups : List GroupEdit) (values : List (Option ℕ)) (n at : ℕ)
    → groups ≡ map group_edit_of moved → values ≡ map (first_value (entries_of part groups)) (range_with_len 0 n) → at < n
    → group_at groups (value_at values at) ≡ option_map group_edit_of (group_with (part_in part) moved at)
group_found part moved groups values n at are filled h =
    ap (group_at groups) (value_within (first_value (entries_of part groups)) values n at filled h)
    ∙ ap (λ gs. option_and_then (slice_get gs) (first_value (entries_of part groups) at)) are
    ∙ edited_at moved (first_value (entries_of part groups) at)
    ∙ ap (option_map group_edit_of) (first_found moved groups part at are)

-- ---- views that are made

pub stay_counted : (moved : List Moved) (a : AssetParts) (numbers : List (Option ℕ)) → numbers ≡ new_numbers (is_moved moved) a
    → count_by is_some numbers ≡ length (where_numbered (survives moved a) a.views)
unfolding new_numbers renumbered
stay_counted moved a numbers are =
    ap (λ ns. count_by is_some ns) are
    ∙ kept_counted (number_by (is_moved moved) a) (survives moved a)
    (λ view. is_numbered (number_by (is_moved moved) a view) (survives moved a view) (count_by (survives moved a) (range_with_len 0 view)) (same_numbers moved a view))
    0 a.views

number_of : (stay kept made : ℕ) (place : Option ℕ) (x y z : ℕ) → x ≡ kept → kept ≡ stay → y ≡ made → unwrap_or place made ≡ z → x + unwrap_or place y ≡ stay + z
number_of stay kept made place x y z e f g h = let same : unwrap_or place y ≡ z = ap (unwrap_or place) g ∙ h in omega (arith, e, f, same)

number_is : (moved : List Moved) (a : AssetParts) (groups : List GroupEdit) (kept : ℕ) (p : Places) (at : ℕ)
    → groups ≡ map group_edit_of moved → All (HasViews a) moved → kept ≡ length (where_numbered (survives moved a) a.views) → ArePlaces groups (length a.accessors) kept p
    → at < length a.accessors + length groups → view_number p at ≡ made_number moved a at
number_is moved a groups kept p at are whole stay places h =
    let views = first_value (placed (written groups)) in
    ap (λ o. p.kept + unwrap_or o p.made) (value_within views p.views.items (length a.accessors + length groups) at places.views h)
    ∙ number_of (length (where_numbered (survives moved a) a.views)) kept (length (written groups)) (views at) p.kept p.made (made_place (made_views a moved) at)
    places.stay stay places.made (found_places moved a groups at are whole)

-- ---- accessors

move_within : (moved : List Moved) (a : AssetParts) (groups : List GroupEdit) (kept : ℕ) (p : Places) (at : ℕ)
    → groups ≡ map group_edit_of moved → All (HasViews a) moved → kept ≡ length (where_numbered (survives moved a) a.views) → ArePlaces groups (length a.accessors) kept p
    → at < length a.accessors → move_of groups p at ≡ accessor_move moved a at
move_within moved a groups kept p at are whole stay places h =
    let n = length a.accessors in
    let more : at < n + length groups = omega (arith, h) in
    let list = group_at groups (value_at p.lists.items at) in
    let column = option_map group_edit_of (group_with (part_in Columns) moved at) in
    ap (λ view. move_with view (group_at groups (value_at p.columns.items at)) list) (number_is moved a groups kept p at are whole stay places more)
    ∙ ap (λ o. move_with (made_number moved a at) o list) (group_found Columns moved groups p.columns.items n at are places.columns h)
    ∙ ap (move_with (made_number moved a at) column) (group_found Lists moved groups p.lists.items n at are places.lists h)
    ∙ moves_alike (made_number moved a at) (group_with (part_in Columns) moved at) (group_with (part_in Lists) moved at)

pub moves_are : (moved : List Moved) (a : AssetParts) (groups : List GroupEdit) (kept : ℕ) (p : Places) (moves : List AccessorMove) (at : ℕ)
    → groups ≡ map group_edit_of moved → All (HasViews a) moved → kept ≡ length (where_numbered (survives moved a) a.views) → ArePlaces groups (length a.accessors) kept p
    → Each (λ (m : Moved). Each (λ k. k < length a.accessors) m.columns) moved → Each (λ (m : Moved). Each (λ k. k < length a.accessors) m.lists) moved
    → moves ≡ moves_of groups p (length a.accessors) → move_at moves at ≡ accessor_move moved a at
moves_are moved a groups kept p moves at are whole stay places columns lists filled =
    ap (λ ms. move_at ms at) filled ∙ by_place (within_or_past at (length a.accessors))
  where
    by_place : (at < length a.accessors) ⊎ (length a.accessors ≤ at) → move_at (moves_of groups p (length a.accessors)) at ≡ accessor_move moved a at
    by_place (inl h) =
        get_or-map-range_with_len (move_of groups p) 0 (length a.accessors) at at Stays h (omega arith)
        ∙ move_within moved a groups kept p at are whole stay places h
    by_place (inr h) =
        let n = length a.accessors in
        let past : length (moves_of groups p n) ≤ at = omega (arith, h, length-map-range_with_len (move_of groups p) 0 n) in
        get_or_past (moves_of groups p n) at Stays past
        ∙ sym (ap (λ o. move_by (made_number moved a at) o (group_with (λ (m : Moved). m.lists) moved at)) (no_group (λ (m : Moved). m.columns) n at moved h columns)
        ∙ ap (move_by (made_number moved a at) None) (no_group (λ (m : Moved). m.lists) n at moved h lists))

-- ---- lists that are made

abbrev made_with : (ℕ → ℕ) → Moved → Option ℕ → Option MadeList
made_with view m number = option_map {U = MadeList} (λ at. record { view = view at; component = list_component m; count = m.count }) number

list_is : (view number : ℕ → ℕ) (bound : ℕ) → ((at : ℕ) → at < bound → view at ≡ number at) → (m : Moved) (list : Option ℕ) → IfSome list (λ at. at < bound)
    → made_with view m list ≡ made_with number m list
list_is view number bound same m None below = refl
list_is view number bound same m (Some at) below = ap (λ n. made_with (λ k. n) m (Some at)) (same at below)

all_alike : (moved : List Moved) (a : AssetParts) (p : Places) (bound : ℕ) → ((at : ℕ) → at < bound → view_number p at ≡ made_number moved a at)
    → (ms : List Moved) → Each (λ (m : Moved). IfSome m.list_accessor (λ at. at < bound)) ms
    → Each (λ (m : Moved). list_made p (group_edit_of m) ≡ made_list_of moved a m) ms
all_alike moved a p bound same [] below = tt
all_alike moved a p bound same (m ∷ ms) below =
    (list_is (view_number p) (made_number moved a) bound same m m.list_accessor below.0, all_alike moved a p bound same ms below.1)

lists_are : (moved : List Moved) (a : AssetParts) (groups : List GroupEdit) (kept : ℕ) (p : Places)
    → groups ≡ map group_edit_of moved → All (HasViews a) moved → kept ≡ length (where_numbered (survives moved a) a.views) → ArePlaces groups (length a.accessors) kept p
    → Each (λ (m : Moved). IfSome m.list_accessor (λ at. at < length a.accessors + length moved)) moved
    → filter_map (list_made p) groups ≡ filter_map (made_list_of moved a) moved
lists_are moved a groups kept p are whole stay places below =
    let counted : length groups ≡ length moved = ap (λ (gs : List GroupEdit). length gs) are ∙ length-map moved group_edit_of in
    ap (filter_map (list_made p)) are
    ∙ same_picked group_edit_of (list_made p) (made_list_of moved a) moved
    (all_alike moved a p (length a.accessors + length moved) (λ at h. number_is moved a groups kept p at are whole stay places (omega (arith, h, counted))) moved below)

-- ---- all tables

others_have : (a : AssetParts) (moved : List Moved) → All (OrderedViews a) moved → All (HasViews a) moved
others_have a moved h k d within = let views = h k d within in record { exist = views.exist; ordered = views.each }

each_below : (n : ℕ) (part : Moved → List ℕ) (moved : List Moved) → All (λ m. All (λ k. k < n) (part m)) moved → Each (λ m. Each (λ k. k < n) (part m)) moved
each_below n part moved h =
    each_is (λ m. All (λ k. k < n) (part m)) (λ m. Each (λ k. k < n) (part m)) (λ m below. each_of_all (λ k. k < n) (part m) below) moved
    (each_of_all (λ m. All (λ k. k < n) (part m)) moved h)

pub tables_are : (moved : List Moved) (a : AssetParts) (made : MadeGroups) (groups : List GroupEdit) (numbers : List (Option ℕ)) (kept : ℕ) (p : Places) (t : MoveTables)
    → IsMovedAs a moved made numbers → groups ≡ made.edits.items → kept ≡ count_by is_some numbers → ArePlaces groups (length a.accessors) kept p
    → t.accessors.items ≡ moves_of groups p (length a.accessors)
    → t.lists.items ≡ filter_map (list_made p) groups
    → ((mesh at : ℕ) → table_at t.meshes.items mesh at ≡ list_at moved (primitive_place a mesh at))
    → t.numbers.items ≡ numbers → t.dropped ≡ length numbers - kept
    → t.made.items ≡ map view_of_part made.parts.items
    → AreTables moved a t
tables_are moved a made groups numbers kept p t is these so places accessors lists meshes renewed dropped views =
    let are = these ∙ is.edits in
    let n = length a.accessors in
    let whole = others_have a moved is.views in
    let stay = so ∙ stay_counted moved a numbers is.renewed in
    record {
      counted = ap (λ (ms : List AccessorMove). length ms) accessors ∙ length-map-range_with_len (move_of groups p) 0 n;
      accessors = λ at. moves_are moved a groups kept p t.accessors.items at are whole stay places
          (each_below n (λ m. m.columns) moved is.named.columns) (each_below n (λ m. m.lists) moved is.named.lists) accessors;
      lists = lists ∙ lists_are moved a groups kept p are whole stay places
          (each_of_all (λ (m : Moved). IfSome m.list_accessor (λ at. at < n + length moved)) moved is.named.made);
      meshes = meshes;
      views = λ view.
          ap (λ ns. new_number ns t.dropped view) renewed
          ∙ ap (λ d. new_number numbers d view) (rest_dropped numbers kept t.dropped so dropped)
          ∙ ap (λ ns. new_number ns (dropped_of ns) view) is.renewed
          ∙ found_numbers moved a view is.there;
      made = views ∙ ap (map view_of_part) is.parts ∙ views_alike (made_views a moved);
    }
