-- From the groups that moved to the views of the output.
use Rattle.std.specs.Prelude.{cond, if◌then◌else◌, is_some, Option, Some, None, IfSome}
use Rattle.std.specs.List.{All, filter, zip, count_by, enumerate_from, range_with_len}
use Rattle.std.proofs.Common.{◌≡◌, ℕ, zero, suc, ◌+◌, Bool, true, false, List, [], ◌∷◌, ◌++◌, map, length, refl, sym, ap, ◌∙◌, subst}
use Rattle.std.proofs.lemmas.List.{length-map}
use Rattle.std.proofs.lemmas.List.Elements.{All-head, All-tail}
use Rattle.gp_rules.specs.declared.storage.View.{View}
use Rattle.gp_asset.specs.Contents.{plain_bytes, plain_if, plain_views}
use Rattle.gp_asset.specs.Asset.{AssetParts}
use Rattle.gp_elements.specs.Held.{contents_of}
use Rattle.gp_alias.specs.Movable.{groups}
use Rattle.gp_alias.specs.Survivors.{new_numbers}
use Rattle.gp_storage.specs.declared.coding.Coding.{Coding}
use Rattle.gp_storage.specs.declared.coding.Stream.{Stream}
use Rattle.gp_storage.specs.Streams.{is_shorter, stream_as, stream_of, stored_views}
use Rattle.gp_unpack.proofs.EachItem.{each_of_all}
use Rattle.gp_pack.specs.declared.making.MadeGroups.{MadeGroups}
use Rattle.gp_pack.specs.declared.made.MadePart.{MadePart}
use Rattle.gp_sameness.specs.Moved.{Moved, is_moved, moved_flags}
use Rattle.gp_sameness.specs.Survivors.{survives, renumbered, where_numbered}
use Rattle.gp_packed.specs.MadeViews.{Made, made_views}
use Rattle.gp_packed.specs.MadeLaws.{HasViews}
use Rattle.gp_pack.specs.MadeParts.{part_by, made_part_of}
use Rattle.gp_packed.specs.MovedGroups.{moved_groups}
use Rattle.gp_pack.specs.MoveTables.{ReferencesAreThere}
use Rattle.gp_packed.specs.Plan.{Stored, stored_made, stored_with, all_stored, output_views}
use Rattle.gp_pack.specs.Placement.{Shown, shown_of}
use Rattle.gp_pack.specs.OutputParts.{shown_made, kept_rows, kept_shown}
use Rattle.gp_packed.specs.Packed.{plain_contents}
use Rattle.gp_pack.specs.Making.{Kept, own_contents, none_kept, NamesWhatIs, IsMoving, IsMovedAs}
use Rattle.gp_pack.proofs.MovedAll.{moved_with, edits_kept, parts_kept, mapped_append}
use Rattle.gp_packed.proofs.OutputViews.{stored_counted}

-- ---- contents

own_list : (buffers : List (Option (List ℕ))) (vs : List View) → All (λ (v : View). v.packed ≡ None) vs
    → contents_of (map (λ (v : View). plain_if buffers v v.packed) vs) ≡ map (λ (v : View). plain_bytes buffers v) vs
own_list buffers [] plain = refl
own_list buffers (v ∷ vs) plain =
    ap (λ o. contents_of (plain_if buffers v o ∷ map (λ (u : View). plain_if buffers u u.packed) vs)) (All-head (λ (u : View). u.packed ≡ None) v vs plain)
    ∙ ap (λ l. plain_bytes buffers v ∷ l) (own_list buffers vs (All-tail (λ (u : View). u.packed ≡ None) v vs plain))

pub own_are : (a : AssetParts) → All (λ (v : View). v.packed ≡ None) a.views → own_contents a ≡ plain_contents a
own_are a plain = own_list a.buffers a.views plain

-- ---- groups

same_one : {A B : Type 0} (f g : A → B) → ((x : A) → f x ≡ g x) → f ≡ g
same_one f g h i x = h x i

same_moves : (a : AssetParts) (made : MadeGroups) (numbers : List (Option ℕ)) (flags : List Bool) → IsMoving a made numbers flags
    → (numbers ≡ new_numbers (is_moved (moved_groups a (own_contents a))) a) × (flags ≡ moved_flags (moved_groups a (own_contents a)) (length a.accessors))
unfolding moved_groups
same_moves a made numbers flags is =
    let gs = groups a (own_contents a) in
    let same = same_one _ _ (λ at. moved_with a (own_contents a) at (length a.accessors) gs) in
    (is.renewed ∙ ap (λ f. new_numbers f a) same, is.flagged ∙ ap (λ f. map f (range_with_len 0 (length a.accessors))) same)

pub flags_are : (a : AssetParts) (made : MadeGroups) (numbers : List (Option ℕ)) (flags : List Bool) → IsMoving a made numbers flags
    → flags ≡ moved_flags (moved_groups a (own_contents a)) (length a.accessors)
flags_are a made numbers flags is = (same_moves a made numbers flags is).1

pub moved_as : (a : AssetParts) (made : MadeGroups) (numbers : List (Option ℕ)) (flags : List Bool) → IsMoving a made numbers flags
    → All (HasViews a) (moved_groups a (own_contents a)) → ReferencesAreThere a → NamesWhatIs a (moved_groups a (own_contents a)) → IsMovedAs a (moved_groups a (own_contents a)) made numbers
unfolding moved_groups
moved_as a made numbers flags is views there named =
    let gs = groups a (own_contents a) in
    record {
      edits = ap (λ (k : Kept). k.edits) is.moves ∙ edits_kept a (none_kept a) gs;
      parts = ap (λ (k : Kept). k.parts) is.moves ∙ parts_kept a (none_kept a) gs (each_of_all (HasViews a) (moved_groups a (own_contents a)) views);
      renewed = (same_moves a made numbers flags is).0;
      views = views;
      there = there;
      named = named;
    }

-- ---- views that are made

abbrev CodedAs : Coding → Option Stream → Type 0
CodedAs coding stream = IfSome stream (λ (s : Stream). s.coding ≡ coding)

coded_if : (b : Bool) (c : Coding) (bytes : List ℕ) → CodedAs c (if b then Some (stream_as c bytes) else None)
coded_if true c bytes = refl
coded_if false c bytes = tt

coded_as : (c : Coding) (bytes : List ℕ) → CodedAs c (stream_of (Some c) bytes)
unfolding stream_of
coded_as c bytes = coded_if (is_shorter c bytes) c bytes

shown_by : (c : Coding) (bytes : List ℕ) (o : Option Stream) → CodedAs c o → shown_made (part_by c bytes o) ≡ shown_of (record { contents = bytes; stream = o })
shown_by c bytes None h = refl
shown_by c bytes (Some s) h = ap (λ d. record { length = length bytes; coding = Some d; bytes = s.bytes }) (sym h)

made_shown : (vs : List Made) → map shown_made (map made_part_of vs) ≡ map shown_of (map stored_made vs)
made_shown [] = refl
made_shown (v ∷ vs) =
    ap (λ s. s ∷ map shown_made (map made_part_of vs)) (shown_by v.coding v.contents (stream_of (Some v.coding) v.contents) (coded_as v.coding v.contents))
    ∙ ap (λ l. shown_of (stored_made v) ∷ l) (made_shown vs)

-- ---- views that stay

abbrev number_by : (ℕ → Bool) → (ℕ → ℕ) → ℕ → Option ℕ
number_by test f v = if test v then Some (f v) else None

kept_step : (b : Bool) (n k : ℕ) (s : Stored) (rows : List (Option ℕ × Stored)) (others : List (ℕ × Stored)) → kept_rows rows ≡ map shown_of (map (λ (p : ℕ × Stored). p.1) others)
    → kept_rows ((if b then Some n else None, s) ∷ rows) ≡ map shown_of (map (λ (p : ℕ × Stored). p.1) (cond b ((k, s) ∷ others) others))
kept_step true n k s rows others same = ap (λ l. shown_of s ∷ l) same
kept_step false n k s rows others same = same

kept_same : (test : ℕ → Bool) (f : ℕ → ℕ) (k : ℕ) (ss : List Stored)
    → kept_rows (zip (map (number_by test f) (range_with_len k (length ss))) ss) ≡ map shown_of (map (λ (p : ℕ × Stored). p.1) (filter (λ (p : ℕ × Stored). test p.0) (enumerate_from k ss)))
kept_same test f k [] = refl
kept_same test f k (s ∷ ss) =
    kept_step (test k) (f k) k s (zip (map (number_by test f) (range_with_len (k + 1) (length ss))) ss) (filter (λ (p : ℕ × Stored). test p.0) (enumerate_from (k + 1) ss)) (kept_same test f (k + 1) ss)

abbrev pub numbers_of : List Moved → AssetParts → List (Option ℕ)
numbers_of moved a = map (renumbered moved a) (range_with_len 0 (length a.views))

survivors_shown : (moved : List Moved) (a : AssetParts) → kept_rows (zip (numbers_of moved a) (all_stored moved a)) ≡ map shown_of (where_numbered (survives moved a) (all_stored moved a))
unfolding renumbered
survivors_shown moved a =
    ap (λ n. kept_rows (zip (map (renumbered moved a) (range_with_len 0 n)) (all_stored moved a))) (sym (stored_counted moved a))
    ∙ kept_same (survives moved a) (λ view. count_by (survives moved a) (range_with_len 0 view)) 0 (all_stored moved a)

-- together the views of the output
pub output_shown : (moved : List Moved) (a : AssetParts) (streams : List (Option Stream)) (numbers : List (Option ℕ)) (flags : List Bool) (shown : List Shown) (parts : List MadePart)
    → streams ≡ stored_views a flags → flags ≡ moved_flags moved (length a.accessors) → numbers ≡ numbers_of moved a → parts ≡ map made_part_of (made_views a moved)
    → shown ≡ kept_shown a streams numbers ++ map shown_made parts
    → shown ≡ map shown_of (output_views moved a)
unfolding all_stored output_views
output_shown moved a streams numbers flags shown parts are flagged renewed made is =
    is ∙ ap (λ ns. kept_shown a streams ns ++ map shown_made parts) renewed
    ∙ ap (λ ss. kept_shown a ss (numbers_of moved a) ++ map shown_made parts) (are ∙ ap (stored_views a) flagged)
    ∙ ap (λ ps. kept_rows (zip (numbers_of moved a) (all_stored moved a)) ++ map shown_made ps) made
    ∙ ap (λ l. l ++ map shown_made (map made_part_of (made_views a moved))) (survivors_shown moved a)
    ∙ ap (λ l. map shown_of (where_numbered (survives moved a) (all_stored moved a)) ++ l) (made_shown (made_views a moved))
    ∙ sym (mapped_append shown_of (where_numbered (survives moved a) (all_stored moved a)) (map stored_made (made_views a moved)))
