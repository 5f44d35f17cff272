-- Where a part of the output is a stream, its elements have some size.
use Rattle.std.specs.Prelude.{if◌then◌else◌, nat_le, length, filter_map, slice_get, is_some, option_map, option_to_list, zip, Option, Some, None, IfSome}
use Rattle.std.specs.List.{All, cons_option, enumerate_from}
use Rattle.std.proofs.Common.{◌≡◌, ℕ, zero, suc, ◌+◌, ◌<◌, Bool, true, false, true≢false, List, [], ◌∷◌, ◌++◌, map, sym, ap, ◌∙◌, subst, arith}
use Rattle.gp_tree.specs.Lexical.{Each}
use Rattle.gp_rules.specs.declared.accessing.Accessor.{Accessor}
use Rattle.gp_rules.specs.declared.storage.StreamMode.{StreamMode}
use Rattle.gp_rules.specs.declared.storage.StreamMode.TheVariants.{Attributes, Triangles, Indices}
use Rattle.gp_rules.specs.declared.storage.View.{View}
use Rattle.gp_rules.specs.Views.{is_stride_in}
use Rattle.gp_asset.specs.Contents.{plain_bytes}
use Rattle.gp_asset.specs.Asset.{AssetParts}
use Rattle.gp_storage.specs.declared.coding.Coding.{Coding}
use Rattle.gp_storage.specs.declared.coding.Stream.{Stream}
use Rattle.gp_storage.specs.Coding.{coding_of}
use Rattle.gp_storage.specs.Streams.{is_shorter, stream_as, stream_of, stored_views}
use Rattle.gp_unpack.proofs.EachItem.{all_of_each}
use Rattle.gp_pack.specs.declared.made.MadePart.{MadePart}
use Rattle.gp_pack.specs.declared.parts.Part.{Part}
use Rattle.gp_sameness.specs.Moved.{Moved}
use Rattle.gp_packed.specs.MadeViews.{Made, made_column, made_columns, made_list, made_lists, made_views}
use Rattle.gp_pack.specs.MadeParts.{made_part_of}
use Rattle.gp_pack.specs.OutputParts.{coding_if, shown_made, kept_rows, kept_shown}
use Rattle.gp_pack.specs.Placement.{Shown, shown, shown_of, HasStride}
use Rattle.gp_packed.specs.Plan.{Stored, stored_as}
use Rattle.gp_kept.proofs.GroupsRead.{element_some}
use Rattle.gp_packed.proofs.MadeViewsBack.{each_append}
use Rattle.gp_packed.proofs.StoredSuits.{FitsMode, FitsCoding, coding_fits}

abbrev SomeStride : Coding → Type 0
SomeStride c = 0 < c.stride

abbrev ShowsStride : Shown → Type 0
ShowsStride s = IfSome s.coding SomeStride

-- ---- views that stay

abbrev StreamHasStride : Option Stream → Type 0
StreamHasStride o = IfSome o (λ (s : Stream). SomeStride s.coding)

some_stride : (mode : StreamMode) (stride : ℕ) → is_stride_in mode stride ≡ true → 0 < stride
some_stride mode (suc n) is = omega arith
some_stride Attributes zero is = absurd (true≢false (sym is))
some_stride Triangles zero is = absurd (true≢false (sym is))
some_stride Indices zero is = absurd (true≢false (sym is))

fits_some : (v : View) (bytes : List ℕ) (mode : StreamMode) (stride : ℕ) → FitsMode v bytes mode stride → 0 < stride
fits_some v bytes Attributes stride fit = some_stride Attributes stride fit.fits
fits_some v bytes Triangles stride fit = absurd fit
fits_some v bytes Indices stride fit = some_stride Indices stride fit.fits

stream_if : (shorter : Bool) (c : Coding) (bytes : List ℕ) → SomeStride c → StreamHasStride (if shorter then Some (stream_as c bytes) else None)
stream_if true c bytes some = some
stream_if false c bytes some = tt

stream_stride : (v : View) (coding : Option Coding) (bytes : List ℕ) → IfSome coding (FitsCoding v bytes) → StreamHasStride (stream_of coding bytes)
unfolding stream_of
stream_stride v None bytes fit = tt
stream_stride v (Some c) bytes fit = stream_if (is_shorter c bytes) c bytes (fits_some v bytes c.mode c.stride fit)

streams_from : (a : AssetParts) (flags : List Bool) (k : ℕ) (vs : List View)
    → Each StreamHasStride (map (λ (p : ℕ × View). stream_of (coding_of a flags p.0 p.1) (plain_bytes a.buffers p.1)) (enumerate_from k vs))
streams_from a flags k [] = tt
streams_from a flags k (v ∷ vs) = (stream_stride v (coding_of a flags k v) (plain_bytes a.buffers v) (coding_fits a flags k v), streams_from a flags (k + 1) vs)

streams_have : (a : AssetParts) (flags : List Bool) → Each StreamHasStride (stored_views a flags)
unfolding stored_views
streams_have a flags = streams_from a flags 0 a.views

abbrev StoredShows : Stored → Type 0
StoredShows s = ShowsStride (shown_of s)

stored_shows : (contents : List ℕ) (o : Option Stream) → StreamHasStride o → StoredShows (stored_as (contents, o))
stored_shows contents None some = tt
stored_shows contents (Some s) some = some

stored_show : (contents : List (List ℕ)) (streams : List (Option Stream)) → Each StreamHasStride streams → Each StoredShows (map stored_as (zip contents streams))
stored_show [] streams some = tt
stored_show (c ∷ contents) [] some = tt
stored_show (c ∷ contents) (o ∷ streams) some = (stored_shows c o some.0, stored_show contents streams some.1)

kept_by : (number : Option ℕ) (s : Stored) (rows : List (Option ℕ × Stored)) → StoredShows s → Each ShowsStride (kept_rows rows) → Each ShowsStride (kept_rows ((number, s) ∷ rows))
kept_by None s rows own rest = rest
kept_by (Some n) s rows own rest = (own, rest)

kept_show : (numbers : List (Option ℕ)) (ss : List Stored) → Each StoredShows ss → Each ShowsStride (kept_rows (zip numbers ss))
kept_show [] ss some = tt
kept_show (n ∷ numbers) [] some = tt
kept_show (n ∷ numbers) (s ∷ ss) some = kept_by n s (zip numbers ss) some.0 (kept_show numbers ss some.1)

-- ---- views that are made

abbrev MadeHasStride : Made → Type 0
MadeHasStride v = SomeStride v.coding

column_by : (a : AssetParts) (m : Moved) (k at : ℕ) (o : Option Accessor) (rest : List Made) → Each MadeHasStride rest → Each MadeHasStride (cons_option (option_map (made_column a m k at) o) rest)
column_by a m k at None rest some = some
column_by a m k at (Some x) rest some = (omega (arith, element_some x.component x.shape), some)

columns_have : (a : AssetParts) (m : Moved) (ps : List (ℕ × ℕ)) → Each MadeHasStride (filter_map (λ (p : ℕ × ℕ). option_map (made_column a m p.0 p.1) (slice_get a.accessors p.1)) ps)
columns_have a m [] = tt
columns_have a m (p ∷ ps) =
    column_by a m p.0 p.1 (slice_get a.accessors p.1) (filter_map (λ (q : ℕ × ℕ). option_map (made_column a m q.0 q.1) (slice_get a.accessors q.1)) ps) (columns_have a m ps)

width_some : (narrow : Bool) → 0 < (if narrow then 2 else 4)
width_some true = omega arith
width_some false = omega arith

lists_have : (m : Moved) (ps : List (ℕ × List ℕ)) → Each MadeHasStride (map (made_list m) ps)
lists_have m [] = tt
lists_have m (p ∷ ps) = (width_some (nat_le (length m.records) 65535), lists_have m ps)

made_have : (a : AssetParts) (moved : List Moved) → Each MadeHasStride (made_views a moved)
made_have a [] = tt
made_have a (m ∷ moved) =
    each_append MadeHasStride (made_columns a m ++ made_lists m) (made_views a moved)
    (each_append MadeHasStride (made_columns a m) (made_lists m) (columns_have a m (enumerate_from 0 m.columns)) (lists_have m (zip (m.lists ++ option_to_list m.list_accessor) m.ordered)))
    (made_have a moved)

coding_shows : (is_stream : Bool) (c : Coding) → SomeStride c → IfSome (coding_if is_stream c) SomeStride
coding_shows true c some = some
coding_shows false c some = tt

made_show : (vs : List Made) → Each MadeHasStride vs → Each ShowsStride (map shown_made (map made_part_of vs))
made_show [] some = tt
made_show (v ∷ vs) some = (coding_shows (is_some (stream_of (Some v.coding) v.contents)) v.coding some.0, made_show vs some.1)

-- ---- all parts

parts_have : (parts : List Part) → Each ShowsStride (map shown parts) → Each HasStride parts
parts_have [] some = tt
parts_have (p ∷ parts) some = (some.0, parts_have parts some.1)

pub parts_have_strides : (a : AssetParts) (flags : List Bool) (streams : List (Option Stream)) (numbers : List (Option ℕ)) (moved : List Moved) (made : List MadePart) (parts : List Part)
    → streams ≡ stored_views a flags → made ≡ map made_part_of (made_views a moved) → map shown parts ≡ kept_shown a streams numbers ++ map shown_made made
    → All HasStride parts
parts_have_strides a flags streams numbers moved made parts stored are is =
    let own = kept_show numbers (map stored_as (zip (map (λ (v : View). plain_bytes a.buffers v) a.views) (stored_views a flags)))
    (stored_show (map (λ (v : View). plain_bytes a.buffers v) a.views) (stored_views a flags) (streams_have a flags)) in
    let all = each_append ShowsStride (kept_shown a (stored_views a flags) numbers) (map shown_made (map made_part_of (made_views a moved))) own (made_show (made_views a moved) (made_have a moved)) in
    let same = is ∙ ap (λ ss. kept_shown a ss numbers ++ map shown_made made) stored ∙ ap (λ ps. kept_shown a (stored_views a flags) numbers ++ map shown_made ps) are in
    all_of_each HasStride parts (parts_have parts (subst (Each ShowsStride) (sym same) all))
