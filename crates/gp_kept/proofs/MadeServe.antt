-- Made views break no rule, and what is stored for them serves.
use Rattle.std.specs.Prelude.{if◌then◌else◌, IfSome, option_to_list, zip}
use Rattle.std.specs.List.{All}
use Rattle.std.proofs.Common.{◌≡◌, ℕ, ◌*◌, ◌/◌, ◌%◌, ◌<◌, ◌≤◌, ◌==◌, ◌||◌, not, Bool, true, false, List, [], ◌∷◌, ◌++◌, length, get_or, Option, Some, None, refl, arith}
use Rattle.std.proofs.lemmas.Bool.{or_from, ne_eqb, not_from_true, ltb-true}
use Rattle.std.proofs.lemmas.List.Elements.{All-map, All-head, All-tail}
use Rattle.gp_tree.specs.Lexical.{Each}
use Rattle.gp_fields.specs.Fields.{ViewFields}
use Rattle.gp_rules.specs.declared.accessing.Accessor.{Accessor}
use Rattle.gp_rules.specs.declared.storage.View.{View}
use Rattle.gp_rules.specs.Sizes.{padded}
use Rattle.gp_rules.specs.Views.{is_stride_in, is_stride_of_view, is_count_in, agrees}
use Rattle.gp_rules.specs.Accessors.{size_of}
use Rattle.gp_asset.specs.Asset.{AssetParts}
use Rattle.gp_storage.specs.declared.coding.Coding.{Coding}
use Rattle.gp_storage.specs.Streams.{encoded, is_shorter, stream_as, stream_of}
use Rattle.gp_document.proofs.Few.{with_packed}
use Rattle.gp_unpack.proofs.EachItem.{each_of_all}
use Rattle.gp_sameness.specs.Moved.{Moved}
use Rattle.gp_packed.specs.MadeViews.{Made, column_contents, made_column, made_columns, made_list, made_lists, made_views}
use Rattle.gp_packed.specs.Plan.{Stored, stored_made}
use Rattle.gp_packed.specs.MeshesBack.{made_fields}
use Rattle.gp_packed.specs.MadeLaws.{IsWhole, list_contents}
use Rattle.gp_packed.specs.PackedParts.{made_view}
use Rattle.gp_packed.specs.RulesMoved.{ListsAreWhole, GroupIsWhole, IsStreamFor, Serves}
use Rattle.gp_packed.proofs.StoredSuits.{whole_elements, long_stream}
use Rattle.gp_kept.proofs.MadeColumns.{At}
use Rattle.gp_kept.proofs.MadeSizes.{column_view, all_columns, all_zipped, list_view}
use Rattle.gp_kept.proofs.MadeStreams.{wider, fits_attributes, streamed_lists_suit}
use Rattle.gp_packed.proofs.MadeViewsBack.{each_append}

-- the fields of a view break no rule by themselves, and stand for it
abbrev pub Sound : ViewFields → View → Type 0
Sound f y = ((f.length == 0 || not (is_stride_of_view f.stride)) ≡ false) × (with_packed f y.packed ≡ y)

-- what is stored serves a view
abbrev pub ServesView : View → Stored → Type 0
ServesView v s = Serves v.length v.stride s

abbrev pub MadeServes : Made → Type 0
MadeServes v = Sound (made_fields v) (made_view v) × ServesView (made_view v) (stored_made v)

-- ---- a stream

-- what the rules ask of one that is coded so, whether or not it is shorter
pub record CodesFor (stride : Option ℕ) (bytes : List ℕ) (c : Coding) : Type 0 where
  pub strides : is_stride_in c.mode c.stride ≡ true
  pub counts : is_count_in c.mode (length bytes / c.stride) ≡ true
  pub whole : c.stride * (length bytes / c.stride) ≡ length bytes
  pub agree : agrees stride c.stride ≡ true
  pub longer : 5 < length (encoded c.mode c.stride bytes)

coded_by : (shorter : Bool) (stride : Option ℕ) (bytes : List ℕ) (c : Coding) → is_shorter c bytes ≡ shorter → CodesFor stride bytes c
    → IfSome (if shorter then Some (stream_as c bytes) else None) (IsStreamFor stride bytes)
coded_by true stride bytes c is codes =
    record {
      strides = codes.strides;
      counts = codes.counts;
      whole = codes.whole;
      agree = codes.agree;
      shorter = ltb-true (length (encoded c.mode c.stride bytes)) (length bytes) is;
      longer = codes.longer;
    }
coded_by false stride bytes c is codes = tt

pub coded : (stride : Option ℕ) (bytes : List ℕ) (c : Coding) → CodesFor stride bytes c → IfSome (stream_of (Some c) bytes) (IsStreamFor stride bytes)
unfolding stream_of
coded stride bytes c codes = coded_by (is_shorter c bytes) stride bytes c refl codes

sound_by : (v : Made) → 1 ≤ length v.contents → is_stride_of_view (made_fields v).stride ≡ true → Sound (made_fields v) (made_view v)
sound_by v some fits = (
  or_from (length v.contents == 0) (not (is_stride_of_view (made_fields v).stride)) (ne_eqb (length v.contents) 0 (λ e. absurd (omega (arith, e, some)))) (not_from_true (is_stride_of_view (made_fields v).stride) fits),
  refl,
)

-- ---- a column

column_codes : (a : AssetParts) (m : Moved) (k at : ℕ) (x : Accessor) → IsWhole a m → At a m k x
    → CodesFor (Some (padded (size_of x))) (column_contents a m k x) (made_column a m k at x).coding
unfolding encoded
column_codes a m k at x whole here =
    let contents = column_contents a m k x in
    let stride = padded (size_of x) in
    let fit = fits_attributes a m k at x whole here in
    let all : stride * (length contents / stride) ≡ length contents = whole_elements (length contents) stride fit.whole in
    record {
      strides = fit.fits;
      counts = refl;
      whole = all;
      agree = fit.agree;
      longer = long_stream contents (length contents / stride) stride (omega (arith, all));
    }

column_serves : (a : AssetParts) (m : Moved) (k at : ℕ) (x : Accessor) → IsWhole a m → At a m k x → MadeServes (made_column a m k at x)
column_serves a m k at x whole here =
    let v = made_column a m k at x in
    let view = column_view a m k at x whole here in (
      sound_by v view.elements.some (wider 252 (padded (size_of x)) (omega arith) view.stride),
      record { whole = refl; stream = coded (Some (padded (size_of x))) (column_contents a m k x) v.coding (column_codes a m k at x whole here) },
    )

-- ---- a list

list_codes : (m : Moved) (at : ℕ) (list : List ℕ) → length list % 3 ≡ 0 → CodesFor None (list_contents m list) (made_list m (at, list)).coding
list_codes m at list triple =
    let is = streamed_lists_suit m list triple in
    record { strides = is.strides; counts = is.counts; whole = is.whole; agree = refl; longer = is.longer }

list_serves : (m : Moved) (p : ℕ × List ℕ) → 1 ≤ length p.1 → length p.1 % 3 ≡ 0 → MadeServes (made_list m p)
list_serves m p some triple =
    let view = list_view m p some in (
      sound_by (made_list m p) view.elements.some refl,
      record { whole = refl; stream = coded None (list_contents m p.1) (made_list m p).coding (list_codes m p.0 p.1 triple) },
    )

lists_serve : (a : AssetParts) (m : Moved) → ListsAreWhole a m → All MadeServes (made_lists m)
lists_serve a m lists =
    let numbers = m.lists ++ option_to_list m.list_accessor in
    let zipped = zip numbers m.ordered in
    let some = all_zipped (λ (list : List ℕ). 1 ≤ length list) numbers m.ordered lists.filled in
    let triple = all_zipped (λ (list : List ℕ). length list % 3 ≡ 0) numbers m.ordered lists.triples in
    All-map MadeServes (made_list m) zipped (λ i d below. list_serves m (get_or zipped i d) (some i d below) (triple i d below))

-- ---- all of them

group_serves : (a : AssetParts) (m : Moved) → GroupIsWhole a m → Each MadeServes (made_columns a m ++ made_lists m)
group_serves a m g =
    each_append MadeServes (made_columns a m) (made_lists m)
    (each_of_all MadeServes (made_columns a m) (all_columns MadeServes a m g.columns (λ k at x here. column_serves a m k at x g.columns here)))
    (each_of_all MadeServes (made_lists m) (lists_serve a m g.lists))

pub made_serve : (a : AssetParts) (moved : List Moved) → All (GroupIsWhole a) moved → Each MadeServes (made_views a moved)
made_serve a [] groups = tt
made_serve a (m ∷ moved) groups =
    each_append MadeServes (made_columns a m ++ made_lists m) (made_views a moved) (group_serves a m (All-head (GroupIsWhole a) m moved groups))
    (made_serve a moved (All-tail (GroupIsWhole a) m moved groups))
