-- A group from its bytes to what was made of it, over plain lists.
use Rattle.std.proofs.Common.{◌≡◌, ℕ, ◌+◌, ◌*◌, ◌/◌, ◌%◌, ◌^◌, ◌<◌, ◌≤◌, true, List, ◌++◌, Option, length, take, drop, refl, sym, ap, ◌∙◌, subst, arith}
use Rattle.std.specs.List.{All, concat}
use Rattle.std.specs.Str.{bytes_eq}
use Rattle.std.proofs.Math.Nat.{div-mul-le_self, mul-le-mul_right}
use Rattle.std.proofs.lemmas.Nat.{div-mul-add}
use Rattle.std.proofs.lemmas.List.{take_at}
use Rattle.gp_asset.specs.Asset.{AssetParts}
use Rattle.gp_elements.specs.Held.{HasEvery, contents_of, IsSound}
use Rattle.gp_alias.specs.declared.group.Group.{Group}
use Rattle.gp_alias.specs.Movable.{is_movable}
use Rattle.gp_alias.specs.Records.{records, lists, ends_from}
use Rattle.gp_cache.specs.Tipsify.{better}
use Rattle.gp_merge.specs.Records.{records as cut, distinct}
use Rattle.gp_merge.proofs.Cuts.{length-records}
use Rattle.gp_merge.proofs.Repeats.{length-without_repeats}
use Rattle.gp_moving.specs.Ordered.{Ordered, ordered, chosen_by}
use Rattle.gp_moving.specs.Triangles.{IsTriangleList}
use Rattle.gp_mover.specs.MovedParts.{moved_group, record_size}
use Rattle.gp_mover.specs.Standing.{between, parts_of, AreJoined, Reordered, IsWhole}
use Rattle.gp_mover.specs.declared.moved.MovedGroup.{MovedGroup}
use Rattle.gp_mover.proofs.Rows.{Sized, length-rows, cut_rows, whole_rows, between_joined}
use Rattle.gp_mover.proofs.Reordering.{cut_sized, distinct_sized}
use Rattle.gp_mover.proofs.Conditions.{conditions, lists_proper, length-records_of, records_sized, some_records}

-- what was lent as a slice and comes back
pub lent : (items front now : List ℕ) (len : ℕ) → front ≡ items → length now ≡ length front → len ≡ length items → take len (now ++ drop (length now) items) ≡ now
lent items front now len is same long =
    let count : length front ≡ length items = ap (λ (l : List ℕ). length l) is in
    take_at now (drop (length now) items) len (omega (arith, same, long, count))

-- ---- distinct records

distinct_few : (size count : ℕ) (bytes : List ℕ) → count ≡ length (distinct (cut size bytes)) → count ≤ length bytes / size
distinct_few size count bytes is = omega (arith, is, length-without_repeats bytes_eq (cut size bytes), length-records size bytes)

pub merged_few : (size count : ℕ) (bytes : List ℕ) → count ≡ length (distinct (cut size bytes)) → length bytes / size ≤ 2 ^ 24 → count ≤ 2 ^ 24
merged_few size count bytes is few = omega (arith, distinct_few size count bytes is, few)

pub merged_fits : (size count : ℕ) (bytes : List ℕ) → count ≡ length (distinct (cut size bytes)) → count * size ≤ length bytes
merged_fits size count bytes is =
    let most = mul-le-mul_right size (distinct_few size count bytes is) in
    let back = div-mul-le_self (length bytes) size in
    omega (arith, most, back)

pub merged_long : (size count : ℕ) (bytes now : List ℕ) → count ≡ length (distinct (cut size bytes)) → now ≡ concat (distinct (cut size bytes)) → length now ≡ size * count
merged_long size count bytes now is made =
    let long : length now ≡ length (distinct (cut size bytes)) * size = ap (λ (l : List ℕ). length l) made ∙ length-rows size (distinct (cut size bytes)) (distinct_sized size (cut size bytes) (cut_sized size bytes)) in
    let count_is : length (distinct (cut size bytes)) * size ≡ count * size = ap (λ n. n * size) (sym is) in
    omega (arith, long, count_is)

-- ---- what a group gives

module _ (a : AssetParts) (held : List (Option (List ℕ))) (g : Group) (every : HasEvery a.views held) (sound : All (IsSound a.views) a.accessors) (movable : is_movable a (contents_of held) g ≡ true) (some : 0 < length g.columns) (bytes : List ℕ) (n : ℕ) (bytes_are : bytes ≡ concat (records a (contents_of held) g)) (n_is : n ≡ length bytes) where
  sized : Sized (record_size a g.columns) (records a (contents_of held) g)
  sized = records_sized a held g every sound movable

  pub count_some : 0 < g.count
  count_some = (some_records a (contents_of held) g sound movable some).1

  long : length bytes ≡ g.count * record_size a g.columns
  long = ap (λ (l : List ℕ). length l) bytes_are ∙ length-rows (record_size a g.columns) (records a (contents_of held) g) sized ∙ ap (λ k. k * record_size a g.columns) (length-records_of a (contents_of held) g)

  pub size_is : n / g.count ≡ record_size a g.columns
  size_is =
      let turned : n ≡ record_size a g.columns * g.count + 0 = omega (arith, n_is, long) in
      ap (λ k. k / g.count) turned ∙ div-mul-add (record_size a g.columns) g.count 0 count_some

  pub size_some : 1 ≤ n / g.count
  size_some = omega (arith, size_is, (some_records a (contents_of held) g sound movable some).0)

  sized_so : Sized (n / g.count) (records a (contents_of held) g)
  sized_so = subst (λ k. Sized k (records a (contents_of held) g)) (sym size_is) sized

  pub records_cut : cut (n / g.count) bytes ≡ records a (contents_of held) g
  records_cut = cut_rows (n / g.count) (records a (contents_of held) g) bytes size_some sized_so bytes_are

  pub bytes_whole : length bytes % (n / g.count) ≡ 0
  bytes_whole = whole_rows (n / g.count) (records a (contents_of held) g) bytes size_some sized_so bytes_are

  pub bytes_few : length bytes / (n / g.count) ≤ 2 ^ 24
  bytes_few =
      let count : length (cut (n / g.count) bytes) ≡ g.count = ap (λ (rs : List (List ℕ)). length rs) records_cut ∙ length-records_of a (contents_of held) g in
      omega (arith, length-records (n / g.count) bytes, count, (conditions a (contents_of held) g movable).few)

  module _ (ends joined : List ℕ) (joined_are : joined ≡ concat (lists a (contents_of held) g)) (ends_are : ends ≡ ends_from 0 (lists a (contents_of held) g)) where
    lists_cut : between 0 ends joined ≡ lists a (contents_of held) g
    lists_cut = between_joined ends joined (lists a (contents_of held) g) joined_are ends_are

    pub all_joined : AreJoined (length (cut (n / g.count) bytes)) ends joined (between 0 ends joined)
    all_joined =
        let all = lists a (contents_of held) g in
        let proper = lists_proper a (contents_of held) g movable in
        let count : g.count ≡ length (cut (n / g.count) bytes) = sym (ap (λ (rs : List (List ℕ)). length rs) records_cut ∙ length-records_of a (contents_of held) g) in
        subst (AreJoined (length (cut (n / g.count) bytes)) ends joined) (sym lists_cut) (record {
          row = joined_are;
          places = ends_are;
          sound = subst (λ k. All (IsTriangleList k) all) count proper.0;
          few = proper.1;
        })

    pub is_reordered : (now moved : List ℕ) → Reordered (n / g.count) moved ends now (ordered (cut (n / g.count) bytes) (chosen_by better (cut (n / g.count) bytes) (between 0 ends joined)))
        → Reordered (n / g.count) moved ends now (ordered (records a (contents_of held) g) (chosen_by better (records a (contents_of held) g) (lists a (contents_of held) g)))
    is_reordered now moved r =
        subst (λ (ls : List (List ℕ)). Reordered (n / g.count) moved ends now (ordered (records a (contents_of held) g) (chosen_by better (records a (contents_of held) g) ls))) lists_cut
        (subst (λ (rs : List (List ℕ)). Reordered (n / g.count) moved ends now (ordered rs (chosen_by better rs (between 0 ends joined)))) records_cut r)

-- ---- what was made of it

pub parts_are : (a : AssetParts) (contents : List (List ℕ)) (g : Group) (m : MovedGroup) → m.group ≡ g
    → Reordered m.size m.records m.corners.ends m.corners.joined (ordered (records a contents g) (chosen_by better (records a contents g) (lists a contents g))) → parts_of m ≡ moved_group a contents g
unfolding parts_of moved_group
parts_are a contents g m same r =
    let new = ordered (records a contents g) (chosen_by better (records a contents g) (lists a contents g)) in
    let cut_lists : between 0 m.corners.ends m.corners.joined ≡ new.lists = between_joined m.corners.ends m.corners.joined new.lists r.row r.places in
    λ i. record {
      primitives = (same i).primitives;
      columns = (same i).columns;
      lists = (same i).lists;
      bare = (same i).bare;
      count = (same i).count;
      records = r.records i;
      ordered = cut_lists i;
    }

pub is_whole : (a : AssetParts) (contents : List (List ℕ)) (g : Group) (m : MovedGroup) → 1 ≤ m.size
    → Reordered m.size m.records m.corners.ends m.corners.joined (ordered (records a contents g) (chosen_by better (records a contents g) (lists a contents g))) → IsWhole m
unfolding parts_of
is_whole a contents g m some r =
    let new = ordered (records a contents g) (chosen_by better (records a contents g) (lists a contents g)) in
    let cut_lists : between 0 m.corners.ends m.corners.joined ≡ new.lists = between_joined m.corners.ends m.corners.joined new.lists r.row r.places in
    record {
      size = some;
      records = r.whole;
      joined = r.row ∙ ap (λ (ls : List (List ℕ)). concat ls) (sym cut_lists);
      ends = r.places ∙ ap (ends_from 0) (sym cut_lists);
    }

-- the same by equal bytes and numbers
pub stands_so : (size : ℕ) (bytes bytes_now ends ends_now joined joined_now : List ℕ) (new : Ordered) → Reordered size bytes ends joined new
    → bytes_now ≡ bytes → ends_now ≡ ends → joined_now ≡ joined → Reordered size bytes_now ends_now joined_now new
stands_so size bytes bytes_now ends ends_now joined joined_now new r b e j = record {
  records = ap (cut size) b ∙ r.records;
  whole = ap (λ (l : List ℕ). length l % size) b ∙ r.whole;
  row = j ∙ r.row;
  places = e ∙ r.places;
}
