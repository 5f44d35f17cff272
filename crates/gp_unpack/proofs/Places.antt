-- Parts that were laid into one buffer stand there at their places.
use Rattle.std.proofs.Common.{◌≡◌, ℕ, ◌+◌, ◌-◌, List, [], ◌∷◌, ◌++◌, map, length, take, drop, replicate, Some, Result, Ok, refl, sym, ap, ◌∙◌, arith, append_assoc}
use Rattle.std.proofs.lemmas.List.{length-replicate, drop-drop, drop_at, take_at}
use Rattle.gp_rules.specs.Sizes.{padded}
use Rattle.gp_layout.specs.Layout.{starts_behind, starts, laid_behind, laid}
use Rattle.gp_rules.specs.declared.storage.View.{View}
use Rattle.gp_asset.specs.Asset.{AssetParts}
use Rattle.gp_asset.specs.Contents.{buffer_at}
use Rattle.gp_rules.specs.Checks.{joined}
use Rattle.gp_unpack.specs.Contents.{FaultyView, contents_from, all_contents}
use Rattle.gp_unpack.specs.PlainFields.{plain_views_at}

-- ---- lengths

abbrev pub padding : ℕ → List ℕ
padding at = replicate (padded at - at) 0

padding_length : (at : ℕ) → length (padding at) ≡ padded at - at
padding_length at = length-replicate (padded at - at) 0

-- ---- places

-- at the start of a part, where the bytes behind the one before it are known
pub begins : (at : ℕ) (bytes part rest more : List ℕ) → drop at bytes ≡ ((padding at ++ part) ++ rest) ++ more
    → drop (padded at) bytes ≡ part ++ (rest ++ more)
begins at bytes part rest more e =
    let sum : at + (padded at - at) ≡ padded at = omega arith in
    let apart : ((padding at ++ part) ++ rest) ++ more ≡ padding at ++ (part ++ (rest ++ more)) =
    append_assoc (padding at ++ part) rest more ∙ append_assoc (padding at) part (rest ++ more) in
    ap (λ n. drop n bytes) (sym sum) ∙ sym (drop-drop (padded at - at) at bytes) ∙ ap (drop (padded at - at)) (e ∙ apart)
    ∙ drop_at (padding at) (part ++ (rest ++ more)) (padded at - at) (padding_length at)

pub goes_on : (at : ℕ) (bytes part rest : List ℕ) → drop at bytes ≡ part ++ rest → drop (at + length part) bytes ≡ rest
goes_on at bytes part rest e = sym (drop-drop (length part) at bytes) ∙ ap (drop (length part)) e ∙ drop_at part rest (length part) refl

-- the views at these places have the parts as their contents
pub placed_from : (a : AssetParts) (bytes more : List ℕ) (at k : ℕ) (parts : List (List ℕ)) (vs : List View)
    → a.buffers ≡ Some bytes ∷ [] → map length parts ≡ map (λ (v : View). v.length) vs → drop at bytes ≡ laid_behind at parts ++ more
    → contents_from a k (plain_views_at (starts_behind at (map length parts)) vs) ≡ Ok parts
placed_from a bytes more at k [] vs one lengths there = refl
placed_from a bytes more at k (part ∷ parts) [] one lengths there = absurd (cc)
placed_from a bytes more at k (part ∷ parts) (v ∷ vs) one lengths there =
    let start = padded at in
    let long : length part ≡ v.length = cc in
    let others : map length parts ≡ map (λ (v : View). v.length) vs = cc in
    let rest = laid_behind (start + length part) parts in
    let here = begins at bytes part rest more there in
    let own : take v.length (drop start (buffer_at a.buffers 0)) ≡ part =
    ap (λ bs. take v.length (drop start (buffer_at bs 0))) one ∙ ap (take v.length) here ∙ take_at part (rest ++ more) v.length long in
    let behind = placed_from a bytes more (start + length part) (k + 1) parts vs one others (goes_on start bytes part (rest ++ more) here) in
    let views = plain_views_at (starts_behind (start + length part) (map length parts)) vs in
    let at_this : Result (List ℕ) FaultyView = Ok part in
    ap (λ c. let this : Result (List ℕ) FaultyView = Ok c in joined this (contents_from a (k + 1) views)) own ∙ ap (joined at_this) behind

pub all_placed : (b : AssetParts) (contents : List (List ℕ)) (more : List ℕ) (vs : List View)
    → b.buffers ≡ Some (laid contents ++ more) ∷ [] → b.views ≡ plain_views_at (starts (map length contents)) vs
    → map length contents ≡ map (λ (v : View). v.length) vs
    → all_contents b ≡ Ok contents
unfolding all_contents
all_placed b contents more vs one views lengths =
    ap (contents_from b 0) views ∙ placed_from b (laid contents ++ more) more 0 0 contents vs one lengths refl
