-- Contents view by view, up to the first fault.
use Rattle.std.proofs.Common.{◌≡◌, ℕ, ◌+◌, ◌<◌, ◌≤◌, Result, Ok, Err, List, [], ◌∷◌, ◌++◌, length, get_or, drop, sym, ap, subst, ◌∙◌, append-nil}
use Rattle.std.proofs.lemmas.List.{drop_more, drop_all, get_or_default}
use Rattle.gp_rules.specs.declared.storage.View.{View}
use Rattle.gp_asset.specs.declared.refusal.Refusal.{Refusal}
use Rattle.gp_asset.specs.declared.refusal.Refusal.TheVariants.{Glb, Json, Asset, Stream, OutputTooLarge, Memory}
use Rattle.gp_asset.specs.Asset.{AssetParts}
use Rattle.gp_rules.specs.Checks.{joined}
use Rattle.gp_rules.proofs.Each.{behind, behind_none, behind_one}
use Rattle.gp_unpack.specs.Contents.{FaultyView, at_view, contents_of, contents_from, all_contents, Answers}

-- the contents, where some views are decoded
abbrev pub with_rest : AssetParts → List (List ℕ) → ℕ → Result (List (List ℕ)) FaultyView
with_rest a done k = behind done (contents_from a k (drop k a.views))

-- before the first view
pub begin : (a : AssetParts) (done : List (List ℕ)) → done ≡ [] → all_contents a ≡ with_rest a done 0
unfolding all_contents
begin a done none = behind_none (contents_from a 0 a.views) ∙ ap (λ ys. with_rest a ys 0) (sym none)

-- at a view with these contents
at_one : (a : AssetParts) (done : List (List ℕ)) (k : ℕ) (v : View) (one : Result (List ℕ) FaultyView)
    → k < length a.views → v ≡ get_or a.views k v → at_view k (contents_of a v) ≡ one
    → with_rest a done k ≡ behind done (joined one (contents_from a (k + 1) (drop (k + 1) a.views)))
at_one a done k v one within is e =
    ap (λ views. behind done (contents_from a k views)) (drop_more a.views k v within)
    ∙ ap (λ w. behind done (joined (at_view k (contents_of a w)) (contents_from a (k + 1) (drop (k + 1) a.views)))) (sym is)
    ∙ ap (λ r. behind done (joined r (contents_from a (k + 1) (drop (k + 1) a.views)))) e

-- past a view without a fault
pub next : (a : AssetParts) (done longer : List (List ℕ)) (k : ℕ) (v : View) (y : List ℕ)
    → k < length a.views → v ≡ get_or a.views k v → at_view k (contents_of a v) ≡ Ok y → longer ≡ done ++ y ∷ []
    → all_contents a ≡ with_rest a done k → all_contents a ≡ with_rest a longer (k + 1)
next a done longer k v y within is e more so_far =
    so_far ∙ at_one a done k v (Ok y) within is e ∙ behind_one done y (contents_from a (k + 1) (drop (k + 1) a.views))
    ∙ ap (λ ys. with_rest a ys (k + 1)) (sym more)

-- past the view that a list of them has at this place
pub past : (a : AssetParts) (views : List View) (done longer : List (List ℕ)) (k : ℕ) (d : View) (y : List ℕ)
    → views ≡ a.views → k < length views → at_view k (contents_of a (get_or views k d)) ≡ Ok y → longer ≡ done ++ y ∷ []
    → all_contents a ≡ with_rest a done k → all_contents a ≡ with_rest a longer (k + 1)
past a views done longer k d y same within e more so_far =
    let is = get_or_default views k d (get_or views k d) within ∙ ap (λ vs. get_or vs k (get_or views k d)) same in
    next a done longer k (get_or views k d) y (subst (λ vs. k < length vs) same within) is e more so_far

-- at a view with a fault, or without memory
pub stop : (a : AssetParts) (done : List (List ℕ)) (k : ℕ) (v : View) (refusal : Refusal)
    → k < length a.views → v ≡ get_or a.views k v → Answers (at_view k (contents_of a v)) (Err refusal)
    → all_contents a ≡ with_rest a done k → Answers (all_contents a) (Err refusal)
stop a done k v (Stream view fault) within is e so_far = so_far ∙ at_one a done k v _ within is e
stop a done k v Memory within is e so_far = tt
stop a done k v (Glb fault) within is e so_far = e
stop a done k v (Json fault) within is e so_far = e
stop a done k v (Asset fault) within is e so_far = e
stop a done k v OutputTooLarge within is e so_far = e

-- past the last view
pub last : (a : AssetParts) (done : List (List ℕ)) (k : ℕ) → length a.views ≤ k → all_contents a ≡ with_rest a done k → all_contents a ≡ Ok done
last a done k past so_far = so_far ∙ ap (λ views. behind done (contents_from a k views)) (drop_all k a.views past) ∙ ap Ok (append-nil done)
