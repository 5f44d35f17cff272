-- The lines of primitives.
use Rattle.std.proofs.Common.{◌≡◌, ℕ, ◌+◌, ◌<◌, List, [], ◌∷◌, ◌++◌, length, take, get_or, flat_map, append-nil, append_assoc, sym, ap, ◌∙◌}
use Rattle.std.proofs.lemmas.List.{take_more}
use Rattle.std.proofs.lemmas.List.Concat.{flat_map-append}
use Rattle.gp_asset.specs.declared.geometry.Primitive.{Primitive}

-- one primitive more
pub lines_more : (f : Primitive → List ℕ) (old so_far now : List ℕ) (primitives all : List Primitive) (at : ℕ) (p : Primitive) → all ≡ primitives → at < length all → p ≡ get_or all at p
    → so_far ≡ old ++ flat_map f (take at primitives) → now ≡ so_far ++ f p → now ≡ old ++ flat_map f (take (at + 1) primitives)
lines_more f old so_far now primitives all at p same within is invariant put =
    let more : flat_map f (take (at + 1) all) ≡ flat_map f (take at all) ++ f p =
    ap (flat_map f) (take_more all at p within) ∙ flat_map-append f (take at all) (get_or all at p ∷ [])
    ∙ ap (λ xs. flat_map f (take at all) ++ xs) (append-nil (f (get_or all at p)) ∙ ap f (sym is)) in
    put ∙ ap (λ xs. xs ++ f p) (invariant ∙ ap (λ ps. old ++ flat_map f (take at ps)) (sym same)) ∙ append_assoc old (flat_map f (take at all)) (f p)
    ∙ ap (λ xs. old ++ xs) (sym more ∙ ap (λ ps. flat_map f (take (at + 1) ps)) same)
