-- Each primitive has its own place among those of all meshes, and gets the indices of that place.
use Rattle.std.specs.Prelude.{cond, not, flat_map}
use Rattle.std.specs.List.{enumerate_from, position_or_len}
use Rattle.std.proofs.Common.{◌≡◌, ℕ, suc, ◌+◌, ◌<◌, ◌⊎◌, inl, inr, Bool, true, false, ◌&&◌, ◌==◌, List, [], ◌∷◌, ◌++◌, length, map, get_or, drop, refl, sym, ap, ◌∙◌, subst, append_assoc, arith}
use Rattle.std.proofs.lemmas.Bool.{eq-eqb}
use Rattle.std.proofs.lemmas.Bool.Decides.{nat_tests}
use Rattle.std.proofs.lemmas.List.{map-append}
use Rattle.gp_tree.specs.Lexical.{Each}
use Rattle.gp_fields.specs.declared.geometry.PrimitiveFields.{PrimitiveFields}
use Rattle.gp_asset.specs.declared.geometry.Primitive.{Primitive}
use Rattle.gp_asset.specs.Asset.{AssetParts}
use Rattle.gp_asset.specs.Primitives.{primitive_of, primitives_of_mesh, primitives_of}
use Rattle.gp_unpack.proofs.EachItem.{each_is}
use Rattle.gp_sameness.specs.Moved.{Moved}
use Rattle.gp_sameness.specs.Common.{primitive_place}
use Rattle.gp_packed.specs.MeshesBack.{list_at, indexed_fields, indexed_mesh, with_indices, PrimitivesStandApart, IndexedPrimitivesAre}

-- ---- the first place

abbrev is_at : ℕ → ℕ → Primitive → Bool
is_at mesh at p = p.mesh == mesh && p.at == at

position_behind : (test : Primitive → Bool) (xs : List Primitive) (y : Primitive) (ys : List Primitive) → Each (λ x. test x ≡ false) xs → test y ≡ true
    → position_or_len test (xs ++ y ∷ ys) ≡ length xs
position_behind test [] y ys none here = ap (λ b. cond (not b) (1 + position_or_len test ys) 0) here
position_behind test (x ∷ xs) y ys none here =
    let rest = position_behind test xs y ys none.1 here in
    let more : 1 + position_or_len test (xs ++ y ∷ ys) ≡ suc (length xs) = omega (arith, rest) in
    ap (λ b. cond (not b) (1 + position_or_len test (xs ++ y ∷ ys)) 0) none.0 ∙ more

-- ---- primitives that stand apart

-- none is at the place of one before it
abbrev StandApart : List Primitive → List Primitive → Type 0
StandApart before [] = Unit {0}
StandApart before (p ∷ ps) = Each (λ q. is_at p.mesh p.at q ≡ false) before × StandApart (before ++ p ∷ []) ps

own_place : (p : Primitive) → is_at p.mesh p.at p ≡ true
own_place p = ap (λ b. b && p.at == p.at) (eq-eqb p.mesh p.mesh refl) ∙ eq-eqb p.at p.at refl

places_behind : (a : AssetParts) (before ps : List Primitive) → a.primitives ≡ before ++ ps → StandApart before ps
    → map (λ (p : ℕ × Primitive). primitive_place a p.1.mesh p.1.at) (enumerate_from (length before) ps) ≡ map (λ (p : ℕ × Primitive). p.0) (enumerate_from (length before) ps)
places_behind a before [] e h = refl
places_behind a before (p ∷ ps) e h =
    let n = length before in
    let test = is_at p.mesh p.at in
    let here : primitive_place a p.mesh p.at ≡ n = ap (position_or_len test) e ∙ position_behind test before p ps h.0 (own_place p) in
    let next = before ++ p ∷ [] in
    let count : length next ≡ n + 1 = counted before in
    let rest = places_behind a next ps (e ∙ sym (append_assoc before (p ∷ []) ps)) h.1 in
    let moved = subst (λ k. map (λ (q : ℕ × Primitive). primitive_place a q.1.mesh q.1.at) (enumerate_from k ps) ≡ map (λ (q : ℕ × Primitive). q.0) (enumerate_from k ps)) count rest in
    ap (λ k. k ∷ map (λ (q : ℕ × Primitive). primitive_place a q.1.mesh q.1.at) (enumerate_from (n + 1) ps)) here ∙ ap (λ l. n ∷ l) moved
  where
    counted : (xs : List Primitive) → length (xs ++ p ∷ []) ≡ length xs + 1
    counted [] = refl
    counted (x ∷ xs) = omega (arith, counted xs)

-- ---- those of meshes do

-- of an earlier mesh, or earlier in the same
abbrev IsBefore : ℕ → ℕ → Primitive → Type 0
IsBefore mesh at p = (p.mesh < mesh) ⊎ ((p.mesh ≡ mesh) × (p.at < at))

before_apart : (mesh at : ℕ) (p : Primitive) → IsBefore mesh at p → is_at mesh at p ≡ false
before_apart mesh at p (inl less) = grind (arith, nat_tests, less)
before_apart mesh at p (inr h) = grind (arith, nat_tests, h.1)

before_next : (mesh at : ℕ) (p : Primitive) → IsBefore mesh at p → IsBefore mesh (at + 1) p
before_next mesh at p (inl less) = inl less
before_next mesh at p (inr h) = inr (h.0, omega (arith, h.1))

before_mesh : (mesh at : ℕ) (p : Primitive) → IsBefore mesh at p → IsBefore (mesh + 1) 0 p
before_mesh mesh at p (inl less) = inl (omega (arith, less))
before_mesh mesh at p (inr h) = inl (omega (arith, h.0))

each_push : (P : Primitive → Type 0) (xs : List Primitive) (x : Primitive) → Each P xs → P x → Each P (xs ++ x ∷ [])
each_push P [] x h here = (here, tt)
each_push P (y ∷ xs) x h here = (h.0, each_push P xs x h.1 here)

abbrev mesh_from : ℕ → ℕ → List PrimitiveFields → List Primitive
mesh_from mesh at ps = map (λ (p : ℕ × PrimitiveFields). primitive_of mesh p.0 p.1) (enumerate_from at ps)

abbrev meshes_from : ℕ → List (List PrimitiveFields) → List Primitive
meshes_from mesh meshes = flat_map (λ (m : ℕ × List PrimitiveFields). primitives_of_mesh m.0 m.1) (enumerate_from mesh meshes)

mesh_apart : (mesh at : ℕ) (before : List Primitive) (ps : List PrimitiveFields) (rest : List Primitive) → Each (IsBefore mesh at) before
    → ((before : List Primitive) → Each (IsBefore (mesh + 1) 0) before → StandApart before rest)
    → StandApart before (mesh_from mesh at ps ++ rest)
mesh_apart mesh at before [] rest h go = go before (each_is (IsBefore mesh at) (IsBefore (mesh + 1) 0) (before_mesh mesh at) before h)
mesh_apart mesh at before (p ∷ ps) rest h go =
    let one = primitive_of mesh at p in
    let own : IsBefore mesh (at + 1) one = inr (refl, omega arith) in (
      each_is (IsBefore mesh at) (λ q. is_at mesh at q ≡ false) (before_apart mesh at) before h,
      mesh_apart mesh (at + 1) (before ++ one ∷ []) ps rest
          (each_push (IsBefore mesh (at + 1)) before one (each_is (IsBefore mesh at) (IsBefore mesh (at + 1)) (before_next mesh at) before h) own) go,
    )

meshes_apart : (mesh : ℕ) (before : List Primitive) (meshes : List (List PrimitiveFields)) → Each (IsBefore mesh 0) before → StandApart before (meshes_from mesh meshes)
meshes_apart mesh before [] h = tt
meshes_apart mesh before (ps ∷ meshes) h = mesh_apart mesh 0 before ps (meshes_from (mesh + 1) meshes) h (λ next g. meshes_apart (mesh + 1) next meshes g)

pub places_are : PrimitivesStandApart
unfolding primitives_of
places_are a meshes e = places_behind a [] a.primitives refl (subst (StandApart []) (sym e) (meshes_apart 0 [] meshes tt))

-- ---- the primitives of the new meshes

abbrev by_own_place : List Moved → AssetParts → Primitive → Primitive
by_own_place moved a p = with_indices (list_at moved (primitive_place a p.mesh p.at)) p

indexed_mesh_from : (moved : List Moved) (a : AssetParts) (mesh at : ℕ) (ps : List PrimitiveFields)
    → mesh_from mesh at (map (λ (p : ℕ × PrimitiveFields). indexed_fields (list_at moved (primitive_place a mesh p.0)) p.1) (enumerate_from at ps)) ≡ map (by_own_place moved a) (mesh_from mesh at ps)
indexed_mesh_from moved a mesh at [] = refl
indexed_mesh_from moved a mesh at (p ∷ ps) = ap (λ l. by_own_place moved a (primitive_of mesh at p) ∷ l) (indexed_mesh_from moved a mesh (at + 1) ps)

indexed_meshes_from : (moved : List Moved) (a : AssetParts) (mesh : ℕ) (meshes : List (List PrimitiveFields))
    → meshes_from mesh (map (λ (m : ℕ × List PrimitiveFields). indexed_mesh moved a m.0 m.1) (enumerate_from mesh meshes)) ≡ map (by_own_place moved a) (meshes_from mesh meshes)
indexed_meshes_from moved a mesh [] = refl
indexed_meshes_from moved a mesh (ps ∷ meshes) =
    ap (λ l. mesh_from mesh 0 (indexed_mesh moved a mesh ps) ++ l) (indexed_meshes_from moved a (mesh + 1) meshes)
    ∙ ap (λ l. l ++ map (by_own_place moved a) (meshes_from (mesh + 1) meshes)) (indexed_mesh_from moved a mesh 0 ps)
    ∙ sym (map-append (by_own_place moved a) (mesh_from mesh 0 ps) (meshes_from (mesh + 1) meshes))

-- what is made of each by its place
by_number : (place : Primitive → ℕ) (value : ℕ → Primitive → Primitive) (n : ℕ) (ps : List Primitive)
    → map (λ (p : ℕ × Primitive). place p.1) (enumerate_from n ps) ≡ map (λ (p : ℕ × Primitive). p.0) (enumerate_from n ps)
    → map (λ p. value (place p) p) ps ≡ map (λ (p : ℕ × Primitive). value p.0 p.1) (enumerate_from n ps)
by_number place value n [] e = refl
by_number place value n (p ∷ ps) e =
    let here : place p ≡ n = ap (λ l. get_or l 0 0) e in
    let rest = ap (drop 1) e in
    ap (λ k. value k p ∷ map (λ q. value (place q) q) ps) here ∙ ap (λ l. value n p ∷ l) (by_number place value (n + 1) ps rest)

pub indexed_primitives : IndexedPrimitivesAre
unfolding primitives_of
indexed_primitives moved a meshes e =
    indexed_meshes_from moved a 0 meshes
    ∙ ap (map (by_own_place moved a)) (sym e)
    ∙ by_number (λ p. primitive_place a p.mesh p.at) (λ at. with_indices (list_at moved at)) 0 a.primitives (places_are a meshes e)
