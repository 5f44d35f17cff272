-- The accessors of primitives laid out by mesh are read at the mesh and place of each primitive.
use Rattle.std.specs.Prelude.{cond, not, ◌-◌, flat_map, option_and_then, unwrap_or}
use Rattle.std.specs.Option.{option_or}
use Rattle.std.specs.List.{enumerate_from, position_or_len}
use Rattle.std.proofs.Common.{◌≡◌, ℕ, zero, suc, ◌+◌, ◌<◌, ◌≤◌, inl, inr, Bool, true, false, ◌&&◌, ◌==◌, List, [], ◌∷◌, ◌++◌, length, map, drop, slice_get, Option, Some, None, refl, sym, ap, ◌∙◌, subst, arith}
use Rattle.std.proofs.lemmas.Bool.Decides.{nat_tests}
use Rattle.gp_asset.specs.declared.geometry.Primitive.{Primitive}
use Rattle.gp_moves.specs.MadeTrees.{list_at as table_at}
use Rattle.gp_fields.specs.declared.geometry.PrimitiveFields.{PrimitiveFields}
use Rattle.gp_asset.specs.Primitives.{primitive_of, primitives_of_mesh, primitives_of}
use Rattle.gp_moves.proofs.FirstEntries.{drop_all}
use Rattle.gp_strips.specs.MeshRows.{Rows, no_rows, next_mesh, meshes_on, at_mesh, with_number, all_rows, laid, IsNext, AreInOrder}

-- ---- turns of loops

drop_next : {A : Type 0} (xs : List A) (k : ℕ) (x : A) → slice_get xs k ≡ Some x → drop k xs ≡ x ∷ drop (k + 1) xs
drop_next [] k x e = absurd (cc)
drop_next (y ∷ xs) zero x e = let same : y ≡ x = cc in ap (λ z. z ∷ xs) same
drop_next (y ∷ xs) (suc k) x e = let more : suc k + 1 ≡ suc (k + 1) = omega arith in rw more (drop_next xs k x e)

pub next_begun : (mesh at : ℕ) (r s whole : Rows) → meshes_on (mesh - at) r ≡ whole → at < mesh → s ≡ next_mesh r → meshes_on (mesh - (at + 1)) s ≡ whole
next_begun mesh at r s whole h less e =
    let more : suc (mesh - (at + 1)) ≡ mesh - at = omega (arith, less) in
    ap (meshes_on (mesh - (at + 1))) e ∙ ap (λ n. meshes_on n r) more ∙ h

pub all_begun : (mesh at : ℕ) (r whole : Rows) → meshes_on (mesh - at) r ≡ whole → mesh ≤ at → r ≡ whole
all_begun mesh at r whole h past =
    let none : 0 ≡ mesh - at = omega (arith, past) in
    ap (λ n. meshes_on n r) none ∙ h

pub one_done : (r : Rows) (done last : List (Option ℕ)) (meshes : List (List (Option ℕ))) → meshes ≡ r.meshes ++ done ∷ [] → done ≡ r.last → last ≡ []
    → record { meshes = meshes; last = last } ≡ next_mesh r
one_done r done last meshes pushed old new =
    ap (λ ms. record { meshes = ms; last = last }) (pushed ∙ ap (λ l. r.meshes ++ l ∷ []) old) ∙ ap (λ l. record { meshes = r.meshes ++ r.last ∷ []; last = l }) new

pub next_laid : (list : ℕ → Option ℕ) (ps : List Primitive) (k : ℕ) (p : Primitive) (v : Option ℕ) (r s : Rows) (whole : List (List (Option ℕ)))
    → laid list r k (drop k ps) ≡ whole → slice_get ps k ≡ Some p → v ≡ list k → s ≡ with_number (at_mesh p.mesh r) v → laid list s (k + 1) (drop (k + 1) ps) ≡ whole
next_laid list ps k p v r s whole h here given e =
    ap (λ t. laid list t (k + 1) (drop (k + 1) ps)) (e ∙ ap (with_number (at_mesh p.mesh r)) given)
    ∙ sym (ap (laid list r k) (drop_next ps k p here)) ∙ h

pub all_laid : (list : ℕ → Option ℕ) (ps : List Primitive) (k : ℕ) (r : Rows) (whole : List (List (Option ℕ)))
    → laid list r k (drop k ps) ≡ whole → length ps ≤ k → all_rows r ≡ whole
all_laid list ps k r whole h past = sym (ap (laid list r k) (drop_all ps k past)) ∙ h

-- ---- what stands at a place

abbrev is_at : ℕ → ℕ → Primitive → Bool
is_at mesh at p = p.mesh == mesh && p.at == at

abbrev cell : List (List (Option ℕ)) → ℕ → ℕ → Option (Option ℕ)
cell ls mesh at = option_and_then (λ (l : List (Option ℕ)). slice_get l at) (slice_get ls mesh)

cell_read : (ls : List (List (Option ℕ))) (mesh at : ℕ) → table_at ls mesh at ≡ unwrap_or (cell ls mesh at) None
cell_read ls mesh at = by_row (slice_get ls mesh)
  where
    by_row : (o : Option (List (Option ℕ))) → option_and_then (λ (l : List (Option ℕ)). unwrap_or (slice_get l at) None) o ≡ unwrap_or (option_and_then (λ (l : List (Option ℕ)). slice_get l at) o) None
    by_row None = refl
    by_row (Some l) = refl

or_none : {A : Type 0} (o : Option A) → option_or o None ≡ o
or_none None = refl
or_none (Some x) = refl

or_step : {A : Type 0} (o rest : Option A) (b : Bool) (x : A) → option_or (option_or o (cond b (Some x) None)) rest ≡ option_or o (cond b (Some x) rest)
or_step None rest true x = refl
or_step None rest false x = refl
or_step (Some y) rest b x = refl

zero_apart : (n : ℕ) → (0 == suc n) ≡ false
zero_apart n = grind (arith, nat_tests)

apart_zero : (n : ℕ) → (suc n == 0) ≡ false
apart_zero n = grind (arith, nat_tests)

both_next : (m n : ℕ) → (m == n) ≡ (suc m == suc n)
both_next m n = grind (arith, nat_tests)

-- ---- one primitive more

one_more : (l : List (Option ℕ)) (v : Option ℕ) (at : ℕ) → slice_get (l ++ v ∷ []) at ≡ option_or (slice_get l at) (cond (length l == at) (Some v) None)
one_more [] v zero = refl
one_more [] v (suc at) = ap (λ b. cond b (Some v) None) (sym (zero_apart at))
one_more (x ∷ l) v zero = refl
one_more (x ∷ l) v (suc at) = one_more l v at ∙ ap (λ b. option_or (slice_get l at) (cond b (Some v) None)) (both_next (length l) at)

primitive_behind : (ms : List (List (Option ℕ))) (l : List (Option ℕ)) (v : Option ℕ) (mesh at : ℕ)
    → cell (ms ++ (l ++ v ∷ []) ∷ []) mesh at ≡ option_or (cell (ms ++ l ∷ []) mesh at) (cond (length ms == mesh && length l == at) (Some v) None)
primitive_behind [] l v zero at = one_more l v at
primitive_behind [] l v (suc mesh) at = ap (λ b. cond (b && length l == at) (Some v) None) (sym (zero_apart mesh))
primitive_behind (m ∷ ms) l v zero at =
    sym (or_none (slice_get m at)) ∙ ap (λ b. option_or (slice_get m at) (cond (b && length l == at) (Some v) None)) (sym (apart_zero (length ms)))
primitive_behind (m ∷ ms) l v (suc mesh) at =
    primitive_behind ms l v mesh at ∙ ap (λ b. option_or (cell (ms ++ l ∷ []) mesh at) (cond (b && length l == at) (Some v) None)) (both_next (length ms) mesh)

-- ---- the next meshes

empty_behind : (ls : List (List (Option ℕ))) (mesh at : ℕ) → cell (ls ++ [] ∷ []) mesh at ≡ cell ls mesh at
empty_behind [] zero at = refl
empty_behind [] (suc mesh) at = refl
empty_behind (l ∷ ls) zero at = refl
empty_behind (l ∷ ls) (suc mesh) at = empty_behind ls mesh at

cells_stay : (n : ℕ) (r : Rows) (mesh at : ℕ) → cell (all_rows (meshes_on n r)) mesh at ≡ cell (all_rows r) mesh at
cells_stay zero r mesh at = refl
cells_stay (suc n) r mesh at = cells_stay n (next_mesh r) mesh at ∙ empty_behind (all_rows r) mesh at

counted_behind : {A : Type 0} (xs : List A) (x : A) → length (xs ++ x ∷ []) ≡ length xs + 1
counted_behind [] x = refl
counted_behind (y ∷ xs) x = let one = counted_behind xs x in omega (arith, one)

meshes_counted : (n : ℕ) (r : Rows) → length (meshes_on n r).meshes ≡ length r.meshes + n
meshes_counted zero r = omega arith
meshes_counted (suc n) r =
    let more = meshes_counted n (next_mesh r) in
    let one = counted_behind r.meshes r.last in
    omega (arith, more, one)

none_in_last : (n : ℕ) (r : Rows) → r.last ≡ [] → (meshes_on n r).last ≡ []
none_in_last zero r e = e
none_in_last (suc n) r e = none_in_last n (next_mesh r) refl

-- ---- primitives in order

record IsBegun (r : Rows) (p : Primitive) : Type 0 where
  meshes : length (at_mesh p.mesh r).meshes ≡ p.mesh
  last : length (at_mesh p.mesh r).last ≡ p.at

begun_later : (n : ℕ) (r : Rows) (p : Primitive) → p.mesh - length r.meshes ≡ suc n → p.at ≡ 0 → IsBegun r p
begun_later n r p by first = record {
  meshes = let more = meshes_counted (p.mesh - length r.meshes) r in omega (arith, more, by);
  last = ap (λ k. length (meshes_on k r).last) by ∙ ap (λ l. length l) (none_in_last n (next_mesh r) refl) ∙ sym first;
}

begun : (r : Rows) (p : Primitive) → IsNext (length r.meshes) (length r.last) p → IsBegun r p
begun r p (inl same) =
    let by : p.mesh - length r.meshes ≡ 0 = omega (arith, same.0) in
    record {
      meshes = ap (λ k. length (meshes_on k r).meshes) by ∙ sym same.0;
      last = ap (λ k. length (meshes_on k r).last) by ∙ sym same.1;
    }
begun r p (inr later) =
    let by : p.mesh - length r.meshes ≡ suc (p.mesh - length r.meshes - 1) = omega (arith, later.0) in
    begun_later (p.mesh - length r.meshes - 1) r p by later.1

-- ---- all primitives

-- what the first primitive there gets
abbrev found : (ℕ → Option ℕ) → ℕ → List Primitive → ℕ → ℕ → Option (Option ℕ)
found list k [] mesh at = None
found list k (p ∷ ps) mesh at = cond (is_at mesh at p) (Some (list k)) (found list (k + 1) ps mesh at)

cell_more : (r : Rows) (p : Primitive) (v : Option ℕ) (mesh at : ℕ) → IsBegun r p
    → cell (all_rows (with_number (at_mesh p.mesh r) v)) mesh at ≡ option_or (cell (all_rows r) mesh at) (cond (is_at mesh at p) (Some v) None)
cell_more r p v mesh at is =
    let s = at_mesh p.mesh r in
    primitive_behind s.meshes s.last v mesh at
    ∙ ap (λ o. option_or o (cond (length s.meshes == mesh && length s.last == at) (Some v) None)) (cells_stay (p.mesh - length r.meshes) r mesh at)
    ∙ ap (λ n. option_or (cell (all_rows r) mesh at) (cond (n == mesh && length s.last == at) (Some v) None)) is.meshes
    ∙ ap (λ n. option_or (cell (all_rows r) mesh at) (cond (p.mesh == mesh && n == at) (Some v) None)) is.last

order_next : (r : Rows) (p : Primitive) (ps : List Primitive) (v : Option ℕ) → IsBegun r p → AreInOrder p.mesh (p.at + 1) ps
    → AreInOrder (length (with_number (at_mesh p.mesh r) v).meshes) (length (with_number (at_mesh p.mesh r) v).last) ps
order_next r p ps v is h =
    let s = at_mesh p.mesh r in
    let count : p.at + 1 ≡ length (s.last ++ v ∷ []) = omega (arith, counted_behind s.last v, is.last) in
    subst (λ n. AreInOrder n (length (s.last ++ v ∷ [])) ps) (sym is.meshes) (subst (λ n. AreInOrder p.mesh n ps) count h)

cells_laid : (list : ℕ → Option ℕ) (r : Rows) (k : ℕ) (ps : List Primitive) (mesh at : ℕ) → AreInOrder (length r.meshes) (length r.last) ps
    → cell (laid list r k ps) mesh at ≡ option_or (cell (all_rows r) mesh at) (found list k ps mesh at)
cells_laid list r k [] mesh at h = sym (or_none (cell (all_rows r) mesh at))
cells_laid list r k (p ∷ ps) mesh at h =
    let is = begun r p h.0 in
    cells_laid list (with_number (at_mesh p.mesh r) (list k)) (k + 1) ps mesh at (order_next r p ps (list k) is h.1)
    ∙ ap (λ o. option_or o (found list (k + 1) ps mesh at)) (cell_more r p (list k) mesh at is)
    ∙ or_step (cell (all_rows r) mesh at) (found list (k + 1) ps mesh at) (is_at mesh at p) (list k)

value_step : (list : ℕ → Option ℕ) (k rest : ℕ) (b : Bool) (o : Option (Option ℕ)) → unwrap_or o None ≡ list (k + 1 + rest)
    → unwrap_or (cond b (Some (list k)) o) None ≡ list (k + cond (not b) (1 + rest) 0)
value_step list k rest true o h = let here : k ≡ k + 0 = omega arith in ap list here
value_step list k rest false o h = let more : k + 1 + rest ≡ k + (1 + rest) = omega arith in h ∙ ap list more

found_value : (list : ℕ → Option ℕ) (k : ℕ) (ps : List Primitive) (mesh at : ℕ) → list (k + length ps) ≡ None
    → unwrap_or (found list k ps mesh at) None ≡ list (k + position_or_len (is_at mesh at) ps)
found_value list k [] mesh at none = sym none
found_value list k (p ∷ ps) mesh at none =
    let more : k + 1 + length ps ≡ k + suc (length ps) = omega arith in
    value_step list k (position_or_len (is_at mesh at) ps) (is_at mesh at p) (found list (k + 1) ps mesh at) (found_value list (k + 1) ps mesh at (ap list more ∙ none))

-- where primitives are in order, the table has what the first one there gets, and what the place past all gets where there is none
pub read_at : (list : ℕ → Option ℕ) (ps : List Primitive) (mesh at : ℕ) → AreInOrder 0 0 ps → list (length ps) ≡ None
    → table_at (laid list no_rows 0 ps) mesh at ≡ list (position_or_len (is_at mesh at) ps)
read_at list ps mesh at h none =
    let past : 0 + length ps ≡ length ps = omega arith in
    let place : 0 + position_or_len (is_at mesh at) ps ≡ position_or_len (is_at mesh at) ps = omega arith in
    cell_read (laid list no_rows 0 ps) mesh at
    ∙ ap (λ o. unwrap_or o None) (cells_laid list no_rows 0 ps mesh at h ∙ ap (λ o. option_or o (found list 0 ps mesh at)) (none_there mesh))
    ∙ found_value list 0 ps mesh at (ap list past ∙ none)
    ∙ ap list place
  where
    none_there : (m : ℕ) → cell ([] ∷ []) m at ≡ None
    none_there zero = refl
    none_there (suc m) = refl

-- ---- primitives of meshes are in order

abbrev mesh_from : ℕ → ℕ → List PrimitiveFields → List Primitive
mesh_from mesh at ps = map (λ (p : ℕ × PrimitiveFields). primitive_of mesh p.0 p.1) (enumerate_from at ps)

abbrev meshes_from : ℕ → List (List PrimitiveFields) → List Primitive
meshes_from mesh meshes = flat_map (λ (m : ℕ × List PrimitiveFields). primitives_of_mesh m.0 m.1) (enumerate_from mesh meshes)

mesh_in_order : (mesh at : ℕ) (ps : List PrimitiveFields) (rest : List Primitive) → ((n : ℕ) → AreInOrder mesh n rest) → AreInOrder mesh at (mesh_from mesh at ps ++ rest)
mesh_in_order mesh at [] rest go = go at
mesh_in_order mesh at (p ∷ ps) rest go = (inl (refl, refl), mesh_in_order mesh (at + 1) ps rest go)

-- behind any primitives of the meshes before
abbrev ComesLater : ℕ → List Primitive → Type 0
ComesLater mesh ps = (m n : ℕ) → m < mesh → AreInOrder m n ps

later_mesh : (mesh : ℕ) (ps : List PrimitiveFields) (rest : List Primitive) → ComesLater (mesh + 1) rest → ComesLater mesh (mesh_from mesh 0 ps ++ rest)
later_mesh mesh [] rest go m n less = go m n (omega (arith, less))
later_mesh mesh (p ∷ ps) rest go m n less = (inr (less, refl), mesh_in_order mesh 1 ps rest (λ k. go mesh k (omega arith)))

later_meshes : (mesh : ℕ) (meshes : List (List PrimitiveFields)) → ComesLater mesh (meshes_from mesh meshes)
later_meshes mesh [] = λ m n less. tt
later_meshes mesh (ps ∷ meshes) = later_mesh mesh ps (meshes_from (mesh + 1) meshes) (later_meshes (mesh + 1) meshes)

pub in_order : (meshes : List (List PrimitiveFields)) → AreInOrder 0 0 (primitives_of meshes)
unfolding primitives_of
in_order [] = tt
in_order (ps ∷ meshes) = mesh_in_order 0 0 ps (meshes_from 1 meshes) (λ n. later_meshes 1 meshes 0 n (omega arith))
