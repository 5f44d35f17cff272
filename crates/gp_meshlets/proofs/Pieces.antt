-- The meshlet of one run.
use Rattle.std.proofs.Common.{◌≡◌, ◌≢◌, ℕ, ◌<◌, true, false, eqb, List, [], ◌∷◌, ◌++◌, map, flat_map, length, get_or, refl, sym, ap, subst, ◌∙◌, All, AllPairs, Contains, ⊎_elim, arith}
use Rattle.std.specs.List.{list_any, concat}
use Rattle.std.proofs.lemmas.Bool.{eqb-true}
use Rattle.std.proofs.lemmas.Bool.Decides.{Decides-eqb, eqb_tells}
use Rattle.std.proofs.lemmas.Cmp.{nat_eq_equiv}
use Rattle.std.proofs.lemmas.List.{same_lists, length-map, get_or-map, get_or_default}
use Rattle.std.proofs.lemmas.List.Elements.{All-from_get_or, All-map}
use Rattle.std.proofs.lemmas.List.Folds.{list_any_at}
use Rattle.std.proofs.lemmas.List.Sums.{position_or_len_is}
use Rattle.std.proofs.lemmas.Map.Made.{AllPairs-from_IsDistinct}
use Rattle.std.proofs.lemmas.Map.Views.{Contains-from_any}
use Rattle.gp_merge.proofs.Repeats.{list_any-without_repeats, position-found, position-within, IsDistinct-without_repeats}
use Rattle.gp_meshlets.specs.Meshlets.{vertices_of, meshlet_of}
use Rattle.gp_meshlets.specs.Laws.{looked_up}
use Rattle.gp_meshlets.proofs.Vertices.{place_in, is_there}

-- a vertex of the run is among its vertices
there : (run : List ℕ) (k : ℕ) → k < length run → list_any (eqb (get_or run k 0)) (vertices_of run) ≡ true
there run k h = list_any-without_repeats nat_eq_equiv (get_or run k 0) run ∙ is_there run k h

-- each corner's place is its vertex's
place_at : (run : List ℕ) (k d : ℕ) → k < length run → get_or (map (place_in run) run) k d ≡ place_in run (get_or run k 0)
place_at run k d h = get_or-map (place_in run) run k 0 d h

pub looks_up : (run : List ℕ) → looked_up (meshlet_of run) ≡ run
looks_up run = same_lists _ _ long (λ k d h. at k d (subst (λ n. k < n) long h))
  where
    find : ℕ → ℕ
    find = λ p. get_or (vertices_of run) p 0

    long : length (map (λ p. get_or (vertices_of run) p 0) (map (place_in run) run)) ≡ length run
    long = length-map (map (place_in run) run) (λ p. get_or (vertices_of run) p 0) ∙ length-map run (place_in run)

    at : (k d : ℕ) → k < length run → get_or (map (λ p. get_or (vertices_of run) p 0) (map (place_in run) run)) k d ≡ get_or run k d
    at k d h =
        get_or-map (λ p. get_or (vertices_of run) p 0) (map (place_in run) run) k 0 d (subst (λ n. k < n) (sym (length-map run (place_in run))) h)
        ∙ ap (λ p. get_or (vertices_of run) p 0) (place_at run k 0 h)
        ∙ position-found eqb eqb-true (vertices_of run) (get_or run k 0) 0 (there run k h)
        ∙ get_or_default run k 0 d h

pub are_distinct : (run : List ℕ) → AllPairs (λ v w. v ≢ w) (vertices_of run)
are_distinct run = AllPairs-from_IsDistinct Decides-eqb (vertices_of run) (IsDistinct-without_repeats eqb run)

pub are_places : (run : List ℕ) → All (λ place. place < length (vertices_of run)) (map (place_in run) run)
are_places run =
    All-map (λ place. place < length (vertices_of run)) (place_in run) run
    (All-from_get_or (λ v. place_in run v < length (vertices_of run)) run 0 (λ k h. position-within (eqb (get_or run k 0)) (vertices_of run) (there run k h)))

pub are_used : (run : List ℕ) (place : ℕ) → place < length (vertices_of run) → Contains (map (place_in run) run) place
are_used run place h =
    let v = get_or (vertices_of run) place 0 in
    let among =
    sym (list_any-without_repeats nat_eq_equiv v run) ∙ list_any_at (eqb v) (vertices_of run) place 0 h (nat_eq_equiv.refl v) in
    let found = Contains-from_any eqb-true v run among in
    let inside : found.0 < length (map (place_in run) run) = subst (λ n. found.0 < n) (sym (length-map run (place_in run))) found.1 in
    let is_vertex : get_or run found.0 0 ≡ v = get_or_default run found.0 0 v found.1 ∙ found.2 in
    let first = position_or_len_is (eqb v) (vertices_of run) place 0 (omega (arith, h)) (before run place h) (λ _. nat_eq_equiv.refl v) in
    (found.0, inside, place_at run found.0 place found.1 ∙ ap (place_in run) is_vertex ∙ first)
  where
    before : (run : List ℕ) (place : ℕ) → place < length (vertices_of run) → (k : ℕ) → k < place → eqb (get_or (vertices_of run) place 0) (get_or (vertices_of run) k 0) ≡ false
    before run place h k less =
        ⊎_elim (λ e. absurd (are_distinct run k place 0 less h (sym e.1))) (λ e. e.0) (eqb_tells (get_or (vertices_of run) place 0) (get_or (vertices_of run) k 0))

-- all meshlets of runs, looked up
pub all_look_up : (cut : List (List ℕ)) → flat_map looked_up (map meshlet_of cut) ≡ concat cut
all_look_up [] = refl
all_look_up (run ∷ more) = ap (λ l. l ++ flat_map looked_up (map meshlet_of more)) (looks_up run) ∙ ap (λ l. run ++ l) (all_look_up more)
