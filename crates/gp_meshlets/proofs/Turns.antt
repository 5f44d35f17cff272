-- Triangle after triangle, and run after run.
use Rattle.std.proofs.Common.{◌≡◌, ℕ, ◌+◌, ◌*◌, ◌/◌, ◌%◌, ◌<◌, ◌≤◌, Bool, true, false, cond, ◌&&◌, eqb, leb, List, [], ◌∷◌, ◌++◌, map, flat_map, length, drop, refl, sym, ap, ◌∙◌, append-nil, true≢false, length-append, arith}
use Rattle.std.proofs.lemmas.Bool.{le-leb, leb-true}
use Rattle.std.proofs.lemmas.List.{drop_all}
use Rattle.gp_merge.proofs.Repeats.{length-without_repeats}
use Rattle.gp_meshlets.specs.declared.corners.Triangle.{Triangle}
use Rattle.gp_meshlets.specs.declared.growth.Growing.{Growing}
use Rattle.gp_meshlets.specs.declared.meshlet.Meshlet.{Meshlet}
use Rattle.gp_meshlets.specs.Meshlets.{vertices_of, fits, runs_from, runs, meshlet_of, meshlets}
use Rattle.gp_meshlets.specs.Building.{with_triangle, shown, HasRun, IsTaking}

-- what fitting says
both : (a b : Bool) → (a && b) ≡ true → (a ≡ true) × (b ≡ true)
both true b h = (refl, h)
both false b h = absurd (true≢false (sym h))

pub fitting_few : (run : List ℕ) → fits run ≡ true → (length run ≤ 378) × (length (vertices_of run) ≤ 64)
fitting_few run h =
    let p = both (leb (length run) 378) (leb (length (vertices_of run)) 64) h in
    (leb-true (length run) 378 p.0, leb-true (length (vertices_of run)) 64 p.1)

-- one triangle fits
pub one_fits : (a b c : ℕ) → fits (a ∷ b ∷ c ∷ []) ≡ true
one_fits a b c =
    let few : length (vertices_of (a ∷ b ∷ c ∷ [])) ≤ 3 = length-without_repeats eqb (a ∷ b ∷ c ∷ []) in
    le-leb (length (vertices_of (a ∷ b ∷ c ∷ []))) 64 (omega (arith, few))

-- ---- a run

pub first_taken : (list : List ℕ) (from : ℕ) (now : Growing) → HasRun [] now → IsTaking list from from now
unfolding runs
first_taken list from now none = record { run = []; fitting = refl; has_run = none; long = omega arith; cut = refl }

-- with a triangle that fits
pub more_taken : (list : List ℕ) (from at : ℕ) (t : Triangle) (before now : Growing) (h : IsTaking list from at before) → drop (3 * at) list ≡ t.a ∷ t.b ∷ t.c ∷ drop (3 * (at + 1)) list
    → fits (with_triangle h.run t) ≡ true → HasRun (with_triangle h.run t) now → IsTaking list from (at + 1) now
more_taken list from at t before now h here fitting has_run = record {
  run = with_triangle h.run t;
  fitting = fitting;
  has_run = has_run;
  long = (let long : length (with_triangle h.run t) ≡ length h.run + 3 = length-append h.run (t.a ∷ t.b ∷ t.c ∷ []) in omega (arith, long, h.long));
  cut =
      h.cut ∙ ap (runs_from h.run) here
      ∙ ap (λ b. cond b (runs_from (with_triangle h.run t) (drop (3 * (at + 1)) list)) (h.run ∷ runs_from (t.a ∷ t.b ∷ t.c ∷ []) (drop (3 * (at + 1)) list))) fitting;
}

-- what is shown is the run's meshlet
pub shows : (run : List ℕ) (now : Growing) → HasRun run now → meshlet_of run ≡ shown now
shows run now h = rw (h.vertices, h.corners) refl

-- a first triangle fits
pub one_taken : (list : List ℕ) (from at : ℕ) (t : Triangle) (before : Growing) (h : IsTaking list from at before) → fits (with_triangle h.run t) ≡ false → from < at
one_taken list from at t before h ended = by h.run refl
  where
    by : (run : List ℕ) → h.run ≡ run → from < at
    by [] e = absurd (true≢false (sym (one_fits t.a t.b t.c) ∙ ap (λ r. fits (with_triangle r t)) (sym e) ∙ ended))
    by (x ∷ run) e = (let some : length h.run ≡ length run + 1 = ap length e ∙ omega arith in let long = h.long in omega (arith, some, long))

-- a triangle that doesn't fit begins the runs that follow
begins : (a b c : ℕ) (rest : List ℕ) → runs_from (a ∷ b ∷ c ∷ []) rest ≡ runs (a ∷ b ∷ c ∷ rest)
unfolding runs
begins a b c rest = sym (ap (λ t. cond t (runs_from (a ∷ b ∷ c ∷ []) rest) ([] ∷ runs_from (a ∷ b ∷ c ∷ []) rest)) (one_fits a b c))

pub run_ended : (list : List ℕ) (from at : ℕ) (t : Triangle) (before now : Growing) (h : IsTaking list from at before) → drop (3 * at) list ≡ t.a ∷ t.b ∷ t.c ∷ drop (3 * (at + 1)) list
    → (fits (with_triangle h.run t) ≡ false) × HasRun h.run now → meshlets (drop (3 * from) list) ≡ shown now ∷ meshlets (drop (3 * at) list)
unfolding meshlets
run_ended list from at t before now h here ended =
    let cut : runs (drop (3 * from) list) ≡ h.run ∷ runs (drop (3 * at) list) =
    h.cut ∙ ap (runs_from h.run) here
    ∙ ap (λ b. cond b (runs_from (with_triangle h.run t) (drop (3 * (at + 1)) list)) (h.run ∷ runs_from (t.a ∷ t.b ∷ t.c ∷ []) (drop (3 * (at + 1)) list))) ended.0
    ∙ ap (λ l. h.run ∷ l) (begins t.a t.b t.c (drop (3 * (at + 1)) list) ∙ ap runs (sym here)) in
    ap (map meshlet_of) cut ∙ ap (λ m. m ∷ map meshlet_of (runs (drop (3 * at) list))) (shows h.run now ended.1)

-- the last run
last_runs : (run : List ℕ) → 0 < length run → runs_from run [] ≡ run ∷ []
last_runs [] h = absurd (let no : ⊥ = omega (arith, h) in no)
last_runs (x ∷ xs) h = refl

pub last_ended : (list : List ℕ) (from end : ℕ) (now : Growing) → IsTaking list from end now → from < end → drop (3 * end) list ≡ []
    → meshlets (drop (3 * from) list) ≡ shown now ∷ meshlets (drop (3 * end) list)
unfolding meshlets runs
last_ended list from end now h some none =
    let long : 0 < length h.run = omega (arith, h.long, some) in
    let cut : runs (drop (3 * from) list) ≡ h.run ∷ runs (drop (3 * end) list) =
    h.cut ∙ ap (runs_from h.run) none ∙ last_runs h.run long ∙ ap (λ l. h.run ∷ runs l) (sym none) in
    ap (map meshlet_of) cut ∙ ap (λ m. m ∷ map meshlet_of (runs (drop (3 * end) list))) (shows h.run now h.has_run)

-- ---- run after run

-- past the end there is nothing
past_end : (list : List ℕ) (end : ℕ) → length list ≤ 3 * end → meshlets (drop (3 * end) list) ≡ []
unfolding meshlets runs
past_end list end h = ap (λ l. map meshlet_of (runs l)) (drop_all (3 * end) list h)

pub all_built : (list : List ℕ) (from : ℕ) (built : List Meshlet) → length list % 3 ≡ 0 → length list / 3 ≤ from → built ++ meshlets (drop (3 * from) list) ≡ meshlets list → built ≡ meshlets list
all_built list from built whole end so_far = sym (append-nil built) ∙ sym (ap (λ m. built ++ m) (past_end list from (omega (arith, whole, end)))) ∙ so_far

pub all_counted : (list : List ℕ) (from count : ℕ) → length list % 3 ≡ 0 → length list / 3 ≤ from → count + length (meshlets (drop (3 * from) list)) ≡ length (meshlets list) → count ≡ length (meshlets list)
all_counted list from count whole end so_far =
    let none : length (meshlets (drop (3 * from) list)) ≡ 0 = ap length (past_end list from (omega (arith, whole, end))) in
    omega (arith, none, so_far)

pub all_put : (list : List ℕ) (from : ℕ) (text told : List ℕ) (lines : Meshlet → List ℕ) → length list % 3 ≡ 0 → length list / 3 ≤ from
    → text ++ flat_map lines (meshlets (drop (3 * from) list)) ≡ told ++ flat_map lines (meshlets list) → text ≡ told ++ flat_map lines (meshlets list)
all_put list from text told lines whole end so_far =
    sym (append-nil text) ∙ sym (ap (λ (m : List Meshlet). text ++ flat_map lines m) (past_end list from (omega (arith, whole, end)))) ∙ so_far
