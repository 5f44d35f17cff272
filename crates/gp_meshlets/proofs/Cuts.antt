-- The runs of a list.
use Rattle.std.proofs.Common.{◌≡◌, ℕ, suc, zero, ◌+◌, ◌%◌, ◌<◌, Bool, true, false, cond, List, [], ◌∷◌, ◌++◌, length, take, get_or, refl, sym, ap, subst, ◌∙◌, length-append, append_assoc, All, arith}
use Rattle.std.specs.List.{concat}
use Rattle.std.proofs.lemmas.List.Elements.{All-nil, All-cons}
use Rattle.gp_meshlets.specs.Meshlets.{fits, if_some, runs_from, runs}
use Rattle.gp_meshlets.specs.Laws.{IsCut}
use Rattle.gp_meshlets.proofs.Turns.{one_fits}

-- what holds of one triangle, and of a run with one more that fits, holds of all runs
module _ (P : List ℕ → Type 0) (one : (a b c : ℕ) → P (a ∷ b ∷ c ∷ [])) (more : (run : List ℕ) (a b c : ℕ) → P run → fits (run ++ a ∷ b ∷ c ∷ []) ≡ true → P (run ++ a ∷ b ∷ c ∷ [])) where
  end : (run : List ℕ) → P run → All P (if_some run)
  end [] h = All-nil P
  end (x ∷ xs) h = All-cons P (x ∷ xs) [] h (All-nil P)

  all_from : (run list : List ℕ) → P run → All P (runs_from run list)
  all_from run [] h = end run h
  all_from run (a ∷ []) h = end run h
  all_from run (a ∷ b ∷ []) h = end run h
  all_from run (a ∷ b ∷ c ∷ rest) h =
      by (fits (run ++ a ∷ b ∷ c ∷ [])) refl (λ fitting. all_from (run ++ a ∷ b ∷ c ∷ []) rest (more run a b c h fitting)) (all_from (a ∷ b ∷ c ∷ []) rest (one a b c))
    where
      by : (t : Bool) → fits (run ++ a ∷ b ∷ c ∷ []) ≡ t → (fits (run ++ a ∷ b ∷ c ∷ []) ≡ true → All P (runs_from (run ++ a ∷ b ∷ c ∷ []) rest)) → All P (runs_from (a ∷ b ∷ c ∷ []) rest)
          → All P (cond t (runs_from (run ++ a ∷ b ∷ c ∷ []) rest) (run ∷ runs_from (a ∷ b ∷ c ∷ []) rest))
      by true e longer behind = longer e
      by false e longer behind = All-cons P run (runs_from (a ∷ b ∷ c ∷ []) rest) h behind

  pub all_runs : (list : List ℕ) → All P (runs list)
  unfolding runs
  all_runs [] = All-nil P
  all_runs (a ∷ []) = All-nil P
  all_runs (a ∷ b ∷ []) = All-nil P
  all_runs (a ∷ b ∷ c ∷ rest) =
      subst (λ t. All P (cond t (runs_from (a ∷ b ∷ c ∷ []) rest) ([] ∷ runs_from (a ∷ b ∷ c ∷ []) rest))) (sym (one_fits a b c)) (all_from (a ∷ b ∷ c ∷ []) rest (one a b c))

pub runs_fit : (list : List ℕ) → All (λ run. fits run ≡ true) (runs list)
runs_fit = all_runs (λ run. fits run ≡ true) one_fits (λ run a b c h fitting. fitting)

pub runs_whole : (list : List ℕ) → All (λ run. length run % 3 ≡ 0) (runs list)
runs_whole = all_runs (λ run. length run % 3 ≡ 0) (λ a b c. refl) (λ run a b c h fitting. let long = length-append run (a ∷ b ∷ c ∷ []) in omega (arith, h, long))

pub runs_some : (list : List ℕ) → All (λ run. 0 < length run) (runs list)
runs_some = all_runs (λ run. 0 < length run) (λ a b c. omega arith) (λ run a b c h fitting. let long = length-append run (a ∷ b ∷ c ∷ []) in omega (arith, h, long))

pub one_whole : (a b c : ℕ) → (length (a ∷ b ∷ c ∷ []) % 3 ≡ 0) × (0 < length (a ∷ b ∷ c ∷ []))
one_whole a b c = (refl, omega arith)

pub more_whole : (run : List ℕ) (a b c : ℕ) → (length run % 3 ≡ 0) × (0 < length run) → fits (run ++ a ∷ b ∷ c ∷ []) ≡ true
    → (length (run ++ a ∷ b ∷ c ∷ []) % 3 ≡ 0) × (0 < length (run ++ a ∷ b ∷ c ∷ []))
more_whole run a b c h fitting =
    let long = length-append run (a ∷ b ∷ c ∷ []) in
    let whole = h.0 in
    (omega (arith, whole, long), omega (arith, long))

-- ---- joined

end_joined : (run : List ℕ) → concat (if_some run) ≡ run ++ []
end_joined [] = refl
end_joined (x ∷ xs) = refl

joined_from : (run list : List ℕ) → length list % 3 ≡ 0 → concat (runs_from run list) ≡ run ++ list
joined_from run [] h = end_joined run
joined_from run (a ∷ []) h = absurd (let no : ⊥ = omega (arith, h) in no)
joined_from run (a ∷ b ∷ []) h = absurd (let no : ⊥ = omega (arith, h) in no)
joined_from run (a ∷ b ∷ c ∷ rest) h =
    let whole : length rest % 3 ≡ 0 = omega (arith, h) in
    by (fits (run ++ a ∷ b ∷ c ∷ [])) (joined_from (run ++ a ∷ b ∷ c ∷ []) rest whole) (joined_from (a ∷ b ∷ c ∷ []) rest whole)
  where
    by : (t : Bool) → concat (runs_from (run ++ a ∷ b ∷ c ∷ []) rest) ≡ (run ++ a ∷ b ∷ c ∷ []) ++ rest → concat (runs_from (a ∷ b ∷ c ∷ []) rest) ≡ a ∷ b ∷ c ∷ rest
        → concat (cond t (runs_from (run ++ a ∷ b ∷ c ∷ []) rest) (run ∷ runs_from (a ∷ b ∷ c ∷ []) rest)) ≡ run ++ a ∷ b ∷ c ∷ rest
    by true longer behind = longer ∙ append_assoc run (a ∷ b ∷ c ∷ []) rest
    by false longer behind = ap (λ l. run ++ l) behind

pub runs_joined : (list : List ℕ) → length list % 3 ≡ 0 → concat (runs list) ≡ list
unfolding runs
runs_joined list h = joined_from [] list h

-- ---- none but the last fits with the next triangle

-- the first run begins with what was taken first
first_three : (a b c : ℕ) (more rest : List ℕ) → take 3 (get_or (runs_from (a ∷ b ∷ c ∷ more) rest) 0 []) ≡ a ∷ b ∷ c ∷ []
first_three a b c more [] = refl
first_three a b c more (x ∷ []) = refl
first_three a b c more (x ∷ y ∷ []) = refl
first_three a b c more (x ∷ y ∷ z ∷ rest) = by (fits ((a ∷ b ∷ c ∷ more) ++ x ∷ y ∷ z ∷ [])) (first_three a b c (more ++ x ∷ y ∷ z ∷ []) rest)
  where
    by : (t : Bool) → take 3 (get_or (runs_from (a ∷ b ∷ c ∷ (more ++ x ∷ y ∷ z ∷ [])) rest) 0 []) ≡ a ∷ b ∷ c ∷ []
        → take 3 (get_or (cond t (runs_from ((a ∷ b ∷ c ∷ more) ++ x ∷ y ∷ z ∷ []) rest) ((a ∷ b ∷ c ∷ more) ∷ runs_from (x ∷ y ∷ z ∷ []) rest)) 0 []) ≡ a ∷ b ∷ c ∷ []
    by true longer = longer
    by false longer = refl

-- none but the last of these runs fits with the first triangle of the next one
abbrev AreFull : List (List ℕ) → Type 0
AreFull cut = (at : ℕ) → at + 1 < length cut → fits (get_or cut at [] ++ take 3 (get_or cut (at + 1) [])) ≡ false

full_end : (run : List ℕ) → AreFull (if_some run)
full_end [] at h = absurd (let no : ⊥ = omega (arith, h) in no)
full_end (x ∷ xs) at h = absurd (let no : ⊥ = omega (arith, h) in no)

full_cons : (run : List ℕ) (cut : List (List ℕ)) → fits (run ++ take 3 (get_or cut 0 [])) ≡ false → AreFull cut → AreFull (run ∷ cut)
full_cons run cut first later zero h = first
full_cons run cut first later (suc at) h =
    let next : suc at + 1 ≡ suc (at + 1) = omega arith in
    rw next (later at (omega (arith, h)))

full_from : (run list : List ℕ) → AreFull (runs_from run list)
full_from run [] = full_end run
full_from run (a ∷ []) = full_end run
full_from run (a ∷ b ∷ []) = full_end run
full_from run (a ∷ b ∷ c ∷ rest) = by (fits (run ++ a ∷ b ∷ c ∷ [])) refl (full_from (run ++ a ∷ b ∷ c ∷ []) rest) (full_from (a ∷ b ∷ c ∷ []) rest)
  where
    by : (t : Bool) → fits (run ++ a ∷ b ∷ c ∷ []) ≡ t → AreFull (runs_from (run ++ a ∷ b ∷ c ∷ []) rest) → AreFull (runs_from (a ∷ b ∷ c ∷ []) rest)
        → AreFull (cond t (runs_from (run ++ a ∷ b ∷ c ∷ []) rest) (run ∷ runs_from (a ∷ b ∷ c ∷ []) rest))
    by true e longer behind = longer
    by false e longer behind = full_cons run (runs_from (a ∷ b ∷ c ∷ []) rest) (ap (λ l. fits (run ++ l)) (first_three a b c [] rest) ∙ e) behind

pub runs_cut : (list : List ℕ) → length list % 3 ≡ 0 → IsCut list (runs list)
unfolding runs
runs_cut list h = record { joined = runs_joined list h; whole = runs_whole list; some = runs_some list; fitting = runs_fit list; full = full_from [] list }
