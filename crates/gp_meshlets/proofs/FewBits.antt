-- Vertices found by a few of their bits.
use Rattle.std.proofs.Common.{◌≡◌, ◌≢◌, inl, inr, ℕ, ◌<◌, ◌≤◌, ◌%◌, false, eqb, List, [], ◌∷◌, ◌++◌, length, get_or, replicate, set, refl, sym, ap, subst, ◌∙◌, length-append, arith}
use Rattle.std.specs.List.{position_or_len}
use Rattle.std.proofs.lemmas.Bool.{ne_eqb, eq-eqb}
use Rattle.std.proofs.lemmas.Bool.Decides.{eqb_tells}
use Rattle.std.proofs.lemmas.List.{length-replicate, length-set, get_or-replicate, get_or-set_same, get_or-set_other, get_or_append_left}
use Rattle.std.proofs.lemmas.List.Folds.{list_any-append, position_or_len_push}
use Rattle.std.proofs.Math.Seq.{get_or-append_seam}
use Rattle.gp_merge.proofs.Repeats.{position-past}
use Rattle.gp_meshlets.specs.declared.places.Places.{Places}
use Rattle.gp_meshlets.specs.Places.{has, entry, IsPlace, Finds}

pub none_found : (places : Places) → places.table ≡ replicate 512 255 → Finds places []
none_found places empty = record {
  long = ap length empty ∙ length-replicate {A = ℕ} 512 255;
  lacking = λ vertex lost. refl;
  found = λ at below held.
      let lost : entry places at ≡ 255 = ap (λ t. get_or t at 0) empty ∙ get_or-replicate 512 at 255 0 below in
      absurd (let no : ⊥ = omega (arith, lost, held) in no);
}

-- a vertex that is new, behind the others
module _ (before now : Places) (vertices : List ℕ) (v : ℕ) (noted : now.table ≡ set before.table (v % 512) (length vertices)) (few : length vertices ≤ 66) (new : has vertices v ≡ false) (h : Finds before vertices) where
  here : entry now (v % 512) ≡ length vertices
  here = ap (λ t. get_or t (v % 512) 0) noted ∙ get_or-set_same before.table (v % 512) (length vertices) 0 (let below : v % 512 < length before.table = let long = h.long in omega (arith, long) in below)

  elsewhere : (at : ℕ) → at ≢ v % 512 → entry now at ≡ entry before at
  elsewhere at other = ap (λ t. get_or t at 0) noted ∙ get_or-set_other before.table (v % 512) at (length vertices) 0 other

  abbrev all_vertices : List ℕ
  all_vertices = vertices ++ v ∷ []

  lacks : (w : ℕ) → entry now (w % 512) ≡ 255 → has all_vertices w ≡ false
  lacks w lost = elim (eqb_tells (w % 512) (v % 512)) [
    | inl same ↦ (let e : entry now (w % 512) ≡ length vertices = ap (entry now) same.1 ∙ here in absurd (let no : ⊥ = omega (arith, e, lost, few) in no))
    | inr other ↦ (
        let old : has vertices w ≡ false = h.lacking w (sym (elsewhere (w % 512) other.1) ∙ lost) in
        let differs : eqb w v ≡ false = ne_eqb w v (λ e. other.1 (ap (λ x. x % 512) e)) in
        list_any-append (eqb w) vertices (v ∷ []) ∙ (rw (old, differs) refl))
  ]

  is_last : IsPlace all_vertices (length vertices)
  is_last =
      let past = position-past (eqb v) vertices new in
      let item : get_or all_vertices (length vertices) 0 ≡ v = get_or-append_seam vertices v [] 0 in
      let first : position_or_len (eqb v) all_vertices ≡ length vertices =
      position_or_len_push (eqb v) vertices v ∙ (rw (past, eq-eqb (length vertices) (length vertices) refl, eq-eqb v v refl) (omega arith)) in
      record {
        within = (let sum = length-append vertices (v ∷ []) in omega (arith, sum));
        first = ap (λ x. position_or_len (eqb x) all_vertices) item ∙ first;
      }

  stays : (place : ℕ) → IsPlace vertices place → IsPlace all_vertices place
  stays place p =
      let item : get_or all_vertices place 0 ≡ get_or vertices place 0 = get_or_append_left vertices (v ∷ []) 0 place p.within in
      let inside : eqb (position_or_len (eqb (get_or vertices place 0)) vertices) (length vertices) ≡ false =
      ne_eqb _ _ (λ e. let within = p.within in let first = p.first in let no : ⊥ = omega (arith, e, first, within) in no) in
      let first : position_or_len (eqb (get_or vertices place 0)) all_vertices ≡ place =
      position_or_len_push (eqb (get_or vertices place 0)) vertices v ∙ (rw inside p.first) in
      record {
        within = (let sum = length-append vertices (v ∷ []) in let within = p.within in omega (arith, sum, within));
        first = ap (λ x. position_or_len (eqb x) all_vertices) item ∙ first;
      }

  finds : (at : ℕ) → at < 512 → entry now at < 255 → IsPlace all_vertices (entry now at)
  finds at below held = elim (eqb_tells at (v % 512)) [
    | inl same ↦ subst (IsPlace all_vertices) (sym (ap (entry now) same.1 ∙ here)) is_last
    | inr other ↦ (
        let old = elsewhere at other.1 in
        subst (IsPlace all_vertices) (sym old) (stays (entry before at) (h.found at below (subst (λ e. e < 255) old held))))
  ]

  pub noted_finds : Finds now (vertices ++ v ∷ [])
  noted_finds = record { long = ap length noted ∙ length-set before.table (v % 512) (length vertices) ∙ h.long; lacking = lacks; found = finds }
