-- Worked values of the definitions that say which values are sound.
use Rattle.std.proofs.Common.{◌≡◌, inl, inr, ℕ, List, [], ◌∷◌, ◌++◌, codes, refl, sym, ap, ap₂, ◌∙◌, arith}
use Rattle.gp_tree.specs.Key.{units}
use Rattle.gp_tree.specs.Plain.{PlainTree, null, number, members, no_members, member}
use Rattle.gp_tree.specs.Lexical.{IsNumber, IsChars}
use Rattle.gp_tree.specs.Values.{IsName}
use Rattle.gp_tree.specs.Sound.{IsSound}
use Rattle.gp_tree.proofs.Names.{units_of_name, name_string}
use Rattle.gp_tree.proofs.Kept.{apart_pairs}

-- numbers by their parts
zero_number : IsNumber (codes "0")
zero_number = record { minus = []; int = codes "0"; frac = []; exp = []; is_minus = inl refl; is_int = inl refl; is_frac = inl refl; is_exp = inl refl; whole = refl }

long_number : IsNumber (codes "-12.5E+07")
long_number = record {
  minus = codes "-";
  int = codes "12";
  frac = codes ".5";
  exp = codes "E+07";
  is_minus = inr refl;
  is_int = inr (49, codes "2", omega arith, ((omega arith, omega arith), ((omega arith, omega arith), tt)), refl);
  is_frac = inr (codes "5", ((omega arith, omega arith), tt), refl);
  is_exp = inr (69, codes "+", codes "07", inr refl, inr (inr refl), ((omega arith, omega arith), ((omega arith, omega arith), tt)), refl);
  whole = refl;
}

-- `01` is none: after a leading zero only a fraction or an exponent goes on
no_number : IsNumber (codes "01") → ⊥
no_number h = elim h.is_minus [
  | inr m ↦
      let e : 48 ∷ 49 ∷ [] ≡ 45 ∷ (h.int ++ h.frac ++ h.exp) = h.whole ∙ ap (λ y. y ++ h.int ++ h.frac ++ h.exp) m in
      let x : ◌≡◌ {A = ℕ} 48 45 = cc in omega (arith, x)
  | inl m ↦ elim h.is_int [
    | inr (d, ds, low, _, g) ↦
        let e : 48 ∷ 49 ∷ [] ≡ d ∷ (ds ++ h.frac ++ h.exp) = h.whole ∙ ap₂ (λ y z. y ++ z ++ h.frac ++ h.exp) m g in
        let x : 48 ≡ d = cc in omega (arith, x, low)
    | inl z ↦
        let e : 48 ∷ 49 ∷ [] ≡ 48 ∷ (h.frac ++ h.exp) = h.whole ∙ ap₂ (λ y z. y ++ z ++ h.frac ++ h.exp) m z in
        let t : 49 ∷ [] ≡ h.frac ++ h.exp = cc in
        elim h.is_frac [
          | inr (ds, _, g) ↦
              let e' : 49 ∷ [] ≡ 46 ∷ (ds ++ h.exp) = t ∙ ap (λ y. y ++ h.exp) g in
              let x : ◌≡◌ {A = ℕ} 49 46 = cc in omega (arith, x)
          | inl g ↦ elim h.is_exp [
            | inl k ↦ let e' : ◌≡◌ {A = List ℕ} (49 ∷ []) [] = t ∙ ap₂ (λ y z. y ++ z) g k in absurd (cc)
            | inr (x, sign, ds, ex, _, _, k) ↦
                let e' : 49 ∷ [] ≡ x ∷ (sign ++ ds) = t ∙ ap₂ (λ y z. y ++ z) g k in
                let y : 49 ≡ x = cc in omega (arith, y, ex)
          ]
        ]
  ]
]

-- a character, an escape, and an escape by its digits
three_chars : IsChars (codes "a" ++ 92 ∷ codes "n" ++ 92 ∷ codes "u00E9")
three_chars = (
  codes "a" ∷ (92 ∷ codes "n") ∷ (92 ∷ codes "u00E9") ∷ [],
  (
    (omega arith, (λ e. omega (arith, e)), (λ e. omega (arith, e))),
    ((refl, inr (inr (inr (inr (inr (inl refl)))))), ((refl, refl, (inl (omega arith, omega arith), (inl (omega arith, omega arith), (inr (inl (omega arith, omega arith)), (inl (omega arith, omega arith), tt))))), tt)),
  ),
  refl,
)

-- ---- two keys, `a` and `b`

a_name : IsName (codes "a")
a_name = ((omega arith, omega arith, (λ e. omega (arith, e)), (λ e. omega (arith, e))), tt)

b_name : IsName (codes "b")
b_name = ((omega arith, omega arith, (λ e. omega (arith, e)), (λ e. omega (arith, e))), tt)

abbrev two_keys : PlainTree
two_keys = members (member (codes "a") (number (codes "0")) (member (codes "b") null no_members))

apart : units (codes "a") ≡ units (codes "b") → ⊥
apart e =
    let f : codes "a" ≡ codes "b" = sym (units_of_name (codes "a") a_name) ∙ e ∙ units_of_name (codes "b") b_name in
    let x : ◌≡◌ {A = ℕ} 97 98 = cc in omega (arith, x)

two_keys_sound : IsSound two_keys
two_keys_sound = record {
  spelled = (name_string (codes "a") a_name, zero_number, (name_string (codes "b") b_name, tt, tt));
  shallow = omega arith;
  distinct = (apart_pairs (units (codes "a") ∷ units (codes "b") ∷ []) ((apart, tt), (tt, tt)), (tt, (tt, tt)));
}
