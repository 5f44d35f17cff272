use Rattle.std.proofs.Common.{◌≡◌, ◌⊎◌, ℕ, ◌*◌, true, List, [], ◌∷◌, Option, Some, None, inl, inr, refl, arith}
use Rattle.gp_rules.specs.declared.accessing.Accessor.{Accessor}
use Rattle.gp_rules.specs.declared.accessing.Component.{Component}
use Rattle.gp_rules.specs.declared.accessing.Component.TheVariants.{I8, U8, I16, U16, U32, F32}
use Rattle.gp_rules.specs.declared.accessing.Shape.TheVariants.{Vec4}
use Rattle.gp_rules.specs.declared.storage.View.{View}
use Rattle.gp_rules.specs.Accessors.{is_bad_accessor, is_index}
use Rattle.gp_rules.specs.Sizes.{component_size}
use Rattle.gp_elements.specs.Held.{IsSound}
use Rattle.gp_elements.proofs.tests.resolve_three.Goals as goal
use Rattle.gp_elements.proofs.tests.resolve_three.Goals.{then-has_view, else-has_view}

abbrev view_of : ℕ → View
view_of n = record { buffer = 0; offset = 0; length = n; stride = None; packed = None }

abbrev accessor_of : Option ℕ → Component → ℕ → Accessor
accessor_of view component n = record {
  view = view;
  offset = 0;
  component = U8;
  shape = Vec4;
  count = 3;
  sparse = Some (record { count = n; index_view = 0; index_offset = 0; index_component = component; value_view = 1; value_offset = 0 });
}

-- with views that are just as long as is asked for
abbrev IsFine : Option ℕ → Component → ℕ → Type 0
IsFine view component n = IsSound (view_of (n * component_size component) ∷ view_of (n * 4) ∷ view_of 12 ∷ []) (accessor_of view component n)

fine : (component : Component) (n : ℕ) → is_index component ≡ true → (n ≡ 1) ⊎ (n ≡ 2) ⊎ (n ≡ 3) → IsFine None component n × IsFine (Some 2) component n
unfolding is_bad_accessor
fine U8 n index (inl is) = rw is (record { view = tt; rules = refl }, record { view = omega arith; rules = refl })
fine U8 n index (inr (inl is)) = rw is (record { view = tt; rules = refl }, record { view = omega arith; rules = refl })
fine U8 n index (inr (inr is)) = rw is (record { view = tt; rules = refl }, record { view = omega arith; rules = refl })
fine U16 n index (inl is) = rw is (record { view = tt; rules = refl }, record { view = omega arith; rules = refl })
fine U16 n index (inr (inl is)) = rw is (record { view = tt; rules = refl }, record { view = omega arith; rules = refl })
fine U16 n index (inr (inr is)) = rw is (record { view = tt; rules = refl }, record { view = omega arith; rules = refl })
fine U32 n index (inl is) = rw is (record { view = tt; rules = refl }, record { view = omega arith; rules = refl })
fine U32 n index (inr (inl is)) = rw is (record { view = tt; rules = refl }, record { view = omega arith; rules = refl })
fine U32 n index (inr (inr is)) = rw is (record { view = tt; rules = refl }, record { view = omega arith; rules = refl })
fine I8 n index some = cc
fine I16 n index some = cc
fine F32 n index some = cc

pub resolve_accessor-requires-clause-accessor : goal.resolve_accessor-requires-clause-accessor
resolve_accessor-requires-clause-accessor c =
    let known = fine c.index_component.result c.args.count c.index_component.ensures.index c.requires.count in
    elim c.if-has_view.branch [
      | then-has_view w ↦ rw (w.accessor-is, c.view.ensures, c.view-2.ensures, c.view-3.ensures, ← c.index_component.ensures.size) known.1
      | else-has_view w ↦ rw (w.accessor-is, c.view.ensures, c.view-2.ensures, c.view-3.ensures, ← c.index_component.ensures.size) known.0
    ]
