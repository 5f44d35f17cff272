use Rattle.std.proofs.Common.{◌≡◌, ◌++◌, map, filter_map, drop}
use Rattle.gp_tree.specs.Plain.{plain}
use Rattle.gp_fields.specs.Shapes.{a_text}
use Rattle.gp_asset.proofs.extensions.push_texts.Given as goal

abbrev pub invariant-items : goal.invariant-items
invariant-items l =
    map (λ s. s.now) l.initial.names.items ++ filter_map a_text (map plain l.items)
    ≡ map (λ s. s.now) l.names.items ++ filter_map a_text (map plain (drop l.at l.items))
