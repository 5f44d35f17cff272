-- The compact text of a JSON text.
use Rattle.std.specs.Prelude.{◌≡◌, ℕ, List}
use Rattle.gp_tree.specs.Plain.{PlainTree}
use Rattle.gp_json.specs.Spelling.{Spells}
use Rattle.gp_json.specs.Text.{text_of}

-- both spell one tree, and the second one is its shortest spelling
pub record IsCompactOf (text compacted : List ℕ) : Type 0 where
  pub tree : PlainTree
  pub read : Spells text tree
  pub back : Spells compacted tree
  pub compact : compacted ≡ text_of tree
