-- What a file holds: its JSON tree, its BIN chunk, and the other chunks behind them (glTF 2.0, GLB file format).
use Rattle.std.specs.Prelude.{ℕ, ◌≤◌, ◌^◌, List, length, Option}
use Rattle.gp_tree.specs.Plain.{PlainTree}
use Rattle.gp_tree.specs.Sound.{IsSound}
use Rattle.gp_json.specs.Spelling.{Spells}
use Rattle.gp_json.specs.Text.{text_of}
use Rattle.gp_glb.specs.Container.{StandsFor, glb}

pub record Document : Type 0 where
  pub tree : PlainTree
  pub bin : Option (List ℕ)
  pub rest : List ℕ

-- the bytes are a container, or a text alone, whose JSON spells the sound tree
pub record Holds (bytes : List ℕ) (document : Document) : Type 0 where
  pub json : List ℕ
  pub container : StandsFor bytes (record { json = json; bin = document.bin; rest = document.rest })
  pub spelled : Spells json document.tree
  pub sound : IsSound document.tree

-- the same, with a JSON text that isn't too large to be read
pub record IsDocument (bytes : List ℕ) (document : Document) : Type 0 where
  pub holds : Holds bytes document
  pub fits : length holds.json ≤ 2 ^ 26

-- the container of a document, with its JSON in compact text
unfoldable pub glb_of : Document → List ℕ
glb_of document = glb (text_of document.tree) document.bin document.rest
