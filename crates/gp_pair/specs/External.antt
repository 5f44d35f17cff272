-- Buffers whose bytes are in files of their own (glTF 2.0, section 3.6.1).
use Rattle.std.specs.Prelude.{ℕ, List, [], ◌++◌, map, Some, None, option_map, option_and_then, codes}
use Rattle.std.specs.declared.option.Option.{Option}
use Rattle.gp_tree.specs.Plain.{PlainTree}
use Rattle.gp_tree.specs.Find.{find_member, array_items}
use Rattle.gp_tree.specs.Values.{ascii}
use Rattle.gp_pair.specs.Names.{name_of, front_of}

abbrev pub items_of : Option PlainTree → List PlainTree
items_of None = []
items_of (Some value) = array_items value

-- the items of the list `buffers` of a root
unfoldable pub buffers_of : PlainTree → List PlainTree
buffers_of root = items_of (find_member (codes "buffers") root)

-- the name that the `uri` of a buffer spells, where that is a text of ASCII characters alone
unfoldable pub external_name : PlainTree → Option (List ℕ)
external_name buffer = option_and_then name_of (option_and_then ascii (find_member (codes "uri") buffer))

-- the file of an external buffer, in the folder of this front; none of another buffer
abbrev pub file_in : List ℕ → PlainTree → Option (List ℕ)
file_in front buffer = option_map (λ name. front ++ name) (external_name buffer)

-- those of all buffers, in the folder of the file with this name that they stand in
unfoldable pub files_of : List ℕ → PlainTree → List (Option (List ℕ))
files_of name root = map (file_in (front_of name)) (buffers_of root)
