-- JSON values as short to write as JSON, for worked values.
use Prim.Native.String.{String}
use Rattle.std.specs.Prelude.{List, codes}
use Rattle.gp_tree.specs.Plain.{PlainTree, number, text, list, members, trees_of, members_of}
use Rattle.gp_tree.specs.Find.{PlainMember}

abbrev pub n : String → PlainTree
n spelling = number (codes spelling)

abbrev pub word : String → PlainTree
word s = text (codes s)

abbrev pub array : List PlainTree → PlainTree
array ts = list (trees_of ts)

abbrev pub object : List PlainMember → PlainTree
object ms = members (members_of ms)

infix 70 ◌is◌
abbrev pub ◌is◌ : String → PlainTree → PlainMember
name is value = (codes name, value)
