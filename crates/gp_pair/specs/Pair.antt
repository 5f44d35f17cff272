-- A container as two files: a text of glTF, and the bytes of its first buffer (glTF 2.0, section 3.6.1.1).
use Rattle.std.specs.Prelude.{◌≡◌, ◌⊎◌, ℕ, ◌+◌, ◌==◌, if◌then◌else◌, List, ◌++◌, length, Some, None, Result, Ok, Err, codes}
use Rattle.std.specs.declared.option.Option.{Option}
use Rattle.gp_tree.specs.Plain.{PlainTree, text}
use Rattle.gp_tree.specs.TreeEdits.{with_member, at_member}
use Rattle.gp_moves.specs.Items.{each_item}
use Rattle.gp_json.specs.Text.{text_of}
use Rattle.gp_document.specs.Document.{Document}
use Rattle.gp_folder.specs.declared.file.File.{File}
use Rattle.gp_folder.specs.declared.refusals.PutRefusal.{PutRefusal}
use Rattle.gp_folder.specs.declared.refusals.PutRefusal.TheVariants.{Failed, Memory}
use Rattle.gp_folder.specs.Folder.{after_put, PutsSome}

-- the names of both files
abbrev pub text_name : List ℕ → List ℕ
text_name stem = stem ++ codes ".gltf"

abbrev pub bin_name : List ℕ → List ℕ
bin_name stem = stem ++ codes ".bin"

-- the first buffer has its bytes in that file
abbrev pub bin_uri : List ℕ → ℕ → PlainTree → PlainTree
bin_uri stem at buffer = if at == 0 then with_member (codes "uri") (text (bin_name stem)) buffer else buffer

unfoldable pub with_bin_uri : List ℕ → PlainTree → PlainTree
with_bin_uri stem root = at_member (codes "buffers") (each_item (bin_uri stem)) root

abbrev pub pair_tree : List ℕ → Option (List ℕ) → PlainTree → PlainTree
pair_tree stem None tree = tree
pair_tree stem (Some bin) tree = with_bin_uri stem tree

-- the text of a document whose BIN chunk, where there is one, is in that file
abbrev pub pair_text : List ℕ → Document → List ℕ
pair_text stem document = text_of (pair_tree stem document.bin document.tree)

abbrev pub bin_len : Option (List ℕ) → ℕ
bin_len None = 0
bin_len (Some bin) = length bin

-- known files once the BIN chunk was put, where there is one
abbrev pub with_bin : List ℕ → Option (List ℕ) → Option (List File) → Option (List File)
with_bin stem None files = files
with_bin stem (Some bin) files = after_put (bin_name stem) bin files

-- and then the text
abbrev pub with_pair : List ℕ → Document → Option (List File) → Option (List File)
with_pair stem document files = after_put (text_name stem) (pair_text stem document) (with_bin stem document.bin files)

-- the put of the BIN chunk failed: the text wasn't put
abbrev pub FailsAtBin : List ℕ → Option (List ℕ) → Option (List File) → Option (List File) → Type 0
FailsAtBin stem None before now = ⊥
FailsAtBin stem (Some bin) before now = PutsSome before now (bin_name stem) bin

-- the put of the text failed, after the BIN chunk was put, where there is one
abbrev pub FailsAtText : List ℕ → Document → Option (List File) → Option (List File) → Type 0
FailsAtText stem document before now = PutsSome (with_bin stem document.bin before) now (text_name stem) (pair_text stem document)

-- both files and how many bytes they have; or what a failed put or want of memory leaves
abbrev pub PutsPair : List ℕ → Document → Option (List File) → Option (List File) → Result ℕ PutRefusal → Type 0
PutsPair stem document before now (Ok count) = (now ≡ with_pair stem document before) × (count ≡ length (pair_text stem document) + bin_len document.bin)
PutsPair stem document before now (Err Failed) = FailsAtBin stem document.bin before now ⊎ FailsAtText stem document before now
PutsPair stem document before now (Err Memory) = (now ≡ before) ⊎ (now ≡ with_bin stem document.bin before)
