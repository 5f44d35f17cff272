-- Files by their names.
use Rattle.std.specs.Prelude.{◌≢◌, ℕ, Bool, List, [], ◌∷◌, map, All, AllPairs, None, Some, if◌then◌else◌}
use Rattle.std.specs.declared.option.Option.{Option}
use Rattle.std.specs.Str.{bytes_eq, IsUtf8}
use Rattle.gp_folder.specs.declared.file.File.{File}

abbrev pub has_name : List ℕ → File → Bool
has_name name file = bytes_eq file.name name

-- the bytes of the file with this name, where there is one
abbrev pub bytes_of : List ℕ → List File → Option (List ℕ)
bytes_of name [] = None
bytes_of name (file ∷ files) = if has_name name file then Some file.bytes else bytes_of name files

-- the files once this name has these bytes: a file with that name keeps its place, and a new one goes last
abbrev pub with_file : List ℕ → List ℕ → List File → List File
with_file name bytes [] = record { name = name; bytes = bytes } ∷ []
with_file name bytes (file ∷ files) =
    if has_name name file then record file { bytes = bytes } ∷ files else file ∷ with_file name bytes files

-- the names differ from each other, and each is text
pub record AreNamed (files : List File) : Type 0 where
  pub distinct : AllPairs (λ (one : File) (other : File). one.name ≢ other.name) files
  pub text : All (λ (file : File). IsUtf8 file.name) files
