-- What is known of a folder.
use Rattle.std.specs.Prelude.{◌≡◌, ℕ, ◌<◌, List, ◌++◌, length, ◌⊎◌, IfSome, IsSomeAnd, option_map, None, Some}
use Rattle.std.specs.declared.option.Option.{Option}
use Rattle.gp_folder.specs.declared.file.File.{File}
use Rattle.gp_folder.specs.Files.{bytes_of, with_file}

-- the files in their order, where the folder tells them; how often it failed
pub record FolderAt : Type 0 where
  pub files : Option (List File)
  pub faults : ℕ

-- known files have one with this name and these bytes
abbrev pub Gives : Option (List File) → List ℕ → List ℕ → Type 0
Gives files name bytes = IfSome files (λ known. bytes_of name known ≡ Some bytes)

-- known files have none with this name
abbrev pub Lacks : Option (List File) → List ℕ → Type 0
Lacks files name = IfSome files (λ known. bytes_of name known ≡ None)

-- known files have one with this name, of more bytes than the limit
abbrev pub Exceeds : Option (List File) → List ℕ → ℕ → Type 0
Exceeds files name limit = IfSome files (λ known. IsSomeAnd (bytes_of name known) (λ bytes. limit < length bytes))

-- known files once this name has these bytes
abbrev pub after_put : List ℕ → List ℕ → Option (List File) → Option (List File)
after_put name bytes files = option_map (with_file name bytes) files

-- the name has a front of the bytes
pub record PutsFront (before now : Option (List File)) (name bytes : List ℕ) : Type 0 where
  pub front : List ℕ
  pub rest : List ℕ
  pub split : bytes ≡ front ++ rest
  pub put : now ≡ after_put name front before

-- what a failed put leaves: all as it was, or a front of the bytes under the name
abbrev pub PutsSome : Option (List File) → Option (List File) → List ℕ → List ℕ → Type 0
PutsSome before now name bytes = (now ≡ before) ⊎ PutsFront before now name bytes
