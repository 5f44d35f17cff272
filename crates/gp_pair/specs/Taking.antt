-- Files of a folder, taken one after the other within a limit.
use Rattle.std.specs.Prelude.{◌≡◌, ℕ, ◌+◌, ◌-◌, ◌≤◌, List, [], ◌∷◌, length, slice_get, Some, None, ⊤}
use Rattle.std.specs.declared.option.Option.{Option}
use Rattle.gp_folder.specs.declared.file.File.{File}
use Rattle.gp_folder.specs.Folder.{Gives, Lacks, Exceeds}

-- a buffer has a content exactly where it has a file, and then it is that of the file
abbrev pub IsContent : Option (List File) → Option (List ℕ) → Option (List ℕ) → Type 0
IsContent files None None = ⊤
IsContent files None (Some bytes) = ⊥
IsContent files (Some name) None = ⊥
IsContent files (Some name) (Some bytes) = Gives files name bytes

-- the contents of the first of these buffers
abbrev pub AreContents : Option (List File) → List (Option (List ℕ)) → List (Option (List ℕ)) → Type 0
AreContents files names [] = ⊤
AreContents files [] (content ∷ contents) = ⊥
AreContents files (name ∷ names) (content ∷ contents) = IsContent files name content × AreContents files names contents

-- how many bytes they have in all
abbrev pub content_len : Option (List ℕ) → ℕ
content_len None = 0
content_len (Some bytes) = length bytes

abbrev pub contents_len : List (Option (List ℕ)) → ℕ
contents_len [] = 0
contents_len (content ∷ contents) = content_len content + contents_len contents

-- the files of the first of these buffers are there, and they are within the limit in all
pub record TakesFirst (files : Option (List File)) (names : List (Option (List ℕ))) (limit : ℕ) : Type 0 where
  pub contents : List (Option (List ℕ))
  pub are_contents : AreContents files names contents
  pub within : contents_len contents ≤ limit

-- those before this one are there, and it isn't
pub record LacksNext (files : Option (List File)) (names : List (Option (List ℕ))) (limit at : ℕ) : Type 0 where
  pub before : TakesFirst files names limit
  pub number : at ≡ length before.contents
  pub name : List ℕ
  pub is_name : slice_get names at ≡ Some (Some name)
  pub lacks : Lacks files name

-- one is there too, and with it they are past the limit
pub record ExceedsNext (files : Option (List File)) (names : List (Option (List ℕ))) (limit : ℕ) : Type 0 where
  pub before : TakesFirst files names limit
  pub name : List ℕ
  pub is_name : slice_get names (length before.contents) ≡ Some (Some name)
  pub exceeds : Exceeds files name (limit - contents_len before.contents)

-- the files of all these buffers are there, and they are within the limit in all
pub record TakesAll (files : Option (List File)) (names : List (Option (List ℕ))) (limit : ℕ) (contents : List (Option (List ℕ))) : Type 0 where
  pub are_contents : AreContents files names contents
  pub within : contents_len contents ≤ limit
  pub whole : length contents ≡ length names
