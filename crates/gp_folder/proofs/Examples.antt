-- Worked values: files by their names, and what takes and puts do.
use Rattle.std.proofs.Common.{◌≡◌, ◌≢◌, ℕ, ◌-◌, ◌^◌, List, [], ◌∷◌, ◌++◌, None, Some, codes, refl, inl, inr, arith, rules}
use Rattle.std.specs.declared.option.Option.{Option}
use Rattle.gp_folder.specs.declared.file.File.{File}
use Rattle.gp_folder.specs.Files.{has_name, bytes_of, with_file}
use Rattle.gp_folder.specs.Folder.{FolderAt, Gives, Lacks, Exceeds, after_put, PutsFront, PutsSome}
use Rattle.gp_folder.specs.Memory.{MemoryFolderAt, folder_at, after_call, after_failed_call, after_done_put}
use Rattle.gp_folder.specs.Std.{std_folder_at}

abbrev file : List ℕ → List ℕ → File
file name bytes = record { name = name; bytes = bytes }

-- two files, the second of no bytes
abbrev two : List File
two = file (codes "a") (1 ∷ 2 ∷ []) ∷ file (codes "b") [] ∷ []

found : bytes_of (codes "a") two ≡ Some (1 ∷ 2 ∷ [])
found = refl

found_empty : bytes_of (codes "b") two ≡ Some []
found_empty = refl

found_none : bytes_of (codes "A") two ≡ None
found_none = refl

front_of_a_name : bytes_of (codes "a") (file (codes "ab") [] ∷ []) ≡ None
front_of_a_name = refl

replaced : with_file (codes "a") (7 ∷ []) two ≡ file (codes "a") (7 ∷ []) ∷ file (codes "b") [] ∷ []
replaced = refl

replaced_second : with_file (codes "b") (7 ∷ []) two ≡ file (codes "a") (1 ∷ 2 ∷ []) ∷ file (codes "b") (7 ∷ []) ∷ []
replaced_second = refl

added : with_file (codes "c") (7 ∷ []) two ≡ file (codes "a") (1 ∷ 2 ∷ []) ∷ file (codes "b") [] ∷ file (codes "c") (7 ∷ []) ∷ []
added = refl

first_of_all : with_file (codes "c") [] [] ≡ file (codes "c") [] ∷ []
first_of_all = refl

-- what a take is told
gives_all : Gives (Some two) (codes "a") (1 ∷ 2 ∷ [])
gives_all = refl

gives_no_front : Gives (Some two) (codes "a") (1 ∷ []) → ⊥
gives_no_front gives = search rules

untold : Gives None (codes "a") (1 ∷ [])
untold = tt

lacks_third : Lacks (Some two) (codes "c")
lacks_third = refl

lacks_no_empty : Lacks (Some two) (codes "b") → ⊥
lacks_no_empty lacks = search rules

exceeds_one : Exceeds (Some two) (codes "a") 1
exceeds_one = omega arith

exceeds_no_two : Exceeds (Some two) (codes "a") 2 → ⊥
exceeds_no_two exceeds = omega (arith, exceeds)

exceeds_none : Exceeds (Some two) (codes "c") 0 → ⊥
exceeds_none exceeds = exceeds

-- what a failed put leaves
as_before : PutsSome (Some two) (Some two) (codes "a") (7 ∷ 8 ∷ [])
as_before = inl refl

a_front : PutsSome (Some two) (Some (file (codes "a") (7 ∷ []) ∷ file (codes "b") [] ∷ [])) (codes "a") (7 ∷ 8 ∷ [])
a_front = inr (record { front = 7 ∷ []; rest = 8 ∷ []; split = refl; put = refl })

emptied : PutsSome (Some two) (Some (file (codes "a") [] ∷ file (codes "b") [] ∷ [])) (codes "a") (7 ∷ 8 ∷ [])
emptied = inr (record { front = []; rest = 7 ∷ 8 ∷ []; split = refl; put = refl })

-- a folder in memory whose second call fails
abbrev folder : MemoryFolderAt
folder = record { files = two; failing = 1 ∷ []; number = 1; faults = 0 }

told : folder_at folder ≡ record { files = Some two; faults = 0 }
told = refl

called : after_call folder ≡ record folder { number = 2 }
called = refl

failed : after_failed_call folder ≡ record folder { number = 2; faults = 1 }
failed = refl

called_last : after_call (record folder { number = 2 ^ 32 }) ≡ record folder { number = 2 ^ 32 }
called_last = refl

put_last : after_done_put (codes "c") [] folder ≡ record folder { files = file (codes "a") (1 ∷ 2 ∷ []) ∷ file (codes "b") [] ∷ file (codes "c") [] ∷ []; number = 2 }
put_last = refl

put_told : (folder_at (after_done_put (codes "c") [] folder)).files ≡ after_put (codes "c") [] (folder_at folder).files
put_told = refl

std_told : std_folder_at {R = ℕ} (record { rt = 0; faults = 3 }) ≡ record { files = None; faults = 3 }
std_told = refl
