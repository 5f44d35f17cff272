-- A folder in memory that fails where it is told to.
use Rattle.std.specs.Prelude.{ℕ, List, Some}
use Rattle.gp_host.specs.Memory.{next_number, next_fault}
use Rattle.gp_folder.specs.declared.file.File.{File}
use Rattle.gp_folder.specs.Files.{with_file}
use Rattle.gp_folder.specs.Folder.{FolderAt}

-- the files, the numbers of the calls that fail, the next call's number, the faults
pub record MemoryFolderAt : Type 0 where
  pub files : List File
  pub failing : List ℕ
  pub number : ℕ
  pub faults : ℕ

abbrev pub folder_at : MemoryFolderAt → FolderAt
folder_at folder = record { files = Some folder.files; faults = folder.faults }

-- after a call that changed no file
abbrev pub after_call : MemoryFolderAt → MemoryFolderAt
after_call folder = record folder { number = next_number folder.number }

abbrev pub after_failed_call : MemoryFolderAt → MemoryFolderAt
after_failed_call folder = record folder { number = next_number folder.number; faults = next_fault folder.faults }

-- after a call that gave this name these bytes
abbrev pub after_done_put : List ℕ → List ℕ → MemoryFolderAt → MemoryFolderAt
after_done_put name bytes folder = record folder { files = with_file name bytes folder.files; number = next_number folder.number }
