-- What the folder over std's files tells: nothing of what the files hold.
use Rattle.std.specs.Prelude.{None}
use Rattle.gp_folder.specs.Folder.{FolderAt}
use Rattle.gp_folder.specs.declared.std_folder.StdFolder.{StdFolder}

abbrev pub std_folder_at : {R : Type 0} → StdFolder R → FolderAt
std_folder_at folder = record { files = None; faults = folder.faults }
