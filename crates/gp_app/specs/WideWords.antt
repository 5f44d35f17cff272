-- What the words of the command line ask for, where there is a folder.
use Rattle.std.specs.Prelude.{⊤, ◌≡◌, ◌≢◌, ◌↔◌, ℕ, ◌==◌, Bool, true, not, nat_le, ◌&&◌, ◌||◌, if◌then◌else◌, List, [], ◌∷◌, length, get_or, None, Some, option_map, codes}
use Rattle.std.specs.List.{list_all}
use Rattle.std.specs.declared.option.Option.{Option}
use Rattle.gp_app.specs.Words.{is_word, is_digit, command, AsksFor}
use Rattle.gp_app.specs.declared.commands.Command.{Command}
use Rattle.gp_app.specs.declared.commands.Wide.{Wide}
use Rattle.gp_app.specs.declared.commands.Wide.TheVariants.{Plain, Bundle, Pair}

-- the name of a file that is bundled, and the stem of the names of a pair
abbrev pub file_in : List (List ℕ) → List ℕ
file_in words = get_or words 1 []

abbrev pub stem_in : List (List ℕ) → List ℕ
stem_in words = get_or words 2 []

-- a letter or a digit of ASCII, `_` or `-`
abbrev pub is_stem_byte : ℕ → Bool
is_stem_byte byte = is_digit byte || (nat_le 65 byte && nat_le byte 90) || (nat_le 97 byte && nat_le byte 122) || byte == 95 || byte == 45

-- 1 to 64 of them
abbrev pub is_stem : List ℕ → Bool
is_stem stem = not (length stem == 0) && nat_le (length stem) 64 && list_all is_stem_byte stem

abbrev pub is_bundle : List ℕ → List ℕ → Bool
is_bundle name file = is_word (codes "bundle") name && not (length file == 0)

abbrev pub is_pair : List ℕ → List ℕ → List ℕ → Bool
is_pair name file stem = is_word (codes "pair") name && not (length file == 0) && is_stem stem

-- the command of these words that takes a file of the folder, or none
abbrev pub folder_command : List (List ℕ) → Option Wide
folder_command (name ∷ file ∷ []) = if is_bundle name file then Some Bundle else None
folder_command (name ∷ file ∷ stem ∷ []) = if is_pair name file stem then Some Pair else None
folder_command _ = None

abbrev pub or_plain : Option Wide → Option Command → Option Wide
or_plain (Some asked) plain = Some asked
or_plain None plain = option_map Plain plain

-- the command of these words, or none
unfoldable pub wide_command : List (List ℕ) → Option Wide
wide_command words = or_plain (folder_command words) (command words)

-- these words ask for the command: its name, the name of a file, and for a pair a stem
abbrev pub AsksWidely : List (List ℕ) → Wide → Type 0
AsksWidely words (Plain asked) = AsksFor words asked
AsksWidely words Bundle = (file : List ℕ) × (file ≢ []) × (words ≡ codes "bundle" ∷ file ∷ [])
AsksWidely words Pair = (file : List ℕ) × (stem : List ℕ) × (file ≢ []) × (is_stem stem ≡ true) × (words ≡ codes "pair" ∷ file ∷ stem ∷ [])

-- words have a command exactly where they ask for it
abbrev pub WideCommandsAreAsked : Type 0
WideCommandsAreAsked = (words : List (List ℕ)) (asked : Wide) → (wide_command words ≡ Some asked) ↔ AsksWidely words asked

-- how many words a command that takes a file has
abbrev pub HasNames : {A : Type 0} → List A → Wide → Type 0
HasNames words Bundle = length words ≡ 2
HasNames words Pair = length words ≡ 3
HasNames words (Plain asked) = ⊤
