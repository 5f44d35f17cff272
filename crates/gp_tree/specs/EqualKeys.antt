-- How equal keys are looked for. No public contract cites it.
use Rattle.std.specs.Prelude.{ℕ, ◌≢◌, ◌<◌, ◌*◌, ◌%◌, ◌^◌, bit_xor, List, [], ◌∷◌, get_or, ⊤}
use Rattle.gp_tree.specs.declared.tree.Member.{Member}
use Rattle.gp_tree.specs.Plain.{PlainMembers, no_members, member}
use Rattle.gp_tree.specs.Lexical.{Each}
use Rattle.gp_tree.specs.Key.{units}

-- ASCII, and no backslash
abbrev pub IsPlainByte : ℕ → Type 0
IsPlainByte x = (x < 128) × (x ≢ 92)

-- no key has an escape or a byte past ASCII
abbrev pub ArePlain : PlainMembers → Type 0
ArePlain no_members = ⊤
ArePlain (member k t ms) = Each IsPlainByte k × ArePlain ms

-- the key at i differs from each before it
abbrev pub IsNewKey : List Member → ℕ → Type 0
IsNewKey ms i = (k : ℕ) → k < i → (d : Member) → units (get_or ms k d).key ≢ units (get_or ms i d).key

-- a number made of a string, from the number that was made of what stands before
abbrev pub sum_from : ℕ → List ℕ → ℕ
sum_from h [] = h
sum_from h (x ∷ s) = sum_from ((bit_xor h x * 0x100_0000_01b3) % 2 ^ 64) s

-- of the first n numbers, each is below those that follow
abbrev pub DoRise : ℕ → List ℕ → Type 0
DoRise n xs = (i j d : ℕ) → i < j → j < n → get_or xs i d < get_or xs j d
