-- The numbers that packing writes into the JSON.
use Rattle.std.specs.Prelude.{◌≡◌, ◌⊎◌, ℕ, ◌<◌, ◌^◌, List, [], ◌∷◌, ◌++◌, decimal}
use Rattle.std.specs.List.{All, Contains}
use Rattle.gp_tree.specs.Plain.{PlainTree, PlainTrees, PlainMembers, null, truth, number, text, list, members, no_items, item, no_members, member}
use Rattle.gp_document.specs.Answers.{IsMade}
use Rattle.gp_document.specs.declared.output.Output.{Output}
use Rattle.gp_packed.specs.Packed.{packing}
use Rattle.gp_packed.specs.StoredParts.{AreBytes}

-- all numbers of a tree, at every place, as they are spelled
abbrev mutual
  pub numbers_in : PlainTree → List (List ℕ)
  numbers_in null = []
  numbers_in (truth b) = []
  numbers_in (number s) = s ∷ []
  numbers_in (text s) = []
  numbers_in (list ts) = numbers_in_items ts
  numbers_in (members ms) = numbers_in_members ms

  pub numbers_in_items : PlainTrees → List (List ℕ)
  numbers_in_items no_items = []
  numbers_in_items (item t ts) = numbers_in t ++ numbers_in_items ts

  pub numbers_in_members : PlainMembers → List (List ℕ)
  numbers_in_members no_members = []
  numbers_in_members (member k t ms) = numbers_in t ++ numbers_in_members ms

-- the decimal digits of a whole number below 2^32
abbrev pub IsSmallNumber : List ℕ → Type 0
IsSmallNumber s = (n : ℕ) × (s ≡ decimal n) × (n < 2 ^ 32)

-- each number of the second tree is one of the first, or such one
abbrev pub WritesSmallNumbers : PlainTree → PlainTree → Type 0
WritesSmallNumbers before after = All (λ s. Contains (numbers_in before) s ⊎ IsSmallNumber s) (numbers_in after)

-- packing writes no others, be they of views, buffers, accessors or primitives
abbrev pub NumbersFit : Type 0
NumbersFit = (bytes : List ℕ) (out : Output) (h : IsMade packing bytes out) → AreBytes bytes → WritesSmallNumbers h.accepted.document.tree h.made.document.tree
