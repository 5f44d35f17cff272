-- What holds of each number of a tree, and changes that keep it.
use Rattle.std.specs.Prelude.{⊤, if◌then◌else◌, cond, option_map, unwrap_or, find}
use Rattle.std.specs.List.{enumerate_from}
use Rattle.std.proofs.Common.{ℕ, ◌+◌, Bool, true, false, List, [], ◌∷◌, ◌++◌, map, Option, Some}
use Rattle.gp_tree.specs.Lexical.{Each}
use Rattle.gp_tree.specs.Plain.{PlainTree, PlainTrees, PlainMembers, null, truth, number, text, list, members, no_items, item, no_members, member, trees_of, members_of}
use Rattle.gp_tree.specs.Find.{PlainMember, item_list, member_list, is_named, find_member}
use Rattle.gp_tree.specs.TreeEdits.{set_first, remove_first, change_first, with_members, with_member, without, at_member, with_items, and_items}
use Rattle.gp_edits.specs.Changes.{change_each}
use Rattle.gp_sameness.specs.References.{each_item}
use Rattle.gp_kept.specs.Numbers.{numbers_in, numbers_in_items, numbers_in_members}
use Rattle.gp_packed.proofs.SoundPacked.{each_joined}

-- ---- of each number

abbrev mutual
  pub EachNumber : (List ℕ → Type 0) → PlainTree → Type 0
  EachNumber P null = ⊤
  EachNumber P (truth b) = ⊤
  EachNumber P (number s) = P s
  EachNumber P (text s) = ⊤
  EachNumber P (list ts) = EachInItems P ts
  EachNumber P (members ms) = EachInMembers P ms

  pub EachInItems : (List ℕ → Type 0) → PlainTrees → Type 0
  EachInItems P no_items = ⊤
  EachInItems P (item t ts) = EachNumber P t × EachInItems P ts

  pub EachInMembers : (List ℕ → Type 0) → PlainMembers → Type 0
  EachInMembers P no_members = ⊤
  EachInMembers P (member k t ms) = EachNumber P t × EachInMembers P ms

each_front : {A : Type 0} (P : A → Type 0) (xs ys : List A) → Each P (xs ++ ys) → Each P xs
each_front P [] ys h = tt
each_front P (x ∷ xs) ys h = (h.0, each_front P xs ys h.1)

each_behind : {A : Type 0} (P : A → Type 0) (xs ys : List A) → Each P (xs ++ ys) → Each P ys
each_behind P [] ys h = h
each_behind P (x ∷ xs) ys h = each_behind P xs ys h.1

mutual
  pub of_numbers : (P : List ℕ → Type 0) (t : PlainTree) → Each P (numbers_in t) → EachNumber P t
  of_numbers P null h = tt
  of_numbers P (truth b) h = tt
  of_numbers P (number s) h = h.0
  of_numbers P (text s) h = tt
  of_numbers P (list ts) h = of_items_numbers P ts h
  of_numbers P (members ms) h = of_members_numbers P ms h

  of_items_numbers : (P : List ℕ → Type 0) (ts : PlainTrees) → Each P (numbers_in_items ts) → EachInItems P ts
  of_items_numbers P no_items h = tt
  of_items_numbers P (item t ts) h =
      (of_numbers P t (each_front P (numbers_in t) (numbers_in_items ts) h), of_items_numbers P ts (each_behind P (numbers_in t) (numbers_in_items ts) h))

  of_members_numbers : (P : List ℕ → Type 0) (ms : PlainMembers) → Each P (numbers_in_members ms) → EachInMembers P ms
  of_members_numbers P no_members h = tt
  of_members_numbers P (member k t ms) h =
      (of_numbers P t (each_front P (numbers_in t) (numbers_in_members ms) h), of_members_numbers P ms (each_behind P (numbers_in t) (numbers_in_members ms) h))

mutual
  pub to_numbers : (P : List ℕ → Type 0) (t : PlainTree) → EachNumber P t → Each P (numbers_in t)
  to_numbers P null h = tt
  to_numbers P (truth b) h = tt
  to_numbers P (number s) h = (h, tt)
  to_numbers P (text s) h = tt
  to_numbers P (list ts) h = to_items_numbers P ts h
  to_numbers P (members ms) h = to_members_numbers P ms h

  to_items_numbers : (P : List ℕ → Type 0) (ts : PlainTrees) → EachInItems P ts → Each P (numbers_in_items ts)
  to_items_numbers P no_items h = tt
  to_items_numbers P (item t ts) h = each_joined P (numbers_in t) (numbers_in_items ts) (to_numbers P t h.0) (to_items_numbers P ts h.1)

  to_members_numbers : (P : List ℕ → Type 0) (ms : PlainMembers) → EachInMembers P ms → Each P (numbers_in_members ms)
  to_members_numbers P no_members h = tt
  to_members_numbers P (member k t ms) h = each_joined P (numbers_in t) (numbers_in_members ms) (to_numbers P t h.0) (to_members_numbers P ms h.1)

-- ---- by lists of items and members

abbrev pub HasIn : (List ℕ → Type 0) → PlainMember → Type 0
HasIn P m = EachNumber P m.1

of_items : (P : List ℕ → Type 0) (ts : PlainTrees) → EachInItems P ts → Each (EachNumber P) (item_list ts)
of_items P no_items h = tt
of_items P (item t ts) h = (h.0, of_items P ts h.1)

to_items : (P : List ℕ → Type 0) (ts : List PlainTree) → Each (EachNumber P) ts → EachInItems P (trees_of ts)
to_items P [] h = tt
to_items P (t ∷ ts) h = (h.0, to_items P ts h.1)

of_members : (P : List ℕ → Type 0) (ms : PlainMembers) → EachInMembers P ms → Each (HasIn P) (member_list ms)
of_members P no_members h = tt
of_members P (member k t ms) h = (h.0, of_members P ms h.1)

to_members : (P : List ℕ → Type 0) (ms : List PlainMember) → Each (HasIn P) ms → EachInMembers P (members_of ms)
to_members P [] h = tt
to_members P (m ∷ ms) h = (h.0, to_members P ms h.1)

-- ---- changes that keep it

module _ (P : List ℕ → Type 0) where
  abbrev pub Has : PlainTree → Type 0
  Has t = EachNumber P t

  abbrev pub Keeps : (PlainTree → PlainTree) → Type 0
  Keeps change = (t : PlainTree) → Has t → Has (change t)

  -- ---- an object

  members_kept : (change : List PlainMember → List PlainMember) → ((ms : List PlainMember) → Each (HasIn P) ms → Each (HasIn P) (change ms)) → Keeps (with_members change)
  members_kept change keeps null h = h
  members_kept change keeps (truth b) h = h
  members_kept change keeps (number s) h = h
  members_kept change keeps (text s) h = h
  members_kept change keeps (list ts) h = h
  members_kept change keeps (members ms) h = to_members P (change (member_list ms)) (keeps (member_list ms) (of_members P ms h))

  set_step : (b : Bool) (k : List ℕ) (value old : PlainTree) (ms others : List PlainMember) → Has value → Has old → Each (HasIn P) ms → Each (HasIn P) others
      → Each (HasIn P) (if b then (k, value) ∷ ms else (k, old) ∷ others)
  set_step true k value old ms others new h rest more = (new, rest)
  set_step false k value old ms others new h rest more = (h, more)

  set_first_kept : (key : List ℕ) (value : PlainTree) → Has value → (ms : List PlainMember) → Each (HasIn P) ms → Each (HasIn P) (set_first key value ms)
  set_first_kept key value new [] h = (new, tt)
  set_first_kept key value new ((k, old) ∷ ms) h = set_step (is_named key k) k value old ms (set_first key value ms) new h.0 h.1 (set_first_kept key value new ms h.1)

  pub set_kept : (key : List ℕ) (value : PlainTree) → Has value → Keeps (with_member key value)
  set_kept key value new = members_kept (set_first key value) (set_first_kept key value new)

  remove_step : (b : Bool) (m : PlainMember) (ms others : List PlainMember) → HasIn P m → Each (HasIn P) ms → Each (HasIn P) others → Each (HasIn P) (if b then ms else m ∷ others)
  remove_step true m ms others h rest more = rest
  remove_step false m ms others h rest more = (h, more)

  remove_first_kept : (key : List ℕ) (ms : List PlainMember) → Each (HasIn P) ms → Each (HasIn P) (remove_first key ms)
  remove_first_kept key [] h = tt
  remove_first_kept key (m ∷ ms) h = remove_step (is_named key m.0) m ms (remove_first key ms) h.0 h.1 (remove_first_kept key ms h.1)

  pub removed_kept : (key : List ℕ) → Keeps (without key)
  removed_kept key = members_kept (remove_first key) (remove_first_kept key)

  change_step : (b : Bool) (k : List ℕ) (value new : PlainTree) (ms others : List PlainMember) → Has value → Has new → Each (HasIn P) ms → Each (HasIn P) others
      → Each (HasIn P) (if b then (k, new) ∷ ms else (k, value) ∷ others)
  change_step true k value new ms others h changed rest more = (changed, rest)
  change_step false k value new ms others h changed rest more = (h, more)

  change_first_kept : (key : List ℕ) (change : PlainTree → PlainTree) → Keeps change → (ms : List PlainMember) → Each (HasIn P) ms → Each (HasIn P) (change_first key change ms)
  change_first_kept key change keeps [] h = tt
  change_first_kept key change keeps ((k, value) ∷ ms) h =
      change_step (is_named key k) k value (change value) ms (change_first key change ms) h.0 (keeps value h.0) h.1 (change_first_kept key change keeps ms h.1)

  pub member_kept : (key : List ℕ) (change : PlainTree → PlainTree) → Keeps change → Keeps (at_member key change)
  member_kept key change keeps = members_kept (change_first key change) (change_first_kept key change keeps)

  -- ---- the value of a member, or another value

  found_step : (b : Bool) (default : PlainTree) (m : PlainMember) (rest : Option PlainMember) → HasIn P m → Has (unwrap_or (option_map (λ (n : PlainMember). n.1) rest) default)
      → Has (unwrap_or (option_map (λ (n : PlainMember). n.1) (cond b (Some m) rest)) default)
  found_step true default m rest h more = h
  found_step false default m rest h more = more

  found_kept : (key : List ℕ) (default : PlainTree) → Has default → (ms : List PlainMember) → Each (HasIn P) ms
      → Has (unwrap_or (option_map (λ (n : PlainMember). n.1) (find (λ (n : PlainMember). is_named key n.0) ms)) default)
  found_kept key default d [] h = d
  found_kept key default d (m ∷ ms) h = found_step (is_named key m.0) default m (find (λ (n : PlainMember). is_named key n.0) ms) h.0 (found_kept key default d ms h.1)

  pub found_or : (key : List ℕ) (default t : PlainTree) → Has default → Has t → Has (unwrap_or (find_member key t) default)
  found_or key default null d h = d
  found_or key default (truth b) d h = d
  found_or key default (number s) d h = d
  found_or key default (text s) d h = d
  found_or key default (list ts) d h = d
  found_or key default (members ms) d h = found_kept key default d (member_list ms) (of_members P ms h)

  -- ---- a list

  pub items_kept : (change : List PlainTree → List PlainTree) → ((ts : List PlainTree) → Each Has ts → Each Has (change ts)) → Keeps (with_items change)
  items_kept change keeps null h = h
  items_kept change keeps (truth b) h = h
  items_kept change keeps (number s) h = h
  items_kept change keeps (text s) h = h
  items_kept change keeps (members ms) h = h
  items_kept change keeps (list ts) h = to_items P (change (item_list ts)) (keeps (item_list ts) (of_items P ts h))

  numbered_kept : (k : ℕ) (change : ℕ → PlainTree → PlainTree) → ((at : ℕ) → Keeps (change at)) → (ts : List PlainTree) → Each Has ts
      → Each Has (map (λ (p : ℕ × PlainTree). change p.0 p.1) (enumerate_from k ts))
  numbered_kept k change keeps [] h = tt
  numbered_kept k change keeps (t ∷ ts) h = (keeps k t h.0, numbered_kept (k + 1) change keeps ts h.1)

  pub each_kept : (change : ℕ → PlainTree → PlainTree) → ((at : ℕ) → Keeps (change at)) → Keeps (each_item change)
  each_kept change keeps = items_kept (λ ts. map (λ (p : ℕ × PlainTree). change p.0 p.1) (enumerate_from 0 ts)) (numbered_kept 0 change keeps)

  pub added_kept : (more : List PlainTree) → Each Has more → Keeps (and_items more)
  added_kept more new = items_kept (λ ts. ts ++ more) (λ ts h. each_joined Has ts more h new)

  changed_kept : {A : Type 0} (Q : A → Type 0) (change : A → PlainTree → PlainTree) → ((a : A) → Q a → Keeps (change a))
      → (values : List A) → Each Q values → (ts : List PlainTree) → Each Has ts → Each Has (change_each change values ts)
  changed_kept Q change keeps [] q ts h = h
  changed_kept Q change keeps (a ∷ values) q [] h = h
  changed_kept Q change keeps (a ∷ values) q (t ∷ ts) h = (keeps a q.0 t h.0, changed_kept Q change keeps values q.1 ts h.1)

  pub all_changed : {A : Type 0} (Q : A → Type 0) (change : A → PlainTree → PlainTree) → ((a : A) → Q a → Keeps (change a))
      → (values : List A) → Each Q values → Keeps (with_items (change_each change values))
  all_changed Q change keeps values q = items_kept (change_each change values) (changed_kept Q change keeps values q)
