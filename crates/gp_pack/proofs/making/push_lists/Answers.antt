use Rattle.std.proofs.Common.{◌≡◌, ◌<◌, ◌≤◌, ◌++◌, [], ◌∷◌, List, ℕ, length, get_or, sym, ap, ◌∙◌, subst, arith}
use Rattle.gp_mover.specs.MadeBytes.{list_width}
use Rattle.gp_mover.specs.Standing.{parts_of}
use Rattle.gp_storage.specs.Streams.{MayBeCoded}
use Rattle.gp_moves.proofs.FirstEntries.{one_entry, all_entries}
use Rattle.gp_pack.specs.MadeParts.{made_part, list_coding, list_part_of, list_parts}
use Rattle.gp_pack.proofs.MadeGroups.{ends_counted, read_other}
use Rattle.gp_pack.proofs.MovedLists.{list_codable}
use Rattle.gp_pack.proofs.making.push_lists.Goals as goal

pub store_made-requires-clause-numbers : goal.store_made-requires-clause-numbers
store_made-requires-clause-numbers c =
    let m = parts_of c.args.moved.now in
    let k = c.lists.at in
    let list = get_or m.ordered k [] in
    let ends : length c.as_slice-at-end.result.now ≡ length m.ordered = ap (λ (l : List ℕ). length l) (c.as_slice-at-end.ensures ∙ c.requires.whole.ends) ∙ ends_counted 0 m.ordered in
    let within : k < length m.ordered = omega (arith, c.lists-test.true, ends) in
    subst (λ width. MayBeCoded c.in_ok-contents.contents.items (list_coding width)) (sym c.list_width-stride.ensures)
    (subst (λ bytes. MayBeCoded bytes (list_coding (list_width m))) (sym c.in_ok-contents.ensures) (list_codable m list c.requires.few (c.requires.lists k [] within)))

pub lists-preserved : goal.lists-preserved
lists-preserved c =
    let m = parts_of c.args.moved.now in
    let k = c.lists.at in
    let list = get_or m.ordered k [] in
    let ends : length c.as_slice-at-end.result.now ≡ length m.ordered = ap (λ (l : List ℕ). length l) (c.as_slice-at-end.ensures ∙ c.requires.whole.ends) ∙ ends_counted 0 m.ordered in
    let within : k < length m.ordered = omega (arith, c.lists-test.true, ends) in
    one_entry (list_part_of m) c.args.parts.now.items c.lists.parts.items c.push.new.self.items m.ordered k list
    c.lists.invariant within (read_other m.ordered k [] list within)
    (c.in_ok-push.ensures.items
    ∙ ap (λ p. c.lists.parts.items ++ p ∷ []) (c.in_ok-part.ensures
    ∙ ap (λ n. made_part (list_coding n) c.in_ok-contents.contents.items) c.list_width-stride.ensures
    ∙ ap (λ l. made_part (list_coding (list_width m)) l) c.in_ok-contents.ensures))

pub returns : goal.returns
unfolding list_parts
returns c =
    let m = parts_of c.args.moved.now in
    let ends : length c.as_slice-at-end.result.now ≡ length m.ordered = ap (λ (l : List ℕ). length l) (c.as_slice-at-end.ensures ∙ c.requires.whole.ends) ∙ ends_counted 0 m.ordered in
    let past : length m.ordered ≤ c.lists.at = omega (arith, c.lists-test.false, ends) in
    all_entries (list_part_of m) c.args.parts.now.items c.lists.parts.items m.ordered c.lists.at c.lists.invariant past
