-- `Tree::item_mut` lends twice: a list's items, then one of them. What the tree ends as follows the item.
use Rattle.std.proofs.Common.{◌≡◌, ℕ, List, [], ◌∷◌, Some, IsSome, refl, ap, subst, ◌∙◌, w64, MutBor}
use Rattle.std.proofs.raw_atomic.Walks.{proved}
use base.Logic.{id⊢, emp}
use base.Fml.{ftrue, flft}
use mir.Syntax.{named}
use mir.Val.{Val}
use contract.Monad.{fact, fact_i}
use contract.Running.{tables}
use types.Kit.{‵, raw, ◌⊛◌, some, later, ◌$◌, ◌∵◌, !, qed, done, move, keep, drop, use0, use1, use2, split, join, fsplit3, fjoin, fjoin3, feq_i, feq_l, pick, await, rewrite, suffices, frame}
use types.Run.{enter, addr, stop, no_more, and_then, returns}
use types.ByLocal.{alloc_all, pass_all, free_all, look_at, get, through, sets, lands_as}
use denote.Builtin.{usize}
use denote.Exit.{yes, no}
use denote.Follow.{follows, follows_then}
use denote.Plain.{uint_Makes, uint_vals, uint_Tells}
use denote.Ref.{MutRef, mut_vals, mut_Tells}
use denote.Signature.{plain as plainly, mut_ref_to}
use denote.Steps.{nothing, owned, heard, only}
use denote.Triple.Call.{calls_at}
use denote.Triple.Clauses.{lasts, Lasts}
use denote.Triple.Entry.{Args}
use denote.Triple.Spec.{triple_of}
use denote.Triple.Table.{framed}
use denote.Triple.Walked.{Stays, walk_of, says, stay_dropped, Goes-dropped, Goes-spent_ref, ends_at}
use Rattle.gp_tree.specs.declared.tree.Tree.{Tree, List as a_list}
use Rattle.gp_tree.specs.declared.tree.Trees.{Trees}
use Rattle.gp_tree.specs.Plain.{PlainTrees, plain, plain_trees, list, trees_of}
use Rattle.gp_tree.specs.Look.{item, nth_item}
use Rattle.gp_tree.specs.Find.{IsList, item_list}
use Rattle.gp_tree.specs.TreeEdits.{change_nth}
use Rattle.gp_tree.specs.Lending.{put_item}
use Rattle.gp_tree.specs.contracts.tree.Tree as tree
use Rattle.gp_tree.specs.contracts.tree.Trees as trees
use Rattle.gp_tree.specs.contracts.tree.Tree.item_mut as f
use Rattle.gp_tree.specs.contracts.tree.Tree.items_mut as g
use Rattle.gp_tree.specs.contracts.tree.Trees.item_mut as h
use Rattle.gp_tree.proofs.InTree.{item_in_list, list_item, put_in_list, puts_in_list}
use Rattle.gp_tree.proofs.tree.Tree.items_mut.Met.{met as items_met}
use Rattle.gp_tree.proofs.tree.Trees.item_mut.Met.{met as item_met}
use Rattle.gp_tree.proofs.tree.Tree.item_mut.Statement.{statement}
use Rattle.gp_tree.proofs.tree.Tree.item_mut.Code as code

abbrev stayed : Stays f.ended.signature.params f.ended.kept
stayed = (stay_dropped (mut_ref_to (0 ∷ []) tt (plainly (λ _. tree.the_row))) no, (stay_dropped (plainly (λ _. usize)) yes, tt))

abbrev Puts : PlainTrees → (Tree → Trees) → ℕ → Type 0
Puts ts put at = (w : Tree) → plain_trees (put w) ≡ trees_of (change_nth at (λ _. plain w) (item_list ts))

pub item_mut_spec : {M : Type 1} → statement M
item_mut_spec 𝓤 𝓛 𝓜 𝓡 wired =
    let c = f.clauses 𝓛 𝓜.mem 𝓡.returns in let W = walk_of 𝓛 f.ended stayed c in let 𝓣 = tables 𝓤 𝓛.H 𝓜 𝓡 𝓡.env in
    proved 𝓛 f.ended stayed c 𝓜 𝓡
    (Goes-spent_ref 𝓛 1 (0 ∷ []) tt (plainly (λ _. tree.the_row)), (Goes-dropped 𝓛 1 (plainly (λ _. usize)) yes (λ κs x w. refl), tt))
    f.Key.name code.function (code.unfolded 𝓤 𝓛.H 𝓜 𝓡 wired)
    (λ κs. (mut_vals, (uint_vals w64, tt))) (λ κs. (mut_Tells (named 0) κs.0 tree.the_row, (uint_Tells w64, tt))) (λ κs qs bounds a n are.
    let self = a.0 in let at = a.1.0 in let κ = κs.0 in let q = qs.0 in
    let y : W.Ghost = ((κs, qs, bounds, a, (mut_vals self, (uint_vals w64 at, tt))), tt) in
    let Asked = IsSome (item (plain self.now) at) in
    qed 𝓛 (((‵ (flft κ q) ⊛ ‵ ftrue) ⊛ ‵ ((MutRef (named 0) κ tree.the_row).own_val self (mut_vals self)) ⊛ ‵ (usize.own_val at (uint_vals w64 at)) ⊛ ‵ ftrue) ∷ raw (fact 𝓤 Asked) ∷ []) ∵
    move ! (1 ∷ []) $ heard ! Asked (λ asked. split ! $ split ! $ move ! (2 ∷ []) $ split ! $ keep ! (0 ∷ 2 ∷ []) $
    enter ! _ _ _ _ _ $ alloc_all ! (λ l. pass_all ! refl ((tt, tt), ((tt, record { fits = are.1.0.1 }), tt)) $
    -- [self; the token]
    sets ! (addr ! (through ! refl (stop !))) refl (tt, tt) $
    let G = triple_of 𝓛 g.signature (g.spec 𝓛 𝓜.mem 𝓡.returns) in
    let z : G.Ghost = ((κs, qs, bounds, (self, tt), (mut_vals self, tt)), tt) in
    let Listed = IsList (plain self.now) in
    nothing ! $ move ! (1 ∷ 0 ∷ []) $ join ! $ nothing ! $ move ! (2 ∷ 0 ∷ []) $ join ! $ join ! $
    use0 𝓛 (raw (fact 𝓤 Listed)) (fact_i 𝓤 Listed (emp 𝓤) (item_in_list (plain self.now) at asked)) $ move ! (1 ∷ 0 ∷ []) $ use2 𝓛 (raw (G.pre z)) (id⊢ 𝓤 _) $
    calls_at ! (framed 𝓤 𝓛.H 𝓜 𝓣) G (items_met 𝓤 𝓛 𝓜 𝓡 (code.calls-gp_tree::tree::Tree::items_mut 𝓡.env wired)) z
    (and_then ! (get ! refl) (no_more !)) (λ v.
    use1 𝓛 (later (some (λ (r : MutBor Trees). ((‵ (flft κ q) ⊛ ‵ ftrue) ⊛ ‵ ((MutRef (named 0) κ trees.the_row).own_val r (v ∷ []))) ⊛
    some (λ (ws : Lasts g.ended κs (self, tt)). ‵ (lasts g.ended κs (self, tt) ws) ⊛ ‵ (follows tree.the_row trees.the_row self.ghost_name r.ghost_name a_list)
    ⊛ raw (fact 𝓤 (self.now ≡ a_list r.now)) ⊛ raw (fact 𝓤 ((w : Trees) → plain (a_list w) ≡ list (plain_trees w))))))) (id⊢ 𝓤 _) $
    await ! tt $ pick ! (λ r. split ! $ split ! $ split ! $ move ! (3 ∷ []) $ pick ! (λ ws. split ! $ drop ! $ split ! $ move ! (1 ∷ []) $ split ! $
    heard ! (self.now ≡ a_list r.now) (λ is. drop ! $ move ! (3 ∷ []) $ fsplit3 ! $ feq_l ! (λ e. feq_i ! (List Val) (mut_vals r) (mut_vals r) refl $ fjoin3 ! $
    -- [the items; the tree follows them; the token; true]
    lands_as ! (ap only e) refl (tt, tt) $
    let K = triple_of 𝓛 h.signature (h.spec 𝓛 𝓜.mem 𝓡.returns) in
    let b : Args h.signature κs = (r, (at, tt)) in
    let x : K.Ghost = ((κs, qs, bounds, b, (mut_vals r, (uint_vals w64 at, tt))), tt) in
    let Within = IsSome (nth_item (plain_trees r.now) at) in
    let same = list_item self.now r.now at is in
    nothing ! $ owned ! usize _ (uint_Makes 𝓛 w64) at _ (refl, are.1.0.1) $ join ! $ move ! (1 ∷ 0 ∷ []) $ join ! $ move ! (2 ∷ 3 ∷ 0 ∷ []) $ join ! $ join ! $
    use0 𝓛 (raw (fact 𝓤 Within)) (fact_i 𝓤 Within (emp 𝓤) (subst IsSome same asked)) $ move ! (1 ∷ 0 ∷ []) $ use2 𝓛 (raw (K.pre x)) (id⊢ 𝓤 _) $
    calls_at ! (framed 𝓤 𝓛.H 𝓜 𝓣) K (item_met 𝓤 𝓛 𝓜 𝓡 (code.calls-gp_tree::tree::Trees::item_mut 𝓡.env wired)) x
    (and_then ! (get ! refl) (and_then ! (get ! refl) (no_more !))) (λ u.
    use1 𝓛 (later (some (λ (s : MutBor Tree). ((‵ (flft κ q) ⊛ ‵ ftrue) ⊛ ‵ ((MutRef (named 0) κ tree.the_row).own_val s (u ∷ []))) ⊛
    some (λ (ws : Lasts h.ended κs b). ‵ (lasts h.ended κs b ws) ⊛ ‵ (follows trees.the_row tree.the_row r.ghost_name s.ghost_name (put_item r.now at))
    ⊛ raw (fact 𝓤 (nth_item (plain_trees r.now) at ≡ Some (plain s.now))) ⊛ raw (fact 𝓤 (Puts (plain_trees r.now) (put_item r.now at) at)))))) (id⊢ 𝓤 _) $
    await ! tt $ pick ! (λ s. split ! $ split ! $ split ! $ move ! (3 ∷ []) $ pick ! (λ ws. split ! $ drop ! $ split ! $ move ! (1 ∷ []) $ split ! $
    heard ! (nth_item (plain_trees r.now) at ≡ Some (plain s.now)) (λ value. drop ! $ move ! (3 ∷ []) $ fsplit3 ! $ feq_l ! (λ e. feq_i ! (List Val) (mut_vals s) (mut_vals s) refl $ fjoin3 ! $
    -- [the item; the items follow it; the token; true; the tree follows the items]
    lands_as ! (ap only e) refl (tt, tt) $
    returns ! (look_at ! 0 refl) $ free_all ! refl $ move ! (4 ∷ 1 ∷ []) $
    use2 𝓛 (‵ (follows tree.the_row tree.the_row self.ghost_name s.ghost_name (λ w. a_list (put_item r.now at w))))
    (follows_then 𝓛 tree.the_row trees.the_row tree.the_row a_list (put_item r.now at) self.ghost_name r.ghost_name s.ghost_name) $
    rewrite ! 0 (λ (put : Tree → Tree). ‵ (follows tree.the_row tree.the_row self.ghost_name s.ghost_name put)) (put_in_list self.now r.now at is) refl $
    keep ! (1 ∷ 2 ∷ 0 ∷ []) $
    suffices ! _ (ends_at 𝓛 f.ended stayed c y _ s (tt, (tt, tt)) (tt, (tt, tt))) $
    nothing ! $ nothing ! $ fjoin ! $ nothing ! $ fjoin ! $ join ! $ nothing ! $ move ! (2 ∷ 0 ∷ []) $ join ! $ join ! $ frame ! $ frame ! $
    says ! (puts_in_list self.now r.now at is) $
    use0 𝓛 (raw (fact 𝓤 (item (plain self.now) at ≡ Some (plain s.now)))) (fact_i 𝓤 (item (plain self.now) at ≡ Some (plain s.now)) (emp 𝓤) (same ∙ value)) $ done !)))))))))))))
