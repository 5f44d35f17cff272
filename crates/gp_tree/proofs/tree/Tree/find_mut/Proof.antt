-- `Tree::find_mut` lends twice: an object's members, then the value of one. What the tree ends as follows the value.
use Rattle.std.proofs.Common.{◌≡◌, ℕ, List, [], ◌∷◌, Some, IsSome, refl, ap, subst, ◌∙◌, MutBor}
use Rattle.std.proofs.raw_atomic.Walks.{proved}
use base.Logic.{id⊢, emp}
use base.Fml.{ftrue, flft}
use mir.Syntax.{named}
use mir.Val.{Val}
use contract.Monad.{fact, fact_i}
use contract.Running.{tables}
use types.Kit.{‵, raw, ◌⊛◌, some, later, ◌$◌, ◌∵◌, !, qed, done, move, keep, drop, use0, use1, use2, split, join, fsplit3, fjoin, fjoin3, feq_i, feq_l, pick, await, rewrite, suffices, frame}
use types.Run.{enter, addr, stop, no_more, and_then, returns}
use types.ByLocal.{alloc_all, pass_all, free_all, look_at, get, through, sets, lands_as}
use denote.Exit.{yes, no}
use denote.Follow.{follows, follows_then}
use denote.Ref.{MutRef, NamedLft, mut_vals, mut_Tells}
use denote.Signature.{plain as plainly, mut_ref_to}
use denote.Slice.{shr_slice_vals}
use denote.Steps.{nothing, heard, only}
use denote.Text.{Str, StrRefOf, str-laws}
use denote.Triple.Call.{calls_at}
use denote.Triple.Clauses.{lasts, Lasts}
use denote.Triple.Entry.{Args}
use denote.Triple.Spec.{triple_of}
use denote.Triple.Table.{framed}
use denote.Triple.Walked.{Stays, walk_of, says, stay_dropped, Goes-dropped, Goes-spent_ref, ends_at}
use Rattle.gp_tree.specs.declared.tree.Tree.{Tree, Members as an_object}
use Rattle.gp_tree.specs.declared.tree.Members.{Members}
use Rattle.gp_tree.specs.Plain.{PlainMembers, plain, plain_members, members, members_of}
use Rattle.gp_tree.specs.Find.{IsObject, member_list, find_member, value_of}
use Rattle.gp_tree.specs.TreeEdits.{change_first}
use Rattle.gp_tree.specs.Lending.{put_value}
use Rattle.gp_tree.specs.contracts.tree.Tree as tree
use Rattle.gp_tree.specs.contracts.tree.Members as entries
use Rattle.gp_tree.specs.contracts.tree.Tree.find_mut as f
use Rattle.gp_tree.specs.contracts.tree.Tree.members_mut as g
use Rattle.gp_tree.specs.contracts.tree.Members.find_mut as h
use Rattle.gp_tree.proofs.InTree.{member_in_object, object_member, put_in_object, puts_in_object}
use Rattle.gp_tree.proofs.tree.Tree.members_mut.Met.{met as members_met}
use Rattle.gp_tree.proofs.tree.Members.find_mut.Met.{met as value_met}
use Rattle.gp_tree.proofs.tree.Tree.find_mut.Statement.{statement}
use Rattle.gp_tree.proofs.tree.Tree.find_mut.Code as code

abbrev stayed : Stays f.ended.signature.params f.ended.kept
stayed = (stay_dropped (mut_ref_to (0 ∷ []) tt (plainly (λ _. tree.the_row))) no, (stay_dropped (StrRefOf (1 ∷ []) tt) yes, tt))

abbrev Puts : PlainMembers → (Tree → Members) → List ℕ → Type 0
Puts ms put name = (w : Tree) → plain_members (put w) ≡ members_of (change_first name (λ _. plain w) (member_list ms))

pub find_mut_spec : {M : Type 1} → statement M
find_mut_spec 𝓤 𝓛 𝓜 𝓡 wired =
    let c = f.clauses 𝓛 𝓜.mem 𝓡.returns in let W = walk_of 𝓛 f.ended stayed c in let 𝓣 = tables 𝓤 𝓛.H 𝓜 𝓡 𝓡.env in
    proved 𝓛 f.ended stayed c 𝓜 𝓡
    (Goes-spent_ref 𝓛 2 (0 ∷ []) tt (plainly (λ _. tree.the_row)), (Goes-dropped 𝓛 2 (StrRefOf (1 ∷ []) tt) yes (λ κs x w. refl), tt))
    f.Key.name code.function (code.unfolded 𝓤 𝓛.H 𝓜 𝓡 wired)
    (λ κs. (mut_vals, (shr_slice_vals, tt))) (λ κs. (mut_Tells (named 0) κs.0 tree.the_row, ((str-laws (record { mir = named 1; lft = κs.1.0 })).tells, tt))) (λ κs qs bounds a n are.
    let self = a.0 in let key = a.1.0 in let name = key.now in let κ = κs.0 in let q = qs.0 in
    let text : NamedLft = record { mir = named 1; lft = κs.1.0 } in
    let y : W.Ghost = ((κs, qs, bounds, a, (mut_vals self, (shr_slice_vals key, tt))), tt) in
    let Asked = IsSome (find_member name (plain self.now)) in
    qed 𝓛 (((‵ (flft κ q) ⊛ ‵ (flft κs.1.0 qs.1.0) ⊛ ‵ ftrue) ⊛ ‵ ((MutRef (named 0) κ tree.the_row).own_val self (mut_vals self)) ⊛ ‵ ((Str (named 1) κs.1.0).own_val key (shr_slice_vals key)) ⊛ ‵ ftrue) ∷ raw (fact 𝓤 Asked) ∷ []) ∵
    move ! (1 ∷ []) $ heard ! Asked (λ asked. split ! $ move ! (1 ∷ []) $ split ! $ move ! (1 ∷ []) $ split ! $ move ! (3 ∷ []) $ split ! $ keep ! (4 ∷ 0 ∷ 2 ∷ 1 ∷ []) $
    enter ! _ _ _ _ _ $ alloc_all ! (λ l. pass_all ! refl ((tt, tt), ((((str-laws text).lawful 𝓛).typed key (shr_slice_vals key) are.1.0).0, tt)) $
    -- [self; its token; the name; the other tokens]
    sets ! (addr ! (through ! refl (stop !))) refl (tt, tt) $
    let G = triple_of 𝓛 g.signature (g.spec 𝓛 𝓜.mem 𝓡.returns) in
    let z : G.Ghost = (((κ, tt), (q, tt), tt, (self, tt), (mut_vals self, tt)), tt) in
    let Listed = IsObject (plain self.now) in
    nothing ! $ move ! (1 ∷ 0 ∷ []) $ join ! $ nothing ! $ move ! (2 ∷ 0 ∷ []) $ join ! $ join ! $
    use0 𝓛 (raw (fact 𝓤 Listed)) (fact_i 𝓤 Listed (emp 𝓤) (member_in_object (plain self.now) name asked)) $ move ! (1 ∷ 0 ∷ []) $ use2 𝓛 (raw (G.pre z)) (id⊢ 𝓤 _) $
    calls_at ! (framed 𝓤 𝓛.H 𝓜 𝓣) G (members_met 𝓤 𝓛 𝓜 𝓡 (code.calls-gp_tree::tree::Tree::members_mut 𝓡.env wired)) z
    (and_then ! (get ! refl) (no_more !)) (λ v.
    use1 𝓛 (later (some (λ (r : MutBor Members). ((‵ (flft κ q) ⊛ ‵ ftrue) ⊛ ‵ ((MutRef (named 0) κ entries.the_row).own_val r (v ∷ []))) ⊛
    some (λ (ws : Lasts g.ended (κ, tt) (self, tt)). ‵ (lasts g.ended (κ, tt) (self, tt) ws) ⊛ ‵ (follows tree.the_row entries.the_row self.ghost_name r.ghost_name an_object)
    ⊛ raw (fact 𝓤 (self.now ≡ an_object r.now)) ⊛ raw (fact 𝓤 ((w : Members) → plain (an_object w) ≡ members (plain_members w))))))) (id⊢ 𝓤 _) $
    await ! tt $ pick ! (λ r. split ! $ split ! $ split ! $ move ! (3 ∷ []) $ pick ! (λ ws. split ! $ drop ! $ split ! $ move ! (1 ∷ []) $ split ! $
    heard ! (self.now ≡ an_object r.now) (λ is. drop ! $ move ! (3 ∷ []) $ fsplit3 ! $ feq_l ! (λ e. feq_i ! (List Val) (mut_vals r) (mut_vals r) refl $ fjoin3 ! $
    -- [the members; the tree follows them; the token; true; the name; the other tokens]
    lands_as ! (ap only e) refl (tt, tt) $
    let K = triple_of 𝓛 h.signature (h.spec 𝓛 𝓜.mem 𝓡.returns) in
    let b : Args h.signature κs = (r, (key, tt)) in
    let x : K.Ghost = ((κs, qs, tt, b, (mut_vals r, (shr_slice_vals key, tt))), tt) in
    let Within = IsSome (value_of name (member_list (plain_members r.now))) in
    let same = object_member self.now r.now name is in
    nothing ! $ move ! (5 ∷ 0 ∷ []) $ join ! $ move ! (1 ∷ 0 ∷ []) $ join ! $ move ! (2 ∷ 4 ∷ 0 ∷ []) $ join ! $ join ! $
    use0 𝓛 (raw (fact 𝓤 Within)) (fact_i 𝓤 Within (emp 𝓤) (subst IsSome same asked)) $ move ! (1 ∷ 0 ∷ []) $ use2 𝓛 (raw (K.pre x)) (id⊢ 𝓤 _) $
    calls_at ! (framed 𝓤 𝓛.H 𝓜 𝓣) K (value_met 𝓤 𝓛 𝓜 𝓡 (code.calls-gp_tree::tree::Members::find_mut 𝓡.env wired)) x
    (and_then ! (get ! refl) (and_then ! (get ! refl) (no_more !))) (λ u.
    use1 𝓛 (later (some (λ (s : MutBor Tree). ((‵ (flft κ q) ⊛ ‵ (flft κs.1.0 qs.1.0) ⊛ ‵ ftrue) ⊛ ‵ ((MutRef (named 0) κ tree.the_row).own_val s (u ∷ []))) ⊛
    some (λ (ws : Lasts h.ended κs b). ‵ (lasts h.ended κs b ws) ⊛ ‵ (follows entries.the_row tree.the_row r.ghost_name s.ghost_name (put_value r.now name))
    ⊛ raw (fact 𝓤 (value_of name (member_list (plain_members r.now)) ≡ Some (plain s.now))) ⊛ raw (fact 𝓤 (Puts (plain_members r.now) (put_value r.now name) name)))))) (id⊢ 𝓤 _) $
    await ! tt $ pick ! (λ s. split ! $ split ! $ move ! (2 ∷ []) $ pick ! (λ ws. split ! $ drop ! $ split ! $ move ! (1 ∷ []) $ split ! $
    heard ! (value_of name (member_list (plain_members r.now)) ≡ Some (plain s.now)) (λ value. heard ! (Puts (plain_members r.now) (put_value r.now name) name) (λ puts.
    move ! (2 ∷ []) $ fsplit3 ! $ feq_l ! (λ e. feq_i ! (List Val) (mut_vals s) (mut_vals s) refl $ fjoin3 ! $
    -- [the value; the members follow it; the tokens; the tree follows the members]
    lands_as ! (ap only e) refl (tt, tt) $
    returns ! (look_at ! 0 refl) $ free_all ! refl $ move ! (3 ∷ 1 ∷ []) $
    use2 𝓛 (‵ (follows tree.the_row tree.the_row self.ghost_name s.ghost_name (λ w. an_object (put_value r.now name w))))
    (follows_then 𝓛 tree.the_row entries.the_row tree.the_row an_object (put_value r.now name) self.ghost_name r.ghost_name s.ghost_name) $
    rewrite ! 0 (λ (put : Tree → Tree). ‵ (follows tree.the_row tree.the_row self.ghost_name s.ghost_name put)) (put_in_object self.now r.now name is) refl $
    keep ! (1 ∷ 2 ∷ 0 ∷ []) $
    suffices ! _ (ends_at 𝓛 f.ended stayed c y _ s (tt, (tt, tt)) (tt, (tt, tt))) $
    nothing ! $ nothing ! $ fjoin ! $ nothing ! $ fjoin ! $ join ! $ move ! (1 ∷ 0 ∷ []) $ join ! $ frame ! $ frame ! $
    says ! (puts_in_object self.now r.now name is puts) $
    use0 𝓛 (raw (fact 𝓤 (find_member name (plain self.now) ≡ Some (plain s.now)))) (fact_i 𝓤 (find_member name (plain self.now) ≡ Some (plain s.now)) (emp 𝓤) (same ∙ value)) $ done !))))))))))))))
