-- The item is lent, and of it the member's value, for a lifetime that ends with the call. What is left of the value then says what the tree is.
use Rattle.std.proofs.Common.{◌≡◌, ℕ, Bool, false, List, [], ◌∷◌, Some, IsSome, is_some, option_and_then, refl, sym, ap, subst, ◌∙◌, w64, MutBor}
use Rattle.std.proofs.raw_atomic.Walks.{proved}
use base.Fraction.{full_share}
use base.Logic.{id⊢, emp}
use base.Fml.{ftrue, flft, fres}
use mir.Syntax.{named}
use mir.Val.{Val, vbool}
use contract.Lifetimes.{Lfts}
use contract.Monad.{fact, fact_i}
use contract.Running.{tables}
use types.Kit.{‵, raw, ◌⊛◌, some, later, ◌$◌, ◌∵◌, !, qed, done, move, keep, drop, use0, use1, use2, use3, split, join, fsplit, fsplit3, fjoin, fjoin3, feq_i, feq_l, pick, await, suffices, frame}
use types.Run.{enter, addr, stop, no_more, and_then, returns}
use types.ByLocal.{alloc_all, pass_all, free_all, look_at, get, through, sets, lands_as}
use types.Tokens.{lft_new, lft_end}
use denote.Builtin.{usize, bool}
use denote.Exit.{yes}
use denote.Follow.{follows, follows_then, followed}
use denote.Lend.{lends_again, comes_back, LentAgain}
use denote.Plain.{uint_Makes, uint_vals, uint_Tells}
use denote.Ref.{MutRef, NamedLft, mut_vals, mut_Tells}
use denote.Signature.{plain as plainly}
use denote.Slice.{shr_slice_vals}
use denote.Steps.{nothing, owned, heard, only}
use denote.Text.{Str, StrRefOf, str-laws}
use denote.Triple.Call.{calls_at}
use denote.Triple.Clauses.{lasts, Lasts}
use denote.Triple.Entry.{Args}
use denote.Triple.Spec.{triple_of}
use denote.Triple.Table.{framed}
use denote.Triple.Walked.{Stays, walk_of, says, stay_ref, stay_dropped, Goes-ref, Goes-dropped, ends_at}
use Rattle.gp_tree.specs.declared.tree.Tree.{Tree}
use Rattle.gp_tree.specs.Plain.{plain}
use Rattle.gp_tree.specs.Look.{item}
use Rattle.gp_tree.specs.Find.{find_member}
use Rattle.gp_tree.specs.TreeEdits.{at_item, at_member, without}
use Rattle.gp_tree.specs.Lending.{put_item_in_tree, put_value_in_tree}
use Rattle.gp_tree.specs.contracts.tree.Tree as tree
use Rattle.gp_tree.specs.contracts.tree.Tree.remove_in_value_of as f
use Rattle.gp_tree.specs.contracts.tree.Tree.item_mut as g
use Rattle.gp_tree.specs.contracts.tree.Tree.find_mut as h
use Rattle.gp_tree.specs.contracts.tree.Tree.remove as k
use Rattle.gp_tree.proofs.InTree.{some_before, item_changed, member_changed}
use Rattle.gp_tree.proofs.tree.Tree.item_mut.Met.{met as item_met}
use Rattle.gp_tree.proofs.tree.Tree.find_mut.Met.{met as value_met}
use Rattle.gp_tree.proofs.tree.Tree.remove.Met.{met as remove_met}
use Rattle.gp_tree.proofs.tree.Tree.remove_in_value_of.Statement.{statement}
use Rattle.gp_tree.proofs.tree.Tree.remove_in_value_of.Code as code

abbrev stayed : Stays f.ended.signature.params f.ended.kept
stayed = (stay_ref (0 ∷ []) tt (plainly (λ _. tree.the_row)), (stay_dropped (plainly (λ _. usize)) yes, (stay_dropped (StrRefOf (1 ∷ []) tt) yes, (stay_dropped (StrRefOf (2 ∷ []) tt) yes, tt))))

abbrev ItemPuts : Tree → ℕ → Type 0
ItemPuts t at = (w : Tree) → plain (put_item_in_tree t at w) ≡ at_item at (λ _. plain w) (plain t)

abbrev ValuePuts : Tree → List ℕ → Type 0
ValuePuts t name = (w : Tree) → plain (put_value_in_tree t name w) ≡ at_member name (λ _. plain w) (plain t)

pub remove_in_value_of_spec : {M : Type 1} → statement M
remove_in_value_of_spec 𝓤 𝓛 𝓜 𝓡 wired =
    let c = f.clauses 𝓛 𝓜.mem 𝓡.returns in let W = walk_of 𝓛 f.ended stayed c in let 𝓣 = tables 𝓤 𝓛.H 𝓜 𝓡 𝓡.env in
    proved 𝓛 f.ended stayed c 𝓜 𝓡
    (Goes-ref 𝓛 3 0 tt (plainly (λ _. tree.the_row)), (Goes-dropped 𝓛 3 (plainly (λ _. usize)) yes (λ κs x w. refl), (Goes-dropped 𝓛 3 (StrRefOf (1 ∷ []) tt) yes (λ κs x w. refl), (Goes-dropped 𝓛 3 (StrRefOf (2 ∷ []) tt) yes (λ κs x w. refl), tt))))
    f.Key.name code.function (code.unfolded 𝓤 𝓛.H 𝓜 𝓡 wired)
    (λ κs. (mut_vals, (uint_vals w64, (shr_slice_vals, (shr_slice_vals, tt)))))
    (λ κs. (mut_Tells (named 0) κs.0 tree.the_row, (uint_Tells w64, ((str-laws (record { mir = named 1; lft = κs.1.0 })).tells, ((str-laws (record { mir = named 2; lft = κs.1.1.0 })).tells, tt))))) (λ κs qs bounds a n are.
    let self = a.0 in let at = a.1.0 in let name = a.1.1.0 in let key = a.1.1.1.0 in let κ = κs.0 in let q = qs.0 in
    let one = κs.1.0 in let two = κs.1.1.0 in
    let name_text : NamedLft = record { mir = named 1; lft = one } in let key_text : NamedLft = record { mir = named 2; lft = two } in
    let y : W.Ghost = ((κs, qs, bounds, a, (mut_vals self, (uint_vals w64 at, (shr_slice_vals name, (shr_slice_vals key, tt))))), tt) in
    let Asked = IsSome (option_and_then (find_member name.now) (item (plain self.now) at)) in
    qed 𝓛 (((‵ (flft κ q) ⊛ ‵ (flft one qs.1.0) ⊛ ‵ (flft two qs.1.1.0) ⊛ ‵ ftrue) ⊛ ‵ ((MutRef (named 0) κ tree.the_row).own_val self (mut_vals self)) ⊛ ‵ (usize.own_val at (uint_vals w64 at))
    ⊛ ‵ ((Str (named 1) one).own_val name (shr_slice_vals name)) ⊛ ‵ ((Str (named 2) two).own_val key (shr_slice_vals key)) ⊛ ‵ ftrue) ∷ raw (fact 𝓤 Asked) ∷ []) ∵
    move ! (1 ∷ []) $ heard ! Asked (λ asked. split ! $ move ! (1 ∷ []) $ split ! $ move ! (1 ∷ []) $ split ! $ drop ! $ split ! $ move ! (1 ∷ []) $ split ! $
    move ! (4 ∷ []) $ split ! $ move ! (1 ∷ []) $ split ! $ move ! (1 ∷ []) $ split ! $ keep ! (7 ∷ 3 ∷ 6 ∷ 2 ∷ 4 ∷ 0 ∷ []) $
    enter ! _ _ _ _ _ $
    alloc_all ! (λ l. pass_all ! refl ((tt, tt), ((tt, record { fits = are.1.0.1 }), ((((str-laws name_text).lawful 𝓛).typed name (shr_slice_vals name) are.1.1.0).0, ((((str-laws key_text).lawful 𝓛).typed key (shr_slice_vals key) are.1.1.1.0).0, tt)))) $
    -- [self; its token; the name; its token; the key; its token]
    sets ! (addr ! (through ! refl (stop !))) refl (tt, tt) $
    lft_new ! tt (λ α. move ! (1 ∷ 2 ∷ []) $
    use2 𝓛 (later (some (λ (δ : ℕ). ‵ ((MutRef (named 0) (α ∷ []) tree.the_row).own_val (record self { ghost_name = δ }) (mut_vals self)) ⊛ ‵ (LentAgain tree.the_row κ (α ∷ []) q self.ghost_name self.ref_ptr.0 self.ref_ptr.1 δ self.now))))
    (lends_again 𝓛 tree.the_row (named 0) κ (α ∷ []) q self.ghost_name self.ref_ptr.0 self.ref_ptr.1 (named 0) self.now) $ await ! tt $ pick ! (λ δ. split ! $
    -- [the loan; what the lender keeps; the loan's token; the name; its token; the key; its token]
    let loan : MutBor Tree = record self { ghost_name = δ } in
    let G = triple_of 𝓛 g.signature (g.spec 𝓛 𝓜.mem 𝓡.returns) in
    let b : Args g.signature (α ∷ [], tt) = (loan, (at, tt)) in
    let z : G.Ghost = (((α ∷ [], tt), (full_share, tt), tt, b, (mut_vals loan, (uint_vals w64 at, tt))), tt) in
    let Within = IsSome (item (plain self.now) at) in
    nothing ! $ owned ! usize _ (uint_Makes 𝓛 w64) at _ (refl, are.1.0.1) $ join ! $ move ! (1 ∷ 0 ∷ []) $ join ! $ nothing ! $ move ! (3 ∷ 0 ∷ []) $ join ! $ join ! $
    use0 𝓛 (raw (fact 𝓤 Within)) (fact_i 𝓤 Within (emp 𝓤) (some_before (find_member name.now) (item (plain self.now) at) asked)) $ move ! (1 ∷ 0 ∷ []) $ use2 𝓛 (raw (G.pre z)) (id⊢ 𝓤 _) $
    calls_at ! (framed 𝓤 𝓛.H 𝓜 𝓣) G (item_met 𝓤 𝓛 𝓜 𝓡 (code.calls-gp_tree::tree::Tree::item_mut 𝓡.env wired)) z
    (and_then ! (get ! refl) (and_then ! (get ! refl) (no_more !))) (λ v.
    use1 𝓛 (later (some (λ (r : MutBor Tree). ((‵ (flft (α ∷ []) full_share) ⊛ ‵ ftrue) ⊛ ‵ ((MutRef (named 0) (α ∷ []) tree.the_row).own_val r (v ∷ []))) ⊛
    some (λ (ws : Lasts g.ended (α ∷ [], tt) b). ‵ (lasts g.ended (α ∷ [], tt) b ws) ⊛ ‵ (follows tree.the_row tree.the_row δ r.ghost_name (put_item_in_tree self.now at))
    ⊛ raw (fact 𝓤 (item (plain self.now) at ≡ Some (plain r.now))) ⊛ raw (fact 𝓤 (ItemPuts self.now at)))))) (id⊢ 𝓤 _) $
    await ! tt $ pick ! (λ r. split ! $ split ! $ split ! $ move ! (3 ∷ []) $ pick ! (λ ws. split ! $ drop ! $ split ! $ move ! (1 ∷ []) $ split ! $
    heard ! (item (plain self.now) at ≡ Some (plain r.now)) (λ there. heard ! (ItemPuts self.now at) (λ puts.
    move ! (3 ∷ []) $ fsplit3 ! $ feq_l ! (λ e. feq_i ! (List Val) (mut_vals r) (mut_vals r) refl $ fjoin3 ! $
    -- [the item; the loan follows it; the loan's token; true; what the lender keeps; the name; its token; the key; its token]
    lands_as ! (ap only e) refl (tt, tt) $
    let K = triple_of 𝓛 h.signature (h.spec 𝓛 𝓜.mem 𝓡.returns) in
    let κs' : Lfts 2 = (α ∷ [], (one, tt)) in
    let b' : Args h.signature κs' = (r, (name, tt)) in
    let x : K.Ghost = ((κs', (full_share, (qs.1.0, tt)), tt, b', (mut_vals r, (shr_slice_vals name, tt))), tt) in
    let Named = IsSome (find_member name.now (plain r.now)) in
    nothing ! $ move ! (6 ∷ 0 ∷ []) $ join ! $ move ! (1 ∷ 0 ∷ []) $ join ! $ nothing ! $ move ! (6 ∷ 0 ∷ []) $ join ! $ move ! (3 ∷ 0 ∷ []) $ join ! $ join ! $
    use0 𝓛 (raw (fact 𝓤 Named)) (fact_i 𝓤 Named (emp 𝓤) (subst (λ o. IsSome (option_and_then (find_member name.now) o)) there asked)) $ move ! (1 ∷ 0 ∷ []) $ use2 𝓛 (raw (K.pre x)) (id⊢ 𝓤 _) $
    calls_at ! (framed 𝓤 𝓛.H 𝓜 𝓣) K (value_met 𝓤 𝓛 𝓜 𝓡 (code.calls-gp_tree::tree::Tree::find_mut 𝓡.env wired)) x
    (and_then ! (get ! refl) (and_then ! (get ! refl) (no_more !))) (λ v'.
    use1 𝓛 (later (some (λ (s : MutBor Tree). ((‵ (flft (α ∷ []) full_share) ⊛ ‵ (flft one qs.1.0) ⊛ ‵ ftrue) ⊛ ‵ ((MutRef (named 0) (α ∷ []) tree.the_row).own_val s (v' ∷ []))) ⊛
    some (λ (ws : Lasts h.ended κs' b'). ‵ (lasts h.ended κs' b' ws) ⊛ ‵ (follows tree.the_row tree.the_row r.ghost_name s.ghost_name (put_value_in_tree r.now name.now))
    ⊛ raw (fact 𝓤 (find_member name.now (plain r.now) ≡ Some (plain s.now))) ⊛ raw (fact 𝓤 (ValuePuts r.now name.now)))))) (id⊢ 𝓤 _) $
    await ! tt $ pick ! (λ s. split ! $ split ! $ move ! (2 ∷ []) $ pick ! (λ ws. split ! $ drop ! $ split ! $ move ! (1 ∷ []) $ split ! $
    heard ! (find_member name.now (plain r.now) ≡ Some (plain s.now)) (λ value. heard ! (ValuePuts r.now name.now) (λ puts'.
    move ! (2 ∷ []) $ fsplit3 ! $ feq_l ! (λ e. feq_i ! (List Val) (mut_vals s) (mut_vals s) refl $ fjoin3 ! $
    -- [the value; the item follows it; the tokens; the loan follows the item; true; what the lender keeps; the key; its token]
    lands_as ! (ap only e) refl (tt, tt) $
    let L = triple_of 𝓛 k.signature (k.spec 𝓛 𝓜.mem 𝓡.returns) in
    let κs'' : Lfts 2 = (α ∷ [], (two, tt)) in
    let b'' : Args k.signature κs'' = (s, (key, tt)) in
    let u : L.Ghost = ((κs'', (full_share, (qs.1.1.0, tt)), tt, b'', (mut_vals s, (shr_slice_vals key, tt))), tt) in
    move ! (2 ∷ []) $ split ! $ nothing ! $ move ! (8 ∷ 0 ∷ []) $ join ! $ move ! (3 ∷ 0 ∷ []) $ join ! $ nothing ! $ move ! (8 ∷ 0 ∷ []) $ join ! $ move ! (2 ∷ 0 ∷ []) $ join ! $ join ! $
    nothing ! $ move ! (1 ∷ 0 ∷ []) $ use2 𝓛 (raw (L.pre u)) (id⊢ 𝓤 _) $
    calls_at ! (framed 𝓤 𝓛.H 𝓜 𝓣) L (remove_met 𝓤 𝓛 𝓜 𝓡 (code.calls-gp_tree::tree::Tree::remove 𝓡.env wired)) u
    (and_then ! (get ! refl) (and_then ! (get ! refl) (no_more !))) (λ v''.
    use1 𝓛 (later (some (λ (found : Bool). ((‵ (flft (α ∷ []) full_share) ⊛ ‵ (flft two qs.1.1.0) ⊛ ‵ ftrue) ⊛ ‵ (bool.own_val found (v'' ∷ []))) ⊛
    some (λ (ws : Lasts k.ended κs'' b''). ‵ (lasts k.ended κs'' b'' ws) ⊛ raw (fact 𝓤 (found ≡ is_some (find_member key.now (plain s.now)))) ⊛ raw (fact 𝓤 (plain ws.0 ≡ without key.now (plain s.now)))
    ⊛ raw (fact 𝓤 (found ≡ false → plain ws.0 ≡ plain s.now)))))) (id⊢ 𝓤 _) $
    await ! tt $ pick ! (λ found. split ! $ split ! $ split ! $ lft_end ! tt $ move ! (2 ∷ []) $ feq_l ! (λ e. lands_as ! (ap only e) refl (tt, tt) $
    -- [the loan is over; the key's token; what `remove` says; the name's token; the item follows the value; the loan follows the item; true; what the lender keeps]
    move ! (2 ∷ []) $ pick ! (λ ws. split ! $ move ! (1 ∷ []) $ split ! $ heard ! (found ≡ is_some (find_member key.now (plain s.now))) (λ answer.
    split ! $ heard ! (plain ws.0 ≡ without key.now (plain s.now)) (λ removed. drop ! $ fsplit ! $ fsplit ! $
    let last : Tree = put_item_in_tree self.now at (put_value_in_tree r.now name.now ws.0) in
    move ! (7 ∷ 6 ∷ []) $
    use2 𝓛 (‵ (follows tree.the_row tree.the_row δ s.ghost_name (λ w. put_item_in_tree self.now at (put_value_in_tree r.now name.now w))))
    (follows_then 𝓛 tree.the_row tree.the_row tree.the_row (put_item_in_tree self.now at) (put_value_in_tree r.now name.now) δ r.ghost_name s.ghost_name) $
    use2 𝓛 (‵ (fres δ (tree.the_row.coded.code last)))
    (followed 𝓛 tree.the_row tree.the_row (λ w. put_item_in_tree self.now at (put_value_in_tree r.now name.now w)) δ s.ghost_name ws.0) $
    move ! (3 ∷ 7 ∷ 0 ∷ []) $
    use3 𝓛 (later (‵ ((MutRef (named 0) κ tree.the_row).own_val (record self { now = last }) (mut_vals self)) ⊛ ‵ (flft κ q)))
    (comes_back 𝓛 tree.the_row (named 0) κ (α ∷ []) q self.ghost_name self.ref_ptr.0 self.ref_ptr.1 δ self.now last) $ await ! tt $ split ! $
    returns ! (look_at ! 0 refl) $ free_all ! refl $ keep ! (0 ∷ 1 ∷ 4 ∷ 5 ∷ []) $
    -- [self; its token; the key's token; the name's token]
    suffices ! _ (ends_at 𝓛 f.ended stayed c y _ found (last, (tt, (tt, (tt, tt)))) (tt, (tt, (tt, (tt, tt))))) $
    move ! (3 ∷ []) $ split ! $ move ! (0 ∷ 4 ∷ []) $ join ! $ move ! (3 ∷ 0 ∷ []) $ join ! $ move ! (1 ∷ []) $ drop ! $
    nothing ! $ nothing ! $ fjoin ! $ nothing ! $ fjoin ! $ nothing ! $ fjoin ! $ move ! (2 ∷ 0 ∷ []) $ fjoin ! $ feq_i ! (List Val) (vbool found ∷ []) _ refl $ move ! (1 ∷ 0 ∷ []) $ join ! $
    move ! (1 ∷ 0 ∷ []) $ join ! $ frame ! $
    let inner : plain (put_value_in_tree r.now name.now ws.0) ≡ at_member name.now (without key.now) (plain r.now)
    = puts' ws.0 ∙ member_changed (plain r.now) name.now (plain s.now) (plain ws.0) (without key.now) value removed in
    let Found = found ≡ is_some (option_and_then (find_member key.now) (option_and_then (find_member name.now) (item (plain self.now) at))) in
    says ! (puts (put_value_in_tree r.now name.now ws.0) ∙ item_changed (plain self.now) at (plain r.now) (plain (put_value_in_tree r.now name.now ws.0)) (at_member name.now (without key.now)) there inner) $
    use0 𝓛 (raw (fact 𝓤 Found)) (fact_i 𝓤 Found (emp 𝓤)
    (answer ∙ sym (ap (λ o. is_some (option_and_then (find_member key.now) (option_and_then (find_member name.now) o))) there ∙ ap (λ o. is_some (option_and_then (find_member key.now) o)) value))) $ done !)))))))))))))))))))))))
