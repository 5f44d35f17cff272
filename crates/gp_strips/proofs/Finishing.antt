-- From the lists that are made to what is written and answered.
use Rattle.std.specs.Prelude.{option_map, option_and_then}
use Rattle.std.proofs.Common.{◌≡◌, inl, inr, ◌⊎◌, ℕ, ◌+◌, ◌≤◌, List, [], ◌∷◌, length, map, take, Option, Some, None, Result, Ok, Err, refl, sym, ap, ◌∙◌, subst, arith}
use Rattle.std.proofs.lemmas.List.{length-map, take_all}
use Rattle.std.proofs.lemmas.Option.{slice_get_past}
use Rattle.gp_tree.specs.Plain.{PlainTree}
use Rattle.gp_asset.specs.declared.refusal.Refusal.{Refusal}
use Rattle.gp_asset.specs.declared.refusal.Refusal.TheVariants.{Glb, Json, Asset, Stream, OutputTooLarge, Memory}
use Rattle.gp_asset.specs.Asset.{AssetParts}
use Rattle.gp_layout.specs.Layout.{end, laid}
use Rattle.gp_layout.specs.Row.{laid_buffer, buffer_length}
use Rattle.gp_layout.proofs.Parts.{length_laid}
use Rattle.gp_edits.specs.Edits.{with_buffers_of}
use Rattle.gp_moves.specs.MadeTrees.{list_at, list_tree}
use Rattle.gp_document.specs.Document.{Document}
use Rattle.gp_document.specs.Answers.{AnswersOrMemory, IsOnlyAnswer}
use Rattle.gp_document.specs.Writing.{made_of as made_from, Writes, Finishes}
use Rattle.gp_document.specs.declared.output.Output.{Output}
use Rattle.gp_document.proofs.Finishing.{writes_equal}
use Rattle.gp_unpack.specs.Contents.{FaultyView, all_contents, Answers}
use Rattle.gp_unpack.specs.Unpacked.{unpacked_views}
use Rattle.gp_strips.specs.declared.files.ListsOut.{ListsOut}
use Rattle.gp_strips.specs.declared.making.ListRow.{ListRow}
use Rattle.gp_strips.specs.declared.making.MadeLists.{MadeLists}
use Rattle.gp_strips.specs.declared.mesh_tables.MeshRow.{MeshRow}
use Rattle.gp_strips.specs.Listed.{triangles_of}
use Rattle.gp_strips.specs.ListedTree.{with_accessors, with_primitives, view_tree, with_views}
use Rattle.gp_strips.specs.ListedDocument.{all_lists, made_lists, output_contents, list_views, list_accessors, accessor_number, accessor_of, listed_tree, listed, made_of, made_with, listed_or, listing}
use Rattle.gp_strips.specs.Answers.{told, ListsOrMemory, IsOnlyListing}
use Rattle.gp_strips.specs.MeshRows.{rows, all_rows, AreInOrder}
use Rattle.gp_strips.specs.Making.{RowParts, parts_of, row_of, IsBegun, AreMade}
use Rattle.gp_strips.proofs.MeshRows.{all_laid, read_at}
use Rattle.gp_strips.proofs.ListRows.{length_views}

-- ---- all lists are made

none_past : (a : AssetParts) (contents : List (List ℕ)) → accessor_number (length a.accessors) (all_lists a contents) (length a.primitives) ≡ None
none_past a contents =
    let n = length a.primitives in
    let long : length (all_lists a contents) ≤ n = omega (arith, length-map a.primitives (triangles_of a contents)) in
    ap (λ o. option_map (λ corners. length a.accessors + length (made_lists (take n (all_lists a contents)))) (option_and_then (λ l. l) o)) (slice_get_past (all_lists a contents) n long)

pub all_made : (a : AssetParts) (contents : List (List ℕ)) (before k : ℕ) (row : ListRow) (meshes : MeshRow) (m : MadeLists)
    → IsBegun a contents before row meshes k → length a.primitives ≤ k → AreInOrder 0 0 a.primitives → m.row ≡ row → m.meshes.items ≡ all_rows (rows meshes)
    → AreMade a contents before m
all_made a contents before k row meshes m begun past order same finished =
    let lists = all_lists a contents in
    let long : length lists ≤ k = omega (arith, past, length-map a.primitives (triangles_of a contents)) in
    let numbers = accessor_number (length a.accessors) lists in
    record {
      row = ap parts_of same ∙ begun.row ∙ ap (λ ls. row_of before (length a.views) (length a.accessors) (made_lists ls)) (take_all k lists long);
      meshes = λ mesh at.
          ap (λ l. list_at l mesh at) (finished ∙ all_laid numbers a.primitives k (rows meshes) _ begun.meshes past)
          ∙ read_at numbers a.primitives mesh at order (none_past a contents);
    }

-- ---- the tree

same_tables : (f g : ℕ → ℕ → Option ℕ) → ((mesh at : ℕ) → f mesh at ≡ g mesh at) → f ≡ g
same_tables f g same i mesh at = same mesh at i

pub tree_is : (a : AssetParts) (contents : List (List ℕ)) (before : ℕ) (m : MadeLists) (size : Option ℕ) (root edited whole : PlainTree) → AreMade a contents before m → before ≡ end (map length contents)
    → edited ≡ with_views (map view_tree m.row.views.items) (with_primitives (list_at m.meshes.items) (with_accessors (map list_tree m.row.accessors.items) (unpacked_views contents root)))
    → size ≡ buffer_length (output_contents contents (made_lists (all_lists a contents))) → whole ≡ with_buffers_of size None edited
    → whole ≡ listed_tree a contents root
unfolding listed_tree
tree_is a contents before m size root edited whole made from is sized set =
    let lists = all_lists a contents in
    let lengths = map length contents in
    let views : m.row.views.items ≡ list_views (end lengths) (made_lists lists) = ap (λ (p : RowParts). p.views) made.row ∙ ap (λ n. list_views n (made_lists lists)) from in
    let accessors : m.row.accessors.items ≡ list_accessors (length a.views) (made_lists lists) = ap (λ (p : RowParts). p.accessors) made.row in
    set
    ∙ ap (λ s. with_buffers_of s None edited) sized
    ∙ ap (with_buffers_of (buffer_length (output_contents contents (made_lists lists))) None)
    (is
    ∙ ap (λ vs. with_views (map view_tree vs) (with_primitives (list_at m.meshes.items) (with_accessors (map list_tree m.row.accessors.items) (unpacked_views contents root)))) views
    ∙ ap (λ f. with_views (map view_tree (list_views (end lengths) (made_lists lists))) (with_primitives f (with_accessors (map list_tree m.row.accessors.items) (unpacked_views contents root))))
    (same_tables (list_at m.meshes.items) (accessor_of a lists) made.meshes)
    ∙ ap (λ made_accessors. with_views (map view_tree (list_views (end lengths) (made_lists lists))) (with_primitives (accessor_of a lists) (with_accessors (map list_tree made_accessors) (unpacked_views contents root)))) accessors)

-- ---- counts

pub how_many : (a : AssetParts) (contents : List (List ℕ)) (before : ℕ) (m : MadeLists) (n : ℕ) → AreMade a contents before m → n ≡ length m.row.views.items → n ≡ length (made_lists (all_lists a contents))
how_many a contents before m n made is = is ∙ ap (λ (p : RowParts). length p.views) made.row ∙ length_views before (made_lists (all_lists a contents))

-- ---- the buffer

pub some_size : (contents : List (List ℕ)) (bytes : List ℕ) → Some bytes ≡ laid_buffer contents → Some (length bytes) ≡ buffer_length contents
unfolding laid_buffer buffer_length
some_size [] bytes is = absurd (cc)
some_size (first ∷ contents) bytes is = let same : bytes ≡ laid (first ∷ contents) = cc in ap (λ b. Some (length b)) same ∙ ap Some (length_laid (first ∷ contents))

pub no_size : (contents : List (List ℕ)) → ◌≡◌ {A = Option (List ℕ)} None (laid_buffer contents) → ◌≡◌ {A = Option ℕ} None (buffer_length contents)
unfolding laid_buffer buffer_length
no_size [] is = refl
no_size (first ∷ contents) is = absurd (cc)

-- ---- what is written

pub written : (a : AssetParts) (contents : List (List ℕ)) (d : Document) (views streams : ℕ) (tree : PlainTree) (bin : Option (List ℕ)) (answer : Result Output Refusal)
    → tree ≡ listed_tree a contents d.tree → bin ≡ laid_buffer (output_contents contents (made_lists (all_lists a contents)))
    → views ≡ length a.views + length (made_lists (all_lists a contents)) → streams ≡ length (made_lists (all_lists a contents))
    → Writes (made_from tree bin d.rest views streams) answer → Writes (made_of a contents d) answer
unfolding listed
written a contents d views streams tree bin answer is holds counted stored writes =
    let out = output_contents contents (made_lists (all_lists a contents)) in
    writes_equal d.rest tree (listed_tree a contents d.tree) bin (laid_buffer out) views (length a.views + length (made_lists (all_lists a contents))) streams (length (made_lists (all_lists a contents))) answer is holds counted stored writes

pub made : (d : Document) (a : AssetParts) (contents : List (List ℕ)) (answer : Result Output Refusal) → all_contents a ≡ Ok contents → Writes (made_of a contents d) answer → Finishes (listed_or d a) answer
unfolding listed_or
made d a contents answer is writes = subst (λ r. Finishes (made_with d a r) answer) (sym is) writes

faulty_by : (d : Document) (a : AssetParts) (r : Result (List (List ℕ)) FaultyView) (refusal : Refusal) → Answers r (Err refusal) → Finishes (made_with d a r) (Err refusal)
faulty_by d a r (Glb fault) h = absurd h
faulty_by d a r (Json fault) h = absurd h
faulty_by d a r (Asset fault) h = absurd h
faulty_by d a r OutputTooLarge h = absurd h
faulty_by d a r (Stream view fault) h = subst (λ r. Finishes (made_with d a r) (Err (Stream view fault))) (sym h) (refl, refl)
faulty_by d a (Ok contents) Memory h = tt
faulty_by d a (Err faulty) Memory h = tt

pub faulty : (d : Document) (a : AssetParts) (refusal : Refusal) → Answers (all_contents a) (Err refusal) → Finishes (listed_or d a) (Err refusal)
unfolding listed_or
faulty d a refusal h = faulty_by d a (all_contents a) refusal h

-- ---- what is answered

abbrev told_of : Result Output Refusal → Result ListsOut Refusal
told_of (Ok out) = Ok (told out)
told_of (Err refusal) = Err refusal

tells : (bytes : List ℕ) (answer : Result Output Refusal) → AnswersOrMemory listing bytes answer → ListsOrMemory bytes (told_of answer)
tells bytes (Ok out) (inl is) = inl (out, is, refl)
tells bytes (Err refusal) (inl has) = inl has
tells bytes (Ok out) (inr none) = absurd (cc)
tells bytes (Err refusal) (inr none) = inr (let same : refusal ≡ Memory = cc in ap Err same)

only : (bytes : List ℕ) (answer : Result Output Refusal) → IsOnlyAnswer listing bytes answer → IsOnlyListing bytes (told_of answer)
only bytes answer one (Ok out) is = by_one (one (Ok is.0) is.1)
  where
    by_one : (answer ≡ Ok is.0) ⊎ (answer ≡ Err Memory) → (told_of answer ≡ Ok out) ⊎ (told_of answer ≡ Err Memory)
    by_one (inl same) = inl (ap told_of same ∙ ap Ok (sym is.2))
    by_one (inr none) = inr (ap told_of none)
only bytes answer one (Err refusal) has = by_one (one (Err refusal) has)
  where
    by_one : (answer ≡ Err refusal) ⊎ (answer ≡ Err Memory) → (told_of answer ≡ Err refusal) ⊎ (told_of answer ≡ Err Memory)
    by_one (inl same) = inl (ap told_of same)
    by_one (inr none) = inr (ap told_of none)

pub out_tells : (bytes : List ℕ) (out : Output) → AnswersOrMemory listing bytes (Ok out) → ListsOrMemory bytes (Ok (told out))
out_tells bytes out h = tells bytes (Ok out) h

pub out_only : (bytes : List ℕ) (out : Output) → IsOnlyAnswer listing bytes (Ok out) → IsOnlyListing bytes (Ok (told out))
out_only bytes out h = only bytes (Ok out) h

pub refusal_tells : (bytes : List ℕ) (refusal : Refusal) → AnswersOrMemory listing bytes (Err refusal) → ListsOrMemory bytes (Err refusal)
refusal_tells bytes refusal h = tells bytes (Err refusal) h

pub refusal_only : (bytes : List ℕ) (refusal : Refusal) → IsOnlyAnswer listing bytes (Err refusal) → IsOnlyListing bytes (Err refusal)
refusal_only bytes refusal h = only bytes (Err refusal) h
