-- From what is decoded, laid and edited to what is written.
use Rattle.std.proofs.Common.{◌≡◌, ◌≢◌, ℕ, ◌<◌, Bool, true, false, List, [], ◌∷◌, map, length, Option, Some, None, Result, Ok, Err, IsSome, refl, sym, ap, ◌∙◌, subst, arith}
use Rattle.std.specs.List.{All, slice_get}
use Rattle.std.specs.Option.{option_map, IfSome}
use Rattle.std.specs.Result.{OnOk}
use Rattle.std.proofs.lemmas.List.{length-map}
use Rattle.std.proofs.lemmas.List.Elements.{All-nil, All-cons}
use Rattle.std.proofs.lemmas.Option.{slice_get-map}
use Rattle.gp_host.specs.declared.no_memory.NoMemory.{NoMemory}
use Rattle.gp_tree.specs.Plain.{PlainTree}
use Rattle.gp_asset.specs.Asset.{AssetParts}
use Rattle.gp_asset.specs.declared.refusal.Refusal.{Refusal}
use Rattle.gp_asset.specs.declared.refusal.Refusal.TheVariants.{Glb, Json, Asset, Stream, OutputTooLarge, Memory}
use Rattle.gp_layout.specs.Layout.{starts, laid}
use Rattle.gp_layout.specs.Row.{laid_buffer, buffer_length, HasEach, held as held_in}
use Rattle.gp_layout.proofs.Parts.{length_laid, length_starts}
use Rattle.gp_edits.specs.Edits.{plain_view, placed, without_compression}
use Rattle.gp_document.proofs.Finishing.{writes_equal}
use Rattle.gp_document.specs.Document.{Document}
use Rattle.gp_document.specs.Writing.{made_of as made_from, Writes, Finishes}
use Rattle.gp_document.specs.declared.output.Output.{Output}
use Rattle.gp_unpack.specs.Contents.{FaultyView, all_contents, held, Answers}
use Rattle.gp_unpack.specs.Unpacked.{unpacked_tree, unpacked, former_streams, made_of, made_with, unpacked_or}

-- ---- the tree

-- each view has a start
pub has_start : (contents : List (List ℕ)) (at : ℕ) → at < length (map plain_view (starts (map length contents))) → at < length contents
has_start contents at below =
    let all = length-map (starts (map length contents)) plain_view ∙ length_starts (map length contents) ∙ length-map contents length in
    omega (arith, below, all)

-- and the change of a view is the one of that start
pub edited_view : (contents : List (List ℕ)) (at start : ℕ) (t u w : PlainTree) (answer : Result (Unit {0}) NoMemory) → slice_get (starts (map length contents)) at ≡ Some start
    → u ≡ without_compression t → OnOk answer (w ≡ placed 0 start u) → OnOk answer (IfSome (slice_get (map plain_view (starts (map length contents))) at) (λ change. w ≡ change t))
edited_view contents at start t u w (Err e) begins first second = tt
edited_view contents at start t u w (Ok o) begins first second =
    let change = slice_get-map plain_view (starts (map length contents)) at ∙ ap (option_map plain_view) begins in
    rw change (second ∙ ap (placed 0 start) first)

-- ---- the buffer

pub no_length : (contents : List (List ℕ)) (n : ℕ) → n ≡ length contents → n ≡ 0 → None ≡ buffer_length contents
unfolding buffer_length
no_length [] n count none = refl
no_length (bytes ∷ contents) n count none = absurd (omega (arith, count, none))

pub some_length : (contents : List (List ℕ)) (n : ℕ) (bytes : List ℕ) → n ≡ length contents → n ≢ 0 → bytes ≡ laid contents → Some (length bytes) ≡ buffer_length contents
unfolding buffer_length
some_length [] n bytes count some is = absurd (some count)
some_length (first ∷ contents) n bytes count some is = ap Some (ap length is ∙ length_laid (first ∷ contents))

pub no_bin : (contents : List (List ℕ)) (n : ℕ) → n ≡ length contents → n ≡ 0 → None ≡ laid_buffer contents
unfolding laid_buffer
no_bin [] n count none = refl
no_bin (bytes ∷ contents) n count none = absurd (omega (arith, count, none))

pub some_bin : (contents : List (List ℕ)) (n : ℕ) (bytes : List ℕ) → n ≡ length contents → n ≢ 0 → bytes ≡ laid contents → Some bytes ≡ laid_buffer contents
unfolding laid_buffer
some_bin [] n bytes count some is = absurd (some count)
some_bin (first ∷ contents) n bytes count some is = ap Some is

-- ---- contents as views

all_some : (contents : List (List ℕ)) → All IsSome (held contents)
all_some [] = All-nil IsSome
all_some (bytes ∷ contents) = All-cons IsSome (Some bytes) (held contents) refl (all_some contents)

pub has_each : (contents : List (List ℕ)) (n : ℕ) → n ≡ length contents → HasEach (held contents) n
has_each contents n is = record { count = length-map contents Some ∙ sym is; each = all_some contents }

pub held_again : (contents : List (List ℕ)) → held_in (held contents) ≡ contents
held_again [] = refl
held_again (bytes ∷ contents) = ap (λ l. bytes ∷ l) (held_again contents)

-- ---- what is written

pub written : (contents : List (List ℕ)) (d : Document) (views streams : ℕ) (tree : PlainTree) (bin : Option (List ℕ)) (answer : Result Output Refusal)
    → tree ≡ unpacked_tree contents d.tree → bin ≡ laid_buffer contents → Writes (made_from tree bin d.rest views streams) answer → Writes (made_of contents d views streams) answer
unfolding unpacked
written contents d views streams tree bin answer is holds writes =
    writes_equal d.rest tree (unpacked_tree contents d.tree) bin (laid_buffer contents) views views streams streams answer is holds refl refl writes

-- ---- what is answered

pub made : (d : Document) (a : AssetParts) (contents : List (List ℕ)) (views streams : ℕ) (answer : Result Output Refusal)
    → all_contents a ≡ Ok contents → views ≡ length a.views → streams ≡ former_streams a → Writes (made_of contents d views streams) answer → Finishes (unpacked_or d a) answer
unfolding unpacked_or
made d a contents views streams answer is counted former writes =
    subst (λ r. Finishes (made_with d a r) answer) (sym is)
    (subst (λ n. Writes (made_of contents d n (former_streams a)) answer) counted (subst (λ n. Writes (made_of contents d views n) answer) former writes))

faulty_by : (d : Document) (a : AssetParts) (r : Result (List (List ℕ)) FaultyView) (refusal : Refusal) → Answers r (Err refusal) → Finishes (made_with d a r) (Err refusal)
faulty_by d a r (Glb fault) h = absurd h
faulty_by d a r (Json fault) h = absurd h
faulty_by d a r (Asset fault) h = absurd h
faulty_by d a r OutputTooLarge h = absurd h
faulty_by d a r (Stream view fault) h = subst (λ r. Finishes (made_with d a r) (Err (Stream view fault))) (sym h) (refl, refl)
faulty_by d a (Ok contents) Memory h = tt
faulty_by d a (Err faulty) Memory h = tt

pub faulty : (d : Document) (a : AssetParts) (refusal : Refusal) → Answers (all_contents a) (Err refusal) → Finishes (unpacked_or d a) (Err refusal)
unfolding unpacked_or
faulty d a refusal h = faulty_by d a (all_contents a) refusal h
