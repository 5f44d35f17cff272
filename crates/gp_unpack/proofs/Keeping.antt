-- What unpacking writes stands for an asset with the same contents.
use Rattle.std.proofs.Common.{◌≡◌, ◌≢◌, ℕ, suc, ◌<◌, ◌^◌, List, [], ◌∷◌, ◌++◌, map, length, replicate, Option, Some, None, option_map, Result, Ok, Err, refl, sym, ap, ◌∙◌, subst, arith}
use Rattle.std.proofs.lemmas.List.{length-map}
use Rattle.gp_tree.specs.Plain.{PlainTree}
use Rattle.gp_tree.specs.Sound.{IsSound}
use Rattle.gp_json.specs.Text.{text_of}
use Rattle.gp_glb.specs.Bytes.{padded, missing}
use Rattle.gp_glb.proofs.ReadingBack.{has_length}
use Rattle.gp_fields.specs.Fields.{ViewFields}
use Rattle.gp_fields.specs.Record.{AssetFields, asset_fields}
use Rattle.gp_fields.specs.declared.fault.FieldFault.{FieldFault}
use Rattle.gp_asset.specs.declared.purpose.Form.TheVariants.{Any}
use Rattle.gp_rules.specs.declared.storage.View.{View}
use Rattle.gp_asset.specs.Extensions.{extensions_in_use, supported}
use Rattle.gp_asset.specs.Asset.{AssetParts, asset}
use Rattle.gp_layout.specs.Layout.{starts, end, laid}
use Rattle.gp_layout.proofs.Bounds.{starts_below}
use Rattle.gp_layout.proofs.Parts.{length_laid, length_starts}
use Rattle.gp_edits.proofs.PlainBack.{one_again, none_again}
use Rattle.gp_document.specs.Document.{Document, glb_of}
use Rattle.gp_document.specs.Accepted.{IsAccepted, asset_of}
use Rattle.gp_document.specs.Operation.{Made, Hindrance}
use Rattle.gp_document.specs.Answers.{IsMade}
use Rattle.gp_document.specs.declared.output.Output.{Output}
use Rattle.gp_document.proofs.Written.{holds_written}
use Rattle.gp_unpack.specs.Contents.{FaultyView, all_contents}
use Rattle.gp_layout.specs.Row.{laid_buffer}
use Rattle.gp_unpack.specs.Unpacked.{unpacked_tree, unpacked, former_streams, made_of, made_with, unpacked_or, unpacking}
use Rattle.gp_unpack.specs.Kept.{KeepsViews}
use Rattle.gp_unpack.specs.Laws.{UnpackedKeepsViews}
use Rattle.gp_unpack.specs.PlainFields.{laid_fields, viewless_fields}
use Rattle.gp_unpack.proofs.Reordered.{none_as, some_as}
use Rattle.gp_unpack.proofs.CommonTree.{common_kept}
use Rattle.gp_unpack.proofs.SoundTree.{unpacked_sound, unpacked_uses_no_more}
use Rattle.gp_unpack.proofs.Drawn.{asset_holds, rules_hold}
use Rattle.gp_unpack.proofs.Whole.{contents_are_whole}
use Rattle.gp_unpack.proofs.Again.{sizes, lengths_kept}
use Rattle.gp_unpack.proofs.KeptParts.{KeepsParts, laid_keeps, viewless_keeps}
use Rattle.gp_unpack.proofs.Plain.{contents_laid_plain, viewless_stays_so}

-- ---- what was made

record IsUnpacked (d : Document) (a : AssetParts) (m : Made) : Type 0 where
  pub contents : List (List ℕ)
  pub read : all_contents a ≡ Ok contents
  pub document : m.document ≡ unpacked contents d

made_so : (d : Document) (a : AssetParts) (m : Made) (r : Result (List (List ℕ)) FaultyView) → all_contents a ≡ r → made_with d a r ≡ Ok m → IsUnpacked d a m
made_so d a m (Ok contents) is e =
    let whole : ◌≡◌ {A = Result Made Hindrance} (Ok (made_of contents d (length a.views) (former_streams a))) (Ok m) = e in
    let own : made_of contents d (length a.views) (former_streams a) ≡ m = cc in
    record { contents = contents; read = is; document = sym (ap (λ (n : Made). n.document) own) }
made_so d a m (Err faulty) is e = absurd (cc)

is_unpacked : (d : Document) (a : AssetParts) (m : Made) → unpacked_or d a ≡ Ok m → IsUnpacked d a m
unfolding unpacked_or
is_unpacked d a m e = made_so d a m (all_contents a) refl e

-- ---- how long it is

bin_fits : (d : Document) (contents : List (List ℕ)) (m : ℕ) → length (glb_of (unpacked contents d)) < m → 0 < m → end (map length contents) < m
unfolding glb_of unpacked laid_buffer
bin_fits d [] m h some = some
bin_fits d (bytes ∷ contents) m h some =
    let t = unpacked_tree (bytes ∷ contents) d.tree in
    omega (arith, h, has_length (text_of t) (Some (laid (bytes ∷ contents))) d.rest, length_laid (bytes ∷ contents))

-- ---- the asset that it stands for

-- an asset with these contents, of a tree and a BIN chunk, with all the parts of another one that unpacking keeps
record Reads (a : AssetParts) (t : PlainTree) (bin : Option (List ℕ)) (contents : List (List ℕ)) : Type 0 where
  pub parts : AssetParts
  pub is : asset Any t bin ≡ Ok parts
  pub read : all_contents parts ≡ Ok contents
  pub kept : KeepsParts a parts

-- the views have the lengths that their fields say
said_lengths : (t : PlainTree) (bin : Option (List ℕ)) (a : AssetParts) (f : AssetFields) → asset Any t bin ≡ Ok a → asset_fields t ≡ Ok f
    → sizes f.views ≡ map (λ (v : View). v.length) a.views
said_lengths t bin a f e has =
    asset_holds Any t bin a e (λ fields used r h all.
    let found : ◌≡◌ {A = Result AssetFields FieldFault} (Ok fields) (Ok f) = sym h.has_fields ∙ has in
    let own : fields ≡ f = cc in
    let rules = rules_hold fields.buffers fields.views fields.accessors bin r h.by_rule in
    ap (λ (g : AssetFields). sizes g.views) (sym own) ∙ lengths_kept 0 fields.buffers fields.views r.views rules.all_views ∙ ap (λ (b : AssetParts). map (λ (v : View). v.length) b.views) all)

-- as many contents as fields of views
counted : (t : PlainTree) (bin : Option (List ℕ)) (a : AssetParts) (f : AssetFields) (contents : List (List ℕ)) → asset Any t bin ≡ Ok a → all_contents a ≡ Ok contents
    → asset_fields t ≡ Ok f → length contents ≡ length f.views
counted t bin a f contents e is has =
    sym (length-map contents length) ∙ ap length (contents_are_whole Any t bin a contents e is) ∙ sym (ap length (said_lengths t bin a f e has)) ∙ length-map f.views (λ (v : ViewFields). v.length)

starts_counted : (contents : List (List ℕ)) (f : AssetFields) → length contents ≡ length f.views → length (starts (map length contents)) ≡ length f.views
starts_counted contents f count = length_starts (map length contents) ∙ length-map contents length ∙ count

none_of : {A : Type 0} (xs : List A) → length xs ≡ 0 → xs ≡ []
none_of [] e = refl
none_of (x ∷ xs) e = absurd (omega (arith, e))

some_of : {A : Type 0} (xs : List A) (n : ℕ) → length xs ≡ suc n → xs ≢ []
some_of xs n e none = omega (arith, e, ap length none)

uses : (t : PlainTree) (bin : Option (List ℕ)) (a : AssetParts) (contents : List (List ℕ)) → IsSound t → asset Any t bin ≡ Ok a
    → supported Any (extensions_in_use (unpacked_tree contents t)) ≡ Ok (extensions_in_use (unpacked_tree contents t))
uses t bin a contents sound e = asset_holds Any t bin a e (λ fields used r h all. (unpacked_uses_no_more contents t sound.distinct).supported used h.supports)

no_views : (a : AssetParts) → [] ≡ map (λ (v : View). v.length) a.views → a.views ≡ []
no_views a e = none_of a.views (sym (length-map a.views (λ (v : View). v.length)) ∙ sym (ap length e))

-- without a view
reads_none : (t : PlainTree) (bin : Option (List ℕ)) (a : AssetParts) → IsSound t → asset Any t bin ≡ Ok a → all_contents a ≡ Ok [] → Reads a (unpacked_tree [] t) None []
reads_none t bin a sound e is =
    let law = viewless_stays_so t bin a [] e is in
    let f = law.0 in
    let count = counted t bin a f [] e is law.1 in
    let none = none_of f.views (sym count) in
    let u = unpacked_tree [] t in
    let g = ap asset_fields (none_as t) ∙ none_again [] t f sound.distinct law.1 none count in
    let b = law.2 u (viewless_fields f) (extensions_in_use u) none g refl (uses t bin a [] sound e) in
    record { parts = b.0; is = b.1; read = b.2; kept = subst (KeepsParts a) (sym b.3) (viewless_keeps (extensions_in_use u) a (no_views a (contents_are_whole Any t bin a [] e is))) }

-- with views
reads_some : (t : PlainTree) (bin : Option (List ℕ)) (a : AssetParts) (bytes : List ℕ) (others : List (List ℕ)) (more : List ℕ) → IsSound t → asset Any t bin ≡ Ok a
    → all_contents a ≡ Ok (bytes ∷ others) → end (map length (bytes ∷ others)) < 2 ^ 32
    → Reads a (unpacked_tree (bytes ∷ others) t) (Some (laid (bytes ∷ others) ++ more)) (bytes ∷ others)
reads_some t bin a bytes others more sound e is fits =
    let contents = bytes ∷ others in
    let law = contents_laid_plain t bin a contents e is in
    let f = law.0 in
    let count = counted t bin a f contents e is law.1 in
    let u = unpacked_tree contents t in
    let g = ap asset_fields (some_as bytes others t) ∙ one_again (end (map length contents)) (starts (map length contents)) t f sound.distinct law.1 fits (starts_counted contents f count) (starts_below (2 ^ 32) 0 (map length contents) fits) in
    let b = law.2 u (laid_fields contents f) (extensions_in_use u) more (some_of f.views (length others) (sym count)) g refl (uses t bin a contents sound e) in
    record { parts = b.0; is = b.1; read = b.2; kept = subst (KeepsParts a) (sym b.3) (laid_keeps contents more (extensions_in_use u) a (contents_are_whole Any t bin a contents e is)) }

reads_again : (t : PlainTree) (bin : Option (List ℕ)) (a : AssetParts) (contents : List (List ℕ)) → IsSound t → asset Any t bin ≡ Ok a → all_contents a ≡ Ok contents
    → end (map length contents) < 2 ^ 32 → Reads a (unpacked_tree contents t) (option_map (padded 0) (laid_buffer contents)) contents
unfolding laid_buffer padded
reads_again t bin a [] sound e is fits = reads_none t bin a sound e is
reads_again t bin a (bytes ∷ others) sound e is fits = reads_some t bin a bytes others (replicate (missing (length (laid (bytes ∷ others)))) 0) sound e is fits

-- ---- the law

-- all views are kept, and so are the parts of the asset
abbrev pub KeepsAsset : List ℕ → List ℕ → Type 0
KeepsAsset before after = (kept : KeepsViews before after) × KeepsParts kept.input.asset kept.output.asset

keeps : (bytes : List ℕ) (accepted : IsAccepted Any bytes) (contents : List (List ℕ)) → all_contents accepted.asset ≡ Ok contents
    → length (glb_of (unpacked contents accepted.document)) < 2 ^ 32 → KeepsAsset bytes (glb_of (unpacked contents accepted.document))
unfolding unpacked asset_of
keeps bytes accepted contents is fits =
    let d = accepted.document in
    let holds = accepted.is_document.holds in
    let n = bin_fits d contents (2 ^ 32) fits (omega arith) in
    let sound = unpacked_sound contents d.tree (omega (arith, n)) holds.sound in
    let again = reads_again d.tree d.bin accepted.asset contents holds.sound accepted.is_asset is n in
    let kept : KeepsViews bytes (glb_of (unpacked contents d)) =
    record {
      input = accepted;
      output = record {
        document = record { tree = unpacked_tree contents d.tree; bin = option_map (padded 0) (laid_buffer contents); rest = d.rest };
        asset = again.parts;
        holds = holds_written bytes d (unpacked_tree contents d.tree) (laid_buffer contents) holds sound fits;
        is_asset = again.is;
      };
      contents = contents;
      read = is;
      written = again.read;
      rest = refl;
      trees = common_kept contents d.tree holds.sound;
    }
    in (kept, again.kept)

pub unpacked_keeps_asset : (bytes : List ℕ) (out : Output) → IsMade unpacking bytes out → KeepsAsset bytes out.glb
unpacked_keeps_asset bytes out h =
    let made = is_unpacked h.accepted.document h.accepted.asset h.made h.is_made in
    let same : glb_of h.made.document ≡ glb_of (unpacked made.contents h.accepted.document) = ap glb_of made.document in
    subst (KeepsAsset bytes) (sym (h.output.glb ∙ same)) (keeps bytes h.accepted made.contents made.read (subst (λ bs. length bs < 2 ^ 32) same h.output.fits))

pub unpacked_keeps_views : UnpackedKeepsViews
unpacked_keeps_views bytes out h = (unpacked_keeps_asset bytes out h).0
