-- A container that is written holds what was written into it.
use Rattle.std.proofs.Common.{ℕ, ◌<◌, ◌^◌, List, ◌++◌, length, replicate, Option, ap, ◌∙◌, append_assoc, arith, refl, zero, suc, inl}
use Rattle.std.specs.Option.{option_map}
use Rattle.gp_tree.specs.Plain.{PlainTree}
use Rattle.gp_tree.specs.Sound.{IsSound}
use Rattle.gp_tree.specs.Lexical.{IsSpace, IsBlank}
use Rattle.gp_json.specs.Spelling.{Spells}
use Rattle.gp_json.specs.Text.{text_of}
use Rattle.gp_json.proofs.Compact.{compact_spells}
use Rattle.gp_json.proofs.Unique.{each_append}
use Rattle.gp_glb.specs.Bytes.{padded, missing}
use Rattle.gp_glb.proofs.ReadingBack.{has_length, rests_are_kept}
use Rattle.gp_document.specs.Document.{Document, Holds, glb_of}

spaces : (n : ℕ) → IsSpace (replicate n 32)
spaces zero = tt
spaces (suc n) = (inl refl, spaces n)

-- white space behind a text changes nothing
spaced_text : (text space : List ℕ) (t : PlainTree) → IsSpace space → Spells text t → Spells (text ++ space) t
spaced_text text space t blank (a, v, c, ha, hv, hc, e) =
    (a, v, c ++ space, ha, hv, each_append IsBlank c space hc blank, ap (λ s. s ++ space) e ∙ append_assoc (a ++ v) c space)

pub padded_spells : (text : List ℕ) (t : PlainTree) → Spells text t → Spells (padded 32 text) t
unfolding padded
padded_spells text t h = spaced_text text (replicate (missing (length text)) 32) t (spaces (missing (length text))) h

-- with the other chunks of bytes that hold a document, another sound tree and another BIN chunk are held where their container fits
pub holds_written : (bytes : List ℕ) (d : Document) (t : PlainTree) (bin : Option (List ℕ)) → Holds bytes d → IsSound t → length (glb_of (record { tree = t; bin = bin; rest = d.rest })) < 2 ^ 32
    → Holds (glb_of (record { tree = t; bin = bin; rest = d.rest })) (record { tree = t; bin = option_map (padded 0) bin; rest = d.rest })
unfolding glb_of
holds_written bytes d t bin h sound fits =
    let long = has_length (text_of t) bin d.rest in
    record {
      json = padded 32 (text_of t);
      container = rests_are_kept bytes (record { json = h.json; bin = d.bin; rest = d.rest }) (text_of t) bin h.container (omega (arith, long, fits));
      spelled = padded_spells (text_of t) t (compact_spells t sound.spelled);
      sound = sound;
    }
