use Rattle.std.specs.Prelude.{option_map}
use Rattle.std.proofs.Common.{List, ℕ, Option, Ok, Err, Vec, Global, Bor, map, subst}
use Rattle.gp_tree.specs.Plain.{PlainTree, plain}
use Rattle.gp_tree.specs.declared.lexeme.Lexeme.{Lexeme}
use Rattle.gp_fields.specs.Record.{◌>>=◌, AssetFields}
use Rattle.gp_asset.specs.declared.purpose.Form.{Form}
use Rattle.gp_rules.specs.Checks.{Checked, Answers}
use Rattle.gp_asset.specs.Extensions.{extensions_in_use, supported}
use Rattle.gp_asset.specs.Asset.{AssetParts, RuledParts, asset, by_rules, parts}
use Rattle.gp_asset.proofs.Steps.{found, failed}
use Rattle.gp_asset.proofs.reading.read_asset.Goals as goal

-- what is left after the extensions, and after the fields
abbrev rules_on : AssetFields → Option (List ℕ) → List (List ℕ) → Checked AssetParts
rules_on fields bin used = by_rules fields.buffers fields.views fields.accessors bin >>= λ ruled. Ok (parts fields used ruled)

abbrev extensions_on : Form → PlainTree → Option (List ℕ) → AssetFields → Checked AssetParts
extensions_on form t bin fields = supported form (extensions_in_use t) >>= λ used. rules_on fields bin used

pub returns-in-Err : goal.returns-in-Err
unfolding asset
returns-in-Err c = failed {S = AssetFields} _ (λ a. a) (λ fields. extensions_on c.args.form (plain c.args.tree.now) (option_map (λ b. b.now) c.args.bin) fields) (λ a. a) c.in-Err.refusal c.in-Err.ensures

pub returns-in-Err-supported_extensions : goal.returns-in-Err-supported_extensions
unfolding asset
returns-in-Err-supported_extensions c =
    let bin = option_map (λ b. b.now) c.args.bin in
    let e = c.in-Err-supported_extensions.refusal in
    found (λ fields. extensions_on c.args.form (plain c.args.tree.now) bin fields) (λ a. a) (Err e) c.in-Ok.ensures
    (failed {S = Vec (Bor Lexeme) Global} _ (λ v. map (λ s. s.now) v.items) (λ used. rules_on c.in-Ok.fields bin used) (λ a. a) e c.in-Err-supported_extensions.ensures)

pub returns-in-Err-fields_by_rules : goal.returns-in-Err-fields_by_rules
unfolding asset
returns-in-Err-fields_by_rules c =
    let bin = option_map (λ b. b.now) c.args.bin in
    let e = c.in-Err-fields_by_rules.refusal in
    let fields = c.in-Ok.fields in
    let used = map (λ s. s.now) c.in-Ok-supported_extensions.names.items in
    found (λ fields. extensions_on c.args.form (plain c.args.tree.now) bin fields) (λ a. a) (Err e) c.in-Ok.ensures
    (found (λ used. rules_on fields bin used) (λ a. a) (Err e) c.in-Ok-supported_extensions.ensures
    (failed {S = RuledParts} _ (λ a. a) (λ ruled. Ok (parts fields used ruled)) (λ a. a) e c.in-Err-fields_by_rules.ensures))

pub returns : goal.returns
unfolding asset
returns c =
    let bin = option_map (λ b. b.now) c.args.bin in
    let fields = c.in-Ok.fields in
    let used = map (λ s. s.now) c.in-Ok-supported_extensions.names.items in
    found (λ fields. extensions_on c.args.form (plain c.args.tree.now) bin fields) (λ a. a) c.gather.result c.in-Ok.ensures
    (found (λ used. rules_on fields bin used) (λ a. a) c.gather.result c.in-Ok-supported_extensions.ensures
    (found (λ ruled. Ok (parts fields used ruled)) (λ a. a) c.gather.result c.in-Ok-fields_by_rules.ensures
    (subst (λ ns. Answers (Ok (parts fields (map (λ s. s.now) ns) c.in-Ok-fields_by_rules.ruled)) (λ a. a) c.gather.result) c.deref.ensures.value c.gather.ensures)))
