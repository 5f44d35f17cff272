-- Lists of accessors of indices, number by number.
use Rattle.std.proofs.Common.{◌≡◌, ℕ, ◌+◌, ◌<◌, ◌==◌, Bool, true, false, ◌&&◌, if◌then◌else◌, List, ◌++◌, length, map, drop, get_or, Option, Some, None, refl, sym, ap, ◌∙◌, subst, append_assoc}
use Rattle.std.specs.Prelude.{slice_get, option_map, All}
use Rattle.std.proofs.lemmas.List.{drop_more}
use Rattle.gp_rules.specs.declared.accessing.Accessor.{Accessor}
use Rattle.gp_asset.specs.Asset.{AssetParts}
use Rattle.gp_elements.specs.Elements.{number_of, resolved_at}
use Rattle.gp_elements.specs.Held.{HasEvery, contents_of, IsSound}
use Rattle.gp_alias.specs.Movable.{items_of, has_corner_shape, has_resolved}
use Rattle.gp_alias.specs.Records.{AreNumbers}
use Rattle.gp_alias.proofs.Resolved.{resolved_is, some_resolved, kept_if}
use Rattle.gp_alias.proofs.ElementNumbers.{are_numbers}
use Rattle.gp_alias.proofs.RecordsOf.{sound_of}
use Rattle.gp_analyse.specs.Costs.{corners_in, IsIndexList, kept, thinned}

-- ---- which numbers they are

listed : (resolved : Bool) (items : List (List ℕ)) → option_map (map number_of) (kept_if resolved items) ≡ (if resolved then Some (map number_of items) else None)
listed true items = refl
listed false items = refl

pub corner_shape : (a : AssetParts) (contents : List (List ℕ)) (at : ℕ) (acc : Accessor) (found : Option (List (List ℕ))) → slice_get a.accessors at ≡ Some acc → has_corner_shape acc ≡ true → found ≡ resolved_at a contents at
    → option_map (map number_of) found ≡ corners_in a contents acc
corner_shape a contents at acc found there passes is =
    ap (option_map (map number_of)) (is ∙ resolved_is a contents at acc there)
    ∙ listed (has_resolved contents acc) (items_of a contents acc)
    ∙ sym (ap (λ b. if b && has_resolved contents acc then Some (map number_of (items_of a contents acc)) else None) passes)

pub is_index_list : (a : AssetParts) (held : List (Option (List ℕ))) (at : ℕ) (acc : Accessor) (items : List (List ℕ)) (found : Option (List (List ℕ))) → HasEvery a.views held → All (IsSound a.views) a.accessors
    → slice_get a.accessors at ≡ Some acc → has_corner_shape acc ≡ true → found ≡ resolved_at a (contents_of held) at → found ≡ Some items → IsIndexList a (contents_of held) (record { accessor = acc; elements = items })
is_index_list a held at acc items found every all there passes is some =
    let sound = sound_of a at acc all there in
    let one = some_resolved a (contents_of held) at acc items found there is some in
    record {
      sound = sound;
      resolved = one.0;
      elements = one.1;
      numbers = subst AreNumbers (sym one.1) (are_numbers a held acc every sound passes);
    }

-- ---- all but each 0 behind a 0

pub thin_more : (numbers whole so_far now : List ℕ) (at number : ℕ) (behind : Bool) → at < length numbers → get_or numbers at 0 ≡ number → whole ≡ so_far ++ thinned behind (drop at numbers) → now ≡ so_far ++ kept behind number
    → whole ≡ now ++ thinned (number == 0) (drop (at + 1) numbers)
thin_more numbers whole so_far now at number behind within is invariant put =
    invariant
    ∙ ap (λ xs. so_far ++ thinned behind xs) (drop_more numbers at 0 within)
    ∙ ap (λ n. so_far ++ (kept behind n ++ thinned (n == 0) (drop (at + 1) numbers))) is
    ∙ sym (append_assoc so_far (kept behind number) (thinned (number == 0) (drop (at + 1) numbers)))
    ∙ sym (ap (λ xs. xs ++ thinned (number == 0) (drop (at + 1) numbers)) put)
