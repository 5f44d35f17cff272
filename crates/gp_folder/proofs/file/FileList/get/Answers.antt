use Rattle.std.proofs.Common.{◌≡◌, List, get_or, sym, ap, ◌∙◌, None, Some}
use Rattle.std.specs.List.{position}
use Rattle.gp_folder.specs.declared.file.File.{File}
use Rattle.gp_folder.specs.Files.{has_name}
use Rattle.gp_folder.proofs.Named.{bytes_found, bytes_missing}
use Rattle.gp_folder.proofs.file.FileList.get.Goals as goal

pub returns-in_err-place : goal.returns-in_err-place
returns-in_err-place c =
    let held = sym c.self.view_is ∙ sym c.deref.ensures.value in
    let none : position (has_name c.args.name.now) c.args.self.now ≡ None = ap (λ l. position (has_name c.args.name.now) l) held ∙ sym c.place_of.ensures ∙ c.in_err-place.was in
    rw c.from_residual.ensures (sym (bytes_missing c.args.name.now c.args.self.now none))

pub returns : goal.returns
returns c =
    let name = c.args.name.now in
    let file = c.index.result.now in
    let held = sym c.self.view_is ∙ sym c.deref.ensures.value in
    let at : position (has_name name) c.args.self.now ≡ Some c.in_ok-place.place = ap (λ l. position (has_name name) l) held ∙ sym c.place_of.ensures ∙ c.in_ok-place.was in
    let there = c.index.ensures ∙ ap (λ l. get_or l c.in_ok-place.place file) c.self.view_is in
    ap Some (c.as_slice.ensures ∙ ap (λ (f : File). f.bytes) there) ∙ sym (bytes_found name c.args.self.now c.in_ok-place.place file at)
