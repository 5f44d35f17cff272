use Rattle.std.proofs.Common.{◌≡◌, ◌<◌, ◌+◌, ◌*◌, ◌∷◌, arith, ap, append_assoc, length}
use Rattle.gp_groups.specs.WrittenTriangles.{encoded_triangles}
use Rattle.gp_index.specs.Encoding.{bytes_of, standing_of}
use Rattle.gp_index.proofs.ListsBack.{in_four, in_two}
use Rattle.gp_index.proofs.Writing.{all_written, first_pieces, next_bytes, next_codes}
use Rattle.gp_index.proofs.encoder.encode_triangles.Goals as goal

pub triangles-init : goal.triangles-init
triangles-init c =
    let first = first_pieces c.args.indices.now c.new.result c.new-2.result c.new.ensures c.new-2.ensures in
    record {
      codes = rw (c.in_ok-push.ensures.items, c.in_ok-bytes.ensures.items) (ap (λ p. 0xE1 ∷ p.0) first);
      behind = rw c.new-behind.ensures.items (ap (λ p. p.1) first);
      numbers = (omega arith, omega arith);
    }

pub triangles-preserved : goal.triangles-preserved
triangles-preserved c =
    let h : 3 * c.triangles.k + 2 < length c.args.indices.now = omega (arith, c.triangles-test.true) in
    record {
      codes = next_codes _ c.args.indices.now c.triangles.bytes.items c.push-in-triangles.new.self.items c.triangles.k c.piece-code.result.0 (bytes_of c.piece-code.result.1) (standing_of c.triangles.encoder) (standing_of c.piece-code.new.self) h c.piece-code.ensures.value c.in_ok-push-2.ensures.items c.triangles.invariant.codes;
      behind = next_bytes _ c.args.indices.now c.triangles.behind.items c.append_to.new.out.items c.triangles.k c.piece-code.result.0 (bytes_of c.piece-code.result.1) (standing_of c.triangles.encoder) (standing_of c.piece-code.new.self) h c.piece-code.ensures.value c.in_ok-append_to.ensures c.triangles.invariant.behind;
      numbers = c.piece-code.ensures.numbers;
    }

pub returns : goal.returns
returns c =
    let list = c.args.indices.now in
    let bytes = c.extend_from_slice-2.new.self.items in
    let value : bytes ≡ encoded_triangles list =
    rw (c.in_ok-extend_from_slice-2.ensures.items, c.deref.ensures.value, c.in_ok-extend_from_slice.ensures.items, ← append_assoc)
    (all_written list c.triangles.bytes.items c.triangles.behind.items c.triangles.k (standing_of c.triangles.encoder) (omega (arith, c.triangles-test.false, c.requires.triangles)) c.triangles.invariant.codes c.triangles.invariant.behind) in
    record {
      value = value;
      in_four_bytes = in_four list bytes c.requires.triangles c.requires.range value;
      in_two_bytes = λ small. in_two list bytes c.requires.triangles small value;
    }
