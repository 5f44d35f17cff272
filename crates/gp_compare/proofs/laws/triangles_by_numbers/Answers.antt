use Rattle.std.specs.Prelude.{ℕ, List, [], map, nat_eq}
use Rattle.std.proofs.Common.{◌≡◌, subst}
use Rattle.gp_moving.specs.Triangles.{Vertex, Agree, triples}
use Rattle.gp_compare.proofs.Reading.{numbers_agree, vertices_agree, read_by, reads_apart, first_read, second_read}
use Rattle.gp_compare.proofs.laws.triangles_by_numbers.Goals as goal

pub returns : goal.returns
returns c = λ same decides first second vertices others one stand.
    let reads : ℕ → Vertex = read_by [] first second vertices others one stand in
    let apart = reads_apart [] first second vertices others one stand in
    let e : map reads first ≡ vertices = first_read [] first second vertices others one stand in
    let f : map reads second ≡ others = second_read [] first second vertices others one stand in
    subst (λ (vs : List Vertex). (Agree same (triples vs) (triples others) → Agree nat_eq (triples first) (triples second)) × (Agree nat_eq (triples first) (triples second) → Agree same (triples vs) (triples others))) e
    (subst (λ (us : List Vertex). (Agree same (triples (map reads first)) (triples us) → Agree nat_eq (triples first) (triples second)) × (Agree nat_eq (triples first) (triples second) → Agree same (triples (map reads first)) (triples us))) f
    (numbers_agree same decides first second reads apart, vertices_agree same decides first second reads apart))
