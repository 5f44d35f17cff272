-- What the loops of `read_all` and `write_all` keep.
use Rattle.std.proofs.Common.{◌≡◌, ℕ, ◌+◌, ◌-◌, ◌<◌, ◌≤◌, List, ◌++◌, length, take, drop, Bool, true, false, nat_lt, IsSome, None, Some, MatchBool, refl, sym, ap, subst, ◌∙◌, append_assoc, length-append, take-append-drop, arith, rules}
use Rattle.std.proofs.lemmas.List.{take_rest}
use Rattle.std.specs.declared.option.Option.{Option}
use Rattle.std.specs.Io.KnownBytes.{Consumes, Appends}
use Rattle.std.proofs.KnownBytes.{Consumes-trans, Appends-trans}
use Rattle.gp_host.specs.Source.{SourceAt}
use Rattle.gp_host.specs.Sink.{SinkAt, StillTells, Stays, Becomes}
use Rattle.gp_host.specs.Reading.{Refuses}
use Rattle.gp_host.specs.declared.reading.ReadRefusal.TheVariants.{TooLarge, Memory}

-- these bytes were taken so far, each by a call that took at least one
pub record Taken (limit : ℕ) (before now : SourceAt) (bytes : List ℕ) : Type 0 where
  pub lost : Consumes before.left now.left bytes
  pub fits : length bytes ≤ limit
  pub turns : now.calls ≤ before.calls + length bytes
  pub kept : now.faults ≡ before.faults

-- a front was written so far, and the rest is to come
pub record Written (before now : SinkAt) (all rest : List ℕ) : Type 0 where
  pub front : List ℕ
  pub split : all ≡ front ++ rest
  pub grown : Appends before.held now.held front
  pub tells : StillTells before.settled now.settled
  pub kept : now.faults ≡ before.faults

StillTells-after_write : (before mid now : Option Bool) (some : Bool) → StillTells before mid → MatchBool some (Becomes mid now false) (Stays mid now) → StillTells before now
StillTells-after_write None mid now some p q = tt
StillTells-after_write (Some b) None now some p q = grind arith
StillTells-after_write (Some b) (Some m) now true p q = subst IsSome (sym q) refl
StillTells-after_write (Some b) (Some m) now false p q = subst IsSome (sym q) refl

-- a write that took n bytes of the rest
pub written_more : (before mid now : SinkAt) (all rest : List ℕ) (n : ℕ) → Written before mid all rest → Appends mid.held now.held (take n rest)
    → MatchBool (nat_lt 0 n) (Becomes mid.settled now.settled false) (Stays mid.settled now.settled) → now.faults ≡ mid.faults
    → Written before now all (take (length rest - n) (drop n rest))
written_more before mid now all rest n so_far grown settled kept = record {
  front = so_far.front ++ take n rest;
  split = so_far.split ∙ ap (λ l. so_far.front ++ l) (sym (take-append-drop n rest)) ∙ sym (append_assoc so_far.front (take n rest) (drop n rest)) ∙ ap (λ l. (so_far.front ++ take n rest) ++ l) (sym (take_rest rest n));
  grown = Appends-trans _ _ _ _ _ so_far.grown grown;
  tells = StillTells-after_write _ _ _ _ so_far.tells settled;
  kept = kept ∙ so_far.kept;
}

-- a piece that was taken after the bytes so far, and makes them too many
pub refused_many : (limit : ℕ) (before mid now : SourceAt) (bytes piece : List ℕ) → Taken limit before mid bytes → Consumes mid.left now.left piece
    → limit - length bytes < length piece → length piece ≤ limit + 1 - length bytes → now.calls ≤ mid.calls + 1 → Refuses limit before now TooLarge
refused_many limit before mid now bytes piece so_far more many most turn =
    let long = length-append bytes piece in
    let fits = so_far.fits in
    let turns = so_far.turns in
    record { no_turn = (λ _. omega arith); taken = bytes ++ piece; lost = Consumes-trans _ _ _ _ _ so_far.lost more; too_large = (λ _. omega arith, λ _. refl); no_more = omega arith }

-- a piece for which there was no memory
pub refused_memory : (limit : ℕ) (before mid now : SourceAt) (bytes piece : List ℕ) → Taken limit before mid bytes → Consumes mid.left now.left piece
    → length piece ≤ limit - length bytes → Refuses limit before now Memory
refused_memory limit before mid now bytes piece so_far more few =
    let long = length-append bytes piece in
    let fits = so_far.fits in
    record { no_turn = (λ is. search rules); taken = bytes ++ piece; lost = Consumes-trans _ _ _ _ _ so_far.lost more; too_large = (λ is. search rules, λ many. absurd (let no : ⊥ = omega arith in no)); no_more = omega arith }
