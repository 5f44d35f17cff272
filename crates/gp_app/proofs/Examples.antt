-- Words and lines, by computing.
use Rattle.std.proofs.Common.{◌≡◌, [], ◌∷◌, codes, decimal, replicate, None, Some, refl, arith}
use Rattle.std.proofs.lemmas.Fmt.{decimal_digit}
use Rattle.itoa.proofs.Decimal.{decimal_two}
use Rattle.gp_glb.specs.declared.fault.GlbFault.TheVariants.{Chunk}
use Rattle.gp_json.specs.declared.fault.JsonFault.TheVariants.{DuplicateKey}
use Rattle.gp_asset.specs.declared.refusal.Refusal.TheVariants.{Glb, Json}
use Rattle.gp_app.specs.Words.{command}
use Rattle.gp_app.specs.Lines.{done_line, packed_line, line_of_refusal}
use Rattle.gp_app.specs.Status.{exit_code}
use Rattle.gp_app.specs.declared.commands.Command.TheVariants.{Pack, Unpack, Analyse, Sample, Lists, Meshlets}
use Rattle.gp_app.specs.declared.status.Status.TheVariants.{Done, Memory}

pack_is_a_command : command (codes "pack" ∷ []) ≡ Some Pack
unfolding command
pack_is_a_command = refl

unpack_is_a_command : command (codes "unpack" ∷ []) ≡ Some Unpack
unfolding command
unpack_is_a_command = refl

analyse_is_a_command : command (codes "analyse" ∷ []) ≡ Some Analyse
unfolding command
analyse_is_a_command = refl

lists_is_a_command : command (codes "lists" ∷ []) ≡ Some Lists
unfolding command
lists_is_a_command = refl

meshlets_is_a_command : command (codes "meshlets" ∷ []) ≡ Some Meshlets
unfolding command
meshlets_is_a_command = refl

no_words_are_none : command [] ≡ None
unfolding command
no_words_are_none = refl

more_words_are_none : command (codes "pack" ∷ codes "x" ∷ []) ≡ None
unfolding command
more_words_are_none = refl

other_words_are_none : command (codes "Pack" ∷ []) ≡ None
unfolding command
other_words_are_none = refl

no_analysis_of_a_name : command (codes "analyse" ∷ codes "x" ∷ []) ≡ None
unfolding command
no_analysis_of_a_name = refl

a_sample_is_a_command : command (codes "sample" ∷ codes "12" ∷ []) ≡ Some (Sample 12)
unfolding command
a_sample_is_a_command = refl

the_largest_sample : command (codes "sample" ∷ codes "512" ∷ []) ≡ Some (Sample 512)
unfolding command
the_largest_sample = refl

no_larger_sample : command (codes "sample" ∷ codes "513" ∷ []) ≡ None
unfolding command
no_larger_sample = refl

no_empty_sample : command (codes "sample" ∷ codes "0" ∷ []) ≡ None
unfolding command
no_empty_sample = refl

no_leading_zero : command (codes "sample" ∷ codes "01" ∷ []) ≡ None
unfolding command
no_leading_zero = refl

no_sample_without_a_size : command (codes "sample" ∷ []) ≡ None
unfolding command
no_sample_without_a_size = refl

-- 72 bytes of output for 76 bytes of input
packed_done : packed_line (record { glb = replicate 72 0; views = 0; packed = 0 }) 76 ≡ codes "packed views 0 of 0 in 76 out 72\n"
unfolding done_line
packed_done =
    let none : decimal 0 ≡ codes "0" = decimal_digit 0 (omega arith) in
    let taken : decimal 76 ≡ codes "76" = decimal_two 76 (omega arith) (omega arith) in
    let written : decimal 72 ≡ codes "72" = decimal_two 72 (omega arith) (omega arith) in
    rw (none, taken, written) refl

chunk_line : line_of_refusal (Glb (Chunk 10)) ≡ codes "refused 6 Chunk 10\n"
unfolding line_of_refusal
chunk_line = let number : decimal 10 ≡ codes "10" = decimal_two 10 (omega arith) (omega arith) in rw number refl

keys_line : line_of_refusal (Json DuplicateKey) ≡ codes "refused 11 DuplicateKey\n"
unfolding line_of_refusal
keys_line = refl

done_code : exit_code Done ≡ 0
done_code = refl

memory_code : exit_code Memory ≡ 4
memory_code = refl
